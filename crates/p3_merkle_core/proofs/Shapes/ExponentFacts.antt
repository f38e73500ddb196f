-- Exponents with the next lower one that a height has: what a step from there is, and whether a matrix has the exponent
-- that it leads to; the bits that tell which exponents there are; and the steps that are kept level by level.
use Rattle.std.proofs.Common.{◌≡◌, ◌≢◌, ℕ, zero, suc, ◌+◌, ◌-◌, ◌*◌, ◌/◌, ◌%◌, ◌^◌, ◌<◌, ◌≤◌, nat_lt, cond, bit_or}
use Rattle.std.proofs.Common.{ap, ◌∙◌, arith, inl, inr, ◌&&◌, ◌||◌, true, false, Bool, [], ◌∷◌, refl, sym, eqb}
use Rattle.std.proofs.Common.{List, length, get_or, get_or-take, take, set, map, Option, None, Some}
use Rattle.std.proofs.lemmas.Bool.{cases_lt, lt-ltb, le-ltb, cases_Bool, cases_eq, eq-eqb, eqb-true, ne_eqb, or_parts}
use Rattle.std.proofs.lemmas.Bool.{or_right, true≢false}
use Rattle.std.proofs.lemmas.Grind.{common_steps}
use Rattle.std.proofs.lemmas.List.{take_more_set, take_more}
use Rattle.std.proofs.lemmas.List.FromFn.{map-range_with_len_more, get_or-map-range_with_len}
use Rattle.std.proofs.lemmas.Nat.{div-add-mod', pow_below}
use Rattle.std.proofs.Math.Nat.{mod-eq_of_lt, pow-suc, suc-mul}
use Rattle.std.proofs.Math.Pow.{pow_mono}
use Rattle.std.proofs.lemmas.Nat.Bits.{bit_at-zero, bit_at_above, bit_at_cat_high, bit_at_cat_low}
use Rattle.std.proofs.lemmas.Nat.Bits.{bit_at_set_other, bit_at_set_same}
use Rattle.std.proofs.lemmas.List.Folds.{list_any_more}
use Rattle.std.proofs.Math.Bool.{or-false}
use Rattle.std.specs.Int.{bit_at, w64}
use Rattle.std.specs.List.{list_any, range_with_len}
use Rattle.std.specs.Option.{is_some, option_eq, IfNone, IfSome, MatchOption}
use Rattle.p3_merkle_core.specs.Geometry.{exponent, Shape, heights, is_bridge, layer_exponent}
use Rattle.p3_merkle_core.specs.Inner.Exponents.{has_exponent, next_lower_exponent, AreMarked}
use Rattle.p3_merkle_core.specs.Inner.Schedules.{level_step}
use Rattle.p3_merkle_core.specs.declared.schedule.LevelKind.{LevelKind}
use Rattle.p3_merkle_core.proofs.Shapes.StepFacts.{whole_step_falls, next_exponent, IsAt, at_more}

-- ---- the next lower exponent

-- no height has an exponent from a on that is below x
abbrev pub HasNone : List ℕ → ℕ → ℕ → Type 0
HasNone hs a x = (e : ℕ) → a ≤ e → e < x → has_exponent hs e ≡ false

-- e is the greatest exponent below x that a height has
pub record IsNextLower (x : ℕ) (hs : List ℕ) (e : ℕ) : Type 0 where
  pub below : e < x
  pub had : has_exponent hs e ≡ true
  pub none_over : HasNone hs (suc e) x

-- where no height has one from y on below x, the next lower one of x is that of y
pub next_stays : (x y : ℕ) (hs : List ℕ) → y ≤ x → HasNone hs y x → next_lower_exponent y hs ≡ next_lower_exponent x hs
next_stays zero y hs down none =
    let same : y ≡ 0 = omega (arith, down) in
    ap (λ z. next_lower_exponent z hs) same
next_stays (suc x) y hs down none = elim (cases_eq y (suc x)) [
  | inl same ↦ ap (λ z. next_lower_exponent z hs) same
  | inr other ↦
      next_stays x y hs (omega (arith, down, other)) (λ e above below. none e above (omega (arith, below)))
      ∙ sym (ap (λ b. cond b (Some x) (next_lower_exponent x hs)) (none x (omega (arith, down, other)) (omega arith)))
]

-- the greatest one is the next lower one
pub is_next : (x : ℕ) (hs : List ℕ) (e : ℕ) → IsNextLower x hs e → next_lower_exponent x hs ≡ Some e
is_next x hs e next =
    sym (next_stays x (suc e) hs (omega (arith, next.below)) next.none_over)
    ∙ ap (λ b. cond b (Some e) (next_lower_exponent e hs)) next.had

-- and the next lower one is the greatest
pub next_found : (x : ℕ) (hs : List ℕ) (e : ℕ) → next_lower_exponent x hs ≡ Some e → IsNextLower x hs e
next_found zero hs e is = cc
next_found (suc x) hs e is = elim (cases_Bool (has_exponent hs x)) [
  | inl t ↦
      let same : x ≡ e = let at = rw t at is in cc in
      record {
        below = omega (arith, same);
        had = rw (← same) t;
        none_over = λ j above below. absurd (omega (arith, above, below, same));
      }
  | inr f ↦
      let rest = next_found x hs e (rw f at is) in
      record {
        below = omega (arith, rest.below);
        had = rest.had;
        none_over = λ j above below. elim (cases_eq j x) [
          | inl same ↦ rw same f
          | inr other ↦ rest.none_over j above (omega (arith, below, other))
        ];
      }
]

-- so x is above 0 where there is one
pub some_below : (x : ℕ) (o : Option ℕ) (hs : List ℕ) → o ≡ next_lower_exponent x hs → is_some o ≡ true → 0 < x
some_below zero o hs is some = absurd (true≢false (sym some ∙ ap is_some is))
some_below (suc x) o hs is some = omega arith

-- what holds no value
pub none_left : (o : Option ℕ) → is_some o ≡ false → o ≡ None
none_left None none = refl
none_left (Some e) none = absurd (true≢false none)

-- where there is none, no height has one
pub none_found : (x : ℕ) (hs : List ℕ) → next_lower_exponent x hs ≡ None → HasNone hs 0 x
none_found zero hs is e above below = absurd (omega (arith, below))
none_found (suc x) hs is e above below = elim (cases_Bool (has_exponent hs x)) [
  | inl t ↦ let at = rw t at is in cc
  | inr f ↦ elim (cases_eq e x) [
    | inl same ↦ rw same f
    | inr other ↦ none_found x hs (rw f at is) e above (omega (arith, below, other))
  ]
]

-- ---- the bits that tell which exponents there are

-- bit x, as it is computed
pub bit_of : (x : ℕ) → x < 64 → 1 * 2 ^ x % 2 ^ 64 ≡ 2 ^ x
bit_of x small = mod-eq_of_lt (omega (arith, pow_below x 64 small)) ∙ omega arith

-- the bits below x are those of the number
pub low_bits : (n x e : ℕ) → e < x → bit_at (n % 2 ^ x) e ≡ bit_at n e
low_bits n x e below =
    sym (bit_at_cat_low (n / 2 ^ x) x (n % 2 ^ x) e below) ∙ ap (λ z. bit_at z e) (div-add-mod' n (2 ^ x))

-- the highest bit below x is that of the next lower exponent
pub highest_bit : (hs : List ℕ) (bits x n : ℕ) (top : Option ℕ) → AreMarked hs bits → x ≤ 64 → n < 2 ^ x →
    ((e : ℕ) → e < x → bit_at n e ≡ bit_at bits e) → IfNone top (n ≡ 0) → IfSome top (λ k. 2 ^ k ≤ n) →
    IfSome top (λ k. n < 2 * 2 ^ k) → top ≡ next_lower_exponent x hs
highest_bit hs bits x n None marks small low same no_bit over under =
    next_stays x 0 hs (omega arith) (λ e above below.
    sym (marks.marked e (omega (arith, below, small)))
    ∙ ap (λ b. eqb b 1) (sym (same e below) ∙ ap (λ z. bit_at z e) no_bit ∙ bit_at-zero e))
highest_bit hs bits x n (Some k) marks small low same no_bit over under =
    let told : (e : ℕ) → e < x → has_exponent hs e ≡ eqb (bit_at n e) 1 = λ e below.
    sym (marks.marked e (omega (arith, below, small))) ∙ ap (λ b. eqb b 1) (sym (same e below)) in
    let below : k < x = elim (cases_lt k x) [
      | inl below ↦ below
      | inr above ↦ absurd (omega (arith, over, low, pow_mono {i = x} {j = k} above))
    ] in
    let parts : n ≡ 1 * 2 ^ k + (n - 2 ^ k) = omega (arith, over) in
    let lowest : k - k ≡ 0 = omega arith in
    let set : bit_at n k ≡ 1 = ap (λ z. bit_at z k) parts
    ∙ bit_at_cat_high 1 k (n - 2 ^ k) k (omega (arith, under)) (omega arith)
    ∙ ap (bit_at 1) lowest in
    sym (is_next x hs k (record {
      below = below;
      had = told k below ∙ ap (λ b. eqb b 1) set;
      none_over = λ e above lower. told e lower
          ∙ ap (λ b. eqb b 1) (bit_at_above n (suc k) e (omega (arith, under, pow-suc 2 k)) above);
    }))

-- a bit that is not e changes nothing at e
pub without_bit : (b : Bool) (k e : ℕ) → k ≢ e → b ≡ (b || eqb k e)
without_bit b k e other = sym (ap (λ t. b || t) (ne_eqb k e other) ∙ or-false b)

-- a number in which bit k is set has that bit and those of before
pub with_bit : (m k e : ℕ) → k < 64 → eqb (bit_at (bit_or m (1 * 2 ^ k % 2 ^ 64)) e) 1 ≡ (eqb (bit_at m e) 1 || eqb k e)
with_bit m k e small = elim (cases_eq e k) [
  | inl same ↦
      ap (λ b. eqb b 1) (ap (bit_at (bit_or m (1 * 2 ^ k % 2 ^ 64))) same ∙ bit_at_set_same w64 m k small)
      ∙ sym (or_right _ _ (eq-eqb k e (sym same)))
  | inr other ↦
      ap (λ b. eqb b 1) (bit_at_set_other w64 m k small e other) ∙ without_bit (eqb (bit_at m e) 1) k e (λ same. other
      (sym same))
]

-- bits that tell the exponents of the first heights, with that of one more
pub one_more : (hs : List ℕ) (i k bits more : ℕ) → i < length hs → k ≡ exponent (get_or hs i 0) →
    AreMarked (take i hs) bits →
    ((e : ℕ) → e < 64 → eqb (bit_at more e) 1 ≡ (eqb (bit_at bits e) 1 || eqb k e)) → AreMarked (take (i + 1) hs) more
one_more hs i k bits more there own so_far step =
    record {
      marked = λ e small. step e small
          ∙ rw (own, so_far.marked e small) (sym (list_any_more (λ h. eqb (exponent h) e) hs i 0 there));
    }

-- ---- the step from a layer, as the code takes it

-- what a comparison with a value tells
pub is_value : (o : Option ℕ) (y : ℕ) → option_eq eqb o (Some y) ≡ true → o ≡ Some y
is_value None y is = absurd (true≢false (sym is))
is_value (Some x) y is = ap Some (eqb-true x y is)

pub is_no_value : (o : Option ℕ) (y : ℕ) → option_eq eqb o (Some y) ≡ false → o ≢ Some y
is_no_value o y is same = true≢false (sym (eq-eqb y y refl) ∙ (rw same at is))

-- whether a height's exponent lies strictly between a and x: whether a step from x to a would pass it
abbrev pub has_between : ℕ → ℕ → List ℕ → Bool
has_between a x hs = list_any (λ h. nat_lt a (exponent h) && nat_lt (exponent h) x) hs

-- none lies between where no height has one from a + 1 on below x
none_between : (a x : ℕ) (hs : List ℕ) → HasNone hs (suc a) x → has_between a x hs ≡ false
none_between a x [] none = refl
none_between a x (h ∷ hs) none =
    let parts : (e : ℕ) → suc a ≤ e → e < x → (eqb (exponent h) e ≡ false) × (has_exponent hs e ≡ false) =
    λ e above below. or_parts (eqb (exponent h) e) (has_exponent hs e) (none e above below) in
    let rest = none_between a x hs (λ e above below. (parts e above below).1) in
    elim (cases_lt a (exponent h)) [
      | inl over ↦
          elim (cases_lt (exponent h) x) [
            | inl under ↦
                let own = (parts (exponent h) over under).0 in
                absurd (true≢false (sym (eq-eqb (exponent h) (exponent h) refl) ∙ own))
            | inr above ↦ rw (lt-ltb a (exponent h) over, le-ltb (exponent h) x above) rest
          ]
      | inr low ↦ rw (le-ltb a (exponent h) low) rest
    ]

-- and one does where a height has it
one_between : (a x e : ℕ) (hs : List ℕ) → a < e → e < x → has_exponent hs e ≡ true → has_between a x hs ≡ true
one_between a x e [] over under had = had
one_between a x e (h ∷ hs) over under had =
    elim (cases_eq (exponent h) e) [
      | inl same ↦
          rw (
            lt-ltb a (exponent h) (omega (arith, same, over)),
            lt-ltb (exponent h) x (omega (arith, same, under)),
          ) refl
      | inr other ↦ or_right _ _ (one_between a x e hs over under (rw (ne_eqb (exponent h) e other) at had))
    ]

-- so no height has one where none lies between
gap : (a x : ℕ) (hs : List ℕ) → has_between a x hs ≡ false → HasNone hs (suc a) x
gap a x hs none e over under = elim (cases_Bool (has_exponent hs e)) [
  | inl t ↦ absurd (true≢false (sym (one_between a x e hs (omega (arith, over)) under t) ∙ none))
  | inr f ↦ f
]

-- the next lower exponent tells whether a step is a bridge step
bridge_told : (a x : ℕ) (o : Option ℕ) (hs : List ℕ) (b : Bool) → o ≡ next_lower_exponent x hs →
    MatchOption o (b ≡ false) (λ e. b ≡ nat_lt a e) → b ≡ has_between a x hs
bridge_told a x None hs b is test =
    let none = none_found x hs (sym is) in
    test ∙ sym (none_between a x hs (λ e above below. none e (omega arith) below))
bridge_told a x (Some n) hs b is test =
    let next = next_found x hs n (sym is) in
    elim (cases_lt a n) [
      | inl over ↦ test ∙ lt-ltb a n over ∙ sym (one_between a x n hs over next.below next.had)
      | inr under ↦
          test ∙ le-ltb a n under
          ∙ sym (none_between a x hs (λ e above below. next.none_over e (omega (arith, above, under)) below))
    ]

-- a step from the exponent x to y: b tells whether it is a bridge step
pub record IsStepUp (arity x y : ℕ) (hs : List ℕ) (b : Bool) : Type 0 where
  pub bridge : b ≡ has_between (x - exponent arity) x hs
  pub layer : y ≡ cond b (x - 1) (x - exponent arity)
  pub down : y < x
  pub none_over : HasNone hs (suc y) x

pub step_found : (arity x e a y : ℕ) (o : Option ℕ) (hs : List ℕ) (b : Bool) → 2 ≤ arity → 0 < x → e
    ≡ exponent arity → a ≡ x - e → o ≡ next_lower_exponent x hs → MatchOption o (b ≡ false) (λ n. b ≡ nat_lt a n) → y
    ≡ cond b (x - 1) a → IsStepUp arity x y hs b
step_found arity x e a y o hs b two some is_e is_a is_o test is_y =
    let target : a ≡ x - exponent arity = is_a ∙ ap (λ z. x - z) is_e in
    let bridge = rw target at (bridge_told a x o hs b is_o test) in
    let layer = is_y ∙ ap (cond b (x - 1)) target in
    let whole = whole_step_falls arity two in
    elim (cases_Bool b) [
      | inl t ↦
          let one = rw t at layer in
          record {
            bridge = bridge;
            layer = layer;
            down = omega (arith, one, some);
            none_over = λ j above below. absurd (omega (arith, one, above, below));
          }
      | inr f ↦
          let to = rw f at layer in
          record {
            bridge = bridge;
            layer = layer;
            down = omega (arith, to, whole, some);
            none_over = rw (← to) at (gap (x - exponent arity) x hs (sym bridge ∙ f));
          }
    ]

-- where no height has one between y and x, and y is not the next lower one, none has y either
pub none_from : (x y : ℕ) (hs : List ℕ) → y < x → HasNone hs (suc y) x → next_lower_exponent x hs ≢ Some y →
    HasNone hs y x
none_from x y hs down none_over other e above below = elim (cases_eq e y) [
  | inl same ↦ elim (cases_Bool (has_exponent hs e)) [
    | inl had ↦
        absurd (other (is_next x hs y (record { below = down; had = rw same at had; none_over = none_over })))
    | inr not_had ↦ not_had
  ]
  | inr apart ↦ none_over e (omega (arith, above, apart)) below
]

-- ---- the steps that are kept level by level

-- one that is read
pub kept_at : (s : Shape) (kept : List LevelKind) (n l : ℕ) (none : LevelKind) → take n kept
    ≡ map (level_step s) (range_with_len 0 n) → l < n → get_or kept l none ≡ level_step s l
kept_at s kept n l none all below = grind (arith, common_steps, get_or-take, get_or-map-range_with_len)

-- and whether it is a bridge step
pub bridge_at : (s : Shape) (kept : List LevelKind) (n l : ℕ) (none : LevelKind) → take n kept
    ≡ map (level_step s) (range_with_len 0 n) → l < n →
    (get_or kept l none).is_bridge ≡ is_bridge s (layer_exponent s l)
bridge_at s kept n l none all below = ap (λ (step : LevelKind). step.is_bridge) (kept_at s kept n l none all below)

-- one more that is written
pub kept_more : (s : Shape) (kept : List LevelKind) (n : ℕ) (more : LevelKind) → take n kept
    ≡ map (level_step s) (range_with_len 0 n) → n < length kept → more ≡ level_step s n →
    take (n + 1) (set kept n more) ≡ map (level_step s) (range_with_len 0 (n + 1))
kept_more s kept n more all room is = take_more_set kept n more room ∙ rw (all, is) refl
    ∙ sym (map-range_with_len_more (level_step s) 0 n n (omega arith))

-- what the walk finds at layer l, whose exponent is x: the next one has y
pub level_is : (s : Shape) (l x y : ℕ) (found : LevelKind) → x ≡ layer_exponent s l → found.is_bridge ≡ is_bridge s x →
    y ≡ cond (is_bridge s x) (x - 1) (x - exponent s.arity) →
    found.has_rows ≡ list_any (λ h. eqb (exponent h) y) (heights s) → found ≡ level_step s l
level_is s l x y found at bridge next rows = grind (arith, common_steps, next_exponent)

-- a whole step to a layer without rows
abbrev pub none : LevelKind
none = record { is_bridge = false; has_rows = false }

-- m steps are kept, and lead to the root
pub record IsWalked (s : Shape) (kept : List LevelKind) (m : ℕ) : Type 0 where
  pub at_root : IsAt s m 0
  pub all : take m kept ≡ map (level_step s) (range_with_len 0 m)

-- from layer n with the exponent x, under which no height has one, k whole steps are left; they are kept already
pub whole_steps : (s : Shape) (k n x m : ℕ) (kept : List LevelKind) → m ≡ n + k → 2 ≤ s.arity → m ≤ length kept →
    IsAt s n x → next_lower_exponent x (heights s) ≡ None → x ≤ k * exponent s.arity →
    ((j : ℕ) → j < k → j * exponent s.arity < x) → ((l : ℕ) → n ≤ l → l < length kept → get_or kept l none ≡ none) →
    take n kept ≡ map (level_step s) (range_with_len 0 n) → IsWalked s kept m
whole_steps s zero n x m kept is two room at last covers least rest all = grind (arith, common_steps)
whole_steps s (suc k) n x m kept is two room at last covers least rest all =
    let e = exponent s.arity in
    let hs = heights s in
    let some : 0 < x = omega (arith, least 0 (omega arith)) in
    let falls = whole_step_falls s.arity two in
    let none_below = none_found x hs last in
    let flat : is_bridge s x ≡ false = none_between (x - e) x hs (λ j above. none_below j (omega arith)) in
    let next : x - e ≡ cond (is_bridge s x) (x - 1) (x - e) = sym (ap (λ b. cond b (x - 1) (x - e)) flat) in
    let bare = none_below (x - e) (omega arith) (omega (arith, some, falls)) in
    let found : none ≡ level_step s n = level_is s n x (x - e) none at.at_x (sym flat) next (sym bare) in
    whole_steps s k (n + 1) (x - e) m kept (omega (arith, is)) two room
    (at_more s n x (x - e) two at some next)
    (next_stays x (x - e) hs (omega arith) (λ j above. none_below j (omega arith)) ∙ last)
    (omega (arith, covers, suc-mul k e))
    (λ j below. omega (arith, least (suc j) (omega (arith, below)), suc-mul j e))
    (λ l above. rest l (omega (arith, above)))
    (take_more kept n none (omega (arith, is, room))
    ∙ rw (all, rest n (omega arith) (omega (arith, is, room)), found) refl
    ∙ sym (map-range_with_len_more (level_step s) 0 n n (omega arith)))
