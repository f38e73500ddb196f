-- The runs between elements that pass a test, taken from the front.
use Rattle.std.proofs.Common.{◌≡◌, ◌<◌, Bool, true, false, cond, not, eqb, List, [], ◌∷◌, ◌++◌, length, get_or, drop}
use Rattle.std.proofs.Common.{refl, ap, ◌∙◌, arith, length-append}
use Rattle.std.proofs.Math.Dec.{eqb-suc-zero}
use Rattle.std.proofs.lemmas.List.Splits.{length-slice_split, slice_split-cons_no, slice_split-cons_yes}
use Rattle.std.proofs.lemmas.List.Splits.{slice_split_none, slice_split_at}
use Rattle.std.proofs.lemmas.List.Elements.{All-head, All-tail}
use Rattle.std.specs.Prelude.{All, filter}
use Rattle.std.specs.List.{slice_split, onto_first}
use Rattle.mmcs_engine.specs.Input.{runs_between}

-- whether a run has an element
abbrev pub is_run : {X : Type 0} → List X → Bool
is_run run = not (eqb (length run) 0)

-- a list is cut into a first part and others
pub record HasFirstPart {X : Type 0} (p : X → Bool) (xs : List X) : Type 0 where
  pub first : List X
  pub others : List (List X)
  pub cut : slice_split p xs ≡ first ∷ others

-- a list with an element, by its first
headed : {A : Type 0} (xs : List A) (d : A) → 0 < length xs → xs ≡ get_or xs 0 d ∷ drop 1 xs
headed [] d some = absurd (omega (arith, some))
headed (x ∷ xs) d some = refl

-- cutting gives at least one part
pub first_part : {X : Type 0} (p : X → Bool) (xs : List X) → HasFirstPart p xs
first_part p xs = record {
  first = get_or (slice_split p xs) 0 [];
  others = drop 1 (slice_split p xs);
  cut = headed (slice_split p xs) [] (omega (arith, length-slice_split p xs));
}

-- elements that do not pass join the first part of what follows them
joined_front : {X : Type 0} (p : X → Bool) (xs ys : List X) (r : HasFirstPart p ys) → All (λ x. p x ≡ false) xs →
    slice_split p (xs ++ ys) ≡ (xs ++ r.first) ∷ r.others
joined_front p [] ys r none = r.cut
joined_front p (x ∷ xs) ys r none =
    slice_split-cons_no p x (xs ++ ys) (All-head (λ y. p y ≡ false) x xs none)
    ∙ ap (onto_first x) (joined_front p xs ys r (All-tail (λ y. p y ≡ false) x xs none))

-- a list with an element is a run
pub is_run_cons : {X : Type 0} (xs : List X) → 0 < length xs → is_run xs ≡ true
is_run_cons [] short = absurd (omega (arith, short))
is_run_cons (x ∷ xs) long = ap not (eqb-suc-zero (length xs))

-- a run ends where an element passes
pub run_ends : {X : Type 0} (p : X → Bool) (xs : List X) (y : X) (ys : List X) → All (λ x. p x ≡ false) xs →
    0 < length xs → p y ≡ true → runs_between p (xs ++ y ∷ ys) ≡ xs ∷ runs_between p ys
run_ends p xs y ys none some passes =
    ap (filter is_run) (slice_split_at p xs y ys none passes)
    ∙ ap (λ b. cond b (xs ∷ runs_between p ys) (runs_between p ys)) (is_run_cons xs some)

-- an element that passes at the front is left out
pub run_skips : {X : Type 0} (p : X → Bool) (y : X) (ys : List X) → p y ≡ true → runs_between p (y ∷ ys)
    ≡ runs_between p ys
run_skips p y ys passes = ap (filter is_run) (slice_split-cons_yes p y ys passes)

-- elements that do not pass are one run
pub run_whole : {X : Type 0} (p : X → Bool) (xs : List X) → All (λ x. p x ≡ false) xs → 0 < length xs →
    runs_between p xs ≡ xs ∷ []
run_whole p xs none some = ap (filter is_run) (slice_split_none p xs none)
    ∙ ap (λ b. cond b (xs ∷ []) []) (is_run_cons xs some)

-- the first run, where elements that do not pass stand at the front
pub record HasFirstRun {X : Type 0} (p : X → Bool) (xs ys : List X) : Type 0 where
  pub more : List X
  pub others : List (List X)
  pub runs : runs_between p (xs ++ ys) ≡ (xs ++ more) ∷ others

pub first_run : {X : Type 0} (p : X → Bool) (xs ys : List X) → All (λ x. p x ≡ false) xs → 0 < length xs →
    HasFirstRun p xs ys
first_run p xs ys none some =
    let r = first_part p ys in
    let full : is_run (xs ++ r.first)
    ≡ true = is_run_cons (xs ++ r.first) (omega (arith, some, length-append xs r.first)) in
    record {
      more = r.first;
      others = filter is_run r.others;
      runs = ap (filter is_run) (joined_front p xs ys r none)
          ∙ ap (λ b. cond b ((xs ++ r.first) ∷ filter is_run r.others) (filter is_run r.others)) full;
    }
