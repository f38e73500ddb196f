-- Two walks of inclusion side by side: both end at one root.
use Rattle.std.proofs.Common.{◌≡◌, ◌≢◌, ℕ, ◌+◌, ◌/◌, ◌%◌, ◌^◌, ◌<◌, ◌≤◌, sym, ap, ◌∙◌, arith, inl, inr, List, [], ◌∷◌}
use Rattle.std.proofs.Common.{◌++◌, length, drop, get_or, Some, true, false, Vec, Global}
use Rattle.std.proofs.lemmas.Bool.Decides.{leb_tells, eqb_tells, nat_tests}
use Rattle.std.proofs.lemmas.Nat.Bits.{bit_at-trailing_zeros}
use Rattle.std.proofs.lemmas.List.{at_drop_more, at_drop_all, get_or_default, get_or-map}
use Rattle.std.specs.Prelude.{◌==◌, Option, ◌↔◌, Bool, Result, Ok, Err, IfOk, IsNone, IsOk}
use Rattle.std.specs.Cmp.Lexicographic.{bytes_decides}
use Rattle.std.specs.Result.{is_err}
use Rattle.std.specs.Int.{w64, trailing_zeros}
use Rattle.tlog.specs.Collisions.{entries_of}
use Rattle.tlog.specs.Fixed.{RootFixesEntry, RootFixesLeaf, RootFixesProof}
use Rattle.tlog.specs.Rfc9162.{Hash, inclusion_walk, is_left, leaf_hash, node_hash, path_of, root_of}
use Rattle.tlog.specs.Verdicts.{IsIncluded, is_same}
use Rattle.tlog.proofs.Entries.{halves_equal, length-entries}
use Rattle.tlog.proofs.Honest.{included}
use Rattle.tlog.proofs.Walks.{inclusion_ends, inclusion_left, inclusion_right, inclusion_stops}

-- where both walks stand: they lead to the root, and both values and the digests that are left are equal exactly if
-- both leaf hashes and all digests are
pub record Stand (hash : Hash) (leaf other_leaf : List ℕ) (P Q : List (List ℕ)) (root : List ℕ) (i fn sn : ℕ)
    (r s : List ℕ) : Type 0 where
  pub ends : inclusion_walk hash (drop i P) fn sn r ≡ Some (0, root)
  pub other_ends : inclusion_walk hash (drop i Q) fn sn s ≡ Some (0, root)
  pub same : r ≡ s → drop i P ≡ drop i Q → (leaf ≡ other_leaf) × (P ≡ Q)
  pub alike : leaf ≡ other_leaf → P ≡ Q → r ≡ s

module _ (hash : Hash) (P : List (List ℕ)) (i fn sn : ℕ) (r : List ℕ) {root : List ℕ} where
  not_zero : i < length P → inclusion_walk hash (drop i P) fn sn r ≡ Some (0, root) → 0 < sn
  not_zero h e = elim (eqb_tells sn 0) [
    | inl (t, z) ↦ let no = sym (inclusion_stops hash P i fn sn r h z) ∙ e in absurd cc
    | inr (f, other) ↦ omega arith
  ]

  at_end : length P ≤ i → inclusion_walk hash (drop i P) fn sn r ≡ Some (0, root) → (sn ≡ 0) × (r ≡ root)
  at_end h e =
      let both : ◌≡◌ {A = Option (ℕ × List ℕ)} (Some (sn, r)) (Some (0, root)) =
      sym (inclusion_ends hash P i fn sn r h) ∙ e in
      let pair : ◌≡◌ {A = ℕ × List ℕ} (sn, r) (0, root) = cc in (λ k. (pair k).0, λ k. (pair k).1)

module _ {hash : Hash} {leaf other_leaf : List ℕ} {P Q : List (List ℕ)} {root : List ℕ} {i fn sn : ℕ} {r s : List ℕ}
    (stand : Stand hash leaf other_leaf P Q root i fn sn r s) where
  -- the other proof is as long
  pub other_more : i < length P → (0 < sn) × (i < length Q)
  other_more h =
      let some = not_zero hash P i fn sn r h stand.ends in
      elim (leb_tells (length Q) i) [
        | inl (t, all) ↦ let e = (at_end hash Q i fn sn s all stand.other_ends).0 in absurd (omega arith)
        | inr (f, more) ↦ (some, omega arith)
      ]

  -- at the end both questions are one
  pub at_root : length P ≤ i → (leaf ≡ other_leaf) × (P ≡ Q)
  at_root h =
      let e = at_end hash P i fn sn r h stand.ends in
      elim (leb_tells (length Q) i) [
        | inr (f, more) ↦
            let some = not_zero hash Q i fn sn s (omega arith) stand.other_ends in let z = e.0 in absurd (omega arith)
        | inl (t, all) ↦
            let o = at_end hash Q i fn sn s all stand.other_ends in
            stand.same (e.1 ∙ sym o.1)
            (at_drop_all (λ (x : List (List ℕ)). x) P i h ∙ sym (at_drop_all (λ (x : List (List ℕ)). x) Q i all))
      ]

  -- a step up, from where the next digests are p and q
  module _ (p q : List ℕ) (h : i < length P) (at_p : p ≡ get_or P i p) (at_q : q ≡ get_or Q i q) where
    digest : p ≡ get_or P i []
    digest = at_p ∙ get_or_default P i p [] h

    other_digest : q ≡ get_or Q i []
    other_digest = at_q ∙ get_or_default Q i q [] (other_more h).1

    step : (up last : ℕ) (v w : List ℕ) → inclusion_walk hash (drop (i + 1) P) up last v ≡ Some (0, root) →
        inclusion_walk hash (drop (i + 1) Q) up last w ≡ Some (0, root) → (v ≡ w → (r ≡ s) × (p ≡ q)) →
        (r ≡ s → p ≡ q → v ≡ w) → Stand hash leaf other_leaf P Q root (i + 1) up last v w
    step up last v w ends other_ends apart again = record {
      ends = ends;
      other_ends = other_ends;
      same = λ e rest.
          let both = apart e in
          stand.same both.0
          (at_drop_more (λ (x : List (List ℕ)). x) P i [] h ∙ rw (← digest, both.1, other_digest, rest)
          (sym (at_drop_more (λ (x : List (List ℕ)). x) Q i [] (other_more h).1)));
      alike = λ e same. again (stand.alike e same)
          (digest ∙ ap (λ (x : List (List ℕ)). get_or x i []) same ∙ sym other_digest);
    }

    pub step_left : is_left fn sn ≡ true → (node_hash hash p r ≡ node_hash hash q s → (p ≡ q) × (r ≡ s)) →
        Stand hash leaf other_leaf P Q root (i + 1) (fn / 2 ^ trailing_zeros w64 fn / 2)
        (sn / 2 ^ trailing_zeros w64 fn / 2) (node_hash hash p r) (node_hash hash q s)
    step_left l apart =
        let both = other_more h in
        let z : (sn == 0) ≡ false = let some = both.0 in grind (arith, nat_tests) in
        step _ _ _ _ (rw digest (sym (inclusion_left hash P i fn sn r [] h z l) ∙ stand.ends))
        (rw other_digest (sym (inclusion_left hash Q i fn sn s [] both.1 z l) ∙ stand.other_ends))
        (λ e. let c = apart e in (c.1, c.0)) (λ e g. rw (e, g))

    pub step_right : is_left fn sn ≡ false → (node_hash hash r p ≡ node_hash hash s q → (r ≡ s) × (p ≡ q)) →
        Stand hash leaf other_leaf P Q root (i + 1) (fn / 2) (sn / 2) (node_hash hash r p) (node_hash hash s q)
    step_right l apart =
        let both = other_more h in
        let z : (sn == 0) ≡ false = let some = both.0 in grind (arith, nat_tests) in
        step _ _ _ _ (rw digest (sym (inclusion_right hash P i fn sn r [] h z l) ∙ stand.ends))
        (rw other_digest (sym (inclusion_right hash Q i fn sn s [] both.1 z l) ∙ stand.other_ends))
        apart (λ e g. rw (e, g))

-- the children of what is hashed for a node
pub children : (n : ℕ) (a b c d : List ℕ) → length a ≡ n → length c ≡ n → 1 ∷ (a ++ b) ≡ 1 ∷ (c ++ d) →
    (a ≡ c) × (b ≡ d)
children n a b c d la lc e = let rest : a ++ b ≡ c ++ d = cc in halves_equal n a b c d la lc rest

-- nodes are shifted by less than their bits
pub left_shift : (fn sn : ℕ) → fn < 2 ^ 64 → 0 < sn → is_left fn sn ≡ true → trailing_zeros w64 fn < 64
left_shift fn sn fits some l = elim (eqb_tells fn 0) [
  | inl (t, z) ↦
      let odd : (fn % 2 == 1) ≡ false = grind (arith, nat_tests) in
      let unlike : (fn == sn) ≡ false = grind (arith, nat_tests) in
      let no = rw (odd, unlike) at l in absurd cc
  | inr (f, other) ↦ (bit_at-trailing_zeros w64 fn (omega arith) fits).0
]

-- ---- under the root of entries

-- an entry, as the code reads it
pub leaf_at : (v : List (Vec ℕ Global)) (i : ℕ) (x : Vec ℕ Global) → i < length v → x ≡ get_or v i x →
    get_or (entries_of v) i [] ≡ x.items
leaf_at v i x h e =
    get_or-map (λ (entry : Vec ℕ Global). entry.items) v i x [] h
    ∙ ap (λ (entry : Vec ℕ Global). entry.items) (sym e)

-- beside the honest proof another leaf hash is accepted exactly if the leaf hash is not fixed
pub leaf_fixed : (hash : Hash) (v : List (Vec ℕ Global)) (index : ℕ) (leaf : List ℕ) (path : List (List ℕ))
    (expected : List ℕ) (honest : List (List ℕ)) (root : List ℕ) → index < length v →
    expected ≡ leaf_hash hash (get_or (entries_of v) index []) → honest ≡ path_of hash index (entries_of v) →
    root ≡ root_of hash (entries_of v) → leaf ≢ expected →
    RootFixesProof hash index (length v) leaf path expected honest root ↔ RootFixesLeaf hash (entries_of v) index leaf
    path
leaf_fixed hash v index leaf path expected honest root within e p r other =
    let len = length-entries v in (
      λ fixed small is.
          let shown : IsIncluded hash index (length v) expected honest root = record {
            within = within;
            ends = rw (e, p, r, ← len) (included hash (leaf_hash hash) (entries_of v) index [] (omega arith) small);
          } in
          (fixed (omega arith) (rw (r, ← len) is) shown).0 ∙ e,
      λ fixed small is honest_is. absurd (other (fixed (omega arith) (rw (r, ← len) at is) ∙ sym e)),
    )

-- with another leaf hash than that of the entry, the entry is another
pub entry_fixed : (hash : Hash) (D : List (List ℕ)) (index : ℕ) (entry leaf : List ℕ) (path : List (List ℕ)) →
    leaf ≡ leaf_hash hash entry → leaf ≢ leaf_hash hash (get_or D index []) →
    RootFixesLeaf hash D index leaf path ↔ RootFixesEntry hash D index entry path
entry_fixed hash D index entry leaf path e other = (
  λ fixed small is. absurd (other (fixed small (rw e is))),
  λ fixed small is. e ∙ ap (leaf_hash hash) (fixed small (rw e at is)),
)

-- a test that two byte strings are equal
pub unequal : (x y : List ℕ) (b : Bool) → b ≡ is_same x y → b ≡ false → x ≢ y
unequal x y b e f = λ same. let yes = (bytes_decides x y).1 same in absurd cc

-- what a verdict says, by the test that it is an error
pub accepted_by : {T E : Type 0} {P : Type 0} {b : Bool} (r : Result T E) → (IsOk r ↔ P) → b ≡ is_err r → b ≡ false → P
accepted_by (Ok x) both test off = both.0 search
accepted_by (Err x) both test off = absurd cc

pub refused_by : {T E : Type 0} {P : Type 0} {b : Bool} (r : Result T E) → (IsOk r ↔ P) → b ≡ is_err r → b ≡ true →
    P → ⊥
refused_by (Ok x) both test on is = absurd cc
refused_by (Err x) both test on is = absurd (let ok = both.1 is in cc)

-- a search for a collision that answers another question
pub same_none : {T E : Type 0} {P Q : Type 0} (r : Result (Option T) E) → (P ↔ Q) →
    IfOk r (λ found. IsNone found ↔ P) → IfOk r (λ found. IsNone found ↔ Q)
same_none (Ok found) both iff = (λ none. both.0 (iff.0 none), λ q. iff.1 (both.1 q))
same_none (Err e) both iff = iff
