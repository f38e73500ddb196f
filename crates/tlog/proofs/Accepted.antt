-- What is not refused is what the standard's algorithms accept.
use Rattle.std.proofs.Common.{◌≡◌, ℕ, suc, ◌<◌, ◌≤◌, List, [], ◌∷◌, length, Some, None, Bool, true, false}
use Rattle.std.proofs.Common.{refl, sym, ap, ◌∙◌, arith, inl, inr}
use Rattle.std.specs.Prelude.{not, Option, ◌==◌, nat_lt, Result, Ok, Err, IsOk, ◌↔◌, ◌⊎◌}
use Rattle.std.specs.Result.{result_err}
use Rattle.std.specs.Cmp.Lexicographic.{bytes_decides}
use Rattle.std.proofs.lemmas.Bool.Decides.{leb_tells, eqb_tells, nat_tests}
use Rattle.sha2.specs.Sha256.{compress, digest_bytes, first_words, hash_after, rounds, schedule, sha256}
use Rattle.tlog.specs.declared.hash.TheConstants.{EMPTY_ROOT}
use Rattle.tlog.specs.Rfc9162.{Hash, consistency_end}
use Rattle.tlog.specs.{Rfc9162.inclusion_end}
use Rattle.tlog.specs.Verdicts.{IsConsistent, IsIncluded, end_of_no_digests, consistency_end_refusal}
use Rattle.tlog.specs.Verdicts.{consistency_refusal}
use Rattle.tlog.specs.Verdicts.{growth_end, inclusion_end_refusal, inclusion_refusal, is_same, size_limit}
use Rattle.tlog.specs.declared.error.ProofError.{ProofError}

-- the root of nothing
pub nothing : EMPTY_ROOT ≡ sha256 []
unfolding first_words schedule rounds compress hash_after digest_bytes sha256
nothing = refl

-- tests by `!=`
pub different : (b : Bool) → true ≡ not b → b ≡ false
different true h = cc
different false h = refl

pub equal : (b : Bool) → false ≡ not b → b ≡ true
equal true h = refl
equal false h = cc

-- a byte string is the same as itself
same_as_itself : (x : List ℕ) → is_same x x ≡ true
same_as_itself x = (bytes_decides x x).1 refl

-- two tests
same_tells : (x y : List ℕ) → ((is_same x y ≡ true) × (x ≡ y)) ⊎ (is_same x y ≡ false)
same_tells x y = by (is_same x y) refl
  where
    by : (b : Bool) → is_same x y ≡ b → ((is_same x y ≡ true) × (x ≡ y)) ⊎ (is_same x y ≡ false)
    by true e = inl (e, (bytes_decides x y).0 e)
    by false e = inr e

-- ---- inclusion

pub inclusion_refused : (hash : Hash) (index size : ℕ) (leaf : List ℕ) (path : List (List ℕ)) (root : List ℕ)
    (end : Option (ℕ × List ℕ)) → size ≤ size_limit → index < size → inclusion_end hash index size leaf path ≡ end →
    inclusion_end_refusal end root ≡ inclusion_refusal hash index size leaf path root
unfolding inclusion_refusal
inclusion_refused hash index size leaf path root end small within e =
    let t : nat_lt size_limit size ≡ false = grind (arith, nat_tests) in
    let u : nat_lt index size ≡ true = grind (arith, nat_tests) in
    rw (t, inclusion_refusal, u, inclusion_refusal, e)

end_accepted : (end : Option (ℕ × List ℕ)) (root : List ℕ) → inclusion_end_refusal end root ≡ None →
    end ≡ Some (0, root)
end_accepted None root h = cc
end_accepted (Some (sn, r)) root h =
    elim (eqb_tells sn 0) [
      | inr (f, other) ↦ let g = rw (f, inclusion_end_refusal) at h in cc
      | inl (t, is) ↦ let g = rw (t, inclusion_end_refusal) at h in elim (same_tells r root) [
        | inl (same, e) ↦ rw (is, e)
        | inr other ↦ let f = rw (other, inclusion_end_refusal) at g in cc
      ]
    ]

pub inclusion_accepted : (hash : Hash) (index size : ℕ) (leaf : List ℕ) (path : List (List ℕ)) (root : List ℕ)
    (result : Result (Unit {0}) ProofError) →
    result_err result ≡ inclusion_refusal hash index size leaf path root →
    IsOk result ↔ ((size ≤ size_limit) × IsIncluded hash index size leaf path root)
unfolding inclusion_refusal
inclusion_accepted hash index size leaf path root (Ok ok) none = (
  λ _. elim (leb_tells (suc size_limit) size) [
    | inl (t, large) ↦ let g = rw (t, inclusion_refusal) at none in absurd cc
    | inr (f, small) ↦ elim (leb_tells (suc index) size) [
      | inl (y, within) ↦ (
        omega arith,
        record {
          within = omega arith;
          ends =
              end_accepted _ root (sym (rw (f, inclusion_refusal, y, inclusion_refusal) at none));
        },
      )
      | inr (n, past) ↦ let g = rw (f, inclusion_refusal, n, inclusion_refusal) at none in absurd cc
    ]
  ],
  λ _. search,
)
inclusion_accepted hash index size leaf path root (Err e) some = (
  λ no. absurd cc,
  λ (small, is).
      let g = some ∙ sym (inclusion_refused hash index size leaf path root _ small is.within is.ends) in
      let f = rw (same_as_itself root, inclusion_end_refusal) at g in absurd cc,
)

-- ---- consistency

pub consistency_refused : (hash : Hash) (old new : ℕ) (path : List (List ℕ)) (old_root new_root : List ℕ) →
    new ≤ size_limit → old ≤ new →
    consistency_end_refusal (growth_end hash old new path old_root new_root) old_root new_root
    ≡ consistency_refusal hash old new path old_root new_root
unfolding consistency_refusal
consistency_refused hash old new path old_root new_root small ordered =
    let t : nat_lt size_limit new ≡ false = grind (arith, nat_tests) in
    let u : nat_lt new old ≡ false = grind (arith, nat_tests) in
    rw (t, consistency_refusal, u, consistency_refusal)

both_accepted : (end : Option (ℕ × List ℕ × List ℕ)) (old_root new_root : List ℕ) →
    consistency_end_refusal end old_root new_root ≡ None → end ≡ Some (0, old_root, new_root)
both_accepted None old_root new_root h = cc
both_accepted (Some (sn, fr, sr)) old_root new_root h =
    elim (eqb_tells sn 0) [
      | inr (f, other) ↦ let g = rw (f, consistency_end_refusal) at h in cc
      | inl (t, is) ↦ let g = rw (t, consistency_end_refusal) at h in elim (same_tells fr old_root) [
        | inr other ↦ let f = rw (other, consistency_end_refusal) at g in cc
        | inl (same, e) ↦ let f = rw (same, consistency_end_refusal) at g in elim (same_tells sr new_root) [
          | inr unlike ↦ let q = rw (unlike, consistency_end_refusal) at f in cc
          | inl (alike, d) ↦ rw (is, e, d)
        ]
      ]
    ]

pub accepted_both : (old_root new_root : List ℕ) →
    consistency_end_refusal (Some (0, old_root, new_root)) old_root new_root ≡ None
accepted_both old_root new_root =
    rw (same_as_itself old_root, consistency_end_refusal, same_as_itself new_root, consistency_end_refusal)

-- the end between different sizes
pub grown_end : (hash : Hash) (old new : ℕ) (path : List (List ℕ)) (old_root new_root : List ℕ) → 0 < old → old < new →
    growth_end hash old new path old_root new_root ≡ consistency_end hash old new old_root path
unfolding growth_end
grown_end hash old new path old_root new_root some more =
    let f : (old == 0) ≡ false = grind (arith, nat_tests) in
    let g : (old == new) ≡ false = grind (arith, nat_tests) in rw (f, growth_end, g, growth_end)

-- the end from size 0
pub nothing_grows : (hash : Hash) (old new : ℕ) (path : List (List ℕ)) (old_root new_root : List ℕ) → old ≡ 0 →
    0 < new →
    length path ≡ 0 → growth_end hash old new path old_root new_root ≡ Some (0, hash [], new_root)
unfolding growth_end
nothing_grows hash old new [] old_root new_root z some none =
    let f : (new == 0) ≡ false = grind (arith, nat_tests) in rw (z, f, growth_end)
nothing_grows hash old new (c ∷ path) old_root new_root z some none = absurd (omega arith)

pub nothing_stays : (hash : Hash) (old new : ℕ) (path : List (List ℕ)) (old_root new_root : List ℕ) → old ≡ 0 →
    new ≡ 0 →
    length path ≡ 0 → growth_end hash old new path old_root new_root ≡ Some (0, hash [], hash [])
unfolding growth_end
nothing_stays hash old new [] old_root new_root z none e = rw (z, none)
nothing_stays hash old new (c ∷ path) old_root new_root z none e = absurd (omega arith)

-- no digests, and both roots
bare_tells : (path : List (List ℕ)) (fr sr a b : List ℕ) → end_of_no_digests path fr sr ≡ Some (0, a, b) →
    (path ≡ []) × (fr ≡ a) × (sr ≡ b)
bare_tells [] fr sr a b h =
    let e : ◌≡◌ {A = ℕ × List ℕ × List ℕ} (0, fr, sr) (0, a, b) = cc in
    (refl, ap (λ (p : ℕ × List ℕ × List ℕ). p.1) e, ap (λ (p : ℕ × List ℕ × List ℕ). p.2) e)
bare_tells (c ∷ path) fr sr a b h = absurd cc

-- the end is 0 and both roots exactly where the proof is consistent
from_end : (hash : Hash) (old new : ℕ) (path : List (List ℕ)) (old_root new_root : List ℕ) → old ≤ new →
    growth_end hash old new path old_root new_root ≡ Some (0, old_root, new_root) →
    IsConsistent hash old new path old_root new_root
unfolding growth_end
from_end hash old new path old_root new_root ordered end = record {
  ordered = ordered;
  from_nothing = λ z.
      let t : (old == 0) ≡ true = grind (arith, nat_tests) in
      let e = bare_tells path (hash []) _ old_root new_root (rw (t, growth_end) at end) in
      (e.0, sym e.1, λ none. let u : (new == 0) ≡ true = grind (arith, nat_tests) in sym (rw u at e.2));
  unchanged = λ p same.
      let f : (old == 0) ≡ false = grind (arith, nat_tests) in
      let g : (old == new) ≡ true = grind (arith, nat_tests) in
      let e = bare_tells path old_root old_root old_root new_root (rw (f, growth_end, g, growth_end) at end) in
      (e.0, e.2);
  grown = λ p l.
      let f : (old == 0) ≡ false = grind (arith, nat_tests) in
      let g : (old == new) ≡ false = grind (arith, nat_tests) in
      rw (f, growth_end, g, growth_end) at end;
}

to_end : (hash : Hash) (old new : ℕ) (path : List (List ℕ)) (old_root new_root : List ℕ) →
    IsConsistent hash old new path old_root new_root →
    growth_end hash old new path old_root new_root ≡ Some (0, old_root, new_root)
unfolding growth_end
to_end hash old new path old_root new_root is =
    elim (eqb_tells old 0) [
      | inl (t, z) ↦
          let e = is.from_nothing z in
          rw (t, growth_end, e.0, e.1) (elim (eqb_tells new 0) [
            | inl (u, none) ↦ rw (u, growth_end) (let d = e.2 none in rw d)
            | inr (g, other) ↦ rw (g, growth_end)
          ])
      | inr (f, other) ↦ elim (eqb_tells old new) [
        | inl (u, same) ↦ let e = is.unchanged (omega arith) same in rw (f, growth_end, u, growth_end, e.0, e.1)
        | inr (g, unlike) ↦
            let l : old < new = let o = is.ordered in omega arith in
            rw (f, growth_end, g, growth_end) (is.grown (omega arith) l)
      ]
    ]

pub consistency_accepted : (hash : Hash) (old new : ℕ) (path : List (List ℕ)) (old_root new_root : List ℕ)
    (result : Result (Unit {0}) ProofError) →
    result_err result ≡ consistency_refusal hash old new path old_root new_root →
    IsOk result ↔ ((new ≤ size_limit) × IsConsistent hash old new path old_root new_root)
unfolding consistency_refusal
consistency_accepted hash old new path old_root new_root (Ok ok) none = (
  λ _. elim (leb_tells (suc size_limit) new) [
    | inl (t, large) ↦ let g = rw (t, consistency_refusal) at none in absurd cc
    | inr (f, small) ↦ elim (leb_tells (suc new) old) [
      | inl (t, shrunk) ↦ let g = rw (f, consistency_refusal, t, consistency_refusal) at none in absurd cc
      | inr (g, ordered) ↦
          let e = rw (f, consistency_refusal, g, consistency_refusal) at none in (
            omega arith,
            from_end hash old new path old_root new_root (omega arith)
                (both_accepted _ old_root new_root (sym e)),
          )
    ]
  ],
  λ _. search,
)
consistency_accepted hash old new path old_root new_root (Err e) some = (
  λ no. absurd cc,
  λ (small, is).
      let g = some ∙ sym (consistency_refused hash old new path old_root new_root small is.ordered) in
      let f = rw (to_end hash old new path old_root new_root is, accepted_both old_root new_root) at g in absurd cc,
)
