-- Accepted proofs of consistency, as proofs of inclusion of the node where they begin.
use Rattle.std.proofs.Common.{◌≡◌, ◌≢◌, ℕ, ◌+◌, ◌-◌, ◌*◌, ◌/◌, ◌^◌, ◌<◌, ◌≤◌, refl, sym, ap, ◌∙◌, arith, inl, inr}
use Rattle.std.proofs.Common.{List, [], ◌∷◌, length, take, Some, true, false, Vec, Global}
use Rattle.std.proofs.lemmas.Bool.{cases_Bool}
use Rattle.std.proofs.lemmas.Bool.Decides.{eqb_tells}
use Rattle.std.proofs.lemmas.List.{length-take-le, take-map}
use Rattle.std.proofs.Math.Nat.{div-le_self, div-mul-le_self}
use Rattle.std.proofs.lemmas.Nat.{le-div, pow_pos}
use Rattle.std.proofs.lemmas.Nat.Bits.{bit_at-trailing_ones}
use Rattle.std.specs.Prelude.{Bool, Result, IsOk, ◌↔◌, ◌⊎◌}
use Rattle.std.specs.Result.{is_err}
use Rattle.std.specs.Int.{is_power_of_two, w64}
use Rattle.tlog.specs.Collisions.{RootsFixEntries, entries_of}
use Rattle.tlog.specs.Climbs.{ProofBeginsAt, climb_end}
use Rattle.tlog.specs.Rfc9162.{Hash, consistency_end, consistency_from, inclusion_walk, leaf_hash, proof_of, root_of}
use Rattle.tlog.specs.Verdicts.{IsConsistent, IsIncluded, is_same, size_limit}
use Rattle.tlog.specs.declared.error.ProofError.{ProofError}
use Rattle.tlog.specs.Fixed.{NewRootFixesProof, RootFixesProof, RootsFixPrefix}
use Rattle.tlog.proofs.Bits.{ones_whole}
use Rattle.tlog.proofs.Climbs.{as_inclusion}
use Rattle.tlog.proofs.Entries.{length-entries}
use Rattle.tlog.proofs.Honest.{end-at, honest_grown, root_of_none}
use Rattle.tlog.proofs.TwoWalks.{accepted_by, unequal}
use Rattle.tlog.proofs.Walks.{end_of}

module _ {hash : Hash} {old new : ℕ} {path : List (List ℕ)} {root new_root : List ℕ} where
  -- a proof with digests is between different sizes
  pub digests_grow : 0 < old → 0 < length path → IsConsistent hash old new path root new_root → old < new
  digests_grow some more is = elim (eqb_tells old new) [
    | inl (t, same) ↦ let e = ap length (is.unchanged some same).0 in absurd (omega arith)
    | inr (f, other) ↦ let o = is.ordered in omega arith
  ]

  -- one without digests is between equal sizes
  pub bare_unchanged : 0 < old → path ≡ [] → IsConsistent hash old new path root new_root →
      (old ≡ new) × (root ≡ new_root)
  bare_unchanged some none is = elim (eqb_tells old new) [
    | inl (t, same) ↦ (same, (is.unchanged some same).1)
    | inr (f, other) ↦
        let o = is.ordered in
        let z = (end_of (rw none at (is.grown some (omega arith)))).0 in absurd (omega arith)
  ]

  -- without digests in one, there are none in the other
  pub no_digests : {other_path : List (List ℕ)} {other_root : List ℕ} → (old ≡ 0) ⊎ (path ≡ []) →
      NewRootFixesProof hash old new root path other_root other_path new_root
  no_digests why small is other = elim (eqb_tells old 0) [
    | inl (t, z) ↦
        let a = is.from_nothing z in
        let b = other.from_nothing z in (a.1 ∙ sym b.1, a.0 ∙ sym b.0)
    | inr (f, some) ↦
        let none : path ≡ [] = elim why [ inl z ↦ absurd (omega arith) | inr e ↦ e ] in
        let same = bare_unchanged (omega arith) none is in
        let b = other.unchanged (omega arith) same.0 in (same.1 ∙ sym b.1, none ∙ sym b.0)
  ]

-- ---- the node where a proof begins

module _ {old : ℕ} {path : List (List ℕ)} {root : List ℕ} {layer node : ℕ} {value : List ℕ} {digests : List (List ℕ)}
    (b : ProofBeginsAt old path root layer node value digests) where
  -- it is the last whole one
  pub begins_whole : 0 < old → old ≤ 2 ^ 62 → (node + 1) * 2 ^ layer ≡ old
  begins_whole some small =
      let all = ones_whole (old - 1) (old - 1) (omega arith) (omega arith) in
      let back : old - 1 + 1 ≡ old = omega arith in
      rw (b.at_node, b.at_layer) (all ∙ back)

  pub begins_layer : old ≤ 2 ^ 62 → layer < 64
  begins_layer small = rw b.at_layer (bit_at-trailing_ones w64 (old - 1) (omega arith)).0

  -- it is within the new tree
  begins_within : (new : ℕ) → old ≤ new → node ≤ (new - 1) / 2 ^ layer
  begins_within new ordered =
      let low = div-mul-le_self (old - 1) (2 ^ layer) in
      rw b.at_node (le-div ((old - 1) / 2 ^ layer) (new - 1) (2 ^ layer) (pow_pos layer) (omega arith))

  -- the way up from it is the walk of the standard's algorithm
  pub begun : (hash : Hash) (new : ℕ) →
      climb_end hash layer node new value digests ≡ consistency_end hash old new root path
  begun hash new =
      let from : climb_end hash layer node new value digests ≡ consistency_from hash old new value digests =
      rw (b.at_node, b.at_layer) in
      elim (cases_Bool (is_power_of_two old)) [
        | inl e ↦ let all = b.all e in from ∙ rw (all.0, all.1) (whole path b.some e)
        | inr e ↦
            from ∙ sym (end-at hash old new root value digests false e)
            ∙ ap (consistency_end hash old new root) (sym (b.part e))
      ]
    where
      whole : (p : List (List ℕ)) → 0 < length p → is_power_of_two old ≡ true →
          consistency_from hash old new root p ≡ consistency_end hash old new root p
      whole [] some e = absurd (omega arith)
      whole (c ∷ p) some e = sym (end-at hash old new root c p true e)

  pub begun_end : {hash : Hash} {new : ℕ} {new_root : List ℕ} → 0 < old → IsConsistent hash old new path root new_root →
      climb_end hash layer node new value digests ≡ Some (0, root, new_root)
  begun_end some is = begun _ _ ∙ is.grown some (digests_grow some b.some is)

-- a way up is accepted as a proof of inclusion of its node
as_leaf : (hash : Hash) (new layer node : ℕ) (value : List ℕ) (digests : List (List ℕ)) (a b : List ℕ) →
    node ≤ (new - 1) / 2 ^ layer → climb_end hash layer node new value digests ≡ Some (0, a, b) →
    IsIncluded hash node ((new - 1) / 2 ^ layer + 1) value digests b
as_leaf hash new layer node value digests a b within e =
    let last : (new - 1) / 2 ^ layer + 1 - 1 ≡ (new - 1) / 2 ^ layer = omega arith in
    record {
      within = omega arith;
      ends = ap (λ (sn : ℕ). inclusion_walk hash digests node sn value) last
          ∙ as_inclusion hash digests node ((new - 1) / 2 ^ layer) value value 0 a b e;
    }

module _ {hash : Hash} {old new : ℕ} {path other_path : List (List ℕ)} {root other_root new_root : List ℕ}
    {layer node other_layer other_node : ℕ} {value other_value : List ℕ} {digests other_digests : List (List ℕ)}
    (b : ProofBeginsAt old path root layer node value digests)
    (c : ProofBeginsAt old other_path other_root other_layer other_node other_value other_digests) (some : 0 < old)
    (small : new ≤ size_limit) (is : IsConsistent hash old new path root new_root)
    (other : IsConsistent hash old new other_path other_root new_root) where
  paths : (value ≡ other_value) × (digests ≡ other_digests) → path ≡ other_path
  paths same = elim (cases_Bool (is_power_of_two old)) [
    | inl e ↦ sym (b.all e).1 ∙ same.1 ∙ (c.all e).1
    | inr e ↦ b.part e ∙ rw (same.0, same.1) (sym (c.part e))
  ]

  starts : (root ≡ other_root) × (path ≡ other_path) → (value ≡ other_value) × (digests ≡ other_digests)
  starts same = elim (cases_Bool (is_power_of_two old)) [
    | inl e ↦ ((b.all e).0 ∙ same.0 ∙ sym (c.all e).0, (b.all e).1 ∙ same.1 ∙ sym (c.all e).1)
    | inr e ↦
        let heads : value ∷ digests ≡ other_value ∷ other_digests = sym (b.part e) ∙ same.1 ∙ c.part e in (cc, cc)
  ]

  -- what fixes the node where both begin fixes both
  pub fixed_from : RootFixesProof hash node ((new - 1) / 2 ^ layer + 1) value digests other_value other_digests new_root
      ↔ NewRootFixesProof hash old new root path other_root other_path new_root
  fixed_from =
      let ends = begun_end b some is in
      let same_layer : other_layer ≡ layer = c.at_layer ∙ sym b.at_layer in
      let same_node : other_node ≡ node =
      c.at_node ∙ ap (λ (l : ℕ). (old - 1) / 2 ^ l) same_layer ∙ sym b.at_node in
      let other_ends : climb_end hash layer node new other_value other_digests ≡ Some (0, other_root, new_root) =
      rw (← same_layer, ← same_node) (begun_end c some other) in
      let within = begins_within b new is.ordered in
      let low = div-le_self (new - 1) (2 ^ layer) in
      let more = digests_grow some b.some is in (
        λ fixed s i o.
            let same = fixed (omega arith) (as_leaf hash new layer node value digests root new_root within ends)
            (as_leaf hash new layer node other_value other_digests other_root new_root within other_ends) in
            let also : climb_end hash layer node new value digests ≡ Some (0, other_root, new_root) =
            rw (same.0, same.1) other_ends in
            ((end_of (sym ends ∙ also)).1, paths same),
        λ fixed s i o. starts (fixed small is other),
      )

-- ---- lists of entries, as the code reads them

first_entries : (old new first : List (Vec ℕ Global)) → first ≡ take (length old) new →
    entries_of first ≡ take (length (entries_of old)) (entries_of new)
first_entries old new first e =
    ap entries_of e ∙ sym (take-map (λ (entry : Vec ℕ Global). entry.items) (length old) new)
    ∙ ap (λ (n : ℕ). take n (entries_of new)) (sym (length-entries old))

-- with the root of its first entries, the new list begins with the old one exactly if roots fix these entries
pub same_root : (hash : Hash) (old new first : List (Vec ℕ Global)) (path : List (List ℕ)) (old_root new_root : List ℕ)
    (r : Result (Unit {0}) ProofError) →
    (IsOk r ↔ ((length new ≤ size_limit) × IsConsistent hash (length old) (length new) path old_root new_root)) →
    is_err r ≡ false → old_root ≡ root_of hash (entries_of old) → new_root ≡ root_of hash (entries_of new) →
    first ≡ take (length old) new → root_of hash (entries_of old) ≡ root_of hash (entries_of first) →
    RootsFixEntries hash (entries_of old) (entries_of first)
    ↔ RootsFixPrefix hash (entries_of old) (entries_of new) path
same_root hash old new first path old_root new_root r accepted e at_old at_new front roots =
    let is = accepted_by r accepted refl e in
    let lo = length-entries old in
    let ln = length-entries new in
    let at = first_entries old new first front in (
      λ fixed small also. fixed roots ∙ at,
      λ s also. s (let small = is.0 in omega arith) (rw (at_old, at_new, ← lo, ← ln) at is.1) ∙ sym at,
    )

-- what is so where the roots differ
pub record Differ (hash : Hash) (old new : List (Vec ℕ Global)) (path : List (List ℕ))
    (old_root new_root first_root : List ℕ) : Type 0 where
  pub small : length new ≤ size_limit
  pub some : 0 < length old
  pub is : IsConsistent hash (length old) (length new) path old_root new_root
  pub honest : IsConsistent hash (length old) (length new) (proof_of hash (length old) (entries_of new)) first_root
      new_root
  pub other : old_root ≢ first_root
  pub prefix : RootsFixPrefix hash (entries_of old) (entries_of new) path → ⊥

pub differ : (hash : Hash) (old new first : List (Vec ℕ Global)) (path : List (List ℕ))
    (old_root new_root first_root : List ℕ) (r : Result (Unit {0}) ProofError) (same : Bool) →
    (IsOk r ↔ ((length new ≤ size_limit) × IsConsistent hash (length old) (length new) path old_root new_root)) →
    is_err r ≡ false → old_root ≡ root_of hash (entries_of old) → new_root ≡ root_of hash (entries_of new) →
    first ≡ take (length old) new → first_root ≡ root_of hash (entries_of first) → same ≡ is_same old_root first_root →
    same ≡ false → Differ hash old new path old_root new_root first_root
differ hash old new first path old_root new_root first_root r same accepted e at_old at_new front at_first test unlike =
    let is = accepted_by r accepted refl e in
    let ordered = is.1.ordered in
    let lo = length-entries old in
    let ln = length-entries new in
    let other = unequal old_root first_root same test unlike in
    let at : first_root ≡ root_of hash (take (length old) (entries_of new)) =
    at_first ∙ ap (root_of hash) (first_entries old new first front
    ∙ ap (λ (n : ℕ). take n (entries_of new)) lo) in
    let some : 0 < length old = elim (eqb_tells (length old) 0) [
      | inr (f, h) ↦ omega arith
      | inl (t, z) ↦ absurd (other (at_old ∙ root_of_none hash (leaf_hash hash) (entries_of old) (omega arith)
          ∙ sym (at_first ∙ root_of_none hash (leaf_hash hash) (entries_of first)
          (length-entries first ∙ ap length front ∙ length-take-le (length old) new (omega arith) ∙ z))))
    ] in
    let honest : IsConsistent hash (length old) (length new) (proof_of hash (length old) (entries_of new)) first_root
    new_root = rw (at, at_new, ← ln) (honest_grown hash (entries_of new) (length old) some (omega arith)
    (let small = is.0 in omega arith)) in
    record {
      small = is.0;
      some = some;
      is = is.1;
      honest = honest;
      other = other;
      prefix = λ s. let begins = s (let small = is.0 in omega arith) (rw (at_old, at_new, ← lo, ← ln) at is.1) in
          other (at_old ∙ ap (root_of hash) (begins ∙ ap (λ (n : ℕ). take n (entries_of new)) lo) ∙ sym at);
    }
