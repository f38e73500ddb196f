-- An opening of a log's tree is accepted exactly if the standard's algorithm accepts its siblings that are there.
use Rattle.std.proofs.Common.{◌≡◌, ℕ, zero, suc, ◌+◌, ◌-◌, ◌/◌, ◌%◌, ◌^◌, ◌<◌, ◌≤◌, List, [], ◌∷◌, length, drop, get_or}
use Rattle.std.proofs.Common.{insert, add-one, Some, refl, sym, ap, ◌∙◌, arith}
use Rattle.std.proofs.lemmas.List.{at_drop_all, drop_more}
use Rattle.std.proofs.Math.Nat.{div-eq_of_lt}
use Rattle.std.specs.Prelude.{Option, ◌↔◌, slice_get}
use Rattle.p3_merkle_core.specs.Geometry.{ancestor, levels}
use Rattle.p3_merkle_core.specs.Openings.{opening_of}
use Rattle.p3_merkle_core.specs.Checks.{IsAccepted, path_digest}
use Rattle.p3_merkle_core.proofs.Checks.CheckFacts.{accepted_by_walk, accepted_walk}
use Rattle.tlog.specs.Rfc9162.{Hash as HashFunction, inclusion_walk}
use Rattle.tlog.specs.Verdicts.{IsIncluded, size_limit}
use Rattle.tlog_multiproof.specs.Nodes.{parent_digest}
use Rattle.tlog_multiproof.specs.Instance.{IsLogPath, leaf_row_set, log_functions, log_params, log_shape, present}
use Rattle.tlog_multiproof.specs.Instance.{root_cap}
use Rattle.tlog_multiproof.specs.declared.tree.Node.{Node}
use Rattle.tlog_multiproof.specs.declared.tree.Node.TheVariants.{Hash}
use Rattle.tlog_multiproof.proofs.Shapes.{ancestor_of_two, lawful, leaf_reached, more_below, next_reached, one_sibling}
use Rattle.tlog_multiproof.proofs.Shapes.{root_covers, tallest}
use Rattle.tlog_multiproof.proofs.Walks.{half_of, level_passed}

module _ (hash : HashFunction) (size i : ℕ) (leaf : List ℕ) (path : List (List Node)) (inside : i < size)
    (small : size ≤ size_limit) (filled : IsLogPath size i path) where
  long : length path ≡ levels (log_shape size)
  long = filled.count

  -- the digest that the check reaches at a layer
  abbrev reached : ℕ → List Node
  reached l = path_digest (log_functions hash) (log_shape size) (opening_of i (leaf_row_set leaf) path) l

  -- the walk of inclusion ends in the digest that the check ends in
  ends_from : (d l : ℕ) (r : List ℕ) → l + d ≡ levels (log_shape size) → reached l ≡ Hash r ∷ [] →
      (end : List ℕ) × (reached (levels (log_shape size)) ≡ Hash end ∷ []) ×
      (inclusion_walk hash (present (drop l path)) (i / 2 ^ l) ((size - 1) / 2 ^ l) r ≡ Some (0, end))
  unfolding inclusion_walk
  ends_from zero l r e at =
      let top : l ≡ levels (log_shape size) = omega arith in
      let covers : size ≤ 2 ^ l = rw top (root_covers size) in
      let last : (size - 1) / 2 ^ l ≡ 0 = div-eq_of_lt (omega arith) in
      let none : drop l path ≡ [] = at_drop_all (λ ds. ds) path l (omega arith) in
      (r, rw (← top) at, rw (none, last) refl)
  ends_from (suc d) l r e at =
      let below : l < levels (log_shape size) = omega arith in
      let step = level_passed hash (drop (suc l) path) (get_or path l []) size i l r inside small
      (more_below size l below) (filled.each l below) in
      let up : reached (suc l) ≡ Hash step.0 ∷ [] =
      next_reached size hash (opening_of i (leaf_row_set leaf) path) l below (omega arith)
      ∙ ap (λ digest. parent_digest hash (insert (get_or path l [] ∷ []) (i / 2 ^ l % 2) digest)) at ∙ step.1 in
      let rest = ends_from d (suc l) step.0 (omega arith) up in
      let more : drop l path ≡ get_or path l [] ∷ drop (suc l) path =
      rw add-one at (drop_more path l [] (omega arith)) in (
        rest.0,
        rest.1,
        rw more (step.2 rest.0 (rw (half_of i l, half_of (size - 1) l) at rest.2)),
      )

  ends : (end : List ℕ) × (reached (levels (log_shape size)) ≡ Hash end ∷ []) ×
      (inclusion_walk hash (present path) i (size - 1) leaf ≡ Some (0, end))
  ends =
      let e = ends_from (levels (log_shape size)) 0 leaf (omega arith)
      (leaf_reached size hash (opening_of i (leaf_row_set leaf) path) leaf refl) in
      let first : i / 2 ^ 0 ≡ i = omega arith in
      let last : (size - 1) / 2 ^ 0 ≡ size - 1 = omega arith in
      (e.0, e.1, rw (first, last) at e.2)

  pub accepted_if_included : (root : List ℕ) →
      IsAccepted (log_params hash size) (root_cap root) (opening_of i (leaf_row_set leaf) path)
      ↔ IsIncluded hash i size leaf (present path) root
  accepted_if_included root =
      let s = log_shape size in
      let t = levels s in
      let o = opening_of i (leaf_row_set leaf) path in
      let top : ancestor s t i ≡ 0 =
      ancestor_of_two size t i ∙ div-eq_of_lt (omega (arith, root_covers size)) in (
        λ accepted.
            let is : slice_get (root_cap root) (ancestor s t i) ≡ Some (reached t) =
            accepted_walk (log_functions hash) s t (root_cap root) o accepted in
            let at : Some (Hash root ∷ []) ≡ Some (Hash ends.0 ∷ []) = rw (top, ends.1) at is in
            let same : ends.0 ≡ root = cc in
            record { within = inside; ends = rw same at ends.2 },
        λ included.
            let is : ◌≡◌ {A = Option (ℕ × List ℕ)} (Some (0, ends.0)) (Some (0, root)) = sym ends.2 ∙ included.ends in
            let pair : ◌≡◌ {A = ℕ × List ℕ} (0, ends.0) (0, root) = cc in
            let same : ends.0 ≡ root = ap (λ (p : ℕ × List ℕ). p.1) pair in
            accepted_by_walk (log_functions hash) s t (root_cap root) o (lawful size (omega arith) small) refl
            (long ∙ sym (one_sibling size t)) (rw (tallest size) inside)
            (rw (top, ends.1, same) refl),
      )
