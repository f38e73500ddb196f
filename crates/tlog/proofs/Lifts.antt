-- Digests that lead from a node to the root, as the tree grows: by the halves of the new tree.
use Rattle.std.proofs.Common.{◌≡◌, ℕ, ◌+◌, ◌-◌, ◌*◌, ◌/◌, ◌^◌, ◌<◌, ◌≤◌, sym, ap, ◌∙◌, arith, inl, inr, List, [], ◌∷◌}
use Rattle.std.proofs.Common.{◌++◌, length, Some, true}
use Rattle.std.proofs.lemmas.Bool.Decides.{eqb_tells, nat_tests}
use Rattle.std.proofs.lemmas.Nat.{div-mul-add, pow_pos}
use Rattle.std.specs.Prelude.{Option}
use Rattle.std.specs.Int.{w64, trailing_zeros}
use Rattle.tlog.specs.Climbs.{climb_end}
use Rattle.tlog.specs.Rfc9162.{Hash, consistency_walk, is_left, node_hash, split}
use Rattle.tlog.specs.Verdicts.{consistency_end_refusal}
use Rattle.tlog.specs.declared.error.ProofError.{ProofError}
use Rattle.tlog.specs.Inner.Lifts.{Lifts}
use Rattle.tlog.specs.Inner.Nodes.{HashFixesChildren}
use Rattle.tlog.proofs.Accepted.{accepted_both}
use Rattle.tlog.proofs.Splits.{split_is}
use Rattle.tlog.proofs.Walks.{end_of}
use Rattle.tlog.proofs.Sides.{IsWhole, at_layer, climb_left, climb_right, in_right, left_of, more_nodes, next, right_of}
use Rattle.tlog.proofs.Sides.{room, same_split, whole_within}

-- ---- where digests do not lead to a root

pub two_ends : (x : Option (ℕ × List ℕ × List ℕ)) (a b c d : List ℕ) → x ≡ Some (0, a, b) → x ≡ Some (0, c, d) →
    (a ≡ c) × (b ≡ d)
two_ends x a b c d p q =
    let e = end_of (sym p ∙ q) in (e.1, e.2)

pub refused_end : {X : Type 0} (x : Option (ℕ × List ℕ × List ℕ)) (e : ProofError) (o w : List ℕ) →
    ((first second : List ℕ) → consistency_end_refusal x first second ≡ Some e) → x ≡ Some (0, o, w) → X
refused_end x e o w refused is =
    let no = rw (is, accepted_both o w) at (refused o w) in absurd cc

-- no digests, where the tree has more nodes
pub bare_end : {X : Type 0} (hash : Hash) (t node size : ℕ) (value : List ℕ) (digests : List (List ℕ)) (a b : List ℕ) →
    0 < (size - 1) / 2 ^ t → length digests ≡ 0 → climb_end hash t node size value digests ≡ Some (0, a, b) → X
unfolding consistency_walk
bare_end hash t node size value [] a b some none h = let z = (end_of h).0 in absurd (omega arith)
bare_end hash t node size value (c ∷ digests) a b some none h = absurd (omega arith)

-- along the last nodes of layers both roots are one
along : (hash : Hash) (digests : List (List ℕ)) (i : ℕ) (v a b : List ℕ) →
    consistency_walk hash digests i i v v ≡ Some (0, a, b) → a ≡ b
unfolding consistency_walk
along hash [] i v a b h = let e = end_of h in sym e.1 ∙ e.2
along hash (c ∷ digests) i v a b h =
    elim (eqb_tells i 0) [
      | inl (t, z) ↦ let g = rw (t, consistency_walk) at h in absurd cc
      | inr (f, z) ↦
          let l : is_left i i ≡ true = grind (arith, nat_tests) in
          along hash digests (i / 2 ^ trailing_zeros w64 i / 2) (node_hash hash c v) a b
          (rw (f, consistency_walk, l, consistency_walk) at h)
    ]

last_node : (u edge new : ℕ) → (edge + 1) * 2 ^ u ≡ new → (new - 1) / 2 ^ u ≡ edge
last_node u edge new e =
    let some = pow_pos u in
    let n = next u edge in
    let pred : new - 1 ≡ edge * 2 ^ u + (2 ^ u - 1) = omega (arith, e, n, some) in
    ap (λ (x : ℕ). x / 2 ^ u) pred ∙ div-mul-add edge (2 ^ u) (2 ^ u - 1) (omega (arith, some))

-- ---- the old tree reaches into the right half: both are split at one place

-- what is so there
pub record Across (size new t node u edge : ℕ) : Type 0 where
  pub high : 0 < (new - 1) / 2 ^ t
  pub high_edge : 0 < (new - 1) / 2 ^ u
  pub low : 0 < (size - 1) / 2 ^ t
  pub same : split size ≡ split new
  pub below_new : split new < new
  pub within : node ≤ (size - 1) / 2 ^ t
  pub within_new : node ≤ (new - 1) / 2 ^ t
  pub edge_within : edge ≤ (new - 1) / 2 ^ u
  pub whole_split : split new ≡ split new / 2 ^ t * 2 ^ t
  pub beyond : split new / 2 ^ u ≤ edge
  pub edge_ends : (edge - split new / 2 ^ u + 1) * 2 ^ u ≡ size - split new
  pub right_whole : split new / 2 ^ t ≤ node → IsWhole t (node - split new / 2 ^ t) (size - split new)

pub across : (size new t node u edge : ℕ) → IsWhole t node size → (edge + 1) * 2 ^ u ≡ size → size < new →
    split new < size → Across size new t node u edge
across size new t node u edge whole ends more past =
    let edge_whole : IsWhole u edge size = omega arith in
    let new_whole : IsWhole t node new = omega arith in
    let new_edge : IsWhole u edge new = omega arith in
    let high = more_nodes t node size new whole more in
    let high_edge = more_nodes u edge size new edge_whole more in
    let a = (at_layer t new high).whole in
    let b = (at_layer u new high_edge).whole in
    let beyond = right_of u edge size (split new) ends b past in
    let s = split_is new (omega arith) in
    record {
      high = high;
      high_edge = high_edge;
      low = room t node size new whole past more;
      same = same_split size new (omega arith) past (omega arith);
      below_new = s.below;
      within = (whole_within t node size whole).1;
      within_new = (whole_within t node new new_whole).1;
      edge_within = (whole_within u edge new new_edge).1;
      whole_split = a;
      beyond = beyond;
      edge_ends = in_right u edge (split new) b beyond ∙ ap (λ (n : ℕ). n - split new) ends;
      right_whole = λ h. let e = in_right t node (split new) a h in omega (arith, e, whole);
    }

-- ---- the digests from a node to the new root

module _ {hash : Hash} {size new t node : ℕ} {value : List ℕ} {digests : List (List ℕ)} {u edge : ℕ} {start : List ℕ}
    {growth : List (List ℕ)} where
  -- the trees are one
  pub lift_same : size ≡ new → (edge + 1) * 2 ^ u ≡ size →
      Lifts hash size new t node value digests u edge start growth digests
  lift_same same last = record {
    lift = λ o m w one other.
        let at = last_node u edge new (last ∙ same) in
        let both = along hash growth edge start m w (rw at at other) in rw (← same, ← both) one;
  }

  -- the old tree is in the left half
  pub lift_left : (rest out : List (List ℕ)) (last : List ℕ) → IsWhole t node size → (edge + 1) * 2 ^ u ≡ size →
      size < new → new ≤ 2 ^ 62 → size ≤ split new → growth ≡ rest ++ last ∷ [] →
      Lifts hash size (split new) t node value digests u edge start rest out →
      Lifts hash size new t node value digests u edge start growth (out ++ last ∷ [])
  lift_left rest out last whole ends more small within is lifted = record {
    lift = λ o m w one other.
        let edge_whole : IsWhole u edge size = omega arith in
        let high = more_nodes t node size new whole more in
        let high_edge = more_nodes u edge size new edge_whole more in
        let place = left_of t node size (split new) whole (at_layer t new high).whole within in
        let place_edge = left_of u edge size (split new) edge_whole (at_layer u new high_edge).whole within in
        let down = (climb_left hash u edge new start rest last m w high_edge small place_edge).0 (rw is at other) in
        (climb_left hash t node new value out last o w high small place).1
        (down.0, lifted.lift o m down.0 one down.1, down.2);
  }

  -- no digests between different sizes
  pub lift_no_growth : {out : List (List ℕ)} → (edge + 1) * 2 ^ u ≡ size → size < new → length growth ≡ 0 →
      Lifts hash size new t node value digests u edge start growth out
  lift_no_growth ends more none = record {
    lift = λ o m w one other.
        let edge_whole : IsWhole u edge size = omega arith in
        bare_end hash u edge new start growth m w (more_nodes u edge size new edge_whole more) none other;
  }

  module _ (whole : IsWhole t node size) (ends : (edge + 1) * 2 ^ u ≡ size) (more : size < new)
      (past : split new < size) (small : new ≤ 2 ^ 62) where
    pub lift_no_digests : {out : List (List ℕ)} → length digests ≡ 0 →
        Lifts hash size new t node value digests u edge start growth out
    lift_no_digests none = record {
      lift = λ o m w one other.
          let sides = across size new t node u edge whole ends more past in
          bare_end hash t node size value digests o m sides.low none one;
    }

    module _ (rest : List (List ℕ)) (last : List ℕ) (grows : growth ≡ rest ++ last ∷ []) where
      -- the way from the last whole node leads nowhere in the right half
      pub lift_growth_refused : {out : List (List ℕ)} (e : ProofError) →
          ((first second : List ℕ) → consistency_end_refusal (climb_end hash u (edge - split new / 2 ^ u)
          (new - split new) start rest) first second ≡ Some e) →
          Lifts hash size new t node value digests u edge start growth out
      lift_growth_refused e refused = record {
        lift = λ o m w one other.
            let sides = across size new t node u edge whole ends more past in
            let b = (climb_right hash u edge new start rest last m w sides.high_edge small sides.beyond
            sides.edge_within).0 (rw grows at other) in
            refused_end _ e b.0 b.1 refused b.2;
      }

      module _ (below : List (List ℕ)) (beside old right : List ℕ) (is : digests ≡ below ++ beside ∷ [])
          (below_ends : climb_end hash u (edge - split new / 2 ^ u) (new - split new) start rest
          ≡ Some (0, old, right)) where
        -- the node in the left half: the digest beside it becomes the new root of the right half
        pub lift_beside_left : {out : List (List ℕ)} → node < split new / 2 ^ t →
            ((first left : List ℕ) → climb_end hash t node (split new) value below ≡ Some (0, first, left) →
            HashFixesChildren hash left beside last old × (out ≡ below ++ right ∷ [])) →
            Lifts hash size new t node value digests u edge start growth out
        lift_beside_left place step = record {
          lift = λ o m w one other.
              let sides = across size new t node u edge whole ends more past in
              let place_old : node < split size / 2 ^ t = rw sides.same place in
              let a = (climb_left hash t node size value below beside o m sides.low (omega arith) place_old).0
              (rw is at one) in
              let left_end : climb_end hash t node (split new) value below ≡ Some (0, o, a.0) =
              rw sides.same at a.1 in
              let (fixed, lifted) = step o a.0 left_end in
              let b = (climb_right hash u edge new start rest last m w sides.high_edge small sides.beyond
              sides.edge_within).0 (rw grows at other) in
              let r = two_ends _ old right b.0 b.1 below_ends b.2 in
              let same = fixed (rw r.0 (sym a.2 ∙ b.3)) in
              rw lifted ((climb_left hash t node new value below right o w sides.high small place).1
              (a.0, left_end, b.4 ∙ rw (← r.1, ← same.0)));
        }

        -- the node in the right half
        pub lift_right : (out : List (List ℕ)) → split new / 2 ^ t ≤ node →
            ((first left : List ℕ) → climb_end hash t (node - split new / 2 ^ t) (size - split new) value below
            ≡ Some (0, first, left) → HashFixesChildren hash beside left last old) →
            Lifts hash (size - split new) (new - split new) t (node - split new / 2 ^ t) value below u
            (edge - split new / 2 ^ u) start rest out →
            Lifts hash size new t node value digests u edge start growth (out ++ last ∷ [])
        lift_right out place step lifted = record {
          lift = λ o m w one other.
              let sides = across size new t node u edge whole ends more past in
              let place_old : split size / 2 ^ t ≤ node = rw sides.same place in
              let a = (climb_right hash t node size value below beside o m sides.low (omega arith) place_old
              sides.within).0 (rw is at one) in
              let inner : climb_end hash t (node - split new / 2 ^ t) (size - split new) value below
              ≡ Some (0, a.0, a.1) = rw sides.same at a.2 in
              let b = (climb_right hash u edge new start rest last m w sides.high_edge small sides.beyond
              sides.edge_within).0 (rw grows at other) in
              let r = two_ends _ old right b.0 b.1 below_ends b.2 in
              let same = step a.0 a.1 inner (rw r.0 (sym a.4 ∙ b.3)) in
              let seam : a.1 ≡ b.0 = same.1 ∙ r.0 in
              (climb_right hash t node new value out last o w sides.high small place sides.within_new).1
              (a.0, b.1, lifted.lift a.0 a.1 b.1 inner (rw seam b.2), rw (← same.0) a.3, b.4);
        }
