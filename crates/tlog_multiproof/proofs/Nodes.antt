-- The nodes of a log's tree are the standard's: MTH of the entries below them.
use Rattle.std.proofs.Common.{◌≡◌, ℕ, zero, suc, ◌+◌, ◌-◌, ◌*◌, ◌/◌, ◌^◌, ◌<◌, ◌≤◌, List, [], ◌∷◌, length, take, drop}
use Rattle.std.proofs.Common.{get_or, map, refl, sym, ap, ◌∙◌, arith, inl, inr}
use Rattle.std.proofs.lemmas.Bool.{cases_lt}
use Rattle.std.proofs.lemmas.List.{take_all}
use Rattle.std.proofs.lemmas.Nat.{pow_pos}
use Rattle.std.proofs.Math.Nat.{le-div_iff_mul-le}
use Rattle.p3_merkle_core.specs.Geometry.{layer_len, levels}
use Rattle.p3_merkle_core.specs.Commitments.{cap_over}
use Rattle.p3_merkle_core.specs.Nodes.{node}
use Rattle.p3_merkle_core.proofs.Shapes.FallFacts.{root_alone}
use Rattle.std.specs.List.{range_with_len}
use Rattle.p3_merkle_core.proofs.Checks.OneHeightFacts.{leaf_of, next_of, padding_of}
use Rattle.std.specs.Prelude.{Option, Some, true, nat_lt}
use Rattle.std.proofs.lemmas.Bool.Decides.{nat_tests}
use Rattle.tlog.specs.Rfc9162.{Hash as HashFunction, mth}
use Rattle.tlog.proofs.Layers.{above, itself, length-above, only_at, pair_at}
use Rattle.tlog_tree.specs.Inner.Layers.{layer_of}
use Rattle.tlog_tree.proofs.Paths.{layer_next, layer_value}
use Rattle.tlog_multiproof.specs.Nodes.{parent_digest}
use Rattle.tlog_multiproof.specs.Instance.{IsLogDigest, root_cap, log_batch, log_params, log_functions, log_shape}
use Rattle.tlog_multiproof.specs.declared.tree.Node.{Node}
use Rattle.tlog_multiproof.specs.declared.tree.Node.TheVariants.{Absent, Hash}
use Rattle.tlog_multiproof.proofs.Shapes.{root_covers, tallest, one_column, two_is_arity}
use Rattle.tlog_multiproof.proofs.Walks.{half_of}

-- ---- layers by halving

pub length-layer : (hash : HashFunction) (l : ℕ) (leaves : List (List ℕ)) → 0 < length leaves →
    length (layer_of hash l leaves) ≡ (length leaves - 1) / 2 ^ l + 1
unfolding layer_of
length-layer hash zero leaves some = omega arith
length-layer hash (suc l) leaves some =
    ap length (layer_next hash l leaves) ∙ length-above hash itself (layer_of hash l leaves)
    ∙ (let below = length-layer hash l leaves some in let half = half_of (length leaves - 1) l in omega arith)

-- its slots that have entries below them
pub slot_inside : (hash : HashFunction) (l j : ℕ) (leaves : List (List ℕ)) → j * 2 ^ l < length leaves →
    j < length (layer_of hash l leaves)
slot_inside hash l j leaves inside =
    let le = (le-div_iff_mul-le {x = j} {y = length leaves - 1} (pow_pos l)).1 (omega arith) in
    omega (arith, length-layer hash l leaves (omega arith))

pub inside_slot : (hash : HashFunction) (l j : ℕ) (leaves : List (List ℕ)) → 0 < length leaves →
    j < length (layer_of hash l leaves) → j * 2 ^ l < length leaves
inside_slot hash l j leaves some inside =
    let le : j ≤ (length leaves - 1) / 2 ^ l = omega (arith, length-layer hash l leaves some) in
    let up = (le-div_iff_mul-le {x = j} {y = length leaves - 1} (pow_pos l)).0 le in
    omega arith

-- and those that have none
pub outside_slot : (hash : HashFunction) (l j : ℕ) (leaves : List (List ℕ)) → length (layer_of hash l leaves) ≤ j →
    length leaves ≤ j * 2 ^ l
outside_slot hash l j leaves past = elim (cases_lt (j * 2 ^ l) (length leaves)) [
  | inl below ↦ absurd (omega (arith, slot_inside hash l j leaves below))
  | inr above ↦ above
]

-- a node is MTH of the entries below it
layer_is_mth : (hash : HashFunction) (l j : ℕ) (leaves : List (List ℕ)) → j * 2 ^ l < length leaves →
    get_or (layer_of hash l leaves) j [] ≡ mth hash itself (take (2 ^ l) (drop (j * 2 ^ l) leaves))
layer_is_mth hash l j leaves inside =
    let t : nat_lt (j * 2 ^ l) (length leaves) ≡ true = grind (arith, nat_tests) in
    let both : ◌≡◌ {A = Option (List ℕ)} (Some (get_or (layer_of hash l leaves) j []))
    (Some (mth hash itself (take (2 ^ l) (drop (j * 2 ^ l) leaves)))) =
    sym (layer_value hash l leaves j (slot_inside hash l j leaves inside)) ∙ rw t in
    cc

-- ---- the tree's nodes

module _ (hash : HashFunction) (leaves : List (List ℕ)) (some : 0 < length leaves) where
  abbrev node_of : ℕ → ℕ → List Node
  node_of l j = node (log_functions hash) (log_batch leaves) l j

  pub padding_is_absent : (l j : ℕ) → l ≤ levels (log_shape (length leaves)) → length leaves ≤ j * 2 ^ l →
      node_of l j ≡ Absent ∷ []
  padding_is_absent l j low past =
      padding_of (log_functions hash) (log_batch leaves) 2 refl two_is_arity (length leaves) some
      (one_column (length leaves)) l j low past

  pub node_in_layer : (l j : ℕ) → l ≤ levels (log_shape (length leaves)) → j < length (layer_of hash l leaves) →
      node_of l j ≡ Hash (get_or (layer_of hash l leaves) j []) ∷ []
  unfolding layer_of
  node_in_layer zero j low inside =
      leaf_of (log_functions hash) (log_batch leaves) 2 refl two_is_arity (length leaves) some
      (one_column (length leaves)) j inside
  node_in_layer (suc l) j low inside =
      let L = layer_of hash l leaves in
      let len : length (above hash itself L) ≡ (length L + 1) / 2 = length-above hash itself L in
      let up : layer_of hash (suc l) leaves ≡ above hash itself L = layer_next hash l leaves in
      let within : j < length (above hash itself L) = rw up at inside in
      let z : 2 * j ≡ j + j = omega arith in
      let group : node_of (suc l) j ≡ parent_digest hash (node_of l (j + j) ∷ node_of l (j + j + 1) ∷ []) =
      rw z at (next_of (log_functions hash) (log_batch leaves) 2 refl two_is_arity (length leaves) some
      (one_column (length leaves)) l j low (inside_slot hash (suc l) j leaves some inside)) in
      let left = node_in_layer l (j + j) (omega arith) (omega arith) in
      group ∙ rw (left, up) (elim (cases_lt (j + j + 1) (length L)) [
        | inl both ↦
            let right = node_in_layer l (j + j + 1) (omega arith) both in
            let next : j + j + 1 ≡ suc (j + j) = omega arith in
            rw (right, (pair_at hash itself j (j + j) L [] [] refl both).0, next) refl
        | inr alone ↦
            let right = padding_is_absent l (j + j + 1) (omega arith)
            (outside_slot hash l (j + j + 1) leaves alone) in
            rw (right, (only_at hash itself j (j + j) L [] [] refl (omega arith)).0) refl
      ])

  -- a slot with entries below it has MTH of these
  pub node_is_mth : (l j : ℕ) → l ≤ levels (log_shape (length leaves)) → j * 2 ^ l < length leaves →
      node_of l j ≡ Hash (mth hash itself (take (2 ^ l) (drop (j * 2 ^ l) leaves))) ∷ []
  node_is_mth l j low inside =
      node_in_layer l j low (slot_inside hash l j leaves inside)
      ∙ ap (λ value. Hash value ∷ []) (layer_is_mth hash l j leaves inside)

  pub node_filled : (l j : ℕ) → l ≤ levels (log_shape (length leaves)) → IsLogDigest (length leaves) l j (node_of l j)
  node_filled l j low = record {
    node = λ inside. (mth hash itself (take (2 ^ l) (drop (j * 2 ^ l) leaves)), node_is_mth l j low inside);
    padding = padding_is_absent l j low;
  }

  -- the cap is the root of the standard
  pub cap_is_root : cap_over (log_params hash (length leaves)) (log_batch leaves) ≡ root_cap (mth hash itself leaves)
  cap_is_root =
      let s = log_shape (length leaves) in
      let t = levels s in
      let one : layer_len s t ≡ 1 = root_alone s two_is_arity (rw (tallest (length leaves)) some) in
      let none : 0 * 2 ^ t ≡ 0 = omega arith in
      let all : take (2 ^ t) leaves ≡ leaves = take_all (2 ^ t) leaves (root_covers (length leaves)) in
      let root : node_of t 0 ≡ Hash (mth hash itself leaves) ∷ [] =
      node_is_mth t 0 (omega arith) (omega arith)
      ∙ ap (λ n. Hash (mth hash itself (take (2 ^ t) (drop n leaves))) ∷ []) none
      ∙ ap (λ ls. Hash (mth hash itself ls) ∷ []) all in
      ap (λ n. map (node_of t) (range_with_len 0 n)) one ∙ ap (λ digest. digest ∷ []) root
