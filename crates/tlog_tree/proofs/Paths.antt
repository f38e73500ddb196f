-- The values of nodes are those of the layers, and proofs go from layer to layer.
use Rattle.std.proofs.Common.{◌≡◌, ℕ, zero, suc, ◌+◌, ◌-◌, ◌*◌, ◌/◌, ◌%◌, ◌^◌, ◌<◌, ◌≤◌, refl, sym, ap, ◌∙◌, arith, inl}
use Rattle.std.proofs.Common.{inr, List, [], ◌∷◌, ◌++◌, length, take, drop, get_or, append_assoc, length-drop}
use Rattle.std.proofs.Common.{length-take}
use Rattle.std.proofs.Math.Nat.{pow-succ'}
use Rattle.std.proofs.lemmas.Nat.{pow_pos}
use Rattle.std.proofs.lemmas.Bool.{cases_eq}
use Rattle.std.proofs.lemmas.Bool.Decides.{leb_tells, nat_tests}
use Rattle.std.proofs.lemmas.List.{map-append}
use Rattle.std.specs.Prelude.{true, false, nat_lt, Some, ◌⊎◌}
use Rattle.tlog.specs.Rfc9162.{Hash, node_hash, path, path_within, subproof}
use Rattle.tlog.proofs.Honest.{sub-even, sub-odd, sub-one}
use Rattle.tlog.proofs.Climbs.{path_above}
use Rattle.tlog.proofs.Layers.{above, above_parts, itself, length-above, mth_above, only_at, pair_at, sibling}
use Rattle.tlog_tree.specs.Inner.Layers.{above_of, layer_of}
use Rattle.tlog_tree.specs.Trees.{all_there, id_of, leaves_root, value_at, values_at}
use Rattle.tlog_tree.specs.declared.node_id.NodeId.{NodeId}
use Rattle.tlog_tree.proofs.Kept.{node_here}

pub above_is : (hash : Hash) (L : List (List ℕ)) → above_of hash L ≡ above hash itself L
above_is hash [] = refl
above_is hash (node ∷ []) = refl
above_is hash (left ∷ (right ∷ rest)) =
    ap (λ (nodes : List (List ℕ)). node_hash hash left right ∷ nodes) (above_is hash rest)

pub layer_next : (hash : Hash) (layer : ℕ) (L : List (List ℕ)) →
    layer_of hash (suc layer) L ≡ above hash itself (layer_of hash layer L)
unfolding layer_of
layer_next hash zero L = above_is hash L
layer_next hash (suc layer) L = layer_next hash layer (above_of hash L)

pub layer_more : (hash : Hash) (layer : ℕ) (L : List (List ℕ)) →
    layer_of hash (layer + 1) L ≡ above hash itself (layer_of hash layer L)
layer_more hash layer L = let e : layer + 1 ≡ suc layer = omega arith in rw e (layer_next hash layer L)

pub layer_none : (hash : Hash) (L : List (List ℕ)) → layer_of hash 0 L ≡ L
unfolding layer_of
layer_none hash L = refl

value_above : (hash : Hash) (L : List (List ℕ)) (layer slot : ℕ) →
    value_at hash L (id_of (suc layer) slot) ≡ value_at hash (above_of hash L) (id_of layer slot)
value_above hash L layer slot =
    let m = 2 ^ layer in
    let x = slot * m in
    let pos = pow_pos layer in
    let twice : 2 ^ suc layer ≡ m + m = pow-succ' 2 layer ∙ omega arith in
    let start : slot * 2 ^ suc layer ≡ x + x = ap (λ (n : ℕ). slot * n) twice ∙ omega arith in
    let len = length-above hash itself L in
    elim (leb_tells (suc (x + x)) (length L)) [
      | inl (t, h) ↦
          let u : nat_lt x (length (above hash itself L)) ≡ true = grind (arith, nat_tests) in
          let rest = drop (x + x) L in
          let rest_len : length rest ≡ length L - (x + x) = length-drop (x + x) L in
          let taken = length-take (m + m) rest in
          rw (above_is, start, twice, t, u) (ap (λ (v : List ℕ). Some v) (mth_above hash itself (take (m + m) rest)
          (omega arith)
          ∙ ap (leaves_root hash) ((above_parts hash itself m (m + m) rest refl).0
          ∙ ap (take m) (above_parts hash itself x (x + x) L refl).1)))
      | inr (f, h) ↦
          let g : nat_lt x (length (above hash itself L)) ≡ false = grind (arith, nat_tests) in
          rw (above_is, start, f, g)
    ]

-- a node of a layer
pub layer_value : (hash : Hash) (layer : ℕ) (L : List (List ℕ)) (slot : ℕ) → slot < length (layer_of hash layer L) →
    value_at hash L (id_of layer slot) ≡ Some (get_or (layer_of hash layer L) slot [])
unfolding layer_of
layer_value hash zero L slot h =
    let one : slot * 1 ≡ slot = omega arith in
    let t : nat_lt slot (length L) ≡ true = grind (arith, nat_tests) in
    rw (one, t) (ap (λ (v : List ℕ). Some v)
    (ap (λ (n : ℕ). leaves_root hash (take 1 (drop n L))) (sym one) ∙ node_here hash L slot h))
layer_value hash (suc layer) L slot h = value_above hash L layer slot ∙ layer_value hash layer (above_of hash L) slot h

-- ---- a path, step by step

pub length-layer : (hash : Hash) (layer : ℕ) (L : List (List ℕ)) (last : ℕ) →
    length (layer_of hash layer L) ≡ last + 1 → length (layer_of hash (layer + 1) L) ≡ last / 2 + 1
length-layer hash layer L last e =
    ap length (layer_more hash layer L) ∙ length-above hash itself (layer_of hash layer L) ∙ omega arith

-- the sibling of a node
abbrev pub IsSibling : ℕ → ℕ → Type 0
IsSibling node s = ((i : ℕ) × (node ≡ i + i) × (s ≡ suc node)) ⊎ ((i : ℕ) × (node ≡ suc s) × (s ≡ i + i))

pub even_sibling : (node s : ℕ) → node % 2 ≡ 0 → s ≡ node + 1 → IsSibling node s
even_sibling node s e n = inl (node / 2, omega arith, omega arith)

pub odd_sibling : (node s : ℕ) → (node % 2 ≡ 0 → ⊥) → s ≡ node - 1 → IsSibling node s
odd_sibling node s e n =
    elim (cases_eq (node % 2) 0) [
      | inl zero_rest ↦ absurd (e zero_rest)
      | inr other ↦ inr (node / 2, omega arith, omega arith)
    ]

sibling_there : (hash : Hash) (M : List (List ℕ)) (node last s : ℕ) → length M ≡ last + 1 → node ≤ last →
    IsSibling node s → s ≤ last → sibling itself node M ≡ get_or M s [] ∷ []
sibling_there hash M node last s long within is there = elim is [
  | inl (i, e, n) ↦
      (pair_at hash itself i node M [] [] e (omega arith)).1 ∙ ap (λ (j : ℕ). get_or M j [] ∷ []) (sym n)
  | inr (i, e, n) ↦
      ap (λ (j : ℕ). sibling itself j M) e ∙ (pair_at hash itself i s M [] [] n (omega arith)).2
]

sibling_gone : (hash : Hash) (M : List (List ℕ)) (node last s : ℕ) → length M ≡ last + 1 → node ≤ last →
    IsSibling node s → last < s → sibling itself node M ≡ []
sibling_gone hash M node last s long within is past = elim is [
  | inl (i, e, n) ↦ (only_at hash itself i node M [] [] e (omega arith)).1
  | inr (i, e, n) ↦ absurd (omega arith)
]

values_push : (hash : Hash) (leaves : List (List ℕ)) (nodes : List NodeId) (layer slot : ℕ) →
    values_at hash leaves (nodes ++ id_of layer slot ∷ [])
    ≡ values_at hash leaves nodes ++ value_at hash leaves (id_of layer slot) ∷ []
values_push hash leaves nodes layer slot =
    map-append (value_at hash leaves) nodes (id_of layer slot ∷ [])

pub path_taken : (hash : Hash) (leaves : List (List ℕ)) (layer node last s : ℕ) (nodes more : List NodeId) →
    more ≡ nodes ++ id_of layer s ∷ [] → length (layer_of hash layer leaves) ≡ last + 1 → node ≤ last →
    IsSibling node s → s ≤ last →
    values_at hash leaves more ++ all_there (path hash itself (node / 2) (layer_of hash (layer + 1) leaves))
    ≡ values_at hash leaves nodes ++ all_there (path hash itself node (layer_of hash layer leaves))
path_taken hash leaves layer node last s nodes more are long within is there =
    let M = layer_of hash layer leaves in
    let tail = path hash itself (node / 2) (above hash itself M) in
    let whole : path hash itself node M ≡ get_or M s [] ∷ tail =
    path_above hash itself node M (omega arith)
    ∙ ap (λ (ds : List (List ℕ)). ds ++ tail) (sibling_there hash M node last s long within is there) in
    let value = layer_value hash layer leaves s (omega arith) in
    let up = layer_more hash layer leaves in
    rw (are, up, values_push hash leaves nodes layer s, value, whole)
    (append_assoc (values_at hash leaves nodes) (Some (get_or M s []) ∷ []) (all_there tail))

pub path_passed : (hash : Hash) (leaves : List (List ℕ)) (layer node last s : ℕ) (nodes : List NodeId) →
    length (layer_of hash layer leaves) ≡ last + 1 → node ≤ last → IsSibling node s → last < s →
    values_at hash leaves nodes ++ all_there (path hash itself (node / 2) (layer_of hash (layer + 1) leaves))
    ≡ values_at hash leaves nodes ++ all_there (path hash itself node (layer_of hash layer leaves))
path_passed hash leaves layer node last s nodes long within is past =
    let M = layer_of hash layer leaves in
    let tail = path hash itself (node / 2) (above hash itself M) in
    let whole : path hash itself node M ≡ tail =
    path_above hash itself node M (omega arith)
    ∙ ap (λ (ds : List (List ℕ)). ds ++ tail) (sibling_gone hash M node last s long within is past) in
    let up = layer_more hash layer leaves in
    rw (up, whole)

pub path_of_one : (hash : Hash) (M : List (List ℕ)) (node : ℕ) → length M ≡ 1 → path hash itself node M ≡ []
unfolding path_within
path_of_one hash [] node e = absurd (omega arith)
path_of_one hash (x ∷ []) node e = refl
path_of_one hash (x ∷ (y ∷ rest)) node e = absurd (omega arith)

-- ---- proofs of consistency begin at a node of a layer

pub proof_half : (hash : Hash) (M : List (List ℕ)) (old : ℕ) → 0 < old → old % 2 ≡ 0 → old ≤ length M →
    subproof hash itself (old / 2) (above hash itself M) true ≡ subproof hash itself old M true
proof_half hash M old some even within =
    let i = old / 2 in
    let twice : old ≡ i + i = omega arith in
    sym (ap (λ (n : ℕ). subproof hash itself n M true) twice
    ∙ sub-even (length M) (length (above hash itself M)) hash itself i M true (omega arith) (omega arith) (omega arith)
    (omega arith))

pub proof_odd : (hash : Hash) (M : List (List ℕ)) (old : ℕ) → (old % 2 ≡ 0 → ⊥) → 1 < old → old < length M →
    subproof hash itself old M true ≡ get_or M (old - 1) [] ∷ path hash itself (old - 1) M
proof_odd hash M old odd more within = elim (cases_eq (old % 2) 0) [
  | inl even ↦ absurd (odd even)
  | inr other ↦
      let i = old / 2 in
      let twice : old ≡ suc (i + i) = omega arith in
      let less : i + i ≡ old - 1 = omega arith in
      ap (λ (n : ℕ). subproof hash itself n M true) twice
      ∙ sub-odd (length M) hash itself i M true [] (inr (omega arith)) (inl (omega arith)) (omega arith) (omega arith)
      ∙ ap (λ (n : ℕ). get_or M n [] ∷ path hash itself n M) less
]

pub proof_one : (hash : Hash) (M : List (List ℕ)) (old : ℕ) → old ≡ 1 → 0 < length M →
    subproof hash itself old M true ≡ path hash itself (old - 1) M
proof_one hash M old one some =
    let none : 0 ≡ old - 1 = omega arith in
    ap (λ (n : ℕ). subproof hash itself n M true) one ∙ sub-one (length M) hash itself M some (omega arith)
    ∙ ap (λ (n : ℕ). path hash itself n M) none

-- the node, if the verifier does not have its value, and its path
pub consistency_is : (hash : Hash) (leaves : List (List ℕ)) (layer old last : ℕ) (nodes : List NodeId)
    (proof : List (List ℕ)) → length (layer_of hash layer leaves) ≡ last + 1 → old ≤ last →
    subproof hash itself old (layer_of hash layer leaves) true ≡ proof → (old % 2 ≡ 0 → ⊥) →
    ((1 < old) × (nodes ≡ [] ++ id_of layer (old - 1) ∷ [])) ⊎ ((old ≡ 1) × (nodes ≡ [])) →
    values_at hash leaves nodes ++ all_there (path hash itself (old - 1) (layer_of hash layer leaves))
    ≡ all_there proof
consistency_is hash leaves layer old last nodes proof long below is odd first =
    let M = layer_of hash layer leaves in
    elim first [
      | inl (more, one) ↦
          let value = layer_value hash layer leaves (old - 1) (omega arith) in
          let parts = proof_odd hash M old odd more (omega arith) in
          rw (one, value) (ap all_there (sym parts ∙ is))
      | inr (single, none) ↦
          let parts = proof_one hash M old single (omega arith) in
          rw none (ap all_there (sym parts ∙ is))
    ]
