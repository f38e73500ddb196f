-- The whole nodes of a layer, and of the layer with one node more.
use Rattle.std.proofs.Common.{◌≡◌, ◌∙◌, ◌+◌, ◌-◌, ◌*◌, ◌%◌, ◌/◌, ◌^◌, ◌≤◌, ℕ, List, [], ◌∷◌, ◌++◌, ap, arith, drop}
use Rattle.std.proofs.Common.{inl, inr, length, refl, sym, take}
use Rattle.std.specs.Prelude.{count_ones, slice_index_or, slice_set}
use Rattle.std.proofs.lemmas.Bool.Decides.{leb_tells}
use Rattle.std.proofs.lemmas.List.{append-nil, drop_at, length-take-le, nil_from_length, take_at, take_more}
use Rattle.std.proofs.lemmas.List.{take_more_set}
use Rattle.std.proofs.lemmas.Nat.{ones_le_self}
use lib.Count.{ones-le, ones_cat, ones_step}
use Rattle.tlog.specs.Rfc9162.{Hash, node_hash}
use Rattle.tlog_tree.specs.Inner.Layers.{parents_of}
use Rattle.tlog_tree.specs.Trees.{whole_nodes}
use Rattle.tlog_tree.proofs.Whole.{count_whole, cut_whole, length-parents, length-single, single, whole_by_layers}
use Rattle.tlog_tree.proofs.Whole.{whole_grows, whole_none}

-- a node after an even number of them is one whole node more
pub whole_after_even : (hash : Hash) (L : List (List ℕ)) (node : List ℕ) → length L % 2 ≡ 0 →
    whole_nodes hash (L ++ node ∷ []) ≡ whole_nodes hash L ++ node ∷ []
whole_after_even hash L node even =
    let none : single L ≡ [] = nil_from_length (single L) (omega (arith, length-single L)) in
    let before : whole_nodes hash L ≡ whole_nodes hash (parents_of hash L) =
    whole_by_layers hash L ∙ rw none (append-nil (whole_nodes hash (parents_of hash L))) in
    whole_grows hash L (node ∷ []) ∙ rw none
    (ap (λ nodes. whole_nodes hash nodes ++ node ∷ []) (append-nil (parents_of hash L))
    ∙ ap (λ nodes. nodes ++ node ∷ []) (sym before))

-- the parent of a node after an odd number of them, and of the last of these, goes after the layer above, whose whole
-- nodes stand before that last one
pub record IsAbove (hash : Hash) (L digests : List (List ℕ)) (last node : List ℕ) : Type 0 where
  pub long : length (parents_of hash L) ≡ length L / 2
  pub front : take (count_ones (length L / 2)) digests ≡ whole_nodes hash (parents_of hash L)
  pub grown : whole_nodes hash (L ++ node ∷ []) ≡ whole_nodes hash (parents_of hash L ++ node_hash hash last node ∷ [])

pub whole_after_odd : (hash : Hash) (L digests : List (List ℕ)) (last node d : List ℕ) → length L % 2 ≡ 1 →
    count_ones (length L) ≤ length digests → take (count_ones (length L)) digests ≡ whole_nodes hash L →
    last ≡ slice_index_or digests (count_ones (length L) - 1) d → IsAbove hash L digests last node
whole_after_odd hash L digests last node d odd room are is =
    let n = length L in
    let c = count_ones n in
    let nodes = whole_nodes hash L in
    let k = count_ones (n / 2) in
    let step = ones_step n in
    let one : c ≡ k + 1 = omega arith in
    let place : c - 1 ≡ k = omega arith in
    let read : last ≡ slice_index_or digests k d = is ∙ ap (λ (i : ℕ). slice_index_or digests i d) place in
    let parts : nodes ≡ take k digests ++ last ∷ [] =
    sym are ∙ ap (λ (i : ℕ). take i digests) one ∙ take_more digests k d (omega arith)
    ∙ ap (λ x. take k digests ++ x ∷ []) (sym read) in
    let len : length (take k digests) ≡ k = length-take-le k digests (omega arith) in
    let at : k ≡ length nodes - n % 2 = omega (arith, count_whole hash L) in
    let cut = cut_whole hash L nodes (take k digests) (last ∷ []) n k refl refl at
    (sym (ap (take k) parts ∙ take_at (take k digests) (last ∷ []) k len))
    (sym (ap (drop k) parts ∙ drop_at (take k digests) (last ∷ []) k len)) in
    let behind : last ∷ [] ≡ single L = cut.back in
    record {
      long = length-parents hash L;
      front = cut.front;
      grown = whole_grows hash L (node ∷ []) ∙ rw (← behind) (append-nil
          (whole_nodes hash (parents_of hash L ++ node_hash hash last node ∷ [])));
    }

-- a number up to 2^62 has 62 ones at most
pub few_ones : (n : ℕ) → n ≤ 2 ^ 62 → count_ones n ≤ 62
few_ones n h = elim (leb_tells (2 ^ 62) n) [
  | inl (t, top) ↦
      let all : n ≡ 1 * 2 ^ 62 + 0 = omega arith in
      rw all (omega (arith, ones_cat 62 1 0 (omega arith), ones-le 1 1 (omega arith), ones-le 0 0 (omega arith)))
  | inr (t, less) ↦ ones-le 62 n (omega arith)
]

-- after an odd number of nodes, one more leaves as many ones as one more does in the layer above
pub ones_above : (n : ℕ) → n % 2 ≡ 1 → count_ones (n + 1) ≡ count_ones (n / 2 + 1)
ones_above n odd =
    let half : (n + 1) / 2 ≡ n / 2 + 1 = omega arith in
    let step = ones_step (n + 1) in
    omega (arith, ap count_ones half)

pub ones_even : (n : ℕ) → n % 2 ≡ 0 → count_ones (n + 1) ≡ count_ones n + 1
ones_even n even =
    let half : (n + 1) / 2 ≡ n / 2 = omega arith in
    omega (arith, ones_step n, ones_step (n + 1), ap count_ones half)

-- a node after an even number of them is put behind their whole nodes
pub put_even : (hash : Hash) (L digests : List (List ℕ)) (node : List ℕ) (n : ℕ) → n % 2 ≡ 0 → length L ≡ n →
    count_ones (n + 1) ≤ length digests → take (count_ones n) digests ≡ whole_nodes hash L →
    take (count_ones (n + 1)) (slice_set digests (count_ones n) node) ≡ whole_nodes hash (L ++ node ∷ [])
put_even hash L digests node n even long room are =
    let more = ones_even n even in
    ap (λ k. take k (slice_set digests (count_ones n) node)) more
    ∙ take_more_set digests (count_ones n) node (omega (arith, more))
    ∙ ap (λ nodes. nodes ++ node ∷ []) are
    ∙ sym (whole_after_even hash L node (ap (λ k. k % 2) long ∙ even))

-- after an odd number, what is put into the layer above is their parent
pub put_odd : (hash : Hash) (L digests new : List (List ℕ)) (last node parent d : List ℕ) (n : ℕ) → n % 2 ≡ 1 →
    length L ≡ n → count_ones n ≤ length digests → take (count_ones n) digests ≡ whole_nodes hash L →
    last ≡ slice_index_or digests (count_ones n - 1) d → parent ≡ node_hash hash last node →
    ((M : List (List ℕ)) → length M ≡ n / 2 → take (count_ones (n / 2)) digests ≡ whole_nodes hash M →
    take (count_ones (n / 2 + 1)) new ≡ whole_nodes hash (M ++ parent ∷ [])) →
    take (count_ones (n + 1)) new ≡ whole_nodes hash (L ++ node ∷ [])
put_odd hash L digests new last node parent d n odd long room are is parent_is deep =
    let c = ap count_ones long in
    let up = whole_after_odd hash L digests last node d (ap (λ k. k % 2) long ∙ odd) (omega (arith, c))
    (ap (λ k. take k digests) c ∙ are) (is ∙ ap (λ k. slice_index_or digests (k - 1) d) (sym c)) in
    let half = ap (λ k. k / 2) long in
    ap (λ k. take k new) (ones_above n odd)
    ∙ deep (parents_of hash L) (up.long ∙ half)
    (ap (λ k. take (count_ones k) digests) (sym half) ∙ up.front)
    ∙ ap (λ p. whole_nodes hash (parents_of hash L ++ p ∷ [])) parent_is
    ∙ sym up.grown

-- no digests are the whole nodes of nothing
pub whole_first : (hash : Hash) (digests : List (List ℕ)) (n : ℕ) → n ≡ 0 →
    take (count_ones n) digests ≡ whole_nodes hash []
whole_first hash digests n none =
    let no_ones : count_ones n ≡ 0 = omega (arith, ap count_ones none, ones_le_self 0) in
    ap (λ k. take k digests) no_ones ∙ sym (whole_none hash)
