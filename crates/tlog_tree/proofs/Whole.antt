-- The whole nodes of a log: step by step from the left, and from layer to layer.
use Rattle.std.proofs.Common.{◌≡◌, ℕ, zero, suc, ◌+◌, ◌-◌, ◌*◌, ◌/◌, ◌%◌, ◌^◌, ◌<◌, ◌≤◌, refl, sym, ap, ◌∙◌, arith}
use Rattle.std.proofs.Common.{List, [], ◌∷◌, ◌++◌, length, take, drop, length-append, length-drop, inl, inr}
use Rattle.std.proofs.Math.Nat.{div-div-eq-div-mul, div-mul-le_self, pow-succ'}
use Rattle.std.proofs.Math.Seq.{take-add}
use Rattle.std.proofs.lemmas.List.{drop-append-le, drop-drop, drop_all, drop_at, length-take-le, take_all, take_at}
use Rattle.std.proofs.lemmas.Bool.Decides.{leb_tells}
use Rattle.std.proofs.lemmas.Nat.{ones_le_self}
use Rattle.std.specs.Prelude.{Some, None, count_ones}
use lib.Count.{ones_step}
use Rattle.tlog.specs.Rfc9162.{Hash, mth_within, node_hash, split}
use Rattle.tlog.proofs.Honest.{root_more}
use Rattle.tlog.proofs.Layers.{above, itself, mth_above}
use Rattle.tlog.proofs.Splits.{split_by_power, split_is, split_of_half}
use Rattle.tlog_tree.specs.Inner.Layers.{joined, parents_of, root_of_rest}
use Rattle.tlog_tree.specs.Trees.{leaves_root, whole_nodes, whole_within}

-- the first subtree of some leaves: as many as the largest power of two that is not above their number
pub record IsFirst (n k : ℕ) : Type 0 where
  pub some : 0 < k
  pub within : k ≤ n
  pub half : n < k + k
  pub power : (j : ℕ) × (k ≡ 2 ^ j)

pub first_is : (n : ℕ) → 0 < n → IsFirst n (split (n + 1))
first_is n some =
    let s = split_is (n + 1) (omega arith) in
    let below = s.below in let half = s.half in
    record { some = s.some; within = omega arith; half = omega arith; power = s.power }

-- ---- step by step

any_depth : (a b : ℕ) (hash : Hash) (L : List (List ℕ)) → length L ≤ a → length L ≤ b →
    whole_within a hash L ≡ whole_within b hash L
unfolding whole_within
any_depth zero zero hash L h i = refl
any_depth zero (suc b) hash [] h i = refl
any_depth zero (suc b) hash (d ∷ rest) h i = absurd (omega arith)
any_depth (suc a) zero hash [] h i = refl
any_depth (suc a) zero hash (d ∷ rest) h i = absurd (omega arith)
any_depth (suc a) (suc b) hash [] h i = refl
any_depth (suc a) (suc b) hash (d ∷ rest) h i =
    let k = split (length (d ∷ rest) + 1) in
    let f = first_is (length (d ∷ rest)) (omega arith) in
    let some = f.some in
    let len = length-drop k (d ∷ rest) in
    ap (λ (nodes : List (List ℕ)). leaves_root hash (take k (d ∷ rest)) ∷ nodes)
    (any_depth a b hash (drop k (d ∷ rest)) (omega arith) (omega arith))

pub whole_step : (hash : Hash) (L : List (List ℕ)) → 0 < length L →
    whole_nodes hash L
    ≡ leaves_root hash (take (split (length L + 1)) L) ∷ whole_nodes hash (drop (split (length L + 1)) L)
unfolding whole_within
whole_step hash [] some = absurd (omega arith)
whole_step hash (d ∷ rest) some =
    let k = split (length (d ∷ rest) + 1) in
    let f = first_is (length (d ∷ rest)) some in
    let one = f.some in
    let len = length-drop k (d ∷ rest) in
    ap (λ (nodes : List (List ℕ)). leaves_root hash (take k (d ∷ rest)) ∷ nodes)
    (any_depth (length rest) (length (drop k (d ∷ rest))) hash (drop k (d ∷ rest)) (omega arith) (omega arith))

pub whole_none : (hash : Hash) → whole_nodes hash [] ≡ []
unfolding whole_within
whole_none hash = refl

pub some_whole : (hash : Hash) (L : List (List ℕ)) → 0 < length L → 0 < length (whole_nodes hash L)
some_whole hash L some = rw (whole_step hash L some) (omega arith)

-- ---- the root

joined_more : (hash : Hash) (node : List ℕ) (rest : List (List ℕ)) → 0 < length rest →
    joined hash (node ∷ rest) ≡ node_hash hash node (joined hash rest)
joined_more hash node [] some = absurd (omega arith)
joined_more hash node (next ∷ rest) some = refl

root_none : (hash : Hash) → leaves_root hash [] ≡ hash []
unfolding mth_within
root_none hash = refl

root_by_whole : (depth : ℕ) (hash : Hash) (L : List (List ℕ)) → length L ≤ depth →
    leaves_root hash L ≡ joined hash (whole_nodes hash L)
root_by_whole depth hash [] h = root_none hash ∙ ap (joined hash) (sym (whole_none hash))
root_by_whole zero hash (d ∷ rest) h = absurd (omega arith)
root_by_whole (suc depth) hash (d ∷ rest) h =
    let L = d ∷ rest in
    let n = length L in
    let k = split (n + 1) in
    let f = first_is n (omega arith) in
    let some = f.some in let within = f.within in let half = f.half in
    let len = length-drop k L in
    let step = whole_step hash L (omega arith) in
    elim (leb_tells n k) [
      | inl (t, all) ↦
          let front : take k L ≡ L = take_all k L all in
          let back : drop k L ≡ [] = drop_all k L all in
          sym (ap (joined hash) step ∙ rw (back, whole_none hash, front))
      | inr (t, more) ↦
          let i = f.power.0 in
          let e : k ≡ 2 ^ i = f.power.1 in
          let same : k ≡ split n = e ∙ split_by_power n i (omega arith) (omega arith) (omega arith) in
          let behind = root_by_whole depth hash (drop k L) (omega arith) in
          root_more hash (λ leaf. leaf) L (omega arith) ∙ rw (← same, behind)
          (sym (ap (joined hash) step ∙ joined_more hash _ (whole_nodes hash (drop k L))
          (some_whole hash (drop k L) (omega arith))))
    ]

-- the root is joined from the whole nodes
pub root_is_joined : (hash : Hash) (L : List (List ℕ)) → leaves_root hash L ≡ joined hash (whole_nodes hash L)
root_is_joined hash L = root_by_whole (length L) hash L (omega arith)

-- ---- the layer above

-- the last node of a layer, if it has no sibling
abbrev pub single : List (List ℕ) → List (List ℕ)
single [] = []
single (node ∷ []) = node ∷ []
single (left ∷ (right ∷ rest)) = single rest

pub length-parents : (hash : Hash) (L : List (List ℕ)) → length (parents_of hash L) ≡ length L / 2
length-parents hash [] = refl
length-parents hash (node ∷ []) = refl
length-parents hash (left ∷ (right ∷ rest)) = let h = length-parents hash rest in omega arith

pub length-single : (L : List (List ℕ)) → length (single L) ≡ length L % 2
length-single [] = refl
length-single (node ∷ []) = refl
length-single (left ∷ (right ∷ rest)) = let h = length-single rest in omega arith

pub single_is : (L : List (List ℕ)) (n : ℕ) → n ≡ length L / 2 → drop (2 * n) L ≡ single L
single_is [] zero e = refl
single_is [] (suc n) e = absurd (omega arith)
single_is (node ∷ []) zero e = refl
single_is (node ∷ []) (suc n) e = absurd (omega arith)
single_is (left ∷ (right ∷ rest)) zero e = absurd (omega arith)
single_is (left ∷ (right ∷ rest)) (suc n) e =
    let twice : 2 * suc n ≡ suc (suc (2 * n)) = omega arith in rw twice (single_is rest n (omega arith))

pub parents-append : (hash : Hash) (L M : List (List ℕ)) →
    parents_of hash (L ++ M) ≡ parents_of hash L ++ parents_of hash (single L ++ M)
parents-append hash [] M = refl
parents-append hash (node ∷ []) M = refl
parents-append hash (left ∷ (right ∷ rest)) M =
    ap (λ (nodes : List (List ℕ)). node_hash hash left right ∷ nodes) (parents-append hash rest M)

pub single-append : (L M : List (List ℕ)) → single (L ++ M) ≡ single (single L ++ M)
single-append [] M = refl
single-append (node ∷ []) M = refl
single-append (left ∷ (right ∷ rest)) M = single-append rest M

-- the first k nodes, an even number, and the others
pub parents_parts : (hash : Hash) (j k : ℕ) (L : List (List ℕ)) → k ≡ j + j → k ≤ length L →
    (parents_of hash (take k L) ≡ take j (parents_of hash L))
    × (parents_of hash (drop k L) ≡ drop j (parents_of hash L)) × (single (drop k L) ≡ single L)
parents_parts hash zero zero L e h = (refl, refl, refl)
parents_parts hash zero (suc k) L e h = absurd (omega arith)
parents_parts hash (suc j) zero L e h = absurd (omega arith)
parents_parts hash (suc j) (suc zero) L e h = absurd (omega arith)
parents_parts hash (suc j) (suc (suc k)) [] e h = absurd (omega arith)
parents_parts hash (suc j) (suc (suc k)) (node ∷ []) e h = absurd (omega arith)
parents_parts hash (suc j) (suc (suc k)) (left ∷ (right ∷ rest)) e h =
    let up = parents_parts hash j k rest (omega arith) (omega arith) in
    (ap (λ (nodes : List (List ℕ)). node_hash hash left right ∷ nodes) up.0, up.1, up.2)

parents_are_above : (hash : Hash) (j : ℕ) (L : List (List ℕ)) → length L ≡ j + j →
    parents_of hash L ≡ above hash itself L
parents_are_above hash j [] e = refl
parents_are_above hash j (node ∷ []) e = absurd (omega arith)
parents_are_above hash zero (left ∷ (right ∷ rest)) e = absurd (omega arith)
parents_are_above hash (suc j) (left ∷ (right ∷ rest)) e =
    ap (λ (nodes : List (List ℕ)). node_hash hash left right ∷ nodes) (parents_are_above hash j rest (omega arith))

-- an even number of leaves has the root of their parents
pub root_of_parents : (hash : Hash) (j : ℕ) (L : List (List ℕ)) → length L ≡ j + j → 0 < length L →
    leaves_root hash L ≡ leaves_root hash (parents_of hash L)
root_of_parents hash j L e some =
    mth_above hash itself L some ∙ ap (leaves_root hash) (sym (parents_are_above hash j L e))

root_one : (hash : Hash) (node : List ℕ) →
    leaves_root hash (take 1 (node ∷ [])) ∷ whole_nodes hash (drop 1 (node ∷ [])) ≡ node ∷ []
unfolding mth_within whole_within
root_one hash node = refl

whole_one : (hash : Hash) (node : List ℕ) → whole_nodes hash (node ∷ []) ≡ node ∷ []
whole_one hash node =
    let f = first_is 1 (omega arith) in
    let some = f.some in let within = f.within in
    let one : split 2 ≡ 1 = omega arith in
    whole_step hash (node ∷ []) (omega arith) ∙ rw one (root_one hash node)

by_layers : (depth : ℕ) (hash : Hash) (L : List (List ℕ)) → length L ≤ depth →
    whole_nodes hash L ≡ whole_nodes hash (parents_of hash L) ++ single L
by_layers depth hash [] h = rw whole_none
by_layers depth hash (node ∷ []) h = whole_one hash node ∙ rw whole_none
by_layers zero hash (left ∷ (right ∷ rest)) h = absurd (omega arith)
by_layers (suc depth) hash (left ∷ (right ∷ rest)) h =
    let L = left ∷ (right ∷ rest) in
    let n = length L in
    let k = split (n + 1) in
    let up = parents_of hash L in
    let j = split (length up + 1) in
    let len = length-parents hash L in
    let twice : k ≡ j + j = split_of_half (n + 1) (length up + 1) (omega arith) (omega arith) in
    let f = first_is n (omega arith) in
    let some = f.some in let within = f.within in
    let rest_len = length-drop k L in
    let first_len : length (take k L) ≡ k = length-take-le k L within in
    let root = root_of_parents hash j (take k L) (first_len ∙ twice) (omega arith) in
    let behind = by_layers depth hash (drop k L) (omega arith) in
    let parts = parents_parts hash j k L twice within in
    whole_step hash L (omega arith) ∙ rw (root, parts.0, behind, parts.1, parts.2)
    (ap (λ (nodes : List (List ℕ)). nodes ++ single L) (sym (whole_step hash up (omega arith))))

-- the whole nodes are those of the layer above, and the last node if it has no sibling
pub whole_by_layers : (hash : Hash) (L : List (List ℕ)) →
    whole_nodes hash L ≡ whole_nodes hash (parents_of hash L) ++ single L
whole_by_layers hash L = by_layers (length L) hash L (omega arith)

-- the whole nodes of a layer are cut before the last node, if it has no sibling
pub record AreCut (hash : Hash) (L higher lowest : List (List ℕ)) : Type 0 where
  pub front : higher ≡ whole_nodes hash (parents_of hash L)
  pub back : lowest ≡ single L

pub cut_whole : (hash : Hash) (L nodes higher lowest : List (List ℕ)) (size at : ℕ) → length L ≡ size →
    nodes ≡ whole_nodes hash L → at ≡ length nodes - size % 2 → higher ≡ take at nodes → lowest ≡ drop at nodes →
    AreCut hash L higher lowest
cut_whole hash L nodes higher lowest size at long are place front back =
    let up = whole_nodes hash (parents_of hash L) in
    let parts : nodes ≡ up ++ single L = are ∙ whole_by_layers hash L in
    let len : length nodes ≡ length up + length (single L) = ap length parts ∙ length-append up (single L) in
    let rest = length-single L in
    let same : size % 2 ≡ length L % 2 = ap (λ (n : ℕ). n % 2) (sym long) in
    let is : length up ≡ at = omega arith in
    record {
      front = front ∙ ap (take at) parts ∙ take_at up (single L) at is;
      back = back ∙ ap (drop at) parts ∙ drop_at up (single L) at is;
    }

-- more nodes after a layer: those above go after the layer above
pub whole_grows : (hash : Hash) (L more : List (List ℕ)) →
    whole_nodes hash (L ++ more)
    ≡ whole_nodes hash (parents_of hash L ++ parents_of hash (single L ++ more)) ++ single (single L ++ more)
whole_grows hash L more =
    whole_by_layers hash (L ++ more) ∙ rw (parents-append hash L more, single-append L more)

none_of_zero : count_ones 0 ≡ 0
none_of_zero = omega (arith, ones_le_self 0)

count_within : (depth : ℕ) (hash : Hash) (L : List (List ℕ)) → length L ≤ depth →
    length (whole_nodes hash L) ≡ count_ones (length L)
count_within depth hash [] h = ap length (whole_none hash) ∙ sym (none_of_zero)
count_within zero hash (node ∷ rest) h = absurd (omega arith)
count_within (suc depth) hash (node ∷ rest) h =
    let L = node ∷ rest in
    let up = length-parents hash L in
    let last = length-single L in
    let above = count_within depth hash (parents_of hash L) (omega arith) in
    let parts = ap length (whole_by_layers hash L)
    ∙ length-append (whole_nodes hash (parents_of hash L)) (single L) in
    let half : count_ones (length (parents_of hash L)) ≡ count_ones (length L / 2) = ap count_ones up in
    omega (arith, parts, last, above, half, ones_step (length L))

-- there are as many as ones in the size's binary digits
pub count_whole : (hash : Hash) (L : List (List ℕ)) → length (whole_nodes hash L) ≡ count_ones (length L)
count_whole hash L = count_within (length L) hash L (omega arith)

-- ---- pieces

-- the next piece, of what is left after the first ones
pub record IsNext (all rest chunk behind : List (List ℕ)) : Type 0 where
  pub left : behind ≡ drop (length all - length behind) all
  pub taken : take (length all - length behind) all ≡ take (length all - length rest) all ++ chunk
  pub count : length all - length behind ≡ length all - length rest + length chunk
  pub within : length behind ≤ length all

pub next_piece : (all rest chunk behind : List (List ℕ)) (m : ℕ) → length rest ≤ length all →
    rest ≡ drop (length all - length rest) all → m ≤ length rest → chunk ≡ take m rest → behind ≡ drop m rest →
    IsNext all rest chunk behind
next_piece all rest chunk behind m within left fits front back =
    let d = length all - length rest in
    let len : length behind ≡ length rest - m = ap length back ∙ length-drop m rest in
    let first : length chunk ≡ m = ap length front ∙ length-take-le m rest fits in
    let at : length all - length behind ≡ d + m = omega arith in
    record {
      left = back ∙ ap (drop m) left ∙ drop-drop m d all ∙ ap (λ (n : ℕ). drop n all) (sym at);
      taken = ap (λ (n : ℕ). take n all) at ∙ take-add d m all
          ∙ ap (λ (xs : List (List ℕ)). take d all ++ xs) (sym (front ∙ ap (take m) left));
      count = omega arith;
      within = omega arith;
    }

-- ---- after the first nodes of a layer

pub fewer_ones : (l n : ℕ) → count_ones (n / 2 ^ l) ≤ count_ones n
fewer_ones zero n = let e : n / 1 ≡ n = omega arith in rw e (omega arith)
fewer_ones (suc l) n =
    let half : n / 2 ^ suc l ≡ n / 2 / 2 ^ l =
    ap (λ (m : ℕ). n / m) (pow-succ' 2 l) ∙ sym (div-div-eq-div-mul n 2 (2 ^ l)) in
    let deep = fewer_ones l (n / 2) in
    rw half (omega (arith, ones_step n, deep))

-- the whole nodes of the first nodes of a layer, as many as have all their leaves, come before those of the leaves
-- after them
pub behind_layer : (l : ℕ) (hash : Hash) (L : List (List ℕ)) →
    drop (count_ones (length L / 2 ^ l)) (whole_nodes hash L) ≡ whole_nodes hash (drop (length L / 2 ^ l * 2 ^ l) L)
behind_layer zero hash L =
    let n : length L / 1 ≡ length L = omega arith in
    let all : length L * 1 ≡ length L = omega arith in
    let count = count_whole hash L in
    rw (n, all) (drop_all (count_ones (length L)) (whole_nodes hash L) (omega arith)
    ∙ sym (ap (whole_nodes hash) (drop_all (length L) L (omega arith)) ∙ whole_none hash))
behind_layer (suc l) hash L =
    let P = parents_of hash L in
    let m = 2 ^ l in
    let len = length-parents hash L in
    let half : length L / 2 ^ suc l ≡ length P / m =
    ap (λ (n : ℕ). length L / n) (pow-succ' 2 l) ∙ sym (div-div-eq-div-mul (length L) 2 m)
    ∙ ap (λ (n : ℕ). n / m) (sym len) in
    let j = length P / m * m in
    let k = length L / 2 ^ suc l * 2 ^ suc l in
    let twice : k ≡ j + j =
    ap (λ (n : ℕ). n * 2 ^ suc l) half ∙ ap (λ (n : ℕ). length P / m * n) (pow-succ' 2 l) ∙ omega arith in
    let within : k ≤ length L = div-mul-le_self (length L) (2 ^ suc l) in
    let few = fewer_ones l (length P) in
    let count = count_whole hash P in
    ap (λ (n : ℕ). drop (count_ones n) (whole_nodes hash L)) half
    ∙ ap (drop (count_ones (length P / m))) (whole_by_layers hash L)
    ∙ drop-append-le (count_ones (length P / m)) (whole_nodes hash P) (single L) (omega arith)
    ∙ ap (λ (nodes : List (List ℕ)). nodes ++ single L) (behind_layer l hash P)
    ∙ sym (whole_by_layers hash (drop k L)
    ∙ rw ((parents_parts hash j k L twice within).1, (parents_parts hash j k L twice within).2))

-- the root of what they are the whole nodes of
pub root_by_rest : (hash : Hash) (M behind : List (List ℕ)) → behind ≡ whole_nodes hash M → 0 < length behind →
    Some (joined hash behind) ≡ root_of_rest hash M
root_by_rest hash [] behind are some = absurd (omega (arith, ap length (are ∙ whole_none hash)))
root_by_rest hash (leaf ∷ rest) behind are some =
    ap (λ (node : List ℕ). Some node) (ap (joined hash) are ∙ sym (root_is_joined hash (leaf ∷ rest)))

pub no_rest : (hash : Hash) (M behind : List (List ℕ)) → behind ≡ whole_nodes hash M → length behind ≡ 0 →
    None ≡ root_of_rest hash M
no_rest hash [] behind are none = refl
no_rest hash (leaf ∷ rest) behind are none =
    absurd (omega (arith, ap length are, some_whole hash (leaf ∷ rest) (omega arith)))
