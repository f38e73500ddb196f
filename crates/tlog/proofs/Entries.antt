-- Lists of entries: `==`, and their roots.
use Rattle.std.proofs.Common.{◌≡◌, ◌≢◌, ℕ, suc, ◌-◌, ◌<◌, ◌≤◌, ◌++◌, List, [], ◌∷◌, length, get_or, take, drop, refl}
use Rattle.std.proofs.Common.{sym, ap, ◌∙◌, arith, Vec, Global}
use Rattle.std.proofs.lemmas.List.{drop-map, drop_at, take-append-drop, take-map, take_at}
use Rattle.std.specs.Prelude.{nat_eq, Bool, true, false}
use Rattle.std.specs.Bool.{Decides}
use Rattle.std.specs.Cmp.Lexicographic.{bytes_decides, pointwise, pointwise_decides}
use Rattle.std.specs.Cmp.Derive.Mapped.{pointwise-map}
use Rattle.tlog.specs.Collisions.{entries_of}
use Rattle.tlog.specs.Inner.Inputs.{root_input}
use Rattle.tlog.specs.Rfc9162.{path_of}
use Rattle.tlog.specs.Rfc9162.{path_within, subproof_of, Hash, leaf_hash, mth_within, node_hash, root_of, split}
use Rattle.tlog.proofs.Honest.{path_left, path_right, root_more, sub_left, sub_right, sub_whole}

-- the test of entries decides that they are the same byte strings
pub entries_decided : (d e : List (Vec ℕ Global)) →
    Decides (pointwise (λ x y. pointwise nat_eq x.items y.items) d e) (entries_of d ≡ entries_of e)
entries_decided d e =
    let both = pointwise_decides bytes_decides (entries_of d) (entries_of e) in
    let same = pointwise-map (λ (entry : Vec ℕ Global). entry.items) (pointwise nat_eq) d e in
    (λ t. both.0 (same ∙ t), λ t. sym same ∙ both.1 t)

pub length-entries : (v : List (Vec ℕ Global)) → length (entries_of v) ≡ length v
length-entries [] = refl
length-entries (x ∷ v) = ap suc (length-entries v)

-- ---- roots, as the code computes them

pub root_at_none : (hash : Hash) (v : List (Vec ℕ Global)) → length v < 1 → root_of hash (entries_of v) ≡ hash []
unfolding mth_within
root_at_none hash [] h = refl
root_at_none hash (x ∷ v) h = absurd (omega arith)

pub root_at_one : (hash : Hash) (v : List (Vec ℕ Global)) (x : Vec ℕ Global) → x ≡ get_or v 0 x → 0 < length v →
    length v < 2 → root_of hash (entries_of v) ≡ leaf_hash hash x.items
unfolding mth_within
root_at_one hash [] x e some one = absurd (omega arith)
root_at_one hash (y ∷ []) x e some one = ap (λ (z : Vec ℕ Global). leaf_hash hash z.items) (sym e)
root_at_one hash (y ∷ (z ∷ v)) x e some one = absurd (omega arith)

pub root_at_split : (hash : Hash) (v a b : List (Vec ℕ Global)) (k : ℕ) → 1 < length v → k ≡ split (length v) →
    a ≡ take k v → b ≡ drop k v →
    root_of hash (entries_of v) ≡ node_hash hash (root_of hash (entries_of a)) (root_of hash (entries_of b))
root_at_split hash v a b k more e left right =
    let len = length-entries v in
    let at : split (length (entries_of v)) ≡ k = ap split len ∙ sym e in
    let front : take k (entries_of v) ≡ entries_of a =
    take-map (λ (entry : Vec ℕ Global). entry.items) k v ∙ ap entries_of (sym left) in
    let back : drop k (entries_of v) ≡ entries_of b =
    drop-map (λ (entry : Vec ℕ Global). entry.items) k v ∙ ap entries_of (sym right) in
    root_more hash (leaf_hash hash) (entries_of v) (omega arith) ∙ rw (at, front, back)

-- ---- lists with one root

-- a root is the hash of the root's input
pub root_is_hashed : (hash : Hash) (D : List (List ℕ)) → hash (root_input hash D) ≡ root_of hash D
unfolding mth_within
root_is_hashed hash [] = refl
root_is_hashed hash (d ∷ []) = refl
root_is_hashed hash (d ∷ (e ∷ rest)) = sym (root_more hash (leaf_hash hash) (d ∷ (e ∷ rest)) (omega arith))

-- both halves of two byte strings of equally long halves
pub halves_equal : (n : ℕ) (a b c d : List ℕ) → length a ≡ n → length c ≡ n → a ++ b ≡ c ++ d → (a ≡ c) × (b ≡ d)
halves_equal n a b c d la lc e = (
  sym (take_at a b n la) ∙ ap (take n) e ∙ take_at c d n lc,
  sym (drop_at a b n la) ∙ ap (drop n) e ∙ drop_at c d n lc,
)

-- two different lists whose roots have one input are both split, and their halves have the same roots
pub record SameHalves (hash : Hash) (D E : List (List ℕ)) : Type 0 where
  pub more : 1 < length D
  pub other_more : 1 < length E
  pub left : root_of hash (take (split (length D)) D) ≡ root_of hash (take (split (length E)) E)
  pub right : root_of hash (drop (split (length D)) D) ≡ root_of hash (drop (split (length E)) E)

pub same_halves : (hash : Hash) (n : ℕ) → ((message : List ℕ) → length (hash message) ≡ n) → (D E : List (List ℕ)) →
    root_input hash D ≡ root_input hash E → D ≢ E → SameHalves hash D E
same_halves hash n short [] [] e differ = absurd (differ refl)
same_halves hash n short [] (y ∷ []) e differ = absurd cc
same_halves hash n short [] (y ∷ (z ∷ E)) e differ = absurd cc
same_halves hash n short (x ∷ []) [] e differ = absurd cc
same_halves hash n short (x ∷ []) (y ∷ []) e differ =
    let same : x ≡ y = cc in absurd (differ (ap (λ (v : List ℕ). v ∷ []) same))
same_halves hash n short (x ∷ []) (y ∷ (z ∷ E)) e differ = absurd cc
same_halves hash n short (x ∷ (w ∷ D)) [] e differ = absurd cc
same_halves hash n short (x ∷ (w ∷ D)) (y ∷ []) e differ = absurd cc
same_halves hash n short (x ∷ (w ∷ D)) (y ∷ (z ∷ E)) e differ =
    let rest : root_of hash (take (split (length (x ∷ (w ∷ D)))) (x ∷ (w ∷ D)))
    ++ root_of hash (drop (split (length (x ∷ (w ∷ D)))) (x ∷ (w ∷ D)))
    ≡ root_of hash (take (split (length (y ∷ (z ∷ E)))) (y ∷ (z ∷ E)))
    ++ root_of hash (drop (split (length (y ∷ (z ∷ E)))) (y ∷ (z ∷ E))) = cc in
    let len : (F : List (List ℕ)) → length (root_of hash F) ≡ n = λ F.
    ap length (sym (root_is_hashed hash F)) ∙ short (root_input hash F) in
    let both = halves_equal n _ _ _ _ (len _) (len _) rest in
    record { more = omega arith; other_more = omega arith; left = both.0; right = both.1 }

-- the halves of a list of entries
pub left_entries : (v a : List (Vec ℕ Global)) (k : ℕ) → k ≡ split (length v) → a ≡ take k v →
    take (split (length (entries_of v))) (entries_of v) ≡ entries_of a
left_entries v a k e left =
    ap (λ (n : ℕ). take (split n) (entries_of v)) (length-entries v) ∙ ap (λ (n : ℕ). take n (entries_of v)) (sym e)
    ∙ take-map (λ (entry : Vec ℕ Global). entry.items) k v ∙ ap entries_of (sym left)

pub right_entries : (v b : List (Vec ℕ Global)) (k : ℕ) → k ≡ split (length v) → b ≡ drop k v →
    drop (split (length (entries_of v))) (entries_of v) ≡ entries_of b
right_entries v b k e right =
    ap (λ (n : ℕ). drop (split n) (entries_of v)) (length-entries v) ∙ ap (λ (n : ℕ). drop n (entries_of v)) (sym e)
    ∙ drop-map (λ (entry : Vec ℕ Global). entry.items) k v ∙ ap entries_of (sym right)

-- a list is its halves
pub same_list : (D E : List (List ℕ)) → take (split (length D)) D ≡ take (split (length E)) E →
    drop (split (length D)) D ≡ drop (split (length E)) E → D ≡ E
same_list D E left right =
    sym (take-append-drop (split (length D)) D) ∙ rw (left, right) (take-append-drop (split (length E)) E)

-- ---- paths, as the code computes them

pub path_at_one : (hash : Hash) (m : ℕ) (v : List (Vec ℕ Global)) → length v ≡ 1 → path_of hash m (entries_of v) ≡ []
unfolding path_within
path_at_one hash m [] e = absurd (omega arith)
path_at_one hash m (x ∷ []) e = refl
path_at_one hash m (x ∷ (y ∷ v)) e = absurd (omega arith)

pub path_at_left : (hash : Hash) (m : ℕ) (v a b : List (Vec ℕ Global)) (k : ℕ) → 1 < length v → k ≡ split (length v) →
    a ≡ take k v → b ≡ drop k v → m < k →
    path_of hash m (entries_of v) ≡ path_of hash m (entries_of a) ++ root_of hash (entries_of b) ∷ []
path_at_left hash m v a b k more e left right h =
    let len = length-entries v in
    let at : split (length (entries_of v)) ≡ k = ap split len ∙ sym e in
    path_left hash (leaf_hash hash) m (entries_of v) (omega arith) (omega arith)
    ∙ rw (left_entries v a k e left, right_entries v b k e right)

pub path_at_right : (hash : Hash) (m : ℕ) (v a b : List (Vec ℕ Global)) (k : ℕ) → 1 < length v → k ≡ split (length v) →
    a ≡ take k v → b ≡ drop k v → k ≤ m → m < length v →
    path_of hash m (entries_of v) ≡ path_of hash (m - k) (entries_of b) ++ root_of hash (entries_of a) ∷ []
path_at_right hash m v a b k more e left right h within =
    let len = length-entries v in
    let at : split (length (entries_of v)) ≡ k = ap split len ∙ sym e in
    path_right hash (leaf_hash hash) m (entries_of v) (omega arith) (omega arith) (omega arith)
    ∙ rw (left_entries v a k e left, right_entries v b k e right, at)

-- ---- proofs of consistency, as the code computes them

pub sub_at_all : (hash : Hash) (m : ℕ) (v : List (Vec ℕ Global)) (b c : Bool) → m ≡ length v → 0 < m → b ≡ c →
    subproof_of hash m (entries_of v) b ≡ elim c [ true ↦ [] | false ↦ root_of hash (entries_of v) ∷ [] ]
sub_at_all hash m v b c all some is =
    let len = length-entries v in
    let e : m ≡ length (entries_of v) = all ∙ sym len in
    ap (λ (x : ℕ). subproof_of hash x (entries_of v) b) e
    ∙ ap (λ (x : Bool). subproof_of hash (length (entries_of v)) (entries_of v) x) is
    ∙ sub_whole hash (leaf_hash hash) (entries_of v) c (omega arith)

pub sub_at_left : (hash : Hash) (m : ℕ) (v l r : List (Vec ℕ Global)) (k : ℕ) (b : Bool) → 0 < m → m < length v →
    k ≡ split (length v) → l ≡ take k v → r ≡ drop k v → m ≤ k →
    subproof_of hash m (entries_of v) b
    ≡ subproof_of hash m (entries_of l) b ++ root_of hash (entries_of r) ∷ []
sub_at_left hash m v l r k b some within e left right h =
    let len = length-entries v in
    let at : split (length (entries_of v)) ≡ k = ap split len ∙ sym e in
    sub_left hash (leaf_hash hash) m (entries_of v) b some (omega arith) (omega arith)
    ∙ rw (left_entries v l k e left, right_entries v r k e right)

pub sub_at_right : (hash : Hash) (m : ℕ) (v l r : List (Vec ℕ Global)) (k : ℕ) (b : Bool) → m < length v →
    k ≡ split (length v) → l ≡ take k v → r ≡ drop k v → k < m →
    subproof_of hash m (entries_of v) b
    ≡ subproof_of hash (m - k) (entries_of r) false ++ root_of hash (entries_of l) ∷ []
sub_at_right hash m v l r k b within e left right h =
    let len = length-entries v in
    let at : split (length (entries_of v)) ≡ k = ap split len ∙ sym e in
    sub_right hash (leaf_hash hash) m (entries_of v) b (omega arith) (omega arith)
    ∙ rw (left_entries v l k e left, right_entries v r k e right, at)
