-- The check of an opening: its inputs with their places, when it is accepted, where two checks meet.
use Rattle.std.specs.Prelude.{◌≡◌, ◌≢◌, ◌⊎◌, ℕ, zero, suc, ◌+◌, ◌-◌, ◌<◌, ◌==◌, Bool, if◌then◌else◌, List, [], ◌∷◌, map}
use Rattle.std.specs.Prelude.{length, take, drop, filter, flat_map, zip, insert, Some, slice_get, slice_index}
use Rattle.std.specs.Prelude.{slice_index_or, nat_le}
use Rattle.std.specs.List.{range_with_len}
use Rattle.p3_merkle_core.specs.Geometry.{Shape, IsLawful, least, exponent, layer_exponent, layer_of, step, ancestor}
use Rattle.p3_merkle_core.specs.Geometry.{position_in_group, heights, widths, has_rows}
use Rattle.p3_merkle_core.specs.Nodes.{Functions, compress_padded, pair, with_rows, padded}
use Rattle.p3_merkle_core.specs.Openings.{Opening}
use Rattle.p3_merkle_core.specs.declared.collision.Place.{Place}
use Rattle.p3_merkle_core.specs.declared.collision.Place.TheVariants.{Leaf, Group, Rows, Pair}
use Rattle.p3_support.specs.Batches.{greatest}

-- what openings are checked against: the functions, the shape of the tree, and the layer that is its cap
pub record Params (T W : Type 0) : Type 0 where
  pub functions : Functions T W
  pub shape : Shape
  pub layer : ℕ

-- the parameters of functions, a shape and a layer
abbrev pub params : {T W : Type 0} → Functions T W → Shape → ℕ → Params T W
params f s t = record { functions = f; shape = s; layer = t }

-- ---- the digests on a path

-- how many siblings the levels below l have
unfoldable pub siblings_below : Shape → ℕ → ℕ
siblings_below s zero = 0
siblings_below s (suc l) = siblings_below s l + (step s l - 1)

-- the siblings of level l
abbrev pub siblings_at : {T W : Type 0} → Shape → Opening T W → ℕ → List (List W)
siblings_at s o l = take (step s l - 1) (drop (siblings_below s l) o.siblings)

-- the rows of the matrices of layer l, each with its height
abbrev pub layer_rows : {T : Type 0} → Shape → List (List T) → ℕ → List (ℕ × List T)
layer_rows s rows l = filter (λ (h, row). exponent h == layer_exponent s l) (zip (heights s) rows)

-- of rows with their heights, those of the exponent x, one after another
abbrev pub words_of_exponent : {T : Type 0} → ℕ → List (ℕ × List T) → List T
words_of_exponent x pairs = flat_map (λ (h, row). row) (filter (λ (h, row). exponent h == x) pairs)

-- the rows of the matrices of layer l, one after another
abbrev pub layer_words : {T : Type 0} → Shape → List (List T) → ℕ → List T
layer_words s rows l = words_of_exponent (layer_exponent s l) (zip (heights s) rows)

-- a digest at its place among the siblings of level l
abbrev pub group_at : {T W : Type 0} → Functions T W → Shape → Opening T W → ℕ → List W → List (List W)
group_at f s o l digest = insert (siblings_at s o l) (position_in_group s l o.index) digest

-- the digest that the check of an opening reaches at layer l
unfoldable pub path_digest : {T W : Type 0} → Functions T W → Shape → Opening T W → ℕ → List W
path_digest f s o zero = f.hash (layer_words s o.rows 0)
path_digest f s o (suc l) =
    with_rows f s.arity (has_rows s (suc l)) (compress_padded f s.arity (group_at f s o l (path_digest f s o l)))
    (f.hash (layer_words s o.rows (suc l)))

-- ---- the inputs of a check

-- what is hashed or compressed: words, or digests
pub data Content (T W : Type 0) : Type 0 where
  Words : List T → Content T W
  Digests : List (List W) → Content T W

-- an input of a check: its place, and what is hashed or compressed there
pub record Input (T W : Type 0) : Type 0 where
  pub place : Place
  pub content : Content T W

-- words at a place
abbrev pub words_at : {T W : Type 0} → Place → List T → Input T W
words_at place words = record { place = place; content = Words words }

-- digests at a place
abbrev pub digests_at : {T W : Type 0} → Place → List (List W) → Input T W
digests_at place digests = record { place = place; content = Digests digests }

-- the digest of words is their hash, of digests their compression
abbrev pub content_digest : {T W : Type 0} → Functions T W → Content T W → List W
content_digest f (Words words) = f.hash words
content_digest f (Digests digests) = f.compression digests

-- the digest of an input
abbrev pub input_digest : {T W : Type 0} → Functions T W → Input T W → List W
input_digest f x = content_digest f x.content

-- the content has n digests, if it consists of digests
abbrev pub IsFull : {T W : Type 0} → ℕ → Content T W → Type 0
IsFull n (Words words) = Unit {0}
IsFull n (Digests digests) = length digests ≡ n

-- an input of digests has n of them
abbrev pub HasDigests : {T W : Type 0} → ℕ → Input T W → Type 0
HasDigests n x = IsFull n x.content

-- the input of the leaf: the rows of the matrices of the leaves, one after another
abbrev pub leaf_input : {T W : Type 0} → Shape → Opening T W → Input T W
leaf_input s o = words_at Leaf (layer_words s o.rows 0)

-- the inputs of level l: the group, and where matrices belong to the layer above it, their rows and the pair of both
-- digests
abbrev pub inputs_at : {T W : Type 0} → Functions T W → Shape → Opening T W → ℕ → List (Input T W)
inputs_at f s o l =
    let group = padded s.arity f.default_digest (group_at f s o l (path_digest f s o l)) in
    let words = layer_words s o.rows (suc l) in
    if has_rows s (suc l)
    then digests_at (Group l) group ∷ words_at (Rows l) words ∷
    digests_at (Pair l) (pair f s.arity (f.compression group) (f.hash words)) ∷ []
    else (digests_at (Group l) group ∷ [])

-- two inputs stand at one place
abbrev pub IsAtOnePlace : {T W : Type 0} → Input T W → Input T W → Type 0
IsAtOnePlace x y = x.place ≡ y.place

-- all inputs of a check, in order, up to the cap's layer
abbrev pub inputs : {T W : Type 0} → Params T W → Opening T W → List (Input T W)
inputs c o = leaf_input c.shape o ∷ flat_map (inputs_at c.functions c.shape o) (range_with_len 0 c.layer)

-- the last element of a list, or x of none
abbrev pub last_of : {X : Type 0} → X → List X → X
last_of x [] = x
last_of x (y ∷ ys) = last_of y ys

-- the last input of a check: there is always one, the leaf's at least
abbrev pub last_input : {T W : Type 0} → Params T W → Opening T W → Input T W
last_input c o = last_of (leaf_input c.shape o) (inputs c o)

-- the digest in which a check ends: that of its last input
abbrev pub check_digest : {T W : Type 0} → Params T W → Opening T W → List W
check_digest c o = input_digest c.functions (last_input c o)

-- ---- accepted

-- an opening is accepted under a cap: lawful heights, rows of their widths, as many siblings as the levels below the
-- cap have, an index below the greatest height, and the cap's entry at its ancestor is the digest in which the check
-- ends
pub record IsAccepted {T W : Type 0} (c : Params T W) (cap : List (List W)) (o : Opening T W) : Type 0 where
  pub lawful : IsLawful (heights c.shape)
  pub rows_fit : map length o.rows ≡ widths c.shape
  pub count : length o.siblings ≡ siblings_below c.shape c.layer
  pub in_range : o.index < greatest (heights c.shape)
  pub authentic : slice_get cap (ancestor c.shape c.layer o.index) ≡ Some (check_digest c o)

-- ---- authenticated

-- whether the rows of matrix k are hashed at layer t or below it: whether it belongs to such a layer
abbrev pub is_authenticated : Shape → ℕ → ℕ → Bool
is_authenticated s t k = nat_le (layer_of s (slice_index (heights s) k)) t

-- the row that an opening has for matrix k
abbrev pub opened_row : {T W : Type 0} → Opening T W → ℕ → List T
opened_row o k = slice_index_or o.rows k []

-- ---- where two checks meet

-- the lowest level below t from which the paths of i and j lead into one node, else t
abbrev pub meeting_level : Shape → ℕ → ℕ → ℕ → ℕ
meeting_level s t i j = least (λ l. ancestor s (suc l) i == ancestor s (suc l) j) t

-- the inputs of o from where the paths of the indices i and j meet: all of them if i and j are one
abbrev pub shared_inputs : {T W : Type 0} → Params T W → ℕ → ℕ → Opening T W → List (Input T W)
shared_inputs c i j o =
    let m = meeting_level c.shape c.layer i j in
    if i == j then inputs c o
    else flat_map (λ k. inputs_at c.functions c.shape o (m + k)) (range_with_len 0 (c.layer - m))

-- the two checks agree from where their paths meet
abbrev pub AgreeWhereShared : {T W : Type 0} → Params T W → Opening T W → Opening T W → Type 0
AgreeWhereShared c o u = let shared = shared_inputs c o.index u.index in shared o ≡ shared u

-- x and y stand at one place of xs and ys, are different, and all after them agrees
abbrev pub IsLastDifference : {X : Type 0} → List X → List X → X → X → Type 0
IsLastDifference [] ys x y = ⊥
IsLastDifference (a ∷ xs) [] x y = ⊥
IsLastDifference (a ∷ xs) (b ∷ ys) x y = IsLastDifference xs ys x y ⊎ ((xs ≡ ys) × (a ≡ x) × (b ≡ y) × (x ≢ y))

-- x and y are the last inputs that the checks of o and u share and that differ
abbrev pub IsLastShared : {T W : Type 0} → Params T W → Opening T W → Opening T W → Input T W → Input T W → Type 0
IsLastShared c o u x y = let shared = shared_inputs c o.index u.index in IsLastDifference (shared o) (shared u) x y
