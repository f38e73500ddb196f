-- The fold functions on lists, by the element of the digest.
use Rattle.std.specs.Prelude.{ℕ, ◌+◌, ◌*◌, ◌%◌, ◌^◌, List, map, slice_index_or}
use Rattle.std.specs.List.{fold, range_with_len, enumerate_from}

-- an element after one more word
abbrev pub take_in : ℕ → ℕ → ℕ
take_in s x = (31 * s + x) % 2 ^ 32

-- element e before the first word
abbrev pub start : ℕ → ℕ
start e = (1 + e) % 2 ^ 32

-- the digest of n elements: each absorbs the words, in order
unfoldable pub fold_hash : ℕ → List ℕ → List ℕ
fold_hash n words = map (λ e. fold take_in (start e) words) (range_with_len 0 n)

-- an element after one more child: x is the element of the child, place the number of the child
abbrev pub mix_in : ℕ → ℕ × ℕ → ℕ
mix_in s (place, x) = (31 * s + x + place) % 2 ^ 32

-- element e of each child, with the child's number
abbrev pub placed_elements : ℕ → List (List ℕ) → List (ℕ × ℕ)
placed_elements e children = enumerate_from 0 (map (λ child. slice_index_or child e 0) children)

-- the digest of n elements: each starts at 0 and absorbs the same element of each child, in order
unfoldable pub fold_compress : ℕ → List (List ℕ) → List ℕ
fold_compress n children = map (λ e. fold mix_in 0 (placed_elements e children)) (range_with_len 0 n)
