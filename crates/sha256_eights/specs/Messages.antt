-- Messages of one length, which lie one after another.
use Rattle.std.specs.Prelude.{ℕ, ◌+◌, ◌*◌, List, map, slice_range}
use Rattle.std.specs.List.{range_with_len}

-- message i of those of w bytes
abbrev pub message : ℕ → List ℕ → ℕ → List ℕ
message w bytes i = slice_range bytes (i * w) ((i + 1) * w)

-- the first n messages of w bytes
abbrev pub messages : ℕ → ℕ → List ℕ → List (List ℕ)
messages w n bytes = map (message w bytes) (range_with_len 0 n)
