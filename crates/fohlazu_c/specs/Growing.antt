-- Logs that grow in the caller's memory.
use Rattle.std.specs.Prelude.{◌≡◌, ◌==◌, ℕ, ℤ, pos, List, [], ◌∷◌, count_ones, drop, if◌then◌else◌, length, sum, take}
use Rattle.sha2.specs.Sha256.{sha256}
use Rattle.tlog_tree.specs.Trees.{whole_nodes}
use Rattle.fohlazu_c.specs.declared.growing.Frontier.{Frontier}

-- the tree of these leaf hashes, by their number, and by its whole nodes, which are the first of the digests
pub record IsFrontier (leaves : List (List ℕ)) (frontier : Frontier) : Type 0 where
  pub size : frontier.size ≡ length leaves
  pub nodes : take (count_ones frontier.size) frontier.digests ≡ whole_nodes sha256 leaves

-- bytes cut into entries of these lengths
unfoldable pub cut_entries : List ℕ → List ℕ → List (List ℕ)
cut_entries [] bytes = []
cut_entries (n ∷ lengths) bytes = take n bytes ∷ cut_entries lengths (drop n bytes)

-- what is returned of entries of these lengths in so many bytes, with so many places for leaf hashes
abbrev pub leaves_status : List ℕ → ℕ → ℕ → ℤ
leaves_status lengths bytes places =
    if places == length lengths then if sum lengths == bytes then pos 0 else pos 14 else pos 13
