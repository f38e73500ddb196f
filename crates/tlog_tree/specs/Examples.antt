-- Worked answers under SHA-256: the entries are the decimal numbers 1, 2, 3 and so on, and of each digest stand the
-- first four bytes.
use Rattle.std.specs.Prelude.{◌≡◌, ℕ, List, [], ◌∷◌, codes, map, take, refl, option_map, Some, None}
use Rattle.sha2.specs.Sha256.{compress, digest_bytes, first_words, hash_after, rounds, schedule, sha256}
use Rattle.tlog.specs.Rfc9162.{doubled, leaf_hash, mth_within}
use Rattle.tlog_tree.specs.Trees.{id_of, values_at, whole_nodes, whole_within}

-- the first leaf hashes
abbrev leaves : ℕ → List (List ℕ)
leaves n = map (leaf_hash sha256) (take n (codes "1" ∷ codes "2" ∷ codes "3" ∷ codes "4" ∷ codes "5" ∷ codes "6"
    ∷ codes "7" ∷ codes "8" ∷ codes "9" ∷ codes "10" ∷ codes "11" ∷ []))

whole_nodes_of_7 : map (take 4) (whole_nodes sha256 (leaves 7)) ≡
    (0x4c ∷ 0x4b ∷ 0x77 ∷ 0xfe ∷ []) ∷ (0x2b ∷ 0x15 ∷ 0xae ∷ 0x18 ∷ []) ∷ (0x79 ∷ 0x74 ∷ 0x27 ∷ 0xcf ∷ []) ∷ []
unfolding first_words schedule rounds compress hash_after digest_bytes sha256 doubled mth_within whole_within
whole_nodes_of_7 = refl

-- a leaf, a node, one that the end cuts off, and one after the end
nodes_of_7 :
    map (option_map (take 4)) (values_at sha256 (leaves 7) (id_of 0 3 ∷ id_of 1 0 ∷ id_of 2 1 ∷ id_of 3 1 ∷ [])) ≡
    Some (0x11 ∷ 0xe1 ∷ 0xf5 ∷ 0x58 ∷ []) ∷ Some (0xe8 ∷ 0xbc ∷ 0xd9 ∷ 0x7e ∷ [])
    ∷ Some (0x42 ∷ 0x93 ∷ 0xf3 ∷ 0x91 ∷ []) ∷ None ∷ []
unfolding first_words schedule rounds compress hash_after digest_bytes sha256 doubled mth_within
nodes_of_7 = refl
