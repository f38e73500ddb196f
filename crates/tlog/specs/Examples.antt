-- Worked answers under SHA-256: the entries are the decimal numbers 1, 2, 3 and so on, and of each digest stand the
-- first four bytes.
use Rattle.std.specs.Prelude.{◌≡◌, ℕ, List, [], ◌∷◌, codes, map, take, refl, Some}
use Rattle.std.specs.Int.Count.{count_trailing_zeros, ones}
use Rattle.sha2.specs.Sha256.{compress, digest_bytes, first_words, hash_after, rounds, schedule, sha256}
use Rattle.tlog.specs.Rfc9162.{consistency_end, consistency_walk, doubled, inclusion_end, inclusion_walk, leaf_hash}
use Rattle.tlog.specs.Rfc9162.{mth_within, path_of, path_within, proof_of, root_of, split, subproof_within}

-- the first entries
abbrev entries : ℕ → List (List ℕ)
entries n = take n (codes "1" ∷ codes "2" ∷ codes "3" ∷ codes "4" ∷ codes "5" ∷ codes "6" ∷ codes "7" ∷ codes "8"
    ∷ codes "9" ∷ codes "10" ∷ codes "11" ∷ [])

-- MTH(D[n])
abbrev root : ℕ → List ℕ
root n = root_of sha256 (entries n)

-- PATH(m, D[n])
abbrev path : ℕ → ℕ → List (List ℕ)
path m n = path_of sha256 m (entries n)

-- PROOF(m, D[n])
abbrev proof : ℕ → ℕ → List (List ℕ)
proof m n = proof_of sha256 m (entries n)

-- ---- the split

split_of_2 : split 2 ≡ 1
unfolding doubled
split_of_2 = refl

split_of_3 : split 3 ≡ 2
unfolding doubled
split_of_3 = refl

split_of_4 : split 4 ≡ 2
unfolding doubled
split_of_4 = refl

split_of_7 : split 7 ≡ 4
unfolding doubled
split_of_7 = refl

split_of_8 : split 8 ≡ 4
unfolding doubled
split_of_8 = refl

split_of_9 : split 9 ≡ 8
unfolding doubled
split_of_9 = refl

-- ---- roots

root_of_0 : take 4 (root 0) ≡ 0xe3 ∷ 0xb0 ∷ 0xc4 ∷ 0x42 ∷ []
unfolding first_words schedule rounds compress hash_after digest_bytes sha256 mth_within
root_of_0 = refl

root_of_1 : take 4 (root 1) ≡ 0x22 ∷ 0x15 ∷ 0xe8 ∷ 0xac ∷ []
unfolding first_words schedule rounds compress hash_after digest_bytes sha256 doubled mth_within
root_of_1 = refl

root_of_2 : take 4 (root 2) ≡ 0xe8 ∷ 0xbc ∷ 0xd9 ∷ 0x7e ∷ []
unfolding first_words schedule rounds compress hash_after digest_bytes sha256 doubled mth_within
root_of_2 = refl

root_of_3 : take 4 (root 3) ≡ 0xfe ∷ 0x6e ∷ 0x9d ∷ 0x46 ∷ []
unfolding first_words schedule rounds compress hash_after digest_bytes sha256 doubled mth_within
root_of_3 = refl

root_of_4 : take 4 (root 4) ≡ 0x4c ∷ 0x4b ∷ 0x77 ∷ 0xfe ∷ []
unfolding first_words schedule rounds compress hash_after digest_bytes sha256 doubled mth_within
root_of_4 = refl

root_of_5 : take 4 (root 5) ≡ 0xe1 ∷ 0x06 ∷ 0xde ∷ 0x6d ∷ []
unfolding first_words schedule rounds compress hash_after digest_bytes sha256 doubled mth_within
root_of_5 = refl

root_of_7 : take 4 (root 7) ≡ 0x74 ∷ 0xfc ∷ 0xca ∷ 0x69 ∷ []
unfolding first_words schedule rounds compress hash_after digest_bytes sha256 doubled mth_within
root_of_7 = refl

root_of_8 : take 4 (root 8) ≡ 0x50 ∷ 0xfc ∷ 0xd7 ∷ 0x5a ∷ []
unfolding first_words schedule rounds compress hash_after digest_bytes sha256 doubled mth_within
root_of_8 = refl

root_of_11 : take 4 (root 11) ≡ 0x87 ∷ 0x33 ∷ 0xb9 ∷ 0x96 ∷ []
unfolding first_words schedule rounds compress hash_after digest_bytes sha256 doubled mth_within
root_of_11 = refl

-- ---- inclusion

path_of_4_in_5 : map (take 4) (path 4 5) ≡
    (0x4c ∷ 0x4b ∷ 0x77 ∷ 0xfe ∷ []) ∷ []
unfolding first_words schedule rounds compress hash_after digest_bytes sha256 doubled mth_within path_within
path_of_4_in_5 = refl

walk_of_4_in_5 : inclusion_end sha256 4 5 (leaf_hash sha256 (codes "5")) (path 4 5) ≡ Some (0, root 5)
unfolding first_words schedule rounds compress hash_after digest_bytes sha256
    doubled mth_within path_within inclusion_walk count_trailing_zeros
walk_of_4_in_5 = refl

path_of_2_in_7 : map (take 4) (path 2 7) ≡
    (0x11 ∷ 0xe1 ∷ 0xf5 ∷ 0x58 ∷ []) ∷ (0xe8 ∷ 0xbc ∷ 0xd9 ∷ 0x7e ∷ []) ∷ (0x42 ∷ 0x93 ∷ 0xf3 ∷ 0x91 ∷ []) ∷ []
unfolding first_words schedule rounds compress hash_after digest_bytes sha256 doubled mth_within path_within
path_of_2_in_7 = refl

walk_of_2_in_7 : inclusion_end sha256 2 7 (leaf_hash sha256 (codes "3")) (path 2 7) ≡ Some (0, root 7)
unfolding first_words schedule rounds compress hash_after digest_bytes sha256
    doubled mth_within path_within inclusion_walk count_trailing_zeros
walk_of_2_in_7 = refl

path_of_6_in_7 : map (take 4) (path 6 7) ≡
    (0x2b ∷ 0x15 ∷ 0xae ∷ 0x18 ∷ []) ∷ (0x4c ∷ 0x4b ∷ 0x77 ∷ 0xfe ∷ []) ∷ []
unfolding first_words schedule rounds compress hash_after digest_bytes sha256 doubled mth_within path_within
path_of_6_in_7 = refl

walk_of_6_in_7 : inclusion_end sha256 6 7 (leaf_hash sha256 (codes "7")) (path 6 7) ≡ Some (0, root 7)
unfolding first_words schedule rounds compress hash_after digest_bytes sha256
    doubled mth_within path_within inclusion_walk count_trailing_zeros
walk_of_6_in_7 = refl

-- ---- consistency

proof_from_3_to_5 : map (take 4) (proof 3 5) ≡
    (0x90 ∷ 0x6c ∷ 0x5d ∷ 0x24 ∷ []) ∷ (0x11 ∷ 0xe1 ∷ 0xf5 ∷ 0x58 ∷ []) ∷ (0xe8 ∷ 0xbc ∷ 0xd9 ∷ 0x7e ∷ []) ∷
    (0x53 ∷ 0x30 ∷ 0x4f ∷ 0x5e ∷ []) ∷ []
unfolding first_words schedule rounds compress hash_after digest_bytes sha256 doubled mth_within subproof_within
proof_from_3_to_5 = refl

walk_from_3_to_5 : consistency_end sha256 3 5 (root 3) (proof 3 5) ≡ Some (0, root 3, root 5)
unfolding first_words schedule rounds compress hash_after digest_bytes sha256
    doubled mth_within subproof_within consistency_walk count_trailing_zeros ones
walk_from_3_to_5 = refl

proof_from_4_to_8 : map (take 4) (proof 4 8) ≡
    (0xfe ∷ 0xd7 ∷ 0xaf ∷ 0x7d ∷ []) ∷ []
unfolding first_words schedule rounds compress hash_after digest_bytes sha256 doubled mth_within subproof_within
proof_from_4_to_8 = refl

walk_from_4_to_8 : consistency_end sha256 4 8 (root 4) (proof 4 8) ≡ Some (0, root 4, root 8)
unfolding first_words schedule rounds compress hash_after digest_bytes sha256
    doubled mth_within subproof_within consistency_walk count_trailing_zeros ones
walk_from_4_to_8 = refl

proof_from_7_to_11 : map (take 4) (proof 7 11) ≡
    (0x79 ∷ 0x74 ∷ 0x27 ∷ 0xcf ∷ []) ∷ (0x19 ∷ 0x5f ∷ 0x58 ∷ 0xbc ∷ []) ∷ (0x2b ∷ 0x15 ∷ 0xae ∷ 0x18 ∷ []) ∷
    (0x4c ∷ 0x4b ∷ 0x77 ∷ 0xfe ∷ []) ∷ (0xf6 ∷ 0x66 ∷ 0x60 ∷ 0x9e ∷ []) ∷ []
unfolding first_words schedule rounds compress hash_after digest_bytes sha256 doubled mth_within subproof_within
proof_from_7_to_11 = refl

walk_from_7_to_11 : consistency_end sha256 7 11 (root 7) (proof 7 11) ≡ Some (0, root 7, root 11)
unfolding first_words schedule rounds compress hash_after digest_bytes sha256
    doubled mth_within subproof_within consistency_walk count_trailing_zeros ones
walk_from_7_to_11 = refl

proof_from_8_to_11 : map (take 4) (proof 8 11) ≡
    (0xf6 ∷ 0x66 ∷ 0x60 ∷ 0x9e ∷ []) ∷ []
unfolding first_words schedule rounds compress hash_after digest_bytes sha256 doubled mth_within subproof_within
proof_from_8_to_11 = refl

walk_from_8_to_11 : consistency_end sha256 8 11 (root 8) (proof 8 11) ≡ Some (0, root 8, root 11)
unfolding first_words schedule rounds compress hash_after digest_bytes sha256
    doubled mth_within subproof_within consistency_walk count_trailing_zeros ones
walk_from_8_to_11 = refl
