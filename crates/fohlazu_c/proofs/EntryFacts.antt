-- Bytes that are cut into entries one by one.
use Rattle.std.proofs.Common.{◌≡◌, ◌∙◌, ◌+◌, ◌<◌, ◌≤◌, ℕ, suc, List, [], ◌∷◌, ◌++◌, Bor, ap, append_assoc, arith}
use Rattle.std.proofs.Common.{drop, length, length-drop, map, refl, sym, take}
use Rattle.std.specs.Prelude.{slice_index_or, sum}
use Rattle.std.proofs.lemmas.List.{append-nil, drop_all, drop_more}
use Rattle.std.proofs.lemmas.List.Sums.{sum_by-cons}
use Rattle.sha2.specs.Sha256.{sha256}
use Rattle.tlog.specs.Rfc9162.{leaf_hash}
use Rattle.fohlazu_c.specs.Growing.{cut_entries}

cut_cons : (n : ℕ) (ns bytes : List ℕ) → cut_entries (n ∷ ns) bytes ≡ take n bytes ∷ cut_entries ns (drop n bytes)
unfolding cut_entries
cut_cons n ns bytes = refl

cut_none : (bytes : List ℕ) → cut_entries [] bytes ≡ []
unfolding cut_entries
cut_none bytes = refl

-- the next entry is cut off
pub cut_step : (ns rest : List ℕ) (done : List (List ℕ)) (i : ℕ) → i < length ns → sum (drop i ns) ≡ length rest →
    (sum (drop (i + 1) ns) ≡ length (drop (slice_index_or ns i 0) rest))
    × (done ++ cut_entries (drop i ns) rest
    ≡ (done ++ take (slice_index_or ns i 0) rest ∷ [])
    ++ cut_entries (drop (i + 1) ns) (drop (slice_index_or ns i 0) rest))
cut_step ns rest done i within fits =
    let n = slice_index_or ns i 0 in
    let more = drop_more ns i 0 within in
    let total = ap sum more ∙ sum_by-cons (λ (x : ℕ). x) n (drop (i + 1) ns) in (
      omega (arith, fits, total, length-drop n rest),
      ap (λ ms. done ++ cut_entries ms rest) more ∙ ap (λ es. done ++ es) (cut_cons n (drop (i + 1) ns) rest)
          ∙ sym (append_assoc done (take n rest ∷ []) (cut_entries (drop (i + 1) ns) (drop n rest))),
    )

-- all entries are cut off
pub cut_end : (ns rest : List ℕ) (done : List (List ℕ)) (i : ℕ) → length ns ≤ i →
    done ≡ done ++ cut_entries (drop i ns) rest
cut_end ns rest done i all =
    sym (ap (λ ms. done ++ cut_entries ms rest) (drop_all i ns all) ∙ ap (λ es. done ++ es) (cut_none rest)
    ∙ append-nil done)

-- there is an entry for each length
pub length-cut : (ns bytes : List ℕ) → length (cut_entries ns bytes) ≡ length ns
unfolding cut_entries
length-cut [] bytes = refl
length-cut (n ∷ ns) bytes = ap suc (length-cut ns (drop n bytes))

-- the leaf hashes of entries as they are lent
pub hashes_lent : (entries : List (Bor (List ℕ))) →
    map (λ (entry : Bor (List ℕ)). leaf_hash sha256 entry.now) entries
    ≡ map (leaf_hash sha256) (map (λ (entry : Bor (List ℕ)). entry.now) entries)
hashes_lent [] = refl
hashes_lent (entry ∷ entries) = ap (λ hashes. leaf_hash sha256 entry.now ∷ hashes) (hashes_lent entries)
