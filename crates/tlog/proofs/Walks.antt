-- The verifiers' walks over a slice of digests, a digest at a time.
use Rattle.std.proofs.Common.{◌≡◌, ℕ, ◌+◌, ◌/◌, ◌^◌, ◌<◌, ◌≤◌, List, [], length, drop, get_or, Some, None, true, false}
use Rattle.std.proofs.Common.{◌∙◌}
use Rattle.std.proofs.lemmas.List.{at_drop_more, at_drop_all}
use Rattle.std.specs.Prelude.{◌==◌, Option}
use Rattle.std.specs.Int.{w64, trailing_zeros}
use Rattle.tlog.specs.Rfc9162.{Hash, consistency_walk, inclusion_walk, is_left, node_hash}

module _ {s t : ℕ} {fr sr a b : List ℕ} where
  -- two ends are one
  pub end_of : ◌≡◌ {A = Option (ℕ × List ℕ × List ℕ)} (Some (s, fr, sr)) (Some (t, a, b)) →
      (s ≡ t) × (fr ≡ a) × (sr ≡ b)
  end_of h =
      let e : ◌≡◌ {A = ℕ × List ℕ × List ℕ} (s, fr, sr) (t, a, b) = cc in (λ i. (e i).0, λ i. (e i).1, λ i. (e i).2)

module _ (hash : Hash) (path : List (List ℕ)) (i fn sn : ℕ) where
  pub inclusion_stops : (r : List ℕ) → i < length path → sn ≡ 0 → inclusion_walk hash (drop i path) fn sn r ≡ None
  unfolding inclusion_walk
  inclusion_stops r h z = at_drop_more (λ rest. inclusion_walk hash rest fn sn r) path i [] h ∙ rw z

  pub inclusion_ends : (r : List ℕ) → length path ≤ i → inclusion_walk hash (drop i path) fn sn r ≡ Some (sn, r)
  unfolding inclusion_walk
  inclusion_ends r h = at_drop_all (λ rest. inclusion_walk hash rest fn sn r) path i h

  pub inclusion_left : (r d : List ℕ) → i < length path → (sn == 0) ≡ false → is_left fn sn ≡ true →
      inclusion_walk hash (drop i path) fn sn r
      ≡ inclusion_walk hash (drop (i + 1) path) (fn / 2 ^ trailing_zeros w64 fn / 2)
      (sn / 2 ^ trailing_zeros w64 fn / 2) (node_hash hash (get_or path i d) r)
  unfolding inclusion_walk
  inclusion_left r d h z l =
      at_drop_more (λ rest. inclusion_walk hash rest fn sn r) path i d h ∙ rw (z, inclusion_walk, l, inclusion_walk)

  pub inclusion_right : (r d : List ℕ) → i < length path → (sn == 0) ≡ false → is_left fn sn ≡ false →
      inclusion_walk hash (drop i path) fn sn r
      ≡ inclusion_walk hash (drop (i + 1) path) (fn / 2) (sn / 2) (node_hash hash r (get_or path i d))
  unfolding inclusion_walk
  inclusion_right r d h z l =
      at_drop_more (λ rest. inclusion_walk hash rest fn sn r) path i d h ∙ rw (z, inclusion_walk, l, inclusion_walk)

  module _ (fr sr : List ℕ) where
    pub consistency_stops : i < length path → sn ≡ 0 → consistency_walk hash (drop i path) fn sn fr sr ≡ None
    unfolding consistency_walk
    consistency_stops h z = at_drop_more (λ rest. consistency_walk hash rest fn sn fr sr) path i [] h ∙ rw z

    pub consistency_ends : length path ≤ i → consistency_walk hash (drop i path) fn sn fr sr ≡ Some (sn, fr, sr)
    unfolding consistency_walk
    consistency_ends h = at_drop_all (λ rest. consistency_walk hash rest fn sn fr sr) path i h

    pub consistency_left : (d : List ℕ) → i < length path → (sn == 0) ≡ false → is_left fn sn ≡ true →
        consistency_walk hash (drop i path) fn sn fr sr
        ≡ consistency_walk hash (drop (i + 1) path) (fn / 2 ^ trailing_zeros w64 fn / 2)
        (sn / 2 ^ trailing_zeros w64 fn / 2) (node_hash hash (get_or path i d) fr) (node_hash hash (get_or path i d) sr)
    unfolding consistency_walk
    consistency_left d h z l =
        at_drop_more (λ rest. consistency_walk hash rest fn sn fr sr) path i d h
        ∙ rw (z, consistency_walk, l, consistency_walk)

    pub consistency_right : (d : List ℕ) → i < length path → (sn == 0) ≡ false → is_left fn sn ≡ false →
        consistency_walk hash (drop i path) fn sn fr sr
        ≡ consistency_walk hash (drop (i + 1) path) (fn / 2) (sn / 2) fr (node_hash hash sr (get_or path i d))
    unfolding consistency_walk
    consistency_right d h z l =
        at_drop_more (λ rest. consistency_walk hash rest fn sn fr sr) path i d h
        ∙ rw (z, consistency_walk, l, consistency_walk)
