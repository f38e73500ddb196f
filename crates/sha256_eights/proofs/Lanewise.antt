-- Vectors of eight lanes, by what each lane holds.
use Rattle.std.proofs.Common.{◌≡◌, ℕ, zero, suc, ◌<◌, List, [], map, length, slice_index, slice_index_or, refl, sym, ap}
use Rattle.std.proofs.Common.{◌∙◌, arith}
use Rattle.std.proofs.lemmas.Simd.{get_or-zip2, length-zip2}
use Rattle.std.proofs.lemmas.List.{get_or-map, length-map, get_or-replicate}
use Rattle.std.proofs.Math.ListN as ListN
use Rattle.std.specs.Prelude.{replicate}
use Rattle.std.specs.Simd.Lanes.{zip2}
use Rattle.sha256_eights.specs.Inner.Lanes.{lane}

-- a vector of eight lanes, where lane j holds f j
pub record Eight (xs : List ℕ) (f : ℕ → ℕ) : Type 0 where
  pub long : length xs ≡ 8
  pub each : (j : ℕ) → j < 8 → slice_index xs j ≡ f j

pub itself : (xs : List ℕ) → length xs ≡ 8 → Eight xs (λ j. slice_index xs j)
itself xs long = record { long = long; each = λ j below. refl }

pub zipped : (g : ℕ → ℕ → ℕ) {xs ys : List ℕ} {f h : ℕ → ℕ} → Eight xs f → Eight ys h
    → Eight (zip2 g xs ys) (λ j. g (f j) (h j))
zipped g {xs = xs} {ys = ys} {f = f} {h = h} x y = record {
  long = length-zip2 g xs ys (x.long ∙ sym y.long) ∙ x.long;
  each = λ j below.
      let in_x : j < length xs = rw x.long below in
      let in_y : j < length ys = rw y.long below in
      get_or-zip2 g xs ys j 0 0 0 in_x in_y ∙ ap (λ a. g a (slice_index ys j)) (x.each j below)
      ∙ ap (g (f j)) (y.each j below);
}

pub mapped : (g : ℕ → ℕ) {xs : List ℕ} {f : ℕ → ℕ} → Eight xs f → Eight (map g xs) (λ j. g (f j))
mapped g {xs = xs} {f = f} x = record {
  long = length-map xs g ∙ x.long;
  each = λ j below.
      let in_x : j < length xs = rw x.long below in
      get_or-map g xs j 0 0 in_x ∙ ap g (x.each j below);
}

pub splatted : (n : ℕ) → Eight (replicate 8 n) (λ _. n)
splatted n = record { long = refl; each = λ j below. get_or-replicate 8 j n 0 below }

-- word i of message j
pub lane_word : (j : ℕ) (words : List (List ℕ)) (i : ℕ) → slice_index (lane j words) i
    ≡ slice_index (slice_index_or words i []) j
lane_word j words i = ListN.get_or-map (λ (v : List ℕ). slice_index v j) words i []

-- what holds of each of the eight lanes
pub each_lane : (P : ℕ → Type 0) → P 0 → P 1 → P 2 → P 3 → P 4 → P 5 → P 6 → P 7 → (j : ℕ) → j < 8 → P j
each_lane P a b c d e f g h zero below = a
each_lane P a b c d e f g h (suc zero) below = b
each_lane P a b c d e f g h (suc (suc zero)) below = c
each_lane P a b c d e f g h (suc (suc (suc zero))) below = d
each_lane P a b c d e f g h (suc (suc (suc (suc zero)))) below = e
each_lane P a b c d e f g h (suc (suc (suc (suc (suc zero))))) below = f
each_lane P a b c d e f g h (suc (suc (suc (suc (suc (suc zero)))))) below = g
each_lane P a b c d e f g h (suc (suc (suc (suc (suc (suc (suc zero))))))) below = h
each_lane P a b c d e f g h (suc (suc (suc (suc (suc (suc (suc (suc j)))))))) below = absurd (omega arith)
