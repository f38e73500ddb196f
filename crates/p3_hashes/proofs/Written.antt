-- Lists that are written into their places: those of several lanes, and all.
use Rattle.std.proofs.Common.{◌≡◌, ℕ, ◌+◌, ◌-◌, ◌<◌, List, [], length, map, get_or, ◌∙◌, sym, arith}
use Rattle.std.proofs.lemmas.List.{get_or-map, length-map}
use Rattle.std.proofs.lemmas.List.FromFn.{fill_by_all}
use Rattle.sha256_eights.specs.Inner.Written.{AreWritten}

pub lanes_written : {P : ℕ → List ℕ → Type 0} {xs ys : List (List ℕ)} (first n : ℕ) → length ys ≡ length xs →
    ((k : ℕ) → k < n → P (first + k) (get_or ys (first + k) []))
    → ((j : ℕ) → j < first → get_or ys j [] ≡ get_or xs j []) → AreWritten P first (first + n) xs ys
lanes_written first n long here before = record {
  long = long;
  before = before;
  written = λ j low high.
      let place : first + (j - first) ≡ j = omega arith in rw place at (here (j - first) (omega arith));
}

-- where the digests are those of a list
pub map_written : {X : Type 0} (g : X → List ℕ) (xs : List X) (d : X) {old new : List (List ℕ)} → length xs ≡ length old
    → AreWritten (λ j y. y ≡ g (get_or xs j d)) 0 (length old) old new → new ≡ map g xs
map_written g xs d {old} {new} same made =
    let f = λ (j : ℕ). g (get_or xs j d) in
    fill_by_all f new (length old) [] made.long (λ k h. made.written k (omega arith) h)
    ∙ sym (fill_by_all f (map g xs) (length old) [] (length-map xs g ∙ same)
    (λ k h. get_or-map g xs k d [] (rw same h)))
