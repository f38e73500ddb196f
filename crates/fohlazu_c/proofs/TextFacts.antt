-- A text at the head of a buffer.
use Rattle.std.proofs.Common.{◌≡◌, ◌∙◌, ◌+◌, ◌-◌, ◌<◌, ◌≤◌, ℕ, suc, List, [], ◌∷◌, ◌++◌, ap, arith, drop, inl, inr}
use Rattle.std.proofs.Common.{length, min, sym, take}
use Rattle.std.specs.Prelude.{slice_index_or, slice_set}
use Rattle.std.proofs.lemmas.Bool.Decides.{leb_tells}
use Rattle.std.proofs.lemmas.List.{drop_all, drop_more, length-take-le, set_at, take_all}
use Rattle.fohlazu_c.specs.Statuses.{placed}

-- a zero behind the first bytes of the text
zero_behind : (kept buffer : List ℕ) (n : ℕ) → length kept ≡ n → n < length buffer →
    slice_set (kept ++ drop n buffer) n 0 ≡ kept ++ 0 ∷ drop (n + 1) buffer
zero_behind kept buffer n long room =
    ap (λ rest. slice_set (kept ++ rest) n 0) (drop_more buffer n 0 room)
    ∙ set_at kept (slice_index_or buffer n 0) (drop (n + 1) buffer) 0 n long

pub placed_is : (text kept buffer : List ℕ) (n : ℕ) → n ≡ min (length text) (length buffer - 1) → kept ≡ take n text →
    0 < length buffer → slice_set (kept ++ drop n buffer) n 0 ≡ placed text buffer
placed_is text kept [] n least is some = absurd (omega (arith, some))
placed_is text kept (byte ∷ rest) n least is some =
    let fits : n ≤ length text = omega (arith, least) in
    let room : n ≤ length rest = omega (arith, least) in
    let next : n + 1 ≡ suc n = omega arith in
    let set : slice_set (kept ++ drop n (byte ∷ rest)) n 0 ≡ kept ++ 0 ∷ drop n rest =
    zero_behind kept (byte ∷ rest) n (ap length is ∙ length-take-le n text fits) (omega (arith, room))
    ∙ ap (λ k. kept ++ 0 ∷ drop k (byte ∷ rest)) next in
    elim (leb_tells (length text) (length rest)) [
      | inl (t, whole) ↦
          let all : n ≡ length text = omega (arith, least, whole) in
          let front : kept ≡ take (length rest) text =
          is ∙ take_all n text (omega (arith, all)) ∙ sym (take_all (length rest) text whole) in
          set ∙ ap (λ bytes. bytes ++ 0 ∷ drop n rest) front
          ∙ ap (λ k. take (length rest) text ++ 0 ∷ drop k rest) all
      | inr (t, cut) ↦
          let full : n ≡ length rest = omega (arith, least, cut) in
          let front : kept ≡ take (length rest) text = is ∙ ap (λ k. take k text) full in
          set ∙ ap (λ bytes. bytes ++ 0 ∷ drop n rest) front
          ∙ ap (λ bytes. take (length rest) text ++ 0 ∷ bytes)
          (drop_all n rest (omega (arith, full)) ∙ sym (drop_all (length text) rest (omega (arith, cut))))
    ]
