-- Where either list is at its end, all entries are made.
use Rattle.std.proofs.Common.{◌≡◌, ◌⊎◌, ◌∙◌, ◌∷◌, ◌++◌, [], List, ap, append-nil, inl, inr, map, refl, sym, zip, ⊎_elim}
use Rattle.std.specs.Iterator.Adapters.{zip_first, zip_second}
use Rattle.std.specs.Slice.Iter.{iter_rest}
use Rattle.std.specs.Vec.Iter.{into_iter_items}
use Rattle.std.proofs.lemmas.List.{nil_from_length}
use Rattle.tlog_text.specs.Texts.{entry_fields}
use Rattle.fohlazu_commands.specs.Inner.{entry_of}
use Rattle.fohlazu_commands.specs.Outcomes.{bytes_in}
use Rattle.fohlazu_commands.proofs.prove.numbered.Goals as goal

module _ {R V N B : Type 0} (shown : R → V) (value : N × B → V) (old : List R) (ns : List N) (bs : List B)
    (total : List V) (so_far : map shown old ++ map value (zip ns bs) ≡ total) where
  none_left : (ms : List N) (left : List B) → left ≡ [] → zip ms left ≡ []
  none_left [] left is = refl
  none_left (m ∷ ms) left is = ap (zip (m ∷ ms)) is

  -- no pair is left where one of both lists is at its end
  pairs_end : (ns ≡ []) ⊎ (bs ≡ []) → map shown old ≡ total
  pairs_end ended =
      let none : zip ns bs ≡ [] = ⊎_elim (λ is. ap (λ ms. zip ms bs) is) (none_left ns bs) ended in
      sym (append-nil (map shown old)) ∙ ap (λ ps. map shown old ++ map value ps) (sym none) ∙ so_far

pub returns : goal.returns
returns c =
    let it = c.loop-number.number-iterator in
    let numbers_left = iter_rest (zip_first it) in
    let entries_left = into_iter_items (zip_second it) in
    let ended : (numbers_left ≡ []) ⊎ (map bytes_in entries_left ≡ []) =
    elim c.in-None.ensures.steps [
      | inl first ↦ inl (nil_from_length numbers_left first.1.0)
      | inr second ↦
          inr (ap (map bytes_in) (nil_from_length entries_left (sym (zip_second it).rest.ok.0 ∙ second.1.0)))
    ] in
    pairs_end entry_fields entry_of c.loop-number.numbered.items numbers_left (map bytes_in entries_left)
    (map entry_of (zip c.args.numbers.now (map bytes_in c.args.bytes.items))) c.loop-number.invariant ended
