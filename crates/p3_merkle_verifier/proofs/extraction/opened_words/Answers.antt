-- The words so far are those of the parts so far, and the parts of all rows are all parts.
use Rattle.std.proofs.Common.{◌≡◌, ◌∙◌, ◌++◌, ◌∷◌, [], ap, append-nil, sym, zip}
use Rattle.std.proofs.lemmas.Grind.{flat_map-append}
use Rattle.std.proofs.lemmas.Iterator.Consumers.{YieldsList-from_first}
use Rattle.std.proofs.lemmas.List.Folds.{flat_map-map}
use Rattle.std.specs.Iterator.{YieldsFirstBy}
use Rattle.std.specs.List.{flat_map}
use Rattle.p3_support.specs.Batches.{heights_of}
use Rattle.p3_support.specs.Rows.{parts_of, rows_in}
use Rattle.p3_support.proofs.Runs.{fact_of_run, run_of_loop}
use Rattle.p3_merkle_core.specs.Checks.{words_of_exponent}
use Rattle.p3_merkle_verifier.specs.Inner.Parts.{parts_left, parts_of_exponent}
use Rattle.p3_merkle_verifier.proofs.PartFacts.{words_of_parts}
use Rattle.p3_merkle_verifier.proofs.extraction.opened_words.Goals as goal

pub loop-part-preserved : goal.loop-part-preserved
loop-part-preserved g c =
    let so_far = c.loop-part.yielded in
    let part = c.in-Some.part in
    c.in_ok-extend_from_slice.ensures.items ∙ ap (λ words. words ++ part.now) c.loop-part.invariant
    ∙ sym (flat_map-append (λ part. part.now) so_far (part ∷ [])
    ∙ ap (λ more. flat_map (λ part. part.now) so_far ++ more) (append-nil part.now))

pub returns : goal.returns
returns g c =
    let hs = heights_of c.args.dimensions.now in
    let parts = parts_of c.args.rows in
    let words = c.loop-part.words.items in
    fact_of_run (λ part. part.now) (λ ps. words ≡ flat_map (λ part. part.now) ps)
    (words ≡ words_of_exponent c.args.exponent (zip hs (rows_in c.args.rows)))
    (run_of_loop (YieldsFirstBy (λ part. part.now) parts_left) (λ ps. words ≡ flat_map (λ part. part.now) ps)
    c.loop-part.yielded c.next.new.self c.into_iter-part-iterator.ensures.into_iter_gives c.loop-part.yielded_by
    c.in-None.is c.next.ensures.steps c.loop-part.invariant)
    (YieldsList-from_first (λ part. part.now) parts_left (parts_of_exponent c.args.exponent hs parts)
    c.new-part-items.ensures)
    (λ ps e h. h ∙ sym (flat_map-map (λ part. part) (λ part. part.now) ps)
    ∙ ap (flat_map (λ part. part)) e ∙ words_of_parts c.args.exponent hs parts)
