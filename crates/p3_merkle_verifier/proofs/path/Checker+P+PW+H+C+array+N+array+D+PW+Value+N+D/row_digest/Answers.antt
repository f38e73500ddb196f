-- The parts of the rows are read to their end, however they lie.
use Rattle.std.proofs.Common.{◌≡◌, ◌∙◌, ap, refl, sym, zip}
use Rattle.std.specs.List.{flat_map}
use Rattle.std.proofs.lemmas.Iterator.Consumers.{YieldsList-from_first}
use Rattle.std.proofs.lemmas.List.Folds.{flat_map-map}
use Rattle.p3_support.specs.Batches.{heights_of}
use Rattle.p3_support.specs.Rows.{parts_of, rows_in_parts, whole}
use Rattle.p3_support.specs.Shown.{row_lists}
use Rattle.p3_support.proofs.Runs.{fact_of_run}
use Rattle.p3_merkle_core.specs.Checks.{words_of_exponent}
use Rattle.p3_merkle_verifier.specs.Inner.Parts.{parts_left, parts_of_exponent, rows_left, salted_left}
use Rattle.p3_merkle_verifier.proofs.PartFacts.{words_of_parts}
use Rattle.p3_merkle_verifier.proofs.path.Checker+P+PW+H+C+array+N+array+D+PW+Value+N+D.row_digest.Goals as goal

pub returns-in-Vecs : goal.returns-in-Vecs
returns-in-Vecs g c =
    let hash = g.H.CryptographicHasher.hash c.args.self.now.hash.now in
    let hs = heights_of c.args.self.now.schedule.dimensions.now in
    let parts = whole (row_lists c.in-Vecs.rows.now) in
    rw c.in-Vecs.is (fact_of_run (λ part. part.now) (λ ps. c.hash_iter_slices.result ≡ hash (flat_map
    (λ part. part.now) ps))
    (c.hash_iter_slices.result ≡ hash (words_of_exponent c.args.exponent (zip hs (rows_in_parts parts))))
    c.hash_iter_slices.ensures
    (YieldsList-from_first (λ part. part.now) rows_left (parts_of_exponent c.args.exponent hs parts) refl)
    (λ ps e h. h ∙ ap hash (sym (flat_map-map (λ part. part) (λ part. part.now) ps)
    ∙ ap (flat_map (λ part. part)) e ∙ words_of_parts c.args.exponent hs parts)))

pub returns-in-Salted : goal.returns-in-Salted
returns-in-Salted g c =
    let hash = g.H.CryptographicHasher.hash c.args.self.now.hash.now in
    let hs = heights_of c.args.self.now.schedule.dimensions.now in
    let parts = zip (row_lists c.in-Salted.rows.now) (row_lists c.in-Salted.salts.now) in
    rw c.in-Salted.is (fact_of_run (λ part. part.now) (λ ps. c.hash_iter_slices-in-Salted.result ≡ hash (flat_map
    (λ part. part.now) ps))
    (c.hash_iter_slices-in-Salted.result ≡ hash (words_of_exponent c.args.exponent (zip hs (rows_in_parts parts))))
    c.hash_iter_slices-in-Salted.ensures
    (YieldsList-from_first (λ part. part.now) salted_left (parts_of_exponent c.args.exponent hs parts) refl)
    (λ ps e h. h ∙ ap hash (sym (flat_map-map (λ part. part) (λ part. part.now) ps)
    ∙ ap (flat_map (λ part. part)) e ∙ words_of_parts c.args.exponent hs parts)))

pub returns-in-Slices : goal.returns-in-Slices
returns-in-Slices g c =
    let hash = g.H.CryptographicHasher.hash c.args.self.now.hash.now in
    let hs = heights_of c.args.self.now.schedule.dimensions.now in
    let parts = parts_of c.args.rows in
    fact_of_run (λ part. part.now) (λ ps. c.hash_iter_slices-in-Slices.result ≡ hash (flat_map (λ part. part.now) ps))
    (c.hash_iter_slices-in-Slices.result ≡ hash (words_of_exponent c.args.exponent (zip hs (rows_in_parts parts))))
    c.hash_iter_slices-in-Slices.ensures
    (YieldsList-from_first (λ part. part.now) parts_left (parts_of_exponent c.args.exponent hs parts)
    c.new-parts.ensures)
    (λ ps e h. h ∙ ap hash (sym (flat_map-map (λ part. part) (λ part. part.now) ps)
    ∙ ap (flat_map (λ part. part)) e ∙ words_of_parts c.args.exponent hs parts))
