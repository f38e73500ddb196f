-- The pairs so far, and those that the matrices which are left will be with the words still to be drawn, are the salted
-- matrices (`salted`).
use Rattle.std.proofs.Common.{◌≡◌, ◌∙◌, ◌+◌, ◌*◌, List, [], ◌∷◌, ◌++◌, ap, append-nil, arith, map, refl, subst, sym}
use Rattle.std.proofs.lemmas.List.Elements.{All-push}
use Rattle.std.proofs.lemmas.List.{map-append, nil_from_length}
use Rattle.std.specs.Vec.Iter.{into_iter_items}
use Rattle.p3_support.specs.Batches.{widened, CanWiden}
use Rattle.p3_support.specs.declared.matrix.Dimensions.{Dimensions}
use Rattle.p3_support.specs.Lists.{message}
use Rattle.p3_support.specs.Pairs.{left_of, pair_row, right_of}
use Rattle.p3_support.specs.RowMajor.{row_width, values_of}
use Rattle.p3_support.specs.Salts.{after_words, salts}
use Rattle.p3_merkle_core.specs.Nodes.{dimensions_of}
use Rattle.p3_merkle_core.specs.Views.{matrix_of}
use Rattle.p3_merkle_core.proofs.Lists.ViewFacts.{dimensions_are}
use Rattle.p3_merkle_tree.proofs.CommitFacts.{salted_widened}
use Rattle.p3_merkle_tree.proofs.DrawFacts.{after_next, after_some, drawn_more, first_fits, others_fit, pairs_more}
use Rattle.p3_merkle_tree.proofs.DrawFacts.{salted_row, same_more}
use Rattle.p3_merkle_tree.specs.Salted.{after_salts, salted, salted_matrices}
use Rattle.p3_merkle_tree.specs.SaltedTrees.{HaveSaltColumns}
use Rattle.p3_merkle_tree.specs.Inner.SaltedParts.{pair_matrix}
use Rattle.p3_merkle_tree.proofs.hiding_mmcs.salted_pairs.Goals as goal

pub new-requires-clause-width_fits : goal.new-requires-clause-width_fits
new-requires-clause-width_fits g c =
    let shown = matrix_of g.M.Matrix.height_of g.M.Matrix.width_of g.M.Matrix.row_of in
    let turn = c.in-Some.ensures.steps.0 in
    let fits = first_fits c.args.salt_elems (shown c.in-Some.matrix) (map shown (into_iter_items c.next.new.self))
    (map shown (into_iter_items c.loop-matrix.matrix-iterator)) (ap (map shown) turn)
    c.loop-matrix.invariant.fits in
    rw c.in_ok-salts.ensures.width fits

pub loop-matrix-init : goal.loop-matrix-init
loop-matrix-init g c =
    let shown = map (matrix_of g.M.Matrix.height_of g.M.Matrix.width_of g.M.Matrix.row_of) in
    let of_word = g.T.SaltWord.of_salt_word in
    let e = c.args.salt_elems in
    let s = g.R.Rng.stream c.args.rng.now in
    let all = c.into_iter-matrix-iterator.ensures.into_iter_gives.0 in
    let none = c.in_ok-pairs.ensures.items in
    let are = sym (dimensions_are g.M.Matrix.height_of g.M.Matrix.width_of g.M.Matrix.row_of c.args.matrices.items) in
    record {
      fits = rw all (subst (λ (ds : List Dimensions). CanWiden e ds) are c.requires.fits);
      same = λ i. map left_of (none i) ++ all i;
      columns = rw none (λ k d past. absurd (omega (arith, past)));
      salted = λ i. map pair_matrix (none i) ++ salted_matrices of_word e (shown (all i)) s;
      drawn = rw none refl;
    }

pub loop-matrix-preserved : goal.loop-matrix-preserved
loop-matrix-preserved g c =
    let shown = matrix_of g.M.Matrix.height_of g.M.Matrix.width_of g.M.Matrix.row_of in
    let of_word = g.T.SaltWord.of_salt_word in
    let e = c.args.salt_elems in
    let m = c.in-Some.matrix in
    let left = into_iter_items c.loop-matrix.matrix-iterator in
    let rest = into_iter_items c.next.new.self in
    let turn = c.in-Some.ensures.steps.0 in
    let before = g.R.Rng.stream c.loop-matrix.rng in
    let start = g.R.Rng.stream c.args.rng.now in
    let all = map shown c.args.matrices.items in
    let after = c.in_ok-salts.ensures.generator_after ∙ ap (λ h. after_words (h * e) before) c.height.ensures in
    let width = ap row_width c.new.ensures.right ∙ c.in_ok-salts.ensures.width in
    let values = ap values_of c.new.ensures.right ∙ c.in_ok-salts.ensures.values
    ∙ ap (λ h. salts of_word (h * e) before) c.height.ensures in
    let pair = c.new.result in
    let high = g.M.Matrix.height_of (left_of pair) in
    let wide = row_width (right_of pair) in
    let full = (right_of pair).full ∙ ap (λ h. h * wide) (sym pair.one_height) in
    let joined : pair_matrix pair ≡ salted wide (values_of (right_of pair)) (shown (left_of pair)) =
    λ i. record {
      height = high;
      width = g.M.Matrix.width_of (left_of pair) + wide;
      row = λ j. salted_row high wide (g.M.Matrix.row_of (left_of pair)) (values_of (right_of pair)) full j i;
    } in
    let made : pair_matrix pair ≡ salted e (salts of_word (g.M.Matrix.height_of m * e) before) (shown m) =
    joined ∙ (λ i. salted (width i) (values i) (shown (c.new.ensures.left i))) in
    let pushed = c.in_ok-push.ensures.items in
    let lefts = ap (map left_of) pushed ∙ map-append left_of c.loop-matrix.pairs.items (c.new.result ∷ [])
    ∙ ap (λ (l : _). map left_of c.loop-matrix.pairs.items ++ l ∷ []) c.new.ensures.left in
    record {
      fits = others_fit e (shown m) (map shown rest) (map shown left) (ap (map shown) turn)
          c.loop-matrix.invariant.fits;
      same = same_more left_of c.loop-matrix.pairs.items c.push.new.self.items c.new.result m left rest
          c.args.matrices.items turn c.new.ensures.left pushed c.loop-matrix.invariant.same;
      columns = subst (λ (pairs : List _). HaveSaltColumns e pairs) (sym pushed)
          (All-push (λ pair. row_width (right_of pair) ≡ e) c.loop-matrix.pairs.items c.new.result
          c.loop-matrix.invariant.columns width);
      salted =
          pairs_more of_word e shown (map pair_matrix c.loop-matrix.pairs.items) (map pair_matrix c.push.new.self.items)
          (salted_matrices of_word e all start) m left rest (pair_matrix c.new.result) before
          (g.R.Rng.stream c.rand.new.rng) turn after made
          (ap (map pair_matrix) pushed ∙ map-append pair_matrix c.loop-matrix.pairs.items (c.new.result ∷ []))
          c.loop-matrix.invariant.salted;
      drawn = drawn_more e shown (map left_of c.loop-matrix.pairs.items) (map left_of c.push.new.self.items) m start
          before (g.R.Rng.stream c.rand.new.rng) lefts after c.loop-matrix.invariant.drawn;
    }

pub returns-in_err-salts-clause-further : goal.returns-in_err-salts-clause-further
returns-in_err-salts-clause-further g c =
    let shown = matrix_of g.M.Matrix.height_of g.M.Matrix.width_of g.M.Matrix.row_of in
    let done = map left_of c.loop-matrix.pairs.items in
    let left = into_iter_items c.loop-matrix.matrix-iterator in
    let start = g.R.Rng.stream c.args.rng.now in
    let now = ap g.R.Rng.stream c.in_err-salts.ensures.untouched ∙ c.loop-matrix.invariant.drawn in
    after_some c.args.salt_elems shown done left c.args.matrices.items start (g.R.Rng.stream c.rand.new.rng)
    c.loop-matrix.invariant.same now

pub returns-in_err-push-clause-further : goal.returns-in_err-push-clause-further
returns-in_err-push-clause-further g c =
    let shown = matrix_of g.M.Matrix.height_of g.M.Matrix.width_of g.M.Matrix.row_of in
    let e = c.args.salt_elems in
    let done = map left_of c.loop-matrix.pairs.items in
    let left = into_iter_items c.loop-matrix.matrix-iterator in
    let rest = into_iter_items c.next.new.self in
    let start = g.R.Rng.stream c.args.rng.now in
    let before = g.R.Rng.stream c.loop-matrix.rng in
    let after = c.in_ok-salts.ensures.generator_after ∙ ap (λ h. after_words (h * e) before) c.height.ensures in
    after_next e shown done left c.args.matrices.items c.in-Some.matrix rest start before
    (g.R.Rng.stream c.rand.new.rng) c.in-Some.ensures.steps.0 c.loop-matrix.invariant.same after
    c.loop-matrix.invariant.drawn

pub returns-in_err-pairs-clause-further : goal.returns-in_err-pairs-clause-further
returns-in_err-pairs-clause-further g c = (0, refl)

-- the pairs are so much wider than the matrices
pub invariant_of-result-clause-own : goal.invariant_of-result-clause-own
invariant_of-result-clause-own g c =
    let it = c.loop-matrix.matrix-iterator in
    let left = nil_from_length (into_iter_items it) (omega (arith, it.rest.ok.0, c.in-None.ensures.steps.0)) in
    let of_word = g.T.SaltWord.of_salt_word in
    let e = c.args.salt_elems in
    let height = g.M.Matrix.height_of in
    let width = g.M.Matrix.width_of in
    let row = g.M.Matrix.row_of in
    let ms = c.args.matrices.items in
    let pairs = c.loop-matrix.pairs.items in
    let salted : map pair_matrix pairs
    ≡ salted_matrices of_word e (map (matrix_of height width row) ms) (g.R.Rng.stream c.args.rng.now) =
    rw (left, append-nil) at c.loop-matrix.invariant.salted in
    c.requires.wider ∙ ap (widened e) (sym (dimensions_are height width row ms))
    ∙ sym (salted_widened of_word e (map (matrix_of height width row) ms) (g.R.Rng.stream c.args.rng.now))
    ∙ ap dimensions_of (sym salted)
    ∙ dimensions_are (λ p. height (left_of p)) (λ p. width (left_of p) + row_width (right_of p))
    (λ p. pair_row row (λ m r. message (row_width m) (values_of m) r) (left_of p) (right_of p)) pairs

-- none is left
pub returns-clause-matrices : goal.returns-clause-matrices
returns-clause-matrices g c =
    let it = c.loop-matrix.matrix-iterator in
    let left = nil_from_length (into_iter_items it) (omega (arith, it.rest.ok.0, c.in-None.ensures.steps.0)) in
    rw (left, append-nil) at c.loop-matrix.invariant.same

pub returns-clause-columns : goal.returns-clause-columns
returns-clause-columns g c = c.loop-matrix.invariant.columns

pub returns-clause-salted : goal.returns-clause-salted
returns-clause-salted g c =
    let it = c.loop-matrix.matrix-iterator in
    let left = nil_from_length (into_iter_items it) (omega (arith, it.rest.ok.0, c.in-None.ensures.steps.0)) in
    rw (left, append-nil) at c.loop-matrix.invariant.salted

pub returns-clause-generator_after : goal.returns-clause-generator_after
returns-clause-generator_after g c =
    let it = c.loop-matrix.matrix-iterator in
    let left = nil_from_length (into_iter_items it) (omega (arith, it.rest.ok.0, c.in-None.ensures.steps.0)) in
    let same = rw (left, append-nil) at c.loop-matrix.invariant.same in
    let shown = matrix_of g.M.Matrix.height_of g.M.Matrix.width_of g.M.Matrix.row_of in
    c.loop-matrix.invariant.drawn
    ∙ ap (λ (ms : List _). after_salts c.args.salt_elems (map shown ms) (g.R.Rng.stream c.args.rng.now)) same

pub returns-clause-further : goal.returns-clause-further
returns-clause-further g c =
    after_some c.args.salt_elems (matrix_of g.M.Matrix.height_of g.M.Matrix.width_of g.M.Matrix.row_of)
    (map left_of c.loop-matrix.pairs.items) (into_iter_items c.loop-matrix.matrix-iterator) c.args.matrices.items
    (g.R.Rng.stream c.args.rng.now) (g.R.Rng.stream c.loop-matrix.rng) c.loop-matrix.invariant.same
    c.loop-matrix.invariant.drawn
