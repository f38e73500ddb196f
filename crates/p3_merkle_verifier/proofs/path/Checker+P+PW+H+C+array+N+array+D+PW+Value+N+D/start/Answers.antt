-- The leaf's rows are hashed.
use Rattle.std.proofs.Common.{◌∙◌, ap, sym, zip}
use Rattle.p3_merkle_core.specs.Checks.{words_of_exponent}
use Rattle.p3_merkle_core.specs.Geometry.{heights}
use Rattle.p3_merkle_core.proofs.Checks.Completeness.{reached_leaf}
use Rattle.p3_merkle_core.proofs.Shapes.SiblingFacts.{siblings_start}
use Rattle.p3_merkle_core.proofs.Shapes.StepFacts.{anc_start}
use Rattle.p3_merkle_verifier.specs.Inner.Checks.{functions_of, opening_in, shape_in}
use Rattle.p3_merkle_verifier.proofs.path.Checker+P+PW+H+C+array+N+array+D+PW+Value+N+D.start.Goals as goal

pub returns : goal.returns
returns g c =
    let f = functions_of c.args.self.now in
    let s = shape_in c.args.self.now in
    let o = opening_in c.args.opening in
    let leaves = c.args.self.now.schedule.walked.leaves in
    record {
      at_exponent = leaves;
      at_node = sym (anc_start s o.index);
      taken = sym (siblings_start s);
      reached = c.row_digest.ensures ∙ ap (λ y. f.hash (words_of_exponent y (zip (heights s) o.rows))) leaves
          ∙ sym (reached_leaf f s o);
    }
