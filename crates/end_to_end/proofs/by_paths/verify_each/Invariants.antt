-- The verdicts so far, followed by verdicts on the queries that are left, are verdicts on all queries.
use Rattle.std.proofs.Common.{◌++◌, List, zip}
use Rattle.std.specs.Iterator.Adapters.{zip_first, zip_second}
use Rattle.std.specs.List.{AllZip}
use Rattle.std.specs.Prelude.{Result}
use Rattle.std.specs.Slice.Iter.{iter_rest}
use Rattle.p3_support.specs.Shown.{roots_of, row_sets}
use Rattle.p3_merkle_tree.specs.Geometry.{shape_of}
use Rattle.p3_merkle_tree.specs.MerkleTreeError.{MerkleTreeError}
use Rattle.p3_merkle_tree.specs.Schemes.{params_of}
use Rattle.p3_merkle_tree.specs.Views.{shown_paths}
use Rattle.end_to_end.specs.Inner.QueryVerdicts.{IsVerdictOn}
use Rattle.end_to_end.proofs.by_paths.verify_each.Given as goal

abbrev pub invariant-loop-path : goal.invariant-loop-path
invariant-loop-path g l =
    let c = params_of l.scheme (shape_of g.row.N l.dimensions) in
    let IsVerdict = IsVerdictOn g.PW.Value.PartialEq.eq c (roots_of l.commit) in
    let paths = shown_paths (iter_rest (zip_first l.path-iterator)) in
    let rows = row_sets (iter_rest (zip_second l.path-iterator)) in
    (more : List (Result (Unit {0}) MerkleTreeError)) → AllZip IsVerdict (zip paths rows) more →
    AllZip IsVerdict (zip (shown_paths l.paths) (row_sets l.rows)) (l.verdicts.items ++ more)
