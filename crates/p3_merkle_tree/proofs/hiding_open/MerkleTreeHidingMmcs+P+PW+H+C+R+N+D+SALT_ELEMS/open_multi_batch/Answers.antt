-- Each row is split where its left matrix ends; the opening with salts joined is accepted, so the salted one is.
use Rattle.std.proofs.Common.{◌∙◌, [], List, ap, arith, map, subst}
use Rattle.std.specs.Prelude.{slice_index, slice_index_or}
use Rattle.p3_merkle_core.specs.Geometry.{shape_of}
use Rattle.p3_merkle_core.specs.Nodes.{shape}
use Rattle.p3_merkle_core.specs.Checks.{IsAccepted}
use Rattle.p3_merkle_core.specs.Openings.{Opening, honest_rows, opening_of}
use Rattle.p3_merkle_core.specs.Pruning.{IsPrunedAccepted, PrunedOpening, pruned_of}
use Rattle.p3_merkle_prover.specs.Parts.{matrices_of, tree_batch}
use Rattle.p3_merkle_tree.specs.Schemes.{params_of}
use Rattle.p3_support.specs.declared.matrix.Dimensions.{Dimensions}
use Rattle.p3_merkle_tree.proofs.SaltedAlone.{first_at}
use Rattle.p3_merkle_tree.proofs.SplitFacts.{left_sets_are, right_sets_are, salted_from, salted_pruned_from}
use Rattle.p3_merkle_tree.specs.HidingSchemes.{plain_of, salted_pruned_owned}
use Rattle.p3_merkle_tree.specs.Inner.SaltedParts.{left_widths, salt_parts, unsalted_parts}
use Rattle.p3_merkle_tree.specs.SaltedOpenings.{salted_as_single}
use Rattle.p3_merkle_tree.specs.SaltedTrees.{left_batch, right_batch}
use Rattle.p3_merkle_tree.proofs.hiding_open.MerkleTreeHidingMmcs+P+PW+H+C+R+N+D+SALT_ELEMS.open_multi_batch.Goals as goal

pub returns-clause-opened : goal.returns-clause-opened
returns-clause-opened g c =
    let n = g.row.N in
    let is = c.args.indices.now in
    let plain = plain_of c.args.self.now in
    let tree = c.args.tree.now in
    let pairs = matrices_of tree in
    let law = g.met.M.Matrix.length_row_of in
    let opened = c.in_ok-opening.ensures.opened in
    let digests = c.in_ok-opening.opening.pruned_proof.sibling_hashes.items in
    let joined = ap (λ (z : PrunedOpening _ _). z.rows) opened.in_layers in
    let rows = c.in_ok-rows.ensures.rows ∙ ap (map (unsalted_parts (left_widths pairs))) joined
    ∙ left_sets_are n pairs law tree.lawful is c.requires in
    let salts = c.in_ok-rows.ensures.salts ∙ ap (map (salt_parts (left_widths pairs))) joined
    ∙ right_sets_are n pairs law tree.lawful is c.requires in
    record {
      rows = rows;
      salts = salts;
      digests = ap (λ (z : PrunedOpening _ _). z.digests) opened.in_layers;
      is_honest = λ own. ap (λ (z : PrunedOpening _ _). z.digests) (opened.is_honest own);
      is_accepted = λ cap own. salted_pruned_from n pairs law tree.lawful
          (λ (ds : List Dimensions). params_of plain (shape_of n ds)) cap g.row.SALT_ELEMS _ c.requires own.columns rows
          salts (subst (IsPrunedAccepted (params_of plain (shape (tree_batch tree))) cap)
          (λ k. pruned_of is (joined k) digests) (opened.is_accepted cap own.committed));
    }

pub returns-clause-single : goal.returns-clause-single
returns-clause-single g c one =
    let n = g.row.N in
    let is = c.args.indices.now in
    let i = slice_index is 0 in
    let plain = plain_of c.args.self.now in
    let tree = c.args.tree.now in
    let pairs = matrices_of tree in
    let law = g.met.M.Matrix.length_row_of in
    let single = c.in_ok-opening.ensures.single one in
    let opened = returns-clause-opened g c in
    let digests = c.in_ok-opening.opening.pruned_proof.sibling_hashes.items in
    let joined = ap (λ (z : Opening _ _). z.rows) single.in_layers in
    let rows = ap (λ sets. slice_index_or sets 0 []) opened.rows ∙ first_at (honest_rows (left_batch n pairs)) is one in
    let salts = ap (λ sets. slice_index_or sets 0 []) opened.salts
    ∙ first_at (honest_rows (right_batch n pairs)) is one in
    record {
      rows = rows;
      salts = salts;
      siblings = ap (λ (z : Opening _ _). z.siblings) single.in_layers;
      is_honest = λ own. ap (λ (z : Opening _ _). z.siblings) (single.is_honest own);
      is_accepted = λ cap own. salted_from n pairs law tree.lawful
          (λ (ds : List Dimensions). params_of plain (shape_of n ds)) cap g.row.SALT_ELEMS
          (salted_as_single (salted_pruned_owned is
          (c.in_ok-rows.rows, (c.in_ok-rows.salts, c.in_ok-opening.opening.pruned_proof))))
          (c.requires 0 0 (omega arith)) own.columns rows salts
          (subst (IsAccepted (params_of plain (shape (tree_batch tree))) cap)
          (λ k. opening_of i (joined k) digests) (single.is_accepted cap own.committed));
    }
