-- Each row is split where its left matrix ends; the opening with salts joined is accepted, so the salted one is.
use Rattle.std.proofs.Common.{◌∙◌, List, ap, map, subst, sym}
use Rattle.p3_merkle_core.specs.Checks.{IsAccepted}
use Rattle.p3_merkle_core.specs.Geometry.{shape_of}
use Rattle.p3_merkle_core.specs.Nodes.{shape}
use Rattle.p3_merkle_core.specs.Openings.{Opening, opening_of}
use Rattle.p3_merkle_prover.specs.Parts.{matrices_of, tree_batch}
use Rattle.p3_merkle_tree.specs.Schemes.{params_of}
use Rattle.p3_support.specs.Shown.{row_lists}
use Rattle.p3_support.specs.declared.matrix.Dimensions.{Dimensions}
use Rattle.p3_merkle_tree.proofs.SplitFacts.{left_is, right_is, salted_from}
use Rattle.p3_merkle_tree.specs.HidingSchemes.{plain_of, salted_owned}
use Rattle.p3_merkle_tree.specs.Inner.SaltedParts.{left_widths, salt_parts, unsalted_parts}
use Rattle.p3_merkle_tree.proofs.hiding_open.MerkleTreeHidingMmcs+P+PW+H+C+R+N+D+SALT_ELEMS.open_batch.Goals as goal

pub returns-clause-opened : goal.returns-clause-opened
returns-clause-opened g c =
    let n = g.row.N in
    let i = c.args.index in
    let plain = plain_of c.args.self.now in
    let tree = c.args.tree.now in
    let pairs = matrices_of tree in
    let law = g.met.M.Matrix.length_row_of in
    let pairs_are = ap (map (λ p. p.now)) c.deref.ensures.value ∙ c.in_ok-pairs.ensures.matrices in
    let opened = c.in_ok-opening.ensures.opened in
    let joined = ap (λ (z : Opening _ _). z.rows) opened.in_layers in
    let rows = ap (λ v. row_lists v.items) c.new.ensures.values ∙ c.in_ok-rows.ensures.rows
    ∙ (λ k. unsalted_parts (left_widths (pairs_are k)) (joined k)) ∙ left_is n pairs law tree.lawful i c.requires in
    let salts = ap (λ z. row_lists z.0.items) c.new.ensures.proof ∙ c.in_ok-rows.ensures.salts
    ∙ (λ k. salt_parts (left_widths (pairs_are k)) (joined k)) ∙ right_is n pairs law tree.lawful i c.requires in
    let siblings = ap (λ z. z.1.items) c.new.ensures.proof in
    record {
      rows = rows;
      salts = salts;
      siblings = siblings ∙ ap (λ (z : Opening _ _). z.siblings) opened.in_layers;
      is_honest = λ own. siblings ∙ ap (λ (z : Opening _ _). z.siblings) (opened.is_honest own);
      is_accepted = λ cap own. salted_from n pairs law tree.lawful
          (λ (ds : List Dimensions). params_of plain (shape_of n ds)) cap g.row.SALT_ELEMS (salted_owned i c.new.result)
          c.requires own.columns rows salts
          (subst (IsAccepted (params_of plain (shape (tree_batch tree))) cap)
          (λ k. opening_of i (joined k) (sym siblings k)) (opened.is_accepted cap own.committed));
    }
