-- Each clause is a lemma on the log's tree as a tree of arity 2: its shape, its nodes and what is accepted in it.
use Rattle.std.proofs.Common.{◌*◌, ◌^◌, ◌<◌, length, [], ◌∷◌, map, take, drop, sym, ap, subst, ◌∙◌, arith, get_or}
use Rattle.std.proofs.lemmas.List.{drop-map, length-map, take-map}
use Rattle.p3_merkle_core.specs.Geometry.{levels}
use Rattle.p3_merkle_core.specs.Openings.{honest}
use Rattle.p3_merkle_core.specs.Commitments.{cap_over}
use Rattle.p3_merkle_core.specs.Pruning.{boundary, honest_query, restored_path}
use Rattle.tlog.specs.Rfc9162.{leaf_hash, mth}
use Rattle.tlog.proofs.Layers.{itself}
use Rattle.tlog_multiproof.specs.Instance.{AreLogDigests, log_functions, log_params, log_shape, present, root_cap}
use Rattle.tlog_multiproof.specs.Laws.{entries_batch}
use Rattle.tlog_multiproof.specs.declared.tree.Node.TheVariants.{Hash}
use Rattle.tlog_multiproof.proofs.Honest.{honest_filled, honest_is_path, restored_is_path}
use Rattle.tlog_multiproof.proofs.Included.{accepted_if_included}
use Rattle.tlog_multiproof.proofs.Leaves.{mth_map, path_map}
use Rattle.tlog_multiproof.proofs.Nodes.{cap_is_root, node_is_mth, padding_is_absent}
use Rattle.tlog_multiproof.proofs.Restored.{query_accepted}
use Rattle.tlog_multiproof.proofs.laws.log_tree.Goals as goal

pub returns-clause-nodes : goal.returns-clause-nodes
returns-clause-nodes c = record {
  nodes = λ hash D l j low inside.
      let leaves = map (leaf_hash hash) D in
      let len = length-map D (leaf_hash hash) in
      let below = drop (j * 2 ^ l) D in
      node_is_mth hash leaves (rw len (omega arith)) l j (rw len low) (rw len inside)
      ∙ ap (λ ls. Hash (mth hash itself (take (2 ^ l) ls)) ∷ []) (drop-map (leaf_hash hash) (j * 2 ^ l) D)
      ∙ ap (λ ls. Hash (mth hash itself ls) ∷ []) (take-map (leaf_hash hash) (2 ^ l) below)
      ∙ ap (λ root. Hash root ∷ []) (mth_map hash (leaf_hash hash) (take (2 ^ l) below));
  padding = λ hash D l j some low past.
      let len = length-map D (leaf_hash hash) in
      padding_is_absent hash (map (leaf_hash hash) D) (rw len some) l j (rw len low) (rw len past);
}

pub returns-clause-cap : goal.returns-clause-cap
returns-clause-cap c = λ hash D some.
    let len = length-map D (leaf_hash hash) in
    ap (λ n. cap_over (log_params hash n) (entries_batch hash D)) (sym len)
    ∙ cap_is_root hash (map (leaf_hash hash) D) (rw len some)
    ∙ ap root_cap (mth_map hash (leaf_hash hash) D)

pub returns-clause-siblings : goal.returns-clause-siblings
returns-clause-siblings c = λ hash D m inside.
    let len = length-map D (leaf_hash hash) in
    ap (λ n. present (honest (log_functions hash) (entries_batch hash D) (levels (log_shape n)) m).siblings) (sym len)
    ∙ honest_is_path hash (map (leaf_hash hash) D) m (rw len inside)
    ∙ path_map hash (leaf_hash hash) m D inside

pub returns-clause-opening : goal.returns-clause-opening
returns-clause-opening c = λ hash size index leaf path root inside small filled.
    accepted_if_included hash size index leaf path inside small filled root

pub returns-clause-restored : goal.returns-clause-restored
returns-clause-restored c = record {
  filled = λ hash D indices some.
      let len = length-map D (leaf_hash hash) in
      subst (λ n. let s = log_shape n in AreLogDigests n (boundary s indices (levels s))
      (honest_query (log_functions hash) (entries_batch hash D) (levels s) indices).digests) len
      (honest_filled hash (map (leaf_hash hash) D) (rw len some) indices);
  paths = λ hash D indices k small below inside.
      let len = length-map D (leaf_hash hash) in
      let i = get_or indices k 0 in
      let some : 0 < length D = let b = below k 0 inside in omega arith in
      ap (λ n. present (restored_path (log_params hash n)
      (honest_query (log_functions hash) (entries_batch hash D) (levels (log_shape n)) indices) i)) (sym len)
      ∙ restored_is_path hash (map (leaf_hash hash) D) (rw len some) indices k (rw len small) (rw len below) inside
      ∙ path_map hash (leaf_hash hash) i D (below k 0 inside);
}

pub returns-clause-query : goal.returns-clause-query
returns-clause-query c = λ hash size indices leaves digests root k small below paired filled inside.
    query_accepted hash size indices leaves digests below paired filled k root small inside
