-- From size 0 and between equal sizes there are no digests.
use Rattle.std.proofs.Common.{◌≡◌, ◌<◌, List, ℕ, arith, length, map, refl}
use Rattle.std.proofs.lemmas.Result.{IfOk-weaker}
use Rattle.sha2.specs.Sha256.{sha256}
use Rattle.tlog.specs.Rfc9162.{Hash, consistency_proof, leaf_hash}
use Rattle.tlog_tree.specs.Trees.{all_there, values_at}
use Rattle.fohlazu_commands.specs.Outcomes.{growth_digests}
use Rattle.fohlazu_commands.proofs.GrowthLaws.{equal_nodes, other_nodes}
use Rattle.fohlazu_commands.proofs.prove_consistency.growth_nodes.Goals.{then-old-eq0-via-then-old-eq0}
use Rattle.fohlazu_commands.proofs.prove_consistency.growth_nodes.Goals.{then-old-eq0-via-else-old-eq0+then-old-new}
use Rattle.fohlazu_commands.proofs.prove_consistency.growth_nodes.Goals as goal

pub returns-then-old-eq0 : goal.returns-then-old-eq0
returns-then-old-eq0 c entries len =
    elim c.then-old-eq0.branch [
      | then-old-eq0-via-then-old-eq0 w ↦
          rw (w.if-old-eq0.true, c.new.ensures.items) refl
      | then-old-eq0-via-else-old-eq0+then-old-new w ↦
          let some : 0 < c.args.old = omega (arith, w.if-old-eq0.false) in
          equal_nodes c.args.old c.args.new entries c.new.result.items some w.if-old-new.true len
          c.new.ensures.items
    ]

pub returns : goal.returns
returns c =
    let some : 0 < c.args.old = omega arith in
    IfOk-weaker c.consistency_nodes.result
    (λ nodes. (hash : Hash) (leaves : List (List ℕ)) → length leaves ≡ c.args.new →
    values_at hash leaves nodes.items ≡ all_there (consistency_proof hash (λ leaf. leaf) c.args.old leaves))
    (λ nodes. (entries : List (List ℕ)) → length entries ≡ c.args.new →
    values_at sha256 (map (leaf_hash sha256) entries) nodes.items ≡ all_there (growth_digests c.args.old entries))
    (λ nodes each entries len. other_nodes c.args.old c.args.new entries nodes.items some len each)
    c.consistency_nodes.ensures
