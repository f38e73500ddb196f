-- Leaf by leaf, by the paths of what is accepted.
use Rattle.std.proofs.Common.{◌<◌, ◌∙◌, ap, get_or, length, [], ℕ, Vec, Global, sym}
use Rattle.std.proofs.lemmas.List.{length-map}
use Rattle.std.proofs.lemmas.Result.{IfOk-weaker}
use Rattle.std.specs.Prelude.{IsNone, Option, ◌↔◌}
use Rattle.tlog.specs.Collisions.{entries_of}
use Rattle.tlog.specs.declared.collision.Collision.{Collision}
use Rattle.tlog.specs.Fixed.{RootFixesLeaf}
use Rattle.tlog_multiproof.specs.Fixed.{RootFixesLeaves}
use Rattle.tlog_multiproof.specs.Inner.Paths.{siblings_of}
use Rattle.tlog_multiproof.specs.Instance.{present}
use Rattle.tlog_multiproof.proofs.PathFacts.{fixed_by_paths}
use Rattle.tlog_multiproof.proofs.collision.entries_collision.Goals as goal

pub returns-clause-none : goal.returns-clause-none
returns-clause-none g c =
    let D = entries_of c.args.entries.now in
    let size = length c.args.entries.now in
    let indices = c.args.indices.now in
    let leaves = c.args.leaves.now in
    let proof = c.args.proof.now in
    let long = sym (length-map c.args.entries.now (λ (entry : Vec ℕ Global). entry.items)) in
    let kept = rw c.in-Some.is at c.in_ok-accepted.ensures.accepted in
    let paths_are = ap siblings_of c.deref.ensures.value ∙ kept.2 in
    let both = fixed_by_paths g.H.LogHash.hash D size indices leaves proof c.root-root.result
    (siblings_of c.deref.result.now) long c.root-root.ensures kept.0 kept.1 paths_are in
    IfOk-weaker c.path_collision.result
    (λ (found : Option Collision). IsNone found ↔ ((k : ℕ) → k < length indices →
    RootFixesLeaf g.H.LogHash.hash D (get_or indices k 0) (get_or leaves k [])
    (present (get_or (siblings_of c.deref.result.now) k []))))
    (λ (found : Option Collision). IsNone found ↔ RootFixesLeaves g.H.LogHash.hash D indices leaves proof)
    (λ found is. (λ none. both.1 (is.0 none), λ fixed. is.1 (both.0 fixed))) c.path_collision.ensures.none
