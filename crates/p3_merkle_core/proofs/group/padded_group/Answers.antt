-- Each slot has its child, or the default digest.
use Rattle.std.proofs.Common.{◌≡◌, get_or, rules}
use Rattle.p3_support.proofs.Made.{made_by}
use Rattle.p3_merkle_core.proofs.Lists.GroupFacts.{slots_made}
use Rattle.p3_merkle_core.proofs.group.padded_group.Goals as goal

pub returns : goal.returns
returns g c =
    let d = c.args.default_digest in
    let children = c.args.children.now in
    let made = made_by _ _ (λ k y. y ≡ get_or children k d) (λ k y q called. search rules) c.from_fn.ensures.items in
    slots_made g.row.N d children c.from_fn.result c.requires c.from_fn.ensures.items.long (λ k below. made k d below)
