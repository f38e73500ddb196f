-- A list of two or more entries has the root of its halves.
use Rattle.std.proofs.Common.{sym, ap, ◌∙◌}
use Rattle.tlog.specs.Rfc9162.{leaf_hash}
use Rattle.tlog.proofs.Entries.{root_at_none, root_at_one, root_at_split}
use Rattle.tlog.proofs.honest_proofs.+root.Goals as goal

pub returns-in-empty : goal.returns-in-empty
returns-in-empty g t c =
    c.empty_root.ensures ∙ sym (root_at_none g.H.LogHash.hash c.args.entries.now c.in-empty.len_below)

pub returns-in-len1 : goal.returns-in-len1
returns-in-len1 g t c =
    c.leaf_hash.ensures ∙ ap (leaf_hash g.H.LogHash.hash) c.deref.ensures.value
    ∙ sym (root_at_one g.H.LogHash.hash c.args.entries.now c.entry-item.result c.entry-item.is c.in-len1.len_at_least
    c.in-len1.len_below)

pub returns-in_default : goal.returns-in_default
returns-in_default g t c =
    c.node_hash.ensures ∙ rw (c.root.ensures, c.root-in_default.ensures)
    (sym (root_at_split g.H.LogHash.hash c.args.entries.now c.split_at.result.0.now c.split_at.result.1.now
    c.split.result
    c.in_default.len_at_least c.split.ensures.value c.split_at.ensures.front c.split_at.ensures.back))
