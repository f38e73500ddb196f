use Rattle.std.proofs.Common.{◌≡◌, ◌∙◌, ◌-◌, map, rules, sym, IfOk}
use Rattle.std.proofs.lemmas.Result.{IfOk-weaker}
use Rattle.std.proofs.lemmas.Simd.{map-map}
use Rattle.tlog_text.specs.Texts.{entry_fields, EntryFields}
use Rattle.tlog_text.specs.declared.entries.Entry.{Entry}
use Rattle.fohlazu_commands.proofs.collisions.indices_of.Goals as goal

pub returns : goal.returns
returns c =
    let own : IfOk c.collect.result (λ v. v.items ≡ map (λ (e : Entry). e.number - 1) c.args.entries.now) =
    search rules in
    IfOk-weaker c.collect.result (λ v. v.items ≡ map (λ (e : Entry). e.number - 1) c.args.entries.now)
    (λ v. v.items ≡ map (λ (e : EntryFields). e.number - 1) (map entry_fields c.args.entries.now))
    (λ v is. is ∙ sym (map-map (λ (e : EntryFields). e.number - 1) entry_fields c.args.entries.now)) own
