-- The places so far are those of the entries so far, and the other entries stand in what is left of the text.
use Rattle.std.proofs.Common.{◌≡◌, ◌-◌, ◌∙◌, arith, ap, option_map, rules}
use Rattle.tlog_text.specs.InPlace.{entries_from, entry_text_fields}
use Rattle.tlog_text.proofs.InPlaceFacts.{from_stops, none_from}
use Rattle.fohlazu_commands.proofs.SortedFacts.{no_more, one_more}
use Rattle.fohlazu_commands.proofs.sorted.places_of.Goals as goal

pub returns-in_default : goal.returns-in_default
returns-in_default c =
    let count = c.args.proof.now.count in
    let left = c.loop-entry.left.now in
    let more = count - c.loop-entry._entry in
    no_more c.args.proof.now.text.now count left more c.loop-entry.places.items
    (from_stops left more _ (ap (option_map _) c.in_default.is) c.next_entry.ensures) c.loop-entry.invariant

pub loop-entry-preserved : goal.loop-entry-preserved
loop-entry-preserved c =
    one_more c.args.proof.now.text.now c.args.proof.now.count c.loop-entry.left.now c.loop-entry._entry
    c.loop-entry.places.items c.push.new.self.items (entry_text_fields c.in-Some.entry) c.in-Some.rest.now
    c.loop-entry-test.true c.in-Some.ensures c.loop-entry.invariant (search rules)

pub returns : goal.returns
returns c =
    let count = c.args.proof.now.count in
    let left = c.loop-entry.left.now in
    let done : count - c.loop-entry._entry ≡ 0 = omega (arith, c.loop-entry-test.false) in
    no_more c.args.proof.now.text.now count left (count - c.loop-entry._entry) c.loop-entry.places.items
    (ap (entries_from left) done ∙ none_from left) c.loop-entry.invariant
