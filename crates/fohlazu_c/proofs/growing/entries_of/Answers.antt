use Rattle.std.proofs.Common.{◌≡◌, ◌∙◌, ◌+◌, ◌++◌, ℕ, List, [], ◌∷◌, Bor, ap, arith, drop, length, map, sym}
use Rattle.std.proofs.lemmas.List.{map-append}
use Rattle.fohlazu_c.specs.Growing.{cut_entries}
use Rattle.fohlazu_c.proofs.EntryFacts.{cut_end, cut_step}
use Rattle.fohlazu_c.proofs.growing.entries_of.Goals as goal

abbrev bytes_of : Bor (List ℕ) → List ℕ
bytes_of entry = entry.now

pub loop-length-preserved : goal.loop-length-preserved
loop-length-preserved c =
    let ns = c.args.lengths.now in
    let i = c.loop-length.length-index in
    let done = map bytes_of c.loop-length.entries.items in
    let step = cut_step ns c.loop-length.rest.now done i (omega (arith, c.loop-length-test.true))
    c.loop-length.invariant.left in
    let pushed : map bytes_of c.push.new.self.items ≡ done ++ c.split_at.result.0.now ∷ [] =
    ap (map bytes_of) c.in_ok-push.ensures.items
    ∙ map-append bytes_of c.loop-length.entries.items (c.split_at.result.0 ∷ []) in
    record {
      left = step.0 ∙ ap length (sym c.split_at.ensures.back);
      cut = ap (λ entries. entries ++ cut_entries (drop (i + 1) ns) c.split_at.result.1.now) pushed
          ∙ rw (c.split_at.ensures.front, c.split_at.ensures.back) (sym step.1 ∙ c.loop-length.invariant.cut);
    }

pub returns : goal.returns
returns c =
    let done = map bytes_of c.loop-length.entries.items in
    cut_end c.args.lengths.now c.loop-length.rest.now done c.loop-length.length-index
    (omega (arith, c.loop-length-test.false)) ∙ c.loop-length.invariant.cut
