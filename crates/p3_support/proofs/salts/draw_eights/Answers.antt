-- Each turn draws the next eight values.
use Rattle.std.proofs.Common.{arith, ◌++◌, ◌∙◌, ap, map}
use Rattle.p3_support.proofs.Draws.{drawn_more, salts_mapped}
use Rattle.p3_support.proofs.salts.draw_eights.Goals as goal

pub loop-preserved : goal.loop-preserved
loop-preserved g c =
    let of_word = g.T.SaltWord.of_salt_word in
    let xs = c.loop.values.items in
    drawn_more {k = 8} c.loop.invariant record {
      items = c.push_eight.ensures.items ∙ ap (λ words. xs ++ map of_word words) c.next_eight-words.ensures.words
          ∙ ap (λ l. xs ++ l) (salts_mapped of_word 8 (g.R.Rng.stream c.loop.rng));
      len = c.push_eight.ensures.len;
      capacity = c.push_eight.ensures.capacity;
      rest = c.next_eight-words.ensures.generator_after;
    } (omega arith)
