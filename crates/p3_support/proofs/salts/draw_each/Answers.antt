use Rattle.std.proofs.Common.{rules, arith, ◌++◌, ◌∷◌, ◌∙◌, [], ap}
use Rattle.p3_support.proofs.Draws.{drawn_more}
use Rattle.p3_support.proofs.salts.draw_each.Goals as goal

pub loop-preserved : goal.loop-preserved
loop-preserved g c =
    let of_word = g.T.SaltWord.of_salt_word in
    drawn_more {k = 1} c.loop.invariant record {
      items = c.push_reserved.ensures.items ∙ ap (λ x. c.loop.values.items ++ x ∷ []) (c.from_salt_word.ensures
          ∙ ap (λ p. of_word p.0) c.next_u64.ensures);
      len = search rules;
      capacity = search rules;
      rest = ap (λ p. p.1) c.next_u64.ensures;
    } (omega arith)
