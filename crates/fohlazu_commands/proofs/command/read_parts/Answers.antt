-- What is read of the parts that are left makes all, after the texts so far (`makes`); none of these is too long
-- (`short`).
use Rattle.std.proofs.Common.{◌≡◌, ◌+◌, length, ◌∙◌, [], ◌∷◌, ◌++◌, append-nil, arith, ap, inl, inr, map}
use Rattle.std.proofs.Common.{subst, sym, List, Option, Some, ℕ, ⊎_elim}
use Rattle.std.proofs.lemmas.Result.{err_from_is_err_and}
use Rattle.std.proofs.lemmas.List.{length-map, nil_from_length}
use Rattle.fohlazu_commands.specs.Commands.{AreReadAs, note_from}
use Rattle.fohlazu_commands.specs.Outcomes.{bytes_in}
use Rattle.fohlazu_commands.specs.declared.error.Source.TheVariants.{Part}
use Rattle.std.specs.Vec.Iter.{into_iter_items}
use Rattle.fohlazu_commands.proofs.RunFacts.{all_read, read_until, stops_at, unread}
use Rattle.fohlazu_commands.proofs.command.read_parts.Goals as goal

pub returns-in_err-read_note : goal.returns-in_err-read_note
returns-in_err-read_note g c =
    let left = err_from_is_err_and c.from_residual.result c.from_residual.ensures.1 in
    let done = map bytes_in c.loop-part.texts.items in
    rw (left.1, left.2)
    (⊎_elim
    (λ memory. let none = unread g.R.Read.remaining c.args.parts.items in (none.0, none.1, inl memory))
    (λ refused.
    let stops = stops_at g.R.Read.remaining (into_iter_items c.loop-part.part-iterator)
    (into_iter_items c.next.new.self) c.in-Some.part c.args.parts.items c.loop-part.texts.items
    c.in-Some.ensures.steps.0 c.loop-part.invariant.makes refused.0 refused.1 in
    let len_is : 0 + length done ≡ c.len.result = omega (arith, length-map c.loop-part.texts.items bytes_in) in (
      map Some done ++ refused.0 ∷ stops.0,
      stops.1,
      inr (read_until 0 done refused.0 stops.0 _ c.loop-part.invariant.short
          (ap (λ n. note_from (Part n) refused.0) len_is ∙ refused.2)),
    ))
    c.in_err-read_note.ensures.failed)

pub returns-in_err-push : goal.returns-in_err-push
returns-in_err-push g c =
    let left = err_from_is_err_and c.from_residual-in_err-push.result c.from_residual-in_err-push.ensures.1 in
    let none = unread g.R.Read.remaining c.args.parts.items in rw left.1 (none.0, none.1, inl left.2)

pub returns : goal.returns
returns g c =
    let it = c.loop-part.part-iterator in
    let left = nil_from_length (into_iter_items it) (omega (arith, it.rest.ok.0, c.in-None.ensures.steps.0)) in
    let texts = map bytes_in c.loop-part.texts.items in (
      map Some texts,
      subst (λ (all : List (Option (List ℕ))). AreReadAs (map g.R.Read.remaining c.args.parts.items) all)
          (append-nil (map Some texts))
          (c.loop-part.invariant.makes []
          (subst (λ (xs : List _). AreReadAs (map g.R.Read.remaining xs) []) (sym left) tt)),
      all_read 0 texts c.loop-part.invariant.short,
    )
