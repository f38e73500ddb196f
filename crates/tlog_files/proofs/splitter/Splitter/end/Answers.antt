-- The leaf hash is that of all bytes of the open entry, and nothing is open after it.
use Rattle.std.proofs.Common.{[], ◌∷◌, ◌∙◌, ap, arith, length-append, subst, sym}
use Rattle.tlog_files.specs.Inner.Splitting.{HoldsOpen}
use Rattle.tlog_files.proofs.splitter.Splitter.end.Goals as goal

pub returns-clause-holds : goal.returns-clause-holds
returns-clause-holds c =
    λ wanted ended bytes holds.
    let entry = subst (λ o. HoldsOpen o bytes) (sym c.replace-entry.ensures.value) holds.opened in (
      record {
        counted = omega (arith, holds.counted, length-append ended (bytes ∷ []));
        within = omega (arith, holds.counted, c.requires.room, length-append ended (bytes ∷ []));
        opened = subst (λ o. HoldsOpen o []) (sym c.replace-entry.ensures.after) c.new.ensures;
        kept = c.in_ok-end.ensures.holds wanted ended bytes holds.counted holds.kept;
      },
      c.in_ok-vec.ensures.items ∙ ap (λ d. d ∷ []) (c.finalize.ensures (0 ∷ bytes) entry.hashed),
    )
