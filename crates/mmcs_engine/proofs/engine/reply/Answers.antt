-- The scheme of each hash is the one that the definition of a reply names.
use Rattle.std.proofs.Common.{refl, rules}
use Rattle.mmcs_engine.proofs.TreesInNumbers.{plain_alike}
use Rattle.mmcs_engine.proofs.engine.reply.Goals as goal

pub reply_with_scheme-requires : goal.reply_with_scheme-requires
reply_with_scheme-requires g c =
    rw c.in-Fold.is (
      search rules,
      (
        search rules,
        (
          search rules,
          (
            record {
              greatest_word = refl;
              printed_digits = refl;
              alike = plain_alike _ _ refl;
              same_height = c.new_with_rule-scheme.ensures.cap_height;
              same_rule = c.new_with_rule-scheme.ensures.rule;
            },
            c.requires.arity,
          ),
        ),
      ),
    )

pub reply_with_scheme-requires-in-Sha256 : goal.reply_with_scheme-requires-in-Sha256
reply_with_scheme-requires-in-Sha256 g c =
    rw c.in-Sha256.is (
      search rules,
      (
        search rules,
        (
          search rules,
          (
            record {
              greatest_word = refl;
              printed_digits = refl;
              alike = plain_alike _ _ refl;
              same_height = c.new_with_rule-scheme-in-Sha256.ensures.cap_height;
              same_rule = c.new_with_rule-scheme-in-Sha256.ensures.rule;
            },
            c.requires.arity,
          ),
        ),
      ),
    )
