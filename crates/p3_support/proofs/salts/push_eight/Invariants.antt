use Rattle.std.proofs.Common.{◌≡◌, ◌+◌, ◌++◌, map, take, vec_len, vec_capacity}
use Rattle.p3_support.proofs.salts.push_eight.Given as goal

-- the values so far are after those before
abbrev pub invariant-loop-word : goal.invariant-loop-word
invariant-loop-word g l =
    (l.values.items ≡ l.initial.values.items ++ map g.T.SaltWord.of_salt_word (take l.word-index l.fn.words))
    × (vec_len l.values ≡ vec_len l.initial.values + l.word-index)
    × (vec_capacity l.values ≡ vec_capacity l.initial.values)
