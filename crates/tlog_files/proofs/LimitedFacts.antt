-- What a reader gives up to a limit.
use Rattle.std.proofs.Common.{◌≡◌, ◌≤◌, ◌+◌, ◌∙◌, ◌++◌, ℕ, List, None, Option, Some, ap, append-nil, arith, length}
use Rattle.std.proofs.Common.{sym, take, take_all}
use Rattle.std.proofs.Math.Seq.{take-append_seam}
use Rattle.std.specs.Io.KnownBytes.{Consumes, IsAtEnd}
use Rattle.tlog_files.specs.Entries.{HoldsOfFile}

-- it has no more
pub all_read : (old now : Option (List ℕ)) (bytes : List ℕ) (limit : ℕ) → Consumes old now bytes → IsAtEnd now →
    length bytes ≤ limit + 1 → HoldsOfFile old (λ all. bytes ≡ take (limit + 1) all)
all_read None now bytes limit consumed end few = (bytes, sym (take_all (limit + 1) bytes few))
all_read (Some xs) None bytes limit consumed end few = absurd consumed
all_read (Some xs) (Some ys) bytes limit consumed end few =
    sym (take_all (limit + 1) bytes few)
    ∙ ap (take (limit + 1)) (sym (append-nil bytes) ∙ ap (λ rest. bytes ++ rest) (sym end) ∙ sym consumed)

-- it has given as many as are read
pub full_read : (old now : Option (List ℕ)) (bytes : List ℕ) (limit : ℕ) → Consumes old now bytes →
    length bytes ≡ limit + 1 → HoldsOfFile old (λ all. bytes ≡ take (limit + 1) all)
full_read None now bytes limit consumed full = (bytes, sym (take_all (limit + 1) bytes (omega (arith, full))))
full_read (Some xs) None bytes limit consumed full = absurd consumed
full_read (Some xs) (Some ys) bytes limit consumed full =
    sym (ap (take (limit + 1)) consumed ∙ ap (λ n. take n (bytes ++ ys)) (sym full) ∙ take-append_seam bytes ys)
