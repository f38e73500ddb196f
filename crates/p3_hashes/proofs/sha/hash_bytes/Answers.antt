-- Bytes are gathered until a block is full, which is handed on; those that were gathered last are handed on after the
-- loop.
use Rattle.std.proofs.Common.{arith, refl, ◌≡◌, ℕ, ◌+◌, ◌<◌, List, [], ◌∷◌, ◌++◌, ◌∙◌, sym, ap, length, take, set}
use Rattle.std.proofs.Common.{append_assoc, append-nil}
use Rattle.std.proofs.lemmas.Grind.{take-set_at}
use Rattle.std.proofs.lemmas.List.{length-set, take_all}
use Rattle.p3_hashes.specs.Sha.{sha256_rows}
use Rattle.p3_support.proofs.Runs.{run_of_loop}
use Rattle.p3_hashes.proofs.sha.hash_bytes.Goals as goal

-- the bytes so far and one more are those handed on and those gathered with it
gathered : (yielded handed block : List ℕ) (filled byte : ℕ) → filled < length block → yielded
    ≡ handed ++ take filled block → yielded ++ byte ∷ [] ≡ handed ++ take (filled + 1) (set block filled byte)
gathered yielded handed block filled byte below held =
    ap (λ xs. xs ++ byte ∷ []) held
    ∙ append_assoc handed (take filled block) (byte ∷ [])
    ∙ ap (λ xs. handed ++ xs) (sym (take-set_at block filled (filled + 1) byte refl below))

-- a full block is gathered as a whole
full : (handed block : List ℕ) (n : ℕ) → length block ≡ n → handed ++ take n block ≡ (handed ++ block) ++ []
full handed block n long = ap (λ xs. handed ++ xs) (take_all n block (omega (arith, long)))
    ∙ sym (append-nil (handed ++ block))

pub loop-byte-preserved : goal.loop-byte-preserved
loop-byte-preserved g c =
    let (long, below, (handed, holds, held)) = c.loop-byte.invariant in
    let inside : c.loop-byte.filled < length c.loop-byte.block = rw long below in
    let more = gathered c.loop-byte.yielded handed c.loop-byte.block c.loop-byte.filled c.in-Some.byte inside held in
    let room : c.loop-byte.filled + 1 < 64 = omega (arith, below, c.if-filled-eq-BLOCK.false) in
    (length-set c.loop-byte.block c.loop-byte.filled c.in-Some.byte ∙ long, room, (handed, holds, more))

pub loop-byte-preserved-then-filled-eq-BLOCK : goal.loop-byte-preserved-then-filled-eq-BLOCK
loop-byte-preserved-then-filled-eq-BLOCK g c =
    let (long, below, (handed, holds, held)) = c.loop-byte.invariant in
    let block = set c.loop-byte.block c.loop-byte.filled c.in-Some.byte in
    let inside : c.loop-byte.filled < length c.loop-byte.block = rw long below in
    let still : length block ≡ 64 = length-set c.loop-byte.block c.loop-byte.filled c.in-Some.byte ∙ long in
    let more = gathered c.loop-byte.yielded handed c.loop-byte.block c.loop-byte.filled c.in-Some.byte inside held in
    let none : 0 < 64 = omega arith in (
      still,
      none,
      (
        handed ++ block,
        c.update.ensures handed holds,
        more
            ∙ full handed block (c.loop-byte.filled + 1) (still ∙ sym c.if-filled-eq-BLOCK.true),
      ),
    )

pub returns : goal.returns
returns g c =
    let held = c.loop-byte.invariant.2 in
    let whole = c.finalize.ensures _ (c.update-2.ensures held.0 held.1) in
    run_of_loop g.I.Iterator.next_gives (λ (xs : List ℕ). c.finalize.result ≡ sha256_rows xs) c.loop-byte.yielded _
    c.into_iter-byte-iterator.ensures.into_iter_gives c.loop-byte.yielded_by c.in-None.is c.next.ensures.steps
    (whole ∙ ap sha256_rows (sym held.2))
