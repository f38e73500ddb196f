-- The length of a row is the sum of all widths, and the slots so far have the digests of their rows.
use Rattle.std.proofs.Common.{arith, ℕ, ◌≡◌, ◌+◌, ◌-◌, ◌≤◌, ◌∙◌, [], length, length-set}
use Rattle.std.proofs.lemmas.List.FromFn.{fill_by_all}
use Rattle.p3_support.proofs.Fills.{filled_more}
use Rattle.p3_merkle_hashing.specs.Inner.Slots.{rows_over}
use Rattle.p3_merkle_hashing.proofs.StageFacts.{leaves_part}
use Rattle.p3_merkle_hashing.proofs.rows.LayerRows+P+PW+H+M+array+D+PW+Value.fill_batched.Goals as goal
use Rattle.p3_merkle_hashing.proofs.rows.LayerRows+P+PW+H+M+array+D+PW+Value.fill_batched.Goals.{then-count-eq1+in_ok-digest}
use Rattle.p3_merkle_hashing.proofs.rows.LayerRows+P+PW+H+M+array+D+PW+Value.fill_batched.Goals.{else-count-eq1+in_ok-words}

pub loop-done-preserved : goal.loop-done-preserved
loop-done-preserved g c =
    let done = c.loop-done.done in
    let n = c.min-count.result in
    let k : ℕ = done + n - done in
    let xs = c.loop-done.slots in
    let hash = g.H.CryptographicHasher.hash c.args.self.now.hash.now in
    let rows = rows_over g.M.Matrix.row_of c.args.self.now.matrices.now in
    let inside : done + n ≤ length xs = omega arith in
    let same : k ≡ n = omega arith in (
      omega (arith, inside, c.loop-done.invariant.1.long),
      elim c.if-count-eq1.branch [
        | then-count-eq1+in_ok-digest w ↦
            let one : n ≡ 1 = w.if-count-eq1.true in
            rw (w.slots-is, one) (record {
              long = length-set xs done w.in_ok-digest.digest ∙ c.loop-done.invariant.1.long;
              filled = filled_more (λ (j : ℕ). hash (rows (c.args.first + j))) xs done w.in_ok-digest.digest []
                  (omega (arith, inside, one)) w.in_ok-digest.ensures c.loop-done.invariant.1.filled;
            })
        | else-count-eq1+in_ok-words w ↦ rw w.slots-is
            (leaves_part hash rows c.args.first w.in_ok-words.words.now xs w.hash_many.new.out done k n
            (length c.args.slots.now) same inside (rw (← same) at w.in_ok-words.ensures) w.hash_many.ensures
            c.loop-done.invariant.1)
      ],
    )

pub returns : goal.returns
returns g c =
    let hash = g.H.CryptographicHasher.hash c.args.self.now.hash.now in
    let rows = rows_over g.M.Matrix.row_of c.args.self.now.matrices.now in
    fill_by_all (λ (j : ℕ). hash (rows (c.args.first + j))) c.loop-done.slots (length c.args.slots.now) []
    c.loop-done.invariant.1.long
    (λ j h. c.loop-done.invariant.1.filled j (omega (arith, h, c.loop-done.invariant.1.long)))
