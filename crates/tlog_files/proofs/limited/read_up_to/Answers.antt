-- What was read so far is what the reader gave.
use Rattle.std.proofs.Common.{◌∙◌, ◌+◌, ◌++◌, ◌<◌, ◌≤◌, ◌≡◌, [], append-nil, ap, arith, inl, inr, length}
use Rattle.std.proofs.Common.{◌-◌, drop, length-append, length-drop, length-take, min, subst, sym, take, ⊎_elim}
use Rattle.std.proofs.Math.Nat.{le-min, min-le_left, min-le_right}
use Rattle.std.proofs.lemmas.List.{take-append-le}
use Rattle.std.proofs.KnownBytes.{Consumes-kept, Consumes-nil, Consumes-trans}
use Rattle.std.specs.Io.KnownBytes.{Consumes, ReadConsumes}
use Rattle.tlog_files.proofs.LimitedFacts.{all_read, full_read}
use Rattle.tlog_files.proofs.limited.read_up_to.Goals.{in-Ok+in_ok-extend_from_slice-in-Ok, in-Err+in_default}
use Rattle.tlog_files.proofs.limited.read_up_to.Goals as goal

pub loop-turn-init : goal.loop-turn-init
loop-turn-init g c =
    let none : c.new-bytes.result.items ≡ [] = c.new-bytes.ensures.items in
    let begun = g.R.Read.remaining c.args.input.now in
    record {
      wide = c.as_mut_slice-window.ensures.len ∙ c.in_ok-buffer.ensures.len;
      few = omega (arith, ap length none);
      consumed = subst (Consumes begun begun) (sym none) (Consumes-nil begun);
    }

pub returns-then-len-limit-clause-read : goal.returns-then-len-limit-clause-read
returns-then-len-limit-clause-read g c =
    full_read (g.R.Read.remaining c.args.input.now) (g.R.Read.remaining c.loop-turn.input) c.loop-turn.bytes.items
    c.args.limit c.loop-turn.invariant.consumed (omega (arith, c.loop-turn.invariant.few, c.if-len-limit.true))

pub returns-in-Ok-eq0-clause-read : goal.returns-in-Ok-eq0-clause-read
returns-in-Ok-eq0-clause-read g c =
    let begun = g.R.Read.remaining c.args.input.now in
    let before = g.R.Read.remaining c.loop-turn.input in
    let after = g.R.Read.remaining c.read.new.self in
    let bytes = c.loop-turn.bytes.items in
    let read = subst (λ r. ReadConsumes before after r c.read.new.buf) c.in-Ok-eq0.is c.read.ensures.bytes in
    let none = subst (λ n. Consumes before after (take n c.read.new.buf)) c.in-Ok-eq0.field-0-test read.0 in
    let wanted = c.args.limit + 1 - c.len-in-loop-turn.result in
    let some : 1 ≤ wanted = omega (arith, c.if-len-limit.false) in
    let room : 1 ≤ min wanted 8192 = le-min some (omega arith) in
    let asked = length-take c.min-room.result c.loop-turn.window in
    let has_room : 0 < length c.read.new.buf =
    omega (arith, room, c.min-room.ensures, c.read.auto.buf, asked, c.loop-turn.invariant.wide) in
    let at_end = read.1 c.in-Ok-eq0.field-0-test has_room in
    all_read begun after bytes c.args.limit
    (subst (Consumes begun after) (append-nil bytes)
    (Consumes-trans begun before after bytes [] c.loop-turn.invariant.consumed none)) at_end c.loop-turn.invariant.few

pub returns-in-Ok-eq0-clause-reader_after : goal.returns-in-Ok-eq0-clause-reader_after
returns-in-Ok-eq0-clause-reader_after g c =
    let begun = g.R.Read.remaining c.args.input.now in
    let before = g.R.Read.remaining c.loop-turn.input in
    let after = g.R.Read.remaining c.read.new.self in
    let bytes = c.loop-turn.bytes.items in
    let read = subst (λ r. ReadConsumes before after r c.read.new.buf) c.in-Ok-eq0.is c.read.ensures.bytes in
    let none = subst (λ n. Consumes before after (take n c.read.new.buf)) c.in-Ok-eq0.field-0-test read.0 in (
      c.loop-turn.invariant.few,
      subst (Consumes begun after) (append-nil bytes)
          (Consumes-trans begun before after bytes [] c.loop-turn.invariant.consumed none),
    )

pub returns-in-Some-clause-failed : goal.returns-in-Some-clause-failed
returns-in-Some-clause-failed g c =
    let begun = g.R.Read.remaining c.args.input.now in
    let before = g.R.Read.remaining c.loop-turn.input in
    let after = g.R.Read.remaining c.read.new.self in
    let bytes = c.loop-turn.bytes.items in
    let kept = Consumes-kept begun before after bytes c.loop-turn.invariant.consumed c.in-Err.ensures.bytes in
    ⊎_elim inl (λ failed. inr (failed, (bytes, kept, c.loop-turn.invariant.few))) c.in-Some.ensures.either

pub loop-turn-preserved : goal.loop-turn-preserved
loop-turn-preserved g c =
    let begun = g.R.Read.remaining c.args.input.now in
    let before = g.R.Read.remaining c.loop-turn.input in
    let after = g.R.Read.remaining c.read.new.self in
    let bytes = c.loop-turn.bytes.items in
    let window = c.loop-turn.window in
    let room = c.min-room.result in
    let left = drop room window in
    let asked = length-take room window in
    let kept = length-drop room window in
    let wanted = c.args.limit + 1 - c.len-in-loop-turn.result in
    let most_left = min-le_left wanted 8192 in
    let most_wide = min-le_right wanted 8192 in
    let wide : length (c.read.new.buf ++ left) ≡ 8192 =
    omega (
      arith,
      length-append c.read.new.buf left,
      c.read.auto.buf,
      asked,
      kept,
      c.min-room.ensures,
      most_wide,
      c.loop-turn.invariant.wide,
    ) in
    elim c.match-read.branch [
      | in-Ok+in_ok-extend_from_slice-in-Ok w ↦
          let count = w.in-Ok.count in
          let more = take count c.read.new.buf in
          let fits : count ≤ length c.read.new.buf = w.in-Ok.ensures.bound.0 in
          let items : c.match-read.bytes.items ≡ bytes ++ more =
          ap (λ v. v.items) w.bytes-is ∙ w.in_ok-extend_from_slice-in-Ok.ensures.items
          ∙ ap (λ xs. bytes ++ xs) (take-append-le count c.read.new.buf left fits) in
          record {
            wide = wide;
            few = omega (
              arith,
              ap length items,
              length-append bytes more,
              length-take count c.read.new.buf,
              fits,
              c.read.auto.buf,
              asked,
              c.min-room.ensures,
              most_left,
              c.if-len-limit.false,
            );
            consumed = subst (Consumes begun after) (sym items)
                (Consumes-trans begun before after bytes more c.loop-turn.invariant.consumed w.in-Ok.ensures.bytes.0);
          }
      | in-Err+in_default w ↦
          let same : c.match-read.bytes.items ≡ bytes = ap (λ v. v.items) w.bytes-is in
          record {
            wide = wide;
            few = omega (arith, ap length same, c.loop-turn.invariant.few);
            consumed = subst (Consumes begun after) (sym same)
                (Consumes-kept begun before after bytes c.loop-turn.invariant.consumed w.in-Err.ensures.bytes);
          }
    ]
