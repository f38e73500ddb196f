-- What was read so far has been built.
use Rattle.std.proofs.Common.{◌⊎◌, ℕ, List, ◌≡◌, ◌++◌, ◌∙◌, [], append-nil, arith, inl, inr, leb-true, refl, subst, sym}
use Rattle.std.proofs.Common.{length-take, take, ⊎_elim}
use Rattle.std.proofs.lemmas.Result.{err_from_is_err_and}
use Rattle.std.specs.Io.KnownBytes.{Consumes, ReadConsumes}
use Rattle.tlog_files.specs.Inner.Splitting.{AreTooMany, IsReady}
use Rattle.tlog_files.specs.declared.framing.Framing.{Framing}
use Rattle.tlog_files.specs.declared.error.ReadError.{ReadError}
use Rattle.tlog_files.specs.declared.error.ReadError.TheVariants.{OutOfMemory, TooManyEntries}
use Rattle.tlog_files.proofs.ReaderFacts.{grown_on, read_on, refused_reading, whole_read}
use Rattle.std.proofs.KnownBytes.{Consumes-kept, Consumes-nil, Consumes-trans}
use Rattle.tlog_files.proofs.reading.read_through.Goals.{in-Ok+in_ok-tree-in-Ok, in-Err+in_default}
use Rattle.tlog_files.proofs.reading.read_through.Goals as goal

pub loop-turn-init : goal.loop-turn-init
loop-turn-init g c = record {
  wide = c.as_mut_slice-window.ensures.len ∙ c.in_ok-buffer.ensures.len;
  ready = c.requires;
  same = (refl, refl);
  built = λ nodes wanted b. (
    [],
    Consumes-nil (g.R.Read.remaining c.args.file.now),
    record { read = []; left = []; parts = refl; built = b; all_read = inl refl },
    inl refl,
  );
}

pub returns-then-is_full : goal.returns-then-is_full
returns-then-is_full g c =
    let s = c.loop-turn.splitter in
    record {
      ready = c.loop-turn.invariant.ready;
      unchanged = c.loop-turn.invariant.same;
      built = λ nodes wanted b.
          let (bytes, consumed, now, near) = c.loop-turn.invariant.built nodes wanted b in
          (bytes, consumed, now, inr (leb-true s.limit s.count (sym c.is_full.ensures ∙ c.if-is_full.true)), near);
      refused = λ nodes wanted b. tt;
    }

pub returns-in-Ok-eq0 : goal.returns-in-Ok-eq0
returns-in-Ok-eq0 g c =
    let begun = g.R.Read.remaining c.args.file.now in
    let before = g.R.Read.remaining c.loop-turn.file in
    let after = g.R.Read.remaining c.read.new.self in
    let read = subst (λ r. ReadConsumes before after r c.read.new.buf) c.in-Ok-eq0.is c.read.ensures.bytes in
    let none = subst (λ n. Consumes before after (take n c.read.new.buf)) c.in-Ok-eq0.field-0-test read.0 in
    let at_end = read.1 c.in-Ok-eq0.field-0-test (omega (arith, c.loop-turn.invariant.wide, c.read.auto.buf)) in
    record {
      ready = c.loop-turn.invariant.ready;
      unchanged = c.loop-turn.invariant.same;
      built = λ nodes wanted b.
          let (bytes, consumed, now, near) = c.loop-turn.invariant.built nodes wanted b in (
            bytes,
            subst (Consumes begun after) (append-nil bytes) (Consumes-trans begun before after bytes [] consumed none),
            now,
            inl at_end,
            near,
          );
      refused = λ nodes wanted b. tt;
    }

pub loop-turn-preserved : goal.loop-turn-preserved
loop-turn-preserved g c =
    let begun = g.R.Read.remaining c.args.file.now in
    let before = g.R.Read.remaining c.loop-turn.file in
    let after = g.R.Read.remaining c.read.new.self in
    let first = c.args.splitter.now in
    let tree = c.match-read.tree in
    let before_same = c.loop-turn.invariant.same in
    elim c.match-read.branch [
      | in-Ok+in_ok-tree-in-Ok w ↦
          let pushed = w.in_ok-tree-in-Ok.ensures in
          record {
            wide = omega (arith, c.read.auto.buf, c.loop-turn.invariant.wide);
            ready = subst IsReady (sym w.splitter-is) pushed.ready;
            same = subst (λ s. (s.framing ≡ first.framing) × (s.limit ≡ first.limit)) (sym w.splitter-is)
                (pushed.unchanged.0 ∙ before_same.0, pushed.unchanged.1 ∙ before_same.1);
            built = λ nodes wanted b.
                let (bytes, consumed, now, near) = c.loop-turn.invariant.built nodes wanted b in
                let more = take w.in-Ok.count c.read.new.buf in
                let room = sym c.is_full.ensures ∙ c.if-is_full.false in (
                  bytes ++ more,
                  Consumes-trans begun before after bytes more consumed w.in-Ok.ensures.bytes.0,
                  rw (w.splitter-is, w.tree-is) (grown_on nodes wanted c.loop-turn.splitter w.push.new.splitter
                      c.loop-turn.tree _ bytes more room now (pushed.built nodes wanted now.read now.built)),
                  read_on nodes wanted c.loop-turn.splitter c.loop-turn.tree bytes more first.framing first.limit room
                      now before_same (omega (
                        arith,
                        length-take w.in-Ok.count c.read.new.buf,
                        c.read.auto.buf,
                        c.loop-turn.invariant.wide,
                      )),
                );
          }
      | in-Err+in_default w ↦
          record {
            wide = omega (arith, c.read.auto.buf, c.loop-turn.invariant.wide);
            ready = subst IsReady (sym w.splitter-is) c.loop-turn.invariant.ready;
            same = subst (λ s. (s.framing ≡ first.framing) × (s.limit ≡ first.limit)) (sym w.splitter-is) before_same;
            built = λ nodes wanted b.
                let (bytes, consumed, now, near) = c.loop-turn.invariant.built nodes wanted b in (
                  bytes,
                  Consumes-kept begun before after bytes consumed w.in-Err.ensures.bytes,
                  rw (w.splitter-is, w.tree-is) now,
                  near,
                );
          }
    ]

pub returns-in-Some-clause-refused : goal.returns-in-Some-clause-refused
returns-in-Some-clause-refused g c =
    λ nodes wanted b. ⊎_elim inl (λ failed. inr (inl failed)) c.in-Some.ensures.either

abbrev IsRefused : ReadError → Framing → ℕ → List ℕ → Type 0
IsRefused e framing limit bytes = (e ≡ OutOfMemory) ⊎ ((e ≡ TooManyEntries) × AreTooMany framing limit bytes)

pub returns-in_err-tree-in-Ok-clause-refused : goal.returns-in_err-tree-in-Ok-clause-refused
returns-in_err-tree-in-Ok-clause-refused g c =
    let begun = g.R.Read.remaining c.args.file.now in
    let before = g.R.Read.remaining c.loop-turn.file in
    let after = g.R.Read.remaining c.read.new.self in
    let s = c.loop-turn.splitter in
    let first = c.args.splitter.now in
    let same = c.loop-turn.invariant.same in
    let more = take c.in-Ok.count c.read.new.buf in
    let p = err_from_is_err_and c.from_residual-in_err-tree-in-Ok.result c.from_residual-in_err-tree-in-Ok.ensures.1 in
    λ nodes wanted b.
    let (bytes, consumed, now, _) = c.loop-turn.invariant.built nodes wanted b in
    let whole = whole_read nodes wanted s c.loop-turn.tree [] bytes (sym c.is_full.ensures ∙ c.if-is_full.false) now in
    rw (p.1, p.2) (refused_reading c.in_err-tree-in-Ok.field-0.0 first.framing first.limit begun after now.read more
    (subst (λ xs. Consumes begun after (xs ++ more)) whole
    (Consumes-trans begun before after bytes more consumed c.in-Ok.ensures.bytes.0))
    (λ rest. subst (λ k. IsRefused c.in_err-tree-in-Ok.field-0.0 k first.limit (now.read ++ (more ++ rest))) same.0
    (subst (λ n. IsRefused c.in_err-tree-in-Ok.field-0.0 s.framing n (now.read ++ (more ++ rest))) same.1
    (c.in_err-tree-in-Ok.ensures.refused nodes wanted now.read rest now.built))))
