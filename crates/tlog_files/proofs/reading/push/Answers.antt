-- Splitter and tree are those of the bytes so far (`built`), until none are left or enough entries have ended.
use Rattle.std.proofs.Common.{length-append, ◌<◌, ◌^◌, ◌≡◌, ◌+◌, ℕ, List, nat_lt, true, length, ◌∙◌, ◌++◌, ap}
use Rattle.std.proofs.Common.{append_assoc, arith, inl, inr, leb-true, subst, sym, ltb-true}
use Rattle.std.proofs.lemmas.Result.{err_from_is_err_and}
use Rattle.std.proofs.lemmas.List.{length-map, map-append}
use Rattle.tlog_tree.specs.Builders.{IsBuilderOf}
use Rattle.tlog.specs.Verdicts.{size_limit}
use Rattle.tlog.specs.Rfc9162.{leaf_hash}
use Rattle.tlog_files.specs.Inner.Splitting.{AreTooMany, HasBuilt}
use Rattle.tlog_files.proofs.ReaderFacts.{leaves, refused_by, size_of}
use Rattle.tlog_files.proofs.{SplitterFacts.many_at, SplitterFacts.none_of}
use Rattle.sha2.specs.Sha256.{sha256}
use Rattle.tlog_files.proofs.reading.push.Goals.{then-entries-test+else-not-is_full, else-entries-test}
use Rattle.tlog_files.proofs.reading.push.Goals as goal

pub entries-preserved : goal.entries-preserved
entries-preserved c =
    let s = c.entries.splitter in
    let t = c.read.new.self in
    let same = c.in_ok-hashes.ensures.unchanged in
    let left = c.entries.left.now in
    let rest = c.in_ok-hashes.rest.now in
    record {
      ready = c.in_ok-hashes.ensures.ready;
      same = (same.0 ∙ c.entries.invariant.same.0, same.1 ∙ c.entries.invariant.same.1);
      built = λ nodes wanted front b.
          let (taken, parts, now) = c.entries.invariant.built nodes wanted front b in
          let step = c.in_ok-hashes.ensures.read wanted (front ++ taken) now.ended now.at in (
            taken ++ step.read,
            parts ∙ ap (λ xs. taken ++ xs) step.parts ∙ sym (append_assoc taken step.read rest),
            subst (HasBuilt nodes wanted t c.in_ok-tree.tree) (append_assoc front taken step.read) (record {
              ended = now.ended ++ step.more;
              at = step.at;
              built = subst (λ xs. IsBuilderOf xs nodes c.in_ok-tree.tree)
                  (ap (λ xs. leaves now.ended ++ xs) (c.deref.ensures.value ∙ step.hashed)
                  ∙ sym (map-append (leaf_hash sha256) now.ended step.more))
                  (c.in_ok-tree.ensures.built (leaves now.ended) nodes now.built);
            }),
          );
    }

pub returns-clause-built : goal.returns-clause-built
returns-clause-built c =
    let s = c.entries.splitter in
    let tree = c.entries.tree in
    let left = c.entries.left.now in
    λ nodes wanted front b.
    let (taken, parts, now) = c.entries.invariant.built nodes wanted front b in
    record {
      read = taken;
      left = left;
      parts = parts;
      built = now;
      all_read = elim c.entries-test.branch [
        | then-entries-test+else-not-is_full w ↦
            inr (leb-true s.limit s.count (sym w.is_full.ensures ∙ w.if-not-is_full.false))
        | else-entries-test w ↦ inl (none_of left (sym c.is_empty.ensures ∙ w.entries-test.false))
      ];
    }

pub returns-in_err-tree-clause-refused : goal.returns-in_err-tree-clause-refused
returns-in_err-tree-clause-refused c =
    let s = c.entries.splitter in
    let t = c.read.new.self in
    let same = c.in_ok-hashes.ensures.unchanged in
    let begun = c.entries.invariant.same in
    let p = err_from_is_err_and c.from_residual-in_err-tree.result c.from_residual-in_err-tree.ensures.1 in
    λ nodes wanted front more b.
    let (taken, parts, now) = c.entries.invariant.built nodes wanted front b in
    let step = c.in_ok-hashes.ensures.read wanted (front ++ taken) now.ended now.at in
    let rest = c.in_ok-hashes.rest.now in
    let tree = c.entries.tree in
    let bytes = front ++ (c.args.bytes.now ++ more) in
    let moved : ((front ++ taken) ++ step.read) ++ (rest ++ more) ≡ bytes =
    rw (parts, step.parts) (simp append_assoc) in
    let Many = AreTooMany c.args.splitter.now.framing c.args.splitter.now.limit bytes in
    let many : nat_lt size_limit (tree.frontier.size + length c.deref.result.now) ≡ true → Many = λ test.
    let count = ap length (c.deref.ensures.value ∙ step.hashed) ∙ length-map step.more (leaf_hash sha256) in
    let far = ltb-true size_limit _ test in
    let size = size_of now.ended nodes tree now.built in
    let all : 2 ^ 62 < length (now.ended ++ step.more) = omega (arith, far, count, size, length-append {A = List ℕ}) in
    rw (← begun.0, ← begun.1, ← same.0, ← same.1, ← moved)
    (many_at wanted t ((front ++ taken) ++ step.read) (rest ++ more) (now.ended ++ step.more) step.at all) in
    rw (p.1, p.2) (refused_by c.in_err-tree.field-0.0 _ Many c.in_err-tree.ensures.refused many)
