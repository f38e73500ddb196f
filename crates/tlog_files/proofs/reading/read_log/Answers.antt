-- The file is read, from nothing on, and its log is finished.
use Rattle.std.proofs.Common.{◌⊎◌, ◌≡◌, ◌∙◌, ◌+◌, ◌≤◌, ◌++◌, ℕ, List, [], Some, length, nat_lt, true, subst, sym}
use Rattle.std.specs.Io.KnownBytes.{Consumes}
use Rattle.std.specs.List.Sorted.{IsPermutation}
use Rattle.std.proofs.lemmas.Result.{err_from_is_err_and}
use Rattle.tlog.specs.Verdicts.{size_limit}
use Rattle.tlog_tree.specs.Builders.{IsBuilderOf}
use Rattle.tlog_files.specs.Entries.{HoldsOfFile}
use Rattle.tlog_files.specs.Logs.{IsLogOf}
use Rattle.tlog_files.specs.declared.reading.ReadLog.{ReadLog}
use Rattle.tlog_files.specs.declared.error.ReadError.TheVariants.{OutOfMemory, Read as FailedRead, TooManyEntries}
use Rattle.tlog_files.specs.Inner.Splitting.{AreTooMany, HasBuilt, ReadsTooMany}
use Rattle.tlog_files.specs.Inner.Wanted.{places_of, IsAscending}
use Rattle.tlog_files.proofs.ReaderFacts.{leaves, log_of, many_at_end, refused_by, refused_far, refused_inside}
use Rattle.tlog_files.proofs.ReaderFacts.{log_with, no_further_with, of_file, refused_either, refused_file}
use Rattle.tlog_files.proofs.reading.read_log.Given.{Over}
use Rattle.tlog_files.proofs.reading.read_log.Goals.{After-deref, In_ok-tree, In_ok-tree-2}
use Rattle.tlog_files.proofs.reading.read_log.Goals as goal

pub new-requires : goal.new-requires
new-requires g c = subst (IsAscending 0) (sym c.deref.ensures.value) c.in_ok-places.ensures.1

places : (g : Over) (c : After-deref g) → IsPermutation (places_of c.args.wanted_entries.now) c.deref.result.now
places g c =
    subst (λ (ps : List (ℕ × ℕ)). IsPermutation (places_of c.args.wanted_entries.now) ps) (sym c.deref.ensures.value)
    c.in_ok-places.ensures.0

pub read_through-requires : goal.read_through-requires
read_through-requires g c =
    let wanted = c.args.wanted_entries.now in
    let moved = places g (goal.at.read_through-requires g c).After-deref in
    c.new-splitter.ensures.ready wanted (c.in_ok-wanted.ensures.places wanted moved)
    (c.in_ok-wanted.ensures.holds wanted moved)

start : (g : Over) (c : In_ok-tree g) → IsPermutation (places_of c.args.wanted_entries.now) c.deref.result.now →
    HasBuilt c.args.wanted_nodes.now c.args.wanted_entries.now c.new-splitter.result c.in_ok-tree.tree []
start g c moved =
    let wanted = c.args.wanted_entries.now in
    record {
      ended = [];
      at = c.new-splitter.ensures.at wanted (c.in_ok-wanted.ensures.holds wanted moved);
      built = c.in_ok-tree.ensures;
    }

-- what has been built, and what of the file follows
told : (g : Over) (c : In_ok-tree-2 g) →
    HasBuilt c.args.wanted_nodes.now c.args.wanted_entries.now c.new-splitter.result c.in_ok-tree.tree [] →
    let s = c.read_through.new.splitter in (front rest : List ℕ)
    × HasBuilt c.args.wanted_nodes.now c.args.wanted_entries.now s c.in_ok-tree-2.tree front
    × ((rest ≡ []) ⊎ (s.limit ≤ s.count))
    × ((Holds : List ℕ → Type 0) → Holds (front ++ rest) → HoldsOfFile (g.R.Read.remaining c.args.file.now) Holds)
told g c b =
    let before = g.R.Read.remaining c.args.file.now in
    let after = g.R.Read.remaining c.read_through.new.file in
    let s = c.read_through.new.splitter in
    let (bytes, consumed, grown, end, _) =
    c.in_ok-tree-2.ensures.built c.args.wanted_nodes.now c.args.wanted_entries.now b in
    let (more, far, holds) = of_file before after grown.read grown.left (s.limit ≤ s.count)
    (subst (Consumes before after) grown.parts consumed) grown.all_read end in
    (grown.read, grown.left ++ more, grown.built, far, holds)

pub returns-clause-read : goal.returns-clause-read
returns-clause-read g c =
    let at = goal.at.returns-clause-read g c in
    let nodes = c.args.wanted_nodes.now in
    let wanted = c.args.wanted_entries.now in
    let s = c.read_through.new.splitter in
    let (front, rest, b, far, holds) = told g at.In_ok-tree-2 (start g at.In_ok-tree (places g at.After-deref)) in
    let all = c.in_ok-hashes.ensures.all wanted front rest b.ended b.at far in
    let built = subst (λ xs. IsBuilderOf (leaves b.ended ++ xs) nodes c.in_ok-tree-3.tree) c.deref-2.ensures.value
    (c.in_ok-tree-3.ensures.built (leaves b.ended) nodes b.built) in
    let log : ReadLog = record { tree = c.in_ok-tree-3.tree; entries = c.into_entries-entries.result } in
    holds (IsLogOf log c.args.framing c.args.limit nodes wanted)
    (log_with log c.args.framing c.args.limit s.limit nodes wanted (front ++ rest)
    (c.in_ok-tree-2.ensures.unchanged.1 ∙ c.new-splitter.ensures.unchanged.1 ∙ c.unwrap_or.ensures)
    (subst (λ k. IsLogOf log k (Some s.limit) nodes wanted (front ++ rest))
    (c.in_ok-tree-2.ensures.unchanged.0 ∙ c.new-splitter.ensures.unchanged.0)
    (log_of log s.framing s.limit nodes wanted (front ++ rest) c.end_file.new.self.wanted b.ended _ all built
    (c.into_entries-entries.ensures wanted))))

pub returns-clause-no_further : goal.returns-clause-no_further
returns-clause-no_further g c =
    let at = goal.at.returns-clause-no_further g c in
    let s = c.new-splitter.result in
    let (bytes, consumed, grown, end, near) =
    c.in_ok-tree-2.ensures.built c.args.wanted_nodes.now c.args.wanted_entries.now
    (start g at.In_ok-tree (places g at.After-deref)) in (
      bytes,
      consumed,
      no_further_with s.framing c.args.framing c.args.limit s.limit bytes c.new-splitter.ensures.unchanged.0
          (c.new-splitter.ensures.unchanged.1 ∙ c.unwrap_or.ensures) near,
    )

pub returns-in_err-hashes-clause-refused : goal.returns-in_err-hashes-clause-refused
returns-in_err-hashes-clause-refused g c =
    let at = goal.at.returns-in_err-hashes-clause-refused g c in
    let wanted = c.args.wanted_entries.now in
    let s = c.read_through.new.splitter in
    let (front, rest, b, far, holds) = told g at.In_ok-tree-2 (start g at.In_ok-tree (places g at.After-deref)) in
    let p = err_from_is_err_and c.from_residual-in_err-hashes.result c.from_residual-in_err-hashes.ensures.1 in
    let e = c.in_err-hashes.field-0.0 in
    rw (p.1, p.2) (refused_either e s.framing c.args.framing c.args.limit s.limit (front ++ rest) _
    (c.in_ok-tree-2.ensures.unchanged.0 ∙ c.new-splitter.ensures.unchanged.0)
    (c.in_ok-tree-2.ensures.unchanged.1 ∙ c.new-splitter.ensures.unchanged.1 ∙ c.unwrap_or.ensures) holds
    (refused_inside c.args.wanted_nodes.now wanted s c.in_ok-tree-2.tree front (front ++ rest) b e
    (c.in_err-hashes.ensures.refused wanted front rest b.ended b.at far)))

pub returns-in_err-tree-3-clause-refused : goal.returns-in_err-tree-3-clause-refused
returns-in_err-tree-3-clause-refused g c =
    let at = goal.at.returns-in_err-tree-3-clause-refused g c in
    let nodes = c.args.wanted_nodes.now in
    let wanted = c.args.wanted_entries.now in
    let s = c.read_through.new.splitter in
    let tree = c.in_ok-tree-2.tree in
    let hashes = c.in_ok-hashes.hashes.items in
    let (front, rest, b, far, holds) = told g at.In_ok-tree-2 (start g at.In_ok-tree (places g at.After-deref)) in
    let p = err_from_is_err_and c.from_residual-in_err-tree-3.result c.from_residual-in_err-tree-3.ensures.1 in
    let many = λ (test : nat_lt size_limit (tree.frontier.size + length c.deref-2.result.now) ≡ true).
    many_at_end nodes wanted s tree front (front ++ rest) b c.end_file.new.self.wanted hashes
    (c.in_ok-hashes.ensures.all wanted front rest b.ended b.at far)
    (subst (λ (xs : List (List ℕ)). nat_lt size_limit (tree.frontier.size + length xs) ≡ true) c.deref-2.ensures.value
    test) in
    let e = c.in_err-tree-3.field-0.0 in
    rw (p.1, p.2) (refused_either e s.framing c.args.framing c.args.limit s.limit (front ++ rest) _
    (c.in_ok-tree-2.ensures.unchanged.0 ∙ c.new-splitter.ensures.unchanged.0)
    (c.in_ok-tree-2.ensures.unchanged.1 ∙ c.new-splitter.ensures.unchanged.1 ∙ c.unwrap_or.ensures) holds
    (refused_far e s.framing s.limit (front ++ rest) (refused_by e _
    (AreTooMany s.framing s.limit (front ++ rest)) c.in_err-tree-3.ensures.refused many)))

pub returns-in_err-tree-2-clause-refused : goal.returns-in_err-tree-2-clause-refused
returns-in_err-tree-2-clause-refused g c =
    let at = goal.at.returns-in_err-tree-2-clause-refused g c in
    let before = g.R.Read.remaining c.args.file.now in
    let after = g.R.Read.remaining c.read_through.new.file in
    let s = c.new-splitter.result in
    let p = err_from_is_err_and c.from_residual-in_err-tree-2.result c.from_residual-in_err-tree-2.ensures.1 in
    let e = c.in_err-tree-2.field-0.0 in
    rw (p.1, p.2) (refused_file e c.args.framing c.args.limit s.limit before after
    (c.new-splitter.ensures.unchanged.1 ∙ c.unwrap_or.ensures)
    (subst (λ k. (e ≡ OutOfMemory) ⊎ ((e ≡ FailedRead) ⊎ ((e ≡ TooManyEntries) × ReadsTooMany k s.limit before after)))
    c.new-splitter.ensures.unchanged.0
    (c.in_err-tree-2.ensures.refused c.args.wanted_nodes.now c.args.wanted_entries.now
    (start g at.In_ok-tree (places g at.After-deref)))))
