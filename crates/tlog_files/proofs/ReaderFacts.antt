-- What a reader gives, piece after piece, and the tree of the entries that have ended.
use Rattle.std.proofs.Common.{if◌then◌else◌, length-append, append_assoc, length-take, append-nil, leb-false, length, ℕ}
use Rattle.std.proofs.Common.{nat_le, nat_lt, Option, false, arith, subst, ◌++◌, List, Bool, true, refl, take, None, []}
use Rattle.std.proofs.Common.{Some, ◌≡◌, ◌⊎◌, ◌∙◌, ◌+◌, ◌-◌, ◌^◌, ◌<◌, ◌≤◌, inl, inr, map, sym, ap, unwrap_or, le-leb}
use Rattle.std.proofs.Common.{ltb-true, ⊎_elim, ◌==◌, ◌&&◌, not, take_all, lt-ltb}
use Rattle.std.proofs.lemmas.Bool.{lt-leb, cases_lt}
use Rattle.std.proofs.lemmas.List.{length-map, map-append}
use Rattle.std.specs.Io.KnownBytes.{Consumes, IsAtEnd}
use Rattle.sha2.specs.Sha256.{sha256}
use Rattle.tlog.specs.Rfc9162.{leaf_hash}
use Rattle.tlog.specs.Verdicts.{size_limit}
use Rattle.tlog_tree.specs.Builders.{IsBuilderOf}
use Rattle.tlog_tree.specs.declared.builder.TreeBuilder.{TreeBuilder}
use Rattle.tlog_tree.specs.declared.node_id.NodeId.{NodeId}
use Rattle.tlog_files.specs.Entries.{entries_in, is_refused, read_refusal, wanted_of, first_entries, is_short}
use Rattle.tlog_files.specs.Entries.{partial_of}
use Rattle.tlog_files.specs.Inner.Splitting.{AreAll, AreTooMany, HasBuilt, HasGrown, ReadsTooMany}
use Rattle.tlog_files.specs.Entries.{refuses, rest_of, whole_entries, HoldsOfFile, IsReadNoFurther}
use Rattle.tlog_files.proofs.FramingFacts.{whole_is}
use Rattle.tlog_files.specs.Inner.Wanted.{HoldsWanted}
use Rattle.tlog_files.specs.Logs.{IsLogOf}
use Rattle.tlog_files.specs.declared.framing.Framing.{Framing}
use Rattle.tlog_files.specs.declared.error.ReadError.{ReadError}
use Rattle.tlog_files.specs.declared.error.ReadError.TheVariants.{EndsInsideLine, OutOfMemory, TooManyEntries}
use Rattle.tlog_files.specs.declared.error.ReadError.TheVariants.{Read as FailedRead}
use Rattle.tlog_files.specs.declared.reading.ReadLog.{ReadLog}
use Rattle.tlog_files.specs.declared.splitter.Splitter.{Splitter}
use Rattle.tlog_files.specs.declared.wanted.WantedEntries.{WantedEntries}

-- why a file is not read, by two tests
abbrev pub refusal_of : Bool → Bool → Option ReadError
refusal_of few refused = if few then (if refused then Some EndsInsideLine else None) else Some TooManyEntries

abbrev pub leaves : List (List ℕ) → List (List ℕ)
leaves entries = map (leaf_hash sha256) entries

-- ---- all that is read

-- where not as many entries have ended as are read, all of the bytes have been read
pub whole_read : (nodes : List NodeId) (wanted : List ℕ) (s : Splitter) (tree : TreeBuilder) (front bytes : List ℕ) →
    nat_le s.limit s.count ≡ false → (g : HasGrown nodes wanted s tree front bytes) → bytes ≡ g.read
whole_read nodes wanted s tree front bytes room g =
    elim g.all_read [
      | inl none ↦ g.parts ∙ ap (λ xs. g.read ++ xs) none ∙ append-nil g.read
      | inr full ↦ absurd (omega (arith, leb-false s.limit s.count room, full))
    ]

pub grown_on : (nodes : List NodeId) (wanted : List ℕ) (s t : Splitter) (tree grown : TreeBuilder)
    (bytes more : List ℕ) → nat_le s.limit s.count ≡ false → (g : HasGrown nodes wanted s tree [] bytes) →
    HasGrown nodes wanted t grown g.read more → HasGrown nodes wanted t grown [] (bytes ++ more)
grown_on nodes wanted s t tree grown bytes more room g step =
    let whole = whole_read nodes wanted s tree [] bytes room g in
    record {
      read = g.read ++ step.read;
      left = step.left;
      parts = (λ i. whole i ++ step.parts i) ∙ sym (append_assoc g.read step.read step.left);
      built = step.built;
      all_read = step.all_read;
    }

-- so one more piece of it is read
pub read_on : (nodes : List NodeId) (wanted : List ℕ) (s : Splitter) (tree : TreeBuilder) (bytes more : List ℕ)
    (framing : Framing) (limit : ℕ) → nat_le s.limit s.count ≡ false → HasGrown nodes wanted s tree [] bytes →
    (s.framing ≡ framing) × (s.limit ≡ limit) → length more ≤ 2 ^ 20 →
    IsReadNoFurther framing (Some limit) (bytes ++ more)
read_on nodes wanted s tree bytes more framing limit room g same short =
    let b = g.built in
    let whole = ap (whole_entries s.framing) (whole_read nodes wanted s tree [] bytes room g)
    ∙ whole_is s.framing g.read b.ended b.at.open_bytes b.at.at in
    let few : length (whole_entries s.framing bytes) < limit =
    omega (arith, leb-false s.limit s.count room, b.at.holds.counted, ap length whole, same.1) in
    inr (bytes, more, refl, short, subst (λ k. length (whole_entries k bytes) < limit) same.0 few)

-- without a limit all is read
pub no_further_with : (was framing : Framing) (limit : Option ℕ) (n : ℕ) (bytes : List ℕ) → was ≡ framing →
    n ≡ unwrap_or limit (2 ^ 64 - 1) → IsReadNoFurther was (Some n) bytes → IsReadNoFurther framing limit bytes
no_further_with was framing limit n bytes same is (inl none) = inl none
no_further_with was framing None n bytes same is (inr (front, last, parts, short, few)) =
    inr (front, last, parts, short, tt)
no_further_with was framing (Some m) n bytes same is (inr (front, last, parts, short, few)) =
    let fewer : length (whole_entries was front) < m = omega (arith, few, is) in
    inr (front, last, parts, short, subst (λ k. length (whole_entries k front) < m) same fewer)

pub log_of : (log : ReadLog) (framing : Framing) (limit : ℕ) (nodes : List NodeId) (wanted bytes : List ℕ)
    (w : WantedEntries)
    (ended hashes : List (List ℕ)) → AreAll wanted w framing limit ended bytes hashes →
    IsBuilderOf (leaves ended ++ hashes) nodes log.tree →
    ((all : List (List ℕ)) (open_bytes : List ℕ) → HoldsWanted w wanted all open_bytes →
    map (λ entry. entry.items) log.entries.items ≡ wanted_of all wanted) →
    IsLogOf log framing (Some limit) nodes wanted bytes
log_of log framing limit nodes wanted bytes w ended hashes all built kept =
    record {
      not_refused = all.not_refused;
      tree = subst (λ xs. IsBuilderOf xs nodes log.tree)
          (ap (λ xs. leaves ended ++ xs) all.hashed ∙ sym (map-append (leaf_hash sha256) ended all.more)
          ∙ ap leaves (sym all.all)) built;
      entries = kept (ended ++ all.more) all.open_bytes all.kept ∙ ap (λ xs. wanted_of xs wanted) (sym all.all);
    }

-- ---- too many entries

-- why a tree does not grow
pub refused_by : (e : ReadError) (test : Bool) (Many : Type 0) → e ≡ (if test then TooManyEntries else OutOfMemory) →
    (test ≡ true → Many) → (e ≡ OutOfMemory) ⊎ ((e ≡ TooManyEntries) × Many)
refused_by e true Many is many = inr (is, many refl)
refused_by e false Many is many = inl is

-- the size of a tree
pub size_of : (entries : List (List ℕ)) (nodes : List NodeId) (tree : TreeBuilder) →
    IsBuilderOf (leaves entries) nodes tree → tree.frontier.size ≡ length entries
size_of entries nodes tree built = built.frontier.size ∙ length-map entries (leaf_hash sha256)

-- ---- why a file is not read

pub refused_many : (framing : Framing) (limit : Option ℕ) (n : ℕ) (bytes : List ℕ) → n ≡ unwrap_or limit (2 ^ 64 - 1) →
    AreTooMany framing n bytes → read_refusal framing limit bytes ≡ Some TooManyEntries
refused_many framing (Some m) n bytes is many =
    let far : 2 ^ 62 < length (take m (entries_in framing bytes)) = subst (λ k. AreTooMany framing k bytes) is many in
    ap (λ few. refusal_of few (is_refused framing (Some m) bytes))
    (lt-leb (length (take m (entries_in framing bytes))) (2 ^ 62) far)
refused_many framing None n bytes is many =
    let entries = entries_in framing bytes in
    ap (λ few. refusal_of few (is_refused framing None bytes))
    (lt-leb (length entries) (2 ^ 62) (omega (arith, many, length-take n entries)))

-- the file ends inside a line
pub refused_inside : (nodes : List NodeId) (wanted : List ℕ) (s : Splitter) (tree : TreeBuilder)
    (front bytes : List ℕ) → (b : HasBuilt nodes wanted s tree front) → (e : ReadError) →
    (e ≡ OutOfMemory) ⊎ ((e ≡ EndsInsideLine) × (is_refused s.framing (Some s.limit) bytes ≡ true)
    × (take s.limit (entries_in s.framing bytes) ≡ b.ended)) →
    (e ≡ OutOfMemory) ⊎ (read_refusal s.framing (Some s.limit) bytes ≡ Some e)
refused_inside nodes wanted s tree front bytes b e (inl none) = inl none
refused_inside nodes wanted s tree front bytes b e (inr (is, refused, all)) =
    let read = take s.limit (entries_in s.framing bytes) in
    let few : length read ≤ 2 ^ 62 =
    omega (arith, ap length all, size_of b.ended nodes tree b.built, tree.frontier.limit) in
    inr ((λ i. refusal_of (le-leb (length read) (2 ^ 62) few i) (refused i)) ∙ ap Some (sym is))

pub many_at_end : (nodes : List NodeId) (wanted : List ℕ) (s : Splitter) (tree : TreeBuilder) (front bytes : List ℕ) →
    (b : HasBuilt nodes wanted s tree front) → (w : WantedEntries) (hashes : List (List ℕ)) →
    AreAll wanted w s.framing s.limit b.ended bytes hashes →
    nat_lt size_limit (tree.frontier.size + length hashes) ≡ true → AreTooMany s.framing s.limit bytes
many_at_end nodes wanted s tree front bytes b w hashes all many =
    let more = ap length all.hashed ∙ length-map all.more (leaf_hash sha256) in
    let far = ltb-true size_limit (tree.frontier.size + length hashes) many in
    let size = size_of b.ended nodes tree b.built in
    omega (arith, far, size, more, ap length all.all, length-append b.ended all.more)

pub refused_far : (e : ReadError) (framing : Framing) (limit : ℕ) (bytes : List ℕ) →
    (e ≡ OutOfMemory) ⊎ ((e ≡ TooManyEntries) × AreTooMany framing limit bytes) →
    (e ≡ OutOfMemory) ⊎ (read_refusal framing (Some limit) bytes ≡ Some e)
refused_far e framing limit bytes (inl none) = inl none
refused_far e framing limit bytes (inr (is, many)) =
    inr (refused_many framing (Some limit) limit bytes refl many ∙ ap Some (sym is))

-- what holds of a file that was read to its end, or far enough for whatever follows, where some that was read is left
pub of_file : (before after : Option (List ℕ)) (front left : List ℕ) (Enough : Type 0) →
    Consumes before after (front ++ left) → (left ≡ []) ⊎ Enough → IsAtEnd after ⊎ Enough → (more : List ℕ)
    × ((left ++ more ≡ []) ⊎ Enough)
    × ((Holds : List ℕ → Type 0) → Holds (front ++ (left ++ more)) → HoldsOfFile before Holds)
of_file None after front left Enough read all end = (
  [],
  ⊎_elim (λ none. inl (append-nil left ∙ none)) (λ far. inr far) all,
  λ Holds holds. (front ++ (left ++ []), holds),
)
of_file (Some bytes) None front left Enough read all end = absurd read
of_file (Some bytes) (Some more) front left Enough read all end = (
  more,
  ⊎_elim (λ none. ⊎_elim (λ at. inl (λ i. none i ++ at i)) (λ far. inr far) end) (λ far. inr far) all,
  λ Holds holds. subst Holds (sym (read ∙ append_assoc front left more)) holds,
)

-- ---- too many entries

only : (e : ReadError) (Many : Type 0) → e ≡ TooManyEntries → (e ≡ OutOfMemory) ⊎ ((e ≡ TooManyEntries) × Many) → Many
only e Many is (inl none) = absurd (cc)
only e Many is (inr far) = far.1

-- as a file is read
pub refused_reading : (e : ReadError) (framing : Framing) (limit : ℕ) (before after : Option (List ℕ))
    (front more : List ℕ) →
    Consumes before after (front ++ more) →
    ((rest : List ℕ) →
    (e ≡ OutOfMemory) ⊎ ((e ≡ TooManyEntries) × AreTooMany framing limit (front ++ (more ++ rest)))) →
    (e ≡ OutOfMemory) ⊎ ((e ≡ FailedRead) ⊎ ((e ≡ TooManyEntries) × ReadsTooMany framing limit before after))
refused_reading e framing limit before after front more consumed each =
    elim (each []) [
      | inl none ↦ inl none
      | inr far ↦
          inr (inr (
            far.0,
            record {
              front = front ++ more;
              consumed = consumed;
              many = λ rest. subst (λ bytes. AreTooMany framing limit bytes) (sym (append_assoc front more rest))
                  (only e (AreTooMany framing limit (front ++ (more ++ rest))) far.0 (each rest));
            },
          ))
    ]

-- and once it was
pub refused_file : (e : ReadError) (framing : Framing) (limit : Option ℕ) (n : ℕ) (before after : Option (List ℕ)) →
    n ≡ unwrap_or limit (2 ^ 64 - 1) →
    (e ≡ OutOfMemory) ⊎ ((e ≡ FailedRead) ⊎ ((e ≡ TooManyEntries) × ReadsTooMany framing n before after)) →
    (e ≡ OutOfMemory) ⊎ ((e ≡ FailedRead) ⊎ HoldsOfFile before (λ bytes. read_refusal framing limit bytes ≡ Some e))
refused_file e framing limit n before after is (inl none) = inl none
refused_file e framing limit n before after is (inr (inl failed)) = inr (inl failed)
refused_file e framing limit n before after is (inr (inr (why, far))) =
    let (more, _, holds) = of_file before after [] far.front (Unit {0}) far.consumed (inr tt) (inr tt) in
    inr (inr (holds (λ bytes. read_refusal framing limit bytes ≡ Some e)
    (refused_many framing limit n (far.front ++ more) is (far.many more) ∙ ap Some (sym why))))

-- ---- without a limit

-- a limit that is not met changes nothing
same_read : (limit : Option ℕ) (n : ℕ) (entries : List (List ℕ)) → n ≡ unwrap_or limit (2 ^ 64 - 1) →
    length (take n entries) ≤ 2 ^ 62 →
    (first_entries limit entries ≡ take n entries) × (is_short limit entries ≡ nat_lt (length entries) n)
same_read (Some m) n entries is few =
    (ap (λ k. take k entries) (sym is), ap (λ k. nat_lt (length entries) k) (sym is))
same_read None n entries is few =
    let count = length-take n entries in (
      sym (take_all n entries (omega (arith, few, count, is))),
      sym (lt-ltb (length entries) n (omega (arith, few, count, is))),
    )

pub log_with : (log : ReadLog) (framing : Framing) (limit : Option ℕ) (n : ℕ) (nodes : List NodeId)
    (wanted bytes : List ℕ) →
    n ≡ unwrap_or limit (2 ^ 64 - 1) → IsLogOf log framing (Some n) nodes wanted bytes →
    IsLogOf log framing limit nodes wanted bytes
log_with log framing limit n nodes wanted bytes is log_is =
    let entries = entries_in framing bytes in
    let count = log_is.tree.frontier.size ∙ length-map (take n entries) (leaf_hash sha256) in
    let (first, short) = same_read limit n entries is (omega (arith, count, log.tree.frontier.limit)) in
    record {
      not_refused = ap (λ t. refuses (partial_of framing) && (not (length (rest_of framing bytes) == 0) && t)) short
          ∙ log_is.not_refused;
      tree = rw first log_is.tree;
      entries = log_is.entries ∙ ap (λ xs. wanted_of xs wanted) (sym first);
    }

same_refusal : (framing : Framing) (limit : Option ℕ) (n : ℕ) (bytes : List ℕ) → n ≡ unwrap_or limit (2 ^ 64 - 1) →
    read_refusal framing limit bytes ≡ read_refusal framing (Some n) bytes
same_refusal framing limit n bytes is =
    elim (cases_lt (2 ^ 62) (length (take n (entries_in framing bytes)))) [
      | inl many ↦ refused_many framing limit n bytes is many ∙ sym (refused_many framing (Some n) n bytes refl many)
      | inr few ↦
          let (first, short) = same_read limit n (entries_in framing bytes) is few in
          λ i. refusal_of (nat_le (length (first i)) (2 ^ 62))
          (refuses (partial_of framing) && (not (length (rest_of framing bytes) == 0) && short i))
    ]

pub refused_either : (e : ReadError) (was framing : Framing) (limit : Option ℕ) (n : ℕ) (bytes : List ℕ)
    (before : Option (List ℕ)) → was ≡ framing → n ≡ unwrap_or limit (2 ^ 64 - 1) →
    ((Holds : List ℕ → Type 0) → Holds bytes → HoldsOfFile before Holds) →
    (e ≡ OutOfMemory) ⊎ (read_refusal was (Some n) bytes ≡ Some e) →
    (e ≡ OutOfMemory) ⊎ ((e ≡ FailedRead) ⊎ HoldsOfFile before (λ bs. read_refusal framing limit bs ≡ Some e))
refused_either e was framing limit n bytes before same is holds (inl none) = inl none
refused_either e was framing limit n bytes before same is holds (inr refusal) =
    inr (inr (holds (λ bs. read_refusal framing limit bs ≡ Some e)
    (same_refusal framing limit n bytes is ∙ ap (λ k. read_refusal k (Some n) bytes) (sym same) ∙ refusal)))
