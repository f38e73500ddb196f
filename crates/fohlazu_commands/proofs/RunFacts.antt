-- Inputs are read one after another, and an error ends a run.
use Rattle.std.proofs.Common.{◌≡◌, ◌⊎◌, ◌∙◌, ◌+◌, List, [], ◌∷◌, ◌++◌, ℕ, Option, None, Some, Result, Ok, Err, Vec}
use Rattle.std.proofs.Common.{Global, ap, arith, inl, inr, ⊎_elim, length, map, refl, subst, sym, add-zero}
use Rattle.std.proofs.Common.{take, take_all, Bool, true, false}
use Rattle.std.proofs.Common.{◌≤◌, ◌<◌, All, le-leb, length-take, nat_le}
use Rattle.tlog_files.specs.Entries.{HoldsOfFile}
use Rattle.std.proofs.lemmas.Bool.{lt-leb}
use Rattle.std.proofs.lemmas.List.Elements.{All-head, All-tail}
use Rattle.p3_answers.specs.Answers.{ok_unless, unless}
use Rattle.fohlazu_commands.specs.Commands.{AreReadAs, EndsIn, HoldsOfInput, IsReadAs, bytes_of_parts, note_from}
use Rattle.fohlazu_commands.specs.Commands.{limited_from, max_note_bytes}
use Rattle.fohlazu_commands.specs.Outcomes.{bytes_in, Gives, and_then}
use Rattle.fohlazu_commands.specs.declared.error.Error.{Error}
use Rattle.fohlazu_commands.specs.declared.error.Error.TheVariants.{OutOfMemory, Read, Refused}
use Rattle.fohlazu_commands.specs.declared.error.Refusal.TheVariants.{TooLong}
use Rattle.fohlazu_commands.specs.declared.error.Source.{Source}
use Rattle.fohlazu_commands.specs.declared.error.Source.TheVariants.{Part}

-- an input that is not too long
pub short_read : (source : Source) (limit : ℕ) (bytes : List ℕ) → length bytes ≤ limit →
    limited_from source limit (Some bytes) ≡ Ok bytes
short_read source limit bytes short =
    ap (λ (t : Bool). ok_unless (unless t (Refused source (TooLong limit))) bytes) (le-leb (length bytes) limit short)

-- one that is
pub long_read : (source : Source) (limit : ℕ) (bytes : List ℕ) → limit < length bytes →
    limited_from source limit (Some bytes) ≡ Err (Refused source (TooLong limit))
long_read source limit bytes long =
    let not_short : nat_le (length bytes) limit ≡ false = lt-leb (length bytes) limit long in
    ap (λ (t : Bool). ok_unless (unless t (Refused source (TooLong limit))) bytes) not_short

-- what comes of an input that is not too long
pub short_goes : {W : Type 0} (source : Source) (limit : ℕ) (bytes : List ℕ) (next : List ℕ → Result W Error) (w : W) →
    length bytes ≤ limit → next bytes ≡ Ok w → and_then (limited_from source limit (Some bytes)) next ≡ Ok w
short_goes source limit bytes next w short is = ap (λ r. and_then r next) (short_read source limit bytes short) ∙ is

-- something comes of no other
pub short_came : {W : Type 0} (source : Source) (limit : ℕ) (bytes : List ℕ) (next : List ℕ → Result W Error) (w : W) →
    and_then (limited_from source limit (Some bytes)) next ≡ Ok w → next bytes ≡ Ok w
short_came {W} source limit bytes next w is = by (nat_le (length bytes) limit) is
  where
    by : (t : Bool) → and_then (ok_unless (unless t (Refused source (TooLong limit))) bytes) next ≡ Ok w →
        next bytes ≡ Ok w
    by true given = given
    by false given = absurd (cc)

-- what is read up to a limit is the whole, or shows that it is too long
pub read_whole : (known : Option (List ℕ)) (bytes : List ℕ) (limit : ℕ) →
    HoldsOfFile known (λ all. bytes ≡ take (limit + 1) all) → length bytes ≤ limit → IsReadAs known (Some bytes)
read_whole None bytes limit holds short = tt
read_whole (Some all) bytes limit is short =
    is ∙ take_all (limit + 1) all (omega (arith, ap length is, length-take (limit + 1) all, short))

pub read_long : (source : Source) (known : Option (List ℕ)) (bytes : List ℕ) (limit : ℕ) →
    HoldsOfFile known (λ all. bytes ≡ take (limit + 1) all) → limit < length bytes →
    HoldsOfInput known (λ all. limited_from source limit all ≡ Err (Refused source (TooLong limit)))
read_long source None bytes limit (all, is) long =
    (Some all, tt, long_read source limit all (omega (arith, ap length is, length-take (limit + 1) all, long)))
read_long source (Some all) bytes limit is long =
    (Some all, refl, long_read source limit all (omega (arith, ap length is, length-take (limit + 1) all, long)))

abbrev pub IsShort : List ℕ → Type 0
IsShort x = length x ≤ max_note_bytes

-- what becomes of the next part's text
abbrev pub with_more : ℕ → List (Option (List ℕ)) → List ℕ → Result (List (List ℕ)) Error
with_more k inputs text = and_then (bytes_of_parts (k + 1) inputs) (λ texts. Ok (text ∷ texts))

-- all parts are read
pub all_read : (k : ℕ) (xs : List (List ℕ)) → All IsShort xs → bytes_of_parts k (map Some xs) ≡ Ok xs
all_read k [] short = refl
all_read k (x ∷ xs) short =
    ap (λ r. and_then r (with_more k (map Some xs)))
    (short_read (Part k) max_note_bytes x (All-head IsShort x xs short))
    ∙ ap (λ r. and_then r (λ texts. Ok (x ∷ texts))) (all_read (k + 1) xs (All-tail IsShort x xs short))

-- the parts up to one that is refused are read
pub read_until : (k : ℕ) (done : List (List ℕ)) (input : Option (List ℕ)) (more : List (Option (List ℕ))) (e : Error) →
    All IsShort done → note_from (Part (k + length done)) input ≡ Err e →
    bytes_of_parts k (map Some done ++ input ∷ more) ≡ Err e
read_until k [] input more e short why =
    ap (λ r. and_then r (with_more k more)) (ap (λ n. note_from (Part n) input) (sym (add-zero k)) ∙ why)
read_until k (x ∷ xs) input more e short why =
    let same : (k + 1) + length xs ≡ k + length (x ∷ xs) = omega arith in
    ap (λ r. and_then r (with_more k (map Some xs ++ input ∷ more)))
    (short_read (Part k) max_note_bytes x (All-head IsShort x xs short))
    ∙ ap (λ r. and_then r (λ texts. Ok (x ∷ texts)))
    (read_until (k + 1) xs input more e (All-tail IsShort x xs short) (ap (λ n. note_from (Part n) input) same ∙ why))

module _ {R : Type 0} (remaining : R → Option (List ℕ)) where
  -- nothing is said of inputs that are not read
  pub unread : (xs : List R) → (more : List (Option (List ℕ))) × AreReadAs (map remaining xs) more
  unread [] = ([], tt)
  unread (x ∷ xs) = let rest = unread xs in (None ∷ rest.0, (tt, rest.1))

  -- what is read of the inputs that are left makes all, after some that were read
  abbrev pub MakesAll : List R → List R → List (Vec ℕ Global) → Type 0
  MakesAll left all done =
      (more : List (Option (List ℕ))) → AreReadAs (map remaining left) more →
      AreReadAs (map remaining all) (map Some (map bytes_in done) ++ more)

  -- the first input that is refused
  pub stops_at : (left rest : List R) (next : R) (all : List R) (done : List (Vec ℕ Global)) → left ≡ next ∷ rest →
      MakesAll left all done → (input : Option (List ℕ)) → IsReadAs (remaining next) input →
      (more : List (Option (List ℕ))) × AreReadAs (map remaining all) (map Some (map bytes_in done) ++ input ∷ more)
  stops_at left rest next all done left_is makes input is =
      let others = unread rest in (
        others.0,
        makes (input ∷ others.0)
            (subst (λ (xs : List R). AreReadAs (map remaining xs) (input ∷ others.0)) (sym left_is) (is, others.1)),
      )

-- ---- what a call gives of its inputs

-- an input that cannot be read
pub unread_gives : {V W : Type 0} (view : V → W) (source : Source) (e : Error) → (e ≡ OutOfMemory) ⊎ (e ≡ Read source) →
    Gives view (Err e) (Err (Read source))
unread_gives view source e why = ⊎_elim inl (λ is. inr (ap Err (sym is))) why

-- an input that is read, and what follows
pub goes_first : {V W : Type 0} (view : V → W) (result : Result V Error) (r : Result (List ℕ) Error) (x : List ℕ)
    (next : List ℕ → Result W Error) → r ≡ Ok x → Gives view result (next x) → Gives view result (and_then r next)
goes_first view result r x next is given = subst (λ q. Gives view result (and_then q next)) (sym is) given

-- one that is not
pub fails_first : {V W : Type 0} (view : V → W) (e : Error) (r : Result (List ℕ) Error)
    (next : List ℕ → Result W Error) → r ≡ Err e → Gives view (Err e) (and_then r next)
fails_first view e r next is = inr (ap (λ q. and_then q next) is)

-- of a command whose first input is a checkpoint that is refused, no other input is read
pub first_note_fails : {Has : Result (List ℕ) Error → Type 0} (known : Option (List ℕ)) (source : Source) (e : Error)
    (next : List ℕ → Result (List ℕ) Error) →
    (e ≡ OutOfMemory) ⊎ HoldsOfInput known (λ note. note_from source note ≡ Err e) →
    ((note : Option (List ℕ)) → IsReadAs known note → Has (and_then (note_from source note) next)) →
    (outcome : Result (List ℕ) Error) × Has outcome × Gives bytes_in (Err e) outcome
first_note_fails known source e next (inl memory) has = (_, has None tt, inl memory)
first_note_fails known source e next (inr (note, read, why)) has = (
  _,
  has note read,
  fails_first bytes_in e _ next why,
)

-- an error ends a run
pub ends_failed : (V : Type 0) (old new : Option (List ℕ)) (outcome : Result (List ℕ) Error) (e : Error) →
    (e ≡ OutOfMemory) ⊎ (outcome ≡ Err e) → EndsIn {V = V} old new outcome (Err e)
ends_failed V old new (Ok text) e why = ⊎_elim inl (λ is. absurd (ok_err is)) why
  where
    ok_err : {text : List ℕ} {e : Error} → ◌≡◌ {A = Result (List ℕ) Error} (Ok text) (Err e) → ⊥
    ok_err is = cc
ends_failed V old new (Err wanted) e why = ⊎_elim inl (λ is. let same : e ≡ wanted = cc in inr same) why
