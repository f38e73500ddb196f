-- Entries that are read in place are those that are read.
use Rattle.std.proofs.Common.{◌≡◌, ℕ, zero, suc, ◌-◌, ◌<◌, List, [], ◌∷◌, Option, Some, None, Ok, Err, refl, sym}
use Rattle.std.proofs.Common.{ap, ◌∙◌, arith}
use Rattle.std.specs.Option.{option_map_or}
use Rattle.std.specs.Result.{result_ok}
use Rattle.tlog_text.specs.InPlace.{entries_from}
use Rattle.tlog_text.specs.Reading.{Reads, entry_by, many, never, then_read}
use Rattle.tlog_text.specs.Texts.{EntryFields}

-- the entries that begin with what is read of one
abbrev after : ℕ → Option (EntryFields × List ℕ) → List EntryFields
after n o = option_map_or (λ read. read.0 ∷ entries_from read.1 n) o []

pub none_from : (left : List ℕ) → entries_from left 0 ≡ []
unfolding entries_from
none_from left = refl

pub next_from : (left : List ℕ) (n : ℕ) (o : Option (EntryFields × List ℕ)) → o ≡ result_ok (entry_by left) →
    entries_from left (suc n) ≡ after n o
unfolding entries_from
next_from left n o is = ap (after n) (sym is)

-- what was read
abbrev read_of : Reads (List EntryFields) → List EntryFields
read_of (Ok read) = read.0
read_of (Err stop) = []

-- what is read of the others after an entry
abbrev with_first : EntryFields → Reads (List EntryFields) → Reads (List EntryFields)
with_first e o = then_read o (λ vs end. Ok (e ∷ vs, end))

abbrev then_others : ℕ → Reads EntryFields → Reads (List EntryFields)
then_others n o = then_read o (λ e below. with_first e (many never entry_by n below))

pub many_from : (n : ℕ) (left : List ℕ) (es : List EntryFields) (rest : List ℕ) →
    many never entry_by n left ≡ Ok (es, rest) → es ≡ entries_from left n
unfolding many
many_from zero left es rest is = let none : [] ≡ es = ap read_of is in sym none ∙ sym (none_from left)
many_from (suc n) left es rest is = by (many_from n) (entry_by left) refl is
  where
    more : ((below : List ℕ) (xs : List EntryFields) (end : List ℕ) → many never entry_by n below ≡ Ok (xs, end) →
        xs ≡ entries_from below n) → (e : EntryFields) (below : List ℕ) (o : Reads (List EntryFields)) →
        many never entry_by n below ≡ o → with_first e o ≡ Ok (es, rest) →
        es ≡ e ∷ entries_from below n
    more others e below (Ok read) here is =
        let same : e ∷ read.0 ≡ es = ap read_of is in
        sym same ∙ ap (λ xs. e ∷ xs) (others below read.0 read.1 here)
    more others e below (Err stop) here is = cc

    by : ((below : List ℕ) (xs : List EntryFields) (end : List ℕ) → many never entry_by n below ≡ Ok (xs, end) →
        xs ≡ entries_from below n) → (o : Reads EntryFields) → entry_by left ≡ o →
        then_others n o ≡ Ok (es, rest) → es ≡ entries_from left (suc n)
    by others (Ok read) here is =
        more others read.0 read.1 (many never entry_by n read.1) refl is
        ∙ sym (next_from left n (Some read) (sym (ap result_ok here)))
    by others (Err stop) here is = cc

-- ---- one entry more

pub from_stops : (left : List ℕ) (n : ℕ) (o : Option (EntryFields × List ℕ)) → o ≡ None →
    o ≡ result_ok (entry_by left) → entries_from left n ≡ []
from_stops left zero o none is = none_from left
from_stops left (suc n) o none is = next_from left n o is ∙ ap (after n) none

pub from_goes_on : (left : List ℕ) (n : ℕ) (e : EntryFields) (rest : List ℕ) → 0 < n →
    Some (e, rest) ≡ result_ok (entry_by left) → entries_from left n ≡ e ∷ entries_from rest (n - 1)
from_goes_on left zero e rest some is = absurd (omega arith)
from_goes_on left (suc n) e rest some is =
    let last : suc n - 1 ≡ n = omega arith in next_from left n (Some (e, rest)) is ∙ rw last refl
