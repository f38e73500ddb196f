-- A number more than there are entries decides as all of them do.
use Rattle.std.proofs.Common.{◌≡◌, ◌==◌, ◌+◌, ◌∙◌, [], ◌∷◌, ℕ, List, Some, Result, Ok, Err, ap, arith, inr}
use Rattle.std.proofs.Common.{if◌then◌else◌, length, map, max, min, refl, suc, sym, zero}
use Rattle.std.proofs.lemmas.List.{length-map}
use Rattle.std.specs.List.{range_with_len}
use Rattle.tlog_text.specs.InPlace.{entries_from}
use Rattle.tlog_text.specs.Texts.{EntryFields}
use Rattle.fohlazu_commands.specs.Inner.{Checks, ChecksUnlessMemory}
use Rattle.fohlazu_commands.specs.Outcomes.{all_numbers, first_other, numbers_refusal}
use Rattle.fohlazu_commands.specs.declared.error.Error.{Error}
use Rattle.fohlazu_commands.specs.declared.error.Error.TheVariants.{Refused}
use Rattle.fohlazu_commands.specs.declared.error.Refusal.TheVariants.{OtherNumber}
use Rattle.fohlazu_commands.specs.declared.error.Source.TheVariants.{Proof}
use Rattle.fohlazu_commands.proofs.SortedFacts.{length_from}
use Rattle.fohlazu_commands.proofs.verify.check_requested.Goals as goal

same_front : (got : List ℕ) (a m n : ℕ) → min m (length got + 1) ≡ min n (length got + 1) →
    first_other got (range_with_len a m) ≡ first_other got (range_with_len a n)
same_front got a zero zero same = refl
same_front got a zero (suc n) same = absurd (omega arith)
same_front got a (suc m) zero same = absurd (omega arith)
same_front [] a (suc m) (suc n) same = refl
same_front (g ∷ gs) a (suc m) (suc n) same =
    ap (λ rest. if g == a then rest else Some (Refused Proof (OtherNumber g a)))
    (same_front gs (a + 1) m n (omega arith))

by_numbers : (result : Result (Unit {0}) Error) (es : List EntryFields) (ns all : List ℕ) →
    first_other (map (λ e. e.number) es) ns ≡ first_other (map (λ e. e.number) es) all →
    Checks result (numbers_refusal (Some ns) es) → ChecksUnlessMemory result (numbers_refusal (Some all) es)
by_numbers (Ok done) es ns all same none = sym same ∙ none
by_numbers (Err error) es ns all same some = inr (sym same ∙ some)

pub returns-in_ok-all_numbers-in-All : goal.returns-in_ok-all_numbers-in-All
returns-in_ok-all_numbers-in-All c =
    let p = c.args.proof.now in
    let es = entries_from p.text.now p.count in
    let got = map (λ (e : EntryFields). e.number) es in
    let len = length-map es (λ (e : EntryFields). e.number) in
    let few = length_from p.text.now p.count in
    let same = same_front got 1 (max c.min-count.result 1) (max c.args.size 1) (omega (arith, len, few)) in
    rw c.in-All.is
    (by_numbers c.check_numbers.result es c.deref.result.now (all_numbers c.args.size)
    (ap (first_other got) (c.deref.ensures.value ∙ c.in_ok-all_numbers-in-All.ensures.0) ∙ same)
    (rw c.entries.ensures at c.check_numbers.ensures))
