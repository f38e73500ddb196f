-- What a `for` over an iterator has run, as one run of its calls, and what a whole run has read.
use Rattle.std.proofs.Common.{◌≡◌, List, map, subst, Option, None, true}
use Rattle.std.proofs.iter.runs.Consumers.{total_runs}
use Rattle.std.proofs.lemmas.Iterator.{YieldsList, items_from_drains}
use Rattle.std.specs.Iterator.{Yields}
use Rattle.std.specs.Iterator.Runs.{Run, WholeRun, YieldsRun}

pub run_of_loop : {S A : Type 0} (steps : S → Option A → S → Type 0) (P : List A → Type 0) (xs : List A) {s it t : S}
    (u : S) {r : Option A}
    → it ≡ s → Yields steps it xs t → r ≡ None → steps t r u → P xs → WholeRun steps s (λ p. P p.items)
run_of_loop {S} {A} steps P xs {s} {it} {t} u {r} start ran none step holds =
    let last : steps t None u = subst (λ (k : Option A). steps t k u) none step in
    let from : Yields steps s xs t = subst (λ (k : S). Yields steps k xs t) start ran in
    total_runs steps s (Unit {0}) P (xs, (λ _. (u, (t, from, last))), holds) tt

-- a whole run from a source that yields a list has read that list
pub items_of_run : {S A B : Type 0} {steps : S → Option A → S → Type 0} {v : A → B} {s : S} {ys : List B}
    (p : Run steps) → p.from ≡ s → p.whole ≡ true → YieldsList steps v s ys → map v p.items ≡ ys
unfolding YieldsRun
items_of_run {S} {A} {B} {steps} {v} {s} {ys} p from whole yields =
    let drains = p.gave.0 in
    items_from_drains p.items (
      drains.0,
      subst (λ (k : S). Yields steps k p.items drains.0) from drains.1,
      λ _. drains.2 whole,
    ) yields

-- so what holds of the items of some whole run holds of items that show the list
pub fact_of_run : {S A B : Type 0} {steps : S → Option A → S → Type 0} (v : A → B) {s : S} {ys : List B} (P : List A →
    Type 0) (Q : Type 0) → WholeRun steps s (λ p. P p.items) → YieldsList steps v s ys →
    ((xs : List A) → map v xs ≡ ys → P xs → Q) → Q
fact_of_run v P Q run yields use_it = use_it run.0.items (items_of_run run.0 run.1 run.2 yields) run.3
