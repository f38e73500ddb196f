-- The indices of the places so far have their leaf hashes (`hashed`), and no hash that was there is lost (`kept`).
use Rattle.std.proofs.Common.{ℕ, ◌<◌, [], arith, below_more, get_or, length, set, subst}
use Rattle.std.proofs.lemmas.List.{get_or_default}
use Rattle.tlog_tree.specs.Inner.Leaves.{IsHashed}
use Rattle.tlog_tree.proofs.Leaves.{hashed_there, stays_hashed}
use Rattle.tlog_tree.proofs.leaf.place_hashes.Goals as goal

pub loop-k-preserved : goal.loop-k-preserved
loop-k-preserved c =
    let places = c.args.places.now in
    let k = c.loop-k.k in
    let now = c.loop-k.hashes in
    let value = get_or c.args.values.now k [] in
    let i = (get_or places k (0, 0)).1 in
    let inside : i < length now = omega (
      arith,
      c.requires.inside k (0, 0) c.loop-k-test.true,
      c.loop-k.auto.hashes,
    ) in
    record {
      hashed = λ E are j d h.
          let is = are k (0, 0) c.loop-k-test.true in
          below_more (λ (j : ℕ). (d : ℕ × ℕ) → IsHashed E (set now i value) (get_or places j d).1) k
          (λ l below e. stays_hashed E now i value inside is (get_or places l e).1
          (c.loop-k.invariant.hashed E are l e below))
          (λ e. subst (λ (place : ℕ × ℕ). IsHashed E (set now i value) place.1)
          (get_or_default places k (0, 0) e c.loop-k-test.true) (hashed_there E now i value inside is)) j h d;
      kept = λ E are j was.
          stays_hashed E now i value inside (are k (0, 0) c.loop-k-test.true) j
          (c.loop-k.invariant.kept E are j was);
    }
