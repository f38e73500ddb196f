-- What the search among the leaves says of the queries.
use Rattle.std.proofs.Common.{◌≡◌, ◌-◌, List, ℕ, Err, arith, length, min, subst}
use Rattle.std.specs.List.Sorted.{IsBinarySearchResult}
use Rattle.std.specs.Ordering.{nat_cmp}
use Rattle.p3_merkle_verifier.proofs.NeighbourFacts.{high_there, low_there, missed_between, read_inside}
use Rattle.p3_merkle_verifier.proofs.pruned_extraction.RestoredQueries+T+array+D+W.neighbours.Goals as goal

pub returns-in-Err-clause-below : goal.returns-in-Err-clause-below
returns-in-Err-clause-below g c =
    let has = c.requires.leaves in
    let search = subst (λ (ns : List ℕ). IsBinarySearchResult (λ y. nat_cmp y c.args.index) ns (Err c.in-Err.slot))
    c.deref.ensures.value c.in-Err.ensures.position in
    read_inside has c.saturating_sub-below.result
    (low_there has c.args.index c.in-Err.slot search c.requires.some c.saturating_sub-below.ensures)
    c.index-in-Err.ensures

pub returns-in-Err-clause-above : goal.returns-in-Err-clause-above
returns-in-Err-clause-above g c =
    let has = c.requires.leaves in
    let queries = c.args.self.now.leaves.first_queries in
    let high : c.min-above.result ≡ min c.in-Err.slot (length queries.items - 1) =
    omega (arith, c.min-above.ensures, c.len.ensures, queries.ok.0) in
    read_inside has c.min-above.result (high_there has c.in-Err.slot c.requires.some high) c.index-in-Err-2.ensures

pub returns-in-Err-clause-between : goal.returns-in-Err-clause-between
returns-in-Err-clause-between g c =
    let queries = c.args.self.now.leaves.first_queries in
    let search = subst (λ (ns : List ℕ). IsBinarySearchResult (λ y. nat_cmp y c.args.index) ns (Err c.in-Err.slot))
    c.deref.ensures.value c.in-Err.ensures.position in
    let high : c.min-above.result ≡ min c.in-Err.slot (length queries.items - 1) =
    omega (arith, c.min-above.ensures, c.len.ensures, queries.ok.0) in
    missed_between c.requires.leaves c.args.index c.in-Err.slot search c.saturating_sub-below.ensures high
    c.index-in-Err.ensures c.index-in-Err-2.ensures
