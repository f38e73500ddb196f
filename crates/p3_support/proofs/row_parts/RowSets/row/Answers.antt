-- A row lies in one piece, or before its salts.
use Rattle.std.proofs.Common.{◌<◌, ◌∙◌, ◌++◌, arith, ap, get_or, length, subst, sym, []}
use Rattle.std.proofs.lemmas.List.{length-map}
use Rattle.p3_support.specs.Shown.{row_sets}
use Rattle.p3_support.proofs.RowSetFacts.{row_and_salts, rows_in_pairs, set_and_salts, sets_in_pairs}
use Rattle.p3_support.proofs.row_parts.RowSets.row.Goals as goal

pub set_at-requires-in-Salted : goal.set_at-requires-in-Salted
set_at-requires-in-Salted g c =
    (sets_in_pairs c.in-Salted.sets.now c.in-Salted.salts.now c.args.query (rw c.in-Salted.is at c.requires.query)).0

pub row_at-requires-in-Salted : goal.row_at-requires-in-Salted
row_at-requires-in-Salted g c =
    let sets = c.in-Salted.sets.now in
    let salts = c.in-Salted.salts.now in
    let k = c.args.query in
    let inside = subst (λ set. c.args.matrix < length set)
    (set_and_salts sets salts k (rw c.in-Salted.is at c.requires.query)) (rw c.in-Salted.is at c.requires.matrix) in
    let both = rows_in_pairs (get_or (row_sets sets) k []) (get_or (row_sets salts) k []) c.args.matrix inside in
    omega (
      arith,
      both.0,
      ap length c.set_at-in-Salted.ensures,
      length-map c.set_at-in-Salted.result.now (λ row. row.items),
    )

pub set_at-requires-in-Salted-2 : goal.set_at-requires-in-Salted-2
set_at-requires-in-Salted-2 g c =
    (sets_in_pairs c.in-Salted.sets.now c.in-Salted.salts.now c.args.query (rw c.in-Salted.is at c.requires.query)).1

pub row_at-requires-in-Salted-2 : goal.row_at-requires-in-Salted-2
row_at-requires-in-Salted-2 g c =
    let sets = c.in-Salted.sets.now in
    let salts = c.in-Salted.salts.now in
    let k = c.args.query in
    let inside = subst (λ set. c.args.matrix < length set)
    (set_and_salts sets salts k (rw c.in-Salted.is at c.requires.query)) (rw c.in-Salted.is at c.requires.matrix) in
    let both = rows_in_pairs (get_or (row_sets sets) k []) (get_or (row_sets salts) k []) c.args.matrix inside in
    omega (
      arith,
      both.1,
      ap length c.set_at-in-Salted-2.ensures,
      length-map c.set_at-in-Salted-2.result.now (λ row. row.items),
    )

pub returns-in-Salted : goal.returns-in-Salted
returns-in-Salted g c =
    let sets = c.in-Salted.sets.now in
    let salts = c.in-Salted.salts.now in
    let k = c.args.query in
    let m = c.args.matrix in
    let set = set_and_salts sets salts k (rw c.in-Salted.is at c.requires.query) in
    let inside = subst (λ set. m < length set) set (rw c.in-Salted.is at c.requires.matrix) in
    let row = c.row_at-in-Salted.ensures ∙ ap (λ set. get_or set m []) c.set_at-in-Salted.ensures in
    let salt = c.row_at-in-Salted-2.ensures ∙ ap (λ set. get_or set m []) c.set_at-in-Salted-2.ensures in
    rw c.in-Salted.is ((λ i. row i ++ salt i)
    ∙ sym (row_and_salts (get_or (row_sets sets) k []) (get_or (row_sets salts) k []) m inside)
    ∙ ap (λ set. get_or set m []) (sym set))
