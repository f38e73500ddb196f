-- The last word of the slices is that of the last slice that has one.
use Rattle.std.proofs.Common.{rules, ◌≡◌, List, [], ◌∷◌, ◌∙◌, ap, refl, sym}
use Rattle.std.specs.List.{flat_map, fold}
use Rattle.std.proofs.lemmas.List.Sums.{fold-append}
use Rattle.tlog_multiproof.specs.declared.tree.Node.{Node}
use Rattle.tlog_multiproof.specs.declared.tree.Node.TheVariants.{Absent}
use Rattle.tlog_multiproof.proofs.tree.LeafHashesCryptographicHasherNodeNode1.hash_iter_slices.Goals as goal

-- the later of two words
abbrev later : Node → Node → Node
later before word = word

-- slice by slice is word by word
joined : {S : Type 0} (items : S → List Node) (so_far : Node) (xs : List S)
    → fold (λ c x. fold later c (items x)) so_far xs ≡ fold later so_far (flat_map items xs)
joined items so_far [] = refl
joined items so_far (x ∷ xs) = joined items (fold later so_far (items x)) xs
    ∙ sym (fold-append later so_far (items x) (flat_map items xs))

pub returns : goal.returns
returns g c =
    let run = c.fold.ensures.runs in
    let items = g.S.AsSlice.items in
    let by_slices = run.3 (λ so_far words. fold later so_far (items words)) (search rules) in
    (run.0, run.1, run.2, ap (λ word. word ∷ []) (by_slices ∙ joined items Absent run.0.items))
