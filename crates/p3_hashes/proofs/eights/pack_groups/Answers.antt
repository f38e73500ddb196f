-- Lane `k` of each packed child is the child at its place in group `first + k`.
use Rattle.std.proofs.Common.{rules, arith, ℕ, ◌≡◌, ◌+◌, ◌<◌, ◌∙◌, sym, slice_index_or, [], List}
use Rattle.std.proofs.lemmas.List.FromFn.{fill_by_all}
use Rattle.p3_support.specs.Lists.{lane_of}
use Rattle.p3_support.proofs.Made.{made_by, map_made}
use Rattle.p3_hashes.proofs.eights.pack_groups.Goals as goal

pub returns : goal.returns
returns g c = λ k below.
    let of = λ (j : ℕ) (ps : List g.row.P.Denot). lane_of g.P.PackedValue.lanes g.P.PackedValue.default_value j ps in
    let group = λ (j : ℕ). slice_index_or c.args.groups.now (c.args.first + j) [] in
    let made = made_by _ _ (λ (e : ℕ) y. (j : ℕ) → j < g.P.PackedValue.WIDTH → of j y ≡ slice_index_or (group j) e [])
    (λ e y q called. search rules) c.from_fn.ensures.items in
    map_made (of k) (λ e. slice_index_or (group k) e []) [] c.from_fn.result g.row.N c.from_fn.ensures.items.long
    (λ e d h. made e d h k below)
    ∙ sym (fill_by_all (λ e. slice_index_or (group k) e []) (group k) g.row.N []
    (c.lemma_rows.ensures (c.args.first + k) (omega arith))
    (λ e h. search rules))
