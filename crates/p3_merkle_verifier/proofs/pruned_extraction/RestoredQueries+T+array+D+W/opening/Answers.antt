-- The rows are those of the query, and its path is the one at its place.
use Rattle.std.proofs.Common.{◌≡◌, ◌∙◌, ap, sym, get_or, []}
use Rattle.std.proofs.lemmas.List.{get_or-map}
use Rattle.p3_merkle_core.specs.Openings.{opening_of}
use Rattle.p3_merkle_core.specs.Views.{shown_paths}
use Rattle.p3_merkle_verifier.proofs.pruned_extraction.RestoredQueries+T+array+D+W.opening.Goals as goal

pub returns : goal.returns
returns g c =
    let queries = c.args.self.now in
    let k = c.args.k in
    let path = c.index-path.result.now in
    let rows = c.rows.ensures in
    let shown : get_or (shown_paths queries.paths.items) k (0, []) ≡ (path.leaf_index, path.siblings.items) =
    get_or-map (λ path. (path.leaf_index, path.siblings.items)) queries.paths.items k path (0, []) c.requires.path
    ∙ ap (λ path. (path.leaf_index, path.siblings.items)) (sym c.index-path.ensures) in
    λ i. opening_of (sym shown i).0 (rows i) ((ap (λ ds. ds) c.deref.ensures.value ∙ ap (λ p. p.1) (sym shown)) i)
