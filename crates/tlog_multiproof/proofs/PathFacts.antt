-- What accepted leaf hashes show, path by path.
use Rattle.std.proofs.Common.{◌≡◌, ℕ, ◌<◌, ◌≤◌, List, [], map, ap, sym, subst, ◌∙◌, arith, length, get_or}
use Rattle.std.proofs.lemmas.List.{get_or-map}
use Rattle.std.proofs.lemmas.Simd.{map-map}
use Rattle.std.specs.Prelude.{◌↔◌}
use Rattle.p3_merkle_core.specs.Pruning.{restored_path}
use Rattle.p3_merkle_core.specs.Views.{shown_path, shown_paths}
use Rattle.p3_merkle_core.specs.declared.pruning.AuthPath.{AuthPath}
use Rattle.tlog.specs.Rfc9162.{Hash as HashFunction, root_of}
use Rattle.tlog.specs.Verdicts.{size_limit}
use Rattle.tlog.specs.Fixed.{RootFixesLeaf}
use Rattle.tlog_multiproof.specs.Entries.{AreIncluded, entries_opening}
use Rattle.tlog_multiproof.specs.Fixed.{RootFixesLeaves}
use Rattle.tlog_multiproof.specs.Inner.Paths.{paths_of, siblings_of}
use Rattle.tlog_multiproof.specs.Instance.{log_params, present}
use Rattle.tlog_multiproof.specs.declared.tree.Node.{Node}

-- the siblings of restored paths
pub siblings_are : {X : Type 0} (paths : List (AuthPath X)) (path : ℕ → List X) (indices : List ℕ) →
    shown_paths paths ≡ map (λ i. (i, path i)) indices → siblings_of paths ≡ map path indices
siblings_are {X} paths path indices is =
    let second = λ (x : ℕ × List X). x.1 in
    sym (map-map second shown_path paths) ∙ ap (map second) is ∙ map-map second (λ (i : ℕ). (i, path i)) indices

-- accepted leaf hashes are those of the entries exactly if each is that its path shows
pub fixed_by_paths : (hash : HashFunction) (D : List (List ℕ)) (size : ℕ) (indices : List ℕ)
    (leaves proof : List (List ℕ))
    (root : List ℕ) (paths : List (List (List Node))) → size ≡ length D → root ≡ root_of hash D → size ≤ size_limit →
    AreIncluded hash size indices leaves proof root → paths ≡ paths_of hash size indices leaves proof →
    RootFixesLeaves hash D indices leaves proof ↔ ((k : ℕ) → k < length indices →
    RootFixesLeaf hash D (get_or indices k 0) (get_or leaves k []) (present (get_or paths k [])))
fixed_by_paths hash D size indices leaves proof root paths size_is root_is low accepted paths_are =
    let path = λ (n : ℕ). restored_path (log_params hash n) (entries_opening n indices leaves proof) in
    let small : length D ≤ size_limit = omega arith in
    let is : AreIncluded hash (length D) indices leaves proof (root_of hash D) =
    subst (λ (n : ℕ). AreIncluded hash n indices leaves proof (root_of hash D)) size_is
    (subst (λ (r : List ℕ). AreIncluded hash size indices leaves proof r) root_is accepted) in
    let path_at = λ (k : ℕ) (h : k < length indices).
    ap (λ (xs : List (List (List Node))). get_or xs k []) (paths_are ∙ ap (λ (n : ℕ). map (path n) indices) size_is)
    ∙ get_or-map (path (length D)) indices k 0 [] h in (
      λ fixed k h same included. fixed small is k h,
      λ each same included k h. each k h small (rw (path_at k h) (is.each k h)),
    )
