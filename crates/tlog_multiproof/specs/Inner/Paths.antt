-- Restored paths.
use Rattle.std.specs.Prelude.{ℕ, List, map}
use Rattle.p3_merkle_core.specs.Pruning.{restored_path}
use Rattle.p3_merkle_core.specs.declared.pruning.AuthPath.{AuthPath}
use Rattle.tlog.specs.Rfc9162.{Hash as HashFunction}
use Rattle.tlog_multiproof.specs.Entries.{entries_opening}
use Rattle.tlog_multiproof.specs.Instance.{log_params}
use Rattle.tlog_multiproof.specs.declared.tree.Node.{Node}

-- the siblings of each of some paths
abbrev pub siblings_of : {X : Type 0} → List (AuthPath X) → List (List X)
siblings_of paths = map (λ path. path.siblings.items) paths

-- the path of each of some entries, as the leaf hashes and the digests give it
abbrev pub paths_of : HashFunction → ℕ → List ℕ → List (List ℕ) → List (List ℕ) → List (List (List Node))
paths_of hash size indices leaves proof =
    map (restored_path (log_params hash size) (entries_opening size indices leaves proof)) indices
