-- How a walk over entries in ascending order counts the digests of their proof, layer by layer.
use Rattle.std.specs.Prelude.{◌≡◌, ◌⊎◌, ℕ, zero, suc, ◌+◌, ◌-◌, ◌*◌, ◌^◌, ◌<◌, ◌≤◌, ◌&&◌, Bool, if◌then◌else◌, IsTrue}
use Rattle.std.specs.Prelude.{List, filter, length, slice_index}
use Rattle.p3_merkle_core.specs.Geometry.{levels}
use Rattle.p3_merkle_core.specs.Pruning.{boundary, is_boundary, is_covered}
use Rattle.tlog_multiproof.specs.Entries.{is_node, proof_nodes}
use Rattle.tlog_multiproof.specs.Instance.{log_shape}

-- slot j of layer l is a node whose digest the proof has
abbrev pub is_sent : ℕ → List ℕ → ℕ → ℕ → Bool
is_sent size indices l j = is_boundary (log_shape size) indices l j && is_node size (l, j)

-- how many such nodes layer l has before slot n
unfoldable pub sent_before : ℕ → List ℕ → ℕ → ℕ → ℕ
sent_before size indices l zero = 0
sent_before size indices l (suc n) =
    sent_before size indices l n + (if is_sent size indices l n then 1 else 0)

-- so many of some ascending numbers are below x, and the others are not
pub record StandsAt (xs : List ℕ) (x next : ℕ) : Type 0 where
  pub within : next ≤ length xs
  pub passed : (k : ℕ) → k < next → slice_index xs k < x
  pub ahead : (k : ℕ) → next ≤ k → k < length xs → x ≤ slice_index xs k

-- how many digests the layers up to l have before slot j of layer l
abbrev pub AreUsed : ℕ → List ℕ → ℕ → ℕ → List ℕ → Type 0
AreUsed size indices l j used =
    (m : ℕ) → m ≤ l → slice_index used m ≡ sent_before size indices m (j * 2 ^ (l - m))

-- slot j of layer l has its value from the entries below it, or from the proof
abbrev pub IsReached : ℕ → List ℕ → ℕ → ℕ → Type 0
IsReached size indices l j =
    IsTrue (is_covered (log_shape size) indices l j)
    ⊎ ((l < levels (log_shape size)) × IsTrue (is_boundary (log_shape size) indices l j))

-- how many digests the layers below each layer have
abbrev pub AreStarts : ℕ → List ℕ → List ℕ → Type 0
AreStarts size indices starts =
    (l : ℕ) → l < levels (log_shape size) →
    slice_index starts l ≡ length (filter (is_node size) (boundary (log_shape size) indices l))

-- the digests of a proof, with these numbers
pub record AreSent (size : ℕ) (indices starts : List ℕ) (digests : List (List ℕ)) : Type 0 where
  pub begin : AreStarts size indices starts
  pub count : length digests ≡ length (proof_nodes size indices)
