-- Groups of digests as messages of SHA-256.
use Rattle.std.specs.Prelude.{◌≡◌, ◌≢◌, ℕ, List, All, length}
use Rattle.std.specs.List.{concat}

-- each has the 32 bytes of a digest
abbrev pub AreDigests : List (List ℕ) → Type 0
AreDigests digests = All (λ digest. length digest ≡ 32) digests

-- two different lists of equally many digests are two different messages
abbrev pub GroupsAreMessages : Type 0
GroupsAreMessages =
    (first second : List (List ℕ)) → length first ≡ length second → AreDigests first → AreDigests second →
    first ≢ second → concat first ≢ concat second
