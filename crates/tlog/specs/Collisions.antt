-- Collisions of a log's hash function: two different byte strings with one hash.
use Rattle.std.specs.Prelude.{◌≡◌, ◌≢◌, ℕ, List, map, Vec}
use Rattle.std.specs.Global.{Global}
use Rattle.tlog.specs.Rfc9162.{Hash, root_of}
use Rattle.tlog.specs.declared.collision.Collision.{Collision}

-- entries, as byte strings
abbrev pub entries_of : List (Vec ℕ Global) → List (List ℕ)
entries_of entries = map (λ (entry : Vec ℕ Global). entry.items) entries

-- both byte strings differ, and have one hash
pub record IsCollision (hash : Hash) (c : Collision) : Type 0 where
  pub differ : c.first.items ≢ c.second.items
  pub same_hash : hash c.first.items ≡ hash c.second.items

-- of two lists of entries: equal roots mean equal entries
abbrev pub RootsFixEntries : Hash → List (List ℕ) → List (List ℕ) → Type 0
RootsFixEntries hash d e = root_of hash d ≡ root_of hash e → d ≡ e
