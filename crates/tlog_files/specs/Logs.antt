-- What is read of a log.
use Rattle.std.specs.Prelude.{◌≡◌, ℕ, false, List, map, Option}
use Rattle.sha2.specs.Sha256.{sha256}
use Rattle.tlog.specs.Rfc9162.{leaf_hash}
use Rattle.tlog_tree.specs.Builders.{IsBuilderOf}
use Rattle.tlog_tree.specs.declared.node_id.NodeId.{NodeId}
use Rattle.tlog_files.specs.Entries.{entries_in, first_entries, is_refused, wanted_of}
use Rattle.tlog_files.specs.declared.framing.Framing.{Framing}
use Rattle.tlog_files.specs.declared.reading.ReadLog.{ReadLog}

-- of a file of these bytes that is not refused: the tree of its first entries, and those of them that are wanted
pub record IsLogOf (log : ReadLog) (framing : Framing) (limit : Option ℕ) (nodes : List NodeId) (wanted bytes : List ℕ)
    : Type 0 where
  pub not_refused : is_refused framing limit bytes ≡ false
  pub tree : IsBuilderOf (map (leaf_hash sha256) (first_entries limit (entries_in framing bytes))) nodes log.tree
  pub entries : map (λ entry. entry.items) log.entries.items
      ≡ wanted_of (first_entries limit (entries_in framing bytes)) wanted
