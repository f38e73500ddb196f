-- Entries that are read in place.
use Rattle.std.specs.Prelude.{ℕ, zero, suc, List, [], ◌∷◌}
use Rattle.std.specs.Option.{option_map_or}
use Rattle.std.specs.Result.{result_ok}
use Rattle.tlog_text.specs.Reading.{entry_by}
use Rattle.tlog_text.specs.Texts.{EntriesFields, EntryFields}
use Rattle.tlog_text.specs.declared.entries_text.Entries.{Entries}
use Rattle.tlog_text.specs.declared.entries_text.EntriesText.{EntriesText}
use Rattle.tlog_text.specs.declared.entries_text.EntryText.{EntryText}

-- what an entry says that stands in a text
abbrev pub entry_text_fields : EntryText → EntryFields
entry_text_fields e = record { number = e.number; bytes = e.bytes.now }

-- the entries that a text begins with, at most so many
unfoldable pub entries_from : List ℕ → ℕ → List EntryFields
entries_from left zero = []
entries_from left (suc n) =
    option_map_or (λ read. read.0 ∷ entries_from read.1 n) (result_ok (entry_by left)) []

-- the entries that are left of those in a text
abbrev pub entries_left : Entries → List EntryFields
entries_left es = entries_from es.text.now es.count

-- what a proof says whose entries stand in its text
abbrev pub in_place : EntriesText → EntriesFields
in_place p = record { entries = entries_from p.text.now p.count; digests = p.digests.items }
