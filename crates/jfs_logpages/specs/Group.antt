-- The text of a group of records, and the log that it is written to.
use Rattle.std.specs.Prelude.{◌<◌, ◌≤◌, ◌+◌, ◌-◌, ◌*◌, ◌/◌, ℕ, suc, List, [], ◌∷◌, length, take, drop}
use Rattle.std.specs.Coded.{×_prop, le_prop}
use mathlib.Core.Logic.{∥∥₁_prop}
use Rattle.jfs_disk.specs.Image.{Image}
use Rattle.jfs_logfmt.specs.declared.log_record.Record.{Record}
use Rattle.jfs_logfmt.specs.Text.{Spells}
use Rattle.jfs_logpages.specs.declared.last.Last.{Last}
use Rattle.jfs_logpages.specs.Ring.{IsLast, IsRing}

-- these bytes are one record's text
abbrev pub IsRecordText : List ℕ → Type 0
IsRecordText text = ∥ ((r : Record) × Spells text r) ∥₁

-- from one place on, the bytes up to each next end are one record's text, and the last end is the number of bytes
abbrev pub AreRecords : ℕ → List ℕ → List ℕ → Type 0
AreRecords from bytes [] = (from ≤ length bytes) × (length bytes ≤ from)
AreRecords from bytes (end ∷ ends) = (from < end) × ((end ≤ length bytes) × (IsRecordText (drop from (take end bytes)) × AreRecords end bytes ends))

-- for the prover alone: it has one proof at most
pub AreRecords-prop : (from : ℕ) (bytes ends : List ℕ) → IsProp (AreRecords from bytes ends)
AreRecords-prop from bytes [] = ×_prop le_prop le_prop
AreRecords-prop from bytes (end ∷ ends) =
    ×_prop (le_prop {n = suc from} {m = end}) (×_prop (le_prop {n = end} {m = length bytes}) (×_prop (∥∥₁_prop {A = (r : Record) × Spells (drop from (take end bytes)) r}) (AreRecords-prop end bytes ends)))

-- the greatest number of ring pages that so many bytes touch, wherever they start
abbrev pub pages_of : ℕ → ℕ
pages_of size = (size + 4079) / 4080 + 1

-- the greatest number of ring pages that one group may take
abbrev pub room_of : ℕ → ℕ
room_of ring = ring / 4

-- how many pages behind the last one a group takes, where the last one holds `fill` bytes
abbrev pub further_pages : ℕ → ℕ → ℕ
further_pages fill size = (fill + size - 1) / 4080

-- the number of the last page, once so many bytes are written behind the text
abbrev pub number_after : Last → ℕ → ℕ
number_after last size = last.number + further_pages last.fill size

-- how many bytes of the log's text there are, counted from page number 0 on
abbrev pub position_of : Last → ℕ
position_of last = 4080 * last.number + last.fill

-- the log's part holds a text whose records end at these places; the writer knows its last page
pub record Holds (last : Last) (text ends : List ℕ) (image : Image) : Type 0 where
  pub page : IsLast last.ring last.number last.fill last.page.0 text ends
  pub ring : IsRing last.ring text ends last.number image
