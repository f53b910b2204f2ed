-- What can be logged on a volume of so many blocks.
use Rattle.std.specs.Prelude.{◌≡◌, ◌<◌, ◌≤◌, ℕ, ◌+◌, ◌*◌, ◌/◌, ◌^◌, Bool, true, List, length, ⊤}
use Rattle.std.specs.List.{AllByRecursion}
use Rattle.jfs_bits.specs.declared.rule.PageKind.{PageKind}
use Rattle.jfs_bits.specs.declared.rule.PageKind.TheVariants as kinds
use Rattle.jfs_bits.specs.Line.{line_size}
use Rattle.jfs_ranges.specs.declared.edit.Edit.{Edit}
use Rattle.jfs_ranges.specs.declared.edit.Edit.TheVariants.{Lines, NoRedo, Alloc, Free}
use Rattle.jfs_logfmt.specs.declared.log_record.Record.{Record}
use Rattle.jfs_logfmt.specs.declared.log_record.Record.TheVariants as records
use Rattle.jfs_logfmt.specs.Kinds.{page_type, page_blocks}
use Rattle.jfs_records.specs.Records.{Noted}
use Rattle.jfs_records.specs.Entries.{Item, entry, point}

-- new inodes come four pages at once, which are logged whole
abbrev pub AreAllNew : PageKind → Bool → ℕ → List ℕ → Type 0
AreAllNew kinds.Inode true first bytes = (first ≡ 0) × (length bytes ≡ 16384)
AreAllNew _ _ first bytes = ⊤

-- whole lines, at least one, within the page
pub record AreLines (blocks : ℕ) (kind : PageKind) (new_page : Bool) (page first : ℕ) (bytes : List ℕ) : Type 0 where
  pub low : 16 ≤ page
  pub high : page + page_blocks (page_type kind new_page) ≤ blocks
  pub line : first < 2 ^ 16
  pub some : 0 < length bytes
  pub whole : length bytes ≡ length bytes / line_size kind * line_size kind
  pub all_new : AreAllNew kind new_page first bytes
  pub within : first * line_size kind + length bytes ≤ page_blocks (page_type kind new_page) * 4096

abbrev pub CanLog : ℕ → Bool → Edit → Type 0
CanLog blocks new_page (Lines page kind first bytes) = AreLines blocks kind new_page page first bytes
CanLog blocks new_page (NoRedo page) = (16 ≤ page) × (page < blocks)
CanLog blocks new_page (Alloc at) = (at.addr < blocks) × (at.addr + at.len ≤ blocks)
CanLog blocks new_page (Free at) = (at.addr < blocks) × (at.addr + at.len ≤ blocks)

pub record IsLoggable (blocks : ℕ) (n : Noted) : Type 0 where
  pub edit : CanLog blocks n.note.new_page n.edit
  pub fileset : n.note.fileset < 2 ^ 32
  pub inode : n.note.inode < 2 ^ 32

abbrev pub ItemFits : ℕ → Item → Type 0
ItemFits blocks (entry tid tx) = (tid < 2 ^ 32) × AllByRecursion (IsLoggable blocks) tx
ItemFits blocks (point sync) = sync < 2 ^ 32

abbrev pub ItemsFit : ℕ → List Item → Type 0
ItemsFit blocks is = AllByRecursion (ItemFits blocks) is

-- a record's page has a number of 32 bits, as on a volume
abbrev pub HasPage : Record → Type 0
HasPage (records.Redo tid back fileset inode kind new_page at ranges) = at.addr < 2 ^ 32
HasPage (records.NoRedo tid back fileset inode kind at) = at.addr < 2 ^ 32
HasPage (records.Update tid back fileset inode alloc list) = ⊤
HasPage (records.Commit tid back) = ⊤
HasPage (records.SyncPt sync) = ⊤
