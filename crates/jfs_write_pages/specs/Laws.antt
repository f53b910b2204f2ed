-- What a file holds once its blocks are written.
use Rattle.std.specs.Prelude.{◌≡◌, ◌≤◌, ◌<◌, ℕ, ◌+◌, ◌-◌, ◌/◌, max, true, List, ◌++◌, length}
use Rattle.jfs_bits.specs.declared.extent.Xad.{Xad}
use Rattle.jfs_xtpage.specs.Page.{rises_from}
use Rattle.jfs_data_steps.specs.xtree.specs.Writing.{AllLong, AllTo, place_at}
use Rattle.jfs_data_steps.specs.objects.specs.Owners.{covers}
use Rattle.jfs_plain.specs.Moves.{byte_after}
use Rattle.jfs_written.specs.RangeLaws.{or_else}
use Rattle.jfs_data_steps.specs.declared.pages.DataPage.{DataPage}
use Rattle.jfs_data_steps.specs.After.{put_data}
use Rattle.jfs_data_steps.specs.File.{bytes_held}
use Rattle.jfs_write_pages.specs.Spots.{spots_from, spots_between, holes_in, placed, extents_for}
use Rattle.jfs_write_pages.specs.Pages.{pages_for, told}

-- Bytes are written at an offset of a file of this size with the extents `es`, from its block `first` on `n` blocks: its holes there get the new blocks `news`, its later extents are the old ones with those that
-- the write makes put over them, and what is put beforehand are the recorded blocks from the old end to the first one, and then the n.
pub record WritesFile (blocks : ℕ) (pages : ℕ → List ℕ) (size offset : ℕ) (bytes : List ℕ) (es later : List Xad) (first n : ℕ) (news : List ℕ) (ds : List DataPage) : Type 0 where
  pub whole : (b : ℕ) → b < blocks → length (pages b) ≡ 4096
  pub some : 0 < length bytes
  pub low : ℕ
  pub rises : rises_from low es ≡ true
  pub long : AllLong es
  pub high : ℕ
  pub rises_later : rises_from high later ≡ true
  pub long_later : AllLong later
  pub bound : ℕ
  pub to_later : AllTo bound later
  pub once : (b : ℕ) → covers b later ≤ 1
  pub inside : (b : ℕ) → 0 < covers b later → b < blocks
  pub first_is : first ≡ offset / 4096
  pub last_is : first + n ≡ (offset + length bytes - 1) / 4096 + 1
  pub number : holes_in (spots_from es first n) ≡ length news
  pub each : (j : ℕ) → place_at later j ≡ or_else (place_at (extents_for (placed first (spots_from es first n) news)) j) (place_at es j)
  pub is_told : told ds ≡ pages_for pages size offset bytes (spots_between (size / 4096) first es ++ placed first (spots_from es first n) news)

-- Each byte of the file is then the one that was put there, and else what it was, zero behind the old end.
abbrev pub BytesLaw : Type 0
BytesLaw = (blocks : ℕ) (pages : ℕ → List ℕ) (size offset : ℕ) (bytes : List ℕ) (es later : List Xad) (first n : ℕ) (news : List ℕ) (ds : List DataPage) → WritesFile blocks pages size offset bytes es later first n news ds
    → (i : ℕ) → bytes_held (put_data ds pages) later (max size (offset + length bytes)) i ≡ byte_after (bytes_held pages es size) offset bytes i
