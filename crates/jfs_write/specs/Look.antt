-- What a write finds in a file, and which blocks it wants.
use Rattle.std.specs.Prelude.{◌≡◌, ◌<◌, ◌≤◌, ℕ, ◌+◌, ◌-◌, ◌/◌, ◌^◌, ◌||◌, Bool, true, false, not, nat_lt, min, max, if◌then◌else◌, List, [], ◌∷◌, Option, Some, None, Result, Ok, Err}
use Rattle.jfs_bits.specs.declared.extent.Xad.{Xad}
use Rattle.jfs_bits.specs.declared.rule.Rule.{Rule}
use Rattle.jfs_inode.specs.declared.fields.Dinode.{Dinode}
use Rattle.jfs_xtree.specs.Spells.{spells_extents}
use Rattle.jfs_write_pages.specs.objects.specs.Objects.{has_names}
use Rattle.jfs_link.specs.meaning.specs.Contents.{is_regular}
use Rattle.jfs_link.specs.meaning.specs.Readers.{root_of}
use Rattle.jfs_plain.specs.Step.{blocks_in}
use Rattle.jfs_plain.specs.declared.refusal.Refusal.{Refusal}
use Rattle.jfs_plain.specs.declared.refusal.Refusal.TheVariants.{IsDir, NotFile, FileTooBig, Damaged}
use Rattle.jfs_read.specs.way.specs.Answer.{at_root}
use Rattle.jfs_read.specs.way.specs.declared.object.Held.{Held}
use Rattle.jfs_file_blocks.specs.declared.reserve.FileWant.{FileWant}
use Rattle.jfs_write_pages.specs.declared.spot.Spot.{Spot}
use Rattle.jfs_write_pages.specs.Spots.{spots_from, holes_in, hint_behind}

-- ---- whether bytes may be put into a file

-- no file has more bytes: the blocks of a file end below 2^40
abbrev pub most_bytes : ℕ
most_bytes = 2 ^ 52 - 4096

-- why they may not, up to an end: a regular file is wanted, whose size is at most the limit, before and after
abbrev pub why_kept : Dinode → ℕ → ℕ → Option Refusal
why_kept d end limit = if has_names d then Some IsDir else (if is_regular d then (if nat_lt (min limit most_bytes) (max d.size end) then Some FileTooBig else None) else Some NotFile)

abbrev pub unless : Option Refusal → Held → Result Held Refusal
unless None at = Ok at
unless (Some why) at = Err why

-- what is told of that
abbrev pub IsAllowed : {T : Type 0} → Dinode → ℕ → ℕ → Result T Refusal → Type 0
IsAllowed d end limit (Ok it) = why_kept d end limit ≡ None
IsAllowed d end limit (Err why) = why_kept d end limit ≡ Some why

-- ---- its extents

-- A list, or the first broken rule and its page; the root stands on the page of its inode.
abbrev pub or_damage : ℕ → Result (List Xad) (ℕ × Rule) → Result (List Xad) Refusal
or_damage page (Ok es) = Ok es
or_damage page (Err bad) = Err (Damaged (at_root page bad.0) bad.1)

-- the extents that a file's tree spells
abbrev pub spelled_at : ℕ → (ℕ → List ℕ) → Held → Result (List Xad) Refusal
spelled_at blocks pages at = or_damage at.page (spells_extents blocks pages (root_of at.inode))

-- ---- the blocks that it wants

-- one of these blocks of a file is a hole, or isn't recorded
abbrev pub needs_extents : List (Option Spot) → Bool
needs_extents [] = false
needs_extents (None ∷ ss) = true
needs_extents (Some s ∷ ss) = not s.recorded || needs_extents ss

-- Each hole gets a block, from the file's end on; and where the tree gets extents, it may take fifteen.
abbrev pub want_for : List Xad → List (Option Spot) → FileWant
want_for es ss = record { hint = hint_behind es; blocks = holes_in ss; pages = if needs_extents ss then 15 else 0 }

-- ---- the bytes

-- so many, one or more, up to an end that a file may have
pub record FitsBytes (offset count : ℕ) : Type 0 where
  pub some : 0 < count
  pub few : count ≤ 65536
  pub low : offset + count ≤ most_bytes

-- the blocks of the file that they touch
abbrev pub spots_at : List Xad → ℕ → ℕ → List (Option Spot)
spots_at es offset count = spots_from es (offset / 4096) (blocks_in offset count)
