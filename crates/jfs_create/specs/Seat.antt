-- Where the inode of a new object is to stand.
use Rattle.std.specs.Prelude.{◌<◌, ◌≤◌, ℕ, ◌+◌, ◌-◌, ◌/◌, ◌%◌, Bool, true, false, if◌then◌else◌, List, Option, Some, None, Result, Ok, Err}
use Rattle.jfs_bits.specs.Descriptor.{FitsPxd}
use Rattle.jfs_bits.specs.declared.rule.Rule.TheVariants as rules
use Rattle.jfs_imap.specs.Inodes.{Inodes}
use Rattle.jfs_tree.specs.Spells.{no_page}
use Rattle.jfs_link.specs.objects.specs.Volume.{slot_of}
use Rattle.jfs_plain.specs.Tree.{root, and_then}
use Rattle.jfs_plain.specs.declared.refusal.Refusal.{Refusal}
use Rattle.jfs_plain.specs.declared.refusal.Refusal.TheVariants.{Damaged}
use Rattle.jfs_link.specs.claim.specs.declared.look.FreshInode.{FreshInode}
use Rattle.jfs_link.specs.way.specs.Way.{inode_at, place_of}
use Rattle.jfs_link.specs.way.specs.declared.object.Held.{Held}
use Rattle.jfs_create.specs.declared.seats.Seated.{Seated}
use Rattle.jfs_create.specs.declared.seats.Site.{Site}
use Rattle.jfs_create.specs.declared.seats.Site.TheVariants.{There, Founding}

-- the seat of inode n on a page: its extent has four blocks, and eight inodes stand on each
abbrev pub seat_at : ℕ → ℕ → ℕ → ℕ → ℕ → Seated
seat_at stamp generation parent n page = record {
  seat = record { number = n; extent = record { len = 4; addr = page - n % 32 / 8 }; stamp = stamp; generation = generation; parent = parent };
  page = page;
}

-- on a page that is there, with the generation of the slot
abbrev pub seat_in : (ℕ → List ℕ) → Held → ℕ → ℕ → Option ℕ → Result Seated Refusal
seat_in pages dir n stamp None = Err (Damaged dir.page rules.Fields)
seat_in pages dir n stamp (Some page) = Ok (seat_at stamp (slot_of (pages page) (n % 8)).generation dir.number n page)

-- it is the first inode of an extent to be made, or it stands on its page
abbrev pub site_in : ℕ → (ℕ → List ℕ) → Inodes → Held → FreshInode → ℕ → Result Site Refusal
site_in blocks pages inodes dir fresh stamp = if fresh.needs_extent
    then Ok (Founding (record { number = fresh.number; stamp = stamp; parent = dir.number }))
    else and_then (seat_in pages dir fresh.number stamp (place_of blocks inodes fresh.number)) (λ seated. Ok (There seated))

-- with the stamp of inode 2
abbrev pub site_on : ℕ → (ℕ → List ℕ) → Inodes → Held → FreshInode → Result Site Refusal
site_on blocks pages inodes dir fresh = and_then (inode_at blocks pages inodes no_page root) (λ top. site_in blocks pages inodes dir fresh top.inode.inostamp)

abbrev pub number_at : Site → ℕ
number_at (There seated) = seated.seat.number
number_at (Founding founded) = founded.number

-- a run of blocks is needed for an extent to be made
abbrev pub needs_run : Site → Bool
needs_run (There seated) = false
needs_run (Founding founded) = true

-- its page lies within so many blocks; or these have numbers of 32 bits, and so have 32 more inodes
abbrev pub IsSiteWithin : ℕ → Site → Type 0
IsSiteWithin blocks (There seated) = (seated.page < blocks) × FitsPxd seated.seat.extent
IsSiteWithin blocks (Founding founded) = (founded.number + 32 ≤ 4294967296) × (blocks ≤ 4294967296)
