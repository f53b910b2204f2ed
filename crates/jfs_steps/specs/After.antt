-- The volume after a call's transaction.
use Rattle.std.specs.Prelude.{ℕ, suc, ◌+◌, ◌/◌, ◌==◌, ◌&&◌, ◌||◌, Bool, false, not, if◌then◌else◌, List, [], ◌∷◌, length, set, is_some, Option, Some}
use Rattle.jfs_bits.specs.Bits.{is_in_run}
use Rattle.jfs_bits.specs.Field.{field_of}
use Rattle.jfs_bits.specs.declared.descriptor.Pxd.{Pxd}
use Rattle.jfs_bits.specs.declared.rule.PageKind.{PageKind}
use Rattle.jfs_bits.specs.declared.rule.PageKind.TheVariants as kinds
use Rattle.jfs_ranges.specs.declared.edit.Edit.{Edit}
use Rattle.jfs_ranges.specs.declared.edit.Edit.TheVariants.{Lines, NoRedo, Alloc, Free}
use Rattle.jfs_ranges.specs.Laid.{put_tx}
use Rattle.jfs_way.specs.objects.specs.Volume.{Volume}
use Rattle.jfs_way.specs.objects.specs.Objects.{objects}
use Rattle.jfs_way.specs.objects.specs.Owners.{run_has}
use Rattle.jfs_way.specs.meaning.specs.Readers.{readers}

-- ---- a new inode extent

-- Lines of kind Inode that are four pages from their first line on are a new inode extent.
abbrev pub is_extent : PageKind → ℕ → List ℕ → Bool
is_extent kinds.Inode first bytes = first == 0 && length bytes == 16384
is_extent kinds.Xtree first bytes = false
is_extent kinds.Dtree first bytes = false
is_extent kinds.Index first bytes = false

-- Its place is that of its first inode's number, which the inode has at byte 8: each place stands for 32 numbers.
abbrev pub place_in : List ℕ → ℕ
place_in bytes = field_of bytes 8 4 / 32

abbrev pub four_from : ℕ → Pxd
four_from first = record { len = 4; addr = first }

-- ---- the three maps after edits

-- a run's blocks are in use, or they aren't
abbrev pub with_run : Pxd → (ℕ → Bool) → ℕ → Bool
with_run run used b = is_in_run run.addr run.len b || used b

abbrev pub without_run : Pxd → (ℕ → Bool) → ℕ → Bool
without_run run used b = not (is_in_run run.addr run.len b) && used b

-- the blocks in use
abbrev pub used_after : List Edit → (ℕ → Bool) → ℕ → Bool
used_after [] used = used
used_after (Lines page kind first bytes ∷ tx) used = used_after tx (if is_extent kind first bytes then with_run (four_from page) used else used)
used_after (NoRedo page ∷ tx) used = used_after tx used
used_after (Alloc run ∷ tx) used = used_after tx (with_run run used)
used_after (Free run ∷ tx) used = used_after tx (without_run run used)

-- the inode extents, each at its place
abbrev pub extents_after : List Edit → List (Option ℕ) → List (Option ℕ)
extents_after [] extents = extents
extents_after (Lines page kind first bytes ∷ tx) extents = extents_after tx (if is_extent kind first bytes then set extents (place_in bytes) (Some page) else extents)
extents_after (NoRedo page ∷ tx) extents = extents_after tx extents
extents_after (Alloc run ∷ tx) extents = extents_after tx extents
extents_after (Free run ∷ tx) extents = extents_after tx extents

-- pages, inode extents and blocks in use after edits, the inodes in use as before
abbrev pub after_edits : ℕ → List Edit → Volume → Volume
after_edits blocks tx v = record v { page = put_tx blocks tx v.page; extents = extents_after tx v.extents; used = used_after tx v.used }

-- The volume after a call, whose file system part has so many blocks: those inodes are in use that are objects then.
abbrev pub after_call : ℕ → List Edit → Volume → Volume
after_call blocks tx v = record (after_edits blocks tx v) { in_use = λ n. is_some (objects (readers blocks) (after_edits blocks tx v) n) }

-- ---- how often edits take a block, and how often they free it

abbrev pub takes : List Edit → ℕ → ℕ
takes [] b = 0
takes (Lines page kind first bytes ∷ tx) b = (if is_extent kind first bytes then run_has (four_from page) b else 0) + takes tx b
takes (NoRedo page ∷ tx) b = takes tx b
takes (Alloc run ∷ tx) b = run_has run b + takes tx b
takes (Free run ∷ tx) b = takes tx b

abbrev pub frees : List Edit → ℕ → ℕ
frees [] b = 0
frees (Lines page kind first bytes ∷ tx) b = frees tx b
frees (NoRedo page ∷ tx) b = frees tx b
frees (Alloc run ∷ tx) b = frees tx b
frees (Free run ∷ tx) b = run_has run b + frees tx b

-- how many edits of a list take blocks
abbrev pub allocs_in : List Edit → ℕ
allocs_in [] = 0
allocs_in (Lines page kind first bytes ∷ tx) = allocs_in tx
allocs_in (NoRedo page ∷ tx) = allocs_in tx
allocs_in (Alloc run ∷ tx) = suc (allocs_in tx)
allocs_in (Free run ∷ tx) = allocs_in tx
