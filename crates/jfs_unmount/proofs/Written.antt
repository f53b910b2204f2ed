-- What a crash leaves of a disk on which the superblock's page was to be written.
use Rattle.std.proofs.Common.{◌≡◌, ◌⊎◌, ◌≤◌, ◌<◌, ◌++◌, ◌∙◌, ap, sym, subst, ℕ, List, length, inl, inr}
use Rattle.jfs_disk.specs.Image.{Image, ArePages, page_of}
use Rattle.jfs_disk.specs.Crash.{DiskState, IsCrashImage, AllSince, Leaves, TearsPage, last_of, seen_of}
use Rattle.jfs_disk.specs.Moment.{now_of}
use Rattle.jfs_disk.proofs.Flow.{length-seen_of}
use Rattle.jfs_super.specs.Super.{super_of}
use Rattle.jfs_mounted.specs.mount_disk.proofs.Left.{at_end}
use Rattle.jfs_volume_calls.specs.halves.specs.Parts.{Parts}
use Rattle.jfs_volume_calls.specs.halves.specs.Log.{LogParts}
use Rattle.jfs_unmount.specs.Unmount.{MayBeMarked}
use Rattle.jfs_unmount.proofs.Ended.{torn_left}

-- the low part before, and what is known of it
pub record IsPart (p : Parts) (count : ℕ) : Type 0 where
  pub pages : ArePages count p.disk
  pub there : 8 < count
  pub within : p.blocks ≤ count
  pub own : IsCrashImage (last_of p.past) p.disk
  pub shows : (b : ℕ) → b < p.blocks → page_of p.disk b ≡ page_of p.view b

-- and after that write
pub record IsWritten (superblock : List ℕ) (p : Parts) (count : ℕ) (image : Image) (past : List DiskState) : Type 0 where
  pub size : length superblock ≡ 4096
  pub pages : ArePages count image
  pub seen : image ≡ seen_of (last_of past)
  pub some : 0 < length past
  pub later : now_of p.past ≤ now_of past
  pub all : AllSince (TearsPage 8 superblock p.disk) past (now_of p.past)

module _ (superblock : List ℕ) (p : Parts) (log : LogParts) (count : ℕ) (image : Image) (past : List DiskState) (part : IsPart p count) (written : IsWritten superblock p count image past) where
  number : length (last_of past) ≡ count
  number = sym (length-seen_of (last_of past)) ∙ ap (λ (im : Image). length im) (sym written.seen) ∙ written.pages.number

  pub left_marked : (state : DiskState) → state ≡ last_of past ++ last_of log.past → Leaves (MayBeMarked superblock p log) state
  left_marked state is left crash =
      by (torn_left superblock p.disk p.view p.blocks count (last_of p.past) part.pages part.there part.within written.size part.own part.shows (last_of log.past) (last_of past) number
      (at_end (TearsPage 8 superblock p.disk) past (now_of p.past) written.some written.later written.all) left (subst (λ (st : DiskState). IsCrashImage st left) is crash))
    where
      by : IsCrashImage (last_of p.past ++ last_of log.past) left ⊎ ((super_of (page_of left 8) ≡ super_of superblock) × ((b : ℕ) → (b ≡ 8 → ⊥) → b < p.blocks → page_of left b ≡ page_of p.view b)) → MayBeMarked superblock p log left
      by (inl was) = inl was
      by (inr (is, pages)) = inr (record { superblock_is = is; pages_are = pages; disk_are = λ b other below. pages b other below ∙ sym (part.shows b below) })
