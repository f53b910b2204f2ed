-- The files of the maps stay those of the maps, whatever changes of these.
use Rattle.std.proofs.Common.{◌≡◌, ◌&&◌, ℕ, Bool, true, false, nat_le, if◌then◌else◌, List, set, Option, Some, None, refl, ap, ◌∙◌}
use Rattle.jfs_bits.specs.declared.descriptor.Pxd.{Pxd}
use Rattle.jfs_bmap.specs.MapFile.{pages_of}
use Rattle.jfs_imap.specs.Inodes.{Inodes, is_used}
use Rattle.jfs_map_files.specs.Files.{AreFilesOf}
use Rattle.jfs_map_files.specs.declared.map_file.MapFiles.{MapFiles}
use Rattle.jfs_marks.specs.declared.marks.InodeMarks.{InodeMarks}
use Rattle.jfs_marks.specs.Marks.{IsExtended, with_taken_if, with_freed_if, AreMarked}
use Rattle.jfs_volume.specs.Stale.{stale_after}

extended_iags : (m n : Inodes) (extent : Option Pxd) → IsExtended m extent n → n.iags ≡ m.iags
extended_iags m n None is = ap (λ (x : Inodes). x.iags) is
extended_iags m n (Some at) w = ap (λ (x : Inodes). x.iags) w.2

taken_iags : (m : Inodes) (taken : Option ℕ) → (with_taken_if taken m).iags ≡ m.iags
taken_iags m None = refl
taken_iags m (Some n) = refl

freed_iags : (m : Inodes) (freed : Option ℕ) → (with_freed_if freed m).iags ≡ m.iags
freed_iags m None = refl
freed_iags m (Some n) = at (nat_le 4 n && is_used m n)
  where
    at : (b : Bool) → (if b then record m { taken = set m.taken n false } else m).iags ≡ m.iags
    at true = refl
    at false = refl

pub marked_iags : (m : Inodes) (marks : InodeMarks) (n : Inodes) → AreMarked m marks n → n.iags ≡ m.iags
marked_iags m marks n w = ap (λ (x : Inodes). x.iags) w.is ∙ freed_iags (with_taken_if marks.taken w.mid) marks.freed ∙ taken_iags w.mid marks.taken ∙ extended_iags m w.mid marks.extent w.extended

pub files_kept : (blocks later states size iags groups : ℕ) (files : MapFiles) → later ≡ blocks → size ≡ states → groups ≡ iags → AreFilesOf blocks (pages_of states) iags files → AreFilesOf later (pages_of size) groups files
files_kept blocks later states size iags groups files a b c are = rw (a, b, c) are

pub files_marked : (blocks later states size iags groups : ℕ) (taken freed : List Pxd) (marks : InodeMarks) (files : MapFiles) → later ≡ blocks → size ≡ states → groups ≡ iags → AreFilesOf blocks (pages_of states) iags files →
    AreFilesOf later (pages_of size) groups (stale_after taken freed marks files)
files_marked blocks later states size iags groups taken freed marks files a b c are = rw (a, b, c) (record {
  map_within = are.map_within;
  inodes_within = are.inodes_within;
  map_pages = are.map_pages;
  inode_pages = are.inode_pages;
})
