-- Pages of a disk whose volume was unmounted, and what a crash leaves of it.
use Rattle.std.proofs.Common.{◌≡◌, ◌≢◌, ◌⊎◌, ◌≤◌, ◌<◌, ◌-◌, ◌∙◌, refl, ap, sym, subst, ℕ, zero, suc, List, [], ◌++◌, length, set, take, drop, inl, inr, arith}
use Rattle.std.proofs.lemmas.Bool.{cases_lt}
use Rattle.std.proofs.lemmas.List.{length-set, length-append, get_or_append_left, get_or-append_right, get_or-set_same, get_or-set_other, set-get_or, take-append-drop}
use Rattle.jfs_disk.specs.Image.{Image, ArePages, page_of}
use Rattle.jfs_disk.specs.Crash.{DiskState, IsCrashImage, IsCrashPage, no_page, history_of, Leaves, TearsPage, torn}
use Rattle.jfs_disk.proofs.Tearing.{torn-none}
use Rattle.jfs_super.specs.Super.{super_of}
use Rattle.jfs_mounted.specs.mount_disk.proofs.Left.{crash_low, crash_high}
use Rattle.jfs_unmount.specs.Unmount.{with_super}
use Rattle.jfs_unmount.proofs.Front.{torn_super}

module _ (superblock : List ℕ) (low log image : Image) (count : ℕ) (pages : ArePages count low) (is : image ≡ with_super superblock low ++ log) where
  long : length (set low 8 superblock) ≡ count
  long = length-set low 8 superblock ∙ pages.number

  -- the superblock's page
  pub super_page : 8 < count → page_of image 8 ≡ superblock
  super_page there =
      ap (λ (im : Image). page_of im 8) is ∙ get_or_append_left (set low 8 superblock) log [] 8 (omega (arith, there, long))
      ∙ get_or-set_same low 8 superblock [] (omega (arith, there, pages.number))

  -- and each other page before the log
  pub low_page : (b : ℕ) → b ≢ 8 → b < count → page_of image b ≡ page_of low b
  low_page b other there =
      ap (λ (im : Image). page_of im b) is ∙ get_or_append_left (set low 8 superblock) log [] b (omega (arith, there, long))
      ∙ get_or-set_other low 8 b superblock [] other

-- ---- a crash image of both parts

module _ (low high : DiskState) (first second : Image) (left : IsCrashImage low first) (right : IsCrashImage high second) where
  long_first : length first ≡ length low
  long_first = left.number

  at_both : (n : ℕ) → n < length (low ++ high) → (n < length low) ⊎ (length low ≤ n) → IsCrashPage (history_of (low ++ high) n) (page_of (first ++ second) n)
  at_both n there (inl here) =
      rw (get_or_append_left low high no_page n here, get_or_append_left first second [] n (omega (arith, here, long_first))) (left.each n here)
  at_both n there (inr past) =
      rw (get_or-append_right low high (length low) n no_page refl past, get_or-append_right first second (length low) n [] long_first past) (right.each (n - length low) (omega (arith, there, past, length-append low high)))

  pub crash_both : IsCrashImage (low ++ high) (first ++ second)
  crash_both = record {
    number = length-append first second ∙ (omega (arith, left.number, right.number, length-append low high));
    each = λ n there. at_both n there (cases_lt n (length low));
  }

-- ---- what it leaves behind a write of the superblock's page

module _ (superblock : List ℕ) (disk view : Image) (blocks count : ℕ) (before : DiskState) (pages : ArePages count disk) (there : 8 < count) (within : blocks ≤ count) (size : length superblock ≡ 4096) (own : IsCrashImage before disk)
    (shows : (b : ℕ) → b < blocks → page_of disk b ≡ page_of view b) (log : DiskState) where
  -- no sector of it was written, or one at least
  by_sectors : (sectors : ℕ) → sectors ≤ 8 → (low rest : Image) → low ≡ set disk 8 (torn sectors superblock (page_of disk 8)) → IsCrashImage log rest → (left : Image) → left ≡ low ++ rest
      → IsCrashImage (before ++ log) left ⊎ ((super_of (page_of left 8) ≡ super_of superblock) × ((b : ℕ) → b ≢ 8 → b < blocks → page_of left b ≡ page_of view b))
  by_sectors zero few low rest is crash left both = inl (subst (λ (im : Image). IsCrashImage (before ++ log) im) (sym (both ∙ ap (λ (im : Image). im ++ rest) same)) (crash_both before log disk rest own crash))
    where
      same : low ≡ disk
      same = is ∙ ap (λ (page : List ℕ). set disk 8 page) (torn-none superblock (page_of disk 8)) ∙ set-get_or disk 8 []
  by_sectors (suc k) few low rest is crash left both = inr (marked, others)
    where
      left_is : left ≡ with_super (torn (suc k) superblock (page_of disk 8)) disk ++ rest
      left_is = both ∙ ap (λ (im : Image). im ++ rest) is

      marked : super_of (page_of left 8) ≡ super_of superblock
      marked = ap super_of (super_page (torn (suc k) superblock (page_of disk 8)) disk rest left count pages left_is there) ∙ torn_super (suc k) superblock (page_of disk 8) (omega arith) few size

      others : (b : ℕ) → b ≢ 8 → b < blocks → page_of left b ≡ page_of view b
      others b other below = low_page (torn (suc k) superblock (page_of disk 8)) disk rest left count pages left_is b other (omega (arith, below, within)) ∙ shows b below

  -- a disk whose low part a crash leaves with that page torn
  pub torn_left : (now : DiskState) → length now ≡ count → Leaves (TearsPage 8 superblock disk) now → (left : Image) → IsCrashImage (now ++ log) left
      → IsCrashImage (before ++ log) left ⊎ ((super_of (page_of left 8) ≡ super_of superblock) × ((b : ℕ) → b ≢ 8 → b < blocks → page_of left b ≡ page_of view b))
  torn_left now long leaves left crash =
      let tears = leaves (take count left) (crash_low now log left crash count long) in
      by_sectors tears.0 tears.1 (take count left) (drop count left) tears.2 (crash_high now log left crash count long) left (sym (take-append-drop count left))
