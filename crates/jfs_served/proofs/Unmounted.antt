-- Pages that are all home are a clean and consistent image of what the volume held.
use Rattle.std.proofs.Common.{◌≡◌, ◌≢◌, ◌<◌, refl, sym, ap, ◌∙◌, subst, ℕ, nat_lt, arith}
use Rattle.std.proofs.lemmas.Bool.{and_parts, ltb-true}
use Rattle.jfs_disk.specs.Image.{Image, page_of}
use Rattle.jfs_super.specs.Rules.{blocks_of}
use Rattle.jfs_super.specs.Super.{super_of}
use Rattle.jfs_super.specs.declared.fields.Super.{Super}
use Rattle.jfs_super.specs.declared.fields.TheConstants.VolumeState.{CLEAN}
use Rattle.jfs_shown.specs.Files.{KnowsFiles}
use Rattle.jfs_shown.specs.bmap.specs.States.{is_owned}
use Rattle.jfs_shown.specs.objects.specs.Readers.{Readers}
use Rattle.jfs_shown.specs.objects.specs.Volume.{Volume}
use Rattle.jfs_shown.specs.meaning.specs.Consistent.{IsConsistent}
use Rattle.jfs_shown.specs.meaning.specs.Image.{tree_of}
use Rattle.jfs_shown.specs.meaning.specs.Readers.{readers}
use Rattle.jfs_shown.specs.meaning.specs.Room.{room_on}
use Rattle.jfs_shown.specs.meaning.specs.Tree.{tree_on}
use Rattle.jfs_shown.specs.way.specs.Volume.{volume_of}
use Rattle.jfs_shown.proofs.Files.{written_law}
use Rattle.jfs_alike.specs.Alike.{AreAlike}
use Rattle.jfs_alike.proofs.Alike.{alike_law}
use Rattle.jfs_unmount.specs.Laws.{IsSettled, KeepsTree}
use Rattle.jfs_unmount.specs.Unmount.{IsAllHome}
use Rattle.jfs_unmount.specs.mounted.proofs.Marked.{area_there}
use Rattle.jfs_unmount.proofs.Settled.{settled_law}
use Rattle.jfs_call.specs.halves.specs.Parts.{Parts}
use Rattle.jfs_call.specs.plain.specs.Moves.{Same}
use Rattle.jfs_served.specs.Holds.{blocks_at, volume_at, HoldsTree}
use Rattle.jfs_served.specs.Laws.{IsImageOf, UnmountedLaw}
use Rattle.jfs_served.proofs.Files.{consistent_in}
use Rattle.jfs_served.proofs.Room.{same_room}

module _ (s : Super) (area : ℕ → ℕ) (p : Parts) (image : Image) (h : HoldsTree area s.logpxd.len p) (knows : KnowsFiles s (page_of p.view) area p.map p.inodes p.files) (home : IsAllHome p)
    (is : super_of (page_of image 8) ≡ record s { state = CLEAN }) (pages : (b : ℕ) → b ≢ 8 → b < p.blocks → page_of image b ≡ page_of p.view b) where
  abbrev r : Readers
  r = readers (blocks_of s)

  consistent : IsConsistent r (volume_at area p)
  consistent = consistent_in s area s.logpxd.len p h knows

  size : blocks_at p ≡ blocks_of s
  size = knows.sizes.blocks_are

  settled : IsSettled s (page_of p.view) area p.map p.inodes
  settled = record {
    consistent = consistent;
    sizes = knows.sizes;
    areas = knows.areas;
    files = knows.whole;
    shows = written_law s (page_of p.view) area p.map p.inodes p.files knows home.block_map home.inode_map;
  }

  kept : KeepsTree s (page_of p.view) (page_of image) area p.map p.inodes
  kept = settled_law s (page_of p.view) (page_of image) area p.map p.inodes settled (λ b other below. pages b other (let w = h.within in omega (arith, below, w, size)))

  -- the same maps on the pages of the disk
  abbrev after : Volume
  after = volume_of (page_of image) area p.map p.inodes

  alike : AreAlike (volume_at area p) after
  alike = record {
    extents = refl;
    area = λ b. refl;
    used = λ b. refl;
    in_use = λ n. refl;
    pages = λ b used zero. pages b
        (λ e. (let a = knows.areas 8 in let first = area_there r s.ait2 s.aim2 (page_of p.view) in let none = ap area (sym e) in absurd (omega (arith, a, first, none, zero))))
        (let l = ltb-true b (blocks_at p) (and_parts (nat_lt b (blocks_at p)) (is_owned p.map b) used).0 in let w = h.within in omega (arith, l, w));
  }

  pub unmounted : IsImageOf s area p (page_of image)
  unmounted = record {
    superblock = is;
    consistent = kept.consistent;
    tree = subst (λ (k : ℕ). Same (tree_on (readers k) (volume_at area p)) (tree_of s (page_of image))) (sym size) kept.tree;
    room = sym kept.room ∙ same_room (blocks_of s) (volume_at area p) after consistent.sound alike (alike_law r (volume_at area p) after consistent alike) s.logpxd.len
        ∙ ap (λ (k : ℕ). room_on (readers k) (volume_at area p) k s.logpxd.len) (sym size);
  }

pub unmounted_law : UnmountedLaw
unmounted_law = unmounted
