-- The entries of a run, as a legal history of a plain file tree.
use Rattle.std.proofs.Common.{◌≡◌, ◌∙◌, ℕ, List, None, inr}
use Rattle.jfs_bits.specs.declared.descriptor.Moment.{Moment}
use Rattle.jfs_disk.specs.Image.{Image, page_of}
use Rattle.jfs_super.specs.Super.{super_of}
use Rattle.jfs_super.specs.Rules.{blocks_of}
use Rattle.jfs_super.specs.declared.fields.Super.{Super}
use Rattle.jfs_super.specs.declared.fields.TheConstants.VolumeState.{CLEAN}
use Rattle.jfs_plain.specs.declared.call.Entry.{Entry}
use Rattle.jfs_mount.specs.meaning.specs.Image.{volume_of}
use Rattle.jfs_mount.specs.meaning.specs.Readers.{readers}
use Rattle.jfs_server.specs.shared.specs.legal.proofs.Replying.{Laws}
use Rattle.jfs_server.specs.shared.specs.legal.specs.served.specs.halves.specs.Parts.{Parts}
use Rattle.jfs_server.specs.shared.specs.legal.specs.served.specs.Holds.{KeepsTree}
use Rattle.jfs_server.specs.shared.specs.legal.specs.served.specs.Laws.{IsImageOf}
use Rattle.jfs_server.specs.shared.specs.legal.specs.served.specs.shown.specs.Files.{KnowsFiles}
use Rattle.jfs_server.specs.shared.specs.legal.specs.served.proofs.Files.{consistent_in}
use Rattle.jfs_server.specs.shared.specs.kept_history.specs.Unmounted.{LeavesKeepable}
use Rattle.jfs_server.specs.shared.specs.kept_history.specs.mounted_maps.specs.Keepable.{IsKeepable}
use Rattle.jfs_server.specs.shared.specs.legal.specs.served.specs.shown.specs.kinds.specs.Images.{HasWholeFiles}
use Rattle.jfs_server.specs.shared.specs.legal.specs.served.specs.unmount.specs.Unmount.{IsAllHome, IsMarkedLeft}
use Rattle.jfs_run.specs.Legal.{all_at, IsLegalRun, FollowsTree, EndsOnTree, HasReplied}

-- ---- of a volume that holds the image's tree

module _ (s : Super) (page : ℕ → List ℕ) (now : Moment) (es : List Entry) (p : Parts) (r : HasReplied s page now es p) where
  abbrev area : ℕ → ℕ
  area = (volume_of s page).area

  follows : FollowsTree s page now es
  follows = record { start = r.start; runs = r.runs; tree = r.holds.tree; room = r.holds.room; legal = (r.over.last, r.over.legal) }

  pub legal_run : IsLegalRun s page now es
  legal_run = inr follows

  -- ---- an image with a clean superblock and all pages of the volume, which are home, while it runs

  module _ (laws : Laws) (superblock : List ℕ) (image : Image) (whole_files : HasWholeFiles (readers (blocks_of s)) page) (is : super_of superblock ≡ record s { state = CLEAN }) (home : IsAllHome p) (runs : p.halted ≡ None) (marked : IsMarkedLeft superblock p image) where
    -- the last entry's tree is the volume's
    kept : KeepsTree area s.logpxd.len r.over.last p
    kept = r.over.keeps runs

    knows : KnowsFiles s (page_of p.view) area p.map p.inodes p.files
    knows = kept.files s (laws.history.files area s.logpxd.len r.start r.over.last (all_at now es) r.over.legal s (r.holds.knows whole_files))

    last_image : IsImageOf s area r.over.last (page_of image)
    last_image =
        let of_p = laws.unmounted s area p image r.over.holds knows home (marked.superblock_is ∙ is) marked.pages_are in
        record {
          superblock = of_p.superblock;
          consistent = of_p.consistent;
          tree = record { nodes = λ n. of_p.tree.nodes n ∙ kept.tree.nodes n; bytes = λ n i. of_p.tree.bytes n i ∙ kept.tree.bytes n i };
          room = of_p.room ∙ kept.room;
        }

    pub ends_on : EndsOnTree s page now es image
    unfolding follows
    ends_on = record { follows = follows; ends = record { last = r.over.last; legal = r.over.legal; image_is = last_image } }

    -- and it is keepable again
    pub keepable_on : LeavesKeepable s page p → IsKeepable s (page_of image)
    keepable_on again = again (page_of image) (record { files = knows; consistent = consistent_in s area s.logpxd.len p r.over.holds knows; home = home }) (record { pages = marked.pages_are; disk = marked.disk_are }) last_image.consistent
