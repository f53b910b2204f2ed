-- The findings of the owners of blocks and of both maps.
use Rattle.std.proofs.Common.{◌≡◌, refl, sym, ap, ◌∙◌, subst, ℕ, List, arith}
use Rattle.jfs_bits.specs.Bits.{is_taken}
use Rattle.jfs_disk.specs.Image.{Image, page_of}
use Rattle.jfs_super.specs.Rules.{blocks_of}
use Rattle.jfs_super.specs.declared.fields.Super.{Super}
use Rattle.jfs_link_check.specs.objects.specs.Owners.{owners}
use Rattle.jfs_findings.specs.mount_rules.specs.Subject.{Subject, subject_of, volume}
use Rattle.jfs_findings.specs.mount_rules.specs.Steps.{AreRead}
use Rattle.jfs_findings.specs.mount_rules.specs.declared.maps.Maps.{Maps}
use Rattle.jfs_findings.specs.Gains.{Gains}
use Rattle.jfs_findings.specs.declared.finding.Finding.{Finding}
use Rattle.jfs_link_check.specs.object_check.proofs.Found.{gains_both}
use Rattle.jfs_link_check.specs.owners.specs.Counts.{OwnerSets, Counts}
use Rattle.jfs_link_check.specs.owners.specs.Shared.{SaysShared}
use Rattle.jfs_map_check.specs.Found.{KnowsOwners, IsOfBlockMap}
use Rattle.jfs_map_check.specs.Inodes.{KnowsInodes, IsOfInodeMap}
use Rattle.jfs_check.specs.Looked.{AreInUse, IsOfMaps}

module _ (s : Super) (blocks now : ℕ) (image after : Image) (size : blocks_of s ≡ blocks) (same : now ≡ blocks) (whole : after ≡ image) (maps : Maps) (is : AreRead (subject_of s (page_of image)) maps) where
  abbrev sub : Subject
  sub = subject_of s (page_of image)

  owned_known : (o : OwnerSets) (set : List ℕ) → o.blocks ≡ blocks → set ≡ o.owned → Counts o (owners sub.readers (volume sub)) → KnowsOwners sub blocks s.agsize set maps.block_map
  owned_known o set e at c = record {
    count = size;
    groups = refl;
    owned = λ b l. ap (λ (xs : List ℕ). is_taken xs b) at ∙ c.owned b (omega (arith, l, e, size));
    extents = is.block_map;
  }

  in_use_known : (set : List ℕ) → AreInUse sub set → KnowsInodes sub now maps.inodes.iags set maps.inodes.extents
  in_use_known set used = record { count = size ∙ sym same; groups = is.inodes.iags; used = used; extents = is.inodes.extents }

  pub maps_found : (o : OwnerSets) (set used : List ℕ) (old one two new : List Finding) → o.blocks ≡ blocks → set ≡ o.owned → Counts o (owners sub.readers (volume sub)) → AreInUse sub used
      → Gains (SaysShared sub) old one
      → (KnowsOwners sub blocks s.agsize set maps.block_map → Gains (IsOfBlockMap sub) one two)
      → (KnowsInodes (subject_of s (page_of after)) now maps.inodes.iags used maps.inodes.extents → Gains (IsOfInodeMap (subject_of s (page_of after))) two new)
      → Gains (IsOfMaps sub) old new
  maps_found o set used old one two new e at c u shared blocks inodes =
      gains_both shared (gains_both (blocks (owned_known o set e at c))
      (subst (λ (i : Image). (KnowsInodes (subject_of s (page_of i)) now maps.inodes.iags used maps.inodes.extents → Gains (IsOfInodeMap (subject_of s (page_of i))) two new)) whole inodes (in_use_known used u)))
