-- The parts of redo together.
use Rattle.std.proofs.Common.{◌≡◌, ◌≤◌, ◌+◌, ◌-◌, ◌/◌, ℕ, inl, inr, List, length, map, refl, sym, ap, ◌∙◌, subst, arith}
use Rattle.std.specs.Prelude.{Option, Some}
use Rattle.jfs_bits.specs.declared.extent.Xad.{Xad}
use Rattle.jfs_disk.specs.Image.{Image, page_of}
use Rattle.jfs_ranges.specs.declared.edit.Edit.{Edit}
use Rattle.jfs_records.specs.Redo.{all_of}
use Rattle.jfs_bits.specs.Piece.{puts}
use Rattle.jfs_super.specs.Super.{super_of, pieces}
use Rattle.jfs_super.specs.Rules.{blocks_of}
use Rattle.jfs_super.specs.declared.fields.Super.{Super}
use Rattle.jfs_super.specs.declared.fields.TheConstants.VolumeState.{CLEAN}
use Rattle.jfs_bmap.specs.Set.{taken_at}
use Rattle.jfs_bmap.specs.MapFile.{IsMapPage, is_in_use}
use Rattle.jfs_bmap.proofs.Views.{taken_at-past}
use Rattle.jfs_imap.specs.Inodes.{Inodes, inodes_of, IsInodePage}
use Rattle.jfs_redo_steps.specs.objects.specs.Contents.{block_of}
use Rattle.jfs_redo_steps.specs.objects.specs.Image.{file_extents}
use Rattle.jfs_redo_steps.specs.steps.specs.After.{extents_after}
use Rattle.jfs_mount_maps.specs.mount_rules.specs.Subject.{Subject, subject_of, volume}
use Rattle.jfs_mount_maps.specs.mount_rules.specs.Mount.{iags}
use Rattle.jfs_mount_maps.specs.sets.specs.Sets.{extent_from}
use Rattle.jfs_redo_steps.specs.Inodes.{AreInodesInUse}
use Rattle.jfs_redo.specs.Put.{InBytes, place_if}
use Rattle.jfs_redo.specs.Plan.{IsPlan, IsPlanOf}
use Rattle.jfs_redo.specs.Redo.{IsRedone, IsRestored}
use Rattle.jfs_redo.specs.declared.plan.Plan.{Plan}

module _ (s : Super) (txs : List (List Edit)) (plan : Plan) (old mid new : Image) (is : IsPlan (blocks_of s) s.agsize plan) (of : IsPlanOf (subject_of s (page_of old)) txs plan) (restored : IsRestored (blocks_of s) s.agsize txs plan old mid)
    (rest : (p : ℕ) → (p ≡ 8 → ⊥) → page_of new p ≡ page_of mid p)
    (fields : page_of new 8 ≡ puts (pieces (record s { state = CLEAN })) (page_of mid 8)) (clean : super_of (page_of new 8) ≡ record s { state = CLEAN }) where
  abbrev sub : Subject
  sub = subject_of s (page_of old)

  abbrev blocks : ℕ
  blocks = blocks_of s

  number : length plan.blocks.owned ≡ blocks
  number = is.number

  -- the places as the plan has them
  block_place : (k p : ℕ) → place_if (is_in_use blocks k) (block_of plan.maps.block_map k) ≡ Some p → place_if (is_in_use blocks k) (block_of (file_extents sub.readers sub.page 2) k) ≡ Some p
  block_place k p h = ap (λ (xs : List Xad). place_if (is_in_use blocks k) (block_of xs k)) of.read.block_map ∙ h

  inode_place : (k p : ℕ) → block_of plan.maps.inodes.extents k ≡ Some p → block_of (file_extents sub.readers sub.page 16) k ≡ Some p
  inode_place k p h = ap (λ (xs : List Xad). block_of xs k) of.read.inodes.extents ∙ h

  groups : iags sub ≡ plan.maps.inodes.iags
  groups = of.read.inodes.iags

  -- a page that the inode map isn't put over
  behind_inodes : (p : ℕ) → ((k : ℕ) → k ≤ iags sub → block_of (file_extents sub.readers sub.page 16) k ≡ Some p → ⊥) → page_of mid p ≡ page_of restored.maps.between p
  behind_inodes p out = restored.maps.inode_map.others p (λ k low at. out k (omega (arith, low, groups)) (inode_place k p at))

  inodes_same : inodes_of restored.set (map extent_from plan.places.items) plan.maps.inodes.iags s.agsize ((blocks + s.agsize - 1) / s.agsize)
      ≡ inodes_of restored.set (map extent_from (extents_after (all_of txs) (volume sub).extents)) (iags sub) s.agsize ((blocks + s.agsize - 1) / s.agsize)
  inodes_same = rw (of.places, groups) refl

  pub whole : IsRedone s txs old new
  whole = record {
    redone = restored.redone;
    pages = restored.pages;
    taken = taken_at plan.blocks.owned;
    taken_are = λ b low. of.used b (omega (arith, low, number));
    taken_past = λ b high. taken_at-past plan.blocks.owned b (omega (arith, high, number));
    set = restored.set;
    in_use = subst (λ (xs : List (Option ℕ)). AreInodesInUse (page_of restored.redone) xs restored.set) of.places restored.in_use;
    mapped = mid;
    others = λ p out. behind_inodes p (λ k low at. out (inr (k, low, at))) ∙ restored.maps.block_map.others p (λ k low at. out (inl (k, low, block_place k p at)));
    block_map = λ k p at.
        subst (InBytes (IsMapPage blocks s.agsize (taken_at plan.blocks.owned)) k) (sym (behind_inodes p at.apart))
        (subst (λ (n : ℕ). InBytes (IsMapPage blocks n (taken_at plan.blocks.owned)) k (page_of restored.maps.between p)) is.groups
        (restored.maps.block_map.each k p at.low (ap (λ (xs : List Xad). place_if (is_in_use blocks k) (block_of xs k)) (sym of.read.block_map) ∙ at.is) (λ j low here. at.last j low (block_place j p here))));
    inode_map = λ k p at.
        subst (λ (m : Inodes). InBytes (IsInodePage m) k (page_of mid p)) inodes_same
        (restored.maps.inode_map.each k p (omega (arith, at.low, groups)) (ap (λ (xs : List Xad). block_of xs k) (sym of.read.inodes.extents) ∙ at.is) (λ j low here. at.last j (omega (arith, low, groups)) (inode_place j p here)));
    rest = rest;
    fields = fields;
    superblock = clean;
  }
