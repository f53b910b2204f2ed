-- A write that is made with blocks that are reserved for it.
use Rattle.std.proofs.Common.{◌≡◌, ◌≤◌, ◌⊎◌, inr, subst, ℕ, ◌+◌, ◌/◌, max, Bool, true, false, if◌then◌else◌, List, [], ◌∷◌, ◌++◌, length, Option, Some, None, arith}
use Rattle.jfs_bits.specs.declared.descriptor.Moment.{Moment}
use Rattle.jfs_bits.specs.declared.descriptor.Pxd.{Pxd}
use Rattle.jfs_bits.specs.declared.extent.Xad.{Xad}
use Rattle.jfs_bmap.specs.States.{Blocks, free_count}
use Rattle.jfs_tree.specs.Fresh.{blocks_of}
use Rattle.jfs_plain.specs.declared.refusal.Refusal.{Refusal}
use Rattle.jfs_link.specs.meaning.specs.Readers.{root_of}
use Rattle.jfs_file_blocks.specs.claim.specs.Take.{AreFresh, reserving}
use Rattle.jfs_file_blocks.specs.Reserving.{TakesBlocks, IsPartlyTaken, total}
use Rattle.jfs_file_blocks.specs.declared.reserve.FileWant.{FileWant}
use Rattle.jfs_file_blocks.specs.declared.reserve.FileBlocks.{FileBlocks}
use Rattle.jfs_read.specs.way.specs.Answer.{is_open}
use Rattle.jfs_read.specs.way.specs.declared.object.Held.{Held}
use Rattle.jfs_write_pages.specs.Spots.{holes_in, placed, extents_for}
use Rattle.jfs_write_pages.specs.declared.spot.Spot.{Spot}
use Rattle.jfs_write.specs.Look.{needs_extents, want_for}
use Rattle.jfs_write.specs.Tree.{RefusesExtents}
use Rattle.jfs_write.specs.Make.{Makes}
use Rattle.jfs_write.specs.Call.{MayTake, MakesReserved, LacksPlace}
use Rattle.jfs_write.specs.declared.make.Written.{Written}
use Rattle.jfs_write.proofs.Moves.{tree_took, edits_move, front_is}
use Rattle.jfs_write.proofs.Reserving.{may_take, partly, all_reserved}

-- ---- how many blocks are wanted

few_holes : (ss : List (Option Spot)) → holes_in ss ≤ length ss
few_holes [] = omega arith
few_holes (None ∷ ss) = let h = few_holes ss in omega (arith, h)
few_holes (Some s ∷ ss) = let h = few_holes ss in omega (arith, h)

pub few_wanted : (es : List Xad) (ss : List (Option Spot)) → length ss ≤ 17 → total (want_for es ss) ≤ 32
few_wanted es ss l = let h = few_holes ss in let p = by (needs_extents ss) in omega (arith, h, l, p)
  where
    by : (b : Bool) → (if b then 15 else 0) ≤ 15
    by true = omega arith
    by false = omega arith

module _ (before now : Blocks) (want : FileWant) (blocks : FileBlocks) (takes : TakesBlocks before now want blocks) (fresh : AreFresh before (want.blocks + want.pages) (blocks_of (blocks.runs ++ blocks.claim.fresh)))
    (es : List Xad) (spots : List (Option Spot)) (is : want ≡ want_for es spots) where
  may : MayTake before (want_for es spots) blocks.runs blocks.claim.fresh
  may = subst (λ (w : FileWant). MayTake before w blocks.runs blocks.claim.fresh) is (may_take before now want blocks takes fresh)

  module _ (number : ℕ) (pages : ℕ → List ℕ) (at : Held) (size offset : ℕ) (bytes : List ℕ) (left : List Pxd) (moment : Moment) (out : Written) (z : Makes number pages at size offset bytes es spots blocks.runs blocks.claim.fresh left moment out) where
    abbrev taken : List ℕ
    taken = tree_took number pages at (max size (offset + length bytes)) (placed (offset / 4096) spots (blocks_of blocks.runs)) blocks.runs blocks.claim.fresh left moment out.tx z.edits

    parts : blocks_of blocks.claim.fresh ≡ taken ++ blocks_of left
    parts = front_is number pages at (max size (offset + length bytes)) (placed (offset / 4096) spots (blocks_of blocks.runs)) blocks.runs blocks.claim.fresh left moment out.tx z.edits

    pub made_reserved : total want ≤ free_count before → (after : Blocks) → ((taken : List ℕ) → IsPartlyTaken before now (record blocks { claim = record blocks.claim { fresh = left } }) taken → after ≡ reserving blocks.runs taken before)
        → MakesReserved number pages at size offset bytes es spots moment before after out
    made_reserved wanted after settled = record {
      runs = blocks.runs;
      free = blocks.claim.fresh;
      left = left;
      may = may;
      makes = z;
      wanted = subst (λ (w : FileWant). total w ≤ free_count before) is wanted;
      reserves = (
        taken ++ blocks_of blocks.runs,
        edits_move number pages at (max size (offset + length bytes)) (placed (offset / 4096) spots (blocks_of blocks.runs)) blocks.runs blocks.claim.fresh left moment out.tx z.edits,
        all_reserved before now want blocks takes fresh left taken parts (settled taken (partly before now want blocks takes fresh left taken parts)),
      );
    }

  pub not_made : (number : ℕ) (pages : ℕ → List ℕ) (at : Held) (offset : ℕ) (why : Refusal) → RefusesExtents number pages at.page (extents_for (placed (offset / 4096) spots (blocks_of blocks.runs))) (root_of at.inode) (blocks_of blocks.claim.fresh) why
      → (is_open why ≡ true) ⊎ LacksPlace number pages at offset es spots before why
  not_made number pages at offset why h = inr (record { runs = blocks.runs; free = blocks.claim.fresh; may = may; refused = h })
