use Rattle.std.proofs.Common.{◌≡◌, ◌*◌, ◌∙◌, ℕ, List, length, replicate, ap, arith, inl, inr}
use Rattle.std.proofs.lemmas.Bool.{cases_eq}
use Rattle.std.proofs.lemmas.List.{length-replicate}
use Rattle.jfs_bits.specs.Piece.{puts}
use Rattle.jfs_bits.proofs.Parts.{range_of-replicate}
use Rattle.jfs_inode.specs.Inode.{inode_at, pieces}
use Rattle.jfs_format.specs.Inodes.{IsInodeOf}
use Rattle.jfs_format.proofs.tables.fill_table.Goals as goal

pub loop-slot-init : goal.loop-slot-init
loop-slot-init c = record {
  size = ap (λ (z : List ℕ). length z) c.zeros.ensures ∙ length-replicate {A = ℕ} 4096 0;
  done = λ s h. absurd (omega arith);
  rest = λ s h within. ap (λ (z : List ℕ). inode_at z s) c.zeros.ensures ∙ range_of-replicate 4096 (512 * s) 512 0 (omega arith);
}

pub loop-slot-preserved : goal.loop-slot-preserved
loop-slot-preserved c =
    let inv = c.loop-slot.invariant in
    let slot = c.loop-slot.slot in
    let old = c.loop-slot.page.0 in
    let new = c.write_dinode.new.page.0 in
    let d = c.inode.result in
    let whole : inode_at new slot ≡ puts (pieces d) (replicate 512 0) = c.write_dinode.ensures.held ∙ ap (λ (z : List ℕ). puts (pieces d) z) (inv.rest slot (omega arith) (omega arith)) in
    let here : IsInodeOf d (inode_at new slot) = record { reads = c.write_dinode.ensures.read_back; whole = whole } in
    record {
      size = c.write_dinode.ensures.size;
      done = λ s h. elim (cases_eq s slot) [
        | inl same ↦ rw (same, ← c.inode.ensures.value) here
        | inr other ↦ rw (c.write_dinode.ensures.others s (omega arith) other) (inv.done s (omega (arith, other)))
      ];
      rest = λ s h within. c.write_dinode.ensures.others s within (λ e. omega (arith, e, h)) ∙ inv.rest s (omega arith) within;
    }

pub returns : goal.returns
returns c = let inv = c.loop-slot.invariant in record { size = inv.size; slots = λ s h. inv.done s (omega arith) }
