use Rattle.std.proofs.Common.{◌≡◌, ◌+◌, ◌∙◌, ◌&&◌, ℕ, true, refl, sym, arith}
use Rattle.std.proofs.lemmas.Bool.{and_parts}
use Rattle.jfs_bits.specs.Bits.{is_in_run}
use Rattle.jfs_bmap.specs.Set.{taken_at}
use Rattle.jfs_bmap.specs.Freed.{is_due}
use Rattle.jfs_bmap.proofs.Views.{length-cleared, taken_at-cleared}
use Rattle.jfs_bmap.proofs.States.{empty_run, full_run-from}
use Rattle.jfs_bmap.proofs.Disowned.{full_block, full_one}
use Rattle.jfs_bmap.proofs.Settling.{none-freed, all-freed, freed-next, freed-not}
use Rattle.jfs_bmap.proofs.settle.free_blocks.Goals.{Then-are_settled, then-is_settled, else-is_settled}
use Rattle.jfs_bmap.proofs.settle.free_blocks.Goals as goal

-- each block of the run is busy and due
all_due : (c : Then-are_settled) (b : ℕ) → is_in_run c.args.first c.args.n b ≡ true → (taken_at c.args.used.now b ≡ true) × (is_due c.args.held.now c.args.entries.now c.args.told b ≡ true)
all_due c b h = and_parts (taken_at c.args.used.now b) (is_due c.args.held.now c.args.entries.now c.args.told b) (full_block (λ x. taken_at c.args.used.now x && is_due c.args.held.now c.args.entries.now c.args.told x) c.args.first c.args.n b (sym c.are_settled.ensures ∙ c.if-are_settled.true) h)

pub clear-requires-clause-taken : goal.clear-requires-clause-taken
clear-requires-clause-taken c = full_run-from (taken_at c.args.used.now) c.args.first c.args.n (λ b r. (all_due (goal.at.clear-requires-clause-taken c).Then-are_settled b r).0)

pub returns-then-are_settled-clause-blocks : goal.returns-then-are_settled-clause-blocks
returns-then-are_settled-clause-blocks c = rw c.clear.ensures (length-cleared c.args.first c.args.n c.args.used.now)

pub returns-then-are_settled-clause-used : goal.returns-then-are_settled-clause-used
returns-then-are_settled-clause-used c b =
    rw c.clear.ensures (taken_at-cleared c.args.first c.args.n c.args.used.now b c.requires.within ∙ all-freed (is_in_run c.args.first c.args.n b) (taken_at c.args.used.now b) (is_due c.args.held.now c.args.entries.now c.args.told b) (λ r. (all_due (goal.at.returns-then-are_settled-clause-used c).Then-are_settled b r).1))

pub loop-i-init : goal.loop-i-init
loop-i-init c = record {
  blocks = refl;
  freed = λ b. none-freed (is_in_run c.args.first 0 b) (taken_at c.args.used.now b) (is_due c.args.held.now c.args.entries.now c.args.told b) (empty_run c.args.first 0 b refl);
}

pub clear-requires-then-is_settled-clause-taken : goal.clear-requires-then-is_settled-clause-taken
clear-requires-then-is_settled-clause-taken c =
    let b = c.args.first + c.loop-i.i in
    full_one (taken_at c.loop-i.used) b (and_parts (taken_at c.loop-i.used b) (is_due c.args.held.now c.args.entries.now c.args.told b) (sym c.is_settled.ensures ∙ c.if-is_settled.true)).0

pub loop-i-preserved : goal.loop-i-preserved
loop-i-preserved c =
    let b = c.args.first + c.loop-i.i in
    let due = is_due c.args.held.now c.args.entries.now c.args.told in
    let before = c.loop-i.invariant in
    elim c.if-is_settled.branch [
      | then-is_settled w ↦
          rw (w.used-is, w.clear-then-is_settled.ensures) (record {
            blocks = length-cleared b 1 c.loop-i.used ∙ before.blocks;
            freed = freed-next (taken_at c.args.used.now) due c.args.first c.loop-i.i c.loop-i.used before.freed (omega (arith, before.blocks)) (and_parts (taken_at c.loop-i.used b) (due b) (sym c.is_settled.ensures ∙ w.if-is_settled.true)).1;
          })
      | else-is_settled w ↦
          rw w.used-is (record {
            blocks = before.blocks;
            freed = freed-not (taken_at c.args.used.now) due c.args.first c.loop-i.i c.loop-i.used before.freed (sym c.is_settled.ensures ∙ w.if-is_settled.false);
          })
    ]
