use Rattle.std.proofs.Common.{◌≡◌, ◌∙◌, ap, ℕ, arith, add-one}
use Rattle.jfs_marks.specs.Changes.{slots_changes}
use Rattle.jfs_marks.proofs.changes.slots_changes.Goals as goal

pub loop-slot-preserved : goal.loop-slot-preserved
loop-slot-preserved c = rw add-one (cc)

pub returns : goal.returns
returns c = let e : c.loop-slot.slot ≡ 8 = omega arith in c.loop-slot.invariant
    ∙ ap (λ (k : ℕ). slots_changes c.args.change.inodes.now c.args.change.founded c.args.p c.args.before.now.0 c.args.after.now.0 k c.args.changes) e
