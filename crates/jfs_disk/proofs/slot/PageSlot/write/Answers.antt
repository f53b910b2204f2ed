use Rattle.std.proofs.Common.{List, length, ap, ◌∙◌, ℕ}
use Rattle.jfs_disk.proofs.Slots.{AreSized-push}
use Rattle.jfs_disk.proofs.slot.PageSlot.write.Goals as goal

pub invariant_of-self-2-clause-sizes : goal.invariant_of-self-2-clause-sizes
invariant_of-self-2-clause-sizes c =
    AreSized-push c.args.self.now.stable c.args.self.now.writes.items c.push.new.self.items c.in_ok-page.page c.args.self.now.sizes
    c.in_ok-push.ensures.items
    (ap (λ (bytes : List ℕ). length bytes) c.in_ok-page.ensures.bytes ∙ c.in_ok-page.ensures.size)
