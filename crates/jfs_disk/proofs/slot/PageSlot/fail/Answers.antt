use Rattle.std.proofs.Common.{List, [], ◌∷◌, ◌++◌, length, ap, ◌∙◌, ℕ, Box}
use Rattle.std.specs.Global.{Global}
use Rattle.jfs_disk.specs.declared.page.Page.{Page}
use Rattle.jfs_disk.proofs.Slots.{AreSized-push}
use Rattle.jfs_disk.proofs.slot.PageSlot.fail.Goals as goal

pub invariant_of-self-2-clause-sizes : goal.invariant_of-self-2-clause-sizes
invariant_of-self-2-clause-sizes c =
    AreSized-push c.args.self.now.stable c.push.new.self.items c.push-2.new.self.items c.in_ok-page.page
    (AreSized-push c.args.self.now.stable c.args.self.now.writes.items c.push.new.self.items c.in_ok-left.left c.args.self.now.sizes
    (c.in_ok-push.ensures.items ∙ ap (λ (pages : List (Box Page Global)). pages ++ c.in_ok-left.left ∷ []) c.in_ok-reserve.ensures.items)
    (ap (λ (bytes : List ℕ). length bytes) c.in_ok-left.ensures.bytes ∙ c.in_ok-left.ensures.size))
    c.in_ok-push-2.ensures.items
    (ap (λ (bytes : List ℕ). length bytes) c.in_ok-page.ensures.bytes ∙ c.in_ok-page.ensures.size)
