use Rattle.std.proofs.Common.{List, length, ap, ◌∙◌, ℕ, sym, refl, arith}
use Rattle.jfs_disk.proofs.Slots.{AreSized-none, content_in-write}
use Rattle.jfs_disk.proofs.slot.PageSlot.settle.Goals as goal

pub invariant_of-self-2-clause-sizes : goal.invariant_of-self-2-clause-sizes
invariant_of-self-2-clause-sizes c =
    AreSized-none c.swap_remove-page.result c.clear-2.new.self.items c.clear-2.ensures.items
    (ap (λ (bytes : List ℕ). length bytes) (sym (content_in-write c.args.self.now.stable c.args.self.now.writes.items c.args.self.now.shown c.swap_remove-page.result
    (omega (arith, c.if-self-eq0.false)) c.args.self.now.there c.swap_remove-page.ensures.value)) ∙ c.args.self.now.sizes c.args.self.now.shown c.args.self.now.there)

pub returns : goal.returns
returns c = rw (
  c.clear-2.ensures.items,
  content_in-write c.args.self.now.stable c.args.self.now.writes.items c.args.self.now.shown c.swap_remove-page.result
      (omega (arith, c.if-self-eq0.false)) c.args.self.now.there c.swap_remove-page.ensures.value,
) refl
