use Rattle.std.proofs.Common.{◌∙◌, ap, sym, ◌++◌, ◌∷◌, []}
use Rattle.std.proofs.lemmas.List.Elements.{All-push, All-same}
use Rattle.jfs_bits.specs.Extent.{FitsXad}
use Rattle.jfs_xtpage.specs.Page.{entries_from}
use Rattle.jfs_refill.proofs.Listed.{next_entry}
use Rattle.jfs_refill.proofs.entries.items.Goals as goal

pub loop-i-preserved : goal.loop-i-preserved
loop-i-preserved c = (
  c.in_ok-push.ensures.items ∙ ap (λ xs. xs ++ c.xt_entry.result ∷ []) c.loop-i.invariant.0 ∙ ap (λ x. entries_from c.args.bytes.now 0 c.loop-i.i ++ x ∷ []) c.xt_entry.ensures.value
      ∙ sym (next_entry c.args.bytes.now c.loop-i.i),
  All-same FitsXad c.push.new.self.items (c.loop-i.list.items ++ c.xt_entry.result ∷ []) c.in_ok-push.ensures.items (All-push FitsXad c.loop-i.list.items c.xt_entry.result c.loop-i.invariant.1 c.xt_entry.ensures.fits),
)
