use Rattle.std.proofs.Common.{◌∙◌, ap, length, ℕ, arith}
use Rattle.std.specs.Prelude.{min}
use Rattle.jfs_write_pages.proofs.Steps.{part_put}
use Rattle.jfs_write_pages.proofs.page.put_part.Goals as goal

pub returns-clause-value : goal.returns-clause-value
returns-clause-value c = c.put_slice.ensures
    ∙ part_put c.args.change.now.offset c.args.start c.min-from.result c.min-done.result _ c.args.change.now.bytes.now c.args.page.now.0 c.requires
    (c.min-from.ensures ∙ ap (λ (n : ℕ). min n 4096) c.saturating_sub.ensures)
    (c.min-done.ensures ∙ ap (λ (n : ℕ). min n (length c.args.change.now.bytes.now)) c.saturating_sub-2.ensures)
    (omega (arith, c.min-count.ensures))
