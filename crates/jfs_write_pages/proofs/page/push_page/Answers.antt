use Rattle.std.proofs.Common.{◌∙◌, sym, subst, refl, ap, ℕ}
use Rattle.std.specs.Prelude.{min}
use Rattle.jfs_disk.specs.Image.{page_of}
use Rattle.jfs_data_steps.specs.After.{AreWholePages}
use Rattle.jfs_write_pages.proofs.Steps.{whole_more, page_pushed}
use Rattle.jfs_write_pages.proofs.page.push_page.Goals as goal

pub returns-in-Ok-push-clause-whole : goal.returns-in-Ok-push-clause-whole
returns-in-Ok-push-clause-whole g c h = subst AreWholePages (sym c.in-Ok-push.ensures.ok) (whole_more c.args.out.now (record { block = c.args.spot.now.block; page = c.put_part.new.page }) h c.put_part.ensures.size)

pub returns-in-Ok-push-clause-pushed : goal.returns-in-Ok-push-clause-pushed
returns-in-Ok-push-clause-pushed g c tells =
    page_pushed c.args.out.now c.push.new.self (record { block = c.args.spot.now.block; page = c.put_part.new.page }) (page_of (g.V.PageView.image c.args.view.now))
    c.args.change.now.size c.args.change.now.offset c.args.change.now.bytes.now c.args.spot.now c.min-stays.result c.in-Ok.page.0 c.keep_front.new.page.0
    c.in-Ok-push.ensures.ok refl c.put_part.ensures.value c.keep_front.ensures.value (c.min-stays.ensures ∙ ap (λ (n : ℕ). min n 4096) c.saturating_sub.ensures) c.keep_front.ensures.was (c.in-Ok.ensures.page tells)
