use Rattle.std.proofs.Common.{ap, ap₂, ◌∙◌, sym, refl, ℕ}
use Rattle.std.specs.Prelude.{List}
use Rattle.jfs_disk.specs.Image.{Image}
use Rattle.jfs_ranges.specs.declared.edit.Edit.{Edit}
use Rattle.jfs_ranges.specs.Laid.{laid, page_within}
use Rattle.jfs_ranges.proofs.OnTop.{same_on_loan}
use Rattle.jfs_ranges.proofs.over.OverPageView.page.Goals as goal

pub returns : goal.returns
returns g c =
    let old = c.args.self.now in
    let new = c.load.new.self in
    let did = c.in_ok-load.ensures in (
      (
        refl,
        λ o. tt,
        record {
          same_blocks = did.blocks;
          same_image = λ told. ap (λ (k : ℕ). laid k new.tx.now (g.V.PageView.image new.view.now)) did.blocks
              ∙ ap₂ (λ (tx : List Edit) (image : Image). laid (g.V.PageView.block_count old.view.now) tx image) did.tx (did.image told);
          same_device = same_on_loan (g.V.PageView.device old.view.now) (g.V.PageView.device new.view.now) (g.V.PageView.image old.view.now) (g.V.PageView.image new.view.now)
              old.view.ghost_name new.view.ghost_name did.device did.image did.loan;
          count = did.fault;
        },
      ),
      record { bytes = λ told. did.held told ∙ sym (page_within (g.V.PageView.block_count old.view.now) old.tx.now (g.V.PageView.image old.view.now) c.args.n c.requires); after = tt },
    )
