use Rattle.std.proofs.Common.{◌≡◌, refl, ◌∙◌, sym, ap, List, [], Option, Some, None, false}
use Rattle.jfs_bits.specs.declared.descriptor.Pxd.{Pxd}
use Rattle.jfs_bmap.specs.States.{Blocks}
use Rattle.jfs_disk.specs.Image.{page_of}
use Rattle.jfs_tree.specs.Fresh.{blocks_of}
use Rattle.jfs_link.specs.claim.specs.Take.{IsRun, run_list, reserving}
use Rattle.jfs_link.proofs.Asked.{reserves_free}
use Rattle.jfs_rename_steps.proofs.Taken.{free_takes}
use Rattle.jfs_rename.proofs.renaming.move_reserved.Goals as goal

no_run : (m : Blocks) (run : Option Pxd) → IsRun m false run → run_list run ≡ []
no_run m None h = refl
no_run m (Some run) h = absurd (cc (h.0))

pub returns-in-Ok-move_to_free-clause-map : goal.returns-in-Ok-move_to_free-clause-map
returns-in-Ok-move_to_free-clause-map g c =
    let front = c.in-Ok-move_to_free.ensures.front in (
      front.0,
      reserves_free c.args.blocks.now c.take.new.map c.in-Ok.claim front.0 c.move_to_free.new.fresh c.in-Ok.ensures.claims.reserves (no_run c.args.blocks.now c.in-Ok.claim.run c.in-Ok.ensures.claims.run) c.in-Ok.ensures.claims.all_left c.in-Ok.ensures.fresh front.1
          (c.settle.ensures c.args.blocks.now front.0 (record { reserves = c.in-Ok.ensures.claims.reserves; parts = ap blocks_of (sym c.in-Ok.ensures.claims.all_left) ∙ front.1 })
          ∙ ap (λ (runs : List Pxd). reserving runs front.0 c.args.blocks.now) (no_run c.args.blocks.now c.in-Ok.claim.run c.in-Ok.ensures.claims.run)),
    )

pub returns-in-Ok-move_to_free-clause-moves : goal.returns-in-Ok-move_to_free-clause-moves
returns-in-Ok-move_to_free-clause-moves g c tells =
    let j = c.in-Ok-move_to_free.ensures.moves tells in
    let taken = j.gains.taken in (
      record { free = c.in-Ok.claim.fresh; left = c.move_to_free.new.fresh; fresh = c.in-Ok.ensures.fresh; moves = j },
      (
        taken.0,
        free_takes (g.V.PageView.block_count c.args.view.now) (page_of (g.V.PageView.image c.args.view.now)) c.args.moving.now c.args.old.now c.args.new.now c.args.now c.in-Ok.claim.fresh c.move_to_free.new.fresh c.in-Ok-move_to_free.tx j,
        reserves_free c.args.blocks.now c.take.new.map c.in-Ok.claim taken.0 c.move_to_free.new.fresh c.in-Ok.ensures.claims.reserves (no_run c.args.blocks.now c.in-Ok.claim.run c.in-Ok.ensures.claims.run) c.in-Ok.ensures.claims.all_left c.in-Ok.ensures.fresh taken.1
            (c.settle.ensures c.args.blocks.now taken.0 (record { reserves = c.in-Ok.ensures.claims.reserves; parts = ap blocks_of (sym c.in-Ok.ensures.claims.all_left) ∙ taken.1 })
            ∙ ap (λ (runs : List Pxd). reserving runs taken.0 c.args.blocks.now) (no_run c.args.blocks.now c.in-Ok.claim.run c.in-Ok.ensures.claims.run)),
      ),
    )
