use Rattle.std.proofs.Common.{◌∙◌, sym, ap, subst, [], Ok}
use Rattle.jfs_disk.specs.Image.{page_of}
use Rattle.jfs_link.specs.lead_steps.proofs.Again.{few_links}
use Rattle.jfs_link.specs.Link.{IfConsistentBy}
use Rattle.jfs_link.proofs.Asks.{last_is}
use Rattle.jfs_rename_steps.specs.Moves.{MovesOver, OverRefused}
use Rattle.jfs_link.specs.steps.specs.Place.{last_of}
use Rattle.jfs_rename.specs.Asks.{IsAskedOf, IsAskedOn, MayRename}
use Rattle.jfs_rename.specs.Renames.{MovesReserved}
use Rattle.jfs_rename.specs.declared.permits.Asked.{Asked}
use Rattle.jfs_rename.proofs.Asks.{short_last}
use Rattle.jfs_rename.proofs.Taking.{none_reserved, back_to, free_meets, over_meets, over_kept}
use Rattle.jfs_rename.proofs.Stepping.{ask_steps, same_steps, free_steps, over_steps, over_stays, free_once, over_once}
use Rattle.jfs_rename.proofs.renaming.rename.Goals as goal

pub move_reserved-requires-clause-few : goal.move_reserved-requires-clause-few
move_reserved-requires-clause-few g c = few_links c.in-Free.moving.target.inode c.in-Free.moving.target.number (subst (IsAskedOf (g.V.PageView.block_count c.args.view.now) c.args.inodes.now) c.in-Free.is c.in-Ok.ensures.held).0.2.rules

pub move_reserved-requires-clause-old : goal.move_reserved-requires-clause-old
move_reserved-requires-clause-old g c = short_last c.args.from.now c.index-from-from.result c.in-Ok.ensures.some.0 c.index-from-from.is c.requires.from

pub move_reserved-requires-clause-new : goal.move_reserved-requires-clause-new
move_reserved-requires-clause-new g c = short_last c.args.to.now c.index-to-to.result c.in-Ok.ensures.some.1 c.index-to-to.is c.requires.to

pub move_over-requires-clause-old : goal.move_over-requires-clause-old
move_over-requires-clause-old g c = short_last c.args.from.now c.index-from-from.result c.in-Ok.ensures.some.0 c.index-from-from.is c.requires.from

pub move_over-requires-clause-new : goal.move_over-requires-clause-new
move_over-requires-clause-new g c = short_last c.args.to.now c.index-to-to.result c.in-Ok.ensures.some.1 c.index-to-to.is c.requires.to

pub returns-in-Free-clause-meets : goal.returns-in-Free-clause-meets
returns-in-Free-clause-meets g c tells = free_meets (g.V.PageView.block_count c.args.view.now) (page_of (g.V.PageView.image c.args.view.now)) c.args.blocks.now c.move_reserved.new.blocks c.args.inodes.now c.args.from.now c.args.to.now c.args.limit c.args.now c.in-Free.moving (c.in-Ok.ensures.meets tells ∙ ap (λ (a : Asked). Ok a) c.in-Free.is) c.move_reserved.result
    (back_to (λ b pages old new. MovesReserved b pages c.in-Free.moving old new c.args.now c.args.blocks.now c.move_reserved.new.blocks c.move_reserved.result) (g.V.PageView.block_count c.args.view.now) (g.V.PageView.block_count c.ask.new.view) (g.V.PageView.image c.args.view.now) (g.V.PageView.image c.ask.new.view)
    (last_of c.args.from.now) c.index-from-from.result (last_of c.args.to.now) c.index-to-to.result c.ask.ensures.count_of_blocks (c.ask.ensures.image tells) (last_is c.args.from.now c.index-from-from.result c.in-Ok.ensures.some.0 c.index-from-from.is) (last_is c.args.to.now c.index-to-to.result c.in-Ok.ensures.some.1 c.index-to-to.is) (c.move_reserved.ensures.moves tells))

pub returns-in-Ok-move_over-clause-map : goal.returns-in-Ok-move_over-clause-map
returns-in-Ok-move_over-clause-map g c = ([], none_reserved c.args.blocks.now)

pub returns-in-Ok-move_over-clause-meets : goal.returns-in-Ok-move_over-clause-meets
returns-in-Ok-move_over-clause-meets g c tells = over_meets (g.V.PageView.block_count c.args.view.now) (page_of (g.V.PageView.image c.args.view.now)) c.args.blocks.now c.args.inodes.now c.args.from.now c.args.to.now c.args.limit c.args.now c.in-Over.moving c.in-Over.there (c.in-Ok.ensures.meets tells ∙ ap (λ (a : Asked). Ok a) c.in-Over.is) c.in-Ok-move_over.tx
    (back_to (λ b pages old new. MovesOver b pages c.in-Over.moving c.in-Over.there old new c.args.now c.in-Ok-move_over.tx) (g.V.PageView.block_count c.args.view.now) (g.V.PageView.block_count c.ask.new.view) (g.V.PageView.image c.args.view.now) (g.V.PageView.image c.ask.new.view)
    (last_of c.args.from.now) c.index-from-from.result (last_of c.args.to.now) c.index-to-to.result c.ask.ensures.count_of_blocks (c.ask.ensures.image tells) (last_is c.args.from.now c.index-from-from.result c.in-Ok.ensures.some.0 c.index-from-from.is) (last_is c.args.to.now c.index-to-to.result c.in-Ok.ensures.some.1 c.index-to-to.is) (c.in-Ok-move_over.ensures.moves tells))

pub returns-in-Err-move_over-clause-meets : goal.returns-in-Err-move_over-clause-meets
returns-in-Err-move_over-clause-meets g c tells = over_kept (g.V.PageView.block_count c.args.view.now) (page_of (g.V.PageView.image c.args.view.now)) c.args.blocks.now c.args.inodes.now c.args.from.now c.args.to.now c.args.limit c.args.now c.in-Over.moving c.in-Over.there (c.in-Ok.ensures.meets tells ∙ ap (λ (a : Asked). Ok a) c.in-Over.is) c.in-Err-move_over.e
    (back_to (λ b pages old new. OverRefused b pages c.in-Over.moving c.in-Over.there old new c.args.now c.in-Err-move_over.e) (g.V.PageView.block_count c.args.view.now) (g.V.PageView.block_count c.ask.new.view) (g.V.PageView.image c.args.view.now) (g.V.PageView.image c.ask.new.view)
    (last_of c.args.from.now) c.index-from-from.result (last_of c.args.to.now) c.index-to-to.result c.ask.ensures.count_of_blocks (c.ask.ensures.image tells) (last_is c.args.from.now c.index-from-from.result c.in-Ok.ensures.some.0 c.index-from-from.is) (last_is c.args.to.now c.index-to-to.result c.in-Ok.ensures.some.1 c.index-to-to.is) (c.in-Err-move_over.ensures.refused tells))

pub returns-in-Err-clause-steps : goal.returns-in-Err-clause-steps
returns-in-Err-clause-steps g c tells = ask_steps (g.V.PageView.block_count c.args.view.now) (page_of (g.V.PageView.image c.args.view.now)) c.args.blocks.now c.args.inodes.now (g.met.V.PageView.has_pages c.args.view.now tells) c.requires.size c.args.from.now c.args.to.now c.args.limit c.args.now c.in-Err.e (c.in-Err.ensures.refused tells)

pub returns-in-Same-clause-steps : goal.returns-in-Same-clause-steps
returns-in-Same-clause-steps g c tells = same_steps (g.V.PageView.block_count c.args.view.now) (page_of (g.V.PageView.image c.args.view.now)) c.args.blocks.now c.args.inodes.now (g.met.V.PageView.has_pages c.args.view.now tells) c.requires.size c.args.from.now c.args.to.now c.args.limit c.args.now (subst (λ (a : Asked). IfConsistentBy (g.V.PageView.block_count c.args.view.now) (page_of (g.V.PageView.image c.args.view.now)) c.args.blocks.now c.args.inodes.now (MayRename c.args.from.now c.args.to.now c.args.limit a)) c.in-Same.is (c.in-Ok.ensures.allowed tells))

pub returns-in-Free-clause-steps : goal.returns-in-Free-clause-steps
returns-in-Free-clause-steps g c tells = free_steps (g.V.PageView.block_count c.args.view.now) (page_of (g.V.PageView.image c.args.view.now)) c.args.blocks.now c.args.inodes.now (g.met.V.PageView.has_pages c.args.view.now tells) c.requires.size c.args.from.now c.args.to.now c.args.limit c.args.now c.in-Free.moving (subst (IsAskedOf (g.V.PageView.block_count c.args.view.now) c.args.inodes.now) c.in-Free.is c.in-Ok.ensures.held).0 (subst (IsAskedOf (g.V.PageView.block_count c.args.view.now) c.args.inodes.now) c.in-Free.is c.in-Ok.ensures.held).1 (subst (IsAskedOn (page_of (g.V.PageView.image c.args.view.now))) c.in-Free.is (c.in-Ok.ensures.shown tells)) (subst (λ (a : Asked). IfConsistentBy (g.V.PageView.block_count c.args.view.now) (page_of (g.V.PageView.image c.args.view.now)) c.args.blocks.now c.args.inodes.now (MayRename c.args.from.now c.args.to.now c.args.limit a)) c.in-Free.is (c.in-Ok.ensures.allowed tells)) c.move_reserved.new.blocks c.move_reserved.result
    (back_to (λ b pages old new. MovesReserved b pages c.in-Free.moving old new c.args.now c.args.blocks.now c.move_reserved.new.blocks c.move_reserved.result) (g.V.PageView.block_count c.args.view.now) (g.V.PageView.block_count c.ask.new.view) (g.V.PageView.image c.args.view.now) (g.V.PageView.image c.ask.new.view)
    (last_of c.args.from.now) c.index-from-from.result (last_of c.args.to.now) c.index-to-to.result c.ask.ensures.count_of_blocks (c.ask.ensures.image tells) (last_is c.args.from.now c.index-from-from.result c.in-Ok.ensures.some.0 c.index-from-from.is) (last_is c.args.to.now c.index-to-to.result c.in-Ok.ensures.some.1 c.index-to-to.is) (c.move_reserved.ensures.moves tells))

pub returns-in-Ok-move_over-clause-steps : goal.returns-in-Ok-move_over-clause-steps
returns-in-Ok-move_over-clause-steps g c tells = over_steps (g.V.PageView.block_count c.args.view.now) (page_of (g.V.PageView.image c.args.view.now)) c.args.blocks.now c.args.inodes.now (g.met.V.PageView.has_pages c.args.view.now tells) c.requires.size c.args.from.now c.args.to.now c.args.limit c.args.now c.in-Over.moving (subst (IsAskedOf (g.V.PageView.block_count c.args.view.now) c.args.inodes.now) c.in-Over.is c.in-Ok.ensures.held).0 (subst (IsAskedOf (g.V.PageView.block_count c.args.view.now) c.args.inodes.now) c.in-Over.is c.in-Ok.ensures.held).1 (subst (IsAskedOn (page_of (g.V.PageView.image c.args.view.now))) c.in-Over.is (c.in-Ok.ensures.shown tells)).0 c.in-Over.there (subst (IsAskedOf (g.V.PageView.block_count c.args.view.now) c.args.inodes.now) c.in-Over.is c.in-Ok.ensures.held).2 (subst (IsAskedOn (page_of (g.V.PageView.image c.args.view.now))) c.in-Over.is (c.in-Ok.ensures.shown tells)).1 (subst (λ (a : Asked). IfConsistentBy (g.V.PageView.block_count c.args.view.now) (page_of (g.V.PageView.image c.args.view.now)) c.args.blocks.now c.args.inodes.now (MayRename c.args.from.now c.args.to.now c.args.limit a)) c.in-Over.is (c.in-Ok.ensures.allowed tells)) c.in-Ok-move_over.tx
    (back_to (λ b pages old new. MovesOver b pages c.in-Over.moving c.in-Over.there old new c.args.now c.in-Ok-move_over.tx) (g.V.PageView.block_count c.args.view.now) (g.V.PageView.block_count c.ask.new.view) (g.V.PageView.image c.args.view.now) (g.V.PageView.image c.ask.new.view)
    (last_of c.args.from.now) c.index-from-from.result (last_of c.args.to.now) c.index-to-to.result c.ask.ensures.count_of_blocks (c.ask.ensures.image tells) (last_is c.args.from.now c.index-from-from.result c.in-Ok.ensures.some.0 c.index-from-from.is) (last_is c.args.to.now c.index-to-to.result c.in-Ok.ensures.some.1 c.index-to-to.is) (c.in-Ok-move_over.ensures.moves tells))

pub returns-in-Err-move_over-clause-steps : goal.returns-in-Err-move_over-clause-steps
returns-in-Err-move_over-clause-steps g c tells = over_stays (g.V.PageView.block_count c.args.view.now) (page_of (g.V.PageView.image c.args.view.now)) c.args.blocks.now c.args.inodes.now (g.met.V.PageView.has_pages c.args.view.now tells) c.requires.size c.args.from.now c.args.to.now c.args.limit c.args.now c.in-Over.moving (subst (IsAskedOf (g.V.PageView.block_count c.args.view.now) c.args.inodes.now) c.in-Over.is c.in-Ok.ensures.held).0 (subst (IsAskedOf (g.V.PageView.block_count c.args.view.now) c.args.inodes.now) c.in-Over.is c.in-Ok.ensures.held).1 (subst (IsAskedOn (page_of (g.V.PageView.image c.args.view.now))) c.in-Over.is (c.in-Ok.ensures.shown tells)).0 c.in-Over.there (subst (IsAskedOf (g.V.PageView.block_count c.args.view.now) c.args.inodes.now) c.in-Over.is c.in-Ok.ensures.held).2 (subst (IsAskedOn (page_of (g.V.PageView.image c.args.view.now))) c.in-Over.is (c.in-Ok.ensures.shown tells)).1 (subst (λ (a : Asked). IfConsistentBy (g.V.PageView.block_count c.args.view.now) (page_of (g.V.PageView.image c.args.view.now)) c.args.blocks.now c.args.inodes.now (MayRename c.args.from.now c.args.to.now c.args.limit a)) c.in-Over.is (c.in-Ok.ensures.allowed tells)) (c.in-Ok.ensures.meets tells ∙ ap (λ (a : Asked). Ok a) c.in-Over.is) c.in-Err-move_over.e
    (back_to (λ b pages old new. OverRefused b pages c.in-Over.moving c.in-Over.there old new c.args.now c.in-Err-move_over.e) (g.V.PageView.block_count c.args.view.now) (g.V.PageView.block_count c.ask.new.view) (g.V.PageView.image c.args.view.now) (g.V.PageView.image c.ask.new.view)
    (last_of c.args.from.now) c.index-from-from.result (last_of c.args.to.now) c.index-to-to.result c.ask.ensures.count_of_blocks (c.ask.ensures.image tells) (last_is c.args.from.now c.index-from-from.result c.in-Ok.ensures.some.0 c.index-from-from.is) (last_is c.args.to.now c.index-to-to.result c.in-Ok.ensures.some.1 c.index-to-to.is) (c.in-Err-move_over.ensures.refused tells))

pub returns-in-Free-clause-once : goal.returns-in-Free-clause-once
returns-in-Free-clause-once g c tells = free_once (g.V.PageView.block_count c.args.view.now) (page_of (g.V.PageView.image c.args.view.now)) c.args.blocks.now c.args.inodes.now (g.met.V.PageView.has_pages c.args.view.now tells) c.requires.size c.args.from.now c.args.to.now c.args.limit c.args.now c.in-Free.moving (subst (IsAskedOf (g.V.PageView.block_count c.args.view.now) c.args.inodes.now) c.in-Free.is c.in-Ok.ensures.held).0 (subst (IsAskedOf (g.V.PageView.block_count c.args.view.now) c.args.inodes.now) c.in-Free.is c.in-Ok.ensures.held).1 (subst (IsAskedOn (page_of (g.V.PageView.image c.args.view.now))) c.in-Free.is (c.in-Ok.ensures.shown tells)) (subst (λ (a : Asked). IfConsistentBy (g.V.PageView.block_count c.args.view.now) (page_of (g.V.PageView.image c.args.view.now)) c.args.blocks.now c.args.inodes.now (MayRename c.args.from.now c.args.to.now c.args.limit a)) c.in-Free.is (c.in-Ok.ensures.allowed tells)) c.move_reserved.new.blocks c.move_reserved.result
    (back_to (λ b pages old new. MovesReserved b pages c.in-Free.moving old new c.args.now c.args.blocks.now c.move_reserved.new.blocks c.move_reserved.result) (g.V.PageView.block_count c.args.view.now) (g.V.PageView.block_count c.ask.new.view) (g.V.PageView.image c.args.view.now) (g.V.PageView.image c.ask.new.view)
    (last_of c.args.from.now) c.index-from-from.result (last_of c.args.to.now) c.index-to-to.result c.ask.ensures.count_of_blocks (c.ask.ensures.image tells) (last_is c.args.from.now c.index-from-from.result c.in-Ok.ensures.some.0 c.index-from-from.is) (last_is c.args.to.now c.index-to-to.result c.in-Ok.ensures.some.1 c.index-to-to.is) (c.move_reserved.ensures.moves tells))

pub returns-in-Ok-move_over-clause-once : goal.returns-in-Ok-move_over-clause-once
returns-in-Ok-move_over-clause-once g c tells = over_once (g.V.PageView.block_count c.args.view.now) (page_of (g.V.PageView.image c.args.view.now)) c.args.blocks.now c.args.inodes.now (g.met.V.PageView.has_pages c.args.view.now tells) c.requires.size c.args.from.now c.args.to.now c.args.limit c.args.now c.in-Over.moving (subst (IsAskedOf (g.V.PageView.block_count c.args.view.now) c.args.inodes.now) c.in-Over.is c.in-Ok.ensures.held).0 (subst (IsAskedOf (g.V.PageView.block_count c.args.view.now) c.args.inodes.now) c.in-Over.is c.in-Ok.ensures.held).1 (subst (IsAskedOn (page_of (g.V.PageView.image c.args.view.now))) c.in-Over.is (c.in-Ok.ensures.shown tells)).0 c.in-Over.there (subst (IsAskedOf (g.V.PageView.block_count c.args.view.now) c.args.inodes.now) c.in-Over.is c.in-Ok.ensures.held).2 (subst (IsAskedOn (page_of (g.V.PageView.image c.args.view.now))) c.in-Over.is (c.in-Ok.ensures.shown tells)).1 (subst (λ (a : Asked). IfConsistentBy (g.V.PageView.block_count c.args.view.now) (page_of (g.V.PageView.image c.args.view.now)) c.args.blocks.now c.args.inodes.now (MayRename c.args.from.now c.args.to.now c.args.limit a)) c.in-Over.is (c.in-Ok.ensures.allowed tells)) c.in-Ok-move_over.tx
    (back_to (λ b pages old new. MovesOver b pages c.in-Over.moving c.in-Over.there old new c.args.now c.in-Ok-move_over.tx) (g.V.PageView.block_count c.args.view.now) (g.V.PageView.block_count c.ask.new.view) (g.V.PageView.image c.args.view.now) (g.V.PageView.image c.ask.new.view)
    (last_of c.args.from.now) c.index-from-from.result (last_of c.args.to.now) c.index-to-to.result c.ask.ensures.count_of_blocks (c.ask.ensures.image tells) (last_is c.args.from.now c.index-from-from.result c.in-Ok.ensures.some.0 c.index-from-from.is) (last_is c.args.to.now c.index-to-to.result c.in-Ok.ensures.some.1 c.index-to-to.is) (c.in-Ok-move_over.ensures.moves tells))
