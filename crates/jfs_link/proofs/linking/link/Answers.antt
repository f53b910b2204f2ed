use Rattle.std.proofs.Common.{◌≡◌, refl, ◌⊎◌, ◌∙◌, sym, ap, inl, inr, true, false, ℕ, List, [], Option, Some, None, Err}
use Rattle.jfs_bits.specs.declared.descriptor.Pxd.{Pxd}
use Rattle.jfs_bits.specs.declared.descriptor.Moment.{Moment}
use Rattle.jfs_bmap.specs.States.{Blocks}
use Rattle.jfs_disk.specs.Image.{page_of}
use Rattle.jfs_plain.specs.Tree.{Tree}
use Rattle.jfs_plain.specs.Step.{Room, link}
use Rattle.jfs_plain.specs.declared.refusal.Refusal.{Refusal}
use Rattle.jfs_lead_steps.specs.page_tree.specs.Fresh.{blocks_of}
use Rattle.jfs_lead_steps.specs.meaning.specs.Readers.{readers}
use Rattle.jfs_lead_steps.specs.meaning.specs.Room.{room_on}
use Rattle.jfs_steps.specs.way.specs.Answer.{is_open}
use Rattle.jfs_steps.specs.way.specs.Volume.{volume_of}
use Rattle.jfs_steps.specs.way.specs.Walk.{tree_in}
use Rattle.jfs_claim.specs.Take.{IsRun, run_list, reserving}
use Rattle.jfs_steps.specs.Place.{last_of}
use Rattle.jfs_link.specs.Link.{RefusesLink}
use Rattle.jfs_link.specs.Joins.{JoinRefused}
use Rattle.jfs_link.proofs.Asks.{last_is, back}
use Rattle.jfs_link.proofs.Whole.{link_done, join_open, joins_move}
use Rattle.jfs_link.proofs.Asked.{reserves_free}
use Rattle.jfs_link.proofs.linking.link.Goals as goal

no_run : (m : Blocks) (run : Option Pxd) → IsRun m false run → run_list run ≡ []
no_run m None h = refl
no_run m (Some run) h = absurd (cc (h.0))

at_last : (from to : List (List ℕ)) (why : Refusal) (room : Room) (t : Tree) (now : Moment) → RefusesLink from to why room t → (link room t from to now ≡ Err why) ⊎ (is_open why ≡ true)
at_last from to why room t now (inl f) = inl (f now)
at_last from to why room t now (inr o) = inr o

pub returns-in-Err-clause-steps : goal.returns-in-Err-clause-steps
returns-in-Err-clause-steps g c tells within area con log_pages = at_last c.args.from.now c.args.to.now c.in-Err.e
    (room_on (readers (g.V.PageView.block_count c.args.view.now)) (volume_of (page_of (g.V.PageView.image c.args.view.now)) area c.args.blocks.now c.args.inodes.now) (g.V.PageView.block_count c.args.view.now) log_pages)
    (tree_in (g.V.PageView.block_count c.args.view.now) (page_of (g.V.PageView.image c.args.view.now)) area c.args.blocks.now c.args.inodes.now) c.args.now (c.in-Err.ensures.refused tells within area con log_pages)

pub returns-in-Ok-join-clause-steps : goal.returns-in-Ok-join-clause-steps
returns-in-Ok-join-clause-steps g c tells =
    let j = (rw (c.ask.ensures.count_of_blocks, c.ask.ensures.image tells, last_is c.args.to.now c.index-to-to.result c.in-Ok.ensures.some c.index-to-to.is) at (c.in-Ok-join.ensures.joins tells)) in (
      (λ within area con log_pages. link_done (g.V.PageView.block_count c.args.view.now) (page_of (g.V.PageView.image c.args.view.now)) area c.args.blocks.now c.args.inodes.now con (g.met.V.PageView.has_pages c.args.view.now tells) c.requires.size c.in-Ok.joint.object c.in-Ok.joint.dir
          c.in-Ok.ensures.object (c.in-Ok.ensures.object_shown tells) c.in-Ok.ensures.directory (c.in-Ok.ensures.dir_shown tells) c.in-Ok.ensures.no_directory c.in-Ok.ensures.names c.in-Ok.ensures.few c.args.from.now c.args.to.now c.args.now log_pages
          (c.in-Ok.ensures.allowed tells within area con log_pages) c.in-Ok-take.claim.fresh c.in-Ok-take.ensures.fresh c.join.new.fresh c.in-Ok-join.tx j),
      (
        j.gains.edits.0,
        (joins_move (g.V.PageView.block_count c.args.view.now) (page_of (g.V.PageView.image c.args.view.now)) c.in-Ok.joint.object c.in-Ok.joint.dir (last_of c.args.to.now) c.args.now c.in-Ok-take.claim.fresh c.join.new.fresh c.in-Ok-join.tx j).taken_are,
        reserves_free c.args.blocks.now c.take.new.map c.in-Ok-take.claim j.gains.edits.0 c.join.new.fresh c.in-Ok-take.ensures.claims.reserves (no_run c.args.blocks.now c.in-Ok-take.claim.run c.in-Ok-take.ensures.claims.run) c.in-Ok-take.ensures.claims.all_left c.in-Ok-take.ensures.fresh j.gains.edits.1
            (c.settle.ensures c.args.blocks.now j.gains.edits.0 (record { reserves = c.in-Ok-take.ensures.claims.reserves; parts = ap blocks_of (sym c.in-Ok-take.ensures.claims.all_left) ∙ j.gains.edits.1 })
            ∙ ap (λ (runs : List Pxd). reserving runs j.gains.edits.0 c.args.blocks.now) (no_run c.args.blocks.now c.in-Ok-take.claim.run c.in-Ok-take.ensures.claims.run)),
      ),
    )

pub returns-clause-steps : goal.returns-clause-steps
returns-clause-steps g c tells within area con log_pages =
    inr (join_open (g.V.PageView.block_count c.args.view.now) (page_of (g.V.PageView.image c.args.view.now)) area c.args.blocks.now c.args.inodes.now con (g.met.V.PageView.has_pages c.args.view.now tells) c.requires.size c.in-Ok.joint.object c.in-Ok.joint.dir
    c.in-Ok.ensures.object (c.in-Ok.ensures.object_shown tells) c.in-Ok.ensures.directory (c.in-Ok.ensures.dir_shown tells) c.in-Ok.ensures.no_directory c.in-Ok.ensures.names c.in-Ok.ensures.few c.args.from.now c.args.to.now c.args.now log_pages
    (c.in-Ok.ensures.allowed tells within area con log_pages) c.in-Ok-take.claim.fresh c.in-Ok-take.ensures.fresh
    c.in-Err-join.e (back (λ b pages name. JoinRefused b pages c.in-Ok.joint.object c.in-Ok.joint.dir name c.args.now c.in-Ok-take.claim.fresh c.in-Err-join.e)
    (g.V.PageView.block_count c.args.view.now) (g.V.PageView.block_count c.ask.new.view) (g.V.PageView.image c.args.view.now) (g.V.PageView.image c.ask.new.view) (last_of c.args.to.now) c.index-to-to.result
    c.ask.ensures.count_of_blocks (c.ask.ensures.image tells) (last_is c.args.to.now c.index-to-to.result c.in-Ok.ensures.some c.index-to-to.is) (c.in-Err-join.ensures.refused tells)))

pub returns-in-Ok-join-clause-map : goal.returns-in-Ok-join-clause-map
returns-in-Ok-join-clause-map g c =
    let front = c.in-Ok-join.ensures.front in (
      front.0,
      reserves_free c.args.blocks.now c.take.new.map c.in-Ok-take.claim front.0 c.join.new.fresh c.in-Ok-take.ensures.claims.reserves (no_run c.args.blocks.now c.in-Ok-take.claim.run c.in-Ok-take.ensures.claims.run) c.in-Ok-take.ensures.claims.all_left c.in-Ok-take.ensures.fresh front.1
          (c.settle.ensures c.args.blocks.now front.0 (record { reserves = c.in-Ok-take.ensures.claims.reserves; parts = ap blocks_of (sym c.in-Ok-take.ensures.claims.all_left) ∙ front.1 })
          ∙ ap (λ (runs : List Pxd). reserving runs front.0 c.args.blocks.now) (no_run c.args.blocks.now c.in-Ok-take.claim.run c.in-Ok-take.ensures.claims.run)),
    )

pub returns-in-Ok-join-clause-meets : goal.returns-in-Ok-join-clause-meets
returns-in-Ok-join-clause-meets g c tells = (
  c.in-Ok.joint,
  c.in-Ok.ensures.meets tells,
  c.in-Ok-take.claim.fresh,
  c.in-Ok-take.ensures.fresh,
  c.join.new.fresh,
  (rw (c.ask.ensures.count_of_blocks, c.ask.ensures.image tells, last_is c.args.to.now c.index-to-to.result c.in-Ok.ensures.some c.index-to-to.is) at (c.in-Ok-join.ensures.joins tells)),
)

pub returns-clause-meets : goal.returns-clause-meets
returns-clause-meets g c tells = inr (inl (
  c.in-Ok.joint,
  c.in-Ok.ensures.meets tells,
  c.in-Ok-take.claim.fresh,
  c.in-Ok-take.ensures.fresh,
  back (λ b pages name. JoinRefused b pages c.in-Ok.joint.object c.in-Ok.joint.dir name c.args.now c.in-Ok-take.claim.fresh c.in-Err-join.e)
      (g.V.PageView.block_count c.args.view.now) (g.V.PageView.block_count c.ask.new.view) (g.V.PageView.image c.args.view.now) (g.V.PageView.image c.ask.new.view) (last_of c.args.to.now) c.index-to-to.result
      c.ask.ensures.count_of_blocks (c.ask.ensures.image tells) (last_is c.args.to.now c.index-to-to.result c.in-Ok.ensures.some c.index-to-to.is) (c.in-Err-join.ensures.refused tells),
))
