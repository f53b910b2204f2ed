use Rattle.std.proofs.Common.{refl, subst, ℕ, List, Ok, Err}
use Rattle.jfs_disk.specs.Image.{page_of}
use Rattle.jfs_plain.specs.Step.{link}
use Rattle.jfs_chmod.specs.steps.specs.Place.{last_of}
use Rattle.jfs_create.specs.link.specs.Link.{StepsBy, MapAfter, LinksAs, want_of_name}
use Rattle.jfs_create.specs.link.specs.declared.linking.Linked.{Linked}
use Rattle.jfs_files.proofs.Paths.{short_names}
use Rattle.jfs_files.proofs.Links.{maps_after, busy_between}
use Rattle.jfs_files.proofs.Data.{joins_free_none}
use Rattle.jfs_files.proofs.naming.link_outcome.Goals as goal

pub link-linked-requires-clause-from : goal.link-linked-requires-clause-from
link-linked-requires-clause-from g c = rw c.as_slice.ensures (short_names c.args.from.now c.requires.from)

pub link-linked-requires-clause-to : goal.link-linked-requires-clause-to
link-linked-requires-clause-to g c = rw c.as_slice-2.ensures (short_names c.args.to.now c.requires.to)

pub returns-in-Ok-Done-clause-maps : goal.returns-in-Ok-Done-clause-maps
returns-in-Ok-Done-clause-maps g c tells =
    let blocks = g.V.PageView.block_count c.args.view.now in
    let pages = page_of (g.V.PageView.image c.args.view.now) in
    let maps = c.args.maps.now in
    let steps = subst (λ (x : Linked). StepsBy blocks pages maps.blocks c.link-linked.new.blocks maps.inodes (λ room t. link room t c.as_slice.result.now c.as_slice-2.result.now c.args.now) (Ok x)) c.in-Ok-Done.field-0-is (c.in-Ok-Done.ensures.steps tells) in
    rw c.changed.ensures (maps_after maps _ c.link-linked.new.blocks c.in-Ok-Done.tx steps.1 refl)

pub returns-in-Ok-Done-clause-frees : goal.returns-in-Ok-Done-clause-frees
returns-in-Ok-Done-clause-frees g c tells =
    let blocks = g.V.PageView.block_count c.args.view.now in
    let pages = page_of (g.V.PageView.image c.args.view.now) in
    let maps = c.args.maps.now in
    let meets = subst (λ (x : Linked). LinksAs blocks pages maps.blocks maps.inodes c.as_slice.result.now c.as_slice-2.result.now c.args.now (Ok x)) c.in-Ok-Done.field-0-is (c.in-Ok-Done.ensures.meets tells) in
    rw c.changed.ensures (joins_free_none blocks pages meets.0.object meets.0.dir (last_of c.as_slice-2.result.now) c.args.now meets.2 meets.4 c.in-Ok-Done.tx meets.5)

pub returns-in-Ok-Done-clause-follows : goal.returns-in-Ok-Done-clause-follows
returns-in-Ok-Done-clause-follows g c tells between area con log_pages limit =
    let blocks = g.V.PageView.block_count c.args.view.now in
    let pages = page_of (g.V.PageView.image c.args.view.now) in
    let maps = c.args.maps.now in
    let steps = subst (λ (x : Linked). StepsBy blocks pages maps.blocks c.link-linked.new.blocks maps.inodes (λ room t. link room t c.as_slice.result.now c.as_slice-2.result.now c.args.now) (Ok x)) c.in-Ok-Done.field-0-is (c.in-Ok-Done.ensures.steps tells) in
    rw c.changed.ensures (rw (c.as_slice.ensures, c.as_slice-2.ensures) at (steps.0 between.within area con log_pages))

pub returns-in-Ok-NeedsLog-clause-follows : goal.returns-in-Ok-NeedsLog-clause-follows
returns-in-Ok-NeedsLog-clause-follows g c tells between area con log_pages limit =
    let blocks = g.V.PageView.block_count c.args.view.now in
    let pages = page_of (g.V.PageView.image c.args.view.now) in
    let maps = c.args.maps.now in
    let meets = subst (λ (x : Linked). LinksAs blocks pages maps.blocks maps.inodes c.as_slice.result.now c.as_slice-2.result.now c.args.now (Ok x)) c.in-Ok-NeedsLog.field-0-is (c.in-Ok-NeedsLog.ensures.meets tells) in
    let map = subst (λ (x : Linked). MapAfter maps.blocks c.link-linked.new.blocks (Ok x)) c.in-Ok-NeedsLog.field-0-is c.in-Ok-NeedsLog.ensures.map in
    (want_of_name, refl, busy_between blocks pages maps.blocks maps.inodes c.as_slice.result.now c.as_slice-2.result.now meets map.1 between.rest.none)

pub returns-in-Err-clause-follows : goal.returns-in-Err-clause-follows
returns-in-Err-clause-follows g c tells between area con log_pages limit = rw c.refused.ensures (rw (c.as_slice.ensures, c.as_slice-2.ensures) at (c.in-Err.ensures.steps tells between.within area con log_pages))

pub returns-in-Err-clause-meets : goal.returns-in-Err-clause-meets
returns-in-Err-clause-meets g c tells =
    let blocks = g.V.PageView.block_count c.args.view.now in
    let pages = page_of (g.V.PageView.image c.args.view.now) in
    let maps = c.args.maps.now in
    rw c.refused.ensures
    (subst (λ (to : List (List ℕ)). LinksAs blocks pages maps.blocks maps.inodes c.args.from.now to c.args.now (Err c.in-Err.e)) c.as_slice-2.ensures
    (subst (λ (from : List (List ℕ)). LinksAs blocks pages maps.blocks maps.inodes from c.as_slice-2.result.now c.args.now (Err c.in-Err.e)) c.as_slice.ensures (c.in-Err.ensures.meets tells)))
