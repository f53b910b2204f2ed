use Rattle.std.proofs.Common.{ap, ℕ, length, if◌then◌else◌, Bool, arith}
use Rattle.jfs_disk.specs.Image.{page_of}
use Rattle.jfs_file_blocks.specs.declared.reserve.FileWant.{FileWant}
use Rattle.jfs_write.specs.Look.{want_for}
use Rattle.jfs_write.proofs.Spots.{seen_few}
use Rattle.jfs_write.proofs.Reserving.{runs_below, pages_below, runs_number, pages_number, map_after, busy_alone}
use Rattle.jfs_write.proofs.Reserved.{few_wanted, made_reserved}
use Rattle.jfs_write.proofs.reserve.make_reserved.Goals as goal

pub want_for-want-requires-clause-few : goal.want_for-want-requires-clause-few
want_for-want-requires-clause-few g c = seen_few c.args.es.now c.args.change.now.offset (length c.args.change.now.bytes.now) c.args.spots.now c.requires.bytes c.requires.spots

pub returns-in-Err-NeedsLog-clause-map : goal.returns-in-Err-NeedsLog-clause-map
returns-in-Err-NeedsLog-clause-map g c = (
  c.in-Err-NeedsLog.ensures.unchanged,
  (
    want_for c.args.es.now c.args.spots.now,
    few_wanted c.args.es.now c.args.spots.now (seen_few c.args.es.now c.args.change.now.offset (length c.args.change.now.bytes.now) c.args.spots.now c.requires.bytes c.requires.spots),
    busy_alone c.args.blocks.now (want_for c.args.es.now c.args.spots.now) (rw (c.in-Err-NeedsLog.field-0-is, c.want_for-want.ensures.value) at c.in-Err-NeedsLog.ensures.free),
  ),
)

pub returns-in-Err-NeedsLog-clause-stopped : goal.returns-in-Err-NeedsLog-clause-stopped
returns-in-Err-NeedsLog-clause-stopped g c tells = busy_alone c.args.blocks.now (want_for c.args.es.now c.args.spots.now) (rw (c.in-Err-NeedsLog.field-0-is, c.want_for-want.ensures.value) at c.in-Err-NeedsLog.ensures.free)

pub make-requires-clause-runs : goal.make-requires-clause-runs
make-requires-clause-runs g c = runs_below c.args.blocks.now c.reserve_blocks.new.map c.want_for-want.result c.in-Ok.reserved c.in-Ok.ensures.takes c.in-Ok.ensures.fresh (g.V.PageView.block_count c.args.view.now) c.requires.map

pub make-requires-clause-holes : goal.make-requires-clause-holes
make-requires-clause-holes g c = let n = runs_number c.args.blocks.now c.reserve_blocks.new.map c.want_for-want.result c.in-Ok.reserved c.in-Ok.ensures.takes c.in-Ok.ensures.fresh in let e = ap (λ (w : FileWant). w.blocks) c.want_for-want.ensures.value in omega (arith, n, e)

pub make-requires-clause-enough : goal.make-requires-clause-enough
make-requires-clause-enough g c needed = let n = pages_number c.args.blocks.now c.reserve_blocks.new.map c.want_for-want.result c.in-Ok.reserved c.in-Ok.ensures.takes c.in-Ok.ensures.fresh in let e = ap (λ (w : FileWant). w.pages) c.want_for-want.ensures.value in let f = ap {B = ℕ} (λ (b : Bool). if b then 15 else 0) needed in omega (arith, n, e, f)

pub make-requires-clause-within : goal.make-requires-clause-within
make-requires-clause-within g c = pages_below c.args.blocks.now c.reserve_blocks.new.map c.want_for-want.result c.in-Ok.reserved c.in-Ok.ensures.takes c.in-Ok.ensures.fresh (g.V.PageView.block_count c.args.view.now) c.requires.map

pub returns-in-Ok-make-clause-map : goal.returns-in-Ok-make-clause-map
returns-in-Ok-make-clause-map g c =
    let front = c.in-Ok-make.ensures.taken in
    map_after c.args.blocks.now c.reserve_blocks.new.map c.want_for-want.result c.in-Ok.reserved c.in-Ok.ensures.takes c.in-Ok.ensures.fresh c.make.new.fresh front.0 front.1 (c.settle.ensures c.args.blocks.now front.0)

pub returns-in-Ok-make-clause-made : goal.returns-in-Ok-make-clause-made
returns-in-Ok-make-clause-made g c tells =
    made_reserved c.args.blocks.now c.reserve_blocks.new.map c.want_for-want.result c.in-Ok.reserved c.in-Ok.ensures.takes c.in-Ok.ensures.fresh c.args.es.now c.args.spots.now c.want_for-want.ensures.value (g.V.PageView.block_count c.args.view.now) (page_of (g.V.PageView.image c.args.view.now)) c.args.at.now
    c.args.change.now.size c.args.change.now.offset c.args.change.now.bytes.now c.make.new.fresh c.args.now c.in-Ok-make.written (c.in-Ok-make.ensures.makes tells) c.in-Ok.ensures.free c.settle.new.map (c.settle.ensures c.args.blocks.now)
