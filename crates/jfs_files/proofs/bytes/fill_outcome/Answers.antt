use Rattle.std.proofs.Common.{refl, replicate}
use Rattle.jfs_disk.specs.Image.{page_of}
use Rattle.jfs_plain.specs.Step.{write}
use Rattle.jfs_plain.specs.declared.call.Call.TheVariants as calls
use Rattle.jfs_files.proofs.Paths.{short_names}
use Rattle.jfs_files.proofs.BytesPut.{fault_told, data_fits, map_kept, map_then, frees_nothing, bytes_met, data_starts, bytes_follow, bytes_change}
use Rattle.jfs_files.proofs.bytes.fill_outcome.Goals as goal

pub fill-came-requires-clause-names : goal.fill-came-requires-clause-names
fill-came-requires-clause-names g c = rw c.as_slice-names.ensures (short_names c.args.path.now c.requires.path)

pub returns-clause-fault : goal.returns-clause-fault
returns-clause-fault g c = rw c.outcome_of.ensures (fault_told (g.V.PageView.faults c.args.view.now) (g.V.PageView.faults c.fill-came.new.view) c.fill-came.result c.fill-came.ensures.fault)

pub returns-clause-kept : goal.returns-clause-kept
returns-clause-kept g c = rw c.outcome_of.ensures (map_kept c.args.maps.now _ c.fill-came.new.blocks c.fill-came.result c.fill-came.ensures.map refl)

pub returns-clause-maps : goal.returns-clause-maps
returns-clause-maps g c tells = rw c.outcome_of.ensures (map_then (g.V.PageView.block_count c.args.view.now) (page_of (g.V.PageView.image c.args.view.now)) c.args.maps.now c.as_slice-names.result.now c.args.offset c.args.count (replicate c.args.count c.args.byte) c.args.now c.fill-came.new.blocks _ c.fill-came.result c.fill-came.ensures.map (c.fill-came.ensures.written tells) refl)

pub returns-clause-data : goal.returns-clause-data
returns-clause-data g c = rw c.outcome_of.ensures (data_fits (g.V.PageView.block_count c.args.view.now) c.fill-came.result c.fill-came.ensures.within c.fill-came.ensures.whole)

pub returns-clause-frees : goal.returns-clause-frees
returns-clause-frees g c tells = rw c.outcome_of.ensures (frees_nothing (g.V.PageView.block_count c.args.view.now) (page_of (g.V.PageView.image c.args.view.now)) c.args.maps.now c.as_slice-names.result.now c.args.offset c.args.count (replicate c.args.count c.args.byte) c.args.now c.fill-came.new.blocks c.fill-came.result (c.fill-came.ensures.written tells))

pub returns-clause-follows : goal.returns-clause-follows
returns-clause-follows g c tells between area con log_pages limit =
    rw c.outcome_of.ensures (rw c.as_slice-names.ensures at (bytes_follow (g.V.PageView.block_count c.args.view.now) (page_of (g.V.PageView.image c.args.view.now)) c.args.maps.now c.as_slice-names.result.now c.args.offset c.args.count between area con c.requires.size (λ room t. write room t c.as_slice-names.result.now c.args.offset (replicate c.args.count c.args.byte) c.args.now) c.fill-came.new.blocks c.fill-came.result (c.fill-came.ensures.steps tells) c.fill-came.ensures.map (c.fill-came.ensures.stopped tells) log_pages limit))

pub returns-clause-starts : goal.returns-clause-starts
returns-clause-starts g c tells between area con log_pages limit =
    rw c.outcome_of.ensures (rw c.as_slice-names.ensures at (data_starts (g.V.PageView.block_count c.args.view.now) (page_of (g.V.PageView.image c.args.view.now)) c.args.maps.now c.as_slice-names.result.now c.args.offset c.args.count between area con c.requires.size (calls.Fill c.as_slice-names.result.now c.args.offset c.args.count c.args.byte) c.fill-came.result (c.fill-came.ensures.starts tells)))

pub returns-clause-meets : goal.returns-clause-meets
returns-clause-meets g c tells =
    rw c.outcome_of.ensures (rw c.as_slice-names.ensures at (bytes_met (g.V.PageView.block_count c.args.view.now) (page_of (g.V.PageView.image c.args.view.now)) c.args.maps.now c.as_slice-names.result.now c.args.offset c.args.count (replicate c.args.count c.args.byte) c.args.now c.fill-came.new.blocks c.fill-came.result (c.fill-came.ensures.written tells) (c.fill-came.ensures.stopped tells)))

pub returns-clause-changes : goal.returns-clause-changes
returns-clause-changes g c = rw c.outcome_of.ensures (bytes_change c.fill-came.result)
