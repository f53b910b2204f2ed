use Rattle.std.proofs.Common.{refl, length, arith}
use Rattle.jfs_disk.specs.Image.{page_of}
use Rattle.jfs_plain.specs.Step.{write}
use Rattle.jfs_plain.specs.declared.call.Call.TheVariants as calls
use Rattle.jfs_files.proofs.Paths.{short_names}
use Rattle.jfs_files.proofs.BytesPut.{fault_told, data_fits, map_kept, map_then, frees_nothing, bytes_met, data_starts, bytes_follow, bytes_change}
use Rattle.jfs_files.proofs.bytes.write_outcome.Goals as goal

pub write-came-requires-clause-names : goal.write-came-requires-clause-names
write-came-requires-clause-names g c = rw c.as_slice-names.ensures (short_names c.args.path.now c.requires.path)

pub returns-clause-fault : goal.returns-clause-fault
returns-clause-fault g c = rw c.outcome_of.ensures (fault_told (g.V.PageView.faults c.args.view.now) (g.V.PageView.faults c.write-came.new.view) c.write-came.result c.write-came.ensures.fault)

pub returns-clause-kept : goal.returns-clause-kept
returns-clause-kept g c = rw c.outcome_of.ensures (map_kept c.args.maps.now _ c.write-came.new.blocks c.write-came.result c.write-came.ensures.map refl)

pub returns-clause-maps : goal.returns-clause-maps
returns-clause-maps g c tells = rw c.outcome_of.ensures (map_then (g.V.PageView.block_count c.args.view.now) (page_of (g.V.PageView.image c.args.view.now)) c.args.maps.now c.as_slice-names.result.now c.args.offset (length c.as_slice-content.result.now) c.as_slice-content.result.now c.args.now c.write-came.new.blocks _ c.write-came.result c.write-came.ensures.map (c.write-came.ensures.written tells) refl)

pub returns-clause-data : goal.returns-clause-data
returns-clause-data g c = rw c.outcome_of.ensures (data_fits (g.V.PageView.block_count c.args.view.now) c.write-came.result c.write-came.ensures.within c.write-came.ensures.whole)

pub returns-clause-frees : goal.returns-clause-frees
returns-clause-frees g c tells = rw c.outcome_of.ensures (frees_nothing (g.V.PageView.block_count c.args.view.now) (page_of (g.V.PageView.image c.args.view.now)) c.args.maps.now c.as_slice-names.result.now c.args.offset (length c.as_slice-content.result.now) c.as_slice-content.result.now c.args.now c.write-came.new.blocks c.write-came.result (c.write-came.ensures.written tells))

pub returns-clause-follows : goal.returns-clause-follows
returns-clause-follows g c tells between area con log_pages limit =
    rw c.outcome_of.ensures (rw (c.as_slice-names.ensures, c.as_slice-content.ensures) at (bytes_follow (g.V.PageView.block_count c.args.view.now) (page_of (g.V.PageView.image c.args.view.now)) c.args.maps.now c.as_slice-names.result.now c.args.offset (length c.as_slice-content.result.now) between area con c.requires.size (λ room t. write room t c.as_slice-names.result.now c.args.offset c.as_slice-content.result.now c.args.now) c.write-came.new.blocks c.write-came.result (c.write-came.ensures.steps tells) c.write-came.ensures.map (c.write-came.ensures.stopped tells) log_pages limit))

pub returns-clause-starts : goal.returns-clause-starts
returns-clause-starts g c tells between area con log_pages limit =
    rw c.outcome_of.ensures (rw (c.as_slice-names.ensures, c.as_slice-content.ensures) at (data_starts (g.V.PageView.block_count c.args.view.now) (page_of (g.V.PageView.image c.args.view.now)) c.args.maps.now c.as_slice-names.result.now c.args.offset (length c.as_slice-content.result.now) between area con c.requires.size (calls.Write c.as_slice-names.result.now c.args.offset c.as_slice-content.result.now) c.write-came.result (c.write-came.ensures.starts tells)))

pub returns-clause-meets : goal.returns-clause-meets
returns-clause-meets g c tells =
    rw c.outcome_of.ensures (rw (c.as_slice-names.ensures, c.as_slice-content.ensures) at (bytes_met (g.V.PageView.block_count c.args.view.now) (page_of (g.V.PageView.image c.args.view.now)) c.args.maps.now c.as_slice-names.result.now c.args.offset (length c.as_slice-content.result.now) c.as_slice-content.result.now c.args.now c.write-came.new.blocks c.write-came.result (c.write-came.ensures.written tells) (c.write-came.ensures.stopped tells)))

pub write-came-requires-clause-some : goal.write-came-requires-clause-some
write-came-requires-clause-some g c = rw c.as_slice-content.ensures c.requires.bytes.0

pub write-came-requires-clause-few : goal.write-came-requires-clause-few
write-came-requires-clause-few g c = rw c.as_slice-content.ensures (let l = c.requires.bytes.1 in omega (arith, l))

pub returns-clause-changes : goal.returns-clause-changes
returns-clause-changes g c = rw c.outcome_of.ensures (bytes_change c.write-came.result)
