use Rattle.std.proofs.Common.{refl}
use Rattle.jfs_disk.specs.Image.{page_of}
use Rattle.jfs_plain.specs.Step.{rename}
use Rattle.jfs_files.proofs.Paths.{short_names}
use Rattle.jfs_files.proofs.RenamesPut.{fault_by, none_by, kept_by, maps_by, meets_by, follows_by, own_by}
use Rattle.jfs_files.proofs.renaming.rename_outcome.Goals as goal

pub rename-came-requires-clause-from : goal.rename-came-requires-clause-from
rename-came-requires-clause-from g c = rw c.as_slice-names.ensures (short_names c.args.from.now c.requires.from)

pub rename-came-requires-clause-to : goal.rename-came-requires-clause-to
rename-came-requires-clause-to g c = rw c.as_slice-others.ensures (short_names c.args.to.now c.requires.to)

pub returns-clause-fault : goal.returns-clause-fault
returns-clause-fault g c = rw c.outcome_by.ensures (fault_by (g.V.PageView.faults c.args.view.now) (g.V.PageView.faults c.rename-came.new.view) c.rename-came.result c.rename-came.ensures.fault)

pub returns-clause-none : goal.returns-clause-none
returns-clause-none g c = rw c.outcome_by.ensures (none_by c.rename-came.result)

pub returns-clause-kept : goal.returns-clause-kept
returns-clause-kept g c = rw c.outcome_by.ensures (kept_by c.args.maps.now _ c.rename-came.new.blocks c.rename-came.result c.rename-came.ensures.map refl)

pub returns-clause-maps : goal.returns-clause-maps
returns-clause-maps g c tells = rw c.outcome_by.ensures (maps_by (g.V.PageView.block_count c.args.view.now) (page_of (g.V.PageView.image c.args.view.now)) c.args.maps.now c.as_slice-names.result.now c.as_slice-others.result.now c.args.now c.rename-came.new.blocks _ c.rename-came.result c.rename-came.ensures.map (c.rename-came.ensures.meets tells) refl)

pub returns-clause-follows : goal.returns-clause-follows
returns-clause-follows g c tells between area con log_pages limit =
    rw c.outcome_by.ensures (rw (c.as_slice-names.ensures, c.as_slice-others.ensures) at (follows_by (g.V.PageView.block_count c.args.view.now) (page_of (g.V.PageView.image c.args.view.now)) c.args.maps.now c.as_slice-names.result.now c.as_slice-others.result.now c.args.now c.rename-came.new.blocks (λ room t. rename room t c.as_slice-names.result.now c.as_slice-others.result.now c.args.now) c.rename-came.result (c.rename-came.ensures.steps tells) c.rename-came.ensures.map (c.rename-came.ensures.meets tells) between area con log_pages limit))

pub returns-clause-meets : goal.returns-clause-meets
returns-clause-meets g c tells =
    rw c.outcome_by.ensures (rw (c.as_slice-names.ensures, c.as_slice-others.ensures) at (meets_by (g.V.PageView.block_count c.args.view.now) (page_of (g.V.PageView.image c.args.view.now)) c.args.maps.now c.as_slice-names.result.now c.as_slice-others.result.now c.args.now c.rename-came.new.blocks c.rename-came.result (c.rename-came.ensures.meets tells)))

pub returns-clause-own : goal.returns-clause-own
returns-clause-own g c tells between area con log_pages limit =
    rw c.outcome_by.ensures (own_by (g.V.PageView.block_count c.args.view.now) (page_of (g.V.PageView.image c.args.view.now)) c.args.maps.now c.as_slice-names.result.now c.as_slice-others.result.now c.args.now c.rename-came.new.blocks c.rename-came.result (c.rename-came.ensures.once tells) between area con log_pages limit)
