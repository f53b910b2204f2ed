use Rattle.std.proofs.Common.{take, ◌∙◌}
use Rattle.std.specs.List.{flat_map}
use Rattle.jfs_bits.specs.Descriptor.{pxd_bytes}
use Rattle.jfs_logfmt.specs.Written.{IsLonger}
use Rattle.jfs_logfmt.proofs.Outcomes.{on_err}
use Rattle.jfs_logfmt.proofs.writing.push_runs.Goals as goal

pub returns-in_err-extend_from_slice-clause-err : goal.returns-in_err-extend_from_slice-clause-err
returns-in_err-extend_from_slice-clause-err c =
    on_err c.from_residual.result (IsLonger c.args.into.now.items c.extend_from_slice.new.self.items) (flat_map pxd_bytes (take c.loop-at.at-index c.args.list.now), c.in_err-extend_from_slice.ensures.items ∙ c.loop-at.invariant)
