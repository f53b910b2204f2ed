use Rattle.std.proofs.Common.{◌≡◌, ◌++◌, take}
use Rattle.std.specs.List.{flat_map}
use Rattle.jfs_bits.specs.Descriptor.{pxd_bytes}
use Rattle.jfs_logfmt.proofs.writing.push_runs.Given as goal

abbrev pub invariant-loop-at : goal.invariant-loop-at
invariant-loop-at l = l.into.items ≡ l.fn.into.items ++ flat_map pxd_bytes (take l.at-index l.list)
