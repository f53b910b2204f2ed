use Rattle.std.proofs.Common.{◌≡◌, ◌++◌, take}
use Rattle.jfs_name.specs.Spelled.{spelled}
use Rattle.jfs_name.proofs.write.write_units.Given as goal

abbrev pub invariant-loop-unit : goal.invariant-loop-unit
invariant-loop-unit l = l.into.items ≡ l.initial.into.items ++ spelled (take l.unit-index l.units)
