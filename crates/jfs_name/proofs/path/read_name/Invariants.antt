use Rattle.std.proofs.Common.{◌≤◌, ◌-◌, length}
use Rattle.jfs_name.specs.Name.{AreUnits}
use Rattle.jfs_name.specs.Text.{UnitsTo}
use Rattle.jfs_name.proofs.path.read_name.Given as goal

abbrev pub invariant-loop-at : goal.invariant-loop-at
invariant-loop-at l = UnitsTo l.text l.first l.at l.units × (l.first ≤ l.at) × (l.at ≤ length l.text) × (length l.units ≤ 255) × AreUnits l.units

abbrev pub decreases-loop-at : goal.decreases-loop-at
decreases-loop-at l = length l.text - l.at
