use Rattle.std.proofs.Common.{◌≡◌, ◌≤◌, ◌<◌, ◌-◌, length, [], Some, slice_get}
use Rattle.jfs_name.specs.Text.{NamesTo}
use Rattle.jfs_name.proofs.path.read_front.Given as goal

abbrev pub invariant-loop-at : goal.invariant-loop-at
invariant-loop-at l = NamesTo l.text l.at l.path × (l.at ≤ length l.text) × (l.at < length l.text → slice_get l.text l.at ≡ Some 47) × (l.path ≡ [] → l.at ≡ 0)

abbrev pub decreases-loop-at : goal.decreases-loop-at
decreases-loop-at l = length l.text - l.at
