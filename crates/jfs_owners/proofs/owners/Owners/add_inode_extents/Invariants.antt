use Rattle.std.proofs.Common.{drop}
use Rattle.jfs_findings.specs.objects.specs.Owners.{extents_have}
use Rattle.jfs_owners.specs.Counts.{OwnerSets, Adds}
use Rattle.jfs_owners.proofs.owners.Owners.add_inode_extents.Given as goal

-- what counting the rest adds makes up the whole
abbrev pub invariant-loop-place : goal.invariant-loop-place
invariant-loop-place l = (new : OwnerSets) → Adds (extents_have (drop l.place-index l.places)) l.self new → Adds (extents_have l.places) l.initial.self new
