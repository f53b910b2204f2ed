-- A mounted volume since its mount.
use Rattle.std.proofs.Common.{◌≡◌, refl, inl, None}
use Rattle.jfs_run.specs.Mounted.{State, Keeps, Since}

pub keeps_same : (s : State) → Keeps s s
keeps_same s = record { count = refl; room = refl; pages = refl; low = inl refl; high = inl refl }

-- nothing has happened
pub at_mount : (s : State) → s.volume.halted ≡ None → Since s s
at_mount s runs = record { keeps = keeps_same s; halted = inl runs }
