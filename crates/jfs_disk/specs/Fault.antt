-- When a device call may say that it failed.
use Rattle.std.specs.Prelude.{◌≡◌, ◌≤◌, ℕ, Result, OnOk, IsErrOf}
use Rattle.jfs_bits.specs.Count.{Rose}
use Rattle.jfs_disk.specs.declared.disk.DiskError.{DiskError}
use Rattle.jfs_disk.specs.declared.disk.DiskError.TheVariants.{Failed, Memory}

-- The count rises with `Failed` alone, and `Failed` comes only where it rose. It never falls.
pub record HasCause {T : Type 0} (before now : ℕ) (result : Result T DiskError) : Type 0 where
  pub ok : OnOk result (now ≡ before)
  pub memory : IsErrOf result Memory → now ≡ before
  pub failed : IsErrOf result Failed → Rose before now
  pub later : before ≤ now
