-- The answers of `format`, each with its cause. Of one disk at most one of them has its cause beside a fault.
use Rattle.std.specs.Prelude.{◌≡◌, Result, Ok, Err}
use Rattle.jfs_bits.specs.Count.{Rose}
use Rattle.jfs_disk.specs.declared.disk.Disk.{Ghosts}
use Rattle.jfs_disk.specs.declared.disk.Part.TheVariants.{Whole}
use Rattle.jfs_format.specs.declared.formatter.FormatError.{FormatError}
use Rattle.jfs_format.specs.declared.formatter.FormatError.TheVariants.{BadSize, Disk}
use Rattle.jfs_format.specs.Layout.{IsFormattable}

abbrev pub IsFormatAnswer : {D T : Type 0} → Ghosts D → D → D → Result T FormatError → Type 0
IsFormatAnswer d old new (Ok done) = IsFormattable (d.page_count old) × (d.fault_count new ≡ d.fault_count old)
IsFormatAnswer d old new (Err (BadSize pages)) = (IsFormattable (d.page_count old) → ⊥) × (pages ≡ d.page_count old) × (new ≡ old)
IsFormatAnswer d old new (Err (Disk fault)) = IsFormattable (d.page_count old) × Rose (d.fault_count old) (d.fault_count new) × (fault ≡ record { part = Whole; count = d.fault_count new })
