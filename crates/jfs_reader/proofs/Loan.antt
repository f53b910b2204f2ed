-- A view's device that stays tells that the view holds the same loan of the same disk.
use Rattle.std.proofs.Common.{◌≡◌, ◌⊎◌, inl, inr, ap, ℕ, []}
use Rattle.std.specs.Prelude.{get_or}
use Rattle.jfs_disk.specs.Crash.{no_page}
use Rattle.jfs_disk.specs.declared.disk.Disk.{Ghosts}
use Rattle.jfs_ranges.specs.View.{Device, device_of}
use Rattle.jfs_reader.specs.Borrowed.{borrowed}

abbrev loan_in : {crashes : Type 0} → Device (Unit {0} ⊎ crashes) → ℕ
loan_in device = get_or (get_or (get_or (device.states (inl tt)) 0 []) 0 no_page).seen 0 0

abbrev rest_of : {crashes : Type 0} → Device (Unit {0} ⊎ crashes) → Device crashes
rest_of device = record { pages = device.pages; room = device.room; pending = device.pending; states = λ told. device.states (inr told) }

module _ {D : Type 0} (d : Ghosts D) (old new : D) (loan loan_new : ℕ) (same : borrowed d new loan_new ≡ borrowed d old loan) where
  pub same_loan : loan_new ≡ loan
  same_loan = ap loan_in same

  pub same_disk : device_of d new ≡ device_of d old
  same_disk = ap rest_of same
