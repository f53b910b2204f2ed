-- What a check answers.
use Rattle.std.specs.Prelude.{◌≡◌, ℕ, None, Result, Ok, Err, is_some}
use Rattle.jfs_bits.specs.Bits.{count_below}
use Rattle.jfs_disk.specs.declared.disk.Fault.{Fault}
use Rattle.jfs_ranges.specs.View.{Failed}
use Rattle.jfs_link_check.specs.objects.specs.Volume.{room}
use Rattle.jfs_findings.specs.meaning.specs.Room.{free_blocks}
use Rattle.jfs_findings.specs.mount_rules.specs.Subject.{Subject, blocks, volume, object}
use Rattle.jfs_findings.specs.mount_rules.specs.Mount.{broken_mount}
use Rattle.jfs_findings.specs.Findings.{AreFindings}
use Rattle.jfs_check.specs.declared.checked.Checked.{Checked}
use Rattle.jfs_check.specs.declared.checked.CheckError.{CheckError}
use Rattle.jfs_check.specs.declared.checked.CheckError.TheVariants.{Read, Memory}

-- how many blocks of the file system part have no owner
abbrev pub free_of : Subject → ℕ
free_of s = free_blocks s.readers (volume s) (blocks s)

-- how many inodes are in use, those with the numbers 0 to 3 among them
abbrev pub inodes_of : Subject → ℕ
inodes_of s = count_below (room (volume s)) (λ n. is_some (object s n))

-- both are told of a volume that breaks no rule of a mount
abbrev pub AreCounted : Subject → ℕ → ℕ → Type 0
AreCounted s free inodes = broken_mount s ≡ None → (free ≡ free_of s) × (inodes ≡ inodes_of s)

-- all findings, in order, and both counts
pub record IsChecked (s : Subject) (c : Checked) : Type 0 where
  pub findings : AreFindings s c.findings.items
  pub counts : AreCounted s c.free c.inodes

-- the count of faults rises only with a fault, which carries the part and the count that it raised
abbrev pub CarriesCheck : {T : Type 0} → Fault → Fault → Result T CheckError → Type 0
CarriesCheck before now (Ok it) = now ≡ before
CarriesCheck before now (Err (Read fault)) = Failed before now × (fault ≡ now)
CarriesCheck before now (Err Memory) = now ≡ before
