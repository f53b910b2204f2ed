-- Nothing is found exactly on a sound volume.
use Rattle.jfs_findings.specs.Laws.{CleanLaw}
use Rattle.jfs_mount.specs.Subject.{subject_of}
use Rattle.jfs_findings.proofs.Clean.{clean}
use Rattle.jfs_findings.proofs.Sound.{sound, mounted_is}
use Rattle.jfs_findings.proofs.Fixed.{fixed_ends}

pub clean_law : CleanLaw
clean_law = record {
  sound = λ super pages page accepted none. sound (subject_of super page) none (fixed_ends super pages page accepted (mounted_is (subject_of super page) none));
  clean = λ super page is. clean (subject_of super page) is;
}
