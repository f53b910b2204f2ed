-- What was read of a log, as redo answers it.
use Rattle.std.proofs.Common.{ℕ, ◌∷◌, drop, refl, Err}
use Rattle.jfs_disk.specs.Image.{Image}
use Rattle.jfs_logpages.specs.ReadLog.{IsReadLog, IsReadAs}
use Rattle.jfs_logpages.specs.declared.ring_text.RingText.{RingText}
use Rattle.jfs_logpages.specs.declared.error.RingError.{RingError}
use Rattle.jfs_logpages.specs.declared.error.RingError.TheVariants as ring
use Rattle.jfs_records.specs.FromText.{AreRecords}
use Rattle.jfs_super.specs.Rules.{blocks_of}
use Rattle.jfs_super.specs.declared.fields.Super.{Super}
use Rattle.jfs_redo.specs.Log.{IsLogOf, refusal_of}
use Rattle.jfs_redo.specs.Redo.{RedoIs}
use Rattle.jfs_redo.specs.declared.error.RedoError.{RedoError}
use Rattle.jfs_redo.specs.declared.error.RedoError.TheVariants.{Disk, ForeignLog, BadLog, BadImage, Memory}

pub refused : (pages blocks : ℕ) (log : Image) (why : RingError) → IsReadLog pages blocks log (Err why) → IsLogOf pages blocks log (Err (refusal_of why))
refused pages blocks log (ring.Read fault) h = tt
refused pages blocks log (ring.ForeignLog label) h = h
refused pages blocks log (ring.BadLog address rule) h = h
refused pages blocks log ring.Memory h = tt

-- the records that were read stand one behind the other
pub stand : (pages blocks : ℕ) (log : Image) (read : RingText) (is : IsReadAs pages blocks log read) → AreRecords blocks read (is.m ∷ is.ms)
stand pages blocks log read is = record {
  from = is.m.start;
  met = (refl, is.records.is, is.records.behind.met);
  ends = is.ends;
}

-- a log that wasn't read is why a volume isn't redone
pub refusal : (s : Super) (old new : Image) (why : RedoError) → IsLogOf s.logpxd.len (blocks_of s) (drop s.logpxd.addr old) (Err why) → RedoIs s old new (Err why)
refusal s old new (Disk fault) h = tt
refusal s old new (ForeignLog label) h = h
refusal s old new (BadLog address rule) h = h
refusal s old new (BadImage bad) h = absurd h
refusal s old new Memory h = tt
