-- A volume that is asked for a file call.
use Rattle.std.specs.Prelude.{◌≡◌, ℕ, false, List}
use Rattle.jfs_bits.specs.declared.descriptor.Moment.{Moment}
use Rattle.jfs_disk.specs.declared.disk.Fault.{Fault}
use Rattle.jfs_map_files.specs.declared.maps.Maps.{Maps}
use Rattle.jfs_plain.specs.declared.call.Request.{Request}
use Rattle.jfs_plain.specs.Step.{outcome}
use Rattle.jfs_files.specs.Outcome.{CarriesOutcome, KeepsMaps, MapsAfter, IfMounted, AnswersOr, Wants}
use Rattle.jfs_files.specs.Written.{FitsData, puts_data, puts_bytes, WritesNone, WritesOnce, Starts, renames, FreesUsed, FreesOrTaken, ChangesBy}
use Rattle.jfs_files.specs.Bytes.{bars}
use Rattle.jfs_files.specs.Meets.{Meets}
use Rattle.jfs_files.specs.declared.outcome.FileOutcome.{FileOutcome}

-- What a file call answers, of a volume of so many blocks with these pages: each of its clauses, by its name.
pub record AnswersFile (tells : Type 0) (blocks : ℕ) (pages : ℕ → List ℕ) (request : Request) (now : Moment) (old new : Maps) (before later : Fault) (result : FileOutcome) : Type 0 where
  pub fault : CarriesOutcome before later result
  pub kept : KeepsMaps old new result
  pub maps : tells → MapsAfter old new result
  pub contents : FitsData blocks result
  pub none : puts_data request.call ≡ false → WritesNone result
  pub single : tells → puts_bytes request.call ≡ false → WritesOnce result
  pub follows : tells → IfMounted blocks pages old (λ v room. AnswersOr (bars blocks pages old request.call) blocks old.blocks v (Wants old request.call) (λ t. outcome room t request.call now) result)
  pub starts : tells → IfMounted blocks pages old (λ v room. Starts blocks v request.call result)
  pub once : tells → renames request.call ≡ false → IfMounted blocks pages old (λ v room. FreesUsed v.used result)
  pub own : tells → IfMounted blocks pages old (λ v room. FreesOrTaken v.used result)
  pub changes : ChangesBy request.call result
  pub meets : tells → Meets blocks pages old request.call now result
