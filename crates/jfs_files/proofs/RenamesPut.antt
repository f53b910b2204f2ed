-- A rename among the calls.
use Rattle.std.proofs.Common.{◌≡◌, refl, sym, inr, subst, ℕ, List, Result, Ok, Err}
use Rattle.jfs_bits.specs.declared.descriptor.Moment.{Moment}
use Rattle.jfs_disk.specs.declared.disk.Fault.{Fault}
use Rattle.jfs_super.specs.Geometry.{file_limit_of}
use Rattle.jfs_create.specs.bmap.specs.States.{Blocks}
use Rattle.jfs_plain.specs.Tree.{Tree}
use Rattle.jfs_plain.specs.Step.{Room, Outcome}
use Rattle.jfs_plain.specs.declared.refusal.Refusal.{Refusal}
use Rattle.jfs_look.specs.meaning.specs.Readers.{readers}
use Rattle.jfs_look.specs.meaning.specs.Room.{room_on}
use Rattle.jfs_look.specs.meaning.specs.Consistent.{IsConsistent}
use Rattle.jfs_look.specs.way.specs.Answer.{Carries}
use Rattle.jfs_create.specs.link.specs.Link.{want_of_name}
use Rattle.jfs_rename.specs.Renames.{MapAfter, RenamesAs}
use Rattle.jfs_rename.specs.Steps.{StepsAs}
use Rattle.jfs_rename.specs.Once.{FreesOnce}
use Rattle.jfs_rename.specs.declared.renaming.Renamed.{Renamed}
use Rattle.jfs_rename.specs.declared.renaming.Renamed.TheVariants as renamed
use Rattle.jfs_files.specs.Outcome.{CarriesOutcome, ReservesAlone, KeepsMaps, MapsAfter, AreBetweenCalls, AnswersAs, volume_in}
use Rattle.jfs_files.specs.Renames.{outcome_by, MeetsRename}
use Rattle.jfs_files.specs.Written.{WritesNone, FreesOrTaken}
use Rattle.jfs_map_files.specs.declared.maps.Maps.{Maps}
use Rattle.jfs_files.proofs.Links.{maps_after}
use Rattle.jfs_files.proofs.BytesPut.{same_maps}
use Rattle.jfs_files.proofs.Renames.{busy_between}

pub fault_by : (before now : Fault) (r : Result Renamed Refusal) → Carries before now r → CarriesOutcome before now (outcome_by r)
fault_by before now (Ok (renamed.Done tx)) e = e
fault_by before now (Ok renamed.Same) e = e
fault_by before now (Ok renamed.NeedsLog) e = e
fault_by before now (Err why) e = e

pub none_by : (r : Result Renamed Refusal) → WritesNone (outcome_by r)
none_by (Ok (renamed.Done tx)) = refl
none_by (Ok renamed.Same) = tt
none_by (Ok renamed.NeedsLog) = tt
none_by (Err why) = tt

pub kept_by : (maps new : Maps) (after : Blocks) (r : Result Renamed Refusal) → MapAfter maps.blocks after r → new ≡ record maps { blocks = after } → KeepsMaps maps new (outcome_by r)
kept_by maps new after (Ok (renamed.Done tx)) m e = inr (subst (λ (n : Maps). ReservesAlone maps n) (sym e) (m.0, m.1, refl))
kept_by maps new after (Ok renamed.Same) m e = same_maps maps new after m e
kept_by maps new after (Ok renamed.NeedsLog) m e = same_maps maps new after m.0 e
kept_by maps new after (Err why) m e = same_maps maps new after m e

module _ (blocks : ℕ) (pages : ℕ → List ℕ) (maps : Maps) (from to : List (List ℕ)) (now : Moment) (after : Blocks) where
  pub maps_by : (new : Maps) (r : Result Renamed Refusal) → MapAfter maps.blocks after r → RenamesAs blocks pages maps.blocks after maps.inodes from to maps.file_limit now r → new ≡ record maps { blocks = after } → MapsAfter maps new (outcome_by r)
  maps_by new (Ok (renamed.Done tx)) m h e = maps_after maps new after tx h.1 e
  maps_by new (Ok renamed.Same) m h e = same_maps maps new after m e
  maps_by new (Ok renamed.NeedsLog) m h e = same_maps maps new after m.0 e
  maps_by new (Err why) m h e = same_maps maps new after m e

  pub meets_by : (r : Result Renamed Refusal) → RenamesAs blocks pages maps.blocks after maps.inodes from to maps.file_limit now r → MeetsRename blocks pages maps from to now (outcome_by r)
  meets_by (Ok (renamed.Done tx)) h = ((after, h), refl)
  meets_by (Ok renamed.Same) h = h
  meets_by (Ok renamed.NeedsLog) h = h
  meets_by (Err why) h = h

  pub follows_by : (plain : Room → Tree → Outcome) (r : Result Renamed Refusal) → StepsAs blocks pages maps.blocks maps.inodes maps.file_limit plain r → MapAfter maps.blocks after r
      → RenamesAs blocks pages maps.blocks after maps.inodes from to maps.file_limit now r → AreBetweenCalls blocks maps → (area : ℕ → ℕ) → IsConsistent (readers blocks) (volume_in pages area maps) → (log_pages : ℕ) → maps.file_limit ≡ file_limit_of log_pages
      → AnswersAs blocks maps.blocks (volume_in pages area maps) (λ want. want ≡ want_of_name) (plain (room_on (readers blocks) (volume_in pages area maps) blocks log_pages)) (outcome_by r)
  follows_by plain (Ok (renamed.Done tx)) steps m h between area con log_pages limit = steps between.within area con log_pages (sym limit)
  follows_by plain (Ok renamed.Same) steps m h between area con log_pages limit = steps between.within area con log_pages (sym limit)
  follows_by plain (Ok renamed.NeedsLog) steps m h between area con log_pages limit = (want_of_name, refl, busy_between blocks pages maps.blocks maps.inodes maps.file_limit from to h.0 h.1 m.1 between.rest.none)
  follows_by plain (Err why) steps m h between area con log_pages limit = steps between.within area con log_pages (sym limit)

  pub own_by : (r : Result Renamed Refusal) → FreesOnce blocks pages maps.blocks maps.inodes maps.file_limit r → AreBetweenCalls blocks maps → (area : ℕ → ℕ) → IsConsistent (readers blocks) (volume_in pages area maps) → (log_pages : ℕ) → maps.file_limit ≡ file_limit_of log_pages
      → FreesOrTaken (volume_in pages area maps).used (outcome_by r)
  own_by (Ok (renamed.Done tx)) frees between area con log_pages limit = let o = frees between.within area con log_pages (sym limit) in record { owned = o.owned; once = o.freed_once }
  own_by (Ok renamed.Same) frees between area con log_pages limit = tt
  own_by (Ok renamed.NeedsLog) frees between area con log_pages limit = tt
  own_by (Err why) frees between area con log_pages limit = tt
