-- A run of changes, and a crash at any moment of it.
use Rattle.std.proofs.Common.{ℕ, zero, suc, List, [], ◌∷◌, take, refl, ◌∙◌, arith}
use Rattle.jfs_image_volumes.specs.survival.specs.recovery.specs.objects.specs.Readers.{Readers}
use Rattle.jfs_image_volumes.specs.survival.specs.recovery.specs.objects.specs.Volume.{Volume}
use Rattle.jfs_image_volumes.specs.survival.specs.recovery.specs.kinds.specs.Images.{IsSameVolume}
use Rattle.jfs_image_volumes.specs.survival.specs.MapMarks.{map_marks}
use Rattle.jfs_image_volumes.specs.survival.proofs.Changes.{counted}
use Rattle.jfs_image_volumes.specs.survival.proofs.Crashes.{crash_law as crash_of_halves}
use Rattle.jfs_held_volumes.specs.Held.{Mount, Held, IsHeld, face_at}
use Rattle.jfs_held_volumes.specs.Changes.{next, Made, after, AllMay}
use Rattle.jfs_held_volumes.specs.Laws.{RunLaw, SurvivesCrashes, CrashLaw}
use Rattle.jfs_held_volumes.proofs.Kept.{one, before, grows}

-- ---- a run

pub run_law : RunLaw
run_law m x [] held may = record { held = held; grown = omega arith; volumes = λ k low. refl }
run_law m x (d ∷ ds) held (fits, change, rest) =
    let then = next m x d.change d.volume in
    let more = run_law m then ds (one m x held d.change d.volume fits change) rest in
    let grown = grows m x d.change d.volume in
    let later = more.grown in
    record {
      held = more.held;
      grown = omega (arith, grown, later);
      volumes = λ k low. more.volumes k (omega (arith, low, grown)) ∙ before m x held d.change d.volume k low;
    }

-- a front of it is a run
front : (m : Mount) (x : Held) (ds : List Made) (k : ℕ) → AllMay m x ds → AllMay m x (take k ds)
front m x [] zero may = tt
front m x [] (suc k) may = tt
front m x (d ∷ ds) zero may = tt
front m x (d ∷ ds) (suc k) (fits, change, rest) = (fits, change, front m (next m x d.change d.volume) ds k rest)

-- ---- a crash

joined : (r : Readers) (u v w : Volume) → IsSameVolume r u v → IsSameVolume r v w → IsSameVolume r u w
joined r u v w a b = record {
  extents = b.extents ∙ a.extents;
  area = λ c. b.area c ∙ a.area c;
  used = λ c. b.used c ∙ a.used c;
  in_use = λ n. b.in_use n ∙ a.in_use n;
  objects = λ n. b.objects n ∙ a.objects n;
  owners = λ c. b.owners c ∙ a.owners c;
  sound = b.sound;
}

survives : (m : Mount) (x : Held) → IsHeld m x → SurvivesCrashes m x
survives m x held low crash c n log redone is_redone =
    let sound = held.core_is.sound in
    let some = log.taken in
    let counts = sound.counts.taken_appended in
    let image_is = held.images n (omega (arith, some, counts)) in
    let prefix = crash_of_halves m.readers m.blocks m.agsize m.numag m.table m.map m.places (map_marks m.places) x.both x.core [] [] held.core_is (record { allowed = tt; core_is = held.core_is }) low crash c n log redone is_redone image_is.is.stands in
    let told = prefix.told in
    let told_is = held.core_is.told in
    let within = prefix.within in
    let number = counted (face_at m) x.both x.core held.core_is in
    record { told = omega (arith, told, told_is); within = omega (arith, within, number); volume = joined m.readers (x.volumes n) _ _ image_is.is.same prefix.volume }

pub crash_law : CrashLaw
crash_law m x ds held may k = survives m (after m x (take k ds)) (run_law m x (take k ds) held (front m x ds k may)).held
