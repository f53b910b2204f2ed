-- A call of one of many clients: what the volume stands for then.
use Rattle.std.proofs.Common.{◌≡◌, ◌<◌, ◌+◌, ◌^◌, ℕ, Bool, true, false, refl, inl, sym, ◌∙◌}
use Rattle.std.proofs.lemmas.Bool.{false≢true}
use Rattle.jfs_bits.specs.declared.descriptor.Moment.{Moment}
use Rattle.jfs_disk.specs.declared.disk.Disk.{Ghosts}
use Rattle.jfs_plain.specs.Limits.{FitsCall}
use Rattle.jfs_plain.specs.declared.call.Request.{Request}
use Rattle.jfs_groups.specs.Group.{Stays}
use Rattle.jfs_kept_history.specs.legal.specs.served.specs.call.specs.Answer.{IsAnswered}
use Rattle.jfs_kept_history.specs.legal.specs.served.specs.call.specs.Does.{Does}
use Rattle.jfs_kept_history.specs.legal.specs.served.specs.call.specs.Noted.{noted_by}
use Rattle.jfs_kept_history.specs.legal.specs.served.specs.call.specs.declared.outcome.Outcome.{Outcome}
use Rattle.jfs_kept_history.specs.legal.specs.served.specs.call.specs.declared.outcome.Outcome.TheVariants.{Replied, NeedsLog, NoMemory}
use Rattle.jfs_kept_history.specs.legal.specs.served.specs.call.specs.halves.specs.Parts.{Parts}
use Rattle.jfs_shared.specs.Calls.{CallIs, BreaksOffBy}
use Rattle.jfs_shared.specs.Shared.{standing}
use Rattle.jfs_shared.specs.declared.shared.SharedVolume.{SharedVolume}
use Rattle.jfs_shared.proofs.Stands.{replied_stands, asked_stands, lacked_stands}
use Rattle.jfs_shared.proofs.Stepped.{stepped}

-- nothing was done
pub unanswered : (client line : ℕ) (request : Request) (p : Parts) → IsAnswered client line request p p NoMemory
unanswered client line request p = record {
  entry = record { entries = refl; appended = refl };
  cause = inl refl;
  held_is = tt;
  halted = inl refl;
  waits = tt;
  keeps = record { blocks = refl; size = refl; limit = refl; count = refl; room = refl; taken = refl; told = refl; points = refl; ring = refl; place = refl };
}

-- a call that breaks nothing off
pub stays_whole : (is_broken_off : Bool) (outcome : Outcome) → BreaksOffBy is_broken_off is_broken_off outcome
stays_whole is_broken_off (Replied reply number waits) = refl
stays_whole is_broken_off NeedsLog = refl
stays_whole is_broken_off NoMemory = inl refl

-- a call that is done, though none would be
pub not_over : (fact : Type 0) (over : Bool) → over ≡ false → over ≡ true → fact
not_over fact over goes stopped = absurd (false≢true (sym goes ∙ stopped))

module _ {D : Type 0} (d : Ghosts D) (x : SharedVolume D) (client line : ℕ) (request : Request) (now : Moment) (new : Parts) where
  pub call_is : (outcome : Outcome) → (outcome ≡ NoMemory → ⊥) → x.is_broken_off ≡ false → FitsCall request.call → x.volume.appended + 1 < 2 ^ 32 → IsAnswered client line request x.volume new outcome → Does d.tells d.tells_crashes (record { client = client; line = line }) request now x.volume new outcome
      → CallIs (standing d) client line request now x (record x { volume = new }) outcome
  call_is (Replied reply number waits) not over fits few a does = (
    noted_by d.tells d.tells_crashes (record { client = client; line = line }) request now x.volume new (Replied reply number waits) does,
    λ base list taken told points known s. replied_stands d.tells d.tells_crashes base list taken told points known x.points x.is_broken_off x.volume s client line request now new reply number waits over fits few a does
        (stepped d.tells d.tells_crashes (record { client = client; line = line }) request now x.volume new (Replied reply number waits) does),
  )
  call_is NeedsLog not over fits few a does = λ base list taken told points known s. asked_stands d.tells d.tells_crashes base list taken told points known x.points x.is_broken_off x.volume s client line request now new over fits few a does
      (stepped d.tells d.tells_crashes (record { client = client; line = line }) request now x.volume new NeedsLog does)
  call_is NoMemory not over fits few a does = absurd (not refl)

  pub lacked_is : x.is_broken_off ≡ false → FitsCall request.call → x.volume.appended + 1 < 2 ^ 32 → IsAnswered client line request x.volume new NoMemory → Does d.tells d.tells_crashes (record { client = client; line = line }) request now x.volume new NoMemory → Stays (standing d) x (record x { volume = new; is_broken_off = true })
  lacked_is over fits few a does base list taken told points known s = lacked_stands d.tells d.tells_crashes base list taken told points known x.points x.is_broken_off x.volume s client line request now new over fits few a does
      (stepped d.tells d.tells_crashes (record { client = client; line = line }) request now x.volume new NoMemory does)
