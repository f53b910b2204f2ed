-- What a call makes of a mounted volume that is kept.
use Rattle.std.specs.Prelude.{◌≡◌, ◌<◌, ◌+◌, ◌^◌, ◌∷◌, [], ℕ, if◌then◌else◌, List, Option, Some, None}
use Rattle.jfs_bits.specs.declared.descriptor.Moment.{Moment}
use Rattle.jfs_served.specs.call.specs.Does.{Does}
use Rattle.jfs_served.specs.call.specs.Noted.{noted_by}
use Rattle.jfs_served.specs.call.specs.declared.outcome.Outcome.{Outcome}
use Rattle.jfs_served.specs.call.specs.declared.outcome.Outcome.TheVariants.{Replied, NeedsLog, NoMemory}
use Rattle.jfs_served.specs.call.specs.declared.reply.Caller.{Caller}
use Rattle.jfs_served.specs.halves.specs.Entry.{Happened, entry_of}
use Rattle.jfs_served.specs.halves.specs.Parts.{Parts}
use Rattle.jfs_served.specs.plain.specs.Limits.{FitsCall}
use Rattle.jfs_served.specs.plain.specs.declared.call.Request.{Request}
use Rattle.jfs_served.specs.plain.specs.declared.reply.Reply.{Reply}
use Rattle.jfs_served.specs.volume.specs.Join.{entry_with}
use Rattle.jfs_served.specs.volume.specs.records.specs.Records.{Noted}
use Rattle.jfs_served.specs.Holds.{MayServe}
use Rattle.jfs_entries_kept.specs.kept_volumes.specs.joined_held.specs.held.specs.Held.{Mount}
use Rattle.jfs_entries_kept.specs.kept_volumes.specs.Keeper.{Keeper}
use Rattle.jfs_entries_kept.specs.kept_volumes.specs.Kept.{IsKept, Steps}

-- what the log has of an entry, where it has a record
abbrev pub logged_by : Happened → Option (List Noted)
logged_by h = if h.logs then Some h.noted else None

-- One entry joins: the caller's, with the call, the reply and the moment that it was handed, and so much of it in the log.
pub record Joins (m : Mount) (area : ℕ → ℕ) (caller : Caller) (request : Request) (now : Moment) (reply : Reply) (logged : Option (List Noted)) (new : Parts) (x : Keeper) : Type 0 where
  pub h : Happened
  pub steps : Steps m area new (h ∷ []) [] x
  pub entry_is : entry_of h ≡ entry_with caller.client caller.line request reply
  pub now_is : h.now ≡ now
  pub logged_is : logged_by h ≡ logged

-- A call that is replied has its entry, any other has none; and the volume is kept after it.
abbrev pub Leaves : Mount → (ℕ → ℕ) → Caller → Request → Moment → Option (List Noted) → Parts → Keeper → Outcome → Type 0
Leaves m area caller request now logged new x (Replied reply number waits) = Joins m area caller request now reply logged new x
Leaves m area caller request now logged new x NeedsLog = Steps m area new [] [] x
Leaves m area caller request now logged new x NoMemory = Steps m area new [] [] x

-- So it is with every call within the limits, in each of its outcomes, of a volume that may serve it, on a disk that tells its contents and what a crash may leave of them, where the next entry has a number of 32 bits.
abbrev pub DoesLaw : (tells crashes : Type 0) → Type 0
DoesLaw tells crashes = tells → crashes → (m : Mount) (area : ℕ → ℕ) (log_pages : ℕ) (caller : Caller) (request : Request) (now : Moment) (old new : Parts) (outcome : Outcome) (x : Keeper) → IsKept m area old x → MayServe area log_pages old → FitsCall request.call
    → old.appended + 1 < 2 ^ 32 → (does : Does tells crashes caller request now old new outcome) → Leaves m area caller request now (noted_by tells crashes caller request now old new outcome does) new x outcome
