-- What a pass knows once the volume was asked for a call, and once the call is told: for the prover.
use Rattle.std.specs.Prelude.{◌≡◌, ◌≤◌, ◌+◌, ℕ, suc, Bool, List, [], ◌∷◌, ◌++◌, length, Option}
use Rattle.jfs_bits.specs.declared.descriptor.Moment.{Moment}
use Rattle.jfs_disk.specs.declared.disk.Fault.{Fault}
use Rattle.jfs_plain.specs.declared.call.Ack.{Ack}
use Rattle.jfs_plain.specs.declared.call.Ack.TheVariants.{Pending}
use Rattle.jfs_plain.specs.declared.call.Entry.{Entry}
use Rattle.jfs_plain.specs.declared.refusal.Refusal.TheVariants.{OutOfMemory}
use Rattle.jfs_plain.specs.declared.reply.Reply.{Reply}
use Rattle.jfs_plain.specs.declared.reply.Reply.TheVariants.{Refused}
use Rattle.jfs_turns.specs.Lists.{Lacks, HasOwn}
use Rattle.jfs_turns.specs.Standing.{Standing}
use Rattle.jfs_turns.specs.declared.view.View.{View}
use Rattle.jfs_serving.specs.Calls.{Asked, WaitsIf, IsEntryOf}
use Rattle.jfs_serving.specs.Called.{IsAnsweredAt, IsAcked}
use Rattle.jfs_serving.specs.declared.serves.Given.{Given}
use Rattle.jfs_serving.specs.declared.serves.Given.TheVariants.{Replied, NeedsLog, NoMemory}

module _ {V E : Type 0} (client : E → ℕ) (entry : E → Entry) (moment : E → Moment) (of_volume : Standing V E) (answers : Asked → V → V → Given → Type 0) where
  -- the list goes on with entries of others, and then the call's
  pub record HasJoined (a : Asked) (reply : Reply) (number : ℕ) (waits : Bool) (v w : View E) : Type 0 where
    pub before : List E
    pub mine : E
    pub list : w.list ≡ v.list ++ (before ++ mine ∷ [])
    pub others : Lacks client v.number before
    pub is : IsEntryOf client entry moment a reply mine
    pub number_is : number ≡ suc (length (v.list ++ before))
    pub answered : IsAnsweredAt of_volume answers a reply v.base (v.list ++ before)
    pub waits_is : WaitsIf waits a.request reply

  abbrev pub GaveIs : Asked → View E → View E → Given → Type 0
  GaveIs a v w (Replied reply number waits) = HasJoined a reply number waits v w
  GaveIs a v w NeedsLog = HasOwn client v.number v.list w.list
  GaveIs a v w NoMemory = HasOwn client v.number v.list w.list

-- a call with an entry takes one of the calls that are left
abbrev pub LeftIs : Given → ℕ → ℕ → Type 0
LeftIs (Replied reply number waits) old new = new + 1 ≡ old
LeftIs NeedsLog old new = new ≡ old
LeftIs NoMemory old new = new ≡ old

-- the pass knows the entry
abbrev pub IsKnown : {E : Type 0} → View E → Given → Type 0
IsKnown v (Replied reply number waits) = number ≤ length v.list
IsKnown v NeedsLog = Unit {0}
IsKnown v NoMemory = Unit {0}

-- the reply, and what is known of the entry; or want of memory
abbrev pub Ends : {L E : Type 0} → Standing L E → (L → Option Fault) → Given → Reply → Ack → View E → Type 0
Ends of_log halted (Replied given number waits) reply ack w = (reply ≡ given) × ((a : Asked) → WaitsIf waits a.request given → IsAcked of_log halted a given number w ack)
Ends of_log halted NeedsLog reply ack w = (reply ≡ Refused OutOfMemory) × (ack ≡ Pending)
Ends of_log halted NoMemory reply ack w = (reply ≡ Refused OutOfMemory) × (ack ≡ Pending)
