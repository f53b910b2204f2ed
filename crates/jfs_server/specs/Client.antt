-- A client of a server, and what a call makes of it.
use Rattle.std.specs.Prelude.{◌≡◌, ◌⊎◌, ◌∷◌, ◌++◌, ◌||◌, ◌-◌, [], ℕ, Bool, true, false, List, length, min, Option, Some, None}
use Rattle.jfs_bits.specs.declared.descriptor.Moment.{Moment}
use Rattle.jfs_disk.specs.declared.disk.Disk.{Ghosts}
use Rattle.jfs_groups.specs.declared.log.SharedLog.{SharedLog}
use Rattle.jfs_plain.specs.declared.call.Ack.{Ack}
use Rattle.jfs_plain.specs.declared.call.Ack.TheVariants.{Pending, Durable, Failed}
use Rattle.jfs_plain.specs.declared.call.Request.{Request}
use Rattle.jfs_plain.specs.declared.reply.Reply.{Reply}
use Rattle.jfs_serving.specs.Calls.{asked}
use Rattle.jfs_shared.specs.Entries.{Recorded}
use Rattle.jfs_turns.specs.declared.turns.Pass.{Pass}
use Rattle.jfs_server.specs.Called.{KeepsPass, HasEntry, HasNone}
use Rattle.jfs_server.specs.declared.served.ServedVolume.{ServedVolume}

-- the entry had to be made durable
abbrev pub is_waiting : Ack → Bool
is_waiting Pending = false
is_waiting (Durable entry) = true
is_waiting (Failed fault) = true

-- and couldn't be
abbrev pub has_failed : Ack → Bool
has_failed Pending = false
has_failed (Durable entry) = false
has_failed (Failed fault) = true

-- the marks behind a call, which joined or not
abbrev pub marked : Bool → Ack → List Bool → List Bool
marked true ack waits = waits ++ is_waiting ack ∷ []
marked false ack waits = waits

abbrev pub fails : Bool → Ack → Bool → Bool
fails true ack failed = failed || has_failed ack
fails false ack failed = failed

module _ {D : Type 0} (d : Ghosts D) where
  -- A client: its pass, which it has between its calls, and the moment of all its calls. Of each of its entries in their order, whether it had to be made durable; and whether one couldn't be.
  pub record State : Type 0 where
    pub pass : Option (Pass (ServedVolume D) (SharedLog D d) Recorded)
    pub now : Moment
    pub waits : List Bool
    pub failed : Bool

  -- how many calls it has left, where there is room for so many marks
  abbrev pub left_of : Option (Pass (ServedVolume D) (SharedLog D d) Recorded) → ℕ → List Bool → ℕ
  left_of None room waits = 0
  left_of (Some p) room waits = min p.calls_left (room - length waits)

  -- The call has its entry, which is marked.
  pub record Joined (line : ℕ) (request : Request) (reply : Reply) (ack : Ack) (old new : State) (p q : Pass (ServedVolume D) (SharedLog D d) Recorded) : Type 0 where
    pub entry : HasEntry d (asked p.client line request old.now) reply ack p q
    pub waits : new.waits ≡ old.waits ++ is_waiting ack ∷ []
    pub failed : new.failed ≡ old.failed || has_failed ack

  -- Memory ran out, and nothing is marked.
  pub record Lacked (reply : Reply) (ack : Ack) (old new : State) (p q : Pass (ServedVolume D) (SharedLog D d) Recorded) : Type 0 where
    pub none : HasNone d reply ack p q
    pub waits : new.waits ≡ old.waits
    pub failed : new.failed ≡ old.failed

  -- a call of this line
  pub record Did (old : State) (line : ℕ) (request : Request) (reply : Reply) (ack : Ack) (new : State) : Type 0 where
    pub before : Pass (ServedVolume D) (SharedLog D d) Recorded
    pub after : Pass (ServedVolume D) (SharedLog D d) Recorded
    pub had : old.pass ≡ Some before
    pub has : new.pass ≡ Some after
    pub now : new.now ≡ old.now
    pub keeps : KeepsPass d before after
    pub called : Joined line request reply ack old new before after ⊎ Lacked reply ack old new before after
