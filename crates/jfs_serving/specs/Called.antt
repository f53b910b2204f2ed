-- What a client's call tells of its pass.
use Rattle.std.specs.Prelude.{◌≡◌, ◌≤◌, ℕ, suc, Bool, List, ◌∷◌, ◌++◌, length, Option}
use Rattle.jfs_bits.specs.declared.descriptor.Moment.{Moment}
use Rattle.jfs_disk.specs.declared.disk.Fault.{Fault}
use Rattle.jfs_plain.specs.declared.call.Ack.{Ack}
use Rattle.jfs_plain.specs.declared.call.Ack.TheVariants as acks
use Rattle.jfs_plain.specs.declared.call.Entry.{Entry}
use Rattle.jfs_plain.specs.declared.refusal.Refusal.TheVariants.{OutOfMemory}
use Rattle.jfs_plain.specs.declared.reply.Reply.{Reply}
use Rattle.jfs_plain.specs.declared.reply.Reply.TheVariants.{Refused}
use Rattle.jfs_turns.specs.Lists.{Base, IsPrefix, Lacks, HasOwn}
use Rattle.jfs_turns.specs.Standing.{Standing}
use Rattle.jfs_turns.specs.declared.view.View.{View}
use Rattle.jfs_groups.specs.Commit.{HasFailed}
use Rattle.jfs_serving.specs.Calls.{Asked, MayWait, MayGoOn, IsEntryOf}
use Rattle.jfs_serving.specs.declared.serves.Given.{Given}
use Rattle.jfs_serving.specs.declared.serves.Given.TheVariants.{Replied}

-- What a pass knows goes on, its list aside: the pass and its base are the same, its syncpoints go on, and its bounds don't fall.
pub record Keeps {E : Type 0} (v w : View E) : Type 0 where
  pub number : w.number ≡ v.number
  pub base : w.base ≡ v.base
  pub passes : (w.dealt ≡ v.dealt) × (w.back ≡ v.back) × (w.returned ≡ v.returned)
  pub points : IsPrefix v.points w.points
  pub durable : v.durable ≤ w.durable
  pub stable : v.stable ≤ w.stable

module _ {L E : Type 0} (of_log : Standing L E) (halted : L → Option Fault) where
  -- What is known of the call's entry on the disk: that it is durable, or that the log has failed and it isn't; or it doesn't wait.
  abbrev pub IsAcked : Asked → Reply → ℕ → View E → Ack → Type 0
  IsAcked a reply number w acks.Pending = MayGoOn a.request reply
  IsAcked a reply number w (acks.Durable told) = MayWait a.request reply × (told ≡ number) × (number ≤ w.durable)
  IsAcked a reply number w (acks.Failed fault) = MayWait a.request reply × HasFailed of_log halted number w fault

-- The volume gave this answer when it stood for this list.
pub record IsAnsweredAt {V E : Type 0} (of_volume : Standing V E) (answers : Asked → V → V → Given → Type 0) (a : Asked) (reply : Reply) (base : Base) (list : List E) : Type 0 where
  pub before : V
  pub after : V
  pub waits : Bool
  pub stands : (taken : ℕ) × (told : ℕ) × (points : List ℕ) × (known : ℕ) × of_volume before base list taken told points known
  pub answered : answers a before after (Replied reply (suc (length list)) waits)

-- It has no entry: memory ran out. Entries of other clients may have joined.
pub record HasNoEntry {E : Type 0} (client : E → ℕ) (reply : Reply) (ack : Ack) (v w : View E) : Type 0 where
  pub reply_is : reply ≡ Refused OutOfMemory
  pub ack_is : ack ≡ acks.Pending
  pub list : HasOwn client v.number v.list w.list

-- how entries show their calls, what the two values stand for, what a volume says of an answer, and the fault by which a log has halted
module _ {V L E : Type 0} (client : E → ℕ) (entry : E → Entry) (moment : E → Moment) (of_volume : Standing V E) (of_log : Standing L E) (answers : Asked → V → V → Given → Type 0) (halted : L → Option Fault) where
  -- The call has its entry. Before and behind it stand entries of other clients alone.
  pub record HasCalled (a : Asked) (reply : Reply) (ack : Ack) (v w : View E) : Type 0 where
    pub before : List E
    pub mine : E
    pub after : List E
    pub list : w.list ≡ v.list ++ (before ++ mine ∷ after)
    pub others_before : Lacks client v.number before
    pub others_after : Lacks client v.number after
    pub is : IsEntryOf client entry moment a reply mine
    pub acked : IsAcked of_log halted a reply (suc (length (v.list ++ before))) w ack
    pub answered : IsAnsweredAt of_volume answers a reply v.base (v.list ++ before)
