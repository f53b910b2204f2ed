-- How a call is answered that is lent the log.
use Rattle.std.specs.Prelude.{◌≡◌, ◌⊎◌, [], ℕ, Bool, true, false, length, Option, Some, None}
use Rattle.jfs_disk.specs.declared.disk.Fault.{Fault}
use Rattle.jfs_files.specs.Written.{renames}
use Rattle.jfs_plain.specs.CallStep.{writes}
use Rattle.jfs_plain.specs.declared.call.Request.{Request}
use Rattle.jfs_plain.specs.declared.refusal.Refusal.{Refusal}
use Rattle.jfs_plain.specs.declared.refusal.Refusal.TheVariants.{IoFault}
use Rattle.jfs_plain.specs.declared.reply.Reply.{Reply}
use Rattle.jfs_plain.specs.declared.reply.Reply.TheVariants.{Done, Refused}
use Rattle.jfs_volume_calls.specs.halves.specs.Parts.{Parts}
use Rattle.jfs_volume_calls.specs.halves.specs.Log.{LogParts}
use Rattle.jfs_volume_calls.specs.Together.{AreTogether}
use Rattle.jfs_volume_calls.specs.Syncpoint.{IsFaultOfEither}
use Rattle.jfs_call.specs.Answer.{HasEntry, TellsHeld, MayWait, held}
use Rattle.jfs_call.specs.declared.outcome.Outcome.{Outcome}
use Rattle.jfs_call.specs.declared.outcome.Outcome.TheVariants.{Replied, NeedsLog, NoMemory}

-- a volume and its log, between calls
abbrev pub AreBoth : Parts → LogParts → Type 0
AreBoth p l = p.halted ≡ None → AreTogether p l

-- the counts of faults of the low part and of the log's, before and now
pub record Counts : Type 0 where
  pub low : ℕ
  pub low_now : ℕ
  pub high : ℕ
  pub high_now : ℕ

abbrev pub no_faults : Counts → Type 0
no_faults c = (c.low_now ≡ c.low) × (c.high_now ≡ c.high)

abbrev pub IsFaultIn : Counts → Fault → Type 0
IsFaultIn c fault = IsFaultOfEither c.low c.low_now c.high c.high_now fault

-- A count rises with a refusal for its fault alone, or where memory lacks for the reply.
abbrev pub RefusedIn : Counts → Refusal → Type 0
RefusedIn c (IoFault fault) = IsFaultIn c fault
RefusedIn c _ = no_faults c

abbrev pub RepliedIn : Counts → Reply → Type 0
RepliedIn c (Refused why) = RefusedIn c why
RepliedIn c _ = no_faults c

abbrev pub HasCauseIn : Counts → Outcome → Type 0
HasCauseIn c (Replied reply entry waits) = RepliedIn c reply
HasCauseIn c NeedsLog = ⊥
HasCauseIn c NoMemory = no_faults c ⊎ ((fault : Fault) × IsFaultIn c fault)

-- the volume goes on as it did, or halts at a fault of this call
abbrev pub KeepsHaltedIn : Counts → Option Fault → Option Fault → Type 0
KeepsHaltedIn c old new = (new ≡ old) ⊎ ((fault : Fault) × IsFaultIn c fault × (old ≡ None) × (new ≡ Some fault))

-- One that is done, and doesn't wait, is lazy, or has no record in the log: what waits for a group is what waited before, or nothing. If it is a call that may change something, it is a rename.
pub record StaysDoneIn (request : Request) (old new : Parts) : Type 0 where
  pub text : (new.text.bytes ≡ old.text.bytes) ⊎ (new.text.bytes ≡ [])
  pub renames_it : writes request.call ≡ true → renames request.call ≡ true

abbrev pub MayGoOnIn : Request → Reply → Parts → Parts → Type 0
MayGoOnIn request reply old new = reply ≡ Done → request.lazy ≡ false → StaysDoneIn request old new

abbrev pub WaitsIfIn : Bool → Request → Reply → Parts → Parts → Type 0
WaitsIfIn true request reply old new = MayWait request reply new
WaitsIfIn false request reply old new = MayGoOnIn request reply old new

abbrev pub WaitsIn : Request → Parts → Parts → Outcome → Type 0
WaitsIn request old new (Replied reply entry waits) = WaitsIfIn waits request reply old new
WaitsIn request old new NeedsLog = Unit {0}
WaitsIn request old new NoMemory = Unit {0}

-- what a call leaves that commits or makes a syncpoint first
pub record KeepsSize (old new : Parts) : Type 0 where
  pub blocks : new.blocks ≡ old.blocks
  pub size : length new.map.states ≡ length old.map.states
  pub limit : new.limit ≡ old.limit
  pub count : new.count ≡ old.count
  pub room : new.room ≡ old.room

pub record IsAnsweredLent (client line : ℕ) (request : Request) (old new : Parts) (log : LogParts) (counts : Counts) (outcome : Outcome) : Type 0 where
  pub entry : HasEntry client line request old new outcome
  pub cause : HasCauseIn counts outcome
  pub held_is : TellsHeld (held old.halted request.call) outcome
  pub waits : WaitsIn request old new outcome
  pub halted : KeepsHaltedIn counts old.halted new.halted
  pub keeps : KeepsSize old new
  pub both : AreBoth new log
