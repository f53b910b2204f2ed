-- How a call is answered, and what becomes of the volume's counts and of its list of entries.
use Rattle.std.specs.Prelude.{◌≡◌, ◌⊎◌, ◌∷◌, ◌++◌, ◌+◌, [], ℕ, Bool, true, false, length, if◌then◌else◌, Option, Some, None}
use Rattle.jfs_bits.specs.Count.{Rose}
use Rattle.jfs_disk.specs.declared.disk.Fault.{Fault}
use Rattle.jfs_volume_calls.specs.pages.specs.Device.{IsFault}
use Rattle.jfs_files.specs.Written.{renames}
use Rattle.jfs_plain.specs.CallStep.{writes}
use Rattle.jfs_plain.specs.declared.call.Call.{Call}
use Rattle.jfs_plain.specs.declared.call.Entry.{Entry}
use Rattle.jfs_plain.specs.declared.call.Request.{Request}
use Rattle.jfs_plain.specs.declared.refusal.Refusal.{Refusal}
use Rattle.jfs_plain.specs.declared.refusal.Refusal.TheVariants.{ReadOnly, IoFault}
use Rattle.jfs_plain.specs.declared.reply.Reply.{Reply}
use Rattle.jfs_plain.specs.declared.reply.Reply.TheVariants.{Done, Refused}
use Rattle.jfs_volume_calls.specs.halves.specs.Parts.{Parts}
use Rattle.jfs_volume_calls.specs.volume.specs.Join.{entry_with}
use Rattle.jfs_call.specs.declared.outcome.Outcome.{Outcome}
use Rattle.jfs_call.specs.declared.outcome.Outcome.TheVariants.{Replied, NeedsLog, NoMemory}

-- ---- the list of entries

-- the entry joins, with its number
pub record Joins (entry : Entry) (number : ℕ) (old new : Parts) : Type 0 where
  pub entries : new.entries ≡ old.entries ++ entry ∷ []
  pub appended : new.appended ≡ old.appended + 1
  pub number_is : number ≡ new.appended

-- no entry joins
pub record JoinsNone (old new : Parts) : Type 0 where
  pub entries : new.entries ≡ old.entries
  pub appended : new.appended ≡ old.appended

-- Exactly a call that is replied has an entry, with its client, its line and its reply.
abbrev pub HasEntry : ℕ → ℕ → Request → Parts → Parts → Outcome → Type 0
HasEntry client line request old new (Replied reply entry waits) = Joins (entry_with client line request reply) entry old new
HasEntry client line request old new NeedsLog = JoinsNone old new
HasEntry client line request old new NoMemory = JoinsNone old new

-- ---- faults of the low part

-- The count rises with a refusal for its fault alone, or where memory lacks for the reply.
abbrev pub RefusedBy : ℕ → ℕ → Refusal → Type 0
RefusedBy before now (IoFault fault) = IsFault before now fault
RefusedBy before now _ = now ≡ before

abbrev pub RepliedBy : ℕ → ℕ → Reply → Type 0
RepliedBy before now (Refused why) = RefusedBy before now why
RepliedBy before now _ = now ≡ before

abbrev pub HasCause : ℕ → ℕ → Outcome → Type 0
HasCause before now (Replied reply entry waits) = RepliedBy before now reply
HasCause before now NeedsLog = now ≡ before
HasCause before now NoMemory = (now ≡ before) ⊎ Rose before now

-- ---- halted volumes

-- the fault for which a halted volume refuses a call
abbrev pub held : Option Fault → Call → Option Fault
held halted call = if writes call then halted else None

abbrev pub is_read_only : Reply → Bool
is_read_only (Refused (ReadOnly fault)) = true
is_read_only _ = false

abbrev pub IsHeld : Option Fault → Reply → Type 0
IsHeld (Some fault) reply = reply ≡ Refused (ReadOnly fault)
IsHeld None reply = is_read_only reply ≡ false

-- Exactly a call that a halted volume refuses is answered so, with the fault that halted it.
abbrev pub TellsHeld : Option Fault → Outcome → Type 0
TellsHeld held (Replied reply entry waits) = IsHeld held reply
TellsHeld held NeedsLog = held ≡ None
TellsHeld held NoMemory = Unit {0}

-- the volume goes on as it did, or halts at a fault of this call
abbrev pub KeepsHalted : ℕ → ℕ → Option Fault → Option Fault → Type 0
KeepsHalted before now old new = (new ≡ old) ⊎ ((fault : Fault) × IsFault before now fault × (old ≡ None) × (new ≡ Some fault))

-- A call that needs the log halts nothing, and nothing more waits for a group.
abbrev pub HaltsBy : Parts → Parts → Outcome → Type 0
HaltsBy old new (Replied reply entry waits) = KeepsHalted old.faults new.faults old.halted new.halted
HaltsBy old new NeedsLog = (new.halted ≡ old.halted) × (new.text.bytes ≡ old.text.bytes)
HaltsBy old new NoMemory = KeepsHalted old.faults new.faults old.halted new.halted

-- ---- calls that wait

-- A call waits where it is done, may change the tree or is `sync`, and isn't lazy.
pub record MayWait (request : Request) (reply : Reply) (new : Parts) : Type 0 where
  pub reply_is : reply ≡ Done
  pub writes_it : writes request.call ≡ true
  pub eager : request.lazy ≡ false
  pub runs : new.halted ≡ None

-- one that is done and doesn't wait is lazy, or changes nothing
pub record LeavesAll (old new : Parts) : Type 0 where
  pub map : new.map ≡ old.map
  pub inodes : new.inodes ≡ old.inodes
  pub dirty : new.dirty ≡ old.dirty
  pub text : new.text.bytes ≡ old.text.bytes

-- and if it is a call that may change something, then a rename
pub record StaysDone (request : Request) (old new : Parts) : Type 0 where
  pub leaves : LeavesAll old new
  pub renames_it : writes request.call ≡ true → renames request.call ≡ true

abbrev pub MayGoOn : Request → Reply → Parts → Parts → Type 0
MayGoOn request reply old new = reply ≡ Done → request.lazy ≡ false → StaysDone request old new

abbrev pub WaitsIf : Bool → Request → Reply → Parts → Parts → Type 0
WaitsIf true request reply old new = MayWait request reply new
WaitsIf false request reply old new = MayGoOn request reply old new

abbrev pub Waits : Request → Parts → Parts → Outcome → Type 0
Waits request old new (Replied reply entry waits) = WaitsIf waits request reply old new
Waits request old new NeedsLog = Unit {0}
Waits request old new NoMemory = Unit {0}

-- ---- what stays

-- no group is taken, nothing is acknowledged, and the parts of the disk are as they were
pub record Keeps (old new : Parts) : Type 0 where
  pub blocks : new.blocks ≡ old.blocks
  pub size : length new.map.states ≡ length old.map.states
  pub limit : new.limit ≡ old.limit
  pub count : new.count ≡ old.count
  pub room : new.room ≡ old.room
  pub taken : new.taken ≡ old.taken
  pub told : new.told ≡ old.told
  pub points : new.points ≡ old.points
  pub ring : new.text.ring ≡ old.text.ring
  pub place : new.text.place ≡ old.text.place

-- ---- all of it

pub record IsAnswered (client line : ℕ) (request : Request) (old new : Parts) (outcome : Outcome) : Type 0 where
  pub entry : HasEntry client line request old new outcome
  pub cause : HasCause old.faults new.faults outcome
  pub held_is : TellsHeld (held old.halted request.call) outcome
  pub halted : HaltsBy old new outcome
  pub waits : Waits request old new outcome
  pub keeps : Keeps old new
