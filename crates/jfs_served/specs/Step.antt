-- A call on a mounted volume takes a step of a plain file tree.
use Rattle.std.specs.Prelude.{◌≡◌, ◌⊎◌, ℕ, Some}
use Rattle.jfs_bits.specs.declared.descriptor.Moment.{Moment}
use Rattle.jfs_disk.specs.Image.{page_of}
use Rattle.jfs_disk.specs.declared.disk.Fault.{Fault}
use Rattle.jfs_disk.specs.declared.disk.Part.TheVariants.{Low, High}
use Rattle.jfs_call.specs.files.specs.Outcome.{CarriesOutcome, MapsAfter, IfMounted, AnswersOr, Wants}
use Rattle.jfs_call.specs.files.specs.Written.{FitsData, Starts, FreesOrTaken}
use Rattle.jfs_call.specs.files.specs.Bytes.{bars}
use Rattle.jfs_call.specs.files.specs.declared.outcome.FileOutcome.{FileOutcome}
use Rattle.jfs_call.specs.volume.specs.Asked.{maps_in}
use Rattle.jfs_call.specs.volume.specs.Join.{with_entry}
use Rattle.jfs_call.specs.volume.specs.declared.calling.Called.{Called}
use Rattle.jfs_call.specs.volume.specs.declared.calling.Called.TheVariants.{Entered, NoRoom, NoMemory, Failed, Unfit}
use Rattle.jfs_call.specs.halves.specs.Parts.{Parts}
use Rattle.jfs_call.specs.volume.specs.pages.specs.Device.{IsFault}
use Rattle.jfs_call.specs.plain.specs.CallStep.{Causes, CallStep}
use Rattle.jfs_call.specs.plain.specs.Step.{outcome}
use Rattle.jfs_call.specs.plain.specs.declared.call.Call.{Call}
use Rattle.jfs_call.specs.plain.specs.declared.call.Entry.{Entry}
use Rattle.jfs_call.specs.plain.specs.declared.call.Request.{Request}
use Rattle.jfs_call.specs.plain.specs.declared.refusal.Refusal.TheVariants.{Damaged, IoFault}
use Rattle.jfs_call.specs.plain.specs.declared.reply.Reply.{Reply}
use Rattle.jfs_call.specs.plain.specs.declared.reply.Reply.TheVariants.{Done, Refused}
use Rattle.jfs_served.specs.Holds.{blocks_at, tree_at, room_at, MayServe, KeepsFiles, KeepsTree, StaysServing}
use Rattle.jfs_served.specs.Follows.{FollowsBy}

-- the low part, that has had so many faults
abbrev pub low_fault : ℕ → Fault
low_fault n = record { part = Low; count = n }

-- A volume was asked for something: nothing of it changes but the block map, by what is reserved.
pub record IsAsked (old mid : Parts) : Type 0 where
  pub parts : mid ≡ record old { view = mid.view; disk = mid.disk; past = mid.past; faults = mid.faults; map = mid.map }
  pub view : mid.view ≡ old.view

-- What a file call answers of a volume whose disk tells its contents: each clause that says something of the tree. The parts are those before it, and those with what it reserves.
pub record IsAnswer (request : Request) (now : Moment) (old mid : Parts) (answer : FileOutcome) : Type 0 where
  pub fault : CarriesOutcome (low_fault old.faults) (low_fault mid.faults) answer
  pub maps : MapsAfter (maps_in old) (maps_in mid) answer
  pub contents : FitsData (blocks_at old) answer
  pub follows : IfMounted (blocks_at old) (page_of old.view) (maps_in old) (λ v room.
      AnswersOr (bars (blocks_at old) (page_of old.view) (maps_in old) request.call) (blocks_at old) old.map v (Wants (maps_in old) request.call) (λ t. outcome room t request.call now) answer)
  pub starts : IfMounted (blocks_at old) (page_of old.view) (maps_in old) (λ v room. Starts (blocks_at old) v request.call answer)
  pub own : IfMounted (blocks_at old) (page_of old.view) (maps_in old) (λ v room. FreesOrTaken v.used answer)

-- What a call may be refused for beside its tree: the volume had halted; the disk failed in the call, in its low part, whose count rose, or in the log's; or the tree of the file that is written to is too deep.
abbrev pub causes_of : Call → Parts → Parts → Causes
causes_of call old new = record {
  halted = λ fault. old.halted ≡ Some fault;
  failed = λ fault. IsFault old.faults new.faults fault ⊎ (fault.part ≡ High);
  damaged = λ page rule. bars (blocks_at old) (page_of old.view) (maps_in old) call (Damaged page rule);
}

-- Of the tree before, with the room before, the call gets this reply, and leaves the tree after.
abbrev pub Steps : (ℕ → ℕ) → ℕ → Call → Moment → Reply → Parts → Parts → Type 0
Steps area log_pages call now reply old new = CallStep (causes_of call old new) (tree_at area old) (room_at area log_pages old) call now reply (tree_at area new)

-- The volume after it follows from the one before by a transaction, keeps its tree, or, where the call was refused for a fault, has other bytes in blocks of a file's own or of nobody; and the next one may come, with all known of the maps' files that was.
pub record TakesStep (area : ℕ → ℕ) (log_pages : ℕ) (call : Call) (now : Moment) (reply : Reply) (old new : Parts) : Type 0 where
  pub step : Steps area log_pages call now reply old new
  pub follows : FollowsBy area log_pages call reply old new
  pub serves : MayServe area log_pages new
  pub files : KeepsFiles area old new

-- ---- a transaction that is to be appended

-- What becomes of the tree, by what the volume answers: the call is done; or it needs the log, and may be asked again; or memory lacks. A page that couldn't be read leaves the tree; where the write of its data failed the volume has halted. The call is refused for this fault once its entry has joined.
abbrev pub Leaves : (area : ℕ → ℕ) (log_pages : ℕ) → Call → Moment → Parts → Parts → Called → Type 0
Leaves area log_pages call now old new (Entered number) = TakesStep area log_pages call now Done old new
Leaves area log_pages call now old new NoRoom = StaysServing area log_pages old new
Leaves area log_pages call now old new NoMemory = KeepsTree area log_pages old new
Leaves area log_pages call now old new Unfit = KeepsTree area log_pages old new
Leaves area log_pages call now old new (Failed fault) =
    IsFault old.faults new.faults fault × ((StaysServing area log_pages old new ⊎ (new.halted ≡ Some fault)) × ((entry : Entry) → TakesStep area log_pages call now (Refused (IoFault fault)) old (with_entry entry new)))
