-- What calls leave of a mounted volume's tree, on a disk that tells its contents.
use Rattle.std.specs.Prelude.{◌≡◌, ◌≢◌, ◌⊎◌, ◌<◌, ◌≤◌, ◌++◌, ◌∷◌, [], ℕ, true, List, Some, ⊤}
use Rattle.jfs_bits.specs.declared.descriptor.Moment.{Moment}
use Rattle.jfs_disk.specs.Image.{Image, page_of}
use Rattle.jfs_disk.specs.declared.disk.Fault.{Fault}
use Rattle.jfs_disk.specs.declared.disk.Part.TheVariants.{High}
use Rattle.jfs_super.specs.Rules.{blocks_of}
use Rattle.jfs_super.specs.Super.{super_of}
use Rattle.jfs_super.specs.declared.fields.TheConstants.VolumeState.{CLEAN}
use Rattle.jfs_super.specs.declared.fields.Super.{Super}
use Rattle.jfs_ranges.specs.declared.edit.Edit.{Edit}
use Rattle.jfs_shown.specs.meaning.specs.Image.{tree_of, IsConsistentImage}
use Rattle.jfs_shown.specs.meaning.specs.Image as meaning
use Rattle.jfs_call.specs.files.specs.declared.outcome.FileOutcome.TheVariants.{Changed, Same as Unchanged}
use Rattle.jfs_call.specs.volume.specs.Called.{JoinsWith, GivesBack, MayGiveBack, CallIs}
use Rattle.jfs_call.specs.volume.specs.Join.{with_entry}
use Rattle.jfs_call.specs.volume.specs.Settles.{Settles, StaysShown, HomesAlone}
use Rattle.jfs_call.specs.volume.specs.declared.calling.Called.{Called}
use Rattle.jfs_call.specs.volume.specs.data_steps.specs.declared.pages.DataPage.{DataPage}
use Rattle.jfs_call.specs.volume_calls.specs.Written.{KeepsPages, LeavesMaps}
use Rattle.jfs_call.specs.halves.specs.Log.{LogParts}
use Rattle.jfs_call.specs.halves.specs.Parts.{Parts}
use Rattle.jfs_call.specs.volume.specs.pages.specs.Device.{IsFault}
use Rattle.jfs_call.specs.plain.specs.CallStep.{writes}
use Rattle.jfs_call.specs.plain.specs.Moves.{Same}
use Rattle.jfs_call.specs.plain.specs.declared.call.Call.{Call}
use Rattle.jfs_call.specs.plain.specs.declared.call.Call.TheVariants.{Sync}
use Rattle.jfs_call.specs.plain.specs.declared.call.Entry.{Entry}
use Rattle.jfs_call.specs.plain.specs.declared.call.Request.{Request}
use Rattle.jfs_call.specs.plain.specs.declared.refusal.Refusal.TheVariants.{ReadOnly, IoFault, OutOfMemory}
use Rattle.jfs_call.specs.plain.specs.declared.reply.Reply.{Reply}
use Rattle.jfs_call.specs.plain.specs.declared.reply.Reply.TheVariants.{Done, Refused}
use Rattle.jfs_shown.specs.Files.{KnowsFiles}
use Rattle.jfs_shown.specs.kinds.specs.Images.{HasWholeFiles}
use Rattle.jfs_shown.specs.meaning.specs.Readers.{readers}
use Rattle.jfs_unmount.specs.Unmount.{IsAllHome}
use Rattle.jfs_unmount.specs.mounted.specs.Mount.{IsMountOf}
use Rattle.jfs_served.specs.Holds.{tree_at, room_at, HoldsTree, MayServe, KeepsFiles, KeepsTree, StaysServing}
use Rattle.jfs_served.specs.Step.{IsAsked, IsAnswer, TakesStep, Leaves}
use Rattle.jfs_served.specs.Legal.{Timed, IsLegal, HasServed}

-- ---- a call with a transaction

-- Its data is written, and its entry joins with its transaction: the call is done, as the plain step has it.
abbrev pub ChangedLaw : Type 0
ChangedLaw = (area : ℕ → ℕ) (log_pages : ℕ) (request : Request) (now : Moment) (tx : List Edit) (put : List DataPage) (entry : Entry) (number : ℕ) (old mid new : Parts)
    → MayServe area log_pages old → IsAsked old mid → IsAnswer request now old mid (Changed tx put) → JoinsWith ⊤ entry tx put number mid new → TakesStep area log_pages request.call now Done old new

-- It doesn't join, and what was reserved for it is free again, also where a page couldn't be read;
abbrev pub GivenBackLaw : Type 0
GivenBackLaw = (area : ℕ → ℕ) (log_pages : ℕ) (request : Request) (now : Moment) (tx : List Edit) (put : List DataPage) (old mid new : Parts)
    → MayServe area log_pages old → IsAsked old mid → IsAnswer request now old mid (Changed tx put) → GivesBack tx mid new → new.view ≡ mid.view → StaysServing area log_pages old new

-- or it stays reserved, where memory lacks.
abbrev pub UnfinishedLaw : Type 0
UnfinishedLaw = (area : ℕ → ℕ) (log_pages : ℕ) (request : Request) (now : Moment) (tx : List Edit) (put : List DataPage) (old mid new : Parts)
    → MayServe area log_pages old → IsAsked old mid → IsAnswer request now old mid (Changed tx put) → MayGiveBack tx mid new → new.view ≡ mid.view → KeepsTree area log_pages old new

-- all of it
abbrev pub CalledLaw : Type 0
CalledLaw = (area : ℕ → ℕ) (log_pages : ℕ) (request : Request) (now : Moment) (tx : List Edit) (put : List DataPage) (entry : Entry) (called : Called) (old mid new : Parts)
    → MayServe area log_pages old → IsAsked old mid → IsAnswer request now old mid (Changed tx put) → CallIs ⊤ ⊥ entry tx put mid new called → Leaves area log_pages request.call now old new called

-- ---- a call without one

-- A file call that changes nothing gets the plain step's reply, or is refused for its cause. Where memory lacks, it has no entry.
abbrev pub UnchangedLaw : Type 0
UnchangedLaw = (area : ℕ → ℕ) (log_pages : ℕ) (request : Request) (now : Moment) (reply : Reply) (entry : Entry) (old mid new : Parts)
    → MayServe area log_pages old → IsAsked old mid → IsAnswer request now old mid (Unchanged reply) → reply ≢ Refused OutOfMemory → new ≡ with_entry entry mid → TakesStep area log_pages request.call now reply old new

-- a volume that was asked, of whose map nothing was reserved; and an entry that joins alone
abbrev pub AskedLaw : Type 0
AskedLaw = (area : ℕ → ℕ) (log_pages : ℕ) (old new : Parts) → HoldsTree area log_pages old → IsAsked old new → new.map ≡ old.map → StaysServing area log_pages old new

abbrev pub JoinedLaw : Type 0
JoinedLaw = (area : ℕ → ℕ) (log_pages : ℕ) (entry : Entry) (old new : Parts) → HoldsTree area log_pages old → new ≡ with_entry entry old → StaysServing area log_pages old new

-- So a call is refused for what keeps it from the tree, and `sync` is done.
pub record RefusedLaw : Type 0 where
  pub halted : (area : ℕ → ℕ) (log_pages : ℕ) (call : Call) (now : Moment) (fault : Fault) (old new : Parts) → MayServe area log_pages old → StaysServing area log_pages old new
      → old.halted ≡ Some fault → writes call ≡ true → TakesStep area log_pages call now (Refused (ReadOnly fault)) old new
  pub failed : (area : ℕ → ℕ) (log_pages : ℕ) (call : Call) (now : Moment) (fault : Fault) (old new : Parts) → MayServe area log_pages old → StaysServing area log_pages old new
      → IsFault old.faults new.faults fault ⊎ (fault.part ≡ High) → TakesStep area log_pages call now (Refused (IoFault fault)) old new
  pub synced : (area : ℕ → ℕ) (log_pages : ℕ) (now : Moment) (old new : Parts) → MayServe area log_pages old → StaysServing area log_pages old new → TakesStep area log_pages Sync now Done old new

-- ---- between calls

-- entries are acknowledged, and their freed pages are dropped
abbrev pub AcknowledgedLaw : Type 0
AcknowledgedLaw = (area : ℕ → ℕ) (log_pages : ℕ) (old new : Parts) → HoldsTree area log_pages old → Settles old new → KeepsPages ⊤ old new → StaysServing area log_pages old new

-- a syncpoint writes the pages of the maps, too, or some of them where it fails
abbrev pub PointedLaw : Type 0
PointedLaw = (area : ℕ → ℕ) (log_pages : ℕ) (old new : Parts) → HoldsTree area log_pages old → Settles old new → StaysShown ⊤ old new → LeavesMaps old new → StaysServing area log_pages old new

-- pages go home, or the low part is synced
abbrev pub HomeLaw : Type 0
HomeLaw = (area : ℕ → ℕ) (log_pages : ℕ) (old new : Parts) → HoldsTree area log_pages old → HomesAlone ⊤ old new → StaysServing area log_pages old new

-- the entries so far are handed out
abbrev pub HandedOutLaw : Type 0
HandedOutLaw = (area : ℕ → ℕ) (log_pages : ℕ) (old new : Parts) → HoldsTree area log_pages old → new ≡ record old { entries = [] } → StaysServing area log_pages old new

-- one after the other
abbrev pub AgainLaw : Type 0
AgainLaw = (area : ℕ → ℕ) (log_pages : ℕ) (old mid new : Parts) → StaysServing area log_pages old mid → StaysServing area log_pages mid new → StaysServing area log_pages old new

-- ---- the start

-- A volume that holds the tree of an image, with its fixed areas and its room; all is known of its maps' files where no tree of theirs and of the bad blocks' breaks a rule.
pub record HoldsImage (s : Super) (page : ℕ → List ℕ) (p : Parts) : Type 0 where
  pub serves : MayServe (meaning.volume_of s page).area s.logpxd.len p
  pub tree : Same (tree_of s page) (tree_at (meaning.volume_of s page).area p)
  pub room : room_at (meaning.volume_of s page).area s.logpxd.len p ≡ meaning.room_of s page
  pub knows : HasWholeFiles (readers (blocks_of s)) page → KnowsFiles s (page_of p.view) (meaning.volume_of s page).area p.map p.inodes p.files

abbrev pub MountedLaw : Type 0
MountedLaw = (s : Super) (old : Image) (volume : Parts) (log : LogParts) → IsMountOf ⊤ ⊥ s old volume log → blocks_of s ≤ volume.blocks → IsConsistentImage s (page_of old) → HoldsImage s (page_of old) volume

-- ---- the end

-- The pages are a clean and consistent image, with the tree and the room of a volume.
pub record IsImageOf (s : Super) (area : ℕ → ℕ) (p : Parts) (page : ℕ → List ℕ) : Type 0 where
  pub superblock : super_of (page 8) ≡ record s { state = CLEAN }
  pub consistent : IsConsistentImage s page
  pub tree : Same (tree_at area p) (tree_of s page)
  pub room : meaning.room_of s page ≡ room_at area s.logpxd.len p

-- So they are of a volume that holds a tree, where all is known of its maps' files: all its pages are home, and the disk has them, but for a superblock of a clean volume.
abbrev pub UnmountedLaw : Type 0
UnmountedLaw = (s : Super) (area : ℕ → ℕ) (p : Parts) (image : Image) → HoldsTree area s.logpxd.len p → KnowsFiles s (page_of p.view) area p.map p.inodes p.files → IsAllHome p
    → super_of (page_of image 8) ≡ record s { state = CLEAN } → ((b : ℕ) → b ≢ 8 → b < p.blocks → page_of image b ≡ page_of p.view b) → IsImageOf s area p (page_of image)

-- ---- all of it

-- The replies so far are a legal history: at the start, while the volume stays, and after one call more.
pub record HistoryLaw : Type 0 where
  pub starts : (area : ℕ → ℕ) (log_pages : ℕ) (p : Parts) → MayServe area log_pages p → HasServed area log_pages p [] p
  pub stays : (area : ℕ → ℕ) (log_pages : ℕ) (start old new : Parts) (es : List Timed) → HasServed area log_pages start es old → StaysServing area log_pages old new → HasServed area log_pages start es new
  pub takes : (area : ℕ → ℕ) (log_pages : ℕ) (start old new : Parts) (es : List Timed) (e : Timed) → HasServed area log_pages start es old
      → TakesStep area log_pages e.entry.call e.now e.entry.reply old new → HasServed area log_pages start (es ++ e ∷ []) new
  -- whoever knew all of the maps' files at the start does at the end
  pub files : (area : ℕ → ℕ) (log_pages : ℕ) (start p : Parts) (es : List Timed) → IsLegal area log_pages start es p → KeepsFiles area start p
