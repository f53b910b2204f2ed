-- The command `redo`: it redoes a volume that is mounted by its log, or says that there is nothing to redo, or names what is wrong with the superblock, the log or the maps.
use Rattle.std.specs.Prelude.{◌≡◌, ◌⊎◌, ℕ, ⊤, Bool, true, false, ◌==◌, List, [], ◌++◌, length, drop, codes, Some, None, Result, Ok, Err}
use Rattle.std.specs.Global.{Vec}
use Rattle.std.specs.Fmt.{decimal}
use Rattle.jfs_bits.specs.declared.rule.Rule.{Rule}
use Rattle.jfs_disk.specs.Image.{Image, page_of}
use Rattle.jfs_disk.specs.Crash.{last_of}
use Rattle.jfs_disk.specs.Moment.{IsResting}
use Rattle.jfs_ranges.specs.declared.edit.Edit.{Edit}
use Rattle.jfs_super.specs.declared.fields.Super.{Super}
use Rattle.jfs_super.specs.declared.fields.TheConstants.VolumeState.{CLEAN}
use Rattle.jfs_super.specs.Rules.{blocks_of, IsAccepted}
use Rattle.jfs_logpages.specs.ReadLog.{IsNotOwn, BreaksLog}
use Rattle.jfs_logpages.specs.declared.error.RingError.TheVariants as ring
use Rattle.jfs_findings_new.specs.mount_rules.specs.Subject.{subject_of}
use Rattle.jfs_findings_new.specs.mount_rules.specs.Mount.{BadMount, broken_maps}
use Rattle.jfs_redo.specs.Log.{AreCommitted}
use Rattle.jfs_redo.specs.Redo.{IsRedone, StaysBehind}
use Rattle.jfs_redo.specs.Partly.{IsRedoneMeanwhile}
use Rattle.jfs_redo.specs.declared.error.RedoError.{RedoError}
use Rattle.jfs_redo.specs.declared.error.RedoError.TheVariants as errors
use Rattle.jfs_command.specs.declared.status.Status.{Status}
use Rattle.jfs_command.specs.declared.status.Status.TheVariants.{Done, BadImage, ForeignLog, BadLog}
use Rattle.jfs_command.specs.declared.status.Stop.TheVariants as stops
use Rattle.jfs_command.specs.declared.outcome.End.{End}
use Rattle.jfs_command.specs.declared.outcome.End.TheVariants.{Own, Stopped}
use Rattle.jfs_command.specs.Status.{IsOwn}
use Rattle.jfs_command.specs.Count.{Count, Stays, HasRisen}
use Rattle.jfs_command.specs.Held.{Held, Work, ChangesNothing}
use Rattle.jfs_command.specs.Meaning.{Meaning, Answer, finished, refused}
use Rattle.jfs_command.specs.Superblock.{superblock_of, LooksAtSuper, AfterState, AfterSuperblock}

-- ---- the text

abbrev pub clean_text : List ℕ
clean_text = codes "redo clean\n"

-- how many committed transactions the log has
abbrev pub redone_text : ℕ → List ℕ
redone_text count = codes "redo " ++ decimal count ++ codes " transactions\n"

-- ---- what is answered

abbrev pub is_clean : ℕ → Bool
is_clean state = state == 0

-- of the other states it takes this one
abbrev pub is_mounted : ℕ → Bool
is_mounted state = state == 1

-- the transactions that the log commits, from the place on that its newest SYNCPT gives
abbrev pub Commits : Super → Image → List (List Edit) → Type 0
Commits s image = AreCommitted s.logpxd.len (blocks_of s) (drop s.logpxd.addr image)

-- What is answered of a volume that is mounted. Of a disk that doesn't tell, the form of the answer alone is said, since no image need fit what it gave.
pub data MountedSays (tells : Type 0) (s : Super) (image : Image) (answer : Answer) : Type 0 where
  -- neither the log nor the maps break a rule: the log's transactions are counted
  redoes : (count : ℕ) → answer ≡ finished (redone_text count)
      → (tells → (txs : List (List Edit)) × Commits s image txs × (count ≡ length txs) × (broken_maps (subject_of s (page_of image)) ≡ None)) → MountedSays tells s image answer
  -- the log has another label
  is_foreign : (label : List ℕ) → answer ≡ refused (ForeignLog label) → (tells → IsNotOwn s.logpxd.len (drop s.logpxd.addr image) (ring.ForeignLog label)) → MountedSays tells s image answer
  -- this is the first rule that the log breaks, and where
  is_bad : (address : ℕ) → (rule : Rule) → answer ≡ refused (BadLog address rule) → (tells → BreaksLog s.logpxd.len (blocks_of s) (drop s.logpxd.addr image) address rule) → MountedSays tells s image answer
  -- the log breaks none, and this is the first one that the maps break
  breaks_maps : (bad : BadMount) → answer ≡ refused (BadImage bad.page bad.rule bad.value)
      → (tells → ((txs : List (List Edit)) × Commits s image txs) × (broken_maps (subject_of s (page_of image)) ≡ Some bad)) → MountedSays tells s image answer

-- of a volume that is clean nothing is redone
abbrev pub UnlessClean : Bool → (Answer → Type 0) → Answer → Type 0
UnlessClean true Says answer = answer ≡ finished clean_text
UnlessClean false Says answer = Says answer

-- what is answered of an image whose superblock is accepted
abbrev pub RedoSays : (tells : Type 0) → Image → Super → Answer → Type 0
RedoSays tells image s = UnlessClean (is_clean s.state.0) (AfterState (is_mounted s.state.0) s.state.0 (MountedSays tells s image))

-- of one volume one answer is given, text and all
abbrev pub RedoSaysOneThing : Type 0
RedoSaysOneThing = (pages : ℕ) (s : Super) (image : Image) (a b : Answer) → IsAccepted s pages → RedoSays ⊤ image s a → RedoSays ⊤ image s b → a ≡ b

-- ---- what is done

-- the volume was mounted last, and its superblock is accepted
abbrev pub IsMounted : Super → ℕ → Type 0
IsMounted s pages = IsAccepted s pages × (is_mounted s.state.0 ≡ true)

-- page 8, where there is one, and all pages of a volume that is mounted
abbrev pub LooksAtMounted : Held → ℕ → Type 0
LooksAtMounted held n = LooksAtSuper held n ⊎ IsMounted (superblock_of held) held.pages

-- Where nothing was pending before: nothing was written, or at each moment since then a crash leaves the volume partly redone, which redo makes the same of, or redone.
abbrev pub StaysRedoable : (tells crashes : Type 0) → Super → Held → Held → Type 0
StaysRedoable tells crashes s held left = tells → crashes → IsResting (last_of held.past) → IsRedoneMeanwhile s held.image held.past left.past

-- The volume is redone by the transactions of its log, which are those that the text counts.
pub record HasRedone (tells crashes : Type 0) (s : Super) (held : Held) (work : Work) : Type 0 where
  pub history : work.history ≡ []
  pub told : work.told ≡ []
  pub volume : tells → (txs : List (List Edit)) × Commits s held.image txs × (work.text ≡ redone_text (length txs)) × IsRedone s txs held.image work.held.image
  -- it is clean; all else of the superblock stays
  pub superblock : tells → superblock_of work.held ≡ record s { state = CLEAN }
  -- the log and all else behind the file system part is as it was
  pub behind : tells → StaysBehind (blocks_of s) held.image work.held.image
  -- a crash leaves all of that
  pub stable : crashes → IsResting (last_of work.held.past)
  -- and on the way it left what may be redone again
  pub meanwhile : StaysRedoable tells crashes s held work.held

abbrev pub HasDone : (is_mounted : Bool) → (tells crashes : Type 0) → Super → Held → Work → Type 0
HasDone true tells crashes s held work = HasRedone tells crashes s held work
HasDone false tells crashes s held work = ChangesNothing tells crashes held work

-- an image that is refused is as it was
abbrev pub Redoes : Status → (tells crashes : Type 0) → Super → Held → Work → Type 0
Redoes Done tells crashes s held work = HasDone (is_mounted s.state.0) tells crashes s held work
Redoes _ tells crashes s held work = ChangesNothing tells crashes held work

-- It was stopped: the log and all else behind the file system part is as it was, and so is the volume, unless it was to be redone.
pub record HasBegun (tells crashes : Type 0) (s : Super) (held : Held) (work : Work) : Type 0 where
  pub history : work.history ≡ []
  pub told : work.told ≡ []
  pub behind : tells → StaysBehind (blocks_of s) held.image work.held.image
  pub unless : (IsMounted s held.pages → ⊥) → ChangesNothing tells crashes held work
  -- on the way it left what may be redone again
  pub meanwhile : StaysRedoable tells crashes s held work.held

-- All but page 8 may be read more than once, and refusals of page 8 and of the maps are of one kind: so a status is judged of a disk that tells alone.
abbrev pub NoneIsJudged : Status → Type 0
NoneIsJudged status = ⊥

abbrev pub redo_meaning : Meaning
redo_meaning = record {
  looks = LooksAtMounted;
  says = λ tells held. AfterSuperblock held (RedoSays tells held.image);
  judged = NoneIsJudged;
  does = λ tells crashes held status work. Redoes status tells crashes (superblock_of held) held work;
  stops = λ stop faults tells crashes held work. ((n : ℕ) × LooksAtMounted held n) × (work.text ≡ []) × HasBegun tells crashes (superblock_of held) held work;
}

-- ---- for the prover: what the functions behind the look at the superblock answer

-- how the command ends where the volume wasn't redone
abbrev pub end_of : RedoError → End
end_of (errors.Disk fault) = Stopped stops.Disk
end_of (errors.ForeignLog label) = Own (ForeignLog label)
end_of (errors.BadLog address rule) = Own (BadLog address rule)
end_of (errors.BadImage bad) = Own (BadImage bad.page bad.rule bad.value)
end_of errors.Memory = Stopped stops.Memory

-- the work of a command without clients that printed this and left that
abbrev pub work_with : List ℕ → Held → Work
work_with text left = record { text = text; history = []; told = []; held = left }

-- the answer, the work and the faults, from what a disk held to what it holds
abbrev pub RedoEnds : (tells crashes : Type 0) → Super → Held → Held → Count → Result (Vec ℕ) End → Type 0
RedoEnds tells crashes s held left disk (Ok text) = RedoSays tells held.image s (finished text.items) × Redoes Done tells crashes s held (work_with text.items left) × Stays disk
RedoEnds tells crashes s held left disk (Err (Own status)) = RedoSays tells held.image s (refused status) × Redoes status tells crashes s held (work_with [] left) × IsOwn status × Stays disk
RedoEnds tells crashes s held left disk (Err (Stopped stops.Disk)) = HasBegun tells crashes s held (work_with [] left) × HasRisen disk
RedoEnds tells crashes s held left disk (Err (Stopped stops.Memory)) = HasBegun tells crashes s held (work_with [] left)
RedoEnds tells crashes s held left disk (Err (Stopped stops.Scripts)) = ⊥
