-- The commands with clients, `run` and `gen`: they redo a volume that is mounted, do the calls of the clients' scripts on it, and unmount it, unless it is to be left mounted. Or they name what is wrong with the scripts, the superblock, the log or the maps.
use Rattle.std.specs.Prelude.{◌≡◌, ◌⊎◌, ℕ, ⊤, Bool, true, false, ◌||◌, List, [], ◌++◌, length, Option, Some, None, Ok, Err}
use Rattle.jfs_bits.specs.declared.descriptor.Moment.{Moment}
use Rattle.jfs_disk.specs.Image.{Image, page_of, ArePages}
use Rattle.jfs_disk.specs.Crash.{DiskState, last_of}
use Rattle.jfs_disk.specs.Moment.{IsResting}
use Rattle.jfs_ranges.specs.declared.edit.Edit.{Edit}
use Rattle.jfs_super.specs.declared.fields.Super.{Super}
use Rattle.jfs_super.specs.declared.fields.TheConstants.VolumeState.{CLEAN}
use Rattle.jfs_super.specs.Rules.{blocks_of, IsAccepted}
use Rattle.jfs_redo.specs.Redo.{IsRedone, StaysBehind}
use Rattle.jfs_findings_new.specs.mount_rules.specs.Subject.{subject_of}
use Rattle.jfs_findings_new.specs.mount_rules.specs.Mount.{BadMount, broken_maps, broken_mount}
use Rattle.jfs_findings_new.specs.meaning.specs.Image.{IsConsistentImage}
use Rattle.jfs_plain.specs.declared.call.Entry.{Entry}
use Rattle.jfs_gen.specs.Summary.{summary_text}
use Rattle.jfs_script.specs.History.{history_text, done_text}
use Rattle.jfs_run.specs.declared.run.RunEnd.{RunEnd}
use Rattle.jfs_run.specs.declared.run.RunEnd.TheVariants as ran
use Rattle.jfs_run.specs.Calls.{Calls, HaveEntries, AllTold, NoCalls, AllCalled, SomeCalled, any_failed}
use Rattle.jfs_run.specs.Left.{IsLeftRun, IsLeftNeverMounted}
use Rattle.jfs_run.specs.Legal.{IsLegalRun, LeavesImage}
use Rattle.jfs_run.specs.Run.{StayBeside}
use Rattle.jfs_run.specs.kept_history.specs.Keepable.{IsKeepableImage}
use Rattle.jfs_run.specs.kept_history.specs.mounted_maps.specs.Keepable.{IsKeepable}
use Rattle.jfs_command.specs.declared.status.Status.{Status}
use Rattle.jfs_command.specs.declared.status.Status.TheVariants as statuses
use Rattle.jfs_command.specs.declared.status.Stop.{Stop}
use Rattle.jfs_command.specs.declared.status.Stop.TheVariants as stops
use Rattle.jfs_command.specs.declared.outcome.End.{End}
use Rattle.jfs_command.specs.declared.outcome.End.TheVariants.{Own, Stopped as ByStop}
use Rattle.jfs_command.specs.Status.{Refuses, IsOwn, kind_of}
use Rattle.jfs_command.specs.Count.{Count, Faults, Stays, HasRisen}
use Rattle.jfs_command.specs.Held.{Held, Work, ChangesNothing}
use Rattle.jfs_command.specs.Meaning.{Meaning, Answer, finished, refused}
use Rattle.jfs_command.specs.Redo.{redone_text, is_clean, is_mounted, Commits, MountedSays, StaysRedoable}
use Rattle.jfs_command.specs.declared.printed.Printed.{Printed}
use Rattle.jfs_command.specs.declared.printed.Printed.TheVariants.{History, Summary}
use Rattle.jfs_command.specs.Order.{Planned, Order, by_scripts, Asks, IsTaken}
use Rattle.jfs_command.specs.Superblock.{superblock_of, LooksAtSuper, AfterState, AfterSuperblock}

-- ---- the text

-- a line for each entry; of one that was told durable it says so
abbrev pub entries_text : Calls → List ℕ
entries_text c = history_text 1 c.told c.history

-- and then how many there are of both
abbrev pub ran_text : Calls → List ℕ
ran_text c = entries_text c ++ done_text (length c.history) (length c.told)

-- of a run that is done
abbrev pub whole_text : Printed → Calls → List ℕ
whole_text History c = ran_text c
whole_text (Summary clients) c = summary_text c.history clients

-- of one that was stopped; a summary is of a whole history alone
abbrev pub front_text : Printed → Calls → List ℕ
front_text History c = entries_text c
front_text (Summary clients) c = []

-- ---- what is answered

-- What is answered of a volume that is clean. Which replies the calls have is free here. Of a disk that doesn't tell, the form of the answer alone is said, since no image need fit what it gave.
pub data CleanSays (tells : Type 0) (p : Planned) (s : Super) (image : Image) (answer : Answer) : Type 0 where
  -- no rule of a mount is broken: each client's line has its own entry, and each entry that waits was told durable
  runs : (c : Calls) → HaveEntries p.plan c.history → AllTold c → answer ≡ finished (whole_text p.printed c) → (tells → broken_mount (subject_of s (page_of image)) ≡ None) → CleanSays tells p s image answer
  -- this is the first rule of a mount that is broken
  breaks : (bad : BadMount) → answer ≡ refused (statuses.BadImage bad.page bad.rule bad.value) → (tells → broken_mount (subject_of s (page_of image)) ≡ Some bad) → CleanSays tells p s image answer

-- it takes a volume that is clean or mounted
abbrev pub is_ready : ℕ → Bool
is_ready state = is_clean state || is_mounted state

-- what calls begin on: the superblock and what a read gives, and what is printed before them
pub record Start : Type 0 where
  pub super : Super
  pub image : Image
  pub text : List ℕ

abbrev pub cleaned : Super → Super
cleaned s = record s { state = CLEAN }

-- What redo may make of a volume, by so many transactions of its log: an image of whole pages. It is said of some image with the pages that were redone.
pub record IsRedoneBy (s : Super) (image redone : Image) (count : ℕ) : Type 0 where
  pub like : Image
  pub same : (n : ℕ) → page_of like n ≡ page_of image n
  pub txs : List (List Edit)
  pub commits : Commits s like txs
  pub count_is : count ≡ length txs
  pub unbroken : broken_maps (subject_of s (page_of like)) ≡ None
  pub redo : IsRedone s txs like redone
  pub whole : ArePages (length redone) redone

-- A volume that is clean as it is; one that is mounted once it is redone, of which a line tells.
pub data BeginsOn (tells : Type 0) (s : Super) (image : Image) (start : Start) : Type 0 where
  as_it_is : is_clean s.state.0 ≡ true → start ≡ record { super = s; image = image; text = [] } → BeginsOn tells s image start
  as_redone : is_mounted s.state.0 ≡ true → (count : ℕ) → start.super ≡ cleaned s → start.text ≡ redone_text count → (tells → IsRedoneBy s image start.image count) → BeginsOn tells s image start

abbrev pub behind : List ℕ → Answer → Answer
behind text answer = record { status = answer.status; text = text ++ answer.text }

pub data ReadySays (tells : Type 0) (p : Planned) (s : Super) (image : Image) (answer : Answer) : Type 0 where
  begins : (start : Start) → BeginsOn tells s image start → (rest : Answer) → CleanSays tells p start.super start.image rest → answer ≡ behind start.text rest → ReadySays tells p s image answer
  -- what redo refuses
  not_redone : is_mounted s.state.0 ≡ true → (status : Status) → kind_of status ≡ Refuses → answer ≡ refused status → MountedSays tells s image answer → ReadySays tells p s image answer

-- what is answered of an image whose superblock is accepted; a volume in another state is refused
abbrev pub LinesSay : (tells : Type 0) → Planned → Image → Super → Answer → Type 0
LinesSay tells p image s = AfterState (is_ready s.state.0) s.state.0 (ReadySays tells p s image)

-- what is answered: scripts that are refused are so by themselves, whatever the disk holds
pub data RunSays (tells : Type 0) (order : Order) (held : Held) (answer : Answer) : Type 0 where
  refuses : (status : Status) → Asks order (Err status) → answer ≡ refused status → RunSays tells order held answer
  takes : (p : Planned) → Asks order (Ok p) → AfterSuperblock held (LinesSay tells p held.image) answer → RunSays tells order held answer

-- of scripts and a volume all answers have one status
abbrev pub RunSaysOneThing : Type 0
RunSaysOneThing = (scripts : List (List ℕ)) (held : Held) (a b : Answer) → RunSays ⊤ (by_scripts scripts) held a → RunSays ⊤ (by_scripts scripts) held b → a.status ≡ b.status

-- The scripts are read once. All else may be read more than once, and refusals of page 8 and of the maps are of one kind: so these are judged of a disk that tells alone.
abbrev pub IsOfScripts : Status → Type 0
IsOfScripts (statuses.BadScript client line rule) = Unit {0}
IsOfScripts (statuses.TooMuch count) = Unit {0}
IsOfScripts _ = ⊥

-- ---- what is done

-- the volume is clean or mounted, and its superblock is accepted
abbrev pub IsReady : Super → ℕ → Type 0
IsReady s pages = IsAccepted s pages × (is_ready s.state.0 ≡ true)

-- page 8, where there is one, and all pages of a volume that is ready
abbrev pub LooksAtReady : Held → ℕ → Type 0
LooksAtReady held n = LooksAtSuper held n ⊎ IsReady (superblock_of held) held.pages

-- none where the scripts are refused
abbrev pub LooksAtRun : Order → Held → ℕ → Type 0
LooksAtRun order held n = IsTaken order × LooksAtReady held n

-- what became of the calls
abbrev pub calls_of : Work → Calls
calls_of work = record { history = work.history; told = work.told }

-- On a consistent image, the replies are those of a plain file tree that is at first the image's, each call handed this moment.
abbrev pub AreReplies : (tells : Type 0) → Super → Image → Moment → List Entry → Type 0
AreReplies tells s image now history = tells → IsConsistentImage s (page_of image) → IsLegalRun s (page_of image) now history

-- Each client's lines were called, in their order, each entry that waits was told durable, and the text is that of both.
pub record HasRun (tells crashes : Type 0) (p : Planned) (is_left : Bool) (now : Moment) (start : Start) (work : Work) : Type 0 where
  pub entries : HaveEntries p.plan work.history
  pub told : AllTold (calls_of work)
  -- no call was refused for a fault of the disk
  pub calm : any_failed work.history ≡ false
  pub replies : AreReplies tells start.super start.image now work.history
  pub text : work.text ≡ start.text ++ whole_text p.printed (calls_of work)
  -- Unless the volume was to be left, it was unmounted: page 8 is the one that it had, and a crash leaves all of the disk, which is an image of the tree behind the last reply.
  pub superblock : is_left ≡ false → tells → page_of work.held.image 8 ≡ page_of start.image 8
  pub stable : is_left ≡ false → crashes → IsResting (last_of work.held.past)
  pub image : is_left ≡ false → tells → LeavesImage start.super start.image now work.history work.held.image
  -- Of an image that was keepable, as one is on which a check finds nothing, it is keepable again.
  pub again : is_left ≡ false → tells → crashes → IsKeepableImage start.super start.image → IsKeepable start.super (page_of work.held.image)
  -- Redo makes of whatever a crash leaves what a front of the calls leaves, with all that were told durable; or that is such an image, where the volume wasn't to be left.
  pub left : tells → crashes → IsKeepableImage start.super start.image → IsLeftRun start.super start.image now is_left (calls_of work) (last_of work.held.past)

-- it was redone, and nothing else
pub record HasOnlyRedone (tells crashes : Type 0) (start : Start) (work : Work) : Type 0 where
  pub history : work.history ≡ []
  pub told : work.told ≡ []
  pub text : work.text ≡ start.text
  pub image : tells → work.held.image ≡ start.image
  pub stable : crashes → IsResting (last_of work.held.past)

-- calls begin on a volume that was mounted
abbrev pub BeginsOnRedone : (tells : Type 0) → Super → Image → Start → Type 0
BeginsOnRedone tells s image start = (is_mounted s.state.0 ≡ true) × BeginsOn tells s image start

-- What was refused is as it was; or the volume was redone, and a rule of a mount is broken then.
abbrev pub Runs : Status → (tells crashes : Type 0) → Order → Bool → Moment → Held → Work → Type 0
Runs statuses.Done tells crashes order is_left now held work =
    (p : Planned) × Asks order (Ok p) × (start : Start) × BeginsOn tells (superblock_of held) held.image start × HasRun tells crashes p is_left now start work
Runs (statuses.BadImage page rule value) tells crashes order is_left now held work =
    ChangesNothing tells crashes held work ⊎ ((start : Start) × BeginsOnRedone tells (superblock_of held) held.image start × HasOnlyRedone tells crashes start work)
Runs _ tells crashes order is_left now held work = ChangesNothing tells crashes held work

-- a disk on which no volume was to be run is as it was
abbrev pub Spares : (tells crashes : Type 0) → Order → Held → Work → Type 0
Spares tells crashes order held work = ((IsTaken order × IsReady (superblock_of held) held.pages) → ⊥) → ChangesNothing tells crashes held work

-- nothing was called, and all pages but page 8 and the log's are as they were
abbrev pub CallsNone : (tells : Type 0) → Start → Work → Type 0
CallsNone tells start work = NoCalls (calls_of work) × (tells → StayBeside start.super start.image work.held.image)

-- no rule of a mount is broken
abbrev pub MayBegin : (tells : Type 0) → Start → Type 0
MayBegin tells start = tells → broken_mount (subject_of start.super (page_of start.image)) ≡ None

-- The volume was to be redone, and that was stopped: nothing was called, and the log and all else behind the file system part is as it was.
pub record HasBegunRedo (tells crashes : Type 0) (s : Super) (held : Held) (work : Work) : Type 0 where
  pub mounted : is_mounted s.state.0 ≡ true
  pub calls : NoCalls (calls_of work)
  pub text : work.text ≡ []
  pub stays : tells → StaysBehind (blocks_of s) held.image work.held.image
  pub meanwhile : StaysRedoable tells crashes s held work.held

-- Also where calls were stopped, redo makes of whatever a crash leaves of the disk what a front of them leaves, with all that were told durable; or that is a clean image of the tree behind the last reply, where the volume was being unmounted. Or no line was called: all pages but page 8 and the log's are as they were, and where nothing was pending when calls were to begin, a crash leaves the tree that they begin on, or a disk that is redone to it.
abbrev pub LeavesCalls : (tells crashes : Type 0) → Bool → Moment → Start → (rests : Type 0) → Work → Type 0
LeavesCalls tells crashes is_left now start rests work = tells → crashes → IsKeepableImage start.super start.image
    → (NoCalls (calls_of work) × IsLeftNeverMounted start.super start.image work.held.image rests (last_of work.held.past)) ⊎ IsLeftRun start.super start.image now is_left (calls_of work) (last_of work.held.past)

-- The disk failed before the volume was mounted, and no line was called; or later, and then each was.
pub record FailsOn (tells crashes : Type 0) (p : Planned) (is_left : Bool) (now : Moment) (start : Start) (rests : Type 0) (work : Work) : Type 0 where
  pub called : CallsNone tells start work ⊎ (AllCalled p.plan (calls_of work) × MayBegin tells start)
  pub replies : AreReplies tells start.super start.image now work.history
  pub text : work.text ≡ start.text ++ front_text p.printed (calls_of work)
  pub left : LeavesCalls tells crashes is_left now start rests work

-- Memory ran out: a front of each client's lines was called, and unless a call on the disk failed each of their entries that waits was told, and none was refused for a fault. Where there was none for the text, none is printed.
pub record RunsOutOn (disk : Count) (tells crashes : Type 0) (p : Planned) (is_left : Bool) (now : Moment) (start : Start) (rests : Type 0) (work : Work) : Type 0 where
  pub called : CallsNone tells start work ⊎ (SomeCalled p.plan (calls_of work) × MayBegin tells start)
  pub told : HasRisen disk ⊎ AllTold (calls_of work)
  pub calm : HasRisen disk ⊎ (any_failed work.history ≡ false)
  pub replies : AreReplies tells start.super start.image now work.history
  pub text : (work.text ≡ start.text ++ front_text p.printed (calls_of work)) ⊎ (work.text ≡ [])
  pub left : LeavesCalls tells crashes is_left now start rests work

-- nothing was done yet; or redo was stopped; or the calls were
abbrev pub Stopped : (tells crashes : Type 0) → (Start → Type 0) → Super → Held → Work → Type 0
Stopped tells crashes calls s held work =
    ((work.text ≡ []) × ChangesNothing tells crashes held work) ⊎ (HasBegunRedo tells crashes s held work ⊎ ((start : Start) × BeginsOn tells s held.image start × calls start))

-- nothing is pending on the disk where calls begin: a volume that is mounted is redone first, and synced
abbrev pub RestsAtFirst : Super → Held → Type 0
RestsAtFirst s held = (is_mounted s.state.0 ≡ true) ⊎ IsResting (last_of held.past)

pub record HasFailed (tells crashes : Type 0) (order : Order) (is_left : Bool) (now : Moment) (held : Held) (work : Work) : Type 0 where
  pub planned : Planned
  pub taken : Asks order (Ok planned)
  pub looked : (n : ℕ) × LooksAtRun order held n
  pub done : Stopped tells crashes (λ start. FailsOn tells crashes planned is_left now start (RestsAtFirst (superblock_of held) held) work) (superblock_of held) held work
  pub spares : Spares tells crashes order held work

pub record HasRunOut (disk : Count) (tells crashes : Type 0) (order : Order) (is_left : Bool) (now : Moment) (held : Held) (work : Work) : Type 0 where
  pub done : Stopped tells crashes (λ start. (p : Planned) × Asks order (Ok p) × RunsOutOn disk tells crashes p is_left now start (RestsAtFirst (superblock_of held) held) work) (superblock_of held) held work
  pub spares : Spares tells crashes order held work

abbrev pub RunStops : Stop → Faults → (tells crashes : Type 0) → Order → Bool → Moment → Held → Work → Type 0
RunStops stops.Scripts faults tells crashes order is_left now held work = work.text ≡ []
RunStops stops.Disk faults tells crashes order is_left now held work = HasFailed tells crashes order is_left now held work
RunStops stops.Memory faults tells crashes order is_left now held work = HasRunOut faults.disk tells crashes order is_left now held work

abbrev pub run_meaning : Bool → Order → Moment → Meaning
run_meaning is_left order now = record {
  looks = LooksAtRun order;
  says = λ tells held answer. RunSays tells order held answer;
  judged = IsOfScripts;
  does = λ tells crashes held status work. Runs status tells crashes order is_left now held work;
  stops = λ stop faults tells crashes held work. RunStops stop faults tells crashes order is_left now held work;
}

-- ---- for the prover: what the functions behind the look at the superblock answer

-- how the command ends by the end of the run
abbrev pub end_of : RunEnd → End
end_of ran.Done = Own statuses.Done
end_of (ran.BadImage bad) = Own (statuses.BadImage bad.page bad.rule bad.value)
end_of ran.Disk = ByStop stops.Disk
end_of ran.Memory = ByStop stops.Memory

-- the line of a redo, if there was one
abbrev pub text_before : Option ℕ → List ℕ
text_before None = []
text_before (Some count) = redone_text count

-- a run that was refused called nothing, and nothing is printed of it
abbrev pub text_after : Printed → RunEnd → Calls → List ℕ
text_after printed ran.Done c = whole_text printed c
text_after printed (ran.BadImage bad) c = []
text_after printed ran.Disk c = front_text printed c
text_after printed ran.Memory c = front_text printed c

abbrev pub text_of : Option ℕ → Printed → RunEnd → Calls → List ℕ
text_of redone printed end c = text_before redone ++ text_after printed end c

-- the end and the text of a run, unless there is no memory for the text
abbrev pub Tells : Option ℕ → Printed → RunEnd → Calls → End → List ℕ → Type 0
Tells redone printed ran c end text = ((end ≡ end_of ran) × (text ≡ text_of redone printed ran c)) ⊎ ((end ≡ ByStop stops.Memory) × (text ≡ []))

-- a rule of a mount is broken
pub record IsLeft (tells crashes : Type 0) (start : Start) (past : List DiskState) (work : Work) : Type 0 where
  pub history : work.history ≡ []
  pub told : work.told ≡ []
  pub text : work.text ≡ start.text
  pub image : tells → work.held.image ≡ start.image
  pub past_is : crashes → work.held.past ≡ past

abbrev pub DoesOn : Status → (tells crashes : Type 0) → Planned → Bool → Moment → Start → List DiskState → Work → Type 0
DoesOn statuses.Done tells crashes p is_left now start past work = HasRun tells crashes p is_left now start work
DoesOn (statuses.BadImage page rule value) tells crashes p is_left now start past work = IsLeft tells crashes start past work
DoesOn _ tells crashes p is_left now start past work = ⊥

-- the answer, the work and the faults of what calls begin on, of a disk with these past states
abbrev pub StartEnds : (tells crashes : Type 0) → Planned → Bool → Moment → Start → List DiskState → Work → Count → End → Type 0
StartEnds tells crashes p is_left now start past work disk (Own status) =
    (rest : Answer) × CleanSays tells p start.super start.image rest × (rest.status ≡ status) × (work.text ≡ start.text ++ rest.text) × DoesOn status tells crashes p is_left now start past work × Stays disk
StartEnds tells crashes p is_left now start past work disk (ByStop stops.Disk) = FailsOn tells crashes p is_left now start (IsResting (last_of past)) work × HasRisen disk
StartEnds tells crashes p is_left now start past work disk (ByStop stops.Memory) = RunsOutOn disk tells crashes p is_left now start (IsResting (last_of past)) work
StartEnds tells crashes p is_left now start past work disk (ByStop stops.Scripts) = ⊥

abbrev pub DoesLines : Status → (tells crashes : Type 0) → Planned → Bool → Moment → Super → Held → Work → Type 0
DoesLines statuses.Done tells crashes p is_left now s held work = (start : Start) × BeginsOn tells s held.image start × HasRun tells crashes p is_left now start work
DoesLines (statuses.BadImage page rule value) tells crashes p is_left now s held work =
    ChangesNothing tells crashes held work ⊎ ((start : Start) × BeginsOnRedone tells s held.image start × HasOnlyRedone tells crashes start work)
DoesLines _ tells crashes p is_left now s held work = ChangesNothing tells crashes held work

-- the answer, the work and the faults, from what a disk held
abbrev pub LinesEnd : (tells crashes : Type 0) → Planned → Bool → Moment → Super → Held → Work → Count → End → Type 0
LinesEnd tells crashes p is_left now s held work disk (Own status) =
    LinesSay tells p held.image s (record { status = status; text = work.text }) × DoesLines status tells crashes p is_left now s held work × IsOwn status × Stays disk
LinesEnd tells crashes p is_left now s held work disk (ByStop stops.Disk) =
    Stopped tells crashes (λ start. FailsOn tells crashes p is_left now start (RestsAtFirst s held) work) s held work × HasRisen disk × (is_ready s.state.0 ≡ true)
LinesEnd tells crashes p is_left now s held work disk (ByStop stops.Memory) =
    Stopped tells crashes (λ start. RunsOutOn disk tells crashes p is_left now start (RestsAtFirst s held) work) s held work × (is_ready s.state.0 ≡ true)
LinesEnd tells crashes p is_left now s held work disk (ByStop stops.Scripts) = ⊥
