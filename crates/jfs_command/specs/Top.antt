-- How a run of the program ends, and what it prints: once for all commands.
use Rattle.std.specs.Prelude.{◌≡◌, ◌⊎◌, ◌≤◌, ℕ, List, [], ◌++◌, Result, Ok, Err}
use Rattle.jfs_bits.specs.Count.{Rose}
use Rattle.jfs_bits.specs.declared.descriptor.Moment.{Moment}
use Rattle.jfs_disk.specs.declared.disk.Disk.{Ghosts as DiskMembers}
use Rattle.jfs_io.specs.declared.source.Source.{Ghosts as SourceMembers}
use Rattle.jfs_io.specs.declared.sink.Sink.{Ghosts as SinkMembers}
use Rattle.jfs_plain.specs.declared.call.Entry.{Entry}
use Rattle.jfs_command.specs.declared.words.Usage.{Usage}
use Rattle.jfs_command.specs.declared.words.Command.{Command}
use Rattle.jfs_command.specs.declared.status.Status.{Status}
use Rattle.jfs_command.specs.declared.status.Status.TheVariants.{OutOfMemory}
use Rattle.jfs_command.specs.declared.status.Stop.{Stop}
use Rattle.jfs_command.specs.declared.status.Stop.TheVariants as stops
use Rattle.jfs_command.specs.declared.outcome.Outcome.{Outcome}
use Rattle.jfs_command.specs.Status.{Kind, Finishes, Refuses, RefusesWord, ByScripts, BySink, ByDisk, ByMemory, kind_of, line_of}
use Rattle.jfs_command.specs.Count.{Count, Faults, Stays, HasRisen}
use Rattle.jfs_command.specs.Held.{Held, IsHeld, Work, held_of, ChangesNothing}
use Rattle.jfs_command.specs.Inputs.{Inputs, AreInputs, source_faults}
use Rattle.jfs_command.specs.Meaning.{Meaning, Answer, ComesTo, StopsBy, EndsBy, work_of}
use Rattle.jfs_command.specs.Meanings.{meaning_of}
use Rattle.jfs_command.specs.Words.{scripts_asked}
use Rattle.jfs_command.specs.Print.{IsFront, Puts}

-- What a status is judged by: what the disk tells, what the words ask, what the command was given and did, and the faults meanwhile.
pub record Run : Type 1 where
  pub tells : Type 0
  pub crashes : Type 0
  pub asked : Result Command Usage
  pub inputs : Inputs
  pub held : Held
  pub work : Work
  pub faults : Faults
  pub sink : Count

-- the command came to this status by itself
abbrev pub CameTo : Run → Status → Type 0
CameTo run status = (command : Command) × (run.asked ≡ Ok command) × ComesTo (meaning_of command run.inputs) run.tells run.crashes run.held status run.work

-- it was stopped on the way by that
abbrev pub WasStopped : Run → Stop → Type 0
WasStopped run stop = (command : Command) × (run.asked ≡ Ok command) × (meaning_of command run.inputs).stops stop run.faults run.tells run.crashes run.held run.work
    × StopsBy stop run.faults run.tells run.crashes run.held run.work

-- no call on the disk or a source failed
abbrev pub NothingFailed : Run → Type 0
NothingFailed run = Stays run.faults.disk × Stays run.faults.scripts

-- no command was begun
abbrev pub DidNothing : Run → Type 0
DidNothing run = (run.work.text ≡ []) × ChangesNothing run.tells run.crashes run.held run.work

-- The cause of a status, by its kind. Of what a run is given, one status at most has its cause beside faults and want of memory, of
-- those that are judged (`Meaning`); and where a count rose no other status comes than its own or that of want of memory, which is free.
abbrev pub EndsAs : Run → Status → Kind → Type 0
EndsAs run status Finishes = CameTo run status × NothingFailed run
EndsAs run status Refuses = CameTo run status × NothingFailed run
EndsAs run status (RefusesWord word) = (run.asked ≡ Err (record { word = word })) × DidNothing run × NothingFailed run
EndsAs run status ByScripts = WasStopped run stops.Scripts
EndsAs run status BySink = ((own : Status) × (kind_of own ≡ Finishes) × CameTo run own) × HasRisen run.sink × NothingFailed run
EndsAs run status ByDisk = WasStopped run stops.Disk
EndsAs run status ByMemory = (DidNothing run × NothingFailed run) ⊎ (((stop : Stop) × WasStopped run stop) ⊎ ((own : Status) × CameTo run own × NothingFailed run))

abbrev pub Ends : Run → Status → Type 0
Ends run status = EndsAs run status (kind_of status)

-- the whole text of a status
abbrev pub whole_text : Run → Status → List ℕ
whole_text run status = run.work.text ++ line_of status

-- all of the text; where the sink's count rose, a front of it
abbrev pub IsPrinted : Run → Status → List ℕ → Type 0
IsPrinted run status text = ((text ≡ whole_text run status) × Stays run.sink) ⊎ (IsFront text (whole_text run status) × HasRisen run.sink)

-- What is printed, by the kind of the status. Where memory ran out it is a front of the text of some status that has its cause.
abbrev pub PrintsAs : Run → Status → List ℕ → Kind → Type 0
PrintsAs run status text Finishes = (text ≡ whole_text run status) × Stays run.sink
PrintsAs run status text Refuses = IsPrinted run status text
PrintsAs run status text (RefusesWord word) = IsPrinted run status text
PrintsAs run status text ByScripts = IsPrinted run status text
PrintsAs run status text BySink = IsFront text (whole_text run status)
PrintsAs run status text ByDisk = IsPrinted run status text
PrintsAs run status text ByMemory = (cause : Status) × Ends run cause × IsFront text (whole_text run cause)

abbrev pub Prints : Run → Status → List ℕ → Type 0
Prints run status text = PrintsAs run status text (kind_of status)

-- the devices of a run, as they are before it or after it
pub record Devices (D S K : Type 0) : Type 0 where
  pub disk : D
  pub scripts : List S
  pub out : K

abbrev pub run_of : {D S K : Type 0} → DiskMembers D → SourceMembers S → SinkMembers K → Result Command Usage → Devices D S K → Devices D S K → Inputs → Held → Work → Run
run_of d s k asked old new inputs held work = record {
  tells = d.tells;
  crashes = d.tells_crashes;
  asked = asked;
  inputs = inputs;
  held = held;
  work = work;
  faults = record {
    disk = record { before = d.fault_count old.disk; now = d.fault_count new.disk };
    scripts = record { before = source_faults s old.scripts; now = source_faults s new.scripts };
  };
  sink = record { before = k.fault_count old.out; now = k.fault_count new.out };
}

-- The status of a run has its cause, and its text was put. Of a disk, sources or a sink that don't tell, there is something that
-- they may have held, given or taken with which that is so.
pub record IsAnswered {D S K : Type 0} (d : DiskMembers D) (s : SourceMembers S) (k : SinkMembers K) (asked : Result Command Usage) (now : Moment)
    (old new : Devices D S K) (status : Status) (history : List Entry) (told : List ℕ) : Type 0 where
  pub inputs : Inputs
  pub given : AreInputs s old.scripts now inputs
  pub held : Held
  pub before : IsHeld d old.disk held
  -- the text before the status's line, and what was put of both
  pub whole : List ℕ
  pub text : List ℕ
  pub put : Puts k.tells (k.taken old.out) (k.taken new.out) text
  pub ends : Ends (run_of d s k asked old new inputs held (record { text = whole; history = history; told = told; held = held_of d new.disk })) status
  pub prints : Prints (run_of d s k asked old new inputs held (record { text = whole; history = history; told = told; held = held_of d new.disk })) status text

-- Where the command means an answer of what the disk holds, and the sources give, and no count rises, the status is that answer's,
-- or memory ran out. So an image that is accepted is never refused.
abbrev pub IsComplete : {D S K : Type 0} → DiskMembers D → SourceMembers S → SinkMembers K → Result Command Usage → Moment → Devices D S K → Devices D S K → Status → Type 0
IsComplete d s k asked now old new status =
    d.tells → (s.tells ⊎ (old.scripts ≡ []))
    → (held : Held) → IsHeld d old.disk held → (inputs : Inputs) → AreInputs s old.scripts now inputs
    → (command : Command) → asked ≡ Ok command → (answer : Answer) → (meaning_of command inputs).says d.tells held answer
    → ¬ (Rose (d.fault_count old.disk) (d.fault_count new.disk)) → ¬ (Rose (source_faults s old.scripts) (source_faults s new.scripts)) → ¬ (Rose (k.fault_count old.out) (k.fault_count new.out))
    → (status ≡ answer.status) ⊎ (status ≡ OutOfMemory)

-- the disk keeps its number of pages, sources are left alone where no word named a script, and no count falls
pub record LeavesRest {D S K : Type 0} (d : DiskMembers D) (s : SourceMembers S) (k : SinkMembers K) (asked : Result Command Usage) (old new : Devices D S K) : Type 0 where
  pub pages : d.page_count new.disk ≡ d.page_count old.disk
  pub scripts : scripts_asked asked ≡ [] → new.scripts ≡ old.scripts
  pub disk_count : d.fault_count old.disk ≤ d.fault_count new.disk
  pub source_counts : source_faults s old.scripts ≤ source_faults s new.scripts
  pub sink_count : k.fault_count old.out ≤ k.fault_count new.out

-- A function does what a command means that is given these inputs: its end, and the faults of the disk and the sources meanwhile.
pub record PerformsBy {D S : Type 0} (d : DiskMembers D) (s : SourceMembers S) (meaning : Inputs → Meaning) (now : Moment) (old new : D) (scripts later_scripts : List S) (outcome : Outcome) : Type 0 where
  pub inputs : Inputs
  pub given : AreInputs s scripts now inputs
  pub held : Held
  pub before : IsHeld d old held
  pub ends : EndsBy (meaning inputs) d.tells d.tells_crashes held (work_of outcome (held_of d new))
      (record { disk = record { before = d.fault_count old; now = d.fault_count new }; scripts = record { before = source_faults s scripts; now = source_faults s later_scripts } }) outcome.end

-- a command's own function does what the command means
abbrev pub PerformsCommand : {D S : Type 0} → DiskMembers D → SourceMembers S → Command → Moment → D → D → List S → List S → Outcome → Type 0
PerformsCommand d s command now old new scripts later_scripts outcome = PerformsBy d s (meaning_of command) now old new scripts later_scripts outcome
