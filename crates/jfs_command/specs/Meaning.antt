-- What a command means, said of the disk alone. Faults, want of memory and the sink are no part of it.
use Rattle.std.specs.Prelude.{◌≡◌, ◌⊎◌, ℕ, List, []}
use Rattle.jfs_disk.specs.Image.{page_of}
use Rattle.jfs_disk.specs.declared.disk.Disk.{Ghosts}
use Rattle.jfs_command.specs.declared.status.Status.{Status}
use Rattle.jfs_command.specs.declared.status.Status.TheVariants.{Done}
use Rattle.jfs_command.specs.declared.status.Stop.{Stop}
use Rattle.jfs_command.specs.declared.status.Stop.TheVariants as stops
use Rattle.jfs_command.specs.declared.outcome.End.{End}
use Rattle.jfs_command.specs.declared.outcome.End.TheVariants.{Own, Stopped}
use Rattle.jfs_command.specs.declared.outcome.Outcome.{Outcome}
use Rattle.jfs_command.specs.Status.{IsOwn}
use Rattle.jfs_command.specs.Count.{Count, Faults, Stays, HasRisen}
use Rattle.jfs_command.specs.Held.{Held, IsHeld, Work, held_of, ChangesNothing}

-- a status of a command, and the whole text before the status's line
pub record Answer : Type 0 where
  pub status : Status
  pub text : List ℕ

abbrev pub finished : List ℕ → Answer
finished text = record { status = Done; text = text }

abbrev pub refused : Status → Answer
refused status = record { status = status; text = [] }

-- Each command has one, in a file of its own. `tells` and `crashes` say whether the disk tells what a read gives and what a crash
-- may leave of it: nothing is known of what another disk holds afterwards.
pub record Meaning : Type 1 where
  -- the pages that it looks at
  pub looks : Held → ℕ → Type 0
  -- its answers, each with its cause; of a disk that doesn't tell, what can be said of them
  pub says : (tells : Type 0) → Held → Answer → Type 0
  -- The statuses that are judged of each disk, and not only of one that tells. Of a disk that doesn't tell, no image fits what a
  -- command saw that looked at one page twice and saw two contents.
  pub judged : Status → Type 0
  -- the work that it has done where it comes to that status
  pub does : (tells crashes : Type 0) → Held → Status → Work → Type 0
  -- The work that it may have done where it is stopped on the way, by what stopped it, and the counts of faults meanwhile: each stop has a case of its own.
  pub stops : Stop → Faults → (tells crashes : Type 0) → Held → Work → Type 0

-- all statuses are judged of each disk
abbrev pub every_status : Status → Type 0
every_status status = Unit {0}

-- A command that has no clients and changes nothing. Only a look at a page can stop it.
abbrev pub only_looks : (Held → ℕ → Type 0) → ((tells : Type 0) → Held → Answer → Type 0) → (Status → Type 0) → Meaning
only_looks looks says judged = record {
  looks = looks;
  says = says;
  judged = judged;
  does = λ tells crashes held _ work. ChangesNothing tells crashes held work;
  stops = λ stop faults tells crashes held work. ((n : ℕ) × looks held n) × (work.text ≡ []) × ChangesNothing tells crashes held work;
}

-- two disks that are one to whoever looks at these pages alone
pub record LooksSame (looks : ℕ → Type 0) (a b : Held) : Type 0 where
  pub pages : b.pages ≡ a.pages
  pub each : (n : ℕ) → looks n → page_of b.image n ≡ page_of a.image n

-- The command comes to this status: what the disk holds says so. No page decides that isn't looked at, and no other status has its cause
-- where the disk tells, or the status is judged of each disk.
pub record ComesTo (m : Meaning) (tells crashes : Type 0) (held : Held) (status : Status) (work : Work) : Type 0 where
  pub says : m.says tells held (record { status = status; text = work.text })
  pub does : m.does tells crashes held status work
  pub looked : (other : Held) → LooksSame (m.looks held) held other → m.says tells other (record { status = status; text = work.text })
  pub one : tells ⊎ m.judged status → (other : Held) → LooksSame (m.looks held) held other → (answer : Answer) → m.says tells other answer → answer.status ≡ status

-- What stopped a command. The scripts are read before anything else is done; so a source that fails leaves no entry, and the disk as it was.
abbrev pub StopsBy : Stop → Faults → (tells crashes : Type 0) → Held → Work → Type 0
StopsBy stops.Scripts faults tells crashes held work = HasRisen faults.scripts × Stays faults.disk × ChangesNothing tells crashes held work
StopsBy stops.Disk faults tells crashes held work = HasRisen faults.disk × Stays faults.scripts
StopsBy stops.Memory faults tells crashes held work = Unit {0}

-- How a command ends by its meaning, with the faults of the disk and of the scripts' sources meanwhile.
abbrev pub EndsBy : Meaning → Type 0 → Type 0 → Held → Work → Faults → End → Type 0
EndsBy m tells crashes held work faults (Own status) = ComesTo m tells crashes held status work × IsOwn status × Stays faults.disk × Stays faults.scripts
EndsBy m tells crashes held work faults (Stopped stop) = m.stops stop faults tells crashes held work × StopsBy stop faults tells crashes held work

-- what a function that answers so did, with what the disk then holds
abbrev pub work_of : Outcome → Held → Work
work_of outcome left = record { text = outcome.text.items; history = outcome.history.items; told = outcome.told.items; held = left }

-- the faults of a disk, beside sources that none was taken from, however often calls on them had failed
abbrev pub faults_beside : ℕ → Count → Faults
faults_beside sources disk = record { disk = disk; scripts = record { before = sources; now = sources } }

-- The function of a command without scripts does what the command means.
pub record Performs {D : Type 0} (d : Ghosts D) (m : Meaning) (old new : D) (outcome : Outcome) : Type 0 where
  pub held : Held
  pub before : IsHeld d old held
  pub ends : (sources : ℕ) → EndsBy m d.tells d.tells_crashes held (work_of outcome (held_of d new)) (faults_beside sources (record { before = d.fault_count old; now = d.fault_count new })) outcome.end
