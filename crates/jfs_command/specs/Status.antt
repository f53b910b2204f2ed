-- The number of each status, what kind it is of, and the line that names it.
use Rattle.std.specs.Prelude.{ℕ, List, [], ◌∷◌, ◌++◌, codes}
use Rattle.std.specs.Fmt.{decimal}
use Rattle.jfs_bits.specs.Rule.{name_of}
use Rattle.jfs_command.specs.declared.status.Status.{Status}
use Rattle.jfs_command.specs.declared.status.Status.TheVariants as statuses
use Rattle.jfs_command.specs.declared.status.Stop.TheVariants as stops
use Rattle.jfs_command.specs.declared.outcome.End.{End}
use Rattle.jfs_command.specs.declared.outcome.End.TheVariants.{Own, Stopped}
use Rattle.jfs_command.specs.Text.{label_text}

abbrev pub number_of : Status → ℕ
number_of statuses.Done = 0
number_of (statuses.Found count) = 1
number_of (statuses.Usage word) = 2
number_of (statuses.BadImage page rule value) = 3
number_of (statuses.BadScript client line rule) = 4
number_of statuses.ScriptFault = 5
number_of statuses.SinkFault = 6
number_of statuses.DiskFault = 7
number_of statuses.OutOfMemory = 8
number_of (statuses.ForeignLog label) = 9
number_of (statuses.BadLog address rule) = 10
number_of (statuses.TooMuch count) = 11
number_of (statuses.BadSize pages) = 12

-- What a status tells: all of the work was done, or the command or the grammar of the words refused, or one of four things stopped it.
pub data Kind : Type 0 where
  Finishes : Kind
  Refuses : Kind
  RefusesWord : ℕ → Kind
  ByScripts : Kind
  BySink : Kind
  ByDisk : Kind
  ByMemory : Kind

abbrev pub kind_of : Status → Kind
kind_of statuses.Done = Finishes
kind_of (statuses.Found count) = Finishes
kind_of (statuses.Usage word) = RefusesWord word
kind_of (statuses.BadImage page rule value) = Refuses
kind_of (statuses.BadScript client line rule) = Refuses
kind_of statuses.ScriptFault = ByScripts
kind_of statuses.SinkFault = BySink
kind_of statuses.DiskFault = ByDisk
kind_of statuses.OutOfMemory = ByMemory
kind_of (statuses.ForeignLog label) = Refuses
kind_of (statuses.BadLog address rule) = Refuses
kind_of (statuses.TooMuch count) = Refuses
kind_of (statuses.BadSize pages) = Refuses

abbrev pub IsOwnKind : Kind → Type 0
IsOwnKind Finishes = Unit {0}
IsOwnKind Refuses = Unit {0}
IsOwnKind _ = ⊥

-- a status that a command comes to by itself
abbrev pub IsOwn : Status → Type 0
IsOwn status = IsOwnKind (kind_of status)

abbrev pub sink_fault_after : Kind → Status → Status
sink_fault_after Finishes status = statuses.SinkFault
sink_fault_after _ status = status

-- the status where the sink failed while the text of this one was put
abbrev pub after_sink_fault : Status → Status
after_sink_fault status = sink_fault_after (kind_of status) status

-- the status of a command that ended so
abbrev pub status_of : End → Status
status_of (Own status) = status
status_of (Stopped stops.Scripts) = statuses.ScriptFault
status_of (Stopped stops.Disk) = statuses.DiskFault
status_of (Stopped stops.Memory) = statuses.OutOfMemory

-- the line that names a refusal or a fault; a sink that failed takes none
abbrev pub line_of : Status → List ℕ
line_of statuses.Done = []
line_of (statuses.Found count) = []
line_of (statuses.Usage word) = codes "jfsd: usage: word " ++ decimal word ++ 10 ∷ []
line_of (statuses.BadImage page rule value) =
    codes "jfsd: bad image: page " ++ decimal page ++ codes " rule " ++ name_of rule ++ codes " value " ++ decimal value ++ 10 ∷ []
line_of (statuses.BadScript client line rule) =
    codes "jfsd: bad script: client " ++ decimal client ++ codes " line " ++ decimal line ++ codes " rule " ++ name_of rule ++ 10 ∷ []
line_of statuses.ScriptFault = codes "jfsd: script fault\n"
line_of statuses.SinkFault = []
line_of statuses.DiskFault = codes "jfsd: disk fault\n"
line_of statuses.OutOfMemory = codes "jfsd: out of memory\n"
line_of (statuses.ForeignLog label) = codes "jfsd: foreign log: " ++ label_text label ++ 10 ∷ []
line_of (statuses.BadLog address rule) = codes "jfsd: bad log: address " ++ decimal address ++ codes " rule " ++ name_of rule ++ 10 ∷ []
line_of (statuses.TooMuch count) = codes "jfsd: too much: " ++ decimal count ++ 10 ∷ []
line_of (statuses.BadSize pages) = codes "jfsd: bad size: " ++ decimal pages ++ 10 ∷ []
