-- The command `log`: it prints the records of the log, whatever the volume's state is, or names what is wrong with the superblock or the log.
use Rattle.std.specs.Prelude.{◌≡◌, ◌<◌, ◌+◌, ◌-◌, ◌⊎◌, ℕ, ⊤, List, ◌∷◌, length, drop, Result, Ok, Err}
use Rattle.std.specs.Global.{Vec}
use Rattle.jfs_bits.specs.declared.rule.Rule.{Rule}
use Rattle.jfs_disk.specs.Image.{Image}
use Rattle.jfs_super.specs.declared.fields.Super.{Super}
use Rattle.jfs_super.specs.Rules.{blocks_of, IsAccepted}
use Rattle.jfs_logpages.specs.Back.{Met, FromSync}
use Rattle.jfs_logpages.specs.ReadLog.{IsReadAs, IsNotOwn, BreaksLog}
use Rattle.jfs_logpages.specs.declared.ring_text.RingText.{RingText}
use Rattle.jfs_logpages.specs.declared.error.RingError.{RingError}
use Rattle.jfs_logpages.specs.declared.error.RingError.TheVariants as errors
use Rattle.jfs_command.specs.declared.status.Status.{Status}
use Rattle.jfs_command.specs.declared.status.Status.TheVariants.{ForeignLog, BadLog}
use Rattle.jfs_command.specs.declared.status.Stop.TheVariants as stops
use Rattle.jfs_command.specs.declared.outcome.End.{End}
use Rattle.jfs_command.specs.declared.outcome.End.TheVariants.{Own, Stopped}
use Rattle.jfs_command.specs.Status.{IsOwn}
use Rattle.jfs_command.specs.Count.{Count, Stays, HasRisen}
use Rattle.jfs_command.specs.Held.{Held}
use Rattle.jfs_command.specs.LogText.{log_text}
use Rattle.jfs_command.specs.Meaning.{Meaning, Answer, finished, refused, every_status, only_looks}
use Rattle.jfs_command.specs.Superblock.{superblock_of, LooksAtSuper, AfterSuperblock}

-- the log's pages, and what lies behind them
abbrev pub log_of : Held → Super → Image
log_of held s = drop s.logpxd.addr held.image

-- a page of the log; its first one isn't used
abbrev pub IsLogPage : Super → ℕ → Type 0
IsLogPage s n = (s.logpxd.addr < n) × (n < s.logpxd.addr + s.logpxd.len)

-- page 8, where there is one, and the log of a superblock that is accepted
abbrev pub LooksAtLog : Held → ℕ → Type 0
LooksAtLog held n = LooksAtSuper held n ⊎ (IsAccepted (superblock_of held) held.pages × IsLogPage (superblock_of held) n)

-- what is answered of a log of so many pages, on a volume of so many blocks
pub data LogSays (pages blocks : ℕ) (log : Image) (answer : Answer) : Type 0 where
  -- this project's log breaks no rule: its records are printed, from the place on that the newest SYNCPT gives
  prints : (read : RingText) → IsReadAs pages blocks log read → (m : Met) → (ms : List Met) → FromSync (pages - 2) read.first blocks read.bytes.items m ms
      → answer ≡ finished (log_text (pages - 2) read.first (length read.bytes.items) (m ∷ ms)) → LogSays pages blocks log answer
  -- it has another label
  is_foreign : (label : List ℕ) → IsNotOwn pages log (errors.ForeignLog label) → answer ≡ refused (ForeignLog label) → LogSays pages blocks log answer
  -- this is the first rule that it breaks, and where
  is_bad : (address : ℕ) → (rule : Rule) → BreaksLog pages blocks log address rule → answer ≡ refused (BadLog address rule) → LogSays pages blocks log answer

-- of one log one answer is given, text and all
abbrev pub LogSaysOneThing : Type 0
LogSaysOneThing = (pages blocks : ℕ) (log : Image) (a b : Answer) → 2 < pages → LogSays pages blocks log a → LogSays pages blocks log b → a ≡ b

-- it writes nothing
abbrev pub log_meaning : Meaning
log_meaning = only_looks LooksAtLog (λ tells held. AfterSuperblock held (λ s. LogSays s.logpxd.len (blocks_of s) (log_of held s))) every_status

-- ---- for the prover: what the function that reads the log answers

-- another's label has 16 bytes, as it was read
abbrev pub HasLabel : RingError → Type 0
HasLabel (errors.ForeignLog label) = length label ≡ 16
HasLabel _ = ⊤

abbrev pub TellsLabel : Status → Type 0
TellsLabel (ForeignLog label) = length label ≡ 16
TellsLabel _ = ⊤

-- how a command ends whose log was not read
abbrev pub end_of : RingError → End
end_of (errors.Read fault) = Stopped stops.Disk
end_of (errors.ForeignLog label) = Own (ForeignLog label)
end_of (errors.BadLog address rule) = Own (BadLog address rule)
end_of errors.Memory = Stopped stops.Memory

abbrev pub LogEnds : ℕ → ℕ → Image → Count → Result (Vec ℕ) End → Type 0
LogEnds pages blocks log disk (Ok text) = LogSays pages blocks log (finished text.items) × Stays disk
LogEnds pages blocks log disk (Err (Own status)) = LogSays pages blocks log (refused status) × IsOwn status × Stays disk × TellsLabel status
LogEnds pages blocks log disk (Err (Stopped stops.Disk)) = HasRisen disk
LogEnds pages blocks log disk (Err (Stopped stops.Memory)) = ⊤
LogEnds pages blocks log disk (Err (Stopped stops.Scripts)) = ⊥
