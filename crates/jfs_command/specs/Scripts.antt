-- What the scripts of a run ask for. They are read whole before anything else is done.
use Rattle.std.specs.Prelude.{◌≡◌, ◌⊎◌, ◌<◌, ◌≤◌, ℕ, suc, ⊤, List, [], ◌∷◌, length, Result, Ok, Err}
use Rattle.std.specs.Global.{Vec}
use Rattle.jfs_plain.specs.declared.call.Line.{Line}
use Rattle.jfs_script.specs.Lines.{lines_of}
use Rattle.jfs_run.specs.Tasks.{plan_of}
use Rattle.jfs_script.specs.Script.{most_lines, IsWithin, Asks, FirstBad, TooMuchIs, AllFit}
use Rattle.jfs_script.specs.declared.error.ScriptError.{ScriptError}
use Rattle.jfs_script.specs.declared.error.ScriptError.TheVariants as errors
use Rattle.jfs_command.specs.declared.status.Status.{Status}
use Rattle.jfs_command.specs.declared.status.Status.TheVariants.{BadScript, TooMuch}
use Rattle.jfs_command.specs.declared.status.Stop.TheVariants as stops
use Rattle.jfs_command.specs.declared.outcome.End.{End}
use Rattle.jfs_command.specs.declared.outcome.End.TheVariants.{Own, Stopped}
use Rattle.jfs_command.specs.Count.{Count, Stays, HasRisen}

-- the script of this client: its calls; or the first line that breaks a rule, and the first rule that it breaks; or the limit that it passes
abbrev pub ScriptSays : ℕ → List ℕ → Result (List Line) Status → Type 0
ScriptSays client text (Ok lines) = IsWithin text × Asks (lines_of text) lines
ScriptSays client text (Err (BadScript c line rule)) = (c ≡ client) × IsWithin text × FirstBad (lines_of text) line rule
ScriptSays client text (Err (TooMuch count)) = TooMuchIs text count
ScriptSays client text (Err _) = ⊥

-- Scripts of clients, from this one on: the calls of each; or what is wrong with the first of them that is wrong.
abbrev pub SayFrom : ℕ → List (List ℕ) → Result (List (List Line)) Status → Type 0
SayFrom client [] (Ok []) = Unit {0}
SayFrom client [] (Ok (lines ∷ plan)) = ⊥
SayFrom client [] (Err status) = ⊥
SayFrom client (text ∷ more) (Ok []) = ⊥
SayFrom client (text ∷ more) (Ok (lines ∷ plan)) = ScriptSays client text (Ok lines) × SayFrom (suc client) more (Ok plan)
SayFrom client (text ∷ more) (Err status) = ScriptSays client text (Err status) ⊎ ((lines : List Line) × ScriptSays client text (Ok lines) × SayFrom (suc client) more (Err status))

-- the greatest number of scripts
abbrev pub most_scripts : ℕ
most_scripts = 16

-- The scripts of a run, of which there is one at least, the first that of client 1: their number is looked at before any of them.
abbrev pub ScriptsSay : List (List ℕ) → Result (List (List Line)) Status → Type 0
ScriptsSay scripts said = ((most_scripts < length scripts) × (said ≡ Err (TooMuch (length scripts)))) ⊎ ((0 < length scripts) × (length scripts ≤ most_scripts) × SayFrom 1 scripts said)

-- ---- for the prover: what the function that reads the scripts answers

-- calls within the limits of calls, and not too many
pub record AreLines (lines : List Line) : Type 0 where
  pub fit : AllFit lines
  pub few : length lines ≤ most_lines

-- how the command ends where the script of a client was not read
abbrev pub end_of : ℕ → ScriptError → End
end_of client errors.Fault = Stopped stops.Scripts
end_of client (errors.TooMuch count) = Own (TooMuch count)
end_of client (errors.BadScript line rule) = Own (BadScript client line rule)
end_of client errors.Memory = Stopped stops.Memory

-- the answer and the faults, from what one source gave
abbrev pub OneEnds : ℕ → List ℕ → Count → Result (Vec Line) End → Type 0
OneEnds client text source (Ok lines) = ScriptSays client text (Ok lines.items) × Stays source
OneEnds client text source (Err (Own status)) = ScriptSays client text (Err status) × Stays source
OneEnds client text source (Err (Stopped stops.Scripts)) = HasRisen source
OneEnds client text source (Err (Stopped stops.Memory)) = Stays source
OneEnds client text source (Err (Stopped stops.Disk)) = ⊥

-- and from what all sources gave
abbrev pub ScriptsEnd : List (List ℕ) → Count → Result (Vec (Vec Line)) End → Type 0
ScriptsEnd scripts sources (Ok plan) = ScriptsSay scripts (Ok (plan_of plan.items)) × Stays sources
ScriptsEnd scripts sources (Err (Own status)) = ScriptsSay scripts (Err status) × Stays sources
ScriptsEnd scripts sources (Err (Stopped stops.Scripts)) = HasRisen sources
ScriptsEnd scripts sources (Err (Stopped stops.Memory)) = ⊤
ScriptsEnd scripts sources (Err (Stopped stops.Disk)) = ⊥
