-- How far a script is read: the lines that have ended, and the one that is open.
use Rattle.std.specs.Prelude.{◌≡◌, ◌≢◌, ◌<◌, ◌≤◌, ℕ, ◌+◌, List, ◌++◌, length, Option, Some, None, Result, Ok, Err}
use Rattle.std.specs.Global.{Vec}
use Rattle.std.specs.List.{AllByRecursion}
use Rattle.jfs_plain.specs.declared.call.Line.{Line}
use Rattle.jfs_script.specs.declared.error.ScriptError.{ScriptError}
use Rattle.jfs_script.specs.declared.error.ScriptError.TheVariants as errors
use Rattle.jfs_script.specs.declared.reader.BadLine.{BadLine}
use Rattle.jfs_script.specs.declared.reader.Reader.{Reader}
use Rattle.jfs_script.specs.Lines.{lines_of}
use Rattle.jfs_script.specs.Script.{most_lines, Asks, FirstBad}

abbrev pub NoFeed : List ℕ → Type 0
NoFeed bytes = AllByRecursion (λ b. b ≢ 10) bytes

-- the lines that have ended ask for these calls, or one of them is the first bad one
abbrev pub Judged : List (List ℕ) → Option BadLine → List Line → Type 0
Judged ended None asked = Asks ended asked
Judged ended (Some bad) asked = FirstBad ended bad.number bad.rule

pub record IsRead (front : List ℕ) (reader : Reader) : Type 0 where
  pub ended : List (List ℕ)
  pub lines : (more : List ℕ) → lines_of (front ++ more) ≡ ended ++ lines_of (reader.open.items ++ more)
  pub count : reader.ended ≡ length ended
  pub few : length ended ≤ most_lines
  pub room : 0 < length reader.open.items → length ended < most_lines
  pub one : NoFeed reader.open.items
  pub judged : Judged ended reader.bad reader.asked.items

-- more begins a line too many, whatever follows
abbrev pub IsFull : List ℕ → Type 0
IsFull front = (more : List ℕ) → most_lines < length (lines_of (front ++ more))

-- why the reading of these bytes stopped: want of memory, or they begin a line too many
abbrev pub IsStopped : ScriptError → List ℕ → Type 0
IsStopped errors.Memory text = Unit {0}
IsStopped (errors.TooMuch count) text = (count ≡ most_lines + 1) × IsFull text
IsStopped errors.Fault text = ⊥
IsStopped (errors.BadScript line rule) text = ⊥

-- what a script of these bytes means, if it isn't too long
abbrev pub IsFinished : List ℕ → Result (Vec Line) ScriptError → Type 0
IsFinished text (Ok asked) = (length (lines_of text) ≤ most_lines) × Asks (lines_of text) asked.items
IsFinished text (Err (errors.BadScript line rule)) = (length (lines_of text) ≤ most_lines) × FirstBad (lines_of text) line rule
IsFinished text (Err errors.Memory) = Unit {0}
IsFinished text (Err errors.Fault) = ⊥
IsFinished text (Err (errors.TooMuch count)) = ⊥
