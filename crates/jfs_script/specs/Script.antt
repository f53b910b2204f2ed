-- A script: its lines one after the other, each with a call or skipped.
use Rattle.std.specs.Prelude.{◌≡◌, ◌⊎◌, ◌<◌, ◌≤◌, ℕ, ◌+◌, List, [], ◌∷◌, ◌++◌, length, take, Some, None, Result, Ok, Err}
use Rattle.std.specs.Global.{Vec}
use Rattle.std.specs.List.{AllByRecursion}
use Rattle.jfs_bits.specs.Count.{Rose}
use Rattle.jfs_bits.specs.declared.rule.Rule.{Rule}
use Rattle.jfs_plain.specs.declared.call.Line.{Line}
use Rattle.jfs_plain.specs.declared.call.Request.{Request}
use Rattle.jfs_plain.specs.Limits.{FitsRequest}
use Rattle.jfs_script.specs.declared.error.ScriptError.{ScriptError}
use Rattle.jfs_script.specs.declared.error.ScriptError.TheVariants as errors
use Rattle.jfs_script.specs.Lines.{lines_of}
use Rattle.jfs_script.specs.Line.{LineIs}

-- the greatest numbers of lines and bytes
abbrev pub most_lines : ℕ
most_lines = 4096

abbrev pub most_bytes : ℕ
most_bytes = 16777216

-- these lines ask for these calls, each with its line's number; lines that are skipped are counted
pub data Asks : List (List ℕ) → List Line → Type 0 where
  no_lines : (lines : List (List ℕ)) → (asked : List Line) → lines ≡ [] → asked ≡ [] → Asks lines asked
  skips : (lines : List (List ℕ)) → (asked : List Line) → (before : List (List ℕ)) → (line : List ℕ) → Asks before asked → LineIs line (Ok None) → lines ≡ before ++ line ∷ [] → Asks lines asked
  calls : (lines : List (List ℕ)) → (asked : List Line) → (before : List (List ℕ)) → (line : List ℕ) → (sooner : List Line) → (request : Request) → Asks before sooner → LineIs line (Ok (Some request))
      → lines ≡ before ++ line ∷ [] → asked ≡ sooner ++ record { number = length before + 1; request = request } ∷ [] → Asks lines asked

-- the first line that breaks a rule, and the first rule that it breaks
pub record FirstBad (lines : List (List ℕ)) (number : ℕ) (rule : Rule) : Type 0 where
  pub before : List (List ℕ)
  pub line : List ℕ
  pub after : List (List ℕ)
  pub parts : lines ≡ before ++ line ∷ after
  pub asked : List Line
  pub good : Asks before asked
  pub bad : LineIs line (Err rule)
  pub number_is : number ≡ length before + 1

-- no line and no byte too many
pub record IsWithin (text : List ℕ) : Type 0 where
  pub lines : length (lines_of text) ≤ most_lines
  pub bytes : length text ≤ most_bytes

-- The limit that is met first: a line too many that begins at one of the bytes up to the first one too many, or else that byte.
abbrev pub TooMuchIs : List ℕ → ℕ → Type 0
TooMuchIs text count =
    ((count ≡ most_lines + 1) × (most_lines < length (lines_of (take (most_bytes + 1) text))))
    ⊎ ((count ≡ most_bytes + 1) × (length (lines_of (take (most_bytes + 1) text)) ≤ most_lines) × (most_bytes < length text))

-- what a script means; want of memory is free, and a fault comes only where the source's count rose
abbrev pub Means : List ℕ → ℕ → ℕ → Result (Vec Line) ScriptError → Type 0
Means text before now (Ok lines) = IsWithin text × Asks (lines_of text) lines.items
Means text before now (Err errors.Fault) = Rose before now
Means text before now (Err (errors.TooMuch count)) = TooMuchIs text count
Means text before now (Err (errors.BadScript line rule)) = IsWithin text × FirstBad (lines_of text) line rule
Means text before now (Err errors.Memory) = Unit {0}

-- the source is at its end wherever its script was judged as a whole
abbrev pub LeavesNone : List ℕ → Result (Vec Line) ScriptError → Type 0
LeavesNone rest (Ok lines) = rest ≡ []
LeavesNone rest (Err (errors.BadScript line rule)) = rest ≡ []
LeavesNone rest (Err _) = Unit {0}

-- all calls are within the limits of calls
abbrev pub AllFit : List Line → Type 0
AllFit lines = AllByRecursion (λ line. FitsRequest line.request) lines
