-- A script has one meaning.
use Rattle.std.specs.Prelude.{◌≡◌, ℕ, List}
use Rattle.jfs_bits.specs.declared.rule.Rule.{Rule}
use Rattle.jfs_plain.specs.declared.call.Line.{Line}
use Rattle.jfs_script.specs.Lines.{lines_of}
use Rattle.jfs_script.specs.Script.{IsWithin, Asks, FirstBad, TooMuchIs}

-- what a script means: its calls; or the first bad line and its rule; or that there is too much of it
pub data Meant : Type 0 where
  asks : List Line → Meant
  is_bad : ℕ → Rule → Meant
  is_too_much : ℕ → Meant

abbrev pub MeansScript : List ℕ → Meant → Type 0
MeansScript text (asks lines) = IsWithin text × Asks (lines_of text) lines
MeansScript text (is_bad line rule) = IsWithin text × FirstBad (lines_of text) line rule
MeansScript text (is_too_much count) = TooMuchIs text count

abbrev pub ScriptsMeanOneThing : Type 0
ScriptsMeanOneThing = (text : List ℕ) (a b : Meant) → MeansScript text a → MeansScript text b → a ≡ b
