use Rattle.std.proofs.Common.{◌≡◌, ℕ, Bool, true, false, List, refl, sym}
use Rattle.std.specs.Str.{IsUtf8, is_utf8}
use Rattle.std.proofs.lemmas.Str.{is_utf8-from_IsUtf8, IsUtf8-from_is_utf8}
use Rattle.jfs_command.proofs.words.is_text.Goals as goal

refused : (bytes : List ℕ) (b : Bool) → b ≡ is_utf8 bytes → (IsUtf8 bytes → ⊥) → false ≡ b
refused bytes true e no_text = absurd (no_text (IsUtf8-from_is_utf8 bytes (sym e)))
refused bytes false e no_text = refl

pub returns-in-Ok : goal.returns-in-Ok
returns-in-Ok c = sym (is_utf8-from_IsUtf8 c.args.word.now c.in-Ok.ensures.cases.1)

pub returns-in-Err : goal.returns-in-Err
returns-in-Err c = refused c.args.word.now (is_utf8 c.args.word.now) refl c.in-Err.ensures.cases.0
