use Rattle.std.proofs.Common.{◌≡◌, ◌≤◌, ℕ, List, [], ◌∷◌, length, get_or, Option, Some, None, Result, Err, refl, ap, ◌∙◌, arith}
use Rattle.std.specs.Global.{Vec}
use Rattle.uuid.specs.Text.{parsed}
use Rattle.jfs_command.specs.declared.words.Command.{Command}
use Rattle.jfs_command.specs.declared.words.Usage.{Usage}
use Rattle.jfs_command.specs.Words.{texts, after_uuid, with_uuid}
use Rattle.jfs_command.proofs.words.with_uuid.Goals as goal

abbrev third : Result Command Usage
third = Err (record { word = 3 })

nothing_read : (uuid : Option (List ℕ)) (rest : List (List ℕ)) → ((u : List ℕ) → uuid ≡ Some u → ⊥) → third ≡ after_uuid uuid rest
nothing_read None rest none = refl
nothing_read (Some u) rest none = absurd (none u refl)

not_read : (words : List (Vec ℕ)) (item : Vec ℕ) → 1 ≤ length words → item ≡ get_or words 0 item → ((u : List ℕ) → parsed item.items ≡ Some u → ⊥) → third ≡ with_uuid (texts words)
not_read [] item some is none = absurd (omega (arith, some))
not_read (word ∷ words) item some is none = nothing_read (parsed word.items) (texts words) (λ u e. none u (ap (λ (v : Vec ℕ). parsed v.items) is ∙ e))

pub returns-in-Err : goal.returns-in-Err
returns-in-Err c =
    not_read c.args.words.now c.uuid-item.result c.in-len1-up.len_at_least c.uuid-item.is
    (λ u e. let yes = c.in-Err.ensures.ok.1 (u, ap (λ (b : List ℕ). parsed b) c.deref.ensures.value ∙ e) in absurd cc)
