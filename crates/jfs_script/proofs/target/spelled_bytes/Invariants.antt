use Rattle.std.proofs.Common.{◌++◌, List, ℕ, length}
use Rattle.std.specs.Prelude.{Option, option_map}
use Rattle.jfs_script.specs.Target.{Spells}
use Rattle.jfs_script.proofs.target.spelled_bytes.Given as goal

-- what the rest spells, the text spells with the bytes before it
abbrev pub invariant-loop-first : goal.invariant-loop-first
invariant-loop-first l = (more : Option (List ℕ)) → Spells l.rest more → Spells l.text (option_map (λ (bs : List ℕ). l.bytes ++ bs) more)

abbrev pub decreases-loop-first : goal.decreases-loop-first
decreases-loop-first l = length l.rest
