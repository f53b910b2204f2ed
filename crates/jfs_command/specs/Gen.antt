-- The command `gen`: a run by generated scripts, of which a summary is printed.
use Rattle.std.specs.Prelude.{ℕ, false}
use Rattle.jfs_bits.specs.declared.descriptor.Moment.{Moment}
use Rattle.jfs_command.specs.Meaning.{Meaning}
use Rattle.jfs_command.specs.Order.{by_number}
use Rattle.jfs_command.specs.Run.{run_meaning}

abbrev pub gen_meaning : ℕ → ℕ → ℕ → Moment → Meaning
gen_meaning number calls clients now = run_meaning false (by_number number calls clients) now
