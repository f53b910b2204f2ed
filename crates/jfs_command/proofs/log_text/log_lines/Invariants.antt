use Rattle.std.proofs.Common.{◌≡◌, ℕ, List, length, map, reverse, string_bytes}
use Rattle.jfs_logpages.specs.Back.{Met, AreMet}
use Rattle.jfs_command.proofs.LogLines.{Left}
use Rattle.jfs_command.proofs.log_text.log_lines.Given as goal

abbrev pub invariant-loop-end : goal.invariant-loop-end
invariant-loop-end l = (all : List Met) → (from : ℕ) → AreMet l.blocks l.read.bytes.items from all → map (λ x. x.end) all ≡ reverse l.read.ends.items
    → Left l.blocks l.read.bytes.items l.read.ring l.read.first all l.rest (string_bytes l.out)

abbrev pub decreases-loop-end : goal.decreases-loop-end
decreases-loop-end l = length l.rest
