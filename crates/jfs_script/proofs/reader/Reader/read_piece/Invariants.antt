use Rattle.std.proofs.Common.{◌≡◌, ◌≤◌, ◌++◌, List, ℕ, length}
use Rattle.jfs_script.specs.Progress.{IsRead}
use Rattle.jfs_script.proofs.reader.Reader.read_piece.Given as goal

abbrev pub invariant-loop-rest : goal.invariant-loop-rest
invariant-loop-rest l =
    record {
      few : l.self.ended ≤ 4096;
      read : (front : List ℕ) → IsRead front l.initial.self → (done : List ℕ) × (l.piece ≡ done ++ l.rest) × IsRead (front ++ done) l.self;
    }

abbrev pub decreases-loop-rest : goal.decreases-loop-rest
decreases-loop-rest l = length l.rest
