use Rattle.std.proofs.Common.{◌≡◌, ◌-◌}
use Rattle.jfs_gen.specs.Summary.{files_from}
use Rattle.jfs_gen.proofs.summary.files_of.Given as goal

-- with the files that are left all of them are added
abbrev pub invariant-loop-file : goal.invariant-loop-file
invariant-loop-file l = files_from l.history l.client l.file (16 - l.file) l.all ≡ files_from l.history l.client 0 16 l.fn.before
