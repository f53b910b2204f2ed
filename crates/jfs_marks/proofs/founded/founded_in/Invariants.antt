use Rattle.std.proofs.Common.{◌≡◌, drop}
use Rattle.jfs_marks.specs.Founded.{FitsFounded, founded_with, founded_in}
use Rattle.jfs_marks.proofs.founded.founded_in.Given as goal

abbrev pub invariant-loop-edit : goal.invariant-loop-edit
invariant-loop-edit l = record {
  value : founded_with (drop l.edit-index l.edits) l.founded ≡ founded_in l.edits;
  small : FitsFounded l.founded;
}
