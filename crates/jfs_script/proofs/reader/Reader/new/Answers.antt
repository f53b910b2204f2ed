use Rattle.std.proofs.Common.{refl, rules}
use Rattle.jfs_script.proofs.Reading.{nothing_read}
use Rattle.jfs_script.proofs.reader.Reader.new.Goals as goal

pub returns-clause-read : goal.returns-clause-read
returns-clause-read c = nothing_read _ (search rules) (search rules) refl refl
