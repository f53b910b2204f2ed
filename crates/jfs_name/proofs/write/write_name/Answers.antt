use Rattle.jfs_name.proofs.Spelling.{read_back}
use Rattle.jfs_name.proofs.write.write_name.Goals as goal

pub returns-then-is_err-clause-read_back : goal.returns-then-is_err-clause-read_back
returns-then-is_err-clause-read_back c = λ is. read_back c.args.units.now is

pub returns-else-is_err-clause-read_back : goal.returns-else-is_err-clause-read_back
returns-else-is_err-clause-read_back c = λ is. read_back c.args.units.now is
