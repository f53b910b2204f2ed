use Rattle.jfs_written.proofs.Balances.{written_shares, range_shares}
use Rattle.jfs_written.proofs.law.writing_shares_blocks.Goals as goal

pub returns-clause-one : goal.returns-clause-one
returns-clause-one c = written_shares

pub returns-clause-range : goal.returns-clause-range
returns-clause-range c = range_shares
