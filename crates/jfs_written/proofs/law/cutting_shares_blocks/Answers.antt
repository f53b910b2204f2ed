use Rattle.jfs_written.proofs.Balances.{cut_shares, gone_is_cut}
use Rattle.jfs_written.proofs.law.cutting_shares_blocks.Goals as goal

pub returns-clause-kept : goal.returns-clause-kept
returns-clause-kept c = cut_shares

pub returns-clause-gone : goal.returns-clause-gone
returns-clause-gone c = gone_is_cut
