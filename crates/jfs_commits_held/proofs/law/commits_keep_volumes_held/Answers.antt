use Rattle.jfs_commits_held.proofs.Committed.{commit_law}
use Rattle.jfs_commits_held.proofs.law.commits_keep_volumes_held.Goals as goal

pub returns : goal.returns
returns c = commit_law
