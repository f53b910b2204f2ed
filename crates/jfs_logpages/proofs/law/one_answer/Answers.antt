use Rattle.jfs_logpages.proofs.OneAnswer.{has-one, looks}
use Rattle.jfs_logpages.proofs.law.one_answer.Goals as goal

pub returns-clause-one : goal.returns-clause-one
returns-clause-one c = has-one

pub returns-clause-looks : goal.returns-clause-looks
returns-clause-looks c = looks
