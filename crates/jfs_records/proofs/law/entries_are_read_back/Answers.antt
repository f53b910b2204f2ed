use Rattle.std.proofs.Common.{sym, ap, ◌∙◌, []}
use Rattle.std.proofs.lemmas.List.{append-nil}
use Rattle.jfs_records.specs.Entries.{log_records}
use Rattle.jfs_records.specs.Committed.{committed, entries_of}
use Rattle.jfs_records.proofs.ReadBack.{entries_back, length-items, front_back}
use Rattle.jfs_records.proofs.Whole.{whole_records}
use Rattle.jfs_records.proofs.Chain.{whole_log}
use Rattle.jfs_records.proofs.law.entries_are_read_back.Goals as goal

pub returns-clause-whole : goal.returns-clause-whole
returns-clause-whole c blocks most = (whole_records blocks most, λ ring at is some small fits. whole_log ring blocks at some small most is fits)

pub returns-clause-back : goal.returns-clause-back
returns-clause-back c ring at is = (
  ap committed (sym (append-nil (log_records ring at is))) ∙ entries_back ring at is [] ∙ append-nil (entries_of is),
  length-items ring at is,
  λ k. front_back ring at is k,
)
