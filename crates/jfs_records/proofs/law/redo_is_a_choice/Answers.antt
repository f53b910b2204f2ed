use Rattle.jfs_records.proofs.Choice.{is_choice}
use Rattle.jfs_records.proofs.WholeCells.{logged_cells}
use Rattle.jfs_records.proofs.law.redo_is_a_choice.Goals as goal

pub returns-clause-choice : goal.returns-clause-choice
returns-clause-choice c = is_choice

pub returns-clause-cells : goal.returns-clause-cells
returns-clause-cells c = logged_cells
