use Rattle.jfs_command.proofs.perform.on_disk.Goals as goal

pub returns-in-Super-clause-meaning : goal.returns-in-Super-clause-meaning
returns-in-Super-clause-meaning g c = λ inputs is. rw c.in-Super.is c.show_super.ensures.meaning

pub returns-in-Log-clause-meaning : goal.returns-in-Log-clause-meaning
returns-in-Log-clause-meaning g c = λ inputs is. rw c.in-Log.is c.show_log.ensures.meaning

pub returns-in-Check-clause-meaning : goal.returns-in-Check-clause-meaning
returns-in-Check-clause-meaning g c = λ inputs is. rw c.in-Check.is c.check_volume.ensures.meaning

pub returns-in-Redo-clause-meaning : goal.returns-in-Redo-clause-meaning
returns-in-Redo-clause-meaning g c = λ inputs is. rw c.in-Redo.is c.redo_volume.ensures.meaning

pub returns-in-Format-clause-meaning : goal.returns-in-Format-clause-meaning
returns-in-Format-clause-meaning g c = λ inputs is. rw (c.in-Format.is, is) c.format_volume.ensures.meaning
