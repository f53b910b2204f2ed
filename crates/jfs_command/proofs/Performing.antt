-- What a job's function answers is what the command means.
use Rattle.std.proofs.Common.{List, map, refl}
use Rattle.std.proofs.lemmas.List.{length-map}
use Rattle.jfs_bits.specs.declared.descriptor.Moment.{Moment}
use Rattle.jfs_disk.specs.declared.disk.Disk.{Ghosts as DiskMembers}
use Rattle.jfs_io.specs.declared.source.Source.{Ghosts as SourceMembers}
use Rattle.jfs_command.specs.declared.outcome.Outcome.{Outcome}
use Rattle.jfs_command.specs.declared.words.Command.{Command}
use Rattle.jfs_command.specs.Inputs.{source_faults}
use Rattle.jfs_command.specs.Meaning.{Performs}
use Rattle.jfs_command.specs.Meanings.{meaning_of}
use Rattle.jfs_command.specs.Top.{PerformsCommand}

-- a command without scripts leaves the sources as they were
pub without_scripts : {D S : Type 0} (d : DiskMembers D) (s : SourceMembers S) (command : Command) (now : Moment) (old new : D) (scripts : List S) (outcome : Outcome)
    → Performs d (meaning_of command (record { scripts = map s.remaining scripts; now = now })) old new outcome
    → PerformsCommand d s command now old new scripts scripts outcome
without_scripts d s command now old new scripts outcome p = record {
  inputs = record { scripts = map s.remaining scripts; now = now };
  given = record { number = length-map scripts s.remaining; scripts = λ t. refl; moment = refl };
  held = p.held;
  before = p.before;
  ends = p.ends (source_faults s scripts);
}
