-- A volume that halts.
use Rattle.std.proofs.Common.{[], ◌∷◌, true, sym, ap, subst}
use Rattle.std.proofs.lemmas.List.{append-nil}
use Rattle.jfs_disk.specs.declared.disk.Fault.{Fault}
use Rattle.jfs_commits_held.specs.volume_calls.specs.crash_core.specs.Step.{halted_by}
use Rattle.jfs_commits_held.specs.volume_calls.specs.halves.specs.Half.{VolumeHalf}
use Rattle.jfs_commits_held.specs.volume_calls.specs.halves.specs.Change.{LogStops}
use Rattle.jfs_commits_held.specs.volume_calls.specs.halves.specs.Parts.{Parts, StandsFor}
use Rattle.jfs_commits_held.specs.volume_calls.specs.halves.specs.Moves.{Moves}
use Rattle.jfs_kept_volumes.specs.Steps.{HaltLaw}

moves : (fault : Fault) (old : Parts) (half : VolumeHalf) → StandsFor true true old half → Moves true true old (record old { halted = halted_by fault old.halted }) half (LogStops fault ∷ [])
moves fault old half stands = record {
  fit = (tt, tt);
  stands = record {
    appended = stands.appended;
    taken = stands.taken;
    told = stands.told;
    points = stands.points;
    known = stands.known;
    number = stands.number;
    halted = ap (halted_by fault) stands.halted;
    dirty = stands.dirty;
    block_map = stands.block_map;
    inodes = stands.inodes;
    handed = stands.handed;
    entries = stands.entries;
    text = stands.text;
    freed = stands.freed;
    view = stands.view;
    disk = stands.disk;
    low = stands.low;
  };
  past = λ t k. sym (append-nil old.past);
}

pub halt_law : HaltLaw
halt_law fault old new half stands e = subst (λ (p : Parts). Moves true true old p half (LogStops fault ∷ [])) (sym e) (moves fault old half stands)
