-- A volume that is asked.
use Rattle.std.specs.Bool.{⊤}
use Rattle.std.proofs.Common.{◌≡◌, ℕ, List, true, refl, sym, ap, ◌∙◌, subst}
use Rattle.std.proofs.lemmas.List.{append-nil}
use Rattle.jfs_disk.specs.Image.{Image}
use Rattle.jfs_disk.specs.Crash.{DiskState}
use Rattle.jfs_kept_volumes.specs.volume_calls.specs.halves.specs.Half.{VolumeHalf}
use Rattle.jfs_kept_volumes.specs.volume_calls.specs.halves.specs.Change.{SameStates}
use Rattle.jfs_kept_volumes.specs.volume_calls.specs.halves.specs.Parts.{Parts, StandsFor}
use Rattle.jfs_kept_volumes.specs.volume_calls.specs.volume.specs.Append.{unreserved}
use Rattle.jfs_kept_volumes.specs.volume_calls.specs.volume.specs.Asked.{IsAskedOf}
use Rattle.jfs_kept_volumes.specs.volume_calls.specs.volume.specs.bmap.specs.States.{Blocks}
use Rattle.jfs_kept_volumes.specs.joined_held.specs.held.specs.Held.{Mount}
use Rattle.jfs_kept_volumes.specs.Keeper.{Keeper}
use Rattle.jfs_kept_volumes.specs.Kept.{IsHeldAtRest}
use Rattle.jfs_kept_volumes.specs.Reserved.{shown_with}
use Rattle.jfs_kept_volumes.proofs.Reserved.{reserved_law}
use Rattle.jfs_entries_kept.specs.Entries.{AskedLaw, UnreservedLaw}

-- nothing else of its parts changes than the count of faults and the map
pub alone : (old new : Parts) → IsAskedOf ⊤ ⊤ old new → new ≡ record old { faults = new.faults; map = new.map }
alone old new asked =
    asked.parts
    ∙ ap (λ (view : Image). record old { view = view; disk = new.disk; past = new.past; faults = new.faults; map = new.map }) (asked.view tt)
    ∙ ap (λ (disk : Image). record old { disk = disk; past = new.past; faults = new.faults; map = new.map }) (asked.disk.image tt)
    ∙ ap (λ (past : List DiskState). record old { past = past; faults = new.faults; map = new.map }) (asked.disk.states tt)

-- no half tells how often a part has failed
pub with_faults : (faults : ℕ) (p : Parts) (half : VolumeHalf) → StandsFor true true p half → StandsFor true true (record p { faults = faults }) half
with_faults faults p half stands = record {
  appended = stands.appended;
  taken = stands.taken;
  told = stands.told;
  points = stands.points;
  known = stands.known;
  number = stands.number;
  halted = stands.halted;
  dirty = stands.dirty;
  block_map = stands.block_map;
  inodes = stands.inodes;
  handed = stands.handed;
  entries = stands.entries;
  text = stands.text;
  freed = stands.freed;
  view = stands.view;
  disk = stands.disk;
  low = stands.low;
}

-- nor how much memory the map has
pub with_map : (map : Blocks) (p : Parts) (half : VolumeHalf) → SameStates map p.map → StandsFor true true p half → StandsFor true true (record p { map = map }) half
with_map map p half same stands = record {
  appended = stands.appended;
  taken = stands.taken;
  told = stands.told;
  points = stands.points;
  known = stands.known;
  number = stands.number;
  halted = stands.halted;
  dirty = stands.dirty;
  block_map = record { states = same.states ∙ stands.block_map.states; agsize = same.agsize ∙ stands.block_map.agsize };
  inodes = stands.inodes;
  handed = stands.handed;
  entries = stands.entries;
  text = stands.text;
  freed = stands.freed;
  view = stands.view;
  disk = stands.disk;
  low = stands.low;
}

held_with : (m : Mount) (area : ℕ → ℕ) (faults : ℕ) (p : Parts) (x : Keeper) → IsHeldAtRest m area p x → IsHeldAtRest m area (record p { faults = faults }) x
held_with m area faults p x is = record {
  held = record { held = is.held.held; readers_are = is.held.readers_are; blocks = is.held.blocks; extents = is.held.extents; within = is.held.within };
  stands = with_faults faults p x.both.volume is.stands;
  rest = is.rest;
  maps = is.maps;
}

pub asked_law : AskedLaw
asked_law m area old new x is asked same = record {
  rests = subst (λ (p : Parts). IsHeldAtRest m area p (shown_with new.map x)) (sym (alone old new asked))
      (held_with m area new.faults (record old { map = new.map }) (shown_with new.map x) (reserved_law m area old new.map x is same));
  grows = record { history = sym (append-nil x.both.volume.history); points_are = sym (append-nil x.both.volume.points); volumes = λ k low. refl; mounted = refl };
}

pub unreserved_law : UnreservedLaw
unreserved_law m area tx old mid x is asked same =
    subst (λ (p : Parts). StandsFor true true p x.both.volume) (sym (ap (λ (p : Parts). record p { map = (unreserved tx mid).map }) (alone old mid asked)))
    (with_faults mid.faults (record old { map = (unreserved tx mid).map }) x.both.volume (with_map (unreserved tx mid).map old x.both.volume same is.stands))
