-- Pages that go home, those of the maps, and a sync: what stays.
use Rattle.std.specs.Prelude.{OnOk}
use Rattle.std.proofs.Common.{◌≡◌, ℕ, List, None, Result, Ok, Err, ap, ◌∙◌}
use Rattle.jfs_disk.specs.declared.disk.Fault.{Fault}
use Rattle.jfs_kept_history.specs.legal.specs.served.specs.call.specs.halves.specs.Parts.{Parts}
use Rattle.jfs_kept_history.specs.legal.specs.served.specs.call.specs.volume.specs.MapsHome.{KeepsMemory, with_written}
use Rattle.jfs_kept_history.specs.legal.specs.served.specs.call.specs.volume.specs.map_files.specs.declared.map_file.MapFiles.{MapFiles}
use Rattle.jfs_kept_history.specs.legal.specs.served.specs.call.specs.volume.specs.pages.specs.Dirty.{dirty_of}
use Rattle.jfs_kept_history.specs.legal.specs.served.specs.call.specs.volume.specs.pages.specs.declared.dirty.Dirty.{Dirty}
use Rattle.jfs_kept_history.specs.legal.specs.served.specs.unmount.specs.Unmount.{IsAllHome}
use Rattle.jfs_shared.specs.Home.{IsSettled}

-- what goes home changes these
abbrev pub HomeParts : Parts → Parts → Type 0
HomeParts old new = new ≡ record old { view = new.view; dirty = new.dirty; disk = new.disk; past = new.past; faults = new.faults; halted = new.halted }

pub homes : (old new : Parts) → HomeParts old new → IsSettled old new
homes old new e = ap (λ (p : Parts). record p { view = new.view; dirty = new.dirty; disk = new.disk; past = new.past; faults = new.faults; files = new.files; halted = new.halted }) e

pub maps : (old new : Parts) → KeepsMemory old new → IsSettled old new
maps old new e = ap (λ (p : Parts). record p { view = new.view; dirty = new.dirty; disk = new.disk; past = new.past; faults = new.faults; files = new.files; halted = new.halted }) e

pub onward : (old mid new : Parts) → IsSettled old mid → IsSettled mid new → IsSettled old new
onward old mid new a b = b ∙ ap (λ (p : Parts). record p { view = new.view; dirty = new.dirty; disk = new.disk; past = new.past; faults = new.faults; files = new.files; halted = new.halted }) a

-- dirty pages went home, then those of the maps, and the low part was to be synced
pub home_of : (mid last new : Parts) → ((p : ℕ) → dirty_of mid.dirty p ≡ None) → KeepsMemory mid last → last.files ≡ with_written mid.files → new.dirty ≡ last.dirty → HomeParts last new → (result : Result (Unit {0}) Fault) → OnOk result (IsAllHome new)
home_of mid last new clean memory written same parts (Ok done) = record {
  clean = λ p. ap (λ (ds : List Dirty). dirty_of ds p) (same ∙ ap (λ (x : Parts). x.dirty) memory) ∙ clean p;
  block_map = ap (λ (x : Parts). x.files.blocks.stale) parts ∙ ap (λ (f : MapFiles). f.blocks.stale) written;
  inode_map = ap (λ (x : Parts). x.files.inodes.stale) parts ∙ ap (λ (f : MapFiles). f.inodes.stale) written;
}
home_of mid last new clean memory written same parts (Err fault) = tt
