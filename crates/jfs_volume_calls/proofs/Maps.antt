-- Which pages of the maps a syncpoint writes.
use Rattle.std.proofs.Common.{◌≡◌, ◌⊎◌, ℕ, List, length, ap, ◌∙◌, sym, subst, inl, inr}
use Rattle.jfs_volume.specs.bmap.specs.States.{Blocks, BlockState, settled_state}
use Rattle.jfs_volume.specs.bmap.proofs.States.{changed-length}
use Rattle.jfs_volume.specs.data_steps.specs.declared.pages.DataPage.{DataPage}
use Rattle.jfs_volume.specs.halves.specs.Parts.{Parts}
use Rattle.jfs_volume.specs.map_files.specs.imap.specs.Inodes.{Inodes}
use Rattle.jfs_volume.specs.map_files.specs.declared.map_file.MapFiles.{MapFiles}
use Rattle.jfs_volume.specs.MapsHome.{MapPage, KeepsMemory, stale_pages, ArePagesOf, AreFirstOf}
use Rattle.jfs_volume.specs.Settles.{Settles, SettlesTo, KeepsMap, HomesAlone}
use Rattle.jfs_volume_calls.specs.Halts.{PointParts}
use Rattle.jfs_volume_calls.specs.Syncpoint.{AreMapPages, AreFirstMapPages}
use Rattle.jfs_volume_calls.specs.Written.{KeepsPages}

settled_size : (old new : Parts) → KeepsMap old new ⊎ ((n : ℕ) × SettlesTo n old new) → length new.map.states ≡ length old.map.states
settled_size old new (inl same) = ap (λ (m : Blocks). length m.states) same.map
settled_size old new (inr told) = ap (λ (m : Blocks). length m.states) told.1.map ∙ changed-length (λ (b : ℕ) (s : BlockState). settled_state told.0 s) old.map

-- they are the pages of the maps that had changed before
module _ (tells : Type 0) (old home : Parts) (settles : Settles old home) (kept : KeepsPages tells old home) where
  targets : stale_pages (length home.map.states) home.files ≡ stale_pages (length old.map.states) old.files
  targets = ap (λ (n : ℕ). stale_pages n home.files) (settled_size old home settles.map) ∙ ap (λ (f : MapFiles). stale_pages (length old.map.states) f) kept.files

  -- the maps stay from then on
  module _ (new : Parts) (same_map : new.map ≡ home.map) (same_inodes : new.inodes ≡ home.inodes) where
    pub all_pages : (ds : List DataPage) → ArePagesOf home.map home.inodes (stale_pages (length home.map.states) home.files) ds → AreMapPages old new ds
    all_pages ds are = subst (λ (m : Blocks). ArePagesOf m new.inodes (stale_pages (length old.map.states) old.files) ds) (sym same_map)
        (subst (λ (i : Inodes). ArePagesOf home.map i (stale_pages (length old.map.states) old.files) ds) (sym same_inodes)
        (subst (λ (ts : List MapPage). ArePagesOf home.map home.inodes ts ds) targets are))

    pub first_pages : (ds : List DataPage) → AreFirstOf home.map home.inodes (stale_pages (length home.map.states) home.files) ds → AreFirstMapPages old new ds
    first_pages ds are = subst (λ (m : Blocks). AreFirstOf m new.inodes (stale_pages (length old.map.states) old.files) ds) (sym same_map)
        (subst (λ (i : Inodes). AreFirstOf home.map i (stale_pages (length old.map.states) old.files) ds) (sym same_inodes)
        (subst (λ (ts : List MapPage). AreFirstOf home.map home.inodes ts ds) targets are))

-- ---- what leaves both maps

pub map_written : (a b : Parts) → KeepsMemory a b → b.map ≡ a.map
map_written a b kept = ap (λ (p : Parts). p.map) kept

pub inodes_written : (a b : Parts) → KeepsMemory a b → b.inodes ≡ a.inodes
inodes_written a b kept = ap (λ (p : Parts). p.inodes) kept

pub map_synced : (tells : Type 0) (a b c : Parts) → KeepsMemory a b → HomesAlone tells b c → c.map ≡ a.map
map_synced tells a b c kept alone = ap (λ (p : Parts). p.map) alone.parts ∙ map_written a b kept

pub inodes_synced : (tells : Type 0) (a b c : Parts) → KeepsMemory a b → HomesAlone tells b c → c.inodes ≡ a.inodes
inodes_synced tells a b c kept alone = ap (λ (p : Parts). p.inodes) alone.parts ∙ inodes_written a b kept

pub map_pointed : (tells : Type 0) (a b c d : Parts) → KeepsMemory a b → HomesAlone tells b c → PointParts c d → d.map ≡ a.map
map_pointed tells a b c d kept alone pointed = ap (λ (p : Parts). p.map) pointed ∙ map_synced tells a b c kept alone

pub inodes_pointed : (tells : Type 0) (a b c d : Parts) → KeepsMemory a b → HomesAlone tells b c → PointParts c d → d.inodes ≡ a.inodes
inodes_pointed tells a b c d kept alone pointed = ap (λ (p : Parts). p.inodes) pointed ∙ inodes_synced tells a b c kept alone
