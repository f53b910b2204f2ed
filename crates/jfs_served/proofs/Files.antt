-- Whoever knew all of the maps' files still does: their pages lie in fixed areas, which stay, and a map that changes is stale from then on.
use Rattle.std.proofs.Common.{◌≡◌, ◌<◌, ◌≤◌, refl, sym, ap, ◌∙◌, subst, ℕ, Bool, true, false, List, length, slice_get, Option, Some, None, arith}
use Rattle.jfs_disk.specs.Image.{page_of}
use Rattle.jfs_super.specs.Rules.{blocks_of}
use Rattle.jfs_super.specs.declared.fields.Super.{Super}
use Rattle.jfs_shown.specs.Files.{KnowsFiles, HasOwnPlaces}
use Rattle.jfs_shown.specs.Shown.{ShowsBlocks, ShowsInodes}
use Rattle.jfs_shown.specs.imap.specs.Inodes.{Inodes}
use Rattle.jfs_shown.specs.bmap.specs.States.{is_owned}
use Rattle.jfs_shown.specs.map_files.specs.declared.map_file.MapFiles.{MapFiles}
use Rattle.jfs_shown.specs.objects.specs.Objects.{Object}
use Rattle.jfs_shown.specs.objects.specs.Owners.{Agrees, owners, bit, holds, is_data}
use Rattle.jfs_shown.specs.objects.specs.Readers.{Readers}
use Rattle.jfs_shown.specs.objects.specs.Volume.{Volume}
use Rattle.jfs_shown.specs.meaning.specs.Readers.{readers}
use Rattle.jfs_shown.specs.meaning.specs.Consistent.{IsConsistent}
use Rattle.jfs_shown.proofs.Files.{change_law, own_law}
use Rattle.jfs_shown.proofs.Places.{keeps_law}
use Rattle.jfs_unmount.proofs.Synced.{same_blocks}
use Rattle.jfs_call.specs.halves.specs.Parts.{Parts}
use Rattle.jfs_served.specs.Holds.{blocks_at, volume_at, KeepsFiles, HoldsTree}

-- a block of a fixed area is in use
pub area_used : (r : Readers) (v : Volume) → Agrees r v → (b : ℕ) → 0 < v.area b → v.used b ≡ true
area_used r v agrees b more = by (v.used b) refl (agrees.blocks b)
  where
    by : (x : Bool) → v.used b ≡ x → owners r v b ≡ bit x → v.used b ≡ true
    by true e n = e
    by false e n = absurd (omega (arith, n, more))

-- data is held
pub data_held : (r : Readers) (o : Option Object) (b : ℕ) → is_data r o b ≤ holds r o b
unfolding is_data holds
data_held r None b = omega arith
data_held r (Some o) b = omega arith

-- Fixed areas stay, and the files lie where they did. A map that isn't stale now wasn't before, and hasn't changed.
pub record StayKnown (area : ℕ → ℕ) (old new : Parts) : Type 0 where
  pub pages : (b : ℕ) → 0 < area b → page_of new.view b ≡ page_of old.view b
  pub block_places : new.files.blocks.places ≡ old.files.blocks.places
  pub inode_places : new.files.inodes.places ≡ old.files.inodes.places
  pub size : blocks_at new ≡ blocks_at old
  pub extents : length new.inodes.extents ≡ length old.inodes.extents
  pub groups : new.inodes.iags ≡ old.inodes.iags
  pub block_map : new.files.blocks.stale ≡ false → (old.files.blocks.stale ≡ false) × ((b : ℕ) → is_owned new.map b ≡ is_owned old.map b)
  pub inode_map : new.files.inodes.stale ≡ false → (old.files.inodes.stale ≡ false) × (new.inodes ≡ old.inodes)

-- no map changes
pub unchanged : (area : ℕ → ℕ) (old new : Parts) → ((b : ℕ) → 0 < area b → page_of new.view b ≡ page_of old.view b) → new.files ≡ old.files → blocks_at new ≡ blocks_at old → ((b : ℕ) → is_owned new.map b ≡ is_owned old.map b)
    → new.inodes ≡ old.inodes → StayKnown area old new
unchanged area old new pages files size owned inodes = record {
  pages = pages;
  block_places = ap (λ (f : MapFiles). f.blocks.places) files;
  inode_places = ap (λ (f : MapFiles). f.inodes.places) files;
  size = size;
  extents = ap (λ (m : Inodes). length m.extents) inodes;
  groups = ap (λ (m : Inodes). m.iags) inodes;
  block_map = λ e. (sym (ap (λ (f : MapFiles). f.blocks.stale) files) ∙ e, owned);
  inode_map = λ e. (sym (ap (λ (f : MapFiles). f.inodes.stale) files) ∙ e, inodes);
}

-- the volume is consistent as one of the superblock's size
pub consistent_in : (s : Super) (area : ℕ → ℕ) (log_pages : ℕ) (p : Parts) → HoldsTree area log_pages p → KnowsFiles s (page_of p.view) area p.map p.inodes p.files → IsConsistent (readers (blocks_of s)) (volume_at area p)
consistent_in s area log_pages p h knows = subst (λ (k : ℕ). IsConsistent (readers k) (volume_at area p)) knows.sizes.blocks_are h.consistent

pub files_stay : (area : ℕ → ℕ) (log_pages : ℕ) (old new : Parts) → HoldsTree area log_pages old → StayKnown area old new → KeepsFiles area old new
files_stay area log_pages old new h k s knows = change_law s (page_of old.view) (page_of new.view) area old.map new.map old.inodes new.inodes old.files new.files knows (record {
  places = keeps_law (readers (blocks_of s)) s.ait2 s.aim2 (volume_at area old) (page_of new.view) agrees knows.areas knows.whole (λ b other more none. k.pages b more);
  block_places = k.block_places;
  inode_places = k.inode_places;
  sizes = record { blocks_are = k.size ∙ knows.sizes.blocks_are; places_are = (let e = k.extents in let g = k.groups in let p = knows.sizes.places_are in omega (arith, e, g, p)) };
  groups = k.groups;
  block_map = blocks_shown;
  inode_map = inodes_shown;
})
  where
    agrees : Agrees (readers (blocks_of s)) (volume_at area old)
    agrees = (consistent_in s area log_pages old h knows).sound.agrees

    own : HasOwnPlaces (readers (blocks_of s)) (page_of old.view) area old.files
    own = own_law s (page_of old.view) area old.map old.inodes old.files knows agrees

    blocks_shown : new.files.blocks.stale ≡ false → (j b : ℕ) → slice_get new.files.blocks.places j ≡ Some b → ShowsBlocks (blocks_of s) new.map j (page_of new.view b)
    blocks_shown fresh j b at =
        let was = ap (λ (ps : List ℕ). slice_get ps j) (sym k.block_places) ∙ at in
        same_blocks (blocks_of s) old.map new.map j (page_of new.view b) (k.block_map fresh).1
        (subst (λ (p : List ℕ). ShowsBlocks (blocks_of s) old.map j p) (sym (k.pages b (own.block_areas j b was).1)) (knows.block_map (k.block_map fresh).0 j b was))

    inodes_shown : new.files.inodes.stale ≡ false → (j b : ℕ) → slice_get new.files.inodes.places j ≡ Some b → ShowsInodes new.inodes j (page_of new.view b)
    inodes_shown fresh j b at =
        let was = ap (λ (ps : List ℕ). slice_get ps j) (sym k.inode_places) ∙ at in
        subst (λ (m : Inodes). ShowsInodes m j (page_of new.view b)) (sym (k.inode_map fresh).1)
        (subst (λ (p : List ℕ). ShowsInodes old.inodes j p) (sym (k.pages b (own.inode_areas j b was).1)) (knows.inode_map (k.inode_map fresh).0 j b was))
