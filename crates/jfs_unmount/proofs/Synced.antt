-- A syncpoint writes the pages of a volume's maps.
use Rattle.std.specs.Bool.{⊤}
use Rattle.std.proofs.Common.{◌≡◌, ◌⊎◌, ◌<◌, refl, sym, ap, ◌∙◌, subst, ℕ, zero, suc, ◌+◌, ◌*◌, nat_le, Bool, true, false, if◌then◌else◌, List, length, slice_get, inl, inr, Some, arith}
use Rattle.std.proofs.lemmas.Bool.Decides.{nat_tests}
use Rattle.std.proofs.lemmas.Option.{slice_get_within}
use Rattle.jfs_disk.specs.Image.{page_of}
use Rattle.jfs_super.specs.Rules.{blocks_of}
use Rattle.jfs_super.specs.declared.fields.Super.{Super}
use Rattle.jfs_shown.specs.imap.specs.Inodes.{Inodes}
use Rattle.jfs_shown.specs.bmap.specs.MapFile.{is_in_use, pages_of}
use Rattle.jfs_shown.specs.bmap.specs.States.{Blocks, BlockState, Free, Owned, Reserved, Busy, state_of, is_owned, is_owned_state, settled_state, blocks_settled}
use Rattle.jfs_shown.specs.bmap.proofs.States.{changed-each, changed-length}
use Rattle.jfs_shown.specs.objects.specs.Readers.{Readers}
use Rattle.jfs_shown.specs.objects.specs.Volume.{Volume}
use Rattle.jfs_shown.specs.meaning.specs.Readers.{readers}
use Rattle.jfs_shown.specs.meaning.specs.Consistent.{IsConsistent}
use Rattle.jfs_shown.specs.way.specs.Volume.{volume_of}
use Rattle.jfs_shown.specs.Shown.{ShowsBlocks, ShowsInodes}
use Rattle.jfs_shown.specs.Laws.{map_pages}
use Rattle.jfs_shown.specs.Files.{KnowsFiles, HasOwnPlaces}
use Rattle.jfs_shown.proofs.Canonical.{canonical_law}
use Rattle.jfs_shown.proofs.Files.{change_law, own_law}
use Rattle.jfs_shown.proofs.Places.{keeps_law}
use Rattle.jfs_volume_calls.specs.halves.specs.Parts.{Parts}
use Rattle.jfs_volume_calls.specs.volume.specs.MapsHome.{AreApart, ShowsBlockMap, HoldsNone}
use Rattle.jfs_volume_calls.specs.volume.specs.Settles.{Settles, SettlesTo, KeepsMap, StaysShown}
use Rattle.jfs_volume_calls.specs.Written.{LeavesMaps}
use Rattle.jfs_unmount.specs.Synced.{LeavesMapsHome, StillKnownLaw, NoneFreed}

-- a page of the block map's file is in use where it tells anything
dmap_in_use : (blocks k : ℕ) → suc (suc (suc (suc k))) < pages_of blocks → is_in_use blocks (suc (suc (suc (suc k)))) ≡ true
dmap_in_use blocks k l = grind (arith, nat_tests)

-- the same map by another page of the same bytes, and by other states of the same owners
pub same_blocks : (blocks : ℕ) (m n : Blocks) (j : ℕ) (page : List ℕ) → ((b : ℕ) → is_owned n b ≡ is_owned m b) → ShowsBlocks blocks m j page → ShowsBlocks blocks n j page
same_blocks blocks m n zero page same shows = tt
same_blocks blocks m n (suc zero) page same shows = tt
same_blocks blocks m n (suc (suc zero)) page same shows = tt
same_blocks blocks m n (suc (suc (suc zero))) page same shows = tt
same_blocks blocks m n (suc (suc (suc (suc k)))) page same shows = λ i l w. shows i l w ∙ sym (same (8192 * k + i))

module _ (s : Super) (area : ℕ → ℕ) (old new : Parts) (knows : KnowsFiles s (page_of old.view) area old.map old.inodes old.files) (consistent : IsConsistent (readers (blocks_of s)) (volume_of (page_of old.view) area old.map old.inodes))
    (home : LeavesMapsHome area old new) where
  abbrev r : Readers
  r = readers (blocks_of s)

  abbrev v : Volume
  v = volume_of (page_of old.view) area old.map old.inodes

  own : HasOwnPlaces r (page_of old.view) area old.files
  own = own_law s (page_of old.view) area old.map old.inodes old.files knows consistent.sound.agrees

  -- a block that is no page of a map holds none
  none : (b : ℕ) → map_pages r (page_of old.view) b ≡ 0 → HoldsNone old.files b
  none b e = ((λ n h. absurd (let a = (own.block_areas n b h).0 in omega (arith, a, e))), (λ n h. absurd (let a = (own.inode_areas n b h).0 in omega (arith, a, e))))

  block_places : new.files.blocks.places ≡ old.files.blocks.places
  block_places = home.block_places

  inode_places : new.files.inodes.places ≡ old.files.inodes.places
  inode_places = home.inode_places

  number : length new.map.states ≡ blocks_of s
  number = home.number ∙ knows.sizes.blocks_are

  shows_blocks : new.files.blocks.stale ≡ false → (j b : ℕ) → slice_get new.files.blocks.places j ≡ Some b → ShowsBlocks (blocks_of s) new.map j (page_of new.view b)
  shows_blocks fresh j b h = by old.files.blocks.stale refl
    where
      at : slice_get old.files.blocks.places j ≡ Some b
      at = ap (λ (ps : List ℕ). slice_get ps j) (sym block_places) ∙ h

      canonical : (j : ℕ) → ShowsBlockMap new → slice_get new.files.blocks.places j ≡ Some b → j < pages_of (blocks_of s) → ShowsBlocks (blocks_of s) new.map j (page_of new.view b)
      canonical zero shows h l = tt
      canonical (suc zero) shows h l = tt
      canonical (suc (suc zero)) shows h l = tt
      canonical (suc (suc (suc zero))) shows h l = tt
      canonical (suc (suc (suc (suc k)))) shows h l =
          subst (λ (n : ℕ). ShowsBlocks n new.map (suc (suc (suc (suc k)))) (page_of new.view b)) number
          (canonical_law.block_map new.map (suc (suc (suc (suc k)))) (page_of new.view b)
          (shows (suc (suc (suc (suc k)))) b (dmap_in_use (length new.map.states) k (subst (λ (n : ℕ). suc (suc (suc (suc k))) < pages_of n) (sym number) l)) h))

      by : (x : Bool) → old.files.blocks.stale ≡ x → ShowsBlocks (blocks_of s) new.map j (page_of new.view b)
      by true e = canonical j (home.block_map e fresh) h (let l = slice_get_within old.files.blocks.places j b at in omega (arith, l, knows.block_pages))
      by false e = same_blocks (blocks_of s) old.map new.map j (page_of new.view b) home.owned
          (subst (λ (p : List ℕ). ShowsBlocks (blocks_of s) old.map j p) (sym (home.block_pages e j b at)) (knows.block_map e j b at))

  shows_inodes : new.files.inodes.stale ≡ false → (j b : ℕ) → slice_get new.files.inodes.places j ≡ Some b → ShowsInodes new.inodes j (page_of new.view b)
  shows_inodes fresh j b h = by old.files.inodes.stale refl
    where
      at : slice_get old.files.inodes.places j ≡ Some b
      at = ap (λ (ps : List ℕ). slice_get ps j) (sym inode_places) ∙ h

      by : (x : Bool) → old.files.inodes.stale ≡ x → ShowsInodes new.inodes j (page_of new.view b)
      by true e = canonical_law.inode_map new.inodes j (page_of new.view b) (home.inode_map e fresh j b h)
      by false e = subst (λ (m : Inodes). ShowsInodes m j (page_of new.view b)) (sym home.inodes)
          (subst (λ (p : List ℕ). ShowsInodes old.inodes j p) (sym (home.inode_pages e j b at)) (knows.inode_map e j b at))

  pub known : KnowsFiles s (page_of new.view) area new.map new.inodes new.files
  known = change_law s (page_of old.view) (page_of new.view) area old.map new.map old.inodes new.inodes old.files new.files knows (record {
    places = keeps_law r s.ait2 s.aim2 v (page_of new.view) consistent.sound.agrees knows.areas knows.whole (λ b other more e. home.areas b more (none b e));
    block_places = block_places;
    inode_places = inode_places;
    sizes = record { blocks_are = number; places_are = subst (λ (m : Inodes). length m.extents ≡ 128 * m.iags) (sym home.inodes) knows.sizes.places_are };
    groups = ap (λ (m : Inodes). m.iags) home.inodes;
    block_map = shows_blocks;
    inode_map = shows_inodes;
  })

-- ---- a syncpoint puts them home

pub settled_at : (n : ℕ) (m : Blocks) (b : ℕ) → state_of (blocks_settled n m) b ≡ settled_state n (state_of m b)
settled_at n m b = changed-each (λ (c : ℕ) (s : BlockState). settled_state n s) m b refl

owned_stays : (n : ℕ) (s : BlockState) → is_owned_state (settled_state n s) ≡ is_owned_state s
owned_stays n Free = refl
owned_stays n Owned = refl
owned_stays n Reserved = refl
owned_stays n (Busy entry) = by (nat_le entry n)
  where
    by : (x : Bool) → is_owned_state (if x then Free else Busy entry) ≡ false
    by true = refl
    by false = refl

-- blocks with owners stay where entries are acknowledged
pub settled_owned : (n : ℕ) (m : Blocks) (b : ℕ) → is_owned (blocks_settled n m) b ≡ is_owned m b
settled_owned n m b = ap is_owned_state (settled_at n m b) ∙ owned_stays n (state_of m b)

pub settled_size : (n : ℕ) (m : Blocks) → length (blocks_settled n m).states ≡ length m.states
settled_size n m = changed-length (λ (c : ℕ) (s : BlockState). settled_state n s) m

module _ (s : Super) (area : ℕ → ℕ) (old new : Parts) (knows : KnowsFiles s (page_of old.view) area old.map old.inodes old.files) (consistent : IsConsistent (readers (blocks_of s)) (volume_of (page_of old.view) area old.map old.inodes))
    (free : NoneFreed area old) (settles : Settles old new) (shown : StaysShown ⊤ old new) (maps : LeavesMaps old new) where
  places : HasOwnPlaces (readers (blocks_of s)) (page_of old.view) area old.files
  places = own_law s (page_of old.view) area old.map old.inodes old.files knows consistent.sound.agrees

  apart : AreApart old.files
  apart = record { blocks = places.blocks; inodes = places.inodes; both = places.both }

  number_by : KeepsMap old new ⊎ ((n : ℕ) × SettlesTo n old new) → length new.map.states ≡ length old.map.states
  number_by (inl k) = ap (λ (m : Blocks). length m.states) k.map
  number_by (inr (n, t)) = ap (λ (m : Blocks). length m.states) t.map ∙ settled_size n old.map

  owned_by : (b : ℕ) → KeepsMap old new ⊎ ((n : ℕ) × SettlesTo n old new) → is_owned new.map b ≡ is_owned old.map b
  owned_by b (inl k) = ap (λ (m : Blocks). is_owned m b) k.map
  owned_by b (inr (n, t)) = ap (λ (m : Blocks). is_owned m b) t.map ∙ settled_owned n old.map b

  leaves : LeavesMapsHome area old new
  leaves = record {
    block_places = shown.block_places;
    inode_places = shown.inode_places;
    inodes = settles.inodes;
    number = number_by settles.map;
    owned = λ b. owned_by b settles.map;
    block_map = maps.block_map apart;
    inode_map = maps.inode_map apart;
    block_pages = λ e n b at. maps.block_pages apart e n b at (free b (places.block_areas n b at).1);
    inode_pages = λ e n b at. maps.inode_pages apart e n b at (free b (places.inode_areas n b at).1);
    areas = λ b more none. shown.view tt b (free b more) none;
  }

  pub still_known : KnowsFiles s (page_of new.view) area new.map new.inodes new.files
  still_known = known s area old new knows consistent leaves

pub still_known_law : StillKnownLaw
still_known_law = still_known
