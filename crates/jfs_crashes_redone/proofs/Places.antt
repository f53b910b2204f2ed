-- The pages that a crash left of the volume's part of the disk, and the places of the maps on them.
use Rattle.std.proofs.Common.{◌≡◌, ◌<◌, ◌≤◌, not, nat_lt, ℕ, Bool, true, false, List, length, is_some, unwrap_or, refl, sym, ap, ◌∙◌, arith}
use Rattle.std.proofs.Math.Path.{fun_ext}
use Rattle.std.proofs.lemmas.Bool.{cond-true, lt-ltb, ltb-true, and_parts}
use Rattle.std.proofs.lemmas.List.{length-map}
use Rattle.jfs_bits.specs.Field.{field_of}
use Rattle.jfs_bits.specs.declared.extent.Xad.{Xad}
use Rattle.jfs_disk.specs.Image.{Image, page_of}
use Rattle.jfs_super.specs.Rules.{blocks_of}
use Rattle.jfs_super.specs.declared.fields.Super.{Super}
use Rattle.jfs_shown.specs.Laws.{SamePlaces}
use Rattle.jfs_shown.specs.meaning.specs.Readers.{readers}
use Rattle.jfs_shown.specs.objects.specs.Contents.{block_of}
use Rattle.jfs_shown.specs.objects.specs.Image.{file_extents, file_page, iags_on, area_on}
use Rattle.jfs_shown.specs.objects.specs.Readers.{Readers}
use Rattle.jfs_left_maps.specs.Sizes.{SaysSizes}
use Rattle.jfs_left_maps.proofs.Sizes.{sizes_law}
use Rattle.jfs_held_maps.specs.mounted_places.specs.held.specs.image_volumes.specs.Stands.{FixedStay}
use Rattle.jfs_held_maps.specs.mounted_places.specs.held.specs.image_volumes.proofs.Next.{in_areas}
use Rattle.jfs_held_maps.specs.mounted_places.specs.held.specs.image_volumes.proofs.Read.{file_page_is}
use Rattle.jfs_held_maps.specs.mounted_places.specs.held.specs.survival.specs.MapMarks.{map_marks}
use Rattle.jfs_held_maps.specs.mounted_places.specs.held.specs.survival.specs.Laws.{left_by}
use Rattle.jfs_held_maps.specs.mounted_places.specs.held.specs.survival.proofs.Crashes.{left as crash_left}
use Rattle.jfs_held_maps.specs.mounted_places.specs.held.specs.survival.specs.face.specs.Mounted.{HasMapPages}
use Rattle.jfs_held_maps.specs.mounted_places.specs.held.specs.survival.specs.face.specs.Places.{Places, AreInAreas, is_map_page}
use Rattle.jfs_held_maps.specs.mounted_places.specs.held.specs.survival.specs.face.specs.Recovered.{IsVolumeAt}
use Rattle.jfs_held_maps.specs.mounted_places.specs.held.specs.survival.specs.face.proofs.Reading.{block_page, inode_page}
use Rattle.jfs_held_maps.specs.mounted_places.specs.held.specs.survival.specs.face.proofs.Whole.{is_face}
use Rattle.jfs_held_maps.specs.mounted_places.specs.held.specs.survival.specs.recovery.specs.crash_core.specs.Core.{Block}
use Rattle.jfs_held_maps.specs.mounted_places.specs.held.specs.survival.specs.recovery.specs.Core.{Core, count, image}
use Rattle.jfs_held_maps.specs.mounted_places.specs.held.specs.survival.specs.recovery.specs.Face.{Face, IsFace, Pages}
use Rattle.jfs_held_maps.specs.mounted_places.specs.held.specs.survival.specs.recovery.specs.Sound.{IsSound, IsLeft, IsLogImage, window}
use Rattle.jfs_held_maps.specs.mounted_places.specs.held.specs.survival.specs.recovery.proofs.Parts.{fixed_low}
use Rattle.jfs_held_maps.specs.mounted_places.specs.held.specs.Held.{Mount, Held, IsHeld, face_at}
use Rattle.jfs_held_maps.specs.Maps.{KeepsMaps}
use Rattle.jfs_held_maps.proofs.Places.{places_law, first_law, area_within, map_within}
use Rattle.jfs_held_maps.specs.mounted_places.specs.Mounted.{mount_of}
use Rattle.jfs_held_maps.specs.mounted_places.specs.Places.{groups_of, places_of}
use Rattle.jfs_crashed.specs.Crashed.{KeepsApart}
use Rattle.jfs_crashed.proofs.Crashed.{own_log}
use Rattle.jfs_redone_volumes.specs.Redone.{found_places}
use Rattle.jfs_crashes_redone.specs.Crashed.{HasCrashed}
use Rattle.jfs_crashes_redone.proofs.Facts.{AreFacts}
use Rattle.jfs_crashes_redone.proofs.Lists.{entry_off}

-- the places by the extents of both files
abbrev by_extents : (blocks agsize numag iags : ℕ) (two sixteen : List Xad) (area : ℕ → ℕ) → Places
by_extents blocks agsize numag iags two sixteen area = record {
  blocks = blocks;
  agsize = agsize;
  iags = iags;
  numag = numag;
  block_map = λ k. unwrap_or (block_of two k) 0;
  inode_map = λ k. unwrap_or (block_of sixteen k) 0;
  area = area;
}

module _ (s : Super) (mounted : Pages) (x : Held) (old : Image) (held : IsHeld (mount_of s mounted) x) (keeps : KeepsMaps (mount_of s mounted) x) (crashed : HasCrashed s x.both old) where
  abbrev pub r : Readers
  r = readers (blocks_of s)

  abbrev pub m : Mount
  m = mount_of s mounted

  abbrev pub pl : Places
  pl = places_of s mounted

  abbrev pub f : Face
  f = face_at m

  abbrev pub core : Core
  core = x.core

  abbrev pub left : Pages
  left = left_by core crashed.low

  sound : IsSound f core
  sound = held.core_is.sound

  is_left : IsLeft core left
  is_left = crash_left f x.both core held.core_is crashed.low crashed.crash

  -- ---- images of the history

  stands : (k : ℕ) → k ≤ count core → IsVolumeAt r (blocks_of s) s.agsize (groups_of s) s.ait2 s.aim2 pl (image core k)
  stands k low = (held.images k low).is.stands

  first : IsVolumeAt r (blocks_of s) s.agsize (groups_of s) s.ait2 s.aim2 pl core.mounted
  first = stands 0 (omega arith)

  areas : AreInAreas pl
  areas = in_areas r (blocks_of s) s.agsize (groups_of s) s.ait2 s.aim2 pl core.mounted first

  laws : IsFace f
  laws = is_face r pl (map_marks pl) areas

  within : (p : ℕ) → is_map_page pl p ≡ true → p < blocks_of s
  within p is_map = map_within r (blocks_of s) s.agsize (groups_of s) s.ait2 s.aim2 pl core.mounted first p is_map

  -- ---- what is left

  part : length crashed.low ≡ length x.both.volume.blocks
  part = crashed.crash.number ∙ length-map x.both.volume.blocks (λ (b : Block). b.pages)

  same_low : (p : ℕ) → p < blocks_of s → left p ≡ page_of old p
  same_low p low =
      let room = keeps.room in
      let under : p < length crashed.low = omega (arith, low, room, part) in
      cond-true (nat_lt p (length crashed.low)) (page_of crashed.low p) (core.slots p).block.pages.seen (lt-ltb p (length crashed.low) under) ∙ sym (crashed.same p under)

  fixed : FixedStay pl core.mounted (page_of old)
  fixed p e =
      let parts = and_parts (nat_lt 0 (pl.area p)) (not (is_map_page pl p)) e in
      let low = area_within r (blocks_of s) s.agsize (groups_of s) s.ait2 s.aim2 pl core.mounted first p (ltb-true 0 (pl.area p) parts.0) in
      sym (same_low p low) ∙ fixed_low f laws core sound left is_left p (other (is_map_page pl p) parts.1) e
    where
      other : (b : Bool) → not b ≡ true → b ≡ false
      other true h = absurd (cc (h))
      other false h = refl

  -- ---- the files

  same : SamePlaces r s.ait2 s.aim2 core.mounted (page_of old)
  same = places_law r (blocks_of s) s.agsize (groups_of s) s.ait2 s.aim2 pl core.mounted (page_of old) first fixed

  block_there : (k : ℕ) → is_some (block_of (file_extents r core.mounted 2) k) ≡ true → is_some (block_of (file_extents r (page_of old) 2) k) ≡ true
  block_there k there = ap (λ (es : List Xad). is_some (block_of es k)) same.block_map ∙ there

  inode_there : (k : ℕ) → is_some (block_of (file_extents r core.mounted 16) k) ≡ true → is_some (block_of (file_extents r (page_of old) 16) k) ≡ true
  inode_there k there = ap (λ (es : List Xad). is_some (block_of es k)) same.inode_map ∙ there

  block_place : (k : ℕ) → unwrap_or (block_of (file_extents r (page_of old) 2) k) 0 ≡ pl.block_map k
  block_place k = ap (λ (es : List Xad). unwrap_or (block_of es k) 0) same.block_map ∙ ap (λ (q : Places). q.block_map k) first.places

  inode_place : (k : ℕ) → unwrap_or (block_of (file_extents r (page_of old) 16) k) 0 ≡ pl.inode_map k
  inode_place k = ap (λ (es : List Xad). unwrap_or (block_of es k) 0) same.inode_map ∙ ap (λ (q : Places). q.inode_map k) first.places

  many : iags_on r core.mounted ≡ pl.iags
  many = ap (λ (q : Places). q.iags) first.places

  -- a page of a file, as the crash left it
  block_left : is_some (block_of (file_extents r core.mounted 2) 0) ≡ true → file_page r (page_of old) 2 0 ≡ left (pl.block_map 0)
  block_left there =
      sym (file_page_is r (page_of old) 2 0 (block_there 0 there)) ∙ ap (page_of old) (block_place 0) ∙ sym (same_low (pl.block_map 0) (within (pl.block_map 0) (block_page pl 0 (omega arith) refl)))

  inode_left : (k : ℕ) → k ≤ pl.iags → file_page r (page_of old) 16 k ≡ left (pl.inode_map k)
  inode_left k low =
      sym (file_page_is r (page_of old) 16 k (inode_there k (first.pages.inode_map k (omega (arith, low, many))))) ∙ ap (page_of old) (inode_place k)
      ∙ sym (same_low (pl.inode_map k) (within (pl.inode_map k) (inode_page pl k low)))

  says : (p : ℕ) → SaysSizes pl p (left p)
  says p = sizes_law.left r pl (map_marks pl) core left sound keeps.sizes is_left p

  number : iags_on r (page_of old) ≡ pl.iags
  number = ap (λ (a : List ℕ). field_of a 4 4) (inode_left 0 (omega arith)) ∙ (says (pl.inode_map 0)).iags refl

  has_pages : HasMapPages r (blocks_of s) (page_of old)
  has_pages = record {
    block_map = λ k used. block_there k (first.pages.block_map k used);
    inode_map = λ k low. inode_there k (first.pages.inode_map k (omega (arith, low, number, many)));
  }

  -- the places that redo finds are those of the mount
  places_are : found_places s old ≡ pl
  places_are =
      ap (λ (i : ℕ). by_extents (blocks_of s) s.agsize (groups_of s) i (file_extents r (page_of old) 2) (file_extents r (page_of old) 16) (area_on r s.ait2 s.aim2 (page_of old))) (number ∙ sym many)
      ∙ ap (λ (es : List Xad). by_extents (blocks_of s) s.agsize (groups_of s) (iags_on r core.mounted) es (file_extents r (page_of old) 16) (area_on r s.ait2 s.aim2 (page_of old))) same.block_map
      ∙ ap (λ (es : List Xad). by_extents (blocks_of s) s.agsize (groups_of s) (iags_on r core.mounted) (file_extents r core.mounted 2) es (area_on r s.ait2 s.aim2 (page_of old))) same.inode_map
      ∙ ap (λ (a : ℕ → ℕ). by_extents (blocks_of s) s.agsize (groups_of s) (iags_on r core.mounted) (file_extents r core.mounted 2) (file_extents r core.mounted 16) a) (fun_ext same.areas)
      ∙ first.places

  -- ---- the log keeps off the maps

  keeps_apart : (c n : ℕ) → IsLogImage core c n → KeepsApart s (window core c n) old
  keeps_apart c n log = own_log s (groups_of s) pl (map_marks pl) core c n left old sound stands (λ k p is_map. entry_off core x.both.volume.history p held.core_is.history (keeps.lines p is_map) k)
      (record { pages = is_left; same = λ p low. sym (same_low p low); log = log }) number

  pub facts : AreFacts s pl core left old
  facts = record {
    sound = sound;
    areas = areas;
    stands = stands;
    superblock = fixed 8 (first_law r (blocks_of s) s.agsize (groups_of s) s.ait2 s.aim2 pl core.mounted first 8 (omega arith));
    within = within;
    few = held.fits.iags;
    some = keeps.some;
    fours = keeps.extents;
    is_left = is_left;
    same_low = same_low;
    whole = λ k low. block_there k (keeps.whole k low);
    block_left = block_left (first.pages.block_map 0 refl);
    inode_left = inode_left;
    says = says;
    number = number;
    has_pages = has_pages;
    places_are = places_are;
    keeps_apart = keeps_apart;
  }
