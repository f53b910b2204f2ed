-- The maps' files are whole on a redone disk, and blocks past the volume's end count as taken.
use Rattle.std.proofs.Common.{◌≡◌, ◌<◌, ℕ, suc, true, List, is_some, unwrap_or, refl, sym, ap, ◌∙◌, arith}
use Rattle.jfs_bits.specs.Bits.{is_taken}
use Rattle.jfs_bits.specs.Field.{range_of}
use Rattle.jfs_bits.specs.declared.extent.Xad.{Xad}
use Rattle.jfs_super.specs.Rules.{blocks_of}
use Rattle.jfs_super.specs.declared.fields.Super.{Super}
use Rattle.jfs_shown.specs.Laws.{SamePlaces}
use Rattle.jfs_shown.specs.bmap.specs.MapFile.{is_in_use, IsDmapPage}
use Rattle.jfs_shown.specs.meaning.specs.Readers.{readers}
use Rattle.jfs_shown.specs.objects.specs.Contents.{block_of}
use Rattle.jfs_shown.specs.objects.specs.Image.{file_extents, volume_on}
use Rattle.jfs_shown.specs.objects.specs.Owners.{IsSound}
use Rattle.jfs_shown.specs.objects.specs.Readers.{Readers}
use Rattle.jfs_held_maps.specs.mounted_places.specs.held.specs.image_volumes.proofs.Read.{file_page_is}
use Rattle.jfs_held_maps.specs.mounted_places.specs.held.specs.survival.specs.face.specs.MapPages.{IsCanonicalPage, taken_by}
use Rattle.jfs_held_maps.specs.mounted_places.specs.held.specs.survival.specs.face.specs.Places.{Places, is_map_page}
use Rattle.jfs_held_maps.specs.mounted_places.specs.held.specs.survival.specs.face.specs.Recovered.{IsVolumeAt}
use Rattle.jfs_held_maps.specs.mounted_places.specs.held.specs.survival.specs.face.proofs.Reading.{block_page}
use Rattle.jfs_held_maps.specs.mounted_places.specs.held.specs.survival.specs.recovery.specs.Face.{Pages, Item, Value}
use Rattle.jfs_held_maps.specs.mounted_places.specs.held.specs.survival.specs.recovery.specs.kinds.specs.Images.{HasWholeFiles}
use Rattle.jfs_held_maps.specs.mounted_places.specs.Mounted.{SetsPast}
use Rattle.jfs_held_maps.specs.mounted_places.specs.Places.{groups_of, places_of}
use Rattle.jfs_held_maps.specs.mounted_places.proofs.Places.{in_file}
use Rattle.jfs_redone_volumes.proofs.Superblock.{places, map_page}

-- a canonical dmap has the bits set of blocks past the end
canonical_past : (pl : Places) (t page : Pages) (items : Item → Value) → ((p : ℕ) → is_map_page pl p ≡ true → IsCanonicalPage pl t items p (page p)) → SetsPast pl page
canonical_past pl t page items canonical k i used beyond small =
    let n : ℕ = suc (suc (suc (suc k))) in
    let is : IsCanonicalPage pl t items (pl.block_map n) (page (pl.block_map n)) = canonical (pl.block_map n) (block_page pl n (in_file pl.blocks n used) used) in
    let dmap : IsDmapPage pl.blocks (taken_by pl items) k (page (pl.block_map n)) = is.block_map n used refl in
    let number = dmap.dmap.number in
    dmap.dmap.canonical.same i ∙ dmap.dmap.canonical.past i (omega (arith, number, beyond)) small

-- Redo made pages with canonical maps, whose files lie where those of an image of the history do. The disk has these pages, but for the superblock's.
module _ (s : Super) (pl : Places) (image made new : Pages) (stands : IsVolumeAt (readers (blocks_of s)) (blocks_of s) s.agsize (groups_of s) s.ait2 s.aim2 pl image) (kept_places : SamePlaces (readers (blocks_of s)) s.ait2 s.aim2 image made)
    (sound : IsSound (readers (blocks_of s)) (volume_on (readers (blocks_of s)) (blocks_of s) s.ait2 s.aim2 made)) (whole : HasWholeFiles (readers (blocks_of s)) made) (same : (p : ℕ) → p < blocks_of s → (p ≡ 8 → ⊥) → new p ≡ made p) where
  abbrev r : Readers
  r = readers (blocks_of s)

  same_places : SamePlaces r s.ait2 s.aim2 made new
  same_places = places r (blocks_of s) s.ait2 s.aim2 made new sound whole same

  pub files : HasWholeFiles r new
  files = same_places.whole whole

  made_there : (n : ℕ) → is_in_use (blocks_of s) n ≡ true → is_some (block_of (file_extents r made 2) n) ≡ true
  made_there n used = ap (λ (es : List Xad). is_some (block_of es n)) kept_places.block_map ∙ stands.pages.block_map n used

  new_there : (n : ℕ) → is_in_use (blocks_of s) n ≡ true → is_some (block_of (file_extents r new 2) n) ≡ true
  new_there n used = ap (λ (es : List Xad). is_some (block_of es n)) same_places.block_map ∙ made_there n used

  -- a page of the block map, by where the mount found it
  place : (n : ℕ) → unwrap_or (block_of (file_extents r made 2) n) 0 ≡ pl.block_map n
  place n = ap (λ (es : List Xad). unwrap_or (block_of es n) 0) kept_places.block_map ∙ ap (λ (q : Places). q.block_map n) stands.places

  page : (n : ℕ) → is_in_use (blocks_of s) n ≡ true → new ((places_of s new).block_map n) ≡ made (pl.block_map n)
  page n used = file_page_is r new 2 n (new_there n used) ∙ map_page r (blocks_of s) s.ait2 s.aim2 made new sound whole same n ∙ sym (file_page_is r made 2 n (made_there n used)) ∙ ap made (place n)

  pub past : (t : Pages) (items : Item → Value) → ((p : ℕ) → is_map_page pl p ≡ true → IsCanonicalPage pl t items p (made p)) → SetsPast (places_of s new) new
  past t items canonical k i used beyond small =
      let blocks : blocks_of s ≡ pl.blocks = ap (λ (q : Places). q.blocks) stands.places in
      let n : ℕ = suc (suc (suc (suc k))) in
      ap (λ (a : List ℕ). is_taken (range_of a 3072 1024) i) (page n used)
      ∙ canonical_past pl t made items canonical k i (ap (λ (b : ℕ). is_in_use b n) (sym blocks) ∙ used) (omega (arith, blocks, beyond)) small
