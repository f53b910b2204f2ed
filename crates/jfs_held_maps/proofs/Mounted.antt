-- A volume whose maps broke no rule when it was mounted keeps them.
use Rattle.std.proofs.Common.{◌≡◌, ◌<◌, ◌≤◌, ◌+◌, ◌*◌, ◌/◌, ◌%◌, nat_le, ℕ, suc, true, List, is_some, None, sym, ap, ◌∙◌, subst, arith}
use Rattle.std.proofs.lemmas.Bool.{eqb-true, leb-true, and_parts}
use Rattle.std.proofs.lemmas.List.{length-map}
use Rattle.jfs_bits.specs.Bits.{is_taken}
use Rattle.jfs_bits.specs.Broken.{AllHold, Holds}
use Rattle.jfs_bits.specs.Descriptor.{pxd_of}
use Rattle.jfs_bits.specs.Field.{field_of, range_of}
use Rattle.jfs_bits.specs.declared.extent.Xad.{Xad}
use Rattle.jfs_bits.proofs.Broken.{first_broken-none}
use Rattle.jfs_super.specs.Rules.{blocks_of}
use Rattle.jfs_super.specs.declared.fields.Super.{Super}
use Rattle.jfs_steps.specs.bmap.specs.MapFile.{pages_of}
use Rattle.jfs_mount.specs.Mount.{place, covered, iags, fits_extent, fitting, map_rows, broken_maps}
use Rattle.jfs_mount.specs.Subject.{Subject, subject_of}
use Rattle.jfs_mount.proofs.Passed.{all_pass}
use Rattle.jfs_shown.specs.map_files.specs.declared.map_file.MapFiles.{MapFiles}
use Rattle.jfs_shown.specs.meaning.specs.Readers.{readers}
use Rattle.jfs_shown.specs.objects.specs.Readers.{Readers}
use Rattle.jfs_shown.specs.objects.specs.Contents.{block_of}
use Rattle.jfs_shown.specs.objects.specs.Image.{file_page}
use Rattle.jfs_shown.specs.Laws.{SamePlaces}
use Rattle.jfs_left_maps.specs.Items.{IsExtent, HasFours}
use Rattle.jfs_left_maps.specs.Sizes.{SaysSizes}
use Rattle.jfs_left_maps.proofs.Sizes.{sizes_law}
use Rattle.jfs_mounted_places.specs.held.specs.survival.specs.halves.specs.Entry.{Shown}
use Rattle.jfs_mounted_places.specs.held.specs.survival.specs.recovery.specs.crash_core.specs.Core.{fresh_block}
use Rattle.jfs_mounted_places.specs.held.specs.survival.specs.recovery.specs.Face.{Face, Pages, IsStart}
use Rattle.jfs_mounted_places.specs.held.specs.survival.specs.recovery.specs.Face.Item.{ExtentPlace}
use Rattle.jfs_mounted_places.specs.held.specs.survival.specs.recovery.proofs.Images.{closed_item}
use Rattle.jfs_mounted_places.specs.held.specs.survival.specs.face.specs.Items.{place_of, extent_by}
use Rattle.jfs_mounted_places.specs.held.specs.survival.specs.face.specs.Places.{Places, AreInAreas}
use Rattle.jfs_mounted_places.specs.held.specs.survival.specs.face.specs.Volume.{items_on}
use Rattle.jfs_mounted_places.specs.held.specs.survival.specs.face.proofs.Whole.{is_face}
use Rattle.jfs_mounted_places.specs.held.specs.survival.specs.MapMarks.{map_marks}
use Rattle.jfs_mounted_places.specs.held.specs.canonical_maps.specs.Images.{made_canonical}
use Rattle.jfs_mounted_places.specs.held.specs.image_volumes.proofs.Next.{start_law, in_areas}
use Rattle.jfs_mounted_places.specs.held.specs.image_volumes.proofs.Read.{file_page_is}
use Rattle.jfs_mounted_places.specs.held.specs.Held.{Mount, IsHeld, face_at}
use Rattle.jfs_mounted_places.specs.Places.{groups_of, places_of, StandsInPlaces}
use Rattle.jfs_mounted_places.specs.Mounted.{IsMounted, mount_of, held_from}
use Rattle.jfs_mounted_places.proofs.Places.{known_law}
use Rattle.jfs_mounted_places.proofs.Mounted.{mounted_law as is_held}
use Rattle.jfs_held_maps.specs.Maps.{KeepsMaps, MountedLaw}
use Rattle.jfs_held_maps.proofs.Extents.{extent_read, extent_fits}
use Rattle.jfs_held_maps.proofs.Places.{places_law}

module _ (s : Super) (pages ring : ℕ) (low : Pages) (shown : Shown) (area : ℕ → ℕ) (files : MapFiles) (is : IsMounted s pages low shown area files) (unbroken : broken_maps (subject_of s low) ≡ None) where
  abbrev r : Readers
  r = readers (blocks_of s)

  abbrev sub : Subject
  sub = subject_of s low

  abbrev pl : Places
  pl = places_of s low

  abbrev m : Mount
  m = mount_of s low

  abbrev f : Face
  f = face_at m

  abbrev image : Pages
  image = made_canonical pl low

  were : AllHold Holds (map_rows sub)
  were = first_broken-none (map_rows sub) unbroken

  held : IsHeld m (held_from s ring low shown area)
  held = is_held s pages ring low shown area files is

  stands : StandsInPlaces s low area shown.map shown.inodes files
  stands = known_law s low area shown.map shown.inodes files is.knows is.blocks_fresh is.inodes_fresh is.consistent

  areas : AreInAreas pl
  areas = in_areas r (blocks_of s) s.agsize (groups_of s) s.ait2 s.aim2 pl low stands.stands

  -- ---- the files

  block_there : (k : ℕ) → k < pages_of (blocks_of s) → is_some (place sub 2 k) ≡ true
  unfolding map_rows covered
  block_there k low_k = all_pass (λ j. is_some (place sub 2 j)) (pages_of (blocks_of s)) k (eqb-true (covered sub 2 (pages_of (blocks_of s))) (pages_of (blocks_of s)) were.0) low_k

  inode_there : (k : ℕ) → k ≤ iags sub → is_some (place sub 16 k) ≡ true
  unfolding map_rows covered
  inode_there k low_k = all_pass (λ j. is_some (place sub 16 j)) (suc (iags sub)) k (eqb-true (covered sub 16 (suc (iags sub))) (suc (iags sub)) were.1.0) (omega (arith, low_k))

  same : SamePlaces r s.ait2 s.aim2 low image
  same = places_law r (blocks_of s) s.agsize (groups_of s) s.ait2 s.aim2 pl low image stands.stands held.now.fixed

  -- ---- the control pages

  says : (p : ℕ) → SaysSizes pl p (low p)
  unfolding map_rows
  says p = record {
    blocks = λ at. ap (λ (q : ℕ). field_of (low q) 0 8) (sym at) ∙ ap (λ (a : List ℕ). field_of a 0 8) (file_page_is r low 2 0 (block_there 0 (omega arith)))
        ∙ eqb-true (field_of (file_page r low 2 0) 0 8) (blocks_of s) were.1.1.0;
    iags = λ at. ap (λ (q : ℕ). field_of (low q) 4 4) (sym at) ∙ ap (λ (a : List ℕ). field_of a 4 4) (file_page_is r low 16 0 (inode_there 0 (omega arith)));
    past = λ k i within used at beyond small. ap (λ (q : ℕ). is_taken (range_of (low q) 3072 1024) i) (sym at) ∙ is.past k i used beyond small;
  }

  some : 1 ≤ pl.iags
  unfolding map_rows
  some = leb-true 1 (iags sub) (and_parts (nat_le 1 (iags sub)) (nat_le (iags sub) 65536) were.1.1.1.0).0

  -- ---- inode extents

  start : IsStart f low image
  start = (start_law r (blocks_of s) s.agsize (groups_of s) s.ait2 s.aim2 pl (map_marks pl) low held.fits stands.stands is.bytes is.sizes).0

  fours : HasFours pl image
  unfolding map_rows fitting
  fours e within =
      let there = closed_item f (is_face r pl (map_marks pl) areas) low (items_on pl low) image start (ExtentPlace e) in
      let at : low (pl.inode_map (suc (e / 128))) ≡ file_page r low 16 (suc (e / 128)) = file_page_is r low 16 (suc (e / 128)) (inode_there (suc (e / 128)) (omega (arith, within))) in
      let said : extent_by (items_on pl low) e ≡ pxd_of (file_page r low 16 (suc (e / 128))) (3072 + 8 * (e % 128)) = extent_read pl low e within ∙ ap (λ (a : List ℕ). pxd_of a (3072 + 8 * (e % 128))) at in
      let fits = all_pass (fits_extent sub) (128 * iags sub) e (eqb-true (fitting sub) (128 * iags sub) were.1.1.1.1.0) within in
      subst IsExtent (sym (ap place_of there ∙ said)) (extent_fits (blocks_of s) (pxd_of (file_page r low 16 (suc (e / 128))) (3072 + 8 * (e % 128))) fits)

  keeps : KeepsMaps m (held_from s ring low shown area)
  keeps = record {
    room = (let room = is.room in let many = length-map shown.pages fresh_block in omega (arith, room, many));
    some = some;
    whole = λ k low_k. ap (λ (es : List Xad). is_some (block_of es k)) same.block_map ∙ block_there k low_k;
    extents = fours;
    sizes = sizes_law.start r pl (map_marks pl) low image says;
    lines = λ p is_map. tt;
  }

pub mounted_law : MountedLaw
mounted_law s pages ring low shown area files is unbroken = keeps s pages ring low shown area files is unbroken
