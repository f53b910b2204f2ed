-- What is known of the maps' files from the mount on.
use Rattle.std.proofs.Common.{◌≡◌, ◌≢◌, ◌≤◌, ◌<◌, refl, sym, ap, ap₂, ◌∙◌, subst, ℕ, zero, suc, ◌+◌, ◌*◌, ◌/◌, ◌%◌, Bool, true, false, ◌&&◌, if◌then◌else◌, List, length, get_or, unwrap_or, Option, Some, None, is_some, arith, []}
use Rattle.std.proofs.lemmas.Bool.{lt-ltb}
use Rattle.std.proofs.lemmas.List.{get_or-map, length-map}
use Rattle.std.proofs.lemmas.List.FromFn.{get_or-map-range_with_len, length-map-range_with_len}
use Rattle.std.proofs.lemmas.Option.{slice_get_within}
use Rattle.jfs_bits.specs.Bits.{is_taken}
use Rattle.jfs_bits.specs.Descriptor.{pxd_of}
use Rattle.jfs_bits.specs.Field.{range_of, field_of}
use Rattle.jfs_super.specs.Rules.{blocks_of}
use Rattle.jfs_super.specs.Geometry.{geometry_of}
use Rattle.jfs_super.specs.declared.fields.Super.{Super}
use Rattle.jfs_iag.specs.Iag.{no_run}
use Rattle.jfs_iag.specs.Canonical.{is_there}
use Rattle.jfs_shown.specs.imap.specs.Inodes.{Inodes, is_used, extent_at}
use Rattle.jfs_shown.specs.bmap.specs.States.{Blocks, Free, Owned, is_owned, is_owned_state}
use Rattle.jfs_shown.specs.bmap.proofs.Views.{each_below-at}
use Rattle.jfs_shown.specs.objects.specs.Readers.{Readers}
use Rattle.jfs_shown.specs.objects.specs.Volume.{Volume, home, page_in}
use Rattle.jfs_shown.specs.objects.specs.Contents.{block_of, bytes_at}
use Rattle.jfs_shown.specs.objects.specs.Image.{file_page, file_extents, iag_page, iags_on, extent_place, extent_on, extents_on, is_block_used, is_inode_used}
use Rattle.jfs_shown.specs.kinds.specs.Images.{HasWholeFiles}
use Rattle.jfs_shown.specs.meaning.specs.Readers.{readers}
use Rattle.jfs_shown.specs.meaning.specs.Consistent.{IsConsistent}
use Rattle.jfs_mounted.specs.mount_rules.specs.Subject.{Subject, subject_of, volume}
use Rattle.jfs_mounted.specs.mount_rules.specs.Mount.{iags}
use Rattle.jfs_mounted.specs.sets.specs.Sets.{extent_from}
use Rattle.jfs_shown.specs.way.specs.Volume.{volume_of}
use Rattle.jfs_mounted.specs.mount_maps.specs.Maps.{blocks_on, inodes_on, AreAtRest, AreMapsOf}
use Rattle.jfs_mounted.specs.mount_maps.specs.declared.found.FoundMaps.{FoundMaps}
use Rattle.jfs_shown.specs.Shown.{ShowsBlocks, ShowsInodes}
use Rattle.jfs_shown.specs.Laws.{map_pages}
use Rattle.jfs_shown.specs.Files.{KnowsFiles}
use Rattle.jfs_shown.proofs.Files.{change_law, own_law}
use Rattle.jfs_shown.proofs.Places.{keeps_law}
use Rattle.jfs_unmount.specs.Laws.{MountLaw}
use Rattle.jfs_unmount.proofs.Settled.{area_below, area_not_super}

owned_by : (x : Bool) → is_owned_state (if x then Owned else Free) ≡ x
owned_by true = refl
owned_by false = refl

place_back : (o : Option ℕ) → extent_place (extent_from o) ≡ o
place_back None = refl
place_back (Some first) = refl

there_back : (o : Option ℕ) → is_there (extent_from o) ≡ is_some o
there_back None = refl
there_back (Some first) = refl

home_there : (o : Option ℕ) (n : ℕ) → is_some (page_in o n) ≡ is_some o
home_there None n = refl
home_there (Some first) n = refl

page_at : (r : Readers) (page : ℕ → List ℕ) (k j b : ℕ) → block_of (file_extents r page k) j ≡ Some b → file_page r page k j ≡ page b
unfolding file_page
page_at r page k j b h = ap (λ (o : Option ℕ). unwrap_or (bytes_at page o) []) h

module _ (super : Super) (page : ℕ → List ℕ) where
  abbrev s : Subject
  s = subject_of super page

  abbrev r : Readers
  r = readers (blocks_of super)

  -- ---- the maps as the image has them

  owned_is : (b : ℕ) → b < blocks_of super → is_owned (blocks_on s) b ≡ is_taken (range_of (file_page r page 2 (4 + b / 8192)) 3072 1024) (b % 8192)
  unfolding is_block_used
  owned_is b l = ap is_owned_state (each_below-at (blocks_of super) (λ b. if (volume s).used b then Owned else Free) b Owned l) ∙ owned_by ((volume s).used b)
      ∙ ap (λ (x : Bool). x && is_taken (range_of (file_page r page 2 (4 + b / 8192)) 3072 1024) (b % 8192)) (lt-ltb b (blocks_of super) l)

  shows_blocks : (j b : ℕ) → file_page r page 2 j ≡ page b → ShowsBlocks (blocks_of super) (blocks_on s) j (page b)
  shows_blocks zero b is = tt
  shows_blocks (suc zero) b is = tt
  shows_blocks (suc (suc zero)) b is = tt
  shows_blocks (suc (suc (suc zero))) b is = tt
  shows_blocks (suc (suc (suc (suc k)))) b is = λ i l w.
      (let dmap : 4 + (8192 * k + i) / 8192 ≡ suc (suc (suc (suc k))) = omega (arith, l) in
      let bit : (8192 * k + i) % 8192 ≡ i = omega (arith, l) in
      sym (owned_is (8192 * k + i) w ∙ ap₂ (λ (n m : ℕ). is_taken (range_of (file_page r page 2 n) 3072 1024) m) dmap bit ∙ ap (λ (p : List ℕ). is_taken (range_of p 3072 1024) i) is))

  places : ℕ
  places = length (volume s).extents

  places_are : length (volume s).extents ≡ 128 * iags s
  unfolding extents_on
  places_are = length-map-range_with_len (extent_on r page) 0 (128 * iags_on r page)

  extent_is : (e : ℕ) → e < 128 * iags s → extent_at (inodes_on s) e ≡ extent_from (get_or (volume s).extents e None)
  extent_is e l = get_or-map extent_from (volume s).extents e None no_run (let n = places_are in omega (arith, l, n))

  on_page : (e : ℕ) → e < 128 * iags s → get_or (volume s).extents e None ≡ extent_on r page e
  unfolding extents_on
  on_page e l = get_or-map-range_with_len (extent_on r page) 0 (128 * iags_on r page) e e None l (omega arith)

  used_is : (n : ℕ) → n < 4096 * iags s → is_used (inodes_on s) n ≡ (is_some (home (volume s).extents n) && is_taken (range_of (iag_page r page (n / 4096)) 2560 512) (n % 4096))
  unfolding is_inode_used
  used_is n l = each_below-at (4096 * iags s) (volume s).in_use n false l

  shows_inodes : (j b : ℕ) → j ≤ iags s → file_page r page 16 j ≡ page b → ShowsInodes (inodes_on s) j (page b)
  shows_inodes zero b most is = ap (λ (p : List ℕ). field_of p 4 4) (sym is)
  shows_inodes (suc k) b most is = record {
    in_use = λ i l there.
        (let n = 4096 * k + i in
        let within : n < 4096 * iags s = omega (arith, l, most) in
        let extent : n / 32 ≡ 128 * k + i / 32 = omega (arith, l) in
        let e : 128 * k + i / 32 < 128 * iags s = omega (arith, l, most) in
        let iag : n / 4096 ≡ k = omega (arith, l) in
        let bit : n % 4096 ≡ i = omega (arith, l) in
        let has : is_some (home (volume s).extents n) ≡ true =
        ap (λ (m : ℕ). is_some (page_in (get_or (volume s).extents m None) n)) extent ∙ home_there (get_or (volume s).extents (128 * k + i / 32) None) n
        ∙ sym (there_back (get_or (volume s).extents (128 * k + i / 32) None)) ∙ sym (ap is_there (extent_is (128 * k + i / 32) e)) ∙ there in
        sym (used_is n within ∙ ap (λ (x : Bool). x && is_taken (range_of (iag_page r page (n / 4096)) 2560 512) (n % 4096)) has
        ∙ ap₂ (λ (m q : ℕ). is_taken (range_of (iag_page r page m) 2560 512) q) iag bit ∙ ap (λ (p : List ℕ). is_taken (range_of p 2560 512) i) is));
    extents = λ e l.
        (let within : 128 * k + e < 128 * iags s = omega (arith, l, most) in
        let iag : (128 * k + e) / 128 ≡ k = omega (arith, l) in
        let place : (128 * k + e) % 128 ≡ e = omega (arith, l) in
        sym (ap extent_place (extent_is (128 * k + e) within) ∙ place_back (get_or (volume s).extents (128 * k + e) None) ∙ on_page (128 * k + e) within
        ∙ ap₂ (λ (m q : ℕ). extent_place (pxd_of (iag_page r page m) (3072 + 8 * q))) iag place ∙ ap (λ (p : List ℕ). extent_place (pxd_of p (3072 + 8 * e))) is));
  }

  -- ---- on the image

  found : (maps : FoundMaps) → AreAtRest (geometry_of super) maps → AreMapsOf s maps → HasWholeFiles r page → KnowsFiles super page (volume s).area maps.blocks maps.inodes maps.files
  found maps rest are whole =
      let groups : maps.inodes.iags ≡ iags s = ap (λ (m : Inodes). m.iags) are.inodes_are in
      record {
        sizes = record {
          blocks_are = rest.number;
          places_are = ap (λ (m : Inodes). length m.extents) are.inodes_are ∙ length-map (volume s).extents extent_from ∙ places_are ∙ ap (λ (n : ℕ). 128 * n) (sym groups);
        };
        areas = λ b. refl;
        whole = whole;
        block_pages = rest.files.map_pages;
        inode_pages = rest.files.inode_pages;
        block_places = are.block_places;
        inode_places = are.inode_places;
        block_map = λ fresh j b h. subst (λ (m : Blocks). ShowsBlocks (blocks_of super) m j (page b)) (sym are.blocks_are) (shows_blocks j b (page_at r page 2 j b (are.block_places j b h)));
        inode_map = λ fresh j b h.
            (let l = slice_get_within maps.files.inodes.places j b h in
            subst (λ (m : Inodes). ShowsInodes m j (page b)) (sym are.inodes_are) (shows_inodes j b (omega (arith, l, rest.files.inode_pages, groups)) (page_at r page 16 j b (are.inode_places j b h))));
      }

-- ---- with another page of the superblock

pub mount_law : MountLaw
mount_law super old new maps rest are consistent whole same =
    let r = readers (blocks_of super) in
    let s = subject_of super old in
    let knows = found super old maps rest are whole in
    let v : Volume = volume_of old (volume s).area maps.blocks maps.inodes in
    let sound = subst (λ (x : Volume). IsConsistent r x) (sym are.volume_is) consistent in
    let own = own_law super old (volume s).area maps.blocks maps.inodes maps.files knows sound.sound.agrees in
    let kept : (b : ℕ) → b ≢ 8 → 0 < (volume s).area b → new b ≡ old b = λ b other more. same b other (area_below super old (volume s).area maps.blocks maps.inodes sound knows.sizes b more) in
    let places = keeps_law r super.ait2 super.aim2 v new sound.sound.agrees knows.areas whole (λ b other more none. kept b other more) in
    let at : (b : ℕ) → 0 < map_pages r old b → 0 < (volume s).area b → new b ≡ old b = λ b page more. kept b (area_not_super super old (volume s).area maps.blocks maps.inodes sound knows.areas b page) more in
    change_law super old new (volume s).area maps.blocks maps.blocks maps.inodes maps.inodes maps.files maps.files knows (record {
      places = places;
      block_places = refl;
      inode_places = refl;
      sizes = knows.sizes;
      groups = refl;
      block_map = λ fresh j b h. (let a = own.block_areas j b h in subst (λ (p : List ℕ). ShowsBlocks (blocks_of super) maps.blocks j p) (sym (at b a.0 a.1)) (knows.block_map fresh j b h));
      inode_map = λ fresh j b h. (let a = own.inode_areas j b h in subst (λ (p : List ℕ). ShowsInodes maps.inodes j p) (sym (at b a.0 a.1)) (knows.inode_map fresh j b h));
    })
