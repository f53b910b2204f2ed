-- The bytes of a map's page that memory gives are those of the newest image.
use Rattle.std.proofs.Common.{◌≡◌, ◌⊎◌, ◌<◌, ◌≤◌, ◌+◌, ◌/◌, ◌%◌, ◌*◌, ◌&&◌, ◌||◌, ◌==◌, not, nat_le, nat_lt, refl, sym, ap, ◌∙◌, subst, ℕ, zero, suc, Bool, true, false, true≢false, List, length, slice_get, Option, Some, None, IsSome, is_some, inl, inr, arith}
use Rattle.std.proofs.Math.Path.{fun_ext}
use Rattle.std.proofs.lemmas.Bool.{cases_Bool, cases_lt, lt-ltb, ltb-true, and_from, and_parts, or_left, or_right, or_cases, eq-eqb, eqb-true}
use Rattle.std.proofs.lemmas.List.{get_or_past}
use Rattle.std.proofs.lemmas.Option.{slice_get_within}
use Rattle.jfs_bits.proofs.Buds.{any_below-from}
use Rattle.jfs_bits.specs.declared.descriptor.Pxd.{Pxd}
use Rattle.jfs_iag.specs.Canonical.{AreLinks, IsIagPage, IsControlPage}
use Rattle.jfs_iag.specs.declared.canonical.Links.{Links}
use Rattle.jfs_joined_held.specs.held.specs.canonical_maps.specs.Places.{HaveOwnPlaces}
use Rattle.jfs_joined_held.specs.held.specs.image_volumes.proofs.Read.{used_is}
use Rattle.jfs_joined_held.specs.held.specs.survival.proofs.Blocks.{last_within}
use Rattle.jfs_joined_held.specs.held.specs.survival.proofs.Changes.{counted}
use Rattle.jfs_joined_held.specs.held.specs.survival.specs.MapMarks.{map_marks}
use Rattle.jfs_joined_held.specs.held.specs.survival.specs.Played.{IsMapHome}
use Rattle.jfs_joined_held.specs.held.specs.survival.specs.face.proofs.Agreed.{pages_agree}
use Rattle.jfs_joined_held.specs.held.specs.survival.specs.face.proofs.Whole.{is_face}
use Rattle.jfs_joined_held.specs.held.specs.survival.specs.face.specs.Items.{extent_by, used_by, bit_of, place_of}
use Rattle.jfs_joined_held.specs.held.specs.survival.specs.face.specs.MapPages.{taken_by, inode_used_by, home_by, is_used_on, IsInodeMapPage, IsCanonicalPage}
use Rattle.jfs_joined_held.specs.held.specs.survival.specs.face.specs.Places.{Places, is_block_page, is_inode_page, is_map_page}
use Rattle.jfs_joined_held.specs.held.specs.survival.specs.face.specs.Volume.{items_on}
use Rattle.jfs_joined_held.specs.held.specs.survival.specs.recovery.proofs.Images.{Follows, canonical_image}
use Rattle.jfs_joined_held.specs.held.specs.survival.specs.recovery.specs.Core.{Core, count, image}
use Rattle.jfs_joined_held.specs.held.specs.survival.specs.recovery.specs.Face.{Pages, Item, Value}
use Rattle.jfs_joined_held.specs.held.specs.survival.specs.recovery.specs.Face.Item.{BlockBit, ExtentPlace}
use Rattle.jfs_joined_held.specs.held.specs.survival.specs.recovery.specs.Face.Value.{InUse}
use Rattle.jfs_joined_held.specs.held.specs.survival.specs.recovery.specs.crash_core.specs.Step.{EndsBy}
use Rattle.jfs_joined_held.specs.held.specs.survival.specs.recovery.specs.crash_core.specs.declared.block.Span.{Span}
use Rattle.jfs_joined_held.specs.held.specs.Held.{Mount, Held, IsImageAt, face_at, newest_image}
use Rattle.jfs_joined_held.specs.held.proofs.Played.{areas}
use Rattle.jfs_joined_held.specs.Held.{blocks_at, volume_at, held_at, IsHeldAs}
use Rattle.jfs_joined_held.specs.volume.specs.bmap.specs.MapFile.{pages_of, is_in_use, IsMapPage}
use Rattle.jfs_joined_held.specs.volume.specs.bmap.specs.States.{Owned, is_owned, is_owned_state}
use Rattle.jfs_joined_held.specs.volume.specs.data_steps.specs.declared.pages.DataPage.{DataPage}
use Rattle.jfs_joined_held.specs.volume.specs.data_steps.specs.objects.specs.Image.{is_block_used, extent_place}
use Rattle.jfs_joined_held.specs.volume.specs.data_steps.specs.objects.specs.Volume.{Volume, page_in}
use Rattle.jfs_joined_held.specs.volume.specs.halves.specs.Half.{Halves}
use Rattle.jfs_joined_held.specs.volume.specs.halves.specs.Parts.{Parts}
use Rattle.jfs_joined_held.specs.volume.specs.map_files.specs.imap.specs.Inodes.{Inodes, is_used, extent_at, IsInodePage}
use Rattle.jfs_pages_held.specs.Homes.{AllTold, IsStalePage, IsStaleBytes, of_blocks, of_inodes, MapHomeLaw}
use Rattle.jfs_pages_held.specs.Pages.{PagesKept}
use Rattle.jfs_pages_held.proofs.Entry.{stand_apart}
use Rattle.jfs_pages_held.proofs.Inodes.{own_used, used_same}

-- ---- what the items say

pub item_used : (m : Mount) (s : Pages) (v : Volume) → IsImageAt m s v → (b : ℕ) → items_on m.places s (BlockBit b) ≡ InUse (v.used b)
item_used m s v is b =
    subst (λ (pl : Places). items_on pl s (BlockBit b) ≡ InUse (is_block_used m.readers s m.blocks b)) is.is.stands.places (used_is m.readers m.blocks m.agsize m.numag m.table m.map s is.is.stands.pages b)
    ∙ ap InUse (is.is.same.used b)

some_is : {a b : ℕ} → Some a ≡ Some b → a ≡ b
some_is e = cc (e)

-- a page that is in use is one of the file
used_below : (blocks k : ℕ) → is_in_use blocks k ≡ true → k < pages_of blocks
used_below blocks k e = at (or_cases (k == 0) (nat_le 3 k && nat_lt k (pages_of blocks)) e)
  where
    at : (k == 0 ≡ true) ⊎ ((nat_le 3 k && nat_lt k (pages_of blocks)) ≡ true) → k < pages_of blocks
    at (inl first) = let none = eqb-true k 0 first in omega (arith, none)
    at (inr both) = ltb-true k (pages_of blocks) (and_parts (nat_le 3 k) (nat_lt k (pages_of blocks)) both).1

module _ (m : Mount) (area : ℕ → ℕ) (p : Parts) (both : Halves) (core : Core) (volumes : ℕ → Volume) (is_held : IsHeldAs m area p both core volumes) (kept : PagesKept m area p both core) where
  abbrev x : Held
  x = held_at both core volumes area p

  abbrev pl : Places
  pl = m.places

  abbrev s : Pages
  s = newest_image x

  abbrev v : Volume
  v = volume_at area p

  own : HaveOwnPlaces pl
  own = stand_apart m x is_held.held

  canonical : (q : ℕ) → is_map_page pl q ≡ true → Follows (face_at m) s q
  canonical q is = canonical_image (face_at m) (is_face m.readers pl (map_marks pl) (areas m x is_held.held)) core is_held.held.core_is.sound (count core) (omega arith) q is

  -- ---- the sets of memory are those of the image

  module _ (pages : Pages) (items : Item → Value) (same_pages : (q : ℕ) → is_map_page pl q ≡ false → pages q ≡ s q) (same_items : (i : Item) → items i ≡ items_on pl s i) where
    taken_is : is_owned p.map ≡ taken_by pl items
    taken_is = fun_ext (λ c. by c (cases_lt c pl.blocks))
      where
        size : pl.blocks ≡ length p.map.states
        size = is_held.blocks

        used : (c : ℕ) → used_by items c ≡ (nat_lt c (length p.map.states) && is_owned p.map c)
        used c = ap bit_of (same_items (BlockBit c) ∙ item_used m s v is_held.held.now c)

        by : (c : ℕ) → (c < pl.blocks) ⊎ (pl.blocks ≤ c) → is_owned p.map c ≡ taken_by pl items c
        by c (inl l) = sym (ap (λ (b : Bool). not b || used_by items c) (lt-ltb c pl.blocks l) ∙ used c ∙ ap (λ (b : Bool). b && is_owned p.map c) (lt-ltb c (length p.map.states) (omega (arith, l, size))))
        by c (inr past) = ap is_owned_state (get_or_past p.map.states c Owned (omega (arith, past, size))) ∙ sym (ap (λ (b : Bool). not b || used_by items c) (none (cases_Bool (nat_lt c pl.blocks))))
          where
            none : (nat_lt c pl.blocks ≡ true) ⊎ (nat_lt c pl.blocks ≡ false) → nat_lt c pl.blocks ≡ false
            none (inr h) = h
            none (inl h) = absurd (let l = ltb-true c pl.blocks h in omega (arith, l, past))

    extent_is : extent_at p.inodes ≡ extent_by items
    extent_is = fun_ext (λ e. sym (ap place_of (same_items (ExtentPlace e)) ∙ kept.extents e))

    used_is_by : is_used p.inodes ≡ inode_used_by pl pages items
    used_is_by = fun_ext (λ n. sym (used_same pl pages s same_pages n (home_by items n) ∙ ap (λ (o : Option ℕ). is_used_on pl s n o) (home_same n) ∙ own_used m s v is_held.held.now n))
      where
        home_same : (n : ℕ) → home_by items n ≡ home_by (items_on pl s) n
        home_same n = ap (λ (w : Value). page_in (extent_place (place_of w)) n) (same_items (ExtentPlace (n / 32)))

    -- ---- pages

    block_page : (k : ℕ) (bytes : List ℕ) → IsMapPage (length p.map.states) p.map.agsize (is_owned p.map) k bytes → IsMapPage pl.blocks pl.agsize (taken_by pl items) k bytes
    block_page k bytes h = subst (λ (n : ℕ). IsMapPage n pl.agsize (taken_by pl items) k bytes) (sym is_held.blocks) (subst (λ (g : ℕ). IsMapPage (length p.map.states) g (taken_by pl items) k bytes) kept.stand.agsize
        (subst (λ (t : ℕ → Bool). IsMapPage (length p.map.states) p.map.agsize t k bytes) taken_is h))

    inode_page_in : (k : ℕ) (bytes : List ℕ) → IsInodePage p.inodes k bytes → IsInodeMapPage pl (is_used p.inodes) (extent_at p.inodes) k bytes
    inode_page_in zero bytes h = subst (λ (i : ℕ). IsControlPage (is_used p.inodes) (extent_at p.inodes) i pl.numag bytes) kept.stand.iags (subst (λ (g : ℕ). IsControlPage (is_used p.inodes) (extent_at p.inodes) p.inodes.iags g bytes) kept.stand.groups (h.control refl))
    inode_page_in (suc k) bytes h =
        let page = h.iag k (omega arith) in (
          page.0,
          subst (λ (i : ℕ). AreLinks (is_used p.inodes) (extent_at p.inodes) i pl.numag k page.0) kept.stand.iags (subst (λ (g : ℕ). AreLinks (is_used p.inodes) (extent_at p.inodes) p.inodes.iags g k page.0) kept.stand.groups page.1),
          subst (λ (g : ℕ). IsIagPage (λ i. is_used p.inodes (4096 * k + i)) (λ e. extent_at p.inodes (128 * k + e)) k (k % pl.numag * g) page.0 bytes) kept.stand.group_size
              (subst (λ (g : ℕ). IsIagPage (λ i. is_used p.inodes (4096 * k + i)) (λ e. extent_at p.inodes (128 * k + e)) k (k % g * p.inodes.agsize) page.0 bytes) kept.stand.groups page.2),
        )

    inode_page : (k : ℕ) (bytes : List ℕ) → IsInodePage p.inodes k bytes → IsInodeMapPage pl (inode_used_by pl pages items) (extent_by items) k bytes
    inode_page k bytes h = subst (λ (u : ℕ → Bool). IsInodeMapPage pl u (extent_by items) k bytes) used_is_by (subst (λ (t : ℕ → Pxd). IsInodeMapPage pl (is_used p.inodes) t k bytes) extent_is (inode_page_in k bytes h))

  -- ---- where such a page stands

  low_inode : (k b : ℕ) → slice_get p.files.inodes.places k ≡ Some b → k ≤ pl.iags
  low_inode k b e = let l = slice_get_within p.files.inodes.places k b e in let n = kept.stand.inode_pages in omega (arith, l, n)

  in_pages : (k : ℕ) → is_in_use pl.blocks k ≡ true → k < pages_of pl.blocks
  in_pages k used = used_below pl.blocks k used

  in_use : (k : ℕ) → is_in_use (length p.map.states) k ≡ true → is_in_use pl.blocks k ≡ true
  in_use k used = subst (λ (n : ℕ). is_in_use n k ≡ true) (sym is_held.blocks) used

  block_there : (k b : ℕ) → is_in_use pl.blocks k ≡ true → slice_get p.files.blocks.places k ≡ Some b → pl.block_map k ≡ b
  block_there k b used e = some_is (sym (kept.stand.block_map k used) ∙ e)

  inode_there : (k b : ℕ) → slice_get p.files.inodes.places k ≡ Some b → pl.inode_map k ≡ b
  inode_there k b e = some_is (sym (kept.stand.inode_map k (low_inode k b e)) ∙ e)

  is_block : (k b : ℕ) → is_in_use pl.blocks k ≡ true → pl.block_map k ≡ b → is_block_page pl b ≡ true
  is_block k b used here = any_below-from (pages_of pl.blocks) (λ j. is_in_use pl.blocks j && pl.block_map j == b) k (in_pages k used) (and_from (is_in_use pl.blocks k) (pl.block_map k == b) used (eq-eqb (pl.block_map k) b here))

  is_inode : (k b : ℕ) → k ≤ pl.iags → pl.inode_map k ≡ b → is_inode_page pl b ≡ true
  is_inode k b low here = any_below-from (suc pl.iags) (λ j. pl.inode_map j == b) k (omega (arith, low)) (eq-eqb (pl.inode_map k) b here)

  -- ---- the page is the image's

  record IsThere (b : ℕ) (bytes : List ℕ) : Type 0 where
    is_map : is_map_page pl b ≡ true
    dirty : p.halted ≡ None → is_some (core.slots b).block.dirty ≡ true
    same : bytes ≡ s b

  there : (d : DataPage) → IsStaleBytes p d → IsThere d.block d.page.0
  there d d_is = by d_is.is
    where
      by : IsStalePage p d.block d.page.0 → IsThere d.block d.page.0
      by (of_blocks k stale used at page) =
          let in_file = in_use k used in
          let here = block_there k d.block in_file at in
          let is = is_block k d.block in_file here in
          let is_map = or_left (is_block_page pl d.block) (is_inode_page pl d.block) is in
          let f = canonical d.block is_map in
          record {
            is_map = is_map;
            dirty = λ runs. kept.marked.block_map runs d.block is ∙ stale;
            same = pages_agree pl f.pages f.pages f.items f.items (λ i. refl) (λ q other some. refl) d.block d.page.0 (s d.block) is_map (record {
              size = d_is.size;
              bytes = d_is.bytes;
              kept = f.map.kept;
              block_map = λ j j_used j_here. subst (λ (i : ℕ). IsMapPage pl.blocks pl.agsize (taken_by pl f.items) i d.page.0) (own.block_map k j in_file j_used (here ∙ sym j_here)) (block_page f.pages f.items f.same_pages f.same_items k d.page.0 page);
              inode_map = λ j low j_here. absurd (own.both k j in_file low (here ∙ sym j_here));
            }) f.map;
          }
      by (of_inodes k stale at page) =
          let low = low_inode k d.block at in
          let here = inode_there k d.block at in
          let is = is_inode k d.block low here in
          let is_map = or_right (is_block_page pl d.block) (is_inode_page pl d.block) is in
          let f = canonical d.block is_map in
          record {
            is_map = is_map;
            dirty = λ runs. kept.marked.inode_map runs d.block is ∙ stale;
            same = pages_agree pl f.pages f.pages f.items f.items (λ i. refl) (λ q other some. refl) d.block d.page.0 (s d.block) is_map (record {
              size = d_is.size;
              bytes = d_is.bytes;
              kept = f.map.kept;
              block_map = λ j j_used j_here. absurd (own.both j k j_used low (j_here ∙ sym here));
              inode_map = λ j j_low j_here. subst (λ (i : ℕ). IsInodeMapPage pl (inode_used_by pl f.pages f.items) (extent_by f.items) i d.page.0) (own.inode_map k j low j_low (here ∙ sym j_here)) (inode_page f.pages f.items f.same_pages f.same_items k d.page.0 page);
            }) f.map;
          }

  -- ---- it may go home

  some_of : (o : Option Span) → is_some o ≡ true → IsSome o
  some_of None e = absurd (true≢false (sym e))
  some_of (Some span) e = there_is span
    where
      there_is : (span : Span) → IsSome (Some span)
      there_is span = refl

  pub home : (d : DataPage) → p.halted ≡ None → AllTold both → IsStaleBytes p d → IsMapHome (face_at m) core d.block d.page.0
  home d runs all d_is =
      let at = there d d_is in
      record {
        is_map = at.is_map;
        dirty = some_of (core.slots d.block).block.dirty (at.dirty runs);
        told = ends (core.slots d.block).block.dirty (λ span e. last_within (count core) (core.slots d.block).block.dirty span (is_held.held.core_is.sound.slots d.block).ok.dirty_within e);
        bytes_are = at.same ∙ ap (λ (k : ℕ). image core k d.block) told_is;
      }
    where
      told_is : count core ≡ core.told
      told_is = counted (face_at m) both core is_held.held.core_is ∙ sym all ∙ sym is_held.held.core_is.told

      ends : (o : Option Span) → ((span : Span) → o ≡ Some span → span.last ≤ count core) → EndsBy core.told o
      ends None within = tt
      ends (Some span) within = let l = within span refl in omega (arith, l, told_is)

pub map_home_law : MapHomeLaw
map_home_law m area p both core volumes d is_held kept runs all d_is = home m area p both core volumes is_held kept d runs all d_is
