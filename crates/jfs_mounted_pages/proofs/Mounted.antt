-- The pages of a volume that was just mounted.
use Rattle.std.specs.Bool.{⊤}
use Rattle.std.proofs.Common.{◌≡◌, ◌⊎◌, ◌<◌, ◌≤◌, ◌+◌, ◌==◌, ◌&&◌, nat_le, nat_lt, refl, sym, ap, ◌∙◌, ℕ, zero, suc, true, false, List, [], ◌∷◌, length, map, get_or, slice_get, Option, Some, None, IsSome, inl, inr, arith}
use Rattle.std.proofs.lemmas.Bool.{cases_lt, or_cases, and_parts, ltb-true, eqb-true}
use Rattle.std.proofs.lemmas.Option.{slice_get-get_or}
use Rattle.jfs_bits.specs.declared.descriptor.Pxd.{Pxd}
use Rattle.jfs_disk.specs.Image.{Image, page_of}
use Rattle.jfs_super.specs.Rules.{blocks_of}
use Rattle.jfs_super.specs.declared.fields.Super.{Super}
use Rattle.jfs_left_maps.specs.Items.{IsExtent, HasFours}
use Rattle.jfs_mounted_held.proofs.Mounted.{knows, places, held}
use Rattle.jfs_mounted_held.specs.Mounted.{low_of, from_mount, IsSoundMount}
use Rattle.jfs_mounted_held.specs.mounted.specs.Mount.{IsMountOf}
use Rattle.jfs_mounted_held.specs.mounted.specs.mount_maps.specs.Maps.{inodes_on}
use Rattle.jfs_mounted_held.specs.mounted.specs.mount_maps.specs.sets.specs.Sets.{extent_from}
use Rattle.jfs_mounted_held.specs.mounted.specs.mount_rules.specs.Subject.{Subject, subject_of, volume}
use Rattle.jfs_mounted_held.specs.mounted_places.specs.Mounted.{mount_of}
use Rattle.jfs_mounted_held.specs.mounted_places.specs.Places.{StandsInPlaces, places_of}
use Rattle.jfs_mounted_held.specs.shown.specs.Files.{KnowsFiles}
use Rattle.jfs_mounted_held.specs.shown.specs.bmap.specs.MapFile.{pages_of, is_in_use}
use Rattle.jfs_mounted_held.specs.shown.specs.bmap.specs.States.{Blocks}
use Rattle.jfs_mounted_held.specs.shown.specs.imap.specs.Inodes.{Inodes, extent_at}
use Rattle.jfs_mounted_held.specs.shown.specs.map_files.specs.declared.map_file.MapFiles.{MapFiles}
use Rattle.jfs_mounted_held.specs.shown.specs.meaning.specs.Image as meaning
use Rattle.jfs_mounted_held.specs.shown.specs.objects.specs.Image.{extent_place}
use Rattle.jfs_iag.specs.Iag.{no_run}
use Rattle.jfs_pages_held.proofs.Inodes.{place_is, extent_past}
use Rattle.jfs_pages_held.specs.Pages.{MapsStand, HasExtents, PagesKept}
use Rattle.jfs_pages_held.specs.joined_held.specs.Held.{IsHeldAs}
use Rattle.jfs_pages_held.specs.joined_held.specs.held.specs.survival.specs.face.specs.Items.{extent_by, places as places_in}
use Rattle.jfs_pages_held.specs.joined_held.specs.held.specs.survival.specs.face.specs.Places.{Places}
use Rattle.jfs_pages_held.specs.joined_held.specs.held.specs.survival.specs.face.specs.Volume.{items_on}
use Rattle.jfs_pages_held.specs.joined_held.specs.held.specs.survival.specs.recovery.specs.Face.{Pages}
use Rattle.jfs_pages_held.specs.joined_held.specs.held.specs.survival.specs.recovery.specs.crash_core.specs.Core.{no_block, fresh_block}
use Rattle.jfs_volume_calls.specs.halves.specs.Log.{LogParts}
use Rattle.jfs_volume_calls.specs.halves.specs.Parts.{Parts}
use Rattle.jfs_mounted_pages.specs.Mounted.{MountedLaw}

-- no block of a volume that was just mounted is dirty
fresh_clean : (pages : Image) (q : ℕ) → IsSome (get_or (map fresh_block pages) q no_block).dirty → ⊥
fresh_clean [] q some = cc (some)
fresh_clean (page ∷ pages) zero some = cc (some)
fresh_clean (page ∷ pages) (suc q) some = fresh_clean pages q some

-- a page in use is one of the file
in_file : (blocks k : ℕ) → is_in_use blocks k ≡ true → k < pages_of blocks
in_file blocks k e = at (or_cases (k == 0) (nat_le 3 k && nat_lt k (pages_of blocks)) e)
  where
    at : (k == 0 ≡ true) ⊎ ((nat_le 3 k && nat_lt k (pages_of blocks)) ≡ true) → k < pages_of blocks
    at (inl first) = let none = eqb-true k 0 first in omega (arith, none)
    at (inr both) = ltb-true k (pages_of blocks) (and_parts (nat_le 3 k) (nat_lt k (pages_of blocks)) both).1

-- a descriptor of zeros, or of four blocks, is told by its place
by_place : (p : Pxd) (o : Option ℕ) → IsExtent p → extent_place p ≡ o → p ≡ extent_from o
by_place p o (inl none) e = none ∙ ap extent_from (sym (ap extent_place none) ∙ e)
by_place p o (inr four) e = four ∙ ap extent_from (sym (ap extent_place four) ∙ e)

module _ (s : Super) (count : ℕ) (old : Image) (p : Parts) (log : LogParts) (m : IsMountOf ⊤ ⊥ s old p log) (sound : IsSoundMount s count old m.pages) (fours : HasFours (places_of s (low_of m.pages)) (from_mount s old m).core.mounted) where
  abbrev low : Pages
  low = low_of m.pages

  abbrev pl : Places
  pl = places_of s low

  abbrev subject : Subject
  subject = subject_of s (page_of old)

  abbrev image : Pages
  image = (from_mount s old m).core.mounted

  abbrev area : ℕ → ℕ
  area = (meaning.volume_of s (page_of old)).area

  known : KnowsFiles s low area m.maps.blocks m.maps.inodes m.maps.files
  known = knows s count old p log m sound

  stands : StandsInPlaces s low area m.maps.blocks m.maps.inodes m.maps.files
  stands = places s count old p log m sound

  is_held : IsHeldAs (mount_of s low) area p (from_mount s old m).both (from_mount s old m).core (from_mount s old m).volumes
  is_held = held s count old p log m sound

  inodes_are : p.inodes ≡ inodes_on subject
  inodes_are = m.has_maps.1 ∙ (m.found tt).inodes_are

  files_are : p.files ≡ m.maps.files
  files_are = m.has_maps.3

  block_there : (k : ℕ) → is_in_use (blocks_of s) k ≡ true → slice_get p.files.blocks.places k ≡ Some (pl.block_map k)
  block_there k used =
      let at = slice_get-get_or m.maps.files.blocks.places k 0 (let l = in_file (blocks_of s) k used in let n = known.block_pages in omega (arith, l, n)) in
      ap (λ (f : MapFiles). slice_get f.blocks.places k) files_are ∙ at ∙ ap Some (sym (stands.block_places k (get_or m.maps.files.blocks.places k 0) at))

  inode_there : (k : ℕ) → k ≤ pl.iags → slice_get p.files.inodes.places k ≡ Some (pl.inode_map k)
  inode_there k l =
      let at = slice_get-get_or m.maps.files.inodes.places k 0 (let n = known.inode_pages in let i = stands.iags in omega (arith, l, n, i)) in
      ap (λ (f : MapFiles). slice_get f.inodes.places k) files_are ∙ at ∙ ap Some (sym (stands.inode_places k (get_or m.maps.files.inodes.places k 0) at))

  stand : MapsStand pl p
  stand = record {
    agsize = ap (λ (b : Blocks). b.agsize) (m.has_maps.0 ∙ (m.found tt).blocks_are);
    iags = ap (λ (i : Inodes). i.iags) m.has_maps.1 ∙ sym stands.iags;
    groups = ap (λ (i : Inodes). i.numag) inodes_are;
    group_size = ap (λ (i : Inodes). i.agsize) inodes_are;
    block_map = block_there;
    inode_map = inode_there;
    inode_pages = ap (λ (f : MapFiles). length f.inodes.places) files_are ∙ known.inode_pages ∙ ap (λ (n : ℕ). n + 1) (sym stands.iags);
  }

  -- ---- extents

  memory : p.inodes.extents ≡ map extent_from (volume subject).extents
  memory = ap (λ (i : Inodes). i.extents) inodes_are

  -- the place of an extent in memory is that on the image
  place_same : (e : ℕ) → extent_place (extent_by (items_on pl image) e) ≡ extent_place (extent_at p.inodes e)
  place_same e = sym (place_is pl image e) ∙ ap (λ (es : List (Option ℕ)). get_or es e None) is_held.held.now.shows.extents ∙ mapped p.inodes.extents e
    where
      mapped : (es : List Pxd) (k : ℕ) → get_or (map extent_place es) k None ≡ extent_place (get_or es k no_run)
      mapped [] k = refl
      mapped (x ∷ xs) zero = refl
      mapped (x ∷ xs) (suc k) = mapped xs k

  memory_is : (e : ℕ) → extent_at p.inodes e ≡ extent_from (extent_place (extent_at p.inodes e))
  memory_is e = ap (λ (es : List Pxd). get_or es e no_run) memory ∙ mapped (volume subject).extents e ∙ sym (ap (λ (es : List Pxd). extent_from (extent_place (get_or es e no_run))) memory)
    where
      back : (o : Option ℕ) → extent_from o ≡ extent_from (extent_place (extent_from o))
      back None = refl
      back (Some first) = refl

      mapped : (os : List (Option ℕ)) (k : ℕ) → get_or (map extent_from os) k no_run ≡ extent_from (extent_place (get_or (map extent_from os) k no_run))
      mapped [] k = refl
      mapped (o ∷ os) zero = back o
      mapped (o ∷ os) (suc k) = mapped os k

  extents : HasExtents pl image p.inodes
  extents e = by_place (extent_by (items_on pl image) e) (extent_place (extent_at p.inodes e)) (four e (cases_lt e (places_in pl))) (place_same e) ∙ sym (memory_is e)
    where
      four : (e : ℕ) → (e < places_in pl) ⊎ (places_in pl ≤ e) → IsExtent (extent_by (items_on pl image) e)
      four e (inl l) = fours e l
      four e (inr past) = inl (extent_past pl image e past)

  -- ---- marks

  blocks_fresh : false ≡ p.files.blocks.stale
  blocks_fresh = sym (ap (λ (f : MapFiles). f.blocks.stale) files_are ∙ m.rest.fresh.0)

  inodes_fresh : false ≡ p.files.inodes.stale
  inodes_fresh = sym (ap (λ (f : MapFiles). f.inodes.stale) files_are ∙ m.rest.fresh.1)

  pub mounted : PagesKept (mount_of s low) area p (from_mount s old m).both (from_mount s old m).core
  mounted = record {
    homes = λ q some. absurd (fresh_clean m.pages q some);
    stand = stand;
    extents = extents;
    marked = record { block_map = λ runs q is. blocks_fresh; inode_map = λ runs q is. inodes_fresh };
  }

pub mounted_law : MountedLaw
mounted_law s count old p log m sound fours = mounted s count old p log m sound fours
