-- The maps of a volume stand apart.
use Rattle.std.proofs.Common.{◌≡◌, ◌⊎◌, ◌≤◌, ◌<◌, ◌+◌, ℕ, suc, Bool, true, false, List, inl, inr, arith}
use Rattle.std.specs.Prelude.{Option, Some, None, is_some}
use Rattle.std.proofs.lemmas.Bool.{eqb-true}
use Rattle.std.proofs.lemmas.Option.{none-some}
use Rattle.jfs_bits.specs.Broken.{AllHold, Holds}
use Rattle.jfs_bits.proofs.Broken.{first_broken-none}
use Rattle.jfs_disk.specs.Image.{Image, page_of}
use Rattle.jfs_ranges.specs.declared.edit.Edit.{Edit}
use Rattle.jfs_records.specs.Redo.{all_of}
use Rattle.jfs_super.specs.Rules.{blocks_of}
use Rattle.jfs_super.specs.declared.fields.Super.{Super}
use Rattle.jfs_bmap.specs.MapFile.{is_in_use, pages_of}
use Rattle.jfs_redo_steps.specs.objects.specs.Readers.{Readers}
use Rattle.jfs_redo_steps.specs.objects.specs.Objects.{met, listed}
use Rattle.jfs_redo_steps.specs.objects.specs.Owners.{covers, extents_have, Agrees}
use Rattle.jfs_redo_steps.specs.objects.specs.Contents.{block_of}
use Rattle.jfs_redo_steps.specs.objects.specs.Image.{file_walk, file_extents, file_has, area_on}
use Rattle.jfs_redo_steps.specs.objects.proofs.Blocks.{covered}
use Rattle.jfs_redo_steps.specs.objects.proofs.Homes.{home_counts}
use Rattle.jfs_redo_steps.specs.objects.proofs.Owned.{is_bit}
use Rattle.jfs_mount_maps.specs.mount_rules.specs.Subject.{Subject, subject_of, volume}
use Rattle.jfs_mount_maps.specs.mount_rules.specs.Mount.{place, covered as covered_to, iags, map_rows, broken_maps}
use Rattle.jfs_mount_maps.specs.mount_rules.proofs.Passed.{all_pass}
use Rattle.jfs_redo.specs.Put.{place_if}
use Rattle.jfs_redo.specs.Redo.{IsMapPlace, block_map_place}
use Rattle.jfs_redo.specs.Partly.{extents_then, LocatesMaps, MapsStandApart}
use Rattle.jfs_redo.specs.Apart.{map_files_have, KeepsOffMaps, AreNamedOnce, StandApart, NameOnce}
use Rattle.jfs_redo.proofs.Named.{one_place, not_broken, first_area, extents_clear}

-- a page that is in use has the place of its block
pub place_is : (t : Bool) (o : Option ℕ) (b : ℕ) → place_if t o ≡ Some b → o ≡ Some b
place_is true o b h = h
place_is false o b h = absurd (none-some b h)

-- ---- what an area has

-- how often a file has a block as a page of its own; and all blocks of both maps' files are in the fixed areas
pub file_counts : (r : Readers) (page : ℕ → List ℕ) (f k b : ℕ) → block_of (file_extents r page f) k ≡ Some b → 0 < file_has r page f b
unfolding file_has
file_counts r page f k b h = let c = covered (file_extents r page f) k b h in omega (arith, c)

pub in_area : (s : Subject) (b : ℕ) → map_files_have s b ≤ (volume s).area b
unfolding area_on
in_area s b = omega arith

-- the first 16 blocks are one beside them
pub in_both : (s : Subject) (b : ℕ) → b < 16 → map_files_have s b < (volume s).area b
unfolding area_on
in_both s b low = let f = first_area b low in omega (arith, f)

pub place_has : (s : Subject) (b : ℕ) → IsMapPlace s b → 0 < map_files_have s b
place_has s b (inl (k, low, at)) = let c = file_counts s.readers s.page 2 k b (place_is (is_in_use (blocks_of s.super) k) (block_of (file_extents s.readers s.page 2) k) b at) in omega (arith, c)
place_has s b (inr (k, low, at)) = let c = file_counts s.readers s.page 16 k b at in omega (arith, c)

-- ---- a volume whose maps break no rule

module _ (s : Super) (old : Image) (unbroken : broken_maps (subject_of s (page_of old)) ≡ None) where
  abbrev sub : Subject
  sub = subject_of s (page_of old)

  were : AllHold Holds (map_rows sub)
  were = first_broken-none (map_rows sub) unbroken

  first_of : (f n : ℕ) → 0 < n → covered_to sub f n ≡ n → is_some (place sub f 0) ≡ true
  unfolding covered_to
  first_of f n some all = all_pass (λ j. is_some (place sub f j)) n 0 all some

  block_map_whole : is_some (place sub 2 0) ≡ true
  unfolding map_rows
  block_map_whole = first_of 2 (pages_of (blocks_of s)) (omega arith) (eqb-true (covered_to sub 2 (pages_of (blocks_of s))) (pages_of (blocks_of s)) were.0)

  inode_map_whole : is_some (place sub 16 0) ≡ true
  unfolding map_rows
  inode_map_whole = first_of 16 (suc (iags sub)) (omega arith) (eqb-true (covered_to sub 16 (suc (iags sub))) (suc (iags sub)) were.1.0)

  -- tree pages of both files count
  pub block_tree : (b : ℕ) → met (file_walk sub.readers sub.page 2) b ≤ file_has sub.readers sub.page 2 b
  unfolding file_has
  block_tree b =
      let w = not_broken (listed sub.readers.extents_order (file_walk sub.readers sub.page 2)) 0 (met (file_walk sub.readers sub.page 2) b) block_map_whole in
      omega (arith, w)

  pub inode_tree : (b : ℕ) → met (file_walk sub.readers sub.page 16) b ≤ file_has sub.readers sub.page 16 b
  unfolding file_has
  inode_tree b =
      let w = not_broken (listed sub.readers.extents_order (file_walk sub.readers sub.page 16)) 0 (met (file_walk sub.readers sub.page 16) b) inode_map_whole in
      omega (arith, w)

  -- a page that locates the maps is one of the first, or of a tree
  locates : (b : ℕ) → LocatesMaps sub b → (b < 16) ⊎ (0 < map_files_have sub b)
  locates b (inl is) = inl (omega (arith, is))
  locates b (inr (inl is)) = inl (omega (arith, is))
  locates b (inr (inr (inl is))) = inl (omega (arith, is))
  locates b (inr (inr (inr (inl h)))) = let t = block_tree b in inr (omega (arith, t, h))
  locates b (inr (inr (inr (inr h)))) = let t = inode_tree b in inr (omega (arith, t, h))

  -- so a place of the maps, if it is one, is in the areas twice
  twice_in_tree : (b : ℕ) → IsMapPlace sub b → 0 < met (file_walk sub.readers sub.page 2) b + met (file_walk sub.readers sub.page 16) b → 1 < map_files_have sub b
  unfolding file_has
  twice_in_tree b is h =
      let v = not_broken (listed sub.readers.extents_order (file_walk sub.readers sub.page 2)) 0 (met (file_walk sub.readers sub.page 2) b) block_map_whole in
      let w = not_broken (listed sub.readers.extents_order (file_walk sub.readers sub.page 16)) 0 (met (file_walk sub.readers sub.page 16) b) inode_map_whole in
      let c = own b is in
      omega (arith, v, w, h, c)
    where
      own : (b : ℕ) → IsMapPlace sub b → 0 < covers b (file_extents sub.readers sub.page 2) + covers b (file_extents sub.readers sub.page 16)
      own b (inl (k, low, at)) =
          let c = covered (file_extents sub.readers sub.page 2) k b (place_is (is_in_use (blocks_of s) k) (block_of (file_extents sub.readers sub.page 2) k) b at) in
          omega (arith, c)
      own b (inr (k, low, at)) = let c = covered (file_extents sub.readers sub.page 16) k b at in omega (arith, c)

  twice : (b : ℕ) → IsMapPlace sub b → LocatesMaps sub b → 1 < (volume sub).area b
  twice b is where_is = by where_is
    where
      low : b < 16 → 1 < (volume sub).area b
      low h = let i = in_both sub b h in let p = place_has sub b is in omega (arith, i, p)

      tree : 0 < met (file_walk sub.readers sub.page 2) b + met (file_walk sub.readers sub.page 16) b → 1 < (volume sub).area b
      tree h = let t = twice_in_tree b is h in let i = in_area sub b in omega (arith, t, i)

      by : LocatesMaps sub b → 1 < (volume sub).area b
      by (inl e) = low (omega (arith, e))
      by (inr (inl e)) = low (omega (arith, e))
      by (inr (inr (inl e))) = low (omega (arith, e))
      by (inr (inr (inr (inl h)))) = tree (omega (arith, h))
      by (inr (inr (inr (inr h)))) = tree (omega (arith, h))

  module _ (txs : List (List Edit)) (once : AreNamedOnce s txs old) (off : KeepsOffMaps s txs old) where
    block_once : (b : ℕ) → 0 < file_has sub.readers sub.page 2 b → covers b (file_extents sub.readers sub.page 2) ≤ 1
    unfolding file_has
    block_once b h = let o = once.areas b (omega (arith, h)) in let i = in_area sub b in omega (arith, o, i)

    inode_once : (b : ℕ) → 0 < file_has sub.readers sub.page 16 b → covers b (file_extents sub.readers sub.page 16) ≤ 1
    unfolding file_has
    inode_once b h = let o = once.areas b (omega (arith, h)) in let i = in_area sub b in omega (arith, o, i)

    in_file : (k b : ℕ) → block_map_place sub k ≡ Some b → block_of (file_extents sub.readers sub.page 2) k ≡ Some b
    in_file k b at = place_is (is_in_use (blocks_of s) k) (block_of (file_extents sub.readers sub.page 2) k) b at

    pub apart : MapsStandApart s txs old
    apart = record {
      blocks = λ j k b h g.
          (let here = file_counts sub.readers sub.page 2 j b (in_file j b h) in
          one_place (file_extents sub.readers sub.page 2) j k b (block_once b here) (in_file j b h) (in_file k b g));
      inodes = λ j k b h g. one_place (file_extents sub.readers sub.page 16) j k b (inode_once b (file_counts sub.readers sub.page 16 j b h)) h g;
      both = λ j k b h g.
          (let x = file_counts sub.readers sub.page 2 j b (in_file j b h) in
          let y = file_counts sub.readers sub.page 16 k b g in
          let o = once.areas b (omega (arith, x)) in
          let i = in_area sub b in
          absurd (omega (arith, x, y, o, i)));
      located = λ b is where_is. (let t = twice b is where_is in let o = once.areas b (place_has sub b is) in absurd (omega (arith, t, o)));
      homes = λ n b at is. (let here = home_counts (extents_then s txs old) n b at in let o = once.extents b is in absurd (omega (arith, here, o)));
      logged = λ b high is. off.maps b is;
      stays = λ b high where_is. elim (locates b where_is) [ inl low ↦ absurd (omega (arith, high, low)) | inr has ↦ off.files b has ];
    }

pub stand_apart : StandApart
stand_apart s txs old unbroken once off = apart s old unbroken txs once off

-- ---- a volume whose maps agree

module _ (s : Super) (txs : List (List Edit)) (old : Image) (agrees : Agrees (subject_of s (page_of old)).readers (volume (subject_of s (page_of old)))) (off : KeepsOffMaps s txs old) where
  abbrev agreed : Subject
  agreed = subject_of s (page_of old)

  -- what has a place of its own names each block once
  fixed_once : (b : ℕ) → (volume agreed).area b + extents_have (volume agreed).extents b ≤ 1
  fixed_once b = let e = agrees.blocks b in let o = is_bit ((volume agreed).used b) in omega (arith, e, o)

  pub named : AreNamedOnce s txs old
  named = record {
    areas = λ b has. (let f = fixed_once b in omega (arith, f));
    extents = λ b is.
        (let f = fixed_once b in
        let h = place_has agreed b is in
        let i = in_area agreed b in
        extents_clear (all_of txs) (volume agreed).extents b (off.maps b is) (omega (arith, f, h, i)));
  }

pub name_once : NameOnce
name_once s txs old agrees off = named s txs old agrees off
