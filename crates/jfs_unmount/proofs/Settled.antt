-- The image of a volume whose pages show its maps.
use Rattle.std.proofs.Common.{◌≡◌, ◌≢◌, ◌⊎◌, ◌≤◌, ◌<◌, refl, sym, ap, ◌∙◌, subst, ℕ, ◌+◌, Bool, true, false, ◌&&◌, nat_le, nat_lt, List, length, inl, inr, arith}
use Rattle.std.proofs.lemmas.Bool.{cases_lt, le-ltb}
use Rattle.std.proofs.lemmas.Bool.Decides.{nat_tests}
use Rattle.jfs_super.specs.Rules.{blocks_of}
use Rattle.jfs_super.specs.declared.fields.Super.{Super}
use Rattle.jfs_shown.specs.imap.specs.Inodes.{Inodes}
use Rattle.jfs_shown.specs.bmap.specs.States.{Blocks, is_owned}
use Rattle.jfs_volume_calls.specs.plain.specs.Moves.{Same}
use Rattle.jfs_volume_calls.specs.plain.specs.Tree.{Tree}
use Rattle.jfs_shown.specs.objects.specs.Readers.{Readers}
use Rattle.jfs_shown.specs.objects.specs.Volume.{Volume}
use Rattle.jfs_shown.specs.objects.specs.Owners.{owners, bit, run_has}
use Rattle.jfs_shown.specs.objects.specs.Image.{file_page, file_has, area_on}
use Rattle.jfs_shown.specs.kinds.proofs.Images.{same_page}
use Rattle.jfs_shown.specs.meaning.specs.Readers.{readers}
use Rattle.jfs_shown.specs.meaning.specs.Tree.{tree_on}
use Rattle.jfs_shown.specs.meaning.specs.Consistent.{IsConsistent}
use Rattle.jfs_shown.specs.way.specs.Volume.{volume_of}
use Rattle.jfs_shown.specs.Shown.{ShowsBlocks, ShowsInodes, ShowsMaps}
use Rattle.jfs_shown.specs.Laws.{HasSizes, AreAreas, KeepsPlaces, map_pages}
use Rattle.jfs_shown.proofs.Image.{image_law}
use Rattle.jfs_shown.proofs.Places.{files_law, keeps_law}
use Rattle.jfs_mounted.specs.Laws.{SameButSuper}
use Rattle.jfs_mounted.proofs.Marked.{in_first, area_there, same_tree, still_consistent}
use Rattle.jfs_unmount.specs.Laws.{IsSettled, KeepsTree, SettledLaw}

-- On a consistent volume of pages and maps a block of an area is in use, once, and so lies within the file system part.
module _ (s : Super) (page : ℕ → List ℕ) (area : ℕ → ℕ) (m : Blocks) (i : Inodes) (consistent : IsConsistent (readers (blocks_of s)) (volume_of page area m i)) where
  abbrev held : Volume
  held = volume_of page area m i

  used_within : HasSizes s m i → (b : ℕ) → held.used b ≡ true → b < blocks_of s
  used_within sizes b used = by (cases_lt b (length m.states))
    where
      by : (b < length m.states) ⊎ (length m.states ≤ b) → b < blocks_of s
      by (inl l) = omega (arith, l, sizes.blocks_are)
      by (inr past) = absurd (cc (used, ap (λ (x : Bool). x && is_owned m b) (le-ltb b (length m.states) past)))

  in_area : (b : ℕ) → 0 < area b → (held.used b ≡ true) × (area b ≤ 1)
  in_area b more = by (held.used b) refl (consistent.sound.agrees.blocks b)
    where
      by : (x : Bool) → held.used b ≡ x → owners (readers (blocks_of s)) held b ≡ bit x → (held.used b ≡ true) × (area b ≤ 1)
      by true e n = (e, omega (arith, n))
      by false e n = absurd (omega (arith, n, more))

  pub area_below : HasSizes s m i → (b : ℕ) → 0 < area b → b < blocks_of s
  area_below sizes b more = used_within sizes b (in_area b more).0

  module _ (areas : AreAreas s page area) where
    has_first : (b : ℕ) → run_has (record { len = 16; addr = 0 }) b + file_has (readers (blocks_of s)) page 2 b + file_has (readers (blocks_of s)) page 16 b ≤ area b
    unfolding area_on
    has_first b = let a = areas b in omega (arith, a)

    -- the superblock's page isn't a file's
    pub file_not_super : (b : ℕ) → 0 < file_has (readers (blocks_of s)) page 2 b + file_has (readers (blocks_of s)) page 16 b → b ≢ 8
    file_not_super b more e =
        let one : 1 ≤ run_has (record { len = 16; addr = 0 }) 8 = in_first (nat_le 0 8 && nat_lt 8 (0 + 16)) (grind (arith, nat_tests)) in
        let f = has_first 8 in
        let o = (in_area 8 (omega (arith, one, f))).1 in
        let n : 0 < file_has (readers (blocks_of s)) page 2 8 + file_has (readers (blocks_of s)) page 16 8 = subst (λ (n : ℕ). 0 < file_has (readers (blocks_of s)) page 2 n + file_has (readers (blocks_of s)) page 16 n) e more in
        absurd (omega (arith, one, f, o, n))

    pub file_area : (b : ℕ) → 0 < file_has (readers (blocks_of s)) page 2 b + file_has (readers (blocks_of s)) page 16 b → 0 < area b
    file_area b more = let f = has_first b in omega (arith, f, more)

    pub area_not_super : (b : ℕ) → 0 < map_pages (readers (blocks_of s)) page b → b ≢ 8
    unfolding file_has
    area_not_super b more = file_not_super b (omega (arith, more))

module _ (s : Super) (old new : ℕ → List ℕ) (area : ℕ → ℕ) (m : Blocks) (i : Inodes) (settled : IsSettled s old area m i) (same : SameButSuper s old new) where
  abbrev r : Readers
  r = readers (blocks_of s)

  abbrev v : Volume
  v = volume_of old area m i

  kept : (b : ℕ) → b ≢ 8 → 0 < area b → new b ≡ old b
  kept b other more = same b other (area_below s old area m i settled.consistent settled.sizes b more)

  first : 0 < area 8
  first = let a = settled.areas 8 in let t = area_there r s.ait2 s.aim2 old in omega (arith, a, t)

  keeps : (b : ℕ) → b ≢ 8 → v.used b ≡ true → new b ≡ v.page b
  keeps b other used = same b other (used_within s old area m i settled.consistent settled.sizes b used)

  consistent : IsConsistent r (volume_of new area m i)
  consistent = still_consistent r v settled.consistent.sound first new keeps settled.consistent

  -- ---- where the files lie

  places : KeepsPlaces r old new
  places = keeps_law r s.ait2 s.aim2 v new settled.consistent.sound.agrees settled.areas settled.files (λ b other more none. kept b other more)

  areas : AreAreas s new area
  areas b = settled.areas b ∙ sym ((files_law r s.ait2 s.aim2 old new places).areas b)

  of_file : (b : ℕ) → 0 < file_has r old 2 b + file_has r old 16 b → new b ≡ old b
  of_file b more = kept b (file_not_super s old area m i settled.consistent settled.areas b more) (file_area s old area m i settled.consistent settled.areas b more)

  block_map : (j : ℕ) → file_page r new 2 j ≡ file_page r old 2 j
  block_map = same_page r old new 2 settled.files.block_map places.low_inodes (λ b h. of_file b (omega (arith, h)))

  inode_map : (j : ℕ) → file_page r new 16 j ≡ file_page r old 16 j
  inode_map = same_page r old new 16 settled.files.inode_map places.high_inodes (λ b h. of_file b (omega (arith, h)))

  shows : ShowsMaps s new m i
  shows = record {
    block_map = λ j l. subst (λ (p : List ℕ). ShowsBlocks (blocks_of s) m j p) (sym (block_map j)) (settled.shows.block_map j l);
    inode_map = λ j l. subst (λ (p : List ℕ). ShowsInodes i j p) (sym (inode_map j)) (settled.shows.inode_map j l);
  }

  pub tree_kept : KeepsTree s old new area m i
  tree_kept =
      let spells = image_law s new area m i settled.sizes areas shows consistent in
      record {
        consistent = spells.consistent;
        tree = subst (λ (t : Tree). Same (tree_on r v) t) spells.tree (same_tree r v settled.consistent.sound first new keeps);
        room = spells.room;
      }

pub settled_law : SettledLaw
settled_law = tree_kept
