-- The superblock's page alone is another one: no rule of the maps is broken by it, and the dmaps have the bits that they had.
use Rattle.std.proofs.Common.{◌≡◌, ◌⊎◌, ◌≤◌, ◌<◌, ◌+◌, ◌*◌, ◌/◌, ◌%◌, ◌&&◌, ◌||◌, ◌==◌, not, nat_le, ℕ, suc, Bool, true, false, List, Option, Some, is_some, unwrap_or, None, refl, sym, ap, ◌∙◌, subst, inl, inr, arith}
use Rattle.std.specs.List.{range_with_len, prefix_len}
use Rattle.std.proofs.Math.Path.{fun_ext}
use Rattle.std.proofs.lemmas.Bool.{or_cases, and_parts, eqb-true}
use Rattle.jfs_bits.specs.Bits.{is_taken}
use Rattle.jfs_bits.specs.Broken.{AllHold, Holds}
use Rattle.jfs_bits.specs.Descriptor.{pxd_of}
use Rattle.jfs_bits.specs.Field.{AreBytes, field_of, range_of}
use Rattle.jfs_bits.specs.declared.descriptor.Pxd.{Pxd}
use Rattle.jfs_bits.specs.declared.extent.Xad.{Xad}
use Rattle.jfs_bits.proofs.Buds.{any_below-at}
use Rattle.jfs_bits.proofs.Broken.{first_broken-none, none-first_broken}
use Rattle.jfs_iag.specs.Canonical.{is_there}
use Rattle.jfs_super.specs.Rules.{blocks_of}
use Rattle.jfs_super.specs.declared.fields.Super.{Super}
use Rattle.jfs_mount.specs.Mount.{covered, iags, fits_extent, fitting, map_rows, mount_rows, broken_maps, broken_mount}
use Rattle.jfs_mount.specs.Subject.{Subject, subject_of}
use Rattle.jfs_shown.specs.Laws.{SamePlaces}
use Rattle.jfs_shown.specs.bmap.specs.MapFile.{pages_of, is_in_use}
use Rattle.jfs_shown.specs.kinds.specs.Images.{HasWholeFiles, IsSameVolume}
use Rattle.jfs_shown.specs.meaning.specs.Image as meaning
use Rattle.jfs_shown.specs.meaning.specs.Readers.{readers}
use Rattle.jfs_shown.specs.objects.specs.Contents.{block_of}
use Rattle.jfs_shown.specs.objects.specs.Image.{file_extents, file_page}
use Rattle.jfs_shown.specs.objects.specs.Owners.{IsSound, owners, bit}
use Rattle.jfs_shown.specs.objects.specs.Readers.{Readers}
use Rattle.jfs_mounted_held.specs.mounted_places.specs.held.specs.image_volumes.proofs.Read.{file_page_is}
use Rattle.jfs_mounted_held.specs.mounted_places.specs.held.specs.canonical_maps.specs.Laws.{HasMapBytes}
use Rattle.jfs_mounted_held.specs.mounted_places.specs.held.specs.survival.specs.face.specs.Mounted.{HasMapPages}
use Rattle.jfs_mounted_held.specs.mounted_places.specs.held.specs.survival.specs.face.specs.Places.{is_block_page, is_inode_page}
use Rattle.jfs_mounted_held.specs.mounted_places.specs.Mounted.{SetsPast}
use Rattle.jfs_mounted_held.specs.mounted_places.specs.Places.{places_of}
use Rattle.jfs_redone_volumes.proofs.Superblock.{places, map_page, inode_page, superblock_law}
use Rattle.jfs_mounted_held.specs.unmount.specs.mounted.proofs.Marked.{area_there, used_below}

is_none : (x : Option ℕ) → is_some x ≡ false → x ≡ None
is_none None e = refl
is_none (Some n) e = absurd (cc (e))

-- the rules of a mount are those on the maps, and one more
pub maps_hold : (s : Subject) → broken_mount s ≡ None → AllHold Holds (map_rows s)
unfolding map_rows mount_rows
maps_hold s none = let were = first_broken-none (mount_rows s) none in (were.0, (were.1.0, (were.1.1.0, (were.1.1.1.0, (were.1.1.1.1.0, tt)))))

module _ (s : Super) (old low : ℕ → List ℕ) (sound : IsSound (readers (blocks_of s)) (meaning.volume_of s old)) (whole : HasWholeFiles (readers (blocks_of s)) old) (same : (p : ℕ) → p < blocks_of s → (p ≡ 8 → ⊥) → low p ≡ old p) where
  abbrev r : Readers
  r = readers (blocks_of s)

  abbrev was : Subject
  was = subject_of s old

  abbrev now : Subject
  now = subject_of s low

  files : SamePlaces r s.ait2 s.aim2 old low
  files = places r (blocks_of s) s.ait2 s.aim2 old low sound whole same

  -- the sets and the objects are those that they were
  pub same_volume : IsSameVolume r (meaning.volume_of s old) (meaning.volume_of s low)
  same_volume = superblock_law r (blocks_of s) s.ait2 s.aim2 old low sound whole same

  pub whole_files : HasWholeFiles r low
  whole_files = files.whole whole

  block_page : (k : ℕ) → file_page r low 2 k ≡ file_page r old 2 k
  block_page k = map_page r (blocks_of s) s.ait2 s.aim2 old low sound whole same k

  group_page : (k : ℕ) → file_page r low 16 k ≡ file_page r old 16 k
  group_page k = inode_page r (blocks_of s) s.ait2 s.aim2 old low sound whole same k

  groups : iags now ≡ iags was
  groups = ap (λ (a : List ℕ). field_of a 4 4) (group_page 0)

  covered_blocks : (n : ℕ) → covered now 2 n ≡ covered was 2 n
  unfolding covered
  covered_blocks n = ap (λ (es : List Xad). prefix_len (λ j. is_some (block_of es j)) (range_with_len 0 n)) files.block_map

  covered_inodes : (n : ℕ) → covered now 16 n ≡ covered was 16 n
  unfolding covered
  covered_inodes n = ap (λ (es : List Xad). prefix_len (λ j. is_some (block_of es j)) (range_with_len 0 n)) files.inode_map

  fits_same : (e : ℕ) → fits_extent now e ≡ fits_extent was e
  fits_same e = ap (λ (a : List ℕ). let d : Pxd = pxd_of a (3072 + 8 * (e % 128)) in not (is_there d) || (d.len == 4 && nat_le (d.addr + 4) (blocks_of s))) (group_page (suc (e / 128)))

  all_fit : fitting now ≡ fitting was
  unfolding fitting
  all_fit = ap (λ (n : ℕ). prefix_len (fits_extent now) (range_with_len 0 (128 * n))) groups ∙ ap (λ (f : ℕ → Bool). prefix_len f (range_with_len 0 (128 * iags was))) (fun_ext fits_same)

  pub unbroken : broken_mount was ≡ None → broken_maps now ≡ None
  unfolding map_rows
  unbroken none =
      let were = maps_hold was none in
      none-first_broken (map_rows now) (
        ap (λ (n : ℕ). n == pages_of (blocks_of s)) (covered_blocks (pages_of (blocks_of s))) ∙ were.0,
        (
          ap (λ (n : ℕ). covered now 16 (suc n) == suc n) groups ∙ ap (λ (n : ℕ). n == suc (iags was)) (covered_inodes (suc (iags was))) ∙ were.1.0,
          (
            ap (λ (a : List ℕ). field_of a 0 8 == blocks_of s) (block_page 0) ∙ were.1.1.0,
            (
              ap (λ (n : ℕ). nat_le 1 n && nat_le n 65536) groups ∙ were.1.1.1.0,
              (ap (λ (n : ℕ). fitting now == 128 * n) groups ∙ ap (λ (n : ℕ). n == 128 * iags was) all_fit ∙ were.1.1.1.1.0, tt),
            ),
          ),
        ),
      )

  -- the superblock's page is one of the volume's
  eight : 8 < blocks_of s
  eight = by ((meaning.volume_of s old).used 8) refl (sound.agrees.blocks 8)
    where
      by : (x : Bool) → (meaning.volume_of s old).used 8 ≡ x → owners r (meaning.volume_of s old) 8 ≡ bit x → 8 < blocks_of s
      by true e n = used_below r old (blocks_of s) 8 e
      by false e n = let first = area_there r s.ait2 s.aim2 old in absurd (omega (arith, n, first))

  -- a page of the block map's file, or the first page of all where there is none
  block_stays : (n : ℕ) (b : Bool) → is_some (block_of (file_extents r old 2) n) ≡ b → low ((places_of s low).block_map n) ≡ old ((places_of s old).block_map n)
  block_stays n true there = file_page_is r low 2 n (ap (λ (es : List Xad). is_some (block_of es n)) files.block_map ∙ there) ∙ block_page n ∙ sym (file_page_is r old 2 n there)
  block_stays n false there =
      let none : block_of (file_extents r old 2) n ≡ None = is_none (block_of (file_extents r old 2) n) there in
      ap low (ap (λ (es : List Xad). unwrap_or (block_of es n) 0) files.block_map ∙ ap (λ (x : Option ℕ). unwrap_or x 0) none)
      ∙ same 0 (let e = eight in omega (arith, e)) (λ e. omega (arith, e))
      ∙ ap old (sym (ap (λ (x : Option ℕ). unwrap_or x 0) none))

  pub past : SetsPast (places_of s old) old → SetsPast (places_of s low) low
  past sets k i used beyond small =
      let n : ℕ = suc (suc (suc (suc k))) in
      ap (λ (a : List ℕ). is_taken (range_of a 3072 1024) i) (block_stays n (is_some (block_of (file_extents r old 2) n)) refl) ∙ sets k i used beyond small

  -- the maps' pages are pages of the image
  pub bytes : HasMapPages r (blocks_of s) old → ((p : ℕ) → AreBytes (old p)) → HasMapBytes (places_of s low) low
  bytes has are p is_map = by (or_cases (is_block_page (places_of s low) p) (is_inode_page (places_of s low) p) is_map)
    where
      block_map : (k : ℕ) → is_in_use (blocks_of s) k ≡ true → AreBytes (low ((places_of s low).block_map k))
      block_map k used =
          let there : is_some (block_of (file_extents r low 2) k) ≡ true = ap (λ (es : List Xad). is_some (block_of es k)) files.block_map ∙ has.block_map k used in
          subst AreBytes (sym (file_page_is r low 2 k there ∙ block_page k ∙ sym (file_page_is r old 2 k (has.block_map k used)))) (are (unwrap_or (block_of (file_extents r old 2) k) 0))

      inode_map : (k : ℕ) → k ≤ iags now → AreBytes (low ((places_of s low).inode_map k))
      inode_map k few =
          let here = has.inode_map k (omega (arith, few, groups)) in
          let there : is_some (block_of (file_extents r low 16) k) ≡ true = ap (λ (es : List Xad). is_some (block_of es k)) files.inode_map ∙ here in
          subst AreBytes (sym (file_page_is r low 16 k there ∙ group_page k ∙ sym (file_page_is r old 16 k here))) (are (unwrap_or (block_of (file_extents r old 16) k) 0))

      by : (is_block_page (places_of s low) p ≡ true) ⊎ (is_inode_page (places_of s low) p ≡ true) → AreBytes (low p)
      by (inl e) =
          let one = any_below-at (pages_of (blocks_of s)) (λ k. is_in_use (blocks_of s) k && (places_of s low).block_map k == p) e in
          let both = and_parts (is_in_use (blocks_of s) one.0) ((places_of s low).block_map one.0 == p) one.2 in
          subst (λ (q : ℕ). AreBytes (low q)) (eqb-true ((places_of s low).block_map one.0) p both.1) (block_map one.0 both.0)
      by (inr e) =
          let one = any_below-at (suc (iags now)) (λ k. (places_of s low).inode_map k == p) e in
          let few = one.1 in
          subst (λ (q : ℕ). AreBytes (low q)) (eqb-true ((places_of s low).inode_map one.0) p one.2) (inode_map one.0 (omega (arith, few)))
