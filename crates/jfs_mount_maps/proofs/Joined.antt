-- The pages and the maps that were found are the image's volume.
use Rattle.std.proofs.Common.{◌≡◌, ◌≤◌, refl, sym, ap, ap₂, ◌∙◌, subst, ℕ, ◌+◌, ◌*◌, ◌/◌, ◌%◌, Bool, true, false, ◌&&◌, nat_lt, if◌then◌else◌, List, [], ◌∷◌, length, map, inl, inr, Option, Some, None, is_some, Ok, arith}
use Rattle.std.proofs.Math.Path.{fun_ext}
use Rattle.std.proofs.lemmas.Bool.{cases_lt, lt-ltb, le-ltb}
use Rattle.std.proofs.lemmas.List.{get_or_past}
use Rattle.std.proofs.lemmas.List.FromFn.{length-map-range_with_len}
use Rattle.jfs_bits.specs.Bits.{is_taken}
use Rattle.jfs_bits.specs.Field.{range_of}
use Rattle.jfs_bits.specs.declared.extent.Xad.{Xad}
use Rattle.jfs_map_files.specs.declared.map_file.MapFiles.{MapFiles}
use Rattle.jfs_disk.specs.Image.{Image, page_of}
use Rattle.jfs_super.specs.Rules.{blocks_of}
use Rattle.jfs_super.specs.declared.fields.Super.{Super}
use Rattle.jfs_imap.specs.Inodes.{Inodes, is_used}
use Rattle.jfs_bmap.specs.States.{Blocks, Free, Owned, is_owned, is_owned_state}
use Rattle.jfs_bmap.proofs.Views.{length-each_below, each_below-at}
use Rattle.jfs_sets.specs.objects.specs.Readers.{Readers}
use Rattle.jfs_sets.specs.objects.specs.Volume.{Volume, page_in}
use Rattle.jfs_sets.specs.objects.specs.Image.{extent_place, extent_on, extents_on, iags_on, iag_page, file_page, is_block_used, is_inode_used}
use Rattle.jfs_sets.specs.meaning.specs.Readers.{readers}
use Rattle.jfs_sets.specs.meaning.specs.Tree.{tree_on}
use Rattle.jfs_sets.specs.meaning.specs.Room.{room_on}
use Rattle.jfs_sets.specs.meaning.specs.Consistent.{IsConsistent}
use Rattle.jfs_sets.specs.mount_rules.specs.Subject.{Subject, subject_of, blocks, volume}
use Rattle.jfs_sets.specs.mount_rules.specs.Mount.{iags}
use Rattle.jfs_sets.specs.mount_rules.specs.Steps.{AreRead, Mounts}
use Rattle.jfs_sets.specs.mount_rules.specs.declared.maps.Mounted.{Mounted}
use Rattle.jfs_sets.specs.Sets.{extent_from}
use Rattle.jfs_claim.specs.way.specs.Volume.{volume_of}
use Rattle.jfs_claim.specs.room.specs.Laws.{blocks_in}
use Rattle.jfs_mount_maps.specs.Places.{ArePlacesOf}
use Rattle.jfs_mount_maps.specs.Maps.{blocks_on, inodes_on, AreMapsOf, MapsLaw}

place_back : (o : Option ℕ) → extent_place (extent_from o) ≡ o
place_back None = refl
place_back (Some first) = refl

places_back : (xs : List (Option ℕ)) → map extent_place (map extent_from xs) ≡ xs
places_back [] = refl
places_back (x ∷ xs) = ap (λ (o : Option ℕ). o ∷ map extent_place (map extent_from xs)) (place_back x) ∙ ap (λ (os : List (Option ℕ)). x ∷ os) (places_back xs)

owned_by : (x : Bool) → is_owned_state (if x then Owned else Free) ≡ x
owned_by true = refl
owned_by false = refl

-- no block past the end is in use, and no inode without a place
past_unused : (r : Readers) (page : ℕ → List ℕ) (n b : ℕ) → n ≤ b → is_block_used r page n b ≡ false
unfolding is_block_used
past_unused r page n b h = ap (λ (x : Bool). x && is_taken (range_of (file_page r page 2 (4 + b / 8192)) 3072 1024) (b % 8192)) (le-ltb b n h)

past_no_inode : (r : Readers) (page : ℕ → List ℕ) (n : ℕ) → 4096 * iags_on r page ≤ n → is_inode_used r page n ≡ false
unfolding is_inode_used extents_on
past_no_inode r page n h =
    ap (λ (o : Option ℕ). is_some (page_in o n) && is_taken (range_of (iag_page r page (n / 4096)) 2560 512) (n % 4096))
    (get_or_past (extents_on r page) (n / 32) None (let e = length-map-range_with_len (extent_on r page) 0 (128 * iags_on r page) in omega (arith, e, h)))

module _ (s : Subject) where
  abbrev v : Volume
  v = volume s

  used_is : (b : ℕ) → (nat_lt b (length (blocks_on s).states) && is_owned (blocks_on s) b) ≡ v.used b
  used_is b =
      let size : length (blocks_on s).states ≡ blocks s = length-each_below (blocks s) (λ b. if v.used b then Owned else Free) in
      elim (cases_lt b (blocks s)) [
        | inl l ↦ ap (λ (x : Bool). x && is_owned (blocks_on s) b) (lt-ltb b (length (blocks_on s).states) (omega (arith, l, size)))
            ∙ ap is_owned_state (each_below-at (blocks s) (λ b. if v.used b then Owned else Free) b Owned l) ∙ owned_by (v.used b)
        | inr l ↦ ap (λ (x : Bool). x && is_owned (blocks_on s) b) (le-ltb b (length (blocks_on s).states) (omega (arith, l, size))) ∙ sym (past_unused s.readers s.page (blocks s) b l)
      ]

  in_use_is : (n : ℕ) → is_used (inodes_on s) n ≡ v.in_use n
  in_use_is n = elim (cases_lt n (4096 * iags s)) [
    | inl l ↦ each_below-at (4096 * iags s) v.in_use n false l
    | inr l ↦ get_or_past (inodes_on s).taken n false (let e = length-each_below (4096 * iags s) v.in_use in omega (arith, e, l)) ∙ sym (past_no_inode s.readers s.page n l)
  ]

  -- the volume of the image's maps is the image's
  pub volume_is : volume_of s.page v.area (blocks_on s) (inodes_on s) ≡ v
  volume_is =
      ap (λ (es : List (Option ℕ)). record { page = s.page; extents = es; area = v.area; used = λ b. nat_lt b (length (blocks_on s).states) && is_owned (blocks_on s) b; in_use = is_used (inodes_on s) }) (places_back v.extents)
      ∙ ap (λ (f : ℕ → Bool). record { page = s.page; extents = v.extents; area = v.area; used = f; in_use = is_used (inodes_on s) }) (fun_ext used_is)
      ∙ ap (λ (f : ℕ → Bool). record { page = s.page; extents = v.extents; area = v.area; used = v.used; in_use = f }) (fun_ext in_use_is)

-- and so is that of maps which are these
pub joined : (s : Subject) (m : Blocks) (i : Inodes) → m ≡ blocks_on s → i ≡ inodes_on s → volume_of s.page (volume s).area m i ≡ volume s
joined s m i b n = ap (λ (x : Blocks). volume_of s.page (volume s).area x i) b ∙ ap (λ (x : Inodes). volume_of s.page (volume s).area (blocks_on s) x) n ∙ volume_is s

-- The maps that were read one after the other, while the pages stay, are the image's.
pub found : (s : Super) (image one two : Image) (mounted : Mounted) (m : Blocks) (i : Inodes) (limit : ℕ) (files : MapFiles) → one ≡ image → two ≡ one → Mounts (subject_of s (page_of image)) (Ok mounted)
    → (AreRead (subject_of s (page_of one)) mounted.maps → m ≡ blocks_on (subject_of s (page_of one))) → (Mounts (subject_of s (page_of two)) (Ok mounted) → i ≡ inodes_on (subject_of s (page_of two)))
    → ArePlacesOf mounted.maps.block_map files.blocks.places → ArePlacesOf mounted.maps.inodes.extents files.inodes.places
    → AreMapsOf (subject_of s (page_of image)) (record { blocks = m; inodes = i; file_limit = limit; files = files })
found s image one two mounted m i limit files first second mounts blocks inodes map_places inode_places =
    let same : two ≡ image = second ∙ first in
    let b : m ≡ blocks_on (subject_of s (page_of image)) = subst (λ (im : Image). m ≡ blocks_on (subject_of s (page_of im))) first (blocks (subst (λ (im : Image). AreRead (subject_of s (page_of im)) mounted.maps) (sym first) mounts.0)) in
    let n : i ≡ inodes_on (subject_of s (page_of image)) = subst (λ (im : Image). i ≡ inodes_on (subject_of s (page_of im))) same (inodes (subst (λ (im : Image). Mounts (subject_of s (page_of im)) (Ok mounted)) (sym same) mounts)) in
    record {
      unbroken = mounts.1;
      blocks_are = b;
      inodes_are = n;
      block_places = subst (λ (es : List Xad). ArePlacesOf es files.blocks.places) (sym mounts.0.block_map) map_places;
      inode_places = subst (λ (es : List Xad). ArePlacesOf es files.inodes.places) (sym mounts.0.inodes.extents) inode_places;
      volume_is = joined (subject_of s (page_of image)) m i b n;
    }

pub maps_law : MapsLaw
maps_law super page maps are =
    let s = subject_of super page in
    record {
      tree = ap (tree_on (readers (blocks_of super))) are.volume_is;
      room = ap₂ (λ (n : ℕ) (x : Volume). room_on (readers n) x n super.logpxd.len) number are.volume_is;
      consistent = λ c. subst (λ (x : Volume). IsConsistent (readers (blocks_of super)) x) (sym are.volume_is) c;
    }
  where
    number : blocks_in maps.blocks ≡ blocks_of super
    number = ap (λ (m : Blocks). length m.states) are.blocks_are ∙ length-each_below (blocks_of super) (λ b. if (volume (subject_of super page)).used b then Owned else Free)
