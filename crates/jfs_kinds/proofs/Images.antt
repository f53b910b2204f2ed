-- An image's maps and places are read from logged pages.
use Rattle.std.proofs.Common.{◌≡◌, ◌≤◌, ◌<◌, refl, sym, ap, ap₂, ◌∙◌, ℕ, suc, ◌+◌, ◌*◌, ◌/◌, ◌%◌, ◌&&◌, Bool, true, false, nat_le, nat_lt, if◌then◌else◌, List, [], ◌∷◌, length, map, is_some, unwrap_or, Option, Some, None, arith}
use Rattle.std.proofs.lemmas.Bool.Decides.{nat_tests}
use Rattle.std.specs.List.{range_with_len}
use Rattle.jfs_bits.specs.declared.descriptor.Pxd.{Pxd}
use Rattle.jfs_bits.specs.declared.extent.Xad.{Xad}
use Rattle.jfs_bits.specs.Field.{field_of, range_of}
use Rattle.jfs_bits.specs.Descriptor.{pxd_of}
use Rattle.jfs_bits.specs.Bits.{is_taken}
use Rattle.jfs_inode.specs.declared.fields.Dinode.{Dinode}
use Rattle.jfs_objects.specs.page_tree.specs.Walk.{Marks}
use Rattle.jfs_objects.specs.page_tree.specs.Spells.{tree_of, footprint as root_footprint}
use Rattle.jfs_objects.specs.page_tree.proofs.Footprint.{tree_frame}
use Rattle.jfs_objects.specs.Readers.{Readers}
use Rattle.jfs_objects.specs.Volume.{Volume, room, home, slot_of}
use Rattle.jfs_objects.specs.Objects.{objects, met, listed}
use Rattle.jfs_objects.specs.Owners.{unless_broken, entries, run_has, covers, holds, extents_have, sum_below, bit, IsSound}
use Rattle.jfs_objects.specs.Contents.{block_of, bytes_at}
use Rattle.jfs_objects.specs.Image.{aggregate_at, file_walk, file_extents, file_page, file_has, is_block_used, iags_on, extent_place, extent_on, extents_on, is_inode_used, area_on, volume_on}
use Rattle.jfs_objects.proofs.Sums.{sum_same}
use Rattle.jfs_objects.proofs.Blocks.{covered}
use Rattle.jfs_kinds.specs.Owner.{is_logged}
use Rattle.jfs_kinds.specs.Owner.Owner.{Area}
use Rattle.jfs_kinds.specs.Laws.{HasPlaces, KeepsLogged, HasObjects}
use Rattle.jfs_kinds.specs.Images.{IsWholeFile, HasWholeFiles, IsSameVolume, ImageLaw}
use Rattle.jfs_kinds.proofs.Single.{has_owners}
use Rattle.jfs_kinds.proofs.Logged.{logged_law}

-- ---- one file of the aggregate

in_first : (b : ℕ) → b < 16 → 1 ≤ run_has (record { len = 16; addr = 0 }) b
in_first b h = within (nat_le 0 b && nat_lt b (0 + 16)) (grind (arith, nat_tests))
  where
    within : (x : Bool) → x ≡ true → 1 ≤ (if x then 1 else 0)
    within true h = omega arith
    within false h = absurd (cc (h))

-- the pages of its tree and its own stay, and so does the page of its inode
module _ (r : Readers) (old new : ℕ → List ℕ) (k : ℕ) (whole : IsWholeFile r old k) (inode : new (11 + k / 8) ≡ old (11 + k / 8)) (stays : (b : ℕ) → 0 < file_has r old k b → new b ≡ old b) where
  tree_page : (b : ℕ) → 0 < met (file_walk r old k) b → new b ≡ old b
  unfolding file_has
  tree_page b h = stays b (let w = ap (λ l. unless_broken l (met (file_walk r old k) b)) whole.1 in omega (arith, w, h))

  own_page : (j b : ℕ) → block_of (file_extents r old k) j ≡ Some b → new b ≡ old b
  unfolding file_has
  own_page j b h = stays b (let c = covered (file_extents r old k) j b h in omega (arith, c))

  same_walk : file_walk r new k ≡ file_walk r old k
  unfolding root_footprint
  same_walk = ap (λ (d : Dinode). tree_of r.extents_order (λ b. r.extents_page (new b)) (r.extents_root d)) (ap (λ (p : List ℕ). slot_of p (k % 8)) inode)
      ∙ tree_frame r.extents_order (λ b. r.extents_page (old b)) (λ b. r.extents_page (new b)) (r.extents_root (aggregate_at old k)) (λ b h. ap r.extents_page (tree_page b h))

  pub same_page : (j : ℕ) → file_page r new k j ≡ file_page r old k j
  unfolding file_page
  same_page j = ap (λ (ms : Marks ℕ Xad). unwrap_or (bytes_at new (block_of (entries (listed r.extents_order ms)) j)) []) same_walk ∙ by (block_of (file_extents r old k) j) refl
    where
      by : (x : Option ℕ) → block_of (file_extents r old k) j ≡ x → unwrap_or (bytes_at new x) [] ≡ unwrap_or (bytes_at old x) []
      by None e = refl
      by (Some b) e = own_page j b e

  pub same_has : (b : ℕ) → file_has r new k b ≡ file_has r old k b
  unfolding file_has
  same_has b = ap (λ (ms : Marks ℕ Xad). unless_broken (listed r.extents_order ms) (met ms b) + covers b (entries (listed r.extents_order ms))) same_walk

-- ---- the image

same_map : (f g : ℕ → Option ℕ) → ((n : ℕ) → g n ≡ f n) → (ns : List ℕ) → map g ns ≡ map f ns
same_map f g h [] = refl
same_map f g h (n ∷ ns) = ap₂ (λ (x : Option ℕ) (xs : List (Option ℕ)). x ∷ xs) (h n) (same_map f g h ns)

module _ (r : Readers) (blocks : ℕ) (table second : Pxd) (old new : ℕ → List ℕ) (sound : IsSound r (volume_on r blocks table second old)) (files : HasWholeFiles r old)
    (keeps : KeepsLogged r (volume_on r blocks table second old) (volume_on r blocks table second new)) where
  abbrev v : Volume
  v = volume_on r blocks table second old

  abbrev w : Volume
  w = volume_on r blocks table second new

  in_area : (b : ℕ) → 0 < area_on r table second old b → new b ≡ old b
  in_area b h = keeps b (ap is_logged ((has_owners r v sound.agrees).alone b Area h))

  first_area : (b : ℕ) → b < 16 → 0 < area_on r table second old b
  unfolding area_on
  first_area b h = let f = in_first b h in omega (arith, f)

  first_page : (b : ℕ) → b < 16 → new b ≡ old b
  first_page b h = in_area b (first_area b h)

  file_area : (b : ℕ) → 0 < file_has r old 2 b + file_has r old 4 b + file_has r old 16 b → 0 < area_on r table second old b
  unfolding area_on
  file_area b h = omega (arith, h)

  block_map : (j : ℕ) → file_page r new 2 j ≡ file_page r old 2 j
  block_map = same_page r old new 2 files.block_map (first_page 11 (omega arith)) (λ b h. in_area b (file_area b (omega (arith, h))))

  inode_map : (j : ℕ) → file_page r new 16 j ≡ file_page r old 16 j
  inode_map = same_page r old new 16 files.inode_map (first_page 13 (omega arith)) (λ b h. in_area b (file_area b (omega (arith, h))))

  same_area : (b : ℕ) → area_on r table second new b ≡ area_on r table second old b
  unfolding area_on
  same_area b =
      let x = same_has r old new 2 files.block_map (first_page 11 (omega arith)) (λ b h. in_area b (file_area b (omega (arith, h)))) b in
      let y = same_has r old new 4 files.bad_blocks (first_page 11 (omega arith)) (λ b h. in_area b (file_area b (omega (arith, h)))) b in
      let z = same_has r old new 16 files.inode_map (first_page 13 (omega arith)) (λ b h. in_area b (file_area b (omega (arith, h)))) b in
      omega (arith, x, y, z)

  same_extents : extents_on r new ≡ extents_on r old
  unfolding extents_on
  same_extents = ap (λ (p : List ℕ). map (extent_on r new) (range_with_len 0 (128 * field_of p 4 4))) (inode_map 0)
      ∙ same_map (extent_on r old) (extent_on r new) (λ e. ap (λ (p : List ℕ). extent_place (pxd_of p (3072 + 8 * (e % 128)))) (inode_map (suc (e / 128)))) (range_with_len 0 (128 * iags_on r old))

  same_used : (b : ℕ) → is_block_used r new blocks b ≡ is_block_used r old blocks b
  unfolding is_block_used
  same_used b = ap (λ (p : List ℕ). nat_lt b blocks && is_taken (range_of p 3072 1024) (b % 8192)) (block_map (4 + b / 8192))

  same_in_use : (n : ℕ) → is_inode_used r new n ≡ is_inode_used r old n
  unfolding is_inode_used
  same_in_use n = ap₂ (λ (es : List (Option ℕ)) (p : List ℕ). is_some (home es n) && is_taken (range_of p 2560 512) (n % 4096)) same_extents (inode_map (suc (n / 4096)))

  places : HasPlaces v w
  places = record { extents = same_extents; area = same_area }

  same_objects : HasObjects r v w
  same_objects = logged_law.objects_stay r v w sound places keeps

  pub same_volume : IsSameVolume r v w
  same_volume = record {
    extents = same_extents;
    area = same_area;
    used = same_used;
    in_use = same_in_use;
    objects = same_objects;
    owners = logged_law.owners_stay r v w sound places keeps;
    sound = record {
      agrees = record {
        blocks = λ b.
            (let a = same_area b in
            let e = ap (λ (es : List (Option ℕ)). extents_have es b) same_extents in
            let m = ap (λ (es : List (Option ℕ)). sum_below (32 * length es) (λ k. holds r (objects r w k) b)) same_extents in
            let t = sum_same (room v) (λ k. holds r (objects r v k) b) (λ k. holds r (objects r w k) b) (λ k _. ap (λ o. holds r o b) (same_objects k)) in
            let u = ap bit (same_used b) in let was = sound.agrees.blocks b in
            omega (arith, a, e, m, t, u, was));
        inodes = λ n. same_in_use n ∙ sound.agrees.inodes n ∙ ap is_some (sym (same_objects n));
      };
      whole = λ n o h. sound.whole n o (sym (same_objects n) ∙ h);
    };
  }

pub image_law : ImageLaw
image_law = same_volume
