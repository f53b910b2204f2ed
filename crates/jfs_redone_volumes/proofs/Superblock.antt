-- A volume doesn't depend on the page of its superblock.
use Rattle.std.proofs.Common.{◌≡◌, ◌⊎◌, ◌<◌, ◌≤◌, ◌+◌, ◌*◌, ◌/◌, ◌%◌, ◌&&◌, nat_lt, ℕ, suc, Bool, true, false, List, [], map, refl, sym, ap, subst, ◌∙◌, inl, inr, arith}
use Rattle.std.specs.Prelude.{Option, Some, None, is_some, unwrap_or}
use Rattle.std.specs.List.{range_with_len}
use Rattle.std.proofs.Math.Path.{fun_ext}
use Rattle.std.proofs.lemmas.Bool.{cases_Bool, ltb-true, and_parts}
use Rattle.jfs_bits.specs.Bits.{is_taken}
use Rattle.jfs_bits.specs.Field.{field_of, range_of}
use Rattle.jfs_bits.specs.Descriptor.{pxd_of}
use Rattle.jfs_bits.specs.declared.descriptor.Pxd.{Pxd}
use Rattle.jfs_bits.specs.declared.extent.Xad.{Xad}
use Rattle.jfs_recovery.specs.objects.specs.Readers.{Readers}
use Rattle.jfs_recovery.specs.objects.specs.Volume.{Volume, home}
use Rattle.jfs_recovery.specs.objects.specs.Objects.{Object}
use Rattle.jfs_recovery.specs.objects.specs.Owners.{IsSound, bit}
use Rattle.jfs_recovery.specs.objects.specs.Contents.{block_of, bytes_at}
use Rattle.jfs_recovery.specs.objects.specs.Image.{file_extents, file_page, file_has, iag_page, iags_on, is_block_used, is_inode_used, extent_place, extent_on, extents_on, area_on, volume_on}
use Rattle.jfs_recovery.specs.kinds.specs.Images.{HasWholeFiles, IsSameVolume}
use Rattle.jfs_recovery.specs.kinds.specs.Owner.{Owner, owner_of, is_logged}
use Rattle.jfs_recovery.specs.kinds.proofs.Stay.{is_free}
use Rattle.jfs_recovery.specs.Face.{Pages}
use Rattle.jfs_image_volumes.proofs.Objects.{ShowsOutside, has_objects, has_owners, has_counts}
use Rattle.jfs_redo.proofs.Named.{first_area}
use Rattle.jfs_redo.proofs.Apart.{file_counts}
use Rattle.jfs_shown.specs.Laws.{SamePlaces}
use Rattle.jfs_shown.proofs.Places.{files_law, keeps_law}
use Rattle.jfs_redone_volumes.specs.Redone.{SuperblockLaw}

used_bit : (t : Bool) → 0 < bit t → t ≡ true
used_bit true h = refl
used_bit false h = absurd (omega (arith, h))

at_most : (t : Bool) → bit t ≤ 1
at_most true = omega arith
at_most false = omega arith

module _ (r : Readers) (blocks : ℕ) (table second : Pxd) (old new : Pages) (sound : IsSound r (volume_on r blocks table second old)) (whole : HasWholeFiles r old) (same : (p : ℕ) → p < blocks → (p ≡ 8 → ⊥) → new p ≡ old p) where
  abbrev v : Volume
  v = volume_on r blocks table second old

  abbrev w : Volume
  w = volume_on r blocks table second new

  -- ---- blocks in use lie within the volume, and no file of the aggregate has the superblock's page

  within : (b : ℕ) → v.used b ≡ true → b < blocks
  unfolding is_block_used
  within b used = ltb-true b blocks (and_parts (nat_lt b blocks) _ used).0

  area_used : (b : ℕ) → 0 < v.area b → v.used b ≡ true
  area_used b some = used_bit (v.used b) (let e = sound.agrees.blocks b in omega (arith, e, some))

  once : (b : ℕ) → v.area b ≤ 1
  once b = let e = sound.agrees.blocks b in let o = at_most (v.used b) in omega (arith, e, o)

  super_area : (f : ℕ) → (f ≡ 2) ⊎ (f ≡ 16) → 0 < file_has r old f 8 → 1 < v.area 8
  unfolding area_on
  super_area f (inl two) h = let a = first_area 8 (omega arith) in let e = ap (λ (k : ℕ). file_has r old k 8) two in omega (arith, a, e, h)
  super_area f (inr sixteen) h = let a = first_area 8 (omega arith) in let e = ap (λ (k : ℕ). file_has r old k 8) sixteen in omega (arith, a, e, h)

  file_area : (f b : ℕ) → (f ≡ 2) ⊎ (f ≡ 16) → 0 < file_has r old f b → 0 < v.area b
  unfolding area_on
  file_area f b (inl two) h = let e = ap (λ (k : ℕ). file_has r old k b) two in omega (arith, e, h)
  file_area f b (inr sixteen) h = let e = ap (λ (k : ℕ). file_has r old k b) sixteen in omega (arith, e, h)

  super_counts : 0 < v.area 8
  unfolding area_on
  super_counts = let a = first_area 8 (omega arith) in omega (arith, a)

  -- ---- so the files lie where they did, and their pages are the same

  pub places : SamePlaces r table second old new
  places = files_law r table second old new (keeps_law r table second v new sound.agrees (λ b. refl) whole (λ b other some none. same b (within b (area_used b some)) other))

  has_page : (f k : ℕ) → (f ≡ 2) ⊎ (f ≡ 16) → (o : Option ℕ) → block_of (file_extents r old f) k ≡ o → bytes_at new o ≡ bytes_at old o
  has_page f k is None at = refl
  has_page f k is (Some b) at = ap (λ (a : List ℕ). Some a) (same b (within b (area_used b (file_area f b is counts))) not_super)
    where
      counts : 0 < file_has r old f b
      counts = file_counts r old f k b at

      not_super : b ≡ 8 → ⊥
      not_super e = let twice = super_area f is (subst (λ (x : ℕ). 0 < file_has r old f x) e counts) in let o = once 8 in omega (arith, twice, o)

  page_by : (f k : ℕ) → (f ≡ 2) ⊎ (f ≡ 16) → file_extents r new f ≡ file_extents r old f → file_page r new f k ≡ file_page r old f k
  unfolding file_page
  page_by f k is extents = ap (λ (es : List Xad). unwrap_or (bytes_at new (block_of es k)) []) extents ∙ ap (λ (o : Option (List ℕ)). unwrap_or o []) (has_page f k is (block_of (file_extents r old f) k) refl)

  pub map_page : (k : ℕ) → file_page r new 2 k ≡ file_page r old 2 k
  map_page k = page_by 2 k (inl refl) places.block_map

  pub inode_page : (k : ℕ) → file_page r new 16 k ≡ file_page r old 16 k
  inode_page k = page_by 16 k (inr refl) places.inode_map

  -- ---- the sets and the places

  number : iags_on r new ≡ iags_on r old
  number = ap (λ (a : List ℕ). field_of a 4 4) (inode_page 0)

  extents : extents_on r new ≡ extents_on r old
  unfolding extents_on
  extents = ap (λ (n : ℕ). map (extent_on r new) (range_with_len 0 (128 * n))) number ∙ ap (λ (f : ℕ → Option ℕ). map f (range_with_len 0 (128 * iags_on r old)))
      (fun_ext (λ e. ap (λ (a : List ℕ). extent_place (pxd_of a (3072 + 8 * (e % 128)))) (inode_page (suc (e / 128)))))

  used : (b : ℕ) → is_block_used r new blocks b ≡ is_block_used r old blocks b
  unfolding is_block_used
  used b = ap (λ (a : List ℕ). nat_lt b blocks && is_taken (range_of a 3072 1024) (b % 8192)) (map_page (4 + b / 8192))

  in_use : (n : ℕ) → is_inode_used r new n ≡ is_inode_used r old n
  unfolding is_inode_used
  in_use n = ap (λ (es : List (Option ℕ)). is_some (home es n) && is_taken (range_of (iag_page r new (n / 4096)) 2560 512) (n % 4096)) extents
      ∙ ap (λ (a : List ℕ). is_some (home (extents_on r old) n) && is_taken (range_of a 2560 512) (n % 4096)) (inode_page (suc (n / 4096)))

  -- ---- the objects and the owners

  outside : ShowsOutside r v w
  outside = record { extents = extents; area = places.areas; pages = page_is }
    where
      page_is : (b : ℕ) → is_logged (owner_of r v b) ≡ true → v.area b ≡ 0 → new b ≡ old b
      page_is b logged none = by (cases_Bool (v.used b))
        where
          by : (v.used b ≡ true) ⊎ (v.used b ≡ false) → new b ≡ old b
          by (inl u) = same b (within b u) (λ (e : b ≡ 8). let s = super_counts in let z : v.area 8 ≡ 0 = subst (λ (x : ℕ). v.area x ≡ 0) e none in omega (arith, s, z))
          by (inr free) = absurd (let e : false ≡ true = sym (ap (λ (o : Option Owner). is_logged o) (is_free r v sound.agrees b free)) ∙ logged in cc)

  pub same_volume : IsSameVolume r v w
  same_volume = record {
    extents = extents;
    area = places.areas;
    used = used;
    in_use = in_use;
    objects = has_objects r v w sound outside;
    owners = has_owners r v w sound outside;
    sound = record {
      agrees = record {
        blocks = λ b. has_counts r v w sound outside b ∙ sound.agrees.blocks b ∙ ap bit (sym (used b));
        inodes = λ n. in_use n ∙ sound.agrees.inodes n ∙ ap (λ (o : Option Object). is_some o) (sym (has_objects r v w sound outside n));
      };
      whole = λ n o h. sound.whole n o (sym (has_objects r v w sound outside n) ∙ h);
    };
  }

pub superblock_law : SuperblockLaw
superblock_law r blocks table second old new sound whole same = same_volume r blocks table second old new sound whole same
