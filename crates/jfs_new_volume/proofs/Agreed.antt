-- The maps of a new volume agree with its objects.
use Rattle.std.proofs.Common.{◌≡◌, ◌<◌, refl, sym, ap, ◌∙◌, subst, ℕ, ◌+◌, Bool, true, false, nat_lt, if◌then◌else◌, Some, None, is_some, arith}
use Rattle.std.proofs.lemmas.Bool.Decides.{nat_tests}
use Rattle.jfs_disk.specs.Image.{Image}
use Rattle.jfs_meaning.specs.objects.specs.Readers.{Readers}
use Rattle.jfs_meaning.specs.objects.specs.Volume.{room}
use Rattle.jfs_meaning.specs.objects.specs.Objects.{Object, IsWhole, objects}
use Rattle.jfs_meaning.specs.objects.specs.Owners.{holds, bit, extents_have, Agrees, IsSound}
use Rattle.jfs_meaning.specs.objects.specs.Image.{area_on}
use Rattle.jfs_meaning.specs.objects.proofs.Sums.{sum_zero}
use Rattle.jfs_meaning.specs.objects.proofs.Owned.{holds_none}
use Rattle.jfs_format.specs.Layout.{IsLayout, map_pages, inode_map, owned_blocks}
use Rattle.jfs_format.specs.Superblock.{new_super}
use Rattle.jfs_format.specs.Volume.{IsNewVolume}
use Rattle.jfs_format.specs.declared.volume.NewVolume.{NewVolume}
use Rattle.jfs_new_volume.specs.Roots.{ReadsRoots}
use Rattle.jfs_new_volume.specs.Law.{NewVolumeLaw, new_on, new_object}
use Rattle.jfs_new_volume.proofs.Runs.{run, joined, from_first}
use Rattle.jfs_new_volume.proofs.Files.{has_is, no_bad_blocks}
use Rattle.jfs_new_volume.proofs.Maps.{extents_have_it, block_is, inode_is}
use Rattle.jfs_new_volume.proofs.NewObjects.{whole_is, has_no_block, objects_are}

module _ (r : Readers) (pages : ℕ) (v : NewVolume) (image : Image) (layout : IsLayout pages v.layout) (roots : ReadsRoots r v.layout.blocks) (is : IsNewVolume v image) where
  below : (n : ℕ) → nat_lt n 4 ≡ true → n < 4
  below n e = grind (arith, nat_tests)

  held_by : (n b : ℕ) (x : Bool) → nat_lt n 4 ≡ x → holds r (if x then Some (new_object v n) else None) b ≡ 0
  held_by n b true e = has_no_block r v n b (below n e)
  held_by n b false e = holds_none r b

  no_blocks : (n b : ℕ) → holds r (objects r (new_on r v image) n) b ≡ 0
  no_blocks n b = ap (λ o. holds r o b) (objects_are r pages v image layout roots is n) ∙ held_by n b (nat_lt n 4) refl

  -- the fixed areas and the inode extent are the first blocks, one behind the other
  fixed_is : (b : ℕ) → (new_on r v image).area b + extents_have (new_on r v image).extents b ≡ run 0 (owned_blocks v.layout) b
  unfolding area_on new_super
  fixed_is b =
      let d = v.layout.dmaps in let k = v.layout.iags in
      let two = has_is r v image roots is 2 (record { len = map_pages v.layout; addr = 16 }) (omega arith) (omega arith) (let w = layout.within in omega (arith, w)) refl b in
      let four = no_bad_blocks r v image roots is b in
      let sixteen = has_is r v image roots is 16 (record { len = 1 + v.layout.iags; addr = inode_map v.layout }) (omega arith) (omega arith) (let w = layout.within in omega (arith, w)) refl b in
      let inodes = extents_have_it r pages v image layout roots is b in
      let a = joined 16 (4 + d) (20 + d) 16 b (omega arith) (omega arith) in
      let c = joined (20 + d) 4 (24 + d) (20 + d) b (omega arith) (omega arith) in
      let e = joined (24 + d) 2 (26 + d) (24 + d) b (omega arith) (omega arith) in
      let f = joined (26 + d) (1 + k) (27 + d + k) (26 + d) b (omega arith) (omega arith) in
      let g = joined (27 + d + k) 4 (31 + d + k) (27 + d + k) b (omega arith) (omega arith) in
      omega (arith, two, four, sixteen, inodes, a, c, e, f, g)

  there : (x : Bool) (o : Object) → is_some (if x then Some o else None) ≡ x
  there true o = refl
  there false o = refl

  agrees : Agrees r (new_on r v image)
  agrees = record {
    blocks = λ b.
        (let s = sum_zero (room (new_on r v image)) (λ n. holds r (objects r (new_on r v image) n) b) (λ n. no_blocks n b) in
        let f = fixed_is b in
        let u = from_first (owned_blocks v.layout) b ∙ sym (ap bit (block_is r pages v image layout roots is b)) in
        omega (arith, s, f, u));
    inodes = λ n. inode_is r pages v image layout roots is n ∙ sym (ap is_some (objects_are r pages v image layout roots is n) ∙ there (nat_lt n 4) (new_object v n));
  }

  whole : (n : ℕ) (o : Object) → objects r (new_on r v image) n ≡ Some o → IsWhole r o
  whole n o h = by (nat_lt n 4) refl (sym (objects_are r pages v image layout roots is n) ∙ h)
    where
      some_is : {x y : Object} → Some x ≡ Some y → x ≡ y
      some_is h = cc (h)

      by : (x : Bool) → nat_lt n 4 ≡ x → (if x then Some (new_object v n) else None) ≡ Some o → IsWhole r o
      by true e i = subst (IsWhole r) (some_is i) (whole_is r v n (below n e))
      by false e i = absurd (cc (i))

  pub sound : IsSound r (new_on r v image)
  sound = record { agrees = agrees; whole = whole }

pub new_volume : NewVolumeLaw
new_volume r pages v image layout roots is = (sound r pages v image layout roots is, objects_are r pages v image layout roots is)
