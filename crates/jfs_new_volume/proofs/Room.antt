-- The room of a new volume.
use Rattle.std.proofs.Common.{◌≡◌, ◌≤◌, ◌<◌, refl, sym, ap, ◌∙◌, subst, ℕ, zero, suc, ◌+◌, Bool, true, false, not, ◌&&◌, nat_lt, if◌then◌else◌, length, Option, Some, None, is_some, inl, inr, arith}
use Rattle.std.proofs.lemmas.Bool.{cases_lt}
use Rattle.std.proofs.lemmas.Bool.Decides.{nat_tests}
use Rattle.jfs_bits.specs.Bits.{count_below}
use Rattle.jfs_bits.specs.declared.descriptor.Pxd.{Pxd}
use Rattle.jfs_disk.specs.Image.{Image, page_of}
use Rattle.jfs_meaning.specs.objects.specs.Readers.{Readers}
use Rattle.jfs_meaning.specs.objects.specs.Volume.{Volume, home, room}
use Rattle.jfs_meaning.specs.objects.specs.Objects.{Object, objects}
use Rattle.jfs_meaning.specs.objects.specs.Image.{volume_on}
use Rattle.jfs_meaning.specs.objects.proofs.Found.{home_within}
use Rattle.jfs_format.specs.Layout.{IsLayout, first_inodes, owned_blocks, free_blocks}
use Rattle.jfs_format.specs.Superblock.{new_super}
use Rattle.jfs_format.specs.Volume.{IsNewVolume}
use Rattle.jfs_format.specs.declared.volume.NewVolume.{NewVolume}
use Rattle.jfs_meaning.specs.Readers.{readers}
use Rattle.jfs_meaning.specs.Room.{room_on, lowest, or_else, is_free_inode, fresh_inode, has_run, first_of, is_empty_place, free_blocks as unowned}
use Rattle.jfs_meaning.proofs.Free.{same_count, free_law}
use Rattle.jfs_new_volume.specs.Roots.{ReadsRoots}
use Rattle.jfs_new_volume.specs.Law.{new_on, new_object, HasNewRoom, NewRoomLaw}
use Rattle.jfs_new_volume.proofs.Maps.{home_is, block_is}
use Rattle.jfs_new_volume.proofs.Agreed.{new_volume}
use Rattle.jfs_new_volume.proofs.RealRoots.{reads_roots}
use Rattle.jfs_new_volume.proofs.Tree.{blocks_are}

-- ---- numbers from a bound on

is_past : (n m : ℕ) → m ≤ n → nat_lt n m ≡ false
is_past n m l = grind (arith, nat_tests)

is_less : (n m : ℕ) → n < m → nat_lt n m ≡ true
is_less n m l = grind (arith, nat_tests)

abbrev one_if : Bool → ℕ
one_if x = if x then 1 else 0

none_before : (n m : ℕ) → n ≤ m → count_below n (λ b. not (nat_lt b m)) ≡ 0
unfolding count_below
none_before zero m l = refl
none_before (suc n) m l = let h = none_before n m (omega (arith, l)) in let e = ap (λ (x : Bool). one_if (not x)) (is_less n m (omega (arith, l))) in omega (arith, h, e)

all_behind : (n m : ℕ) → m ≤ n → count_below n (λ b. not (nat_lt b m)) + m ≡ n
unfolding count_below
all_behind zero m l = omega (arith, l)
all_behind (suc n) m l = elim (cases_lt n m) [
  | inl h ↦ (let z = none_before n m (omega (arith, h)) in let e = ap (λ (x : Bool). one_if (not x)) (is_less n m h) in omega (arith, z, e, l, h))
  | inr h ↦ (let z = all_behind n m h in let e = ap (λ (x : Bool). one_if (not x)) (is_past n m h) in omega (arith, z, e))
]

-- ---- the lowest number that passes a test

no_lowest : (n : ℕ) (test : ℕ → Bool) → ((j : ℕ) → j < n → test j ≡ false) → lowest n test ≡ None
unfolding lowest
no_lowest zero test h = refl
no_lowest (suc n) test h = rw (no_lowest n test (λ j l. h j (omega (arith, l))), h n (omega arith)) refl

is_lowest : (n : ℕ) (test : ℕ → Bool) (k : ℕ) → k < n → test k ≡ true → ((j : ℕ) → j < k → test j ≡ false) → lowest n test ≡ Some k
unfolding lowest
is_lowest zero test k l h below = absurd (omega (arith, l))
is_lowest (suc n) test k l h below = elim (cases_lt k n) [
  | inl s ↦ ap (λ (x : Option ℕ). or_else x (if test n then Some n else None)) (is_lowest n test k s h below)
  | inr s ↦ (let e : k ≡ n = omega (arith, l, s) in rw (sym e) (rw (no_lowest k test below, h) refl))
]

module _ (r : Readers) (pages : ℕ) (v : NewVolume) (image : Image) (layout : IsLayout pages v.layout) (roots : ReadsRoots r v.layout.blocks) (is : IsNewVolume v image) where
  objects_are : (n : ℕ) → objects r (new_on r v image) n ≡ (if nat_lt n 4 then Some (new_object v n) else None)
  objects_are = (new_volume r pages v image layout roots is).1

  free_is : unowned r (new_on r v image) v.layout.blocks ≡ free_blocks v.layout
  free_is =
      let f = free_law r (new_on r v image) v.layout.blocks (new_volume r pages v image layout roots is).0.agrees in
      let s = same_count v.layout.blocks (λ b. not ((new_on r v image).used b)) (λ b. not (nat_lt b (owned_blocks v.layout))) (λ b. ap not (block_is r pages v image layout roots is b)) in
      let c = all_behind v.layout.blocks (owned_blocks v.layout) (let w = layout.within in omega (arith, w)) in
      omega (arith, f, s, c)

  home_4 : home (new_on r v image).extents 4 ≡ Some (first_inodes v.layout + 0)
  home_4 = home_is r pages v image layout roots is 4

  free_4 : is_free_inode r (new_on r v image) 4 ≡ true
  free_4 = rw (home_4, objects_are 4) refl

  taken : (j : ℕ) → j < 4 → is_free_inode r (new_on r v image) j ≡ false
  taken j l = ap (λ (x : Option Object). is_some (home (new_on r v image).extents j) && not (is_some x)) (objects_are j ∙ ap (λ (x : Bool). if x then Some (new_object v j) else None) (is_less j 4 l)) ∙ never (is_some (home (new_on r v image).extents j))
    where
      never : (x : Bool) → (x && false) ≡ false
      never true = refl
      never false = refl

  inode_is : fresh_inode r (new_on r v image) v.layout.blocks ≡ Some 4
  inode_is = ap (λ (x : Option ℕ). or_else x (if has_run r (new_on r v image) v.layout.blocks then first_of (lowest (length (new_on r v image).extents) (is_empty_place (new_on r v image))) else None))
      (is_lowest (room (new_on r v image)) (is_free_inode r (new_on r v image)) 4 (home_within (new_on r v image) 4 (first_inodes v.layout + 0) home_4) free_4 taken)

  has_room : HasNewRoom v (room_on r (new_on r v image) v.layout.blocks v.layout.log.len)
  has_room = record { limit = refl; free = free_is; inode = inode_is }

log_is : (v : NewVolume) → (new_super v).logpxd ≡ v.layout.log
unfolding new_super
log_is v = refl

pub new_room : NewRoomLaw
new_room pages v image layout is =
    let b = v.layout.blocks in
    let roots = reads_roots b layout.most in
    let of : ℕ → Volume = λ n. volume_on (readers n) n (new_super v).ait2 (new_super v).aim2 (page_of image) in
    subst (λ (n : ℕ). HasNewRoom v (room_on (readers n) (of n) n (new_super v).logpxd.len)) (sym (blocks_are v))
    (subst (λ (p : Pxd). HasNewRoom v (room_on (readers b) (of b) b p.len)) (sym (log_is v)) (has_room (readers b) pages v image layout roots is))
