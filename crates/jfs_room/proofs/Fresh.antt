-- The number for a new object, by the inode map.
use Rattle.std.proofs.Common.{◌≡◌, ◌⊎◌, ◌<◌, refl, sym, ap, ap₂, ◌∙◌, inl, inr, ℕ, zero, suc, ◌+◌, ◌/◌, ◌%◌, Bool, true, false, not, ◌&&◌, ◌==◌, if◌then◌else◌, List, length, Option, Some, None, is_some, arith}
use Rattle.std.proofs.lemmas.List.{get_or-map, length-map}
use Rattle.jfs_bits.specs.declared.descriptor.Pxd.{Pxd}
use Rattle.jfs_iag.specs.Iag.{no_run}
use Rattle.jfs_iag.specs.Canonical.{is_there}
use Rattle.jfs_way.specs.imap.specs.Inodes.{Inodes, extent_at, is_used, is_free, IsPick}
use Rattle.jfs_way.specs.imap.specs.declared.inode_map.Pick.{Pick}
use Rattle.jfs_way.specs.imap.specs.declared.inode_map.Pick.TheVariants.{Number, NeedsExtent, NoInodes}
use Rattle.jfs_way.specs.bmap.specs.States.{Blocks}
use Rattle.jfs_way.specs.objects.specs.Image.{extent_place}
use Rattle.jfs_way.specs.objects.specs.Readers.{Readers}
use Rattle.jfs_way.specs.objects.specs.Volume.{Volume, home, room}
use Rattle.jfs_way.specs.objects.specs.Owners.{Agrees}
use Rattle.jfs_way.specs.objects.proofs.Found.{home_within}
use Rattle.jfs_way.specs.meaning.specs.Room.{lowest, or_else, first_of, is_free_inode, is_empty_place, has_run, fresh_inode}
use Rattle.jfs_way.specs.Volume.{volume_of}
use Rattle.jfs_way.proofs.Places.{home_is}
use Rattle.jfs_room.specs.Laws.{FreshLaw, picked}

-- ---- the lowest number that passes a test

none_passes : (n : ℕ) (test : ℕ → Bool) → ((i : ℕ) → i < n → test i ≡ false) → lowest n test ≡ None
unfolding lowest
none_passes zero test h = refl
none_passes (suc n) test h = rw (none_passes n test (λ i l. h i (omega (arith, l))), h n (omega arith)) refl

lowest_is : (n : ℕ) (test : ℕ → Bool) (k : ℕ) → k < n → test k ≡ true → ((i : ℕ) → i < k → test i ≡ false) → lowest n test ≡ Some k
unfolding lowest
lowest_is zero test k l h g = absurd (omega (arith, l))
lowest_is (suc n) test k l h g = by (same_or_less k n l) (λ (m : k < n). lowest_is n test k m h g)
  where
    same_or_less : (k n : ℕ) → k < suc n → (k ≡ n) ⊎ (k < n)
    same_or_less k n l = grind arith

    by : (k ≡ n) ⊎ (k < n) → (k < n → lowest n test ≡ Some k) → or_else (lowest n test) (if test n then Some n else None) ≡ Some k
    by (inl e) f = ap (λ (x : Option ℕ). or_else x (if test n then Some n else None)) (none_passes n test (λ i l. g i (omega (arith, l, e))))
        ∙ ap (λ (j : ℕ). if test j then Some j else None) (sym e) ∙ ap (λ (x : Bool). if x then Some k else None) h
    by (inr m) f = ap (λ (x : Option ℕ). or_else x (if test n then Some n else None)) (f m)

-- ---- the inode map's places and numbers

module _ (r : Readers) (page : ℕ → List ℕ) (area : ℕ → ℕ) (bm : Blocks) (inodes : Inodes) (a : Agrees r (volume_of page area bm inodes)) where
  abbrev v : Volume
  v = volume_of page area bm inodes

  there_is : (n : ℕ) → is_some (home v.extents n) ≡ is_there (extent_at inodes (n / 32))
  there_is n = ap (λ (o : Option ℕ). is_some o) (home_is inodes n) ∙ by (is_there (extent_at inodes (n / 32)))
    where
      by : (x : Bool) → is_some (if x then Some ((extent_at inodes (n / 32)).addr + n % 32 / 8) else None) ≡ x
      by true = refl
      by false = refl

  free_inode_is : (n : ℕ) → is_free_inode r v n ≡ is_free inodes n
  free_inode_is n = ap₂ (λ (x y : Bool). x && not y) (there_is n) (sym (a.inodes n))

  both : (x y : Bool) → (x && y) ≡ true → x ≡ true
  both true y h = refl
  both false y h = absurd (cc (h))

  found_home : (n : ℕ) (x : Option ℕ) → home v.extents n ≡ x → is_some x ≡ true → n < room v
  found_home n None e h = absurd (cc (h))
  found_home n (Some p) e h = home_within v n p e

  places : length v.extents ≡ length inodes.extents
  places = length-map inodes.extents extent_place

  empty_is : (e : ℕ) → e < length inodes.extents → is_empty_place v e ≡ not (is_there (extent_at inodes e))
  empty_is e l = ap (λ (o : Option ℕ). not (is_some o)) (get_or-map extent_place inodes.extents e no_run None l) ∙ by (extent_at inodes e)
    where
      by : (p : Pxd) → not (is_some (extent_place p)) ≡ not (is_there p)
      by p = by_zeros (p.len == 0 && p.addr == 0)
        where
          by_zeros : (x : Bool) → not (is_some (if x then None else Some p.addr)) ≡ not (not x)
          by_zeros true = refl
          by_zeros false = refl

  -- no number is free in the extents that are there
  none_free : ((i : ℕ) → is_free inodes i ≡ false) → lowest (room v) (is_free_inode r v) ≡ None
  none_free none = none_passes (room v) (is_free_inode r v) (λ i l. free_inode_is i ∙ none i)

  needs_extent : (blocks : ℕ) (x : Option ℕ) → ((i : ℕ) → is_free inodes i ≡ false) → lowest (length v.extents) (is_empty_place v) ≡ x
      → fresh_inode r v blocks ≡ (if has_run r v blocks then first_of x else None)
  needs_extent blocks x none e = ap (λ (y : Option ℕ). or_else y (if has_run r v blocks then first_of (lowest (length v.extents) (is_empty_place v)) else None)) (none_free none)
      ∙ ap (λ (y : Option ℕ). if has_run r v blocks then first_of y else None) e

  fresh_by : (blocks : ℕ) (pick : Pick) → IsPick inodes pick → fresh_inode r v blocks ≡ picked pick (has_run r v blocks)
  fresh_by blocks (Number n) pick = ap (λ (x : Option ℕ). or_else x (if has_run r v blocks then first_of (lowest (length v.extents) (is_empty_place v)) else None))
      (lowest_is (room v) (is_free_inode r v) n
      (found_home n (home v.extents n) refl (there_is n ∙ both (is_there (extent_at inodes (n / 32))) (not (is_used inodes n)) pick.0))
      (free_inode_is n ∙ pick.0) (λ i l. free_inode_is i ∙ pick.1 i l))
  fresh_by blocks (NeedsExtent place) pick = needs_extent blocks (Some place) pick.0 (
      lowest_is (length v.extents) (is_empty_place v) place (let p = places in let l = pick.1.0 in omega (arith, p, l))
      (empty_is place pick.1.0 ∙ ap not pick.1.1)
      (λ i l. empty_is i (let b = pick.1.0 in omega (arith, l, b)) ∙ ap not (pick.1.2 i l)))
  fresh_by blocks NoInodes pick = needs_extent blocks None pick.0 (none_passes (length v.extents) (is_empty_place v) (λ e l.
      let within : e < length inodes.extents = (let p = places in omega (arith, p, l)) in empty_is e within ∙ ap not (pick.1 e within)))
      ∙ neither (has_run r v blocks)
    where
      neither : (x : Bool) → (if x then first_of None else None) ≡ picked NoInodes x
      neither true = refl
      neither false = refl

pub fresh_is : FreshLaw
fresh_is r page area bm inodes a blocks pick is = fresh_by r page area bm inodes a blocks pick is
