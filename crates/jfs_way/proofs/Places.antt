-- Where inodes stand, by the map.
use Rattle.std.proofs.Common.{◌≡◌, ◌<◌, refl, sym, ap, ◌∙◌, ℕ, suc, ◌+◌, ◌/◌, ◌%◌, Bool, true, false, not, ◌&&◌, ◌==◌, nat_lt, if◌then◌else◌, List, [], ◌∷◌, length, map, Option, Some, None, inl, inr, arith}
use Rattle.std.proofs.lemmas.Bool.{cases_lt}
use Rattle.std.proofs.lemmas.Bool.Decides.{nat_tests}
use Rattle.std.proofs.lemmas.List.{get_or-map, get_or_past}
use Rattle.jfs_bits.specs.declared.descriptor.Pxd.{Pxd}
use Rattle.jfs_iag.specs.Iag.{no_run}
use Rattle.jfs_iag.specs.Canonical.{is_there}
use Rattle.jfs_imap.specs.Inodes.{Inodes, extent_at, home_in, home_of}
use Rattle.jfs_reader.specs.objects.specs.Image.{extent_place}
use Rattle.jfs_reader.specs.objects.specs.Volume.{home, page_in}
use Rattle.jfs_way.specs.Volume.{PlacesWithin}
use Rattle.jfs_way.specs.Way.{if_within, place_of}

length_map : {X Y : Type 0} (f : X → Y) (xs : List X) → length (map f xs) ≡ length xs
length_map f [] = refl
length_map f (x ∷ xs) = ap (λ (n : ℕ). suc n) (length_map f xs)

place_is : (p : Pxd) (n : ℕ) → page_in (extent_place p) n ≡ home_in p n
place_is p n = by (p.len == 0 && p.addr == 0)
  where
    by : (x : Bool) → page_in (if x then None else Some p.addr) n ≡ (if not x then Some (p.addr + n % 32 / 8) else None)
    by true = refl
    by false = refl

pub home_is : (m : Inodes) (n : ℕ) → home (map extent_place m.extents) n ≡ home_of m n
home_is m n = elim (cases_lt (n / 32) (length m.extents)) [
  | inl l ↦ ap (λ (o : Option ℕ). page_in o n) (get_or-map extent_place m.extents (n / 32) no_run None l) ∙ place_is (extent_at m (n / 32)) n
  | inr l ↦ ap (λ (o : Option ℕ). page_in o n) (get_or_past (map extent_place m.extents) (n / 32) None (let e = length_map extent_place m.extents in omega (arith, l, e)))
      ∙ sym (ap (λ (p : Pxd). home_in p n) (get_or_past m.extents (n / 32) no_run l))
]

-- the page of an inode lies within the file system part
pub home_within : (blocks : ℕ) (m : Inodes) (n : ℕ) → PlacesWithin blocks m → (p : ℕ) → home_of m n ≡ Some p → p < blocks
home_within blocks m n within p h = by (is_there (extent_at m (n / 32))) refl h
  where
    number : {x y : ℕ} → Some x ≡ Some y → x ≡ y
    number h = cc (h)

    by : (x : Bool) → is_there (extent_at m (n / 32)) ≡ x → (if x then Some ((extent_at m (n / 32)).addr + n % 32 / 8) else None) ≡ Some p → p < blocks
    by true e h = let w = within (n / 32) e in let s = number h in omega (arith, w, s)
    by false e h = absurd (cc (h))

-- which is its place
pub place_is_home : (blocks : ℕ) (m : Inodes) (n p : ℕ) → PlacesWithin blocks m → home_of m n ≡ Some p → place_of blocks m n ≡ Some p
place_is_home blocks m n p within h = ap (if_within blocks) h ∙ ap (λ (b : Bool). if b then Some p else None) below
  where
    below : nat_lt p blocks ≡ true
    below = let l = home_within blocks m n within p h in grind (arith, nat_tests)
