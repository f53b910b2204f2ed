-- What a volume has that breaks no rule of a mount.
use Rattle.std.proofs.Common.{◌≡◌, ◌≤◌, ◌<◌, refl, sym, ap, ◌∙◌, ℕ, zero, suc, ◌+◌, ◌*◌, Bool, true, false, not, ◌&&◌, ◌||◌, ◌==◌, nat_le, nat_lt, if◌then◌else◌, map, Option, Some, None, is_some, arith}
use Rattle.std.specs.List.{range_with_len, prefix_len}
use Rattle.std.proofs.lemmas.Bool.{eqb-true, leb-true, ltb-true, and_parts}
use Rattle.std.proofs.lemmas.List.FromFn.{get_or-range_with_len}
use Rattle.std.proofs.lemmas.List.Sums.{prefix_len_passes}
use Rattle.jfs_bits.proofs.Broken.{first_broken-none}
use Rattle.jfs_inode.specs.Rules.{type_of}
use Rattle.jfs_mount.specs.bmap.specs.MapFile.{pages_of}
use Rattle.jfs_iag.specs.Canonical.{is_there}
use Rattle.jfs_mount.specs.objects.specs.Volume.{home, slot_of}
use Rattle.jfs_mount.specs.objects.specs.Owners.{extent_has, extents_have}
use Rattle.jfs_mount.specs.objects.specs.Image.{extent_on, extents_on}
use Rattle.jfs_mount.specs.Subject.{Subject, blocks, volume, IsFilePage}
use Rattle.jfs_mount.specs.Mount.{place, covered, fitting, iags, extent_at, fits_extent, root_row, mount_rows, broken_mount}

pub record IsMounted (s : Subject) : Type 0 where
  pub map_covered : covered s 2 (pages_of (blocks s)) ≡ pages_of (blocks s)
  pub inodes_covered : covered s 16 (suc (iags s)) ≡ suc (iags s)
  pub some_iags : 1 ≤ iags s
  pub extents : fitting s ≡ 128 * iags s
  pub top : (root_row s (home (volume s).extents 2)).holds ≡ true

pub mounted : (s : Subject) → broken_mount s ≡ None → IsMounted s
unfolding mount_rows
mounted s h =
    let a = first_broken-none (mount_rows s) h in
    record {
      map_covered = eqb-true (covered s 2 (pages_of (blocks s))) (pages_of (blocks s)) a.0;
      inodes_covered = eqb-true (covered s 16 (suc (iags s))) (suc (iags s)) a.1.0;
      some_iags = leb-true 1 (iags s) (and_parts (nat_le 1 (iags s)) (nat_le (iags s) 65536) a.1.1.1.0).0;
      extents = eqb-true (fitting s) (128 * iags s) a.1.1.1.1.0;
      top = a.1.1.1.1.1.0;
    }

-- a prefix of all numbers below a bound
all_pass : (p : ℕ → Bool) (n j : ℕ) → prefix_len p (range_with_len 0 n) ≡ n → j < n → p j ≡ true
all_pass p n j e l = sym (ap p (get_or-range_with_len 0 n j 0 l ∙ omega arith)) ∙ prefix_len_passes p (range_with_len 0 n) j 0 (omega (arith, e, l))

some_is : (o : Option ℕ) → is_some o ≡ true → (p : ℕ) × (o ≡ Some p)
some_is (Some p) e = (p, refl)
some_is None e = cc e

-- each page of a file that is covered stands on a block
pub on_block : (s : Subject) (k n j : ℕ) → covered s k n ≡ n → j < n → (page : ℕ) × IsFilePage s k j page
unfolding covered
on_block s k n j e l = some_is (place s k j) (all_pass (λ j. is_some (place s k j)) n j e l)

-- ---- inode extents

either : (x y : Bool) → (not x || y) ≡ true → x ≡ true → y ≡ true
either true y e t = e
either false y e t = cc t

pub extent_fits : (s : Subject) → IsMounted s → (e : ℕ) → e < 128 * iags s → is_there (extent_at s e) ≡ true → (extent_at s e).addr + 4 ≤ blocks s
unfolding fitting
extent_fits s m e l t =
    let fits = all_pass (fits_extent s) (128 * iags s) e m.extents l in
    leb-true ((extent_at s e).addr + 4) (blocks s) (and_parts ((extent_at s e).len == 4) (nat_le ((extent_at s e).addr + 4) (blocks s)) (either (is_there (extent_at s e)) _ fits t)).1

-- places that have no block behind the volume's end
list_has_none : (f : ℕ → Option ℕ) (a n b : ℕ) → ((k : ℕ) → a ≤ k → k < a + n → extent_has (f k) b ≡ 0) → extents_have (map f (range_with_len a n)) b ≡ 0
list_has_none f a zero b h = refl
list_has_none f a (suc n) b h =
    let here = h a (omega arith) (omega arith) in
    let rest = list_has_none f (a + 1) n b (λ k l w. h k (omega (arith, l)) (omega (arith, w))) in
    omega (arith, here, rest)

run_ends : (first end b : ℕ) → first + 4 ≤ end → end ≤ b → extent_has (Some first) b ≡ 0
run_ends first end b l w = by (nat_le first b && nat_lt b (first + 4)) refl
  where
    by : (x : Bool) → (nat_le first b && nat_lt b (first + 4)) ≡ x → (let n : ℕ = (if x then 1 else 0) in n) ≡ 0
    by true e = absurd (let t = ltb-true b (first + 4) (and_parts (nat_le first b) (nat_lt b (first + 4)) e).1 in omega (arith, t, l, w))
    by false e = refl

pub extents_end : (s : Subject) → IsMounted s → (b : ℕ) → blocks s ≤ b → extents_have (volume s).extents b ≡ 0
unfolding extents_on
extents_end s m b w = list_has_none (extent_on s.readers s.page) 0 (128 * iags s) b (λ e _ l. by e (omega (arith, l)) ((extent_at s e).len == 0 && (extent_at s e).addr == 0) refl)
  where
    by : (e : ℕ) → e < 128 * iags s → (x : Bool) → ((extent_at s e).len == 0 && (extent_at s e).addr == 0) ≡ x → extent_has (if x then None else Some (extent_at s e).addr) b ≡ 0
    by e l true t = refl
    by e l false t = run_ends (extent_at s e).addr (blocks s) b (extent_fits s m e l (ap not t)) w

-- ---- the root

pub record HasTop (s : Subject) (page : ℕ) : Type 0 where
  pub stands : home (volume s).extents 2 ≡ Some page
  pub directory : (type_of (slot_of (s.page page) 2) == 0x4000) ≡ true

pub has_top : (s : Subject) → IsMounted s → (page : ℕ) × HasTop s page
has_top s m = by (home (volume s).extents 2) refl m.top
  where
    by : (o : Option ℕ) → home (volume s).extents 2 ≡ o → (root_row s o).holds ≡ true → (page : ℕ) × HasTop s page
    by None e h = cc h
    by (Some page) e h = (page, record { stands = e; directory = h })
