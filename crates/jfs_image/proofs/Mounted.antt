-- Where a mount finds no rule broken, each inode extent lies within the blocks.
use Rattle.std.proofs.Common.{◌≡◌, ◌<◌, ◌≤◌, inl, inr, refl, sym, ap, ◌∙◌, ℕ, ◌+◌, ◌*◌, ◌/◌, ◌%◌, Bool, true, false, not, ◌==◌, ◌&&◌, ◌||◌, if◌then◌else◌, get_or, Option, Some, None, arith}
use Rattle.std.specs.Prelude.{nat_le}
use Rattle.std.specs.List.{range_with_len}
use Rattle.std.proofs.lemmas.Bool.{cases_lt, leb-true}
use Rattle.std.proofs.lemmas.Bool.Decides.{nat_tests}
use Rattle.std.proofs.lemmas.List.Sums.{prefix_len_passes}
use Rattle.std.proofs.lemmas.List.FromFn.{get_or-range_with_len}
use Rattle.jfs_bits.specs.declared.descriptor.Pxd.{Pxd}
use Rattle.jfs_bits.specs.declared.rule.Rule.TheVariants as rules
use Rattle.jfs_bits.proofs.Broken.{each_holds}
use Rattle.jfs_iag.specs.Canonical.{is_there}
use Rattle.jfs_reader.specs.objects.specs.Volume.{home, page_in}
use Rattle.jfs_reader.specs.objects.specs.Image.{extent_place, extent_on}
use Rattle.jfs_reader.proofs.Homes.{home_past, home_there}
use Rattle.jfs_xtree.proofs.Reading.{and_true}
use Rattle.jfs_owners.specs.mount_rules.specs.Subject.{Subject, blocks, volume}
use Rattle.jfs_owners.specs.mount_rules.specs.Mount.{broken_mount, mount_rows, iags, fitting, fits_extent, extent_at}

equal : (a b : ℕ) → (a == b) ≡ true → a ≡ b
equal a b e = grind (arith, nat_tests)

all_fit : (s : Subject) → broken_mount s ≡ None → fitting s ≡ 128 * iags s
unfolding mount_rows
all_fit s none = equal (fitting s) (128 * iags s) (each_holds (mount_rows s) 4 (record { answer = record { rule = rules.Root; page = 0; value = 0 }; holds = true }) none refl)

-- so many inode allocation groups at most
pub few_iags : (s : Subject) → broken_mount s ≡ None → iags s ≤ 65536
unfolding mount_rows
few_iags s none = leb-true (iags s) 65536 (and_true (nat_le 1 (iags s)) (nat_le (iags s) 65536) (each_holds (mount_rows s) 3 (record { answer = record { rule = rules.Root; page = 0; value = 0 }; holds = true }) none refl)).1

fits_at : (s : Subject) (e : ℕ) → broken_mount s ≡ None → e < 128 * iags s → fits_extent s e ≡ true
unfolding fitting
fits_at s e none l =
    let all = all_fit s none in
    let at : get_or (range_with_len 0 (128 * iags s)) e 0 ≡ e = get_or-range_with_len 0 (128 * iags s) e 0 l ∙ omega arith in
    ap (fits_extent s) (sym at) ∙ prefix_len_passes (fits_extent s) (range_with_len 0 (128 * iags s)) e 0 (omega (arith, all, l))

some_is : (a b : ℕ) → Some a ≡ Some b → a ≡ b
some_is a b e = cc

ends_below : (run : Pxd) (bound first : ℕ) → (not (is_there run) || (run.len == 4 && nat_le (run.addr + 4) bound)) ≡ true → extent_place run ≡ Some first → first + 4 ≤ bound
ends_below run bound first fits is = by (run.len == 0 && run.addr == 0) fits is
  where
    by : (t : Bool) → (not (not t) || (run.len == 4 && nat_le (run.addr + 4) bound)) ≡ true → (if t then None else Some run.addr) ≡ Some first → first + 4 ≤ bound
    by true fits is = absurd cc
    by false fits is =
        let a = and_true (run.len == 4) (nat_le (run.addr + 4) bound) fits in
        let last = leb-true (run.addr + 4) bound a.1 in
        let at = some_is run.addr first is in
        omega (arith, last, at)

-- the page of an inode is a block of the file system part
pub home_below : (s : Subject) (n p : ℕ) → broken_mount s ≡ None → home (volume s).extents n ≡ Some p → p < blocks s
home_below s n p none at = elim (cases_lt (n / 4096) (iags s)) [
  | inl l ↦ by l (extent_on s.readers s.page (n / 32)) refl (sym (home_there s.readers s.page n l) ∙ at)
  | inr l ↦ absurd (nowhere (sym (home_past s.readers s.page n l) ∙ at))
]
  where
    nowhere : {p : ℕ} → None ≡ Some p → ⊥
    nowhere h = cc (h)

    by : n / 4096 < iags s → (o : Option ℕ) → extent_on s.readers s.page (n / 32) ≡ o → page_in o n ≡ Some p → p < blocks s
    by l None e is = absurd (nowhere is)
    by l (Some first) e is =
        let end = ends_below (extent_at s (n / 32)) (blocks s) first (fits_at s (n / 32) none (omega (arith, l))) e in
        let q = some_is (first + n % 32 / 8) p is in
        omega (arith, end, q)
