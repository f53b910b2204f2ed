-- The lowest free run of a set of blocks, by the ranks of its control page's leaves.
use Rattle.std.proofs.Common.{◌≡◌, ◌<◌, ◌≤◌, ◌+◌, ◌*◌, ◌/◌, ◌^◌, ℕ, suc, Bool, true, false, inl, inr, List, [], get_or, sym, refl, ap, subst, add-one, arith}
use Rattle.std.specs.Prelude.{Option, Some, None, IsTrue, is_some}
use Rattle.std.proofs.lemmas.Bool.{cases_lt, both_ways, false_from_ne_true}
use Rattle.std.proofs.lemmas.Nat.{pow_pos}
use Rattle.std.proofs.lemmas.List.{get_or_read}
use Rattle.jfs_bits.specs.Bits.{is_free_run, IsLowestFree}
use Rattle.jfs_bits.proofs.Runs.{is_free-at}
use Rattle.jfs_buddy.specs.Buddy.{IsLowestRun}
use Rattle.jfs_buddy.proofs.Spans.{part_of, AreRanks, rank-free, none-lowest, whole-lowest, part-some, part-lowest, lowest-within}
use Rattle.jfs_dmap.proofs.Finds.{runs_of}
use Rattle.jfs_disk.specs.declared.page.Page.{Page}
use Rattle.jfs_dmap.specs.Dmap.{taken_in, IsDmap}
use Rattle.jfs_bmap.specs.Set.{IsLowest, HasFreeRun, taken_at}
use Rattle.jfs_bmap.specs.Pages.{page_at, dmaps_of, taken_on, set_of, leaf_ranks, AreDmaps}
use Rattle.jfs_bmap.proofs.OnePage.{taken_on-dmap}
use Rattle.jfs_bmap.proofs.Views.{taken_on-past, taken_at-set_of}
use Rattle.std.proofs.Math.Path.{fun_ext}

-- a leaf has the rank of its dmap's greatest free run
pub are-ranks : (taken : ℕ → Bool) → AreRanks 13 taken (leaf_ranks taken)
unfolding leaf_ranks
are-ranks taken = record { each = λ v. refl }

-- the first block of a free run is free
first-free : (taken : ℕ → Bool) (l2 j : ℕ) → is_free_run taken l2 j ≡ true → taken (j * 2 ^ l2) ≡ false
first-free taken l2 j free =
    let e : j * 2 ^ l2 + 0 ≡ j * 2 ^ l2 = omega arith in
    rw e at (is_free-at taken (j * 2 ^ l2) (2 ^ l2) free 0 (pow_pos l2))

-- no free block lies past the leaves of a control page
abbrev pub IsWithin : (ℕ → Bool) → Type 0
IsWithin taken = (b : ℕ) → taken b ≡ false → b < 2 ^ 23

-- ---- what the control page's search says of the set

-- no leaf found
pub none-found : (taken : ℕ → Bool) (l2 : ℕ) → IsWithin taken → IsLowestRun 5 (leaf_ranks taken) 14 (l2 + 1) None → IsLowest taken l2 None
none-found taken l2 within lowest j =
    false_from_ne_true (is_free_run taken l2 j) (λ free. both_ways (is_free_run taken l2 j) (none-lowest (are-ranks taken) 5 l2 j (rw add-one at lowest) (within (j * 2 ^ l2) (first-free taken l2 j free))) free)

-- one that begins a run of whole dmaps
pub whole-found : (taken : ℕ → Bool) (l2 v : ℕ) → 13 < l2 → IsLowestRun 5 (leaf_ranks taken) 14 (l2 + 1) (Some v) → IsLowest taken l2 (Some (8192 * v))
whole-found taken l2 v h lowest = whole-lowest (are-ranks taken) 5 l2 v (omega arith) (rw add-one at lowest)

-- a run of a dmap begins within it
pub run-within : (part : ℕ → Bool) (l2 first : ℕ) → l2 ≤ 13 → IsLowestFree part (8192 / 2 ^ l2) l2 (Some first) → first < 8192
run-within part l2 first h inner = lowest-within part 13 l2 first h (rw (runs_of l2 h) at inner)

-- ---- the set that the dmaps hold

-- the volume has each free block
free-within : (blocks : ℕ) (dmaps : List Page) (b : ℕ) → taken_on blocks dmaps b ≡ false → b < blocks
free-within blocks dmaps b free = elim (cases_lt b blocks) [ inl h ↦ h | inr h ↦ absurd (both_ways (taken_on blocks dmaps b) free (taken_on-past blocks dmaps b h)) ]

-- a leaf with a free block stands over a dmap
pub leaf-known : (blocks : ℕ) (dmaps : List Page) (l2 v : ℕ) → l2 ≤ 13 → suc l2 ≤ leaf_ranks (taken_on blocks dmaps) v → v < dmaps_of blocks
leaf-known blocks dmaps l2 v h rank =
    let r = rank-free (are-ranks (taken_on blocks dmaps)) l2 v rank in
    let first = free-within blocks dmaps (8192 * v + r.0 * 2 ^ l2) (first-free (part_of 13 (taken_on blocks dmaps) v) l2 r.0 r.2) in
    omega arith

-- and so does the leaf that was found
pub found-known : (blocks : ℕ) (dmaps : List Page) (l2 v : ℕ) → l2 ≤ 13 → IsLowestRun 5 (leaf_ranks (taken_on blocks dmaps)) 14 (l2 + 1) (Some v) → v < dmaps_of blocks
found-known blocks dmaps l2 v h lowest = leaf-known blocks dmaps l2 v h (rw add-one at (lowest.1.part (omega arith)))

-- the page under the leaf that was found, and its own lowest run
module _ (blocks : ℕ) (dmaps : List Page) (l2 v : ℕ) (page : Page) (d : AreDmaps blocks dmaps) (h : l2 ≤ 13) (lowest : IsLowestRun 5 (leaf_ranks (taken_on blocks dmaps)) 14 (l2 + 1) (Some v)) (e : page ≡ get_or dmaps v page) where
  page-known : page.0 ≡ page_at dmaps v
  page-known = ap (λ (p : Page). p.0) (get_or_read dmaps v page (omega (arith, d.number, found-known blocks dmaps l2 v h lowest)) e (record { 0 = [] }))

  pub page-canonical : IsDmap page.0
  page-canonical = rw page-known (d.each v (found-known blocks dmaps l2 v h lowest)).canonical

  page-same : (i : ℕ) → i < 8192 → taken_in page.0 i ≡ taken_on blocks dmaps (8192 * v + i)
  page-same i k = rw page-known (sym (taken_on-dmap blocks v dmaps i (d.each v (found-known blocks dmaps l2 v h lowest)) k))

  pub page-none : IsLowestFree (taken_in page.0) (8192 / 2 ^ l2) l2 None → ⊥
  page-none none = part-some (are-ranks (taken_on blocks dmaps)) (taken_in page.0) 5 l2 v h page-same (rw add-one at lowest) (rw (runs_of l2 h) at none)

  pub page-some : (first : ℕ) → IsLowestFree (taken_in page.0) (8192 / 2 ^ l2) l2 (Some first) → IsLowest (taken_on blocks dmaps) l2 (Some (8192 * v + first))
  page-some first inner = part-lowest (are-ranks (taken_on blocks dmaps)) (taken_in page.0) 5 l2 v h page-same (rw add-one at lowest) first (rw (runs_of l2 h) at inner)

-- what is the lowest by the dmaps is the lowest by the list
pub on-set : (blocks : ℕ) (dmaps : List Page) (set : List Bool) (l2 : ℕ) (o : Option ℕ) → set_of blocks dmaps ≡ set → IsLowest (taken_on blocks dmaps) l2 o → IsLowest (taken_at set) l2 o
on-set blocks dmaps set l2 o e h = rw e at (subst (λ (f : ℕ → Bool). IsLowest f l2 o) (fun_ext (λ b. sym (taken_at-set_of blocks dmaps b))) h)

-- the control page has a leaf for each of at most 2 ^ 23 blocks
pub on-within : (blocks : ℕ) (dmaps : List Page) → blocks ≤ 2 ^ 23 → IsWithin (taken_on blocks dmaps)
on-within blocks dmaps most b free = omega (arith, free-within blocks dmaps b free)

-- a run is found exactly where there is one
pub found-run : (taken : ℕ → Bool) (l2 : ℕ) (found : Option ℕ) → IsLowest taken l2 found → (IsTrue (is_some found) → HasFreeRun taken l2) × (HasFreeRun taken l2 → IsTrue (is_some found))
found-run taken l2 None h = (λ e. absurd (cc e), λ run. absurd (both_ways (is_free_run taken l2 run.0) (h run.0) run.1))
found-run taken l2 (Some first) h = (λ e. (h.0, h.2), λ run. refl)
