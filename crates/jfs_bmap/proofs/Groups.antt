-- The free blocks of the groups, dmap by dmap.
use Rattle.std.proofs.Common.{◌≡◌, ◌≢◌, ◌<◌, ◌≤◌, ◌+◌, ◌-◌, ◌*◌, ◌/◌, ◌^◌, ℕ, Bool, true, not, inl, inr, List, length, get_or, set, replicate, sym, ap, ◌∙◌, arith}
use Rattle.std.specs.Prelude.{min}
use Rattle.std.proofs.lemmas.Bool.{cases_eq, cases_lt}
use Rattle.std.proofs.lemmas.Nat.{pow_pos, pow-add, mul-le, div_below}
use Rattle.std.proofs.lemmas.List.{get_or-set_same, get_or-set_other, get_or-replicate}
use Rattle.jfs_disk.specs.declared.page.Page.{Page}
use Rattle.jfs_bits.specs.Bits.{count_below}
use Rattle.jfs_dmap.specs.Dmap.{taken_in}
use Rattle.jfs_bits.proofs.Counts.{count_below-same, count_below-none, count_below-parts, count_below-front}
use Rattle.jfs_bmap.specs.Set.{taken_at}
use Rattle.jfs_bmap.specs.Pages.{page_at, dmaps_of, set_of, AreDmaps}
use Rattle.jfs_bmap.specs.MapFile.{AreGroups}
use Rattle.jfs_bmap.proofs.GroupNumbers.{l2-least}
use Rattle.jfs_bmap.proofs.OnePage.{taken_on-dmap}
use Rattle.jfs_bmap.proofs.Views.{length-set_of, taken_at-set_of}

-- how many of the `size` blocks of group `g` lie in the first `k` dmaps
abbrev pub front_of : ℕ → ℕ → ℕ → ℕ
front_of size k g = min size (8192 * k - size * g)

-- a dmap's blocks join the count of the group that has it, of `n` dmaps
front-more : (size n k g : ℕ) (free : ℕ → Bool) → size ≡ 8192 * n → n * g ≤ k → k < n * g + n → count_below (front_of size (k + 1) g) (λ i. free (size * g + i)) ≡ count_below (front_of size k g) (λ i. free (size * g + i)) + count_below 8192 (λ i. free (8192 * k + i))
front-more size n k g free whole from to =
    let r = k - n * g in
    let start : size * g ≡ 8192 * (n * g) = omega (arith, ap (λ (z : ℕ). z * g) whole) in
    let before : front_of size k g ≡ 8192 * r = omega arith in
    let after : front_of size (k + 1) g ≡ 8192 * r + 8192 = omega arith in
    let same = count_below-same 8192 (λ i. free (size * g + (8192 * r + i))) (λ i. free (8192 * k + i)) (λ i h. let e : size * g + (8192 * r + i) ≡ 8192 * k + i = omega arith in ap free e) in
    rw (before, after) (count_below-parts (8192 * r) 8192 (λ i. free (size * g + i)) ∙ ap (λ (z : ℕ). count_below (8192 * r) (λ i. free (size * g + i)) + z) same)

-- the other groups' counts stay
front-stays : (size n k g : ℕ) → size ≡ 8192 * n → 0 < n → g ≢ k / n → front_of size (k + 1) g ≡ front_of size k g
front-stays size n k g whole some other =
    let start : size * g ≡ 8192 * (n * g) = omega (arith, ap (λ (z : ℕ). z * g) whole) in
    elim (cases_lt g (k / n)) [
      | inl a ↦ omega (arith, mul-le n (g + 1) n (k / n) (omega arith) (omega arith))
      | inr a ↦ omega (arith, mul-le n (k / n + 1) n g (omega arith) (omega arith))
    ]

-- a block of a dmap is taken as the set says
pub page-taken : (blocks : ℕ) (dmaps : List Page) (k i : ℕ) → AreDmaps blocks dmaps → k < dmaps_of blocks → i < 8192 → taken_in (page_at dmaps k) i ≡ taken_at (set_of blocks dmaps) (8192 * k + i)
page-taken blocks dmaps k i are h within =
    sym (taken_at-set_of blocks dmaps (8192 * k + i) ∙ taken_on-dmap blocks k dmaps i (are.each k h) within)

-- a dmap has as many free blocks as the set has there
pub page-free : (blocks : ℕ) (dmaps : List Page) (set : List Bool) (k : ℕ) → set_of blocks dmaps ≡ set → AreDmaps blocks dmaps → k < length dmaps → count_below 8192 (λ i. not (taken_in (page_at dmaps k) i)) ≡ count_below 8192 (λ i. not (taken_at set (8192 * k + i)))
page-free blocks dmaps set k e are h =
    rw e at (count_below-same 8192 (λ i. not (taken_in (page_at dmaps k) i)) (λ i. not (taken_at (set_of blocks dmaps) (8192 * k + i))) (λ i within. ap not (page-taken blocks dmaps k i are (omega (arith, are.number)) within)))

-- so many dmaps hold a set
pub dmaps-number : (blocks : ℕ) (dmaps : List Page) (set : List Bool) → set_of blocks dmaps ≡ set → AreDmaps blocks dmaps → length dmaps ≡ dmaps_of (length set)
dmaps-number blocks dmaps set e are = are.number ∙ ap dmaps_of (sym (length-set_of blocks dmaps) ∙ ap length e)

-- a group has a whole number of dmaps
pub whole-dmaps : (blocks size : ℕ) → AreGroups blocks size → (size ≡ 8192 * (size / 8192)) × (0 < size / 8192)
whole-dmaps blocks size are =
    let l2 = are.power.0 in
    let e : 13 + (l2 - 13) ≡ l2 = omega (arith, l2-least blocks size are) in
    let parts : size ≡ 8192 * 2 ^ (l2 - 13) = are.power.1 ∙ rw e at (pow-add 2 13 (l2 - 13)) in
    (omega (arith, parts), omega (arith, parts, pow_pos (l2 - 13)))

-- each dmap belongs to one of the 128 groups
pub group-within : (blocks size k : ℕ) → AreGroups blocks size → k < dmaps_of blocks → k / (size / 8192) < 128
group-within blocks size k are h =
    let whole = whole-dmaps blocks size are in
    div_below k (size / 8192) 128 whole.1 (omega (arith, whole.0, are.most))

-- each group's count over the first `k` dmaps
abbrev pub AreFronts : ℕ → (ℕ → Bool) → ℕ → List ℕ → Type 0
AreFronts size free k groups = (g : ℕ) → g < 128 → get_or groups g 0 ≡ count_below (front_of size k g) (λ i. free (size * g + i))

-- without a dmap each count is 0
pub fronts-start : (size : ℕ) (free : ℕ → Bool) → AreFronts size free 0 (replicate 128 0)
fronts-start size free g h = let e : front_of size 0 g ≡ 0 = omega arith in rw (get_or-replicate {A = ℕ} 128 g 0 0 h, e) (sym (count_below-none (λ i. free (size * g + i))))

-- one more dmap, its free blocks added to its group's count
pub fronts-go_on : (size k more : ℕ) (free : ℕ → Bool) (groups : List ℕ) → size ≡ 8192 * (size / 8192) → 0 < size / 8192 → length groups ≡ 128 → k / (size / 8192) < 128 → more ≡ count_below 8192 (λ i. free (8192 * k + i)) → AreFronts size free k groups → AreFronts size free (k + 1) (set groups (k / (size / 8192)) (get_or groups (k / (size / 8192)) 0 + more))
fronts-go_on size k more free groups whole some long within count fronts g h =
    let n = size / 8192 in
    let now = get_or groups (k / n) 0 + more in
    elim (cases_eq g (k / n)) [
      | inl e ↦ (let sum : get_or (set groups (k / n) now) (k / n) 0 ≡ count_below (front_of size (k + 1) (k / n)) (λ i. free (size * (k / n) + i)) = get_or-set_same groups (k / n) now 0 (omega arith) ∙ (rw (fronts (k / n) within, count) (sym (front-more size n k (k / n) free whole (omega arith) (omega arith)))) in rw e sum)
      | inr other ↦ get_or-set_other groups (k / n) g now 0 other ∙ (fronts g h ∙ ap (λ (z : ℕ). count_below z (λ i. free (size * g + i))) (sym (front-stays size n k g whole some other)))
    ]

-- with all dmaps each count is that of the whole group, as blocks past the end are taken
pub fronts-end : (blocks size k : ℕ) (taken : ℕ → Bool) (groups : List ℕ) → blocks ≤ 8192 * k → ((b : ℕ) → blocks ≤ b → taken b ≡ true) → AreFronts size (λ b. not (taken b)) k groups → (g : ℕ) → g < 128 → get_or groups g 0 ≡ count_below size (λ i. not (taken (size * g + i)))
fronts-end blocks size k taken groups long past fronts g h =
    fronts g h ∙ count_below-front (front_of size k g) size (λ i. not (taken (size * g + i))) (omega arith) (λ i from to. ap not (past (size * g + i) (omega arith)))
