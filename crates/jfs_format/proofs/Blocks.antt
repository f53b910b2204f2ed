-- The block map of a new volume, whose owned blocks are the first ones.
use Rattle.std.proofs.Common.{◌≡◌, ◌≤◌, ◌<◌, ◌+◌, ◌-◌, ◌*◌, ◌^◌, ℕ, zero, suc, Bool, true, false, not, ◌||◌, List, set, replicate, refl, sym, ap, ◌∙◌, ◌⊎◌, inl, inr, arith}
use Rattle.std.specs.Prelude.{ℤ, negsuc, min, max, nat_le, nat_lt, if◌then◌else◌}
use Rattle.std.proofs.lemmas.Bool.{cases_lt, lt-ltb, le-ltb, le-leb, lt-leb, true≢false, false_from_ne_true}
use Rattle.std.proofs.lemmas.List.{length-set, length-replicate, get_or-replicate, get_or_past, get_or-set_same, get_or-set_other}
use Rattle.std.proofs.lemmas.Nat.{pow_pos}
use Rattle.jfs_bits.specs.Bits.{is_in_run, is_free, is_free_run, has_free_run, greatest_run, count_below}
use Rattle.jfs_bits.proofs.Buds.{any_below-none, greatest_run-none}
use Rattle.jfs_bits.proofs.Runs.{is_free-at}
use Rattle.jfs_bits.proofs.Counts.{in_run, behind_run, count_below-same}
use Rattle.jfs_buddy.specs.Tree.{rank_of}
use Rattle.jfs_buddy.proofs.Greatest.{greatest_run-same}
use Rattle.jfs_dmap.specs.Dmap.{taken_in}
use Rattle.jfs_dmapctl.specs.Control.{IsControl, IsValue, value_at, ranks_of}
use Rattle.jfs_bmap.specs.Pages.{leaf_ranks}
use Rattle.jfs_bmap.specs.MapFile.{IsDmapPage}
use Rattle.jfs_bmap.proofs.GreatestRuns.{greatest_run-value}
use Rattle.jfs_bmap.proofs.OnePage.{leaf_ranks-most}
use Rattle.jfs_bmap.proofs.Views.{control-same}
use Rattle.jfs_format.specs.declared.layout.Layout.{Layout}
use Rattle.jfs_format.specs.Layout.{IsLayout, owned_blocks, free_blocks, is_taken_block}
use Rattle.jfs_format.specs.Leaves.{AreLeaves}

-- ---- counts

pub count-between : (low high first n : ℕ) → count_below n (λ i. not (nat_lt (first + i) low || nat_le high (first + i))) ≡ min (first + n) high - max first low
unfolding count_below
count-between low high first zero = omega arith
count-between low high first (suc n) = by (cases_lt (first + n) low) (cases_lt (first + n) high) (count-between low high first n)
  where
    by : (first + n < low) ⊎ (low ≤ first + n) → (first + n < high) ⊎ (high ≤ first + n) → count_below n (λ i. not (nat_lt (first + i) low || nat_le high (first + i))) ≡ min (first + n) high - max first low
        → count_below n (λ i. not (nat_lt (first + i) low || nat_le high (first + i))) + (if not (nat_lt (first + n) low || nat_le high (first + n)) then 1 else 0) ≡ min (first + suc n) high - max first low
    by (inl a) side before = rw (lt-ltb (first + n) low a) (omega (arith, before))
    by (inr a) (inr b) before = rw (le-ltb (first + n) low a, le-leb high (first + n) b) (omega (arith, before))
    by (inr a) (inl b) before = rw (le-ltb (first + n) low a, lt-leb high (first + n) b) (omega (arith, before))

-- ---- the set of one dmap

pub first-dmap : (l : Layout) (i : ℕ) → i < l.blocks → (is_in_run 0 (owned_blocks l) i || false) ≡ is_taken_block l i
first-dmap l i within = by (cases_lt i (owned_blocks l))
  where
    by : (i < owned_blocks l) ⊎ (owned_blocks l ≤ i) → (is_in_run 0 (owned_blocks l) i || false) ≡ is_taken_block l i
    by (inl a) = rw (in_run 0 (owned_blocks l) i (omega arith) (omega (arith, a)), lt-ltb i (owned_blocks l) a) refl
    by (inr a) = rw (behind_run 0 (owned_blocks l) i (omega (arith, a)), le-ltb i (owned_blocks l) a, lt-leb l.blocks i within) refl

pub later-dmap : (pages : ℕ) (l : Layout) (b : ℕ) → IsLayout pages l → 8192 ≤ b → b < l.blocks → false ≡ is_taken_block l b
later-dmap pages l b bounds h within = rw (le-ltb b (owned_blocks l) (omega (arith, bounds.owned)), lt-leb l.blocks b within) refl

pub past-taken : (l : Layout) (b : ℕ) → l.blocks ≤ b → is_taken_block l b ≡ true
past-taken l b h = or-true (nat_lt b (owned_blocks l)) (nat_le l.blocks b) (le-leb l.blocks b h)
  where
    or-true : (x y : Bool) → y ≡ true → (x || y) ≡ true
    or-true true y e = refl
    or-true false y e = e

-- the blocks of a dmap are those of the set, past the end too
pub dmap-taken : (l : Layout) (k i : ℕ) (page : List ℕ) → IsDmapPage l.blocks (is_taken_block l) k page → i < 8192 → taken_in page i ≡ is_taken_block l (8192 * k + i)
dmap-taken l k i page d h = by (cases_lt (8192 * k + i) l.blocks)
  where
    by : (8192 * k + i < l.blocks) ⊎ (l.blocks ≤ 8192 * k + i) → taken_in page i ≡ is_taken_block l (8192 * k + i)
    by (inl within) = d.set i within h
    by (inr past) = d.dmap.canonical.past i (omega (arith, d.dmap.number)) h ∙ sym (past-taken l (8192 * k + i) past)

-- ---- leaves

none-free : (taken : ℕ → Bool) (span l2 : ℕ) → ((i : ℕ) → taken i ≡ true) → has_free_run taken span l2 ≡ false
unfolding has_free_run
none-free taken span l2 all =
    any_below-none (2 ^ (span - l2)) (is_free_run taken l2)
    (λ j h. false_from_ne_true (is_free taken (j * 2 ^ l2) (2 ^ l2)) (λ free. true≢false (sym (all (j * 2 ^ l2 + 0)) ∙ is_free-at taken (j * 2 ^ l2) (2 ^ l2) free 0 (pow_pos l2))))

no-run : (taken : ℕ → Bool) → ((i : ℕ) → taken i ≡ true) → greatest_run taken 13 13 ≡ negsuc 0
no-run taken all = greatest_run-none taken 13 13 (λ l2 h. none-free taken 13 l2 all)

pub leaves-none : (taken : ℕ → Bool) → AreLeaves taken 0 (replicate 1024 (negsuc 0))
leaves-none taken = record {
  size = length-replicate 1024 (negsuc 0);
  value = λ j h. absurd (omega arith);
  behind = λ j h. elim (cases_lt j 1024) [
    | inl b ↦ get_or-replicate 1024 j (negsuc 0) (negsuc 0) b
    | inr b ↦ get_or_past (replicate 1024 (negsuc 0)) j (negsuc 0) (omega (arith, length-replicate 1024 (negsuc 0)))
  ];
}

pub leaves-more : (l : Layout) (k : ℕ) (leaves : List ℤ) (page : List ℕ) → k < 1024 → AreLeaves (is_taken_block l) k leaves → IsDmapPage l.blocks (is_taken_block l) k page → AreLeaves (is_taken_block l) (k + 1) (set leaves k (greatest_run (taken_in page) 13 13))
leaves-more l k leaves page within are d = record {
  size = length-set leaves k (greatest_run (taken_in page) 13 13) ∙ are.size;
  value = λ j h. elim (cases_lt j k) [
    | inl b ↦ get_or-set_other leaves k j (greatest_run (taken_in page) 13 13) (negsuc 0) (λ e. absurd (omega arith)) ∙ are.value j b
    | inr b ↦ (let e : j ≡ k = omega arith in rw e (get_or-set_same leaves k (greatest_run (taken_in page) 13 13) (negsuc 0) (omega (arith, are.size)) ∙ greatest_run-same (taken_in page) (λ i. is_taken_block l (8192 * k + i)) 13 13 (omega arith) (λ i h. dmap-taken l k i page d h)))
  ];
  behind = λ j h. get_or-set_other leaves k j (greatest_run (taken_in page) 13 13) (negsuc 0) (λ e. absurd (omega arith)) ∙ are.behind j (omega arith);
}

pub leaf-value : (taken : ℕ → Bool) (k : ℕ) (leaves : List ℤ) → AreLeaves taken k leaves → (v : ℕ) → IsValue 0 (value_at leaves v)
leaf-value taken k leaves are v = elim (cases_lt v k) [
  | inl b ↦ rw (are.value v b) (greatest_run-value (λ i. taken (8192 * v + i)) 0 13 13 (omega arith))
  | inr b ↦ rw (are.behind v b) refl
]

leaf-rank : (l : Layout) (leaves : List ℤ) (v : ℕ) → l.blocks ≤ 8192 * l.dmaps → AreLeaves (is_taken_block l) l.dmaps leaves → ranks_of leaves v ≡ leaf_ranks (is_taken_block l) v
unfolding leaf_ranks
leaf-rank l leaves v long are = elim (cases_lt v l.dmaps) [
  | inl b ↦ ap rank_of (are.value v b)
  | inr b ↦ ap rank_of (are.behind v b ∙ sym (no-run (λ i. is_taken_block l (8192 * v + i)) (λ i. past-taken l (8192 * v + i) (omega arith))))
]

pub level-zero : (pages : ℕ) (l : Layout) (leaves : List ℤ) (page : List ℕ) → IsLayout pages l → AreLeaves (is_taken_block l) l.dmaps leaves → IsControl 0 (ranks_of leaves) page → IsControl 0 (leaf_ranks (is_taken_block l)) page
level-zero pages l leaves page bounds are control =
    control-same 0 (ranks_of leaves) (leaf_ranks (is_taken_block l)) page (λ v h. leaf-rank l leaves v (omega (arith, bounds.dmaps)) are) (leaf_ranks-most (is_taken_block l)) control

-- the free blocks are those between the owned ones and the end
pub free-count : (l : Layout) → owned_blocks l ≤ l.blocks → count_below l.blocks (λ b. not (is_taken_block l b)) ≡ free_blocks l
free-count l h =
    count_below-same l.blocks (λ b. not (is_taken_block l b)) (λ i. not (is_taken_block l (0 + i))) (λ b k. let e : 0 + b ≡ b = omega arith in rw e refl)
    ∙ count-between (owned_blocks l) l.blocks 0 l.blocks ∙ omega (arith, h)
