-- The pages of a fresh set of blocks.
use Rattle.std.proofs.Common.{◌≡◌, ◌<◌, ◌≤◌, ◌+◌, ◌-◌, ◌*◌, ◌/◌, ◌%◌, ◌^◌, ℕ, Bool, not, inl, inr, List, [], ◌∷◌, ◌++◌, length, take, drop, set, replicate, refl, sym, ap, ◌∙◌, arith}
use Rattle.std.specs.Prelude.{min, ℤ, negsuc}
use Rattle.std.proofs.lemmas.Bool.{cases_lt}
use Rattle.std.proofs.lemmas.List.{drop-append-le, take-append-le, length-drop, length-append, length-set, length-replicate, get_or-replicate, get_or_past, get_or-set_same, get_or-set_other, get_or_append_left, get_or_push}
use Rattle.jfs_disk.specs.declared.page.Page.{Page}
use Rattle.jfs_bits.specs.Field.{field_of, range_of}
use Rattle.jfs_bits.specs.Bits.{is_taken, is_taken_in, count_below, greatest_run}
use Rattle.jfs_bits.proofs.Fields.{range_between}
use Rattle.jfs_buddy.specs.Tree.{rank_of}
use Rattle.jfs_buddy.proofs.Parts.{length-range_of, field-from_range, field-in_part}
use Rattle.jfs_dmap.specs.Dmap.{taken_in}
use Rattle.jfs_bits.proofs.Counts.{count_below-none, count_below-same, count_below-parts, count_below-front}
use Rattle.jfs_dmapctl.specs.Control.{value_at, ranks_of, IsValue, IsControl}
use Rattle.jfs_bmap.specs.Set.{each_below, taken_at}
use Rattle.jfs_bmap.specs.Pages.{page_at, dmaps_of, taken_on, set_of, leaf_ranks, IsDmapOf, AreMapPages}
use Rattle.jfs_bmap.proofs.Views.{length-each_below, each_below-same, taken_at-each_below, taken_at-past, taken_on-within, taken_on-past, control-same}
use Rattle.jfs_buddy.proofs.Greatest.{greatest_run-same}
use Rattle.jfs_bmap.proofs.GreatestRuns.{greatest_run-value}
use Rattle.jfs_bmap.proofs.OnePage.{taken_on-dmap, leaf_ranks-most}
use Rattle.jfs_bmap.proofs.Lowest.{leaf-known}

-- ---- the bits of one dmap

-- a number within the front of a list
field-front : (xs ys : List ℕ) (at width : ℕ) → at + width ≤ length xs → field_of (xs ++ ys) at width ≡ field_of xs at width
unfolding range_of
field-front xs ys at width h =
    field-from_range (xs ++ ys) xs at width (ap (λ (z : List ℕ). take width z) (drop-append-le at xs ys (omega arith)) ∙ take-append-le width (drop at xs) ys (omega (arith, length-drop at xs)))

-- a word of a map from byte `at` on, with any bytes behind it
pub bits-front : (set rest : List ℕ) (at n i : ℕ) → at ≤ length set → n ≡ min (length set - at) 1024 → i < 8192 → 8 * at + i < 8 * length set → at % 4 ≡ 0 → length set % 4 ≡ 0 → is_taken (take (at + n - at) (drop at set) ++ rest) i ≡ is_taken set (8 * at + i)
unfolding is_taken
bits-front set rest at n i h e most within aligned words =
    let word = 4 * (i / 32) in
    let size : length (range_of set at n) ≡ n = length-range_of set at n (omega arith) in
    let room : word + 4 ≤ n = omega arith in
    let place : at + word ≡ 4 * ((8 * at + i) / 32) = omega arith in
    let bit : (8 * at + i) % 32 ≡ i % 32 = omega arith in
    rw (range_between set at n, bit) (ap (λ (z : ℕ). is_taken_in z (i % 32)) (field-front (range_of set at n) rest word 4 (omega (arith, size)) ∙ field-in_part set at n word 4 room ∙ ap (λ (z : ℕ). field_of set z 4) place))

-- ---- the pages of the first dmaps

-- the set that a bit map has
abbrev pub set_in : List ℕ → ℕ → List Bool
set_in bits blocks = each_below blocks (is_taken bits)

-- the first `k` dmaps and their leaves are those of the set that a bit map has, the other leaves have -1
pub record AreFresh (bits : List ℕ) (blocks k free : ℕ) (dmaps : List Page) (leaves : List ℤ) : Type 0 where
  pub number : length dmaps ≡ k
  pub each : (j : ℕ) → j < k → IsDmapOf blocks j (page_at dmaps j)
  pub same : (j i : ℕ) → j < k → i < 8192 → taken_in (page_at dmaps j) i ≡ taken_at (set_in bits blocks) (8192 * j + i)
  pub size : length leaves ≡ 1024
  pub value : (j : ℕ) → j < k → value_at leaves j ≡ greatest_run (taken_in (page_at dmaps j)) 13 13
  pub behind : (j : ℕ) → k ≤ j → value_at leaves j ≡ negsuc 0
  pub count : free ≡ count_below (8192 * k) (λ b. not (taken_at (set_in bits blocks) b))

-- before the first dmap
pub fresh-none : (bits : List ℕ) (blocks : ℕ) → AreFresh bits blocks 0 0 [] (replicate 1024 (negsuc 0))
fresh-none bits blocks = record {
  number = refl;
  each = λ j h. absurd (omega arith);
  same = λ j i h k. absurd (omega arith);
  size = length-replicate 1024 (negsuc 0);
  value = λ j h. absurd (omega arith);
  behind = λ j h. elim (cases_lt j 1024) [
    | inl b ↦ get_or-replicate 1024 j (negsuc 0) (negsuc 0) b
    | inr b ↦ get_or_past (replicate 1024 (negsuc 0)) j (negsuc 0) (omega (arith, length-replicate 1024 (negsuc 0)))
  ];
  count = sym (count_below-none (λ b. not (taken_at (set_in bits blocks) b)));
}

-- a page's blocks are those of the set, past the end too
page-fresh : (bits : List ℕ) (blocks k i : ℕ) (page : List ℕ) → IsDmapOf blocks k page → ((i : ℕ) → i < 8192 → 8192 * k + i < blocks → taken_in page i ≡ is_taken bits (8192 * k + i)) → i < 8192 → taken_in page i ≡ taken_at (set_in bits blocks) (8192 * k + i)
page-fresh bits blocks k i page d same h = elim (cases_lt (8192 * k + i) blocks) [
  | inl b ↦ same i h b ∙ sym (taken_at-each_below blocks (is_taken bits) (8192 * k + i) b)
  | inr b ↦ d.canonical.past i (omega (arith, d.number)) h ∙ sym (taken_at-past (set_in bits blocks) (8192 * k + i) (omega (arith, length-each_below blocks (is_taken bits))))
]

-- one more dmap
pub fresh-more : (bits : List ℕ) (blocks k free : ℕ) (dmaps : List Page) (leaves : List ℤ) (page : Page) → k < 1024 → AreFresh bits blocks k free dmaps leaves → IsDmapOf blocks k page.0 → ((i : ℕ) → i < 8192 → 8192 * k + i < blocks → taken_in page.0 i ≡ is_taken bits (8192 * k + i)) → AreFresh bits blocks (k + 1) (free + count_below 8192 (λ b. not (taken_in page.0 b))) (dmaps ++ page ∷ []) (set leaves k (greatest_run (taken_in page.0) 13 13))
fresh-more bits blocks k free dmaps leaves page within f d same = record {
  number = length-append dmaps (page ∷ []) ∙ omega (arith, f.number);
  each = λ j h. elim (cases_lt j k) [
    | inl b ↦ rw (before j b) (f.each j b)
    | inr b ↦ (let e : j ≡ k = omega arith in rw (e, last) d)
  ];
  same = λ j i h m. elim (cases_lt j k) [
    | inl b ↦ rw (before j b) (f.same j i b m)
    | inr b ↦ (let e : j ≡ k = omega arith in rw (e, last) (page-fresh bits blocks k i page.0 d same m))
  ];
  size = length-set leaves k (greatest_run (taken_in page.0) 13 13) ∙ f.size;
  value = λ j h. elim (cases_lt j k) [
    | inl b ↦ rw (before j b) (get_or-set_other leaves k j (greatest_run (taken_in page.0) 13 13) (negsuc 0) (λ e. absurd (omega arith)) ∙ f.value j b)
    | inr b ↦ (let e : j ≡ k = omega arith in rw (e, last) (get_or-set_same leaves k (greatest_run (taken_in page.0) 13 13) (negsuc 0) (omega (arith, f.size))))
  ];
  behind = λ j h. get_or-set_other leaves k j (greatest_run (taken_in page.0) 13 13) (negsuc 0) (λ e. absurd (omega arith)) ∙ f.behind j (omega arith);
  count =
      let e : 8192 * (k + 1) ≡ 8192 * k + 8192 = omega arith in
      let test = λ (b : ℕ). not (taken_at (set_in bits blocks) b) in
      let here = count_below-same 8192 (λ b. not (taken_in page.0 b)) (λ i. test (8192 * k + i)) (λ i m. ap not (page-fresh bits blocks k i page.0 d same m)) in
      rw (e, count_below-parts (8192 * k) 8192 test) (omega (arith, f.count, here));
}
  where
    before : (j : ℕ) → j < k → page_at (dmaps ++ page ∷ []) j ≡ page_at dmaps j
    before j b = ap (λ (p : Page). p.0) (get_or_append_left dmaps (page ∷ []) (record { 0 = [] }) j (omega (arith, f.number)))

    last : page_at (dmaps ++ page ∷ []) k ≡ page.0
    last = ap (λ (p : Page). p.0) (get_or_push dmaps page (record { 0 = [] }) k f.number)

-- each leaf has a value
pub fresh-values : (bits : List ℕ) (blocks k free : ℕ) (dmaps : List Page) (leaves : List ℤ) → AreFresh bits blocks k free dmaps leaves → (v : ℕ) → IsValue 0 (value_at leaves v)
fresh-values bits blocks k free dmaps leaves f v = elim (cases_lt v k) [
  | inl b ↦ rw (f.value v b) (greatest_run-value (taken_in (page_at dmaps v)) 0 13 13 (omega arith))
  | inr b ↦ rw (f.behind v b) refl
]

-- ---- the pages of the whole set

module _ (bits : List ℕ) (blocks free : ℕ) (dmaps : List Page) (leaves : List ℤ) (f : AreFresh bits blocks (dmaps_of blocks) free dmaps leaves) where
  -- the dmaps hold the set
  taken_on-fresh : (b : ℕ) → taken_on blocks dmaps b ≡ taken_at (set_in bits blocks) b
  taken_on-fresh b = elim (cases_lt b blocks) [
    | inl h ↦ (let e : 8192 * (b / 8192) + b % 8192 ≡ b = omega arith in taken_on-within blocks dmaps b h ∙ rw e at (f.same (b / 8192) (b % 8192) (omega arith) (omega arith)))
    | inr h ↦ taken_on-past blocks dmaps b h ∙ sym (taken_at-past (set_in bits blocks) b (omega (arith, length-each_below blocks (is_taken bits))))
  ]

  pub fresh-view : set_of blocks dmaps ≡ set_in bits blocks
  fresh-view = each_below-same blocks (taken_on blocks dmaps) (is_taken bits) (λ b h. taken_on-fresh b ∙ taken_at-each_below blocks (is_taken bits) b h)

  -- the leaves have the ranks of the dmaps
  fresh-rank : (v : ℕ) → ranks_of leaves v ≡ leaf_ranks (taken_on blocks dmaps) v
  unfolding leaf_ranks
  fresh-rank v = elim (cases_lt v (dmaps_of blocks)) [
    | inl h ↦ ap rank_of (f.value v h ∙ greatest_run-same (taken_in (page_at dmaps v)) (λ i. taken_on blocks dmaps (8192 * v + i)) 13 13 (omega arith) (λ i k. sym (taken_on-dmap blocks v dmaps i (f.each v h) k)))
    | inr h ↦ ap rank_of (f.behind v h) ∙ sym (elim (cases_lt 0 (leaf_ranks (taken_on blocks dmaps) v)) [ inl some ↦ absurd (omega (arith, leaf-known blocks dmaps 0 v (omega arith) some)) | inr none ↦ omega (arith, none) ])
  ]

  -- the free blocks were counted
  fresh-count : free ≡ count_below blocks (λ b. not (taken_on blocks dmaps b))
  fresh-count =
      let test = λ (b : ℕ). not (taken_at (set_in bits blocks) b) in
      let e : 8192 * dmaps_of blocks ≡ blocks + (8192 * dmaps_of blocks - blocks) = omega arith in
      let past = count_below-front blocks (blocks + (8192 * dmaps_of blocks - blocks)) test (omega arith) (λ i from to. ap not (taken_at-past (set_in bits blocks) i (omega (arith, length-each_below blocks (is_taken bits))))) in
      f.count ∙ ap (λ (n : ℕ). count_below n test) e ∙ sym past ∙ count_below-same blocks test (λ b. not (taken_on blocks dmaps b)) (λ b h. ap not (sym (taken_on-fresh b)))

  pub fresh-pages : (control : List ℕ) → blocks ≤ 2 ^ 23 → IsControl 0 (ranks_of leaves) control → AreMapPages blocks free dmaps control
  fresh-pages control most c = record {
    most = most;
    pages = record { number = f.number; each = f.each };
    ranks = control-same 0 (ranks_of leaves) (leaf_ranks (taken_on blocks dmaps)) control (λ v h. fresh-rank v) (leaf_ranks-most (taken_on blocks dmaps)) c;
    count = fresh-count;
  }
