-- The free runs of a set, by the ranks of leaves that stand for 2 ^ span of its blocks each: the lowest one, and the greatest one.
use Rattle.std.proofs.Common.{◌≡◌, ◌<◌, ◌≤◌, ◌+◌, ◌-◌, ◌*◌, ◌/◌, ◌%◌, ◌^◌, ℕ, zero, suc, Bool, true, false, inl, inr, List, slice_index, to_z, w8, refl, sym, ap, ◌∙◌, arith}
use Rattle.std.specs.Prelude.{ℤ, pos, negsuc, Some, None}
use Rattle.std.proofs.lemmas.Bool.{cases_lt, cases_eq, both_ways, false_from_ne_true}
use Rattle.std.proofs.lemmas.Nat.{pow_pos, pow-add, shl-shr, shr_split, mod_below, mul-le, div_below, div-mul-add}
use Rattle.std.proofs.lemmas.Int.{to_z_pos}
use Rattle.jfs_bits.specs.Field.{field_of, range_of}
use Rattle.jfs_bits.specs.Bits.{is_free_run, has_free_run, greatest_run, IsLowestFree}
use Rattle.jfs_bits.proofs.Runs.{is_free-at, is_free-from, is_free-same}
use Rattle.jfs_bits.proofs.Buds.{any_below-at, any_below-from, greatest_run-none}
use Rattle.jfs_buddy.specs.Tree.{rank_of, rank_at, leaves_of}
use Rattle.jfs_buddy.specs.Buddy.{is_whole, HasRun, IsLowestRun, IsBuddyTree}
use Rattle.jfs_buddy.proofs.Joins.{start_of-same, is_whole-at, is_whole-from}
use Rattle.jfs_buddy.proofs.Halves.{start_of-multiple}
use Rattle.jfs_buddy.proofs.Places.{part-at}
use Rattle.jfs_buddy.proofs.Greatest.{run-rank, rank-run, run-most, runs-in, run-within, run-begin}
use Rattle.jfs_buddy.proofs.Roots.{root-most, root-run, run-root}

-- the blocks of leaf `v`
abbrev pub part_of : ℕ → (ℕ → Bool) → ℕ → ℕ → Bool
part_of span taken v i = taken (2 ^ span * v + i)

-- each leaf has the rank of the greatest free run of its blocks
pub record AreRanks (span : ℕ) (taken : ℕ → Bool) (own : ℕ → ℕ) : Type 0 where
  pub each : (v : ℕ) → own v ≡ rank_of (greatest_run (part_of span taken v) span span)

-- `first` is the first block of the lowest free aligned run of 2 ^ l2 blocks
abbrev pub IsLowestAt : (ℕ → Bool) → ℕ → ℕ → Type 0
IsLowestAt taken l2 first = (j : ℕ) × (first ≡ j * 2 ^ l2) × (is_free_run taken l2 j ≡ true) × ((i : ℕ) → i < j → is_free_run taken l2 i ≡ false)

-- a rank that is at least each rank that another is at least
ranks-most : (one other : ℕ) → ((l2 : ℕ) → suc l2 ≤ one → suc l2 ≤ other) → one ≤ other
ranks-most zero other h = omega arith
ranks-most (suc l2) other h = h l2 (omega arith)

-- where a run of whole leaves begins
large-place : (span k j : ℕ) → j * 2 ^ (span + k) ≡ j * 2 ^ k * 2 ^ span
large-place span k j = omega (arith, ap (λ (z : ℕ). j * z) (pow-add 2 span k))

-- a byte with the rank of a set's greatest free run, as a number with its sign
byte-greatest : (taken : ℕ → Bool) (span top x : ℕ) → x < 256 → top < 127 → (x + 1) % 256 ≡ rank_of (greatest_run taken span top) → to_z w8 x ≡ greatest_run taken span top
byte-greatest taken span top x small few e = elim (cases_eq x 255) [
  | inl last ↦ ap (to_z w8) last ∙ sym (greatest_run-none taken span top (λ l h. false_from_ne_true (has_free_run taken span l) (λ run. absurd (omega (arith, run-rank taken span top l h run)))))
  | inr other ↦ to_z_pos w8 x (omega (arith, run-most taken span top)) ∙ some (greatest_run taken span top) (omega arith)
]
  where
    some : (z : ℤ) → suc x ≡ rank_of z → pos x ≡ z
    some (pos l2) same = ap pos (omega arith)
    some (negsuc n) same = absurd (omega arith)

-- the lowest run of a leaf's blocks begins within them
pub lowest-within : (part : ℕ → Bool) (span l2 first : ℕ) → l2 ≤ span → IsLowestFree part (2 ^ (span - l2)) l2 (Some first) → first < 2 ^ span
lowest-within part span l2 first h inner = omega (arith, inner.2, run-within span l2 inner.0 0 h inner.1 (pow_pos l2))

module _ {span : ℕ} {taken : ℕ → Bool} {own : ℕ → ℕ} (are : AreRanks span taken own) where
  -- ---- the runs of one leaf

  -- a free run in a leaf of its rank
  pub rank-free : (l2 v : ℕ) → suc l2 ≤ own v → (p : ℕ) × (p < 2 ^ (span - l2)) × (is_free_run (part_of span taken v) l2 p ≡ true)
  unfolding has_free_run
  rank-free l2 v rank = any_below-at (2 ^ (span - l2)) (is_free_run (part_of span taken v) l2) (rank-run (part_of span taken v) span span l2 (omega arith) (rw (are.each v) at rank))

  -- and back
  free-rank : (l2 v p : ℕ) → l2 ≤ span → p < 2 ^ (span - l2) → is_free_run (part_of span taken v) l2 p ≡ true → suc l2 ≤ own v
  unfolding has_free_run
  free-rank l2 v p h b free = rw (are.each v) (run-rank (part_of span taken v) span span l2 h (any_below-from (2 ^ (span - l2)) (is_free_run (part_of span taken v) l2) p b free))

  -- no leaf has more than the rank of a wholly free one
  own-most : (v : ℕ) → own v ≤ suc span
  own-most v = rw (are.each v) (run-most (part_of span taken v) span span)

  -- a run within a leaf
  part-run : (part : ℕ → Bool) (l2 v p : ℕ) → l2 ≤ span → p < 2 ^ (span - l2) → ((i : ℕ) → i < 2 ^ span → part i ≡ taken (2 ^ span * v + i)) → ((v * 2 ^ (span - l2) + p) * 2 ^ l2 ≡ 2 ^ span * v + p * 2 ^ l2) × (is_free_run taken l2 (v * 2 ^ (span - l2) + p) ≡ is_free_run part l2 p)
  part-run part l2 v p h b same =
      let place : (v * 2 ^ (span - l2) + p) * 2 ^ l2 ≡ 2 ^ span * v + p * 2 ^ l2 = omega (arith, ap (λ (z : ℕ). v * z) (runs-in span l2 h)) in (
        place,
        is_free-same taken part ((v * 2 ^ (span - l2) + p) * 2 ^ l2) (p * 2 ^ l2) (2 ^ l2) (λ i k.
            let e : (v * 2 ^ (span - l2) + p) * 2 ^ l2 + i ≡ 2 ^ span * v + (p * 2 ^ l2 + i) = omega arith in
            rw e (sym (same (p * 2 ^ l2 + i) (run-within span l2 p i h b k)))),
      )

  -- a leaf has the rank of a wholly free one where its blocks are free
  whole-blocks : (v : ℕ) → own v ≡ suc span → (i : ℕ) → i < 2 ^ span → taken (2 ^ span * v + i) ≡ false
  whole-blocks v e i h =
      let r = rank-free span v (omega arith) in
      let none : span - span ≡ 0 = omega arith in
      let within : r.0 < 2 ^ 0 = rw none at r.1 in
      let first : r.0 ≡ 0 = omega arith in
      let place : r.0 * 2 ^ span + i ≡ i = rw first (omega arith) in
      rw place at (is_free-at (part_of span taken v) (r.0 * 2 ^ span) (2 ^ span) r.2 i h)

  -- and back
  blocks-whole : (v : ℕ) → ((i : ℕ) → i < 2 ^ span → taken (2 ^ span * v + i) ≡ false) → own v ≡ suc span
  blocks-whole v h =
      let run : is_free_run (part_of span taken v) span 0 ≡ true = is_free-from (part_of span taken v) (0 * 2 ^ span) (2 ^ span) (λ i k. let place : 0 * 2 ^ span + i ≡ i = omega arith in rw place (h i k)) in
      omega (arith, free-rank span v 0 (omega arith) (pow_pos (span - span)) run, own-most v)

  -- ---- a free run of the set is one of the leaves

  -- one no longer than a leaf
  small-leaf : (l2 v p : ℕ) → l2 ≤ span → p < 2 ^ (span - l2) → is_free_run taken l2 (v * 2 ^ (span - l2) + p) ≡ true → HasRun own (suc span) (suc l2) v
  small-leaf l2 v p h b free =
      let rank = free-rank l2 v p h b (sym (part-run (part_of span taken v) l2 v p h b (λ i k. refl)).1 ∙ free) in
      record {
        part = λ _. rank;
        wholes = λ k e. (let none : k ≡ 0 = omega arith in rw none (
          omega arith,
          is_whole-from own (suc span) 0 v (λ u same. (let here : u ≡ v = omega arith in rw here (omega (arith, own-most v)))),
        ));
      }

  -- one of whole leaves
  large-leaf : (k j : ℕ) → is_free_run taken (span + k) j ≡ true → HasRun own (suc span) (suc (span + k)) (j * 2 ^ k)
  large-leaf k j free =
      let whole : is_whole own (suc span) k (j * 2 ^ k) ≡ true = is_whole-from own (suc span) k (j * 2 ^ k) (λ u e. blocks-whole u (blocks u (e ∙ shl-shr j k))) in
      record {
        part = λ h. omega (arith, is_whole-at own (suc span) k (j * 2 ^ k) whole (j * 2 ^ k) refl);
        wholes = λ l e. (let same : k ≡ l = omega arith in rw (← same) (start_of-multiple k j, whole));
      }
    where
      blocks : (u : ℕ) → u / 2 ^ k ≡ j → (i : ℕ) → i < 2 ^ span → taken (2 ^ span * u + i) ≡ false
      blocks u row i b =
          let split : j * 2 ^ k + u % 2 ^ k ≡ u = rw row at (shr_split u k) in
          let there : j * 2 ^ (span + k) + (2 ^ span * (u % 2 ^ k) + i) ≡ 2 ^ span * u + i = omega (arith, large-place span k j, ap (λ (z : ℕ). 2 ^ span * z) split) in
          let most = mul-le (u % 2 ^ k + 1) (2 ^ span) (2 ^ k) (2 ^ span) (omega (arith, mod_below u (2 ^ k) (pow_pos k))) (omega arith) in
          rw there at (is_free-at taken (j * 2 ^ (span + k)) (2 ^ (span + k)) free (2 ^ span * (u % 2 ^ k) + i) (omega (arith, pow-add 2 span k)))

  -- of each length: it lies at the leaf of its first block
  run-leaf : (l2 j : ℕ) → is_free_run taken l2 j ≡ true → HasRun own (suc span) (suc l2) (j * 2 ^ l2 / 2 ^ span)
  run-leaf l2 j free = elim (cases_lt span l2) [ inr a ↦ small a | inl a ↦ large (l2 - span) (omega arith) ]
    where
      small : l2 ≤ span → HasRun own (suc span) (suc l2) (j * 2 ^ l2 / 2 ^ span)
      small h =
          let width = 2 ^ (span - l2) in
          let v = j / width in
          let p = j % width in
          let b = mod_below j width (pow_pos (span - l2)) in
          let split : v * width + p ≡ j = shr_split j (span - l2) in
          let place = rw split at ((part-run (part_of span taken v) l2 v p h b (λ i k. refl)).0) in
          let begin : j * 2 ^ l2 ≡ v * 2 ^ span + p * 2 ^ l2 = omega arith in
          let inside : p * 2 ^ l2 < 2 ^ span = omega (arith, run-within span l2 p 0 h b (pow_pos l2)) in
          rw (begin, div-mul-add v (2 ^ span) (p * 2 ^ l2) inside) (small-leaf l2 v p h b (rw split free))

      large : (k : ℕ) → l2 ≡ span + k → HasRun own (suc span) (suc l2) (j * 2 ^ l2 / 2 ^ span)
      large k e = rw (e, large-place span k j, shl-shr (j * 2 ^ k) span) (large-leaf k j (rw e at free))

  -- ---- and each run of the leaves is a free run of the set

  -- one of whole leaves begins where its leaf does
  whole-run : (k v : ℕ) → HasRun own (suc span) (suc (span + k)) v → (v / 2 ^ k * 2 ^ (span + k) ≡ 2 ^ span * v) × (is_free_run taken (span + k) (v / 2 ^ k) ≡ true)
  whole-run k v run =
      let w = run.wholes k (omega arith) in
      let j = v / 2 ^ k in
      let begin : j * 2 ^ (span + k) ≡ 2 ^ span * v = omega (arith, large-place span k j, ap (λ (z : ℕ). 2 ^ span * z) w.0) in (
        begin,
        is_free-from taken (j * 2 ^ (span + k)) (2 ^ (span + k)) (λ i b.
            let few : i / 2 ^ span < 2 ^ k = div_below i (2 ^ span) (2 ^ k) (pow_pos span) (omega (arith, pow-add 2 span k)) in
            let u = v + i / 2 ^ span in
            let row : u / 2 ^ k ≡ v / 2 ^ k = rw w.0 at (start_of-same k v (i / 2 ^ span) few) in
            let there : 2 ^ span * u + i % 2 ^ span ≡ j * 2 ^ (span + k) + i = omega (arith, begin, shr_split i span) in
            rw there at (whole-blocks u (is_whole-at own (suc span) k v w.1 u row) (i % 2 ^ span) (mod_below i (2 ^ span) (pow_pos span)))),
      )

  -- one of each length begins in its leaf
  leaf-run : (l2 v : ℕ) → HasRun own (suc span) (suc l2) v → (j : ℕ) × (j * 2 ^ l2 < 2 ^ span * (v + 1)) × (is_free_run taken l2 j ≡ true)
  leaf-run l2 v run = elim (cases_lt span l2) [ inr a ↦ small a | inl a ↦ large (l2 - span) (omega arith) ]
    where
      small : l2 ≤ span → (j : ℕ) × (j * 2 ^ l2 < 2 ^ span * (v + 1)) × (is_free_run taken l2 j ≡ true)
      small h =
          let r = rank-free l2 v (run.part (omega arith)) in
          let e = part-run (part_of span taken v) l2 v r.0 h r.1 (λ i k. refl) in
          (v * 2 ^ (span - l2) + r.0, omega (arith, e.0, run-within span l2 r.0 0 h r.1 (pow_pos l2)), e.1 ∙ r.2)

      large : (k : ℕ) → l2 ≡ span + k → (j : ℕ) × (j * 2 ^ l2 < 2 ^ span * (v + 1)) × (is_free_run taken l2 j ≡ true)
      large k e = let r = whole-run k v (rw e at run) in rw e (v / 2 ^ k, omega (arith, r.0, pow_pos span), r.1)

  -- ---- the lowest free run, from the lowest leaf that has one

  -- where no leaf has a run of the rank, none of the length begins in one
  pub none-lowest : (height l2 j : ℕ) → IsLowestRun height own (suc span) (suc l2) None → j * 2 ^ l2 < 2 ^ span * leaves_of height → is_free_run taken l2 j ≡ false
  none-lowest height l2 j lowest b = false_from_ne_true (is_free_run taken l2 j) (λ free. lowest (j * 2 ^ l2 / 2 ^ span) (div_below (j * 2 ^ l2) (2 ^ span) (leaves_of height) (pow_pos span) (omega arith)) (run-leaf l2 j free))

  -- no free run begins before the lowest leaf that has one
  past-leaf : (height l2 v j : ℕ) → IsLowestRun height own (suc span) (suc l2) (Some v) → is_free_run taken l2 j ≡ true → 2 ^ span * v ≤ j * 2 ^ l2
  past-leaf height l2 v j lowest free =
      elim (cases_lt (j * 2 ^ l2) (2 ^ span * v)) [
        | inl a ↦ absurd (lowest.2 (j * 2 ^ l2 / 2 ^ span) (div_below (j * 2 ^ l2) (2 ^ span) v (pow_pos span) (omega arith)) (run-leaf l2 j free))
        | inr a ↦ a
      ]

  -- a run of whole leaves begins where the lowest leaf does
  pub whole-lowest : (height l2 v : ℕ) → span ≤ l2 → IsLowestRun height own (suc span) (suc l2) (Some v) → IsLowestAt taken l2 (2 ^ span * v)
  whole-lowest height l2 v h lowest = large (l2 - span) (omega arith)
    where
      large : (k : ℕ) → l2 ≡ span + k → IsLowestAt taken l2 (2 ^ span * v)
      large k e =
          let r = whole-run k v (rw e at lowest.1) in
          let begin : v / 2 ^ k * 2 ^ l2 ≡ 2 ^ span * v = rw e r.0 in (
            v / 2 ^ k,
            sym begin,
            rw e r.1,
            λ i b. false_from_ne_true (is_free_run taken l2 i) (λ free.
                omega (arith, begin, past-leaf height l2 v i lowest free, mul-le (i + 1) (2 ^ l2) (v / 2 ^ k) (2 ^ l2) (omega arith) (omega arith), pow_pos l2)),
          )

  -- for a run no longer than a leaf, the blocks of the lowest leaf that has one
  module _ (part : ℕ → Bool) (height l2 v : ℕ) (h : l2 ≤ span) (same : (i : ℕ) → i < 2 ^ span → part i ≡ taken (2 ^ span * v + i)) (lowest : IsLowestRun height own (suc span) (suc l2) (Some v)) where
    -- have one
    pub part-some : IsLowestFree part (2 ^ (span - l2)) l2 None → ⊥
    part-some none =
        let r = rank-free l2 v (lowest.1.part (omega arith)) in
        both_ways (is_free_run part l2 r.0) (none r.0 r.1) (sym (part-run part l2 v r.0 h r.1 same).1 ∙ (part-run (part_of span taken v) l2 v r.0 h r.1 (λ i k. refl)).1 ∙ r.2)

    -- and their lowest one is the set's
    pub part-lowest : (first : ℕ) → IsLowestFree part (2 ^ (span - l2)) l2 (Some first) → IsLowestAt taken l2 (2 ^ span * v + first)
    part-lowest first inner =
        let run = part-run part l2 v inner.0 h inner.1 same in (
          v * 2 ^ (span - l2) + inner.0,
          omega (arith, run.0, inner.2),
          run.1 ∙ inner.3,
          λ j b. false_from_ne_true (is_free_run taken l2 j) (λ free. lower j b free),
        )
      where
        lower : (j : ℕ) → j < v * 2 ^ (span - l2) + inner.0 → is_free_run taken l2 j ≡ true → ⊥
        lower j b free = elim (cases_lt j (v * 2 ^ (span - l2))) [
          | inl a ↦ omega (arith, past-leaf height l2 v j lowest free, ap (λ (z : ℕ). v * z) (runs-in span l2 h), mul-le (j + 1) (2 ^ l2) (v * 2 ^ (span - l2)) (2 ^ l2) (omega arith) (omega arith), pow_pos l2)
          | inr a ↦
              let p = j - v * 2 ^ (span - l2) in
              let there : v * 2 ^ (span - l2) + p ≡ j = omega arith in
              let less : p < inner.0 = omega arith in
              let few = inner.1 in
              both_ways (is_free_run part l2 p) (inner.4 p less) (sym (part-run part l2 v p h (omega arith) same).1 ∙ rw there free)
        ]

  -- ---- the greatest free run of the whole set

  -- the root has its rank
  pub tree-greatest : (height : ℕ) (tree : List ℕ) → IsBuddyTree height (suc span) own tree → rank_at tree 0 ≡ rank_of (greatest_run taken (span + 2 * height) (span + 2 * height))
  unfolding has_free_run
  tree-greatest height tree t = omega (arith, ranks-most (rank_at tree 0) greatest root, ranks-most greatest (rank_at tree 0) back)
    where
      total : ℕ
      total = span + 2 * height

      greatest : ℕ
      greatest = rank_of (greatest_run taken total total)

      root : (l2 : ℕ) → suc l2 ≤ rank_at tree 0 → suc l2 ≤ greatest
      root l2 rank =
          let h : l2 ≤ total = omega (arith, root-most height (suc span) own tree t) in
          let leaf = root-run height (suc span) (suc l2) own tree (omega arith) (omega arith) t rank in
          let within = leaf.1 in
          let run = leaf-run l2 leaf.0 leaf.2 in
          let most = mul-le (2 ^ span) (leaf.0 + 1) (2 ^ span) (leaves_of height) (omega arith) (omega arith) in
          let few = run-begin total l2 run.0 h (omega (arith, run.1, pow-add 2 span (2 * height))) in
          run-rank taken total total l2 h (any_below-from (2 ^ (total - l2)) (is_free_run taken l2) run.0 few run.2)

      back : (l2 : ℕ) → suc l2 ≤ greatest → suc l2 ≤ rank_at tree 0
      back l2 rank =
          let h : l2 ≤ total = omega (arith, run-most taken total total) in
          let run = any_below-at (2 ^ (total - l2)) (is_free_run taken l2) (rank-run taken total total l2 (omega arith) rank) in
          let within = run-within total l2 run.0 0 h run.1 (pow_pos l2) in
          let leaf = div_below (run.0 * 2 ^ l2) (2 ^ span) (leaves_of height) (pow_pos span) (omega (arith, pow-add 2 span (2 * height))) in
          run-root height (suc span) (suc l2) (run.0 * 2 ^ l2 / 2 ^ span) own tree (omega arith) t leaf (run-leaf l2 run.0 run.2)

  -- and the root's byte on a page is it, as a number with its sign
  pub tree-value : (height at n : ℕ) (page : List ℕ) → 0 < n → span + 2 * height < 127 → IsBuddyTree height (suc span) own (range_of page at n) → field_of page at 1 < 256 → to_z w8 (field_of page at 1) ≡ greatest_run taken (span + 2 * height) (span + 2 * height)
  unfolding rank_at field_of
  tree-value height at n page h few t small =
      let here : at + 0 ≡ at = omega arith in
      let byte : slice_index page at ≡ field_of page at 1 = omega arith in
      byte-greatest taken (span + 2 * height) (span + 2 * height) (field_of page at 1) small few (ap (λ (z : ℕ). (z + 1) % 256) (sym byte ∙ sym (rw here at (part-at page at n 0 h))) ∙ tree-greatest height (range_of page at n) t)
