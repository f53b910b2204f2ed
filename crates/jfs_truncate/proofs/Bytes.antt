-- What a file holds once it is cut behind the bytes that stay, and the block in which they end is zeroed behind them.
use Rattle.std.proofs.Common.{◌≡◌, ◌≢◌, ◌≤◌, ◌<◌, ◌⊎◌, refl, sym, ap, ◌∙◌, subst, inl, inr, ℕ, ◌+◌, ◌*◌, ◌/◌, ◌%◌, ◌==◌, ◌||◌, Bool, true, false, nat_lt, if◌then◌else◌, List, [], ◌∷◌, length, Option, Some, None, arith, eqb-true, eq-eqb, ne_eqb}
use Rattle.std.specs.Prelude.{min, get_or}
use Rattle.std.proofs.lemmas.Bool.{cases_lt, lt-ltb, le-ltb}
use Rattle.std.proofs.lemmas.Bool.Decides.{nat_tests}
use Rattle.jfs_bits.specs.declared.extent.Xad.{Xad}
use Rattle.jfs_xtree.specs.Cutting.{kept_below}
use Rattle.jfs_data_steps.specs.objects.specs.Owners.{covers}
use Rattle.jfs_data_steps.specs.objects.specs.Contents.{block_of, bytes_at}
use Rattle.jfs_data_steps.specs.objects.proofs.Blocks.{covered}
use Rattle.jfs_data_steps.specs.objects.proofs.Sums.{eq_or_not}
use Rattle.jfs_read.specs.meaning.specs.Contents.{byte_of}
use Rattle.jfs_data_steps.specs.declared.pages.DataPage.{DataPage}
use Rattle.jfs_data_steps.specs.After.{is_put, page_put, put_data}
use Rattle.jfs_data_steps.specs.File.{bytes_held}
use Rattle.jfs_truncate.specs.Tail.{blocks_for, zeroed, IsTail}
use Rattle.jfs_truncate.proofs.Kept.{below, past, one_place}
use Rattle.jfs_truncate.proofs.Zeroed.{before, behind}

-- ---- the block that is put

module _ (page : ℕ → List ℕ) (kept : ℕ) where
  -- it is the tail, whole
  put_is : (ds : List DataPage) (b b0 : ℕ) → IsTail page kept (Some b0) ds → page_put ds b (page b) ≡ (if b0 == b then zeroed (kept % 4096) (page b0) else page b)
  put_is ds b b0 (d, is, block, bytes) = ap (λ (xs : List DataPage). page_put xs b (page b)) is ∙ ap (λ (k : ℕ). if k == b then d.page.0 else page b) block ∙ ap (λ (p : List ℕ). if b0 == b then p else page b) bytes

  pub put_here : (ds : List DataPage) (b : ℕ) → IsTail page kept (Some b) ds → put_data ds page b ≡ zeroed (kept % 4096) (page b)
  put_here ds b t = put_is ds b b t ∙ ap (λ (x : Bool). if x then zeroed (kept % 4096) (page b) else page b) (eq-eqb b b refl)

  put_other : (ds : List DataPage) (b b0 : ℕ) → (b0 ≡ b → ⊥) → IsTail page kept (Some b0) ds → put_data ds page b ≡ page b
  put_other ds b b0 apart t = put_is ds b b0 t ∙ ap (λ (x : Bool). if x then zeroed (kept % 4096) (page b0) else page b) (ne_eqb b0 b apart)

  put_none : (ds : List DataPage) (b : ℕ) → IsTail page kept None ds → put_data ds page b ≡ page b
  put_none ds b t = ap (λ (xs : List DataPage). page_put xs b (page b)) t

  -- what is put is the tail
  pub is_tail : (ds : List DataPage) (t : Option ℕ) (b : ℕ) → IsTail page kept t ds → is_put b ds ≡ true → t ≡ Some b
  is_tail ds None b h e = absurd (cc (sym (ap (is_put b) h) ∙ e))
  is_tail ds (Some b0) b (d, is, block, bytes) e = ap (λ (k : ℕ). Some k) (sym block ∙ by (d.block == b) refl (sym (ap (is_put b) is) ∙ e))
    where
      by : (x : Bool) → (d.block == b) ≡ x → (x || false) ≡ true → d.block ≡ b
      by true h e = eqb-true d.block b h
      by false h e = absurd (cc (e))

module _ (page : ℕ → List ℕ) (es : List Xad) (old size kept : ℕ) (kept_is : kept ≡ min old size) (ds : List DataPage) (t : Option ℕ) (tail : IsTail page kept t ds)
    (t_is : t ≡ (if kept % 4096 == 0 then None else block_of es (kept / 4096))) (once : (b : ℕ) → covers b es ≤ 1) (whole : (b : ℕ) → 0 < covers b es → length (page b) ≡ 4096) where
  abbrev bound : ℕ
  bound = blocks_for kept

  -- how the bound lies
  bound_by : (k : ℕ) → (x : Bool) → (k % 4096 == 0) ≡ x → ((x ≡ true) × (blocks_for k ≡ k / 4096) × (k % 4096 ≡ 0)) ⊎ ((x ≡ false) × (blocks_for k ≡ k / 4096 + 1) × (0 < k % 4096))
  bound_by k true e = inl (refl, ap (λ (x : Bool). if x then k / 4096 else k / 4096 + 1) e, eqb-true (k % 4096) 0 e)
  bound_by k false e = inr (refl, ap (λ (x : Bool). if x then k / 4096 else k / 4096 + 1) e, more (k % 4096) e)
    where
      more : (n : ℕ) → (n == 0) ≡ false → 0 < n
      more n e = grind (arith, nat_tests, e)

  size_of : (b k : ℕ) → block_of es k ≡ Some b → length (page b) ≡ 4096
  size_of b k e = whole b (covered es k b e)

  within : (b k : ℕ) → block_of es k ≡ Some b → kept % 4096 ≤ length (page b)
  within b k e = let s = size_of b k e in omega (arith, s)

  -- ---- bytes that stay

  tail_at : (b : ℕ) → t ≡ Some b → block_of es (kept / 4096) ≡ Some b
  tail_at b e = by (kept % 4096 == 0) (sym t_is ∙ e)
    where
      by : (x : Bool) → (if x then None else block_of es (kept / 4096)) ≡ Some b → block_of es (kept / 4096) ≡ Some b
      by true h = absurd (cc (h))
      by false h = h

  byte_stays : (k j b : ℕ) → block_of es k ≡ Some b → 4096 * k + j < kept → get_or (put_data ds page b) j 0 ≡ get_or (page b) j 0
  byte_stays k j b e l = by t refl tail
    where
      at_tail : (b0 : ℕ) → t ≡ Some b0 → IsTail page kept (Some b0) ds → b0 ≡ b → get_or (put_data ds page b) j 0 ≡ get_or (page b) j 0
      at_tail b0 is h same =
          ap (λ (p : List ℕ). get_or p j 0) (put_here page kept ds b (subst (λ (x : ℕ). IsTail page kept (Some x) ds) same h))
          ∙ before (kept % 4096) (page b) j (let p = one_place es k (kept / 4096) b (once b) e (tail_at b0 is ∙ ap (λ (x : ℕ). Some x) same) in omega (arith, l, p)) (within b k e)

      by : (x : Option ℕ) → t ≡ x → IsTail page kept x ds → get_or (put_data ds page b) j 0 ≡ get_or (page b) j 0
      by None is h = ap (λ (p : List ℕ). get_or p j 0) (put_none page kept ds b h)
      by (Some b0) is h = elim (eq_or_not b0 b) [
        | inl same ↦ at_tail b0 is h same
        | inr apart ↦ ap (λ (p : List ℕ). get_or p j 0) (put_other page kept ds b b0 apart h)
      ]

  stays : (k j : ℕ) (x : Option ℕ) → block_of es k ≡ x → 4096 * k + j < kept → byte_of (bytes_at (put_data ds page) x) j ≡ byte_of (bytes_at page x) j
  stays k j None e l = refl
  stays k j (Some b) e l = byte_stays k j b e l

  -- ---- bytes behind them

  gone : (k j : ℕ) (x : Option ℕ) → block_of es k ≡ x → k < bound → kept ≤ 4096 * k + j → j < 4096 → byte_of (bytes_at (put_data ds page) x) j ≡ 0
  gone k j None e l h m = refl
  gone k j (Some b) e l h m = elim (bound_by kept (kept % 4096 == 0) refl) [
    | inl even ↦ absurd (let b = even.1 in omega (arith, b, l, h, m))
    | inr odd ↦ (let is = odd.1 in let p : k ≡ kept / 4096 = omega (arith, is, l, h, m) in
        ap (λ (q : List ℕ). get_or q j 0) (put_here page kept ds b (subst (λ (x : Option ℕ). IsTail page kept x ds) (t_is ∙ ap (λ (x : Bool). if x then None else block_of es (kept / 4096)) odd.0 ∙ ap (block_of es) (sym p) ∙ e) tail))
        ∙ behind (kept % 4096) (page b) j (omega (arith, p, h)) (within b k e))
  ]

  -- ---- all of them

  low : (k : ℕ) → 4096 * k < kept → k < bound
  low k l = elim (bound_by kept (kept % 4096 == 0) refl) [
    | inl even ↦ (let b = even.1 in let z = even.2 in omega (arith, b, z, l))
    | inr odd ↦ (let b = odd.1 in omega (arith, b, l))
  ]

  abbrev now : ℕ → ℕ
  now i = byte_of (bytes_at (put_data ds page) (block_of (kept_below bound es) (i / 4096))) (i % 4096)

  abbrev was : ℕ → ℕ
  was i = byte_of (bytes_at page (block_of es (i / 4096))) (i % 4096)

  first_part : (i : ℕ) → i < kept → now i ≡ was i
  first_part i l = ap (λ (x : Option ℕ). byte_of (bytes_at (put_data ds page) x) (i % 4096)) (below bound (i / 4096) es (low (i / 4096) (omega (arith, l))))
      ∙ stays (i / 4096) (i % 4096) (block_of es (i / 4096)) refl (omega (arith, l))

  last_part : (i : ℕ) → kept ≤ i → now i ≡ 0
  last_part i l = elim (cases_lt (i / 4096) bound) [
    | inl h ↦ ap (λ (x : Option ℕ). byte_of (bytes_at (put_data ds page) x) (i % 4096)) (below bound (i / 4096) es h) ∙ gone (i / 4096) (i % 4096) (block_of es (i / 4096)) refl h (omega (arith, l)) (omega arith)
    | inr h ↦ ap (λ (x : Option ℕ). byte_of (bytes_at (put_data ds page) x) (i % 4096)) (past bound (i / 4096) es h)
  ]

  pub held_now : (i : ℕ) → bytes_held (put_data ds page) (kept_below bound es) size i ≡ (if nat_lt i size then bytes_held page es old i else 0)
  held_now i = by (nat_lt i size) refl
    where
      less : (a b : ℕ) → nat_lt a b ≡ true → a < b
      less a b h = grind (arith, nat_tests, h)

      by : (x : Bool) → nat_lt i size ≡ x → (if x then now i else 0) ≡ (if x then bytes_held page es old i else 0)
      by false e = refl
      by true e = elim (cases_lt i old) [
        | inl l ↦ first_part i (let s = less i size e in omega (arith, kept_is, l, s)) ∙ sym (ap (λ (x : Bool). if x then was i else 0) (lt-ltb i old l))
        | inr l ↦ last_part i (omega (arith, kept_is, l)) ∙ sym (ap (λ (x : Bool). if x then was i else 0) (le-ltb i old l))
      ]

  -- ---- before the cut

  other_block : (k b : ℕ) → block_of es k ≡ Some b → k ≢ kept / 4096 → put_data ds page b ≡ page b
  other_block k b e apart = by t refl tail
    where
      by : (x : Option ℕ) → t ≡ x → IsTail page kept x ds → put_data ds page b ≡ page b
      by None is h = put_none page kept ds b h
      by (Some b0) is h = elim (eq_or_not b0 b) [
        | inl same ↦ absurd (apart (one_place es k (kept / 4096) b (once b) e (tail_at b0 is ∙ ap (λ (x : ℕ). Some x) same)))
        | inr a ↦ put_other page kept ds b b0 a h
      ]

  elsewhere : (k j : ℕ) (x : Option ℕ) → block_of es k ≡ x → k ≢ kept / 4096 → byte_of (bytes_at (put_data ds page) x) j ≡ byte_of (bytes_at page x) j
  elsewhere k j None e apart = refl
  elsewhere k j (Some b) e apart = ap (λ (p : List ℕ). get_or p j 0) (other_block k b e apart)

  -- the data alone changes bytes of one block, from the new end on
  pub held_early : (i : ℕ) → (i < kept) ⊎ (i / 4096 ≢ kept / 4096) → bytes_held (put_data ds page) es old i ≡ bytes_held page es old i
  held_early i (inl l) = ap (λ (x : ℕ). if nat_lt i old then x else 0) (stays (i / 4096) (i % 4096) (block_of es (i / 4096)) refl (omega (arith, l)))
  held_early i (inr apart) = ap (λ (x : ℕ). if nat_lt i old then x else 0) (elsewhere (i / 4096) (i % 4096) (block_of es (i / 4096)) refl apart)
