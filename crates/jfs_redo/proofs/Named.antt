-- What names a block: files of the aggregate, and inode extents after the log's edits.
use Rattle.std.proofs.Common.{◌≡◌, ◌≤◌, ◌<◌, ◌+◌, ◌-◌, ◌*◌, ◌&&◌, ◌||◌, ◌==◌, nat_le, nat_lt, if◌then◌else◌, ℕ, zero, suc, Bool, true, false, true≢false, List, [], ◌∷◌, length, set, refl, sym, ap, ◌∙◌, arith}
use Rattle.std.specs.Prelude.{Option, Some, None, is_some, Result, Ok, Err}
use Rattle.std.specs.Int.RustNames.{bit_and}
use Rattle.std.proofs.lemmas.Bool.{and_parts, eqb-true, lt-ltb, false≢true}
use Rattle.std.proofs.lemmas.Bool.Decides.{nat_tests}
use Rattle.jfs_bits.specs.declared.extent.Xad.{Xad}
use Rattle.jfs_bits.specs.declared.rule.Rule.{Rule}
use Rattle.jfs_bits.specs.declared.rule.PageKind.{PageKind}
use Rattle.jfs_bits.specs.declared.rule.PageKind.TheVariants as kinds
use Rattle.jfs_ranges.specs.declared.edit.Edit.{Edit}
use Rattle.jfs_ranges.specs.declared.edit.Edit.TheVariants.{Lines, NoRedo, Alloc, Free}
use Rattle.jfs_ranges.specs.Apply.{place_of_line, touches_edit, touches_tx}
use Rattle.jfs_redo_steps.specs.objects.specs.Contents.{block_in, block_of}
use Rattle.jfs_redo_steps.specs.objects.specs.Owners.{unless_broken, entries, run_has, covers, extent_has, extents_have}
use Rattle.jfs_redo_steps.specs.objects.proofs.Blocks.{covered}
use Rattle.jfs_redo_steps.specs.steps.specs.After.{is_extent, place_in, extents_after}

-- ---- blocks of a file

some_same : (a b : ℕ) → Some a ≡ Some b → a ≡ b
some_same a b h = cc

-- two places in one extent
in_one : (e : Xad) (n m b : ℕ) → (nat_le e.offset n && nat_lt n (e.offset + e.at.len)) ≡ true → (nat_le e.offset m && nat_lt m (e.offset + e.at.len)) ≡ true → block_in e n ≡ Some b → block_in e m ≡ Some b → n ≡ m
in_one e n m b s t h k = by (bit_and e.flag 0x08 == 0x08) h k
  where
    from : (o l j : ℕ) → (nat_le o j && nat_lt j (o + l)) ≡ true → o ≤ j
    from o l j h = grind (arith, nat_tests)

    by : (x : Bool) → (if x then None else Some (e.at.addr + (n - e.offset))) ≡ Some b → (if x then None else Some (e.at.addr + (m - e.offset))) ≡ Some b → n ≡ m
    by true h k = absurd (cc (h))
    by false h k =
        let a = some_same (e.at.addr + (n - e.offset)) b h in
        let c = some_same (e.at.addr + (m - e.offset)) b k in
        let f = from e.offset e.at.len n s in
        let g = from e.offset e.at.len m t in
        omega (arith, a, c, f, g)

-- an extent has the block of each of its places
one_more : (e : Xad) (k b : ℕ) → (nat_le e.offset k && nat_lt k (e.offset + e.at.len)) ≡ true → block_in e k ≡ Some b → 0 < run_has e.at b
one_more e k b t h =
    let here : block_of (e ∷ []) k ≡ Some b = ap (λ (x : Bool). if x then block_in e k else None) t ∙ h in
    let c = covered (e ∷ []) k b here in
    omega (arith, c)

-- where extents have a block once, one place of the file stands on it
pub one_place : (es : List Xad) (n m b : ℕ) → covers b es ≤ 1 → block_of es n ≡ Some b → block_of es m ≡ Some b → n ≡ m
one_place [] n m b few h k = absurd (cc (h))
one_place (e ∷ es) n m b few h k = by (nat_le e.offset n && nat_lt n (e.offset + e.at.len)) refl (nat_le e.offset m && nat_lt m (e.offset + e.at.len)) refl h k (one_place es n m b)
  where
    by : (x : Bool) → (nat_le e.offset n && nat_lt n (e.offset + e.at.len)) ≡ x → (y : Bool) → (nat_le e.offset m && nat_lt m (e.offset + e.at.len)) ≡ y
        → (if x then block_in e n else block_of es n) ≡ Some b → (if y then block_in e m else block_of es m) ≡ Some b → (covers b es ≤ 1 → block_of es n ≡ Some b → block_of es m ≡ Some b → n ≡ m) → n ≡ m
    by true s true t h k rest = in_one e n m b s t h k
    by true s false t h k rest = let one = one_more e n b s h in let more = covered es m b k in absurd (omega (arith, few, one, more))
    by false s true t h k rest = let one = one_more e m b t k in let more = covered es n b h in absurd (omega (arith, few, one, more))
    by false s false t h k rest = rest (omega (arith, few)) h k

-- a file that has a page is spelled by a tree that breaks no rule
pub not_broken : (l : Result (List Xad) (ℕ × Rule)) (k n : ℕ) → is_some (block_of (entries l) k) ≡ true → unless_broken l n ≡ n
not_broken (Ok es) k n h = refl
not_broken (Err fault) k n h = absurd (false≢true h)

-- the first 16 blocks are a fixed area
pub first_area : (b : ℕ) → b < 16 → 1 ≤ run_has (record { len = 16; addr = 0 }) b
first_area b h = within (nat_le 0 b && nat_lt b (0 + 16)) (grind (arith, nat_tests))
  where
    within : (x : Bool) → x ≡ true → 1 ≤ (if x then 1 else 0)
    within true h = omega arith
    within false h = absurd (cc (h))

-- ---- inode extents

abbrev one_if : Bool → ℕ
one_if x = if x then 1 else 0

-- lines that are a new inode extent are lines of each of its blocks
not_in_extent : (page first : ℕ) (kind : PageKind) (bytes : List ℕ) (b : ℕ) → is_extent kind first bytes ≡ true → touches_edit b (Lines page kind first bytes) ≡ false → extent_has (Some page) b ≡ 0
unfolding place_of_line
not_in_extent page first kinds.Inode bytes b is clear = by (nat_le page b && nat_lt b (page + 4)) refl
  where
    starts : first ≡ 0
    starts = eqb-true first 0 (and_parts (first == 0) (length bytes == 16384) is).0

    long : length bytes ≡ 16384
    long = eqb-true (length bytes) 16384 (and_parts (first == 0) (length bytes == 16384) is).1

    from : (page b : ℕ) → (nat_le page b && nat_lt b (page + 4)) ≡ true → (page ≤ b) × (b < page + 4)
    from page b h = (grind (arith, nat_tests), grind (arith, nat_tests))

    by : (x : Bool) → (nat_le page b && nat_lt b (page + 4)) ≡ x → one_if x ≡ 0
    by false e = refl
    by true e =
        let lies = from page b e in
        let begins = lt-ltb (4096 * page + 128 * first) (4096 * b + 4096) (omega (arith, lies.0, starts)) in
        let ends = lt-ltb (4096 * b - (4096 * page + 128 * first)) (length bytes) (omega (arith, lies.0, lies.1, starts, long)) in
        absurd (true≢false (sym (rw (begins, ends) refl) ∙ clear))
not_in_extent page first kinds.Xtree bytes b is clear = absurd (false≢true is)
not_in_extent page first kinds.Dtree bytes b is clear = absurd (false≢true is)
not_in_extent page first kinds.Index bytes b is clear = absurd (false≢true is)

set_clear : (xs : List (Option ℕ)) (i : ℕ) (x : Option ℕ) (b : ℕ) → extents_have xs b ≡ 0 → extent_has x b ≡ 0 → extents_have (set xs i x) b ≡ 0
set_clear [] i x b none here = refl
set_clear (y ∷ ys) zero x b none here = omega (arith, none, here)
set_clear (y ∷ ys) (suc i) x b none here = let rest = set_clear ys i x b (omega (arith, none)) here in omega (arith, none, rest)

-- a block that no inode extent has, and no line of the log is one of, is in no extent after it
pub extents_clear : (es : List Edit) (xs : List (Option ℕ)) (b : ℕ) → touches_tx b es ≡ false → extents_have xs b ≡ 0 → extents_have (extents_after es xs) b ≡ 0
extents_clear [] xs b clear none = none
extents_clear (Lines page kind first bytes ∷ es) xs b clear none = at (touches_edit b (Lines page kind first bytes)) refl clear (λ ys. extents_clear es ys b)
  where
    step : touches_edit b (Lines page kind first bytes) ≡ false → (t : Bool) → is_extent kind first bytes ≡ t → extents_have (if t then set xs (place_in bytes) (Some page) else xs) b ≡ 0
    step off true is = set_clear xs (place_in bytes) (Some page) b none (not_in_extent page first kind bytes b is off)
    step off false is = none

    at : (t : Bool) → touches_edit b (Lines page kind first bytes) ≡ t → (t || touches_tx b es) ≡ false
        → ((ys : List (Option ℕ)) → touches_tx b es ≡ false → extents_have ys b ≡ 0 → extents_have (extents_after es ys) b ≡ 0)
        → extents_have (extents_after es (if is_extent kind first bytes then set xs (place_in bytes) (Some page) else xs)) b ≡ 0
    at true touched off rest = absurd (true≢false off)
    at false touched off rest = rest (if is_extent kind first bytes then set xs (place_in bytes) (Some page) else xs) off (step touched (is_extent kind first bytes) refl)
extents_clear (NoRedo page ∷ es) xs b clear none = extents_clear es xs b clear none
extents_clear (Alloc run ∷ es) xs b clear none = extents_clear es xs b clear none
extents_clear (Free run ∷ es) xs b clear none = extents_clear es xs b clear none
