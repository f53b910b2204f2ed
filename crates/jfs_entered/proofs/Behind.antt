-- What a transaction frees behind all that takes it is free after it.
use Rattle.std.proofs.Common.{◌≡◌, ◌<◌, ◌≤◌, ◌⊎◌, inl, inr, refl, sym, ap, ◌∙◌, ℕ, ◌+◌, ◌-◌, Bool, true, false, true≢false, not, ◌&&◌, ◌||◌, nat_le, nat_lt, if◌then◌else◌, List, [], ◌∷◌, arith}
use Rattle.std.proofs.lemmas.Bool.{cases_lt, and_parts, lt-ltb, ltb-true, leb-true, le-leb}
use Rattle.jfs_bits.specs.Bits.{is_in_run}
use Rattle.jfs_bits.specs.declared.descriptor.Pxd.{Pxd}
use Rattle.jfs_ranges.specs.declared.edit.Edit.{Edit}
use Rattle.jfs_ranges.specs.declared.edit.Edit.TheVariants.{Lines, NoRedo, Alloc, Free}
use Rattle.jfs_marks.specs.objects.specs.Owners.{run_has}
use Rattle.jfs_marks.specs.steps.specs.After.{is_extent, four_from, with_run, without_run, takes, frees, used_after}
use Rattle.jfs_marks.specs.Behind.{overlap, is_taken_in, frees_behind}
use Rattle.jfs_entered.specs.Laws.{BehindLaw}
use Rattle.jfs_entered.proofs.Used.{goes}

record Within (run : Pxd) (b : ℕ) : Type 0 where
  low : run.addr ≤ b
  high : b < run.addr + run.len

within : (run : Pxd) (b : ℕ) → is_in_run run.addr run.len b ≡ true → Within run b
within run b h = let p = and_parts (nat_le run.addr b) (nat_lt b (run.addr + run.len)) h in record { low = leb-true run.addr b p.0; high = ltb-true b (run.addr + run.len) p.1 }

-- runs that have a block in common overlap
overlaps : (x y : Pxd) (b : ℕ) → Within x b → Within y b → overlap x y ≡ true
overlaps x y b p q = by (nat_le x.addr y.addr) (λ e. leb-true x.addr y.addr e) (lower (cases_lt y.addr x.addr))
  where
    lower : (y.addr < x.addr) ⊎ (x.addr ≤ y.addr) → nat_le x.addr y.addr ≡ false → y.addr < x.addr
    lower (inl l) e = l
    lower (inr l) e = absurd (true≢false (sym (le-leb x.addr y.addr l) ∙ e))

    by : (t : Bool) → (t ≡ true → x.addr ≤ y.addr) → (t ≡ false → y.addr < x.addr) → (if t then nat_lt (y.addr - x.addr) x.len else nat_lt (x.addr - y.addr) y.len) ≡ true
    by true l g = let a = l refl in let c = p.high in let d = q.low in lt-ltb (y.addr - x.addr) x.len (omega (arith, a, c, d))
    by false l g = let a = g refl in let c = q.high in let d = p.low in lt-ltb (x.addr - y.addr) y.len (omega (arith, a, c, d))

both_false : (a b : Bool) → (a || b) ≡ false → (a ≡ false) × (b ≡ false)
both_false true b h = absurd (true≢false h)
both_false false b h = (refl, h)

zero_run : (taken run : Pxd) (b : ℕ) → Within run b → overlap taken run ≡ false → run_has taken b ≡ 0
zero_run taken run b q none = by (is_in_run taken.addr taken.len b) (λ e. within taken b e)
  where
    by : (x : Bool) → (x ≡ true → Within taken b) → ◌≡◌ {A = ℕ} (if x then 1 else 0) 0
    by false h = refl
    by true h = absurd (true≢false (sym (overlaps taken run b (h refl) q) ∙ none))

none_taken : (es : List Edit) (run : Pxd) (b : ℕ) → Within run b → is_taken_in es run ≡ false → takes es b ≡ 0
none_taken [] run b q none = refl
none_taken (Lines page kind first bytes ∷ es) run b q none =
    let parts = both_false (is_extent kind first bytes && overlap (four_from page) run) (is_taken_in es run) none in
    by (is_extent kind first bytes) parts.0 (none_taken es run b q parts.1)
  where
    by : (x : Bool) → (x && overlap (four_from page) run) ≡ false → takes es b ≡ 0 → (if x then run_has (four_from page) b else 0) + takes es b ≡ 0
    by false e rest = omega (arith, rest)
    by true e rest = let z = zero_run (four_from page) run b q e in omega (arith, rest, z)
none_taken (NoRedo page ∷ es) run b q none = none_taken es run b q none
none_taken (Alloc taken ∷ es) run b q none = let parts = both_false (overlap taken run) (is_taken_in es run) none in
    let z = zero_run taken run b q parts.0 in let rest = none_taken es run b q parts.1 in omega (arith, rest, z)
none_taken (Free freed ∷ es) run b q none = none_taken es run b q none

not_true : (x : Bool) → not x ≡ true → x ≡ false
not_true true h = absurd (true≢false (sym h))
not_true false h = refl

freed_last : (tx : List Edit) (used : ℕ → Bool) (b : ℕ) → frees_behind tx ≡ true → 0 < frees tx b → used_after tx used b ≡ false
freed_last [] used b h f = absurd (omega (arith, f))
freed_last (Lines page kind first bytes ∷ tx) used b h f = freed_last tx (if is_extent kind first bytes then with_run (four_from page) used else used) b h f
freed_last (NoRedo page ∷ tx) used b h f = freed_last tx used b h f
freed_last (Alloc run ∷ tx) used b h f = freed_last tx (with_run run used) b h f
freed_last (Free run ∷ tx) used b h f =
    let parts = and_parts (not (is_taken_in tx run)) (frees_behind tx) h in
    by (is_in_run run.addr run.len b) refl f (not_true (is_taken_in tx run) parts.0) (λ g. freed_last tx (without_run run used) b parts.1 g)
  where
    by : (x : Bool) → is_in_run run.addr run.len b ≡ x → 0 < (if x then 1 else 0) + frees tx b → is_taken_in tx run ≡ false → (0 < frees tx b → used_after tx (without_run run used) b ≡ false) → used_after tx (without_run run used) b ≡ false
    by true e f none rest = goes tx (without_run run used) b (none_taken tx run b (within run b e) none) (inl (ap (λ (x : Bool). not x && used b) e))
    by false e f none rest = rest (omega (arith, f))

pub behind_law : BehindLaw
behind_law tx h b taken freed used = freed_last tx used b h freed
