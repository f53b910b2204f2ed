-- Runs and their blocks, counted.
use Rattle.std.proofs.Common.{◌≡◌, ◌≤◌, ◌<◌, refl, sym, ap, ap₂, ◌∙◌, inl, inr, ℕ, zero, suc, ◌+◌, Bool, true, false, true≢false, ◌&&◌, ◌||◌, ◌==◌, nat_le, nat_lt, if◌then◌else◌, List, [], ◌∷◌, ◌++◌, length, arith, length-append}
use Rattle.std.proofs.lemmas.Bool.{false_from_ne_true}
use Rattle.std.proofs.lemmas.Bool.Decides.{nat_tests}
use Rattle.std.specs.List.{All}
use Rattle.std.proofs.lemmas.List.Elements.{All-head, All-tail}
use Rattle.jfs_bits.specs.Bits.{is_in_run}
use Rattle.jfs_bits.specs.declared.descriptor.Pxd.{Pxd}
use Rattle.jfs_bmap.specs.States.{is_in_list, total_of, AreApart}
use Rattle.jfs_tree.specs.Edit.{count_in}
use Rattle.jfs_tree.specs.Form.{AllBelow}
use Rattle.jfs_tree.specs.Fresh.{blocks_of, run_from}
use Rattle.jfs_runs.specs.Laws.{one_if, RunsAreBlocks}

pub count_append : (b : ℕ) (xs ys : List ℕ) → count_in b (xs ++ ys) ≡ count_in b xs + count_in b ys
count_append b [] ys = omega arith
count_append b (x ∷ xs) ys = omega (arith, count_append b xs ys)

length_run : (a n : ℕ) → length (run_from a n) ≡ n
length_run a zero = refl
length_run a (suc n) = ap suc (length_run (suc a) n)

length_blocks : (runs : List Pxd) → length (blocks_of runs) ≡ total_of runs
unfolding total_of
length_blocks [] = refl
length_blocks (p ∷ ps) = length-append (run_from p.addr p.len) (blocks_of ps) ∙ ap₂ (λ (x y : ℕ). x + y) (length_run p.addr p.len) (length_blocks ps)

-- a block of one run
count_run : (b a n : ℕ) → count_in b (run_from a n) ≡ one_if (is_in_run a n b)
count_run b a zero = by (nat_le a b && nat_lt b (a + 0)) (past b a)
  where
    by : (x : Bool) → x ≡ false → 0 ≡ one_if x
    by true h = absurd (true≢false h)
    by false h = refl

    past : (b a : ℕ) → (nat_le a b && nat_lt b (a + 0)) ≡ false
    past b a = grind (arith, nat_tests)
count_run b a (suc n) = ap (λ (k : ℕ). (if a == b then 1 else 0) + k) (count_run b (suc a) n) ∙ step b a n
  where
    step : (b a n : ℕ) → (if a == b then 1 else 0) + one_if (nat_le (suc a) b && nat_lt b (suc a + n)) ≡ one_if (nat_le a b && nat_lt b (a + suc n))
    step b a n = grind (arith, nat_tests)

-- a block of runs stands there at least as often as it lies in one
pub counted_some : (b : ℕ) (runs : List Pxd) → is_in_list runs b ≡ true → 0 < count_in b (blocks_of runs)
unfolding is_in_list
counted_some b [] h = absurd (true≢false (sym h))
counted_some b (p ∷ ps) h = by (is_in_run p.addr p.len b) (is_in_list ps b) (count_run b p.addr p.len) (λ t. counted_some b ps t) h
  where
    by : (x y : Bool) → count_in b (run_from p.addr p.len) ≡ one_if x → (y ≡ true → 0 < count_in b (blocks_of ps)) → (x || y) ≡ true → 0 < count_in b (run_from p.addr p.len ++ blocks_of ps)
    by true y here there t = omega (arith, count_append b (run_from p.addr p.len) (blocks_of ps), here)
    by false true here there t = omega (arith, count_append b (run_from p.addr p.len) (blocks_of ps), there refl)
    by false false here there t = absurd (true≢false (sym t))

pub counted : (runs : List Pxd) → AreApart runs → (b : ℕ) → count_in b (blocks_of runs) ≡ one_if (is_in_list runs b)
unfolding is_in_list AreApart
counted [] h b = refl
counted (p ∷ ps) h b = count_append b (run_from p.addr p.len) (blocks_of ps) ∙ ap₂ (λ (x y : ℕ). x + y) (count_run b p.addr p.len) (counted ps h.1 b)
    ∙ by (is_in_run p.addr p.len b) (is_in_list ps b) (h.0 b)
  where
    by : (x y : Bool) → (x ≡ true → y ≡ false) → one_if x + one_if y ≡ one_if (x || y)
    by true true f = absurd (true≢false (f refl))
    by true false f = refl
    by false true f = refl
    by false false f = refl

-- where no block is counted twice, no two runs share one
pub apart_once : (runs : List Pxd) → ((b : ℕ) → count_in b (blocks_of runs) ≤ 1) → AreApart runs
unfolding AreApart
apart_once [] once = tt
apart_once (p ∷ ps) once = (
  λ b here. false_from_ne_true (is_in_list ps b) (λ there.
      let whole = count_append b (run_from p.addr p.len) (blocks_of ps) in
      let one : count_in b (run_from p.addr p.len) ≡ 1 = count_run b p.addr p.len ∙ ap one_if here in
      omega (arith, once b, whole, one, counted_some b ps there)),
  apart_once ps (λ b. let whole = count_append b (run_from p.addr p.len) (blocks_of ps) in omega (arith, once b, whole)),
)

below_append : (bound : ℕ) (xs ys : List ℕ) → AllBelow bound xs → AllBelow bound ys → AllBelow bound (xs ++ ys)
below_append bound [] ys h g = g
below_append bound (x ∷ xs) ys h g = (h.0, below_append bound xs ys h.1 g)

below_run : (bound a n : ℕ) → a + n ≤ bound → AllBelow bound (run_from a n)
below_run bound a zero h = tt
below_run bound a (suc n) h = (omega arith, below_run bound (suc a) n (omega arith))

below : (runs : List Pxd) (blocks : ℕ) → All (λ run. run.addr + run.len ≤ blocks) runs → AllBelow blocks (blocks_of runs)
below [] blocks h = tt
below (p ∷ ps) blocks h = below_append blocks (run_from p.addr p.len) (blocks_of ps) (below_run blocks p.addr p.len (All-head (λ (run : Pxd). run.addr + run.len ≤ blocks) p ps h)) (below ps blocks (All-tail (λ (run : Pxd). run.addr + run.len ≤ blocks) p ps h))

pub all_laws : RunsAreBlocks
all_laws = record { number = length_blocks; counts = counted; apart = apart_once; within = below }
