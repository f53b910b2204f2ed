-- Blocks that are reserved one by one.
use Rattle.std.proofs.Common.{◌≡◌, ◌<◌, ◌≤◌, ◌+◌, ◌-◌, ◌*◌, ◌^◌, ℕ, Bool, true, inl, inr, List, [], ◌∷◌, ◌++◌, length, refl, sym, subst, append_assoc, arith}
use Rattle.std.specs.Prelude.{Some}
use Rattle.std.specs.List.{All}
use Rattle.std.proofs.lemmas.Bool.{cases_lt, or_right}
use Rattle.std.proofs.lemmas.List.{append-nil}
use Rattle.std.proofs.lemmas.List.Elements.{All-nil, All-cons}
use Rattle.std.proofs.Math.Pow.{pow_mono}
use Rattle.jfs_bits.specs.Bits.{is_in_run}
use Rattle.jfs_bits.specs.declared.descriptor.Pxd.{Pxd}
use Rattle.jfs_bmap.specs.Set.{IsLowest}
use Rattle.jfs_bmap.specs.States.{Reserved, Blocks, is_used, free_count, total_of, put_state}
use Rattle.jfs_bmap.specs.Choice.{IsNextRun, with_run, AreLowestBlocks}
use Rattle.jfs_bmap.proofs.Reservations.{Holding, next-free, lowest-free, used-put, holding-none, holding-next, free-within}
use Rattle.jfs_bmap.proofs.Within.{EndsWithin, free-in_less}

-- where one block is left, the next run is the lowest free block
single-size : (k : ℕ) → 2 ^ k < 2 * 1 → k ≡ 0
single-size k small = elim (cases_lt 0 k) [ inl b ↦ absurd (omega (arith, pow_mono {i = 1} {j = k} b)) | inr b ↦ omega arith ]

pub single-lowest : (taken : ℕ → Bool) (run : Pxd) → IsNextRun taken 1 run → IsLowest taken 0 (Some run.addr)
single-lowest taken run next = subst (λ (k : ℕ). IsLowest taken k (Some run.addr)) (single-size next.l2 next.size) next.lowest

pub single-len : (taken : ℕ → Bool) (run : Pxd) → IsNextRun taken 1 run → run.len ≡ 1
single-len taken run next = let zero : next.l2 ≡ 0 = single-size next.l2 next.size in omega (arith, next.len, subst (λ (k : ℕ). 2 ^ k ≡ 1) (sym zero) refl)

-- what is reserved so far, where so many blocks are left: these blocks and any that come next are the lowest ones
pub record ReservingEach (initial now : Blocks) (n left : ℕ) (list : List Pxd) : Type 0 where
  pub chosen : (rest : List Pxd) → AreLowestBlocks (is_used now) rest → AreLowestBlocks (is_used initial) (list ++ rest)
  pub number : length list + left ≡ n
  pub holds : Holding initial now left list

pub each-none : (initial : Blocks) (n : ℕ) → n ≤ free_count initial → ReservingEach initial initial n n []
each-none initial n enough = record { chosen = λ rest h. h; number = omega arith; holds = holding-none initial n enough }

pub each-next : (initial now : Blocks) (n left : ℕ) (list : List Pxd) (run : Pxd) → 0 < left → ReservingEach initial now n left list → IsNextRun (is_used now) 1 run
    → ReservingEach initial (put_state Reserved (run ∷ []) now) n (left - 1) (list ++ run ∷ [])
unfolding AreLowestBlocks
each-next initial now n left list run some h next =
    let one = single-len (is_used now) run next in
    record {
      chosen = λ rest more. subst (λ (runs : List Pxd). AreLowestBlocks (is_used initial) runs) (sym (append_assoc list (run ∷ []) rest))
          (h.chosen (run ∷ rest) (one, single-lowest (is_used now) run next, subst (λ (taken : ℕ → Bool). AreLowestBlocks taken rest) (used-put run now) more));
      number = omega (arith, h.number, length-more list run);
      holds = subst (λ (k : ℕ). Holding initial (put_state Reserved (run ∷ []) now) (left - k) (list ++ run ∷ [])) one
          (holding-next initial now left list run (omega (arith, one)) (omega (arith, one)) (next-free (is_used now) 1 run next) h.holds);
    }
  where
    length-more : (xs : List Pxd) (x : Pxd) → length (xs ++ x ∷ []) ≡ length xs + 1
    length-more [] x = refl
    length-more (y ∷ ys) x = omega (arith, length-more ys x)

pub each-all : (initial now : Blocks) (n left : ℕ) (list : List Pxd) → ReservingEach initial now n left list → AreLowestBlocks (is_used initial) list
unfolding AreLowestBlocks
each-all initial now n left list h = rw append-nil at (h.chosen [] tt)

-- so many runs of one block are so many blocks
pub each-total : (taken : ℕ → Bool) (list : List Pxd) → AreLowestBlocks taken list → total_of list ≡ length list
unfolding AreLowestBlocks total_of
each-total taken [] h = refl
each-total taken (run ∷ runs) h = omega (arith, h.0, each-total (with_run taken run) runs h.2)

blocks-within : (m : Blocks) (taken : ℕ → Bool) (list : List Pxd) → ((b : ℕ) → is_used m b ≡ true → taken b ≡ true) → AreLowestBlocks taken list → All (EndsWithin m) list
unfolding AreLowestBlocks
blocks-within m taken [] more h = All-nil (EndsWithin m)
blocks-within m taken (run ∷ runs) more h =
    All-cons (EndsWithin m) run runs
    (free-within m run.addr run.len (free-in_less m taken run.addr run.len more (lowest-free taken 0 run.addr run.len (omega (arith, h.0)) h.1)) (omega (arith, h.0)))
    (blocks-within m (with_run taken run) runs (λ b used. or_right (is_in_run run.addr run.len b) (taken b) (more b used)) h.2)

pub each-within : (m : Blocks) (list : List Pxd) → AreLowestBlocks (is_used m) list → All (EndsWithin m) list
each-within m list h = blocks-within m (is_used m) list (λ b used. used) h
