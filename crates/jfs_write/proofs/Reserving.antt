-- The blocks that are reserved for a write.
use Rattle.std.proofs.Common.{◌≡◌, ◌≤◌, ◌<◌, refl, sym, ap, ◌∙◌, subst, ℕ, ◌+◌, Bool, true, false, ◌||◌, nat_lt, if◌then◌else◌, List, [], ◌∷◌, ◌++◌, length, append_assoc, arith}
use Rattle.std.proofs.lemmas.Bool.Decides.{nat_tests}
use Rattle.jfs_bits.specs.declared.descriptor.Pxd.{Pxd}
use Rattle.jfs_bmap.specs.Choice.{AreLowestBlocks}
use Rattle.jfs_bmap.specs.States.{Blocks, Reserved, changed, is_used, free_count, put_state, is_in_list, AreApart}
use Rattle.jfs_bmap.proofs.Puts.{in_list-none}
use Rattle.jfs_bmap.proofs.LowestBlocks.{each-total}
use Rattle.jfs_tree.specs.Edit.{count_in}
use Rattle.jfs_tree.specs.Form.{AllBelow}
use Rattle.jfs_tree.specs.Fresh.{blocks_of, run_from}
use Rattle.jfs_file_blocks.specs.room.specs.Laws.{blocks_in}
use Rattle.jfs_file_blocks.specs.runs.specs.Laws.{one_if}
use Rattle.jfs_file_blocks.specs.runs.proofs.Counted.{counted, count_append, apart_once, all_laws}
use Rattle.jfs_file_blocks.specs.claim.specs.Take.{AreFresh, reserving}
use Rattle.jfs_file_blocks.specs.claim.proofs.Looks.{settled_is_enough}
use Rattle.jfs_file_blocks.specs.Reserving.{TakesBlocks, IsPartlyTaken, total}
use Rattle.jfs_file_blocks.specs.declared.reserve.FileWant.{FileWant}
use Rattle.jfs_file_blocks.specs.declared.reserve.FileBlocks.{FileBlocks}
use Rattle.jfs_link.specs.Link.{ReservesFree}
use Rattle.jfs_write.specs.Call.{MayTake, BusyAlone}

-- ---- lists of blocks

blocks_append : (xs ys : List Pxd) → blocks_of (xs ++ ys) ≡ blocks_of xs ++ blocks_of ys
blocks_append [] ys = refl
blocks_append (p ∷ ps) ys = ap (λ (rest : List ℕ). run_from p.addr p.len ++ rest) (blocks_append ps ys) ∙ sym (append_assoc (run_from p.addr p.len) (blocks_of ps) (blocks_of ys))

below_front : (bound : ℕ) (xs ys : List ℕ) → AllBelow bound (xs ++ ys) → AllBelow bound xs
below_front bound [] ys h = tt
below_front bound (x ∷ xs) ys h = (h.0, below_front bound xs ys h.1)

below_back : (bound : ℕ) (xs ys : List ℕ) → AllBelow bound (xs ++ ys) → AllBelow bound ys
below_back bound [] ys h = h
below_back bound (x ∷ xs) ys h = below_back bound xs ys h.1

one_in : (x : Bool) → 0 < one_if x → x ≡ true
one_in true h = refl
one_in false h = absurd (omega (arith, h))

one_most : (x : Bool) → one_if x ≤ 1
one_most true = omega arith
one_most false = omega arith

-- ---- what may be taken

module _ (before now : Blocks) (want : FileWant) (blocks : FileBlocks) (takes : TakesBlocks before now want blocks) (fresh : AreFresh before (want.blocks + want.pages) (blocks_of (blocks.runs ++ blocks.claim.fresh))) where
  pub may_take : MayTake before want blocks.runs blocks.claim.fresh
  may_take = record {
    chosen = takes.chosen;
    lowest = subst (λ (list : List Pxd). AreLowestBlocks (is_used (put_state Reserved blocks.runs before)) list) (sym takes.all_left) takes.pages;
    number = ap length takes.all_left ∙ takes.number;
    fresh = fresh;
  }

  both : AllBelow (length before.states) (blocks_of blocks.runs ++ blocks_of blocks.claim.fresh)
  both = subst (AllBelow (length before.states)) (blocks_append blocks.runs blocks.claim.fresh) fresh.within

  pub runs_below : (bound : ℕ) → blocks_in before ≡ bound → AllBelow bound (blocks_of blocks.runs)
  runs_below bound many = subst (λ (k : ℕ). AllBelow k (blocks_of blocks.runs)) many (below_front (length before.states) (blocks_of blocks.runs) (blocks_of blocks.claim.fresh) both)

  pub pages_below : (bound : ℕ) → blocks_in before ≡ bound → AllBelow bound (blocks_of blocks.claim.fresh)
  pages_below bound many = subst (λ (k : ℕ). AllBelow k (blocks_of blocks.claim.fresh)) many (below_back (length before.states) (blocks_of blocks.runs) (blocks_of blocks.claim.fresh) both)

  pub pages_number : length (blocks_of blocks.claim.fresh) ≡ want.pages
  pages_number = ap (λ (list : List Pxd). length (blocks_of list)) takes.all_left ∙ all_laws.number blocks.claim.blocks ∙ each-total _ blocks.claim.blocks takes.pages ∙ takes.number

  pub runs_number : length (blocks_of blocks.runs) ≡ want.blocks
  runs_number = let p = pages_number in let n = fresh.number in
      let a : length (blocks_of (blocks.runs ++ blocks.claim.fresh)) ≡ length (blocks_of blocks.runs) + length (blocks_of blocks.claim.fresh) = ap length (blocks_append blocks.runs blocks.claim.fresh) ∙ length_both (blocks_of blocks.runs) (blocks_of blocks.claim.fresh) in
      omega (arith, p, n, a)
    where
      length_both : (xs ys : List ℕ) → length (xs ++ ys) ≡ length xs + length ys
      length_both [] ys = omega arith
      length_both (x ∷ xs) ys = let h = length_both xs ys in omega (arith, h)

  -- ---- what was taken

  module _ (left : List Pxd) (taken : List ℕ) (parts : blocks_of blocks.claim.fresh ≡ taken ++ blocks_of left) where
    abbrev with_left : FileBlocks
    with_left = record blocks { claim = record blocks.claim { fresh = left } }

    listed : blocks_of blocks.claim.blocks ≡ taken ++ blocks_of left
    listed = ap blocks_of (sym takes.all_left) ∙ parts

    pub partly : IsPartlyTaken before now with_left taken
    partly = record { reserved = record { none = takes.reserved.none; all = takes.reserved.all }; parts = listed }

    pub all_taken : List ℕ
    all_taken = taken ++ blocks_of blocks.runs

    -- each block is there once
    whole : (b : ℕ) → count_in b (blocks_of blocks.runs) + count_in b (blocks_of blocks.claim.blocks) ≡ one_if (is_in_list (blocks.runs ++ blocks.claim.blocks) b)
    whole b = sym (count_append b (blocks_of blocks.runs) (blocks_of blocks.claim.blocks)) ∙ sym (ap (count_in b) (blocks_append blocks.runs blocks.claim.blocks)) ∙ counted (blocks.runs ++ blocks.claim.blocks) takes.reserved.all.once b

    split : (b : ℕ) → count_in b (blocks_of blocks.claim.blocks) ≡ count_in b taken + count_in b (blocks_of left)
    split b = ap (count_in b) listed ∙ count_append b taken (blocks_of left)

    joined : (b : ℕ) → count_in b (taken ++ blocks_of blocks.runs) ≡ count_in b taken + count_in b (blocks_of blocks.runs)
    joined b = count_append b taken (blocks_of blocks.runs)

    run_apart : AreApart blocks.runs
    run_apart = apart_once blocks.runs (λ b. (let w = whole b in let m = one_most (is_in_list (blocks.runs ++ blocks.claim.blocks) b) in omega (arith, w, m)))

    tested : (b : ℕ) → (is_in_list blocks.runs b || nat_lt 0 (count_in b taken)) ≡ nat_lt 0 (count_in b (taken ++ blocks_of blocks.runs))
    tested b = by (is_in_list blocks.runs b) (count_in b (blocks_of blocks.runs)) (count_in b taken) (count_in b (taken ++ blocks_of blocks.runs)) (counted blocks.runs run_apart b) (joined b)
      where
        some : (k n m : ℕ) → k ≡ 1 → m ≡ n + k → true ≡ nat_lt 0 m
        some k n m e f = grind (arith, nat_tests, e, f)

        same : (k n m : ℕ) → k ≡ 0 → m ≡ n + k → n ≡ m
        same k n m e f = omega (arith, e, f)

        by : (x : Bool) (k n m : ℕ) → k ≡ one_if x → m ≡ n + k → (x || nat_lt 0 n) ≡ nat_lt 0 m
        by true k n m e f = some k n m e f
        by false k n m e f = ap (nat_lt 0) (same k n m e f)

    pub all_reserved : {after : Blocks} → after ≡ reserving blocks.runs taken before → ReservesFree before after (taken ++ blocks_of blocks.runs)
    all_reserved {after} is = record {
      free = λ b l. takes.reserved.all.free b (one_in (is_in_list (blocks.runs ++ blocks.claim.blocks) b) (let w = whole b in let s = split b in let j = joined b in omega (arith, w, s, j, l)));
      once = λ b. (let w = whole b in let s = split b in let j = joined b in let m = one_most (is_in_list (blocks.runs ++ blocks.claim.blocks) b) in omega (arith, w, s, j, m));
      now_is = is ∙ (λ i. changed (λ b s. if same b i then Reserved else s) before);
    }
      where
        same : (b : ℕ) → (is_in_list blocks.runs b || nat_lt 0 (count_in b taken)) ≡ (is_in_list [] b || nat_lt 0 (count_in b (taken ++ blocks_of blocks.runs)))
        same b = tested b ∙ sym (ap (λ (x : Bool). x || nat_lt 0 (count_in b (taken ++ blocks_of blocks.runs))) (in_list-none b))

    pub map_after : {after : Blocks} → (IsPartlyTaken before now with_left taken → after ≡ reserving blocks.runs taken before) → (all : List ℕ) × ReservesFree before after all
    map_after settled = (taken ++ blocks_of blocks.runs, all_reserved (settled partly))

-- ---- a commit

pub busy_alone : (before : Blocks) (want : FileWant) → free_count before < total want → BusyAlone before want
busy_alone before want few = record {
  few = few;
  settled = λ none enough. (let h = settled_is_enough before (record { run = false; blocks = total want }) none (omega (arith, enough)) (λ t. absurd (cc (t))) in let l = h.0 in omega (arith, l));
}
