-- What edits free, counted; and the pages after them.
use Rattle.std.proofs.Common.{◌≡◌, refl, sym, ap, ◌∙◌, subst, ℕ, zero, suc, ◌+◌, ◌&&◌, Bool, true, false, ◌==◌, nat_le, nat_lt, if◌then◌else◌, List, [], ◌∷◌, ◌++◌, arith}
use Rattle.std.proofs.lemmas.Bool.Decides.{nat_tests}
use Rattle.jfs_bits.specs.declared.descriptor.Pxd.{Pxd}
use Rattle.jfs_ranges.specs.declared.edit.Edit.{Edit}
use Rattle.jfs_ranges.specs.declared.edit.Edit.TheVariants.{Lines, NoRedo, Alloc, Free}
use Rattle.jfs_ranges.specs.Apply.{apply_tx, apply_edit}
use Rattle.jfs_lead_steps.specs.page_tree.specs.Edit.{count_in}
use Rattle.jfs_lead_steps.specs.page_tree.specs.Fresh.{run_from, blocks_of}
use Rattle.jfs_bits.specs.declared.rule.PageKind.{PageKind}
use Rattle.jfs_lead_steps.specs.page_tree.specs.Changes.{PagesEdits, TellsChanges}
use Rattle.jfs_lead_steps.specs.page_tree.specs.Tell.{AllLines, TellsThen, PageEdits, is_in}
use Rattle.jfs_lead_steps.specs.xtree.specs.Cutting.{run_frees}
use Rattle.jfs_lead_steps.specs.objects.specs.Owners.{run_has}
use Rattle.jfs_steps.specs.After.{frees}
use Rattle.jfs_steps.specs.Laws.{TakesAndFrees, LeavesSets}
use Rattle.jfs_steps.proofs.After.{leaves_onto, runs_leave}
use Rattle.jfs_steps.proofs.Sets.{IsTree, frees_onto, moves_onto, lines_move}

pub count_append : (b : ℕ) (xs ys : List ℕ) → count_in b (xs ++ ys) ≡ count_in b xs + count_in b ys
count_append b [] ys = omega arith
count_append b (x ∷ xs) ys = omega (arith, count_append b xs ys)

-- a block of one run
pub count_run : (b a n : ℕ) → count_in b (run_from a n) ≡ run_has (record { len = n; addr = a }) b
count_run b a zero = sym (past b a)
  where
    past : (b a : ℕ) → run_has (record { len = 0; addr = a }) b ≡ 0
    past b a = grind (arith, nat_tests)
count_run b a (suc n) = ap (λ (k : ℕ). (if a == b then 1 else 0) + k) (count_run b (suc a) n) ∙ step b a n
  where
    step : (b a n : ℕ) → (if a == b then 1 else 0) + (if nat_le (suc a) b && nat_lt b (suc a + n) then 1 else 0) ≡ (if nat_le a b && nat_lt b (a + suc n) then 1 else 0)
    step b a n = grind (arith, nat_tests)

-- ---- what edits free

-- lines free nothing
pub lines_free : (b : ℕ) (lines : List Edit) → AllLines lines → frees lines b ≡ 0
lines_free b [] h = refl
lines_free b (Lines page kind first bytes ∷ lines) h = lines_free b lines h
lines_free b (NoRedo page ∷ lines) h = absurd h
lines_free b (Alloc run ∷ lines) h = absurd h
lines_free b (Free run ∷ lines) h = absurd h

pub runs_move : (runs : List Pxd) → TakesAndFrees (run_frees runs) [] (blocks_of runs)
runs_move [] = record { taken_are = λ b. refl; freed_are = λ b. refl; extents_stay = λ extents. refl }
runs_move (p ∷ ps) = let rest = runs_move ps in record {
  taken_are = rest.taken_are;
  freed_are = λ b. (let r = rest.freed_are b in let a = count_append b (run_from p.addr p.len) (blocks_of ps) in let c = count_run b p.addr p.len in omega (arith, r, a, c));
  extents_stay = rest.extents_stay;
}

-- lines, and then what frees
pub frees_then : (b : ℕ) (tx later last : List Edit) → TellsThen last tx later → frees later b ≡ frees tx b + frees last b
frees_then b tx later last (lines, all, is) =
    let i = ap (λ (edits : List Edit). frees edits b) is in let f = frees_onto tx (lines ++ last) b in let g = frees_onto lines last b in let z = lines_free b lines all in omega (arith, i, f, g, z)

-- ---- a tree's call, on top of other edits

page_leaves : (x : Bool) (n : ℕ) (kind : PageKind) (old new : List ℕ) (edits : List Edit) → IsTree kind → PageEdits x n kind old new edits → LeavesSets edits
page_leaves true n kind old new edits never h = subst LeavesSets (sym h) (never 0 new, tt)
page_leaves false n kind old new edits never h = runs_leave n kind old new 0 edits h

pages_leave : (kind : PageKind) (taken : List ℕ) (old new : ℕ → List ℕ) (ns : List ℕ) (edits : List Edit) → IsTree kind → PagesEdits kind taken old new ns edits → LeavesSets edits
pages_leave kind taken old new [] edits never h = subst LeavesSets (sym h) tt
pages_leave kind taken old new (n ∷ ns) edits never h = subst LeavesSets (sym h.2)
    (leaves_onto h.0 h.1 (page_leaves (is_in n taken) n kind (old n) (new n) h.0 never h.3) (pages_leave kind taken old new ns h.1 never h.4))

pub changes_move : (blocks : ℕ) (kind : PageKind) (pages : ℕ → List ℕ) (last tx later : List Edit) (before freed : List ℕ) → IsTree kind → TakesAndFrees tx [] before → TakesAndFrees last [] freed
    → TellsChanges blocks kind [] pages last tx later → TakesAndFrees later [] (before ++ freed)
changes_move blocks kind pages last tx later before freed never was frees_last tells = subst (λ (edits : List Edit). TakesAndFrees edits [] (before ++ freed)) (sym tells.told)
    (moves_onto tx (tells.lines ++ last) [] before [] freed was
    (moves_onto tells.lines last [] [] [] freed (lines_move tells.lines (pages_leave kind [] pages tells.after tells.changed tells.lines never tells.edits)) frees_last))

-- what is freed, counted otherwise
pub same_moves : (tx : List Edit) (freed other : List ℕ) → TakesAndFrees tx [] freed → ((b : ℕ) → frees tx b ≡ count_in b other) → TakesAndFrees tx [] other
same_moves tx freed other h is = record { taken_are = h.taken_are; freed_are = is; extents_stay = h.extents_stay }

-- ---- pages after edits

pub applied_append : (n : ℕ) (x y : List Edit) (page : List ℕ) → apply_tx n (x ++ y) page ≡ apply_tx n y (apply_tx n x page)
applied_append n [] y page = refl
applied_append n (e ∷ x) y page = applied_append n x y (apply_edit n e page)

pub applied_runs : (n : ℕ) (runs : List Pxd) (page : List ℕ) → apply_tx n (run_frees runs) page ≡ page
applied_runs n [] page = refl
applied_runs n (p ∷ ps) page = applied_runs n ps page
