-- What edits take and free.
use Rattle.std.proofs.Common.{◌≡◌, refl, sym, ap, ◌∙◌, subst, ℕ, suc, length, ◌+◌, Bool, true, false, ◌&&◌, ◌==◌, nat_le, nat_lt, true≢false, if◌then◌else◌, List, [], ◌∷◌, ◌++◌, arith}
use Rattle.std.proofs.lemmas.Bool.Decides.{nat_tests}
use Rattle.jfs_bits.specs.declared.rule.PageKind.{PageKind}
use Rattle.jfs_bits.specs.declared.rule.PageKind.TheVariants as kinds
use Rattle.jfs_ranges.specs.Laid.{put_tx}
use Rattle.jfs_ranges.specs.declared.edit.Edit.{Edit}
use Rattle.jfs_ranges.specs.declared.edit.Edit.TheVariants.{Lines, NoRedo, Alloc, Free}
use Rattle.jfs_way.specs.page_tree.specs.Changes.{PagesEdits, TellsChanges, TellsTaken, TellsGone}
use Rattle.jfs_way.specs.page_tree.specs.Edit.{count_in}
use Rattle.jfs_way.specs.page_tree.specs.Fresh.{allocs_of}
use Rattle.jfs_way.specs.page_tree.specs.Removes.{page_no_redos, page_marks, page_frees}
use Rattle.jfs_way.specs.page_tree.specs.Tell.{PageEdits, is_in}
use Rattle.jfs_way.specs.objects.specs.Owners.{bit, run_has}
use Rattle.jfs_steps.specs.After.{is_extent, extents_after, takes, frees, allocs_in}
use Rattle.jfs_steps.specs.Put.{TellsLines}
use Rattle.jfs_steps.specs.Laws.{TakesAndFrees, StepLaw, LeavesSets, ChangesPagesAlone}
use Rattle.jfs_steps.proofs.After.{counts, extents_onto, lines_alone, leaves_onto, runs_leave}

-- ---- one after another

count_append : (b : ℕ) (xs ys : List ℕ) → count_in b (xs ++ ys) ≡ count_in b xs + count_in b ys
count_append b [] ys = omega arith
count_append b (x ∷ xs) ys = omega (arith, count_append b xs ys)

pub takes_onto : (tx more : List Edit) (b : ℕ) → takes (tx ++ more) b ≡ takes tx b + takes more b
takes_onto [] more b = omega arith
takes_onto (Lines page kind first bytes ∷ tx) more b = let h = takes_onto tx more b in omega (arith, h)
takes_onto (NoRedo page ∷ tx) more b = takes_onto tx more b
takes_onto (Alloc run ∷ tx) more b = let h = takes_onto tx more b in omega (arith, h)
takes_onto (Free run ∷ tx) more b = takes_onto tx more b

pub frees_onto : (tx more : List Edit) (b : ℕ) → frees (tx ++ more) b ≡ frees tx b + frees more b
frees_onto [] more b = omega arith
frees_onto (Lines page kind first bytes ∷ tx) more b = frees_onto tx more b
frees_onto (NoRedo page ∷ tx) more b = frees_onto tx more b
frees_onto (Alloc run ∷ tx) more b = frees_onto tx more b
frees_onto (Free run ∷ tx) more b = let h = frees_onto tx more b in omega (arith, h)

pub moves_onto : (tx more : List Edit) (taken freed taken_then freed_then : List ℕ) → TakesAndFrees tx taken freed → TakesAndFrees more taken_then freed_then → TakesAndFrees (tx ++ more) (taken ++ taken_then) (freed ++ freed_then)
moves_onto tx more taken freed taken_then freed_then one two = record {
  taken_are = λ b. (let s = takes_onto tx more b in let c = count_append b taken taken_then in let x = one.taken_are b in let y = two.taken_are b in omega (arith, s, c, x, y));
  freed_are = λ b. (let s = frees_onto tx more b in let c = count_append b freed freed_then in let x = one.freed_are b in let y = two.freed_are b in omega (arith, s, c, x, y));
  extents_stay = λ extents. extents_onto tx more extents ∙ ap (extents_after more) (one.extents_stay extents) ∙ two.extents_stay extents;
}

-- lines of an inode's page on top
pub lines_on_top : (blocks : ℕ) (pages : ℕ → List ℕ) (page : ℕ) (tx later : List Edit) (taken freed : List ℕ) → TakesAndFrees tx taken freed → TellsLines blocks pages page tx later → TakesAndFrees later taken freed
lines_on_top blocks pages page tx later taken freed moves tells = subst (λ (all : List Edit). TakesAndFrees all taken freed) (sym tells.1) (record {
  taken_are = λ b. (let s = takes_onto tx tells.0 b in let z = alone.takes_none b in let x = moves.taken_are b in omega (arith, s, z, x));
  freed_are = λ b. (let s = frees_onto tx tells.0 b in let z = alone.frees_none b in let x = moves.freed_are b in omega (arith, s, z, x));
  extents_stay = λ extents. extents_onto tx tells.0 extents ∙ alone.extents (extents_after tx extents) ∙ moves.extents_stay extents;
})
  where
    alone : ChangesPagesAlone tells.0
    alone = lines_alone tells.0 (runs_leave page kinds.Inode (put_tx blocks tx pages page) (put_tx blocks later pages page) 0 tells.0 tells.2)

-- ---- what edits are

pub lines_move : (tx : List Edit) → LeavesSets tx → TakesAndFrees tx [] []
lines_move tx h = let alone = lines_alone tx h in record { taken_are = alone.takes_none; freed_are = alone.frees_none; extents_stay = alone.extents }

abbrev one_if : Bool → ℕ
one_if x = if x then 1 else 0

one_block : (n b : ℕ) → run_has (record { len = 1; addr = n }) b ≡ count_in b (n ∷ [])
one_block n b = by (nat_le n b && nat_lt b (n + 1)) (n == b) (same n b)
  where
    same : (n b : ℕ) → (nat_le n b && nat_lt b (n + 1)) ≡ (n == b)
    same n b = grind (arith, nat_tests)

    by : (x y : Bool) → x ≡ y → one_if x ≡ one_if y + 0
    by true true h = refl
    by false false h = refl
    by true false h = absurd (true≢false h)
    by false true h = absurd (true≢false (sym h))

pub allocs_move : (taken : List ℕ) → TakesAndFrees (allocs_of taken) taken []
allocs_move [] = record { taken_are = λ b. refl; freed_are = λ b. refl; extents_stay = λ extents. refl }
allocs_move (n ∷ ns) = let rest = allocs_move ns in record {
  taken_are = λ b. (let h = one_block n b in let r = rest.taken_are b in omega (arith, h, r));
  freed_are = rest.freed_are;
  extents_stay = rest.extents_stay;
}

no_redos_move : (freed : List ℕ) → TakesAndFrees (page_no_redos freed) [] []
no_redos_move [] = record { taken_are = λ b. refl; freed_are = λ b. refl; extents_stay = λ extents. refl }
no_redos_move (n ∷ ns) = let rest = no_redos_move ns in record { taken_are = rest.taken_are; freed_are = rest.freed_are; extents_stay = rest.extents_stay }

marks_move : (freed : List ℕ) → TakesAndFrees (page_marks freed) [] freed
marks_move [] = record { taken_are = λ b. refl; freed_are = λ b. refl; extents_stay = λ extents. refl }
marks_move (n ∷ ns) = let rest = marks_move ns in record {
  taken_are = rest.taken_are;
  freed_are = λ b. (let h = one_block n b in let r = rest.freed_are b in omega (arith, h, r));
  extents_stay = rest.extents_stay;
}

pub frees_move : (freed : List ℕ) → TakesAndFrees (page_frees freed) [] freed
frees_move freed = moves_onto (page_no_redos freed) (page_marks freed) [] [] [] freed (no_redos_move freed) (marks_move freed)

-- ---- a tree's edits

-- pages of trees are never inode extents
abbrev pub IsTree : PageKind → Type 0
IsTree kind = (first : ℕ) (bytes : List ℕ) → is_extent kind first bytes ≡ false

page_leaves : (x : Bool) (n : ℕ) (kind : PageKind) (old new : List ℕ) (edits : List Edit) → IsTree kind → PageEdits x n kind old new edits → LeavesSets edits
page_leaves true n kind old new edits never h = subst LeavesSets (sym h) (never 0 new, tt)
page_leaves false n kind old new edits never h = runs_leave n kind old new 0 edits h

pages_leave : (kind : PageKind) (taken : List ℕ) (old new : ℕ → List ℕ) (ns : List ℕ) (edits : List Edit) → IsTree kind → PagesEdits kind taken old new ns edits → LeavesSets edits
pages_leave kind taken old new [] edits never h = subst LeavesSets (sym h) tt
pages_leave kind taken old new (n ∷ ns) edits never h = subst LeavesSets (sym h.2)
    (leaves_onto h.0 h.1 (page_leaves (is_in n taken) n kind (old n) (new n) h.0 never h.3) (pages_leave kind taken old new ns h.1 never h.4))

-- a call on a tree, on top of an empty transaction
tree_moves : (blocks : ℕ) (kind : PageKind) (told : List ℕ) (pages : ℕ → List ℕ) (last later : List Edit) (taken freed : List ℕ) → IsTree kind → TellsChanges blocks kind told pages last [] later → TakesAndFrees last taken freed → TakesAndFrees later taken freed
tree_moves blocks kind told pages last later taken freed never tells h = subst (λ (tx : List Edit). TakesAndFrees tx taken freed) (sym tells.told)
    (moves_onto tells.lines last [] [] taken freed (lines_move tells.lines (pages_leave kind told pages tells.after tells.changed tells.lines never tells.edits)) h)

pub taken_move : (blocks : ℕ) (kind : PageKind) (pages : ℕ → List ℕ) (free left : List ℕ) (later : List Edit) → IsTree kind → (tells : TellsTaken blocks kind pages free left [] later) → TakesAndFrees later tells.0 []
taken_move blocks kind pages free left later never tells = tree_moves blocks kind tells.0 pages (allocs_of tells.0) later tells.0 [] never tells.2 (allocs_move tells.0)

pub gone_move : (blocks : ℕ) (kind : PageKind) (pages : ℕ → List ℕ) (later : List Edit) → IsTree kind → (tells : TellsGone blocks kind pages [] later) → TakesAndFrees later [] tells.0
gone_move blocks kind pages later never tells = tree_moves blocks kind [] pages (page_frees tells.0) later [] tells.0 never tells.1 (frees_move tells.0)

-- how many edits of such a call take blocks
allocs_onto : (tx more : List Edit) → allocs_in (tx ++ more) ≡ allocs_in tx + allocs_in more
allocs_onto [] more = omega arith
allocs_onto (Lines page kind first bytes ∷ tx) more = allocs_onto tx more
allocs_onto (NoRedo page ∷ tx) more = allocs_onto tx more
allocs_onto (Alloc run ∷ tx) more = let h = allocs_onto tx more in omega (arith, h)
allocs_onto (Free run ∷ tx) more = allocs_onto tx more

no_allocs : (tx : List Edit) → LeavesSets tx → allocs_in tx ≡ 0
no_allocs [] h = refl
no_allocs (Lines page kind first bytes ∷ tx) h = no_allocs tx h.1
no_allocs (NoRedo page ∷ tx) h = no_allocs tx h
no_allocs (Alloc run ∷ tx) h = absurd h
no_allocs (Free run ∷ tx) h = absurd h

all_allocs : (taken : List ℕ) → allocs_in (allocs_of taken) ≡ length taken
all_allocs [] = refl
all_allocs (n ∷ ns) = ap suc (all_allocs ns)

pub allocs_are : (blocks : ℕ) (kind : PageKind) (pages : ℕ → List ℕ) (free left : List ℕ) (later : List Edit) → IsTree kind → (tells : TellsTaken blocks kind pages free left [] later) → allocs_in later ≡ length tells.0
allocs_are blocks kind pages free left later never tells = ap allocs_in tells.2.told ∙ allocs_onto tells.2.lines (allocs_of tells.0)
    ∙ (let z = no_allocs tells.2.lines (pages_leave kind tells.0 pages tells.2.after tells.2.changed tells.2.lines never tells.2.edits) in let n = all_allocs tells.0 in omega (arith, z, n))

-- ---- a step

pub step_takes : StepLaw
step_takes tx v w taken freed moves fair used = record {
  fresh = λ b h. fair.fresh b (let t = moves.taken_are b in omega (arith, t, h));
  used = λ b. (let c = counts tx v.used fair b in let t = moves.taken_are b in let f = moves.freed_are b in let u = ap (λ (now : ℕ → Bool). bit (now b)) used in omega (arith, c, t, f, u));
}
