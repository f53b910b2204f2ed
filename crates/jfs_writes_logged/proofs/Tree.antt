-- What the edits tell by which a file's tree takes extents, and runs of blocks are taken.
use Rattle.std.proofs.Common.{◌≡◌, ◌<◌, ◌+◌, ◌==◌, ◌||◌, if◌then◌else◌, ℕ, Bool, true, false, List, [], ◌∷◌, ◌++◌, length, refl, sym, ap, ◌∙◌, subst, arith}
use Rattle.jfs_bits.specs.declared.descriptor.Pxd.{Pxd}
use Rattle.jfs_bits.specs.declared.extent.Xad.{Xad}
use Rattle.jfs_bits.specs.declared.rule.PageKind.TheVariants.{Xtree}
use Rattle.jfs_ranges.specs.declared.edit.Edit.{Edit}
use Rattle.jfs_ranges.specs.Apply.{apply_tx}
use Rattle.jfs_ranges.specs.Laid.{applied_length}
use Rattle.jfs_ranges.proofs.OnTop.{applied_onto}
use Rattle.jfs_tree.specs.Changes.{TellsChanges}
use Rattle.jfs_tree.specs.Edit.{count_in}
use Rattle.jfs_tree.specs.Form.{AllBelow}
use Rattle.jfs_tree.specs.Fresh.{LeadsTo, after_tx, allocs_of}
use Rattle.jfs_tree.specs.Tell.{is_in}
use Rattle.jfs_write.specs.Tree.{run_allocs, PutsExtents}
use Rattle.jfs_write.proofs.Moves.{took, same_after}
use Rattle.jfs_write_pages.specs.data_steps.specs.lead_steps.proofs.Named.{all_below}
use Rattle.jfs_contents_logged.specs.calls_logged.specs.logged.specs.recovery.specs.records.specs.Redo.{closes_in}
use Rattle.jfs_contents_logged.specs.calls_logged.specs.logged.specs.Logged.{LeavesPage}
use Rattle.jfs_contents_logged.specs.calls_logged.specs.logged.specs.Trees.{TellsPages}
use Rattle.jfs_contents_logged.specs.calls_logged.specs.logged.proofs.Pages.{pages_law, closes_onto, leaves_onto}

-- ---- numbers in a list

pub in_counted : (n : ℕ) (ns : List ℕ) → 0 < count_in n ns → is_in n ns ≡ true
in_counted n [] l = absurd (omega (arith, l))
in_counted n (m ∷ ms) l = at (m == n) l (in_counted n ms)
  where
    at : (b : Bool) → 0 < (if b then 1 else 0) + count_in n ms → (0 < count_in n ms → is_in n ms ≡ true) → (b || is_in n ms) ≡ true
    at true l rest = refl
    at false l rest = rest (omega (arith, l))

counted_in : (n : ℕ) (ns : List ℕ) → is_in n ns ≡ true → 0 < count_in n ns
counted_in n [] h = absurd (cc (h))
counted_in n (m ∷ ms) h = at (m == n) h (counted_in n ms)
  where
    at : (b : Bool) → (b || is_in n ms) ≡ true → (is_in n ms ≡ true → 0 < count_in n ms) → 0 < (if b then 1 else 0) + count_in n ms
    at true h rest = omega arith
    at false h rest = let r = rest h in omega (arith, r)

-- ---- runs of blocks

runs_close : (q : ℕ) (runs : List Pxd) → closes_in q (run_allocs runs) ≡ false
runs_close q [] = refl
runs_close q (p ∷ ps) = runs_close q ps

runs_leave : (q : ℕ) (runs : List Pxd) → LeavesPage q (run_allocs runs)
runs_leave q [] a s = refl
runs_leave q (p ∷ ps) a s = runs_leave q ps a s

-- ---- the edits of the tree, and these runs behind them

-- Of some pages edits are told, each as the edits lead to it; those that were taken are among them, told whole.
pub record TellsTree (blocks : ℕ) (pages : ℕ → List ℕ) (taken : List ℕ) (edits : List Edit) : Type 0 where
  pub changed : List ℕ
  pub new : ℕ → List ℕ
  pub tells : TellsPages taken [] changed pages new edits
  pub within : AllBelow blocks changed
  pub new_is : (b : ℕ) → b < blocks → new b ≡ after_tx pages edits b
  pub comes : (b : ℕ) → 0 < count_in b taken → (is_in b taken ≡ true) × (0 < count_in b changed)

module _ (blocks : ℕ) (pages : ℕ → List ℕ) (whole : (b : ℕ) → b < blocks → length (pages b) ≡ 4096) (runs : List Pxd) where
  leads : LeadsTo blocks pages [] pages
  leads b l = (whole b l, refl)

  -- no extents
  nothing_told : (mid : List Edit) → mid ≡ [] → TellsTree blocks pages [] (mid ++ run_allocs runs)
  nothing_told mid none = record {
    changed = [];
    new = pages;
    tells = record {
      freed_are = λ q some. absurd (omega (arith, some));
      open_are = λ q z. ap (λ (e : List Edit). closes_in q (e ++ run_allocs runs)) none ∙ runs_close q runs;
      others = λ q h. subst (λ (e : List Edit). LeavesPage q (e ++ run_allocs runs)) (sym none) (runs_leave q runs);
      whole = λ q some. absurd (omega (arith, some));
    };
    within = tt;
    new_is = λ b l. sym (same_after b mid runs (pages b) ∙ ap (λ (e : List Edit). after_tx pages e b) none);
    comes = λ b some. absurd (omega (arith, some));
  }

  module _ (taken : List ℕ) (mid : List Edit) (t : TellsChanges blocks Xtree taken pages (allocs_of taken) [] mid) where
    new_is : (b : ℕ) → b < blocks → t.after b ≡ after_tx pages mid b
    new_is b l = sym (t.leads pages leads b l).1

    sizes : (b : ℕ) → 0 < count_in b t.changed → length (t.after b) ≡ 4096
    sizes b some = (let l = all_below blocks t.changed b t.within some in ap (λ (x : List ℕ). length x) (new_is b l) ∙ applied_length b mid (pages b) ∙ whole b l)

    front : TellsPages taken [] t.changed pages t.after (t.lines ++ allocs_of taken)
    front = pages_law.takes Xtree taken t.changed taken pages t.after t.lines t.edits t.once sizes

    all_is : mid ++ run_allocs runs ≡ (t.lines ++ allocs_of taken) ++ run_allocs runs
    all_is = ap (λ (e : List Edit). e ++ run_allocs runs) t.told

    extents_told : TellsTree blocks pages taken (mid ++ run_allocs runs)
    extents_told = record {
      changed = t.changed;
      new = t.after;
      tells = subst (TellsPages taken [] t.changed pages t.after) (sym all_is) (record {
        freed_are = λ q some. absurd (omega (arith, some));
        open_are = λ q none. closes_onto q (t.lines ++ allocs_of taken) (run_allocs runs) (front.open_are q none) (runs_close q runs);
        others = λ q h. leaves_onto q (t.lines ++ allocs_of taken) (run_allocs runs) (front.others q h) (runs_leave q runs);
        whole = λ q some took a s. applied_onto q (t.lines ++ allocs_of taken) (run_allocs runs) a ∙ runs_leave q runs (apply_tx q (t.lines ++ allocs_of taken) a) (applied_length q (t.lines ++ allocs_of taken) a ∙ s) ∙ front.whole q some took a s;
      });
      within = t.within;
      new_is = λ b l. new_is b l ∙ sym (same_after b mid runs (pages b));
      comes = λ b some. (let i = in_counted b taken some in (i, counted_in b t.changed (t.takes b i)));
    }

  pub tree_told : (xs : List Xad) (root after free left : List ℕ) (mid : List Edit) (h : PutsExtents blocks pages xs root after free left [] mid)
      → TellsTree blocks pages (took blocks pages xs root after free left [] mid h) (mid ++ run_allocs runs)
  tree_told [] root after free left mid h = nothing_told mid h.2
  tree_told (x ∷ xs) root after free left mid h = extents_told h.edits.0 mid h.edits.2
