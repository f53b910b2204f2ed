-- What frees an object frees its tree pages with a NoRedo, and leaves all pages.
use Rattle.std.proofs.Common.{◌≡◌, ◌<◌, ℕ, Bool, true, false, List, [], ◌∷◌, ◌++◌, append_assoc, length, Option, Some, Ok, refl, sym, ap, ◌∙◌, subst, inl, inr, arith}
use Rattle.std.proofs.lemmas.Bool.{cases_lt}
use Rattle.jfs_bits.specs.declared.descriptor.Pxd.{Pxd}
use Rattle.jfs_bits.specs.declared.extent.Xad.{Xad}
use Rattle.jfs_bits.specs.declared.rule.PageKind.TheVariants as kinds
use Rattle.jfs_inode.specs.declared.fields.Dinode.{Dinode}
use Rattle.jfs_ranges.specs.declared.edit.Edit.{Edit}
use Rattle.jfs_ranges.specs.declared.edit.Edit.TheVariants.{Lines, NoRedo, Alloc, Free}
use Rattle.jfs_ranges.specs.Apply.{touches_tx}
use Rattle.jfs_tree.specs.Changes.{TellsChanges}
use Rattle.jfs_tree.specs.Edit.{count_in}
use Rattle.jfs_tree.specs.Fresh.{LeadsTo, after_tx}
use Rattle.jfs_tree.specs.Removes.{page_frees, page_marks}
use Rattle.jfs_tree.specs.Spells.{footprint}
use Rattle.jfs_tree.specs.Tell.{AllLines, TellsThen}
use Rattle.jfs_unlink.specs.loss.specs.Frees.{CutsIf, FreesObject, attribute_runs}
use Rattle.jfs_unlink.specs.loss.proofs.Holds.{no_names_of, extents_listed, file_holds, other_holds, nothing_kept}
use Rattle.jfs_unlink.specs.loss.specs.lead_steps.specs.xtree.specs.Node.{xt_scale}
use Rattle.jfs_unlink.specs.loss.specs.lead_steps.specs.xtree.specs.Node as xt
use Rattle.jfs_unlink.specs.loss.specs.lead_steps.specs.xtree.specs.Laws as xt_laws
use Rattle.jfs_unlink.specs.loss.specs.lead_steps.specs.xtree.specs.Spells.{page_nodes, root_form, spells_extents}
use Rattle.jfs_unlink.specs.loss.specs.lead_steps.specs.xtree.specs.Cutting.{HasOnlyBelow, gone_past, run_frees}
use Rattle.jfs_unlink.specs.loss.specs.lead_steps.specs.dtree.specs.Spells.{spells_names}
use Rattle.jfs_unlink.specs.loss.specs.lead_steps.specs.dtree.specs.Spells as names
use Rattle.jfs_unlink.specs.loss.specs.lead_steps.specs.dtree.specs.Laws as name_laws
use Rattle.jfs_unlink.specs.loss.specs.lead_steps.specs.dtree.specs.Node.{name_scale}
use Rattle.jfs_unlink.specs.loss.specs.lead_steps.specs.dtree.proofs.Bare.{bare_tree}
use Rattle.jfs_unlink.specs.loss.specs.objects.specs.Readers.{Readers}
use Rattle.jfs_unlink.specs.loss.specs.objects.specs.Volume.{Volume}
use Rattle.jfs_unlink.specs.loss.specs.objects.specs.Objects.{Object, objects, spelled, has_names, has_extents}
use Rattle.jfs_unlink.specs.loss.specs.objects.specs.Owners.{IsSound, covers, entries, data_held}
use Rattle.jfs_unlink.specs.loss.specs.meaning.specs.Readers.{readers, root_of}
use Rattle.jfs_unlink.specs.loss.specs.lead_steps.proofs.Named.{all_below}
use Rattle.jfs_calls_logged.specs.logged.specs.halves.specs.Marks.{frees_page}
use Rattle.jfs_calls_logged.specs.logged.specs.recovery.specs.records.specs.Redo.{closes_in}
use Rattle.jfs_calls_logged.specs.logged.specs.recovery.specs.kinds.specs.Owner.{has_page}
use Rattle.jfs_calls_logged.specs.logged.specs.Logged.{LeavesPage}
use Rattle.jfs_calls_logged.specs.logged.specs.Trees.{TellsPages}
use Rattle.jfs_calls_logged.specs.logged.proofs.Pages.{pages_law, closes_onto, leaves_onto, frees_onto, frees_them, frees_close, marks_touch, marks_close}
use Rattle.jfs_calls_logged.specs.logged.proofs.Written.{freed_onto}
use Rattle.jfs_names_logged.proofs.Directory.{beside_pages, dir_pages, none_below}

-- ---- edits that neither put a byte nor have a NoRedo

pub runs_touch : (q : ℕ) (runs : List Pxd) → touches_tx q (run_frees runs) ≡ false
runs_touch q [] = refl
runs_touch q (p ∷ ps) = runs_touch q ps

pub runs_close : (q : ℕ) (runs : List Pxd) → closes_in q (run_frees runs) ≡ false
runs_close q [] = refl
runs_close q (p ∷ ps) = runs_close q ps

pub runs_leave : (q : ℕ) (runs : List Pxd) → LeavesPage q (run_frees runs)
runs_leave q [] a s = refl
runs_leave q (p ∷ ps) a s = runs_leave q ps a s

lines_close : (q : ℕ) (lines : List Edit) → AllLines lines → closes_in q lines ≡ false
lines_close q [] h = refl
lines_close q (Lines page kind first bytes ∷ lines) h = lines_close q lines h
lines_close q (NoRedo page ∷ lines) h = absurd h
lines_close q (Alloc run ∷ lines) h = absurd h
lines_close q (Free run ∷ lines) h = absurd h

-- lines, then what frees these pages, and then runs of blocks
module _ (q : ℕ) (lines : List Edit) (all : AllLines lines) (gone : List ℕ) (runs : List Pxd) where
  pub then_freed : 0 < count_in q gone → frees_page q (lines ++ (page_frees gone ++ run_frees runs)) ≡ true
  then_freed some = frees_onto q lines (page_frees gone ++ run_frees runs) (freed_onto q (page_frees gone) (run_frees runs) (frees_them q gone (page_marks gone) some (marks_touch q gone)) (runs_touch q runs))

  pub then_open : count_in q gone ≡ 0 → closes_in q (lines ++ (page_frees gone ++ run_frees runs)) ≡ false
  then_open none = closes_onto q lines (page_frees gone ++ run_frees runs) (lines_close q lines all) (closes_onto q (page_frees gone) (run_frees runs) (frees_close q gone (page_marks gone) none (marks_close q gone)) (runs_close q runs))

-- ---- an object

-- Its tree pages, and no others, are freed with a NoRedo, and each page is left.
pub record FreesTree (held : ℕ → ℕ) (tx : List Edit) : Type 0 where
  pub go : (q : ℕ) → 0 < held q → frees_page q tx ≡ true
  pub stay : (q : ℕ) → held q ≡ 0 → closes_in q tx ≡ false
  pub leaves : (q : ℕ) → LeavesPage q tx

module _ (blocks : ℕ) (v : Volume) (sound : IsSound (readers blocks) v) (whole : (b : ℕ) → b < blocks → length (v.page b) ≡ 4096)
    (n : ℕ) (d : Dinode) (was : objects (readers blocks) v n ≡ Some (spelled (readers blocks) v.page d)) (size : length (root_of d) ≡ 288) where
  abbrev r : Readers
  r = readers blocks

  abbrev o : Object
  o = spelled r v.page d

  had : (q : ℕ) → has_page r (objects r v n) q ≡ has_page r (Some o) q
  had q = ap (λ (x : Option Object). has_page r x q) was

  -- ---- the cut

  module _ (extents : has_extents d ≡ true) (cut : List Edit) (cuts : CutsIf true blocks v.page (root_of d) cut) where
    abbrev es : List Xad
    es = (sound.whole n o was).extents

    spelled_es : spells_extents blocks v.page (root_of d) ≡ Ok es
    spelled_es = sym (extents_listed blocks v.page d size extents) ∙ (sound.whole n o was).extents_are

    told : (freed : List ℕ) × TellsThen (page_frees freed ++ run_frees (gone_past 0 es)) [] cut × ((base : ℕ → List ℕ) → LeadsTo blocks base [] v.page → HasOnlyBelow blocks 0 es v.page (after_tx base cut) (root_of d) cuts.0.0 freed)
    told = cuts.0.1 es spelled_es

    only : HasOnlyBelow blocks 0 es v.page (after_tx v.page cut) (root_of d) cuts.0.0 told.0
    only = told.2 v.page (λ b l. (whole b l, refl))

    bare : (b : ℕ) → footprint xt_scale (page_nodes blocks (after_tx v.page cut)) (xt.xt_node (root_form (length (root_of d))) blocks cuts.0.0) b ≡ 0
    bare b = bare_tree xt_scale xt_laws.order (page_nodes blocks (after_tx v.page cut)) (xt.xt_node (root_form (length (root_of d))) blocks cuts.0.0) (only.spelled ∙ ap (λ (xs : List Xad). Ok xs) (nothing_kept blocks es)) b

    data_is : (q : ℕ) → data_held r o q ≡ covers q es
    data_is q = ap (λ xs. covers q (entries xs)) (sound.whole n o was).extents_are

    -- its tree pages are those that are freed
    pages_are : (q : ℕ) → has_page r (objects r v n) q ≡ count_in q told.0
    pages_are q =
        let f = file_holds blocks v.page d size es q extents (no_names_of d extents) spelled_es in let p = beside_pages r o q in let h = data_is q in
        let w = only.owned q in let z = bare q in let s = had q in omega (arith, f, p, h, w, z, s)

    cut_is : cut ≡ told.1.0 ++ (page_frees told.0 ++ run_frees (gone_past 0 es))
    cut_is = told.1.2

    abbrev gone : List ℕ
    gone = cuts.1.0

    abbrev tells : TellsChanges blocks kinds.Xtree [] v.page (page_frees cuts.1.0 ++ run_frees cuts.1.1) [] cut
    tells = cuts.1.2

    same : (q : ℕ) → q < blocks → tells.after q ≡ v.page q
    same q l = sym (tells.leads v.page (λ b k. (whole b k, refl)) q l).1 ∙ only.keeps q l (bare q)

    sizes : (q : ℕ) → 0 < count_in q tells.changed → length (tells.after q) ≡ 4096
    sizes q some = (let l = all_below blocks tells.changed q tells.within some in ap (λ (x : List ℕ). length x) (same q l) ∙ whole q l)

    pages_told : TellsPages [] gone tells.changed v.page tells.after (tells.lines ++ page_frees gone)
    pages_told = pages_law.gives kinds.Xtree [] tells.changed gone v.page tells.after tells.lines tells.edits tells.once sizes

    cut_leaves : (q : ℕ) → LeavesPage q cut
    cut_leaves q = subst (LeavesPage q) (sym (tells.told ∙ sym (append_assoc tells.lines (page_frees gone) (run_frees cuts.1.1))))
        (leaves_onto q (tells.lines ++ page_frees gone) (run_frees cuts.1.1) (pages_told.others q (elim (cases_lt q blocks) [
          | inl l ↦ inr (refl, same q l)
          | inr l ↦ inl (none_below blocks q tells.changed tells.within l)
        ])) (runs_leave q cuts.1.1))

    cut_frees : FreesTree (has_page r (objects r v n)) cut
    cut_frees = record {
      go = λ q some. ap (frees_page q) cut_is ∙ then_freed q told.1.0 told.1.1 told.0 (gone_past 0 es) (let p = pages_are q in omega (arith, p, some));
      stay = λ q none. ap (closes_in q) cut_is ∙ then_open q told.1.0 told.1.1 told.0 (gone_past 0 es) (let p = pages_are q in omega (arith, p, none));
      leaves = cut_leaves;
    }

  -- ---- all of it

  module _ (bare_names : has_names d ≡ true → spells_names blocks v.page (root_of d) ≡ Ok []) where
    no_pages : has_extents d ≡ false → (q : ℕ) → has_page r (objects r v n) q ≡ 0
    no_pages e q = by (has_names d) refl
      where
        by : (y : Bool) → has_names d ≡ y → has_page r (objects r v n) q ≡ 0
        by true f = had q ∙ dir_pages blocks v.page d f [] q (bare_names f) ∙ bare_tree name_scale name_laws.order (names.page_nodes blocks v.page) (names.root_node blocks (root_of d)) (bare_names f) q
        by false f = let h = other_holds blocks v.page d q f e in let p = beside_pages r o q in let s = had q in omega (arith, h, p, s)

    tree_frees : (x : Bool) → has_extents d ≡ x → (cut : List Edit) → CutsIf x blocks v.page (root_of d) cut → FreesTree (has_page r (objects r v n)) cut
    tree_frees true e cut cuts = cut_frees e cut cuts
    tree_frees false e cut cuts = subst (FreesTree (has_page r (objects r v n))) (sym cuts) (record { go = λ q some. absurd (let z = no_pages e q in omega (arith, z, some)); stay = λ q none. refl; leaves = λ q a s. refl })

    pub object_frees : (tx : List Edit) → FreesObject blocks v.page d tx → FreesTree (has_page r (objects r v n)) tx
    object_frees tx (cut, cuts, is) = subst (FreesTree (has_page r (objects r v n))) (sym is) (let t = tree_frees (has_extents d) refl cut cuts in record {
      go = λ q some. freed_onto q cut (run_frees (attribute_runs blocks d)) (t.go q some) (runs_touch q (attribute_runs blocks d));
      stay = λ q none. closes_onto q cut (run_frees (attribute_runs blocks d)) (t.stay q none) (runs_close q (attribute_runs blocks d));
      leaves = λ q. leaves_onto q cut (run_frees (attribute_runs blocks d)) (t.leaves q) (runs_leave q (attribute_runs blocks d));
    })
