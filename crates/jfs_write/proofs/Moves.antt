-- What the edits of a write take, and which pages they leave.
use Rattle.std.proofs.Common.{◌≡◌, ◌<◌, refl, sym, ◌∙◌, subst, ℕ, zero, suc, List, [], ◌∷◌, ◌++◌, length, arith}
use Rattle.jfs_bits.specs.declared.descriptor.Moment.{Moment}
use Rattle.jfs_bits.specs.declared.descriptor.Pxd.{Pxd}
use Rattle.jfs_bits.specs.declared.extent.Xad.{Xad}
use Rattle.jfs_bits.specs.declared.rule.PageKind.TheVariants.{Xtree}
use Rattle.jfs_ranges.specs.declared.edit.Edit.{Edit}
use Rattle.jfs_ranges.specs.Apply.{apply_tx}
use Rattle.jfs_tree.specs.Fresh.{run_from, blocks_of}
use Rattle.jfs_write_pages.specs.loss.proofs.Counts.{count_append, count_run, applied_append}
use Rattle.jfs_link.specs.steps.specs.Laws.{TakesAndFrees}
use Rattle.jfs_link.specs.steps.proofs.Sets.{moves_onto, taken_move, lines_on_top}
use Rattle.jfs_link.specs.meaning.specs.Readers.{root_of}
use Rattle.jfs_read.specs.way.specs.declared.object.Held.{Held}
use Rattle.jfs_write_pages.specs.data_steps.specs.After.{LeavesPage}
use Rattle.jfs_write_pages.specs.Spots.{extents_for}
use Rattle.jfs_write_pages.specs.declared.spot.Spot.{Spot}
use Rattle.jfs_write.specs.Tree.{run_allocs, WritesExtents, PutsExtents}
use Rattle.jfs_write.specs.Make.{Edits}

-- ---- runs that are taken

pub runs_move : (runs : List Pxd) → TakesAndFrees (run_allocs runs) (blocks_of runs) []
runs_move [] = record { taken_are = λ b. refl; freed_are = λ b. refl; extents_stay = λ extents. refl }
runs_move (p ∷ ps) = let rest = runs_move ps in record {
  taken_are = λ b. (let c = count_run b p.addr p.len in let a = count_append b (run_from p.addr p.len) (blocks_of ps) in let r = rest.taken_are b in omega (arith, c, a, r));
  freed_are = rest.freed_are;
  extents_stay = rest.extents_stay;
}

pub runs_applied : (n : ℕ) (runs : List Pxd) (page : List ℕ) → apply_tx n (run_allocs runs) page ≡ page
runs_applied n [] page = refl
runs_applied n (p ∷ ps) page = runs_applied n ps page

pub runs_leave : (b : ℕ) (runs : List Pxd) → LeavesPage b (run_allocs runs)
runs_leave b runs page size = runs_applied b runs page

-- and so they leave the pages as edits before left them
pub same_after : (n : ℕ) (tx : List Edit) (runs : List Pxd) (page : List ℕ) → apply_tx n (tx ++ run_allocs runs) page ≡ apply_tx n tx page
same_after n tx runs page = applied_append n tx (run_allocs runs) page ∙ runs_applied n runs (apply_tx n tx page)

-- ---- the tree's edits

pub not_none : (k n : ℕ) → k ≡ n → (k ≡ 0 → ⊥) → 0 < n
not_none zero n e h = absurd (h refl)
not_none (suc k) n e h = omega (arith, e)

-- extents, if there are any, are written
pub puts_some : (blocks : ℕ) (pages : ℕ → List ℕ) (xs : List Xad) (root after free left : List ℕ) (tx later : List Edit) → 0 < length xs → WritesExtents blocks pages xs root after free left tx later → PutsExtents blocks pages xs root after free left tx later
puts_some blocks pages [] root after free left tx later some h = absurd (omega (arith, some))
puts_some blocks pages (x ∷ xs) root after free left tx later some h = h

-- the blocks that its pages take
abbrev pub took : (blocks : ℕ) (pages : ℕ → List ℕ) (xs : List Xad) (root after free left : List ℕ) (tx later : List Edit) → PutsExtents blocks pages xs root after free left tx later → List ℕ
took blocks pages [] root after free left tx later h = []
took blocks pages (x ∷ xs) root after free left tx later h = h.edits.0

pub took_front : (blocks : ℕ) (pages : ℕ → List ℕ) (xs : List Xad) (root after free left : List ℕ) (tx later : List Edit) → (h : PutsExtents blocks pages xs root after free left tx later) → free ≡ took blocks pages xs root after free left tx later h ++ left
took_front blocks pages [] root after free left tx later h = sym h.1
took_front blocks pages (x ∷ xs) root after free left tx later h = h.edits.1

pub tree_moves : (blocks : ℕ) (pages : ℕ → List ℕ) (xs : List Xad) (root after free left : List ℕ) (later : List Edit) → (h : PutsExtents blocks pages xs root after free left [] later) → TakesAndFrees later (took blocks pages xs root after free left [] later h) []
tree_moves blocks pages [] root after free left later h = subst (λ (tx : List Edit). TakesAndFrees tx [] []) (sym h.2) (record { taken_are = λ b. refl; freed_are = λ b. refl; extents_stay = λ extents. refl })
tree_moves blocks pages (x ∷ xs) root after free left later h = taken_move blocks Xtree pages free left later (λ first bytes. refl) h.edits

-- ---- all edits

module _ (blocks : ℕ) (pages : ℕ → List ℕ) (at : Held) (size : ℕ) (spots : List Spot) (runs free left : List Pxd) (now : Moment) (tx : List Edit) (z : Edits blocks pages at size spots runs free left now tx) where
  abbrev pub tree_took : List ℕ
  tree_took = took blocks pages (extents_for spots) (root_of at.inode) z.root (blocks_of free) (blocks_of left) [] z.mid z.extents

  pub edits_move : TakesAndFrees tx (tree_took ++ blocks_of runs) []
  edits_move = lines_on_top blocks pages at.page (z.mid ++ run_allocs runs) tx (tree_took ++ blocks_of runs) []
      (moves_onto z.mid (run_allocs runs) tree_took [] (blocks_of runs) [] (tree_moves blocks pages (extents_for spots) (root_of at.inode) z.root (blocks_of free) (blocks_of left) z.mid z.extents) (runs_move runs)) z.lines

  pub front_is : blocks_of free ≡ tree_took ++ blocks_of left
  front_is = took_front blocks pages (extents_for spots) (root_of at.inode) z.root (blocks_of free) (blocks_of left) [] z.mid z.extents
