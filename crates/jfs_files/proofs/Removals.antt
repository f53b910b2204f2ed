-- Calls that take a name away take no block.
use Rattle.std.proofs.Common.{◌≡◌, refl, sym, subst, ℕ, Bool, true, false, List, [], ◌++◌}
use Rattle.jfs_bits.specs.declared.descriptor.Moment.{Moment}
use Rattle.jfs_bits.specs.declared.rule.PageKind.TheVariants.{Xtree, Dtree}
use Rattle.jfs_inode.specs.declared.fields.Dinode.{Dinode}
use Rattle.jfs_ranges.specs.declared.edit.Edit.{Edit}
use Rattle.jfs_look.specs.page_tree.specs.Removes.{page_frees}
use Rattle.jfs_look.specs.page_tree.specs.Fresh.{blocks_of}
use Rattle.jfs_readlink.specs.xtree.specs.Cutting.{run_frees}
use Rattle.jfs_truncate.specs.objects.specs.Objects.{has_extents}
use Rattle.jfs_look.specs.meaning.specs.Readers.{root_of}
use Rattle.jfs_look.specs.way.specs.declared.object.Held.{Held}
use Rattle.jfs_chmod.specs.steps.specs.After.{takes}
use Rattle.jfs_chmod.specs.steps.specs.Laws.{TakesAndFrees}
use Rattle.jfs_chmod.specs.steps.specs.Put.{TellsLines}
use Rattle.jfs_chmod.specs.steps.proofs.Sets.{frees_move, moves_onto, lines_move, lines_on_top}
use Rattle.jfs_truncate.specs.loss.specs.Frees.{attribute_runs, CutsIf, FreesObject}
use Rattle.jfs_truncate.specs.loss.specs.Loses.{LosesName}
use Rattle.jfs_truncate.specs.loss.proofs.Counts.{runs_move, changes_move}
use Rattle.jfs_rename.specs.unlink.specs.Call.{TakesName}
use Rattle.jfs_rename.specs.unlink.specs.Gone.{DropsNamed, LeavesNamed}
use Rattle.jfs_rename.specs.unlink.specs.declared.ends.Ends.{Ends}

-- the edits take no block, and free so many
abbrev OnlyFrees : List Edit → Type 0
OnlyFrees tx = (freed : List ℕ) × TakesAndFrees tx [] freed

module _ (blocks : ℕ) (pages : ℕ → List ℕ) where
  cut_frees : (x : Bool) (root : List ℕ) (cut : List Edit) → CutsIf x blocks pages root cut → OnlyFrees cut
  cut_frees true root cut cuts = (
    [] ++ (cuts.1.0 ++ blocks_of cuts.1.1),
    changes_move blocks Xtree pages (page_frees cuts.1.0 ++ run_frees cuts.1.1) [] cut [] (cuts.1.0 ++ blocks_of cuts.1.1) (λ first bytes. refl) (lines_move [] tt)
        (moves_onto (page_frees cuts.1.0) (run_frees cuts.1.1) [] cuts.1.0 [] (blocks_of cuts.1.1) (frees_move cuts.1.0) (runs_move cuts.1.1)) cuts.1.2,
  )
  cut_frees false root cut cuts = ([], subst (λ (tx : List Edit). TakesAndFrees tx [] []) (sym cuts) (lines_move [] tt))

  object_frees : (d : Dinode) (tx : List Edit) → FreesObject blocks pages d tx → OnlyFrees tx
  object_frees d tx frees =
      let cut = cut_frees (has_extents d) (root_of d) frees.0 frees.1 in
      let runs = attribute_runs blocks d in
      (cut.0 ++ blocks_of runs, subst (λ (edits : List Edit). TakesAndFrees edits [] (cut.0 ++ blocks_of runs)) (sym frees.2) (moves_onto frees.0 (run_frees runs) [] cut.0 [] (blocks_of runs) cut.1 (runs_move runs)))

  name_frees : (dir : Held) (name : List ℕ) (links : ℕ) (now : Moment) (tx later : List Edit) → OnlyFrees tx → LosesName blocks pages dir name links now tx later → OnlyFrees later
  name_frees dir name links now tx later was loses =
      let gone = loses.tells in (
        was.0 ++ gone.0,
        lines_on_top blocks pages dir.page loses.mid later [] (was.0 ++ gone.0)
            (changes_move blocks Dtree pages (page_frees gone.0) tx loses.mid was.0 gone.0 (λ first bytes. refl) was.1 (frees_move gone.0) gone.1) loses.lines,
      )

  lines_free : (page : ℕ) (tx later : List Edit) → OnlyFrees tx → TellsLines blocks pages page tx later → OnlyFrees later
  lines_free page tx later was lines = (was.0, lines_on_top blocks pages page tx later [] was.0 was.1 lines)

  pub drop_takes_none : (e : Ends) (name : List ℕ) (links : ℕ) (now : Moment) (tx : List Edit) → DropsNamed blocks pages e name links now tx → (b : ℕ) → takes tx b ≡ 0
  drop_takes_none e name links now tx h =
      (lines_free e.at.page h.lost tx (name_frees e.dir name links now h.freed h.lost (object_frees e.at.inode h.freed h.frees) h.loses) h.lines).1.taken_are

  leave_takes_none : (e : Ends) (name : List ℕ) (now : Moment) (tx : List Edit) → LeavesNamed blocks pages e name now tx → (b : ℕ) → takes tx b ≡ 0
  leave_takes_none e name now tx h = (lines_free e.at.page h.lost tx (name_frees e.dir name e.dir.inode.nlink now [] h.lost ([], lines_move [] tt) h.loses) h.lines).1.taken_are

  pub name_takes_none : (last : Bool) (e : Ends) (name : List ℕ) (now : Moment) (tx : List Edit) → TakesName last blocks pages e name now tx → (b : ℕ) → takes tx b ≡ 0
  name_takes_none true e name now tx h = drop_takes_none e name e.dir.inode.nlink now tx h
  name_takes_none false e name now tx h = leave_takes_none e name now tx h
