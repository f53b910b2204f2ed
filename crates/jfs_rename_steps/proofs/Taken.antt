-- Which blocks the transactions of a rename take: those of the target's tree alone.
use Rattle.std.proofs.Common.{◌≡◌, refl, ap, ◌∙◌, ℕ, Bool, true, false, List, [], ◌++◌, arith}
use Rattle.jfs_bits.specs.declared.descriptor.Moment.{Moment}
use Rattle.jfs_bits.specs.declared.descriptor.Pxd.{Pxd}
use Rattle.jfs_bits.specs.declared.rule.PageKind.TheVariants as kinds
use Rattle.jfs_inode.specs.declared.fields.Dinode.{Dinode}
use Rattle.jfs_ranges.specs.declared.edit.Edit.{Edit}
use Rattle.jfs_ranges.specs.Laid.{put_tx}
use Rattle.jfs_loss.specs.page_tree.specs.Edit.{count_in}
use Rattle.jfs_loss.specs.page_tree.specs.Fresh.{blocks_of}
use Rattle.jfs_loss.specs.page_tree.specs.Removes.{page_frees}
use Rattle.jfs_loss.specs.xtree.specs.Cutting.{run_frees}
use Rattle.jfs_loss.specs.objects.specs.Objects.{has_extents}
use Rattle.jfs_loss.specs.meaning.specs.Readers.{root_of}
use Rattle.jfs_loss.specs.way.specs.declared.object.Held.{Held}
use Rattle.jfs_loss.specs.steps.specs.After.{takes}
use Rattle.jfs_loss.specs.steps.specs.Laws.{LeavesSets}
use Rattle.jfs_loss.specs.steps.specs.Put.{TellsLines}
use Rattle.jfs_loss.specs.steps.proofs.After.{lines_alone, runs_leave}
use Rattle.jfs_loss.specs.steps.proofs.Sets.{takes_onto, moves_onto, lines_move, frees_move, taken_move, lines_on_top}
use Rattle.jfs_loss.specs.Frees.{CutsIf, attribute_runs}
use Rattle.jfs_loss.proofs.Counts.{runs_move, changes_move}
use Rattle.jfs_rename_steps.specs.Entries.{LosesEntry}
use Rattle.jfs_rename_steps.specs.Objects.{goes, FreesIf}
use Rattle.jfs_rename_steps.specs.Moves.{Leaves, MovesToFree, MovesOver}
use Rattle.jfs_rename_steps.specs.declared.leaving.Leaving.{Leaving}
use Rattle.jfs_rename_steps.specs.declared.moving.Moving.{Moving}
use Rattle.jfs_rename_steps.proofs.Stage.{lead_leaves, loss_of, loss_moves}

-- lines take nothing
same_takes : (tx more later : List Edit) (b : ℕ) → later ≡ tx ++ more → LeavesSets more → takes later b ≡ takes tx b
same_takes tx more later b is leaves = ap (λ (all : List Edit). takes all b) is ∙ (let s = takes_onto tx more b in let z = (lines_alone more leaves).takes_none b in omega (arith, s, z))

lines_take : (blocks : ℕ) (pages : ℕ → List ℕ) (page : ℕ) (tx later : List Edit) (b : ℕ) → TellsLines blocks pages page tx later → takes later b ≡ takes tx b
lines_take blocks pages page tx later b tells = same_takes tx tells.0 later b tells.1 (runs_leave page kinds.Inode (put_tx blocks tx pages page) (put_tx blocks later pages page) 0 tells.0 tells.2)

loses_take : (blocks : ℕ) (pages : ℕ → List ℕ) (dir : Held) (name : List ℕ) (links : ℕ) (now : Moment) (tx later : List Edit) (b : ℕ) → LosesEntry blocks pages dir name links now tx later → takes later b ≡ takes tx b
loses_take blocks pages dir name links now tx later b l = lines_take blocks pages dir.page l.mid later b l.lines ∙ ap (λ (all : List Edit). takes all b) l.gone.1.told
    ∙ (let s = takes_onto tx (loss_of blocks (put_tx blocks tx pages) tx l.mid l.gone) b in let z = (loss_moves blocks (put_tx blocks tx pages) tx l.mid l.gone).taken_are b in omega (arith, s, z))

leaves_take : (blocks : ℕ) (pages : ℕ → List ℕ) (leaving : Leaving) (name : List ℕ) (now : Moment) (tx later : List Edit) (b : ℕ) → Leaves blocks pages leaving name now tx later → takes later b ≡ takes tx b
leaves_take blocks pages leaving name now tx later b l = loses_take blocks pages leaving.source name leaving.links now l.there later b l.loses ∙ lines_take blocks pages leaving.object.page tx l.there b l.arrives.lines

pub free_takes : (blocks : ℕ) (pages : ℕ → List ℕ) (moving : Moving) (old new : List ℕ) (now : Moment) (free left : List Pxd) (tx : List Edit) → (j : MovesToFree blocks pages moving old new now free left tx)
    → (b : ℕ) → takes tx b ≡ count_in b j.gains.taken.0
free_takes blocks pages moving old new now free left tx j b = leaves_take blocks pages _ old now j.after.tx tx b j.leaves
    ∙ (lines_on_top blocks pages moving.target.page j.gains.mid j.after.tx j.gains.taken.0 [] (taken_move blocks kinds.Dtree pages (blocks_of free) (blocks_of left) j.gains.mid (λ first bytes. refl) j.gains.taken) j.gains.lines).taken_are b

frees_take : (blocks : ℕ) (pages : ℕ → List ℕ) (d : Dinode) (x : Bool) (tx : List Edit) (b : ℕ) → FreesIf x blocks pages d tx → takes tx b ≡ 0
frees_take blocks pages d true tx b (cut, cuts, is) = ap (λ (all : List Edit). takes all b) is
    ∙ (let s = takes_onto cut (run_frees (attribute_runs blocks d)) b in let y = cut_takes (has_extents d) cuts in let z = (runs_move (attribute_runs blocks d)).taken_are b in omega (arith, s, y, z))
  where
    cut_takes : (x : Bool) → CutsIf x blocks pages (root_of d) cut → takes cut b ≡ 0
    cut_takes true (made, tells, once) = (changes_move blocks kinds.Xtree pages (page_frees tells.0 ++ run_frees tells.1) [] cut [] (tells.0 ++ blocks_of tells.1) (λ first bytes. refl) (lines_move [] tt)
        (moves_onto (page_frees tells.0) (run_frees tells.1) [] tells.0 [] (blocks_of tells.1) (frees_move tells.0) (runs_move tells.1)) tells.2).taken_are b
    cut_takes false none = ap (λ (all : List Edit). takes all b) none
frees_take blocks pages d false tx b none = ap (λ (all : List Edit). takes all b) none

pub over_takes : (blocks : ℕ) (pages : ℕ → List ℕ) (moving : Moving) (there : Held) (old new : List ℕ) (now : Moment) (tx : List Edit) → MovesOver blocks pages moving there old new now tx → (b : ℕ) → takes tx b ≡ 0
over_takes blocks pages moving there old new now tx j b = leaves_take blocks pages _ old now j.put tx b j.leaves ∙ lines_take blocks pages there.page j.led j.put b j.lines
    ∙ lines_take blocks pages moving.target.page j.leads.mid j.led b j.leads.lines ∙ same_takes j.freed more.0 j.leads.mid b more.1 more.2 ∙ frees_take blocks pages there.inode (goes there.inode) j.freed b j.frees
  where
    more : (more : List Edit) × (j.leads.mid ≡ j.freed ++ more) × LeavesSets more
    more = lead_leaves blocks pages (root_of moving.target.inode) j.leads.root j.freed j.leads.mid j.leads.edits
