-- What a call's transaction does.
use Rattle.std.specs.Prelude.{◌≡◌, ◌⊎◌, ◌<◌, ℕ, true, List, Result, Ok, Err}
use Rattle.jfs_way.specs.imap.specs.Inodes.{Inodes}
use Rattle.jfs_way.specs.bmap.specs.States.{Blocks}
use Rattle.jfs_ranges.specs.declared.edit.Edit.{Edit}
use Rattle.jfs_way.specs.plain.specs.Tree.{Tree}
use Rattle.jfs_way.specs.plain.specs.Moves.{Same}
use Rattle.jfs_way.specs.plain.specs.Step.{Outcome}
use Rattle.jfs_way.specs.plain.specs.declared.refusal.Refusal.{Refusal}
use Rattle.jfs_way.specs.plain.specs.declared.reply.Reply.TheVariants.{Done}
use Rattle.jfs_way.specs.objects.specs.Volume.{Volume}
use Rattle.jfs_way.specs.meaning.specs.Readers.{readers}
use Rattle.jfs_way.specs.meaning.specs.Tree.{tree_on}
use Rattle.jfs_way.specs.meaning.specs.Consistent.{IsConsistent}
use Rattle.jfs_way.specs.Answer.{is_open}
use Rattle.jfs_way.specs.Walk.{IfConsistent}
use Rattle.jfs_way.specs.Volume.{volume_of, PlacesWithin}
use Rattle.jfs_steps.specs.After.{after_call}

-- the pages of the fixed areas stay
abbrev pub LeavesAreas : Volume → Volume → Type 0
LeavesAreas v w = (b : ℕ) → 0 < v.area b → w.page b ≡ v.page b

-- The call is done: the volume after it is consistent, and has the plain tree; the fixed areas are as they were.
pub record IsDone (blocks : ℕ) (v w : Volume) (plain : Tree → Outcome) : Type 0 where
  pub tree : Tree
  pub outcome : plain (tree_on (readers blocks) v) ≡ Ok (Done, tree)
  pub same : Same tree (tree_on (readers blocks) w)
  pub consistent : IsConsistent (readers blocks) w
  pub areas : LeavesAreas v w

-- The transaction takes the plain step of a consistent volume's tree; a refusal is the plain step's, or it is open.
abbrev pub Steps : ℕ → (ℕ → List ℕ) → Inodes → (Tree → Outcome) → Result (List Edit) Refusal → Type 0
Steps blocks pages inodes plain (Ok tx) = PlacesWithin blocks inodes → (area : ℕ → ℕ) (bm : Blocks) → IsConsistent (readers blocks) (volume_of pages area bm inodes)
    → IsDone blocks (volume_of pages area bm inodes) (after_call blocks tx (volume_of pages area bm inodes)) plain
Steps blocks pages inodes plain (Err why) = IfConsistent blocks pages inodes (λ t. (plain t ≡ Err why) ⊎ (is_open why ≡ true))
