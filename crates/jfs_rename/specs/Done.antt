-- What the transactions of a rename do to a consistent volume.
use Rattle.std.specs.Prelude.{◌≡◌, ◌<◌, ℕ, true, List, length}
use Rattle.jfs_bits.specs.declared.descriptor.Moment.{Moment}
use Rattle.jfs_bits.specs.declared.descriptor.Pxd.{Pxd}
use Rattle.jfs_imap.specs.Inodes.{Inodes}
use Rattle.jfs_bmap.specs.States.{Blocks}
use Rattle.jfs_ranges.specs.declared.edit.Edit.{Edit}
use Rattle.jfs_tree.specs.Fresh.{blocks_of}
use Rattle.jfs_plain.specs.Step.{Room, rename, need_of_name}
use Rattle.jfs_plain.specs.declared.refusal.Refusal.{Refusal}
use Rattle.jfs_link.specs.meaning.specs.Readers.{readers}
use Rattle.jfs_link.specs.meaning.specs.Room.{room_on}
use Rattle.jfs_link.specs.meaning.specs.Consistent.{IsConsistent}
use Rattle.jfs_link.specs.way.specs.Answer.{is_open}
use Rattle.jfs_link.specs.way.specs.Volume.{volume_of}
use Rattle.jfs_link.specs.way.specs.Walk.{IsHeld, IsShown, tree_in}
use Rattle.jfs_link.specs.way.specs.declared.object.Held.{Held}
use Rattle.jfs_link.specs.steps.specs.After.{after_call}
use Rattle.jfs_link.specs.steps.specs.Call.{IsDone}
use Rattle.jfs_link.specs.steps.specs.Place.{last_of}
use Rattle.jfs_link.specs.claim.specs.Take.{AreFresh}
use Rattle.jfs_rename_steps.specs.Moves.{MovesToFree, FreeRefused, MovesOver, OverRefused}
use Rattle.jfs_rename_steps.specs.declared.moving.Moving.{Moving}
use Rattle.jfs_rename.specs.Asks.{MayMove, MayReplace}
use Rattle.jfs_rename.specs.Ends.{AreHeld, AreShown, AreDirectories}

-- A consistent volume whose blocks the map knows, and what is renamed, as it stands there.
pub record AreOn (blocks : ℕ) (pages : ℕ → List ℕ) (area : ℕ → ℕ) (map : Blocks) (inodes : Inodes) (moving : Moving) : Type 0 where
  pub con : IsConsistent (readers blocks) (volume_of pages area map inodes)
  pub whole : (b : ℕ) → b < blocks → length (pages b) ≡ 4096
  pub size : length map.states ≡ blocks
  pub held : AreHeld blocks inodes moving
  pub shown : AreShown pages moving
  pub dirs : AreDirectories moving

abbrev pub room_in : ℕ → (ℕ → List ℕ) → (ℕ → ℕ) → Blocks → Inodes → ℕ → Room
room_in blocks pages area map inodes log_pages = room_on (readers blocks) (volume_of pages area map inodes) blocks log_pages

-- the plain step is taken, and the volume after it is consistent, with the plain tree
abbrev pub TakesStep : ℕ → (ℕ → List ℕ) → (ℕ → ℕ) → Blocks → Inodes → List (List ℕ) → List (List ℕ) → Moment → ℕ → List Edit → Type 0
TakesStep blocks pages area map inodes from to now log_pages tx = IsDone blocks (volume_of pages area map inodes) (after_call blocks tx (volume_of pages area map inodes)) (λ t. rename (room_in blocks pages area map inodes log_pages) t from to now)

-- Where nothing stands at the new name and no cause of the plain step is there, the transaction of a move, by blocks without owners, takes the plain step: for files and directories, in one directory or between two.
abbrev pub MoveLaw : Type 0
MoveLaw = (blocks : ℕ) (pages : ℕ → List ℕ) (area : ℕ → ℕ) (map : Blocks) (inodes : Inodes) (moving : Moving) → AreOn blocks pages area map inodes moving → (from to : List (List ℕ)) (now : Moment) (log_pages : ℕ)
    → MayMove from to moving (room_in blocks pages area map inodes log_pages) (tree_in blocks pages area map inodes)
    → (free left : List Pxd) → AreFresh map need_of_name (blocks_of free) → (tx : List Edit) → MovesToFree blocks pages moving (last_of from) (last_of to) now free left tx
    → TakesStep blocks pages area map inodes from to now log_pages tx

-- Where another object stands there, and no cause of the plain step is there, the transaction that gives it the name takes the plain step.
abbrev pub ReplaceLaw : Type 0
ReplaceLaw = (blocks : ℕ) (pages : ℕ → List ℕ) (area : ℕ → ℕ) (map : Blocks) (inodes : Inodes) (moving : Moving) → AreOn blocks pages area map inodes moving → (there : Held) → IsHeld blocks inodes there → IsShown pages there
    → (from to : List (List ℕ)) (now : Moment) (limit log_pages : ℕ) → (room_in blocks pages area map inodes log_pages).limit ≡ limit
    → MayReplace from to limit moving there (room_in blocks pages area map inodes log_pages) (tree_in blocks pages area map inodes)
    → (tx : List Edit) → MovesOver blocks pages moving there (last_of from) (last_of to) now tx → TakesStep blocks pages area map inodes from to now log_pages tx
