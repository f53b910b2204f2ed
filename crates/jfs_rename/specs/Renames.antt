-- What a rename does, whatever the volume holds.
use Rattle.std.specs.Prelude.{◌≡◌, ◌⊎◌, ℕ, true, List, [], Result, Ok, Err}
use Rattle.jfs_bits.specs.declared.descriptor.Moment.{Moment}
use Rattle.jfs_bits.specs.declared.descriptor.Pxd.{Pxd}
use Rattle.jfs_imap.specs.Inodes.{Inodes}
use Rattle.jfs_bmap.specs.States.{Blocks}
use Rattle.jfs_ranges.specs.declared.edit.Edit.{Edit}
use Rattle.jfs_tree.specs.Fresh.{blocks_of}
use Rattle.jfs_plain.specs.Step.{need_of_name}
use Rattle.jfs_plain.specs.declared.refusal.Refusal.{Refusal}
use Rattle.jfs_link.specs.way.specs.Answer.{is_open}
use Rattle.jfs_link.specs.steps.specs.Place.{last_of}
use Rattle.jfs_link.specs.claim.specs.Take.{AreFresh, Lacks}
use Rattle.jfs_link.specs.Link.{ReservesFree, ReservesTaken, want_of_name}
use Rattle.jfs_rename_steps.specs.Moves.{MovesToFree, FreeRefused, MovesOver, OverRefused}
use Rattle.jfs_rename_steps.specs.declared.moving.Moving.{Moving}
use Rattle.jfs_rename.specs.Asks.{asked}
use Rattle.jfs_rename.specs.declared.permits.Asked.{Asked}
use Rattle.jfs_rename.specs.declared.permits.Asked.TheVariants.{Same, Free, Over}
use Rattle.jfs_rename.specs.declared.renaming.Renamed.{Renamed}
use Rattle.jfs_rename.specs.declared.renaming.Renamed.TheVariants as renamed

-- ---- the blocks

-- Blocks that were free, each once, are reserved beside those before. A commit is due only where fewer blocks are free than a name may need; then, after a refusal, and where nothing changes, the map is as before.
abbrev pub MapAfter : Blocks → Blocks → Result Renamed Refusal → Type 0
MapAfter before now (Ok (renamed.Done tx)) = (taken : List ℕ) × ReservesFree before now taken
MapAfter before now (Ok renamed.Same) = now ≡ before
MapAfter before now (Ok renamed.NeedsLog) = (now ≡ before) × Lacks before want_of_name
MapAfter before now (Err why) = now ≡ before

-- ---- where nothing stands at the new name: exactly the blocks that the edits take are reserved beside those before

-- the object moves, by blocks that had no owners
pub record MovesFresh (blocks : ℕ) (pages : ℕ → List ℕ) (moving : Moving) (old new : List ℕ) (now : Moment) (before : Blocks) (tx : List Edit) : Type 0 where
  pub free : List Pxd
  pub left : List Pxd
  pub fresh : AreFresh before need_of_name (blocks_of free)
  pub moves : MovesToFree blocks pages moving old new now free left tx

pub record StaysFresh (blocks : ℕ) (pages : ℕ → List ℕ) (moving : Moving) (old new : List ℕ) (now : Moment) (before : Blocks) (why : Refusal) : Type 0 where
  pub free : List Pxd
  pub fresh : AreFresh before need_of_name (blocks_of free)
  pub refused : FreeRefused blocks pages moving old new now free why

abbrev pub MovesReserved : ℕ → (ℕ → List ℕ) → Moving → List ℕ → List ℕ → Moment → Blocks → Blocks → Result Renamed Refusal → Type 0
MovesReserved blocks pages moving old new now before after (Ok (renamed.Done tx)) = MovesFresh blocks pages moving old new now before tx × ReservesTaken before after tx
MovesReserved blocks pages moving old new now before after (Ok renamed.Same) = ⊥
MovesReserved blocks pages moving old new now before after (Ok renamed.NeedsLog) = Unit {0}
MovesReserved blocks pages moving old new now before after (Err why) = (is_open why ≡ true) ⊎ StaysFresh blocks pages moving old new now before why

-- ---- the whole call

abbrev pub DoesAs : Asked → ℕ → (ℕ → List ℕ) → List ℕ → List ℕ → Moment → Blocks → List Edit → Type 0
DoesAs Same blocks pages old new now before tx = ⊥
DoesAs (Free moving) blocks pages old new now before tx = MovesFresh blocks pages moving old new now before tx
DoesAs (Over moving there) blocks pages old new now before tx = MovesOver blocks pages moving there old new now tx

abbrev pub StaysAs : Asked → ℕ → (ℕ → List ℕ) → List ℕ → List ℕ → Moment → Blocks → Refusal → Type 0
StaysAs Same blocks pages old new now before why = ⊥
StaysAs (Free moving) blocks pages old new now before why = StaysFresh blocks pages moving old new now before why
StaysAs (Over moving there) blocks pages old new now before why = OverRefused blocks pages moving there old new now why

-- It is done as asked, by its steps, and exactly the blocks that these take are reserved beside those before; or nothing changes where both names are one object's; a commit is due only where the object goes where nothing stands; what is asked is refused, or one of the steps is; or the refusal is open.
abbrev pub RenamesAs : ℕ → (ℕ → List ℕ) → Blocks → Blocks → Inodes → List (List ℕ) → List (List ℕ) → ℕ → Moment → Result Renamed Refusal → Type 0
RenamesAs blocks pages before after inodes from to limit now (Ok (renamed.Done tx)) = ((a : Asked) × (asked blocks pages before inodes limit from to ≡ Ok a) × DoesAs a blocks pages (last_of from) (last_of to) now before tx) × ReservesTaken before after tx
RenamesAs blocks pages before after inodes from to limit now (Ok renamed.Same) = asked blocks pages before inodes limit from to ≡ Ok Same
RenamesAs blocks pages before after inodes from to limit now (Ok renamed.NeedsLog) = (moving : Moving) × (asked blocks pages before inodes limit from to ≡ Ok (Free moving))
RenamesAs blocks pages before after inodes from to limit now (Err why) = (asked blocks pages before inodes limit from to ≡ Err why)
    ⊎ (((a : Asked) × (asked blocks pages before inodes limit from to ≡ Ok a) × StaysAs a blocks pages (last_of from) (last_of to) now before why) ⊎ (is_open why ≡ true))
