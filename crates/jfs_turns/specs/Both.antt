-- Both turns in one hand.
use Rattle.std.specs.Prelude.{◌≡◌}
use Rattle.atomic_table.specs.Seated.{TableId}
use Rattle.jfs_turns.specs.Views.{AreBoth, IsBothLog, aside, without, rejoined}
use Rattle.jfs_turns.specs.declared.view.View.{View}
use Rattle.jfs_turns.specs.declared.both.BothTurns.{BothTurns}

module _ {V L E : Type 0} where
  -- both halves are of these turns
  abbrev pub AreOf : TableId → BothTurns V L E → Type 0
  AreOf table both = (both.volume.seat.table_id ≡ table) × (both.log.seat.table_id ≡ table)

  -- they are the halves of one pass, which holds both turns
  abbrev pub AreHeld : BothTurns V L E → Type 0
  AreHeld both = AreBoth both.volume.seat.me both.log.seat.me × IsBothLog both.log.seat.me

  -- what the pass knows: both halves together
  abbrev pub whole : BothTurns V L E → View E
  whole both = rejoined both.log.seat.me.0 both.volume.seat.me.0

  -- the halves of a pass that knows v
  abbrev pub AreHalvesOf : View E → BothTurns V L E → Type 0
  AreHalvesOf v both = (both.log.seat.me.0 ≡ without v) × (both.volume.seat.me.0 ≡ aside v)

  -- the values, the pass and its calls left are the same
  abbrev pub AreSame : BothTurns V L E → BothTurns V L E → Type 0
  AreSame old new = (new.volume.value ≡ old.volume.value) × (new.log.value ≡ old.log.value) × (new.volume.client ≡ old.volume.client) × (new.log.client ≡ old.log.client) × (new.volume.calls_left ≡ old.volume.calls_left)
