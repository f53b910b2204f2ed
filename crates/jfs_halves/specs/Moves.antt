-- From parts that stand for a half to parts that stand for a later one.
use Rattle.std.specs.Prelude.{◌≡◌, ◌++◌, Bool, true, List}
use Rattle.jfs_halves.specs.Half.{VolumeHalf, Halves}
use Rattle.jfs_halves.specs.Change.{Change, after, FitAll, states_after}
use Rattle.jfs_halves.specs.Both.{BothChange, after as after_both, FitAll as FitBoth, states_after as states_both}
use Rattle.jfs_halves.specs.Parts.{Parts, StandsFor}
use Rattle.jfs_halves.specs.Log.{LogParts, LogStandsFor}

-- Each change may be made where it is; the new parts stand for the half after all of them; and the low part has been in their states, in their order.
pub record Moves (seen asked : Bool) (old new : Parts) (half : VolumeHalf) (list : List Change) : Type 0 where
  pub fit : FitAll half list
  pub stands : StandsFor seen asked new (after half list)
  pub past : seen ≡ true → asked ≡ true → new.past ≡ old.past ++ states_after half list

-- the same of a call that is lent the log: its parts stand for the log's half
pub record MovesBoth (seen asked : Bool) (old new : Parts) (log : LogParts) (both : Halves) (list : List BothChange) : Type 0 where
  pub fit : FitBoth both list
  pub stands : StandsFor seen asked new (after_both both list).volume
  pub log_stands : LogStandsFor seen asked log (after_both both list)
  pub past : seen ≡ true → asked ≡ true → new.past ≡ old.past ++ states_both both list

-- ---- laws

-- changes, and then others
abbrev pub VolumeJoins : Type 0
VolumeJoins = (seen asked : Bool) (old mid new : Parts) (half : VolumeHalf) (xs ys : List Change) → Moves seen asked old mid half xs → Moves seen asked mid new (after half xs) ys
    → Moves seen asked old new half (xs ++ ys)

abbrev pub BothJoin : Type 0
BothJoin = (seen asked : Bool) (old mid new : Parts) (middle log : LogParts) (both : Halves) (xs ys : List BothChange) → MovesBoth seen asked old mid middle both xs
    → MovesBoth seen asked mid new log (after_both both xs) ys → MovesBoth seen asked old new log both (xs ++ ys)
