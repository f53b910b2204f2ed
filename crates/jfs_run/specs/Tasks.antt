-- The scripts of a run's clients.
use Rattle.std.specs.Prelude.{◌<◌, ◌≤◌, ◌+◌, [], ◌∷◌, ℕ, List, length, map}
use Rattle.std.specs.Global.{Vec}
use Rattle.jfs_plain.specs.declared.call.Line.{Line}
use Rattle.jfs_script.specs.Script.{AllFit}

-- the scripts as lists of lines
abbrev pub plan_of : List (Vec Line) → List (List Line)
plan_of scripts = map (λ (script : Vec Line). script.items) scripts

-- how many lines they have
abbrev pub lines_in : List (List Line) → ℕ
lines_in [] = 0
lines_in (lines ∷ more) = length lines + lines_in more

-- all calls are within the limits of calls
abbrev pub PlanFits : List (List Line) → Type 0
PlanFits [] = Unit {0}
PlanFits (lines ∷ more) = AllFit lines × PlanFits more

-- one to sixteen scripts of calls within the limits, with 65,536 lines at most, as many as a client may have entries
pub record IsPlan (plan : List (List Line)) : Type 0 where
  pub fit : PlanFits plan
  pub clients : (0 < length plan) × (length plan ≤ 16)
  pub few : lines_in plan ≤ 65536
