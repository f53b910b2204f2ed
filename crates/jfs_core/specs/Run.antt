-- A run of steps, and how it ends.
use Rattle.std.specs.Prelude.{◌≡◌, ◌<◌, ℕ, List, length, take, slice_get, Some, Result, Ok, Err}
use Rattle.jfs_core.specs.declared.step.RunError.{RunError}
use Rattle.jfs_core.specs.declared.step.RunError.TheVariants.{Refused, Memory}
use Rattle.jfs_core.specs.declared.step.Step.{Step}
use Rattle.jfs_core.specs.declared.step.Why.{Why}
use Rattle.jfs_core.specs.Core.{Core}
use Rattle.jfs_core.specs.Step.{AreAllowed, after_steps, IsRefused}

-- the first `at` steps are allowed, and lead to a state
pub record LeadsTo (old : Core) (steps : List Step) (at : ℕ) (new : Core) : Type 0 where
  pub allowed : AreAllowed old (take at steps)
  pub state : new ≡ after_steps old (take at steps)

-- the step at a place is refused in a state, and why
pub record IsRefusedAt (steps : List Step) (at : ℕ) (why : Why) (state : Core) : Type 0 where
  pub step : Step
  pub there : slice_get steps at ≡ Some step
  pub refused : IsRefused state step why

-- Each step is allowed, and the state is the one after all of them; or the first one that isn't allowed is named, with the
-- first of its conditions that doesn't hold, and the state is the one before it. Where memory runs out, the state is the one
-- before some step, and all steps before that one are allowed.
abbrev pub IsRun : Core → List Step → Result (Unit {0}) RunError → Core → Type 0
IsRun old steps (Ok done) new = AreAllowed old steps × (new ≡ after_steps old steps)
IsRun old steps (Err (Refused refused)) new = LeadsTo old steps refused.at new × IsRefusedAt steps refused.at refused.why new
IsRun old steps (Err Memory) new = (at : ℕ) × (at < length steps) × LeadsTo old steps at new
