-- A run goes on by one step.
use Rattle.std.proofs.Common.{◌≡◌, ◌<◌, ◌+◌, ℕ, zero, suc, List, [], ◌∷◌, ◌++◌, length, take, get_or, Some, Err, refl, sym, ap, ◌∙◌, subst}
use Rattle.std.specs.Prelude.{slice_get}
use Rattle.std.proofs.lemmas.List.{take_more}
use Rattle.jfs_core.specs.declared.step.Step.{Step}
use Rattle.jfs_core.specs.Core.{Core}
use Rattle.jfs_bits.proofs.Broken.{none_broken}
use Rattle.jfs_core.specs.declared.step.StepRefused.{StepRefused}
use Rattle.jfs_core.specs.declared.step.RunError.TheVariants.{Refused}
use Rattle.jfs_core.specs.Step.{Holds, conditions, IsAllowed, AreAllowed, does, after_steps}
use Rattle.jfs_core.specs.Run.{LeadsTo, IsRun}
use Rattle.jfs_core.specs.Sound.{IsSound}
use Rattle.jfs_core.proofs.Steps.{sound_steps}

AreAllowed-push : (core : Core) (steps : List Step) (step : Step) → AreAllowed core steps → IsAllowed (after_steps core steps) step → AreAllowed core (steps ++ step ∷ [])
AreAllowed-push core [] step are is = (is, tt)
AreAllowed-push core (first ∷ rest) step are is = (are.0, AreAllowed-push (does core first) rest step are.1 is)

after_steps-push : (core : Core) (steps : List Step) (step : Step) → after_steps core (steps ++ step ∷ []) ≡ does (after_steps core steps) step
after_steps-push core [] step = refl
after_steps-push core (first ∷ rest) step = after_steps-push (does core first) rest step

pub LeadsTo-more : (old : Core) (steps : List Step) (i : ℕ) (mid new : Core) (step : Step) → i < length steps → step ≡ get_or steps i step →
    LeadsTo old steps i mid → IsAllowed mid step → new ≡ does mid step → LeadsTo old steps (i + 1) new
LeadsTo-more old steps i mid new step h read leads is e =
    let next : take (i + 1) steps ≡ take i steps ++ step ∷ [] = take_more steps i step h ∙ ap (λ (s : Step). take i steps ++ s ∷ []) (sym read) in
    let here : IsAllowed (after_steps old (take i steps)) step = subst (λ (c : Core). IsAllowed c step) leads.state is in
    record {
      allowed = subst (λ (list : List Step). AreAllowed old list) (sym next) (AreAllowed-push old (take i steps) step leads.allowed here);
      state = e ∙ ap (λ (c : Core). does c step) leads.state ∙ sym (ap (λ (list : List Step). after_steps old list) next ∙ after_steps-push old (take i steps) step);
    }

-- where allowed steps lead a sound core is sound
pub LeadsTo-sound : (old : Core) (steps : List Step) (i : ℕ) (new : Core) → LeadsTo old steps i new → IsSound old → IsSound new
LeadsTo-sound old steps i new leads sound = subst (λ (core : Core). IsSound core) (sym leads.state) (sound_steps old (take i steps) leads.allowed sound)

-- the step after the first ones of a list that is allowed is allowed
AreAllowed-at : (core : Core) (list : List Step) (i : ℕ) (step : Step) → AreAllowed core list → slice_get list i ≡ Some step → IsAllowed (after_steps core (take i list)) step
AreAllowed-at core [] i step are h = absurd (cc)
AreAllowed-at core (first ∷ rest) zero step are h = let same : first ≡ step = cc in subst (λ (s : Step). IsAllowed core s) same are.0
AreAllowed-at core (first ∷ rest) (suc i) step are h = AreAllowed-at (does core first) rest i step are.1 h

pub refused_not_allowed : (core : Core) (list : List Step) (refused : StepRefused) (new : Core) → IsRun core list (Err (Refused refused)) new → AreAllowed core list → ⊥
refused_not_allowed core list refused new run are =
    let step = run.1.step in
    let here : IsAllowed new step = subst (λ (c : Core). IsAllowed c step) (sym run.0.state) (AreAllowed-at core list refused.at step are run.1.there) in
    none_broken (Holds new) (conditions step) run.1.refused.condition here run.1.refused.first
