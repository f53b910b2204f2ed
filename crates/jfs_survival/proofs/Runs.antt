-- Changes, one after another, are a run of the core.
use Rattle.std.proofs.Common.{◌≡◌, List, [], ◌∷◌, ◌++◌, refl, sym, subst}
use Rattle.jfs_logged.specs.halves.specs.Half.{Halves}
use Rattle.jfs_logged.specs.halves.specs.Both.{BothChange, changed, FitAll, after}
use Rattle.jfs_face.specs.recovery.specs.Face.{Face, IsFace}
use Rattle.jfs_face.specs.recovery.specs.Core.{Core, Step, does, AreAllowed, after_steps}
use Rattle.jfs_face.proofs.Whole.{is_face}
use Rattle.jfs_survival.specs.Stands.{IsCoreOf}
use Rattle.jfs_survival.specs.Played.{ArePlayed}
use Rattle.jfs_survival.specs.Laws.{IsRunOf, RunLaw}
use Rattle.jfs_survival.proofs.Lines.{ReadsLines, reads_lines}
use Rattle.jfs_survival.proofs.Changes.{step_is}

allowed-join : (f : Face) (core : Core) (xs ys : List Step) → AreAllowed f core xs → AreAllowed f (after_steps f core xs) ys → AreAllowed f core (xs ++ ys)
allowed-join f core [] ys a b = b
allowed-join f core (x ∷ xs) ys a b = (a.0, allowed-join f (does f core x) xs ys a.1 b)

pub after-join : (f : Face) (core : Core) (xs ys : List Step) → after_steps f core (xs ++ ys) ≡ after_steps f (after_steps f core xs) ys
after-join f core [] ys = refl
after-join f core (x ∷ xs) ys = after-join f (does f core x) xs ys

pub run : (f : Face) → IsFace f → ReadsLines f → (both : Halves) (core : Core) (list : List BothChange) (steps : List Step) → IsCoreOf f both core → FitAll both list → ArePlayed f both core list steps → IsRunOf f both core list steps
run f laws reads both core [] steps is fit e = subst (λ (x : List Step). IsRunOf f both core [] x) (sym e) (record { allowed = tt; core_is = is })
run f laws reads both core (c ∷ cs) steps is fit (own, rest, e, played, others) =
    let one = step_is f laws reads both core is c own fit.0 played in
    let more = run f laws reads (changed both c) (after_steps f core own) cs rest one.core_is fit.1 others in
    subst (λ (x : List Step). IsRunOf f both core (c ∷ cs) x) (sym e) (record {
      allowed = allowed-join f core own rest one.allowed more.allowed;
      core_is = subst (λ (x : Core). IsCoreOf f (after (changed both c) cs) x) (sym (after-join f core own rest)) more.core_is;
    })

pub run_law : RunLaw
run_law r pl changes both core list steps areas is fit played = run _ (is_face r pl changes areas) (reads_lines r pl changes) both core list steps is fit played
