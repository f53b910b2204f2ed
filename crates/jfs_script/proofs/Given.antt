-- What an error that was handed on gives.
use Rattle.std.proofs.Common.{◌≡◌, sym, subst}
use Rattle.std.specs.Prelude.{Result, Ok, Err}
use Rattle.std.specs.Result.{IsErrAnd}
use Rattle.jfs_bits.specs.declared.rule.Rule.{Rule}
use Rattle.jfs_script.specs.declared.error.LineError.{LineError}
use Rattle.jfs_script.specs.declared.error.LineError.TheVariants as errors
use Rattle.jfs_script.specs.Words.{Gives}

pub gives_broken : {X : Type 0} (r : Result X LineError) (rule : Rule) (means : Result X Rule → Type 0) → IsErrAnd r (λ e. e ≡ errors.Broken rule) → means (Err rule) → Gives r means
gives_broken (Ok x) rule means h m = absurd h
gives_broken (Err e) rule means h m = subst (λ (f : LineError). Gives (Err f) means) (sym h) m

pub gives_same : {X A : Type 0} (r : Result X LineError) (e : LineError) (means : Result X Rule → Type 0) (first : Result A Rule → Type 0) → IsErrAnd r (λ f. f ≡ e) → Gives {A = A} (Err e) first → ((rule : Rule) → first (Err rule) → means (Err rule)) → Gives r means
gives_same (Ok x) e means first h g m = absurd h
gives_same (Err f) (errors.Broken rule) means first h g m = subst (λ (f : LineError). Gives (Err f) means) (sym h) (m rule g)
gives_same (Err f) errors.Memory means first h g m = subst (λ (f : LineError). Gives (Err f) means) (sym h) tt
