-- Scripts that are generated one after the other.
use Rattle.std.proofs.Common.{◌≡◌, ◌<◌, ◌≤◌, ◌+◌, ◌-◌, ◌*◌, ℕ, suc, List, [], ◌∷◌, ◌++◌, length, refl, sym, ap, subst, ◌∙◌, arith, append_assoc}
use Rattle.std.proofs.lemmas.List.{append-nil, length-append}
use Rattle.std.specs.Global.{Vec}
use Rattle.jfs_gen.specs.Workload.{lines_of}
use Rattle.jfs_gen.specs.Limits.{AllFit}
use Rattle.jfs_plain.specs.declared.call.Line.{Line}
use Rattle.jfs_run.specs.Tasks.{plan_of, lines_in, PlanFits, IsPlan}
use Rattle.jfs_command.specs.Order.{scripts_from}
use Rattle.jfs_command.proofs.Scripted.{map_append, fits_more, lines_more, few_clients}

-- so many scripts were made, and with those that are left they are all
pub record IsMade (number calls clients i : ℕ) (plan : List (Vec Line)) : Type 0 where
  pub so_far : plan_of plan ++ scripts_from number calls (i + 1) (clients - i) ≡ scripts_from number calls 1 clients
  pub fits : PlanFits (plan_of plan)
  pub many : length plan ≡ i
  pub few : lines_in (plan_of plan) ≤ 4096 * i

pub none_made : (number calls clients : ℕ) → IsMade number calls clients 0 []
none_made number calls clients =
    let all : clients - 0 ≡ clients = omega arith in
    let first : 0 + 1 ≡ 1 = omega arith in
    record { so_far = ap (λ (n : ℕ). scripts_from number calls n (clients - 0)) first ∙ ap (λ (n : ℕ). scripts_from number calls 1 n) all; fits = tt; many = refl; few = omega arith }

pub one_made : (number calls clients i : ℕ) (plan : List (Vec Line)) (script : Vec Line) → i < clients → calls ≤ 4094 → IsMade number calls clients i plan
    → script.items ≡ lines_of number (i + 1) calls → AllFit script.items → length script.items ≡ calls + 2 → IsMade number calls clients (i + 1) (plan ++ script ∷ [])
one_made number calls clients i plan script less most made is fit count =
    let left : clients - i ≡ suc (clients - (i + 1)) = omega (arith, less) in
    let next : i + 1 + 1 ≡ suc (i + 1) = omega arith in
    let more : plan_of (plan ++ script ∷ []) ≡ plan_of plan ++ script.items ∷ [] = map_append (λ (v : Vec Line). v.items) plan (script ∷ []) in
    let rest = scripts_from number calls (suc (i + 1)) (clients - (i + 1)) in
    record {
      so_far = ap (λ (n : ℕ). plan_of (plan ++ script ∷ []) ++ scripts_from number calls n (clients - (i + 1))) next
          ∙ ap (λ (p : List (List Line)). p ++ rest) more ∙ append_assoc (plan_of plan) (script.items ∷ []) rest
          ∙ ap (λ (l : List Line). plan_of plan ++ l ∷ rest) is
          ∙ sym (ap (λ (n : ℕ). plan_of plan ++ scripts_from number calls (i + 1) n) left) ∙ made.so_far;
      fits = subst PlanFits (sym more) (fits_more (plan_of plan) script.items made.fits fit);
      many = let a = length-append plan (script ∷ []) in let b = made.many in omega (arith, a, b);
      few = let a = ap lines_in more in let b = lines_more (plan_of plan) script.items in let c = made.few in omega (arith, a, b, c, count, most);
    }

pub all_made : (number calls clients i : ℕ) (plan : List (Vec Line)) → clients ≤ i → i ≤ clients → IsMade number calls clients i plan → plan_of plan ≡ scripts_from number calls 1 clients
all_made number calls clients i plan past most made =
    let none : clients - i ≡ 0 = omega (arith, past) in
    sym (ap (λ (n : ℕ). plan_of plan ++ scripts_from number calls (i + 1) n) none ∙ append-nil (plan_of plan)) ∙ made.so_far

pub made_plan : (number calls clients i : ℕ) (plan : List (Vec Line)) → 0 < i → i ≤ 16 → IsMade number calls clients i plan → IsPlan (plan_of plan)
made_plan number calls clients i plan some most made = record {
  fit = made.fits;
  clients = few_clients plan i made.many some most;
  few = let f = made.few in omega (arith, f, most);
}
