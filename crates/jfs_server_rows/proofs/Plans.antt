-- Scripts of clients, one after the other, make the plan of a run.
use Rattle.std.proofs.Common.{◌≡◌, ◌<◌, ◌≤◌, ◌+◌, ◌*◌, ℕ, List, [], ◌∷◌, ◌++◌, length, map, refl, sym, ap, subst, arith}
use Rattle.std.proofs.lemmas.List.{length-append, length-map}
use Rattle.std.specs.Global.{Vec}
use Rattle.jfs_plain.specs.declared.call.Line.{Line}
use Rattle.jfs_script.specs.Script.{AllFit}
use Rattle.jfs_run.specs.Tasks.{plan_of, lines_in, PlanFits, IsPlan}

-- so many scripts of calls within the limits, with 4,096 lines each at most
pub record IsFront (clients : ℕ) (scripts : List (Vec Line)) : Type 0 where
  pub fits : PlanFits (plan_of scripts)
  pub many : length scripts ≡ clients
  pub few : lines_in (plan_of scripts) ≤ 4096 * clients

fits_more : (plan : List (List Line)) (lines : List Line) → PlanFits plan → AllFit lines → PlanFits (plan ++ lines ∷ [])
fits_more [] lines fits fit = (fit, tt)
fits_more (x ∷ xs) lines fits fit = (fits.0, fits_more xs lines fits.1 fit)

lines_more : (plan : List (List Line)) (lines : List Line) → lines_in (plan ++ lines ∷ []) ≡ lines_in plan + length lines
lines_more [] lines = omega arith
lines_more (x ∷ xs) lines = let more = lines_more xs lines in omega (arith, more)

map_append : {X Y : Type 0} (f : X → Y) (xs ys : List X) → map f (xs ++ ys) ≡ map f xs ++ map f ys
map_append f [] ys = refl
map_append f (x ∷ xs) ys = ap (λ zs. f x ∷ zs) (map_append f xs ys)

pub no_front : IsFront 0 []
no_front = record { fits = tt; many = refl; few = omega arith }

pub front_more : (i : ℕ) (scripts : List (Vec Line)) (script : Vec Line) → IsFront i scripts → AllFit script.items → length script.items ≤ 4096 → IsFront (i + 1) (scripts ++ script ∷ [])
front_more i scripts script front fit most =
    let more : plan_of (scripts ++ script ∷ []) ≡ plan_of scripts ++ script.items ∷ [] = map_append (λ (v : Vec Line). v.items) scripts (script ∷ []) in
    record {
      fits = subst PlanFits (sym more) (fits_more (plan_of scripts) script.items front.fits fit);
      many = let a = length-append scripts (script ∷ []) in let b = front.many in omega (arith, a, b);
      few = let a = ap lines_in more in let b = lines_more (plan_of scripts) script.items in let c = front.few in omega (arith, a, b, c, most);
    }

pub front_is_plan : (i : ℕ) (scripts : List (Vec Line)) → 0 < i → i ≤ 16 → IsFront i scripts → IsPlan (plan_of scripts)
front_is_plan i scripts some most front = record {
  fit = front.fits;
  clients = let same = length-map scripts (λ (v : Vec Line). v.items) in let many = front.many in (omega (arith, same, many, some), omega (arith, same, many, most));
  few = let f = front.few in omega (arith, f, most);
}
