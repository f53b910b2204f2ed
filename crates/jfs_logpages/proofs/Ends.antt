-- The greatest end up to a place.
use Rattle.std.proofs.Common.{◌≡◌, ◌≤◌, ℕ, max, List, [], ◌∷◌, Bool, true, false, nat_le, if◌then◌else◌, refl, arith}
use Rattle.std.proofs.lemmas.Bool.{leb-true, leb-false, le-leb, lt-leb}
use Rattle.jfs_logpages.specs.Ring.{last_end}

pub last_end-within : (es : List ℕ) (u : ℕ) → last_end es u ≤ u
last_end-within [] u = omega arith
last_end-within (e ∷ es) u = by (last_end-within es u) (nat_le e u) refl
  where
    by : last_end es u ≤ u → (b : Bool) → nat_le e u ≡ b → (if b then max e (last_end es u) else last_end es u) ≤ u
    by rest true h = omega (arith, leb-true e u h, rest)
    by rest false h = rest

-- nothing ends between two places
pub last_end-lower : (es : List ℕ) (v u : ℕ) → v ≤ u → last_end es u ≤ v → last_end es v ≡ last_end es u
last_end-lower [] v u h g = refl
last_end-lower (e ∷ es) v u h g = by (λ k. last_end-lower es v u h k) (nat_le e u) refl g
  where
    by : (last_end es u ≤ v → last_end es v ≡ last_end es u) → (b : Bool) → nat_le e u ≡ b → (if b then max e (last_end es u) else last_end es u) ≤ v
        → (if nat_le e v then max e (last_end es v) else last_end es v) ≡ (if b then max e (last_end es u) else last_end es u)
    by rest true t within =
        let same : last_end es v ≡ last_end es u = rest (omega (arith, within)) in
        rw (le-leb e v (omega (arith, within)), same) refl
    by rest false t within = rw (lt-leb e v (omega (arith, leb-false e u t))) (rest within)
