-- The greater of two numbers, and lengths of fronts.
use Rattle.std.proofs.Common.{◌≡◌, ◌≤◌, ℕ, max, List, length, ap, arith}
use Rattle.std.proofs.lemmas.List.{length-append}
use Rattle.jfs_turns.specs.Lists.{IsPrefix}
use Rattle.jfs_groups.proofs.Leading.{max_is}

-- a bound that was exact at most, and is raised on both sides
pub raised_max : (a b n : ℕ) → a ≤ b → b ≤ n → max (max a b) (max b n) ≡ n
raised_max a b n first then =
    let x = max_is a b first in
    let y = max_is b n then in
    let z = max_is (max a b) (max b n) (omega (arith, x, y)) in
    omega (arith, z, y)

pub raised_thrice : (a b n : ℕ) → a ≤ b → b ≤ n → max (max (max a b) n) (max b n) ≡ n
raised_thrice a b n first then =
    let x = max_is a b first in
    let y = max_is b n then in
    let w = max_is (max a b) n (omega (arith, x)) in
    let z = max_is (max (max a b) n) (max b n) (omega (arith, w, y)) in
    omega (arith, z, y)

pub front_is_short : {A : Type 0} (xs ys : List A) → IsPrefix xs ys → length xs ≤ length ys
front_is_short xs ys p = omega (arith, ap (λ l. length l) p.1, length-append xs p.0)
