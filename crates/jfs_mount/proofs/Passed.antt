-- How many of the first numbers pass a test, up to the first that doesn't.
use Rattle.std.proofs.Common.{◌≡◌, ◌<◌, ◌≤◌, sym, ap, ◌∙◌, ℕ, Bool, true, false, arith}
use Rattle.std.specs.List.{range_with_len, prefix_len}
use Rattle.std.proofs.lemmas.List.FromFn.{get_or-range_with_len, length-range_with_len}
use Rattle.std.proofs.lemmas.List.Sums.{prefix_len_is, prefix_len_passes}

pub prefix_is : (p : ℕ → Bool) (n j : ℕ) → j ≤ n → ((k : ℕ) → k < j → p k ≡ true) → (j < n → p j ≡ false) → prefix_len p (range_with_len 0 n) ≡ j
prefix_is p n j l all stops =
    let len = length-range_with_len 0 n in
    prefix_len_is p (range_with_len 0 n) j 0 (omega (arith, l, len))
    (λ k h. ap p (get_or-range_with_len 0 n k 0 (omega (arith, h, l)) ∙ omega arith) ∙ all k h)
    (λ h. ap p (get_or-range_with_len 0 n j 0 (omega (arith, h, len)) ∙ omega arith) ∙ stops (omega (arith, h, len)))

pub all_pass : (p : ℕ → Bool) (n j : ℕ) → prefix_len p (range_with_len 0 n) ≡ n → j < n → p j ≡ true
all_pass p n j e l = sym (ap p (get_or-range_with_len 0 n j 0 l ∙ omega arith)) ∙ prefix_len_passes p (range_with_len 0 n) j 0 (omega (arith, e, l))
