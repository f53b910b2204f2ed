-- Where the records of a text end, behind those of another.
use Rattle.std.proofs.Common.{◌≡◌, ◌+◌, ℕ, List, [], ◌∷◌, ◌++◌, length, map, refl, sym, ap, ◌∙◌, arith}
use Rattle.std.proofs.lemmas.List.{length-append}
use Rattle.jfs_logfmt.specs.declared.log_record.Record.{Record}
use Rattle.jfs_logfmt.specs.Written.{text_of}
use Rattle.jfs_logfmt.proofs.Numbers.{length-text}
use Rattle.jfs_logpages.specs.Records.{size_of, sizes_of, log_text, ends_of}
use Rattle.jfs_logpages.specs.Ring.{ends_with}

pub length-log : (rs : List Record) → length (log_text rs) ≡ sizes_of rs
length-log [] = refl
length-log (r ∷ rs) = omega (arith, length-append (text_of r) (log_text rs), length-text r, length-log rs)

pub ends-append : (from : ℕ) (xs ys : List Record) → ends_of from (xs ++ ys) ≡ ends_of from xs ++ ends_of (from + sizes_of xs) ys
ends-append from [] ys = ap (λ (n : ℕ). ends_of n ys) (omega arith)
ends-append from (x ∷ xs) ys =
    let place : from + size_of x + sizes_of xs ≡ from + (size_of x + sizes_of xs) = omega arith in
    ap (λ (l : List ℕ). (from + size_of x) ∷ l) (ends-append (from + size_of x) xs ys ∙ ap (λ (n : ℕ). ends_of (from + size_of x) xs ++ ends_of n ys) place)

pub ends-shifted : (k m : ℕ) (rs : List Record) → map (λ (e : ℕ). k + e) (ends_of m rs) ≡ ends_of (k + m) rs
ends-shifted k m [] = refl
ends-shifted k m (r ∷ rs) =
    let place : k + (m + size_of r) ≡ k + m + size_of r = omega arith in
    ap (λ (l : List ℕ). (k + (m + size_of r)) ∷ l) (ends-shifted k (m + size_of r) rs) ∙ ap (λ (n : ℕ). n ∷ ends_of n rs) place

-- so the ends of both texts are those of both lists
pub ends-both : (xs ys : List Record) → ends_with (length (log_text xs)) (ends_of 0 xs) (ends_of 0 ys) ≡ ends_of 0 (xs ++ ys)
ends-both xs ys =
    let size : length (log_text xs) + 0 ≡ 0 + sizes_of xs = omega (arith, length-log xs) in
    ap (λ (l : List ℕ). ends_of 0 xs ++ l) (ends-shifted (length (log_text xs)) 0 ys ∙ ap (λ (n : ℕ). ends_of n ys) size) ∙ sym (ends-append 0 xs ys)
