-- Lists whose extents were all looked at.
use Rattle.std.proofs.Common.{◌≡◌, ◌≤◌, ◌<◌, sym, ap, ◌∙◌, subst, ℕ, suc, ◌+◌, List, length, drop, get_or, arith, drop-cons}
use Rattle.std.specs.Prelude.{if◌then◌else◌, false}
use Rattle.std.proofs.lemmas.Bool.{le-leb}
use Rattle.jfs_bits.specs.declared.extent.Xad.{Xad}
use Rattle.jfs_xtpage.specs.Page.{end_of, rises_from}
use Rattle.jfs_written.specs.xtree.specs.Writing.{AllLong}

next : (i : ℕ) → i + 1 ≡ suc i
next i = omega arith

pub long_more : (xs : List Xad) (i : ℕ) (d : Xad) → i < length xs → 1 ≤ (get_or xs i d).at.len → AllLong (drop (i + 1) xs) → AllLong (drop i xs)
long_more xs i d l h rest = rw (drop-cons xs i d l) (h, subst (λ n. AllLong (drop n xs)) (next i) rest)

pub rises_on : (xs : List Xad) (i low stop : ℕ) (d : Xad) → i < length xs → low ≤ (get_or xs i d).offset → stop ≡ end_of (get_or xs i d) → rises_from stop (drop (i + 1) xs) ≡ rises_from low (drop i xs)
rises_on xs i low stop d l h e =
    ap (λ n. rises_from stop (drop n xs)) (next i) ∙ ap (λ n. rises_from n (drop (suc i) xs)) e
    ∙ sym (ap (rises_from low) (drop-cons xs i d l) ∙ ap (λ t. if t then rises_from (end_of (get_or xs i d)) (drop (suc i) xs) else false) (le-leb low (get_or xs i d).offset h))
