-- Ranges whose extents were all looked at.
use Rattle.std.proofs.Common.{◌≡◌, ◌≤◌, ◌<◌, sym, ap, ◌∙◌, subst, ℕ, zero, suc, ◌+◌, ◌^◌, ◌==◌, true, List, length, drop, get_or, arith, drop-cons}
use Rattle.std.specs.Prelude.{if◌then◌else◌, false}
use Rattle.std.specs.List.{All}
use Rattle.std.proofs.lemmas.Bool.{le-leb}
use Rattle.jfs_bits.specs.declared.extent.Xad.{Xad}
use Rattle.jfs_xtpage.specs.Page.{end_of, rises_from}
use Rattle.jfs_xtree.specs.CutParts.{AllFrom}
use Rattle.jfs_xtree.specs.Node.{IsGood}
use Rattle.jfs_xtree.specs.Writing.{is_recorded, AllTo}
use Rattle.jfs_put_range.specs.Call.{IsShortRange, LiesFrom}

next : (i : ℕ) → i + 1 ≡ suc i
next i = omega arith

pub from_more : (start : ℕ) (xs : List Xad) (i : ℕ) (d : Xad) → i < length xs → start ≤ (get_or xs i d).offset → AllFrom start (drop (i + 1) xs) → AllFrom start (drop i xs)
from_more start xs i d l h rest = rw (drop-cons xs i d l) (h, subst (λ n. AllFrom start (drop n xs)) (next i) rest)

pub to_more : (bound : ℕ) (xs : List Xad) (i : ℕ) (d : Xad) → i < length xs → end_of (get_or xs i d) ≤ bound → AllTo bound (drop (i + 1) xs) → AllTo bound (drop i xs)
to_more bound xs i d l h rest = rw (drop-cons xs i d l) (h, subst (λ n. AllTo bound (drop n xs)) (next i) rest)

pub rises_on : (xs : List Xad) (i low stop : ℕ) (d : Xad) → i < length xs → low ≤ (get_or xs i d).offset → stop ≡ end_of (get_or xs i d) → rises_from stop (drop (i + 1) xs) ≡ rises_from low (drop i xs)
rises_on xs i low stop d l h e =
    ap (λ n. rises_from stop (drop n xs)) (next i) ∙ ap (λ n. rises_from n (drop (suc i) xs)) e
    ∙ sym (ap (rises_from low) (drop-cons xs i d l) ∙ ap (λ t. if t then rises_from (end_of (get_or xs i d)) (drop (suc i) xs) else false) (le-leb low (get_or xs i d).offset h))

pub some_of : (n : ℕ) → (n == 0) ≡ false → 0 < n
some_of zero h = absurd cc
some_of (suc n) h = omega arith

pub short_range : (start : ℕ) (xs : List Xad) → 0 < length xs → LiesFrom start xs → All (λ x. is_recorded x ≡ true) xs → All (IsGood 8192) xs → All (λ x. end_of x < 2 ^ 40) xs → rises_from 0 xs ≡ true → IsShortRange 8192 xs
short_range start xs some lies recorded good ends rises = record { first = start; lies = lies; some = some; range = record { rises = rises; recorded = recorded; good = good; ends = ends } }
