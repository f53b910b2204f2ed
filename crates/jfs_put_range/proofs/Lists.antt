-- Lists of extents that a range is written into: what each extent of them is.
use Rattle.std.proofs.Common.{◌≡◌, ◌≤◌, ◌<◌, ℕ, ◌+◌, Bool, true, false, if◌then◌else◌, List, [], ◌∷◌, ◌++◌, length, arith}
use Rattle.std.specs.List.{All, AllByRecursion as Each}
use Rattle.std.proofs.lemmas.List.Elements.{recursion_from_All}
use Rattle.jfs_bits.specs.declared.extent.Xad.{Xad}
use Rattle.jfs_xtpage.specs.Page.{end_of, rises_from}
use Rattle.jfs_xtree.specs.Cutting.{kept_below}
use Rattle.jfs_xtree.specs.CutParts.{AllFrom}
use Rattle.jfs_xtree.specs.Node.{IsGood}
use Rattle.jfs_xtree.specs.Writing.{is_hole, continues, joined, kept_from, with_written, with_all_written, AllLong}
use Rattle.jfs_written.specs.Range.{parts_of, with_range}
use Rattle.jfs_written.proofs.Counts.{adds_few}
use Rattle.jfs_put_range.specs.Call.{IsShortRange}
use Rattle.jfs_put_range.specs.Parts.{IsPart}

-- ---- the range

long_each : (blocks : ℕ) (xs : List Xad) → Each (IsGood blocks) xs → AllLong xs
long_each blocks [] h = tt
long_each blocks (x ∷ xs) h = (h.0.some, long_each blocks xs h.1)

pub good_long : (blocks : ℕ) (xs : List Xad) → All (IsGood blocks) xs → AllLong xs
good_long blocks xs h = long_each blocks xs (recursion_from_All (IsGood blocks) xs h)

pub from_start : (xs : List Xad) → AllFrom 0 xs
from_start [] = tt
from_start (x ∷ xs) = (omega arith, from_start xs)

pub as_part : (blocks : ℕ) (xs : List Xad) → IsShortRange blocks xs → IsPart blocks xs
as_part blocks xs range = record { first = range.first; lies = range.lies; range = range.range }

pub range_few : (blocks : ℕ) (xs entries : List Xad) → IsShortRange blocks xs → rises_from 0 entries ≡ true → length (with_range xs entries) ≤ length entries + 18
range_few blocks xs entries range order = let h = adds_few xs entries range.first 17 range.lies.from range.lies.to order in omega (arith, h)

-- ---- a list with a range isn't empty

some_more : (x : Xad) (xs : List Xad) → 0 < length (x ∷ xs)
some_more x xs = omega arith

some_front : (a b : List Xad) → 0 < length a → 0 < length (a ++ b)
some_front [] b h = absurd (omega (arith, h))
some_front (x ∷ a) b h = some_more x (a ++ b)

some_last : (a : List Xad) (x : Xad) → 0 < length (a ++ x ∷ [])
some_last [] x = some_more x []
some_last (y ∷ a) x = some_more y (a ++ x ∷ [])

some_joined : (a : List Xad) (x : Xad) → 0 < length (joined a x)
some_joined [] x = some_more x []
some_joined (e ∷ []) x = by (continues e x)
  where
    by : (t : Bool) → 0 < length (if t then record { flag = e.flag; offset = e.offset; at = record { len = e.at.len + x.at.len; addr = e.at.addr } } ∷ [] else e ∷ x ∷ [])
    by true = omega arith
    by false = omega arith
some_joined (e ∷ f ∷ a) x = some_more e (joined (f ∷ a) x)

some_written : (x : Xad) (es : List Xad) → 0 < length (with_written x es)
some_written x es = some_front (if is_hole x es then joined (kept_below x.offset es) x else kept_below x.offset es ++ x ∷ []) (kept_from (end_of x) es) (by (is_hole x es))
  where
    by : (t : Bool) → 0 < length (if t then joined (kept_below x.offset es) x else kept_below x.offset es ++ x ∷ [])
    by true = some_joined (kept_below x.offset es) x
    by false = some_last (kept_below x.offset es) x

some_all : (ps es : List Xad) → 0 < length es → 0 < length (with_all_written ps es)
some_all [] es h = h
some_all (p ∷ ps) es h = some_all ps (with_written p es) (some_written p es)

pub some_range : (xs es : List Xad) → 0 < length xs → 0 < length (with_range xs es)
some_range [] es h = absurd (omega (arith, h))
some_range (x ∷ xs) [] h = some_all xs (with_written x []) (some_written x [])
some_range (x ∷ xs) (e ∷ es) h = some_all (parts_of (e ∷ es) (x ∷ xs)) (e ∷ es) (some_more e es)
