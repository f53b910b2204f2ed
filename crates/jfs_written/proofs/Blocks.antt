-- A range that is written, block by block.
use Rattle.std.proofs.Common.{◌≡◌, ◌≤◌, ◌<◌, inl, inr, refl, sym, ap, ◌∙◌, ℕ, ◌+◌, ◌-◌, ◌&&◌, Bool, true, false, if◌then◌else◌, List, [], ◌∷◌, ◌++◌, Option, Some, None, arith}
use Rattle.std.specs.Prelude.{nat_le, nat_lt}
use Rattle.std.specs.List.{AllByRecursion as Each}
use Rattle.std.proofs.lemmas.Bool.{le-leb, lt-leb, cases_lt}
use Rattle.std.proofs.lemmas.Bool.Decides.{nat_tests}
use Rattle.std.proofs.lemmas.List.Elements.{recursion_from_All}
use Rattle.jfs_bits.specs.declared.extent.Xad.{Xad}
use Rattle.jfs_xtpage.specs.Page.{end_of, rises_from}
use Rattle.jfs_xtree.specs.Laws.{ends_after}
use Rattle.jfs_xtree.specs.Cutting.{kept_below}
use Rattle.jfs_xtree.specs.CutParts.{AllFrom}
use Rattle.jfs_xtree.specs.Writing.{is_recorded, kept_from, with_written, with_all_written, AllTo, Place, has_block, place_in, place_at, AllLong}
use Rattle.jfs_xtree.proofs.Pages.{rises_less}
use Rattle.jfs_xtree.proofs.CutRows.{kept_append}
use Rattle.jfs_xtree.proofs.WrittenIn.{from_append, from_low}
use Rattle.jfs_xtree.proofs.Written.{writes_its_blocks}
use Rattle.jfs_written.specs.Range.{parts_of}
use Rattle.jfs_written.specs.RangeLaws.{or_else, WritesBlockByBlock}
use Rattle.jfs_written.proofs.Cuts.{Side, before, behind, across, side_of, shorter, later, shorter_ends, later_ends, below_gone, below_whole, below_part, from_gone, from_whole, from_part, below_ends, below_past, from_begins}
use Rattle.jfs_written.proofs.Each.{to_each, all_long, each_part, long_below, long_from, written_long, rises_append}
use Rattle.jfs_written.proofs.Walks.{below_rises, from_rises}

place_both : (a b : List Xad) (k : ℕ) → place_at (a ++ b) k ≡ or_else (place_at a k) (place_at b k)
place_both [] b k = refl
place_both (e ∷ a) b k = by (has_block e k) (place_both a b k)
  where
    by : (t : Bool) → place_at (a ++ b) k ≡ or_else (place_at a k) (place_at b k) → (if t then Some (place_in e k) else place_at (a ++ b) k) ≡ or_else (if t then Some (place_in e k) else place_at a k) (place_at b k)
    by true h = refl
    by false h = h

-- ---- one extent

and_none : (s t : Bool) → t ≡ false → (s && t) ≡ false
and_none true t h = h
and_none false t h = refl

lt_is : (a b : ℕ) → a < b → nat_lt a b ≡ true
lt_is a b h = grind (arith, nat_tests)

ge_is : (a b : ℕ) → b ≤ a → nat_lt a b ≡ false
ge_is a b h = grind (arith, nat_tests)

-- a block before an extent, behind it, or in it
past_one : (x : Xad) (k : ℕ) → end_of x ≤ k → place_at (x ∷ []) k ≡ None
past_one x k l = ap (λ t. if t then Some (place_in x k) else None) (and_none (nat_le x.offset k) (nat_lt k (end_of x)) (ge_is k (end_of x) l))

ahead_one : (x : Xad) (k : ℕ) → k < x.offset → place_at (x ∷ []) k ≡ None
ahead_one x k l = ap (λ t. if t && nat_lt k (end_of x) then Some (place_in x k) else None) (lt-leb x.offset k l)

in_one : (x : Xad) (k : ℕ) → x.offset ≤ k → k < end_of x → place_at (x ∷ []) k ≡ Some (place_in x k)
in_one x k l m = ap (λ t. if t && nat_lt k (end_of x) then Some (place_in x k) else None) (le-leb x.offset k l) ∙ ap (λ t. if t then Some (place_in x k) else None) (lt_is k (end_of x) m)

-- ---- extents below a bound, and from it on

below_same_one : (b k : ℕ) (x : Xad) → k < b → Side b x → place_at (kept_below b (x ∷ [])) k ≡ place_at (x ∷ []) k
below_same_one b k x l (before h) = ap (λ xs. place_at xs k) (below_whole b x h)
below_same_one b k x l (behind h) = ap (λ xs. place_at xs k) (below_gone b x h) ∙ sym (ahead_one x k (omega (arith, l, h)))
below_same_one b k x l (across h m) = ap (λ xs. place_at xs k) (below_part b x h m) ∙ elim (cases_lt k x.offset) [
  | inl n ↦ ahead_one (shorter b x) k n ∙ sym (ahead_one x k n)
  | inr n ↦ in_one (shorter b x) k n (rw (shorter_ends b x h) l) ∙ sym (in_one x k n (omega (arith, l, m)))
]

below_same : (b k : ℕ) (xs : List Xad) → k < b → place_at (kept_below b xs) k ≡ place_at xs k
below_same b k [] l = refl
below_same b k (x ∷ xs) l =
    ap (λ ys. place_at ys k) (kept_append b (x ∷ []) xs) ∙ place_both (kept_below b (x ∷ [])) (kept_below b xs) k
    ∙ ap (λ p. or_else p (place_at (kept_below b xs) k)) (below_same_one b k x l (side_of b x)) ∙ ap (λ p. or_else (place_at (x ∷ []) k) p) (below_same b k xs l)
    ∙ sym (place_both (x ∷ []) xs k)

from_same_one : (b k : ℕ) (x : Xad) → b ≤ k → Side b x → place_at (kept_from b (x ∷ [])) k ≡ place_at (x ∷ []) k
from_same_one b k x l (before h) = ap (λ xs. place_at xs k) (from_gone b x h) ∙ sym (past_one x k (omega (arith, l, h)))
from_same_one b k x l (behind h) = ap (λ xs. place_at xs k) (from_whole b x h)
from_same_one b k x l (across h m) = ap (λ xs. place_at xs k) (from_part b x h m) ∙ elim (cases_lt k (end_of x)) [
  | inl n ↦
      in_one (later b x) k l (rw (later_ends b x m) n)
      ∙ ap (λ (n : ℕ). Some (record { block = n; recorded = is_recorded x })) (let e : x.at.addr + (b - x.offset) + (k - b) ≡ x.at.addr + (k - x.offset) = omega (arith, l, h) in e)
      ∙ sym (in_one x k (omega (arith, l, h)) n)
  | inr n ↦ past_one (later b x) k (rw (later_ends b x m) n) ∙ sym (past_one x k n)
]

from_same : (b k : ℕ) (xs : List Xad) → b ≤ k → place_at (kept_from b xs) k ≡ place_at xs k
from_same b k [] l = refl
from_same b k (x ∷ xs) l =
    ap (λ ys. place_at ys k) (from_append b (x ∷ []) xs) ∙ place_both (kept_from b (x ∷ [])) (kept_from b xs) k
    ∙ ap (λ p. or_else p (place_at (kept_from b xs) k)) (from_same_one b k x l (side_of b x)) ∙ ap (λ p. or_else (place_at (x ∷ []) k) p) (from_same b k xs l)
    ∙ sym (place_both (x ∷ []) xs k)

none_before : (low k : ℕ) (xs : List Xad) → k < low → AllFrom low xs → place_at xs k ≡ None
none_before low k [] l h = refl
none_before low k (x ∷ xs) l h = let g = h.0 in place_both (x ∷ []) xs k ∙ ap (λ p. or_else p (place_at xs k)) (ahead_one x k (omega (arith, l, g))) ∙ none_before low k xs l h.1

none_behind : (top k : ℕ) (xs : List Xad) → top ≤ k → AllTo top xs → place_at xs k ≡ None
none_behind top k [] l h = refl
none_behind top k (x ∷ xs) l h = let g = h.0 in place_both (x ∷ []) xs k ∙ ap (λ p. or_else p (place_at xs k)) (past_one x k (omega (arith, l, g))) ∙ none_behind top k xs l h.1

none_right : (p : Option Place) → or_else p None ≡ p
none_right (Some p) = refl
none_right None = refl

-- the parts have the blocks that the extents have
parts_same : (es xs : List Xad) (k : ℕ) → place_at (parts_of es xs) k ≡ place_at xs k
parts_same [] xs k = refl
parts_same (e ∷ es) xs k =
    place_both (kept_below e.offset xs) (kept_below (end_of e) (kept_from e.offset xs) ++ parts_of es (kept_from (end_of e) xs)) k
    ∙ ap (or_else (place_at (kept_below e.offset xs) k))
    (place_both (kept_below (end_of e) (kept_from e.offset xs)) (parts_of es (kept_from (end_of e) xs)) k ∙ ap (or_else (place_at (kept_below (end_of e) (kept_from e.offset xs)) k)) (parts_same es (kept_from (end_of e) xs) k))
    ∙ elim (cases_lt k e.offset) [ inl l ↦ ahead l | inr l ↦ elim (cases_lt k (end_of e)) [ inl m ↦ within l m | inr m ↦ past l m ] ]
  where
    ahead : k < e.offset → or_else (place_at (kept_below e.offset xs) k) (or_else (place_at (kept_below (end_of e) (kept_from e.offset xs)) k) (place_at (kept_from (end_of e) xs) k)) ≡ place_at xs k
    ahead l =
        let w = ends_after e in
        rw (
          none_before e.offset k (kept_below (end_of e) (kept_from e.offset xs)) l (below_past (end_of e) e.offset (kept_from e.offset xs) (from_begins e.offset xs)),
          none_before (end_of e) k (kept_from (end_of e) xs) (omega (arith, l, w)) (from_begins (end_of e) xs),
        ) (none_right (place_at (kept_below e.offset xs) k) ∙ below_same e.offset k xs l)

    within : e.offset ≤ k → k < end_of e → or_else (place_at (kept_below e.offset xs) k) (or_else (place_at (kept_below (end_of e) (kept_from e.offset xs)) k) (place_at (kept_from (end_of e) xs) k)) ≡ place_at xs k
    within l m =
        rw (none_behind e.offset k (kept_below e.offset xs) l (below_ends e.offset xs), none_before (end_of e) k (kept_from (end_of e) xs) m (from_begins (end_of e) xs))
        (none_right (place_at (kept_below (end_of e) (kept_from e.offset xs)) k) ∙ below_same (end_of e) k (kept_from e.offset xs) m ∙ from_same e.offset k xs l)

    past : e.offset ≤ k → end_of e ≤ k → or_else (place_at (kept_below e.offset xs) k) (or_else (place_at (kept_below (end_of e) (kept_from e.offset xs)) k) (place_at (kept_from (end_of e) xs) k)) ≡ place_at xs k
    past l m =
        rw (none_behind e.offset k (kept_below e.offset xs) l (below_ends e.offset xs), none_behind (end_of e) k (kept_below (end_of e) (kept_from e.offset xs)) m (below_ends (end_of e) (kept_from e.offset xs)))
        (from_same (end_of e) k xs m)

-- the parts rise
pub parts_rise : (low : ℕ) (es xs : List Xad) → rises_from low es ≡ true → rises_from low xs ≡ true → rises_from low (parts_of es xs) ≡ true
parts_rise low [] xs r s = s
parts_rise low (e ∷ es) xs r s =
    let t = rises_less low e es r in
    let w = ends_after e in
    rises_append low e.offset (kept_below e.offset xs) (kept_below (end_of e) (kept_from e.offset xs) ++ parts_of es (kept_from (end_of e) xs)) (below_rises e.offset low xs s) (below_ends e.offset xs) t.0
    (rises_append e.offset (end_of e) (kept_below (end_of e) (kept_from e.offset xs)) (parts_of es (kept_from (end_of e) xs)) (below_rises (end_of e) e.offset (kept_from e.offset xs) (from_rises e.offset low xs s)) (below_ends (end_of e) (kept_from e.offset xs))
    (omega (arith, w)) (parts_rise (end_of e) es (kept_from (end_of e) xs) t.1 (from_rises (end_of e) low xs s)))

-- ---- all parts, one after the other

abbrev Recorded : Xad → Type 0
Recorded x = is_recorded x ≡ true

written_one : (p : Xad) (ps es : List Xad) (k : ℕ) → rises_from (end_of p) ps ≡ true → is_recorded p ≡ true → 1 ≤ p.at.len → AllLong es
    → or_else (place_at ps k) (place_at (with_written p es) k) ≡ or_else (place_at (p ∷ ps) k) (place_at es k)
written_one p ps es k r rec long all = ap (or_else (place_at ps k)) (writes_its_blocks p es rec long all k) ∙ elim (cases_lt k (end_of p)) [
  | inl l ↦ by (has_block p k) (place_at ps k) (none_before (end_of p) k ps l (from_low (end_of p) ps r))
  | inr l ↦ none (has_block p k) (and_none (nat_le p.offset k) (nat_lt k (end_of p)) (ge_is k (end_of p) l))
]
  where
    by : (t : Bool) (q : Option Place) → q ≡ None → or_else q (if t then Some (place_in p k) else place_at es k) ≡ or_else (if t then Some (place_in p k) else q) (place_at es k)
    by true q e = rw e refl
    by false q e = refl

    none : (t : Bool) → t ≡ false → or_else (place_at ps k) (if t then Some (place_in p k) else place_at es k) ≡ or_else (if t then Some (place_in p k) else place_at ps k) (place_at es k)
    none true e = absurd cc
    none false e = refl

all_written : (low : ℕ) (ps es : List Xad) (k : ℕ) → rises_from low ps ≡ true → Each Recorded ps → AllLong ps → AllLong es → place_at (with_all_written ps es) k ≡ or_else (place_at ps k) (place_at es k)
all_written low [] es k r rec long all = refl
all_written low (p ∷ ps) es k r rec long all =
    let t = rises_less low p ps r in
    all_written (end_of p) ps (with_written p es) k t.1 rec.1 long.1 (written_long p es long.0 all) ∙ written_one p ps es k t.1 rec.0 long.0 all

pub writes_range : (xs es : List Xad) → WritesBlockByBlock xs es
writes_range xs es rec long r rises all k =
    all_written 0 (parts_of es xs) es k (parts_rise 0 es xs rises r)
    (each_part Recorded (λ b x h l m. h) (λ b x h l m. h) es xs (recursion_from_All Recorded xs rec))
    (all_long (parts_of es xs) (each_part (λ x. 1 ≤ x.at.len) long_below long_from es xs (to_each xs long))) all
    ∙ ap (λ p. or_else p (place_at es k)) (parts_same es xs k)
