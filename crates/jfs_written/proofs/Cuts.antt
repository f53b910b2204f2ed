-- Extents that are cut at blocks of the file, one bound after the other.
use Rattle.std.proofs.Common.{◌≡◌, ◌≤◌, ◌<◌, ◌⊎◌, inl, inr, refl, sym, ap, ◌∙◌, ℕ, ◌+◌, ◌-◌, ◌==◌, if◌then◌else◌, List, [], ◌∷◌, ◌++◌, arith}
use Rattle.std.proofs.lemmas.Bool.{lt-leb, cases_lt}
use Rattle.std.proofs.lemmas.Bool.Decides.{nat_tests}
use Rattle.jfs_bits.specs.declared.extent.Xad.{Xad}
use Rattle.jfs_xtpage.specs.Page.{end_of}
use Rattle.jfs_xtree.specs.Cutting.{kept_below}
use Rattle.jfs_xtree.specs.CutParts.{AllFrom}
use Rattle.jfs_xtree.specs.Writing.{kept_from, AllTo}
use Rattle.jfs_xtree.proofs.CutRows.{kept_none, kept_append}
use Rattle.jfs_xtree.proofs.WrittenIn.{kept_all, from_append, from_none, from_all}

-- as many blocks as there are from a place to a later one
spans : (from to : ℕ) → from < to → from + (if to - from == 0 then 1 else to - from) ≡ to
spans from to l = grind (arith, nat_tests)

abbrev pub extent : ℕ → ℕ → ℕ → ℕ → Xad
extent flag offset len addr = record { flag = flag; offset = offset; at = record { len = len; addr = addr } }

same_extent : (flag offset : ℕ) {l m a b : ℕ} → l ≡ m → a ≡ b → extent flag offset l a ≡ extent flag offset m b
same_extent flag offset e f = rw (e, f) refl

-- what an extent that has the bound within itself has below it, and from it on
abbrev pub shorter : ℕ → Xad → Xad
shorter bound x = extent x.flag x.offset (bound - x.offset) x.at.addr

abbrev pub later : ℕ → Xad → Xad
later bound x = extent x.flag bound (end_of x - bound) (x.at.addr + (bound - x.offset))

pub shorter_ends : (bound : ℕ) (x : Xad) → x.offset < bound → end_of (shorter bound x) ≡ bound
shorter_ends bound x l = spans x.offset bound l

pub later_ends : (bound : ℕ) (x : Xad) → bound < end_of x → end_of (later bound x) ≡ end_of x
later_ends bound x l = spans bound (end_of x) l

-- an extent lies before the bound, from it on, or on both sides
pub data Side (bound : ℕ) (x : Xad) : Type 0 where
  before : end_of x ≤ bound → Side bound x
  behind : bound ≤ x.offset → Side bound x
  across : x.offset < bound → bound < end_of x → Side bound x

pub side_of : (bound : ℕ) (x : Xad) → Side bound x
side_of bound x = elim (cases_lt bound (end_of x)) [
  | inr h ↦ before h
  | inl h ↦ elim (cases_lt x.offset bound) [ inl l ↦ across l h | inr l ↦ behind l ]
]

-- ---- one extent

pub below_gone : (bound : ℕ) (x : Xad) → bound ≤ x.offset → kept_below bound (x ∷ []) ≡ []
below_gone bound x l = kept_none bound (x ∷ []) (l, tt)

pub below_whole : (bound : ℕ) (x : Xad) → end_of x ≤ bound → kept_below bound (x ∷ []) ≡ x ∷ []
below_whole bound x l = kept_all bound (x ∷ []) (l, tt)

pub below_part : (bound : ℕ) (x : Xad) → x.offset < bound → bound < end_of x → kept_below bound (x ∷ []) ≡ shorter bound x ∷ []
below_part bound x l m = rw (lt-leb bound x.offset l, lt-leb (end_of x) bound m) refl

pub from_gone : (bound : ℕ) (x : Xad) → end_of x ≤ bound → kept_from bound (x ∷ []) ≡ []
from_gone bound x l = from_none bound (x ∷ []) (l, tt)

pub from_whole : (bound : ℕ) (x : Xad) → bound ≤ x.offset → kept_from bound (x ∷ []) ≡ x ∷ []
from_whole bound x l = from_all bound (x ∷ []) (l, tt)

pub from_part : (bound : ℕ) (x : Xad) → x.offset < bound → bound < end_of x → kept_from bound (x ∷ []) ≡ later bound x ∷ []
from_part bound x l m = rw (lt-leb (end_of x) bound m, lt-leb bound x.offset l) refl

-- ---- from one bound on, and then from a later one

from_later : (b c : ℕ) (x : Xad) → b ≤ c → x.offset < b → c < end_of x → kept_from c (later b x ∷ []) ≡ later c x ∷ []
from_later b c x l m n = elim (cases_lt b c) [
  | inl h ↦
      from_part c (later b x) h (rw (later_ends b x (omega (arith, l, n))) n)
      ∙ ap (λ y. y ∷ []) (same_extent x.flag c (ap (λ e. e - c) (later_ends b x (omega (arith, l, n)))) (let g : x.at.addr + (b - x.offset) + (c - b) ≡ x.at.addr + (c - x.offset) = omega (arith, l, m) in g))
  | inr h ↦ from_whole c (later b x) h ∙ ap (λ d. later d x ∷ []) (let g : b ≡ c = omega (arith, l, h) in g)
]

from_from_one : (b c : ℕ) (x : Xad) → b ≤ c → kept_from c (kept_from b (x ∷ [])) ≡ kept_from c (x ∷ [])
from_from_one b c x l = by (side_of b x) (side_of c x)
  where
    by : Side b x → Side c x → kept_from c (kept_from b (x ∷ [])) ≡ kept_from c (x ∷ [])
    by (before h) t = ap (kept_from c) (from_gone b x h) ∙ sym (from_gone c x (omega (arith, h, l)))
    by (behind h) t = ap (kept_from c) (from_whole b x h)
    by (across h k) (before m) = ap (kept_from c) (from_part b x h k) ∙ from_gone c (later b x) (let e = later_ends b x k in omega (arith, e, m)) ∙ sym (from_gone c x m)
    by (across h k) (behind m) = absurd (omega (arith, h, l, m))
    by (across h k) (across m n) = ap (kept_from c) (from_part b x h k) ∙ from_later b c x l h n ∙ sym (from_part c x m n)

pub from_from : (b c : ℕ) (xs : List Xad) → b ≤ c → kept_from c (kept_from b xs) ≡ kept_from c xs
from_from b c [] l = refl
from_from b c (x ∷ xs) l =
    ap (kept_from c) (from_append b (x ∷ []) xs) ∙ from_append c (kept_from b (x ∷ [])) (kept_from b xs)
    ∙ ap (λ ys. ys ++ kept_from c (kept_from b xs)) (from_from_one b c x l) ∙ ap (λ ys. kept_from c (x ∷ []) ++ ys) (from_from b c xs l)
    ∙ sym (from_append c (x ∷ []) xs)

-- ---- below one bound, and then below an earlier one

below_shorter : (b c : ℕ) (x : Xad) → c ≤ b → x.offset < c → b < end_of x → kept_below c (shorter b x ∷ []) ≡ shorter c x ∷ []
below_shorter b c x l m n = elim (cases_lt c b) [
  | inl h ↦ below_part c (shorter b x) m (rw (shorter_ends b x (omega (arith, l, m))) h)
  | inr h ↦ below_whole c (shorter b x) (rw (shorter_ends b x (omega (arith, l, m))) h) ∙ ap (λ d. shorter d x ∷ []) (let g : b ≡ c = omega (arith, l, h) in g)
]

below_below_one : (b c : ℕ) (x : Xad) → c ≤ b → kept_below c (kept_below b (x ∷ [])) ≡ kept_below c (x ∷ [])
below_below_one b c x l = by (side_of b x) (side_of c x)
  where
    by : Side b x → Side c x → kept_below c (kept_below b (x ∷ [])) ≡ kept_below c (x ∷ [])
    by (before h) t = ap (kept_below c) (below_whole b x h)
    by (behind h) t = ap (kept_below c) (below_gone b x h) ∙ sym (below_gone c x (omega (arith, h, l)))
    by (across h k) (before m) = absurd (omega (arith, k, l, m))
    by (across h k) (behind m) = ap (kept_below c) (below_part b x h k) ∙ below_gone c (shorter b x) m ∙ sym (below_gone c x m)
    by (across h k) (across m n) = ap (kept_below c) (below_part b x h k) ∙ below_shorter b c x l m k ∙ sym (below_part c x m n)

pub below_below : (b c : ℕ) (xs : List Xad) → c ≤ b → kept_below c (kept_below b xs) ≡ kept_below c xs
below_below b c [] l = refl
below_below b c (x ∷ xs) l =
    ap (kept_below c) (kept_append b (x ∷ []) xs) ∙ kept_append c (kept_below b (x ∷ [])) (kept_below b xs)
    ∙ ap (λ ys. ys ++ kept_below c (kept_below b xs)) (below_below_one b c x l) ∙ ap (λ ys. kept_below c (x ∷ []) ++ ys) (below_below b c xs l)
    ∙ sym (kept_append c (x ∷ []) xs)

-- ---- between two bounds: either cut may come first

between_across : (c b : ℕ) (x : Xad) → c ≤ b → x.offset < b → b < end_of x → x.offset < c → c < end_of x → kept_from c (shorter b x ∷ []) ≡ kept_below b (later c x ∷ [])
between_across c b x l h k m n = elim (cases_lt c b) [
  | inl p ↦
      from_part c (shorter b x) m (rw (shorter_ends b x h) p)
      ∙ ap (λ y. y ∷ []) (same_extent x.flag c (ap (λ e. e - c) (shorter_ends b x h)) refl)
      ∙ sym (below_part b (later c x) p (rw (later_ends c x n) k))
  | inr p ↦ from_gone c (shorter b x) (rw (shorter_ends b x h) p) ∙ sym (below_gone b (later c x) p)
]

between_one : (c b : ℕ) (x : Xad) → c ≤ b → kept_from c (kept_below b (x ∷ [])) ≡ kept_below b (kept_from c (x ∷ []))
between_one c b x l = by (side_of b x) (side_of c x)
  where
    by : Side b x → Side c x → kept_from c (kept_below b (x ∷ [])) ≡ kept_below b (kept_from c (x ∷ []))
    by (before h) (before m) = ap (kept_from c) (below_whole b x h) ∙ from_gone c x m ∙ sym (ap (kept_below b) (from_gone c x m))
    by (before h) (behind m) = ap (kept_from c) (below_whole b x h) ∙ from_whole c x m ∙ sym (ap (kept_below b) (from_whole c x m) ∙ below_whole b x h)
    by (before h) (across m n) = ap (kept_from c) (below_whole b x h) ∙ from_part c x m n ∙ sym (ap (kept_below b) (from_part c x m n) ∙ below_whole b (later c x) (rw (later_ends c x n) h))
    by (behind h) t = ap (kept_from c) (below_gone b x h) ∙ sym (ap (kept_below b) (from_whole c x (omega (arith, h, l))) ∙ below_gone b x h)
    by (across h k) (before m) = absurd (omega (arith, k, l, m))
    by (across h k) (behind m) = ap (kept_from c) (below_part b x h k) ∙ from_whole c (shorter b x) m ∙ sym (ap (kept_below b) (from_whole c x m) ∙ below_part b x h k)
    by (across h k) (across m n) = ap (kept_from c) (below_part b x h k) ∙ between_across c b x l h k m n ∙ sym (ap (kept_below b) (from_part c x m n))

pub between : (c b : ℕ) (xs : List Xad) → c ≤ b → kept_from c (kept_below b xs) ≡ kept_below b (kept_from c xs)
between c b [] l = refl
between c b (x ∷ xs) l =
    ap (kept_from c) (kept_append b (x ∷ []) xs) ∙ from_append c (kept_below b (x ∷ [])) (kept_below b xs)
    ∙ ap (λ ys. ys ++ kept_from c (kept_below b xs)) (between_one c b x l) ∙ ap (λ ys. kept_below b (kept_from c (x ∷ [])) ++ ys) (between c b xs l)
    ∙ sym (ap (kept_below b) (from_append c (x ∷ []) xs) ∙ kept_append b (kept_from c (x ∷ [])) (kept_from c xs))

-- ---- where what is kept lies

pub all_to_append : (bound : ℕ) (a b : List Xad) → AllTo bound a → AllTo bound b → AllTo bound (a ++ b)
all_to_append bound [] b h g = g
all_to_append bound (x ∷ a) b h g = (h.0, all_to_append bound a b h.1 g)

pub all_from_append : (bound : ℕ) (a b : List Xad) → AllFrom bound a → AllFrom bound b → AllFrom bound (a ++ b)
all_from_append bound [] b h g = g
all_from_append bound (x ∷ a) b h g = (h.0, all_from_append bound a b h.1 g)

below_to_one : (b top : ℕ) (x : Xad) → (end_of x ≤ top) ⊎ (b ≤ top) → Side b x → AllTo top (kept_below b (x ∷ []))
below_to_one b top x (inl l) (before h) = rw (below_whole b x h) (l, tt)
below_to_one b top x (inr l) (before h) = rw (below_whole b x h) (omega (arith, h, l), tt)
below_to_one b top x l (behind h) = rw (below_gone b x h) tt
below_to_one b top x (inl l) (across h k) = rw (below_part b x h k) (rw (shorter_ends b x h) (omega (arith, l, k)), tt)
below_to_one b top x (inr l) (across h k) = rw (below_part b x h k) (rw (shorter_ends b x h) l, tt)

-- what is kept below a bound ends at or before it
pub below_ends : (b : ℕ) (xs : List Xad) → AllTo b (kept_below b xs)
below_ends b [] = tt
below_ends b (x ∷ xs) = rw (kept_append b (x ∷ []) xs) (all_to_append b (kept_below b (x ∷ [])) (kept_below b xs) (below_to_one b b x (inr (omega arith)) (side_of b x)) (below_ends b xs))

pub below_to : (b top : ℕ) (xs : List Xad) → AllTo top xs → AllTo top (kept_below b xs)
below_to b top [] h = tt
below_to b top (x ∷ xs) h = rw (kept_append b (x ∷ []) xs) (all_to_append top (kept_below b (x ∷ [])) (kept_below b xs) (below_to_one b top x (inl h.0) (side_of b x)) (below_to b top xs h.1))

from_to_one : (b top : ℕ) (x : Xad) → end_of x ≤ top → Side b x → AllTo top (kept_from b (x ∷ []))
from_to_one b top x l (before h) = rw (from_gone b x h) tt
from_to_one b top x l (behind h) = rw (from_whole b x h) (l, tt)
from_to_one b top x l (across h k) = rw (from_part b x h k) (rw (later_ends b x k) l, tt)

pub from_to : (b top : ℕ) (xs : List Xad) → AllTo top xs → AllTo top (kept_from b xs)
from_to b top [] h = tt
from_to b top (x ∷ xs) h = rw (from_append b (x ∷ []) xs) (all_to_append top (kept_from b (x ∷ [])) (kept_from b xs) (from_to_one b top x h.0 (side_of b x)) (from_to b top xs h.1))

from_from_low : (b low : ℕ) (x : Xad) → (low ≤ x.offset) ⊎ (low ≤ b) → Side b x → AllFrom low (kept_from b (x ∷ []))
from_from_low b low x l (before h) = rw (from_gone b x h) tt
from_from_low b low x (inl l) (behind h) = rw (from_whole b x h) (l, tt)
from_from_low b low x (inr l) (behind h) = rw (from_whole b x h) (omega (arith, l, h), tt)
from_from_low b low x (inl l) (across h k) = rw (from_part b x h k) (omega (arith, l, h), tt)
from_from_low b low x (inr l) (across h k) = rw (from_part b x h k) (l, tt)

-- what is kept from a bound on begins at or past it
pub from_begins : (b : ℕ) (xs : List Xad) → AllFrom b (kept_from b xs)
from_begins b [] = tt
from_begins b (x ∷ xs) = rw (from_append b (x ∷ []) xs) (all_from_append b (kept_from b (x ∷ [])) (kept_from b xs) (from_from_low b b x (inr (omega arith)) (side_of b x)) (from_begins b xs))

pub from_past : (b low : ℕ) (xs : List Xad) → AllFrom low xs → AllFrom low (kept_from b xs)
from_past b low [] h = tt
from_past b low (x ∷ xs) h = rw (from_append b (x ∷ []) xs) (all_from_append low (kept_from b (x ∷ [])) (kept_from b xs) (from_from_low b low x (inl h.0) (side_of b x)) (from_past b low xs h.1))

below_from_one : (b low : ℕ) (x : Xad) → low ≤ x.offset → Side b x → AllFrom low (kept_below b (x ∷ []))
below_from_one b low x l (before h) = rw (below_whole b x h) (l, tt)
below_from_one b low x l (behind h) = rw (below_gone b x h) tt
below_from_one b low x l (across h k) = rw (below_part b x h k) (l, tt)

pub below_past : (b low : ℕ) (xs : List Xad) → AllFrom low xs → AllFrom low (kept_below b xs)
below_past b low [] h = tt
below_past b low (x ∷ xs) h = rw (kept_append b (x ∷ []) xs) (all_from_append low (kept_below b (x ∷ [])) (kept_below b xs) (below_from_one b low x h.0 (side_of b x)) (below_past b low xs h.1))
