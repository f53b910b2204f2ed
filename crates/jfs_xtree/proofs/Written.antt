-- Written extents, block by block.
use Rattle.std.proofs.Common.{◌≡◌, ◌≤◌, ◌<◌, refl, sym, ap, ◌∙◌, ℕ, ◌+◌, ◌-◌, ◌^◌, ◌==◌, ◌&&◌, Bool, true, false, if◌then◌else◌, List, [], ◌∷◌, ◌++◌, Option, Some, None, arith}
use Rattle.std.specs.Prelude.{nat_le, nat_lt}
use Rattle.std.proofs.lemmas.Bool.{le-leb, lt-leb, leb-true, leb-false, eqb-true}
use Rattle.std.proofs.lemmas.Bool.Decides.{nat_tests}
use Rattle.jfs_bits.specs.declared.extent.Xad.{Xad}
use Rattle.jfs_xtpage.specs.Page.{end_of}
use Rattle.jfs_xtree.specs.Laws.{ends_after}
use Rattle.jfs_xtree.specs.Cutting.{up_to, kept_below}
use Rattle.jfs_xtree.specs.Writing.{is_recorded, from_on, kept_from, is_hole, continues, merged, joined, with_written, Place, has_block, place_in, place_at, AllLong, WritesItsBlocks}

lt_is : (a b : ℕ) → a < b → nat_lt a b ≡ true
lt_is a b h = grind (arith, nat_tests)

ge_is : (a b : ℕ) → b ≤ a → nat_lt a b ≡ false
ge_is a b h = grind (arith, nat_tests)

and_right : (s t : Bool) → t ≡ true → (s && t) ≡ s
and_right true t h = h
and_right false t h = refl

and_none : (s t : Bool) → t ≡ false → (s && t) ≡ false
and_none true t h = h
and_none false t h = refl

and_left : (s t : Bool) → s ≡ true → (s && t) ≡ t
and_left s t h = ap (λ b. b && t) h

and_both : (s t : Bool) → (s && t) ≡ true → (s ≡ true) × (t ≡ true)
and_both true t h = (refl, h)
and_both false t h = absurd cc

-- an extent before a block, and one behind it, doesn't have it
has_before : (e : Xad) (k : ℕ) → end_of e ≤ k → has_block e k ≡ false
has_before e k l = and_none (nat_le e.offset k) (nat_lt k (end_of e)) (ge_is k (end_of e) l)

has_behind : (e : Xad) (k : ℕ) → k < e.offset → has_block e k ≡ false
has_behind e k l = ap (λ t. t && nat_lt k (end_of e)) (lt-leb e.offset k l)

has_from : (e : Xad) (k : ℕ) → k < end_of e → has_block e k ≡ nat_le e.offset k
has_from e k l = and_right (nat_le e.offset k) (nat_lt k (end_of e)) (lt_is k (end_of e) l)

has_to : (e : Xad) (k : ℕ) → e.offset ≤ k → has_block e k ≡ nat_lt k (end_of e)
has_to e k l = and_left (nat_le e.offset k) (nat_lt k (end_of e)) (le-leb e.offset k l)

-- as many blocks as there are from a place to a later one
spans : (from to : ℕ) → from < to → from + (if to - from == 0 then 1 else to - from) ≡ to
spans from to l = grind (arith, nat_tests)

-- ---- the extents below a bound

abbrev shorter : ℕ → Xad → Xad
shorter bound e = record { flag = e.flag; offset = e.offset; at = record { len = bound - e.offset; addr = e.at.addr } }

front_entry : (bound k : ℕ) (e : Xad) (p q : Option Place) (t : Bool) → nat_le (end_of e) bound ≡ t → e.offset < bound → k < bound → p ≡ q
    → (if has_block (if t then e else shorter bound e) k then Some (place_in (if t then e else shorter bound e) k) else p) ≡ (if has_block e k then Some (place_in e k) else q)
front_entry bound k e p q true i l b h = ap (λ r. if has_block e k then Some (place_in e k) else r) h
front_entry bound k e p q false i l b h =
    let past = leb-false (end_of e) bound i in
    let s = spans e.offset bound l in
    ap (λ t. if t then Some (place_in e k) else p) (has_from (shorter bound e) k (omega (arith, s, b)))
    ∙ ap (λ r. if nat_le e.offset k then Some (place_in e k) else r) h
    ∙ ap (λ t. if t then Some (place_in e k) else q) (sym (has_from e k (omega (arith, past, b))))

-- a block below the bound is where it was
below_keeps : (bound k : ℕ) (es : List Xad) → k < bound → place_at (kept_below bound es) k ≡ place_at es k
below_keeps bound k [] b = refl
below_keeps bound k (e ∷ es) b = by (nat_le bound e.offset) refl (below_keeps bound k es b)
  where
    by : (t : Bool) → nat_le bound e.offset ≡ t → place_at (kept_below bound es) k ≡ place_at es k
        → place_at (if t then kept_below bound es else up_to bound e ∷ kept_below bound es) k ≡ (if has_block e k then Some (place_in e k) else place_at es k)
    by true i h = let l = leb-true bound e.offset i in h ∙ ap (λ t. if t then Some (place_in e k) else place_at es k) (sym (has_behind e k (omega (arith, l, b))))
    by false i h = front_entry bound k e (place_at (kept_below bound es) k) (place_at es k) (nat_le (end_of e) bound) refl (leb-false bound e.offset i) b h

front_none : (bound k : ℕ) (e : Xad) (t : Bool) → nat_le (end_of e) bound ≡ t → e.offset < bound → bound ≤ k → has_block (if t then e else shorter bound e) k ≡ false
front_none bound k e true i l b = let h = leb-true (end_of e) bound i in has_before e k (omega (arith, h, b))
front_none bound k e false i l b = let s = spans e.offset bound l in has_before (shorter bound e) k (omega (arith, s, b))

-- and one past it isn't there
below_none : (bound k : ℕ) (es : List Xad) → bound ≤ k → place_at (kept_below bound es) k ≡ None
below_none bound k [] b = refl
below_none bound k (e ∷ es) b = by (nat_le bound e.offset) refl (below_none bound k es b)
  where
    by : (t : Bool) → nat_le bound e.offset ≡ t → place_at (kept_below bound es) k ≡ None → place_at (if t then kept_below bound es else up_to bound e ∷ kept_below bound es) k ≡ None
    by true i h = h
    by false i h = ap (λ t. if t then Some (place_in (up_to bound e) k) else place_at (kept_below bound es) k) (front_none bound k e (nat_le (end_of e) bound) refl (leb-false bound e.offset i) b) ∙ h

-- ---- the extents from a bound on

abbrev later : ℕ → Xad → Xad
later bound e = record { flag = e.flag; offset = bound; at = record { len = end_of e - bound; addr = e.at.addr + (bound - e.offset) } }

same_place : (bound k : ℕ) (e : Xad) → e.offset ≤ bound → bound ≤ k → place_in (later bound e) k ≡ place_in e k
same_place bound k e l b = ap (λ (n : ℕ). record { block = n; recorded = is_recorded e }) (let h : e.at.addr + (bound - e.offset) + (k - bound) ≡ e.at.addr + (k - e.offset) = omega (arith, l, b) in h)

back_entry : (bound k : ℕ) (e : Xad) (p q : Option Place) (t : Bool) → nat_le bound e.offset ≡ t → bound < end_of e → bound ≤ k → p ≡ q
    → (if has_block (if t then e else later bound e) k then Some (place_in (if t then e else later bound e) k) else p) ≡ (if has_block e k then Some (place_in e k) else q)
back_entry bound k e p q true i l b h = ap (λ r. if has_block e k then Some (place_in e k) else r) h
back_entry bound k e p q false i l b h =
    let past = leb-false bound e.offset i in
    ap (λ t. if t then Some (place_in (later bound e) k) else p) (has_to (later bound e) k b ∙ ap (nat_lt k) (spans bound (end_of e) l))
    ∙ ap (λ r. if nat_lt k (end_of e) then Some (place_in (later bound e) k) else r) h
    ∙ ap (λ r. if nat_lt k (end_of e) then Some r else q) (same_place bound k e (omega (arith, past)) b)
    ∙ ap (λ t. if t then Some (place_in e k) else q) (sym (has_to e k (omega (arith, past, b))))

from_keeps : (bound k : ℕ) (es : List Xad) → bound ≤ k → place_at (kept_from bound es) k ≡ place_at es k
from_keeps bound k [] b = refl
from_keeps bound k (e ∷ es) b = by (nat_le (end_of e) bound) refl (from_keeps bound k es b)
  where
    by : (t : Bool) → nat_le (end_of e) bound ≡ t → place_at (kept_from bound es) k ≡ place_at es k
        → place_at (if t then kept_from bound es else from_on bound e ∷ kept_from bound es) k ≡ (if has_block e k then Some (place_in e k) else place_at es k)
    by true i h = let l = leb-true (end_of e) bound i in h ∙ ap (λ t. if t then Some (place_in e k) else place_at es k) (sym (has_before e k (omega (arith, l, b))))
    by false i h = back_entry bound k e (place_at (kept_from bound es) k) (place_at es k) (nat_le bound e.offset) refl (leb-false (end_of e) bound i) b h

back_none : (bound k : ℕ) (e : Xad) (t : Bool) → nat_le bound e.offset ≡ t → k < bound → has_block (if t then e else later bound e) k ≡ false
back_none bound k e true i b = let l = leb-true bound e.offset i in has_behind e k (omega (arith, l, b))
back_none bound k e false i b = has_behind (later bound e) k b

from_none : (bound k : ℕ) (es : List Xad) → k < bound → place_at (kept_from bound es) k ≡ None
from_none bound k [] b = refl
from_none bound k (e ∷ es) b = by (nat_le (end_of e) bound) (from_none bound k es b)
  where
    by : (t : Bool) → place_at (kept_from bound es) k ≡ None → place_at (if t then kept_from bound es else from_on bound e ∷ kept_from bound es) k ≡ None
    by true h = h
    by false h = ap (λ t. if t then Some (place_in (from_on bound e) k) else place_at (kept_from bound es) k) (back_none bound k e (nat_le bound e.offset) refl b) ∙ h

-- ---- one behind others

one_long : (bound : ℕ) (e : Xad) (t : Bool) → e.offset < bound → 1 ≤ e.at.len → 1 ≤ (if t then e else shorter bound e).at.len
one_long bound e true l h = h
one_long bound e false l h = omega (arith, l)

all_long : (bound : ℕ) (es : List Xad) → AllLong es → AllLong (kept_below bound es)
all_long bound [] h = h
all_long bound (e ∷ es) h = by (nat_le bound e.offset) refl (all_long bound es h.1)
  where
    by : (t : Bool) → nat_le bound e.offset ≡ t → AllLong (kept_below bound es) → AllLong (if t then kept_below bound es else up_to bound e ∷ kept_below bound es)
    by true i g = g
    by false i g = (one_long bound e (nat_le (end_of e) bound) (leb-false bound e.offset i) h.0, g)

long_end : (o n : ℕ) → 1 ≤ n → o + (if n == 0 then 1 else n) ≡ o + n
long_end o n l = grind (arith, nat_tests)

-- block `k` of two that are one
merged_place : (e x : Xad) (k : ℕ) → is_recorded x ≡ true → 1 ≤ x.at.len → 1 ≤ e.at.len → continues e x ≡ true
    → (if has_block (merged e x) k then Some (place_in (merged e x) k) else None) ≡ (if has_block e k then Some (place_in e k) else (if has_block x k then Some (place_in x k) else None))
merged_place e x k rx lx le c =
    let a = and_both (is_recorded e) (end_of e == x.offset && (e.at.addr + e.at.len == x.at.addr && nat_lt (e.at.len + x.at.len) (2 ^ 24))) c in
    let b = and_both (end_of e == x.offset) (e.at.addr + e.at.len == x.at.addr && nat_lt (e.at.len + x.at.len) (2 ^ 24)) a.1 in
    let d = and_both (e.at.addr + e.at.len == x.at.addr) (nat_lt (e.at.len + x.at.len) (2 ^ 24)) b.1 in
    let meets = eqb-true (end_of e) x.offset b.0 in
    let goes_on = eqb-true (e.at.addr + e.at.len) x.at.addr d.0 in
    let ends_e = long_end e.offset e.at.len le in
    let ends_x = long_end x.offset x.at.len lx in
    let ends_m = long_end e.offset (e.at.len + x.at.len) (omega (arith, lx)) in
    by (nat_lt k x.offset) refl meets goes_on ends_e ends_x ends_m a.0
  where
    moved : (meets : end_of e ≡ x.offset) → e.at.addr + e.at.len ≡ x.at.addr → end_of e ≡ e.offset + e.at.len → x.offset ≤ k → is_recorded e ≡ true → place_in (merged e x) k ≡ place_in x k
    moved meets goes_on ends_e l re =
        ap (λ (n : ℕ). record { block = n; recorded = is_recorded e }) (let h : e.at.addr + (k - e.offset) ≡ x.at.addr + (k - x.offset) = omega (arith, meets, goes_on, ends_e, l) in h)
        ∙ ap (λ (r : Bool). record { block = x.at.addr + (k - x.offset); recorded = r }) (re ∙ sym rx)

    by : (t : Bool) → nat_lt k x.offset ≡ t → end_of e ≡ x.offset → e.at.addr + e.at.len ≡ x.at.addr → end_of e ≡ e.offset + e.at.len → end_of x ≡ x.offset + x.at.len → end_of (merged e x) ≡ e.offset + (e.at.len + x.at.len) → is_recorded e ≡ true
        → (if has_block (merged e x) k then Some (place_in (merged e x) k) else None) ≡ (if has_block e k then Some (place_in e k) else (if has_block x k then Some (place_in x k) else None))
    by true i meets goes_on ends_e ends_x ends_m re =
        let l : k < x.offset = grind (arith, nat_tests) in
        ap (λ t. if t then Some (place_in e k) else None) (has_from (merged e x) k (omega (arith, l, meets, ends_e, ends_m)))
        ∙ ap (λ r. if nat_le e.offset k then Some (place_in e k) else r) (ap (λ t. if t then Some (place_in x k) else None) (sym (has_behind x k l)))
        ∙ ap (λ t. if t then Some (place_in e k) else (if has_block x k then Some (place_in x k) else None)) (sym (has_from e k (omega (arith, l, meets))))
    by false i meets goes_on ends_e ends_x ends_m re =
        let l : x.offset ≤ k = grind (arith, nat_tests) in
        ap (λ t. if t then Some (place_in (merged e x) k) else None) (has_to (merged e x) k (omega (arith, l, meets, ends_e)) ∙ ap (nat_lt k) (let h : end_of (merged e x) ≡ end_of x = omega (arith, ends_m, ends_x, meets, ends_e) in h))
        ∙ ap (λ r. if nat_lt k (end_of x) then Some r else None) (moved meets goes_on ends_e l re)
        ∙ ap (λ t. if t then Some (place_in x k) else None) (sym (has_to x k l))
        ∙ ap (λ t. if t then Some (place_in e k) else (if has_block x k then Some (place_in x k) else None)) (sym (has_before e k (omega (arith, l, meets))))

joined_place : (a : List Xad) (x : Xad) (k : ℕ) → is_recorded x ≡ true → 1 ≤ x.at.len → AllLong a → place_at (joined a x) k ≡ place_at (a ++ x ∷ []) k
joined_place [] x k rx lx h = refl
joined_place (e ∷ []) x k rx lx h = by (continues e x) refl
  where
    by : (t : Bool) → continues e x ≡ t → place_at (if t then merged e x ∷ [] else e ∷ x ∷ []) k ≡ place_at (e ∷ x ∷ []) k
    by true c = merged_place e x k rx lx h.0 c
    by false c = refl
joined_place (e ∷ f ∷ es) x k rx lx h = ap (λ r. if has_block e k then Some (place_in e k) else r) (joined_place (f ∷ es) x k rx lx h.1)

-- ---- the whole list

-- the first of two, where there is one
abbrev or_else : Option Place → Option Place → Option Place
or_else (Some p) q = Some p
or_else None q = q

place_both : (a b : List Xad) (k : ℕ) → place_at (a ++ b) k ≡ or_else (place_at a k) (place_at b k)
place_both [] b k = refl
place_both (e ∷ a) b k = by (has_block e k) (place_both a b k)
  where
    by : (t : Bool) → place_at (a ++ b) k ≡ or_else (place_at a k) (place_at b k) → (if t then Some (place_in e k) else place_at (a ++ b) k) ≡ or_else (if t then Some (place_in e k) else place_at a k) (place_at b k)
    by true h = refl
    by false h = h

none_right : (p : Option Place) → or_else (or_else p None) None ≡ p
none_right (Some p) = refl
none_right None = refl

front_place : (x : Xad) (a : List Xad) (k : ℕ) (t : Bool) → is_recorded x ≡ true → 1 ≤ x.at.len → AllLong a → place_at (if t then joined a x else a ++ x ∷ []) k ≡ place_at (a ++ x ∷ []) k
front_place x a k true rx lx h = joined_place a x k rx lx h
front_place x a k false rx lx h = refl

in_parts : (x : Xad) (es : List Xad) (k : ℕ) → is_recorded x ≡ true → 1 ≤ x.at.len → AllLong es
    → place_at (with_written x es) k ≡ or_else (or_else (place_at (kept_below x.offset es) k) (if has_block x k then Some (place_in x k) else None)) (place_at (kept_from (end_of x) es) k)
in_parts x es k rx lx long =
    place_both (if is_hole x es then joined (kept_below x.offset es) x else kept_below x.offset es ++ x ∷ []) (kept_from (end_of x) es) k
    ∙ ap (λ p. or_else p (place_at (kept_from (end_of x) es) k)) (front_place x (kept_below x.offset es) k (is_hole x es) rx lx (all_long x.offset es long) ∙ place_both (kept_below x.offset es) (x ∷ []) k)

pub writes_its_blocks : (x : Xad) (es : List Xad) → WritesItsBlocks x es
writes_its_blocks x es rx lx long k = in_parts x es k rx lx long ∙ by (nat_lt k x.offset) (nat_lt k (end_of x)) refl refl
  where
    by : (s t : Bool) → nat_lt k x.offset ≡ s → nat_lt k (end_of x) ≡ t
        → or_else (or_else (place_at (kept_below x.offset es) k) (if has_block x k then Some (place_in x k) else None)) (place_at (kept_from (end_of x) es) k) ≡ (if has_block x k then Some (place_in x k) else place_at es k)
    by true t i j =
        let l : k < x.offset = grind (arith, nat_tests) in
        let none = has_behind x k l in
        let w = ends_after x in
        ap (λ p. or_else (or_else p (if has_block x k then Some (place_in x k) else None)) (place_at (kept_from (end_of x) es) k)) (below_keeps x.offset k es l)
        ∙ ap (λ t. or_else (or_else (place_at es k) (if t then Some (place_in x k) else None)) (place_at (kept_from (end_of x) es) k)) none
        ∙ ap (λ q. or_else (or_else (place_at es k) None) q) (from_none (end_of x) k es (omega (arith, l, w)))
        ∙ none_right (place_at es k)
        ∙ ap (λ t. if t then Some (place_in x k) else place_at es k) (sym none)
    by false true i j =
        let l : x.offset ≤ k = grind (arith, nat_tests) in
        let there = has_to x k l ∙ j in
        ap (λ p. or_else (or_else p (if has_block x k then Some (place_in x k) else None)) (place_at (kept_from (end_of x) es) k)) (below_none x.offset k es l)
        ∙ ap (λ t. or_else (if t then Some (place_in x k) else None) (place_at (kept_from (end_of x) es) k)) there
        ∙ ap (λ t. if t then Some (place_in x k) else place_at es k) (sym there)
    by false false i j =
        let l : x.offset ≤ k = grind (arith, nat_tests) in
        let m : end_of x ≤ k = grind (arith, nat_tests) in
        let none = has_before x k m in
        ap (λ p. or_else (or_else p (if has_block x k then Some (place_in x k) else None)) (place_at (kept_from (end_of x) es) k)) (below_none x.offset k es l)
        ∙ ap (λ t. or_else (if t then Some (place_in x k) else None) (place_at (kept_from (end_of x) es) k)) none
        ∙ from_keeps (end_of x) k es m
        ∙ ap (λ t. if t then Some (place_in x k) else place_at es k) (sym none)
