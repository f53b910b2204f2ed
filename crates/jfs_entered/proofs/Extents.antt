-- The inode extents that a transaction adds, and the pages that it tells.
use Rattle.std.proofs.Common.{◌≡◌, ◌<◌, ◌≤◌, ◌⊎◌, inl, inr, refl, sym, ap, ◌∙◌, subst, ℕ, ◌+◌, ◌-◌, ◌*◌, Bool, true, false, true≢false, ◌&&◌, ◌==◌, nat_lt, if◌then◌else◌, List, [], ◌∷◌, length, set, Option, Some, arith, eqb-true, mul_comm, add-zero}
use Rattle.std.specs.List.{AllByRecursion}
use Rattle.std.proofs.lemmas.Bool.{or_cases, and_parts, ltb-true}
use Rattle.jfs_bits.specs.Line.{line_size}
use Rattle.jfs_bits.specs.declared.rule.PageKind.{PageKind}
use Rattle.jfs_bits.specs.declared.rule.PageKind.TheVariants as kinds
use Rattle.jfs_ranges.specs.declared.edit.Edit.{Edit}
use Rattle.jfs_ranges.specs.declared.edit.Edit.TheVariants.{Lines, NoRedo, Alloc, Free}
use Rattle.jfs_ranges.specs.Apply.{place_of_line, touches_edit, touches_tx}
use Rattle.jfs_marks.specs.records.specs.declared.note.Note.{Note}
use Rattle.jfs_marks.specs.records.specs.Records.{noted}
use Rattle.jfs_marks.specs.records.specs.Limits.{AreLines, IsLoggable}
use Rattle.jfs_marks.specs.records.specs.Marks.{is_new_extent}
use Rattle.jfs_marks.specs.steps.specs.After.{is_extent, place_in, extents_after}
use Rattle.jfs_marks.specs.declared.founded.Founded.{Founded}
use Rattle.jfs_marks.specs.declared.founded.NewExtent.{NewExtent}
use Rattle.jfs_marks.specs.declared.founded.Founded.TheVariants.{Nothing, One, Several}
use Rattle.jfs_marks.specs.Founded.{and_extent, founded_with}
use Rattle.jfs_entered.proofs.Noted.{Visits, VisitsBy}

-- ---- what is founded

-- more edits after several leave several
several : (es : List Edit) → founded_with es Several ≡ Several
several [] = refl
several (Lines page kind first bytes ∷ es) = by (is_extent kind first bytes) (several es)
  where
    by : (x : Bool) → founded_with es Several ≡ Several → founded_with es (if x then and_extent (place_in bytes) page Several else Several) ≡ Several
    by true rest = rest
    by false rest = rest
several (NoRedo page ∷ es) = several es
several (Alloc run ∷ es) = several es
several (Free run ∷ es) = several es

-- nothing was founded before, nor is by these edits
abbrev pub NoneFounded : List Edit → Founded → Type 0
NoneFounded es f = (f ≡ Nothing) × ((extents : List (Option ℕ)) → extents_after es extents ≡ extents)

pub none_founded : (es : List Edit) (f : Founded) → founded_with es f ≡ Nothing → NoneFounded es f
none_founded [] f e = (e, λ extents. refl)
none_founded (Lines page kind first bytes ∷ es) f e = by (is_extent kind first bytes) f e (λ g h. none_founded es g h)
  where
    by : (x : Bool) (f : Founded) → founded_with es (if x then and_extent (place_in bytes) page f else f) ≡ Nothing → ((g : Founded) → founded_with es g ≡ Nothing → NoneFounded es g)
        → (f ≡ Nothing) × ((extents : List (Option ℕ)) → extents_after es (if x then set extents (place_in bytes) (Some page) else extents) ≡ extents)
    by false f e rest = rest f e
    by true Nothing e rest = let h = (rest (One (record { place = place_in bytes; first = page })) e).0 in absurd (cc (h))
    by true (One y) e rest = let h = (rest Several e).0 in absurd (cc (h))
    by true Several e rest = let h = (rest Several e).0 in absurd (cc (h))
none_founded (NoRedo page ∷ es) f e = none_founded es f e
none_founded (Alloc run ∷ es) f e = none_founded es f e
none_founded (Free run ∷ es) f e = none_founded es f e

-- one is by these edits, or was before
pub record FoundedBy (es : List Edit) (x : NewExtent) : Type 0 where
  pub extents : (extents : List (Option ℕ)) → extents_after es extents ≡ set extents x.place (Some x.first)
  pub visits : (d : ℕ) → d < 4 → Visits (x.first + d) es

abbrev pub OneFounded : List Edit → Founded → NewExtent → Type 0
OneFounded es f x = ((f ≡ Nothing) × FoundedBy es x) ⊎ ((f ≡ One x) × ((extents : List (Option ℕ)) → extents_after es extents ≡ extents))

-- an edit that adds none
passed : (e : Edit) (es : List Edit) (f : Founded) (x : NewExtent) → ((extents : List (Option ℕ)) → extents_after (e ∷ es) extents ≡ extents_after es extents) → OneFounded es f x → OneFounded (e ∷ es) f x
passed e es f x same (inl h) = inl (h.0, record { extents = λ extents. same extents ∙ h.1.extents extents; visits = λ d l. inr (h.1.visits d l) })
passed e es f x same (inr h) = inr (h.0, λ extents. same extents ∙ h.1 extents)

-- one that adds this
adds : (page first : ℕ) (kind : PageKind) (bytes : List ℕ) (es : List Edit) (x : NewExtent) → is_extent kind first bytes ≡ true → OneFounded es (One (record { place = place_in bytes; first = page })) x → FoundedBy (Lines page kind first bytes ∷ es) x
adds page first kind bytes es x e (inl h) = let g = h.0 in absurd (cc (g))
adds page first kind bytes es x e (inr h) = record {
  extents = λ extents. ap (λ (b : Bool). extents_after es (if b then set extents (place_in bytes) (Some page) else extents)) e ∙ h.1 (set extents (place_in bytes) (Some page))
      ∙ ap (λ (y : NewExtent). set extents y.place (Some y.first)) same;
  visits = λ d l. inl (record {
    place = d;
    few = subst (λ (b : Bool). d < (if b then 4 else 1)) (sym e) l;
    is = ap (λ (y : NewExtent). y.first + d) (sym same);
  });
}
  where
    same : record { place = place_in bytes; first = page } ≡ x
    same = let g = h.0 in cc (g)

pub one_founded : (es : List Edit) (f : Founded) (x : NewExtent) → founded_with es f ≡ One x → OneFounded es f x
one_founded [] f x e = inr (e, λ extents. refl)
one_founded (Lines page kind first bytes ∷ es) f x e = by (is_extent kind first bytes) refl f e (λ g h. one_founded es g x h)
  where
    by : (b : Bool) → is_extent kind first bytes ≡ b → (f : Founded) → founded_with es (if b then and_extent (place_in bytes) page f else f) ≡ One x → ((g : Founded) → founded_with es g ≡ One x → OneFounded es g x)
        → OneFounded (Lines page kind first bytes ∷ es) f x
    by false is f e rest = passed (Lines page kind first bytes) es f x (λ extents. ap (λ (b : Bool). extents_after es (if b then set extents (place_in bytes) (Some page) else extents)) is) (rest f e)
    by true is Nothing e rest = inl (refl, adds page first kind bytes es x is (rest (One (record { place = place_in bytes; first = page })) e))
    by true is (One y) e rest = let h = sym (several es) ∙ e in absurd (cc (h))
    by true is Several e rest = let h = sym (several es) ∙ e in absurd (cc (h))
one_founded (NoRedo page ∷ es) f x e = passed (NoRedo page) es f x (λ extents. refl) (one_founded es f x e)
one_founded (Alloc run ∷ es) f x e = passed (Alloc run) es f x (λ extents. refl) (one_founded es f x e)
one_founded (Free run ∷ es) f x e = passed (Free run) es f x (λ extents. refl) (one_founded es f x e)

-- ---- edits that can be logged

-- lines of four pages are all the lines of a new inode extent
record IsShort (blocks : ℕ) (kind : PageKind) (page first : ℕ) (bytes : List ℕ) : Type 0 where
  pub same : is_new_extent kind bytes ≡ is_extent kind first bytes
  pub within : is_extent kind first bytes ≡ true → page + 4 ≤ blocks
  pub told : (p : ℕ) → touches_edit p (Lines page kind first bytes) ≡ true → VisitsBy p (Lines page kind first bytes)

four_lines : (blocks page first : ℕ) (bytes : List ℕ) → first ≡ 0 → length bytes ≡ 16384 → page + 4 ≤ blocks → IsShort blocks kinds.Inode page first bytes
unfolding place_of_line
four_lines blocks page first bytes e l h = record {
  same = ap (λ (n : ℕ). n == 16384) l ∙ sym (is);
  within = λ x. h;
  told = λ p t. (let lt = ltb-true (4096 * page + 128 * first) (4096 * p + 4096) (and_parts (nat_lt (4096 * page + 128 * first) (4096 * p + 4096)) (nat_lt (4096 * p - (4096 * page + 128 * first)) (length bytes)) t).0 in
      let gt = ltb-true (4096 * p - (4096 * page + 128 * first)) (length bytes) (and_parts (nat_lt (4096 * page + 128 * first) (4096 * p + 4096)) (nat_lt (4096 * p - (4096 * page + 128 * first)) (length bytes)) t).1 in
      record { place = p - page; few = subst (λ (b : Bool). p - page < (if b then 4 else 1)) (sym is) (omega (arith, lt, gt, e, l)); is = omega (arith, lt, gt, e, l) });
}
  where
    is : is_extent kinds.Inode first bytes ≡ true
    is = rw (e, l) refl

never_same : (n m : ℕ) → n < m → (n == m) ≡ false
never_same n m l = by (n == m) (λ e. eqb-true n m e)
  where
    by : (x : Bool) → (x ≡ true → n ≡ m) → x ≡ false
    by true h = absurd (omega (arith, h refl, l))
    by false h = refl

in_page : (page o few p : ℕ) → o + few ≤ 4096 → 4096 * page + o < 4096 * p + 4096 → 4096 * p - (4096 * page + o) < few → p ≡ page
in_page page o few p a b c = omega (arith, a, b, c)

not_extent : (kind : PageKind) (first : ℕ) (bytes : List ℕ) → length bytes ≤ 4096 → (is_extent kind first bytes ≡ false) × (is_new_extent kind bytes ≡ false)
not_extent kinds.Inode first bytes l = (ap (λ (x : Bool). first == 0 && x) few ∙ none (first == 0), few)
  where
    few : (length bytes == 16384) ≡ false
    few = never_same (length bytes) 16384 (omega (arith, l))

    none : (x : Bool) → (x && false) ≡ false
    none true = refl
    none false = refl
not_extent kinds.Xtree first bytes l = (refl, refl)
not_extent kinds.Dtree first bytes l = (refl, refl)
not_extent kinds.Index first bytes l = (refl, refl)

page_lines : (blocks : ℕ) (kind : PageKind) (page first : ℕ) (bytes : List ℕ) → first * line_size kind + length bytes ≤ 4096 → IsShort blocks kind page first bytes
unfolding place_of_line
page_lines blocks kind page first bytes l = record {
  same = none.1 ∙ sym (none.0);
  within = λ x. (let y = sym (none.0) ∙ x in absurd (true≢false (sym y)));
  told = λ p t. (let parts = and_parts (nat_lt (4096 * page + line_size kind * first) (4096 * p + 4096)) (nat_lt (4096 * p - (4096 * page + line_size kind * first)) (length bytes)) t in
      let lt = ltb-true (4096 * page + line_size kind * first) (4096 * p + 4096) parts.0 in
      let gt = ltb-true (4096 * p - (4096 * page + line_size kind * first)) (length bytes) parts.1 in
      record { place = 0; few = some (is_extent kind first bytes); is = in_page page (line_size kind * first) (length bytes) p (omega (arith, l, mul_comm first (line_size kind))) lt gt ∙ sym (add-zero page) });
}
  where
    none : (is_extent kind first bytes ≡ false) × (is_new_extent kind bytes ≡ false)
    none = not_extent kind first bytes (omega (arith, l))

    some : (x : Bool) → 0 < (if x then 4 else 1)
    some true = omega arith
    some false = omega arith

short : (blocks : ℕ) (kind : PageKind) (new_page : Bool) (page first : ℕ) (bytes : List ℕ) → AreLines blocks kind new_page page first bytes → IsShort blocks kind page first bytes
short blocks kinds.Inode true page first bytes a = four_lines blocks page first bytes a.all_new.0 a.all_new.1 a.high
short blocks kinds.Inode false page first bytes a = page_lines blocks kinds.Inode page first bytes a.within
short blocks kinds.Xtree true page first bytes a = page_lines blocks kinds.Xtree page first bytes a.within
short blocks kinds.Xtree false page first bytes a = page_lines blocks kinds.Xtree page first bytes a.within
short blocks kinds.Dtree true page first bytes a = page_lines blocks kinds.Dtree page first bytes a.within
short blocks kinds.Dtree false page first bytes a = page_lines blocks kinds.Dtree page first bytes a.within
short blocks kinds.Index true page first bytes a = page_lines blocks kinds.Index page first bytes a.within
short blocks kinds.Index false page first bytes a = page_lines blocks kinds.Index page first bytes a.within

-- ---- of a whole transaction

-- no extent is one by its length alone, and each lies within the volume
abbrev pub AreShort : ℕ → List Edit → Type 0
AreShort blocks [] = Unit {0}
AreShort blocks (Lines page kind first bytes ∷ es) = ((is_new_extent kind bytes ≡ is_extent kind first bytes) × (is_extent kind first bytes ≡ true → page + 4 ≤ blocks)) × AreShort blocks es
AreShort blocks (NoRedo page ∷ es) = AreShort blocks es
AreShort blocks (Alloc run ∷ es) = AreShort blocks es
AreShort blocks (Free run ∷ es) = AreShort blocks es

pub are_short : (blocks : ℕ) (es : List Edit) (notes : List Note) → length es ≡ length notes → AllByRecursion (IsLoggable blocks) (noted es notes) → AreShort blocks es
are_short blocks [] notes l all = tt
are_short blocks (e ∷ es) [] l all = absurd (omega (arith, l))
are_short blocks (Lines page kind first bytes ∷ es) (n ∷ notes) l all = let s = short blocks kind n.new_page page first bytes all.0.edit in ((s.same, s.within), are_short blocks es notes (omega (arith, l)) all.1)
are_short blocks (NoRedo page ∷ es) (n ∷ notes) l all = are_short blocks es notes (omega (arith, l)) all.1
are_short blocks (Alloc run ∷ es) (n ∷ notes) l all = are_short blocks es notes (omega (arith, l)) all.1
are_short blocks (Free run ∷ es) (n ∷ notes) l all = are_short blocks es notes (omega (arith, l)) all.1

-- each page that is touched is one of the pages that are looked at
pub visited : (blocks : ℕ) (es : List Edit) (notes : List Note) (p : ℕ) → length es ≡ length notes → AllByRecursion (IsLoggable blocks) (noted es notes) → touches_tx p es ≡ true → Visits p es
visited blocks [] notes p l all t = absurd (true≢false (sym t))
visited blocks (e ∷ es) [] p l all t = absurd (omega (arith, l))
visited blocks (e ∷ es) (n ∷ notes) p l all t = by e all.0 (λ later. visited blocks es notes p (omega (arith, l)) all.1 later) (or_cases (touches_edit p e) (touches_tx p es) t)
  where
    by : (e : Edit) → IsLoggable blocks (record { edit = e; note = n }) → (touches_tx p es ≡ true → Visits p es) → (touches_edit p e ≡ true) ⊎ (touches_tx p es ≡ true) → VisitsBy p e ⊎ Visits p es
    by e can rest (inr later) = inr (rest later)
    by (Lines page kind first bytes) can rest (inl here) = inl ((short blocks kind n.new_page page first bytes can.edit).told p here)
    by (NoRedo page) can rest (inl here) = absurd (true≢false (sym here))
    by (Alloc run) can rest (inl here) = absurd (true≢false (sym here))
    by (Free run) can rest (inl here) = absurd (true≢false (sym here))

-- the extent that is founded lies within the volume
pub extent_within : (blocks : ℕ) (es : List Edit) (f : Founded) (x : NewExtent) → AreShort blocks es → founded_with es f ≡ One x → (f ≡ One x) ⊎ (x.first + 4 ≤ blocks)
extent_within blocks [] f x s e = inl e
extent_within blocks (Lines page kind first bytes ∷ es) f x s e = by (is_extent kind first bytes) refl f e (λ g h. extent_within blocks es g x s.1 h)
  where
    by : (b : Bool) → is_extent kind first bytes ≡ b → (f : Founded) → founded_with es (if b then and_extent (place_in bytes) page f else f) ≡ One x
        → ((g : Founded) → founded_with es g ≡ One x → (g ≡ One x) ⊎ (x.first + 4 ≤ blocks)) → (f ≡ One x) ⊎ (x.first + 4 ≤ blocks)
    by false is f e rest = rest f e
    by true is Nothing e rest = elim (rest (One (record { place = place_in bytes; first = page })) e) [
      | inl same ↦ inr (subst (λ (y : NewExtent). y.first + 4 ≤ blocks) (one same) (s.0.1 is))
      | inr within ↦ inr within
    ]
      where
        one : {a b : NewExtent} → One a ≡ One b → a ≡ b
        one h = cc (h)
    by true is (One y) e rest = let h = sym (several es) ∙ e in absurd (cc (h))
    by true is Several e rest = let h = sym (several es) ∙ e in absurd (cc (h))
extent_within blocks (NoRedo page ∷ es) f x s e = extent_within blocks es f x s e
extent_within blocks (Alloc run ∷ es) f x s e = extent_within blocks es f x s e
extent_within blocks (Free run ∷ es) f x s e = extent_within blocks es f x s e
