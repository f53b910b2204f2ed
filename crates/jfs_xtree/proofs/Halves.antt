-- How full the two pages are that a full page became.
use Rattle.std.proofs.Common.{◌≡◌, ◌≤◌, ◌<◌, inl, inr, refl, sym, ap, ◌∙◌, subst, ℕ, zero, suc, ◌+◌, ◌/◌, ◌==◌, Bool, true, false, if◌then◌else◌, List, ◌∷◌, ◌++◌, length, arith}
use Rattle.std.specs.Prelude.{nat_le}
use Rattle.std.proofs.lemmas.Bool.{cases_lt, eqb-true, leb-true, true≢false}
use Rattle.std.proofs.lemmas.List.{length-append, length-map}
use Rattle.jfs_bits.specs.Field.{field_of}
use Rattle.jfs_bits.specs.declared.extent.Xad.{Xad}
use Rattle.jfs_tree.specs.Walk.{Child, Node, Leaf, Inner}
use Rattle.jfs_tree.specs.Levels.{entry_count}
use Rattle.jfs_tree.specs.Filled.{ComesPast, FillsBoth}
use Rattle.jfs_tree.specs.Form.{AtPlace, SplitsRows, SplitsChildren}
use Rattle.jfs_xtpage.specs.declared.head.XtForm.{XtForm}
use Rattle.jfs_xtpage.specs.declared.head.XtForm.TheVariants.{Root, Full, Small}
use Rattle.jfs_xtpage.specs.Page.{entries_of, entries_from, entry_of, count_of, end_of, IsRising}
use Rattle.jfs_xtpage.proofs.Entries.{length-entries}
use Rattle.jfs_xtree.specs.Node.{xt_scale, xt_node, fits_max, child_of, HasNoRoom, IsPlace, IsRoot}
use Rattle.jfs_xtree.proofs.Reading.{leaf_is, inner_is, is_rising}

-- a full page has 254 entries
by_max : (form : XtForm) (most : ℕ) → (IsRoot form → ⊥) → fits_max form most ≡ true → most ≡ 256
by_max Root most below fits = absurd (below tt)
by_max Full most below fits = eqb-true most 256 fits
by_max Small most below fits = absurd (below tt)

pub full_count : (form : XtForm) (bytes : List ℕ) → (IsRoot form → ⊥) → HasNoRoom form bytes → count_of bytes ≡ 254
full_count form bytes below full =
    let most : field_of bytes 20 2 ≡ 256 = by_max form (field_of bytes 20 2) below full.max in
    let all : field_of bytes 18 2 ≡ field_of bytes 20 2 = full.all in omega (arith, most, all)

-- the counts of both pages
half_counts : (least : ℕ) → least ≤ 127 → (last : Bool) (place old new right : ℕ) → old ≡ 254 → place ≤ old → (last ≡ true → place ≡ old → (new ≡ old) × (right ≡ 1)) → ((last ≡ true → place < old) → (old / 2 ≤ new) × (old / 2 ≤ right))
    → (least ≤ new) × (last ≡ false → least ≤ right)
half_counts least most false place old new right is within alone halves = let h = halves (λ e. absurd cc) in let a = h.0 in let b = h.1 in (omega (arith, most, is, a), (λ e. omega (arith, most, is, b)))
half_counts least most true place old new right is within alone halves = elim (cases_lt place old) [
  | inl l ↦ let h = halves (λ e. l) in let a = h.0 in (omega (arith, most, is, a), (λ e. absurd cc))
  | inr g ↦ let h = alone refl (omega (arith, g, within)) in let a = h.0 in (omega (arith, most, is, a), (λ e. absurd cc))
]

-- and of an append, which leaves the page full
pub both_counts : (appends : Bool) (least : ℕ) → least ≤ (if appends then 254 else 127) → (last : Bool) (place old new right : ℕ) → old ≡ 254 → place ≤ old → (last ≡ true → place ≡ old → (new ≡ old) × (right ≡ 1)) → ((last ≡ true → place < old) → (old / 2 ≤ new) × (old / 2 ≤ right))
    → (appends ≡ true → (last ≡ true) × (place ≡ old)) → (least ≤ new) × (last ≡ false → least ≤ right)
both_counts false least most last place old new right is within alone halves past = half_counts least most last place old new right is within alone halves
both_counts true least most last place old new right is within alone halves past =
    let p = past refl in
    let h = alone p.0 p.1 in
    let a = h.0 in (omega (arith, most, is, a), (λ e. absurd (true≢false (sym p.0 ∙ e))))

-- ---- where an extent that comes past all others goes

past_at : (x : Xad) (bytes : List ℕ) (i n j : ℕ) → ComesPast xt_scale x (entries_from bytes i n) → i ≤ j → j < i + n → nat_le (end_of (entry_of bytes j)) x.offset ≡ true
past_at x bytes i zero j past l h = absurd (omega (arith, l, h))
past_at x bytes i (suc n) j past l h = elim (cases_lt i j) [
  | inl less ↦ past_at x bytes (suc i) n j past.1 (omega (arith, less)) (omega (arith, h))
  | inr more ↦ subst (λ k. nat_le (end_of (entry_of bytes k)) x.offset ≡ true) (let e : i ≡ j = omega (arith, l, more) in e) past.0
]

never : (start length offset : ℕ) → start + length ≤ offset → offset < start → ⊥
never start length offset h i = omega (arith, h, i)

place_last : (x : Xad) (bytes : List ℕ) (place : ℕ) → IsPlace bytes x.offset place → ComesPast xt_scale x (entries_of bytes) → place ≡ count_of bytes
place_last x bytes place at past = elim (cases_lt place (count_of bytes)) [
  | inl l ↦ let e = leb-true (end_of (entry_of bytes place)) x.offset (past_at x bytes 0 (count_of bytes) place past (omega arith) (omega (arith, l))) in
      absurd (never (entry_of bytes place).offset (if (entry_of bytes place).at.len == 0 then 1 else (entry_of bytes place).at.len) x.offset e (at.behind place (omega arith) l))
  | inr g ↦ let m = at.most in omega (arith, g, m)
]

pub leaf_appends : (form : XtForm) (blocks : ℕ) (bytes : List ℕ) (place : ℕ) (x : Xad) (es : List Xad) → xt_node form blocks bytes ≡ Leaf es → (IsRising bytes (count_of bytes) → IsPlace bytes x.offset place) → ComesPast xt_scale x es → place ≡ count_of bytes
leaf_appends form blocks bytes place x es leaf at past =
    let t = leaf_is form blocks bytes es leaf in place_last x bytes place (at (is_rising bytes t.0.order)) (subst (ComesPast xt_scale x) (sym t.2) past)

leaf_count : (form : XtForm) (blocks : ℕ) (bytes : List ℕ) (es : List Xad) → xt_node form blocks bytes ≡ Leaf es → entry_count (xt_node form blocks bytes) ≡ count_of bytes
leaf_count form blocks bytes es is = ap (λ (n : Node ℕ Xad). entry_count n) is ∙ ap length (sym (leaf_is form blocks bytes es is).2) ∙ length-entries bytes 0 (count_of bytes)

inner_count : (form : XtForm) (blocks : ℕ) (bytes : List ℕ) (cs : List (Child ℕ)) → xt_node form blocks bytes ≡ Inner cs → entry_count (xt_node form blocks bytes) ≡ count_of bytes
inner_count form blocks bytes cs is = ap (λ (n : Node ℕ Xad). entry_count n) is ∙ ap length (sym (inner_is form blocks bytes cs is).2) ∙ length-map (entries_of bytes) child_of ∙ length-entries bytes 0 (count_of bytes)

fills_by : (least : ℕ) (last : Bool) (left right : Node ℕ Xad) (a b : ℕ) → entry_count left ≡ a → entry_count right ≡ b → (least ≤ a) × (last ≡ false → least ≤ b) → FillsBoth least last left right
fills_by least last left right a b l r h = record { left_has = (let i = h.0 in omega (arith, l, i)); right_has = λ e. (let i = h.1 e in omega (arith, r, i)) }

pub leaf_fills : (least : ℕ) (form : XtForm) (blocks : ℕ) (new right : List ℕ) (last : Bool) (rows : List Xad) (key : ℕ) → SplitsRows xt_scale rows (xt_node form blocks new) (xt_node form blocks right) key
    → (least ≤ count_of new) × (last ≡ false → least ≤ count_of right) → FillsBoth least last (xt_node form blocks new) (xt_node form blocks right)
leaf_fills least form blocks new right last rows key s h =
    fills_by least last (xt_node form blocks new) (xt_node form blocks right) (count_of new) (count_of right) (leaf_count form blocks new s.front s.left_is) (leaf_count form blocks right s.back s.right_is) h

pub inner_fills : (least : ℕ) (form : XtForm) (blocks : ℕ) (new right : List ℕ) (last : Bool) (all : List (Child ℕ)) (key : ℕ) → SplitsChildren all (xt_node form blocks new) (xt_node form blocks right) key
    → (least ≤ count_of new) × (last ≡ false → least ≤ count_of right) → FillsBoth least last (xt_node form blocks new) (xt_node form blocks right)
inner_fills least form blocks new right last all key s h =
    fills_by least last (xt_node form blocks new) (xt_node form blocks right) (count_of new) (count_of right) (inner_count form blocks new s.left_is.children s.left_is.is) (inner_count form blocks right s.right_is.children s.right_is.is) h

-- a child that goes behind all others
pub child_appends : (form : XtForm) (blocks : ℕ) (bytes : List ℕ) (place : ℕ) (child : Child ℕ) (all : List (Child ℕ)) → AtPlace (xt_node form blocks bytes) place child all → length all ≡ place + 2 → place + 1 ≡ count_of bytes
child_appends form blocks bytes place child all at h =
    let c = inner_count form blocks bytes (at.front ++ at.before ∷ at.back) at.was in
    let n = ap (λ (m : Node ℕ Xad). entry_count m) at.was in
    let a = ap length at.is in
    let l = length-append at.front (at.before ∷ at.back) in
    let m = length-append at.front (at.before ∷ child ∷ at.back) in omega (arith, c, n, a, l, m, h)
