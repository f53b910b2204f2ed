-- Why a range is refused: what its ways tell, and what the call does.
use Rattle.std.proofs.Common.{◌≡◌, inl, inr, refl, sym, ap, ◌∙◌, subst, ℕ, zero, suc, ◌-◌, ◌<◌, length, arith, Bool, true, false, ◌==◌, if◌then◌else◌, List, [], ◌∷◌, Option, Some, None, Err}
use Rattle.std.specs.Prelude.{slice_get}
use Rattle.std.specs.List.{All, AllByRecursion as Each}
use Rattle.std.proofs.lemmas.Bool.{eqb-true}
use Rattle.std.proofs.lemmas.List.Elements.{All-from_recursion, recursion_from_All}
use Rattle.jfs_bits.specs.declared.extent.Xad.{Xad}
use Rattle.jfs_bits.specs.declared.rule.Rule.{Rule}
use Rattle.jfs_bits.specs.declared.rule.Rule.TheVariants as rules
use Rattle.jfs_bits.specs.Extent.{FitsXad}
use Rattle.jfs_tree.specs.Walk.{Node, Broken}
use Rattle.jfs_tree.specs.Spells.{no_page}
use Rattle.jfs_tree.specs.Root.{NamesBroken}
use Rattle.jfs_tree.specs.declared.form.TreeError.{TreeError}
use Rattle.jfs_tree.specs.declared.form.TreeError.TheVariants as tree
use Rattle.jfs_tree.proofs.Path.{root_breaks}
use Rattle.jfs_xtpage.specs.Page.{end_of, rises_from}
use Rattle.jfs_xtree.specs.Errors.{handed_on}
use Rattle.jfs_xtree.specs.Laws.{ends_after}
use Rattle.jfs_xtree.proofs.Pages.{rises_more, rises_less}
use Rattle.jfs_xtree.specs.Node.{xt_scale, IsGood}
use Rattle.jfs_xtree.specs.Spells.{page_nodes, root_node, broken_for, tree_error, TellsWay}
use Rattle.jfs_xtree.specs.declared.error.XtError.{XtError}
use Rattle.jfs_xtree.specs.declared.error.XtError.TheVariants.{View, Bad}
use Rattle.jfs_ways.specs.Along.{broken_along, first_broken, or_later}
use Rattle.jfs_put_range.specs.Call.{IsShortRange, IsNinth, RefusesOnlyDeep}
use Rattle.jfs_put_range.specs.Tops.{NamesRoot}
use Rattle.jfs_put_range.specs.Way.{RangeTellsWay, as_clash, first_of, end_after, end_of_all, broken_on_range}

pub range_fits : (blocks : ℕ) (xs : List Xad) → IsShortRange blocks xs → All FitsXad xs
range_fits blocks xs range = All-from_recursion FitsXad xs (each xs (recursion_from_All (IsGood blocks) xs range.range.good))
  where
    each : (xs : List Xad) → Each (IsGood blocks) xs → Each FitsXad xs
    each [] g = tt
    each (x ∷ xs) g = (g.0.fits, each xs g.1)

-- a root below which a page breaks a rule spells no list
pub named_refuses : (blocks : ℕ) (pages : ℕ → List ℕ) (root free : List ℕ) (e : XtError) → NamesBroken xt_scale (page_nodes blocks pages) (root_node blocks root) (tree_error e) → RefusesOnlyDeep blocks pages root free (tree_error e)
named_refuses blocks pages root free (View e) h es spelled spare = tt
named_refuses blocks pages root free (Bad page rule) h es spelled spare = absurd (h.1 es spelled)

pub named_first : (first : Option (ℕ × Rule)) (root : List ℕ) (e : XtError) → TellsWay {T = Unit {0}} first (Err e) → RangeTellsWay first root (Err e)
named_first first root (View e) h = tt
named_first first root (Bad page rule) h = inl h

-- where no page breaks a rule by itself
pub clash_told : (first : Option (ℕ × Rule)) (node : Node ℕ Xad) (root : List ℕ) (e : TreeError) → first ≡ None → ((rule : Rule) → node ≡ Broken rule → ⊥) → NamesRoot node root e → RangeTellsWay first root (Err (handed_on (as_clash e)))
clash_told first node root (tree.View e) none whole named = tt
clash_told first node root (tree.Bad page rule) none whole named = by (page == no_page) (λ e. eqb-true page no_page e)
  where
    by : (b : Bool) → (b ≡ true → page ≡ no_page) → RangeTellsWay first root (Err (handed_on (if b then tree.Bad page rules.Deep else tree.Bad page rules.Order)))
    by true h = inr (none, inr (h refl, refl, elim (named (h refl)) [ inl b ↦ absurd (whole rule b) | inr l ↦ l ]))
    by false h = inr (none, inl refl)
clash_told first node root tree.Memory none whole named = tt

pub clash_refused : (blocks : ℕ) (pages : ℕ → List ℕ) (root free : List ℕ) (e : TreeError) → RefusesOnlyDeep blocks pages root free e → RefusesOnlyDeep blocks pages root free (tree_error (handed_on (as_clash e)))
clash_refused blocks pages root free (tree.View e) h es spelled spare = tt
clash_refused blocks pages root free (tree.Bad page rule) h es spelled spare =
    let t = h es spelled spare in
    subst (λ (p : ℕ). IsNinth (page_nodes blocks pages) (root_node blocks root) root (tree_error (handed_on (as_clash (tree.Bad p rule))))) (sym t.0) (refl, refl, t.2, t.3)
clash_refused blocks pages root free tree.Memory h es spelled spare = tt

-- what was looked at is the range's way
pub first_none : (blocks : ℕ) (pages : ℕ → List ℕ) (root : List ℕ) (xs one two : List Xad) (first end : ℕ) → first ≡ first_of one → one ≡ xs → end ≡ end_of_all two → two ≡ xs → broken_along blocks pages root first (end - first) ≡ None
    → broken_on_range blocks pages root xs ≡ None
first_none blocks pages root xs one two first end ef e1 ee e2 none =
    let f : first_of xs ≡ first = ap first_of (sym e1) ∙ sym ef in
    let g : end_of_all xs ≡ end = ap end_of_all (sym e2) ∙ sym ee in
    ap (λ n. broken_along blocks pages root n (end_of_all xs - n)) f ∙ ap (λ n. broken_along blocks pages root first (n - first)) g ∙ none

-- the range has a block at least
ends_past : (low : ℕ) (x : Xad) (xs : List Xad) → rises_from low (x ∷ xs) ≡ true → low < end_of_all (x ∷ xs)
ends_past low x [] r = let t = (rises_less low x [] r).0 in let w = ends_after x in omega (arith, t, w)
ends_past low x (y ∷ xs) r =
    let t = rises_less low x (y ∷ xs) r in let k = t.0 in let w = ends_after x in
    let h = ends_past (end_of x) y xs t.1 in
    let same : end_of_all (x ∷ y ∷ xs) ≡ end_of_all (y ∷ xs) = ap (λ n. end_after (slice_get (x ∷ y ∷ xs) n)) (let e : length (x ∷ y ∷ xs) - 1 ≡ suc (length (y ∷ xs) - 1) = omega arith in e) in
    omega (arith, k, w, h, same)

first_before : (xs : List Xad) → 0 < length xs → rises_from 0 xs ≡ true → first_of xs < end_of_all xs
first_before [] l r = absurd (omega (arith, l))
first_before (x ∷ xs) l r = ends_past x.offset x xs (rises_more x.offset x xs (omega arith) (rises_less 0 x xs r).1)

-- where nothing is broken on the range's way, the root breaks no rule
first_alone : (broken : ℕ → Option (ℕ × Rule)) (at count : ℕ) → 0 < count → first_broken broken at count ≡ None → broken at ≡ None
first_alone broken at zero l none = absurd (omega (arith, l))
first_alone broken at (suc count) l none = by (broken at) none
  where
    by : (f : Option (ℕ × Rule)) → or_later f (first_broken broken (suc at) count) ≡ None → f ≡ None
    by None h = refl
    by (Some b) h = absurd cc

abbrev found : ℕ × Rule → Option (ℕ × Rule)
found b = Some b

some_none : (b : ℕ × Rule) → found b ≡ None → ⊥
some_none b e = cc

pub root_whole : (blocks : ℕ) (pages : ℕ → List ℕ) (root : List ℕ) (xs : List Xad) → IsShortRange blocks xs → broken_on_range blocks pages root xs ≡ None → (rule : Rule) → root_node blocks root ≡ Broken rule → ⊥
root_whole blocks pages root xs range none rule broken =
    let past = first_before xs range.some range.range.rises in
    let h = first_alone (broken_for blocks pages root) (first_of xs) (end_of_all xs - first_of xs) (omega (arith, past)) none in
    some_none (no_page, rule) (sym (root_breaks xt_scale (first_of xs) (page_nodes blocks pages) (root_node blocks root) rule broken) ∙ h)
