-- The child to which a page leads, and the first broken rule on the way of an entry, page by page.
use Rattle.std.proofs.Common.{◌≡◌, ◌⊎◌, inl, inr, refl, sym, ap, ◌∙◌, subst, ℕ, zero, suc, Bool, true, false, List, [], ◌∷◌, ◌++◌, if◌then◌else◌, Option, Some, None, Result, Ok, Err, IfOk, IfErr}
use Rattle.std.specs.Prelude.{⊤}
use Rattle.jfs_bits.specs.declared.rule.Rule.{Rule}
use Rattle.jfs_bits.specs.declared.rule.Rule.TheVariants as rules
use Rattle.jfs_disk.specs.Image.{Image, page_of}
use Rattle.jfs_tree.specs.Walk.{Child, Node, Leaf, Inner, Broken, Scale}
use Rattle.jfs_tree.specs.Edit.{IsPast, found_in}
use Rattle.jfs_tree.specs.Form.{Leads, LeadsDown}
use Rattle.jfs_tree.specs.Path.{child_for, way_of, onward, path_of, further, broken_at, below_root, broken_below, broken_on_way, found_at, found_below, found_on_way, TellsBroken}
use Rattle.jfs_tree.specs.Spells.{no_page}
use Rattle.jfs_tree.specs.Call.{pages_of}
use Rattle.jfs_tree.specs.declared.form.TreeError.{TreeError}
use Rattle.jfs_tree.specs.declared.form.TreeError.TheVariants.{Memory}
use Rattle.jfs_tree.specs.declared.form.Way.TheVariants.{Here, Down}

-- ---- the child

-- each of these keys is past a place
abbrev pub AllPast : {P E : Type 0} → Scale P E → P → List (Child P) → Type 0
AllPast s at [] = ⊤
AllPast s at (c ∷ cs) = (s.le c.key at ≡ false) × AllPast s at cs

stays : {P E : Type 0} (s : Scale P E) (at : P) (page : ℕ) (back : List (Child P)) → AllPast s at back → child_for s at page back ≡ page
stays s at page [] past = refl
stays s at page (c ∷ back) past = ap (λ (b : Bool). child_for s at (if b then c.page else page) back) past.0 ∙ stays s at page back past.1

reaches : {P E : Type 0} (s : Scale P E) (at : P) (page : ℕ) (front : List (Child P)) (c : Child P) (back : List (Child P)) → s.le c.key at ≡ true → AllPast s at back → child_for s at page (front ++ c ∷ back) ≡ c.page
reaches s at page [] c back above past = ap (λ (b : Bool). child_for s at (if b then c.page else page) back) above ∙ stays s at c.page back past
reaches s at page (f ∷ front) c back above past = reaches s at (if s.le f.key at then f.page else page) front c back above past

-- the child before all keys that are past, whose own key isn't, or which is the first
pub leads_alone : {P E : Type 0} (s : Scale P E) (at : P) (node : Node P E) (front : List (Child P)) (c : Child P) (back : List (Child P)) → node ≡ Inner (front ++ c ∷ back) → (front ≡ []) ⊎ (s.le c.key at ≡ true) → AllPast s at back
    → way_of s at node ≡ Some c.page
leads_alone {P} {E} s at node front c back is above past = ap (way_of s at) is ∙ by front above
  where
    inner_node : List (Child P) → Node P E
    inner_node cs = Inner cs

    by : (front : List (Child P)) → (front ≡ []) ⊎ (s.le c.key at ≡ true) → way_of s at (inner_node (front ++ c ∷ back)) ≡ Some c.page
    by [] above = ap Some (stays s at c.page back past)
    by (f ∷ front) (inl none) = absurd cc
    by (f ∷ front) (inr above) = ap Some (reaches s at f.page front c back above past)

-- ---- the first broken rule

pub leads_on : {P E : Type 0} (s : Scale P E) (at : P) (below : ℕ → Option (ℕ × Rule)) (page child : ℕ) (node : Node P E) → way_of s at node ≡ Some child → broken_at s at below page node ≡ below child
leads_on s at below page child (Leaf es) h = cc
leads_on s at below page child (Inner []) h = cc
leads_on s at below page child (Inner (c ∷ cs)) h = ap (further below) h
leads_on s at below page child (Broken rule) h = cc

-- a page that leads to a child leads there below a root
pub below_leads : {P E : Type 0} (s : Scale P E) (at : P) (child : ℕ) (node : Node P E) → way_of s at node ≡ Some child → way_of s at (below_root node) ≡ Some child
below_leads s at child (Leaf es) h = cc
below_leads s at child (Inner cs) h = h
below_leads s at child (Broken rule) h = cc

-- a page past the last level
pub way_deep : {P E : Type 0} (s : Scale P E) (nodes : ℕ → Node P E) (at : P) (most page : ℕ) → most ≡ 0 → broken_below s nodes at most page ≡ Some (page, rules.Deep)
unfolding broken_below
way_deep s nodes at most page is = ap (λ m. broken_below s nodes at m page) is

pub reads : {P E : Type 0} (s : Scale P E) (nodes : ℕ → Node P E) (at : P) (most less page : ℕ) (node : Node P E) → most ≡ suc less → node ≡ nodes page
    → broken_below s nodes at most page ≡ broken_at s at (broken_below s nodes at less) page (below_root node)
unfolding broken_below
reads s nodes at most less page node is read = ap (λ m. broken_below s nodes at m page) is ∙ ap (λ n. broken_at s at (broken_below s nodes at less) page (below_root n)) (sym read)

module _ {P E : Type 0} (node : List ℕ → Node P E) (s : Scale P E) (x : E) (image : Image) (most less page : ℕ) (bytes : List ℕ) (is : most ≡ suc less) (read : bytes ≡ page_of image page) where
  -- a page that breaks a rule
  pub way_breaks : (rule : Rule) → below_root (node bytes) ≡ Broken rule → broken_below s (pages_of node image) (s.from x) most page ≡ Some (page, rule)
  way_breaks rule broken = reads s (pages_of node image) (s.from x) most less page (node bytes) is (ap node read) ∙ ap (broken_at s (s.from x) (broken_below s (pages_of node image) (s.from x) less) page) broken

  -- a leaf with entries
  pub way_ends : Leads s x (below_root (node bytes)) (Ok Here) → broken_below s (pages_of node image) (s.from x) most page ≡ None
  way_ends leads = reads s (pages_of node image) (s.from x) most less page (node bytes) is (ap node read) ∙ ap (broken_at s (s.from x) (broken_below s (pages_of node image) (s.from x) less) page) leads.1

  -- a page that leads to a child
  pub way_is : (later : Image) (place child : ℕ) (last : Bool) → later ≡ image → Leads s x (node bytes) (Ok (Down place child last))
      → broken_below s (pages_of node image) (s.from x) most page ≡ broken_below s (pages_of node later) (s.from x) less child
  way_is later place child last same leads =
      reads s (pages_of node image) (s.from x) most less page (node bytes) is (ap node read) ∙ leads_on s (s.from x) (broken_below s (pages_of node image) (s.from x) less) page child (below_root (node bytes)) (below_leads s (s.from x) child (node bytes) leads.alone)
      ∙ ap (λ i. broken_below s (pages_of node i) (s.from x) less child) (sym same)

  pub way_fails : {T : Type 0} (r : Result T TreeError) (later : Image) (place child : ℕ) (last : Bool) (e : TreeError) → later ≡ image → Leads s x (node bytes) (Ok (Down place child last))
      → TellsBroken {T = T} (broken_below s (pages_of node later) (s.from x) less child) (Err e) → TellsBroken {T = T} (broken_below s (pages_of node image) (s.from x) most page) (Err e)
  way_fails {T} r later place child last e same leads told = subst (λ first. TellsBroken {T = T} first (Err e)) (sym (way_is later place child last same leads)) told

  pub way_goes : {T : Type 0} (later : Image) (place child : ℕ) (last : Bool) (r : Result T TreeError) → later ≡ image → Leads s x (node bytes) (Ok (Down place child last))
      → TellsBroken (broken_below s (pages_of node later) (s.from x) less child) r → TellsBroken (broken_below s (pages_of node image) (s.from x) most page) r
  way_goes later place child last r same leads told =
      subst (λ first. TellsBroken first r) (sym (way_is later place child last same leads)) told

-- a root that leads to a child
pub root_is : {P E : Type 0} (s : Scale P E) (x : E) (pages : ℕ → Node P E) (root : Node P E) (place child : ℕ) → LeadsDown s x root place child → broken_on_way s pages (s.from x) root ≡ broken_below s pages (s.from x) 7 child
root_is s x pages root place child leads = leads_on s (s.from x) (broken_below s pages (s.from x) 7) no_page child root leads.alone

pub way_from : {P E T : Type 0} (s : Scale P E) (x : E) (pages : ℕ → Node P E) (root : Node P E) (place child : ℕ) (r : Result T TreeError) → LeadsDown s x root place child
    → TellsBroken (broken_below s pages (s.from x) 7 child) r → TellsBroken (broken_on_way s pages (s.from x) root) r
way_from s x pages root place child r leads told = subst (λ first. TellsBroken first r) (sym (root_is s x pages root place child leads)) told

pub way_lost : {P E : Type 0} (s : Scale P E) (x : E) (pages : ℕ → Node P E) (root : Node P E) (place child : ℕ) (e : TreeError) → LeadsDown s x root place child
    → TellsBroken {T = Unit {0}} (broken_below s pages (s.from x) 7 child) (Err e) → TellsBroken {T = Unit {0}} (broken_on_way s pages (s.from x) root) (Err e)
way_lost s x pages root place child e leads told = subst (λ first. TellsBroken {T = Unit {0}} first (Err e)) (sym (root_is s x pages root place child leads)) told

pub root_leaf : {P E : Type 0} (s : Scale P E) (at : P) (pages : ℕ → Node P E) (root : Node P E) (es : List E) → root ≡ Leaf es → broken_on_way s pages at root ≡ None
root_leaf s at pages root es is = ap (broken_on_way s pages at) is

pub root_breaks : {P E : Type 0} (s : Scale P E) (at : P) (pages : ℕ → Node P E) (root : Node P E) (rule : Rule) → root ≡ Broken rule → broken_on_way s pages at root ≡ Some (no_page, rule)
root_breaks s at pages root rule is = ap (broken_on_way s pages at) is

-- what comes after the way was read fails for want of memory alone
pub way_read : {T : Type 0} (first : Option (ℕ × Rule)) (r : Result T TreeError) → first ≡ None → IfErr r (λ e. e ≡ Memory) → TellsBroken first r
way_read first (Ok it) none fails = none
way_read {T} first (Err e) none fails = subst (λ f. TellsBroken {T = T} first (Err f)) (sym fails) tt

-- ---- what is found

found_next : {P E : Type 0} (s : Scale P E) (x : E) (below : ℕ → Option E) (child : ℕ) (node : Node P E) → way_of s (s.from x) node ≡ Some child → found_at s x below node ≡ below child
found_next s x below child (Leaf es) h = cc
found_next s x below child (Inner []) h = cc
found_next s x below child (Inner (c ∷ cs)) h = ap (further below) h
found_next s x below child (Broken rule) h = cc

pub looks : {P E : Type 0} (s : Scale P E) (nodes : ℕ → Node P E) (x : E) (most less page : ℕ) (node : Node P E) → most ≡ suc less → node ≡ nodes page
    → found_below s nodes x most page ≡ found_at s x (found_below s nodes x less) node
unfolding found_below
looks s nodes x most less page node is read = ap (λ m. found_below s nodes x m page) is ∙ ap (found_at s x (found_below s nodes x less)) (sym read)

module _ {P E : Type 0} (node : List ℕ → Node P E) (s : Scale P E) (x : E) (image : Image) (most less page : ℕ) (bytes : List ℕ) (is : most ≡ suc less) (read : bytes ≡ page_of image page) where
  pub way_found : (es : List E) (found : Option E) → node bytes ≡ Leaf es → found ≡ found_in s x es → found ≡ found_below s (pages_of node image) x most page
  way_found es found leaf finds =
      finds ∙ sym (looks s (pages_of node image) x most less page (node bytes) is (ap node read) ∙ ap (found_at s x (found_below s (pages_of node image) x less)) leaf)

  pub way_found_down : (later : Image) (place child : ℕ) (last : Bool) (r : Result (Option E) TreeError) → later ≡ image → Leads s x (node bytes) (Ok (Down place child last))
      → IfOk r (λ found. found ≡ found_below s (pages_of node later) x less child) → IfOk r (λ found. found ≡ found_below s (pages_of node image) x most page)
  way_found_down later place child last (Err e) same leads finds = finds
  way_found_down later place child last (Ok found) same leads finds =
      finds ∙ ap (λ i. found_below s (pages_of node i) x less child) same
      ∙ sym (looks s (pages_of node image) x most less page (node bytes) is (ap node read) ∙ found_next s x (found_below s (pages_of node image) x less) child (node bytes) leads.alone)

pub root_found : {P E : Type 0} (s : Scale P E) (x : E) (pages : ℕ → Node P E) (root : Node P E) (es : List E) (found : Option E) → root ≡ Leaf es → found ≡ found_in s x es → found ≡ found_on_way s pages x root
root_found s x pages root es found is finds = finds ∙ sym (ap (found_on_way s pages x) is)

pub root_found_down : {P E : Type 0} (s : Scale P E) (x : E) (pages : ℕ → Node P E) (root : Node P E) (place child : ℕ) (r : Result (Option E) TreeError) → LeadsDown s x root place child
    → IfOk r (λ found. found ≡ found_below s pages x 7 child) → IfOk r (λ found. found ≡ found_on_way s pages x root)
root_found_down s x pages root place child (Err e) leads finds = finds
root_found_down s x pages root place child (Ok found) leads finds = finds ∙ sym (found_next s x (found_below s pages x 7) child root leads.alone)

-- ---- the pages on the way

pub path_zero : {P E : Type 0} (s : Scale P E) (nodes : ℕ → Node P E) (at : P) (node : Node P E) → path_of s nodes at zero node ≡ []
unfolding path_of
path_zero s nodes at node = refl

pub path_leaf : {P E : Type 0} (s : Scale P E) (nodes : ℕ → Node P E) (at : P) (most : ℕ) (node : Node P E) → way_of s at node ≡ None → path_of s nodes at most node ≡ []
unfolding path_of
path_leaf s nodes at zero node h = refl
path_leaf s nodes at (suc most) node h = ap (onward (λ n. path_of s nodes at most (nodes n))) h

pub path_next : {P E : Type 0} (s : Scale P E) (nodes : ℕ → Node P E) (at : P) (most child : ℕ) (node : Node P E) → way_of s at node ≡ Some child → path_of s nodes at (suc most) node ≡ child ∷ path_of s nodes at most (nodes child)
unfolding path_of
path_next s nodes at most child node h = ap (onward (λ n. path_of s nodes at most (nodes n))) h

-- the child for a place is the first one, or one of the others whose key isn't past it; each key behind it is
picked : {P E : Type 0} (s : Scale P E) (at : P) (page : ℕ) (cs : List (Child P))
    → ((child_for s at page cs ≡ page) × AllPast s at cs)
    ⊎ ((front : List (Child P)) × (t : Child P) × (back : List (Child P)) × (cs ≡ front ++ t ∷ back) × (t.page ≡ child_for s at page cs) × (s.le t.key at ≡ true) × AllPast s at back)
picked s at page [] = inl (refl, tt)
picked {P} s at page (c ∷ cs) = by (s.le c.key at) refl (picked s at c.page cs) (picked s at page cs)
  where
    by : (b : Bool) → s.le c.key at ≡ b
        → ((child_for s at c.page cs ≡ c.page) × AllPast s at cs)
        ⊎ ((front : List (Child P)) × (t : Child P) × (back : List (Child P)) × (cs ≡ front ++ t ∷ back) × (t.page ≡ child_for s at c.page cs) × (s.le t.key at ≡ true) × AllPast s at back)
        → ((child_for s at page cs ≡ page) × AllPast s at cs)
        ⊎ ((front : List (Child P)) × (t : Child P) × (back : List (Child P)) × (cs ≡ front ++ t ∷ back) × (t.page ≡ child_for s at page cs) × (s.le t.key at ≡ true) × AllPast s at back)
        → ((child_for s at (if b then c.page else page) cs ≡ page) × AllPast s at (c ∷ cs))
        ⊎ ((front : List (Child P)) × (t : Child P) × (back : List (Child P)) × (c ∷ cs ≡ front ++ t ∷ back) × (t.page ≡ child_for s at (if b then c.page else page) cs) × (s.le t.key at ≡ true) × AllPast s at back)
    by true le (inl (same, past)) other = inr ([], c, cs, refl, sym same, le, past)
    by true le (inr (front, t, back, all, to, under, past)) other = inr (c ∷ front, t, back, ap (λ ds. c ∷ ds) all, to, under, past)
    by false le here (inl (same, past)) = inl (same, (le, past))
    by false le here (inr (front, t, back, all, to, under, past)) = inr (c ∷ front, t, back, ap (λ ds. c ∷ ds) all, to, under, past)

first_past : {P E : Type 0} (s : Scale P E) (x : E) (back : List (Child P)) → AllPast s (s.from x) back → IsPast s x back
first_past s x [] past = tt
first_past s x (b ∷ bs) past = past.0

-- the child to which an inner page leads an entry, among its children
pub leads_among : {P E : Type 0} (s : Scale P E) (x : E) (c : Child P) (cs : List (Child P))
    → (front : List (Child P)) × (t : Child P) × (back : List (Child P)) × (c ∷ cs ≡ front ++ t ∷ back) × (t.page ≡ child_for s (s.from x) c.page cs)
    × IsPast s x back × ((front ≡ []) ⊎ (s.le t.key (s.from x) ≡ true))
leads_among s x c cs = elim (picked s (s.from x) c.page cs) [
  | inl same ↦ ([], c, cs, refl, sym same.0, first_past s x cs same.1, inl refl)
  | inr (front, t, back, all, to, under, past) ↦ (c ∷ front, t, back, ap (λ ds. c ∷ ds) all, to, first_past s x back past, inr under)
]

-- and that for a place
pub child_among : {P E : Type 0} (s : Scale P E) (at : P) (c : Child P) (cs : List (Child P))
    → (front : List (Child P)) × (t : Child P) × (back : List (Child P)) × (c ∷ cs ≡ front ++ t ∷ back) × (t.page ≡ child_for s at c.page cs)
child_among s at c cs = elim (picked s at c.page cs) [
  | inl same ↦ ([], c, cs, refl, sym same.0)
  | inr (front, t, back, all, to, under, past) ↦ (c ∷ front, t, back, ap (λ ds. c ∷ ds) all, to)
]
