-- Pages as nodes: what a page is where it reads as a leaf or as an inner page, and the other way round.
use Rattle.std.specs.Prelude.{if◌then◌else◌}
use Rattle.std.proofs.Common.{◌≡◌, ℕ, Bool, true, false, List, [], ◌∷◌, map, Option, Some, None, refl, ap, ◌∙◌}
use Rattle.std.specs.List.{list_all}
use Rattle.jfs_bits.specs.declared.rule.Rule.{Rule}
use Rattle.jfs_bits.specs.declared.rule.Rule.TheVariants as rules
use Rattle.jfs_bits.specs.Broken.{IsFirstBroken, first_broken}
use Rattle.jfs_name.specs.declared.name.NameEntry.{NameEntry}
use Rattle.jfs_dtpage.specs.declared.head.DtForm.{DtForm}
use Rattle.jfs_dtpage.specs.Form.{is_leaf}
use Rattle.jfs_dtpage.specs.Page.{Entry, entries_of, dt_rules, IsDtPage, Holds}
use Rattle.jfs_tree.specs.Walk.{Child, Node, Leaf, Inner, Broken}
use Rattle.jfs_tree.specs.Edit.{IsCons}
use Rattle.jfs_dtree.specs.Rules.{rows}
use Rattle.jfs_dtree.specs.Node.{named, below, child_within, inner, by_kind, unless_broken, dt_node}
use Rattle.jfs_dtree.proofs.Decided.{none_broken, first_of, sound_of}

-- ---- a node from its page

pub sound_node : (form : DtForm) (blocks : ℕ) (bytes : List ℕ) → IsDtPage form bytes → dt_node form blocks bytes ≡ by_kind (is_leaf bytes) blocks (entries_of form bytes)
unfolding dt_node
sound_node form blocks bytes sound = rw (none_broken form bytes sound) refl

pub broken_node : (form : DtForm) (blocks : ℕ) (bytes : List ℕ) (rule : Rule) → IsFirstBroken (Holds form bytes) dt_rules rule → dt_node form blocks bytes ≡ Broken rule
unfolding dt_node
broken_node form blocks bytes rule first = rw (first_of form bytes rule first) refl

pub leaf_read : (form : DtForm) (blocks : ℕ) (bytes : List ℕ) → IsDtPage form bytes → is_leaf bytes ≡ true → dt_node form blocks bytes ≡ Leaf (map named (entries_of form bytes))
leaf_read form blocks bytes sound kind = sound_node form blocks bytes sound ∙ ap (λ (leaf : Bool). by_kind leaf blocks (entries_of form bytes)) kind

some_inner : (blocks : ℕ) (es : List Entry) → list_all (child_within blocks) es ≡ true → IsCons es → by_kind false blocks es ≡ Inner (map below es)
some_inner blocks [] within some = absurd some
some_inner blocks (e ∷ es) within some = rw within refl

pub inner_read : (form : DtForm) (blocks : ℕ) (bytes : List ℕ) → IsDtPage form bytes → is_leaf bytes ≡ false → list_all (child_within blocks) (entries_of form bytes) ≡ true → IsCons (entries_of form bytes)
    → dt_node form blocks bytes ≡ Inner (map below (entries_of form bytes))
inner_read form blocks bytes sound kind within some =
    sound_node form blocks bytes sound ∙ ap (λ (leaf : Bool). by_kind leaf blocks (entries_of form bytes)) kind ∙ some_inner blocks (entries_of form bytes) within some

pub range_read : (form : DtForm) (blocks : ℕ) (bytes : List ℕ) → IsDtPage form bytes → is_leaf bytes ≡ false → list_all (child_within blocks) (entries_of form bytes) ≡ false → dt_node form blocks bytes ≡ Broken rules.Range
range_read form blocks bytes sound kind within = sound_node form blocks bytes sound ∙ ap (λ (leaf : Bool). by_kind leaf blocks (entries_of form bytes)) kind ∙ rw within refl

pub deep_read : (form : DtForm) (blocks : ℕ) (bytes : List ℕ) → IsDtPage form bytes → is_leaf bytes ≡ false → entries_of form bytes ≡ [] → dt_node form blocks bytes ≡ Broken rules.Deep
deep_read form blocks bytes sound kind none = sound_node form blocks bytes sound ∙ ap (λ (leaf : Bool). by_kind leaf blocks (entries_of form bytes)) kind ∙ rw none refl

-- ---- a page from its node

-- what a page is where it reads as a leaf
abbrev pub LeafPage : DtForm → List ℕ → List NameEntry → Type 0
LeafPage form bytes es = IsDtPage form bytes × (is_leaf bytes ≡ true) × (map named (entries_of form bytes) ≡ es)

abbrev pub InnerPage : DtForm → ℕ → List ℕ → List (Child (List ℕ)) → Type 0
InnerPage form blocks bytes cs = IsDtPage form bytes × (is_leaf bytes ≡ false) × (list_all (child_within blocks) (entries_of form bytes) ≡ true) × IsCons (entries_of form bytes) × (map below (entries_of form bytes) ≡ cs)

same_rows : (es fs : List NameEntry) → ◌≡◌ {A = Node (List ℕ) NameEntry} (Leaf es) (Leaf fs) → es ≡ fs
same_rows es fs e = cc

same_children : (cs ds : List (Child (List ℕ))) → ◌≡◌ {A = Node (List ℕ) NameEntry} (Inner cs) (Inner ds) → cs ≡ ds
same_children cs ds e = cc

kind_leaf : (leaf : Bool) (blocks : ℕ) (entries : List Entry) (es : List NameEntry) → by_kind leaf blocks entries ≡ Leaf es → (leaf ≡ true) × (map named entries ≡ es)
kind_leaf true blocks entries es e = (refl, same_rows (map named entries) es e)
kind_leaf false blocks entries es e = absurd (within (list_all (child_within blocks) entries) entries e)
  where
    within : (b : Bool) (entries : List Entry) → (if b then inner (map below entries) else Broken rules.Range) ≡ Leaf es → ⊥
    within true [] e = cc
    within true (x ∷ entries) e = cc
    within false entries e = cc

kind_inner : (leaf : Bool) (blocks : ℕ) (entries : List Entry) (cs : List (Child (List ℕ))) → by_kind leaf blocks entries ≡ Inner cs
    → (leaf ≡ false) × (list_all (child_within blocks) entries ≡ true) × IsCons entries × (map below entries ≡ cs)
kind_inner true blocks entries cs e = absurd cc
kind_inner false blocks entries cs e = let t = within (list_all (child_within blocks) entries) entries e in (refl, t.0, t.1, t.2)
  where
    within : (b : Bool) (entries : List Entry) → (if b then inner (map below entries) else Broken rules.Range) ≡ Inner cs → (b ≡ true) × IsCons entries × (map below entries ≡ cs)
    within true [] e = absurd cc
    within true (x ∷ entries) e = (refl, tt, same_children (map below (x ∷ entries)) cs e)
    within false entries e = absurd cc

whole_leaf : (o : Option Rule) (node : Node (List ℕ) NameEntry) (es : List NameEntry) → unless_broken o node ≡ Leaf es → (o ≡ None) × (node ≡ Leaf es)
whole_leaf (Some rule) node es e = absurd cc
whole_leaf None node es e = (refl, e)

whole_inner : (o : Option Rule) (node : Node (List ℕ) NameEntry) (cs : List (Child (List ℕ))) → unless_broken o node ≡ Inner cs → (o ≡ None) × (node ≡ Inner cs)
whole_inner (Some rule) node cs e = absurd cc
whole_inner None node cs e = (refl, e)

pub leaf_is : (form : DtForm) (blocks : ℕ) (bytes : List ℕ) (es : List NameEntry) → dt_node form blocks bytes ≡ Leaf es → LeafPage form bytes es
unfolding dt_node
leaf_is form blocks bytes es e =
    let w = whole_leaf (first_broken (rows form bytes)) (by_kind (is_leaf bytes) blocks (entries_of form bytes)) es e in
    let k = kind_leaf (is_leaf bytes) blocks (entries_of form bytes) es w.1 in
    (sound_of form bytes w.0, k.0, k.1)

pub inner_is : (form : DtForm) (blocks : ℕ) (bytes : List ℕ) (cs : List (Child (List ℕ))) → dt_node form blocks bytes ≡ Inner cs → InnerPage form blocks bytes cs
unfolding dt_node
inner_is form blocks bytes cs e =
    let w = whole_inner (first_broken (rows form bytes)) (by_kind (is_leaf bytes) blocks (entries_of form bytes)) cs e in
    let k = kind_inner (is_leaf bytes) blocks (entries_of form bytes) cs w.1 in
    (sound_of form bytes w.0, k.0, k.1, k.2, k.3)
