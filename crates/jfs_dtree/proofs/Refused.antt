-- Why a name is refused on its way.
use Rattle.std.proofs.Common.{◌≡◌, ◌<◌, inl, inr, refl, sym, ap, ◌∙◌, subst, ℕ, zero, suc, ◌==◌, ◌&&◌, Bool, true, false, List, length, Option, Some, None, Result, Ok, Err, IfOk, arith}
use Rattle.std.specs.Prelude.{nat_lt}
use Rattle.std.proofs.lemmas.Bool.{true≢false}
use Rattle.std.proofs.lemmas.Bool.Decides.{nat_tests}
use Rattle.jfs_bits.specs.declared.rule.Rule.{Rule}
use Rattle.jfs_disk.specs.Image.{Image, page_of}
use Rattle.jfs_ranges.specs.declared.view.ViewError.{ViewError}
use Rattle.jfs_name.specs.declared.name.NameEntry.{NameEntry}
use Rattle.jfs_dtpage.specs.Form.{free_of}
use Rattle.jfs_dtpage.specs.declared.head.DtForm.TheVariants.{Root, Full}
use Rattle.jfs_tree.specs.Walk.{Leaf, Broken}
use Rattle.jfs_tree.specs.Adds.{read_as, on_page}
use Rattle.jfs_tree.specs.Form.{LeadsDown}
use Rattle.jfs_tree.specs.Path.{way_of, broken_on_way}
use Rattle.jfs_tree.specs.Room.{FullDown}
use Rattle.jfs_tree.specs.Refusal.{ClashesOnWay, HasAllLevels, TellsRefusal}
use Rattle.jfs_tree.specs.declared.form.TreeError.{TreeError}
use Rattle.jfs_tree.specs.declared.form.TreeError.TheVariants.{View, Bad, Memory}
use Rattle.jfs_dtree.specs.Node.{name_scale, dt_node, HasNoRoom, LacksRoom}
use Rattle.jfs_dtree.specs.Spells.{root_node, page_nodes, broken_for}
use Rattle.jfs_dtree.specs.Room.{is_tight, child_tight, node_tight, tight_below, deep_on_way, TightFrom}
use Rattle.jfs_dtree.specs.Adding.{ClashesFor, AddTellsWay}
use Rattle.jfs_dtree.specs.Errors.{handed_on}
use Rattle.jfs_dtree.proofs.Roots.{failed}
use Rattle.jfs_dtree.proofs.Tight.{tight_at, leads_tight}

-- ---- a full way has too few free slots on each page

few : (n : ℕ) → n < 18 → nat_lt n 18 ≡ true
few n h = grind (arith, nat_tests)

and_all : (a b : Bool) → a ≡ true → b ≡ true → (a && b) ≡ true
and_all a b ea eb = rw (ea, eb) refl

full_tight : (blocks : ℕ) (pages : ℕ → List ℕ) (x : NameEntry) (lacks : ℕ → Type 0) (levels page : ℕ) → FullDown name_scale x (page_nodes blocks pages) (λ n. HasNoRoom Full (pages n)) lacks levels page → tight_below blocks pages x.name levels page ≡ true
full_tight blocks pages x lacks zero page full = absurd full
full_tight blocks pages x lacks (suc zero) page full =
    let leaf = full.0 in
    let room = full.1 in
    tight_at blocks pages x.name 0 page (Leaf leaf.0) leaf.1 ∙ and_all (is_tight (pages page)) (0 == 0) (few (free_of (pages page)) room.few) refl
full_tight blocks pages x lacks (suc (suc lower)) page full =
    let room = full.0 in
    let leads = full.1.2 in
    tight_at blocks pages x.name (suc lower) page (page_nodes blocks pages page) refl ∙ and_all (is_tight (pages page)) (node_tight (tight_below blocks pages x.name (suc lower)) (suc lower) x.name (page_nodes blocks pages page)) (few (free_of (pages page)) room.few)
    (leads_tight (tight_below blocks pages x.name (suc lower)) (suc lower) x.name (page_nodes blocks pages page) full.1.1 leads.alone ∙ full_tight blocks pages x lacks (suc lower) full.1.1 full.1.3)

-- so a name for which there is room isn't refused as too deep
never_deep : (blocks : ℕ) (pages : ℕ → List ℕ) (root : List ℕ) (x : NameEntry) (lacks : ℕ → Type 0) (no_place : List ℕ → Type 0) → TightFrom blocks pages root x.name false
    → HasAllLevels name_scale (page_nodes blocks pages) x (λ n. HasNoRoom Full (pages n)) lacks (root_node blocks root) no_place → ⊥
never_deep blocks pages root x lacks no_place loose (place, child, leads, full, none) =
    true≢false (sym (full_tight blocks pages x lacks 7 child full) ∙ loose child leads.alone)

-- ---- where a root leads no name on

root_still : (blocks : ℕ) (pages : ℕ → List ℕ) (root name : List ℕ) (deep : Bool) → way_of name_scale name (root_node blocks root) ≡ None → TightFrom blocks pages root name deep
root_still blocks pages root name deep none child is = absurd (never child (sym none ∙ is))
  where
    never : (child : ℕ) → ◌≡◌ {A = Option ℕ} None (Some child) → ⊥
    never child e = cc

pub leaf_still : (blocks : ℕ) (pages : ℕ → List ℕ) (root name : List ℕ) (es : List NameEntry) (deep : Bool) → root_node blocks root ≡ Leaf es → TightFrom blocks pages root name deep
leaf_still blocks pages root name es deep is = root_still blocks pages root name deep (ap (way_of name_scale name) is)

pub broken_still : (blocks : ℕ) (pages : ℕ → List ℕ) (root name : List ℕ) (rule : Rule) (deep : Bool) → root_node blocks root ≡ Broken rule → TightFrom blocks pages root name deep
broken_still blocks pages root name rule deep is = root_still blocks pages root name deep (ap (way_of name_scale name) is)

root_leads : (blocks : ℕ) (pages : ℕ → List ℕ) (root : List ℕ) (x : NameEntry) (place page : ℕ) (deep : Bool) → LeadsDown name_scale x (root_node blocks root) place page → tight_below blocks pages x.name 7 page ≡ deep → TightFrom blocks pages root x.name deep
root_leads blocks pages root x place page deep leads is child to = subst (λ n. tight_below blocks pages x.name 7 n ≡ deep) (same page child (sym leads.alone ∙ to)) is
  where
    same : (a b : ℕ) → Some a ≡ Some b → a ≡ b
    same a b e = cc

pub root_tight : (blocks : ℕ) (pages : ℕ → List ℕ) (root : List ℕ) (x : NameEntry) (place page : ℕ) (r : Result Bool ViewError) → LeadsDown name_scale x (root_node blocks root) place page → IfOk r (λ deep. tight_below blocks pages x.name 7 page ≡ deep) → IfOk r (TightFrom blocks pages root x.name)
root_tight blocks pages root x place page (Ok deep) leads is = root_leads blocks pages root x place page deep leads is
root_tight blocks pages root x place page (Err e) leads is = tt

-- ---- the way's answer, whatever stands beside it

pub way_deep_at : (blocks : ℕ) (pages : ℕ → List ℕ) (root : List ℕ) (x : NameEntry) (place page : ℕ) (r : Result Bool ViewError) → LeadsDown name_scale x (root_node blocks root) place page
    → IfOk r (λ deep. tight_below blocks pages x.name 7 page ≡ deep) → IfOk r (λ deep. deep ≡ deep_on_way blocks pages root x.name)
way_deep_at blocks pages root x place page (Ok deep) leads is = sym (ap (child_tight (tight_below blocks pages x.name 7)) leads.alone ∙ is)
way_deep_at blocks pages root x place page (Err e) leads is = tt

pub leaf_shallow : (blocks : ℕ) (pages : ℕ → List ℕ) (root name : List ℕ) (es : List NameEntry) → root_node blocks root ≡ Leaf es → false ≡ deep_on_way blocks pages root name
leaf_shallow blocks pages root name es is = sym (ap (λ node. child_tight (tight_below blocks pages name 7) (way_of name_scale name node)) is)

pub broken_shallow : (blocks : ℕ) (pages : ℕ → List ℕ) (root name : List ℕ) (rule : Rule) → root_node blocks root ≡ Broken rule → false ≡ deep_on_way blocks pages root name
broken_shallow blocks pages root name rule is = sym (ap (λ node. child_tight (tight_below blocks pages name 7) (way_of name_scale name node)) is)

-- ---- the answer

-- what the tree of pages tells of a refusal
abbrev pub Tells : ℕ → (ℕ → List ℕ) → List ℕ → NameEntry → TreeError → Type 0
Tells blocks pages root x e = TellsRefusal (broken_on_way name_scale (read_as (dt_node Full blocks) pages) x.name (dt_node Root blocks root)) (ClashesOnWay name_scale (read_as (dt_node Full blocks) pages) x (on_page (HasNoRoom Full) pages) (on_page (λ bytes. LacksRoom true (length x.name) bytes) pages) (dt_node Root blocks root))
    (HasAllLevels name_scale (read_as (dt_node Full blocks) pages) x (on_page (HasNoRoom Full) pages) (on_page (λ bytes. LacksRoom true (length x.name) bytes) pages) (dt_node Root blocks root) (λ key. HasNoRoom Root root × LacksRoom false (length key) root)) e

here : (blocks : ℕ) (pages : ℕ → List ℕ) (root : List ℕ) (x : NameEntry) (e : TreeError) → TightFrom blocks pages root x.name false → Tells blocks pages root x e
    → AddTellsWay (broken_for blocks pages root x.name) (ClashesFor blocks pages x root) (failed (handed_on e))
here blocks pages root x (View v) loose h = tt
here blocks pages root x (Bad page rule) loose (inl first) = inl first
here blocks pages root x (Bad page rule) loose (inr (none, inl (order, clash))) = inr (none, order, clash)
here blocks pages root x (Bad page rule) loose (inr (none, inr (named, deep, full))) =
    absurd (never_deep blocks pages root x (on_page (λ bytes. LacksRoom true (length x.name) bytes) pages) (λ key. HasNoRoom Root root × LacksRoom false (length key) root) loose full)
here blocks pages root x Memory loose h = tt

pub refusal_tells : (b blocks : ℕ) (view image : Image) (root name : List ℕ) (x : NameEntry) (inode : ℕ) (e : TreeError) → b ≡ blocks → view ≡ image → x ≡ record { name = name; inode = inode }
    → TightFrom b (page_of view) root x.name false → Tells b (page_of view) root x e
    → AddTellsWay (broken_for blocks (page_of image) root name) (ClashesFor blocks (page_of image) (record { name = name; inode = inode }) root) (failed (handed_on e))
refusal_tells b blocks view image root name x inode e eb ev ex loose told =
    subst (λ (y : NameEntry). AddTellsWay (broken_for blocks (page_of image) root y.name) (ClashesFor blocks (page_of image) y root) (failed (handed_on e))) ex
    (subst (λ i. AddTellsWay (broken_for blocks (page_of i) root x.name) (ClashesFor blocks (page_of i) x root) (failed (handed_on e))) ev
    (subst (λ n. AddTellsWay (broken_for n (page_of view) root x.name) (ClashesFor n (page_of view) x root) (failed (handed_on e))) eb (here b (page_of view) root x e loose told)))
