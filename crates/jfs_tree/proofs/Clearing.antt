-- An entry that shares no place with what stands where its way leads.
use Rattle.std.proofs.Common.{◌≡◌, refl, sym, ◌∙◌, subst, ℕ, suc, List, [], ◌∷◌, ◌++◌, Result, Ok, Err, OnOk}
use Rattle.jfs_disk.specs.Image.{Image, page_of}
use Rattle.jfs_tree.specs.Walk.{Child, Node, Leaf, Scale}
use Rattle.jfs_tree.specs.Edit.{IsApart}
use Rattle.jfs_tree.specs.Path.{way_of}
use Rattle.jfs_tree.specs.Form.{AtPlace, LeadsDown}
use Rattle.jfs_tree.specs.Removal.{HasChildAt}
use Rattle.jfs_tree.specs.Call.{nodes}
use Rattle.jfs_tree.specs.Adds.{read_as}
use Rattle.jfs_tree.specs.Apart.{ApartAt, ApartNext, ApartBelow, ApartOnWay}
use Rattle.jfs_tree.specs.declared.draft.Drafted.{Drafted}
use Rattle.jfs_tree.specs.declared.form.TreeError.{TreeError}

-- a place for one more child
pub child_at : {P E : Type 0} (place : ℕ) (node : Node P E) (child : Child P) → HasChildAt place node → (all : List (Child P)) × AtPlace node place child all
child_at place node child there = (there.0 ++ there.1 ∷ child ∷ there.2, record { front = there.0; before = there.1; back = there.2; was = there.3; at = there.4; is = refl })

module _ {P E : Type 0} (s : Scale P E) (x : E) where
  -- a page leads nowhere, or to a child
  ends_apart : (node : Node P E) (es : List E) (below : ℕ → Type 0) → node ≡ Leaf es → ApartNext below (way_of s (s.from x) node)
  ends_apart node es below leaf = subst (λ n. ApartNext below (way_of s (s.from x) n)) (sym leaf) tt

  leads_apart : (node : Node P E) (place child : ℕ) (below : ℕ → Type 0) → LeadsDown s x node place child → below child → ApartAt s x node × ApartNext below (way_of s (s.from x) node)
  leads_apart node place child below leads h = (subst (ApartAt s x) (sym leads.is) tt, subst (ApartNext below) (sym leads.alone) h)

  pub leaf_apart : (node : Node P E) (es : List E) → node ≡ Leaf es → ApartAt s x node → IsApart s x es
  leaf_apart node es leaf apart = subst (ApartAt s x) leaf apart

  pub here_apart : (nodes : ℕ → Node P E) (most less page : ℕ) (node : Node P E) (es : List E) → most ≡ suc less → node ≡ nodes page → node ≡ Leaf es → ApartAt s x node → ApartBelow s nodes x most page
  here_apart nodes most less page node es is read leaf apart =
      subst (λ m. ApartBelow s nodes x m page) (sym is) (subst (ApartAt s x) read apart, ends_apart (nodes page) es (ApartBelow s nodes x less) (sym read ∙ leaf))

  pub down_apart : {T : Type 0} (node : List ℕ → Node P E) (image later : Image) (drafts : List Drafted) (most less page place child : ℕ) (r : Result T TreeError) → most ≡ suc less → later ≡ image → LeadsDown s x (nodes node drafts image page) place child
      → ApartBelow s (nodes node drafts later) x less child → OnOk r (ApartBelow s (nodes node drafts image) x most page)
  down_apart node image later drafts most less page place child (Err e) is same leads below = tt
  down_apart node image later drafts most less page place child (Ok t) is same leads below =
      subst (λ m. ApartBelow s (nodes node drafts image) x m page) (sym is)
      (leads_apart (nodes node drafts image page) place child (ApartBelow s (nodes node drafts image) x less) leads (subst (λ (i : Image). ApartBelow s (nodes node drafts i) x less child) same below))

  pub root_apart : {T : Type 0} (nodes : ℕ → Node P E) (root : Node P E) (es : List E) (r : Result T TreeError) → root ≡ Leaf es → OnOk r (ApartAt s x root) → OnOk r (ApartOnWay s nodes x root)
  root_apart nodes root es (Err e) leaf apart = tt
  root_apart nodes root es (Ok t) leaf apart = (apart, ends_apart root es (ApartBelow s nodes x 7) leaf)

  pub root_leads_apart : {T : Type 0} (nodes : ℕ → Node P E) (root : Node P E) (place child : ℕ) (r : Result T TreeError) → LeadsDown s x root place child → ApartBelow s nodes x 7 child → OnOk r (ApartOnWay s nodes x root)
  root_leads_apart nodes root place child (Err e) leads below = tt
  root_leads_apart nodes root place child (Ok t) leads below = leads_apart root place child (ApartBelow s nodes x 7) leads below

  -- seen from the transaction
  pub planned_apart : {T : Type 0} (node : List ℕ → Node P E) (image : Image) (root : Node P E) (ds : List Drafted) (r : Result T TreeError) → ds ≡ [] → ApartOnWay s (nodes node ds image) x root → OnOk r (ApartOnWay s (read_as node (page_of image)) x root)
  planned_apart node image root ds (Err e) none apart = tt
  planned_apart node image root ds (Ok t) none apart = subst (λ (d : List Drafted). ApartOnWay s (nodes node d image) x root) none apart
