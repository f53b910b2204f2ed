-- What a removal below a page answers, from what became of the page and of its child.
use Rattle.std.proofs.Common.{◌≡◌, sym, ap, ◌∙◌, subst, ℕ, zero, suc, ◌+◌, Bool, List, [], Option, Some, None, Result, Ok, Err, IfOk, IfSome, unwrap_or, arith}
use Rattle.jfs_disk.specs.Image.{Image, page_of}
use Rattle.jfs_tree.specs.Walk.{Node, Leaf, Scale, IsOrder}
use Rattle.jfs_tree.specs.Edit.{IsPoint}
use Rattle.jfs_tree.specs.Form.{Leads, LeadsDown}
use Rattle.jfs_tree.specs.Draft.{shown}
use Rattle.jfs_tree.specs.Call.{nodes, pages_of, Finds}
use Rattle.jfs_tree.specs.Shrink.{Shrank}
use Rattle.jfs_tree.specs.Path.{found_below, found_on_way}
use Rattle.jfs_tree.specs.Removal.{LostHere, LostBelow, TakesRow, entry_of, kept_in}
use Rattle.jfs_tree.specs.declared.draft.Drafted.{Drafted}
use Rattle.jfs_tree.specs.declared.form.TreeError.{TreeError}
use Rattle.jfs_tree.specs.declared.form.Way.TheVariants.{Here, Down}
use Rattle.jfs_tree.specs.declared.removal.Shrunk.{Shrunk}
use Rattle.jfs_tree.proofs.Path.{way_found, way_found_down, root_found}
use Rattle.jfs_tree.proofs.Finding.{here_finds, down_finds}

-- a part that shrank, as a call's answer has it
abbrev pub ShrankTo : {P E : Type 0} → (List ℕ → Node P E) → Scale P E → Image → List Drafted → ℕ → List ℕ → List ℕ → Option (Shrunk E) → Type 0
ShrankTo node s image new page free freed found = IfSome found (λ shrunk. Shrank s shrunk.entry (pages_of node image) (nodes node new image) shrunk.levels page shrunk.kept free freed)

-- ---- a leaf

pub here_shrank : {P E : Type 0} (node : List ℕ → Node P E) (s : Scale P E) (x : E) (bytes : List ℕ) (page : ℕ) (old new : List Drafted) (free freed : List ℕ) (image : Image) (es : List E) (result : Result (Option (Shrunk E)) TreeError)
    → IfOk result (LostHere node s x bytes page old new free freed) → old ≡ [] → bytes ≡ shown old image page → node bytes ≡ Leaf es
    → IfOk result (ShrankTo node s image new page free freed)
here_shrank node s x bytes page old new free freed image es (Err e) did fresh read is = tt
here_shrank node s x bytes page old new free freed image es (Ok None) did fresh read is = tt
here_shrank node s x bytes page old new free freed image es (Ok (Some shrunk)) did fresh read is =
    let t = did image es read is in
    subst (λ (l : ℕ). Shrank s shrunk.entry (pages_of node image) (nodes node new image) l page shrunk.kept free freed) (sym t.1)
    (subst (λ (d : List Drafted). Shrank s shrunk.entry (nodes node d image) (nodes node new image) 1 page shrunk.kept free freed) fresh t.2)

pub here_found : {P E : Type 0} (node : List ℕ → Node P E) (s : Scale P E) (x : E) (bytes : List ℕ) (page : ℕ) (old new : List Drafted) (free freed : List ℕ) (image : Image) (result : Result (Option (Shrunk E)) TreeError)
    → IfOk result (LostHere node s x bytes page old new free freed) → old ≡ [] → bytes ≡ shown old image page → Leads s x (node bytes) (Ok Here)
    → IfOk result (λ found. Finds s x (pages_of node image) page (entry_of found))
here_found node s x bytes page old new free freed image (Err e) did fresh read leads = tt
here_found node s x bytes page old new free freed image (Ok None) did fresh read leads =
    here_finds node s x image page bytes None (read ∙ ap (λ (d : List Drafted). shown d image page) fresh) leads (λ es is. sym (did.0 es is))
here_found node s x bytes page old new free freed image (Ok (Some shrunk)) did fresh read leads =
    here_finds node s x image page bytes (Some shrunk.entry) (read ∙ ap (λ (d : List Drafted). shown d image page) fresh) leads (λ es is. sym (did image es read is).0)

-- the leaf at the end of the way has what is answered
pub here_on_way : {P E : Type 0} (node : List ℕ → Node P E) (s : Scale P E) (x : E) (bytes : List ℕ) (most less page : ℕ) (old new : List Drafted) (free freed : List ℕ) (image : Image) (result : Result (Option (Shrunk E)) TreeError)
    → most ≡ suc less → IfOk result (LostHere node s x bytes page old new free freed) → old ≡ [] → bytes ≡ shown old image page → Leads s x (node bytes) (Ok Here)
    → IfOk result (λ found. entry_of found ≡ found_below s (pages_of node image) x most page)
here_on_way node s x bytes most less page old new free freed image (Err e) is did fresh read leads = tt
here_on_way node s x bytes most less page old new free freed image (Ok None) is did fresh read leads =
    way_found node s x image most less page bytes is (read ∙ ap (λ (d : List Drafted). shown d image page) fresh) leads.0 None leads.1 (sym (did.0 leads.0 leads.1))
here_on_way node s x bytes most less page old new free freed image (Ok (Some shrunk)) is did fresh read leads =
    way_found node s x image most less page bytes is (read ∙ ap (λ (d : List Drafted). shown d image page) fresh) leads.0 (Some shrunk.entry) leads.1 (sym (did image leads.0 read leads.1).0)

-- ---- an inner page

-- a part has a level
shrank_below : {P E : Type 0} (node : List ℕ → Node P E) (s : Scale P E) (x : E) (bytes : List ℕ) (page place child : ℕ) (shrunk more : Shrunk E) (old new : List Drafted) (free between freed : List ℕ) (image : Image) (levels : ℕ)
    → LostBelow node s x bytes page place shrunk old new between freed more → bytes ≡ page_of image page → LeadsDown s x (node bytes) place child
    → Shrank s shrunk.entry (pages_of node image) (nodes node old image) levels child shrunk.kept free between
    → Shrank s shrunk.entry (pages_of node image) (nodes node new image) (levels + 1) page more.kept free freed
shrank_below node s x bytes page place child shrunk more old new free between freed image zero lost read leads g = absurd g.ends
shrank_below node s x bytes page place child shrunk more old new free between freed image (suc lower) lost read leads g =
    let one_more : suc (suc lower) ≡ suc lower + 1 = omega arith in
    subst (λ (l : ℕ). Shrank s shrunk.entry (pages_of node image) (nodes node new image) l page more.kept free freed) one_more
    (lost image (pages_of node image) lower child free (ap node (sym read)) leads g)

pub down_shrank : {P E : Type 0} (node : List ℕ → Node P E) (s : Scale P E) (x : E) (bytes : List ℕ) (page place child : ℕ) (shrunk : Shrunk E) (found : Option (Shrunk E)) (old new : List Drafted) (free between freed : List ℕ) (image later : Image) (result : Result (Option (Shrunk E)) TreeError)
    → IfOk result (λ found. IfSome found (λ more. (x : E) → LostBelow node s x bytes page place shrunk old new between freed more))
    → IfOk result (λ found. found ≡ Some (record { entry = shrunk.entry; kept = kept_in found; levels = shrunk.levels + 1 }))
    → later ≡ image → bytes ≡ page_of image page → LeadsDown s x (node bytes) place child → found ≡ Some shrunk → ShrankTo node s later old child free between found
    → IfOk result (ShrankTo node s image new page free freed)
down_shrank node s x bytes page place child shrunk found old new free between freed image later (Err e) did same kept read leads is g = tt
down_shrank node s x bytes page place child shrunk found old new free between freed image later (Ok None) did same kept read leads is g = tt
down_shrank {E = E} node s x bytes page place child shrunk found old new free between freed image later (Ok (Some more)) did same kept read leads is g =
    let below = subst (λ (i : Image). Shrank s shrunk.entry (pages_of node i) (nodes node old i) shrunk.levels child shrunk.kept free between) kept
    (subst (λ (o : Option (Shrunk E)). ShrankTo node s later old child free between o) is g) in
    let here = shrank_below node s x bytes page place child shrunk more old new free between freed image shrunk.levels (did x) read leads below in
    subst (λ (m : Shrunk E). Shrank s m.entry (pages_of node image) (nodes node new image) m.levels page m.kept free freed) (sym (some_same same)) here
  where
    some_same : {X : Type 0} {a b : X} → Some a ≡ Some b → a ≡ b
    some_same {a = a} e = ap (λ o. unwrap_or o a) e

pub down_found : {P E : Type 0} (node : List ℕ → Node P E) (s : Scale P E) → IsOrder s → (x : E) → IsPoint s x → (image later : Image) (page place child : ℕ) (last : Bool) (bytes : List ℕ) (shrunk : Shrunk E) (found : Option (Shrunk E)) (result : Result (Option (Shrunk E)) TreeError)
    → IfOk result (λ found. found ≡ Some (record { entry = shrunk.entry; kept = kept_in found; levels = shrunk.levels + 1 }))
    → later ≡ image → bytes ≡ page_of image page → Leads s x (node bytes) (Ok (Down place child last)) → found ≡ Some shrunk → Finds s x (pages_of node later) child (entry_of found)
    → IfOk result (λ found. Finds s x (pages_of node image) page (entry_of found))
down_found node s o x p image later page place child last bytes shrunk found (Err e) same kept read leads is finds = tt
down_found {E = E} node s o x p image later page place child last bytes shrunk found (Ok answer) same kept read leads is finds =
    subst (λ (o : Option E). Finds s x (pages_of node image) page o) (sym (ap entry_of same))
    (down_finds node s o x p image later page place child last bytes (Ok (Some shrunk.entry)) kept read leads (subst (λ (o : Option E). Finds s x (pages_of node later) child o) (ap entry_of is) finds))

pub down_on_way : {P E : Type 0} (node : List ℕ → Node P E) (s : Scale P E) (x : E) (image later : Image) (most less page place child : ℕ) (last : Bool) (bytes : List ℕ) (shrunk : Shrunk E) (found : Option (Shrunk E)) (result : Result (Option (Shrunk E)) TreeError)
    → most ≡ suc less → IfOk result (λ found. found ≡ Some (record { entry = shrunk.entry; kept = kept_in found; levels = shrunk.levels + 1 }))
    → later ≡ image → bytes ≡ page_of image page → Leads s x (node bytes) (Ok (Down place child last)) → found ≡ Some shrunk → entry_of found ≡ found_below s (pages_of node later) x less child
    → IfOk result (λ found. entry_of found ≡ found_below s (pages_of node image) x most page)
down_on_way node s x image later most less page place child last bytes shrunk found (Err e) is same kept read leads some finds = tt
down_on_way node s x image later most less page place child last bytes shrunk found (Ok answer) is same kept read leads some finds =
    ap entry_of same ∙ way_found_down node s x image most less page bytes is read later place child last (Ok (Some shrunk.entry)) kept leads (sym (ap entry_of some) ∙ finds)

-- ---- a root that is a leaf

pub root_takes : {P E : Type 0} (s : Scale P E) (x : E) (pages : ℕ → Node P E) (root after : Node P E) (es : List E) (found : Option E) → root ≡ Leaf es → TakesRow s x root after found → found ≡ found_on_way s pages x root
root_takes s x pages root after es None is takes = root_found s x pages root es None is (sym (takes es is))
root_takes s x pages root after es (Some e) is takes = root_found s x pages root es (Some e) is (sym (takes es is).0)
