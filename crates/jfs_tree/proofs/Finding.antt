-- What is found below a page, and which page breaks a rule on the way.
use Rattle.std.proofs.Common.{◌≡◌, inr, refl, sym, ap, ◌∙◌, subst, Bool, true, false, ◌==◌, length, arith, ℕ, zero, suc, List, [], ◌∷◌, ◌++◌, Option, Some, Result, Ok, Err, IfOk, IfErr}
use Rattle.jfs_bits.specs.declared.rule.Rule.{Rule}
use Rattle.jfs_bits.specs.declared.rule.Rule.TheVariants as rules
use Rattle.jfs_disk.specs.Image.{Image, page_of}
use Rattle.jfs_tree.specs.Walk.{Child, Node, Leaf, Inner, Broken, Marks, Scale, Rises, IsOrder, rows_of, placed, body, walk}
use Rattle.jfs_tree.specs.Edit.{IsPoint, found_in, own}
use Rattle.jfs_tree.specs.Form.{Leads, LeadsDown}
use Rattle.jfs_tree.specs.Path.{below_root}
use Rattle.jfs_tree.specs.Call.{pages_of, Finds, Breaks, BreaksWhereBad}
use Rattle.jfs_tree.specs.declared.form.TreeError.{TreeError}
use Rattle.jfs_tree.specs.declared.form.TreeError.TheVariants.{View, Bad, Memory}
use Rattle.jfs_tree.specs.declared.form.Way.TheVariants.{Here, Down}
use Rattle.jfs_tree.proofs.Found.{find_down, leaf_rows}
use Rattle.jfs_tree.proofs.Growing.{Route, own_page}
use Rattle.jfs_tree.proofs.Taking.{route_of}

-- a leaf that rises stands alone on its level
pub leaf_level : {P E : Type 0} (s : Scale P E) (nodes : ℕ → Node P E) (levels : ℕ) (c : Child P) (es : List E) (low : P) (high : Option P)
    → nodes c.page ≡ Leaf es → Rises s low (walk s nodes levels c) high → levels ≡ 1
unfolding walk
leaf_level s nodes zero c es low high is r = absurd r
leaf_level s nodes (suc zero) c es low high is r = refl
leaf_level s nodes (suc (suc below)) c es low high is r = absurd (subst (λ node. Rises s c.key (body (walk s nodes (suc below)) c (placed s (suc below) c.key node)) high) is r.1)

-- an inner page that rises has a level below it
pub inner_level : {P E : Type 0} (s : Scale P E) (nodes : ℕ → Node P E) (levels : ℕ) (c : Child P) (cs : List (Child P)) (low : P) (high : Option P)
    → nodes c.page ≡ Inner cs → Rises s low (walk s nodes levels c) high → (below : ℕ) × (levels ≡ suc (suc below))
unfolding walk
inner_level s nodes zero c cs low high is r = absurd r
inner_level s nodes (suc zero) c cs low high is r = absurd (subst (λ node. Rises s c.key (body (walk s nodes zero) c (placed s zero c.key node)) high) is r.1)
inner_level s nodes (suc (suc below)) c cs low high is r = (below, refl)

broken_body : {P E : Type 0} (s : Scale P E) (f : Child P → Marks P E) (c : Child P) (below : ℕ) (rule : Rule) (low : P) (high : Option P) → Rises s low (body f c (placed s below c.key (Broken rule))) high → ⊥
broken_body s f c zero rule low high r = r
broken_body s f c (suc below) rule low high r = r

-- a page that breaks a rule doesn't rise
pub broken_level : {P E : Type 0} (s : Scale P E) (nodes : ℕ → Node P E) (levels : ℕ) (c : Child P) (rule : Rule) (low : P) (high : Option P)
    → nodes c.page ≡ Broken rule → Rises s low (walk s nodes levels c) high → ⊥
unfolding walk
broken_level s nodes zero c rule low high is r = r
broken_level s nodes (suc below) c rule low high is r =
    broken_body s (walk s nodes below) c below rule c.key high (subst (λ node. Rises s c.key (body (walk s nodes below) c (placed s below c.key node)) high) is r.1)

empty_body : {P E : Type 0} (s : Scale P E) (f : Child P → Marks P E) (c : Child P) (below : ℕ) (low : P) (high : Option P) → Rises s low (body f c (placed s below c.key (Leaf []))) high → ⊥
empty_body s f c zero low high r = r
empty_body s f c (suc below) low high r = r

empty_level : {P E : Type 0} (s : Scale P E) (nodes : ℕ → Node P E) (levels : ℕ) (c : Child P) (low : P) (high : Option P) → nodes c.page ≡ Leaf [] → Rises s low (walk s nodes levels c) high → ⊥
unfolding walk
empty_level s nodes zero c low high is r = r
empty_level s nodes (suc below) c low high is r =
    empty_body s (walk s nodes below) c below c.key high (subst (λ node. Rises s c.key (body (walk s nodes below) c (placed s below c.key node)) high) is r.1)

-- nor does a leaf without entries
pub below_level : {P E : Type 0} (s : Scale P E) (nodes : ℕ → Node P E) (levels : ℕ) (c : Child P) (rule : Rule) (low : P) (high : Option P)
    → below_root (nodes c.page) ≡ Broken rule → Rises s low (walk s nodes levels c) high → ⊥
below_level {P} {E} s nodes levels c rule low high broken r = by (nodes c.page) refl broken
  where
    by : (node : Node P E) → nodes c.page ≡ node → below_root node ≡ Broken rule → ⊥
    by (Leaf []) is b = empty_level s nodes levels c low high is r
    by (Leaf (e ∷ es)) is b = cc
    by (Inner cs) is b = cc
    by (Broken own) is b = broken_level s nodes levels c own low high is r

-- a leaf below a root, with entries and without
pub bare_breaks : {P E : Type 0} (node : Node P E) (es : List E) (bare : Bool) → node ≡ Leaf es → bare ≡ (length es == 0) → bare ≡ true → below_root node ≡ Broken rules.Deep
bare_breaks node [] bare is tells true_is = ap below_root is
bare_breaks node (e ∷ es) bare is tells true_is = absurd (let h = sym tells ∙ true_is in grind (arith, h))

pub filled_leaf : {P E : Type 0} (node : Node P E) (es : List E) (bare : Bool) → node ≡ Leaf es → bare ≡ (length es == 0) → bare ≡ false → (rows : List E) × (below_root node ≡ Leaf rows)
filled_leaf node [] bare is tells no_more = absurd (let h = sym tells ∙ no_more in grind (arith, h))
filled_leaf node (e ∷ es) bare is tells no_more = (e ∷ es, ap below_root is)

-- a leaf below the root with its entries
pub here_finds : {P E : Type 0} (node : List ℕ → Node P E) (s : Scale P E) (x : E) (image : Image) (page : ℕ) (bytes : List ℕ) (found : Option E)
    → bytes ≡ page_of image page → Leads s x (node bytes) (Ok Here) → ((es : List E) → node bytes ≡ Leaf es → found ≡ found_in s x es)
    → Finds s x (pages_of node image) page found
here_finds {P} node s x image page bytes found read leads finds = λ levels key low high above r.
    let c : Child P = record { key = key; page = page } in
    let is = ap node (sym read) ∙ leads.1 in
    let at = leaf_level s (pages_of node image) levels c leads.0 low high is r in
    finds leads.0 leads.1
    ∙ ap (found_in s x) (sym (leaf_rows s (pages_of node image) c leads.0 low high is (subst (λ l. Rises s low (walk s (pages_of node image) l c) high) at r)))
    ∙ ap (λ l. found_in s x (rows_of (walk s (pages_of node image) l c))) (sym at)

pub down_finds : {P E : Type 0} (node : List ℕ → Node P E) (s : Scale P E) → IsOrder s → (x : E) → IsPoint s x → (image later : Image) (page place child : ℕ) (last : Bool) (bytes : List ℕ) (r : Result (Option E) TreeError)
    → later ≡ image → bytes ≡ page_of image page → Leads s x (node bytes) (Ok (Down place child last))
    → IfOk r (λ found. Finds s x (pages_of node later) child found) → IfOk r (λ found. Finds s x (pages_of node image) page found)
down_finds node s o x p image later page place child last bytes (Err e) same read leads finds = finds
down_finds {P} node s o x p image later page place child last bytes (Ok found) same read leads finds = λ levels key low high above r.
    let c : Child P = record { key = key; page = page } in
    let route = subst (λ n. Route s x n child leads.front leads.child leads.back) (ap node read) (route_of s x (node bytes) place child leads) in
    let at = inner_level s (pages_of node image) levels c (leads.front ++ leads.child ∷ leads.back) low high route.is r in
    let t = find_down s o x p (pages_of node image) at.0 c child leads.front leads.child leads.back low high route above (subst (λ l. Rises s low (walk s (pages_of node image) l c) high) at.1 r) in
    let u = own key leads.front leads.child in
    let there = subst (λ n. Finds s x (pages_of node image) n found) (sym (own_page key leads.front leads.child ∙ leads.to)) (subst (λ i. Finds s x (pages_of node i) child found) same finds) in
    there (suc at.0) u.key t.0 (Some t.1) t.3 t.2 ∙ sym t.4 ∙ ap (λ l. found_in s x (rows_of (walk s (pages_of node image) l c))) (sym at.1)

breaks_below : {P E : Type 0} (s : Scale P E) (x : E) (nodes : ℕ → Node P E) (most page place child : ℕ) (e : TreeError)
    → LeadsDown s x (nodes page) place child → BreaksWhereBad nodes most child e → BreaksWhereBad nodes (suc most) page e
breaks_below s x nodes most page place child (View e) leads b = b
breaks_below s x nodes most page place child (Bad bad rule) leads b = inr (leads.front, leads.child, leads.back, leads.is, subst (λ p. Breaks nodes most p bad rule) (sym leads.to) b)
breaks_below s x nodes most page place child Memory leads b = b

pub down_breaks : {P E : Type 0} (node : List ℕ → Node P E) (s : Scale P E) (x : E) (image later : Image) (most less page place child : ℕ) (last : Bool) (bytes : List ℕ) (r : Result (Option E) TreeError)
    → most ≡ suc less → later ≡ image → bytes ≡ page_of image page → Leads s x (node bytes) (Ok (Down place child last))
    → IfErr r (λ e. BreaksWhereBad (pages_of node later) less child e) → IfErr r (λ e. BreaksWhereBad (pages_of node image) most page e)
down_breaks node s x image later most less page place child last bytes (Ok found) is_suc same read leads breaks = breaks
down_breaks node s x image later most less page place child last bytes (Err e) is_suc same read leads breaks =
    subst (λ m. BreaksWhereBad (pages_of node image) m page e) (sym is_suc)
    (breaks_below s x (pages_of node image) less page place child e (subst (λ n. LeadsDown s x n place child) (ap node read) leads)
    (subst (λ i. BreaksWhereBad (pages_of node i) less child e) same breaks))
