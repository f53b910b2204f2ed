-- What the part below a page became, or why an entry can't go into it.
use Rattle.std.proofs.Common.{◌≡◌, ◌≤◌, refl, sym, ap, ◌∙◌, subst, ℕ, zero, suc, ◌+◌, List, [], ◌∷◌, ◌++◌, Option, Some, None, Result, Ok, Err, IfOk, IfErr, arith}
use Rattle.std.specs.List.{flat_map}
use Rattle.jfs_bits.specs.declared.rule.Rule.{Rule}
use Rattle.jfs_disk.specs.Image.{Image}
use Rattle.jfs_tree.specs.Walk.{Child, Node, Leaf, Inner, Broken, Scale, Rises, IsOrder, under, walk}
use Rattle.jfs_tree.specs.Edit.{EndsAt, Ready, Grew, bound, own}
use Rattle.jfs_tree.specs.Form.{LeadsDown, as_child, children_of}
use Rattle.jfs_tree.specs.Path.{below_root}
use Rattle.jfs_tree.specs.Draft.{shown}
use Rattle.jfs_tree.specs.Call.{nodes, ChildDid, GrownDid, HereDid, RefutesWhereBad, TookChild}
use Rattle.jfs_tree.specs.declared.draft.Drafted.{Drafted}
use Rattle.jfs_tree.specs.declared.form.Sibling.{Sibling}
use Rattle.jfs_tree.specs.declared.form.TreeError.{TreeError}
use Rattle.jfs_tree.specs.declared.form.TreeError.TheVariants.{View, Bad, Memory}
use Rattle.jfs_tree.specs.declared.grow.Grown.{Grown}
use Rattle.jfs_tree.proofs.Rising.{rises_cut}
use Rattle.jfs_tree.proofs.Keys.{apart_rows}
use Rattle.jfs_tree.proofs.Leaves.{at_leaf}
use Rattle.jfs_tree.proofs.Steps.{inner_walk, inner_ready}
use Rattle.jfs_tree.proofs.Growing.{Route, own_page, own_key, level_keys, inner_same}
use Rattle.jfs_tree.proofs.Taking.{route_of, place_of}
use Rattle.jfs_tree.proofs.Finding.{leaf_level, inner_level, below_level}

-- a part of what rises rises
pub inner_part : {P E : Type 0} (s : Scale P E) → IsOrder s → (nodes : ℕ → Node P E) (below : ℕ) (c : Child P) (front : List (Child P)) (t : Child P) (back : List (Child P)) (low : P) (high : Option P)
    → nodes c.page ≡ Inner (front ++ t ∷ back) → Rises s low (walk s nodes (suc (suc below)) c) high → (mid : P) × (upper : P) × Rises s mid (walk s nodes (suc below) (own c.key front t)) (Some upper)
inner_part s o nodes below c front t back low high is r =
    let A = flat_map (walk s nodes (suc below)) (under c.key front) in
    let T = walk s nodes (suc below) (own c.key front t) in
    let B = flat_map (walk s nodes (suc below)) back in
    let all = subst (λ ms. Rises s low ms high) (inner_walk s nodes below c front t back is) r in
    let u = rises_cut s o c.key A (T ++ B) high all.1 in
    let v = rises_cut s o u.0 T B high u.2 in (u.0, v.0, v.1)

-- one leaf tells how many levels there are
pub ends_level : {P E : Type 0} (s : Scale P E) → IsOrder s → (nodes : ℕ → Node P E) (ends levels : ℕ) (c : Child P) (low : P) (high : Option P)
    → EndsAt nodes ends c.page → Rises s low (walk s nodes levels c) high → levels ≡ ends
ends_level s o nodes zero levels c low high e r = absurd e
ends_level s o nodes (suc zero) levels c low high e r = leaf_level s nodes levels c e.0 low high e.1 r
ends_level s o nodes (suc (suc below)) levels c low high e r =
    let at = inner_level s nodes levels c (e.0 ++ e.1 ∷ e.2) low high e.3 r in
    let part = inner_part s o nodes at.0 c e.0 e.1 e.2 low high e.3 (subst (λ l. Rises s low (walk s nodes l c) high) at.1 r) in
    let there = ends_level s o nodes (suc below) (suc at.0) (own c.key e.0 e.1) part.0 (Some part.1) (subst (EndsAt nodes (suc below)) (sym (own_page c.key e.0 e.1)) e.4) part.2 in
    at.1 ∙ ap suc there

not_zero : (n : ℕ) → n ≤ 0 → n ≡ 0
not_zero n h = omega (arith, h)

pub zero_walk : {P E : Type 0} (s : Scale P E) (nodes : ℕ → Node P E) (c : Child P) (low : P) (high : Option P) → Rises s low (walk s nodes zero c) high → ⊥
unfolding walk
zero_walk s nodes c low high r = r

pub refute_zero : {P E : Type 0} (s : Scale P E) (x : E) (nodes : ℕ → Node P E) (most page : ℕ) (free : List ℕ) (bad : ℕ) (rule : Rule) → most ≡ 0 → RefutesWhereBad s x nodes most page free (Bad bad rule)
refute_zero {P} s x nodes most page free bad rule is levels key low high within ready =
    let c : Child P = record { key = key; page = page } in
    zero_walk s nodes c low high (subst (λ l. Rises s low (walk s nodes l c) high) (not_zero levels (subst (λ m. levels ≤ m) is within)) ready.rises)

pub refute_broken : {P E : Type 0} (s : Scale P E) (x : E) (nodes : ℕ → Node P E) (most page : ℕ) (free : List ℕ) (bad : ℕ) (rule broken : Rule) → below_root (nodes page) ≡ Broken broken → RefutesWhereBad s x nodes most page free (Bad bad rule)
refute_broken s x nodes most page free bad rule broken is levels key low high within ready =
    below_level s nodes levels (record { key = key; page = page }) broken low high is ready.rises

pub refute_here : {P E : Type 0} (node : List ℕ → Node P E) (s : Scale P E) → IsOrder s → (x : E) (old new : List Drafted) (image : Image) (most page : ℕ) (bytes : List ℕ) (free left : List ℕ) (es : List E) (e : TreeError)
    → bytes ≡ shown old image page → node bytes ≡ Leaf es → HereDid node s x bytes page old new free left (Err e) → RefutesWhereBad s x (nodes node old image) most page free e
refute_here node s o x old new image most page bytes free left es (View v) read is did = tt
refute_here {P} node s o x old new image most page bytes free left es (Bad bad rule) read is did = λ levels key low high within ready.
    let c : Child P = record { key = key; page = page } in
    let here = ap node (sym read) ∙ is in
    let at = leaf_level s (nodes node old image) levels c es low high here ready.rises in
    let l = at_leaf s o x (nodes node old image) c es low high free here (subst (λ l. Ready s x key low (walk s (nodes node old image) l c) high free) at ready) in
    did es is (apart_rows s x page es l.ready.clear.1)
refute_here node s o x old new image most page bytes free left es Memory read is did = tt

pub refute_down : {P E : Type 0} (s : Scale P E) → IsOrder s → (x : E) (nodes : ℕ → Node P E) (most less page place child : ℕ) (free : List ℕ) (e : TreeError)
    → most ≡ suc less → LeadsDown s x (nodes page) place child → RefutesWhereBad s x nodes less child free e → RefutesWhereBad s x nodes most page free e
refute_down s o x nodes most less page place child free (View v) is_suc leads refutes = tt
refute_down {P} s o x nodes most less page place child free (Bad bad rule) is_suc leads refutes = λ levels key low high within ready.
    let c : Child P = record { key = key; page = page } in
    let at = inner_level s nodes levels c (leads.front ++ leads.child ∷ leads.back) low high leads.is ready.rises in
    let r = subst (λ l. Ready s x key low (walk s nodes l c) high free) at.1 ready in
    let u = own key leads.front leads.child in
    let b = inner_ready s o x nodes at.0 c leads.front leads.child leads.back low high free leads.is r (own_key s x key leads.front leads.child r.above leads.above) leads.past in
    let there = subst (λ p. RefutesWhereBad s x nodes less p free (Bad bad rule)) (sym (own_page key leads.front leads.child ∙ leads.to)) refutes in
    there (suc at.0) u.key b.mid (bound (flat_map (walk s nodes (suc at.0)) leads.back) high) (let i = at.1 in omega (arith, i, is_suc, within)) b.part
refute_down s o x nodes most less page place child free Memory is_suc leads refutes = tt

-- ---- what a page whose child grew became

pub grown_none : {P E : Type 0} (node : List ℕ → Node P E) (s : Scale P E) → IsOrder s → (bytes : List ℕ) (page place : ℕ) (more : Option (Sibling P)) (old : List Drafted) (between : List ℕ) → more ≡ None
    → (image : Image) (x : E) (before : ℕ → Node P E) (lower child : ℕ) (free : List ℕ) → before page ≡ node bytes → LeadsDown s x (node bytes) place child
    → Grew s x before (nodes node old image) (suc lower) child (children_of more) free between → Grew s x before (nodes node old image) (suc (suc lower)) page [] free between
grown_none node s o bytes page place more old between none image x before lower child free was leads grew =
    inner_same s o x before (nodes node old image) lower page child free between leads.front leads.child leads.back
    (subst (λ n. Route s x n child leads.front leads.child leads.back) (sym was) (route_of s x (node bytes) place child leads))
    (subst (λ m. Grew s x before (nodes node old image) (suc lower) child (children_of m) free between) none grew)

pub grown_some : {P E : Type 0} (node : List ℕ → Node P E) (s : Scale P E) (bytes : List ℕ) (page place : ℕ) (more out : Option (Sibling P)) (new : Sibling P) (old later : List Drafted) (between left : List ℕ) → more ≡ Some new
    → TookChild {E = E} node s bytes page place new old later between left out
    → (image : Image) (x : E) (before : ℕ → Node P E) (lower child : ℕ) (free : List ℕ) → before page ≡ node bytes → LeadsDown s x (node bytes) place child
    → Grew s x before (nodes node old image) (suc lower) child (children_of more) free between → Grew s x before (nodes node later image) (suc (suc lower)) page (children_of out) free left
grown_some node s bytes page place more out new old later between left some took image x before lower child free was leads grew =
    took image x before lower child free was leads (subst (λ m. Grew s x before (nodes node old image) (suc lower) child (children_of m) free between) some grew)

pub grown_refused : {P E : Type 0} (node : List ℕ → Node P E) (s : Scale P E) → IsOrder s → (bytes : List ℕ) (page place : ℕ) (more : Option (Sibling P)) (new : Sibling P) (old later : List Drafted) (between left : List ℕ) (e : TreeError) → more ≡ Some new
    → ChildDid node s bytes page place new old later between left (Err e) → GrownDid node s bytes page place more old later between left (Err e)
grown_refused node s o bytes page place more new old later between left (View v) some did = did
grown_refused node s o bytes page place more new old later between left (Bad bad rule) some did = λ image x before lower child free was leads grew key low high ready.
    did (leads.front ++ leads.child ∷ as_child new ∷ leads.back) (place_of s x (node bytes) place child leads (as_child new))
    (level_keys s o x before (nodes node old image) lower page child (as_child new ∷ []) free between key leads.front leads.child leads.back low high
    (subst (λ n. Route s x n child leads.front leads.child leads.back) (sym was) (route_of s x (node bytes) place child leads))
    (subst (λ m. Grew s x before (nodes node old image) (suc lower) child (children_of m) free between) some grew) ready)
grown_refused node s o bytes page place more new old later between left Memory some did = tt

pub ends_suc : {P E : Type 0} (nodes : ℕ → Node P E) (levels page : ℕ) → EndsAt nodes levels page → (lower : ℕ) × (levels ≡ suc lower)
ends_suc nodes zero page e = absurd e
ends_suc nodes (suc lower) page e = (lower, refl)

pub grown_ok : {P E : Type 0} (node : List ℕ → Node P E) (s : Scale P E) (x : E) (old mid new : List Drafted) (image later : Image) (page place child levels : ℕ) (bytes : List ℕ) (more : Option (Sibling P)) (free between left : List ℕ) (r : Result (Grown P) TreeError)
    → later ≡ image → bytes ≡ shown old image page → LeadsDown s x (node bytes) place child
    → Grew s x (nodes node old later) (nodes node mid later) levels child (children_of more) free between
    → IfOk r (λ g. g.levels ≡ levels + 1) → GrownDid node s bytes page place more mid new between left r
    → IfOk r (λ g. Grew s x (nodes node old image) (nodes node new image) g.levels page (children_of g.sibling) free left)
grown_ok node s x old mid new image later page place child levels bytes more free between left (Err e) same read leads grew count did = count
grown_ok node s x old mid new image later page place child levels bytes more free between left (Ok g) same read leads grew count did =
    let at = ends_suc (nodes node old later) levels child grew.ends in
    let there = subst (λ i. Grew s x (nodes node old i) (nodes node mid i) (suc at.0) child (children_of more) free between) same
    (subst (λ l. Grew s x (nodes node old later) (nodes node mid later) l child (children_of more) free between) at.1 grew) in
    subst (λ l. Grew s x (nodes node old image) (nodes node new image) l page (children_of g.sibling) free left) (let i = at.1 in omega (arith, count, i))
    (did image x (nodes node old image) at.0 child free (ap node (sym read)) leads there)

pub grown_bad : {P E : Type 0} (node : List ℕ → Node P E) (s : Scale P E) → IsOrder s → (x : E) (old mid new : List Drafted) (image later : Image) (most page place child levels : ℕ) (bytes : List ℕ) (more : Option (Sibling P)) (free between left : List ℕ) (r : Result (Grown P) TreeError)
    → later ≡ image → bytes ≡ shown old image page → LeadsDown s x (node bytes) place child
    → Grew s x (nodes node old later) (nodes node mid later) levels child (children_of more) free between
    → GrownDid node s bytes page place more mid new between left r
    → IfErr r (λ e. RefutesWhereBad s x (nodes node old image) most page free e)
grown_bad node s o x old mid new image later most page place child levels bytes more free between left (Ok g) same read leads grew did = tt
grown_bad node s o x old mid new image later most page place child levels bytes more free between left (Err (View v)) same read leads grew did = tt
grown_bad node s o x old mid new image later most page place child levels bytes more free between left (Err Memory) same read leads grew did = tt
grown_bad {P} node s o x old mid new image later most page place child levels bytes more free between left (Err (Bad bad rule)) same read leads grew did = λ all key low high within ready.
    let c : Child P = record { key = key; page = page } in
    let before = nodes node old image in
    let is = ap node (sym read) ∙ leads.is in
    let at = inner_level s before all c (leads.front ++ leads.child ∷ leads.back) low high is ready.rises in
    let r = subst (λ l. Ready s x key low (walk s before l c) high free) at.1 ready in
    let part = inner_part s o before at.0 c leads.front leads.child leads.back low high is r.rises in
    let g = subst (λ i. Grew s x (nodes node old i) (nodes node mid i) levels child (children_of more) free between) same grew in
    let ends = subst (EndsAt before levels) (sym (own_page key leads.front leads.child ∙ leads.to)) g.ends in
    let level = ends_level s o before levels (suc at.0) (own key leads.front leads.child) part.0 (Some part.1) ends part.2 in
    did image x before at.0 child free (ap node (sym read)) leads (subst (λ l. Grew s x before (nodes node mid image) l child (children_of more) free between) (sym level) g) key low high r
