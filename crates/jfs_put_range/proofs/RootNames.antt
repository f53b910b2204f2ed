-- Where the root is named.
use Rattle.std.proofs.Common.{◌≡◌, inl, inr, ap, ◌∙◌, subst, ℕ, ◌+◌, Bool, true, false, List, ◌++◌, [], length, Ok, Err, Result, IfErr, arith}
use Rattle.jfs_bits.specs.declared.extent.Xad.{Xad}
use Rattle.jfs_tree.specs.Walk.{Node}
use Rattle.jfs_tree.specs.Call.{IsRead}
use Rattle.jfs_tree.specs.declared.draft.Drafted.{Drafted}
use Rattle.jfs_tree.specs.declared.form.TreeError.{TreeError}
use Rattle.jfs_tree.specs.declared.form.TreeError.TheVariants.{View, Bad, Memory}
use Rattle.jfs_xtpage.specs.declared.head.XtForm.{XtForm}
use Rattle.jfs_xtree.specs.Node.{xt_node}
use Rattle.jfs_refill.specs.Rooted.{RootStored}
use Rattle.jfs_put_range.specs.Parts.{Pushed, NamesBelow}
use Rattle.jfs_put_range.specs.Tops.{IsOpenedRoot, BreaksRoot, NamesRoot}
use Rattle.jfs_put_range.proofs.RootRanges.{two_taken}

pub below_named : (node : Node ℕ Xad) (root : List ℕ) (e : TreeError) → NamesBelow e → NamesRoot node root e
below_named node root (View v) h = tt
below_named node root (Bad bad rule) h = λ is. absurd (omega (arith, h, is))
below_named node root Memory h = tt

pub broken_named : (node : Node ℕ Xad) (root : List ℕ) (e : TreeError) → BreaksRoot node e → NamesRoot node root e
broken_named node root (View v) h = tt
broken_named node root (Bad bad rule) h = λ is. inl h.1
broken_named node root Memory h = tt

pub read_named : (node : Node ℕ Xad) (root : List ℕ) (e : TreeError) → IsRead e → NamesRoot node root e
read_named node root (View v) h = tt
read_named node root (Bad bad rule) h = absurd h
read_named node root Memory h = tt

pub read_names : {T : Type 0} (node : Node ℕ Xad) (root : List ℕ) (r : Result T TreeError) → IfErr r IsRead → IfErr r (NamesRoot node root)
read_names node root (Ok it) h = tt
read_names node root (Err e) h = read_named node root e h

-- a leaf's list is never too long for a level more
pub leaf_named : (node : Node ℕ Xad) (list : List Xad) (root after : List ℕ) (old new : List Drafted) (free left : List ℕ) (r : Result (Unit {0}) TreeError) → RootStored 1 list root after old new free left r → IfErr r (NamesRoot node root)
leaf_named node list root after old new free left (Ok it) h = tt
leaf_named node list root after old new free left (Err (View v)) h = tt
leaf_named node list root after old new free left (Err (Bad bad rule)) h = λ is. absurd (let m = h.2 in omega (arith, m))
leaf_named node list root after old new free left (Err Memory) h = tt

-- children's entries are at most two more than the root's
pub inner_named : (form : XtForm) (tells : Type 0) (last : Bool) (blocks n : ℕ) (ys : List Xad) (l r : Bool) (before after : ℕ → List ℕ) (levels : ℕ) (entries start all listed : List Xad) (free between left : List ℕ) (root now : List ℕ) (mid new : List Drafted) (result : Result (Unit {0}) TreeError)
    → IsOpenedRoot form blocks root entries false → Pushed tells last n ys l r true before after levels entries start all free between → start ≡ [] → listed ≡ all
    → RootStored (levels + 1) listed root now mid new between left result → IfErr result (NamesRoot (xt_node form blocks root) root)
inner_named form tells last blocks n ys l r before after levels entries start all listed free between left root now mid new (Ok it) opened p none read h = tt
inner_named form tells last blocks n ys l r before after levels entries start all listed free between left root now mid new (Err (View v)) opened p none read h = tt
inner_named form tells last blocks n ys l r before after levels entries start all listed free between left root now mid new (Err (Bad bad rule)) opened p none read h = λ is.
    let made_few = p.few in
    let two = two_taken ys l r in
    let count = ap length (read ∙ p.is ∙ ap (λ zs. zs ++ p.made) none) in
    let entries_count = opened.count in
    let long = h.3 in
    inr (omega (arith, made_few, two, count, entries_count, long))
inner_named form tells last blocks n ys l r before after levels entries start all listed free between left root now mid new (Err Memory) opened p none read h = tt

-- by the root's size
pub named_as : (b blocks : ℕ) (form rf : XtForm) (root : List ℕ) (e : TreeError) → b ≡ blocks → form ≡ rf → NamesRoot (xt_node form b root) root e → NamesRoot (xt_node rf blocks root) root e
named_as b blocks form rf root e eb ef h = subst (λ f. NamesRoot (xt_node f blocks root) root e) ef (subst (λ n. NamesRoot (xt_node form n root) root e) eb h)
