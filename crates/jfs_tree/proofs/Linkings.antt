-- A call on a whole tree, and then links that are set.
use Rattle.std.proofs.Common.{◌≡◌, ◌≤◌, ◌∙◌, subst, ℕ, ◌+◌, List, [], Option, Some, None, Ok, Err, IfNone, arith}
use Rattle.std.proofs.Math.Path.{fun_ext}
use Rattle.jfs_bits.specs.declared.rule.Rule.{Rule}
use Rattle.jfs_disk.specs.Image.{Image}
use Rattle.jfs_tree.specs.Walk.{Node, Scale, IsOrder}
use Rattle.jfs_tree.specs.Spells.{no_page, spells, footprint}
use Rattle.jfs_tree.specs.Edit.{IsCons}
use Rattle.jfs_tree.specs.Draft.{shown}
use Rattle.jfs_tree.specs.Call.{nodes, pages_of, IsRead}
use Rattle.jfs_tree.specs.Room.{LevelsWhereFull}
use Rattle.jfs_tree.specs.Root.{AddsAlways, KeepsAlways, RefusesWhereBad}
use Rattle.jfs_tree.specs.RootLoss.{KeepsOthers, RemovesAlways}
use Rattle.jfs_tree.specs.Refusal.{TellsRefusal}
use Rattle.jfs_tree.specs.Fresh.{HasPages}
use Rattle.jfs_tree.specs.Linking.{LinksTree}
use Rattle.jfs_tree.specs.declared.draft.Drafted.{Drafted}
use Rattle.jfs_tree.specs.declared.form.TreeError.{TreeError}
use Rattle.jfs_tree.specs.declared.form.TreeError.TheVariants.{View, Bad, Memory}
use Rattle.jfs_tree.proofs.Owning.{owns, owns_not, owns_top, owns_closed}

-- all pages read as before
pub same_nodes : {P E : Type 0} (node : List ℕ → Node P E) (frame : List ℕ → List ℕ) (image later : Image) (old new : List Drafted) (root : Node P E) → later ≡ image → LinksTree node frame later old new root → nodes node new image ≡ nodes node old image
same_nodes node frame image later old new root same links = let l = subst (λ (i : Image). LinksTree node frame i old new root) same links in fun_ext l.same

-- only pages of the tree changed, where the root spells a list
pub links_keep : {P E : Type 0} (node : List ℕ → Node P E) (frame : List ℕ → List ℕ) (s : Scale P E) → IsOrder s → (image later : Image) (old new : List Drafted) (root : Node P E) (es : List E) (bound : ℕ) → later ≡ image → bound ≤ no_page → HasPages bound root → ((bytes : List ℕ) → HasPages bound (node bytes))
    → LinksTree node frame later old new root → spells s (nodes node old image) root ≡ Ok es → (n : ℕ) → footprint s (nodes node old image) root n ≡ 0 → shown new image n ≡ shown old image n
links_keep node frame s o image later old new root es bound same small top all links spelled n foot =
    let l = subst (λ (i : Image). LinksTree node frame i old new root) same links in
    let pages = nodes node old image in
    l.keeps (owns s pages root) (owns_closed s o pages root es bound small (λ m. all (shown old image m)) spelled) (owns_top s o pages root es bound small top spelled) n (owns_not s pages root n foot)

-- ---- an entry more

off_new : (new left old free : ℕ) → new + left ≡ old + free → old ≡ 0 → free ≡ left → new ≡ 0
off_new new left old free e z same = omega (arith, e, z, same)

pub adds_kept : {P E : Type 0} (node : List ℕ → Node P E) (frame : List ℕ → List ℕ) (s : Scale P E) → IsOrder s → (x : E) (image later : Image) (old mid new : List Drafted) (root after : Node P E) (free left : List ℕ) (bound : ℕ) → later ≡ image → bound ≤ no_page → HasPages bound after → ((bytes : List ℕ) → HasPages bound (node bytes))
    → LinksTree node frame later mid new after → AddsAlways s x (nodes node old image) (nodes node mid image) root after free left → KeepsAlways s x (nodes node old image) root image old mid free left → KeepsAlways s x (nodes node old image) root image old new free left
adds_kept node frame s o x image later old mid new root after free left bound same small top all links adds keeps es spelled apart spare n foot count =
    let a = adds es spelled apart spare in
    links_keep node frame s o image later mid new after a.list bound same small top all links a.spelled n (off_new _ _ _ _ (a.pages n) foot count) ∙ keeps es spelled apart spare n foot count

pub refuses_read : {P E : Type 0} (s : Scale P E) (x : E) (pages : ℕ → Node P E) (root : Node P E) (free : List ℕ) (e : TreeError) → IsRead e → RefusesWhereBad s x pages root free e
refuses_read s x pages root free (View e) h = tt
refuses_read s x pages root free (Bad page rule) h = absurd h
refuses_read s x pages root free Memory h = tt

pub refusal_read : (first : Option (ℕ × Rule)) (clashes : ℕ → Type 0) (deep : Type 0) (e : TreeError) → IsRead e → TellsRefusal first clashes deep e
refusal_read first clashes deep (View e) h = tt
refusal_read first clashes deep (Bad page rule) h = absurd h
refusal_read first clashes deep Memory h = tt

pub levels_read : {P E : Type 0} (s : Scale P E) (x : E) (old new : ℕ → Node P E) (root after : Node P E) (free : List ℕ) (grows full : Type 0) (e : TreeError) → IsRead e → LevelsWhereFull s x old new root after free grows full (Err e)
levels_read s x old new root after free grows full (View e) h = tt
levels_read s x old new root after free grows full (Bad page rule) h = absurd h
levels_read s x old new root after free grows full Memory h = tt

-- ---- an entry less

off_old : (a f o : ℕ) → a + f ≡ o → o ≡ 0 → a ≡ 0
off_old a f o e z = omega (arith, e, z)

pub removes_kept : {P E : Type 0} (node : List ℕ → Node P E) (frame : List ℕ → List ℕ) (s : Scale P E) → IsOrder s → (x : E) (image later : Image) (mid new : List Drafted) (root after : Node P E) (freed : List ℕ) (found : Option E) (X Y : Type 0) (bound : ℕ) → later ≡ image → bound ≤ no_page → HasPages bound after
    → ((bytes : List ℕ) → HasPages bound (node bytes)) → IsCons freed → IfNone found (X × Y × (freed ≡ [])) → LinksTree node frame later mid new after
    → RemovesAlways s x (pages_of node image) (nodes node mid image) root after freed found → KeepsOthers s (pages_of node image) root image mid → KeepsOthers s (pages_of node image) root image new
removes_kept node frame s o x image later mid new root after freed None X Y bound same small top all some none links removes keeps es spelled n foot = absurd (subst IsCons none.2 some)
removes_kept node frame s o x image later mid new root after freed (Some e) X Y bound same small top all some none links removes keeps es spelled n foot =
    let a = (removes es spelled).1 in
    links_keep node frame s o image later mid new after a.list bound same small top all links a.spelled n (off_old _ _ _ (a.pages n) foot) ∙ keeps es spelled n foot
