-- What is taken out of a directory and what isn't there, as the call says it.
use Rattle.std.proofs.Common.{◌≡◌, sym, ap, ◌∙◌, subst, ℕ, ◌+◌, List, Option, Some, None, Ok}
use Rattle.std.specs.Option.{option_map}
use Rattle.jfs_disk.specs.Image.{Image, page_of}
use Rattle.jfs_name.specs.declared.name.NameEntry.{NameEntry}
use Rattle.jfs_name.specs.Directory.{named}
use Rattle.jfs_dtpage.specs.declared.head.DtForm.TheVariants.{Root, Full}
use Rattle.jfs_ranges.specs.declared.edit.Edit.{Edit}
use Rattle.jfs_tree.specs.Spells.{spells, footprint}
use Rattle.jfs_tree.specs.Edit.{count_in, found_in}
use Rattle.jfs_tree.specs.Fresh.{after_tx}
use Rattle.jfs_tree.specs.Adds.{read_as}
use Rattle.jfs_tree.specs.Removes.{RemovesTold}
use Rattle.jfs_tree.specs.Root.{NamesBroken}
use Rattle.jfs_tree.specs.declared.form.TreeError.{TreeError}
use Rattle.jfs_tree.specs.declared.form.TreeError.TheVariants.{View, Bad, Memory}
use Rattle.jfs_dtree.specs.Node.{name_scale, dt_node}
use Rattle.jfs_dtree.specs.Spells.{root_node, page_nodes, spells_names}
use Rattle.jfs_dtree.specs.Errors.{handed_on}
use Rattle.jfs_dtree.specs.Removing.{RemovesName, MissesName}
use Rattle.jfs_dtree.proofs.Delisted.{taken_as}
use Rattle.jfs_dtree.proofs.Listed.{found_named}

-- what the tree's call says, with the numbers of the directory's
told_of : (b blocks : ℕ) (pages : ℕ → List ℕ) (root mid name : List ℕ) (x : NameEntry) (found : Option NameEntry) (tx later : List Edit) → b ≡ blocks → x ≡ record { name = name; inode = 0 }
    → RemovesTold name_scale (dt_node Full b) blocks pages x (dt_node Root b root) (dt_node Root b mid) tx later found
    → RemovesTold name_scale (dt_node Full blocks) blocks pages (record { name = name; inode = 0 }) (dt_node Root blocks root) (dt_node Root blocks mid) tx later found
told_of b blocks pages root mid name x found tx later eb ex told =
    subst (λ y. RemovesTold name_scale (dt_node Full blocks) blocks pages y (dt_node Root blocks root) (dt_node Root blocks mid) tx later found) ex
    (subst (λ n. RemovesTold name_scale (dt_node Full n) blocks pages x (dt_node Root n root) (dt_node Root n mid) tx later found) eb told)

-- the inode that the name names is that of the entry that is found
names_found : (blocks : ℕ) (pages : ℕ → List ℕ) (root name : List ℕ) (es : List NameEntry) (found : Option NameEntry) → spells_names blocks pages root ≡ Ok es → found ≡ found_in name_scale (record { name = name; inode = 0 }) es
    → named name es ≡ option_map (λ (e : NameEntry). e.inode) found
names_found blocks pages root name es found spelled is =
    sym (ap (option_map (λ (e : NameEntry). e.inode)) is ∙ found_named (page_nodes blocks pages) (root_node blocks root) es (record { name = name; inode = 0 }) spelled)

pub removes_as : (b blocks : ℕ) (image : Image) (root mid after name : List ℕ) (x e : NameEntry) (found : Option NameEntry) (inode : ℕ) (tx later : List Edit) → b ≡ blocks → x ≡ record { name = name; inode = 0 } → inode ≡ e.inode → found ≡ Some e
    → ((k : ℕ) → dt_node Root k after ≡ dt_node Root k mid) → RemovesTold name_scale (dt_node Full b) blocks (page_of image) x (dt_node Root b root) (dt_node Root b mid) tx later found
    → RemovesName blocks (page_of image) name root after tx later inode
removes_as b blocks image root mid after name x e found inode tx later eb ex ei is same given es spelled =
    let pages = page_of image in
    let y : NameEntry = record { name = name; inode = 0 } in
    let told = subst (RemovesTold name_scale (dt_node Full blocks) blocks pages y (dt_node Root blocks root) (dt_node Root blocks mid) tx later) is (told_of b blocks pages root mid name x found tx later eb ex given) in
    let t = told es spelled in (
      names_found blocks pages root name es (Some e) spelled t.0 ∙ ap Some (sym ei),
      (
        t.1.0,
        t.1.1,
        λ base leads.
            let a = t.1.2 base leads in
            let now = page_nodes blocks (after_tx base later) in
            record {
              spelled = ap (spells name_scale now) (same blocks) ∙ a.spelled ∙ ap (λ list. Ok list) (taken_as (page_nodes blocks pages) (root_node blocks root) es a.list y e spelled (sym t.0) a.gone);
              owned = λ n. ap (λ node. footprint name_scale now node n + count_in n t.1.0) (same blocks) ∙ a.owned n;
              keeps = a.keeps;
            },
      ),
    )

pub missed_as : (b blocks : ℕ) (image : Image) (root mid name : List ℕ) (x : NameEntry) (found : Option NameEntry) (tx later : List Edit) → b ≡ blocks → x ≡ record { name = name; inode = 0 } → found ≡ None
    → RemovesTold name_scale (dt_node Full b) blocks (page_of image) x (dt_node Root b root) (dt_node Root b mid) tx later found → (es : List NameEntry) → spells_names blocks (page_of image) root ≡ Ok es → named name es ≡ None
missed_as b blocks image root mid name x found tx later eb ex is given es spelled =
    names_found blocks (page_of image) root name es found spelled (told_of b blocks (page_of image) root mid name x found tx later eb ex given es spelled).0 ∙ ap (option_map (λ (e : NameEntry). e.inode)) is

misses_on : (blocks : ℕ) (pages : ℕ → List ℕ) (name root : List ℕ) (e : TreeError) → NamesBroken name_scale (page_nodes blocks pages) (root_node blocks root) e → MissesName blocks pages name root (handed_on e)
misses_on blocks pages name root (View e) h = h
misses_on blocks pages name root (Bad page rule) h = h
misses_on blocks pages name root Memory h = tt

pub misses_as : (b blocks : ℕ) (image : Image) (root name : List ℕ) (e : TreeError) → b ≡ blocks → NamesBroken name_scale (read_as (dt_node Full b) (page_of image)) (dt_node Root b root) e → MissesName blocks (page_of image) name root (handed_on e)
misses_as b blocks image root name e eb h =
    misses_on blocks (page_of image) name root e (subst (λ n. NamesBroken name_scale (read_as (dt_node Full n) (page_of image)) (dt_node Root n root) e) eb h)
