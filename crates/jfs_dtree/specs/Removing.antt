-- What is taken out of a directory's names.
use Rattle.std.specs.Prelude.{◌≡◌, ◌<◌, ℕ, ◌+◌, List, Some, None, Ok}
use Rattle.jfs_name.specs.declared.name.NameEntry.{NameEntry}
use Rattle.jfs_name.specs.Directory.{named, without_name}
use Rattle.jfs_ranges.specs.declared.edit.Edit.{Edit}
use Rattle.jfs_tree.specs.Edit.{count_in}
use Rattle.jfs_tree.specs.Fresh.{LeadsTo, after_tx}
use Rattle.jfs_tree.specs.Removes.{TellsFreed}
use Rattle.jfs_tree.specs.Root.{NamesBroken}
use Rattle.jfs_tree.specs.declared.form.TreeError.TheVariants as tree
use Rattle.jfs_dtree.specs.Node.{name_scale}
use Rattle.jfs_dtree.specs.Spells.{root_node, page_nodes, spells_names, owned_pages}
use Rattle.jfs_dtree.specs.declared.error.DtError.{DtError}
use Rattle.jfs_dtree.specs.declared.error.DtError.TheVariants.{View, Bad, Exists, Missing, TooDeep}

-- A root that spelled these names spells all but one. The pages that it has no more are the freed ones, and each page of the file system that isn't its own keeps its bytes.
pub record HasOneLessName (blocks : ℕ) (name : List ℕ) (es : List NameEntry) (pages later : ℕ → List ℕ) (root after : List ℕ) (freed : List ℕ) : Type 0 where
  pub spelled : spells_names blocks later after ≡ Ok (without_name name es)
  pub owned : (n : ℕ) → owned_pages blocks later after n + count_in n freed ≡ owned_pages blocks pages root n
  pub keeps : (n : ℕ) → n < blocks → owned_pages blocks pages root n ≡ 0 → later n ≡ pages n

-- Whatever names the root spelled, this one named the inode. The transaction has the changed lines, and then what frees the pages that the root has no more; where the edits before
-- lead to the pages that the view shows, all edits lead to pages in which the root spells the other names.
abbrev pub RemovesName : ℕ → (ℕ → List ℕ) → List ℕ → List ℕ → List ℕ → List Edit → List Edit → ℕ → Type 0
RemovesName blocks pages name root after tx later inode = (es : List NameEntry) → spells_names blocks pages root ≡ Ok es → (named name es ≡ Some inode)
    × ((freed : List ℕ) × TellsFreed freed tx later × ((base : ℕ → List ℕ) → LeadsTo blocks base tx pages → HasOneLessName blocks name es pages (after_tx base later) root after freed))

-- the cause of a failure: the name isn't there; a page is named only where it breaks a rule on the way down, and then the root spells no list
abbrev pub MissesName : ℕ → (ℕ → List ℕ) → List ℕ → List ℕ → DtError → Type 0
MissesName blocks pages name root (View e) = Unit {0}
MissesName blocks pages name root (Bad page rule) = NamesBroken name_scale (page_nodes blocks pages) (root_node blocks root) (tree.Bad page rule)
MissesName blocks pages name root Exists = ⊥
MissesName blocks pages name root Missing = (es : List NameEntry) → spells_names blocks pages root ≡ Ok es → named name es ≡ None
MissesName blocks pages name root TooDeep = ⊥
