-- What unlink and rmdir meet, and what their transactions do.
use Rattle.std.specs.Prelude.{◌≡◌, ◌⊎◌, ◌&&◌, ◌==◌, ◌-◌, ℕ, true, false, nat_le, nat_lt, if◌then◌else◌, Bool, List, [], ◌∷◌, length, Result, Ok, Err}
use Rattle.jfs_bits.specs.declared.descriptor.Moment.{Moment}
use Rattle.jfs_inode.specs.Rules.{type_of}
use Rattle.jfs_inode.specs.declared.fields.Dinode.{Dinode}
use Rattle.jfs_imap.specs.Inodes.{Inodes}
use Rattle.jfs_loss.specs.bmap.specs.States.{Blocks}
use Rattle.jfs_name.specs.declared.name.NameEntry.{NameEntry}
use Rattle.jfs_ranges.specs.declared.edit.Edit.{Edit}
use Rattle.jfs_tree.specs.Walk.{Node, Leaf, Inner, Broken}
use Rattle.jfs_dtree.specs.Spells.{root_node}
use Rattle.jfs_loss.specs.objects.specs.Objects.{has_names}
use Rattle.jfs_loss.specs.meaning.specs.Readers.{readers, root_of}
use Rattle.jfs_loss.specs.meaning.specs.Consistent.{IsConsistent}
use Rattle.jfs_plain.specs.Tree.{Tree, and_then}
use Rattle.jfs_plain.specs.Step.{Outcome}
use Rattle.jfs_plain.specs.declared.refusal.Refusal.{Refusal}
use Rattle.jfs_plain.specs.declared.refusal.Refusal.TheVariants.{IsDir, NotDir, NotEmpty, FileTooBig, IntoItself, Damaged}
use Rattle.jfs_loss.specs.Causes.{freed_from}
use Rattle.jfs_loss.specs.way.specs.Answer.{is_open}
use Rattle.jfs_loss.specs.way.specs.Volume.{volume_of, PlacesWithin}
use Rattle.jfs_loss.specs.way.specs.Walk.{IfConsistent}
use Rattle.jfs_loss.specs.way.specs.Way.{path_of}
use Rattle.jfs_loss.specs.way.specs.declared.object.Held.{Held}
use Rattle.jfs_unlink.specs.declared.ends.Ends.{Ends}
use Rattle.jfs_loss.specs.steps.specs.Place.{last_of}
use Rattle.jfs_loss.specs.steps.specs.After.{after_call}
use Rattle.jfs_loss.specs.steps.specs.Laws.{IsFair}
use Rattle.jfs_loss.specs.steps.specs.Call.{IsDone}
use Rattle.jfs_unlink.specs.Ends.{MeetsEnds}
use Rattle.jfs_unlink.specs.Gone.{DropsNamed, LeavesNamed}

-- ---- unlink, whatever the volume holds

-- a regular file with its last name, whose size is above the limit
abbrev pub is_last_of_big : ℕ → Dinode → Bool
is_last_of_big limit d = type_of d == 0x8000 && (nat_le d.nlink 1 && nat_lt limit d.size)

-- The causes in their order; an object that goes is read whole.
abbrev pub unlink_at : ℕ → (ℕ → List ℕ) → ℕ → Held → Result Held Refusal
unlink_at blocks pages limit at = if has_names at.inode then Err IsDir else (if is_last_of_big limit at.inode then Err FileTooBig else (if nat_le at.inode.nlink 1 then freed_from blocks pages at else Ok at))

-- the root is a directory
abbrev pub unlink_of : ℕ → (ℕ → List ℕ) → Inodes → List (List ℕ) → ℕ → Result Held Refusal
unlink_of blocks pages inodes path limit = if length path == 0 then Err IsDir else and_then (path_of blocks pages inodes path) (unlink_at blocks pages limit)

-- ---- rmdir, whatever the volume holds

-- An empty directory's root is a leaf without names; a root that breaks a rule stands on its inode's page.
abbrev pub bare_at : Held → Node (List ℕ) NameEntry → Result Held Refusal
bare_at at (Leaf []) = Ok at
bare_at at (Leaf (e ∷ es)) = Err NotEmpty
bare_at at (Inner cs) = Err NotEmpty
bare_at at (Broken rule) = Err (Damaged at.page rule)

abbrev pub rmdir_at : ℕ → Held → Result Held Refusal
rmdir_at blocks at = if has_names at.inode then bare_at at (root_node blocks (root_of at.inode)) else Err NotDir

abbrev pub rmdir_of : ℕ → (ℕ → List ℕ) → Inodes → List (List ℕ) → Result Held Refusal
rmdir_of blocks pages inodes path = if length path == 0 then Err IntoItself else and_then (path_of blocks pages inodes path) (rmdir_at blocks)

-- ---- what is done

-- The last name goes with its object, or the object has one link less.
abbrev pub TakesName : Bool → ℕ → (ℕ → List ℕ) → Ends → List ℕ → Moment → List Edit → Type 0
TakesName true blocks pages e name now tx = DropsNamed blocks pages e name e.dir.inode.nlink now tx
TakesName false blocks pages e name now tx = LeavesNamed blocks pages e name now tx

abbrev pub Unlinks : ℕ → (ℕ → List ℕ) → Inodes → List (List ℕ) → ℕ → Moment → List Edit → Type 0
Unlinks blocks pages inodes path limit now tx = (e : Ends) × MeetsEnds blocks pages inodes path (Ok e) × (unlink_of blocks pages inodes path limit ≡ Ok e.at) × TakesName (nat_le e.at.inode.nlink 1) blocks pages e (last_of path) now tx

-- The directory goes; the one that holds it has one link less.
abbrev pub Removes : ℕ → (ℕ → List ℕ) → Inodes → List (List ℕ) → Moment → List Edit → Type 0
Removes blocks pages inodes path now tx = (e : Ends) × MeetsEnds blocks pages inodes path (Ok e) × (rmdir_of blocks pages inodes path ≡ Ok e.at) × DropsNamed blocks pages e (last_of path) (e.dir.inode.nlink - 1) now tx

-- what is told of a root: it has no name, or why it stays
abbrev pub IsBare : {T : Type 0} → Held → Node (List ℕ) NameEntry → Result T Refusal → Type 0
IsBare at node (Ok it) = bare_at at node ≡ Ok at
IsBare at node (Err why) = bare_at at node ≡ Err why

-- ---- on a consistent volume

-- The transaction takes the plain step of a consistent volume's tree, whatever block map it has of the file system part's blocks; a refusal is the plain step's, or it is open.
abbrev pub StepsOn : ℕ → (ℕ → List ℕ) → Inodes → (Tree → Outcome) → Result (List Edit) Refusal → Type 0
StepsOn blocks pages inodes plain (Ok tx) = PlacesWithin blocks inodes → (area : ℕ → ℕ) (map : Blocks) → length map.states ≡ blocks → IsConsistent (readers blocks) (volume_of pages area map inodes)
    → IsDone blocks (volume_of pages area map inodes) (after_call blocks tx (volume_of pages area map inodes)) plain
StepsOn blocks pages inodes plain (Err why) = IfConsistent blocks pages inodes (λ t. (plain t ≡ Err why) ⊎ (is_open why ≡ true))

-- On a consistent volume the transaction frees blocks in use alone, each once.
abbrev pub FreesOnceOn : ℕ → (ℕ → List ℕ) → Inodes → List Edit → Type 0
FreesOnceOn blocks pages inodes tx = PlacesWithin blocks inodes → (area : ℕ → ℕ) (map : Blocks) → length map.states ≡ blocks → IsConsistent (readers blocks) (volume_of pages area map inodes) → IsFair tx (volume_of pages area map inodes).used
