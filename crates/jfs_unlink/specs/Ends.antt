-- The two ends of a path: the directory that holds its last name, and the object that the name leads to.
use Rattle.std.specs.Prelude.{◌≡◌, ◌⊎◌, ◌<◌, ℕ, true, List, Result, Ok, Err}
use Rattle.jfs_inode.specs.Inode.{FitsDinode}
use Rattle.jfs_imap.specs.Inodes.{Inodes}
use Rattle.jfs_plain.specs.Tree.{Tree, walk, enter, root}
use Rattle.jfs_plain.specs.declared.refusal.Refusal.{Refusal}
use Rattle.jfs_loss.specs.steps.specs.Place.{front_of, last_of}
use Rattle.jfs_loss.specs.way.specs.Answer.{is_open, Answers}
use Rattle.jfs_loss.specs.way.specs.Way.{name_from, path_of}
use Rattle.jfs_loss.specs.way.specs.Walk.{IsThere, IsHeld, IsShown}
use Rattle.jfs_unlink.specs.declared.ends.Ends.{Ends}

-- both are where the map of inodes says, and break no rule
abbrev pub AreHeld : ℕ → Inodes → Ends → Type 0
AreHeld blocks inodes e = IsHeld blocks inodes e.dir × IsHeld blocks inodes e.at

abbrev pub AreShown : (ℕ → List ℕ) → Ends → Type 0
AreShown pages e = IsShown pages e.dir × IsShown pages e.at

-- What they are in a tree.
pub record AreEnds (t : Tree) (path : List (List ℕ)) (e : Ends) : Type 0 where
  pub walked : walk t root (front_of path) ≡ Ok e.dir.number
  pub in_tree : IsThere t e.dir.number
  pub entered : enter t e.dir.number (last_of path) ≡ Ok e.at.number
  pub there : IsThere t e.at.number

abbrev pub FollowsEnds : Tree → List (List ℕ) → Result Ends Refusal → Type 0
FollowsEnds t path (Ok e) = AreEnds t path e
FollowsEnds t path (Err why) = (walk t root path ≡ Err why) ⊎ (is_open why ≡ true)

-- What the pages on the way give, whatever the volume holds.
abbrev pub MeetsEnds : ℕ → (ℕ → List ℕ) → Inodes → List (List ℕ) → Result Ends Refusal → Type 0
MeetsEnds blocks pages inodes path (Ok e) = (path_of blocks pages inodes (front_of path) ≡ Ok e.dir) × (name_from blocks pages inodes e.dir (last_of path) ≡ Ok e.at) × (path_of blocks pages inodes path ≡ Ok e.at)
MeetsEnds blocks pages inodes path (Err why) = Answers (path_of blocks pages inodes path) (Err why)

-- their inodes lie within the file system part
abbrev pub AreWithin : ℕ → Ends → Type 0
AreWithin blocks e = (e.dir.page < blocks) × (e.at.page < blocks) × FitsDinode e.dir.inode × FitsDinode e.at.inode
