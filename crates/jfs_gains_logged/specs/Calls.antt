-- What the transactions log by which a directory gains a name, on a consistent volume.
use Rattle.std.specs.Prelude.{◌≡◌, ℕ, List, length, Ok}
use Rattle.jfs_bits.specs.declared.descriptor.Moment.{Moment}
use Rattle.jfs_imap.specs.Inodes.{Inodes}
use Rattle.jfs_ranges.specs.declared.edit.Edit.{Edit}
use Rattle.jfs_create.specs.link.specs.Link.{LinksAs}
use Rattle.jfs_create.specs.link.specs.declared.linking.Linked.TheVariants as linked
use Rattle.jfs_create.specs.bmap.specs.States.{Blocks}
use Rattle.jfs_create.specs.Reserved.{IsMade}
use Rattle.jfs_create.specs.New.{FitsNew}
use Rattle.jfs_create.specs.declared.new.NewObject.{NewObject}
use Rattle.jfs_names_logged.specs.calls_logged.specs.Calls.{IsReady, IsLogged}

-- A link, and a new object. The block map has as many blocks as the file system part.
pub record GainLaw : Type 0 where
  pub links : (blocks : ℕ) (pages : ℕ → List ℕ) (area : ℕ → ℕ) (map : Blocks) (inodes : Inodes) (from to : List (List ℕ)) (now : Moment) (tx : List Edit) → IsReady blocks pages area map inodes → length map.states ≡ blocks
      → LinksAs blocks pages map inodes from to now (Ok (linked.Done tx)) → IsLogged blocks pages area map inodes tx
  pub makes : (blocks : ℕ) (pages : ℕ → List ℕ) (area : ℕ → ℕ) (map : Blocks) (inodes : Inodes) (path : List (List ℕ)) (object : NewObject) (now : Moment) (after : Blocks) (tx : List Edit) → IsReady blocks pages area map inodes → length map.states ≡ blocks
      → FitsNew object → IsMade blocks pages inodes path object now map after tx → IsLogged blocks pages area map inodes tx
