-- What makes a page of an inode map a function of its inodes and extents.
use Rattle.std.specs.Prelude.{◌≡◌, ℕ, ◌*◌, ◌<◌, Bool, List}
use Rattle.jfs_bits.specs.declared.descriptor.Pxd.{Pxd}
use Rattle.jfs_bits.specs.Field.{AreBytes}
use Rattle.jfs_iag.specs.declared.canonical.Links.{Links}
use Rattle.jfs_iag.specs.Canonical.{IsIagPage, IsControlPage}

-- the same inodes are in use, and the same extents are there, of so many IAGs
pub record AreSame (iags : ℕ) (taken others : ℕ → Bool) (extent places : ℕ → Pxd) : Type 0 where
  pub inodes : (i : ℕ) → i < 4096 * iags → taken i ≡ others i
  pub extents : (e : ℕ) → e < 128 * iags → extent e ≡ places e

-- two canonical pages of IAGs with the same inodes, extents, numbers and list words hold the same bytes
abbrev pub IagPagesAgree : Type 0
IagPagesAgree = (taken others : ℕ → Bool) (extent places : ℕ → Pxd) (number start : ℕ) (links : Links) (one other : List ℕ) → AreSame 1 taken others extent places → AreBytes one → AreBytes other → IsIagPage taken extent number start links one → IsIagPage others places number start links other → one ≡ other

-- so do two canonical control pages of the same inodes, extents, IAGs and groups
abbrev pub ControlPagesAgree : Type 0
ControlPagesAgree = (taken others : ℕ → Bool) (extent places : ℕ → Pxd) (iags numag : ℕ) (one other : List ℕ) → AreSame iags taken others extent places → AreBytes one → AreBytes other → IsControlPage taken extent iags numag one → IsControlPage others places iags numag other → one ≡ other
