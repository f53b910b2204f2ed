-- Where a page leads a name. For the prover alone.
use Rattle.std.specs.Prelude.{◌≡◌, ◌<◌, ℕ, suc, true, List, length, slice_get, Some}
use Rattle.jfs_bits.specs.declared.descriptor.Pxd.{Pxd}
use Rattle.jfs_dtpage.specs.Order.{IsBefore, name_at}
use Rattle.jfs_dtpage.specs.Page.{Entry, Below}
use Rattle.jfs_dtree.specs.Node.{not_after}

-- the place of the last key that doesn't come after the name, or of the first one
pub record LeadsAt (keys : List (List ℕ)) (name : List ℕ) (place : ℕ) : Type 0 where
  pub within : place < length keys
  pub above : 0 < place → not_after (name_at keys place) name ≡ true
  pub past : suc place < length keys → IsBefore name (name_at keys (suc place))

-- the child at a place is this page
abbrev pub IsChildAt : List Entry → ℕ → ℕ → Type 0
IsChildAt entries place page = (at : Pxd) × (key : List ℕ) × (slice_get entries place ≡ Some (Below at key)) × (page ≡ at.addr)
