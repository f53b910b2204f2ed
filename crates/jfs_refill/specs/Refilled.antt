-- A page with another list of entries. (JFS Layout, xtree: a header of two slots, then entries.)
use Rattle.std.specs.Prelude.{◌≡◌, ◌<◌, ℕ, true, List, map, length}
use Rattle.jfs_bits.specs.declared.extent.Xad.{Xad}
use Rattle.jfs_bits.specs.Field.{range_of}
use Rattle.jfs_tree.specs.Walk.{Child, Leaf, Inner}
use Rattle.jfs_xtpage.specs.declared.head.XtForm.{XtForm}
use Rattle.jfs_xtpage.specs.Page.{rises_from}
use Rattle.jfs_xtree.specs.Node.{all_within, child_of, xt_node}

-- entries that may stand on a page: they rise, and lie within the blocks of the file system part
pub record IsList (blocks : ℕ) (xs : List Xad) : Type 0 where
  pub order : rises_from 0 xs ≡ true
  pub range : all_within blocks xs ≡ true

-- all bytes of the header stay but the two that tell the number of entries
pub record KeepsHeader (old new : List ℕ) : Type 0 where
  pub before : range_of new 0 18 ≡ range_of old 0 18
  pub behind : range_of new 20 12 ≡ range_of old 20 12

-- What a page reads as whose entries gave way to a list: a leaf has these extents, an inner page these children.
pub record Relisted (form : XtForm) (blocks : ℕ) (list : List Xad) (old new : List ℕ) : Type 0 where
  pub leaf : (es : List Xad) → xt_node form blocks old ≡ Leaf es → xt_node form blocks new ≡ Leaf list
  pub inner : (cs : List (Child ℕ)) → xt_node form blocks old ≡ Inner cs → 0 < length list → xt_node form blocks new ≡ Inner (map child_of list)
