-- How the roots and pages of a volume read. (JFS Layout, struct dinode: a tree's root has the 288 bytes of an inode from byte 224 on, and
-- `rest` begins at byte 128. An extent tree's root has 18 slots, or 10 where attributes share the inode: its header says so.)
use Rattle.std.specs.Prelude.{ℕ, List}
use Rattle.jfs_bits.specs.Field.{range_of}
use Rattle.jfs_inode.specs.declared.fields.Dinode.{Dinode}
use Rattle.jfs_xtpage.specs.declared.head.XtForm.TheVariants as extents
use Rattle.jfs_dtpage.specs.declared.head.DtForm.TheVariants as names
use Rattle.jfs_xtree.specs.Node.{xt_scale, xt_node}
use Rattle.jfs_dtree.specs.Node.{name_scale, dt_node}
use Rattle.jfs_objects.specs.Readers.{Readers}

abbrev pub root_of : Dinode → List ℕ
root_of d = range_of d.rest 96 288

-- on a volume whose file system part has so many blocks
abbrev pub readers : ℕ → Readers
readers blocks = record {
  names_order = name_scale;
  names_root = λ d. dt_node names.Root blocks (root_of d);
  names_page = dt_node names.Full blocks;
  extents_order = xt_scale;
  extents_root = λ d. xt_node extents.Root blocks (root_of d);
  extents_page = xt_node extents.Full blocks;
}
