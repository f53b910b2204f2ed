use Rattle.std.proofs.Common.{◌≡◌, ◌∙◌, length, arith}
use Rattle.jfs_bits.specs.Field.{put_bytes}
use Rattle.jfs_bits.proofs.Fields.{put_between}
use Rattle.jfs_buddy.proofs.Parts.{part-is, part-held, part-put, length-range_of}
use Rattle.jfs_dmapctl.specs.Control.{tree_of}
use Rattle.jfs_dmapctl.proofs.part.clear.Goals as goal

size_is : (c : goal.After-slice_known-2-1) → length c.clear_tree.new.tree ≡ 1365
size_is c = rw (part-is c.args.bytes.now 17 1365) at c.clear_tree.auto.tree ∙ length-range_of c.args.bytes.now 17 1365 (omega arith)

pub returns-clause-tree : goal.returns-clause-tree
returns-clause-tree c some =
    let held : tree_of (put_bytes 17 c.clear_tree.new.tree c.args.bytes.now) ≡ c.clear_tree.new.tree = part-held 17 1365 c.clear_tree.new.tree c.args.bytes.now (size_is c) (omega arith) in
    rw (put_between 17 1365 c.clear_tree.new.tree c.args.bytes.now (size_is c), held) (c.clear_tree.ensures some)

pub returns-clause-stays : goal.returns-clause-stays
returns-clause-stays c = rw (put_between 17 1365 c.clear_tree.new.tree c.args.bytes.now (size_is c)) (part-put 17 1365 c.clear_tree.new.tree c.args.bytes.now (size_is c) (omega arith))
