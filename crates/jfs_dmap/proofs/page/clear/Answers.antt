use Rattle.std.proofs.Common.{◌≡◌, ◌∙◌, length, arith}
use Rattle.jfs_bits.specs.Field.{put_bytes}
use Rattle.jfs_bits.proofs.Fields.{put_between}
use Rattle.jfs_dmap.specs.Dmap.{tree_of}
use Rattle.jfs_buddy.proofs.Parts.{part-is, part-held, part-put, length-range_of}
use Rattle.jfs_dmap.proofs.page.clear.Goals as goal

size_is : (c : goal.After-slice_known-2-1) → length c.clear_tree.new.tree ≡ 341
size_is c = rw (part-is c.args.bytes.now 33 341) at c.clear_tree.auto.tree ∙ length-range_of c.args.bytes.now 33 341 (omega arith)

pub returns-clause-tree : goal.returns-clause-tree
returns-clause-tree c =
    let held : tree_of (put_bytes 33 c.clear_tree.new.tree c.args.bytes.now) ≡ c.clear_tree.new.tree = part-held 33 341 c.clear_tree.new.tree c.args.bytes.now (size_is c) (omega arith) in
    rw (put_between 33 341 c.clear_tree.new.tree c.args.bytes.now (size_is c), held) (c.clear_tree.ensures (omega arith))

pub returns-clause-stays : goal.returns-clause-stays
returns-clause-stays c = rw (put_between 33 341 c.clear_tree.new.tree c.args.bytes.now (size_is c)) (part-put 33 341 c.clear_tree.new.tree c.args.bytes.now (size_is c) (omega arith))
