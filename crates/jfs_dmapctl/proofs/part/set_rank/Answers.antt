use Rattle.std.proofs.Common.{◌≡◌, ◌∙◌, length, List, ℕ, arith}
use Rattle.jfs_bits.specs.Field.{put_bytes, range_of}
use Rattle.jfs_bits.proofs.Fields.{put_between}
use Rattle.jfs_buddy.proofs.Parts.{part-is, part-held, part-put, length-range_of}
use Rattle.jfs_dmapctl.specs.Control.{tree_of}
use Rattle.jfs_dmapctl.proofs.part.set_rank.Goals as goal

size_is : (new bytes : List ℕ) → length new ≡ length (range_of bytes 17 1365) → length bytes ≡ 4096 → length new ≡ 1365
size_is new bytes e h = e ∙ length-range_of bytes 17 1365 (omega arith)

pub returns-clause-tree : goal.returns-clause-tree
returns-clause-tree c own some small t =
    let slice = part-is c.args.bytes.now 17 1365 in
    let size = size_is c.set_leaf.new.tree c.args.bytes.now (rw slice at c.set_leaf.auto.tree) c.requires.size in
    let held : tree_of (put_bytes 17 c.set_leaf.new.tree c.args.bytes.now) ≡ c.set_leaf.new.tree = part-held 17 1365 c.set_leaf.new.tree c.args.bytes.now size (omega (arith, c.requires.size)) in
    rw (put_between 17 1365 c.set_leaf.new.tree c.args.bytes.now size, held) (c.set_leaf.ensures own some small (rw slice t))

pub returns-clause-stays : goal.returns-clause-stays
returns-clause-stays c =
    let size = size_is c.set_leaf.new.tree c.args.bytes.now (rw (part-is c.args.bytes.now 17 1365) at c.set_leaf.auto.tree) c.requires.size in
    rw (put_between 17 1365 c.set_leaf.new.tree c.args.bytes.now size) (part-put 17 1365 c.set_leaf.new.tree c.args.bytes.now size (omega (arith, c.requires.size)))
