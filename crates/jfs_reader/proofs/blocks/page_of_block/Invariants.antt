use Rattle.std.proofs.Common.{◌≡◌, drop}
use Rattle.jfs_meaning.specs.objects.specs.Contents.{block_of}
use Rattle.jfs_reader.proofs.blocks.page_of_block.Given as goal

abbrev pub invariant-loop-x : goal.invariant-loop-x
invariant-loop-x l = block_of (drop l.x-index l.extents) l.j ≡ block_of l.extents l.j
