-- The byte at the root of a page's tree is the greatest free run of the page's blocks.
use Rattle.std.proofs.Common.{◌≡◌, ◌<◌, ℕ, List, to_z, w8, arith}
use Rattle.jfs_bits.specs.Field.{field_of}
use Rattle.jfs_bits.specs.Bits.{greatest_run}
use Rattle.jfs_buddy.proofs.Spans.{tree-value}
use Rattle.jfs_dmap.specs.Dmap.{map_of, taken_in, IsDmap}
use Rattle.jfs_dmap.proofs.Finds.{are-ranks}

pub root-value : (page : List ℕ) → IsDmap page → field_of page 33 1 < 256 → to_z w8 (field_of page 33 1) ≡ greatest_run (taken_in page) 13 13
root-value page d small = tree-value (are-ranks (map_of page)) 4 33 341 page (omega arith) (omega arith) d.tree small
