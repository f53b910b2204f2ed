use Rattle.std.proofs.Common.{◌≡◌, ◌∙◌, ℕ, List, map, get_or, IfOk, sym, subst, arith}
use Rattle.jfs_bits.specs.declared.descriptor.Pxd.{Pxd}
use Rattle.jfs_bits.specs.Descriptor.{FitsPxd}
use Rattle.jfs_iag.specs.Iag.{no_run}
use Rattle.jfs_imap.specs.Inodes.{inodes_of}
use Rattle.jfs_bmap.proofs.GroupNumbers.{div_ceil-same}
use Rattle.jfs_sets.specs.Sets.{extent_from}
use Rattle.jfs_mount_maps.proofs.Inodes.{extents_fit}
use Rattle.jfs_mount_maps.proofs.read.inode_map_with.Goals as goal

pub from_parts-requires-clause-fits : goal.from_parts-requires-clause-fits
from_parts-requires-clause-fits c = λ e l. subst (λ (xs : List Pxd). FitsPxd (get_or xs e no_run)) (sym c.in_ok-extents.ensures)
    (extents_fit c.args.layout.blocks c.args.places.now e c.requires.layout.most c.requires.fit (omega (arith, l, c.requires.places)))

pub returns : goal.returns
returns c =
    subst (λ (n : ℕ). IfOk c.from_parts.result (λ m. m ≡ inodes_of c.args.set.now (map extent_from c.args.places.now) c.args.iags c.args.layout.agsize n))
    (c.div_ceil-numag.ensures ∙ div_ceil-same c.args.layout.blocks c.args.layout.agsize (omega (arith, c.requires.layout.group)))
    (subst (λ (xs : List Pxd). IfOk c.from_parts.result (λ m. m ≡ inodes_of c.args.set.now xs c.args.iags c.args.layout.agsize c.div_ceil-numag.result)) c.in_ok-extents.ensures c.from_parts.ensures)
