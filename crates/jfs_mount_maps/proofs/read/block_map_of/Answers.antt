use Rattle.std.proofs.Common.{◌∙◌, ℕ, List, length, sym, ap, subst}
use Rattle.jfs_bmap.specs.States.{Blocks}
use Rattle.jfs_sets.specs.Sets.{AreUsedBlocks}
use Rattle.jfs_mount_maps.specs.Maps.{IsIdle}
use Rattle.jfs_mount_maps.proofs.Blocks.{fresh_number, fresh_idle, fresh_is}
use Rattle.jfs_mount_maps.proofs.read.block_map_of.Goals as goal

pub returns-in-Ok-clause-number : goal.returns-in-Ok-clause-number
returns-in-Ok-clause-number g c = ap (λ (m : Blocks). length m.states) c.in-Ok.ensures ∙ fresh_number c.as_slice.result.now c.args.maps.now.blocks c.args.layout.agsize ∙ c.requires.blocks

pub returns-in-Ok-clause-idle : goal.returns-in-Ok-clause-idle
returns-in-Ok-clause-idle g c = subst IsIdle (sym c.in-Ok.ensures) (fresh_idle c.as_slice.result.now c.args.maps.now.blocks c.args.layout.agsize)

pub returns-in-Ok-clause-blocks : goal.returns-in-Ok-clause-blocks
returns-in-Ok-clause-blocks g c = λ told s geo read.
    c.in-Ok.ensures ∙ fresh_is s c.args.layout (g.V.PageView.image c.args.view.now) c.args.maps.now c.as_slice.result.now geo
    (subst (λ (set : List ℕ). AreUsedBlocks (g.V.PageView.image c.args.view.now) c.args.maps.now set) (sym c.as_slice.ensures.value) (c.in_ok-set.ensures.used told)) read
