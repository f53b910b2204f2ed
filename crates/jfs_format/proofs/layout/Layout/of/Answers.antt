use Rattle.std.proofs.Common.{◌≡◌, ◌+◌, ◌-◌, ◌*◌, ◌/◌, ◌∙◌, refl, sym, subst, arith}
use Rattle.jfs_bmap.proofs.GroupNumbers.{div_ceil-same}
use Rattle.jfs_format.specs.declared.layout.Layout.{Layout}
use Rattle.jfs_format.specs.Layout.{IsLayout, layout_of}
use Rattle.jfs_format.proofs.Layouts.{layout-bounds, group_size-some}
use Rattle.jfs_format.proofs.layout.Layout.of.Goals as goal

pub returns-clause-value : goal.returns-clause-value
unfolding layout_of
returns-clause-value c =
    let blocks = c.args.pages - c.clamp-log.result - (64 + 64 * (c.args.pages / 1048576)) in
    let dmaps : c.div_ceil-dmaps.result ≡ (blocks + 8191) / 8192 = omega (arith, c.div_ceil-dmaps.ensures) in
    let groups = c.div_ceil.ensures ∙ div_ceil-same blocks c.group_size-agsize.result (rw c.group_size-agsize.ensures (group_size-some blocks)) in
    rw (c.min.ensures, groups, dmaps, c.from.ensures, c.from-2.ensures, c.group_size-agsize.ensures, c.clamp-log.ensures) refl

pub returns-clause-bounds : goal.returns-clause-bounds
returns-clause-bounds c = subst (λ (l : Layout). IsLayout c.args.pages l) (sym (returns-clause-value c)) (layout-bounds c.args.pages c.requires)
