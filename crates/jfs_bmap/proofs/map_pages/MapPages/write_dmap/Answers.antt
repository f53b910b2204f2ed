use Rattle.std.proofs.Common.{◌<◌, ◌*◌, ℕ, length, ap, ◌∙◌, arith}
use Rattle.jfs_bmap.specs.Set.{taken_at}
use Rattle.jfs_bmap.proofs.Groups.{dmaps-number}
use Rattle.jfs_bmap.proofs.FilePages.{dmap-page, dmap-past}
use Rattle.jfs_bmap.proofs.map_pages.MapPages.write_dmap.Goals as goal

pub returns-in-Some : goal.returns-in-Some
returns-in-Some c =
    let items = c.deref.ensures.value in
    let found = c.in-Some.ensures.lookup in
    let within : c.args.k < length c.self.inside.dmaps.items = omega (arith, found.3.0, ap length items) in
    dmap-page _ c.self.inside.dmaps.items c.args.self.now c.args.k c.in-Some.dmap.now c.self.view_is c.self.invariant.pages within (rw items at found.1)

pub returns-in-None : goal.returns-in-None
returns-in-None c =
    let number = dmaps-number _ c.self.inside.dmaps.items c.args.self.now c.self.view_is c.self.invariant.pages in
    let found = c.in-None.ensures.lookup in
    let e = c.dmap_canonical.ensures in
    dmap-past (length c.args.self.now) (taken_at c.args.self.now) c.args.k c.dmap_canonical.new.page.0 (omega (arith, number, found.3, ap length c.deref.ensures.value)) e.canonical (assumption e) (e.first_block ∙ ap (λ (z : ℕ). 8192 * z) c.from.ensures)
