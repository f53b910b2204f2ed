use Rattle.std.proofs.Common.{◌∙◌, sym, ap, List, ◌%◌, ◌/◌, ℕ, ◌<◌, length, arith}
use Rattle.std.proofs.lemmas.Bool.{le-leb}
use Rattle.jfs_dmap.specs.Dmap.{taken_in}
use Rattle.jfs_bmap.proofs.Views.{taken_at-set_of, taken_on-within, taken_on-past, page_at-is}
use Rattle.jfs_bmap.proofs.map_pages.MapPages.is_taken.Goals as goal

pub returns-then-b-self : goal.returns-then-b-self
returns-then-b-self c =
    rw (← c.self.view_is) (le-leb c.self.inside.blocks c.args.b c.if-b-self.true ∙ sym (taken_at-set_of c.self.inside.blocks c.self.inside.dmaps.items c.args.b ∙ taken_on-past c.self.inside.blocks c.self.inside.dmaps.items c.args.b c.if-b-self.true))

pub returns-else-b-self : goal.returns-else-b-self
returns-else-b-self c =
    let blocks = c.self.inside.blocks in
    let dmaps = c.self.inside.dmaps.items in
    let b = c.args.b in
    let there : b / 8192 < length dmaps = omega (arith, c.self.invariant.pages.number) in
    let page = page_at-is dmaps (b / 8192) c.index.result.now there c.index.ensures in
    rw (← c.self.view_is) (c.dmap_is_taken.ensures ∙ ap (λ (z : List ℕ). taken_in z (b % 8192)) (sym page) ∙ sym (taken_at-set_of blocks dmaps b ∙ taken_on-within blocks dmaps b c.if-b-self.false))
