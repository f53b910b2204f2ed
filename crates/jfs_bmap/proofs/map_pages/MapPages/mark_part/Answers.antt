use Rattle.std.proofs.Common.{◌≡◌, ◌+◌, ◌*◌, ◌||◌, ◌-◌, ℕ, not, set, refl, sym, ◌∙◌, arith}
use Rattle.jfs_bits.specs.Bits.{is_in_run, count_below}
use Rattle.jfs_bmap.specs.Pages.{taken_on, leaf_ranks}
use Rattle.jfs_bmap.proofs.OnePage.{Read, Replaced, block-there, dmap-there, read-dmap, read-free, replaced, set-replaced, set-marked, free-marked, leaf-set, pages-replaced}
use Rattle.jfs_bmap.proofs.map_pages.MapPages.mark_part.Goals as goal
use Rattle.jfs_bmap.proofs.map_pages.MapPages.mark_part.Goals.{After-index_mut-dmap, After-dmap_mark}

read : (c : After-index_mut-dmap) → Read c.self.inside.blocks c.args.k c.self.inside.dmaps.items c.args.self.now c.index_mut-dmap.result.now
read c = record { pages = c.self.invariant.pages; view = c.self.view_is; there = c.requires.there; page_is = c.index_mut-dmap.ensures.value }

pub index_mut-dmap-requires : goal.index_mut-dmap-requires
index_mut-dmap-requires c =
    let h = dmap-there c.self.inside.blocks c.args.k c.self.inside.dmaps.items c.args.self.now c.self.invariant.pages c.self.view_is c.requires.there in
    rw c.self.inside.dmaps.ok.0 h

pub dmap_mark-requires-clause-canonical : goal.dmap_mark-requires-clause-canonical
dmap_mark-requires-clause-canonical c = (read-dmap c.self.inside.blocks c.args.k c.self.inside.dmaps.items c.args.self.now c.index_mut-dmap.result.now (read (goal.at.dmap_mark-requires-clause-canonical c).After-index_mut-dmap)).canonical

pub dmap_mark-requires-clause-free : goal.dmap_mark-requires-clause-free
dmap_mark-requires-clause-free c = read-free c.self.inside.blocks c.args.k c.args.first c.args.n c.self.inside.dmaps.items c.args.self.now c.index_mut-dmap.result.now (read (goal.at.dmap_mark-requires-clause-free c).After-index_mut-dmap) c.requires.part c.requires.free

pub ctl_set-requires-clause-within : goal.ctl_set-requires-clause-within
ctl_set-requires-clause-within c = let h = block-there c.self.inside.blocks c.args.k c.self.inside.dmaps.items c.args.self.now c.self.view_is c.requires.there in omega (arith, c.self.invariant.most)

change : (c : After-dmap_mark) → Replaced (λ x t. x || t) c.self.inside.blocks c.args.k c.args.first c.args.n c.self.inside.dmaps.items c.dmap_mark.new.page
change c =
    let d = c.dmap_mark.ensures in
    replaced (λ x t. x || t) c.self.inside.blocks c.args.k c.args.first c.args.n c.self.inside.dmaps.items c.args.self.now c.index_mut-dmap.result.now c.dmap_mark.new.page
    (record { pages = c.self.invariant.pages; view = c.self.view_is; there = c.requires.there; page_is = c.index_mut-dmap.ensures.value })
    c.requires.part d.canonical d.blocks d.first_block d.set

taken : (c : After-dmap_mark) (b : ℕ) → taken_on c.self.inside.blocks (set c.self.inside.dmaps.items c.args.k c.dmap_mark.new.page) b ≡ (is_in_run (8192 * c.args.k + c.args.first) c.args.n b || taken_on c.self.inside.blocks c.self.inside.dmaps.items b)
taken c b = set-replaced (λ x t. x || t) c.self.inside.blocks c.args.k c.args.first c.args.n c.self.inside.dmaps.items c.dmap_mark.new.page (λ t. refl) (change c) b

count : (c : After-dmap_mark) → count_below c.self.inside.blocks (λ b. not (taken_on c.self.inside.blocks (set c.self.inside.dmaps.items c.args.k c.dmap_mark.new.page) b)) + c.args.n ≡ c.self.inside.free
count c =
    let dmaps = c.self.inside.dmaps.items in
    free-marked c.self.inside.blocks (8192 * c.args.k + c.args.first) c.args.n dmaps (set dmaps c.args.k c.dmap_mark.new.page) c.args.self.now c.self.view_is c.requires.within c.requires.free (taken c) ∙ sym c.self.invariant.count

pub overflow_sub-self : goal.overflow_sub-self
overflow_sub-self c = omega (arith, count (goal.at.overflow_sub-self c).After-dmap_mark)

pub invariant_of-self : goal.invariant_of-self
invariant_of-self c =
    let m = (goal.at.invariant_of-self c).After-dmap_mark in
    let dmaps = c.self.inside.dmaps.items in
    let own = leaf_ranks (taken_on c.self.inside.blocks dmaps) in
    let r = change m in
    pages-replaced c.self.inside.blocks c.self.inside.free (c.self.inside.free - c.args.n) c.args.k dmaps c.self.inside.control.0 c.ctl_set.new.page.0 c.dmap_mark.new.page c.self.invariant r.there r.new
    (leaf-set own c.args.k c.dmap_mark.new.page.0 c.self.inside.control.0 c.ctl_set.new.page.0 c.dmap_root-root.result c.dmap_root-root.ensures c.self.invariant.ranks c.ctl_set.ensures)
    (omega (arith, count m))

pub returns : goal.returns
returns c =
    let dmaps = c.self.inside.dmaps.items in
    set-marked c.self.inside.blocks (8192 * c.args.k + c.args.first) c.args.n dmaps (set dmaps c.args.k c.dmap_mark.new.page) c.args.self.now c.self.view_is (taken (goal.at.returns c).After-dmap_mark)
