use Rattle.std.proofs.Common.{◌≡◌, ◌<◌, ◌≤◌, ◌+◌, ◌*◌, ◌/◌, ℕ, not, List, length, refl, sym, ap, ◌∙◌, arith}
use Rattle.std.proofs.lemmas.List.{length-set}
use Rattle.jfs_bits.specs.Bits.{count_below}
use Rattle.jfs_dmap.specs.Dmap.{taken_in}
use Rattle.jfs_bits.proofs.Counts.{count_below-most}
use Rattle.jfs_bmap.specs.Set.{taken_at}
use Rattle.jfs_bmap.specs.Pages.{dmaps_of}
use Rattle.jfs_bmap.proofs.Views.{taken_at-past, page_at-is}
use Rattle.jfs_bmap.proofs.Groups.{front_of, page-free, dmaps-number, whole-dmaps, group-within, fronts-start, fronts-go_on, fronts-end}
use Rattle.jfs_bmap.proofs.map_pages.MapPages.free_of_groups.Goals as goal
use Rattle.jfs_bmap.proofs.map_pages.MapPages.free_of_groups.Goals.{After-from}

number : (c : After-from) → length c.self.inside.dmaps.items ≡ dmaps_of (length c.args.self.now)
number c = dmaps-number _ c.self.inside.dmaps.items c.args.self.now c.self.view_is c.self.invariant.pages

group-in : (c : After-from) → c.loop-k.k / (c.args.agsize / 8192) < 128
group-in c = group-within (length c.args.self.now) c.args.agsize c.loop-k.k c.requires (omega (arith, c.len-k-end.ensures, c.self.inside.dmaps.ok.0, number c, c.loop-k-test.true))

counted : (c : After-from) → c.from.result ≡ count_below 8192 (λ i. not (taken_at c.args.self.now (8192 * c.loop-k.k + i)))
counted c =
    let dmaps = c.self.inside.dmaps.items in
    let within : c.loop-k.k < length dmaps = omega (arith, c.len-k-end.ensures, c.self.inside.dmaps.ok.0, c.loop-k-test.true) in
    let page = page_at-is dmaps c.loop-k.k c.index.result.now within c.index.ensures in
    let free = page-free _ dmaps c.args.self.now c.loop-k.k c.self.view_is c.self.invariant.pages within in
    c.from.ensures ∙ (c.dmap_free.ensures ∙ (ap (λ (z : List ℕ). count_below 8192 (λ i. not (taken_in z i))) (sym page) ∙ free))

pub loop-k-init : goal.loop-k-init
loop-k-init c = record { size = refl; counts = fronts-start c.args.agsize (λ b. not (taken_at c.args.self.now b)) }

pub nonzero_div-groups : goal.nonzero_div-groups
nonzero_div-groups c = (whole-dmaps (length c.args.self.now) c.args.agsize c.requires).1

pub bounds-groups-k : goal.bounds-groups-k
bounds-groups-k c = group-in c

pub bounds-groups-k-in-loop-k : goal.bounds-groups-k-in-loop-k
bounds-groups-k-in-loop-k c = group-in c

pub overflow_add-groups : goal.overflow_add-groups
overflow_add-groups c =
    let g = c.loop-k.k / (c.args.agsize / 8192) in
    omega (arith, c.loop-k.invariant.counts g (group-in c), count_below-most (front_of c.args.agsize c.loop-k.k g) (λ i. not (taken_at c.args.self.now (c.args.agsize * g + i))), c.dmap_free.type_inv, c.from.ensures)

pub loop-k-preserved : goal.loop-k-preserved
loop-k-preserved c =
    let whole = whole-dmaps (length c.args.self.now) c.args.agsize c.requires in
    record {
      size = simp length-set c.loop-k.invariant.size;
      counts = fronts-go_on c.args.agsize c.loop-k.k c.from.result (λ b. not (taken_at c.args.self.now b)) c.loop-k.groups whole.0 whole.1 c.loop-k.invariant.size (group-in c) (counted c) c.loop-k.invariant.counts;
    }

pub returns : goal.returns
returns c =
    let number = dmaps-number _ c.self.inside.dmaps.items c.args.self.now c.self.view_is c.self.invariant.pages in
    let long : length c.args.self.now ≤ 8192 * c.loop-k.k = omega (arith, number, c.len-k-end.ensures, c.self.inside.dmaps.ok.0, c.loop-k-test.false) in
    fronts-end (length c.args.self.now) c.args.agsize c.loop-k.k (taken_at c.args.self.now) c.loop-k.groups long (taken_at-past c.args.self.now) c.loop-k.invariant.counts
