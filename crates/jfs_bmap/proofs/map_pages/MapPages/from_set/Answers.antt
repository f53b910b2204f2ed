use Rattle.std.proofs.Common.{◌≡◌, ◌*◌, not, to_z, of_z, w8, arith}
use Rattle.jfs_dmap.specs.Dmap.{taken_in}
use Rattle.jfs_bits.specs.Bits.{greatest_run}
use Rattle.jfs_bits.proofs.Counts.{count_below-most}
use Rattle.jfs_dmapctl.proofs.Values.{value-read}
use Rattle.jfs_bmap.specs.Set.{taken_at}
use Rattle.jfs_bmap.specs.Pages.{dmaps_of}
use Rattle.jfs_bmap.proofs.GreatestRuns.{greatest_run-value}
use Rattle.jfs_bmap.proofs.Fresh.{set_in, fresh-none, fresh-more, fresh-values, fresh-pages, fresh-view}
use Rattle.jfs_bmap.proofs.map_pages.MapPages.from_set.Goals as goal

pub loop-k-init : goal.loop-k-init
loop-k-init c = rw c.in_ok-dmaps.ensures.items (fresh-none c.args.set.now c.args.blocks)

pub overflow_add-free : goal.overflow_add-free
overflow_add-free c =
    let k = c.loop-k.k in
    omega (
      arith,
      c.loop-k.invariant.count,
      count_below-most (8192 * k) (λ b. not (taken_at (set_in c.args.set.now c.args.blocks) b)),
      c.dmap_free-free.ensures,
      count_below-most 8192 (λ b. not (taken_in c.dmap_of-page.result.0 b)),
      c.div_ceil-count.ensures,
    )

pub loop-k-preserved : goal.loop-k-preserved
loop-k-preserved c =
    let page = c.dmap_of-page.result in
    let run = greatest_run (taken_in page.0) 13 13 in
    let root : to_z w8 (of_z w8 c.dmap_root.result) ≡ run = rw c.dmap_root.ensures (value-read 0 run (omega arith) (greatest_run-value (taken_in page.0) 0 13 13 (omega arith))) in
    rw (root, c.dmap_free-free.ensures, c.in_ok-push.ensures.items)
    (fresh-more c.args.set.now c.args.blocks c.loop-k.k c.loop-k.free c.loop-k.dmaps.items c.loop-k.leaves page (omega (arith, c.div_ceil-count.ensures)) c.loop-k.invariant c.dmap_of-page.ensures.dmap c.dmap_of-page.ensures.set)

pub ctl_canonical-requires-clause-values : goal.ctl_canonical-requires-clause-values
ctl_canonical-requires-clause-values c = fresh-values c.args.set.now c.args.blocks c.loop-k.k c.loop-k.free c.loop-k.dmaps.items c.loop-k.leaves c.loop-k.invariant

pub invariant_of-result : goal.invariant_of-result
invariant_of-result c =
    let all : c.loop-k.k ≡ dmaps_of c.args.blocks = omega (arith, c.div_ceil-count.ensures) in
    fresh-pages c.args.set.now c.args.blocks c.loop-k.free c.loop-k.dmaps.items c.loop-k.leaves (rw all at c.loop-k.invariant) c.ctl_canonical.new.page.0 c.requires.most c.ctl_canonical.ensures

pub returns : goal.returns
returns c =
    let all : c.loop-k.k ≡ dmaps_of c.args.blocks = omega (arith, c.div_ceil-count.ensures) in
    fresh-view c.args.set.now c.args.blocks c.loop-k.free c.loop-k.dmaps.items c.loop-k.leaves (rw all at c.loop-k.invariant)
