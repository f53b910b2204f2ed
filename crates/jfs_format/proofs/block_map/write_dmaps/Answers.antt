use Rattle.std.proofs.Common.{◌≡◌, ◌+◌, ℕ, refl, arith, subst, w8, to_z, of_z}
use Rattle.jfs_bits.specs.Bits.{greatest_run}
use Rattle.jfs_dmap.specs.Dmap.{taken_in}
use Rattle.jfs_dmapctl.proofs.Values.{value-read}
use Rattle.jfs_bmap.proofs.GreatestRuns.{greatest_run-value}
use Rattle.jfs_bmap.specs.MapFile.{IsDmapPage}
use Rattle.jfs_format.specs.Layout.{is_taken_block}
use Rattle.jfs_format.specs.Volume.{HasPages}
use Rattle.jfs_format.specs.Leaves.{AreLeaves}
use Rattle.jfs_format.proofs.Blocks.{leaves-none, leaves-more}
use Rattle.jfs_format.proofs.Written.{wrote-nothing, wrote-then, has-more}
use Rattle.jfs_format.proofs.block_map.write_dmaps.Goals as goal

pub loop-k-init : goal.loop-k-init
loop-k-init g c = record { leaves = leaves-none (is_taken_block c.args.l); faults = refl; wrote = wrote-nothing g.D.Disk 20 c.args.l.dmaps c.args.disk.now; dmaps = λ t k h. absurd (omega arith) }

pub put-requires : goal.put-requires
put-requires g c = omega (arith, c.loop-k.invariant.wrote.pages, c.requires.place)

pub loop-k-preserved : goal.loop-k-preserved
loop-k-preserved g c =
    let inv = c.loop-k.invariant in
    let l = c.args.l in
    let page = c.fill_dmap.new.page.0 in
    let run = greatest_run (taken_in page) 13 13 in
    let root : to_z w8 (of_z w8 c.dmap_root.result) ≡ run = rw c.dmap_root.ensures (value-read 0 run (omega arith) (greatest_run-value (taken_in page) 0 13 13 (omega arith))) in
    record {
      leaves = rw root (leaves-more l c.loop-k.k c.loop-k.leaves page (omega (arith, c.requires.layout.1.most_dmaps)) inv.leaves c.fill_dmap.ensures);
      faults = omega (arith, inv.faults, c.in_ok-put.ensures.cause.ok);
      wrote = wrote-then g.D.Disk 20 l.dmaps 20 l.dmaps (20 + c.loop-k.k) 1 c.args.disk.now c.loop-k.disk c.put.new.disk (g.met.D.Disk.has_state c.args.disk.now) (omega arith) (omega arith) (omega arith) (omega arith) inv.wrote c.in_ok-put.ensures.wrote;
      dmaps = λ t. has-more 20 c.loop-k.k (IsDmapPage l.blocks (is_taken_block l)) (g.D.Disk.image c.loop-k.disk) (g.D.Disk.image c.put.new.disk) page (c.in_ok-put.ensures.wrote.others t) (c.in_ok-put.ensures.page t) c.fill_dmap.ensures (inv.dmaps t);
    }

pub returns-in_err-put-clause-wrote : goal.returns-in_err-put-clause-wrote
returns-in_err-put-clause-wrote g c =
    wrote-then g.D.Disk 20 c.args.l.dmaps 20 c.args.l.dmaps (20 + c.loop-k.k) 1 c.args.disk.now c.loop-k.disk c.put.new.disk (g.met.D.Disk.has_state c.args.disk.now) (omega arith) (omega arith) (omega arith) (omega arith) c.loop-k.invariant.wrote c.in_err-put.ensures.wrote

pub returns-clause-leaves : goal.returns-clause-leaves
returns-clause-leaves g c = let all : c.loop-k.k ≡ c.args.l.dmaps = omega arith in subst (λ (n : ℕ). AreLeaves (is_taken_block c.args.l) n c.loop-k.leaves) all c.loop-k.invariant.leaves

pub returns-clause-dmaps : goal.returns-clause-dmaps
returns-clause-dmaps g c = λ t. let all : c.loop-k.k ≡ c.args.l.dmaps = omega arith in subst (λ (n : ℕ). HasPages 20 n (IsDmapPage c.args.l.blocks (is_taken_block c.args.l)) (g.D.Disk.image c.loop-k.disk)) all (c.loop-k.invariant.dmaps t)
