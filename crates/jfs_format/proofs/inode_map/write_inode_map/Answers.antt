use Rattle.std.proofs.Common.{◌≡◌, ◌+◌, ℕ, refl, arith, subst}
use Rattle.jfs_imap.specs.Inodes.{IsInodePage}
use Rattle.jfs_format.specs.Volume.{HasPages, iags_of, inodes_in}
use Rattle.jfs_format.proofs.Written.{wrote-nothing, wrote-then, has-more}
use Rattle.jfs_format.proofs.inode_map.write_inode_map.Goals as goal

pub loop-n-init : goal.loop-n-init
loop-n-init g c = record { faults = refl; wrote = wrote-nothing g.D.Disk c.args.first (1 + iags_of c.args.table c.args.l) c.args.disk.now; map = λ t k h. absurd (omega arith) }

pub put-requires : goal.put-requires
put-requires g c = omega (arith, c.loop-n.invariant.wrote.pages, c.requires.place, c.iags-n-end.ensures)

pub loop-n-preserved : goal.loop-n-preserved
loop-n-preserved g c =
    let inv = c.loop-n.invariant in
    let count = 1 + iags_of c.args.table c.args.l in
    record {
      faults = omega (arith, inv.faults, c.in_ok-put.ensures.cause.ok);
      wrote = wrote-then g.D.Disk c.args.first count c.args.first count (c.args.first + c.loop-n.n) 1 c.args.disk.now c.loop-n.disk c.put.new.disk (g.met.D.Disk.has_state c.args.disk.now) (omega arith) (omega arith) (omega arith) (omega (arith, c.iags-n-end.ensures)) inv.wrote c.in_ok-put.ensures.wrote;
      map = λ t. has-more c.args.first c.loop-n.n (IsInodePage (inodes_in c.args.table c.args.l)) (g.D.Disk.image c.loop-n.disk) (g.D.Disk.image c.put.new.disk) c.fill_map.new.page.0 (c.in_ok-put.ensures.wrote.others t) (c.in_ok-put.ensures.page t) c.fill_map.ensures (inv.map t);
    }

pub returns-in_err-put-clause-wrote : goal.returns-in_err-put-clause-wrote
returns-in_err-put-clause-wrote g c =
    let count = 1 + iags_of c.args.table c.args.l in
    wrote-then g.D.Disk c.args.first count c.args.first count (c.args.first + c.loop-n.n) 1 c.args.disk.now c.loop-n.disk c.put.new.disk (g.met.D.Disk.has_state c.args.disk.now) (omega arith) (omega arith) (omega arith) (omega (arith, c.iags-n-end.ensures)) c.loop-n.invariant.wrote c.in_err-put.ensures.wrote

pub returns-clause-map : goal.returns-clause-map
returns-clause-map g c = λ t. let all : c.loop-n.n ≡ 1 + iags_of c.args.table c.args.l = omega (arith, c.iags-n-end.ensures) in subst (λ (n : ℕ). HasPages c.args.first n (IsInodePage (inodes_in c.args.table c.args.l)) (g.D.Disk.image c.loop-n.disk)) all (c.loop-n.invariant.map t)
