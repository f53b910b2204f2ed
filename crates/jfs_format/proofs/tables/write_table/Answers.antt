use Rattle.std.proofs.Common.{◌≡◌, ◌+◌, ℕ, refl, arith, subst}
use Rattle.jfs_format.specs.Inodes.{inode_in, IsTablePage}
use Rattle.jfs_format.specs.Volume.{HasPages}
use Rattle.jfs_format.proofs.Written.{wrote-nothing, wrote-then, has-more}
use Rattle.jfs_format.proofs.tables.write_table.Goals as goal

pub loop-k-init : goal.loop-k-init
loop-k-init g c = record { faults = refl; wrote = wrote-nothing g.D.Disk c.args.first 4 c.args.disk.now; table = λ t k h. absurd (omega arith) }

pub put-requires : goal.put-requires
put-requires g c = omega (arith, c.loop-k.invariant.wrote.pages, c.requires.place)

pub loop-k-preserved : goal.loop-k-preserved
loop-k-preserved g c =
    let inv = c.loop-k.invariant in
    record {
      faults = omega (arith, inv.faults, c.in_ok-put.ensures.cause.ok);
      wrote = wrote-then g.D.Disk c.args.first 4 c.args.first 4 (c.args.first + c.loop-k.k) 1 c.args.disk.now c.loop-k.disk c.put.new.disk (g.met.D.Disk.has_state c.args.disk.now) (omega arith) (omega arith) (omega arith) (omega arith) inv.wrote c.in_ok-put.ensures.wrote;
      table = λ t. has-more c.args.first c.loop-k.k (IsTablePage (inode_in c.args.table c.args.v)) (g.D.Disk.image c.loop-k.disk) (g.D.Disk.image c.put.new.disk) c.fill_table.new.page.0 (c.in_ok-put.ensures.wrote.others t) (c.in_ok-put.ensures.page t) c.fill_table.ensures (inv.table t);
    }

pub returns-in_err-put-clause-wrote : goal.returns-in_err-put-clause-wrote
returns-in_err-put-clause-wrote g c =
    wrote-then g.D.Disk c.args.first 4 c.args.first 4 (c.args.first + c.loop-k.k) 1 c.args.disk.now c.loop-k.disk c.put.new.disk (g.met.D.Disk.has_state c.args.disk.now) (omega arith) (omega arith) (omega arith) (omega arith) c.loop-k.invariant.wrote c.in_err-put.ensures.wrote

pub returns-clause-table : goal.returns-clause-table
returns-clause-table g c = λ t. let all : c.loop-k.k ≡ 4 = omega arith in subst (λ (n : ℕ). HasPages c.args.first n (IsTablePage (inode_in c.args.table c.args.v)) (g.D.Disk.image c.loop-k.disk)) all (c.loop-k.invariant.table t)
