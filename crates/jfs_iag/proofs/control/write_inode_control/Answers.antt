use Rattle.std.proofs.Common.{◌∙◌, ap, ℕ, List, arith}
use Rattle.jfs_bits.specs.Field.{range_of}
use Rattle.jfs_iag.proofs.Heads.{control-put, head-pad}
use Rattle.jfs_iag.proofs.control.write_inode_control.Goals as goal

pub returns-clause-value : goal.returns-clause-value
returns-clause-value c =
    control-put c.args.c.now c.args.page.now.0 c.put_groups.new.bytes c.put_head.ensures.fits (omega arith)
    (λ p n h. c.put_groups.ensures.beside p n h ∙ ap (λ (z : List ℕ). range_of z p n) c.put_head.ensures.bytes)
    c.put_groups.ensures.value

pub returns-clause-pad : goal.returns-clause-pad
returns-clause-pad c =
    c.put_groups.ensures.beside 32 2016 (omega arith)
    ∙ ap (λ (z : List ℕ). range_of z 32 2016) c.put_head.ensures.bytes
    ∙ head-pad c.args.c.now c.args.page.now.0 (omega arith)
