use Rattle.std.proofs.Common.{◌∙◌, ap, ℕ, List, arith}
use Rattle.jfs_bits.specs.Field.{range_of}
use Rattle.jfs_iag.proofs.Fronts.{iag-put, front-pad}
use Rattle.jfs_iag.proofs.iag.write_iag.Goals as goal

pub returns-clause-value : goal.returns-clause-value
returns-clause-value c =
    iag-put c.args.i.now c.args.page.now.0 c.put_extents.new.bytes c.put_front.ensures.fits (omega arith)
    (λ p n h. c.put_extents.ensures.beside p n h ∙ ap (λ (z : List ℕ). range_of z p n) c.put_front.ensures.bytes)
    c.put_extents.ensures.value

pub returns-clause-pad : goal.returns-clause-pad
returns-clause-pad c =
    c.put_extents.ensures.beside 72 1976 (omega arith)
    ∙ ap (λ (z : List ℕ). range_of z 72 1976) c.put_front.ensures.bytes
    ∙ front-pad c.args.i.now c.args.page.now.0 c.put_front.ensures.fits (omega arith)
