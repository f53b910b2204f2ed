use Rattle.std.proofs.Common.{◌∙◌, sym, ap, ℕ, List}
use Rattle.jfs_dtree.specs.Spells.{root_node}
use Rattle.jfs_unlink.specs.Call.{bare_at}
use Rattle.jfs_unlink.proofs.Bare.{is_bare, is_full}
use Rattle.jfs_unlink.proofs.rmdir.check_bare.Goals as goal

pub returns-then-is_bare : goal.returns-then-is_bare
returns-then-is_bare c = ap (λ (bytes : List ℕ). bare_at c.args.at.now (root_node c.args.blocks bytes)) (sym c.root_in-root.ensures.root)
    ∙ is_bare c.args.at.now (root_node c.args.blocks c.root_in-root.result.now) c.is_bare.result c.is_bare.ensures (rw c.in-Ok-Here.field-0-is at c.in-Ok-Here.ensures.way) c.if-is_bare.true

pub returns-else-is_bare : goal.returns-else-is_bare
returns-else-is_bare c = ap (λ (bytes : List ℕ). bare_at c.args.at.now (root_node c.args.blocks bytes)) (sym c.root_in-root.ensures.root)
    ∙ is_full c.args.at.now (root_node c.args.blocks c.root_in-root.result.now) c.is_bare.result c.is_bare.ensures (rw c.in-Ok-Here.field-0-is at c.in-Ok-Here.ensures.way) c.if-is_bare.false
