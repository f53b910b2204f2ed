use Rattle.std.proofs.Common.{◌∙◌, sym, ap, ℕ, List}
use Rattle.jfs_dtree.specs.Spells.{root_node}
use Rattle.jfs_plain.specs.declared.refusal.Refusal.TheVariants.{NotEmpty}
use Rattle.jfs_unlink.specs.Call.{bare_at}
use Rattle.jfs_unlink.proofs.Bare.{is_bare, is_full}
use Rattle.jfs_rename.proofs.Kept.{bare_told, full_told}
use Rattle.jfs_rename.proofs.permits.check_bare.Goals as goal

pub returns-then-is_bare-clause-value : goal.returns-then-is_bare-clause-value
returns-then-is_bare-clause-value c = bare_told c.args.blocks c.args.there.now (ap (λ (bytes : List ℕ). bare_at c.args.there.now (root_node c.args.blocks bytes)) (sym c.root_in-root.ensures.root)
    ∙ is_bare c.args.there.now (root_node c.args.blocks c.root_in-root.result.now) c.is_bare.result c.is_bare.ensures (rw c.in-Ok-Here.field-0-is at c.in-Ok-Here.ensures.way) c.if-is_bare.true)

pub returns-else-is_bare-clause-value : goal.returns-else-is_bare-clause-value
returns-else-is_bare-clause-value c = full_told c.args.blocks c.args.there.now NotEmpty (ap (λ (bytes : List ℕ). bare_at c.args.there.now (root_node c.args.blocks bytes)) (sym c.root_in-root.ensures.root)
    ∙ is_full c.args.there.now (root_node c.args.blocks c.root_in-root.result.now) c.is_bare.result c.is_bare.ensures (rw c.in-Ok-Here.field-0-is at c.in-Ok-Here.ensures.way) c.if-is_bare.false)
