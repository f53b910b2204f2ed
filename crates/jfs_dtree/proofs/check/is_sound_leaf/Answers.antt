use Rattle.std.proofs.Common.{sym, ◌∙◌}
use Rattle.std.proofs.lemmas.Bool.{true≢false}
use Rattle.jfs_bits.proofs.Broken.{none_broken}
use Rattle.jfs_dtpage.specs.Page.{dt_rules, Holds}
use Rattle.jfs_dtree.proofs.Nodes.{leaf_is}
use Rattle.jfs_dtree.proofs.check.is_sound_leaf.Goals as goal

pub returns-in-Ok-clause-isnt : goal.returns-in-Ok-clause-isnt
returns-in-Ok-clause-isnt c = λ f blocks es leaf. true≢false (sym (c.is_leaf.ensures ∙ (leaf_is c.args.form blocks c.args.bytes.now es leaf).1) ∙ f)

pub returns-in-Err-clause-isnt : goal.returns-in-Err-clause-isnt
returns-in-Err-clause-isnt c = λ f blocks es leaf.
    none_broken (Holds c.args.form c.args.bytes.now) dt_rules c.in-Err.field-0.rule (leaf_is c.args.form blocks c.args.bytes.now es leaf).0 c.in-Err.ensures.broken
