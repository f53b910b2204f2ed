use Rattle.std.proofs.Common.{sym, ap, ◌∙◌, arith}
use Rattle.std.specs.Prelude.{not}
use Rattle.std.proofs.lemmas.Bool.{true≢false, lt-ltb}
use Rattle.jfs_bits.proofs.Broken.{none_broken}
use Rattle.jfs_dtpage.specs.Page.{dt_rules, Holds, entries_of}
use Rattle.jfs_dtree.proofs.Nodes.{inner_is}
use Rattle.jfs_dtree.proofs.Moves.{cons_some, entries_count}
use Rattle.jfs_dtree.proofs.children.is_sound_inner.Goals as goal

pub returns-then-not-is_leaf-clause-other : goal.returns-then-not-is_leaf-clause-other
returns-then-not-is_leaf-clause-other c = λ f blocks cs is.
    let t = inner_is c.args.form blocks c.args.bytes.now cs is in
    let a = cons_some (entries_of c.args.form c.args.bytes.now) t.3 in
    let b = entries_count c.args.form c.args.bytes.now in
    true≢false (sym (lt-ltb 0 c.count_of.result (omega (arith, a, b, c.count_of.ensures))) ∙ f)

pub returns-else-not-is_leaf-clause-other : goal.returns-else-not-is_leaf-clause-other
returns-else-not-is_leaf-clause-other c = λ f blocks cs is. true≢false (sym (ap not (c.is_leaf.ensures ∙ (inner_is c.args.form blocks c.args.bytes.now cs is).1)) ∙ f)

pub returns-in-Err-clause-other : goal.returns-in-Err-clause-other
returns-in-Err-clause-other c = λ f blocks cs is.
    none_broken (Holds c.args.form c.args.bytes.now) dt_rules c.in-Err.field-0.rule (inner_is c.args.form blocks c.args.bytes.now cs is).0 c.in-Err.ensures.broken
