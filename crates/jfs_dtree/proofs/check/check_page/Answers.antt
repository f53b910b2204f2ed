use Rattle.std.proofs.Common.{◌∙◌, sym, arith}
use Rattle.jfs_dtpage.proofs.Empty.{no_entries}
use Rattle.jfs_dtree.proofs.Nodes.{broken_node, range_read, deep_read}
use Rattle.jfs_dtree.proofs.Leading.{some_entries, head_count}
use Rattle.jfs_dtree.proofs.check.check_page.Goals as goal

pub returns-in-Err-clause-broken : goal.returns-in-Err-clause-broken
returns-in-Err-clause-broken c = broken_node c.args.form c.args.blocks c.args.bytes.now c.in-Err.bad.rule c.in-Err.ensures.broken

pub returns-then-not-are_within-clause-broken : goal.returns-then-not-are_within-clause-broken
returns-then-not-are_within-clause-broken c =
    range_read c.args.form c.args.blocks c.args.bytes.now c.in-Ok.ensures.sound.0 (sym c.is_leaf.ensures ∙ c.if-is_leaf.false) (sym c.are_within.ensures ∙ c.if-not-are_within.true)

pub returns-then-head-eq0-clause-broken : goal.returns-then-head-eq0-clause-broken
returns-then-head-eq0-clause-broken c =
    deep_read c.args.form c.args.blocks c.args.bytes.now c.in-Ok.ensures.sound.0 (sym c.is_leaf.ensures ∙ c.if-is_leaf.false)
    (no_entries c.args.form c.args.bytes.now (sym (head_count c.args.form c.args.bytes.now c.in-Ok.head c.in-Ok.ensures.sound.1) ∙ c.if-head-eq0.true))

pub returns-clause-inner : goal.returns-clause-inner
returns-clause-inner c = λ inner. (
  sym c.are_within.ensures ∙ c.if-not-are_within.false,
  some_entries c.args.form c.args.bytes.now (let n = head_count c.args.form c.args.bytes.now c.in-Ok.head c.in-Ok.ensures.sound.1 in let z = c.if-head-eq0.false in omega (arith, n, z)),
)
