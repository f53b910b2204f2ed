use Rattle.std.proofs.Common.{arith}
use Rattle.jfs_records.proofs.Steps.{joins_then, joins_else}
use Rattle.jfs_records.proofs.open.Open.joins.Goals as goal

pub returns-then-saturating_add-lt65536-clause-joins : goal.returns-then-saturating_add-lt65536-clause-joins
returns-then-saturating_add-lt65536-clause-joins c r o =
    joins_then c.args.self.first.now c.args.self.owner c.args.self.bytes c.data_size.result c.saturating_add.result r c.args.note c.args.edit.now c.is_alike.result o c.data_size.ensures c.saturating_add.ensures (omega (arith, c.if-saturating_add-lt65536.true)) c.is_alike.ensures

pub returns-else-saturating_add-lt65536-clause-joins : goal.returns-else-saturating_add-lt65536-clause-joins
returns-else-saturating_add-lt65536-clause-joins c r o =
    joins_else c.args.self.first.now c.args.self.owner c.args.self.bytes c.data_size.result c.saturating_add.result r c.args.note c.args.edit.now o c.data_size.ensures c.saturating_add.ensures (omega (arith, c.if-saturating_add-lt65536.false))
