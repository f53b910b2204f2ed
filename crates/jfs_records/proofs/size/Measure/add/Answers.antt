use Rattle.std.proofs.Common.{sym, ◌∙◌}
use Rattle.jfs_records.proofs.Steps.{measured_joined, measured_apart}
use Rattle.jfs_records.proofs.size.Measure.add.Goals as goal

pub returns-then-joins : goal.returns-then-joins
returns-then-joins c rest whole m =
    let old = c.args.self.now in
    measured_joined old.open.first.now old.open.owner old.open.bytes old.size c.data_size-more.result c.saturating_add-self.result c.args.note c.args.edit.now rest whole m (sym (c.joins.ensures.joins m.r m.open_record) ∙ c.if-joins.true)
    c.data_size-more.ensures (c.joins.ensures.small c.if-joins.true) c.saturating_add-self.ensures

pub returns-else-joins : goal.returns-else-joins
returns-else-joins c rest whole m =
    let old = c.args.self.now in
    let new = c.new-self.result in
    measured_apart old.open.first.now new.first.now old.open.owner new.owner old.open.bytes new.bytes old.size c.data_size-more.result c.saturating_add-self.result c.saturating_add-self-else-joins.result c.args.note c.args.edit.now rest whole m (sym (c.joins.ensures.joins m.r m.open_record) ∙ c.if-joins.false)
    c.new-self.ensures c.data_size-more.ensures c.saturating_add-self.ensures c.saturating_add-self-else-joins.ensures
