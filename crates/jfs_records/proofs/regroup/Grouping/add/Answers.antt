use Rattle.std.proofs.Common.{◌≡◌, sym, ◌∙◌}
use Rattle.jfs_records.specs.Records.{join, record_for}
use Rattle.jfs_records.proofs.Sizes.{is_so}
use Rattle.jfs_records.proofs.Steps.{grouped_joined, on_ok}
use Rattle.jfs_records.proofs.regroup.Grouping.add.Goals as goal

pub join-requires : goal.join-requires
join-requires c = record { alike = is_so c.args.self.now.last (record_for c.args.note c.args.edit.now) (sym (c.joins.ensures.joins c.args.self.now.last c.requires) ∙ c.if-joins.true) }

pub returns-then-joins : goal.returns-then-joins
returns-then-joins c =
    let old = c.args.self.now in
    on_ok (c.join.new.record ≡ join old.last (record_for c.args.note c.args.edit.now)) _ c.join.result
    (λ is rest whole g.
    grouped_joined old.open.first.now old.open.owner old.open.bytes c.data_size.result old.closed.items old.last c.join.new.record c.args.note c.args.edit.now rest whole g (sym (c.joins.ensures.joins old.last c.requires) ∙ c.if-joins.true)
    c.data_size.ensures (c.joins.ensures.small c.if-joins.true) is)
    c.join.ensures
