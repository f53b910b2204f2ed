use Rattle.std.proofs.Common.{sym, ◌∙◌, length}
use Rattle.jfs_put_range_rows.proofs.Looked.{short_range, some_of}
use Rattle.jfs_put_range_rows.proofs.ready.is_range.Goals as goal

pub returns-then-start : goal.returns-then-start
returns-then-start c is =
    short_range _ c.args.list.now (some_of (length c.args.list.now) (sym c.is_empty.ensures ∙ c.if-is_empty.false))
    (c.all_fit.ensures.lies is) (c.all_fit.ensures.recorded is) (c.all_fit.ensures.good is) (c.all_fit.ensures.ends is) (c.all_fit.ensures.rises is)
