use Rattle.std.proofs.Common.{◌∙◌, ◌++◌, ap, sym, arith}
use Rattle.std.proofs.lemmas.List.{append-nil}
use Rattle.jfs_write_pages.proofs.Steps.{none_in}
use Rattle.jfs_write_pages.proofs.spot.push_in.Goals as goal

pub returns-then-skipped-end : goal.returns-then-skipped-end
returns-then-skipped-end c = sym (ap (λ xs. c.args.spots.now.items ++ xs) (none_in c.args.from c.args.to c.args.e.now (let t = c.if-skipped-end.true in omega (arith, t))) ∙ append-nil c.args.spots.now.items)
