use Rattle.std.proofs.Common.{◌∙◌, ap, sym, ◌++◌, ◌-◌, drop, arith}
use Rattle.jfs_xtpage.specs.Page.{entries_of, count_of}
use Rattle.jfs_xtpage.proofs.Entries.{length-entries}
use Rattle.jfs_xtree.specs.Node.{with_at}
use Rattle.jfs_xtree.proofs.Lists.{in_front, in_back}
use Rattle.jfs_xtree.proofs.parts.halve.Goals as goal

pub returns-then-place-keep-clause-rows : goal.returns-then-place-keep-clause-rows
returns-then-place-keep-clause-rows c =
    in_front (entries_of c.args.bytes.now) c.args.keep c.args.place c.args.x c.if-place-keep.true (let k = c.requires.keep in let l = length-entries c.args.bytes.now 0 (count_of c.args.bytes.now) in omega (arith, k, l))
    ∙ ap (λ xs. with_at xs c.args.place c.args.x ++ drop c.args.keep (entries_of c.args.bytes.now)) (sym c.xt_split.ensures.entries) ∙ ap (λ xs. with_at (entries_of c.xt_split.new.from) c.args.place c.args.x ++ xs) (sym c.xt_split.ensures.to_entries)
    ∙ ap (λ xs. xs ++ entries_of c.xt_split.new.to) (sym c.insert.ensures.entries)

pub returns-else-place-keep-clause-rows : goal.returns-else-place-keep-clause-rows
returns-else-place-keep-clause-rows c =
    in_back (entries_of c.args.bytes.now) c.args.keep (c.args.place - c.args.keep) c.args.place c.args.x (let h = c.if-place-keep.false in omega (arith, h)) (let k = c.requires.place in let l = length-entries c.args.bytes.now 0 (count_of c.args.bytes.now) in omega (arith, k, l))
    ∙ ap (λ xs. xs ++ with_at (drop c.args.keep (entries_of c.args.bytes.now)) (c.args.place - c.args.keep) c.args.x) (sym c.xt_split.ensures.entries) ∙ ap (λ xs. entries_of c.xt_split.new.from ++ with_at xs (c.args.place - c.args.keep) c.args.x) (sym c.xt_split.ensures.to_entries)
    ∙ ap (λ xs. entries_of c.xt_split.new.from ++ xs) (sym c.insert-else-place-keep.ensures.entries)
