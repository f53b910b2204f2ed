use Rattle.std.proofs.Common.{arith}
use Rattle.jfs_xtree.proofs.Reading.{is_rising}
use Rattle.jfs_xtree.proofs.CutRows.{from_place}
use Rattle.jfs_xtree.proofs.cut_leaf.first_past.Goals as goal

pub returns-in-Some-clause-before : goal.returns-in-Some-clause-before
returns-in-Some-clause-before c = λ j l.
    let p = (c.place_of.ensures.place (is_rising c.args.bytes.now c.requires.order)).before j l in let a = c.in-Some.ensures.0 in let b = c.in-Some.ensures.1 in omega (arith, p, a, b)

pub returns-in-Some-clause-past : goal.returns-in-Some-clause-past
returns-in-Some-clause-past c =
    from_place c.args.bytes.now c.args.bound c.place_of.result c.place_of.ensures.most
    (λ j l m. let p = (c.place_of.ensures.place (is_rising c.args.bytes.now c.requires.order)).behind j l m in let a = c.in-Some.ensures.0 in let b = c.in-Some.ensures.1 in omega (arith, p, a, b))

pub returns-in-None-clause-past : goal.returns-in-None-clause-past
returns-in-None-clause-past c = from_place c.args.bytes.now c.args.bound 0 (omega arith) (λ j l m. let e = c.in-None.ensures in omega (arith, e))
