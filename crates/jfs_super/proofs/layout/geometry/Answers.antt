use Rattle.std.proofs.Common.{arith}
use Rattle.jfs_super.proofs.Rules.{accepted_layout, accepted_log}
use Rattle.jfs_super.proofs.layout.geometry.Goals as goal

pub overflow_cast-result : goal.overflow_cast-result
overflow_cast-result c =
    let layout = accepted_layout c.args.s.now c.requires.0 c.requires.1 in
    omega arith

pub returns-clause-bounds : goal.returns-clause-bounds
returns-clause-bounds c =
    let l = accepted_layout c.args.s.now c.requires.0 c.requires.1 in
    record { least = l.least; most = l.most; group = l.group; power = l.power; groups = l.groups; behind = l.behind; shortest = l.shortest; longest = l.longest }

pub returns-clause-within : goal.returns-clause-within
returns-clause-within c = λ pages accepted. accepted_log c.args.s.now pages accepted
