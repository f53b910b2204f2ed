use Rattle.jfs_dtree.proofs.Behind.{empty_clashes, first_goes, first_clashes, later_clashes, new_goes, new_clashes, new_within}
use Rattle.jfs_dtree.proofs.children.goes_behind.Goals as goal

pub returns-then-is_empty-clause-clashes : goal.returns-then-is_empty-clause-clashes
returns-then-is_empty-clause-clashes c = λ no g. empty_clashes c.args.form c.args.bytes.now c.args.key.now c.args.place c.requires.page c.requires.some c.is_empty.result c.is_empty.ensures c.if-is_empty.true g

pub returns-then-found-eq0-clause-goes : goal.returns-then-found-eq0-clause-goes
returns-then-found-eq0-clause-goes c = λ here. first_goes c.args.form c.args.bytes.now c.args.key.now c.args.place c.requires.page c.requires.some c.is_empty.result c.is_empty.ensures c.if-is_empty.false c.in-Ok.found c.in-Ok.ensures c.if-found-eq0.true here

pub returns-then-found-eq0-clause-clashes : goal.returns-then-found-eq0-clause-clashes
returns-then-found-eq0-clause-clashes c = λ other g. first_clashes c.args.form c.args.bytes.now c.args.key.now c.args.place c.requires.page c.requires.some c.is_empty.result c.is_empty.ensures c.if-is_empty.false c.in-Ok.found c.in-Ok.ensures c.if-found-eq0.true other g

pub returns-else-found-eq0-clause-clashes : goal.returns-else-found-eq0-clause-clashes
returns-else-found-eq0-clause-clashes c = λ other g. later_clashes c.args.form c.args.bytes.now c.args.key.now c.args.place c.requires.page c.requires.some c.is_empty.result c.is_empty.ensures c.if-is_empty.false c.in-Ok.found c.in-Ok.ensures c.if-found-eq0.false g

pub returns-in-Err-clause-within : goal.returns-in-Err-clause-within
returns-in-Err-clause-within c = λ here. new_within c.args.form c.args.bytes.now c.args.key.now c.args.place c.requires.page c.requires.some c.is_empty.result c.is_empty.ensures c.if-is_empty.false c.in-Err.next c.saturating_sub.result c.saturating_sub.ensures c.in-Err.ensures here

pub returns-in-Err-clause-goes : goal.returns-in-Err-clause-goes
returns-in-Err-clause-goes c = λ here. new_goes c.args.form c.args.bytes.now c.args.key.now c.args.place c.requires.page c.requires.some c.is_empty.result c.is_empty.ensures c.if-is_empty.false c.in-Err.next c.saturating_sub.result c.saturating_sub.ensures c.in-Err.ensures here

pub returns-in-Err-clause-clashes : goal.returns-in-Err-clause-clashes
returns-in-Err-clause-clashes c = λ other g. new_clashes c.args.form c.args.bytes.now c.args.key.now c.args.place c.requires.page c.requires.some c.is_empty.result c.is_empty.ensures c.if-is_empty.false c.in-Err.next c.saturating_sub.result c.saturating_sub.ensures c.in-Err.ensures other g
