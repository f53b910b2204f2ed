use Rattle.std.proofs.Common.{inr, refl, sym, subst, arith}
use Rattle.std.proofs.lemmas.List.{length-take-le}
use Rattle.jfs_name.specs.Answer.{IsAnswer}
use Rattle.jfs_name.proofs.Names.{answer_short, answer_long}
use Rattle.jfs_name.proofs.path.read_path.Goals as goal
use Rattle.jfs_name.proofs.path.read_path.Goals.{in-Ok, in-Err}

pub returns-then-text-le-LONGEST : goal.returns-then-text-le-LONGEST
returns-then-text-le-LONGEST c = answer_short c.args.text.now c.read_front.result (let h = c.if-text-le-LONGEST.true in omega (arith, h)) c.read_front.ensures

pub slice_bounds-read_front-end : goal.slice_bounds-read_front-end
slice_bounds-read_front-end c = let h = c.if-text-le-LONGEST.false in let n = length-take-le 4095 c.args.text.now (omega (arith, h)) in omega (arith, n)

pub read_front-requires-2 : goal.read_front-requires-2
read_front-requires-2 c = let h = c.if-text-le-LONGEST.false in let n = length-take-le 4095 c.args.text.now (omega (arith, h)) in omega (arith, n)

pub returns : goal.returns
returns c = elim c.match-read_front.branch [
  | in-Ok w ↦ let h = c.if-text-le-LONGEST.false in subst (IsAnswer c.args.text.now) (sym w.result-is) (inr (omega (arith, h), refl, w.in-Ok.field-0, w.in-Ok.ensures))
  | in-Err w ↦ subst (IsAnswer c.args.text.now) (sym w.result-is) (answer_long c.args.text.now w.in-Err.error w.in-Err.ensures)
]
