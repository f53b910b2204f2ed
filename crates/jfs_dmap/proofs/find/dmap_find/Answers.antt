use Rattle.std.proofs.Common.{◌≡◌, ◌∙◌, sym, arith}
use Rattle.std.specs.Prelude.{Some, None}
use Rattle.jfs_buddy.proofs.Parts.{part-is}
use Rattle.jfs_dmap.proofs.Finds.{no_runs, page-none, page-large, page-small, word-within}
use Rattle.jfs_dmap.proofs.find.dmap_find.Goals as goal

pub returns-then-l2-gt13 : goal.returns-then-l2-gt13
returns-then-l2-gt13 c j h = absurd (omega (arith, no_runs c.args.l2 c.if-l2-gt13.true))

pub find_run-requires-clause-inner : goal.find_run-requires-clause-inner
find_run-requires-clause-inner c = rw (part-is c.args.page.now.0 33 341) c.requires.tree.inner

pub returns-in_err-word : goal.returns-in_err-word
returns-in_err-word c = rw c.from_residual.ensures (page-none c.args.page.now.0 c.args.l2 c.if-l2-gt13.false c.requires c.in_err-word.ensures)

pub overflow_mul-result : goal.overflow_mul-result
overflow_mul-result c = omega (arith, word-within c.args.page.now.0 c.args.l2 c.in_ok-word.word c.requires c.in_ok-word.ensures)

pub returns-then-l2-ge5 : goal.returns-then-l2-ge5
returns-then-l2-ge5 c = page-large c.args.page.now.0 c.args.l2 c.in_ok-word.word c.if-l2-ge5.true c.if-l2-gt13.false c.requires c.in_ok-word.ensures

pub get_u32-requires : goal.get_u32-requires
get_u32-requires c = omega (arith, c.requires.size, word-within c.args.page.now.0 c.args.l2 c.in_ok-word.word c.requires c.in_ok-word.ensures)

pub returns-in_err-run : goal.returns-in_err-run
returns-in_err-run c =
    let r = page-small c.args.page.now.0 c.args.l2 c.in_ok-word.word c.lowest_run.result c.if-l2-ge5.false c.requires c.in_ok-word.ensures (rw c.get_u32.ensures.value at c.lowest_run.ensures) in
    let was : c.lowest_run.result ≡ None = c.in_err-run.was in
    let none : None ≡ Some r.0 = sym was ∙ r.1 in
    absurd (cc)

pub overflow_mul-result-2 : goal.overflow_mul-result-2
overflow_mul-result-2 c = omega (arith, word-within c.args.page.now.0 c.args.l2 c.in_ok-word.word c.requires c.in_ok-word.ensures)

pub overflow_add-result : goal.overflow_add-result
overflow_add-result c =
    let r = page-small c.args.page.now.0 c.args.l2 c.in_ok-word.word (Some c.in_ok-run.run') c.if-l2-ge5.false c.requires c.in_ok-word.ensures (rw c.get_u32.ensures.value at c.in_ok-run.ensures) in
    let same : c.in_ok-run.run' ≡ r.0 = (let e = r.1 in cc) in
    omega (arith, word-within c.args.page.now.0 c.args.l2 c.in_ok-word.word c.requires c.in_ok-word.ensures, r.3)

pub returns : goal.returns
returns c =
    let r = page-small c.args.page.now.0 c.args.l2 c.in_ok-word.word (Some c.in_ok-run.run') c.if-l2-ge5.false c.requires c.in_ok-word.ensures (rw c.get_u32.ensures.value at c.in_ok-run.ensures) in
    let same : c.in_ok-run.run' ≡ r.0 = (let e = r.1 in cc) in
    rw same r.2
