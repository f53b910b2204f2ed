use Rattle.std.proofs.Common.{◌≡◌, ◌+◌, ◌∙◌, suc, sym, ap, drop, ◌&&◌, arith}
use Rattle.std.specs.List.{list_all}
use Rattle.std.proofs.lemmas.List.{drop_all}
use Rattle.jfs_dtpage.specs.Order.{name_at}
use Rattle.jfs_dtpage.specs.Page.{entries_of, names_of}
use Rattle.jfs_dtree.specs.Node.{child_within}
use Rattle.jfs_dtree.proofs.Leading.{within_more, entries_length}
use Rattle.jfs_dtree.proofs.check.are_within.Goals as goal

pub returns-then-not-is_within : goal.returns-then-not-is_within
returns-then-not-is_within c =
    let rest = list_all (child_within c.args.blocks) (drop (suc c.loop-place.place) (entries_of c.args.form c.args.bytes.now)) in
    sym (c.loop-place.invariant
    ∙ within_more c.args.blocks (entries_of c.args.form c.args.bytes.now) c.loop-place.place c.dt_child.result (name_at (names_of c.args.form c.args.bytes.now) c.loop-place.place) c.dt_child.ensures.value
    ∙ ap (λ b. b && rest) (sym c.is_within.ensures ∙ c.if-not-is_within.true))

pub loop-place-preserved : goal.loop-place-preserved
loop-place-preserved c =
    let next : suc c.loop-place.place ≡ c.loop-place.place + 1 = omega arith in
    let rest = list_all (child_within c.args.blocks) (drop (suc c.loop-place.place) (entries_of c.args.form c.args.bytes.now)) in
    c.loop-place.invariant
    ∙ within_more c.args.blocks (entries_of c.args.form c.args.bytes.now) c.loop-place.place c.dt_child.result (name_at (names_of c.args.form c.args.bytes.now) c.loop-place.place) c.dt_child.ensures.value
    ∙ ap (λ b. b && rest) (sym c.is_within.ensures ∙ c.if-not-is_within.false)
    ∙ ap (λ n. list_all (child_within c.args.blocks) (drop n (entries_of c.args.form c.args.bytes.now))) next

pub returns : goal.returns
returns c =
    let n = entries_length c.args.form c.args.bytes.now in let e = c.loop-place-test.false in let r = c.requires.count in let f = c.from-place-end.ensures in
    sym (c.loop-place.invariant ∙ ap (list_all (child_within c.args.blocks)) (drop_all c.loop-place.place (entries_of c.args.form c.args.bytes.now) (omega (arith, n, e, r, f))))
