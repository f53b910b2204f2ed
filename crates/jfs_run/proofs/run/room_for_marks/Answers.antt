use Rattle.std.proofs.Common.{◌++◌, ◌∷◌, [], ℕ, List, length, length-append, sym, ap, ◌∙◌, subst, arith, append_assoc}
use Rattle.std.proofs.lemmas.List.{append-nil}
use Rattle.std.specs.Global.{Vec}
use Rattle.jfs_plain.specs.declared.call.Line.{Line}
use Rattle.jfs_run.specs.Serving.{HaveRoom}
use Rattle.jfs_run.proofs.Reading.{next_in, none_in}
use Rattle.jfs_run.proofs.run.room_for_marks.Goals as goal

pub loop-script-init : goal.loop-script-init
loop-script-init c = record {
  so_far = λ more room. subst (λ xs. HaveRoom c.args.scripts.now (xs ++ more)) (sym c.in_ok-marks.ensures.items) room;
  made = ap length c.in_ok-marks.ensures.items;
  room = let exact = c.in_ok-marks.ensures.exact in omega (arith, exact);
}

pub push_reserved-requires : goal.push_reserved-requires
push_reserved-requires c =
    let inv = c.loop-script.invariant in
    let more = c.loop-script-test.true in
    let len = c.loop-script.marks.ok.0 in
    omega (arith, inv.made, inv.room, more, len)

pub loop-script-preserved : goal.loop-script-preserved
loop-script-preserved c =
    let inv = c.loop-script.invariant in
    let i : ℕ = c.loop-script.script-index in
    let script = c.script-item.result in
    let marks = c.in_ok-waits.waits in
    let next = next_in c.args.scripts.now i script c.loop-script-test.true c.script-item.is in
    let pushed = c.push_reserved.ensures.items in
    let exact = c.in_ok-waits.ensures.exact in
    let len = c.len.ensures in
    let lines = script.ok.0 in
    record {
      so_far = λ more room. subst (HaveRoom c.args.scripts.now) (sym (ap (λ xs. xs ++ more) pushed ∙ append_assoc c.loop-script.marks.items (marks ∷ []) more))
          (inv.so_far (marks ∷ more) (subst (λ (ss : List (Vec Line)). HaveRoom ss (marks ∷ more)) (sym next) (c.in_ok-waits.ensures.items, omega (arith, exact, len, lines), room)));
      made = let a = ap length pushed in omega (arith, inv.made, a, length-append c.loop-script.marks.items (marks ∷ []));
      room = let cap = c.push_reserved.ensures.capacity in omega (arith, inv.room, cap);
    }

pub returns : goal.returns
returns c =
    let inv = c.loop-script.invariant in
    subst (HaveRoom c.args.scripts.now) (append-nil c.loop-script.marks.items) (inv.so_far [] (subst (λ (ss : List (Vec Line)). HaveRoom ss []) (sym (none_in c.args.scripts.now c.loop-script.script-index c.loop-script-test.false)) tt))
