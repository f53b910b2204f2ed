use Rattle.std.proofs.Common.{◌≡◌, ◌++◌, ◌∷◌, [], Bool, List, length, length-append, sym, ap, subst, refl, arith}
use Rattle.std.specs.Prelude.{◌||◌, remove, Some}
use Rattle.std.proofs.lemmas.List.{append-nil}
use Rattle.std.specs.Global.{Vec}
use Rattle.jfs_server.specs.declared.client.Client.{Client}
use Rattle.jfs_run.specs.Clients.{ServerPass, HavePasses, AreBack}
use Rattle.jfs_run.proofs.Callers.{first_out, nil_of, first_all, AreBackSoFar, one_back}
use Rattle.jfs_run.proofs.clients.take_back.Goals as goal
use Rattle.jfs_run.proofs.clients.take_back.Goals.{then-failed, else-failed}

pub loop-init : goal.loop-init
loop-init g c =
    let d = g.D.Disk in
    let all = c.len-end.ensures in
    let none = c.requires.passes.0 in
    let unmarked = c.requires.marks.0 in
    record {
      so_far = λ final told ps ws are. subst {A = List (ServerPass d) × List (Vec Bool)} (λ z. AreBack d final c.args.clients.items (z.0 ++ ps) (z.1 ++ ws)) (λ i. (sym none i, sym unmarked i)) are;
      have = c.requires.have;
      left = let len = c.args.clients.ok.0 in omega (arith, len, all);
      passes = ap length none;
      marks = ap length unmarked;
      room = let r = c.requires.passes.1 in omega (arith, r, all);
      room_for_marks = let r = c.requires.marks.1 in omega (arith, r, all);
    }

pub remove-requires : goal.remove-requires
remove-requires g c =
    let left = c.loop.invariant.left in
    let more = c.loop-test.true in
    let len = c.loop.clients.ok.0 in
    omega (arith, left, more, len)

pub finish-pass-requires : goal.finish-pass-requires
finish-pass-requires g c =
    let left = c.loop.invariant.left in
    let more = c.loop-test.true in
    let here = first_out c.loop.clients.items c.remove.result (omega (arith, left, more)) c.remove.ensures.value in
    (first_all (λ (e : Client g.row.D.Denot g.row.G.Denot g.D.Disk). (p : ServerPass g.D.Disk) × (e.pass ≡ Some p)) c.loop.clients.items (remove c.loop.clients.items 0) c.remove.result here c.loop.invariant.have).0

pub push_reserved-requires : goal.push_reserved-requires
push_reserved-requires g c =
    let inv = c.loop.invariant in
    let more = c.loop-test.true in
    let len = c.loop.passes.ok.0 in
    omega (arith, inv.passes, inv.room, more, len)

pub push_reserved-requires-in-loop : goal.push_reserved-requires-in-loop
push_reserved-requires-in-loop g c =
    let inv = c.loop.invariant in
    let more = c.loop-test.true in
    let len = c.loop.marks.ok.0 in
    omega (arith, inv.marks, inv.room_for_marks, more, len)

pub loop-preserved : goal.loop-preserved
loop-preserved g c =
    let d = g.D.Disk in
    let inv = c.loop.invariant in
    let more = c.loop-test.true in
    let clients = c.loop.clients.items in
    let client = c.remove.result in
    let done = c.finish-pass.result in
    let has = c.finish-pass.ensures in
    let here = first_out clients client (omega (arith, inv.left, more)) c.remove.ensures.value in
    let cs = c.remove.ensures.items in
    let ps = c.push_reserved.ensures.items in
    let ws = c.push_reserved-in-loop.ensures.items in
    let failed : c.if-failed.failed ≡ (c.loop.failed || done.2) = elim c.if-failed.branch [
      | then-failed w ↦ rw (w.failed-is, w.if-failed.true) refl
      | else-failed w ↦ rw (w.failed-is, w.if-failed.false) refl
    ] in
    record {
      so_far = subst {A = Bool × List (Client g.row.D.Denot g.row.G.Denot d) × List (ServerPass d) × List (Vec Bool)} (λ z. AreBackSoFar d z.0 c.args.clients.items z.1 z.2 z.3) (λ i. (sym failed i, sym cs i, sym ps i, sym ws i))
          (one_back d c.loop.failed done.2 c.args.clients.items clients (remove clients 0) client c.loop.passes.items c.loop.marks.items done.0 done.1 here has.0 has.1 has.2 inv.so_far);
      have = subst (λ (xs : List (Client g.row.D.Denot g.row.G.Denot d)). HavePasses d xs) (sym cs) (first_all (λ (e : Client g.row.D.Denot g.row.G.Denot d). (p : ServerPass d) × (e.pass ≡ Some p)) clients (remove clients 0) client here inv.have).1;
      left = let a = ap length here in let b = ap length cs in omega (arith, inv.left, a, b);
      passes = let a = ap length ps in omega (arith, inv.passes, a, length-append c.loop.passes.items (done.0 ∷ []));
      marks = let a = ap length ws in omega (arith, inv.marks, a, length-append c.loop.marks.items (done.1 ∷ []));
      room = let cap = c.push_reserved.ensures.capacity in omega (arith, inv.room, cap);
      room_for_marks = let cap = c.push_reserved-in-loop.ensures.capacity in omega (arith, inv.room_for_marks, cap);
    }

pub destroy_empty-requires : goal.destroy_empty-requires
destroy_empty-requires g c =
    let left = c.loop.invariant.left in
    let over = c.loop-test.false in
    let len = c.loop.clients.ok.0 in
    omega (arith, left, over, len)

pub returns : goal.returns
returns g c =
    let d = g.D.Disk in
    let inv = c.loop.invariant in
    let over = c.loop-test.false in
    let none = nil_of c.loop.clients.items (omega (arith, inv.left, over)) in
    record {
      back = subst {A = List (ServerPass d) × List (Vec Bool)} (λ z. AreBack d c.loop.failed c.args.clients.items z.0 z.1) (λ i. (append-nil c.loop.passes.items i, append-nil c.loop.marks.items i))
          (inv.so_far c.loop.failed (λ f. f) [] [] (subst (λ (xs : List (Client g.row.D.Denot g.row.G.Denot d)). AreBack d c.loop.failed xs [] []) (sym none) tt));
    }
