use Rattle.std.proofs.Common.{◌≡◌, ◌++◌, ◌∷◌, [], List, length, length-append, sym, ap, ◌∙◌, subst, refl, arith}
use Rattle.std.proofs.lemmas.List.{append-nil}
use Rattle.std.specs.List.{AllByRecursion}
use Rattle.std.specs.Prelude.{remove, Bool}
use Rattle.std.specs.Global.{Vec}
use Rattle.jfs_server.specs.declared.client.Client.{Client}
use Rattle.jfs_run.specs.Clients.{ServerPass, AreClientsOf}
use Rattle.jfs_run.proofs.Callers.{first_out, nil_of, first_all, AreSoFar, one_made}
use Rattle.jfs_run.proofs.clients.clients_of.Goals as goal

pub loop-init : goal.loop-init
loop-init g c =
    let passes = c.args.passes.now.ok.0 in
    let marks = c.args.marks.now.ok.0 in
    let all = c.len-end.ensures in
    record {
      so_far = λ cs are. subst (λ xs. AreClientsOf g.D.Disk c.args.now c.args.passes.now.items c.args.marks.now.items (xs ++ cs)) (sym c.requires.none) are;
      left = omega (arith, passes, all);
      made = ap length c.requires.none;
      same = let e = c.requires.same in omega (arith, passes, marks, e);
      table = c.requires.table;
      empty = c.requires.empty;
      room = let r = c.requires.room in omega (arith, r, all);
      passes = refl;
      marks = refl;
    }

pub remove-pass-requires : goal.remove-pass-requires
remove-pass-requires g c =
    let left = c.loop.invariant.left in
    let more = c.loop-test.true in
    let len = c.loop.passes.ok.0 in
    omega (arith, left, more, len)

pub remove-waits-requires : goal.remove-waits-requires
remove-waits-requires g c =
    let left = c.loop.invariant.left in
    let same = c.loop.invariant.same in
    let more = c.loop-test.true in
    let len = c.loop.marks.ok.0 in
    omega (arith, left, same, more, len)

pub new-requires-clause-table : goal.new-requires-clause-table
new-requires-clause-table g c =
    let left = c.loop.invariant.left in
    let more = c.loop-test.true in
    let here = first_out c.loop.passes.items c.remove-pass.result (omega (arith, left, more)) c.remove-pass.ensures.value in
    (first_all (λ p. p.seat.table_id ≡ c.args.server.now.turns.table.shared.table_id) c.loop.passes.items (remove c.loop.passes.items 0) c.remove-pass.result here c.loop.invariant.table).0

pub new-requires-clause-none : goal.new-requires-clause-none
new-requires-clause-none g c =
    let left = c.loop.invariant.left in
    let same = c.loop.invariant.same in
    let more = c.loop-test.true in
    let here = first_out c.loop.marks.items c.remove-waits.result (omega (arith, left, same, more)) c.remove-waits.ensures.value in
    (first_all (λ w. w.items ≡ []) c.loop.marks.items (remove c.loop.marks.items 0) c.remove-waits.result here c.loop.invariant.empty).0

pub push_reserved-requires : goal.push_reserved-requires
push_reserved-requires g c =
    let inv = c.loop.invariant in
    let more = c.loop-test.true in
    let len = c.loop.clients.ok.0 in
    omega (arith, inv.made, inv.room, more, len)

pub loop-preserved : goal.loop-preserved
loop-preserved g c =
    let d = g.D.Disk in
    let inv = c.loop.invariant in
    let more = c.loop-test.true in
    let passes = c.loop.passes.items in
    let marks = c.loop.marks.items in
    let p = c.remove-pass.result in
    let w = c.remove-waits.result in
    let client = c.new.result in
    let fields = c.new.ensures.fields in
    let here = first_out passes p (omega (arith, inv.left, more)) c.remove-pass.ensures.value in
    let mine = first_out marks w (omega (arith, inv.left, inv.same, more)) c.remove-waits.ensures.value in
    let pushed = c.push_reserved.ensures.items in
    let ps = c.remove-pass.ensures.items in
    let ws = c.remove-waits.ensures.items in
    record {
      so_far = subst {A = List (Client g.row.D.Denot g.row.G.Denot d) × List (ServerPass d) × List (Vec Bool)} (λ z. AreSoFar d c.args.now c.args.passes.now.items c.args.marks.now.items z.0 z.1 z.2) (λ i. (sym pushed i, sym ps i, sym ws i))
          (one_made d c.args.now c.args.passes.now.items c.args.marks.now.items c.loop.clients.items passes (remove passes 0) marks (remove marks 0) p w client here mine
          (record { pass = fields.0; moment = fields.1; waits = fields.2; failed = fields.3 }) inv.so_far);
      left = let a = ap length here in let b = ap length ps in omega (arith, inv.left, a, b);
      made = let a = ap length pushed in omega (arith, inv.made, a, length-append c.loop.clients.items (client ∷ []));
      same = let a = ap length here in let b = ap length ps in let e = ap length mine in let f = ap length ws in omega (arith, inv.same, a, b, e, f);
      table = subst (AllByRecursion (λ p. p.seat.table_id ≡ c.args.server.now.turns.table.shared.table_id)) (sym ps)
          (first_all (λ p. p.seat.table_id ≡ c.args.server.now.turns.table.shared.table_id) passes (remove passes 0) p here inv.table).1;
      empty = subst (AllByRecursion (λ v. v.items ≡ [])) (sym ws) (first_all (λ v. v.items ≡ []) marks (remove marks 0) w mine inv.empty).1;
      room = let cap = c.push_reserved.ensures.capacity in omega (arith, inv.room, cap);
      passes = c.remove-pass.ensures.capacity ∙ inv.passes;
      marks = c.remove-waits.ensures.capacity ∙ inv.marks;
    }

pub returns-clause-clients : goal.returns-clause-clients
returns-clause-clients g c =
    let d = g.D.Disk in
    let inv = c.loop.invariant in
    let over = c.loop-test.false in
    let none = nil_of c.loop.passes.items (omega (arith, inv.left, over)) in
    let unmarked = nil_of c.loop.marks.items (omega (arith, inv.left, inv.same, over)) in
    let nobody : List (Client g.row.D.Denot g.row.G.Denot d) = [] in
    subst (AreClientsOf d c.args.now c.args.passes.now.items c.args.marks.now.items) (append-nil c.loop.clients.items)
    (inv.so_far [] (subst {A = List (ServerPass d) × List (Vec Bool)} (λ z. AreClientsOf d c.args.now z.0 z.1 nobody) (λ i. (sym none i, sym unmarked i)) tt))

pub returns-clause-passes : goal.returns-clause-passes
returns-clause-passes g c = let inv = c.loop.invariant in let over = c.loop-test.false in (nil_of c.loop.passes.items (omega (arith, inv.left, over)), inv.passes)

pub returns-clause-marks : goal.returns-clause-marks
returns-clause-marks g c = let inv = c.loop.invariant in let over = c.loop-test.false in (nil_of c.loop.marks.items (omega (arith, inv.left, inv.same, over)), inv.marks)
