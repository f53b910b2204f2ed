use Rattle.std.proofs.Common.{rules, ◌≡◌, ◌<◌, ◌∙◌, length, sym, ap, subst}
use Rattle.std.specs.Prelude.{slice_index_or}
use Rattle.jfs_clients.specs.Ran.{Ran}
use Rattle.jfs_clients.proofs.Runs.{may_at, each_ran, whole_list}
use Rattle.jfs_clients.proofs.clients.run_clients.Goals as goal

pub for_each_mut-requires-clause-accepts : goal.for_each_mut-requires-clause-accepts
for_each_mut-requires-clause-accepts g c κs within = λ i p small is.
    let e = c.as_mut_slice.ensures.value in
    ((search rules, may_at g.C.Caller.left c.args.scripts.now c.args.callers.items i p.now c.requires (subst (λ xs. i < length xs) e small) (subst (λ xs. p.now ≡ slice_index_or xs i p.now) e is)), search rules)

pub returns : goal.returns
returns g c =
    let e = c.as_mut_slice.ensures.value in
    let same : length c.for_each_mut.new.s ≡ length c.args.callers.items = c.for_each_mut.auto.s ∙ ap length e in
    rw (whole_list c.for_each_mut.new.s c.args.callers.items c.args.callers.len same c.args.callers.ok.0)
    (each_ran g.C.Caller.left g.C.Caller.did c.args.scripts.now c.args.callers.items c.for_each_mut.new.s c.requires same
    (λ i d small script at. let h = (c.for_each_mut.ensures i d (subst (λ xs. i < length xs) (sym e) small)).1 in
    let did = g.C.Caller.did in
    subst (λ y. Ran did script.items (slice_index_or c.args.callers.items i d) y) h.left
    (subst (λ x. Ran did script.items x h.after_call.now) (h.argument_is ∙ ap (λ xs. slice_index_or xs i d) e) (h.call script at))))
