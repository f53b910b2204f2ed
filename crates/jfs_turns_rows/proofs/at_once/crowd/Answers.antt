use Rattle.std.proofs.Common.{rules, arith, ◌≡◌, ◌+◌, ◌<◌, length, length-append, [], ◌∷◌, ap, sym, subst, drop, ◌∙◌, Some}
use Rattle.std.proofs.lemmas.List.{take_at}
use Rattle.jfs_turns.specs.Passes.{ArePasses}
use Rattle.jfs_turns.proofs.Closing.{last_pass, front_passes}
use Rattle.jfs_turns_rows.specs.Same.{AreCallers}
use Rattle.jfs_turns_rows.proofs.Callers.{one_caller, some_caller, last_caller, front_callers, no_passes, one_pass}
use Rattle.jfs_turns_rows.proofs.at_once.crowd.Goals as goal

pub loop-pass-preserved : goal.loop-pass-preserved
loop-pass-preserved g c = let i = c.loop-pass.invariant in let z = c.in-Ok.turns.table.shared.table_id in let n = c.args.passes in let p = c.in-Some.pass in let items = c.in-Some.ensures.items in let last = last_pass z n _ _ _ i.0 items in let pushed = c.push_reserved.ensures.items in
    let long : length c.loop-pass.dealt.items ≡ length c.pop.new.self.items + 1 = ap length items ∙ length-append c.pop.new.self.items (p ∷ []) in
    let more : length c.push_reserved.new.self.items ≡ length c.loop-pass.callers.items + 1 = ap length pushed ∙ length-append c.loop-pass.callers.items (Some p ∷ []) in (
      front_passes z n _ _ _ i.0 items,
      subst (AreCallers z n) (sym pushed) (one_caller z n _ p i.1 (last.0, last.2, last.3, last.4) (omega (arith, last.1, long, i.2))),
      omega (arith, long, more, i.2),
      search rules,
      search rules,
      search rules,
    )

pub work_at_once-requires-after_bounds : goal.work_at_once-requires-after_bounds
work_at_once-requires-after_bounds g c κs within = let i = c.loop-pass.invariant in let none : c.loop-pass.dealt.items ≡ [] = search rules in let z = c.in-Ok.turns.table.shared.table_id in let n = c.args.passes in
    subst (λ l. (0 < length l) × AreCallers z n l) (sym c.as_mut_slice.ensures.value) (omega (arith, ap length none, i.2, c.requires.0), i.1)

pub loop-caller-init : goal.loop-caller-init
loop-caller-init g c = let i = c.loop-pass.invariant in let none : c.loop-pass.dealt.items ≡ [] = search rules in let z = c.in-Ok.turns.table.shared.table_id in let n = c.args.passes in
    let same : length c.work_at_once.new.callers ≡ length c.loop-pass.callers.items = search rules in let rest : c.pop.new.self.items ≡ [] = search rules in
    let follows = take_at c.work_at_once.new.callers (drop (length c.work_at_once.new.callers) c.loop-pass.callers.items) c.loop-pass.callers.len (search rules) in (
      no_passes z n _ rest,
      subst (AreCallers z n) (sym follows) c.work_at_once.ensures,
      subst (λ l. length c.pop.new.self.items + length l ≡ n) (sym follows) (omega (arith, ap length none, ap length rest, i.2, same)),
      search rules,
      search rules,
    )

pub loop-caller-preserved : goal.loop-caller-preserved
loop-caller-preserved g c = let i = c.loop-caller.invariant in let z = c.in-Ok.turns.table.shared.table_id in let n = c.args.passes in let p = c.in-Some-caller.pass in let items = c.in-Some-pop.ensures.items in let last = last_caller z n _ _ _ i.1 items p c.in-Some-caller.is in let pushed = c.push_reserved-in-Some-caller.ensures.items in
    let long : length c.loop-caller.callers.items ≡ length c.pop-in-loop-caller.new.self.items + 1 = ap length items ∙ length-append c.pop-in-loop-caller.new.self.items (c.in-Some-pop.caller ∷ []) in
    let more : length c.push_reserved-in-Some-caller.new.self.items ≡ length c.loop-caller.dealt.items + 1 = ap length pushed ∙ length-append c.loop-caller.dealt.items (p ∷ []) in (
      subst (ArePasses z n) (sym pushed) (one_pass z n _ p i.0 last.0 (omega (arith, last.1, long, i.2))),
      front_callers z n _ _ _ i.1 items,
      omega (arith, long, more, i.2),
      search rules,
      search rules,
    )

pub unreachable-requires : goal.unreachable-requires
unreachable-requires g c = some_caller c.in-Ok.turns.table.shared.table_id c.args.passes _ _ _ c.loop-caller.invariant.1 c.in-Some-pop.ensures.items c.in-None.is
