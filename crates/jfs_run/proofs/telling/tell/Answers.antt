use Rattle.std.proofs.Common.{◌≡◌, ◌+◌, ◌++◌, ℕ, List, suc, true, drop, refl, sym, ap, ◌∙◌, subst, arith}
use Rattle.std.proofs.lemmas.List.{append-nil}
use Rattle.jfs_plain.specs.declared.call.Entry.{Entry}
use Rattle.std.specs.Prelude.{◌&&◌, nat_le}
use Rattle.jfs_run.specs.Telling.{mark_of, marks_of, told_from, left_at, marks_in, marks_left}
use Rattle.jfs_run.proofs.Reading.{none_read, one_less, not_more, next_in, none_in, all_in, one_told, untold, is_marked}
use Rattle.jfs_run.proofs.telling.tell.Goals as goal
use Rattle.jfs_run.proofs.telling.tell.Goals.{then-is_told, else-is_told}

pub loop-entry-init : goal.loop-entry-init
loop-entry-init c =
    let none = none_read 16 c.args.marks.now in
    record {
      number = refl;
      so_far = ap (λ (es : List Entry). c.args.told.now.items ++ told_from 1 c.args.durable (marks_of (left_at _ c.args.marks.now) es)) (all_in c.args.history.now) ∙ ap (λ left. c.args.told.now.items ++ told_from 1 c.args.durable (marks_of left c.args.history.now)) none;
      room = let less = ap marks_left none in let room = c.requires.room in omega (arith, less, room);
    }

pub push_reserved-requires : goal.push_reserved-requires
push_reserved-requires c =
    let left = left_at c.loop-entry.next c.args.marks.now in
    let client = c.entry-item.result.client in
    let n : ℕ = c.loop-entry.number + 1 in
    let told : (mark_of 1 client left && nat_le n c.args.durable) ≡ true = ap (λ b. b && nat_le n c.args.durable) (sym c.next_mark-mark.ensures.mark) ∙ sym c.is_told.ensures ∙ c.if-is_told.true in
    let one = one_less 1 client left (is_marked (mark_of 1 client left) (nat_le n c.args.durable) told) in
    let room = c.loop-entry.invariant.room in
    omega (arith, one, room)

pub loop-entry-preserved : goal.loop-entry-preserved
loop-entry-preserved c =
    let i : ℕ = c.loop-entry.entry-index in
    let n : ℕ = c.loop-entry.number + 1 in
    let e = c.entry-item.result in
    let inv = c.loop-entry.invariant in
    let told = c.loop-entry.told.items in
    let left = left_at c.loop-entry.next c.args.marks.now in
    let left' = left_at c.next_mark-mark.new.next c.args.marks.now in
    let rest = drop (i + 1) c.args.history.now in
    let next = next_in c.args.history.now i e c.loop-entry-test.true c.entry-item.is in
    let total = c.args.told.now.items ++ told_from 1 c.args.durable (marks_of (marks_in c.args.marks.now) c.args.history.now) in
    let at : suc i ≡ n = omega (arith, inv.number) in
    let last : suc n ≡ suc (i + 1) = omega (arith, inv.number) in
    let so_far = subst (λ (k : ℕ). told ++ told_from k c.args.durable (marks_of left (drop i c.args.history.now)) ≡ total) at inv.so_far in
    let on = c.next_mark-mark.ensures in
    let fewer = not_more 1 e.client left in
    let less = ap marks_left on.left in
    let known : (mark_of 1 e.client left && nat_le n c.args.durable) ≡ c.is_told.result = ap (λ b. b && nat_le n c.args.durable) (sym on.mark) ∙ sym c.is_told.ensures in
    elim c.if-is_told.branch [
      | then-is_told w ↦ rw w.told-is (record {
        number = omega (arith, inv.number);
        so_far = subst (λ (k : ℕ). w.push_reserved.new.self.items ++ told_from k c.args.durable (marks_of left' rest) ≡ total) last
            (subst (λ (ns : List ℕ). ns ++ told_from (suc n) c.args.durable (marks_of left' rest) ≡ total) (sym w.push_reserved.ensures.items)
            (one_told n c.args.durable left left' e (drop i c.args.history.now) rest told total next on.left so_far (known ∙ w.if-is_told.true)));
        room =
            let one = one_less 1 e.client left (is_marked (mark_of 1 e.client left) (nat_le n c.args.durable) (known ∙ w.if-is_told.true)) in
            let pushed = w.push_reserved.ensures in
            omega (arith, inv.room, one, less, pushed.len, pushed.capacity);
      })
      | else-is_told w ↦ rw w.told-is (record {
        number = omega (arith, inv.number);
        so_far = subst (λ (k : ℕ). told ++ told_from k c.args.durable (marks_of left' rest) ≡ total) last
            (untold n c.args.durable left left' e (drop i c.args.history.now) rest told total next on.left so_far (known ∙ w.if-is_told.false));
        room = omega (arith, inv.room, fewer, less);
      })
    ]

pub returns : goal.returns
returns c =
    let inv = c.loop-entry.invariant in
    sym (append-nil c.loop-entry.told.items) ∙ ap (λ (es : List Entry). c.loop-entry.told.items ++ told_from (suc c.loop-entry.entry-index) c.args.durable (marks_of (left_at c.loop-entry.next c.args.marks.now) es)) (sym (none_in c.args.history.now c.loop-entry.entry-index c.loop-entry-test.false)) ∙ inv.so_far
