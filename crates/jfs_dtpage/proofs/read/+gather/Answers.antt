use Rattle.std.proofs.Common.{◌+◌, ◌-◌, ◌*◌, length, sym, ap, ◌∙◌, subst, ℕ, ◌≡◌, arith}
use Rattle.std.specs.Prelude.{min}
use Rattle.jfs_dtpage.specs.Slots.{units_at, follow, gather, slots_for, AreWithin}
use Rattle.jfs_dtpage.proofs.Further.{is_zero, not_zero, gather_none, within_one, gathers}
use Rattle.jfs_dtpage.proofs.read.+gather.Goals as goal

pub returns-then-is_empty : goal.returns-then-is_empty
returns-then-is_empty t c = gather_none c.args.bytes.now c.args.slot c.args.into.now (is_zero (length c.args.into.now) c.is_empty.result c.is_empty.ensures c.if-is_empty.true)

pub copy_units-requires : goal.copy_units-requires
copy_units-requires t c =
    let n = not_zero (length c.args.into.now) c.is_empty.result c.is_empty.ensures c.if-is_empty.false in
    let w = within_one c.args.bytes.now c.args.slot (length c.args.into.now) (omega (arith, n)) c.requires in
    let first = w.0 in
    omega (arith, first, c.start_of.ensures, c.min-here.ensures, c.split_at_mut-part.ensures.front_len)

pub next_of-requires : goal.next_of-requires
next_of-requires t c =
    let n = not_zero (length c.args.into.now) c.is_empty.result c.is_empty.ensures c.if-is_empty.false in
    (within_one c.args.bytes.now c.args.slot (length c.args.into.now) (omega (arith, n)) c.requires).0

pub gather-requires : goal.gather-requires
gather-requires t c =
    let n = not_zero (length c.args.into.now) c.is_empty.result c.is_empty.ensures c.if-is_empty.false in
    let w = within_one c.args.bytes.now c.args.slot (length c.args.into.now) (omega (arith, n)) c.requires in
    let rest : length c.args.into.now - 15 ≡ length c.split_at_mut-part.result.1.now = omega (arith, n, c.min-here.ensures, c.split_at_mut-part.ensures.back_len) in
    (omega (arith, c.decreases, n, c.min-here.ensures, c.split_at_mut-part.ensures.back_len), subst (λ (k : ℕ). AreWithin c.args.bytes.now (follow c.args.bytes.now c.next_of.result (slots_for k))) rest (subst (λ (s : ℕ). AreWithin c.args.bytes.now (follow c.args.bytes.now s (slots_for (length c.args.into.now - 15)))) (sym c.next_of.ensures) w.1))

pub returns : goal.returns
returns t c =
    let n = not_zero (length c.args.into.now) c.is_empty.result c.is_empty.ensures c.if-is_empty.false in
    let rest : length c.split_at_mut-part.result.1.now ≡ length c.args.into.now - 15 = omega (arith, n, c.min-here.ensures, c.split_at_mut-part.ensures.back_len) in
    let here : length c.split_at_mut-part.result.0.now ≡ min (length c.args.into.now) 15 = omega (arith, n, c.min-here.ensures, c.split_at_mut-part.ensures.front_len) in
    gathers c.args.bytes.now c.args.slot (length c.args.into.now) (length c.split_at_mut-part.result.1.now) c.copy_units.new.into c.gather.new.into (omega (arith, n)) rest
    (c.copy_units.ensures ∙ ap (λ (p : ℕ). units_at c.args.bytes.now (p + 2) (length c.split_at_mut-part.result.0.now)) c.start_of.ensures ∙ ap (λ (k : ℕ). units_at c.args.bytes.now (32 * c.args.slot + 2) k) here)
    (c.gather.ensures ∙ ap (λ (s : ℕ). gather c.args.bytes.now s (slots_for (length c.split_at_mut-part.result.1.now)) (length c.split_at_mut-part.result.1.now)) c.next_of.ensures)
