use Rattle.std.proofs.Common.{◌≡◌, ◌≤◌, ◌-◌, ◌++◌, ℕ, length, sym, ap, ◌∙◌, subst, arith}
use Rattle.std.proofs.lemmas.List.{take-append-drop, take_all}
use Rattle.jfs_dtpage.specs.Form.{first_units}
use Rattle.jfs_dtpage.specs.Slots.{follow, slots_for, times, AreWithin}
use Rattle.jfs_dtpage.specs.Page.{name_in}
use Rattle.jfs_dtpage.specs.Given.{given, is_named}
use Rattle.jfs_dtpage.proofs.Further.{is_zero, not_zero, PutsFurther}
use Rattle.jfs_dtpage.proofs.Released.{first_of_chain}
use Rattle.jfs_dtpage.proofs.Putting.{PutsFirst, need_of, entry_short, entry_long, asks_rest}
use Rattle.jfs_dtpage.proofs.put.put_entry.Goals as goal

pub next_of-next-requires : goal.next_of-next-requires
next_of-next-requires c = first_of_chain c.args.bytes.now c.args.slot (need_of (given c.args.e)) c.requires.within

pub put_first-requires-clause-within : goal.put_first-requires-clause-within
put_first-requires-clause-within c = first_of_chain c.args.bytes.now c.args.slot (need_of (given c.args.e)) c.requires.within

pub put_first-requires-2-clause-within : goal.put_first-requires-2-clause-within
put_first-requires-2-clause-within c = first_of_chain c.args.bytes.now c.args.slot (need_of (given c.args.e)) c.requires.within

pub returns-then-is_empty : goal.returns-then-is_empty
returns-then-is_empty c =
    let e = given c.args.e in
    let z = is_zero (length c.split_at.result.1.now) c.is_empty.result c.is_empty.ensures c.if-is_empty.true in
    let size : length c.name-name.result.now ≡ length (name_in e) = ap length c.name-name.ensures in
    let units : c.first_units.result ≡ first_units (is_named e) = c.first_units.ensures.value ∙ ap first_units c.is_leaf.ensures in
    let few : length (name_in e) ≤ first_units (is_named e) = omega (arith, z, size, units, c.min.ensures, c.split_at.ensures.back_len) in
    let whole : c.split_at.result.0.now ≡ name_in e = c.split_at.ensures.front ∙ take_all c.min.result c.name-name.result.now (omega (arith, few, size, units, c.min.ensures)) ∙ c.name-name.ensures in
    let f = c.put_first.ensures in
    let p = entry_short c.args.bytes.now c.put_first.new.bytes c.args.slot e c.split_at.result.0.now few whole (record { number = f.number; link_is = f.link; length_is = f.length; units = f.units; kept = f.kept }) in
    record { next = c.next_of-next.ensures ∙ p.next; chain = p.chain; ends = p.ends; entry = p.entry; kept = p.kept }

pub put_further-requires-clause-within : goal.put_further-requires-clause-within
put_further-requires-clause-within c =
    let e = given c.args.e in
    let f = c.put_first-2.ensures in
    let n = not_zero (length c.split_at.result.1.now) c.is_empty.result c.is_empty.ensures c.if-is_empty.false in
    let size : length c.name-name.result.now ≡ length (name_in e) = ap length c.name-name.ensures in
    let units : c.first_units.result ≡ first_units (is_named e) = c.first_units.ensures.value ∙ ap first_units c.is_leaf.ensures in
    let rest : length (name_in e) - first_units (is_named e) ≡ length c.split_at.result.1.now = omega (arith, n, size, units, c.min.ensures, c.split_at.ensures.back_len) in
    let same : length c.put_first-2.new.bytes ≡ length c.args.bytes.now = search (c.put_first-2.auto.bytes) in
    let a = asks_rest c.args.bytes.now c.put_first-2.new.bytes c.args.slot e c.split_at.result.0.now c.next_of-next.result (length c.split_at.result.1.now) same rest
    (record { number = f.number; link_is = f.link; length_is = f.length; units = f.units; kept = f.kept }) c.requires.within c.requires.once in
    subst (λ (s : ℕ). AreWithin c.put_first-2.new.bytes (follow c.put_first-2.new.bytes s (slots_for (length c.split_at.result.1.now)))) (sym c.next_of-next.ensures) a.within

pub put_further-requires-clause-once : goal.put_further-requires-clause-once
put_further-requires-clause-once c =
    let e = given c.args.e in
    let f = c.put_first-2.ensures in
    let n = not_zero (length c.split_at.result.1.now) c.is_empty.result c.is_empty.ensures c.if-is_empty.false in
    let size : length c.name-name.result.now ≡ length (name_in e) = ap length c.name-name.ensures in
    let units : c.first_units.result ≡ first_units (is_named e) = c.first_units.ensures.value ∙ ap first_units c.is_leaf.ensures in
    let rest : length (name_in e) - first_units (is_named e) ≡ length c.split_at.result.1.now = omega (arith, n, size, units, c.min.ensures, c.split_at.ensures.back_len) in
    let same : length c.put_first-2.new.bytes ≡ length c.args.bytes.now = search (c.put_first-2.auto.bytes) in
    let a = asks_rest c.args.bytes.now c.put_first-2.new.bytes c.args.slot e c.split_at.result.0.now c.next_of-next.result (length c.split_at.result.1.now) same rest
    (record { number = f.number; link_is = f.link; length_is = f.length; units = f.units; kept = f.kept }) c.requires.within c.requires.once in
    subst (λ (s : ℕ). (k : ℕ) → times k (follow c.put_first-2.new.bytes s (slots_for (length c.split_at.result.1.now))) ≤ 1) (sym c.next_of-next.ensures) a.once

pub returns : goal.returns
returns c =
    let e = given c.args.e in
    let f = c.put_first-2.ensures in
    let g = c.put_further.ensures in
    let n = not_zero (length c.split_at.result.1.now) c.is_empty.result c.is_empty.ensures c.if-is_empty.false in
    let units : c.first_units.result ≡ first_units (is_named e) = c.first_units.ensures.value ∙ ap first_units c.is_leaf.ensures in
    let full : length c.split_at.result.0.now ≡ first_units (is_named e) = omega (arith, n, units, c.min.ensures, c.split_at.ensures.back_len, c.split_at.ensures.front_len) in
    let parts : name_in e ≡ c.split_at.result.0.now ++ c.split_at.result.1.now = sym c.name-name.ensures ∙ sym (rw (c.split_at.ensures.front, c.split_at.ensures.back) (take-append-drop c.min.result c.name-name.result.now)) in
    let p = entry_long c.args.bytes.now c.put_first-2.new.bytes c.put_further.new.bytes c.args.slot e c.split_at.result.0.now c.split_at.result.1.now c.put_further.result parts full
    (subst (λ (l : ℕ). PutsFirst c.args.bytes.now c.put_first-2.new.bytes c.args.slot e c.split_at.result.0.now l) c.next_of-next.ensures (record { number = f.number; link_is = f.link; length_is = f.length; units = f.units; kept = f.kept }))
    c.requires.once
    (subst (λ (s : ℕ). PutsFurther c.put_first-2.new.bytes c.put_further.new.bytes s c.split_at.result.1.now c.put_further.result) c.next_of-next.ensures (record { next = g.next; chain = g.chain; ends = g.ends; units_are = g.units; kept = g.kept })) in
    record { next = p.next; chain = p.chain; ends = p.ends; entry = p.entry; kept = p.kept }
