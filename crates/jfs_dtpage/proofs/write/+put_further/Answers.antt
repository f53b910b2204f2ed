use Rattle.std.proofs.Common.{◌≤◌, ◌+◌, ◌-◌, ◌*◌, ◌++◌, length, sym, ◌∙◌, subst, ℕ, ◌≡◌, arith}
use Rattle.std.proofs.lemmas.List.{take-append-drop, take_all}
use Rattle.jfs_bits.specs.Field.{field_of}
use Rattle.jfs_dtpage.specs.Slots.{units_at, next_of, follow, slots_for, times, AreWithin, Kept}
use Rattle.jfs_dtpage.proofs.Further.{is_zero, not_zero, within_one, PutsFurther, PutsHere, further_last, asks_further, further_more}
use Rattle.jfs_dtpage.proofs.write.+put_further.Goals as goal

pub next_of-next-requires : goal.next_of-next-requires
next_of-next-requires t c = (within_one c.args.bytes.now c.args.slot (length c.args.units.now) c.requires.some c.requires.within).0

pub put_units-requires : goal.put_units-requires
put_units-requires t c =
    let w = (within_one c.args.bytes.now c.args.slot (length c.args.units.now) c.requires.some c.requires.within).0 in
    omega (arith, w, c.start_of.ensures, c.min.ensures, c.split_at.ensures.front_len)

pub put_byte-requires : goal.put_byte-requires
put_byte-requires t c =
    let w = (within_one c.args.bytes.now c.args.slot (length c.args.units.now) c.requires.some c.requires.within).0 in
    omega (arith, w, c.start_of-then-is_empty.ensures, c.put_units.auto.bytes)

pub returns-then-is_empty : goal.returns-then-is_empty
returns-then-is_empty t c =
    let z = is_zero (length c.split_at.result.1.now) c.is_empty.result c.is_empty.ensures c.if-is_empty.true in
    let few : length c.args.units.now ≤ 15 = omega (arith, z, c.min.ensures, c.split_at.ensures.back_len) in
    let all : c.split_at.result.0.now ≡ c.args.units.now = c.split_at.ensures.front ∙ take_all c.min.result c.args.units.now (omega (arith, few, c.min.ensures)) in
    let here : PutsHere c.args.bytes.now c.put_units.new.bytes c.args.slot c.args.units.now =
    subst (PutsHere c.args.bytes.now c.put_units.new.bytes c.args.slot) all (
      subst (λ (p : ℕ). units_at c.put_units.new.bytes (p + 2) (length c.split_at.result.0.now) ≡ c.split_at.result.0.now) c.start_of.ensures c.put_units.ensures.units,
      subst (λ (p : ℕ). Kept (p + 2) (2 * length c.split_at.result.0.now) c.args.bytes.now c.put_units.new.bytes) c.start_of.ensures c.put_units.ensures.kept,
    ) in
    let f = further_last c.args.bytes.now c.put_units.new.bytes c.put_byte.new.bytes c.args.slot c.args.units.now c.requires.some few here
    (subst (λ (p : ℕ). field_of c.put_byte.new.bytes p 1 ≡ 255) c.start_of-then-is_empty.ensures c.put_byte.ensures.value)
    (subst (λ (p : ℕ). Kept p 1 c.put_units.new.bytes c.put_byte.new.bytes) c.start_of-then-is_empty.ensures c.put_byte.ensures.kept) in
    record { next = c.next_of-next.ensures ∙ f.next; chain = f.chain; ends = f.ends; units = f.units_are; kept = f.kept }

pub put_further-requires : goal.put_further-requires
put_further-requires t c =
    let some = c.requires.some in
    let n = not_zero (length c.split_at.result.1.now) c.is_empty.result c.is_empty.ensures c.if-is_empty.false in
    let rest : length c.split_at.result.1.now ≡ length c.args.units.now - 15 = omega (arith, n, c.min.ensures, c.split_at.ensures.back_len) in
    let few : length c.split_at.result.0.now ≤ 15 = omega (arith, c.min.ensures, c.split_at.ensures.front_len) in
    let here : PutsHere c.args.bytes.now c.put_units.new.bytes c.args.slot c.split_at.result.0.now = (
      subst (λ (p : ℕ). units_at c.put_units.new.bytes (p + 2) (length c.split_at.result.0.now) ≡ c.split_at.result.0.now) c.start_of.ensures c.put_units.ensures.units,
      subst (λ (p : ℕ). Kept (p + 2) (2 * length c.split_at.result.0.now) c.args.bytes.now c.put_units.new.bytes) c.start_of.ensures c.put_units.ensures.kept,
    ) in
    let size : length c.put_units.new.bytes ≡ length c.args.bytes.now = search (c.put_units.auto.bytes) in
    let a = asks_further c.args.bytes.now c.put_units.new.bytes c.args.slot (length c.args.units.now) (length c.split_at.result.1.now) c.split_at.result.0.now c.requires.some few rest size here c.requires.within c.requires.once in
    let e = sym c.next_of-next.ensures in (
      omega (arith, c.decreases, some, rest),
      (
        omega (arith, n),
        (
          subst (λ (s : ℕ). AreWithin c.put_units.new.bytes (follow c.put_units.new.bytes s (slots_for (length c.split_at.result.1.now)))) e a.within,
          subst (λ (s : ℕ). (k : ℕ) → times k (follow c.put_units.new.bytes s (slots_for (length c.split_at.result.1.now))) ≤ 1) e a.once,
        ),
      ),
    )

pub returns : goal.returns
returns t c =
    let n = not_zero (length c.split_at.result.1.now) c.is_empty.result c.is_empty.ensures c.if-is_empty.false in
    let full : length c.split_at.result.0.now ≡ 15 = omega (arith, n, c.min.ensures, c.split_at.ensures.back_len, c.split_at.ensures.front_len) in
    let parts : c.args.units.now ≡ c.split_at.result.0.now ++ c.split_at.result.1.now = sym (rw (c.split_at.ensures.front, c.split_at.ensures.back) (take-append-drop c.min.result c.args.units.now)) in
    let here : PutsHere c.args.bytes.now c.put_units.new.bytes c.args.slot c.split_at.result.0.now = (
      subst (λ (p : ℕ). units_at c.put_units.new.bytes (p + 2) (length c.split_at.result.0.now) ≡ c.split_at.result.0.now) c.start_of.ensures c.put_units.ensures.units,
      subst (λ (p : ℕ). Kept (p + 2) (2 * length c.split_at.result.0.now) c.args.bytes.now c.put_units.new.bytes) c.start_of.ensures c.put_units.ensures.kept,
    ) in
    let e = c.put_further.ensures in
    let below : PutsFurther c.put_units.new.bytes c.put_further.new.bytes (next_of c.args.bytes.now c.args.slot) c.split_at.result.1.now c.put_further.result =
    subst (λ (s : ℕ). PutsFurther c.put_units.new.bytes c.put_further.new.bytes s c.split_at.result.1.now c.put_further.result) c.next_of-next.ensures
    (record { next = e.next; chain = e.chain; ends = e.ends; units_are = e.units; kept = e.kept }) in
    let f = further_more c.args.bytes.now c.put_units.new.bytes c.put_further.new.bytes c.args.slot c.args.units.now c.split_at.result.0.now c.split_at.result.1.now c.put_further.result parts full here c.requires.once below in
    record { next = f.next; chain = f.chain; ends = f.ends; units = f.units_are; kept = f.kept }
