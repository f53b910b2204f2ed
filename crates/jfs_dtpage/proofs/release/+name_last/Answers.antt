use Rattle.std.proofs.Common.{◌≡◌, ◌≤◌, ◌-◌, ℕ, suc, sym, subst, arith}
use Rattle.jfs_bits.specs.Field.{field_of}
use Rattle.jfs_dtpage.specs.Slots.{next_of, follow, times, AreWithin, Kept}
use Rattle.jfs_dtpage.proofs.Released.{NamesLast, last_here, last_below, asks_below, first_of_chain}
use Rattle.jfs_dtpage.proofs.release.+name_last.Goals as goal

pub put_byte-requires : goal.put_byte-requires
put_byte-requires t c = let w = first_of_chain c.args.bytes.now c.args.slot c.args.more c.requires.within in omega (arith, w, c.start_of.ensures)

pub returns-then-more-eq0 : goal.returns-then-more-eq0
returns-then-more-eq0 t c =
    let n = last_here c.args.bytes.now c.put_byte.new.bytes c.args.slot c.args.more c.args.after c.if-more-eq0.true
    (subst (λ (p : ℕ). field_of c.put_byte.new.bytes p 1 ≡ c.args.after) c.start_of.ensures c.put_byte.ensures.value) (subst (λ (p : ℕ). Kept p 1 c.args.bytes.now c.put_byte.new.bytes) c.start_of.ensures c.put_byte.ensures.kept) in
    record { chain = n.chain; ends = n.ends; kept = n.kept }

pub next_of-next-requires : goal.next_of-next-requires
next_of-next-requires t c = first_of_chain c.args.bytes.now c.args.slot c.args.more c.requires.within

pub name_last-requires : goal.name_last-requires
name_last-requires t c =
    let some = c.if-more-eq0.false in
    let a = asks_below c.args.bytes.now c.args.slot c.args.more (c.args.more - 1) (omega (arith, some)) (record { within = c.requires.within; once = c.requires.once }) in
    let e = sym c.next_of-next.ensures in (
      omega (arith, c.decreases, some),
      (
        subst (λ (s : ℕ). AreWithin c.args.bytes.now (follow c.args.bytes.now s (suc (c.args.more - 1)))) e a.within,
        subst (λ (s : ℕ). (k : ℕ) → times k (follow c.args.bytes.now s (suc (c.args.more - 1))) ≤ 1) e a.once,
      ),
    )

pub returns : goal.returns
returns t c =
    let some = c.if-more-eq0.false in
    let b = c.name_last.ensures in
    let below : NamesLast c.args.bytes.now c.name_last.new.bytes (next_of c.args.bytes.now c.args.slot) (c.args.more - 1) c.args.after =
    subst (λ (s : ℕ). NamesLast c.args.bytes.now c.name_last.new.bytes s (c.args.more - 1) c.args.after) c.next_of-next.ensures (record { chain = b.chain; ends = b.ends; kept = b.kept }) in
    let n = last_below c.args.bytes.now c.name_last.new.bytes c.args.slot c.args.more (c.args.more - 1) c.args.after (omega (arith, some)) c.requires.once below in
    record { chain = n.chain; ends = n.ends; kept = n.kept }
