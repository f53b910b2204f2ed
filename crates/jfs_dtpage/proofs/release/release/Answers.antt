use Rattle.std.proofs.Common.{◌≡◌, ℕ, length, ap, ◌∙◌, subst, arith}
use Rattle.jfs_bits.specs.Field.{field_of}
use Rattle.jfs_dtpage.specs.Form.{more_slots}
use Rattle.jfs_dtpage.specs.Slots.{Kept}
use Rattle.jfs_dtpage.proofs.Entries.{first_within}
use Rattle.jfs_dtpage.proofs.Released.{entry_freed, asks_entry, releases}
use Rattle.jfs_dtpage.proofs.release.release.Goals as goal

pub link_of-link-requires : goal.link_of-link-requires
link_of-link-requires c = first_within c.args.leaf c.args.bytes.now c.args.slot c.requires.within

pub length_of-requires : goal.length_of-requires
length_of-requires c = first_within c.args.leaf c.args.bytes.now c.args.slot c.requires.within

pub put_byte-requires : goal.put_byte-requires
put_byte-requires c = let w = first_within c.args.leaf c.args.bytes.now c.args.slot c.requires.within in omega (arith, w, c.start_of.ensures)

pub name_last-requires-clause-within : goal.name_last-requires-clause-within
name_last-requires-clause-within c =
    let size : length c.put_byte.new.bytes ≡ length c.args.bytes.now = search (c.put_byte.auto.bytes) in
    let chain = entry_freed c.args.leaf c.args.bytes.now c.put_byte.new.bytes c.args.slot c.link_of-link.result c.more_slots-more.result c.link_of-link.ensures (c.more_slots-more.ensures ∙ ap (more_slots c.args.leaf) (c.from.ensures ∙ c.length_of.ensures)) c.requires.once
    (subst (λ (p : ℕ). field_of c.put_byte.new.bytes p 1 ≡ c.link_of-link.result) c.start_of.ensures c.put_byte.ensures.value) (subst (λ (p : ℕ). Kept p 1 c.args.bytes.now c.put_byte.new.bytes) c.start_of.ensures c.put_byte.ensures.kept) in
    (asks_entry c.args.leaf c.args.bytes.now c.put_byte.new.bytes c.args.slot c.more_slots-more.result size chain c.requires.within c.requires.once).within

pub name_last-requires-clause-once : goal.name_last-requires-clause-once
name_last-requires-clause-once c =
    let size : length c.put_byte.new.bytes ≡ length c.args.bytes.now = search (c.put_byte.auto.bytes) in
    let chain = entry_freed c.args.leaf c.args.bytes.now c.put_byte.new.bytes c.args.slot c.link_of-link.result c.more_slots-more.result c.link_of-link.ensures (c.more_slots-more.ensures ∙ ap (more_slots c.args.leaf) (c.from.ensures ∙ c.length_of.ensures)) c.requires.once
    (subst (λ (p : ℕ). field_of c.put_byte.new.bytes p 1 ≡ c.link_of-link.result) c.start_of.ensures c.put_byte.ensures.value) (subst (λ (p : ℕ). Kept p 1 c.args.bytes.now c.put_byte.new.bytes) c.start_of.ensures c.put_byte.ensures.kept) in
    (asks_entry c.args.leaf c.args.bytes.now c.put_byte.new.bytes c.args.slot c.more_slots-more.result size chain c.requires.within c.requires.once).once

pub returns : goal.returns
returns c =
    let m = c.more_slots-more.ensures ∙ ap (more_slots c.args.leaf) (c.from.ensures ∙ c.length_of.ensures) in
    let kept = subst (λ (p : ℕ). Kept p 1 c.args.bytes.now c.put_byte.new.bytes) c.start_of.ensures c.put_byte.ensures.kept in
    let chain = entry_freed c.args.leaf c.args.bytes.now c.put_byte.new.bytes c.args.slot c.link_of-link.result c.more_slots-more.result c.link_of-link.ensures m c.requires.once
    (subst (λ (p : ℕ). field_of c.put_byte.new.bytes p 1 ≡ c.link_of-link.result) c.start_of.ensures c.put_byte.ensures.value) kept in
    let e = c.name_last.ensures in
    let r = releases c.args.leaf c.args.bytes.now c.put_byte.new.bytes c.name_last.new.bytes c.args.slot c.more_slots-more.result c.args.after m chain kept (record { chain = e.chain; ends = e.ends; kept = e.kept }) in
    record { chain = r.chain; ends = r.ends; kept = r.kept }
