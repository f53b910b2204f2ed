use Rattle.std.proofs.Common.{◌≡◌, ◌≤◌, ◌+◌, ◌-◌, ℕ, suc, Bool, length, sym, ap, ◌∙◌, subst, arith}
use Rattle.jfs_dtpage.specs.Form.{free_of, more_slots}
use Rattle.jfs_dtpage.specs.Slots.{follow}
use Rattle.jfs_dtpage.specs.Page.{name_in}
use Rattle.jfs_dtpage.specs.Given.{given}
use Rattle.jfs_dtpage.proofs.Pages.{names_length}
use Rattle.jfs_dtpage.proofs.Putting.{PutsEntry, need_of}
use Rattle.jfs_dtpage.proofs.Paged.{most_small, both_fit, front_free, usable_once, usable_all, insert_room, inserts}
use Rattle.jfs_dtpage.proofs.edit.dt_insert.Goals as goal

pub put_entry-rest-requires-clause-within : goal.put_entry-rest-requires-clause-within
put_entry-rest-requires-clause-within c =
    let need = need_of (given c.args.e) in
    let n : c.dt_slots-need.result ≡ 1 + need = c.dt_slots-need.ensures.value ∙ ap (λ (u : ℕ). 1 + more_slots c.is_leaf.result u) (ap length c.name.ensures) ∙ ap (λ (b : Bool). 1 + more_slots b (length (name_in (given c.args.e)))) (c.is_leaf.ensures ∙ c.requires.kind) in
    let room : suc need ≤ free_of c.args.bytes.now = let f = c.if-free-need.false in omega (arith, n, f, c.from-free.ensures, c.free_of.ensures) in
    usable_all c.args.form c.args.bytes.now (follow c.args.bytes.now c.first_free-slot.result (suc need)) c.requires.size (front_free c.args.form c.args.bytes.now c.first_free-slot.result (suc need) c.requires.page c.first_free-slot.ensures room)

pub put_entry-rest-requires-clause-once : goal.put_entry-rest-requires-clause-once
put_entry-rest-requires-clause-once c =
    let need = need_of (given c.args.e) in
    let n : c.dt_slots-need.result ≡ 1 + need = c.dt_slots-need.ensures.value ∙ ap (λ (u : ℕ). 1 + more_slots c.is_leaf.result u) (ap length c.name.ensures) ∙ ap (λ (b : Bool). 1 + more_slots b (length (name_in (given c.args.e)))) (c.is_leaf.ensures ∙ c.requires.kind) in
    let room : suc need ≤ free_of c.args.bytes.now = let f = c.if-free-need.false in omega (arith, n, f, c.from-free.ensures, c.free_of.ensures) in
    usable_once c.args.form c.args.bytes.now (follow c.args.bytes.now c.first_free-slot.result (suc need)) (front_free c.args.form c.args.bytes.now c.first_free-slot.result (suc need) c.requires.page c.first_free-slot.ensures room)

pub overflow_cast-place : goal.overflow_cast-place
overflow_cast-place c =
    let p = c.requires.place.within in let fit = both_fit c.args.form c.args.bytes.now c.requires.page in let m = most_small c.args.form in
    omega (arith, p, fit, m, names_length c.args.form c.args.bytes.now)

pub insert_slot-requires-clause-within : goal.insert_slot-requires-clause-within
insert_slot-requires-clause-within c =
    let need = need_of (given c.args.e) in
    let n : c.dt_slots-need.result ≡ 1 + need = c.dt_slots-need.ensures.value ∙ ap (λ (u : ℕ). 1 + more_slots c.is_leaf.result u) (ap length c.name.ensures) ∙ ap (λ (b : Bool). 1 + more_slots b (length (name_in (given c.args.e)))) (c.is_leaf.ensures ∙ c.requires.kind) in
    let room : suc need ≤ free_of c.args.bytes.now = let f = c.if-free-need.false in omega (arith, n, f, c.from-free.ensures, c.free_of.ensures) in
    let e = c.put_entry-rest.ensures in
    let p : PutsEntry c.args.bytes.now c.put_entry-rest.new.bytes c.first_free-slot.result (given c.args.e) c.put_entry-rest.result = record { next = e.next; chain = e.chain; ends = e.ends; entry = e.entry; kept = e.kept } in
    let r = insert_room c.args.form c.args.bytes.now c.put_entry-rest.new.bytes c.first_free-slot.result (given c.args.e) c.put_entry-rest.result c.table_at-table.result c.count_of-count.result c.requires.page c.first_free-slot.ensures c.count_of-count.ensures room p c.table_at-table.ensures.value in
    let size : length c.put_entry-rest.new.bytes ≡ length c.args.bytes.now = search (c.put_entry-rest.auto.bytes) in
    omega (arith, r, size, c.requires.size)

pub insert_slot-requires-clause-place : goal.insert_slot-requires-clause-place
insert_slot-requires-clause-place c = let p = c.requires.place.within in omega (arith, p, names_length c.args.form c.args.bytes.now, c.count_of-count.ensures)

pub returns : goal.returns
returns c =
    let need = need_of (given c.args.e) in
    let n : c.dt_slots-need.result ≡ 1 + need = c.dt_slots-need.ensures.value ∙ ap (λ (u : ℕ). 1 + more_slots c.is_leaf.result u) (ap length c.name.ensures) ∙ ap (λ (b : Bool). 1 + more_slots b (length (name_in (given c.args.e)))) (c.is_leaf.ensures ∙ c.requires.kind) in
    let room : suc need ≤ free_of c.args.bytes.now = let f = c.if-free-need.false in omega (arith, n, f, c.from-free.ensures, c.free_of.ensures) in
    let e = c.put_entry-rest.ensures in
    let p : PutsEntry c.args.bytes.now c.put_entry-rest.new.bytes c.first_free-slot.result (given c.args.e) c.put_entry-rest.result = record { next = e.next; chain = e.chain; ends = e.ends; entry = e.entry; kept = e.kept } in
    let free : c.from-free.result - c.dt_slots-need.result + suc need ≡ free_of c.args.bytes.now = omega (arith, n, room, c.from-free.ensures, c.free_of.ensures) in
    let i =
    inserts c.args.form c.args.bytes.now c.put_entry-rest.new.bytes c.insert_slot.new.bytes c.set_counts.new.bytes c.args.place c.first_free-slot.result (given c.args.e) c.put_entry-rest.result c.table_at-table.result c.count_of-count.result (c.from-free.result - c.dt_slots-need.result)
    c.requires.page c.requires.kind c.first_free-slot.ensures c.count_of-count.ensures room p c.table_at-table.ensures.value c.insert_slot.ensures.table c.insert_slot.ensures.kept
    c.set_counts.ensures.entries c.set_counts.ensures.free free c.set_counts.ensures.first c.set_counts.ensures.kept c.requires.place in
    record {
      room = subst (λ (b : Bool). free_of c.set_counts.new.bytes + suc (more_slots b (length (name_in (given c.args.e)))) ≡ free_of c.args.bytes.now) (sym c.requires.kind) (omega (arith, free, c.set_counts.ensures.free));
      sound = i.joins.sound;
      entries = i.joins.entries;
      head = i.head;
      full = tt;
    }
