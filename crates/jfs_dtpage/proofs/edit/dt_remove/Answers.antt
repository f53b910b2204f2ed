use Rattle.std.proofs.Common.{◌≡◌, ◌≤◌, ◌+◌, ℕ, suc, Bool, length, sym, ap, ◌∙◌, subst, arith}
use Rattle.std.specs.Prelude.{get_or}
use Rattle.jfs_dtpage.specs.Form.{free_of, first_free, more_slots, is_leaf}
use Rattle.jfs_dtpage.specs.Slots.{times, AreWithin}
use Rattle.jfs_dtpage.specs.Page.{length_of, chain_of, table_of}
use Rattle.jfs_dtpage.proofs.Pages.{slot_within, chain_within, chain_usable}
use Rattle.jfs_dtpage.proofs.Released.{Releases}
use Rattle.jfs_dtpage.proofs.Paged.{usable_once, remove_room, removes}
use Rattle.jfs_dtpage.proofs.edit.dt_remove.Goals as goal

pub length_of-requires : goal.length_of-requires
length_of-requires c = let w = slot_within c.args.form c.args.bytes.now c.args.place c.requires.size c.requires.page.1.1.0 c.requires.place in omega (arith, w, c.slot_at-slot.ensures)

pub release-requires-clause-within : goal.release-requires-clause-within
release-requires-clause-within c =
    subst (λ (b : Bool). AreWithin c.args.bytes.now (chain_of b c.args.bytes.now c.slot_at-slot.result)) (sym c.is_leaf-leaf.ensures)
    (subst (λ (s : ℕ). AreWithin c.args.bytes.now (chain_of (is_leaf c.args.bytes.now) c.args.bytes.now s)) (sym c.slot_at-slot.ensures) (chain_within c.args.form c.args.bytes.now c.args.place c.requires.size c.requires.page.1.1.0 c.requires.place))

pub release-requires-clause-once : goal.release-requires-clause-once
release-requires-clause-once c =
    subst (λ (b : Bool). (k : ℕ) → times k (chain_of b c.args.bytes.now c.slot_at-slot.result) ≤ 1) (sym c.is_leaf-leaf.ensures)
    (subst (λ (s : ℕ). (k : ℕ) → times k (chain_of (is_leaf c.args.bytes.now) c.args.bytes.now s) ≤ 1) (sym c.slot_at-slot.ensures)
    (usable_once c.args.form c.args.bytes.now (chain_of (is_leaf c.args.bytes.now) c.args.bytes.now (get_or (table_of c.args.form c.args.bytes.now) c.args.place 0)) (chain_usable c.args.form c.args.bytes.now c.args.place c.requires.page.1.1.0 c.requires.place)))

pub remove_slot-requires-clause-within : goal.remove_slot-requires-clause-within
remove_slot-requires-clause-within c =
    let r = c.release.ensures in
    let rel : Releases (is_leaf c.args.bytes.now) c.args.bytes.now c.release.new.bytes c.slot_at-slot.result (first_free c.args.bytes.now) =
    subst (λ (b : Bool). Releases b c.args.bytes.now c.release.new.bytes c.slot_at-slot.result (first_free c.args.bytes.now)) c.is_leaf-leaf.ensures
    (subst (Releases c.is_leaf-leaf.result c.args.bytes.now c.release.new.bytes c.slot_at-slot.result) c.first_free-first.ensures (record { chain = r.chain; ends = r.ends; kept = r.kept })) in
    let room = remove_room c.args.form c.args.bytes.now c.release.new.bytes c.args.place c.slot_at-slot.result c.table_at-table.result c.count_of-count.result c.requires.page c.requires.place c.slot_at-slot.ensures c.count_of-count.ensures rel c.table_at-table.ensures.value in
    let size : length c.release.new.bytes ≡ length c.args.bytes.now = search (c.release.auto.bytes) in
    omega (arith, room, size, c.requires.size)

pub returns : goal.returns
returns c =
    let r = c.release.ensures in
    let old = c.args.bytes.now in
    let rel : Releases (is_leaf old) old c.release.new.bytes c.slot_at-slot.result (first_free old) =
    subst (λ (b : Bool). Releases b old c.release.new.bytes c.slot_at-slot.result (first_free old)) c.is_leaf-leaf.ensures
    (subst (Releases c.is_leaf-leaf.result old c.release.new.bytes c.slot_at-slot.result) c.first_free-first.ensures (record { chain = r.chain; ends = r.ends; kept = r.kept })) in
    let taken : c.dt_slots-taken.result ≡ 1 + more_slots (is_leaf old) (length_of (is_leaf old) old c.slot_at-slot.result) =
    c.dt_slots-taken.ensures.value ∙ ap (λ (u : ℕ). 1 + more_slots c.is_leaf-leaf.result u) (c.from.ensures ∙ c.length_of.ensures)
    ∙ ap (λ (b : Bool). 1 + more_slots b (length_of b old c.slot_at-slot.result)) c.is_leaf-leaf.ensures in
    let free : c.from-free.result + c.dt_slots-taken.result ≡ free_of old + suc (more_slots (is_leaf old) (length_of (is_leaf old) old c.slot_at-slot.result)) = omega (arith, taken, c.from-free.ensures, c.free_of.ensures) in
    let i =
    removes c.args.form old c.release.new.bytes c.remove_slot.new.bytes c.set_counts.new.bytes c.args.place c.slot_at-slot.result c.table_at-table.result c.count_of-count.result (c.from-free.result + c.dt_slots-taken.result)
    c.requires.page c.requires.place c.slot_at-slot.ensures c.count_of-count.ensures rel c.table_at-table.ensures.value c.remove_slot.ensures.table c.remove_slot.ensures.kept
    c.set_counts.ensures.entries c.set_counts.ensures.free free c.set_counts.ensures.first c.set_counts.ensures.kept in
    record { sound = i.leaves.sound; entries = i.leaves.entries; head = i.head }
