use Rattle.std.proofs.Common.{◌+◌, ℕ, suc, List, refl, sym, ap, ◌∙◌, subst, map, arith}
use Rattle.std.specs.List.{insert}
use Rattle.jfs_dtpage.specs.Order.{GoesAt}
use Rattle.jfs_dtpage.specs.Page.{Entry, Below, name_in, entries_of}
use Rattle.jfs_dtpage.proofs.Joined.{names_listed}
use Rattle.jfs_dtree.specs.Parts.{lowered}
use Rattle.jfs_dtree.proofs.Behind.{goes_behind, next_place}
use Rattle.jfs_dtree.proofs.Moves.{kept_leaf}
use Rattle.jfs_dtree.proofs.Offspring.{key_goes, room_stays}
use Rattle.jfs_dtree.proofs.Grown.{more_children, child_put}
use Rattle.jfs_dtree.proofs.Frames.{head_frame}
use Rattle.jfs_dtree.proofs.children.put_child.Goals as goal

pub returns-then-not-goes_behind-clause-child : goal.returns-then-not-goes_behind-clause-child
returns-then-not-goes_behind-clause-child c = λ blocks within all at rise.
    c.goes_behind.ensures.clashes c.if-not-goes_behind.true
    (subst (λ k. GoesAt (map name_in (lowered k (entries_of c.args.form c.args.bytes.now))) (suc c.args.place) k) (sym c.units-key.ensures.units) (key_goes c.args.form blocks c.args.bytes.now c.args.place _ all at rise))

pub returns-then-from-dt_slots-clause-goes : goal.returns-then-from-dt_slots-clause-goes
returns-then-from-dt_slots-clause-goes c = λ blocks.
    goes_behind c.args.form blocks c.args.bytes.now c.args.place _
    (subst (λ k. GoesAt (map name_in (lowered k (entries_of c.args.form c.args.bytes.now))) (suc c.args.place) k) c.units-key.ensures.units (c.goes_behind.ensures.goes c.if-not-goes_behind.false))

pub insert-requires-clause-place : goal.insert-requires-clause-place
insert-requires-clause-place c =
    subst (λ ns. GoesAt ns (c.args.place + 1) c.units-key.result.now) (sym (names_listed c.args.form c.make_way.new.bytes ∙ ap (map name_in) c.make_way.ensures.entries))
    (subst (λ p. GoesAt (map name_in (lowered c.units-key.result.now (entries_of c.args.form c.args.bytes.now))) p c.units-key.result.now) (next_place c.args.place) (c.goes_behind.ensures.goes c.if-not-goes_behind.false))

pub insert-requires-clause-room : goal.insert-requires-clause-room
insert-requires-clause-room c =
    let a = room_stays c.args.form c.args.bytes.now c.make_way.new.bytes c.units-key.result.now (c.if-not-is_sound_inner.ensures.sound refl).0 c.make_way.ensures.page c.make_way.ensures.entries in
    let b = c.if-from-dt_slots.false in
    let v = c.dt_slots.ensures.value in
    omega (arith, a, b, v, c.from.ensures, c.free_of.ensures)

pub returns-clause-child : goal.returns-clause-child
returns-clause-child c = λ blocks within all at rise.
    let u = c.units-key.ensures.units in
    let mid = c.make_way.ensures.entries ∙ ap (λ k. lowered k (entries_of c.args.form c.args.bytes.now)) u in
    let rows = c.insert.ensures.entries ∙ ap (λ (es : List Entry). insert es (c.args.place + 1) (Below c.page_at.result c.units-key.result.now)) mid
    ∙ ap (λ (p : ℕ). insert (lowered c.args.child.now.key (entries_of c.args.form c.args.bytes.now)) p (Below c.page_at.result c.units-key.result.now)) (sym (next_place c.args.place))
    ∙ ap (λ k. insert (lowered c.args.child.now.key (entries_of c.args.form c.args.bytes.now)) (suc c.args.place) (Below c.page_at.result k)) u in
    child_put c.args.form blocks c.insert.new.bytes (insert (lowered c.args.child.now.key (entries_of c.args.form c.args.bytes.now)) (suc c.args.place) (Below c.page_at.result c.args.child.now.key)) all c.insert.ensures.page
    (kept_leaf c.args.form c.make_way.new.bytes c.insert.new.bytes c.insert.ensures.head ∙ kept_leaf c.args.form c.args.bytes.now c.make_way.new.bytes c.make_way.ensures.head ∙ (c.if-not-is_sound_inner.ensures.sound refl).1) rows
    (more_children c.args.form blocks c.args.bytes.now c.args.place c.args.child.now.key c.args.child.now.page c.page_at.result all at c.page_at.ensures.is within)

pub returns-clause-frame : goal.returns-clause-frame
returns-clause-frame c = head_frame c.args.form c.make_way.new.bytes c.insert.new.bytes c.insert.ensures.head ∙ head_frame c.args.form c.args.bytes.now c.make_way.new.bytes c.make_way.ensures.head
