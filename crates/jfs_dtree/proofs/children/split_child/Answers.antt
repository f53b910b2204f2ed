use Rattle.std.proofs.Common.{◌≡◌, ℕ, suc, List, Ok, sym, ap, ◌∙◌, subst, arith}
use Rattle.std.specs.List.{insert}
use Rattle.std.proofs.lemmas.Bool.{true≢false}
use Rattle.jfs_dtpage.specs.declared.head.DtForm.TheVariants.{Full}
use Rattle.jfs_dtpage.specs.Order.{GoesAt, IsFound}
use Rattle.jfs_dtpage.specs.Page.{Entry, Below, entries_of, names_of}
use Rattle.jfs_dtree.specs.Parts.{lowered, ArePages}
use Rattle.jfs_dtree.proofs.Nodes.{inner_is}
use Rattle.jfs_dtree.proofs.Moves.{cons_some, entries_count, some_count, kept_leaf}
use Rattle.jfs_dtree.proofs.Offspring.{child_goes, found_at, goes_once}
use Rattle.jfs_dtree.proofs.Grown.{more_children, child_parted, parted_inner}
use Rattle.jfs_dtree.proofs.Frames.{head_frame, left_frame}
use Rattle.jfs_dtree.proofs.children.split_child.Goals as goal

pub returns-then-is_leaf-clause-parts : goal.returns-then-is_leaf-clause-parts
returns-then-is_leaf-clause-parts c = λ blocks all within at rise. absurd (true≢false (sym c.if-is_leaf.true ∙ c.is_leaf.ensures ∙ (inner_is Full blocks c.args.bytes.now _ at.was).1))

pub make_way-requires-clause-some : goal.make_way-requires-clause-some
make_way-requires-clause-some c = some_count c.args.bytes.now c.requires.full.sound (let f = c.requires.full.few in omega (arith, f))

pub returns-in_default-clause-parts : goal.returns-in_default-clause-parts
returns-in_default-clause-parts c = λ blocks all within at rise. absurd (
    found_at (names_of Full c.make_way.new.bytes) (suc c.args.place) c.args.child.now.key
    (child_goes Full blocks c.args.bytes.now c.make_way.new.bytes c.args.place _ all at rise c.make_way.ensures.page (c.make_way.ensures.entries ∙ ap (λ k. lowered k (entries_of Full c.args.bytes.now)) c.units-key.ensures.units))
    c.in_default.field-0 (subst (λ k. IsFound (names_of Full c.make_way.new.bytes) k (Ok c.in_default.field-0)) c.units-key.ensures.units c.in_default.ensures)
    )

pub part-requires-clause-full : goal.part-requires-clause-full
part-requires-clause-full c = let a = c.make_way.ensures.small in let b = c.requires.full.few in omega (arith, a, b)

pub first_key-requires-clause-some : goal.first_key-requires-clause-some
first_key-requires-clause-some c = let a = cons_some (entries_of Full c.part.new.right) c.part.ensures.some.1 in let b = entries_count Full c.part.new.right in omega (arith, a, b)

pub returns-clause-parts : goal.returns-clause-parts
returns-clause-parts c = λ blocks all within at rise.
    let u = c.units-key.ensures.units in
    let mid = c.make_way.ensures.entries ∙ ap (λ k. lowered k (entries_of Full c.args.bytes.now)) u in
    let goes = child_goes Full blocks c.args.bytes.now c.make_way.new.bytes c.args.place _ all at rise c.make_way.ensures.page mid in
    let next : c.in-Err.next ≡ suc c.args.place = goes_once (names_of Full c.make_way.new.bytes) (suc c.args.place) c.in-Err.next c.args.child.now.key goes (subst (GoesAt (names_of Full c.make_way.new.bytes) c.in-Err.next) u c.in-Err.ensures) in
    let rows : insert (entries_of Full c.make_way.new.bytes) c.in-Err.next (Below c.page_at.result c.units-key.result.now) ≡ insert (lowered c.args.child.now.key (entries_of Full c.args.bytes.now)) (suc c.args.place) (Below c.page_at.result c.args.child.now.key) =
    ap (λ (es : List Entry). insert es c.in-Err.next (Below c.page_at.result c.units-key.result.now)) mid
    ∙ ap (λ (p : ℕ). insert (lowered c.args.child.now.key (entries_of Full c.args.bytes.now)) p (Below c.page_at.result c.units-key.result.now)) next
    ∙ ap (λ k. insert (lowered c.args.child.now.key (entries_of Full c.args.bytes.now)) (suc c.args.place) (Below c.page_at.result k)) u in
    child_parted blocks c.part.new.bytes c.part.new.right c.first_key.result (insert (lowered c.args.child.now.key (entries_of Full c.args.bytes.now)) (suc c.args.place) (Below c.page_at.result c.args.child.now.key)) all
    (subst (λ (es : List Entry). ArePages es c.part.new.bytes c.part.new.right) rows c.part.ensures.pages)
    (c.part.ensures.kind ∙ kept_leaf Full c.args.bytes.now c.make_way.new.bytes c.make_way.ensures.head ∙ (inner_is Full blocks c.args.bytes.now _ at.was).1) c.part.ensures.some.0 c.part.ensures.some.1
    (more_children Full blocks c.args.bytes.now c.args.place c.args.child.now.key c.args.child.now.page c.page_at.result all at c.page_at.ensures.is within) c.first_key.ensures.is

pub returns-then-is_leaf-clause-rules : goal.returns-then-is_leaf-clause-rules
returns-then-is_leaf-clause-rules c = λ blocks all at rise. absurd (true≢false (sym c.if-is_leaf.true ∙ c.is_leaf.ensures ∙ (inner_is Full blocks c.args.bytes.now _ at.was).1))

pub returns-in_default-clause-rules : goal.returns-in_default-clause-rules
returns-in_default-clause-rules c = λ blocks all at rise. absurd (
    found_at (names_of Full c.make_way.new.bytes) (suc c.args.place) c.args.child.now.key
    (child_goes Full blocks c.args.bytes.now c.make_way.new.bytes c.args.place _ all at rise c.make_way.ensures.page (c.make_way.ensures.entries ∙ ap (λ k. lowered k (entries_of Full c.args.bytes.now)) c.units-key.ensures.units))
    c.in_default.field-0 (subst (λ k. IsFound (names_of Full c.make_way.new.bytes) k (Ok c.in_default.field-0)) c.units-key.ensures.units c.in_default.ensures)
    )

pub returns-clause-rules : goal.returns-clause-rules
returns-clause-rules c = λ blocks all at rise.
    parted_inner c.args.n c.args.q c.args.last c.args.bytes.now c.make_way.new.bytes c.part.new.bytes c.part.new.right c.units-key.result.now c.first_key.result _ c.page_at.result c.in-Err.next c.units-key.ensures.units c.page_at.ensures.is
    c.in-Err.ensures c.make_way.ensures.entries c.make_way.ensures.head c.part.ensures.parted c.part.ensures.neighbours c.first_key.ensures.is

pub returns-clause-frame : goal.returns-clause-frame
returns-clause-frame c =
    left_frame c.args.n c.args.q c.make_way.new.bytes c.part.new.bytes c.part.new.right c.part.ensures.neighbours ∙ head_frame Full c.args.bytes.now c.make_way.new.bytes c.make_way.ensures.head

pub returns-in_default-clause-frame : goal.returns-in_default-clause-frame
returns-in_default-clause-frame c = head_frame Full c.args.bytes.now c.make_way.new.bytes c.make_way.ensures.head
