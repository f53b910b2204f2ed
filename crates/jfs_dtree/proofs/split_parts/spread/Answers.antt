use Rattle.std.proofs.Common.{◌-◌, ℕ, List, map, sym, ◌∙◌, subst, arith}
use Rattle.jfs_dtpage.specs.declared.head.DtForm.TheVariants.{Full}
use Rattle.jfs_dtpage.specs.Order.{IsRising, GoesAt}
use Rattle.jfs_dtpage.specs.Page.{Entry, names_of, name_in}
use Rattle.jfs_dtpage.specs.Given.{given}
use Rattle.jfs_dtpage.proofs.Pages.{names_length}
use Rattle.jfs_dtree.proofs.Lists.{goes_front, goes_back}
use Rattle.jfs_dtree.proofs.Moves.{small_entry, first_shed, front_rows, rising_more, spreads_back, spreads_front, rising_alone, empty_free, names_parts, much_behind, one_more_slots}
use Rattle.jfs_dtree.proofs.split_parts.spread.Goals as goal

pub shed-requires-clause-order : goal.shed-requires-clause-order
shed-requires-clause-order c = rising_alone c.args.bytes.now c.args.right.now c.requires.page c.requires.right.1

pub shed-requires-clause-room : goal.shed-requires-clause-room
shed-requires-clause-room c = let e = empty_free c.args.right.now c.requires.right.0 c.requires.right.1 in omega (arith, e)

pub insert-requires-clause-place : goal.insert-requires-clause-place
insert-requires-clause-place c =
    let first = first_shed c.args.bytes.now c.args.right.now c.shed.new.bytes c.shed.new.right c.requires.page c.requires.full c.requires.right.1 c.shed.ensures.sheds c.shed.ensures.enough in
    goes_back (names_of Full c.shed.new.bytes) (names_of Full c.shed.new.right) c.args.place (c.args.place - c.from-kept.result) (name_in (given c.args.e))
    (let t = c.if-place-kept.true in let n = names_length Full c.shed.new.bytes in omega (arith, t, n, c.from-kept.ensures, c.count_of.ensures))
    (subst (λ (ns : List (List ℕ)). GoesAt ns c.args.place (name_in (given c.args.e))) (sym (names_parts c.args.bytes.now c.shed.new.bytes c.shed.new.right first.0)) c.requires.place)

pub insert-requires-clause-room : goal.insert-requires-clause-room
insert-requires-clause-room c =
    let a = small_entry (given c.args.e) c.requires.name in
    let b = much_behind c.args.bytes.now c.args.right.now c.shed.new.bytes c.shed.new.right c.requires.page c.requires.right.0 c.requires.right.1 c.shed.ensures.sheds in
    let f = c.shed.ensures.sheds.few in
    omega (arith, a, b, f)

pub returns-then-place-kept : goal.returns-then-place-kept
returns-then-place-kept c =
    let s = c.shed.ensures.sheds in
    let first = first_shed c.args.bytes.now c.args.right.now c.shed.new.bytes c.shed.new.right c.requires.page c.requires.full c.requires.right.1 s c.shed.ensures.enough in
    let t = c.if-place-kept.true in
    let p = spreads_back c.args.bytes.now c.shed.new.bytes c.shed.new.right c.insert.new.bytes c.args.place (c.args.place - c.from-kept.result) (given c.args.e) first s.pages.left_sound c.shed.ensures.enough s.few
    s.pages.kind c.insert.ensures.page c.insert.ensures.head c.insert.ensures.entries (omega (arith, t, c.from-kept.ensures, c.count_of.ensures)) (omega (arith, t)) in
    record {
      pages = p.pages;
      longest = p.longest;
      some = p.some;
      heads = (s.head_left, record { flag = c.insert.ensures.head.flag ∙ s.head_right.flag; place = c.insert.ensures.head.place ∙ s.head_right.place });
    }

pub insert-requires-2-clause-place : goal.insert-requires-2-clause-place
insert-requires-2-clause-place c =
    let first = first_shed c.args.bytes.now c.args.right.now c.shed.new.bytes c.shed.new.right c.requires.page c.requires.full c.requires.right.1 c.shed.ensures.sheds c.shed.ensures.enough in
    goes_front (names_of Full c.shed.new.bytes) (names_of Full c.shed.new.right) c.args.place (name_in (given c.args.e))
    (let t = c.if-place-kept.false in let n = names_length Full c.shed.new.bytes in omega (arith, t, n, c.from-kept.ensures, c.count_of.ensures))
    (subst (λ (ns : List (List ℕ)). GoesAt ns c.args.place (name_in (given c.args.e))) (sym (names_parts c.args.bytes.now c.shed.new.bytes c.shed.new.right first.0)) c.requires.place)

pub insert-requires-2-clause-room : goal.insert-requires-2-clause-room
insert-requires-2-clause-room c = let a = small_entry (given c.args.e) c.requires.name in let b = c.shed.ensures.enough in omega (arith, a, b)

pub shed-requires-2-clause-order : goal.shed-requires-2-clause-order
shed-requires-2-clause-order c =
    let first = first_shed c.args.bytes.now c.args.right.now c.shed.new.bytes c.shed.new.right c.requires.page c.requires.full c.requires.right.1 c.shed.ensures.sheds c.shed.ensures.enough in
    let rows = front_rows c.args.bytes.now c.shed.new.bytes c.insert-2.new.bytes c.shed.new.right c.args.place (given c.args.e) first.0 c.insert-2.ensures.entries (let t = c.if-place-kept.false in omega (arith, t, c.from-kept.ensures, c.count_of.ensures)) in
    subst (λ (es : List Entry). IsRising (map name_in es)) (sym rows) (rising_more Full c.args.bytes.now c.args.place (given c.args.e) c.requires.page c.requires.place)

pub shed-requires-2-clause-few : goal.shed-requires-2-clause-few
shed-requires-2-clause-few c =
    let a = one_more_slots c.shed.new.bytes c.insert-2.new.bytes c.args.place (given c.args.e) c.shed.ensures.sheds.pages.left_sound c.insert-2.ensures.page c.insert-2.ensures.entries in
    let f = c.shed.ensures.sheds.few in
    omega (arith, a, f)

pub shed-requires-2-clause-room : goal.shed-requires-2-clause-room
shed-requires-2-clause-room c =
    let a = one_more_slots c.shed.new.bytes c.insert-2.new.bytes c.args.place (given c.args.e) c.shed.ensures.sheds.pages.left_sound c.insert-2.ensures.page c.insert-2.ensures.entries in
    let b = much_behind c.args.bytes.now c.args.right.now c.shed.new.bytes c.shed.new.right c.requires.page c.requires.right.0 c.requires.right.1 c.shed.ensures.sheds in
    let d = small_entry (given c.args.e) c.requires.name in
    omega (arith, a, b, d)

pub returns : goal.returns
returns c =
    let s = c.shed.ensures.sheds in
    let u = c.shed-2.ensures.sheds in
    let first = first_shed c.args.bytes.now c.args.right.now c.shed.new.bytes c.shed.new.right c.requires.page c.requires.full c.requires.right.1 s c.shed.ensures.enough in
    let p = spreads_front c.args.bytes.now c.shed.new.bytes c.insert-2.new.bytes c.shed.new.right c.shed-2.new.bytes c.shed-2.new.right c.args.place (given c.args.e) first c.insert-2.ensures.entries
    (let t = c.if-place-kept.false in omega (arith, t, c.from-kept.ensures, c.count_of.ensures)) u c.shed-2.ensures.enough in
    let h = c.insert-2.ensures.head in
    record {
      pages = p.pages;
      longest = p.longest;
      some = p.some;
      heads = (
        record { flag = u.head_left.flag ∙ h.flag ∙ s.head_left.flag; place = u.head_left.place ∙ h.place ∙ s.head_left.place },
        record { flag = u.head_right.flag ∙ s.head_right.flag; place = u.head_right.place ∙ s.head_right.place },
      );
    }
