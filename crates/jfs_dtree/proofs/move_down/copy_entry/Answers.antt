use Rattle.std.proofs.Common.{◌≡◌, ◌+◌, ℕ, suc, List, length, take, sym, ap, ◌∙◌, subst, arith}
use Rattle.std.specs.List.{insert}
use Rattle.std.proofs.lemmas.List.{length-take}
use Rattle.jfs_dtpage.specs.declared.head.DtForm.TheVariants.{Root, Full}
use Rattle.jfs_dtpage.specs.Order.{GoesAt}
use Rattle.jfs_dtpage.specs.Page.{Entry, entries_of, names_of}
use Rattle.jfs_dtpage.specs.Given.{given}
use Rattle.jfs_dtree.proofs.Lists.{take_more}
use Rattle.jfs_dtree.proofs.Moves.{small_entry}
use Rattle.jfs_dtree.proofs.Down.{copied_place, copied_room}
use Rattle.jfs_dtree.proofs.move_down.copy_entry.Goals as goal

pub insert-requires-clause-place : goal.insert-requires-clause-place
insert-requires-clause-place c =
    subst (GoesAt (names_of Full c.args.page.now) c.args.place) (sym (c.entry_at-e.ensures.name ∙ c.dt_name-units.ensures.name)) (copied_place c.args.root.now c.args.page.now c.args.place c.requires.pages.0 c.requires.place c.requires.before)

pub insert-requires-clause-room : goal.insert-requires-clause-room
insert-requires-clause-room c =
    let a = small_entry (given c.entry_at-e.result)
    (let a = ap length c.entry_at-e.ensures.name in let b = c.dt_name-units.ensures.most in let n = length-take c.dt_name-units.result c.dt_name-units.new.into in omega (arith, a, b, n)) in
    let b = copied_room c.args.root.now c.args.page.now c.args.place c.requires.pages.0 c.requires.pages.1 c.requires.before in
    omega (arith, a, b)

pub returns : goal.returns
returns c =
    let next : suc c.args.place ≡ c.args.place + 1 = omega arith in
    record {
      page = c.insert.ensures.page;
      entries = c.insert.ensures.entries ∙ ap (λ (z : List Entry). insert z c.args.place (given c.entry_at-e.result)) c.requires.before ∙ take_more (entries_of Root c.args.root.now) c.args.place (given c.entry_at-e.result) c.entry_at-e.ensures.is
          ∙ ap (λ (n : ℕ). take n (entries_of Root c.args.root.now)) next;
      head = c.insert.ensures.head;
    }
