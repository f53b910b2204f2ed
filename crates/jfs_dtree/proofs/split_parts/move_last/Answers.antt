use Rattle.std.proofs.Common.{◌≡◌, ◌-◌, ◌++◌, ◌∷◌, [], suc, List, length, sym, ap, ◌∙◌, subst, arith}
use Rattle.std.proofs.lemmas.List.{length-take}
use Rattle.jfs_dtpage.specs.declared.head.DtForm.TheVariants.{Full}
use Rattle.jfs_dtpage.specs.Order.{IsRising, GoesAt}
use Rattle.jfs_dtpage.specs.Page.{Entry, entries_of, names_of}
use Rattle.jfs_dtpage.specs.Given.{given}
use Rattle.jfs_dtpage.proofs.Pages.{names_length}
use Rattle.jfs_dtree.specs.Parts.{MovesLast}
use Rattle.jfs_dtree.proofs.Lists.{goes_first, last_moves}
use Rattle.jfs_dtree.proofs.Moves.{entries_count, names_both, kept_leaf, small_entry, moved_rows}
use Rattle.jfs_dtree.proofs.split_parts.move_last.Goals as goal

pub insert-requires-clause-place : goal.insert-requires-clause-place
insert-requires-clause-place c =
    let k : suc (c.from-place.result - 1) ≡ length (names_of Full c.args.bytes.now) = (let some = c.requires.some in let n = names_length Full c.args.bytes.now in omega (arith, some, n, c.from-place.ensures, c.count_of.ensures)) in
    subst (GoesAt (names_of Full c.args.right.now) 0) (sym (c.entry_at-e.ensures.name ∙ c.dt_name-units.ensures.name))
    (goes_first (names_of Full c.args.bytes.now) (names_of Full c.args.right.now) (c.from-place.result - 1) k (subst IsRising (names_both Full c.args.bytes.now c.args.right.now) c.requires.order))

pub returns : goal.returns
returns c =
    let k : suc (c.from-place.result - 1) ≡ length (entries_of Full c.args.bytes.now) = (let some = c.requires.some in let n = entries_count Full c.args.bytes.now in omega (arith, some, n, c.from-place.ensures, c.count_of.ensures)) in
    let m : MovesLast (entries_of Full c.args.bytes.now) (entries_of Full c.args.right.now) (entries_of Full c.dt_remove.new.bytes) (entries_of Full c.insert.new.bytes) = record {
      last = given c.entry_at-e.result;
      was = last_moves (entries_of Full c.args.bytes.now) (given c.entry_at-e.result) (c.from-place.result - 1) k c.entry_at-e.ensures.is ∙ ap (λ (z : List Entry). z ++ given c.entry_at-e.result ∷ []) (sym c.dt_remove.ensures.entries);
      now = c.insert.ensures.entries;
      small = small_entry (given c.entry_at-e.result) (let a = ap length c.entry_at-e.ensures.name in let b = c.dt_name-units.ensures.most in let n = length-take c.dt_name-units.result c.dt_name-units.new.into in omega (arith, a, b, n));
    } in
    record {
      pages = record {
        left_sound = c.dt_remove.ensures.sound;
        right_sound = c.insert.ensures.page;
        kind = kept_leaf Full c.args.right.now c.insert.new.bytes c.insert.ensures.head ∙ c.requires.pages.kind ∙ sym (kept_leaf Full c.args.bytes.now c.dt_remove.new.bytes c.dt_remove.ensures.head);
        rows = moved_rows (entries_of Full c.args.bytes.now) (entries_of Full c.args.right.now) (entries_of Full c.dt_remove.new.bytes) (entries_of Full c.insert.new.bytes) m;
      };
      moved = m;
      heads = (c.dt_remove.ensures.head, c.insert.ensures.head);
    }
