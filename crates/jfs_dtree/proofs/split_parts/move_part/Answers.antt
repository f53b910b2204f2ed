use Rattle.std.proofs.Common.{◌++◌, List, ap, ◌∙◌, arith}
use Rattle.jfs_dtpage.specs.declared.head.DtForm.TheVariants.{Full}
use Rattle.jfs_dtpage.specs.Page.{Entry, entries_of}
use Rattle.jfs_dtpage.specs.Given.{given}
use Rattle.jfs_dtree.proofs.Moves.{entries_count, kept_leaf, small_entry, some_entries, empty_free, alone, first_there}
use Rattle.jfs_dtree.proofs.split_parts.move_part.Goals as goal

pub insert-requires-clause-room : goal.insert-requires-clause-room
insert-requires-clause-room c =
    let a = small_entry (given c.args.e) c.requires.name in
    let b = empty_free c.args.right.now c.requires.right.0 c.requires.right.1 in
    omega (arith, a, b)

pub returns-then-place-from-clause-pages : goal.returns-then-place-from-clause-pages
returns-then-place-from-clause-pages c = record {
  left_sound = c.requires.page;
  right_sound = c.insert.ensures.page;
  kind = kept_leaf Full c.args.right.now c.insert.new.bytes c.insert.ensures.head ∙ c.requires.right.2;
  rows = ap (λ (z : List Entry). entries_of Full c.args.bytes.now ++ z) c.insert.ensures.entries
      ∙ alone (entries_of Full c.args.bytes.now) (entries_of Full c.args.right.now) c.args.place (given c.args.e)
      (let t = c.if-place-from.true in let n = entries_count Full c.args.bytes.now in omega (arith, t, n, c.from.ensures, c.count_of.ensures)) c.requires.right.1;
}

pub returns-then-place-from-clause-some : goal.returns-then-place-from-clause-some
returns-then-place-from-clause-some c = (
  some_entries c.args.bytes.now c.requires.page (let f = c.requires.full in omega (arith, f)),
  first_there (entries_of Full c.args.right.now) (entries_of Full c.insert.new.bytes) (given c.args.e) c.insert.ensures.entries,
)
