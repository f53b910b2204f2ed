use Rattle.std.proofs.Common.{◌≡◌, ◌∙◌, ap, sym, ◌++◌, ◌-◌, arith}
use Rattle.jfs_bits.specs.Field.{field_of}
use Rattle.jfs_xtpage.specs.Page.{entries_of, entries_from, count_of}
use Rattle.jfs_xtpage.proofs.Entries.{length-entries}
use Rattle.jfs_xtree.proofs.Lists.{alone}
use Rattle.jfs_xtree.proofs.parts.move_part.Goals as goal

pub returns-then-place-count-clause-rows : goal.returns-then-place-count-clause-rows
returns-then-place-count-clause-rows c =
    alone (entries_of c.args.bytes.now) (entries_of c.args.right.now) c.args.place c.args.x
    (let h = c.if-place-count.true in let g = c.get_u16-count.ensures.value in let l = length-entries c.args.bytes.now 0 (count_of c.args.bytes.now) in omega (arith, h, g, l))
    (ap (entries_from c.args.right.now 0) (let e = c.requires.room.0 in let z : field_of c.args.right.now 18 2 - 2 ≡ 0 = omega (arith, e) in z))
    ∙ ap (λ xs. entries_of c.args.bytes.now ++ xs) (sym c.insert.ensures.entries)
