use Rattle.std.proofs.Common.{◌∙◌, [], List, length, ap, arith}
use Rattle.std.specs.List.{insert}
use Rattle.std.proofs.lemmas.List.{length-take}
use Rattle.jfs_dtpage.specs.Order.{name_at}
use Rattle.jfs_dtpage.specs.Page.{Entry, Below, entries_of, names_of}
use Rattle.jfs_dtree.proofs.Moves.{entries_count, kept_leaf}
use Rattle.jfs_dtree.proofs.Offspring.{stays_low, made_low, low_goes, low_room, low_small, some_of}
use Rattle.jfs_dtree.proofs.children.make_way.Goals as goal

pub insert-requires-clause-kind : goal.insert-requires-clause-kind
insert-requires-clause-kind c = kept_leaf c.args.form c.args.bytes.now c.dt_remove.new.bytes c.dt_remove.ensures.head ∙ c.requires.inner

pub insert-requires-clause-place : goal.insert-requires-clause-place
insert-requires-clause-place c = low_goes c.args.form c.args.bytes.now c.dt_remove.new.bytes c.requires.page c.dt_remove.ensures.entries

pub insert-requires-clause-room : goal.insert-requires-clause-room
insert-requires-clause-room c =
    low_room c.args.form c.args.bytes.now c.dt_remove.new.bytes c.requires.page c.dt_remove.ensures.sound
    (some_of (entries_of c.args.form c.args.bytes.now) (let s = c.requires.some in let n = entries_count c.args.form c.args.bytes.now in omega (arith, s, n))) c.dt_remove.ensures.entries

pub returns-in-Less-clause-entries : goal.returns-in-Less-clause-entries
returns-in-Less-clause-entries c =
    stays_low c.args.form c.args.bytes.now c.args.key.now _ c.cmp.result (some_of (entries_of c.args.form c.args.bytes.now) (let s = c.requires.some in let n = entries_count c.args.form c.args.bytes.now in omega (arith, s, n))) c.dt_name-units.ensures.name c.cmp.ensures c.in-Less.is

pub returns-in-Equal : goal.returns-in-Equal
returns-in-Equal c =
    let old = entries_of c.args.form c.args.bytes.now in
    let rows = c.insert.ensures.entries ∙ ap (λ (es : List Entry). insert es 0 (Below c.dt_child-at.result [])) c.dt_remove.ensures.entries in
    record {
      page = c.insert.ensures.page;
      entries = rows ∙ made_low c.args.form c.args.bytes.now c.args.key.now _ c.cmp.result c.dt_child-at.result c.dt_child-at.ensures.value c.dt_name-units.ensures.name c.cmp.ensures c.in-Equal.is;
      head = record { flag = c.insert.ensures.head.flag ∙ c.dt_remove.ensures.head.flag; place = c.insert.ensures.head.place ∙ c.dt_remove.ensures.head.place };
      small = low_small c.args.form c.args.bytes.now c.insert.new.bytes (name_at (names_of c.args.form c.args.bytes.now) 0) c.dt_child-at.result c.requires.page c.insert.ensures.page c.dt_child-at.ensures.value
          (let a = ap length c.dt_name-units.ensures.name in let b = c.dt_name-units.ensures.most in let n = length-take c.dt_name-units.result c.dt_name-units.new.into in omega (arith, a, b, n)) rows;
    }
