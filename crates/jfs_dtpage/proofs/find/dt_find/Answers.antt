use Rattle.std.proofs.Common.{◌<◌, ◌+◌, ◌-◌, ◌/◌, length, take, arith}
use Rattle.jfs_dtpage.specs.Page.{names_of}
use Rattle.jfs_dtpage.proofs.Pages.{names_length}
use Rattle.jfs_dtpage.proofs.Rising.{middle_within, low_moves, high_moves, found_less, found_greater, found_equal}
use Rattle.jfs_dtpage.proofs.find.dt_find.Goals as goal

pub loop-low-preserved-in-Less : goal.loop-low-preserved-in-Less
loop-low-preserved-in-Less c =
    let m = middle_within c.loop-low.low c.loop-low.high c.loop-low-test.true in
    let i = c.loop-low.invariant in let high = i.2 in let size = i.0 in
    let names = names_of c.args.form c.args.bytes.now in
    let middle = c.loop-low.low + (c.loop-low.high - c.loop-low.low) / 2 in
    let within : middle < length names = omega (arith, m, high, names_length c.args.form c.args.bytes.now) in
    let b = found_less names c.args.name.now (take c.dt_name-units.result c.dt_name-units.new.into) middle c.cmp.result c.cmp.ensures c.in-Less.is c.dt_name-units.ensures.name in
    (omega (arith, size, c.dt_name-units.auto.into), omega (arith, m), high, low_moves names c.args.name.now middle c.requires.page.1.1.1.1.0 within b, i.4)

pub returns-in-Equal : goal.returns-in-Equal
returns-in-Equal c =
    let m = middle_within c.loop-low.low c.loop-low.high c.loop-low-test.true in
    let high = c.loop-low.invariant.2 in
    let middle = c.loop-low.low + (c.loop-low.high - c.loop-low.low) / 2 in (
      omega (arith, m, high, names_length c.args.form c.args.bytes.now),
      found_equal (names_of c.args.form c.args.bytes.now) c.args.name.now (take c.dt_name-units.result c.dt_name-units.new.into) middle c.cmp.result c.cmp.ensures c.in-Equal.is c.dt_name-units.ensures.name,
    )

pub loop-low-preserved : goal.loop-low-preserved
loop-low-preserved c =
    let m = middle_within c.loop-low.low c.loop-low.high c.loop-low-test.true in
    let i = c.loop-low.invariant in let high = i.2 in let size = i.0 in
    let names = names_of c.args.form c.args.bytes.now in
    let middle = c.loop-low.low + (c.loop-low.high - c.loop-low.low) / 2 in
    let b = found_greater names c.args.name.now (take c.dt_name-units.result c.dt_name-units.new.into) middle c.cmp.result c.cmp.ensures c.in-Greater.is c.dt_name-units.ensures.name in (
      omega (arith, size, c.dt_name-units.auto.into),
      omega arith,
      omega (arith, m, high),
      i.3,
      λ j h l. high_moves names c.args.name.now middle c.requires.page.1.1.1.1.0 b j h (omega (arith, l, names_length c.args.form c.args.bytes.now)),
    )

pub returns : goal.returns
returns c =
    let i = c.loop-low.invariant in let low = i.1 in let high = i.2 in
    record {
      within = omega (arith, low, high, names_length c.args.form c.args.bytes.now);
      before = i.3;
      behind = λ j h l. i.4 j (let e = c.loop-low-test.false in omega (arith, e, h, low)) (omega (arith, l, names_length c.args.form c.args.bytes.now));
    }
