use Rattle.std.proofs.Common.{◌≡◌, ◌*◌, arith}
use Rattle.std.specs.Prelude.{get_or}
use Rattle.jfs_dtpage.specs.Page.{table_of}
use Rattle.jfs_dtpage.proofs.Pages.{slot_within, leaf_entry}
use Rattle.jfs_dtpage.proofs.entry.dt_inode.Goals as goal

pub get_u32-requires : goal.get_u32-requires
get_u32-requires c =
    let w = slot_within c.args.form c.args.bytes.now c.args.place c.requires.size c.requires.page.1.1.0 c.requires.place in
    omega (arith, w, c.slot_at.ensures, c.start_of.ensures)

pub returns : goal.returns
returns c =
    let at : c.start_of.result ≡ 32 * get_or (table_of c.args.form c.args.bytes.now) c.args.place 0 = omega (arith, c.slot_at.ensures, c.start_of.ensures) in
    leaf_entry c.args.form c.args.bytes.now c.args.place c.get_u32.result c.start_of.result c.requires.leaf c.requires.place at c.get_u32.ensures.value
