use Rattle.std.proofs.Common.{◌∙◌, length, refl}
use Rattle.jfs_xtpage.proofs.Header.{made, least_bytes}
use Rattle.jfs_xtpage.proofs.edit.xt_new.Goals as goal

pub returns-clause-head : goal.returns-clause-head
returns-clause-head c =
    (made c.fill.new.self c.put_u8.new.bytes c.put_u16.new.bytes c.put_u16-2.new.bytes c.put_pxd.new.bytes (length c.args.bytes.now) c.new_flag.result c.slots_of.result c.args.at (c.fill.ensures.after (λ y h. h)) c.fill.ensures.len
    (least_bytes c.args.form (length c.args.bytes.now) c.requires.size) c.put_u8.ensures.fits c.put_u16-2.ensures.fits c.put_u8.ensures.bytes c.put_u16.ensures.bytes c.put_u16-2.ensures.bytes c.put_pxd.ensures.bytes c.put_pxd.ensures.read_back).0
    ∙ rw (c.new_flag.ensures, c.slots_of.ensures) refl

pub returns-clause-entries : goal.returns-clause-entries
returns-clause-entries c =
    (made c.fill.new.self c.put_u8.new.bytes c.put_u16.new.bytes c.put_u16-2.new.bytes c.put_pxd.new.bytes (length c.args.bytes.now) c.new_flag.result c.slots_of.result c.args.at (c.fill.ensures.after (λ y h. h)) c.fill.ensures.len
    (least_bytes c.args.form (length c.args.bytes.now) c.requires.size) c.put_u8.ensures.fits c.put_u16-2.ensures.fits c.put_u8.ensures.bytes c.put_u16.ensures.bytes c.put_u16-2.ensures.bytes c.put_pxd.ensures.bytes c.put_pxd.ensures.read_back).1
