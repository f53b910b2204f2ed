use Rattle.std.proofs.Common.{◌+◌, ◌≡◌, ap, sym, ◌∙◌, ℕ, arith}
use Rattle.jfs_bits.specs.Field.{field_of}
use Rattle.jfs_dtpage.specs.Form.{table_at}
use Rattle.jfs_dtpage.proofs.Pages.{table_slot}
use Rattle.jfs_dtpage.proofs.entry.slot_at.Goals as goal

pub returns : goal.returns
returns c =
    let at : c.table_at.result + c.from.result ≡ table_at c.args.form c.args.bytes.now + c.args.place = omega (arith, c.table_at.ensures.value, c.from.ensures) in
    c.get_u8.ensures.value ∙ ap (λ (p : ℕ). field_of c.args.bytes.now p 1) at ∙ sym (table_slot c.args.form c.args.bytes.now c.args.place c.requires.place)
