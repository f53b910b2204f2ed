use Rattle.std.proofs.Common.{◌≡◌, ◌*◌, ap, ◌∙◌, subst, sym, ℕ, arith}
use Rattle.std.specs.Prelude.{get_or}
use Rattle.jfs_bits.specs.Field.{field_of}
use Rattle.jfs_dtpage.specs.Page.{table_of}
use Rattle.jfs_dtpage.specs.Slots.{Kept}
use Rattle.jfs_dtpage.proofs.Pages.{slot_within}
use Rattle.jfs_dtpage.proofs.Renamed.{renames}
use Rattle.jfs_dtpage.proofs.edit.dt_set_inode.Goals as goal

pub put_inode-requires : goal.put_inode-requires
put_inode-requires c =
    let w = slot_within c.args.form c.args.bytes.now c.args.place c.requires.size c.requires.page.1.1.0 c.requires.place in
    omega (arith, w, c.slot_at-slot.ensures, c.start_of.ensures)

pub returns : goal.returns
returns c =
    let old = c.args.bytes.now in
    let new = c.put_inode.new.bytes in
    let at : c.start_of.result ≡ 32 * get_or (table_of c.args.form old) c.args.place 0 = omega (arith, c.slot_at-slot.ensures, c.start_of.ensures) in
    let kept = subst (λ (p : ℕ). Kept p 4 old new) at c.put_inode.ensures.kept in
    let value = ap (λ (p : ℕ). field_of new p 4) (sym at) ∙ c.put_inode.ensures.value in
    let r = renames c.args.form old new c.args.place c.args.inode c.requires.page c.requires.leaf c.requires.place value kept in
    record { sound = r.sound; entries = r.entries; head = r.head; kept = kept; behind = r.behind }
