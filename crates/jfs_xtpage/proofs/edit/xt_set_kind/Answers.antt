use Rattle.std.proofs.Common.{◌≡◌, ◌∙◌, ap, refl, if◌then◌else◌, ◌+◌, ◌*◌, ◌/◌, ◌%◌, arith}
use Rattle.jfs_bits.specs.Field.{field_of}
use Rattle.jfs_xtpage.specs.declared.head.XtHead.{XtHead}
use Rattle.jfs_xtpage.specs.Page.{head_of, behind_slots}
use Rattle.jfs_xtpage.proofs.Header.{kind_set}
use Rattle.jfs_xtpage.proofs.Tails.{tail_put}
use Rattle.jfs_xtpage.proofs.edit.xt_set_kind.Goals as goal
use Rattle.jfs_xtpage.proofs.edit.xt_set_kind.Goals.{then-leaf, else-leaf}

pub returns-clause-head : goal.returns-clause-head
returns-clause-head c =
    let kind : c.if-leaf.kind ≡ (if c.args.leaf then 2 else 4) = elim c.if-leaf.branch [ then-leaf w ↦ w.kind-is ∙ rw w.if-leaf.true refl | else-leaf w ↦ w.kind-is ∙ rw w.if-leaf.false refl ] in
    (kind_set c.args.bytes.now c.put_u8.new.bytes c.get_u8-flag.result c.if-leaf.kind (c.get_u8-flag.result / 8 * 8 + c.get_u8-flag.result % 2 + c.if-leaf.kind) c.requires c.get_u8-flag.ensures.value refl c.put_u8.ensures.fits c.put_u8.ensures.bytes).0
    ∙ ap (λ k. let r : XtHead = record (head_of c.args.bytes.now) { flag = field_of c.args.bytes.now 16 1 / 8 * 8 + field_of c.args.bytes.now 16 1 % 2 + k } in r) kind

pub returns-clause-entries : goal.returns-clause-entries
returns-clause-entries c =
    (kind_set c.args.bytes.now c.put_u8.new.bytes c.get_u8-flag.result c.if-leaf.kind (c.get_u8-flag.result / 8 * 8 + c.get_u8-flag.result % 2 + c.if-leaf.kind) c.requires c.get_u8-flag.ensures.value refl c.put_u8.ensures.fits c.put_u8.ensures.bytes).1

pub returns-clause-tail : goal.returns-clause-tail
returns-clause-tail c page = ap behind_slots c.put_u8.ensures.bytes ∙ tail_put c.args.bytes.now 16 1 (c.get_u8-flag.result / 8 * 8 + c.get_u8-flag.result % 2 + c.if-leaf.kind) (omega arith) page
