use Rattle.std.proofs.Common.{◌∙◌, ap, subst, if◌then◌else◌, List, []}
use Rattle.jfs_bits.specs.declared.extent.Xad.{Xad}
use Rattle.jfs_disk.specs.Image.{page_of}
use Rattle.jfs_plain.specs.Step.{bytes_from}
use Rattle.jfs_reader.specs.meaning.specs.Contents.{is_regular}
use Rattle.jfs_reader.specs.meaning.specs.Readers.{readers}
use Rattle.jfs_image.specs.View.{image_of, blocks_in}
use Rattle.jfs_image.specs.Held.{NamesMay, ExtentsMay, byte_in_file, target_in}
use Rattle.jfs_image.proofs.Holding.{broken_inode, broken_names, broken_extents, is_held}
use Rattle.jfs_image.proofs.held.hold.Goals as goal

pub returns-then-not-keeps_rules : goal.returns-then-not-keeps_rules
returns-then-not-keeps_rules c =
    broken_inode (readers (blocks_in c.args.view.now)) (page_of (image_of c.args.view.now)) c.args.n c.args.d.now c.keeps_rules.result c.keeps_rules.ensures c.if-not-keeps_rules.true

pub returns-in_default : goal.returns-in_default
returns-in_default c =
    broken_names (readers (blocks_in c.args.view.now)) (page_of (image_of c.args.view.now)) c.args.n c.args.d.now
    (subst (NamesMay (readers (blocks_in c.args.view.now)) (page_of (image_of c.args.view.now)) c.args.d.now) c.in_default.is c.in_ok-names.ensures)

pub returns-in_default-2 : goal.returns-in_default-2
returns-in_default-2 c =
    broken_extents (readers (blocks_in c.args.view.now)) (page_of (image_of c.args.view.now)) c.args.n c.args.d.now
    (subst (ExtentsMay (readers (blocks_in c.args.view.now)) (page_of (image_of c.args.view.now)) c.args.d.now) c.in_default-2.is c.in_ok-extents.ensures)

pub returns : goal.returns
returns c =
    let image = image_of c.args.view.now in
    let d = c.args.d.now in
    is_held (readers (blocks_in c.args.view.now)) image c.args.n d c.keeps_rules.result c.in-Some.names c.in-Some-2.extents c.in_ok-target.target c.in_ok-bytes.bytes.items c.in_ok-node.node
    c.keeps_rules.ensures c.if-not-keeps_rules.false
    (subst (NamesMay (readers (blocks_in c.args.view.now)) (page_of image) d) c.in-Some.is c.in_ok-names.ensures)
    (subst (ExtentsMay (readers (blocks_in c.args.view.now)) (page_of image) d) c.in-Some-2.is c.in_ok-extents.ensures)
    (c.in_ok-target.ensures ∙ ap (λ (es : List Xad). target_in image es d) c.as_slice.ensures)
    (c.in_ok-bytes.ensures ∙ ap (λ (es : List Xad). if is_regular d then bytes_from (byte_in_file image es) 0 d.size else []) c.as_slice-2.ensures)
    c.in_ok-node.ensures
