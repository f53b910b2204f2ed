use Rattle.std.proofs.Common.{◌≤◌, ◌+◌, ◌/◌, ◌%◌, ◌∙◌, ap, refl, ℕ, List, length, arith}
use Rattle.std.specs.Prelude.{◌==◌}
use Rattle.byteorder.specs.Endian.{little_bytes}
use Rattle.jfs_bits.specs.Field.{field_of}
use Rattle.jfs_bits.proofs.Words.{field_of-put_same}
use Rattle.jfs_dtpage.specs.declared.head.DtForm.TheVariants.{Root}
use Rattle.jfs_dtpage.proofs.Kept.{kept_put}
use Rattle.jfs_dtpage.proofs.Same.{entries_alike, page_alike}
use Rattle.jfs_dtree.proofs.Kept.{parent_alike}
use Rattle.jfs_dtree.proofs.Parented.{parent_node}
use Rattle.jfs_dtree.proofs.root.set_parent.Goals as goal

pub returns : goal.returns
returns c =
    let size : 20 + 4 ≤ length c.args.root.now = omega (arith, c.requires) in
    let kept = kept_put 20 4 (little_bytes 4 c.args.parent) c.args.root.now c.put_u32.new.bytes refl size c.put_u32.ensures.bytes in
    let alike = parent_alike c.args.root.now c.put_u32.new.bytes kept in
    record {
      bytes = c.put_u32.ensures.bytes;
      parent = ap (λ (b : List ℕ). field_of b 20 4) c.put_u32.ensures.bytes ∙ field_of-put_same 20 4 c.args.parent c.args.root.now refl size (let h = c.put_u32.ensures.fits in omega (arith, h));
      kind = ap (λ (f : ℕ). f / 2 % 2 == 1) alike.flag;
      node = λ blocks. parent_node c.args.root.now c.put_u32.new.bytes kept blocks;
      sound = λ page. page_alike Root c.args.root.now c.put_u32.new.bytes page alike;
      entries = λ page. entries_alike Root c.args.root.now c.put_u32.new.bytes page alike;
    }
