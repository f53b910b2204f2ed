-- A record whose numbers fit is spelled by what is written of it.
use Rattle.std.proofs.Common.{◌<◌, ◌^◌, Bool, true, false, length, arith}
use Rattle.std.proofs.lemmas.List.{length-append}
use Rattle.jfs_bits.specs.declared.rule.PageKind.{PageKind}
use Rattle.jfs_bits.specs.declared.rule.PageKind.TheVariants as kinds
use Rattle.jfs_bits.specs.Line.{l2_line}
use Rattle.jfs_logfmt.specs.declared.log_record.Record.{Record}
use Rattle.jfs_logfmt.specs.declared.log_record.Record.TheVariants as records
use Rattle.jfs_logfmt.specs.Kinds.{page_number, page_type, map_number}
use Rattle.jfs_logfmt.specs.Descriptor.{descriptor_bytes}
use Rattle.jfs_logfmt.specs.Written.{body_text, described, Fits, HasNumbers, SpellsWritten, HasSize}
use Rattle.jfs_logfmt.proofs.ReadBack.{DescriptorInRange, descriptor_of-bytes, length-descriptor_bytes}
use Rattle.jfs_logfmt.proofs.Spelled.{spelled, body_fits}

page_small : (kind : PageKind) (new_page : Bool) → page_number (page_type kind new_page) < 2 ^ 16
page_small kinds.Inode true = omega arith
page_small kinds.Inode false = omega arith
page_small kinds.Xtree true = omega arith
page_small kinds.Xtree false = omega arith
page_small kinds.Dtree true = omega arith
page_small kinds.Dtree false = omega arith
page_small kinds.Index true = omega arith
page_small kinds.Index false = omega arith

line_small : (kind : PageKind) → l2_line kind < 2 ^ 16
line_small kinds.Inode = omega arith
line_small kinds.Xtree = omega arith
line_small kinds.Dtree = omega arith
line_small kinds.Index = omega arith

map_small : (alloc : Bool) → map_number alloc < 2 ^ 16
map_small true = omega arith
map_small false = omega arith

in_range : (r : Record) → Fits r → HasNumbers r → DescriptorInRange (described r (length (body_text r)))
in_range (records.Redo tid back fileset inode kind new_page at ranges) fits n = record {
  tid = omega (arith, n.0);
  back = omega (arith, n.1);
  number = omega arith;
  length = omega (arith, body_fits (records.Redo tid back fileset inode kind new_page at ranges) fits);
  fileset = omega (arith, n.2);
  inode = omega (arith, n.3);
  kind = omega (arith, page_small kind new_page);
  count = omega (arith, line_small kind);
  at = fits.0;
}
in_range (records.NoRedo tid back fileset inode kind at) fits n = record {
  tid = omega (arith, n.0);
  back = omega (arith, n.1);
  number = omega arith;
  length = omega arith;
  fileset = omega (arith, n.2);
  inode = omega (arith, n.3);
  kind = omega (arith, page_small kind false);
  count = omega arith;
  at = fits;
}
in_range (records.Update tid back fileset inode alloc list) fits n = record {
  tid = omega (arith, n.0);
  back = omega (arith, n.1);
  number = omega arith;
  length = omega (arith, body_fits (records.Update tid back fileset inode alloc list) fits);
  fileset = omega (arith, n.2);
  inode = omega (arith, n.3);
  kind = omega (arith, map_small alloc);
  count = omega (arith, fits.1);
  at = record { len = omega arith; addr = omega arith };
}
in_range (records.Commit tid back) fits n = record {
  tid = omega (arith, n.0);
  back = omega (arith, n.1);
  number = omega arith;
  length = omega arith;
  fileset = omega arith;
  inode = omega arith;
  kind = omega arith;
  count = omega arith;
  at = record { len = omega arith; addr = omega arith };
}
in_range (records.SyncPt sync) fits n = record {
  tid = omega arith;
  back = omega arith;
  number = omega arith;
  length = omega arith;
  fileset = omega (arith, n);
  inode = omega arith;
  kind = omega arith;
  count = omega arith;
  at = record { len = omega arith; addr = omega arith };
}

pub written_spells : SpellsWritten
written_spells r fits numbers = spelled r fits (descriptor_of-bytes (described r (length (body_text r))) (in_range r fits numbers))

pub length-text : HasSize
length-text r =
    let d = described r (length (body_text r)) in
    omega (arith, length-append (body_text r) (descriptor_bytes d), length-descriptor_bytes d)
