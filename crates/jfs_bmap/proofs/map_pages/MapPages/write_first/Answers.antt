use Rattle.std.proofs.Common.{◌∙◌, ◌≡◌, List, ℕ, length, replicate, ap, arith}
use Rattle.jfs_bits.specs.Field.{range_of}
use Rattle.jfs_buddy.proofs.Parts.{range_of-replicate}
use Rattle.jfs_bmap.proofs.map_pages.MapPages.write_first.Goals as goal

zeros : (page : List ℕ) (size : ℕ) → page ≡ replicate size 0 → size ≡ 4096 → range_of page 1089 3007 ≡ replicate 3007 0
zeros page size e n = ap (λ (z : List ℕ). range_of z 1089 3007) e ∙ range_of-replicate size 1089 3007 0 (omega arith)

pub returns : goal.returns
returns c = record {
  size = c.write_map_control.ensures.size;
  numbers = c.numbers.result;
  held = c.write_map_control.ensures.control;
  canonical = c.numbers.ensures;
  pad = c.write_map_control.ensures.pad ∙ zeros c.fill.new.self (length c.args.page.now.0) (c.fill.ensures.after (λ y h. h)) (omega arith);
}
