use Rattle.std.proofs.Common.{◌≡◌, ◌∙◌, ℕ, List, length, ap, arith}
use Rattle.std.specs.Prelude.{replicate}
use Rattle.jfs_bits.specs.Field.{range_of}
use Rattle.jfs_bits.proofs.Parts.{range_of-replicate}
use Rattle.jfs_iag.proofs.canonical.iag_with_links.Goals as goal

zeros : (page : List ℕ) (size : ℕ) → page ≡ replicate size 0 → size ≡ 4096 → range_of page 72 1976 ≡ replicate 1976 0
zeros page size e n = ap (λ (z : List ℕ). range_of z 72 1976) e ∙ range_of-replicate size 72 1976 0 (omega arith)

pub returns : goal.returns
returns c = record {
  size = c.write_iag.ensures.size;
  fields = c.iag_of-iag.result;
  held = c.write_iag.ensures.value;
  canonical = c.iag_of-iag.ensures.canonical;
  pad = c.write_iag.ensures.pad ∙ zeros c.fill.new.self (length c.args.page.now.0) (c.fill.ensures.after (λ y h. h)) (omega arith);
}
