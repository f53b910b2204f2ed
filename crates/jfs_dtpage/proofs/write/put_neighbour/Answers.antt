use Rattle.std.proofs.Common.{ap, ◌∙◌, refl, List, ℕ, arith}
use Rattle.jfs_bits.specs.Field.{field_of}
use Rattle.jfs_bits.proofs.Words.{field_of-put_same}
use Rattle.jfs_dtpage.proofs.Kept.{kept_put}
use Rattle.jfs_dtpage.proofs.write.put_neighbour.Goals as goal

pub returns-clause-value : goal.returns-clause-value
returns-clause-value c = ap (λ (b : List ℕ). field_of b c.args.at 8) c.put_u64.ensures.bytes ∙ field_of-put_same c.args.at 8 c.args.value c.args.bytes.now refl c.requires (let h = c.put_u64.ensures.fits in omega (arith, h))

pub returns-clause-kept : goal.returns-clause-kept
returns-clause-kept c = kept_put c.args.at 8 _ c.args.bytes.now c.put_u64.new.bytes refl c.requires c.put_u64.ensures.bytes
