use Rattle.std.proofs.Common.{◌≡◌, ◌+◌, ◌∙◌, ℕ, List, not, refl, ap, w8, arith}
use Rattle.std.proofs.lemmas.Int.{to_z-of_z}
use Rattle.jfs_bits.specs.Field.{range_of}
use Rattle.jfs_bits.proofs.Counts.{count_below-same}
use Rattle.jfs_bits.proofs.Parts.{range_of-replicate}
use Rattle.jfs_format.specs.Layout.{is_taken_block}
use Rattle.jfs_format.proofs.block_map.fill_first.Goals as goal

pub returns : goal.returns
returns c =
    let l = c.args.l in
    let free = c.free_from-free.ensures.count ∙ count_below-same l.blocks (λ i. not (is_taken_block l (0 + i))) (λ b. not (is_taken_block l b)) (λ b h. let e : 0 + b ≡ b = omega arith in rw e refl) in
    record {
      size = c.write_map_control.ensures.size;
      numbers = c.map_numbers-numbers.result;
      held = c.write_map_control.ensures.control;
      canonical = c.map_numbers-numbers.ensures (is_taken_block l) free c.free_of_groups.ensures (to_z-of_z w8 c.args.greatest (omega arith) ∙ c.requires.greatest);
      pad = c.write_map_control.ensures.pad ∙ ap (λ (z : List ℕ). range_of z 1089 3007) c.zeros.ensures ∙ range_of-replicate 4096 1089 3007 0 (omega arith);
    }
