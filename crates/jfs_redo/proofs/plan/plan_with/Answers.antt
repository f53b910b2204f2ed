use Rattle.std.proofs.Common.{◌≡◌, ◌<◌, ◌∙◌, ◌*◌, ℕ, List, length, drop, refl, sym, ap, subst, arith}
use Rattle.std.proofs.lemmas.List.{take_at}
use Rattle.jfs_bits.specs.Bits.{is_taken}
use Rattle.jfs_bmap.specs.Set.{taken_at}
use Rattle.jfs_bmap.specs.OwnedBlocks.{OwnedBlocks}
use Rattle.jfs_bmap.proofs.Views.{length-each_below, taken_at-each_below}
use Rattle.jfs_redo_steps.specs.each.specs.Each.{AllFit}
use Rattle.jfs_records.specs.Redo.{all_of}
use Rattle.jfs_redo_steps.specs.steps.specs.After.{extents_after, used_after}
use Rattle.jfs_redo.proofs.Places.{extents-number, places-fit}
use Rattle.jfs_redo.proofs.Extents.{all-lie}
use Rattle.jfs_redo.proofs.plan.plan_with.Goals as goal

pub returns-clause-plan : goal.returns-clause-plan
returns-clause-plan c =
    let all = all_of c.args.transactions.now in
    let before : c.as_mut_slice-2.result.now ≡ c.args.places.items = c.as_mut_slice-2.ensures.value in
    let size : length c.redo_extents.new.extents ≡ c.args.places.len = ap length (c.redo_extents.ensures ∙ ap (extents_after all) before) ∙ extents-number all c.args.places.items ∙ sym c.args.places.ok.0 in
    let after = take_at c.redo_extents.new.extents (drop (length c.redo_extents.new.extents) c.args.places.items) c.args.places.len size ∙ c.redo_extents.ensures ∙ ap (extents_after all) before in
    record {
      blocks_are = refl;
      number = ap (λ (o : OwnedBlocks). length o.owned) c.in_ok-blocks.ensures ∙ length-each_below c.args.maps.blocks _;
      groups = ap (λ (o : OwnedBlocks). o.agsize) c.in_ok-blocks.ensures;
      few = c.requires.few;
      all = ap length after ∙ extents-number all c.args.places.items ∙ c.requires.all;
      fit = subst (AllFit c.args.maps.blocks) (sym after) (places-fit c.args.maps.blocks all c.args.places.items (all-lie c.args.maps.blocks c.args.transactions.now c.requires.within) c.requires.fit);
    }

pub returns-clause-used : goal.returns-clause-used
returns-clause-used c b low =
    let before : c.as_mut_slice.result.now ≡ c.args.used.items = c.as_mut_slice.ensures.value in
    let there : b < 8 * length c.as_mut_slice.result.now = omega (arith, low, c.requires.size, ap length before) in
    let bits = c.redo_blocks.ensures.bits b there in
    let size : length c.redo_blocks.new.set ≡ c.args.used.len = c.redo_blocks.ensures.size ∙ ap length before ∙ sym c.args.used.ok.0 in
    ap (λ (o : OwnedBlocks). taken_at o.owned b) c.in_ok-blocks.ensures ∙ taken_at-each_below c.args.maps.blocks (is_taken c.as_slice.result.now) b low
    ∙ ap (λ (set : List ℕ). is_taken set b) (c.as_slice.ensures.value ∙ take_at c.redo_blocks.new.set (drop (length c.redo_blocks.new.set) c.args.used.items) c.args.used.len size) ∙ bits
    ∙ ap (λ (set : List ℕ). used_after (all_of c.args.transactions.now) (is_taken set) b) before
