use Rattle.std.proofs.Common.{◌≡◌, ◌<◌, ◌∙◌, ℕ, length, refl, sym, ap, arith}
use Rattle.std.specs.BinaryHeap.{heap_items}
use Rattle.std.proofs.lemmas.List.{with_items_is}
use Rattle.std.proofs.lemmas.List.Sorted.{IsPermutation-map}
use Rattle.jfs_bits.specs.Bits.{is_in_run}
use Rattle.jfs_bmap.specs.Freed.{covers}
use Rattle.jfs_bmap.specs.States.{Blocks}
use Rattle.jfs_bmap.specs.Kept.{Parts}
use Rattle.jfs_bmap.proofs.Views.{length-cleared}
use Rattle.jfs_bmap.proofs.Opened.{parts}
use Rattle.jfs_bmap.proofs.Kept.{IsReleased, kept-released, view-released}
use Rattle.jfs_bmap.proofs.block_map.BlockMap.release_run.Goals.{In-Ok}
use Rattle.jfs_bmap.proofs.block_map.BlockMap.release_run.Goals as goal

-- the parts then
abbrev then_parts : In-Ok → Parts
then_parts c = record { owned = c.disown.new.owned; held = c.disown.new.held; used = c.self.inside.used; entries = c.disown.new.entries; heap = heap_items c.push.new.self }

released_by : (c : In-Ok) → IsReleased (parts c.self.inside) (then_parts c) c.clip-part.result
released_by c = record {
  within = rw c.blocks-2.ensures.value at c.clip-part.ensures.within;
  owned = c.disown.ensures.owned;
  blocks = c.disown.ensures.blocks;
  held = c.disown.ensures.held;
  used = refl;
  entries = λ b. c.disown.ensures.entries b ∙ rw c.as_mut_slice-entries.ensures.value refl;
  order = c.in-Ok.ensures.heap_order c.self.invariant.0.pending.order;
  runs = IsPermutation-map (λ r. r.0) _ _ c.in-Ok.ensures.permutation;
}

table : (c : In-Ok) → length c.disown.new.entries ≡ c.self.inside.entries.len
table c = c.disown.auto.entries ∙ ap length c.as_mut_slice-entries.ensures.value ∙ sym c.self.inside.entries.ok.0

pub invariant_of-self : goal.invariant_of-self
invariant_of-self c =
    let at = (goal.at.invariant_of-self c).In-Ok in
    let size = ap length c.disown.ensures.owned ∙ length-cleared c.clip-part.result.first c.clip-part.result.blocks c.self.inside.owned in
    let spare : c.self.inside.spare ≡ c.args.self.now.spare = ap (λ (m : Blocks). m.spare) c.self.view_is in
    rw (with_items_is c.self.inside.entries c.disown.new.entries (table at)) (
      kept-released c.self.invariant.0 (released_by at),
      omega (arith, c.in-Ok.ensures.len, c.in-Ok.ensures.capacity, c.self.invariant.1, c.requires, spare),
      rw size c.self.invariant.2,
      λ some. rw size (c.self.invariant.3 (omega (arith, c.requires, spare))),
    )

pub returns : goal.returns
returns c =
    let at = (goal.at.returns c).In-Ok in
    let same : (b : ℕ) → b < length c.self.inside.owned → covers c.clip-part.result b ≡ is_in_run c.args.run.now.addr c.args.run.now.len b = λ b h. c.clip-part.ensures.part b (rw c.blocks-2.ensures.value h) in
    rw (← c.self.view_is, with_items_is c.self.inside.entries c.disown.new.entries (table at), ← c.clip-part.ensures.entry)
    (view-released c.self.invariant.0 (released_by at) c.args.run.now c.self.inside.agsize c.self.inside.spare same)
