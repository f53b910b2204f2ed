use Rattle.std.proofs.Common.{◌∙◌, refl, w8, arith}
use Rattle.std.proofs.lemmas.Int.{to_z-of_z}
use Rattle.jfs_bmap.specs.Set.{taken_at}
use Rattle.jfs_bmap.proofs.map_pages.MapPages.numbers.Goals as goal

pub map_numbers-requires : goal.map_numbers-requires
map_numbers-requires c = rw c.blocks-2.ensures.value c.requires

pub returns : goal.returns
returns c =
    rw c.blocks-2.ensures.value at
    (c.map_numbers.ensures (taken_at c.args.self.now) (c.free.ensures ∙ rw c.blocks-2.ensures.value refl) c.free_of_groups.ensures (to_z-of_z w8 c.greatest_run.result (omega arith) ∙ c.greatest_run.ensures))
