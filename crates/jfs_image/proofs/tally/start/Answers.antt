use Rattle.std.proofs.Common.{◌∙◌, refl, None}
use Rattle.jfs_image.proofs.Tallying.{tallied_start}
use Rattle.jfs_image.proofs.tally.start.Goals as goal

pub returns : goal.returns
returns c =
    tallied_start c.args.opened.now c.in_ok-owners.owners c.count_area.new.owners c.count_extents.new.owners (record { owners = c.count_extents.new.owners; free = None }) c.requires.opened
    (c.in_ok-owners.ensures.blocks ∙ c.blocks-2.ensures) c.in_ok-owners.ensures.counts c.in_ok-count_area.ensures c.in_ok-count_extents.ensures refl refl
