use Rattle.std.proofs.Common.{subst}
use Rattle.std.specs.Prelude.{IfOk}
use Rattle.jfs_disk.specs.Image.{page_of}
use Rattle.jfs_owners.specs.Counts.{Adds}
use Rattle.jfs_owners.specs.Held.{extents_walk, extents_front}
use Rattle.jfs_owners.proofs.Fronts.{front_adds}
use Rattle.jfs_owners.proofs.Totals.{sound_counted}
use Rattle.jfs_owners.proofs.owners.Owners.add_sound_extents.Goals as goal

pub returns-clause-adds : goal.returns-clause-adds
returns-clause-adds g c tells =
    sound_counted c.blocks-blocks.result (g.V.PageView.block_count c.args.view.now) (g.V.PageView.image c.args.view.now) c.args.root.now c.show_sound.result c.args.self.now c.show_sound.new.visitor
    c.blocks-blocks.ensures (c.show_sound.ensures.sees tells)

pub returns-clause-front : goal.returns-clause-front
returns-clause-front g c tells =
    subst (λ n. IfOk c.show_sound.result (λ it. Adds (extents_front (extents_walk n (page_of (g.V.PageView.image c.args.view.now)) c.args.root.now)) c.args.self.now c.show_sound.new.visitor)) c.blocks-blocks.ensures
    (front_adds (extents_walk c.blocks-blocks.result (page_of (g.V.PageView.image c.args.view.now)) c.args.root.now) c.show_sound.result c.args.self.now c.show_sound.new.visitor (c.show_sound.ensures.front tells))
