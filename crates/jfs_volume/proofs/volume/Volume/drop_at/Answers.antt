use Rattle.std.proofs.Common.{sym, ◌∙◌}
use Rattle.jfs_volume.proofs.Dropping.{one_dropped, freed_in, not_freed}
use Rattle.jfs_volume.proofs.volume.Volume.drop_at.Goals as goal

pub returns-in-Some-clause-drop : goal.returns-in-Some-clause-drop
returns-in-Some-clause-drop g c = λ seen asked told crashes half s. one_dropped seen asked c.args.self.now _ half c.in-Some.freed.page
    (c.drop_freed.ensures.drop seen asked told crashes half s (freed_in seen asked c.args.self.now half c.args.i c.in-Some.freed s (sym c.freed_at.ensures ∙ c.in-Some.is)))

pub returns-in-Some-clause-shows : goal.returns-in-Some-clause-shows
returns-in-Some-clause-shows g c = λ t q none. c.drop_freed.ensures.shows t q (not_freed c.args.self.now.freed c.args.i c.in-Some.freed q (sym c.freed_at.ensures ∙ c.in-Some.is) none)
