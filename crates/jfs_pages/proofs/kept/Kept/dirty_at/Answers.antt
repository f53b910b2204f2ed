use Rattle.jfs_pages.proofs.Place.{found_among}
use Rattle.jfs_pages.proofs.kept.Kept.dirty_at.Goals as goal

pub returns-clause-found : goal.returns-clause-found
returns-clause-found c = found_among c.args.self.now.changes.dirty.items c.at.ensures.rising c.args.i c.at.result c.at.ensures.page
