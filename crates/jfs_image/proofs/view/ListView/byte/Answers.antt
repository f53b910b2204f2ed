use Rattle.jfs_image.proofs.Viewed.{byte_none}
use Rattle.jfs_image.proofs.view.ListView.byte.Goals as goal

pub returns-in-None : goal.returns-in-None
returns-in-None c = byte_none c.args.self.now.pages.now c.args.n c.args.at c.in-None.ensures
