use Rattle.jfs_disk.specs.Image.{page_of}
use Rattle.jfs_redo_steps.proofs.Seen.{all_seen}
use Rattle.jfs_redo_steps.proofs.inodes.inodes_in_use.Goals as goal

pub returns-in-Ok-each_inode-clause-bits : goal.returns-in-Ok-each_inode-clause-bits
returns-in-Ok-each_inode-clause-bits g c tells =
    all_seen (λ seen. seen.set.items) (page_of (g.V.PageView.image c.args.view.now)) c.args.places.now (record { set = c.in-Ok.set }) c.each_inode.new.visitor
    (c.in-Ok.ensures.items_if_clones_equal (λ y same. same)) (c.in-Ok-each_inode.ensures.visits tells)
