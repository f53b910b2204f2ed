use Rattle.std.proofs.Common.{◌+◌, subst, arith}
use Rattle.jfs_image.specs.View.{image_of}
use Rattle.jfs_image.specs.Standing.{Stands}
use Rattle.jfs_image.proofs.Grown.{up_to_free, up_to_object, free_at}
use Rattle.jfs_image.proofs.tree.add.Goals as goal

pub returns-in-Free-clause-next : goal.returns-in-Free-clause-next
returns-in-Free-clause-next c =
    up_to_free (image_of c.args.view.now) c.args.n (c.args.n + 1) c.args.tree.now (omega arith) (subst (Stands (image_of c.args.view.now) c.args.n) c.in-Free.is c.in_ok-stand.ensures) c.requires.before

pub put_object-requires : goal.put_object-requires
put_object-requires c = free_at (image_of c.args.view.now) c.args.n c.args.tree.now c.requires.before

pub returns-in_ok-put_object-in-Object-clause-next : goal.returns-in_ok-put_object-in-Object-clause-next
returns-in_ok-put_object-in-Object-clause-next c =
    let told = subst (Stands (image_of c.args.view.now) c.args.n) c.in-Object.is c.in_ok-stand.ensures in
    up_to_object (image_of c.args.view.now) c.args.n (c.args.n + 1) c.args.tree.now c.put_object.new.self told.0 c.in-Object.held.node c.in-Object.held.bytes.items (omega arith) told.1 told.2 c.in_ok-put_object-in-Object.ensures.ok c.requires.before

pub returns-in-Broken-clause-next : goal.returns-in-Broken-clause-next
returns-in-Broken-clause-next c = subst (Stands (image_of c.args.view.now) c.args.n) c.in-Broken.is c.in_ok-stand.ensures
