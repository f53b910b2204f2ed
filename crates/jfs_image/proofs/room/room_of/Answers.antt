use Rattle.std.proofs.Common.{subst}
use Rattle.jfs_disk.specs.Image.{Image}
use Rattle.jfs_disk.specs.Pages.{contents}
use Rattle.jfs_image.specs.View.{image_of}
use Rattle.jfs_image.specs.Image.{HasTree}
use Rattle.jfs_image.specs.Opened.{OpenedIs, IsOpened}
use Rattle.jfs_image.specs.Tallied.{TallyIs}
use Rattle.jfs_image.proofs.Spaces.{reopened, room_told}
use Rattle.jfs_image.proofs.Whole.{few_are}
use Rattle.jfs_image.proofs.room.room_of.Goals as goal

pub tally-requires-clause-opened : goal.tally-requires-clause-opened
tally-requires-clause-opened c = reopened (contents c.args.image.now) c.in-Some.opened (subst (OpenedIs (contents c.args.image.now)) c.in-Some.is c.in_ok-opened.ensures)

pub tally-requires-clause-few : goal.tally-requires-clause-few
tally-requires-clause-few c = few_are (contents c.args.image.now) c.in-Some.opened (subst (OpenedIs (contents c.args.image.now)) c.in-Some.is c.in_ok-opened.ensures)

pub returns-in_default-2 : goal.returns-in_default-2
returns-in_default-2 c =
    let is : IsOpened (contents c.args.image.now) c.in-Some.opened = subst (OpenedIs (contents c.args.image.now)) c.in-Some.is c.in_ok-opened.ensures in
    subst (λ (i : Image). HasTree i → ⊥) is.image_is (subst (TallyIs (image_of c.in-Some.opened.view) c.in-Some.opened.map.iags) c.in_default-2.is c.in_ok-tally.ensures)

pub fresh-requires-clause-opened : goal.fresh-requires-clause-opened
fresh-requires-clause-opened c = reopened (contents c.args.image.now) c.in-Some.opened (subst (OpenedIs (contents c.args.image.now)) c.in-Some.is c.in_ok-opened.ensures)

pub fresh-requires-clause-few : goal.fresh-requires-clause-few
fresh-requires-clause-few c = few_are (contents c.args.image.now) c.in-Some.opened (subst (OpenedIs (contents c.args.image.now)) c.in-Some.is c.in_ok-opened.ensures)

pub fresh-requires-clause-tallied : goal.fresh-requires-clause-tallied
fresh-requires-clause-tallied c = subst (TallyIs (image_of c.in-Some.opened.view) c.in-Some.opened.map.iags) c.in-Some-2.is c.in_ok-tally.ensures

pub returns : goal.returns
returns c =
    let is : IsOpened (contents c.args.image.now) c.in-Some.opened = subst (OpenedIs (contents c.args.image.now)) c.in-Some.is c.in_ok-opened.ensures in
    room_told (contents c.args.image.now) c.in-Some.opened is c.in-Some-2.tally (record { free = c.free.result; inode = c.in_ok-inode.inode })
    (subst (TallyIs (image_of c.in-Some.opened.view) c.in-Some.opened.map.iags) c.in-Some-2.is c.in_ok-tally.ensures) c.free.ensures.counts c.in_ok-inode.ensures
