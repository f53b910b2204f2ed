use Rattle.std.proofs.lemmas.Bool.{false_from_ne_true}
use Rattle.jfs_bmap.specs.States.{Owned, is_in_list}
use Rattle.jfs_bmap.proofs.Puts.{reserved-more, reserved-beside, free-not_reserved}
use Rattle.jfs_map_rows.proofs.volume.take_first_of_two.Goals as goal

pub own-requires : goal.own-requires
own-requires c = rw c.in-Ok.ensures.reserved (reserved-more c.in_ok-taken.taken c.in-Ok.other c.reserve.new.self c.in_ok-taken.ensures.held)

pub give_back-requires : goal.give_back-requires
give_back-requires c =
    rw c.own.ensures (reserved-beside Owned c.in-Ok.other c.in_ok-taken.taken c.reserve-2.new.self c.in-Ok.ensures.held (λ b h.
    false_from_ne_true (is_in_list c.in_ok-taken.taken b) (λ t. free-not_reserved c.reserve.new.self b (c.in-Ok.ensures.free b h) (c.in_ok-taken.ensures.held.reserved b t))))
