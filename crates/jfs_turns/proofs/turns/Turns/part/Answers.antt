use Rattle.std.proofs.Common.{rules}
use Rattle.jfs_turns.proofs.Seats.{cuts_aside}
use Rattle.jfs_turns.proofs.turns.Turns.part.Goals as goal

pub split_seat-requires : goal.split_seat-requires
split_seat-requires g c = let r = c.requires in (r.0, search rules, cuts_aside _ _ _ _ _ r.1 r.2 r.3)
