use Rattle.std.proofs.Common.{rules, ◌∙◌}
use Rattle.jfs_turns.proofs.Steps.{gives_volume}
use Rattle.jfs_turns.proofs.turns.Turns.put_volume.Goals as goal

pub store-requires : goal.store-requires
store-requires g c = let s = c.requires.seat in (c.exchange.ensures.0 ∙ s.0, search rules, gives_volume _ _ _ _ _ _ _ _ _ c.exchange.ensures.3 s.1.0 s.1.1 s.2 s.3 s.1.2 c.requires.stands)
