use Rattle.std.proofs.Common.{rules, sym, ap, ◌∙◌, ◌∷◌}
use Rattle.atomic_table.specs.Table.{rest}
use Rattle.jfs_turns.proofs.Steps.{takes_volume}
use Rattle.jfs_turns.specs.declared.view.Held.TheVariants.{Volume}
use Rattle.jfs_turns.proofs.turns.Turns.try_volume.Goals as goal

pub compare_exchange-requires : goal.compare_exchange-requires
compare_exchange-requires g c = (c.requires.0, search rules, takes_volume _ _ _ _ _ _ _ c.requires.1 c.requires.2)

pub exchange-requires : goal.exchange-requires
exchange-requires g c = let t = c.compare_exchange.ensures.2.0 c.if-compare_exchange-ne0.false in
    (c.compare_exchange.ensures.0 ∙ c.requires.0, (Volume t.0, t.1 ∙ ap (λ l. (0, Volume t.0) ∷ rest l) (sym t.1)))
