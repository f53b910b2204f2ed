use Rattle.std.proofs.Common.{rules, sym, ap, ◌∙◌, ◌∷◌}
use Rattle.atomic_table.specs.Table.{rest}
use Rattle.jfs_turns.proofs.Logs.{takes_log}
use Rattle.jfs_turns.specs.declared.view.Held.TheVariants.{Log}
use Rattle.jfs_turns.proofs.turns.Turns.try_log.Goals as goal

pub compare_exchange-requires : goal.compare_exchange-requires
compare_exchange-requires g c = (c.requires.0, search rules, takes_log _ _ _ _ _ _ _ c.requires.1 c.requires.3 c.requires.2 c.requires.4)

pub exchange-requires : goal.exchange-requires
exchange-requires g c = let t = c.compare_exchange.ensures.2.0 c.if-compare_exchange-ne0.false in
    (c.compare_exchange.ensures.0 ∙ c.requires.0, (Log t.0, t.1 ∙ ap (λ l. (1, Log t.0) ∷ rest l) (sym t.1)))
