use Rattle.std.proofs.Common.{rules, ap, ◌∷◌, ◌∙◌}
use Rattle.atomic_table.specs.Table.{rest, turned}
use Rattle.jfs_turns.proofs.Born.{takes_both, opens}
use Rattle.jfs_turns.specs.declared.view.Held.TheVariants.{Volume, Log}
use Rattle.jfs_turns.proofs.turns.Turns.open.Goals as goal

pub load-requires : goal.load-requires
load-requires g c = (c.requires.seat.0, search rules, takes_both _ _ _ _ _ _ c.requires.seat.3)

pub fetch_min-requires : goal.fetch_min-requires
fetch_min-requires g c = (
  c.turn-2.ensures.0 ∙ (c.exchange-2.ensures.0 ∙ (c.turn.ensures.0 ∙ (c.exchange.ensures.0 ∙ (c.load.ensures.0 ∙ c.requires.seat.0)))),
  search rules,
  opens _ _ _ _ _ _ _ _ _ _
      (c.turn-2.ensures.2 ∙ ap (λ x. (x.0, turned x.1)) (c.exchange-2.ensures.3 ∙ ap (λ x. (x.0, (1, Log c.args.log) ∷ rest x.1)) (c.turn.ensures.2 ∙ ap (λ x. (x.0, turned x.1)) (c.exchange.ensures.3 ∙ ap (λ x. (x.0, (0, Volume c.args.volume) ∷ rest x.1)) c.load.ensures.2))))
      c.requires.stands.0 c.requires.stands.1 c.requires.stands.2,
)
