use Rattle.std.proofs.Common.{refl, sym, ◌∙◌}
use Rattle.jfs_bmap.proofs.Opened.{reserved-is}
use Rattle.jfs_bmap.proofs.block_map.BlockMap.is_reserved.Goals as goal

pub returns-then-is_taken : goal.returns-then-is_taken
returns-then-is_taken c = rw (c.is_taken-then-is_taken.ensures) (sym (reserved-is c.self.inside c.args.self.now c.self.view_is c.self.invariant.0 c.args.b ∙ rw (sym c.is_taken.ensures ∙ c.if-is_taken.true) refl))

pub returns-else-is_taken : goal.returns-else-is_taken
returns-else-is_taken c = c.if-is_taken.false ∙ sym (reserved-is c.self.inside c.args.self.now c.self.view_is c.self.invariant.0 c.args.b ∙ rw (sym c.is_taken.ensures ∙ c.if-is_taken.false) refl)
