use Rattle.std.proofs.Common.{◌∙◌, ◌≡◌, length, refl, sym, ap, arith}
use Rattle.std.proofs.lemmas.List.{with_items_is}
use Rattle.jfs_bmap.proofs.Pieces.{filled-up}
use Rattle.jfs_bmap.proofs.entries.Piece.fill.Goals as goal

pub returns : goal.returns
returns c i =
    let size : length c.fill_run.new.entries ≡ c.resize.new.self.len = c.fill_run.auto.entries ∙ ap length c.as_mut_slice.ensures.value ∙ sym c.resize.new.self.ok.0 in
    rw (with_items_is c.resize.new.self c.fill_run.new.entries size, c.fill_run.ensures i, c.as_mut_slice.ensures.value, c.in-Ok.ensures.items, filled-up c.self.inside.entries.items 8192 _ i (omega (arith, c.self.invariant.1, c.self.inside.entries.ok.0)), c.self.view_is) refl
