use Rattle.std.proofs.Common.{◌≡◌, ◌∙◌, max, ap, arith}
use Rattle.jfs_bmap.specs.States.{Blocks}
use Rattle.jfs_bmap.proofs.Opened.{parts}
use Rattle.jfs_bmap.proofs.Kept.{kept-entries, view-entries, on_err}
use Rattle.jfs_bmap.proofs.block_map.BlockMap.make_room.Goals as goal

pub invariant_of-self : goal.invariant_of-self
invariant_of-self c =
    let i = c.self.invariant in (
      kept-entries (parts c.self.inside) c.make_pieces.new.pieces.items c.make_pieces.ensures.same i.0,
      i.1,
      i.2,
      λ some. omega (arith, i.3 some, c.make_pieces.ensures.more, c.self.inside.entries.ok.0, c.make_pieces.new.pieces.ok.0),
    )

pub returns-in_err-make_pieces-clause-err : goal.returns-in_err-make_pieces-clause-err
returns-in_err-make_pieces-clause-err c = on_err _ (view-entries (parts c.self.inside) c.make_pieces.new.pieces.items c.make_pieces.ensures.same c.self.inside.agsize c.self.inside.spare ∙ c.self.view_is)

pub returns-in_err-reserve-clause-err : goal.returns-in_err-reserve-clause-err
returns-in_err-reserve-clause-err c = rw c.in_err-reserve.ensures.items (on_err _ (view-entries (parts c.self.inside) c.make_pieces.new.pieces.items c.make_pieces.ensures.same c.self.inside.agsize c.self.inside.spare ∙ c.self.view_is))

pub returns-in_ok-reserve-clause-ok : goal.returns-in_ok-reserve-clause-ok
returns-in_ok-reserve-clause-ok c =
    let same = view-entries (parts c.self.inside) c.make_pieces.new.pieces.items c.make_pieces.ensures.same c.self.inside.agsize c.self.inside.spare ∙ c.self.view_is in
    let greater : max c.args.self.now.spare c.args.n ≡ c.args.n = omega (arith, ap (λ (m : Blocks). m.spare) c.self.view_is, c.if-n-self.true) in
    rw (c.in_ok-reserve.ensures.items, greater) (ap (λ (m : Blocks). record m { spare = c.args.n }) same)
