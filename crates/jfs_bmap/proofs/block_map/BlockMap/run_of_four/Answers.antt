use Rattle.std.proofs.Common.{[], ◌∷◌, ap, ◌∙◌, arith}
use Rattle.std.specs.Prelude.{Some, None}
use Rattle.jfs_bits.specs.declared.descriptor.Pxd.{Pxd}
use Rattle.jfs_bmap.specs.States.{Reserved, Blocks, state_of}
use Rattle.jfs_bmap.proofs.States.{in_run-at, in_list-one}
use Rattle.jfs_bmap.proofs.Puts.{put-here}
use Rattle.jfs_bmap.proofs.Reservations.{free-within}
use Rattle.jfs_bmap.proofs.Opened.{found-is, found-free}
use Rattle.jfs_bmap.proofs.block_map.BlockMap.run_of_four.Goals as goal

pub returns-in_err-first-clause-none : goal.returns-in_err-first-clause-none
returns-in_err-first-clause-none c = rw c.from_residual.ensures (found-is c.self.inside c.args.self.now c.self.view_is c.self.invariant.0 2 None c.in_err-first.ensures)

pub hold-requires-clause-within : goal.hold-requires-clause-within
hold-requires-clause-within c =
    let value = c.args.self.now in
    free-within value c.in_ok-first.first 4 (found-free c.self.inside value c.self.view_is c.self.invariant.0 2 c.in_ok-first.first 4 (omega arith) c.in_ok-first.ensures) (omega arith)

pub hold-requires-clause-free : goal.hold-requires-clause-free
hold-requires-clause-free c = found-free c.self.inside c.args.self.now c.self.view_is c.self.invariant.0 2 c.in_ok-first.first 4 (omega arith) c.in_ok-first.ensures

pub returns-clause-lowest : goal.returns-clause-lowest
returns-clause-lowest c = rw c.from.ensures (found-is c.self.inside c.args.self.now c.self.view_is c.self.invariant.0 2 (Some c.in_ok-first.first) c.in_ok-first.ensures)

pub returns-clause-reserved : goal.returns-clause-reserved
returns-clause-reserved c = rw c.from.ensures c.hold.ensures

pub returns-clause-within : goal.returns-clause-within
returns-clause-within c =
    let value = c.args.self.now in
    rw c.from.ensures (free-within value c.in_ok-first.first 4 (found-free c.self.inside value c.self.view_is c.self.invariant.0 2 c.in_ok-first.first 4 (omega arith) c.in_ok-first.ensures) (omega arith))

pub returns-clause-held : goal.returns-clause-held
returns-clause-held c b h =
    let value = c.args.self.now in
    let run : Pxd = record { len = 4; addr = c.from.result } in
    let block = in_run-at c.from.result 4 b h in
    ap (λ (m : Blocks). state_of m b) (returns-clause-reserved c) ∙ put-here Reserved (run ∷ []) value b (omega (arith, block.0, block.1, returns-clause-within c)) (in_list-one run b ∙ h)
