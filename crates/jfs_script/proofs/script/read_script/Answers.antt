use Rattle.std.proofs.Common.{◌≡◌, ◌<◌, ◌≤◌, ◌+◌, ◌++◌, List, ℕ, length, take, drop, refl, sym, ap, subst, ◌∙◌, arith, length-append}
use Rattle.std.proofs.lemmas.List.{append-nil, length-take-le, length-drop}
use Rattle.jfs_bits.specs.Count.{Rose}
use Rattle.jfs_script.proofs.Reading.{IsPiece, piece_of, parts_after, more_taken, finished, stopped, too_long, means_err}
use Rattle.jfs_script.proofs.Fitting.{finished_fits}
use Rattle.jfs_script.proofs.script.read_script.Goals as goal

pub returns-in-Err-clause-answer : goal.returns-in-Err-clause-answer
returns-in-Err-clause-answer g c =
    (g.S.Source.remaining c.args.source.now, λ _. refl, subst (λ (n : ℕ). Rose n (g.S.Source.fault_count c.take.new.self)) c.loop-taken.invariant.so_far.same c.in-Err.ensures.cause)

pub returns-then-count-eq0-clause-answer : goal.returns-then-count-eq0-clause-answer
returns-then-count-eq0-clause-answer g c =
    let inv = c.loop-taken.invariant.so_far in
    let room : c.min-room.result ≤ length c.loop-taken.buffer = omega (arith, c.min-room.ensures, c.loop-taken.invariant.size) in
    let some : 0 < length (take c.min-room.result c.loop-taken.buffer) = omega (arith, length-take-le c.min-room.result c.loop-taken.buffer room, c.min-room.ensures) in
    let small : length inv.front ≤ 16777216 = omega (arith, inv.size) in (
      inv.front,
      λ t. sym (inv.left t ∙ ap (λ (z : List ℕ). inv.front ++ z) (c.in-Ok.ensures.end t c.if-count-eq0.true some) ∙ append-nil inv.front),
      finished inv.front (g.S.Source.fault_count c.args.source.now) (g.S.Source.fault_count c.take.new.self) c.finish.result small (c.finish.ensures inv.front inv.read),
    )

pub returns-in_err-read_piece-clause-answer : goal.returns-in_err-read_piece-clause-answer
returns-in_err-read_piece-clause-answer g c =
    let k = g.S.Source in
    let inv = c.loop-taken.invariant.so_far in
    let n = c.in-Ok.count in
    let now = k.remaining c.loop-taken.source in
    let after = k.remaining c.take.new.self in
    let piece : List ℕ = take n (c.take.new.into ++ drop c.min-room.result c.loop-taken.buffer) in
    let is : IsPiece k.tells now after piece n = piece_of k.tells now after c.take.new.into c.loop-taken.buffer n c.min-room.result c.loop-taken.invariant.size (omega (arith, c.min-room.ensures)) c.in-Ok.ensures.count c.take.auto.into c.in-Ok.ensures.bytes c.in-Ok.ensures.rest in
    let room : c.min-room.result ≤ length c.loop-taken.buffer = omega (arith, c.min-room.ensures, c.loop-taken.invariant.size) in
    let within : length (inv.front ++ piece) ≤ 16777217 = omega (arith, length-append inv.front piece, is.long, inv.size, c.min-room.ensures, c.in-Ok.ensures.count, length-take-le c.min-room.result c.loop-taken.buffer room) in
    let e = c.in_err-read_piece.field-0.0 in (
      (inv.front ++ piece) ++ after,
      λ t. sym (parts_after k.tells (k.remaining c.args.source.now) now after piece (k.fault_count c.args.source.now) (k.fault_count c.loop-taken.source) c.loop-taken.reader c.loop-taken.taken n inv is t),
      means_err ((inv.front ++ piece) ++ after) (k.fault_count c.args.source.now) (k.fault_count c.take.new.self) c.from_residual.result e c.from_residual.ensures.1
          (stopped (inv.front ++ piece) after (k.fault_count c.args.source.now) (k.fault_count c.take.new.self) e within (c.in_err-read_piece.ensures.err inv.front inv.read)),
    )

pub loop-taken-preserved : goal.loop-taken-preserved
loop-taken-preserved g c =
    let k = g.S.Source in
    let inv = c.loop-taken.invariant.so_far in
    let n = c.in-Ok.count in
    let now = k.remaining c.loop-taken.source in
    let after = k.remaining c.take.new.self in
    let piece : List ℕ = take n (c.take.new.into ++ drop c.min-room.result c.loop-taken.buffer) in
    let is : IsPiece k.tells now after piece n = piece_of k.tells now after c.take.new.into c.loop-taken.buffer n c.min-room.result c.loop-taken.invariant.size (omega (arith, c.min-room.ensures)) c.in-Ok.ensures.count c.take.auto.into c.in-Ok.ensures.bytes c.in-Ok.ensures.rest in
    let room : c.min-room.result ≤ length c.loop-taken.buffer = omega (arith, c.min-room.ensures, c.loop-taken.invariant.size) in
    let long = length-take-le c.min-room.result c.loop-taken.buffer room in
    let within : c.loop-taken.taken + n ≤ 16777217 = omega (arith, c.min-room.ensures, c.in-Ok.ensures.count, long) in
    record {
      so_far = more_taken k.tells (k.remaining c.args.source.now) now after piece (k.fault_count c.args.source.now) (k.fault_count c.loop-taken.source) (k.fault_count c.take.new.self) c.loop-taken.reader c.read_piece.new.self c.loop-taken.taken n
          inv is within c.in-Ok.ensures.same (c.in_ok-read_piece.ensures.ok inv.front inv.read) c.in_ok-read_piece.ensures.few;
      size = omega (arith, length-append c.take.new.into (drop c.min-room.result c.loop-taken.buffer), length-drop c.min-room.result c.loop-taken.buffer, c.take.auto.into, long, c.loop-taken.invariant.size, room);
    }

pub returns-clause-answer : goal.returns-clause-answer
returns-clause-answer g c =
    let inv = c.loop-taken.invariant.so_far in
    let size : length inv.front ≡ 16777217 = omega (arith, inv.size, inv.within) in
    (inv.front ++ g.S.Source.remaining c.loop-taken.source, λ t. sym (inv.left t), too_long inv.front (g.S.Source.remaining c.loop-taken.source) 0 0 c.loop-taken.reader size inv.read)

pub returns-then-count-eq0-clause-fits : goal.returns-then-count-eq0-clause-fits
returns-then-count-eq0-clause-fits g c =
    let inv = c.loop-taken.invariant.so_far in
    finished_fits inv.front c.finish.result (c.finish.ensures inv.front inv.read)
