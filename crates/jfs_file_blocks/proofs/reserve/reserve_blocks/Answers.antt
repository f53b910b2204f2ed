use Rattle.std.proofs.Common.{refl, ap, ◌∙◌}
use Rattle.jfs_bmap.specs.States.{Blocks, Free, Reserved, put_state, is_used}
use Rattle.jfs_bmap.proofs.LowestBlocks.{each-total}
use Rattle.jfs_file_blocks.proofs.Counting.{takes, fresh, totals, still_free, files_back, answered, refused}
use Rattle.jfs_file_blocks.proofs.reserve.reserve_blocks.Goals as goal

pub give_back-requires : goal.give_back-requires
give_back-requires c = rw c.in-Err.ensures.unchanged c.in-Ok.ensures.held

pub returns-in-Ok-take-clause-takes : goal.returns-in-Ok-take-clause-takes
returns-in-Ok-take-clause-takes c = takes c.args.map.now c.args.want c.in-Ok.runs c.in-Ok.ensures.chosen c.in-Ok.ensures.once c.in-Ok.ensures.free c.in-Ok.ensures.within
    c.take.new.map (record { runs = c.in-Ok.runs; claim = c.in-Ok-take.claim }) refl (rw c.in-Ok.ensures.reserved at c.in-Ok-take.ensures.claims)

pub returns-in-Ok-take-clause-fresh : goal.returns-in-Ok-take-clause-fresh
returns-in-Ok-take-clause-fresh c =
    let claims = (rw c.in-Ok.ensures.reserved at c.in-Ok-take.ensures.claims) in
    fresh c.args.map.now c.args.want c.in-Ok.runs c.in-Ok.ensures.chosen c.in-Ok.ensures.once c.in-Ok.ensures.free c.in-Ok.ensures.within
    c.take.new.map (record { runs = c.in-Ok.runs; claim = c.in-Ok-take.claim }) refl claims
    (totals (is_used c.args.map.now) c.args.want c.in-Ok.runs c.in-Ok-take.claim.blocks c.in-Ok.ensures.chosen (each-total _ c.in-Ok-take.claim.blocks claims.each.lowest ∙ claims.each.number))

pub returns-in-Ok-take-clause-free : goal.returns-in-Ok-take-clause-free
returns-in-Ok-take-clause-free c = answered c.args.map.now (put_state Reserved c.in-Ok.runs c.args.map.now) c.args.want (record { runs = c.in-Ok.runs; claim = c.in-Ok-take.claim }) c.in-Ok-take.claim
    (still_free c.args.map.now c.args.want c.in-Ok.runs c.in-Ok.ensures.chosen c.in-Ok.ensures.once c.in-Ok.ensures.free c.in-Ok.ensures.within) (rw c.in-Ok.ensures.reserved at c.in-Ok-take.ensures.free)

pub returns-in-Err-clause-free : goal.returns-in-Err-clause-free
returns-in-Err-clause-free c = refused c.args.map.now (put_state Reserved c.in-Ok.runs c.args.map.now) c.reserve.new.self c.args.want c.in-Err.e c.in-Ok.ensures.reserved
    (still_free c.args.map.now c.args.want c.in-Ok.runs c.in-Ok.ensures.chosen c.in-Ok.ensures.once c.in-Ok.ensures.free c.in-Ok.ensures.within) c.in-Err.ensures.free

pub returns-in-Err-clause-unchanged : goal.returns-in-Err-clause-unchanged
returns-in-Err-clause-unchanged c =
    c.give_back.ensures
    ∙ ap (λ (m : Blocks). put_state Free c.in-Ok.runs m) (c.in-Err.ensures.unchanged ∙ c.in-Ok.ensures.reserved)
    ∙ files_back c.args.map.now c.args.want c.in-Ok.runs c.in-Ok.ensures.chosen c.in-Ok.ensures.once c.in-Ok.ensures.free c.in-Ok.ensures.within
