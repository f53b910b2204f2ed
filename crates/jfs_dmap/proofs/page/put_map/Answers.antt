use Rattle.std.proofs.Common.{◌≡◌, ◌+◌, ◌-◌, ◌∙◌, length, List, ℕ, sym, ap, arith}
use borrow.Rule.Slice.PartMut.{put_mid}
use Rattle.jfs_bits.specs.Field.{put_bytes, range_of}
use Rattle.jfs_bits.proofs.Fields.{put_between}
use Rattle.jfs_bits.proofs.Ranges.{length-put_bytes}
use Rattle.jfs_buddy.proofs.Parts.{part-held, part-put, part-again}
use Rattle.jfs_dmap.proofs.page.put_map.Goals as goal

-- the page after the set was copied
copied : (c : goal.After-slice_known-3-1) → put_mid c.args.at (c.args.at + 1024 - c.args.at) c.args.bytes.now c.copy_from_slice.new.self ≡ put_bytes c.args.at c.args.set.now c.args.bytes.now
copied c = rw c.copy_from_slice.ensures.after (put_between c.args.at 1024 c.args.set.now c.args.bytes.now c.requires.size)

pub returns-clause-set : goal.returns-clause-set
returns-clause-set c b =
    let held = ap (λ (z : List ℕ). range_of z c.args.at 1024) (copied c) ∙ part-held c.args.at 1024 c.args.set.now c.args.bytes.now c.requires.size c.requires.place in
    rw held at (c.mark_in.ensures.set b)

pub returns-clause-stays : goal.returns-clause-stays
returns-clause-stays c =
    let mid = put_bytes c.args.at c.args.set.now c.args.bytes.now in
    let same : length mid ≡ length c.args.bytes.now = length-put_bytes c.args.at c.args.set.now c.args.bytes.now (omega (arith, c.requires.size, c.requires.place)) in
    part-again c.args.at 1024 c.args.bytes.now mid c.mark_in.new.bytes (sym same) (same ∙ omega (arith, same, rw (copied c) at c.mark_in.auto.bytes)) c.requires.place (part-put c.args.at 1024 c.args.set.now c.args.bytes.now c.requires.size c.requires.place) (rw (copied c) at c.mark_in.ensures.stays)
