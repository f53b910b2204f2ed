use Rattle.std.proofs.Common.{◌≡◌, ◌∙◌, length, List, ℕ, ap}
use Rattle.jfs_bits.specs.Field.{range_of}
use Rattle.jfs_bits.specs.Bits.{is_taken}
use Rattle.jfs_bits.proofs.Fields.{put_between, range_between}
use Rattle.jfs_buddy.proofs.Parts.{part-held, part-put, length-range_of}
use Rattle.jfs_dmap.proofs.words.clear_in.Goals as goal

pub returns-clause-set : goal.returns-clause-set
returns-clause-set c b =
    let slice = range_between c.args.bytes.now c.args.at 1024 in
    let size : length c.clear_run.new.map ≡ 1024 = rw slice at c.clear_run.auto.map ∙ length-range_of c.args.bytes.now c.args.at 1024 c.requires.place in
    ap (λ (z : List ℕ). is_taken z b) (ap (λ (z : List ℕ). range_of z c.args.at 1024) (put_between c.args.at 1024 c.clear_run.new.map c.args.bytes.now size) ∙ part-held c.args.at 1024 c.clear_run.new.map c.args.bytes.now size c.requires.place)
    ∙ rw slice at (c.clear_run.ensures b)

pub returns-clause-stays : goal.returns-clause-stays
returns-clause-stays c =
    let size : length c.clear_run.new.map ≡ 1024 = rw (range_between c.args.bytes.now c.args.at 1024) at c.clear_run.auto.map ∙ length-range_of c.args.bytes.now c.args.at 1024 c.requires.place in
    rw (put_between c.args.at 1024 c.clear_run.new.map c.args.bytes.now size) (part-put c.args.at 1024 c.clear_run.new.map c.args.bytes.now size c.requires.place)
