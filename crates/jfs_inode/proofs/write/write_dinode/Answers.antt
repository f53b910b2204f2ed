use Rattle.std.proofs.Common.{◌≡◌, ◌≤◌, ◌<◌, ◌+◌, ◌*◌, ◌∙◌, ◌⊎◌, inl, inr, List, ℕ, length, ap, arith}
use Rattle.std.proofs.lemmas.Bool.{cases_lt}
use Rattle.jfs_bits.specs.Field.{put_bytes, range_of}
use Rattle.jfs_bits.specs.Piece.{puts}
use Rattle.jfs_bits.proofs.Fields.{put_between, range_between}
use Rattle.jfs_bits.proofs.Ranges.{range_of-put_same, range_of-put_other}
use Rattle.jfs_inode.specs.Inode.{dinode_of, pieces}
use Rattle.jfs_inode.proofs.write.write_dinode.Goals as goal
use Rattle.jfs_inode.proofs.write.write_dinode.Goals.{After-put_fields}

size_is : (c : After-put_fields) → length c.put_fields.new.bytes ≡ 512
size_is c = omega arith

pub returns-clause-bytes : goal.returns-clause-bytes
returns-clause-bytes c =
    let page = c.args.page.now.0 in
    let at = 512 * c.args.slot in
    let put = c.put_fields.ensures.bytes ∙ ap (λ (z : List ℕ). puts (pieces c.args.d.now) z) (range_between page at 512) in
    put_between at 512 c.put_fields.new.bytes page (size_is c) ∙ ap (λ (z : List ℕ). put_bytes at z page) put

-- the slot holds what was put into it
held_is : goal.returns-clause-held
held_is c =
    let page = c.args.page.now.0 in
    let at = 512 * c.args.slot in
    let size = size_is c in
    let put = c.put_fields.ensures.bytes ∙ ap (λ (z : List ℕ). puts (pieces c.args.d.now) z) (range_between page at 512) in
    ap (λ (z : List ℕ). range_of z at 512) (put_between at 512 c.put_fields.new.bytes page size) ∙ rw size at (range_of-put_same at c.put_fields.new.bytes page (omega arith)) ∙ put

pub returns-clause-held : goal.returns-clause-held
returns-clause-held c = held_is c

pub returns-clause-others : goal.returns-clause-others
returns-clause-others c other within apart =
    let page = c.args.page.now.0 in
    let at = 512 * c.args.slot in
    let size = size_is c in
    ap (λ (z : List ℕ). range_of z (512 * other) 512) (put_between at 512 c.put_fields.new.bytes page size)
    ∙ range_of-put_other (512 * other) 512 at c.put_fields.new.bytes page (omega arith) (beside other c.args.slot (length c.put_fields.new.bytes) size apart (cases_lt other c.args.slot))
  where
    beside : (other slot n : ℕ) → n ≡ 512 → (other ≡ slot → ⊥) → (other < slot) ⊎ (slot ≤ other) → (512 * other + 512 ≤ 512 * slot) ⊎ (512 * slot + n ≤ 512 * other)
    beside other slot n e apart (inl low) = inl (omega arith)
    beside other slot n e apart (inr high) = inr (omega (arith, apart))

pub returns-clause-read_back : goal.returns-clause-read_back
returns-clause-read_back c =
    let page = c.args.page.now.0 in
    let at = 512 * c.args.slot in
    let size = size_is c in
    let held = ap (λ (z : List ℕ). range_of z at 512) (put_between at 512 c.put_fields.new.bytes page size) ∙ rw size at (range_of-put_same at c.put_fields.new.bytes page (omega arith)) in
    ap dinode_of held ∙ c.put_fields.ensures.read_back
