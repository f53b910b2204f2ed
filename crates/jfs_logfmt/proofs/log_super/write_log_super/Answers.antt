use Rattle.std.proofs.Common.{◌∙◌, ap, sym, length, refl, List, ℕ, arith}
use Rattle.jfs_bits.specs.Piece.{puts}
use Rattle.jfs_logfmt.specs.Super.{is_log_super, log_super_of, log_super_pieces}
use Rattle.jfs_logfmt.proofs.ReadBack.{LogSuperInRange, log_super_of-puts, is_log_super-puts}
use Rattle.jfs_logfmt.proofs.log_super.write_log_super.Goals as goal

in_range : (c : goal.After-put_array-2) → LogSuperInRange c.args.s.now
in_range c = record { serial = omega arith; size = omega arith; state = omega arith; uuid = ap (λ (z : List ℕ). length z) (sym c.as_bytes.ensures) ∙ c.put_array.ensures.fits; label = omega arith }

bytes_are : goal.returns-clause-bytes
unfolding log_super_pieces puts
bytes_are c =
    rw (c.put_array-2.ensures.bytes, c.put_array.ensures.bytes, c.as_bytes.ensures, c.put_u32-9.ensures.bytes, c.put_u32-8.ensures.bytes, c.put_u32-7.ensures.bytes, c.put_u32-6.ensures.bytes, c.put_u32-5.ensures.bytes, c.put_u32-4.ensures.bytes, c.put_u32-3.ensures.bytes, c.put_u32-2.ensures.bytes, c.put_u32.ensures.bytes) refl

pub returns-clause-bytes : goal.returns-clause-bytes
returns-clause-bytes c = bytes_are c

pub returns-clause-known : goal.returns-clause-known
returns-clause-known c = ap is_log_super (bytes_are c) ∙ is_log_super-puts c.args.s.now c.args.page.now.0 (in_range c) (omega arith)

pub returns-clause-read_back : goal.returns-clause-read_back
returns-clause-read_back c = ap log_super_of (bytes_are c) ∙ log_super_of-puts c.args.s.now c.args.page.now.0 (in_range c) (omega arith)
