-- The first pages of a disk are whole. (For the prover alone.)
use Rattle.std.specs.Prelude.{◌≤◌, ℕ}
use Rattle.std.proofs.Common.{arith}
use Rattle.jfs_disk.specs.Image.{Image, ArePages}
use Rattle.jfs_ranges.specs.View.{AreWhole}

pub first_pages : (blocks pages : ℕ) (image : Image) → blocks ≤ pages → ArePages pages image → AreWhole blocks image
first_pages blocks pages image h are n l = are.sizes n (omega (arith, h, l))
