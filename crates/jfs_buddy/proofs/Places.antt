-- Where two pages hold the same bytes: these lemmas stand at the bottom.
pub use Rattle.jfs_bits.proofs.Places.{SameAt, field-same, part-at, range-same, bytes-within}
