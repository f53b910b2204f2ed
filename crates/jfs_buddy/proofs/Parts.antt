-- One part of a page replaced: these lemmas stand at the bottom.
pub use Rattle.jfs_bits.proofs.Parts.{part-held, part-put, length-range_of, part-is, range-beside, field-from_range, field-in_part, part-kept, part-again, number-read, range_of-replicate}
