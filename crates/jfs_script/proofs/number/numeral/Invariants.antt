use Rattle.jfs_script.proofs.Digits.{IsReadTo}
use Rattle.jfs_script.proofs.number.numeral.Given as goal

abbrev pub invariant-loop-byte : goal.invariant-loop-byte
invariant-loop-byte l = IsReadTo l.base l.word l.byte-index l.value
