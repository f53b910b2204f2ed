use Rattle.jfs_script.proofs.Digits.{IsReadTo}
use Rattle.jfs_command.proofs.gen_words.numeral.Given as goal

abbrev pub invariant-loop-byte : goal.invariant-loop-byte
invariant-loop-byte l = IsReadTo 10 l.word l.byte-index l.value
