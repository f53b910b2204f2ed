use Rattle.std.proofs.Common.{◌≡◌, ◌+◌, drop}
use Rattle.jfs_command.specs.Words.{texts, names_in_front}
use Rattle.jfs_command.proofs.words.names_in_front.Given as goal

-- those so far are names, and those of the rest are the others
abbrev pub invariant-loop-word : goal.invariant-loop-word
invariant-loop-word l = (l.count ≡ l.word-index) × (l.count + names_in_front (texts (drop l.word-index l.words)) ≡ names_in_front (texts l.words))
