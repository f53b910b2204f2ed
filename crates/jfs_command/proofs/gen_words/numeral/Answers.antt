use Rattle.std.proofs.Common.{◌+◌, ◌-◌, ◌*◌, ◌^◌, ℕ, get_or, inl, inr, arith}
use Rattle.std.proofs.lemmas.Bool.{cases_lt, and_from, le-leb, lt-ltb}
use Rattle.jfs_script.proofs.Digits.{goes_on, too_big, all_read}
use Rattle.jfs_command.proofs.gen_words.numeral.Goals as goal

pub returns-in-None : goal.returns-in-None
returns-in-None c =
    let word = c.args.word.now in
    let i = c.loop-byte.byte-index in
    let next : ℕ = c.loop-byte.value * 10 + (get_or word i 0 - 48) in
    too_big 10 word i c.loop-byte.value (omega arith) (omega arith) (elim (cases_lt next (2 ^ 64)) [ inl h ↦ absurd (c.in-None.ensures h) | inr h ↦ h ]) c.loop-byte.invariant

pub loop-byte-preserved : goal.loop-byte-preserved
loop-byte-preserved c =
    let word = c.args.word.now in
    let i = c.loop-byte.byte-index in
    rw c.in-Some.ensures.1 (goes_on 10 word i c.loop-byte.value (omega arith) (and_from _ _ (le-leb 48 (get_or word i 0) (omega arith)) (lt-ltb (get_or word i 0) (48 + 10) (omega arith))) c.in-Some.ensures.0 c.loop-byte.invariant)

pub returns : goal.returns
returns c = all_read 10 c.args.word.now c.loop-byte.byte-index c.loop-byte.value (omega arith) c.loop-byte.invariant
