use Rattle.std.proofs.Common.{◌<◌, length, rules}
use Rattle.std.proofs.lemmas.List.{take_rest}
use Rattle.jfs_script.proofs.Words.{next_is, no_word}
use Rattle.jfs_script.proofs.word.next_word.Goals as goal

pub returns-then-is_empty : goal.returns-then-is_empty
returns-then-is_empty c = no_word c.args.text.now c.after_spaces-rest.result.now c.after_spaces-rest.ensures.rest (search rules)

pub returns : goal.returns
returns c =
    let rest = c.after_spaces-rest.result.now in
    let some : 0 < length rest = search rules in
    rw (take_rest rest c.word_end-end.result)
    (next_is c.args.text.now rest c.word_end-end.result c.after_spaces-rest.ensures.rest c.after_spaces-rest.ensures.front some c.word_end-end.ensures.within c.word_end-end.ensures.word c.word_end-end.ensures.end)
