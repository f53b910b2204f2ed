use Rattle.std.proofs.Common.{ℕ, List, ◌++◌, length, drop, replicate, ap, ◌∙◌}
use Rattle.std.proofs.lemmas.List.{drop-replicate}
use Rattle.jfs_command.proofs.words.padded.Goals as goal

pub returns : goal.returns
returns c =
    ap (λ (front : List ℕ). front ++ drop (length c.args.label.now) (replicate 16 0)) c.copy_from_slice.ensures.after
    ∙ ap (λ (rest : List ℕ). c.args.label.now ++ rest) (drop-replicate (length c.args.label.now) 16 0)
