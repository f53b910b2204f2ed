use Rattle.std.proofs.Common.{◌∙◌, sym, ap, ℕ, ◌++◌, ◌∷◌, []}
use Rattle.jfs_command.specs.Text.{trimmed}
use Rattle.jfs_command.proofs.Trimming.{trimmed-zero, trimmed-other, trimmed-nil}
use Rattle.jfs_command.proofs.text.without_padding.Goals as goal

pub returns-then-last-ne0 : goal.returns-then-last-ne0
returns-then-last-ne0 c =
    let shape = c.in-Some.ensures.cases.0 in
    shape ∙ sym (trimmed-other c.in-Some.front.now c.in-Some.last.now c.if-last-ne0.true) ∙ sym (ap trimmed shape) ∙ c.loop-last.invariant

pub loop-last-preserved : goal.loop-last-preserved
loop-last-preserved c =
    let shape = c.in-Some.ensures.cases.0 in
    let zero_last = ap (λ (x : ℕ). trimmed (c.in-Some.front.now ++ x ∷ [])) c.if-last-ne0.false in
    sym (trimmed-zero c.in-Some.front.now) ∙ sym zero_last ∙ sym (ap trimmed shape) ∙ c.loop-last.invariant

pub returns : goal.returns
returns c = trimmed-nil c.loop-last.rest.now c.in_default.ensures.cases ∙ c.loop-last.invariant
