use Rattle.std.proofs.Common.{◌≡◌, ◌∷◌, [], ap, ◌∙◌, refl, arith}
use Rattle.jfs_gen.proofs.Digits.{one_digit, two_digits}
use Rattle.jfs_gen.proofs.name.numbered.Goals as goal
use Rattle.jfs_gen.proofs.name.numbered.Goals.{then-number-ge10+in_ok-push-2, else-number-ge10}

pub returns : goal.returns
returns c =
    let letter : c.push.new.self ≡ c.args.letter ∷ [] = c.in_ok-push.ensures.ok ∙ rw (c.new-name.ensures, c.from.ensures) refl in
    elim c.if-number-ge10.branch [
      | then-number-ge10+in_ok-push-2 w ↦ c.in_ok-push-3.ensures.ok ∙ rw (w.name-is, w.in_ok-push-2.ensures.ok, letter) (ap (λ ds. c.args.letter ∷ ds) (two_digits c.args.number w.if-number-ge10.true c.requires))
      | else-number-ge10 w ↦ c.in_ok-push-3.ensures.ok ∙ rw (w.name-is, letter) (ap (λ ds. c.args.letter ∷ ds) (one_digit c.args.number (omega (arith, w.if-number-ge10.false))))
    ]
