use Rattle.std.proofs.Common.{◌<◌, ◌++◌, ◌∷◌, [], List, ℕ, length, refl, sym, ap, subst, ◌∙◌, append_assoc, arith, rules}
use Rattle.jfs_script.specs.Lines.{lines_of}
use Rattle.jfs_script.specs.Script.{most_lines}
use Rattle.jfs_script.specs.Progress.{IsRead}
use Rattle.jfs_script.proofs.Reading.{overflows}
use Rattle.jfs_script.proofs.reader.Reader.read_piece.Goals as goal

pub returns-then-self-eq-MOST_LINES-clause-err : goal.returns-then-self-eq-MOST_LINES-clause-err
returns-then-self-eq-MOST_LINES-clause-err c =
    let rest = c.loop-rest.rest.now in
    let some : 0 < length rest = search rules in
    λ front read.
    let d = c.loop-rest.invariant.read front read in
    (refl, λ more. subst (λ (z : List ℕ). most_lines < length (lines_of (z ++ more))) (append_assoc front d.0 rest ∙ ap (λ (z : List ℕ). front ++ z) (sym d.1)) (overflows (front ++ d.0) rest c.loop-rest.self d.2 c.if-self-eq-MOST_LINES.true some more))

pub loop-rest-preserved : goal.loop-rest-preserved
loop-rest-preserved c =
    let line = c.in-Some.line.now in
    let after = c.in-Some.after.now in
    let parts = c.in-Some.ensures.1 in
    record {
      few = omega (arith, c.in_ok-end_line-in-Some.ensures.count);
      read = λ front read.
          let d = c.loop-rest.invariant.read front read in (
            d.0 ++ (line ++ 10 ∷ []),
            d.1 ∙ ap (λ (z : List ℕ). d.0 ++ z) (parts ∙ sym (append_assoc line (10 ∷ []) after)) ∙ sym (append_assoc d.0 (line ++ 10 ∷ []) after),
            subst (λ (z : List ℕ). IsRead z c.end_line.new.self) (append_assoc front d.0 (line ++ 10 ∷ [])) (c.in_ok-end_line-in-Some.ensures.ok (front ++ d.0) d.2),
          );
    }
