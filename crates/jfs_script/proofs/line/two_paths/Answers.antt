use Rattle.std.proofs.Common.{refl, inl, inr}
use Rattle.jfs_script.specs.Lines.{words_of}
use Rattle.jfs_script.specs.Words.{PathIs, TwoPaths}
use Rattle.jfs_script.proofs.Given.{gives_same}
use Rattle.jfs_script.proofs.line.two_paths.Goals as goal

pub returns-in_err-to : goal.returns-in_err-to
returns-in_err-to c =
    gives_same c.from_residual-in_err-to.result c.in_err-to.field-0.0 (TwoPaths (words_of c.args.text.now)) (PathIs c.in_ok-from.to.now) c.from_residual-in_err-to.ensures.1 c.in_err-to.ensures
    (λ rule h. inl (c.in_ok-from.from.now, c.in_ok-from.to.now, c.in_ok-from.ensures, inl (c.in_ok-from-2.from, c.in_ok-from-2.ensures, inr (rule, h, refl))))

pub returns : goal.returns
returns c = inl (c.in_ok-from.from.now, c.in_ok-from.to.now, c.in_ok-from.ensures, inl (c.in_ok-from-2.from, c.in_ok-from-2.ensures, inl (c.in_ok-to.to, c.in_ok-to.ensures, refl)))
