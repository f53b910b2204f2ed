use Rattle.std.proofs.Common.{refl, inl, inr}
use Rattle.jfs_script.specs.Lines.{words_of}
use Rattle.jfs_script.specs.Words.{PathAndSize}
use Rattle.jfs_script.proofs.Given.{gives_broken}
use Rattle.jfs_script.proofs.line.path_and_size.Goals as goal

pub returns-in_err-size : goal.returns-in_err-size
returns-in_err-size c =
    let rule = c.in_err-size.field-0.0 in
    gives_broken c.from_residual-in_err-size.result rule (PathAndSize (words_of c.args.text.now)) c.from_residual-in_err-size.ensures.1
    (inl (c.in_ok-path.path.now, c.in_ok-path.size.now, c.in_ok-path.ensures, inl (c.in_ok-path-2.path, c.in_ok-path-2.ensures, inr (rule, c.in_err-size.ensures, refl))))

pub returns : goal.returns
returns c = inl (c.in_ok-path.path.now, c.in_ok-path.size.now, c.in_ok-path.ensures, inl (c.in_ok-path-2.path, c.in_ok-path-2.ensures, inl (c.in_ok-size.size, c.in_ok-size.ensures, refl)))
