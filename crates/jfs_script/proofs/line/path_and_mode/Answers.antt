use Rattle.std.proofs.Common.{refl, inl, inr}
use Rattle.jfs_script.specs.Lines.{words_of}
use Rattle.jfs_script.specs.Words.{PathAndMode}
use Rattle.jfs_script.proofs.Given.{gives_broken}
use Rattle.jfs_script.proofs.line.path_and_mode.Goals as goal

pub returns-in_err-mode : goal.returns-in_err-mode
returns-in_err-mode c =
    let rule = c.in_err-mode.field-0.0 in
    gives_broken c.from_residual-in_err-mode.result rule (PathAndMode (words_of c.args.text.now)) c.from_residual-in_err-mode.ensures.1
    (inl (c.in_ok-path.path.now, c.in_ok-path.mode.now, c.in_ok-path.ensures, inl (c.in_ok-path-2.path, c.in_ok-path-2.ensures, inr (rule, c.in_err-mode.ensures, refl))))

pub returns : goal.returns
returns c = inl (c.in_ok-path.path.now, c.in_ok-path.mode.now, c.in_ok-path.ensures, inl (c.in_ok-path-2.path, c.in_ok-path-2.ensures, inl (c.in_ok-mode.mode, c.in_ok-mode.ensures, refl)))
