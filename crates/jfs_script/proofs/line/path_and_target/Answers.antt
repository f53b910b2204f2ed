use Rattle.std.proofs.Common.{refl, inl, inr}
use Rattle.jfs_script.specs.Lines.{words_of}
use Rattle.jfs_script.specs.Target.{TargetIs}
use Rattle.jfs_script.specs.Words.{PathAndTarget}
use Rattle.jfs_script.proofs.Given.{gives_same}
use Rattle.jfs_script.proofs.line.path_and_target.Goals as goal

pub returns-in_err-target : goal.returns-in_err-target
returns-in_err-target c =
    gives_same c.from_residual-in_err-target.result c.in_err-target.field-0.0 (PathAndTarget (words_of c.args.text.now)) (TargetIs c.in_ok-path.target.now) c.from_residual-in_err-target.ensures.1 c.in_err-target.ensures
    (λ rule h. inl (c.in_ok-path.path.now, c.in_ok-path.target.now, c.in_ok-path.ensures, inl (c.in_ok-path-2.path, c.in_ok-path-2.ensures, inr (rule, h, refl))))

pub returns : goal.returns
returns c = inl (c.in_ok-path.path.now, c.in_ok-path.target.now, c.in_ok-path.ensures, inl (c.in_ok-path-2.path, c.in_ok-path-2.ensures, inl (c.in_ok-target.target, c.in_ok-target.ensures, refl)))
