use Rattle.std.proofs.Common.{refl, inl, inr}
use Rattle.jfs_script.specs.Lines.{words_of}
use Rattle.jfs_script.specs.Words.{PathAndRange}
use Rattle.jfs_script.proofs.Given.{gives_broken}
use Rattle.jfs_script.proofs.line.path_and_range.Goals as goal

pub returns-in_err-offset : goal.returns-in_err-offset
returns-in_err-offset c =
    let rule = c.in_err-offset.field-0.0 in
    gives_broken c.from_residual-in_err-offset.result rule (PathAndRange c.args.most (words_of c.args.text.now)) c.from_residual-in_err-offset.ensures.1
    (inl (c.in_ok-path.path.now, c.in_ok-path.offset.now, c.in_ok-path.count.now, c.in_ok-path.ensures, inl (c.in_ok-path-2.path, c.in_ok-path-2.ensures, inr (rule, c.in_err-offset.ensures, refl))))

pub returns-in_err-count : goal.returns-in_err-count
returns-in_err-count c =
    let rule = c.in_err-count.field-0.0 in
    gives_broken c.from_residual-in_err-count.result rule (PathAndRange c.args.most (words_of c.args.text.now)) c.from_residual-in_err-count.ensures.1
    (inl (c.in_ok-path.path.now, c.in_ok-path.offset.now, c.in_ok-path.count.now, c.in_ok-path.ensures, inl (c.in_ok-path-2.path, c.in_ok-path-2.ensures, inl (c.in_ok-offset.offset, c.in_ok-offset.ensures, inr (rule, c.in_err-count.ensures, refl)))))

pub returns : goal.returns
returns c = inl (c.in_ok-path.path.now, c.in_ok-path.offset.now, c.in_ok-path.count.now, c.in_ok-path.ensures, inl (c.in_ok-path-2.path, c.in_ok-path-2.ensures, inl (c.in_ok-offset.offset, c.in_ok-offset.ensures, inl (c.in_ok-count.count, c.in_ok-count.ensures, refl))))
