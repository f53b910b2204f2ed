use Rattle.std.proofs.Common.{◌≡◌, List, ℕ, refl, inl, inr}
use Rattle.std.specs.Prelude.{Result}
use Rattle.jfs_bits.specs.declared.rule.Rule.{Rule}
use Rattle.jfs_script.specs.Lines.{words_of}
use Rattle.jfs_script.specs.Number.{hex_of}
use Rattle.jfs_script.specs.Words.{PathAndBytes}
use Rattle.jfs_script.proofs.Given.{gives_broken, gives_same}
use Rattle.jfs_script.proofs.line.path_and_bytes.Goals as goal

pub returns-in_err-offset : goal.returns-in_err-offset
returns-in_err-offset c =
    let rule = c.in_err-offset.field-0.0 in
    gives_broken c.from_residual-in_err-offset.result rule (PathAndBytes (words_of c.args.text.now)) c.from_residual-in_err-offset.ensures.1
    (inl (c.in_ok-path.path.now, c.in_ok-path.offset.now, c.in_ok-path.bytes.now, c.in_ok-path.ensures, inl (c.in_ok-path-2.path, c.in_ok-path-2.ensures, inr (rule, c.in_err-offset.ensures, refl))))

pub returns-in_err-bytes : goal.returns-in_err-bytes
returns-in_err-bytes c =
    gives_same c.from_residual-in_err-bytes.result c.in_err-bytes.field-0.0 (PathAndBytes (words_of c.args.text.now)) (λ (bytes : Result (List ℕ) Rule). bytes ≡ hex_of c.in_ok-path.bytes.now) c.from_residual-in_err-bytes.ensures.1 c.in_err-bytes.ensures
    (λ rule h. inl (c.in_ok-path.path.now, c.in_ok-path.offset.now, c.in_ok-path.bytes.now, c.in_ok-path.ensures, inl (c.in_ok-path-2.path, c.in_ok-path-2.ensures, inl (c.in_ok-offset.offset, c.in_ok-offset.ensures, inr (rule, h, refl)))))

pub returns : goal.returns
returns c = inl (c.in_ok-path.path.now, c.in_ok-path.offset.now, c.in_ok-path.bytes.now, c.in_ok-path.ensures, inl (c.in_ok-path-2.path, c.in_ok-path-2.ensures, inl (c.in_ok-offset.offset, c.in_ok-offset.ensures, inl (c.in_ok-bytes.bytes, c.in_ok-bytes.ensures, refl))))
