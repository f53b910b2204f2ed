use Rattle.std.proofs.Common.{sym, ◌∙◌, refl}
use Rattle.std.proofs.lemmas.Bool.{true≢false}
use Rattle.jfs_name.specs.Text.{no_byte, no_plain}
use Rattle.jfs_name.proofs.unit.read_unit.Goals as goal

pub returns-in_default-clause-broken : goal.returns-in_default-clause-broken
returns-in_default-clause-broken c = no_plain c.in-Some.byte (sym c.byte_at.ensures ∙ c.in-Some.is) c.in-Some.byte-test.1 (λ is. true≢false (sym is ∙ sym c.is_plain.ensures ∙ c.if-is_plain.false)) refl

pub returns-in_default-2-clause-broken : goal.returns-in_default-2-clause-broken
returns-in_default-2-clause-broken c = no_byte (sym c.byte_at.ensures ∙ c.in_default.is) refl
