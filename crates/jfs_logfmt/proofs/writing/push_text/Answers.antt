use Rattle.std.proofs.Common.{◌≡◌, ◌-◌, length, ℕ, sym, ap, subst, ◌∙◌, arith}
use Rattle.std.proofs.lemmas.List.{length-append}
use Rattle.jfs_logfmt.specs.declared.descriptor.Descriptor.{Descriptor}
use Rattle.jfs_logfmt.specs.Descriptor.{descriptor_of, descriptor_bytes}
use Rattle.jfs_logfmt.specs.Text.{Spells}
use Rattle.jfs_logfmt.specs.Written.{body_text, described, text_of}
use Rattle.jfs_logfmt.proofs.Outcomes.{on_ok}
use Rattle.jfs_logfmt.proofs.Spelled.{body_fits, spelled}
use Rattle.jfs_logfmt.proofs.writing.push_text.Goals as goal

size_is : (c : goal.After-len) → c.len.result - c.len-before.result ≡ length (body_text c.args.r.now)
size_is c = omega (arith, length-append c.args.into.now.items (body_text c.args.r.now), ap length c.in_ok-push_body.ensures.ok)

pub overflow_cast-length : goal.overflow_cast-length
overflow_cast-length c = omega (arith, size_is c, body_fits c.args.r.now c.requires)

pub returns-clause-spells : goal.returns-clause-spells
returns-clause-spells c =
    let n : c.len.result - c.len-before.result ≡ length (body_text c.args.r.now) = omega (arith, length-append c.args.into.now.items (body_text c.args.r.now), ap length c.in_ok-push_body.ensures.ok) in
    let d_is : c.describe-d.result ≡ described c.args.r.now (length (body_text c.args.r.now)) = c.describe-d.ensures.value ∙ ap (λ (k : ℕ). described c.args.r.now k) n in
    let P : Descriptor → Type 0 = λ d. descriptor_of (descriptor_bytes d) ≡ d in
    let read = sym (ap descriptor_of c.descriptor_text.ensures.bytes) ∙ c.descriptor_text.ensures.read_back in
    on_ok c.extend_from_slice.result (Spells (text_of c.args.r.now) c.args.r.now) (spelled c.args.r.now c.requires (subst P d_is read))
