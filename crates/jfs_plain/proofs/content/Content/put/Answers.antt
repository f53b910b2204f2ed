use Rattle.std.proofs.Common.{◌≡◌, ◌∙◌, List, ℕ, length, get_or, ap, sym, refl, arith}
use Rattle.std.proofs.lemmas.List.{take_at}
use Rattle.jfs_bits.specs.Field.{put_bytes}
use Rattle.jfs_plain.proofs.Splice.{byte_put}
use Rattle.jfs_plain.proofs.content.Content.put.Goals as goal

pub returns-clause-ok : goal.returns-clause-ok
returns-clause-ok c i =
    let size : length c.put_at.new.into ≡ c.grow.new.bytes.len = c.put_at.auto.into ∙ ap length c.as_mut_slice.ensures.value ∙ sym c.grow.new.bytes.ok.0 in
    let kept : get_or c.grow.new.bytes.items i 0 ≡ get_or c.args.self.now i 0 = c.in_ok-grow.ensures.ok i ∙ rw c.self.view_is refl in
    ap (λ (xs : List ℕ). get_or xs i 0) (take_at c.put_at.new.into _ c.grow.new.bytes.len size ∙ c.put_at.ensures ∙ ap (λ (xs : List ℕ). put_bytes c.args.offset c.args.bytes.now xs) c.as_mut_slice.ensures.value)
    ∙ byte_put c.args.offset c.args.bytes.now c.grow.new.bytes.items (λ (k : ℕ). get_or c.args.self.now k 0) i (omega (arith, c.in_ok-grow.ensures.enough)) kept
