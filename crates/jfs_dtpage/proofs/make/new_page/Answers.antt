use Rattle.std.proofs.Common.{◌≡◌, ◌≤◌, ◌+◌, ◌/◌, ◌%◌, ℕ, inl, refl, sym, ap, ◌∙◌, subst, arith}
use Rattle.std.specs.Prelude.{◌==◌}
use Rattle.jfs_bits.specs.Field.{field_of}
use Rattle.jfs_bits.specs.Descriptor.{pxd_of}
use Rattle.jfs_bits.specs.declared.descriptor.Pxd.{Pxd}
use Rattle.jfs_dtpage.specs.declared.head.DtForm.TheVariants.{Full}
use Rattle.jfs_dtpage.specs.declared.head.Place.TheVariants.{OnVolume}
use Rattle.jfs_dtpage.specs.Form.{flag_of, count_of, free_of, first_free}
use Rattle.jfs_dtpage.specs.Page.{FlagFits}
use Rattle.jfs_dtpage.proofs.Empty.{empty_page, no_entries, all_full}
use Rattle.jfs_dtpage.proofs.make.new_page.Goals as goal

pub returns : goal.returns
returns c =
    let new = c.link_free.new.bytes in
    let k = c.link_free.ensures.kept in
    let child = c.put_child.ensures.kept in
    let table = c.put_byte-3.ensures.kept in
    let slots = c.put_byte-2.ensures.kept in
    let s = c.set_counts.ensures in
    let low : (from width : ℕ) → from + width ≤ 20 → field_of new from width ≡ field_of c.set_counts.new.bytes from width =
    λ from width h. k from width (inl (omega (arith, h))) ∙ child from width (inl (omega (arith, h))) ∙ table from width (inl (omega (arith, h))) ∙ slots from width (inl h) in
    let flag : flag_of new ≡ c.flag_for.result = low 16 1 (omega arith) ∙ s.kept 16 1 (inl (omega arith)) ∙ c.put_byte.ensures.value in
    let count : count_of new ≡ 0 = low 17 1 (omega arith) ∙ s.entries in
    let free : free_of new ≡ 123 = low 18 1 (omega arith) ∙ s.free in
    let first : first_free new ≡ 5 = low 19 1 (omega arith) ∙ s.first in
    let most : field_of new 20 1 ≡ 128 = k 20 1 (inl (omega arith)) ∙ child 20 1 (inl (omega arith)) ∙ table 20 1 (inl (omega arith)) ∙ c.put_byte-2.ensures.value in
    let begins : field_of new 21 1 ≡ 1 = k 21 1 (inl (omega arith)) ∙ child 21 1 (inl (omega arith)) ∙ c.put_byte-3.ensures.value in
    let prev : field_of new 8 8 ≡ 0 = low 8 8 (omega arith) ∙ s.kept 8 8 (inl (omega arith)) ∙ c.put_byte.ensures.kept 8 8 (inl (omega arith)) ∙ c.put_neighbour-2.ensures.value in
    let next : field_of new 0 8 ≡ 0 = low 0 8 (omega arith) ∙ s.kept 0 8 (inl (omega arith)) ∙ c.put_byte.ensures.kept 0 8 (inl (omega arith)) ∙ c.put_neighbour-2.ensures.kept 0 8 (inl (omega arith)) ∙ c.put_neighbour.ensures.value in
    let one = k 24 4 (inl (omega arith)) in
    let two = k 28 4 (inl (omega arith)) in
    let at : pxd_of new 24 ≡ c.args.at = subst (λ (p : Pxd). pxd_of new 24 ≡ p) c.put_child.ensures.value (rw (one, two) refl) in
    record {
      sound = empty_page Full new 5 128 (subst (λ (f : ℕ). FlagFits Full (f % 8)) (sym flag) c.flag_for.ensures.fits) (most, omega (arith, begins), omega (arith, begins)) count free first refl (omega arith) c.link_free.ensures.next c.link_free.ensures.last (λ j. all_full new j begins);
      entries = no_entries Full new count;
      kind = ap (λ (f : ℕ). f / 2 % 2 == 1) flag ∙ c.flag_for.ensures.kind;
      free = free;
      head = placed next prev most begins at;
    }
  where
    placed : {a b d e : ℕ} {p at : Pxd} → a ≡ 0 → b ≡ 0 → d ≡ 128 → e ≡ 1 → p ≡ at → OnVolume a b d e p ≡ OnVolume 0 0 128 1 at
    placed n p m t at = rw (n, p, m, t, at) refl
