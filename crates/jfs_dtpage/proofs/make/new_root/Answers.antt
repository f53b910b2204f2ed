use Rattle.std.proofs.Common.{◌≡◌, ◌/◌, ◌%◌, ℕ, inl, inr, refl, sym, ap, ◌∙◌, subst, arith}
use Rattle.std.specs.Prelude.{◌==◌}
use Rattle.jfs_dtpage.specs.declared.head.DtForm.TheVariants.{Root}
use Rattle.jfs_dtpage.specs.declared.head.Place.TheVariants.{InInode}
use Rattle.jfs_dtpage.specs.Form.{flag_of, count_of, free_of, first_free}
use Rattle.jfs_dtpage.specs.Page.{FlagFits}
use Rattle.jfs_dtpage.proofs.Empty.{empty_page, no_entries, all_root}
use Rattle.jfs_dtpage.proofs.make.new_root.Goals as goal

pub returns : goal.returns
returns c =
    let new = c.link_free.new.bytes in
    let k = c.link_free.ensures.kept in
    let s = c.set_counts.ensures in
    let flag : flag_of new ≡ c.flag_for.result = k 16 1 (inl (omega arith)) ∙ s.kept 16 1 (inl (omega arith)) ∙ c.put_byte.ensures.value in
    let count : count_of new ≡ 0 = k 17 1 (inl (omega arith)) ∙ s.entries in
    let free : free_of new ≡ 8 = k 18 1 (inl (omega arith)) ∙ s.free in
    let first : first_free new ≡ 1 = k 19 1 (inl (omega arith)) ∙ s.first in
    record {
      sound = empty_page Root new 1 9 (subst (λ (f : ℕ). FlagFits Root (f % 8)) (sym flag) c.flag_for.ensures.fits) tt count free first refl (omega arith) c.link_free.ensures.next c.link_free.ensures.last (all_root new);
      entries = no_entries Root new count;
      kind = ap (λ (f : ℕ). f / 2 % 2 == 1) flag ∙ c.flag_for.ensures.kind;
      free = free;
      head = ap InInode (k 20 4 (inl (omega arith)) ∙ s.kept 20 4 (inr (omega arith)) ∙ c.put_byte.ensures.kept 20 4 (inr (omega arith)));
    }
