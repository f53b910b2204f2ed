-- The page of an IAG is canonical in what is compared where it is as the canonical one in that.
use Rattle.std.proofs.Common.{◌≡◌, ◌<◌, ◌≤◌, ◌+◌, ◌-◌, ◌*◌, ◌/◌, ◌↔◌, ℕ, zero, suc, Bool, true, false, not, IsTrue, List, get_or, refl, sym, ap, ◌∙◌, arith}
use Rattle.std.specs.Prelude.{if◌then◌else◌}
use Rattle.jfs_bits.specs.declared.descriptor.Pxd.{Pxd}
use Rattle.jfs_bits.specs.Bits.{is_taken, count_below}
use Rattle.jfs_bits.specs.Descriptor.{pxd_of}
use Rattle.jfs_bits.proofs.Counts.{count_below-most}
use Rattle.jfs_iag.specs.declared.iag.Iag.{Iag}
use Rattle.jfs_iag.specs.Iag.{IsIag, no_run}
use Rattle.jfs_iag.specs.Canonical.{is_there, is_free_inode, no_links, IsIagPage}
use Rattle.jfs_map_check.specs.Compared.{IsSameIag}
use Rattle.jfs_findings.specs.Maps.{IsIagAs}
use Rattle.jfs_findings.proofs.Compared.{iag_page_as}

-- those that pass a test and those that don't
count_both : (n : ℕ) (test : ℕ → Bool) → count_below n test + count_below n (λ i. not (test i)) ≡ n
unfolding count_below
count_both zero test = refl
count_both (suc n) test =
    elim (test n) as (λ z. (count_below n test + (if z then 1 else 0)) + (count_below n (λ i. not (test i)) + (if not z then 1 else 0)) ≡ suc n) [
      | true ↦ omega (arith, count_both n test)
      | false ↦ omega (arith, count_both n test)
    ]

-- the extents that a page has
abbrev pub places_of : List ℕ → ℕ → Pxd
places_of page e = pxd_of page (3072 + 8 * e)

module _ (taken : ℕ → Bool) (number : ℕ) (page canon : List ℕ) (have want : Iag) (held : IsIag have page) (wanted : IsIag want canon) (is : IsIagPage taken (λ e. get_or have.inoext e no_run) number 0 no_links canon) where
  canon_as : IsIagAs taken (places_of page) number canon
  canon_as = iag_page_as taken taken (λ e. get_or have.inoext e no_run) (places_of page) (λ i _. refl) (λ e h. held.inoext e h) number 0 no_links canon is

  there_is : (i : ℕ) → i < 4096 → is_there (get_or have.inoext (i / 32) no_run) ≡ is_there (places_of page (i / 32))
  there_is i h = ap is_there (held.inoext (i / 32) (omega (arith, h)))

  pub free_is : want.nfreeinos ≡ count_below 4096 (is_free_inode taken (places_of page))
  free_is = wanted.nfreeinos ∙ canon_as.nfreeinos

  missing_is : want.nfreeexts ≡ count_below 128 (λ e. not (is_there (places_of page e)))
  missing_is = wanted.nfreeexts ∙ canon_as.nfreeexts

  pub missing_most : want.nfreeexts ≤ 128
  missing_most = omega (arith, missing_is, count_below-most 128 (λ e. not (is_there (places_of page e))))

  pub extents_is : 128 - want.nfreeexts ≡ count_below 128 (λ e. is_there (places_of page e))
  extents_is = omega (arith, missing_is, count_both 128 (λ e. is_there (places_of page e)))

  pub iag_decided : (r : Bool) → IsTrue r ↔ IsSameIag have want → IsTrue r ↔ IsIagAs taken (places_of page) number page
  iag_decided r same = (
    λ y. let s = same.0 y in record {
      iagnum = sym held.iagnum ∙ s.iagnum ∙ wanted.iagnum ∙ canon_as.iagnum;
      inosmap = λ e h. ap (λ (z : List ℕ). is_taken z e) (sym held.inosmap) ∙ s.inosmap e h ∙ ap (λ (z : List ℕ). is_taken z e) wanted.inosmap ∙ canon_as.inosmap e h;
      extsmap = λ e h. ap (λ (z : List ℕ). is_taken z e) (sym held.extsmap) ∙ s.extsmap e h ∙ ap (λ (z : List ℕ). is_taken z e) wanted.extsmap ∙ canon_as.extsmap e h;
      nfreeinos = sym held.nfreeinos ∙ s.nfreeinos ∙ wanted.nfreeinos ∙ canon_as.nfreeinos;
      nfreeexts = sym held.nfreeexts ∙ s.nfreeexts ∙ wanted.nfreeexts ∙ canon_as.nfreeexts;
      wmap = λ i h t. ap (λ (z : List ℕ). is_taken z i) (sym held.wmap) ∙ s.wmap i h (there_is i h ∙ t) ∙ ap (λ (z : List ℕ). is_taken z i) wanted.wmap ∙ canon_as.wmap i h t;
      pmap = λ i h t. ap (λ (z : List ℕ). is_taken z i) (sym held.pmap) ∙ s.pmap i h (there_is i h ∙ t) ∙ ap (λ (z : List ℕ). is_taken z i) wanted.pmap ∙ canon_as.pmap i h t;
    },
    λ p. same.1 (record {
      iagnum = held.iagnum ∙ p.iagnum ∙ sym canon_as.iagnum ∙ sym wanted.iagnum;
      nfreeinos = held.nfreeinos ∙ p.nfreeinos ∙ sym canon_as.nfreeinos ∙ sym wanted.nfreeinos;
      nfreeexts = held.nfreeexts ∙ p.nfreeexts ∙ sym canon_as.nfreeexts ∙ sym wanted.nfreeexts;
      inosmap = λ e h. ap (λ (z : List ℕ). is_taken z e) held.inosmap ∙ p.inosmap e h ∙ sym (canon_as.inosmap e h) ∙ ap (λ (z : List ℕ). is_taken z e) (sym wanted.inosmap);
      extsmap = λ e h. ap (λ (z : List ℕ). is_taken z e) held.extsmap ∙ p.extsmap e h ∙ sym (canon_as.extsmap e h) ∙ ap (λ (z : List ℕ). is_taken z e) (sym wanted.extsmap);
      wmap = λ i h t. let there = sym (there_is i h) ∙ t in ap (λ (z : List ℕ). is_taken z i) held.wmap ∙ p.wmap i h there ∙ sym (canon_as.wmap i h there) ∙ ap (λ (z : List ℕ). is_taken z i) (sym wanted.wmap);
      pmap = λ i h t. let there = sym (there_is i h) ∙ t in ap (λ (z : List ℕ). is_taken z i) held.pmap ∙ p.pmap i h there ∙ sym (canon_as.pmap i h there) ∙ ap (λ (z : List ℕ). is_taken z i) (sym wanted.pmap);
    }),
  )
