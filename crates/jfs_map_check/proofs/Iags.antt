-- IAGs by their parts of the inodes in use, one after the other.
use Rattle.std.proofs.Common.{◌≡◌, ◌≤◌, ◌<◌, ◌+◌, ◌-◌, ◌*◌, ◌/◌, ◌%◌, ◌↔◌, ◌&&◌, ℕ, zero, suc, Bool, false, not, IsTrue, inl, inr, List, [], take, drop, Some, None, Result, Ok, Err, IfOk, refl, sym, ap, ap₂, subst, ◌∙◌, arith}
use Rattle.std.proofs.lemmas.Bool.{cases_eq}
use Rattle.byteorder.specs.Endian.{little_from}
use Rattle.jfs_bits.specs.declared.descriptor.Pxd.{Pxd}
use Rattle.jfs_bits.specs.declared.extent.Xad.{Xad}
use Rattle.jfs_bits.specs.Bits.{is_taken, count_below}
use Rattle.jfs_bits.specs.Field.{field_of}
use Rattle.jfs_bits.proofs.Counts.{count_below-same, count_below-most, count_below-none, count_below-nothing}
use Rattle.jfs_iag.specs.Canonical.{is_there, is_free_inode}
use Rattle.jfs_iag.specs.Laws.{AreSame}
use Rattle.jfs_iag.proofs.Agreed.{there-same, free-same, inode-same}
use Rattle.jfs_imap.proofs.Listed.{same-part}
use Rattle.jfs_imap.proofs.Sums.{count-next}
use Rattle.jfs_disk.specs.Image.{Image, page_of}
use Rattle.jfs_findings.specs.objects.specs.Contents.{block_of}
use Rattle.jfs_findings.specs.reader.specs.declared.error.ReadError.{ReadError}
use Rattle.jfs_findings.specs.Gains.{Gains}
use Rattle.jfs_findings.specs.Maps.{IsIagAs}
use Rattle.jfs_findings.specs.declared.finding.Finding.{Finding}
use Rattle.jfs_map_check.specs.declared.iag_page.IagReport.{IagReport}
use Rattle.jfs_map_check.specs.Inodes.{places_of, extent_in, part_of, IsWrongIag, IsWrongIagIn, IsWrongIagBelow, AreCounts, AreTotals}
use Rattle.jfs_map_check.proofs.Gaining.{gains_none, gains_then, gains_as}

-- ---- the same inodes and extents

module _ (taken others : ℕ → Bool) (extent places : ℕ → Pxd) (s : AreSame 1 taken others extent places) where
  there_is : (e : ℕ) → e < 128 → is_there (extent e) ≡ is_there (places e)
  there_is e h = there-same 1 taken others extent places s e (omega (arith, h))

  free_same : count_below 4096 (is_free_inode taken extent) ≡ count_below 4096 (is_free_inode others places)
  free_same = count_below-same 4096 (is_free_inode taken extent) (is_free_inode others places) (λ i h. inode-same 1 taken others extent places s i (omega (arith, h)))

  pub iag_same : (number : ℕ) (page : List ℕ) → IsIagAs taken extent number page → IsIagAs others places number page
  iag_same number page p = record {
    iagnum = p.iagnum;
    inosmap = λ e h. p.inosmap e h ∙ ap not (free-same 1 taken others extent places s e (omega (arith, h)));
    extsmap = λ e h. p.extsmap e h ∙ there_is e h;
    nfreeinos = p.nfreeinos ∙ free_same;
    nfreeexts = p.nfreeexts ∙ count_below-same 128 (λ e. not (is_there (extent e))) (λ e. not (is_there (places e))) (λ e h. ap not (there_is e h));
    wmap = λ i h t. p.wmap i h (there_is (i / 32) (omega (arith, h)) ∙ t) ∙ s.inodes i (omega (arith, h));
    pmap = λ i h t. p.pmap i h (there_is (i / 32) (omega (arith, h)) ∙ t) ∙ s.inodes i (omega (arith, h));
  }

  pub turned : AreSame 1 others taken places extent
  turned = record { inodes = λ i h. sym (s.inodes i h); extents = λ e h. sym (s.extents e h) }

-- ---- one IAG's part of the inodes in use

module _ (set : List ℕ) (k : ℕ) (page : List ℕ) where
  same : AreSame 1 (is_taken (take (512 * k + 512 - 512 * k) (drop (512 * k) set))) (part_of (is_taken set) k) (places_of page) (places_of page)
  same = record { inodes = λ i h. (same-part set [] k).inodes i h; extents = λ e h. refl }

  pub part_decided : (r : Bool) → IsTrue r ↔ IsIagAs (is_taken (take (512 * k + 512 - 512 * k) (drop (512 * k) set))) (places_of page) k page → IsTrue r ↔ IsIagAs (part_of (is_taken set) k) (places_of page) k page
  part_decided r t =
      let one = is_taken (take (512 * k + 512 - 512 * k) (drop (512 * k) set)) in
      let other = part_of (is_taken set) k in (
        λ y. iag_same one other (places_of page) (places_of page) same k page (t.0 y),
        λ p. t.1 (iag_same other one (places_of page) (places_of page) (turned one other (places_of page) (places_of page) same) k page p),
      )

  pub part_free : count_below 4096 (is_free_inode (is_taken (take (512 * k + 512 - 512 * k) (drop (512 * k) set))) (places_of page)) ≡ count_below 4096 (is_free_inode (part_of (is_taken set) k) (places_of page))
  part_free = free_same (is_taken (take (512 * k + 512 - 512 * k) (drop (512 * k) set))) (part_of (is_taken set) k) (places_of page) (places_of page) same

pub count_most : (n m : ℕ) (test : ℕ → Bool) → n ≡ count_below m test → n ≤ m
count_most n m test e = omega (arith, e, count_below-most m test)

-- ---- an IAG in its file

module _ (taken : ℕ → Bool) (pages : ℕ → List ℕ) (es : List Xad) (k : ℕ) where
  place_is : (n e : ℕ) (page : List ℕ) → block_of es (suc k) ≡ Some n → page ≡ pages n → e < 128 → extent_in pages es (128 * k + e) ≡ places_of page e
  place_is n e page at is h =
      let quotient : (128 * k + e) / 128 ≡ k = omega (arith, h) in
      let rest : (128 * k + e) % 128 ≡ e = omega (arith, h) in
      rw (quotient, rest, at, is) refl

  free_at : (i : ℕ) → is_free_inode taken (extent_in pages es) (4096 * k + i) ≡ (is_there (extent_in pages es (128 * k + i / 32)) && not (part_of taken k i))
  free_at i = let quotient : (4096 * k + i) / 32 ≡ 128 * k + i / 32 = omega arith in ap (λ (e : ℕ). is_there (extent_in pages es e) && not (taken (4096 * k + i))) quotient

  counted : (n : ℕ) (page : List ℕ) (report : IagReport) → block_of es (suc k) ≡ Some n → page ≡ pages n
      → report.extents ≡ count_below 128 (λ e. is_there (places_of page e)) → report.free ≡ count_below 4096 (is_free_inode (part_of taken k) (places_of page)) → AreCounts taken pages es k report
  counted n page report at is extents free = record {
    extents = extents ∙ count_below-same 128 (λ e. is_there (places_of page e)) (λ e. is_there (extent_in pages es (128 * k + e))) (λ e h. ap is_there (sym (place_is n e page at is h)));
    free = free ∙ count_below-same 4096 (is_free_inode (part_of taken k) (places_of page)) (λ i. is_free_inode taken (extent_in pages es) (4096 * k + i)) (λ i h.
        ap (λ (b : Bool). b && not (part_of taken k i)) (ap is_there (sym (place_is n (i / 32) page at is (omega (arith, h))))) ∙ sym (free_at i));
  }

  pub counted_ok : (n : ℕ) (page : List ℕ) (r : Result IagReport ReadError) → block_of es (suc k) ≡ Some n → page ≡ pages n
      → IfOk r (λ report. report.extents ≡ count_below 128 (λ e. is_there (places_of page e))) → IfOk r (λ report. report.free ≡ count_below 4096 (is_free_inode (part_of taken k) (places_of page))) → IfOk r (AreCounts taken pages es k)
  counted_ok n page (Ok report) at is extents free = counted n page report at is extents free
  counted_ok n page (Err e) at is extents free = _

  noted : (n : ℕ) (page : List ℕ) (xs ys : List Finding) → block_of es (suc k) ≡ Some n → page ≡ pages n → Gains (IsWrongIag taken k n page) xs ys → Gains (IsWrongIagIn taken pages es k) xs ys
  noted n page xs ys at is g =
      gains_as (IsWrongIag taken k n page) (IsWrongIagIn taken pages es k) xs ys g
      (λ f p. record { page = n; stands = at; wrong = subst (λ (z : List ℕ). IsWrongIag taken k n z f) is p })
      (λ f p.
      let e : p.page ≡ n = (let s = p.stands in cc) in
      subst (λ (z : List ℕ). IsWrongIag taken k n z f) (ap pages e ∙ sym is) (subst (λ (m : ℕ). IsWrongIag taken k m (pages p.page) f) e p.wrong))

  pub noted_ok : (n : ℕ) (page : List ℕ) (xs ys : List Finding) (r : Result IagReport ReadError) → block_of es (suc k) ≡ Some n → page ≡ pages n
      → IfOk r (λ report. Gains (IsWrongIag taken k n page) xs ys) → IfOk r (λ report. Gains (IsWrongIagIn taken pages es k) xs ys)
  noted_ok n page xs ys (Ok report) at is g = noted n page xs ys at is g
  noted_ok n page xs ys (Err e) at is g = _

  -- one without a block
  nothing : (i width : ℕ) → little_from i width [] ≡ 0
  nothing i zero = refl
  nothing i (suc width) = let rest = nothing (suc i) width in omega (arith, rest)

  no_field : (at width : ℕ) → field_of [] at width ≡ 0
  unfolding field_of
  no_field at width = nothing at width

  no_place : (e : ℕ) → e < 128 → block_of es (suc k) ≡ None → is_there (extent_in pages es (128 * k + e)) ≡ false
  no_place e h at =
      let quotient : (128 * k + e) / 128 ≡ k = omega (arith, h) in
      let rest : (128 * k + e) % 128 ≡ e = omega (arith, h) in
      let one = no_field (3072 + 8 * e) 4 in
      let two = no_field (3072 + 8 * e + 4) 4 in
      rw (quotient, rest, at, one, two) refl

  pub none_counted : (report : IagReport) → report.extents ≡ 0 → report.free ≡ 0 → block_of es (suc k) ≡ None → AreCounts taken pages es k report
  none_counted report extents free at = record {
    extents = extents ∙ sym (count_below-nothing 128 (λ e. is_there (extent_in pages es (128 * k + e))) (λ e h. no_place e h at));
    free = free ∙ sym (count_below-nothing 4096 (λ i. is_free_inode taken (extent_in pages es) (4096 * k + i)) (λ i h. free_at i ∙ ap (λ (b : Bool). b && not (part_of taken k i)) (no_place (i / 32) (omega (arith, h)) at)));
  }

-- the same by extents that have the same block there
module _ (taken : ℕ → Bool) (pages : ℕ → List ℕ) (es rest : List Xad) (k : ℕ) where
  extent_by : (e : ℕ) → e < 128 → block_of rest (suc k) ≡ block_of es (suc k) → extent_in pages rest (128 * k + e) ≡ extent_in pages es (128 * k + e)
  extent_by e h same =
      let quotient : (128 * k + e) / 128 ≡ k = omega (arith, h) in
      rw (quotient, same) refl

  pub counts_by : (report : IagReport) → block_of rest (suc k) ≡ block_of es (suc k) → AreCounts taken pages rest k report → AreCounts taken pages es k report
  counts_by report same c = record {
    extents = c.extents ∙ count_below-same 128 (λ e. is_there (extent_in pages rest (128 * k + e))) (λ e. is_there (extent_in pages es (128 * k + e))) (λ e h. ap is_there (extent_by e h same));
    free = c.free ∙ count_below-same 4096 (λ i. is_free_inode taken (extent_in pages rest) (4096 * k + i)) (λ i. is_free_inode taken (extent_in pages es) (4096 * k + i)) (λ i h.
        free_at taken pages rest k i ∙ ap (λ (b : Bool). b && not (part_of taken k i)) (ap is_there (extent_by (i / 32) (omega (arith, h)) same)) ∙ sym (free_at taken pages es k i));
  }

  pub gains_by : (xs ys : List Finding) → block_of rest (suc k) ≡ block_of es (suc k) → Gains (IsWrongIagIn taken pages rest k) xs ys → Gains (IsWrongIagIn taken pages es k) xs ys
  gains_by xs ys same g =
      gains_as (IsWrongIagIn taken pages rest k) (IsWrongIagIn taken pages es k) xs ys g
      (λ f p. record { page = p.page; stands = sym same ∙ p.stands; wrong = p.wrong })
      (λ f p. record { page = p.page; stands = same ∙ p.stands; wrong = p.wrong })

-- ---- all IAGs

module _ (taken : ℕ → Bool) (pages : ℕ → List ℕ) (es : List Xad) where
  pub no_totals : AreTotals taken pages es 0 0 0
  no_totals = record { extents_are = sym (count_below-none (λ e. is_there (extent_in pages es e))); free_are = sym (count_below-none (is_free_inode taken (extent_in pages es))) }

  pub more_totals : (k extents free : ℕ) (report : IagReport) → AreTotals taken pages es k extents free → AreCounts taken pages es k report → AreTotals taken pages es (k + 1) (extents + report.extents) (free + report.free)
  more_totals k extents free report t c = record {
    extents_are = ap₂ (λ (a b : ℕ). a + b) t.extents_are c.extents ∙ sym (count-next 128 k (λ e. is_there (extent_in pages es e)));
    free_are = ap₂ (λ (a b : ℕ). a + b) t.free_are c.free ∙ sym (count-next 4096 k (is_free_inode taken (extent_in pages es)));
  }

  pub no_iag : (xs : List Finding) → Gains (IsWrongIagBelow taken pages es 0) xs xs
  no_iag xs = gains_none (IsWrongIagBelow taken pages es 0) xs (λ f p. let l = p.below in absurd (omega (arith, l)))

  pub more_iags : (k : ℕ) (xs ys zs : List Finding) → Gains (IsWrongIagBelow taken pages es k) xs ys → Gains (IsWrongIagIn taken pages es k) ys zs → Gains (IsWrongIagBelow taken pages es (k + 1)) xs zs
  more_iags k xs ys zs g h =
      gains_then (IsWrongIagBelow taken pages es k) (IsWrongIagIn taken pages es k) (IsWrongIagBelow taken pages es (k + 1)) xs ys zs g h
      (λ f p. let l = p.below in record { at = p.at; below = omega (arith, l); wrong = p.wrong })
      (λ f p. record { at = k; below = omega arith; wrong = p })
      (λ f p. elim (cases_eq p.at k) [
        | inl e ↦ inr (subst (λ (i : ℕ). IsWrongIagIn taken pages es i f) e p.wrong)
        | inr other ↦ (let l = p.below in inl (record { at = p.at; below = omega (arith, l, other); wrong = p.wrong }))
      ])

-- the same, counted on an image that is the same
pub totals_go_on : (taken : ℕ → Bool) (image after : Image) (es : List Xad) (k extents free : ℕ) (report : IagReport) → after ≡ image → AreTotals taken (page_of image) es k extents free → AreCounts taken (page_of after) es k report
    → AreTotals taken (page_of image) es (k + 1) (extents + report.extents) (free + report.free)
totals_go_on taken image after es k extents free report same t c = more_totals taken (page_of image) es k extents free report t (subst (λ (z : Image). AreCounts taken (page_of z) es k report) same c)
