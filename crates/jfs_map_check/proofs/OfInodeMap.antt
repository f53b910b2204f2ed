-- What is wrong with the pages of the inode map's file are the volume's findings of the inode map.
use Rattle.std.proofs.Common.{◌≡◌, ◌<◌, ◌+◌, ◌*◌, ◌/◌, ◌%◌, ◌⊎◌, ◌&&◌, ℕ, zero, suc, Bool, not, inl, inr, List, Option, Some, None, is_some, refl, sym, ap, ap₂, subst, ◌∙◌, arith}
use Rattle.std.specs.Option.{option_map}
use Rattle.jfs_bits.specs.declared.extent.Xad.{Xad}
use Rattle.jfs_bits.specs.Bits.{is_taken, count_below}
use Rattle.jfs_bits.specs.Field.{field_of}
use Rattle.jfs_bits.proofs.Counts.{count_below-same}
use Rattle.jfs_disk.specs.Image.{Image, page_of}
use Rattle.jfs_super.specs.declared.fields.Super.{Super}
use Rattle.jfs_iag.specs.Canonical.{is_there, is_free_inode}
use Rattle.jfs_iag.specs.Laws.{AreSame}
use Rattle.jfs_findings.specs.objects.specs.Contents.{block_of}
use Rattle.jfs_findings.specs.objects.specs.Image.{file_extents, file_page}
use Rattle.jfs_findings.specs.mount_rules.specs.Subject.{Subject, object, IsFilePage, subject_of}
use Rattle.jfs_findings.specs.mount_rules.specs.Mount.{iags, extent_at}
use Rattle.jfs_findings.specs.Maps.{IsIagAs, IsInodeControlAs, IsInodeMapPage, IsBadInodeMap}
use Rattle.jfs_findings.specs.Findings.{Says}
use Rattle.jfs_findings.specs.Gains.{Gains}
use Rattle.jfs_findings.specs.declared.finding.Finding.{Finding}
use Rattle.jfs_findings.specs.declared.finding.FindingKind.{FindingKind}
use Rattle.jfs_findings.specs.declared.finding.FindingKind.TheVariants as kinds
use Rattle.jfs_map_check.specs.declared.inode_map.Control.{Control}
use Rattle.jfs_map_check.specs.Found.{finding}
use Rattle.jfs_map_check.specs.Inodes.{KnowsInodes, IsOfInodeMap, bytes_in, places_of, extent_in, part_of, IsWrongIagBelow, AreTotals, control_of, IsWrongControl}
use Rattle.jfs_map_check.proofs.Gaining.{gains_then}
use Rattle.jfs_map_check.proofs.Iags.{iag_same, turned}
use Rattle.jfs_map_check.proofs.OfBlockMap.{page_is}

module _ (s : Subject) (set : List ℕ) (used : (n : ℕ) → n < 4096 * iags s → is_taken set n ≡ is_some (object s n)) where
  abbrev in_use : ℕ → Bool
  in_use n = is_some (object s n)

  abbrev map_extents : List Xad
  map_extents = file_extents s.readers s.page 16

  bytes_are : (j : ℕ) → bytes_in s.page map_extents j ≡ file_page s.readers s.page 16 j
  unfolding file_page
  bytes_are j = refl

  extent_is : (e : ℕ) → extent_in s.page map_extents e ≡ extent_at s e
  extent_is e = ap (λ (p : List ℕ). places_of p (e % 128)) (bytes_are (suc (e / 128)))

  -- ---- an IAG

  same : (k n : ℕ) → k < iags s → IsFilePage s 16 (suc k) n → AreSame 1 (λ i. in_use (4096 * k + i)) (part_of (is_taken set) k) (λ e. extent_at s (128 * k + e)) (places_of (s.page n))
  same k n within at = record {
    inodes = λ i h. sym (used (4096 * k + i) (omega (arith, within, h)));
    extents = λ e h.
        let quotient : (128 * k + e) / 128 ≡ k = omega (arith, h) in
        let rest : (128 * k + e) % 128 ≡ e = omega (arith, h) in
        ap₂ (λ (a b : ℕ). places_of (file_page s.readers s.page 16 (suc a)) b) quotient rest ∙ ap (λ (p : List ℕ). places_of p e) (page_is s 16 (suc k) n at);
  }

  -- as it is compared, by the page that was read
  to_read : (k n : ℕ) → k < iags s → IsFilePage s 16 (suc k) n → IsInodeMapPage s (suc k) → IsIagAs (part_of (is_taken set) k) (places_of (s.page n)) k (s.page n)
  to_read k n within at c =
      iag_same (λ i. in_use (4096 * k + i)) (part_of (is_taken set) k) (λ e. extent_at s (128 * k + e)) (places_of (s.page n)) (same k n within at) k (s.page n)
      (subst (IsIagAs (λ i. in_use (4096 * k + i)) (λ e. extent_at s (128 * k + e)) k) (page_is s 16 (suc k) n at) c)

  from_read : (k n : ℕ) → k < iags s → IsFilePage s 16 (suc k) n → IsIagAs (part_of (is_taken set) k) (places_of (s.page n)) k (s.page n) → IsInodeMapPage s (suc k)
  from_read k n within at p =
      let one = λ (i : ℕ). in_use (4096 * k + i) in
      let place = λ (e : ℕ). extent_at s (128 * k + e) in
      subst (IsIagAs (λ i. in_use (4096 * k + i)) (λ e. extent_at s (128 * k + e)) k) (sym (page_is s 16 (suc k) n at))
      (iag_same (part_of (is_taken set) k) one (places_of (s.page n)) place (turned one (part_of (is_taken set) k) place (places_of (s.page n)) (same k n within at)) k (s.page n) p)

  to_iag : (f : Finding) → IsWrongIagBelow (is_taken set) s.page map_extents (iags s) f → IsOfInodeMap s f
  to_iag f p =
      let k = p.at in
      let n = p.wrong.page in
      let within = p.below in
      let at = p.wrong.stands in
      let bad : IsBadInodeMap s n = (suc k, omega (arith, within), at, λ c. p.wrong.wrong.differs (to_read k n within at c)) in
      subst (IsOfInodeMap s) (sym p.wrong.wrong.is) (refl, (bad, refl))

  -- ---- the control page

  module _ (told : Option Control) (extents free : ℕ) (is_told : told ≡ control_of s.page map_extents) (totals : AreTotals (is_taken set) s.page map_extents (iags s) extents free) where
    extents_are : extents ≡ count_below (128 * iags s) (λ e. is_there (extent_at s e))
    extents_are = totals.extents_are ∙ count_below-same (128 * iags s) (λ e. is_there (extent_in s.page map_extents e)) (λ e. is_there (extent_at s e)) (λ e h. ap is_there (extent_is e))

    free_are : free ≡ count_below (4096 * iags s) (is_free_inode in_use (extent_at s))
    free_are = totals.free_are ∙ count_below-same (4096 * iags s) (is_free_inode (is_taken set) (extent_in s.page map_extents)) (is_free_inode in_use (extent_at s))
        (λ i h. ap₂ (λ (a b : Bool). a && not b) (ap is_there (extent_is (i / 32))) (used i h))

    abbrev control_on : ℕ → Control
    control_on n = record { page = n; inodes = field_of (s.page n) 8 4; free = field_of (s.page n) 12 4 }

    -- as it is compared, by the numbers that were read
    numbers : (n : ℕ) → IsFilePage s 16 0 n → IsInodeMapPage s 0 → (field_of (s.page n) 8 4 ≡ 32 * extents) × (field_of (s.page n) 12 4 ≡ free)
    numbers n at c =
        let p = subst (IsInodeControlAs in_use (extent_at s) (iags s)) (page_is s 16 0 n at) c in
        (p.numinos ∙ ap (λ (m : ℕ). 32 * m) (sym extents_are), p.numfree ∙ sym free_are)

    from_numbers : (n : ℕ) → IsFilePage s 16 0 n → (field_of (s.page n) 8 4 ≡ 32 * extents) × (field_of (s.page n) 12 4 ≡ free) → IsInodeMapPage s 0
    from_numbers n at e =
        subst (IsInodeControlAs in_use (extent_at s) (iags s)) (sym (page_is s 16 0 n at)) (record { numinos = e.0 ∙ ap (λ (m : ℕ). 32 * m) extents_are; numfree = e.1 ∙ free_are })

    stands : (c : Control) (o : Option ℕ) → block_of map_extents 0 ≡ o → option_map control_on o ≡ Some c → IsFilePage s 16 0 c.page × (c ≡ control_on c.page)
    stands c (Some n) at e = let same : control_on n ≡ c = cc in let page = ap (λ (z : Control). z.page) same in (at ∙ ap Some page, sym same ∙ ap control_on page)
    stands c None at e = absurd (cc e)

    to_control : (f : Finding) → IsWrongControl told extents free f → IsOfInodeMap s f
    to_control f p =
        let n = p.control.page in
        let there = stands p.control (block_of map_extents 0) refl (sym is_told ∙ p.there) in
        let bad : IsBadInodeMap s n = (
          0,
          omega arith,
          there.0,
          λ c.
              let e = numbers n there.0 c in
              p.differs (ap (λ (z : Control). z.inodes) there.1 ∙ e.0, ap (λ (z : Control). z.free) there.1 ∙ e.1),
        ) in
        subst (IsOfInodeMap s) (sym p.is) (refl, (bad, refl))

    -- ---- both

    from_page : (f : Finding) (j : ℕ) → f ≡ finding kinds.Iag f.page 0 → j < suc (iags s) → IsFilePage s 16 j f.page → (IsInodeMapPage s j → ⊥)
        → IsWrongIagBelow (is_taken set) s.page map_extents (iags s) f ⊎ IsWrongControl told extents free f
    from_page f zero is within at bad = inr (record {
      control = control_on f.page;
      there = is_told ∙ ap (option_map control_on) at;
      is = is;
      differs = λ e. bad (from_numbers f.page at e);
    })
    from_page f (suc k) is within at bad =
        let small : k < iags s = omega (arith, within) in
        inl (record {
          at = k;
          below = small;
          wrong = record { page = f.page; stands = at; wrong = record { is = is; differs = λ p. bad (from_read k f.page small at p) } };
        })

    from_finding : (f : Finding) → IsOfInodeMap s f → IsWrongIagBelow (is_taken set) s.page map_extents (iags s) f ⊎ IsWrongControl told extents free f
    from_finding f p =
        let h = subst (λ (k : FindingKind). Says s k f.page f.value) p.0 p.1 in
        let is : f ≡ finding kinds.Iag f.page 0 = ap (λ (k : FindingKind). finding k f.page f.value) p.0 ∙ ap (finding kinds.Iag f.page) h.1 in
        from_page f h.0.0 is h.0.1 h.0.2 h.0.3

    pub inode_map_gains : (xs ys zs : List Finding) → Gains (IsWrongIagBelow (is_taken set) s.page map_extents (iags s)) xs ys → Gains (IsWrongControl told extents free) ys zs → Gains (IsOfInodeMap s) xs zs
    inode_map_gains xs ys zs g h =
        gains_then (IsWrongIagBelow (is_taken set) s.page map_extents (iags s)) (IsWrongControl told extents free) (IsOfInodeMap s) xs ys zs g h to_iag to_control from_finding

-- what was found with the file's extents and so many IAGs, the IAGs on an image that is the same
pub of_inode_map : (super : Super) (image after : Image) (size number : ℕ) (set : List ℕ) (es : List Xad) (told : Option Control) (extents free : ℕ) (xs ys zs : List Finding) → after ≡ image → told ≡ control_of (page_of image) es
    → AreTotals (is_taken set) (page_of after) es number extents free → Gains (IsWrongIagBelow (is_taken set) (page_of after) es number) xs ys → Gains (IsWrongControl told extents free) ys zs
    → KnowsInodes (subject_of super (page_of image)) size number set es → Gains (IsOfInodeMap (subject_of super (page_of image))) xs zs
of_inode_map super image after size number set es told extents free xs ys zs same is totals g h k =
    let s = subject_of super (page_of image) in
    let pages = page_of image in
    let here = file_extents s.readers pages 16 in
    let totals_here = subst (λ (z : Image). AreTotals (is_taken set) (page_of z) es number extents free) same totals in
    let gains_here = subst (λ (z : Image). Gains (IsWrongIagBelow (is_taken set) (page_of z) es number) xs ys) same g in
    inode_map_gains s set k.used told extents free (is ∙ ap (control_of pages) (sym k.extents))
    (subst (λ (n : ℕ). AreTotals (is_taken set) pages here n extents free) (sym k.groups) (subst (λ (z : List Xad). AreTotals (is_taken set) pages z number extents free) (sym k.extents) totals_here))
    xs ys zs
    (subst (λ (n : ℕ). Gains (IsWrongIagBelow (is_taken set) pages here n) xs ys) (sym k.groups) (subst (λ (z : List Xad). Gains (IsWrongIagBelow (is_taken set) pages z number) xs ys) (sym k.extents) gains_here))
    h
