-- The inode map's bits are those of the inodes in use, where its pages are canonical in what is compared.
use Rattle.std.proofs.Common.{◌≡◌, ◌<◌, inl, inr, refl, sym, ap, ◌∙◌, ℕ, suc, ◌+◌, ◌*◌, ◌/◌, ◌%◌, Bool, true, false, not, ◌&&◌, ◌==◌, if◌then◌else◌, map, Option, Some, None, is_some, arith}
use Rattle.std.specs.List.{range_with_len}
use Rattle.std.proofs.lemmas.Bool.{cases_lt}
use Rattle.std.proofs.lemmas.List.FromFn.{get_or-map-range_with_len, length-map-range_with_len}
use Rattle.jfs_bits.specs.Bits.{is_taken}
use Rattle.jfs_bits.specs.Field.{range_of}
use Rattle.jfs_iag.specs.Canonical.{is_there}
use Rattle.jfs_mount.specs.objects.specs.Volume.{home, page_in}
use Rattle.jfs_mount.specs.objects.specs.Image.{iag_page, extent_on, extents_on, is_inode_used}
use Rattle.jfs_mount.specs.objects.proofs.Owned.{get_past}
use Rattle.jfs_mount.specs.objects.proofs.Found.{no_home}
use Rattle.jfs_mount.specs.Subject.{Subject, volume, object}
use Rattle.jfs_mount.specs.Mount.{iags, extent_at}
use Rattle.jfs_findings.specs.Maps.{IsInodeMapPage}

-- where an inode has a page, its extent is there
pub record HasExtent (s : Subject) (n : ℕ) : Type 0 where
  pub within : n / 32 < 128 * iags s
  pub there : is_there (extent_at s (n / 32)) ≡ true

place_there : (x : Bool) (first : ℕ) (n page : ℕ) → page_in (if x then None else Some first) n ≡ Some page → not x ≡ true
place_there true first n page e = absurd (cc e)
place_there false first n page e = refl

pub has_extent : (s : Subject) (n page : ℕ) → home (volume s).extents n ≡ Some page → HasExtent s n
unfolding extents_on
has_extent s n page h = elim (cases_lt (n / 32) (128 * iags s)) [
  | inl l ↦ record {
    within = l;
    there = place_there ((extent_at s (n / 32)).len == 0 && (extent_at s (n / 32)).addr == 0) (extent_at s (n / 32)).addr n page
        (sym (ap (λ o. page_in o n) (get_or-map-range_with_len (extent_on s.readers s.page) 0 (128 * iags s) (n / 32) (n / 32) None l (omega arith))) ∙ h);
  }
  | inr l ↦ absurd (none n page (sym (ap (λ o. page_in o n) (get_past (map (extent_on s.readers s.page) (range_with_len 0 (128 * iags s))) (n / 32) (let e = length-map-range_with_len (extent_on s.readers s.page) 0 (128 * iags s) in omega (arith, e, l)))) ∙ h))
]
  where
    none : (n page : ℕ) → page_in None n ≡ Some page → ⊥
    none n page e = cc e

module _ (s : Subject) (pages : (j : ℕ) → j < suc (iags s) → IsInodeMapPage s j) where
  bit_is : (n : ℕ) → HasExtent s n → is_taken (range_of (iag_page s.readers s.page (n / 4096)) 2560 512) (n % 4096) ≡ is_some (object s n)
  bit_is n h =
      let l : n / 4096 < iags s = (let w = h.within in omega (arith, w)) in
      let same_extent : 128 * (n / 4096) + n % 4096 / 32 ≡ n / 32 = omega arith in
      let same : 4096 * (n / 4096) + n % 4096 ≡ n = omega arith in
      (pages (suc (n / 4096)) (omega (arith, l))).pmap (n % 4096) (omega arith) (ap (λ e. is_there (extent_at s e)) same_extent ∙ h.there)
      ∙ ap (λ k. is_some (object s k)) same

  pub in_use_is : (n : ℕ) → (volume s).in_use n ≡ is_some (object s n)
  unfolding is_inode_used
  in_use_is n = by (home (volume s).extents n) refl
    where
      by : (o : Option ℕ) → home (volume s).extents n ≡ o → (is_some (home (volume s).extents n) && is_taken (range_of (iag_page s.readers s.page (n / 4096)) 2560 512) (n % 4096)) ≡ is_some (object s n)
      by None e = ap (λ o. is_some o && is_taken (range_of (iag_page s.readers s.page (n / 4096)) 2560 512) (n % 4096)) e ∙ sym (ap is_some (no_home s.readers (volume s) n e))
      by (Some page) e = ap (λ o. is_some o && is_taken (range_of (iag_page s.readers s.page (n / 4096)) 2560 512) (n % 4096)) e ∙ bit_is n (has_extent s n page e)
