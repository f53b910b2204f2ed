-- Where an inode is, and whether it is in use, by its place in the map.
use Rattle.std.proofs.Common.{◌≡◌, ◌<◌, ◌≤◌, refl, sym, ap, ◌∙◌, subst, ℕ, ◌*◌, ◌/◌, ◌%◌, Bool, false, List, Some, None, Result, Ok, Err, IfOk, map, arith}
use Rattle.std.specs.List.{range_with_len}
use Rattle.std.proofs.lemmas.List.{get_or_past}
use Rattle.std.proofs.lemmas.List.FromFn.{length-map-range_with_len, get_or-map-range_with_len}
use Rattle.jfs_bits.specs.Field.{range_of}
use Rattle.jfs_bits.specs.Bits.{is_taken}
use Rattle.jfs_disk.specs.Image.{Image, page_of}
use Rattle.jfs_meaning.specs.objects.specs.Readers.{Readers}
use Rattle.jfs_meaning.specs.objects.specs.Volume.{home, page_in}
use Rattle.jfs_meaning.specs.objects.specs.Image.{iags_on, iag_page, extent_on, extents_on, is_inode_used}
use Rattle.jfs_meaning.specs.Readers.{readers}
use Rattle.jfs_reader.specs.Map.{IsInodeMap}
use Rattle.jfs_reader.specs.declared.error.ReadError.{ReadError}
use Rattle.jfs_reader.specs.declared.map.InodeMap.{InodeMap}

module _ (r : Readers) (page : ℕ → List ℕ) (n : ℕ) where
  pub home_past : iags_on r page ≤ n / 4096 → home (extents_on r page) n ≡ None
  unfolding extents_on
  home_past h = ap (λ o. page_in o n) (get_or_past (map (extent_on r page) (range_with_len 0 (128 * iags_on r page))) (n / 32) None (let e = length-map-range_with_len (extent_on r page) 0 (128 * iags_on r page) in omega (arith, e, h)))

  pub home_there : n / 4096 < iags_on r page → home (extents_on r page) n ≡ page_in (extent_on r page (n / 32)) n
  unfolding extents_on
  home_there h = ap (λ o. page_in o n) (get_or-map-range_with_len (extent_on r page) 0 (128 * iags_on r page) (n / 32) (n / 32) None (omega (arith, h)) (omega arith))

  pub unused : home (extents_on r page) n ≡ None → is_inode_used r page n ≡ false
  unfolding is_inode_used
  unused e = rw e refl

  pub marked : (p : ℕ) → home (extents_on r page) n ≡ Some p → is_inode_used r page n ≡ is_taken (range_of (iag_page r page (n / 4096)) 2560 512) (n % 4096)
  unfolding is_inode_used
  marked p e = rw e refl

-- the bit was read after the place
pub used_is : (blocks now : ℕ) (image after : Image) (map : InodeMap) (n p : ℕ) (used : Bool) → now ≡ blocks → after ≡ image
    → (IsInodeMap (readers now) (page_of after) map → used ≡ is_taken (range_of (iag_page (readers now) (page_of after) (n / 4096)) 2560 512) (n % 4096))
    → IsInodeMap (readers blocks) (page_of image) map → Some p ≡ home (extents_on (readers blocks) (page_of image)) n → used ≡ is_inode_used (readers blocks) (page_of image) n
used_is blocks now image after map n p used same whole bit is at =
    subst (λ (i : Image). (IsInodeMap (readers blocks) (page_of i) map → used ≡ is_taken (range_of (iag_page (readers blocks) (page_of i) (n / 4096)) 2560 512) (n % 4096))) whole
    (subst (λ (b : ℕ). (IsInodeMap (readers b) (page_of after) map → used ≡ is_taken (range_of (iag_page (readers b) (page_of after) (n / 4096)) 2560 512) (n % 4096))) same bit) is
    ∙ sym (marked (readers blocks) (page_of image) n p (sym at))

pub used_after : (blocks now : ℕ) (image after : Image) (map : InodeMap) (n p : ℕ) (r : Result Bool ReadError) → now ≡ blocks → after ≡ image
    → IfOk r (λ used. IsInodeMap (readers now) (page_of after) map → used ≡ is_taken (range_of (iag_page (readers now) (page_of after) (n / 4096)) 2560 512) (n % 4096))
    → (IsInodeMap (readers blocks) (page_of image) map → Some p ≡ home (extents_on (readers blocks) (page_of image)) n)
    → IfOk r (λ used. IsInodeMap (readers blocks) (page_of image) map → used ≡ is_inode_used (readers blocks) (page_of image) n)
used_after blocks now image after map n p (Ok used) same whole bit at = λ is. used_is blocks now image after map n p used same whole bit is (at is)
used_after blocks now image after map n p (Err e) same whole bit at = _
