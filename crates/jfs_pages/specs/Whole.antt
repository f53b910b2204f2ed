-- For the prover: the pages that a cache gives, one by one.
use Rattle.std.specs.Prelude.{◌≡◌, ◌<◌, ◌≤◌, ℕ, List, [], length, Option, Some, None, unwrap_or}
use Rattle.std.proofs.Common.{refl, ap, ◌∙◌, arith}
use Rattle.std.proofs.lemmas.List.FromFn.{get_or-map-range_with_len}
use Rattle.jfs_disk.specs.Image.{Image, page_of, ArePages}
use Rattle.jfs_ranges.specs.View.{AreWhole}
use Rattle.jfs_pages.specs.declared.kept.Kept.{Kept}
use Rattle.jfs_pages.specs.Kept.{cached, shown, image_in}

pub page_of-image_in : (blocks : ℕ) (disk : Image) (kept : Kept) (n : ℕ) → n < blocks → page_of (image_in blocks disk kept) n ≡ shown disk kept n
page_of-image_in blocks disk kept n h = get_or-map-range_with_len (λ (k : ℕ). shown disk kept k) 0 blocks n n [] h (omega arith)

-- a page that was read has 4,096 bytes, and so has one of the disk
pub whole_in : (blocks count : ℕ) (disk : Image) (kept : Kept) → blocks ≤ count → ArePages count disk → AreWhole blocks (image_in blocks disk kept)
whole_in blocks count disk kept place pages n h =
    ap length (page_of-image_in blocks disk kept n h) ∙ either (cached kept n) (kept.sizes n)
  where
    either : (page : Option (List ℕ)) → ((bytes : List ℕ) → page ≡ Some bytes → length bytes ≡ 4096) → length (unwrap_or page (page_of disk n)) ≡ 4096
    either None size = pages.sizes n (omega arith)
    either (Some bytes) size = size bytes refl
