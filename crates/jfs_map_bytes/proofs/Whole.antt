-- Page by page of both files.
use Rattle.std.proofs.Common.{◌<◌, ◌≤◌, ◌+◌, ◌*◌, ◌%◌, ◌^◌, ℕ, zero, suc, Bool, arith}
use Rattle.std.proofs.lemmas.Nat.{mul-le, div-add-mod'}
use Rattle.jfs_bits.specs.declared.descriptor.Pxd.{Pxd}
use Rattle.jfs_iag.specs.Canonical.{in_inode_list, in_place_list}
use Rattle.jfs_bmap.specs.Pages.{leaf_ranks}
use Rattle.jfs_bmap.proofs.OnePage.{leaf_ranks-most}
use Rattle.jfs_map_bytes.specs.BlockMap.{numbers_of}
use Rattle.jfs_map_bytes.specs.InodeMap.{links_of, control_of}
use Rattle.jfs_map_bytes.specs.Laws.{BlockMapLaw, FitsInodeMap, InodeMapLaw}
use Rattle.jfs_map_bytes.proofs.Dmap.{dmap-is, dmap-bytes}
use Rattle.jfs_map_bytes.proofs.Control.{control-is, control-bytes}
use Rattle.jfs_map_bytes.proofs.First.{first-is, first-bytes}
use Rattle.jfs_map_bytes.proofs.Lists.{links-are, next_of-fits, previous_of-fits}
use Rattle.jfs_map_bytes.proofs.Iag.{FitsIag, iag-is, iag_of-bytes}
use Rattle.jfs_map_bytes.proofs.InodeControl.{inode_control-is, inode_control-bytes}

-- ---- the block map

pub block_pages : BlockMapLaw
block_pages blocks agsize zero taken fits h = record { bytes = first-bytes (numbers_of blocks agsize taken); canonical = first-is blocks agsize taken fits }
block_pages blocks agsize (suc zero) taken fits h = record { bytes = control-bytes 2 (λ v. 0); canonical = control-is 2 (λ v. 0) (omega arith) (λ v. omega arith) }
block_pages blocks agsize (suc (suc zero)) taken fits h = record { bytes = control-bytes 1 (λ v. 0); canonical = control-is 1 (λ v. 0) (omega arith) (λ v. omega arith) }
block_pages blocks agsize (suc (suc (suc zero))) taken fits h = record { bytes = control-bytes 0 (leaf_ranks taken); canonical = control-is 0 (leaf_ranks taken) (omega arith) (leaf_ranks-most taken) }
block_pages blocks agsize (suc (suc (suc (suc k)))) taken fits h =
    let most = fits.most in
    record { bytes = dmap-bytes blocks k taken; canonical = dmap-is blocks k taken (omega arith) }

-- ---- the inode map

mod-most : (n k : ℕ) → n % k ≤ n
mod-most n k = omega (arith, div-add-mod' n k)

links-fit : (taken : ℕ → Bool) (extent : ℕ → Pxd) (iags numag agsize k : ℕ) → FitsInodeMap extent iags numag agsize → k < iags → FitsIag (λ e. extent (128 * k + e)) k (k % numag * agsize) (links_of taken extent iags numag k)
unfolding links_of
links-fit taken extent iags numag agsize k fits within =
    let most = fits.most in
    let size = fits.group_size in
    record {
      iagnum = omega arith;
      agstart = omega (arith, mul-le (k % numag) agsize 65536 (2 ^ 32) (omega (arith, mod-most k numag)) (omega arith));
      inofreefwd = next_of-fits (in_inode_list taken extent numag (k % numag)) iags k within (omega arith);
      inofreeback = previous_of-fits (in_inode_list taken extent numag (k % numag)) k (omega arith);
      extfreefwd = next_of-fits (in_place_list extent numag (k % numag)) iags k within (omega arith);
      extfreeback = previous_of-fits (in_place_list extent numag (k % numag)) k (omega arith);
      extents = λ e h. fits.extents (128 * k + e) (omega arith);
    }

pub inode_pages : InodeMapLaw
inode_pages taken extent iags numag agsize zero fits h = record { bytes = inode_control-bytes (control_of taken extent iags numag); canonical = inode_control-is taken extent iags numag fits.most fits.groups }
inode_pages taken extent iags numag agsize (suc k) fits h = record {
  bytes = iag_of-bytes (λ i. taken (4096 * k + i)) (λ e. extent (128 * k + e)) k (k % numag * agsize) (links_of taken extent iags numag k);
  canonical = (
    links-are taken extent iags numag k (omega arith),
    iag-is (λ i. taken (4096 * k + i)) (λ e. extent (128 * k + e)) k (k % numag * agsize) (links_of taken extent iags numag k) (links-fit taken extent iags numag agsize k fits (omega arith)),
  );
}
