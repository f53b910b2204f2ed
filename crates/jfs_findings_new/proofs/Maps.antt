-- The maps of a new volume, as a check looks at them.
use Rattle.std.proofs.Common.{◌≡◌, ◌<◌, refl, sym, ap, ◌∙◌, ℕ, zero, suc, ◌+◌, ◌-◌, ◌*◌, ◌/◌, ◌%◌, false, nat_lt, List, get_or, replicate, arith}
use Rattle.std.proofs.lemmas.Bool.Decides.{nat_tests}
use Rattle.std.proofs.lemmas.List.FromFn.{get_or-map-range_with_len}
use Rattle.jfs_bits.specs.Bits.{is_in_run}
use Rattle.jfs_bits.specs.Descriptor.{pxd_of}
use Rattle.jfs_disk.specs.Image.{Image, page_of}
use Rattle.jfs_iag.specs.Iag.{no_run}
use Rattle.jfs_iag.specs.declared.canonical.Links.{Links}
use Rattle.jfs_iag.specs.Canonical.{IsIagPage}
use Rattle.jfs_new_volume.specs.imap.specs.Inodes.{is_used, extent_at}
use Rattle.jfs_new_volume.specs.objects.specs.Readers.{Readers}
use Rattle.jfs_new_volume.specs.objects.specs.Image.{file_page, iag_page}
use Rattle.jfs_new_volume.specs.format.specs.Layout.{IsLayout, inode_map, map_pages}
use Rattle.jfs_new_volume.specs.format.specs.Inodes.{in_use}
use Rattle.jfs_new_volume.specs.format.specs.Volume.{inodes_in, IsNewVolume}
use Rattle.jfs_new_volume.specs.format.specs.declared.tables.Table.TheVariants.{Fileset}
use Rattle.jfs_new_volume.specs.format.specs.declared.volume.NewVolume.{NewVolume}
use Rattle.jfs_new_volume.specs.Roots.{ReadsRoots}
use Rattle.jfs_new_volume.proofs.Files.{page_is}

module _ (r : Readers) (pages : ℕ) (v : NewVolume) (image : Image) (layout : IsLayout pages v.layout) (roots : ReadsRoots r v.layout.blocks) (is : IsNewVolume v image) where
  pub map_page : (j : ℕ) → j < map_pages v.layout → file_page r (page_of image) 2 j ≡ page_of image (16 + j)
  map_page j l = page_is r v image roots is 2 (record { len = map_pages v.layout; addr = 16 }) (omega arith) (omega arith) (let w = layout.within in omega (arith, w)) refl j l

  pub inode_page : (j : ℕ) → j < 1 + v.layout.iags → file_page r (page_of image) 16 j ≡ page_of image (inode_map v.layout + j)
  inode_page j l = page_is r v image roots is 16 (record { len = 1 + v.layout.iags; addr = inode_map v.layout }) (omega arith) (omega arith) (let w = layout.within in omega (arith, w)) refl j l

  pub some_iags : 0 < v.layout.iags
  some_iags = let e = layout.each_group in let g = layout.some_groups in omega (arith, e, g)

  pub on_iag : (k : ℕ) → k < v.layout.iags → (links : Links) × IsIagPage (λ i. is_used (inodes_in Fileset v.layout) (4096 * k + i)) (λ e. extent_at (inodes_in Fileset v.layout) (128 * k + e)) k (k % v.layout.groups * v.layout.agsize) links (page_of image (inode_map v.layout + suc k))
  on_iag k l = let p = (is.rest.inode_map (suc k) (omega (arith, l))).iag k (omega arith) in (p.0, p.2)

  pub used_is : (n : ℕ) → n < 4096 * v.layout.iags → is_used (inodes_in Fileset v.layout) n ≡ nat_lt n 4
  used_is n l = get_or-map-range_with_len (in_use Fileset) 0 (4096 * v.layout.iags) n n false l (omega arith) ∙ low n
    where
      low : (n : ℕ) → is_in_run 0 4 n ≡ nat_lt n 4
      low n = grind (arith, nat_tests)

  pub extent_is : (e : ℕ) → e < 128 * v.layout.iags → pxd_of (iag_page r (page_of image) (e / 128)) (3072 + 8 * (e % 128)) ≡ extent_at (inodes_in Fileset v.layout) e
  extent_is e l =
      let k : e / 128 < v.layout.iags = omega (arith, l) in
      let page = (on_iag (e / 128) k).1 in
      let same : 128 * (e / 128) + e % 128 ≡ e = omega arith in
      ap (λ (p : List ℕ). pxd_of p (3072 + 8 * (e % 128))) (inode_page (suc (e / 128)) (omega (arith, k)))
      ∙ sym (page.held.inoext (e % 128) (omega arith))
      ∙ page.canonical.inoext (e % 128) (omega arith)
      ∙ ap (extent_at (inodes_in Fileset v.layout)) same

  no_run_at : (n i : ℕ) → get_or (replicate n no_run) i no_run ≡ no_run
  no_run_at zero i = refl
  no_run_at (suc n) zero = refl
  no_run_at (suc n) (suc i) = no_run_at n i

  pub later_extent : (e : ℕ) → extent_at (inodes_in Fileset v.layout) (suc e) ≡ no_run
  later_extent e = no_run_at (128 * v.layout.iags - 1) e
