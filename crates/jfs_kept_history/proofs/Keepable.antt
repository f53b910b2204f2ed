-- An image on which a check finds nothing is keepable, and what a mount of a keepable one leaves.
use Rattle.std.proofs.Common.{◌≡◌, ◌⊎◌, ◌≤◌, ◌<◌, ◌^◌, ℕ, List, [], length, take, refl, sym, ap, subst, ◌∙◌, inl, inr, arith}
use Rattle.std.proofs.lemmas.Bool.{cases_eq}
use Rattle.std.proofs.lemmas.List.{length-set, length-take, get_or-take, get_or-set_same, get_or-set_other}
use Rattle.jfs_bits.proofs.Parts.{length-range_of}
use Rattle.jfs_bits.proofs.SameMaps.{word-below}
use Rattle.jfs_disk.specs.Image.{Image, page_of, ArePages}
use Rattle.jfs_super.specs.declared.fields.Super.{Super}
use Rattle.jfs_super.proofs.Rules.{accepted_layout, accepted_pages, accepted_log}
use Rattle.jfs_findings_new.specs.findings.proofs.BothWays.{clean_law}
use Rattle.jfs_legal.specs.served.specs.mounted.specs.Crashes.{HasArrays}
use Rattle.jfs_legal.specs.served.specs.mounted.proofs.Whole.{new_size}
use Rattle.jfs_mount_disk.specs.Begun.{marked, marked_page}
use Rattle.jfs_mounted_maps.proofs.Keepable.{keepable_law}
use Rattle.jfs_mounted_maps.specs.Keepable.{IsKeepableMount}
use Rattle.jfs_kept_history.specs.Keepable.{IsKeepableImage, CheckedLaw, MountLaw}

module _ (s : Super) (old : Image) (c : IsKeepableImage s old) where
  page_size : length (page_of old 8) ≡ 4096
  page_size = c.pages.sizes 8 (let many = accepted_pages s (length old) c.accepted in omega (arith, many))

  arrays : HasArrays s
  arrays = subst HasArrays c.superblock (record {
    fpack = length-range_of (page_of old 8) 101 11 (omega (arith, page_size));
    uuid = length-range_of (page_of old 8) 136 16 (omega (arith, page_size));
    label = length-range_of (page_of old 8) 152 16 (omega (arith, page_size));
    loguuid = length-range_of (page_of old 8) 168 16 (omega (arith, page_size));
  })

  pub uuid_size : length s.uuid ≡ 16
  uuid_size = arrays.uuid

  group : s.agsize < 2 ^ 32
  group = subst (λ (u : Super). u.agsize < 2 ^ 32) c.superblock (word-below (page_of old 8) 32 (c.bytes 8))

  abbrev low : Image
  low = take s.logpxd.addr old

  low_size : length low ≤ length old
  low_size = let n = length-take s.logpxd.addr old in omega (arith, n)

  eight : 8 < length low
  eight =
      let n = length-take s.logpxd.addr old in
      let layout = accepted_layout s (length old) c.accepted in
      let least = layout.least in
      let behind = layout.behind in
      let ends = accepted_log s (length old) c.accepted in
      omega (arith, n, least, behind, ends)

  same : (n : ℕ) → n < length low → page_of low n ≡ page_of old n
  same n small = get_or-take s.logpxd.addr old n [] (let k = length-take s.logpxd.addr old in omega (arith, k, small))

  sizes : (n : ℕ) → n < length low → length (page_of (marked s low) n) ≡ 4096
  sizes n small = by (cases_eq n 8)
    where
      whole : length (page_of low 8) ≡ 4096
      whole = ap (λ (page : List ℕ). length page) (same 8 eight) ∙ page_size

      by : (n ≡ 8) ⊎ (n ≡ 8 → ⊥) → length (page_of (marked s low) n) ≡ 4096
      by (inl e) = subst (λ (k : ℕ). length (page_of (marked s low) k) ≡ 4096) (sym e)
          (ap (λ (page : List ℕ). length page) (get_or-set_same low 8 (marked_page s (page_of low 8)) [] eight) ∙ new_size s (page_of low 8) arrays whole)
      by (inr other) = ap (λ (page : List ℕ). length page) (get_or-set_other low 8 n (marked_page s (page_of low 8)) [] other ∙ same n small) ∙ c.pages.sizes n (omega (arith, small, low_size))

  marked_pages : ArePages (length (marked s low)) (marked s low)
  marked_pages = record { number = refl; sizes = λ n small. sizes n (let k = length-set low 8 (marked_page s (page_of low 8)) in omega (arith, k, small)) }

  pub to_keep : (pages : Image) → pages ≡ marked s low → IsKeepableMount s old pages
  to_keep pages is = record {
    accepted = c.accepted;
    group = group;
    bytes = c.bytes;
    whole = subst (λ (image : Image). ArePages (length image) image) (sym is) marked_pages;
    keepable = c.keepable;
  }

pub mount_to_keep : (tells crashes : Type 0) → MountLaw tells crashes
mount_to_keep tells crashes t s old p log m c = to_keep s old c m.pages (m.marked t)

pub checked_law : CheckedLaw
checked_law s old c = record {
  superblock = c.superblock;
  accepted = c.accepted;
  pages = c.pages;
  bytes = c.bytes;
  keepable = keepable_law s (page_of old) (clean_law.sound s (length old) (page_of old) c.accepted c.clean);
}
