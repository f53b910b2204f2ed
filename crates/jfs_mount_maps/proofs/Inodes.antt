-- The inode map of a volume that is to be mounted.
use Rattle.std.proofs.Common.{◌≡◌, ◌⊎◌, ◌<◌, ◌≤◌, refl, sym, ap, ap₂, ◌∙◌, ℕ, ◌+◌, ◌*◌, ◌^◌, Bool, true, ◌&&◌, List, length, map, inl, inr, Option, Some, None, is_some, get_or, arith, rules}
use Rattle.std.proofs.lemmas.Bool.{cases_lt}
use Rattle.std.proofs.lemmas.List.{get_or-map, get_or_past, length-map}
use Rattle.jfs_bits.specs.Bits.{is_taken}
use Rattle.jfs_bits.specs.declared.descriptor.Pxd.{Pxd}
use Rattle.jfs_bits.specs.Descriptor.{FitsPxd}
use Rattle.jfs_disk.specs.Image.{Image, page_of}
use Rattle.jfs_super.specs.Geometry.{geometry_of}
use Rattle.jfs_super.specs.declared.fields.Geometry.{Geometry}
use Rattle.jfs_super.specs.declared.fields.Super.{Super}
use Rattle.jfs_iag.specs.Iag.{no_run}
use Rattle.jfs_iag.specs.Canonical.{is_there}
use Rattle.jfs_imap.specs.Inodes.{Inodes, inodes_of, extent_at, bits_of}
use Rattle.jfs_bmap.specs.Set.{each_below}
use Rattle.jfs_bmap.proofs.Views.{each_below-same}
use Rattle.jfs_sets.specs.objects.specs.Volume.{home}
use Rattle.jfs_sets.specs.each.specs.Each.{AllFit}
use Rattle.jfs_sets.specs.mount_rules.specs.Subject.{subject_of, volume}
use Rattle.jfs_sets.specs.mount_rules.specs.Mount.{iags}
use Rattle.jfs_sets.specs.mount_rules.specs.Steps.{AreRead}
use Rattle.jfs_sets.specs.mount_rules.specs.declared.maps.Maps.{Maps}
use Rattle.jfs_sets.specs.Sets.{AreUsedInodes, extent_from}
use Rattle.jfs_claim.specs.way.specs.Volume.{PlacesWithin}
use Rattle.jfs_mount_maps.specs.Maps.{inodes_on, groups_of}

-- ---- extents

-- the extents at places that fit lie within the volume
pub places_within : (blocks : ℕ) (places : List (Option ℕ)) (m : Inodes) → m.extents ≡ map extent_from places → AllFit blocks places → PlacesWithin blocks m
places_within blocks places m is fit e there = by (cases_lt e (length places))
  where
    at : (o : Option ℕ) → get_or places e None ≡ o → is_there (extent_from o) ≡ true → (extent_from o).addr + 4 ≤ blocks
    at None is h = absurd (cc (h))
    at (Some first) is h = fit e first is

    by : (e < length places) ⊎ (length places ≤ e) → (extent_at m e).addr + 4 ≤ blocks
    by (inl l) =
        let here : extent_at m e ≡ extent_from (get_or places e None) = ap (λ (xs : List Pxd). get_or xs e no_run) is ∙ get_or-map extent_from places e None no_run l in
        rw here (at (get_or places e None) refl (sym (ap is_there here) ∙ there))
    by (inr l) =
        let past : extent_at m e ≡ no_run = ap (λ (xs : List Pxd). get_or xs e no_run) is ∙ get_or_past (map extent_from places) e no_run (let n = length-map places extent_from in omega (arith, n, l)) in
        absurd (cc (there, past))

-- and have fields of their sizes
pub extents_fit : (blocks : ℕ) (places : List (Option ℕ)) (e : ℕ) → blocks ≤ 2 ^ 23 → AllFit blocks places → e < length places → FitsPxd (get_or (map extent_from places) e no_run)
extents_fit blocks places e most fit l = rw (get_or-map extent_from places e None no_run l) (by (get_or places e None) refl)
  where
    by : (o : Option ℕ) → get_or places e None ≡ o → FitsPxd (extent_from o)
    by None is = search rules
    by (Some first) is = let f = fit e first is in search (rules, f, most)

-- ---- the set

-- the bits that were read, without those of inodes that have no place, make the image's inodes
pub inodes_are : (s : Super) (layout : Geometry) (image : Image) (maps : Maps) (places : List (Option ℕ)) (set kept : List ℕ) → geometry_of s ≡ layout → AreUsedInodes image maps set
    → AreRead (subject_of s (page_of image)) maps → places ≡ (volume (subject_of s (page_of image))).extents → length places ≡ 128 * maps.inodes.iags
    → ((n : ℕ) → n < 32 * length places → is_taken kept n ≡ (is_some (home places n) && is_taken set n))
    → inodes_of kept (map extent_from places) maps.inodes.iags layout.agsize (groups_of layout) ≡ inodes_on (subject_of s (page_of image))
inodes_are s layout image maps places set kept geo used read is size bits =
    let sub = subject_of s (page_of image) in
    let had = (used s read).in_use in
    let bit : (n : ℕ) → n < 4096 * maps.inodes.iags → is_taken kept n ≡ (volume sub).in_use n =
    λ n l. bits n (omega (arith, size, l)) ∙ ap (λ (xs : List (Option ℕ)). is_some (home xs n) && is_taken set n) is ∙ sym (had n l) in
    let taken : bits_of (4096 * maps.inodes.iags) kept ≡ each_below (4096 * iags sub) (volume sub).in_use =
    each_below-same (4096 * maps.inodes.iags) (is_taken kept) (volume sub).in_use bit ∙ ap (λ (n : ℕ). each_below (4096 * n) (volume sub).in_use) (sym read.inodes.iags) in
    ap (λ (xs : List Bool). record { taken = xs; extents = map extent_from places; iags = maps.inodes.iags; agsize = layout.agsize; numag = groups_of layout }) taken
    ∙ ap (λ (es : List (Option ℕ)). record { taken = each_below (4096 * iags sub) (volume sub).in_use; extents = map extent_from es; iags = maps.inodes.iags; agsize = layout.agsize; numag = groups_of layout }) is
    ∙ ap₂ (λ (n : ℕ) (g : Geometry). record { taken = each_below (4096 * iags sub) (volume sub).in_use; extents = map extent_from (volume sub).extents; iags = n; agsize = g.agsize; numag = groups_of g }) (sym read.inodes.iags) (sym geo)
