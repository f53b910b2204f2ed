-- Pages before the log that are the image's, or those that a mount writes.
use Rattle.std.proofs.Common.{◌≡◌, ◌<◌, ◌+◌, ◌^◌, ℕ, suc, List, [], length, take, true, sym, ap, subst, ◌∙◌, arith}
use Rattle.std.proofs.Math.Path.{fun_ext}
use Rattle.std.proofs.lemmas.List.{length-take, get_or-take, get_or-set_same}
use Rattle.jfs_bits.proofs.Parts.{length-range_of}
use Rattle.jfs_bits.proofs.SameMaps.{word-below}
use Rattle.jfs_bits.specs.Descriptor.{pxd_of, FitsPxd}
use Rattle.jfs_bits.specs.Field.{field_of, AreBytes}
use Rattle.jfs_disk.specs.Image.{Image, page_of}
use Rattle.jfs_super.specs.Geometry.{IsLayout, geometry_of}
use Rattle.jfs_super.specs.Rules.{blocks_of}
use Rattle.jfs_super.specs.Super.{super_of, FitsSuper}
use Rattle.jfs_super.specs.declared.fields.Super.{Super}
use Rattle.jfs_super.specs.declared.fields.TheConstants.VolumeState.{MOUNTED}
use Rattle.jfs_super.proofs.ReadBack.{InRange, super_of-puts}
use Rattle.jfs_super.proofs.Rules.{accepted_layout, accepted_log, accepted_pages}
use Rattle.jfs_legal.specs.served.specs.mounted.specs.Crashes.{HasArrays}
use Rattle.jfs_legal.specs.served.specs.mounted.proofs.Marked.{area_there, used_below, still_consistent, same_tree}
use Rattle.jfs_legal.specs.served.specs.mounted.specs.mount_disk.specs.Begun.{marked, marked_page}
use Rattle.jfs_legal.specs.served.specs.plain.specs.Moves.{Same}
use Rattle.jfs_legal.specs.served.specs.shown.specs.kinds.specs.Images.{IsSameVolume}
use Rattle.jfs_legal.specs.served.specs.shown.specs.meaning.specs.Consistent.{IsConsistent}
use Rattle.jfs_legal.specs.served.specs.shown.specs.meaning.specs.Image as meaning
use Rattle.jfs_legal.specs.served.specs.shown.specs.meaning.specs.Readers.{readers}
use Rattle.jfs_legal.specs.served.specs.shown.specs.meaning.specs.Tree.{tree_on}
use Rattle.jfs_legal.specs.served.specs.shown.specs.objects.specs.Readers.{Readers}
use Rattle.jfs_legal.specs.served.specs.shown.specs.objects.specs.Volume.{Volume}
use Rattle.jfs_mounted_maps.proofs.Rules.{past, same_volume, whole_files}
use Rattle.jfs_kept_history.specs.Keepable.{IsKeepableImage}
use Rattle.jfs_kept_history.specs.Failed.{IsAsBefore}

-- ---- numbers of bytes

byte_below : (page : List ℕ) (at : ℕ) → AreBytes page → field_of page at 1 < 256 ^ 1
unfolding field_of
byte_below page at bytes = omega (arith, bytes at)

half_below : (page : List ℕ) (at : ℕ) → AreBytes page → field_of page at 2 < 256 ^ 2
unfolding field_of
half_below page at bytes = omega (arith, bytes at, bytes (suc at))

long_below : (page : List ℕ) (at : ℕ) → AreBytes page → field_of page at 8 < 256 ^ 8
unfolding field_of
long_below page at bytes = omega (arith, bytes at, bytes (suc at), bytes (suc (suc at)), bytes (suc (suc (suc at))), bytes (suc (suc (suc (suc at)))), bytes (suc (suc (suc (suc (suc at))))), bytes (suc (suc (suc (suc (suc (suc at)))))), bytes (suc (suc (suc (suc (suc (suc (suc at))))))))

-- the fields of a page of bytes, in another state
module _ (page : List ℕ) (bytes : AreBytes page) (size : length page ≡ 4096) where
  abbrev read : Super
  read = super_of page

  pub arrays_of : HasArrays read
  arrays_of = record {
    fpack = length-range_of page 101 11 (omega (arith, size));
    uuid = length-range_of page 136 16 (omega (arith, size));
    label = length-range_of page 152 16 (omega (arith, size));
    loguuid = length-range_of page 168 16 (omega (arith, size));
  }

  pub in_range : InRange (record read { state = MOUNTED })
  in_range = record {
    magic = word-below page 0 bytes;
    version = word-below page 4 bytes;
    size = long_below page 8 bytes;
    bsize = word-below page 16 bytes;
    l2bsize = half_below page 20 bytes;
    l2bfactor = half_below page 22 bytes;
    pbsize = word-below page 24 bytes;
    l2pbsize = half_below page 28 bytes;
    agsize = word-below page 32 bytes;
    flag = word-below page 36 bytes;
    state = omega arith;
    compress = word-below page 44 bytes;
    logdev = word-below page 64 bytes;
    logserial = word-below page 68 bytes;
    sec = word-below page 88 bytes;
    nano = word-below page 92 bytes;
    fsckloglen = word-below page 96 bytes;
    fscklog = byte_below page 100 bytes;
    fpack = arrays_of.fpack;
    xsize = long_below page 112 bytes;
    uuid = arrays_of.uuid;
    label = arrays_of.label;
    loguuid = arrays_of.loguuid;
  }

  pub fits : FitsSuper (record read { state = MOUNTED })
  fits = record {
    ait2 = run 48;
    aim2 = run 56;
    log = run 72;
    fsck = run 80;
    xfsck = run 120;
    xlog = run 128;
  }
    where
      run : (at : ℕ) → FitsPxd (pxd_of page at)
      run at = let first = word-below page at bytes in let second = word-below page (at + 4) bytes in record { len = omega arith; addr = omega (arith, first, second) }

-- ---- a keepable image

module _ (s : Super) (image : Image) (c : IsKeepableImage s image) where
  pub layout : IsLayout (geometry_of s)
  layout = accepted_layout s (length image) c.accepted

  pub eight : 8 < s.logpxd.addr
  eight = let least = layout.least in let behind = layout.behind in omega (arith, least, behind)

  pub low_size : length (take s.logpxd.addr image) ≡ s.logpxd.addr
  low_size = let ends = accepted_log s (length image) c.accepted in omega (arith, length-take s.logpxd.addr image, ends)

  pub super_size : length (page_of image 8) ≡ 4096
  super_size = c.pages.sizes 8 (let many = accepted_pages s (length image) c.accepted in omega (arith, many))

  pub arrays : HasArrays s
  arrays = subst HasArrays c.superblock (arrays_of (page_of image 8) (c.bytes 8) super_size)

  -- the page that a mount writes is read back
  pub read_back : super_of (page_of (marked s (take s.logpxd.addr image)) 8) ≡ record s { state = MOUNTED }
  read_back =
      let low = take s.logpxd.addr image in
      let same : page_of low 8 ≡ page_of image 8 = get_or-take s.logpxd.addr image 8 [] eight in
      ap (λ (page : List ℕ). super_of page) (get_or-set_same low 8 (marked_page s (page_of low 8)) [] (omega (arith, eight, low_size)))
      ∙ super_of-puts (record s { state = MOUNTED }) (page_of low 8)
      (subst (λ (u : Super). InRange (record u { state = MOUNTED })) c.superblock (in_range (page_of image 8) (c.bytes 8) super_size))
      (subst (λ (u : Super). FitsSuper (record u { state = MOUNTED })) c.superblock (fits (page_of image 8) (c.bytes 8) super_size))
      (ap (λ (page : List ℕ). length page) same ∙ super_size)

  pub consistent : meaning.IsConsistentImage s (page_of image)
  consistent = c.keepable.consistent

  -- ---- pages before the log that stay

  module _ (left : Image) (stays : take s.logpxd.addr left ≡ take s.logpxd.addr image) where
    abbrev r : Readers
    r = readers (blocks_of s)

    abbrev v : Volume
    v = meaning.volume_of s (page_of image)

    page_stays : (b : ℕ) → b < s.logpxd.addr → page_of left b ≡ page_of image b
    page_stays b small = sym (get_or-take s.logpxd.addr left b [] small) ∙ ap (λ (im : Image). page_of im b) stays ∙ get_or-take s.logpxd.addr image b [] small

    within : (b : ℕ) → b < blocks_of s → page_of left b ≡ page_of image b
    within b below = page_stays b (let behind = layout.behind in omega (arith, below, behind))

    same : (b : ℕ) → b < blocks_of s → (b ≡ 8 → ⊥) → page_of left b ≡ page_of image b
    same b below other = within b below

    sets : IsSameVolume r v (meaning.volume_of s (page_of left))
    sets = same_volume s (page_of image) (page_of left) consistent.sound c.keepable.files same

    -- what it means is read from these pages
    with_pages : meaning.volume_of s (page_of left) ≡ record v { page = page_of left }
    with_pages = λ i. record { page = page_of left; extents = sets.extents i; area = fun_ext sets.area i; used = fun_ext sets.used i; in_use = fun_ext sets.in_use i }

    keeps : (b : ℕ) → (b ≡ 8 → ⊥) → v.used b ≡ true → page_of left b ≡ page_of image b
    keeps b other used = within b (used_below r (page_of image) (blocks_of s) b used)

    first : 0 < v.area 8
    first = area_there r s.ait2 s.aim2 (page_of image)

    pub as_before : IsAsBefore s image left
    as_before = record {
      superblock = ap (λ (page : List ℕ). super_of page) (page_stays 8 eight) ∙ c.superblock;
      keepable = record {
        consistent = subst (λ (x : Volume). IsConsistent r x) (sym with_pages) (still_consistent r v consistent.sound first (page_of left) keeps consistent);
        files = whole_files s (page_of image) (page_of left) consistent.sound c.keepable.files same;
        past = past s (page_of image) (page_of left) consistent.sound c.keepable.files same c.keepable.past;
      };
      tree = subst (λ (x : Volume). Same (tree_on r v) (tree_on r x)) (sym with_pages) (same_tree r v consistent.sound first (page_of left) keeps);
    }
