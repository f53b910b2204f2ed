-- The bytes of an IAG's page are the canonical page of its inodes and extents.
use Rattle.std.proofs.Common.{◌≡◌, ◌<◌, ◌≤◌, ◌+◌, ◌*◌, ◌/◌, ◌%◌, ◌^◌, not, ℕ, Bool, List, [], ◌∷◌, length, get_or, inl, refl, sym, ap, ◌∙◌, subst, arith}
use Rattle.std.proofs.lemmas.List.FromFn.{get_or-map-range_with_len}
use Rattle.byteorder.specs.Endian.{little_bytes}
use Rattle.jfs_bits.specs.Descriptor.{pxd_of, pxd_bytes, FitsPxd}
use Rattle.jfs_bits.specs.Field.{AreBytes, range_of}
use Rattle.jfs_bits.specs.Piece.{Piece, puts}
use Rattle.jfs_bits.specs.declared.descriptor.Pxd.{Pxd}
use Rattle.jfs_bits.proofs.Counts.{count_below-most}
use Rattle.jfs_bits.proofs.Descriptors.{pxd_of-range, pxd_of-bytes, length-pxd_bytes}
use Rattle.jfs_bits.proofs.Pieces.{AreLaidOut, length-puts, range_at-puts}
use Rattle.jfs_bits.proofs.Ranges.{range_of-put_other, range_of-within}
use Rattle.jfs_iag.specs.declared.iag.Iag.{Iag}
use Rattle.jfs_iag.specs.declared.canonical.Links.{Links}
use Rattle.jfs_iag.specs.Iag.{IsIag, FitsFront, front_of, no_run}
use Rattle.jfs_iag.specs.Canonical.{IsIagOf, IsIagPage, is_there, has_free, is_free_inode}
use Rattle.jfs_iag.proofs.Fronts.{iag-put, front-pad, front-size}
use Rattle.jfs_map_bytes.specs.Parts.{joined_below, zeros}
use Rattle.jfs_map_bytes.specs.InodeMap.{iag_of, extents_part, iag_bytes}
use Rattle.jfs_map_bytes.proofs.Bytes.{bytes-append, bytes-puts, bytes-little, bytes-zeros, length-zeros, range-zeros}
use Rattle.jfs_map_bytes.proofs.Joined.{HaveSize, length-joined, part-joined, bytes-joined, length-set, bytes-set, set-bit}

-- ---- the page of any fields

extents_size : (i : Iag) → HaveSize 8 (λ e. pxd_bytes (get_or i.inoext e no_run))
extents_size i e = length-pxd_bytes (get_or i.inoext e no_run)

record Held (i : Iag) (before page : List ℕ) : Type 0 where
  size : length page ≡ 4096
  before_is : (p n : ℕ) → p + n ≤ 3072 → range_of page p n ≡ range_of before p n
  extents : (e : ℕ) → e < 128 → pxd_of page (3072 + 8 * e) ≡ get_or i.inoext e no_run

held : (i : Iag) (before : List ℕ) → ((e : ℕ) → e < 128 → FitsPxd (get_or i.inoext e no_run)) → length before ≡ 4096 → Held i before (puts (extents_part i) before)
unfolding extents_part puts
held i before fits size =
    let parts : List Piece = extents_part i in
    let page : List ℕ = puts parts before in
    let extents : List ℕ = joined_below 128 (λ e. pxd_bytes (get_or i.inoext e no_run)) in
    let whole : length extents ≡ 1024 = length-joined 128 8 (λ e. pxd_bytes (get_or i.inoext e no_run)) (extents_size i) in
    let laid : AreLaidOut parts (length before) = record { places = (3072, 1024) ∷ []; placed = (refl, whole, tt); within = rw size refl; apart = refl } in
    let range : range_of page 3072 1024 ≡ extents = range_at-puts parts before 0 3072 1024 extents laid (refl, refl) whole in
    record {
      size = length-puts parts laid.places before laid.placed laid.within ∙ size;
      before_is = λ p n h. range_of-put_other p n 3072 extents before (omega (arith, whole, size)) (inl h);
      extents = λ e h.
          pxd_of-range page (3072 + 8 * e)
          ∙ ap (λ (z : List ℕ). pxd_of z 0) (sym (range_of-within page 3072 1024 (8 * e) 8 (omega arith)) ∙ ap (λ (z : List ℕ). range_of z (8 * e) 8) range ∙ part-joined 128 8 e (λ e. pxd_bytes (get_or i.inoext e no_run)) (extents_size i) h)
          ∙ pxd_of-bytes (get_or i.inoext e no_run) (fits e h);
    }

-- these bytes hold the fields, and zeros between them
pub record IsWhole (i : Iag) (page : List ℕ) : Type 0 where
  pub size : length page ≡ 4096
  pub held : IsIag i page
  pub pad : range_of page 72 1976 ≡ range_of zeros 72 1976

pub iag-held : (i : Iag) → FitsFront i → ((e : ℕ) → e < 128 → FitsPxd (get_or i.inoext e no_run)) → IsWhole i (iag_bytes i)
unfolding iag_bytes
iag-held i front fits =
    let before : List ℕ = puts (front_of i) zeros in
    let h = held i before fits (front-size i zeros front length-zeros) in
    record {
      size = h.size;
      held = iag-put i zeros (puts (extents_part i) before) front length-zeros h.before_is h.extents;
      pad = h.before_is 72 1976 (omega arith) ∙ front-pad i zeros front length-zeros;
    }

pxd-bytes : (p : Pxd) → AreBytes (pxd_bytes p)
unfolding pxd_bytes
pxd-bytes p = bytes-append (little_bytes 4 (p.len + p.addr / 2 ^ 32 * 2 ^ 24)) (little_bytes 4 (p.addr % 2 ^ 32)) (bytes-little 4 (p.len + p.addr / 2 ^ 32 * 2 ^ 24)) (bytes-little 4 (p.addr % 2 ^ 32))

-- the maps in it are bytes
pub record MapsAreBytes (i : Iag) : Type 0 where
  pub inosmap : AreBytes i.inosmap
  pub extsmap : AreBytes i.extsmap
  pub wmap : AreBytes i.wmap
  pub pmap : AreBytes i.pmap

pub iag-bytes : (i : Iag) → MapsAreBytes i → AreBytes (iag_bytes i)
unfolding iag_bytes extents_part front_of
iag-bytes i maps =
    bytes-puts (extents_part i) (puts (front_of i) zeros) (bytes-joined 128 (λ e. pxd_bytes (get_or i.inoext e no_run)) (λ e. pxd-bytes (get_or i.inoext e no_run)), tt)
    (bytes-puts (front_of i) zeros
    (bytes-little 8 i.agstart, (bytes-little 4 i.iagnum, (bytes-little 4 i.inofreefwd, (bytes-little 4 i.inofreeback, (bytes-little 4 i.extfreefwd, (bytes-little 4 i.extfreeback, (bytes-little 4 i.iagfree, (maps.inosmap, (maps.extsmap, (bytes-little 4 i.nfreeinos, (bytes-little 4 i.nfreeexts, (maps.wmap, (maps.pmap, tt))))))))))))) bytes-zeros)

-- ---- the fields of a set

-- what has a place on the page
pub record FitsIag (extent : ℕ → Pxd) (number start : ℕ) (links : Links) : Type 0 where
  pub iagnum : number < 2 ^ 32
  pub agstart : start < 2 ^ 64
  pub inofreefwd : links.inofreefwd < 2 ^ 32
  pub inofreeback : links.inofreeback < 2 ^ 32
  pub extfreefwd : links.extfreefwd < 2 ^ 32
  pub extfreeback : links.extfreeback < 2 ^ 32
  pub extents : (e : ℕ) → e < 128 → FitsPxd (extent e)

extent-is : (taken : ℕ → Bool) (extent : ℕ → Pxd) (number start e : ℕ) (links : Links) → e < 128 → get_or (iag_of taken extent number start links).inoext e no_run ≡ extent e
unfolding iag_of
extent-is taken extent number start e links h = get_or-map-range_with_len extent 0 128 e e no_run h (omega arith)

front-fits : (taken : ℕ → Bool) (extent : ℕ → Pxd) (number start : ℕ) (links : Links) → FitsIag extent number start links → FitsFront (iag_of taken extent number start links)
unfolding iag_of
front-fits taken extent number start links fits = record {
  agstart = fits.agstart;
  iagnum = fits.iagnum;
  inofreefwd = fits.inofreefwd;
  inofreeback = fits.inofreeback;
  extfreefwd = fits.extfreefwd;
  extfreeback = fits.extfreeback;
  iagfree = omega arith;
  inosmap = length-set 4 (λ e. not (has_free taken extent e));
  extsmap = length-set 4 (λ e. is_there (extent e));
  nfreeinos = omega (arith, count_below-most 4096 (is_free_inode taken extent));
  nfreeexts = omega (arith, count_below-most 128 (λ e. not (is_there (extent e))));
  wmap = length-set 128 taken;
  pmap = length-set 128 taken;
}

fields-are : (taken : ℕ → Bool) (extent : ℕ → Pxd) (number start : ℕ) (links : Links) → IsIagOf taken extent number start links (iag_of taken extent number start links)
unfolding iag_of
fields-are taken extent number start links = record {
  agstart = refl;
  iagnum = refl;
  inofreefwd = refl;
  inofreeback = refl;
  extfreefwd = refl;
  extfreeback = refl;
  iagfree = refl;
  inosmap = λ e h. set-bit 4 e (λ e. not (has_free taken extent e)) (omega arith);
  extsmap = λ e h. set-bit 4 e (λ e. is_there (extent e)) (omega arith);
  nfreeinos = refl;
  nfreeexts = refl;
  wmap = λ n h. set-bit 128 n taken (omega arith);
  pmap = λ n h. set-bit 128 n taken (omega arith);
  inoext = λ e h. extent-is taken extent number start e links h;
}

pub iag-is : (taken : ℕ → Bool) (extent : ℕ → Pxd) (number start : ℕ) (links : Links) → FitsIag extent number start links → IsIagPage taken extent number start links (iag_bytes (iag_of taken extent number start links))
iag-is taken extent number start links fits =
    let i = iag_of taken extent number start links in
    let page = iag-held i (front-fits taken extent number start links fits) (λ e h. subst FitsPxd (sym (extent-is taken extent number start e links h)) (fits.extents e h)) in
    record { size = page.size; fields = i; held = page.held; canonical = fields-are taken extent number start links; pad = page.pad ∙ range-zeros 72 1976 (omega arith) }

maps-bytes : (taken : ℕ → Bool) (extent : ℕ → Pxd) (number start : ℕ) (links : Links) → MapsAreBytes (iag_of taken extent number start links)
unfolding iag_of
maps-bytes taken extent number start links = record {
  inosmap = bytes-set 4 (λ e. not (has_free taken extent e));
  extsmap = bytes-set 4 (λ e. is_there (extent e));
  wmap = bytes-set 128 taken;
  pmap = bytes-set 128 taken;
}

pub iag_of-bytes : (taken : ℕ → Bool) (extent : ℕ → Pxd) (number start : ℕ) (links : Links) → AreBytes (iag_bytes (iag_of taken extent number start links))
iag_of-bytes taken extent number start links = iag-bytes (iag_of taken extent number start links) (maps-bytes taken extent number start links)
