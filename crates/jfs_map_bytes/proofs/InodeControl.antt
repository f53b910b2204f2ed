-- The bytes of the inode map's control page are the canonical page of its inodes and extents.
use Rattle.std.proofs.Common.{◌≡◌, ◌<◌, ◌≤◌, ◌+◌, ◌*◌, ◌/◌, ◌%◌, ◌==◌, ◌&&◌, ℕ, Bool, List, [], ◌∷◌, ◌++◌, length, get_or, inl, refl, sym, ap, ◌∙◌, subst, arith}
use Rattle.std.proofs.lemmas.List.FromFn.{get_or-map-range_with_len}
use Rattle.byteorder.specs.Endian.{little_bytes}
use Rattle.jfs_bits.specs.Field.{AreBytes, field_of, range_of}
use Rattle.jfs_bits.specs.Piece.{Piece, puts}
use Rattle.jfs_bits.specs.declared.descriptor.Pxd.{Pxd}
use Rattle.jfs_bits.proofs.Counts.{count_below-most}
use Rattle.jfs_bits.proofs.Parts.{field-in_part, number-read}
use Rattle.jfs_bits.proofs.Pieces.{AreLaidOut, length-puts, range_at-puts}
use Rattle.jfs_bits.proofs.Ranges.{range_of-put_other, range_of-within}
use Rattle.jfs_iag.specs.declared.control.InodeGroup.{InodeGroup}
use Rattle.jfs_iag.specs.declared.control.InodeControl.{InodeControl}
use Rattle.jfs_iag.specs.Control.{IsInodeControl, FitsHead, FitsGroup, head_of, group_at, no_group}
use Rattle.jfs_iag.specs.Canonical.{IsGroupOf, IsControlOf, IsControlPage, is_there, is_free_inode, in_inode_list, in_place_list}
use Rattle.jfs_iag.proofs.Heads.{control-put, head-pad, head-size}
use Rattle.jfs_map_bytes.specs.Parts.{joined_below, zeros}
use Rattle.jfs_map_bytes.specs.InodeMap.{group_of, control_of, group_bytes, groups_part, inode_control_bytes}
use Rattle.jfs_map_bytes.proofs.Bytes.{bytes-append, bytes-puts, bytes-little, bytes-zeros, length-zeros, range-zeros}
use Rattle.jfs_map_bytes.proofs.Joined.{HaveSize, length-joined, part-joined, bytes-joined}
use Rattle.jfs_map_bytes.proofs.Lists.{next-is, next-fits}

-- ---- one group

group-size : (group : InodeGroup) → length (group_bytes group) ≡ 16
unfolding group_bytes
group-size group = refl

-- its four numbers are read back
record Reads (group : InodeGroup) (bytes : List ℕ) : Type 0 where
  inofree : field_of bytes 0 4 ≡ group.inofree
  extfree : field_of bytes 4 4 ≡ group.extfree
  numinos : field_of bytes 8 4 ≡ group.numinos
  numfree : field_of bytes 12 4 ≡ group.numfree

group-reads : (group : InodeGroup) → FitsGroup group → Reads group (group_bytes group)
unfolding group_bytes range_of
group-reads group f = record {
  inofree = number-read (group_bytes group) 0 4 group.inofree refl f.inofree;
  extfree = number-read (group_bytes group) 4 4 group.extfree refl f.extfree;
  numinos = number-read (group_bytes group) 8 4 group.numinos refl f.numinos;
  numfree = number-read (group_bytes group) 12 4 group.numfree refl f.numfree;
}

four : (a b c d a' b' c' d' : ℕ) → a ≡ a' → b ≡ b' → c ≡ c' → d ≡ d' →
    (let one : InodeGroup = record { inofree = a; extfree = b; numinos = c; numfree = d } in one) ≡ (let one : InodeGroup = record { inofree = a'; extfree = b'; numinos = c'; numfree = d' } in one)
four a b c d a' b' c' d' e f g h = rw (e, f, g, h) refl

-- ---- the page of any fields

groups_size : (c : InodeControl) → HaveSize 16 (λ g. group_bytes (get_or c.groups g no_group))
groups_size c g = group-size (get_or c.groups g no_group)

abbrev GroupsFit : InodeControl → Type 0
GroupsFit c = (g : ℕ) → g < 128 → FitsGroup (get_or c.groups g no_group)

record Held (c : InodeControl) (before page : List ℕ) : Type 0 where
  size : length page ≡ 4096
  before_is : (p n : ℕ) → p + n ≤ 2048 → range_of page p n ≡ range_of before p n
  groups : (g : ℕ) → g < 128 → group_at page g ≡ get_or c.groups g no_group

held : (c : InodeControl) (before : List ℕ) → GroupsFit c → length before ≡ 4096 → Held c before (puts (groups_part c) before)
unfolding groups_part puts
held c before fits size =
    let parts : List Piece = groups_part c in
    let page : List ℕ = puts parts before in
    let groups : List ℕ = joined_below 128 (λ g. group_bytes (get_or c.groups g no_group)) in
    let whole : length groups ≡ 2048 = length-joined 128 16 (λ g. group_bytes (get_or c.groups g no_group)) (groups_size c) in
    let laid : AreLaidOut parts (length before) = record { places = (2048, 2048) ∷ []; placed = (refl, whole, tt); within = rw size refl; apart = refl } in
    let range : range_of page 2048 2048 ≡ groups = range_at-puts parts before 0 2048 2048 groups laid (refl, refl) whole in
    let one : (g : ℕ) → g < 128 → range_of page (2048 + 16 * g) 16 ≡ group_bytes (get_or c.groups g no_group) = λ g h.
    sym (range_of-within page 2048 2048 (16 * g) 16 (omega arith)) ∙ ap (λ (z : List ℕ). range_of z (16 * g) 16) range ∙ part-joined 128 16 g (λ g. group_bytes (get_or c.groups g no_group)) (groups_size c) h in
    let field : (g i : ℕ) → g < 128 → i + 4 ≤ 16 → field_of page (2048 + 16 * g + i) 4 ≡ field_of (group_bytes (get_or c.groups g no_group)) i 4 = λ g i h small.
    sym (field-in_part page (2048 + 16 * g) 16 i 4 small) ∙ ap (λ (z : List ℕ). field_of z i 4) (one g h) in
    record {
      size = length-puts parts laid.places before laid.placed laid.within ∙ size;
      before_is = λ p n h. range_of-put_other p n 2048 groups before (omega (arith, whole, size)) (inl h);
      groups = λ g h.
          let group = get_or c.groups g no_group in
          let reads = group-reads group (fits g h) in
          let start : 2048 + 16 * g ≡ 2048 + 16 * g + 0 = omega arith in
          four (field_of page (2048 + 16 * g) 4) (field_of page (2048 + 16 * g + 4) 4) (field_of page (2048 + 16 * g + 8) 4) (field_of page (2048 + 16 * g + 12) 4) group.inofree group.extfree group.numinos group.numfree
          (ap (λ (z : ℕ). field_of page z 4) start ∙ field g 0 h (omega arith) ∙ reads.inofree)
          (field g 4 h (omega arith) ∙ reads.extfree)
          (field g 8 h (omega arith) ∙ reads.numinos)
          (field g 12 h (omega arith) ∙ reads.numfree);
    }

-- these bytes hold the fields, and zeros between them
record IsWhole (c : InodeControl) (page : List ℕ) : Type 0 where
  size : length page ≡ 4096
  held : IsInodeControl c page
  pad : range_of page 32 2016 ≡ range_of zeros 32 2016

control-held : (c : InodeControl) → FitsHead c → GroupsFit c → IsWhole c (inode_control_bytes c)
unfolding inode_control_bytes
control-held c head fits =
    let before : List ℕ = puts (head_of c) zeros in
    let h = held c before fits (head-size c zeros length-zeros) in
    record {
      size = h.size;
      held = control-put c zeros (puts (groups_part c) before) head length-zeros h.before_is h.groups;
      pad = h.before_is 32 2016 (omega arith) ∙ head-pad c zeros length-zeros;
    }

group-bytes : (group : InodeGroup) → AreBytes (group_bytes group)
unfolding group_bytes
group-bytes group =
    bytes-append (little_bytes 4 group.inofree) (little_bytes 4 group.extfree ++ (little_bytes 4 group.numinos ++ little_bytes 4 group.numfree)) (bytes-little 4 group.inofree)
    (bytes-append (little_bytes 4 group.extfree) (little_bytes 4 group.numinos ++ little_bytes 4 group.numfree) (bytes-little 4 group.extfree)
    (bytes-append (little_bytes 4 group.numinos) (little_bytes 4 group.numfree) (bytes-little 4 group.numinos) (bytes-little 4 group.numfree)))

pub inode_control-bytes : (c : InodeControl) → AreBytes (inode_control_bytes c)
unfolding inode_control_bytes groups_part head_of
inode_control-bytes c =
    bytes-puts (groups_part c) (puts (head_of c) zeros) (bytes-joined 128 (λ g. group_bytes (get_or c.groups g no_group)) (λ g. group-bytes (get_or c.groups g no_group)), tt)
    (bytes-puts (head_of c) zeros
    (bytes-little 4 c.freeiag, (bytes-little 4 c.nextiag, (bytes-little 4 c.numinos, (bytes-little 4 c.numfree, (bytes-little 4 c.nbperiext, (bytes-little 4 c.l2nbperiext, (bytes-little 4 c.diskblock, (bytes-little 4 c.maxag, tt)))))))) bytes-zeros)

-- ---- the fields of a set

group-is : (taken : ℕ → Bool) (extent : ℕ → Pxd) (iags numag g : ℕ) → IsGroupOf taken extent iags numag g (group_of taken extent iags numag g)
unfolding group_of
group-is taken extent iags numag g = record {
  inofree = next-is (in_inode_list taken extent numag g) iags iags 0 (omega arith);
  extfree = next-is (in_place_list extent numag g) iags iags 0 (omega arith);
  numinos = refl;
  numfree = refl;
}

group-fits : (taken : ℕ → Bool) (extent : ℕ → Pxd) (iags numag g : ℕ) → iags ≤ 65536 → FitsGroup (group_of taken extent iags numag g)
unfolding group_of
group-fits taken extent iags numag g most = record {
  inofree = next-fits (in_inode_list taken extent numag g) iags 0 (omega arith);
  extfree = next-fits (in_place_list extent numag g) iags 0 (omega arith);
  numinos = omega (arith, count_below-most (128 * iags) (λ e. is_there (extent e) && e / 128 % numag == g));
  numfree = omega (arith, count_below-most (4096 * iags) (λ i. is_free_inode taken extent i && i / 4096 % numag == g));
}

group-there : (taken : ℕ → Bool) (extent : ℕ → Pxd) (iags numag g : ℕ) → g < 128 → get_or (control_of taken extent iags numag).groups g no_group ≡ group_of taken extent iags numag g
unfolding control_of
group-there taken extent iags numag g h = get_or-map-range_with_len (group_of taken extent iags numag) 0 128 g g no_group h (omega arith)

head-fits : (taken : ℕ → Bool) (extent : ℕ → Pxd) (iags numag : ℕ) → iags ≤ 65536 → numag ≤ 128 → FitsHead (control_of taken extent iags numag)
unfolding control_of
head-fits taken extent iags numag most few = record {
  freeiag = omega arith;
  nextiag = omega arith;
  numinos = omega (arith, count_below-most (128 * iags) (λ e. is_there (extent e)));
  numfree = omega (arith, count_below-most (4096 * iags) (is_free_inode taken extent));
  nbperiext = omega arith;
  l2nbperiext = omega arith;
  diskblock = omega arith;
  maxag = omega arith;
}

fields-are : (taken : ℕ → Bool) (extent : ℕ → Pxd) (iags numag : ℕ) → IsControlOf taken extent iags numag (control_of taken extent iags numag)
unfolding control_of
fields-are taken extent iags numag = record {
  freeiag = refl;
  nextiag = refl;
  numinos = refl;
  numfree = refl;
  nbperiext = refl;
  l2nbperiext = refl;
  diskblock = refl;
  maxag = refl;
  groups = λ g h. subst (λ (z : InodeGroup). IsGroupOf taken extent iags numag g z) (sym (group-there taken extent iags numag g h)) (group-is taken extent iags numag g);
}

pub inode_control-is : (taken : ℕ → Bool) (extent : ℕ → Pxd) (iags numag : ℕ) → iags ≤ 65536 → numag ≤ 128 → IsControlPage taken extent iags numag (inode_control_bytes (control_of taken extent iags numag))
inode_control-is taken extent iags numag most few =
    let c = control_of taken extent iags numag in
    let page = control-held c (head-fits taken extent iags numag most few) (λ g h. subst FitsGroup (sym (group-there taken extent iags numag g h)) (group-fits taken extent iags numag g most)) in
    record { size = page.size; fields = c; held = page.held; canonical = fields-are taken extent iags numag; pad = page.pad ∙ range-zeros 32 2016 (omega arith) }
