-- The bytes of each page of the inode map's file, by the inodes in use and the inode extents. (JFS Layout, inode map.)
use Rattle.std.specs.Prelude.{ℕ, zero, suc, ◌+◌, ◌-◌, ◌*◌, ◌/◌, ◌%◌, ◌==◌, ◌&&◌, Bool, not, if◌then◌else◌, List, [], ◌∷◌, ◌++◌, get_or, map}
use Rattle.std.specs.List.{range_with_len}
use Rattle.byteorder.specs.Endian.{little_bytes}
use Rattle.jfs_bits.specs.Bits.{count_below}
use Rattle.jfs_bits.specs.Descriptor.{pxd_bytes}
use Rattle.jfs_bits.specs.Piece.{Piece, piece, puts}
use Rattle.jfs_bits.specs.declared.descriptor.Pxd.{Pxd}
use Rattle.jfs_iag.specs.Iag.{no_run, front_of}
use Rattle.jfs_iag.specs.Control.{head_of, no_group}
use Rattle.jfs_iag.specs.Canonical.{end_of_list, is_there, has_free, is_free_inode, in_inode_list, in_place_list}
use Rattle.jfs_iag.specs.declared.iag.Iag.{Iag}
use Rattle.jfs_iag.specs.declared.canonical.Links.{Links}
use Rattle.jfs_iag.specs.declared.control.InodeGroup.{InodeGroup}
use Rattle.jfs_iag.specs.declared.control.InodeControl.{InodeControl}
use Rattle.jfs_map_bytes.specs.Parts.{joined_below, set_bytes, zeros}

-- ---- list words

-- the first number of a list among so many from `from` on
unfoldable pub next_in : (ℕ → Bool) → ℕ → ℕ → ℕ
next_in listed zero from = end_of_list
next_in listed (suc more) from = if listed from then from else next_in listed more (suc from)

-- the last one below a number
unfoldable pub last_below : (ℕ → Bool) → ℕ → ℕ
last_below listed zero = end_of_list
last_below listed (suc k) = if listed k then k else last_below listed k

-- the neighbors of IAG `k` of so many in a list; one that isn't in it has none
abbrev pub next_of : (ℕ → Bool) → ℕ → ℕ → ℕ
next_of listed iags k = if listed k then next_in listed (iags - (k + 1)) (k + 1) else end_of_list

abbrev pub previous_of : (ℕ → Bool) → ℕ → ℕ
previous_of listed k = if listed k then last_below listed k else end_of_list

unfoldable pub links_of : (ℕ → Bool) → (ℕ → Pxd) → ℕ → ℕ → ℕ → Links
links_of taken extent iags numag k = record {
  inofreefwd = next_of (in_inode_list taken extent numag (k % numag)) iags k;
  inofreeback = previous_of (in_inode_list taken extent numag (k % numag)) k;
  extfreefwd = next_of (in_place_list extent numag (k % numag)) iags k;
  extfreeback = previous_of (in_place_list extent numag (k % numag)) k;
}

-- ---- the page of an IAG

-- its fields, by its own 4,096 inodes and 128 extents
unfoldable pub iag_of : (ℕ → Bool) → (ℕ → Pxd) → ℕ → ℕ → Links → Iag
iag_of taken extent number start links = record {
  agstart = start;
  iagnum = number;
  inofreefwd = links.inofreefwd;
  inofreeback = links.inofreeback;
  extfreefwd = links.extfreefwd;
  extfreeback = links.extfreeback;
  iagfree = end_of_list;
  inosmap = set_bytes 4 (λ e. not (has_free taken extent e));
  extsmap = set_bytes 4 (λ e. is_there (extent e));
  nfreeinos = count_below 4096 (is_free_inode taken extent);
  nfreeexts = count_below 128 (λ e. not (is_there (extent e)));
  wmap = set_bytes 128 taken;
  pmap = set_bytes 128 taken;
  inoext = map extent (range_with_len 0 128);
}

unfoldable pub extents_part : Iag → List Piece
extents_part i = piece 3072 (joined_below 128 (λ e. pxd_bytes (get_or i.inoext e no_run))) ∷ []

unfoldable pub iag_bytes : Iag → List ℕ
iag_bytes i = puts (extents_part i) (puts (front_of i) zeros)

-- ---- the control page

unfoldable pub group_of : (ℕ → Bool) → (ℕ → Pxd) → ℕ → ℕ → ℕ → InodeGroup
group_of taken extent iags numag g = record {
  inofree = next_in (in_inode_list taken extent numag g) iags 0;
  extfree = next_in (in_place_list extent numag g) iags 0;
  numinos = 32 * count_below (128 * iags) (λ e. is_there (extent e) && e / 128 % numag == g);
  numfree = count_below (4096 * iags) (λ i. is_free_inode taken extent i && i / 4096 % numag == g);
}

unfoldable pub control_of : (ℕ → Bool) → (ℕ → Pxd) → ℕ → ℕ → InodeControl
control_of taken extent iags numag = record {
  freeiag = end_of_list;
  nextiag = iags;
  numinos = 32 * count_below (128 * iags) (λ e. is_there (extent e));
  numfree = count_below (4096 * iags) (is_free_inode taken extent);
  nbperiext = 4;
  l2nbperiext = 2;
  diskblock = 0;
  maxag = numag - 1;
  groups = map (group_of taken extent iags numag) (range_with_len 0 128);
}

unfoldable pub group_bytes : InodeGroup → List ℕ
group_bytes group = little_bytes 4 group.inofree ++ (little_bytes 4 group.extfree ++ (little_bytes 4 group.numinos ++ little_bytes 4 group.numfree))

unfoldable pub groups_part : InodeControl → List Piece
groups_part c = piece 2048 (joined_below 128 (λ g. group_bytes (get_or c.groups g no_group))) ∷ []

unfoldable pub inode_control_bytes : InodeControl → List ℕ
inode_control_bytes c = puts (groups_part c) (puts (head_of c) zeros)

-- ---- the file

-- page `n` of the file of so many IAGs, spread over `numag` groups of `agsize` blocks: the control page, then those of the IAGs
abbrev pub inode_map_bytes : (ℕ → Bool) → (ℕ → Pxd) → ℕ → ℕ → ℕ → ℕ → List ℕ
inode_map_bytes taken extent iags numag agsize zero = inode_control_bytes (control_of taken extent iags numag)
inode_map_bytes taken extent iags numag agsize (suc k) =
    iag_bytes (iag_of (λ i. taken (4096 * k + i)) (λ e. extent (128 * k + e)) k (k % numag * agsize) (links_of taken extent iags numag k))
