-- The pages of an inode map in their canonical form: each follows from the inodes in use, the inode extents, the number of inode allocation
-- groups (IAGs) and the allocation groups. (JFS Layout, inode map; the lists by this project's profile.)
use Rattle.std.specs.Prelude.{◌≡◌, ◌⊎◌, ℕ, ◌+◌, ◌-◌, ◌*◌, ◌/◌, ◌%◌, ◌^◌, ◌<◌, ◌≤◌, ◌==◌, ◌&&◌, Bool, true, false, not, List, length, replicate, get_or}
use Rattle.jfs_bits.specs.declared.descriptor.Pxd.{Pxd}
use Rattle.jfs_bits.specs.Field.{range_of}
use Rattle.jfs_bits.specs.Bits.{is_taken, any_below, count_below}
use Rattle.jfs_iag.specs.declared.iag.Iag.{Iag}
use Rattle.jfs_iag.specs.declared.canonical.Links.{Links}
use Rattle.jfs_iag.specs.declared.control.InodeGroup.{InodeGroup}
use Rattle.jfs_iag.specs.declared.control.InodeControl.{InodeControl}
use Rattle.jfs_iag.specs.Iag.{IsIag, no_run}
use Rattle.jfs_iag.specs.Control.{IsInodeControl, no_group}

-- -1: it ends a list
abbrev pub end_of_list : ℕ
end_of_list = 2 ^ 32 - 1

-- an extent that isn't there has a descriptor of zeros
abbrev pub is_there : Pxd → Bool
is_there p = not (p.len == 0 && p.addr == 0)

-- extent `e` is there, and one of its 32 inodes is free
abbrev pub has_free : (ℕ → Bool) → (ℕ → Pxd) → ℕ → Bool
has_free taken extent e = is_there (extent e) && any_below 32 (λ i. not (taken (32 * e + i)))

-- inode `i` lies in an extent that is there, and isn't in use
abbrev pub is_free_inode : (ℕ → Bool) → (ℕ → Pxd) → ℕ → Bool
is_free_inode taken extent i = is_there (extent (i / 32)) && not (taken i)

-- ---- the page of an IAG

-- the fields of an IAG of 4,096 inodes in 128 extents, of which those in use are taken; its allocation group begins at block `start`
pub record IsIagOf (taken : ℕ → Bool) (extent : ℕ → Pxd) (number start : ℕ) (links : Links) (i : Iag) : Type 0 where
  pub agstart : i.agstart ≡ start
  pub iagnum : i.iagnum ≡ number
  pub inofreefwd : i.inofreefwd ≡ links.inofreefwd
  pub inofreeback : i.inofreeback ≡ links.inofreeback
  pub extfreefwd : i.extfreefwd ≡ links.extfreefwd
  pub extfreeback : i.extfreeback ≡ links.extfreeback
  -- no IAG stands in the list of those without an extent
  pub iagfree : i.iagfree ≡ end_of_list
  pub inosmap : (e : ℕ) → e < 128 → is_taken i.inosmap e ≡ not (has_free taken extent e)
  pub extsmap : (e : ℕ) → e < 128 → is_taken i.extsmap e ≡ is_there (extent e)
  pub nfreeinos : i.nfreeinos ≡ count_below 4096 (is_free_inode taken extent)
  pub nfreeexts : i.nfreeexts ≡ count_below 128 (λ e. not (is_there (extent e)))
  -- both maps are the set
  pub wmap : (n : ℕ) → n < 4096 → is_taken i.wmap n ≡ taken n
  pub pmap : (n : ℕ) → n < 4096 → is_taken i.pmap n ≡ taken n
  pub inoext : (e : ℕ) → e < 128 → get_or i.inoext e no_run ≡ extent e

-- the page: its fields, and zeros between them
pub record IsIagPage (taken : ℕ → Bool) (extent : ℕ → Pxd) (number start : ℕ) (links : Links) (page : List ℕ) : Type 0 where
  pub size : length page ≡ 4096
  pub fields : Iag
  pub held : IsIag fields page
  pub canonical : IsIagOf taken extent number start links fields
  pub pad : range_of page 72 1976 ≡ replicate 1976 0

-- in no list
abbrev pub no_links : Links
no_links = record { inofreefwd = end_of_list; inofreeback = end_of_list; extfreefwd = end_of_list; extfreeback = end_of_list }

-- ---- lists of IAGs, in rising number

-- the first one of a list from `from` on, of so many IAGs
abbrev pub IsNext : (ℕ → Bool) → ℕ → ℕ → ℕ → Type 0
IsNext listed count from word =
    ((word ≡ end_of_list) × ((k : ℕ) → from ≤ k → k < count → listed k ≡ false))
    ⊎ ((from ≤ word) × (word < count) × (listed word ≡ true) × ((k : ℕ) → from ≤ k → k < word → listed k ≡ false))

-- the last one of a list before `before`
abbrev pub IsPrevious : (ℕ → Bool) → ℕ → ℕ → Type 0
IsPrevious listed before word =
    ((word ≡ end_of_list) × ((k : ℕ) → k < before → listed k ≡ false))
    ⊎ ((word < before) × (listed word ≡ true) × ((k : ℕ) → word < k → k < before → listed k ≡ false))

-- the neighbors of IAG `k` in a list; one that isn't listed has none
pub record AreNeighbors (listed : ℕ → Bool) (count k forward back : ℕ) : Type 0 where
  pub forward_in : listed k ≡ true → IsNext listed count (k + 1) forward
  pub back_in : listed k ≡ true → IsPrevious listed k back
  pub out : listed k ≡ false → (forward ≡ end_of_list) × (back ≡ end_of_list)

-- IAG `k` has a free inode
abbrev pub has_free_inode : (ℕ → Bool) → (ℕ → Pxd) → ℕ → Bool
has_free_inode taken extent k = any_below 128 (λ e. has_free taken extent (128 * k + e))

-- IAG `k` has a place for an extent
abbrev pub has_free_place : (ℕ → Pxd) → ℕ → Bool
has_free_place extent k = any_below 128 (λ e. not (is_there (extent (128 * k + e))))

-- the two lists of group `g` of `numag`, which has each IAG k with k mod numag = g
abbrev pub in_inode_list : (ℕ → Bool) → (ℕ → Pxd) → ℕ → ℕ → ℕ → Bool
in_inode_list taken extent numag g k = k % numag == g && has_free_inode taken extent k

abbrev pub in_place_list : (ℕ → Pxd) → ℕ → ℕ → ℕ → Bool
in_place_list extent numag g k = k % numag == g && has_free_place extent k

-- the canonical list words of IAG `k`
pub record AreLinks (taken : ℕ → Bool) (extent : ℕ → Pxd) (iags numag k : ℕ) (links : Links) : Type 0 where
  pub inodes : AreNeighbors (in_inode_list taken extent numag (k % numag)) iags k links.inofreefwd links.inofreeback
  pub places : AreNeighbors (in_place_list extent numag (k % numag)) iags k links.extfreefwd links.extfreeback

-- ---- the control page

-- what the control page says of group `g`; one from `numag` on has no IAG
pub record IsGroupOf (taken : ℕ → Bool) (extent : ℕ → Pxd) (iags numag g : ℕ) (group : InodeGroup) : Type 0 where
  pub inofree : IsNext (in_inode_list taken extent numag g) iags 0 group.inofree
  pub extfree : IsNext (in_place_list extent numag g) iags 0 group.extfree
  pub numinos : group.numinos ≡ 32 * count_below (128 * iags) (λ e. is_there (extent e) && e / 128 % numag == g)
  pub numfree : group.numfree ≡ count_below (4096 * iags) (λ i. is_free_inode taken extent i && i / 4096 % numag == g)

-- the fields of the control page of so many IAGs
pub record IsControlOf (taken : ℕ → Bool) (extent : ℕ → Pxd) (iags numag : ℕ) (c : InodeControl) : Type 0 where
  pub freeiag : c.freeiag ≡ end_of_list
  pub nextiag : c.nextiag ≡ iags
  pub numinos : c.numinos ≡ 32 * count_below (128 * iags) (λ e. is_there (extent e))
  pub numfree : c.numfree ≡ count_below (4096 * iags) (is_free_inode taken extent)
  -- an inode extent has 2 ^ 2 blocks
  pub nbperiext : c.nbperiext ≡ 4
  pub l2nbperiext : c.l2nbperiext ≡ 2
  pub diskblock : c.diskblock ≡ 0
  pub maxag : c.maxag ≡ numag - 1
  pub groups : (g : ℕ) → g < 128 → IsGroupOf taken extent iags numag g (get_or c.groups g no_group)

-- the page: its fields, and zeros between them
pub record IsControlPage (taken : ℕ → Bool) (extent : ℕ → Pxd) (iags numag : ℕ) (page : List ℕ) : Type 0 where
  pub size : length page ≡ 4096
  pub fields : InodeControl
  pub held : IsInodeControl fields page
  pub canonical : IsControlOf taken extent iags numag fields
  pub pad : range_of page 32 2016 ≡ replicate 2016 0
