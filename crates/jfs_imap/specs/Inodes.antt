-- The inodes of a volume, as its inode map knows them.
use Rattle.std.specs.Prelude.{◌≡◌, ℕ, ◌+◌, ◌*◌, ◌/◌, ◌%◌, ◌<◌, ◌≤◌, ◌&&◌, Bool, true, false, not, nat_le, nat_lt, if◌then◌else◌, List, length, get_or, map, set, Option, Some, None}
use Rattle.std.specs.List.{range_with_len}
use Rattle.jfs_bits.specs.declared.descriptor.Pxd.{Pxd}
use Rattle.jfs_bits.specs.Bits.{is_taken, is_in_run}
use Rattle.jfs_bits.specs.Descriptor.{FitsPxd}
use Rattle.jfs_iag.specs.Iag.{no_run}
use Rattle.jfs_iag.specs.declared.canonical.Links.{Links}
use Rattle.jfs_iag.specs.Canonical.{is_there, has_free, is_free_inode, AreLinks, IsIagPage, IsControlPage}
use Rattle.jfs_imap.specs.declared.inode_map.Pick.{Pick}
use Rattle.jfs_imap.specs.declared.inode_map.Pick.TheVariants.{Number, NeedsExtent, NoInodes}

-- the set of inodes, as a list that has `true` for each inode in use, and the list of extent places
pub record Inodes : Type 0 where
  pub taken : List Bool
  pub extents : List Pxd
  -- the number of inode allocation groups, the blocks of an allocation group, and the number of those
  pub iags : ℕ
  pub agsize : ℕ
  pub numag : ℕ

abbrev pub is_used : Inodes → ℕ → Bool
is_used m i = get_or m.taken i false

abbrev pub extent_at : Inodes → ℕ → Pxd
extent_at m e = get_or m.extents e no_run

-- inode `i` lies in an extent that is there, and isn't in use
abbrev pub is_free : Inodes → ℕ → Bool
is_free m i = is_free_inode (is_used m) (extent_at m) i

-- the page of inode `i` in its extent, and in the map, where its extent is there: it has slot `i % 8` of that page
abbrev pub home_in : Pxd → ℕ → Option ℕ
home_in extent i = if is_there extent then Some (extent.addr + i % 32 / 8) else None

abbrev pub home_of : Inodes → ℕ → Option ℕ
home_of m i = home_in (extent_at m (i / 32)) i

-- the bits of the first `n` numbers of a map
abbrev pub bits_of : ℕ → List ℕ → List Bool
bits_of n set = map (is_taken set) (range_with_len 0 n)

abbrev pub inodes_of : List ℕ → List Pxd → ℕ → ℕ → ℕ → Inodes
inodes_of set extents iags agsize numag = record { taken = bits_of (4096 * iags) set; extents = extents; iags = iags; agsize = agsize; numag = numag }

-- no inode is free
abbrev pub NoneFree : Inodes → Type 0
NoneFree m = (i : ℕ) → is_free m i ≡ false

-- the lowest place without an extent
abbrev pub IsLowestPlace : Inodes → ℕ → Type 0
IsLowestPlace m e = (e < length m.extents) × (is_there (extent_at m e) ≡ false) × ((p : ℕ) → p < e → is_there (extent_at m p) ≡ true)

-- the lowest free inode; an extent is needed where none is free and a place for one is; else there is no inode
abbrev pub IsPick : Inodes → Pick → Type 0
IsPick m (Number n) = (is_free m n ≡ true) × ((i : ℕ) → i < n → is_free m i ≡ false)
IsPick m (NeedsExtent place) = NoneFree m × IsLowestPlace m place
IsPick m NoInodes = NoneFree m × ((e : ℕ) → e < length m.extents → is_there (extent_at m e) ≡ true)

-- inode `n` taken, and given back: one below 4 or one that isn't in use stays as it is
abbrev pub with_taken : ℕ → Inodes → Inodes
with_taken n m = record m { taken = set m.taken n true }

abbrev pub with_put_back : ℕ → Inodes → Inodes
with_put_back n m = if nat_le 4 n && is_used m n then record m { taken = set m.taken n false } else m

-- an extent put into place `e`: its 32 inodes are free
abbrev pub with_extent : ℕ → Pxd → Inodes → Inodes
with_extent e at m = record m { extents = set m.extents e at; taken = map (λ i. not (is_in_run (32 * e) 32 i) && is_used m i) (range_with_len 0 (length m.taken)) }

-- what the map keeps beside its set and its extents: the extents with a free inode, and the places without an extent
pub record AreKept (iags numag : ℕ) (set : List ℕ) (extents : List Pxd) (having lacking : List Bool) : Type 0 where
  pub least : 0 < iags
  pub most : iags ≤ 65536
  pub some_groups : 0 < numag
  pub most_groups : numag ≤ 128
  pub set_size : length set ≡ 512 * iags
  pub extents_size : length extents ≡ 128 * iags
  pub free_room : 128 * iags ≤ length having
  pub places_room : 128 * iags ≤ length lacking
  pub fits : (e : ℕ) → e < 128 * iags → FitsPxd (get_or extents e no_run)
  pub free : (e : ℕ) → get_or having e false ≡ has_free (is_taken set) (λ e. get_or extents e no_run) e
  pub places : (e : ℕ) → get_or lacking e false ≡ (nat_lt e (128 * iags) && not (is_there (get_or extents e no_run)))

-- the page of IAG `k`, with its place in the canonical lists; the allocation group of IAG k is k mod numag
abbrev pub IsPageOfIag : Inodes → ℕ → List ℕ → Type 0
IsPageOfIag m k page =
    (links : Links) × AreLinks (is_used m) (extent_at m) m.iags m.numag k links
    × IsIagPage (λ i. is_used m (4096 * k + i)) (λ e. extent_at m (128 * k + e)) k (k % m.numag * m.agsize) links page

-- Page `n` of the map's file in its canonical form: the control page, then a page for each IAG.
pub record IsInodePage (m : Inodes) (n : ℕ) (page : List ℕ) : Type 0 where
  pub control : n ≡ 0 → IsControlPage (is_used m) (extent_at m) m.iags m.numag page
  pub iag : (k : ℕ) → n ≡ k + 1 → IsPageOfIag m k page
