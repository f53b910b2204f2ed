-- What is found on the pages of the inode map.
use Rattle.std.specs.Prelude.{◌≡◌, ◌<◌, ℕ, suc, ◌+◌, ◌*◌, ◌/◌, ◌%◌, Bool, List, [], Option, Some, unwrap_or, is_some}
use Rattle.std.specs.Option.{option_map}
use Rattle.jfs_bits.specs.declared.descriptor.Pxd.{Pxd}
use Rattle.jfs_bits.specs.declared.extent.Xad.{Xad}
use Rattle.jfs_bits.specs.Bits.{is_taken, count_below}
use Rattle.jfs_bits.specs.Descriptor.{pxd_of}
use Rattle.jfs_bits.specs.Field.{field_of}
use Rattle.jfs_iag.specs.Canonical.{is_there, is_free_inode}
use Rattle.jfs_findings.specs.objects.specs.Contents.{block_of, bytes_at}
use Rattle.jfs_findings.specs.objects.specs.Image.{file_extents}
use Rattle.jfs_findings.specs.mount_rules.specs.Subject.{Subject, blocks, object}
use Rattle.jfs_findings.specs.mount_rules.specs.Mount.{iags}
use Rattle.jfs_findings.specs.Maps.{IsIagAs}
use Rattle.jfs_findings.specs.Findings.{Says}
use Rattle.jfs_findings.specs.declared.finding.Finding.{Finding}
use Rattle.jfs_findings.specs.declared.finding.FindingKind.TheVariants as kinds
use Rattle.jfs_map_check.specs.Found.{finding}
use Rattle.jfs_map_check.specs.declared.iag_page.IagReport.{IagReport}
use Rattle.jfs_map_check.specs.declared.inode_map.Control.{Control}

-- What is known of a volume before its inode map is compared: its blocks and inode allocation groups (IAGs), which inodes are in use, and the extents of the map's file.
pub record KnowsInodes (s : Subject) (size number : ℕ) (set : List ℕ) (es : List Xad) : Type 0 where
  pub count : blocks s ≡ size
  pub groups : iags s ≡ number
  pub used : (n : ℕ) → n < 4096 * iags s → is_taken set n ≡ is_some (object s n)
  pub extents : file_extents s.readers s.page 16 ≡ es

-- a finding of the inode map
abbrev pub IsOfInodeMap : Subject → Finding → Type 0
IsOfInodeMap s f = (f.kind ≡ kinds.Iag) × Says s f.kind f.page f.value

-- ---- for the prover alone

-- page `j` of a file that has these extents, as far as it stands on a block
abbrev pub bytes_in : (ℕ → List ℕ) → List Xad → ℕ → List ℕ
bytes_in pages es j = unwrap_or (bytes_at pages (block_of es j)) []

-- the inode extents that the page of an IAG has
abbrev pub places_of : List ℕ → ℕ → Pxd
places_of page e = pxd_of page (3072 + 8 * e)

-- inode extent `e`, by the page of its IAG
abbrev pub extent_in : (ℕ → List ℕ) → List Xad → ℕ → Pxd
extent_in pages es e = places_of (bytes_in pages es (suc (e / 128))) (e % 128)

-- the inodes in use of IAG `k`
abbrev pub part_of : (ℕ → Bool) → ℕ → ℕ → Bool
part_of taken k i = taken (4096 * k + i)

-- of IAG `k`, which stands on page `n`: it isn't canonical in what is compared
pub record IsWrongIag (taken : ℕ → Bool) (k n : ℕ) (page : List ℕ) (f : Finding) : Type 0 where
  pub is : f ≡ finding kinds.Iag n 0
  pub differs : IsIagAs (part_of taken k) (places_of page) k page → ⊥

-- the same, where it stands on a block
pub record IsWrongIagIn (taken : ℕ → Bool) (pages : ℕ → List ℕ) (es : List Xad) (k : ℕ) (f : Finding) : Type 0 where
  pub page : ℕ
  pub stands : block_of es (suc k) ≡ Some page
  pub wrong : IsWrongIag taken k page (pages page) f

-- of the first `count` IAGs
pub record IsWrongIagBelow (taken : ℕ → Bool) (pages : ℕ → List ℕ) (es : List Xad) (count : ℕ) (f : Finding) : Type 0 where
  pub at : ℕ
  pub below : at < count
  pub wrong : IsWrongIagIn taken pages es at f

-- the counts of IAG `k`
pub record AreCounts (taken : ℕ → Bool) (pages : ℕ → List ℕ) (es : List Xad) (k : ℕ) (report : IagReport) : Type 0 where
  pub extents : report.extents ≡ count_below 128 (λ e. is_there (extent_in pages es (128 * k + e)))
  pub free : report.free ≡ count_below 4096 (λ i. is_free_inode taken (extent_in pages es) (4096 * k + i))

-- the counts of the first `count` IAGs
pub record AreTotals (taken : ℕ → Bool) (pages : ℕ → List ℕ) (es : List Xad) (count extents free : ℕ) : Type 0 where
  pub extents_are : extents ≡ count_below (128 * count) (λ e. is_there (extent_in pages es e))
  pub free_are : free ≡ count_below (4096 * count) (is_free_inode taken (extent_in pages es))

-- what the control page tells, where it stands on a block
abbrev pub control_of : (ℕ → List ℕ) → List Xad → Option Control
control_of pages es = option_map (λ n. record { page = n; inodes = field_of (pages n) 8 4; free = field_of (pages n) 12 4 }) (block_of es 0)

-- The control page doesn't tell so many extents and free inodes.
pub record IsWrongControl (told : Option Control) (extents free : ℕ) (f : Finding) : Type 0 where
  pub control : Control
  pub there : told ≡ Some control
  pub is : f ≡ finding kinds.Iag control.page 0
  pub differs : (control.inodes ≡ 32 * extents) × (control.free ≡ free) → ⊥
