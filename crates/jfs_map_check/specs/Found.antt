-- What is found on the pages of the block map.
use Rattle.std.specs.Prelude.{◌≡◌, ◌≢◌, ◌<◌, ◌≤◌, ◌⊎◌, ℕ, ◌+◌, ◌-◌, ◌*◌, Bool, true, List, Some}
use Rattle.jfs_bits.specs.declared.extent.Xad.{Xad}
use Rattle.jfs_bits.specs.Bits.{is_taken}
use Rattle.jfs_bits.specs.Field.{range_of}
use Rattle.jfs_bmap.specs.MapFile.{is_in_use}
use Rattle.jfs_findings.specs.objects.specs.Contents.{block_of}
use Rattle.jfs_findings.specs.objects.specs.Image.{file_extents}
use Rattle.jfs_findings.specs.reader.specs.Reading.{IsPast}
use Rattle.jfs_findings.specs.reader.specs.declared.error.ReadError.{ReadError}
use Rattle.jfs_findings.specs.reader.specs.declared.error.ReadError.TheVariants.{View, Outside}
use Rattle.jfs_findings.specs.mount_rules.specs.Subject.{Subject, blocks}
use Rattle.jfs_findings.specs.Blocks.{is_owned}
use Rattle.jfs_findings.specs.Maps.{IsMapPageAs}
use Rattle.jfs_findings.specs.Findings.{Says}
use Rattle.jfs_findings.specs.declared.finding.Finding.{Finding}
use Rattle.jfs_findings.specs.declared.finding.FindingKind.{FindingKind}
use Rattle.jfs_findings.specs.declared.finding.FindingKind.TheVariants as kinds

-- ---- what is known of a volume before its maps are compared

-- its blocks and groups, which blocks have owners, and the extents of the block map's file
pub record KnowsOwners (s : Subject) (size group : ℕ) (set : List ℕ) (es : List Xad) : Type 0 where
  pub count : blocks s ≡ size
  pub groups : s.super.agsize ≡ group
  pub owned : (b : ℕ) → b < blocks s → is_taken set b ≡ is_owned s b
  pub extents : file_extents s.readers s.page 2 ≡ es

-- ---- which findings these are

-- a finding of the block map
abbrev pub IsOfBlockMap : Subject → Finding → Type 0
IsOfBlockMap s f = ((f.kind ≡ kinds.Map) ⊎ (f.kind ≡ kinds.Bmap)) × Says s f.kind f.page f.value

-- only where the extents of a map's file name a block behind the volume's end, is one `Outside`
abbrev pub SomeIsPast : ℕ → List Xad → ReadError → Type 0
SomeIsPast count extents (View e) = Unit {0}
SomeIsPast count extents Outside = (j : ℕ) × IsPast count (block_of extents j)

-- ---- findings page by page; for the prover alone

abbrev pub finding : FindingKind → ℕ → ℕ → Finding
finding kind page value = record { kind = kind; page = page; value = value }

-- of a block whose bit stands on page `n`, as bit `i` of a map: another map has another bit
pub record IsOtherAt (n block : ℕ) (have want : List ℕ) (i : ℕ) (f : Finding) : Type 0 where
  pub is : f ≡ finding kinds.Map n block
  pub differs : is_taken have i ≢ is_taken want i

-- of one of the blocks of dmap `k`, which stands on page `n`, from block `first` to before block `end`
pub record IsOtherBit (k n : ℕ) (have want : List ℕ) (first end : ℕ) (f : Finding) : Type 0 where
  pub block : ℕ
  pub past : first ≤ block
  pub below : block < end
  pub is : f ≡ finding kinds.Map n (8192 * k + block)
  pub differs : is_taken have block ≢ is_taken want block

-- of page `j` of the block map's file, which stands on page `n`: it isn't canonical in what is compared
pub record IsWrongPage (blocks agsize : ℕ) (taken : ℕ → Bool) (j n : ℕ) (page : List ℕ) (f : Finding) : Type 0 where
  pub is : f ≡ finding kinds.Bmap n 0
  pub differs : IsMapPageAs blocks agsize taken j page → ⊥

-- of a block of that page, where it is a dmap: its bit in the persistent map isn't as the set says
pub record IsWrongBit (blocks : ℕ) (taken : ℕ → Bool) (j n : ℕ) (page : List ℕ) (f : Finding) : Type 0 where
  pub dmap : 4 ≤ j
  pub block : ℕ
  pub small : block < 8192
  pub within : 8192 * (j - 4) + block < blocks
  pub is : f ≡ finding kinds.Map n (8192 * (j - 4) + block)
  pub differs : is_taken (range_of page 3072 1024) block ≢ taken (8192 * (j - 4) + block)

abbrev pub IsWrongAt : ℕ → ℕ → (ℕ → Bool) → ℕ → ℕ → List ℕ → Finding → Type 0
IsWrongAt blocks agsize taken j n page f = IsWrongPage blocks agsize taken j n page f ⊎ IsWrongBit blocks taken j n page f

-- of page `j` of the file, where it stands on a block
pub record IsWrongIn (blocks agsize : ℕ) (taken : ℕ → Bool) (pages : ℕ → List ℕ) (extents : List Xad) (j : ℕ) (f : Finding) : Type 0 where
  pub used : is_in_use blocks j ≡ true
  pub page : ℕ
  pub stands : block_of extents j ≡ Some page
  pub wrong : IsWrongAt blocks agsize taken j page (pages page) f

-- of the first `count` pages of the file
pub record IsWrongBelow (blocks agsize : ℕ) (taken : ℕ → Bool) (pages : ℕ → List ℕ) (extents : List Xad) (count : ℕ) (f : Finding) : Type 0 where
  pub at : ℕ
  pub below : at < count
  pub wrong : IsWrongIn blocks agsize taken pages extents at f
