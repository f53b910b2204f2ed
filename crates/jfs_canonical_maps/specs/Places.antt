-- What canonical map pages ask of a volume's numbers and of the places of its maps.
use Rattle.std.specs.Prelude.{◌≡◌, ◌≤◌, ℕ, true, List}
use Rattle.jfs_bits.specs.declared.descriptor.Pxd.{Pxd}
use Rattle.jfs_map_bytes.specs.Laws.{FitsBlockMap}
use Rattle.jfs_face.specs.steps.specs.bmap.specs.MapFile.{is_in_use}
use Rattle.jfs_face.specs.steps.specs.objects.specs.Readers.{Readers}
use Rattle.jfs_face.specs.steps.specs.objects.specs.Owners.{Agrees}
use Rattle.jfs_face.specs.steps.specs.objects.specs.Image.{volume_on}
use Rattle.jfs_face.specs.Places.{Places}
use Rattle.jfs_face.specs.Mounted.{places_on, HasMapPages}

-- A volume's numbers have a place on the pages of its maps: at most 65,536 IAGs, over at most 128 groups.
pub record FitMaps (pl : Places) : Type 0 where
  pub block_map : FitsBlockMap pl.blocks pl.agsize
  pub iags : pl.iags ≤ 65536
  pub groups : pl.numag ≤ 128

-- Each page of both files has a block of its own.
pub record HaveOwnPlaces (pl : Places) : Type 0 where
  pub block_map : (k j : ℕ) → is_in_use pl.blocks k ≡ true → is_in_use pl.blocks j ≡ true → pl.block_map k ≡ pl.block_map j → k ≡ j
  pub inode_map : (k j : ℕ) → k ≤ pl.iags → j ≤ pl.iags → pl.inode_map k ≡ pl.inode_map j → k ≡ j
  pub both : (k j : ℕ) → is_in_use pl.blocks k ≡ true → j ≤ pl.iags → pl.block_map k ≡ pl.inode_map j → ⊥

-- So they have on a volume whose maps agree.
abbrev pub OwnPlacesLaw : Type 0
OwnPlacesLaw = (r : Readers) (blocks agsize numag : ℕ) (table map : Pxd) (page : ℕ → List ℕ) → Agrees r (volume_on r blocks table map page) → HasMapPages r blocks page → HaveOwnPlaces (places_on r blocks agsize numag table map page)
