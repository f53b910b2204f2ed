-- What of two pages is compared.
use Rattle.std.specs.Prelude.{◌≡◌, ◌≤◌, ◌<◌, ◌⊎◌, ◌+◌, ◌*◌, ◌/◌, ℕ, true, List, slice_index, get_or}
use Rattle.jfs_bits.specs.Bits.{is_taken}
use Rattle.jfs_bits.specs.Field.{field_of}
use Rattle.jfs_iag.specs.declared.iag.Iag.{Iag}
use Rattle.jfs_iag.specs.Iag.{no_run}
use Rattle.jfs_iag.specs.Canonical.{is_there}

-- The pages hold the same bytes from `from` to before `to`.
abbrev pub AgreeWithin : ℕ → ℕ → List ℕ → List ℕ → Type 0
AgreeWithin from to one other = (k : ℕ) → from ≤ k → k < to → slice_index one k ≡ slice_index other k

-- The pages hold the same bytes but for those from `from` to before `to`.
abbrev pub AgreeOutside : ℕ → ℕ → List ℕ → List ℕ → Type 0
AgreeOutside from to one other = (k : ℕ) → k < 4096 → (k < from) ⊎ (to ≤ k) → slice_index one k ≡ slice_index other k

-- Two control pages of a block map have the same numbers of those that are compared.
pub record IsSameControl (one other : List ℕ) : Type 0 where
  pub mapsize : field_of one 0 8 ≡ field_of other 0 8
  pub nfree : field_of one 8 8 ≡ field_of other 8 8
  pub agl2size : field_of one 52 4 ≡ field_of other 52 4
  pub agfree : (k : ℕ) → k < 128 → field_of one (56 + 8 * k) 8 ≡ field_of other (56 + 8 * k) 8
  pub agsize : field_of one 1080 8 ≡ field_of other 1080 8
  pub maxfreebud : field_of one 1088 1 ≡ field_of other 1088 1

-- Two IAGs are the same in what is compared: their numbers, summaries and counts, and both maps where an extent is there.
pub record IsSameIag (have want : Iag) : Type 0 where
  pub iagnum : have.iagnum ≡ want.iagnum
  pub nfreeinos : have.nfreeinos ≡ want.nfreeinos
  pub nfreeexts : have.nfreeexts ≡ want.nfreeexts
  pub inosmap : (e : ℕ) → e < 128 → is_taken have.inosmap e ≡ is_taken want.inosmap e
  pub extsmap : (e : ℕ) → e < 128 → is_taken have.extsmap e ≡ is_taken want.extsmap e
  pub wmap : (i : ℕ) → i < 4096 → is_there (get_or have.inoext (i / 32) no_run) ≡ true → is_taken have.wmap i ≡ is_taken want.wmap i
  pub pmap : (i : ℕ) → i < 4096 → is_there (get_or have.inoext (i / 32) no_run) ≡ true → is_taken have.pmap i ≡ is_taken want.pmap i

-- ---- numbers of a page that are bytes, for the prover alone

abbrev pub AreBytesWithin : ℕ → ℕ → List ℕ → Type 0
AreBytesWithin from to page = (k : ℕ) → from ≤ k → k < to → slice_index page k < 256

abbrev pub AreBytesOutside : ℕ → ℕ → List ℕ → Type 0
AreBytesOutside from to page = (k : ℕ) → k < 4096 → (k < from) ⊎ (to ≤ k) → slice_index page k < 256
