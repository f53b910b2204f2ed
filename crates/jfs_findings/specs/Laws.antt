-- What findings tell.
use Rattle.std.specs.Prelude.{◌≡◌, ℕ, Bool, List}
use Rattle.jfs_bits.specs.declared.descriptor.Pxd.{Pxd}
use Rattle.jfs_super.specs.Rules.{IsAccepted}
use Rattle.jfs_super.specs.declared.fields.Super.{Super}
use Rattle.jfs_mount.specs.bmap.specs.MapFile.{IsMapPage}
use Rattle.jfs_iag.specs.Canonical.{IsIagPage, IsControlPage}
use Rattle.jfs_iag.specs.declared.canonical.Links.{Links}
use Rattle.jfs_mount.specs.meaning.specs.Image.{IsConsistentImage}
use Rattle.jfs_mount.specs.Subject.{Subject, subject_of}
use Rattle.jfs_findings.specs.Maps.{IsMapPageAs, IsIagAs, IsInodeControlAs}
use Rattle.jfs_findings.specs.Clean.{HasNoFinding, IsSoundVolume, IsTidy}
use Rattle.jfs_findings.specs.Findings.{AreFindings}
use Rattle.jfs_findings.specs.declared.finding.Finding.{Finding}

-- Nothing is found exactly on a sound volume.
pub record CleanLaw : Type 0 where
  pub sound : (super : Super) (pages : ℕ) (page : ℕ → List ℕ) → IsAccepted super pages → HasNoFinding (subject_of super page) → IsSoundVolume (subject_of super page)
  pub clean : (super : Super) (page : ℕ → List ℕ) → IsSoundVolume (subject_of super page) → HasNoFinding (subject_of super page)

-- A sound volume is one that is consistent in the sense that the calls on files need and keep, and tidy in what only a check looks at.
pub record ConsistentLaw : Type 0 where
  pub consistent : (super : Super) (page : ℕ → List ℕ) → IsSoundVolume (subject_of super page) → IsConsistentImage super page
  pub tidy : (super : Super) (page : ℕ → List ℕ) → IsSoundVolume (subject_of super page) → IsTidy (subject_of super page)
  pub sound : (super : Super) (page : ℕ → List ℕ) → IsConsistentImage super page → IsTidy (subject_of super page) → IsSoundVolume (subject_of super page)

-- There is one list of the findings at most.
abbrev pub OneListLaw : Type 0
OneListLaw = (s : Subject) (one other : List Finding) → AreFindings s one → AreFindings s other → one ≡ other

-- What is compared of the maps' pages is a part of their canonical form: a canonical page passes.
pub record CanonicalLaw : Type 0 where
  pub block_map : (blocks agsize n : ℕ) (taken : ℕ → Bool) (page : List ℕ) → IsMapPage blocks agsize taken n page → IsMapPageAs blocks agsize taken n page
  pub iag : (taken : ℕ → Bool) (extent : ℕ → Pxd) (number start : ℕ) (links : Links) (page : List ℕ) → IsIagPage taken extent number start links page → IsIagAs taken extent number page
  pub control : (taken : ℕ → Bool) (extent : ℕ → Pxd) (iags numag : ℕ) (page : List ℕ) → IsControlPage taken extent iags numag page → IsInodeControlAs taken extent iags page
