-- What is found of one inode.
use Rattle.std.specs.Prelude.{◌≡◌, ◌≢◌, ◌⊎◌, ◌<◌, ℕ, ◌+◌, ◌-◌, ◌^◌, min, true, false, if◌then◌else◌, List, [], ◌∷◌, Option, Some, None, option_map}
use Rattle.jfs_inode.specs.declared.fields.Dinode.{Dinode}
use Rattle.jfs_object_check.specs.plain.specs.Tree.{root}
use Rattle.jfs_object_check.specs.objects.specs.Volume.{home}
use Rattle.jfs_object_check.specs.objects.specs.Objects.{has_names}
use Rattle.jfs_object_check.specs.objects.specs.Owners.{sum_below}
use Rattle.jfs_object_check.specs.meaning.specs.Node.{parent_in}
use Rattle.jfs_object_check.specs.meaning.specs.Consistent.{is_reserved}
use Rattle.jfs_object_check.specs.mount_rules.specs.Subject.{page_named}
use Rattle.jfs_object_check.specs.findings.specs.declared.finding.Finding.{Finding}
use Rattle.jfs_object_check.specs.findings.specs.declared.finding.FindingKind.TheVariants as kinds
use Rattle.jfs_object_check.specs.Steps.{Only}
use Rattle.jfs_each.specs.Each.{Found}
use Rattle.jfs_link_check.specs.Uses.{may_be_named}
use Rattle.jfs_link_check.specs.Places.{Place, places_with, subdirectories}
use Rattle.jfs_link_check.specs.declared.uses.Use.{Use}
use Rattle.jfs_link_check.specs.declared.uses.Use.TheVariants.{Free, Directory, Other}

-- ---- of a directory, once its names were seen

-- a name that leads to nothing, of a directory whose inode stands on page `at`
abbrev pub IsAstray : List Use → ℕ → List Place → Finding → Type 0
IsAstray uses at [] f = ⊥
IsAstray uses at (p ∷ ps) f = Only kinds.Name (page_named at p.page) p.inode (may_be_named uses p.inode ≡ false) f ⊎ IsAstray uses at ps f

-- A directory has two links and one for each subdirectory. (An inode that is none has no names, and its links are judged once all names were seen.)
abbrev pub IsOfDirectory : List Use → ℕ → ℕ → Dinode → List Place → Finding → Type 0
IsOfDirectory uses n at d ps f = IsAstray uses at ps f
    ⊎ Only kinds.Links at n ((is_reserved n ≡ false) × (has_names d ≡ true) × (d.nlink ≢ 2 + subdirectories uses ps)) f

-- the same of some inode below a number
abbrev pub IsOfBelow : ℕ → (ℕ → List ℕ) → (ℕ → Option Found) → List Use → ℕ → Finding → Type 0
IsOfBelow blocks page found uses k f = (n : ℕ) × (n < k) × (d : Found) × (found n ≡ Some d) × IsOfDirectory uses n d.page d.inode (places_with blocks page d.inode) f

-- ---- for the prover alone: what is left, where `names dir n` says how many names of a directory lead to an inode

-- the root is its own parent and has no name; any other directory has one name, in its parent
pub record IsPlacedBy (names : ℕ → ℕ → ℕ) (most n parent : ℕ) : Type 0 where
  pub top : n ≡ root → (parent ≡ root) × (sum_below most (λ dir. names dir n) ≡ 0)
  pub below : n ≢ root → (sum_below most (λ dir. names dir n) ≡ 1) × (names parent n ≡ 1)

-- the page of inode `n`; one past the last u32 value is none of a volume's
abbrev pub page_told : List (Option ℕ) → ℕ → Option ℕ
page_told places n = option_map (λ p. min p (2 ^ 32 - 1)) (home places n)

-- a finding of inode `n`, which stands on this page
abbrev pub IsLeft : (ℕ → ℕ → ℕ) → ℕ → ℕ → Option ℕ → Use → Finding → Type 0
IsLeft names most n None u f = ⊥
IsLeft names most n (Some at) Free f = ⊥
IsLeft names most n (Some at) (Directory parent) f = Only kinds.Parent at n (IsPlacedBy names most n parent → ⊥) f
IsLeft names most n (Some at) (Other links) f = Only kinds.Links at n ((is_reserved n ≡ false) × (links ≢ sum_below most (λ dir. names dir n))) f

-- the link count that is due
abbrev pub due_by : List Use → List Place → (ℕ → ℕ → ℕ) → ℕ → ℕ → Dinode → ℕ
due_by uses ps names most n d = if has_names d then 2 + subdirectories uses ps else sum_below most (λ dir. names dir n)

-- all that is found of an inode
abbrev pub IsJudged : List Use → (ℕ → ℕ → ℕ) → ℕ → ℕ → ℕ → Dinode → List Place → Finding → Type 0
IsJudged uses names most n at d ps f = IsAstray uses at ps f
    ⊎ (Only kinds.Links at n ((is_reserved n ≡ false) × (d.nlink ≢ due_by uses ps names most n d)) f
    ⊎ Only kinds.Parent at n ((has_names d ≡ true) × (IsPlacedBy names most n (parent_in d) → ⊥)) f)
