-- Pages with few entries in the extent tree of one object: inode `n`, which stands on page `at` and spells `o`.
use Rattle.std.specs.Prelude.{◌≡◌, ℕ, true, List, Ok}
use Rattle.jfs_bits.specs.declared.extent.Xad.{Xad}
use Rattle.jfs_tree.specs.Levels.{IsThinIn}
use Rattle.jfs_tree.specs.Spells.{with_root}
use Rattle.jfs_owners.specs.objects.specs.Readers.{Readers}
use Rattle.jfs_owners.specs.objects.specs.Objects.{Object, has_extents, listed}
use Rattle.jfs_owners.specs.mount_rules.specs.Subject.{Subject, IsObject, page_named}
use Rattle.jfs_owners.specs.findings.specs.Findings.{Says}
use Rattle.jfs_owners.specs.findings.specs.declared.finding.Finding.{Finding}
use Rattle.jfs_owners.specs.findings.specs.declared.finding.FindingKind.TheVariants as kinds

-- The object's extent tree, which breaks no rule, has this page, with few entries, and it isn't the last of its level.
pub record HasThin (r : Readers) (pages : ℕ → List ℕ) (at : ℕ) (o : Object) (page : ℕ) : Type 0 where
  pub has : has_extents o.inode ≡ true
  pub extents : List Xad
  pub sound : listed r.extents_order o.extents ≡ Ok extents
  pub tree_page : ℕ
  pub thin : IsThinIn (with_root (r.extents_root o.inode) (λ b. r.extents_page (pages b))) tree_page
  pub on : page ≡ page_named at tree_page

abbrev pub IsThinOf : Readers → (ℕ → List ℕ) → ℕ → ℕ → Object → Finding → Type 0
IsThinOf r pages n at o f = (f.kind ≡ kinds.Thin) × (f.value ≡ n) × HasThin r pages at o f.page

abbrev pub IsThinOfSome : Subject → Finding → Type 0
IsThinOfSome s f = (n : ℕ) × (at : ℕ) × (o : Object) × IsObject s n at o × IsThinOf s.readers s.page n at o f

-- The findings of this kind are exactly those of the objects.
pub record ThinLaw : Type 0 where
  pub each : (s : Subject) (f : Finding) → IsThinOfSome s f → Says s f.kind f.page f.value
  pub all : (s : Subject) (f : Finding) → f.kind ≡ kinds.Thin → Says s f.kind f.page f.value → IsThinOfSome s f
