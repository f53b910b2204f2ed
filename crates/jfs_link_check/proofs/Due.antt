-- Link counts and parents, by what was counted of names.
use Rattle.std.proofs.Common.{◌≡◌, ◌≢◌, refl, sym, ap, ◌∙◌, ℕ, ◌+◌, ◌↔◌, IsTrue, Bool, true, false, not, if◌then◌else◌, List, length, Option, Some, Result, Ok, Err}
use Rattle.std.specs.Prelude.{OnOk}
use Rattle.jfs_inode.specs.declared.fields.Dinode.{Dinode}
use Rattle.jfs_object_check.specs.plain.specs.Tree.{root}
use Rattle.jfs_object_check.specs.objects.specs.Objects.{has_names}
use Rattle.jfs_object_check.specs.objects.specs.Owners.{sum_below}
use Rattle.jfs_object_check.specs.meaning.specs.Consistent.{is_reserved}
use Rattle.jfs_object_check.specs.findings.specs.Gains.{Gains}
use Rattle.jfs_object_check.specs.findings.specs.declared.finding.Finding.{Finding}
use Rattle.jfs_object_check.specs.findings.specs.declared.finding.FindingKind.{FindingKind}
use Rattle.jfs_object_check.specs.findings.specs.declared.finding.FindingKind.TheVariants as kinds
use Rattle.jfs_object_check.specs.Steps.{Only}
use Rattle.jfs_object_check.proofs.Found.{gains_as}
use Rattle.jfs_link_check.specs.Counts.{CountedNames, CountsAll, NamesPast, ends}
use Rattle.jfs_link_check.specs.Places.{Place, subdirectories}
use Rattle.jfs_link_check.specs.Judged.{IsPlacedBy, IsLeft, due_by}
use Rattle.jfs_link_check.specs.declared.uses.Use.{Use}
use Rattle.jfs_link_check.specs.declared.uses.Use.TheVariants.{Directory, Other}

-- what isn't so
not_so : {P : Type 0} (b : Bool) → (b ≡ true) ↔ P → (not b ≡ true) ↔ (P → ⊥)
not_so true h = (λ t. absurd (cc t), λ no. absurd (no (h.0 refl)))
not_so false h = (λ t p. cc (h.1 p), λ no. refl)

-- ---- link counts

module _ (uses : List Use) (ps : List Place) (names : ℕ → ℕ → ℕ) (most n : ℕ) (d : Dinode) where
  pub directory_due : has_names d ≡ true → due_by uses ps names most n d ≡ 2 + subdirectories uses ps
  directory_due h = ap (λ (b : Bool). if b then 2 + subdirectories uses ps else sum_below most (λ dir. names dir n)) h

  pub other_due : has_names d ≡ false → due_by uses ps names most n d ≡ sum_below most (λ dir. names dir n)
  other_due h = ap (λ (b : Bool). if b then 2 + subdirectories uses ps else sum_below most (λ dir. names dir n)) h

-- ---- parents

module _ (names : ℕ → ℕ → ℕ) (most n parent : ℕ) where
  pub top_placed : (r : Bool) → n ≡ root → parent ≡ root → IsTrue r ↔ (sum_below most (λ dir. names dir n) ≡ 0) → IsTrue r ↔ IsPlacedBy names most n parent
  top_placed r e p h = (λ t. record { top = λ _. (p, h.0 t); below = λ ne. absurd (ne e) }, λ w. h.1 ((w.top e).1))

  pub below_placed : (r : Bool) → n ≢ root → IsTrue r ↔ ((sum_below most (λ dir. names dir n) ≡ 1) × (names parent n ≡ 1)) → IsTrue r ↔ IsPlacedBy names most n parent
  below_placed r ne h = (λ t. record { top = λ e. absurd (ne e); below = λ _. h.0 t }, λ w. h.1 (w.below ne))

-- ---- what is left of one inode

only_as : {P Q : Type 0} (kind : FindingKind) (page value n : ℕ) → value ≡ n → (old new : List Finding) → (P → Q) → (Q → P) → Gains (Only kind page value P) old new → Gains (Only kind page n Q) old new
only_as kind page value n is old new to from g = gains_as (λ f h. (h.0, h.1, h.2 ∙ is, to h.3)) (λ f h. (h.0, h.1, h.2 ∙ sym is, from h.3)) g

-- a directory's link count
pub links_judged : {T E : Type 0} (P : ℕ → Type 0) (below page value n : ℕ) (wrong : Bool) (old new : List Finding) (r : Result T E) → value ≡ n → ((count : ℕ) → ends below ≡ ends count → IsTrue wrong ↔ P count)
    → OnOk r (Gains (Only kinds.Links page value (wrong ≡ true)) old new) → OnOk r ((count : ℕ) → ends below ≡ ends count → Gains (Only kinds.Links page n (P count)) old new)
links_judged P below page value n wrong old new (Ok it) is h g = λ count same. only_as kinds.Links page value n is old new (h count same).0 (h count same).1 g
links_judged P below page value n wrong old new (Err e) is h g = tt

module _ (counts : CountedNames) (n at : ℕ) (told : Option ℕ) (u : Use) (old new : List Finding) where
  abbrev most : ℕ
  most = length counts.counts

  -- whatever the names are that were counted
  abbrev Judges : Type 0
  Judges = (names : ℕ → ℕ → ℕ) → CountsAll names counts → NamesPast most names n → Gains (IsLeft names most n told u) old new

  pub parent_judged : {T E : Type 0} (parent : ℕ) (placed : Bool) (r : Result T E) → told ≡ Some at → u ≡ Directory parent
      → ((names : ℕ → ℕ → ℕ) → CountsAll names counts → NamesPast most names n → IsTrue placed ↔ IsPlacedBy names most n parent)
      → OnOk r (Gains (Only kinds.Parent at n (not placed ≡ true)) old new) → OnOk r Judges
  parent_judged parent placed (Ok it) e same h g = rw (e, same) (λ names all past. let w = not_so placed (h names all past) in only_as kinds.Parent at n n refl old new w.0 w.1 g)
  parent_judged parent placed (Err x) e same h g = tt

  pub count_judged : {T E : Type 0} (links : ℕ) (wrong : Bool) (r : Result T E) → told ≡ Some at → u ≡ Other links
      → ((names : ℕ → ℕ → ℕ) → CountsAll names counts → IsTrue wrong ↔ ((is_reserved n ≡ false) × (links ≢ sum_below most (λ dir. names dir n))))
      → OnOk r (Gains (Only kinds.Links at n (wrong ≡ true)) old new) → OnOk r Judges
  count_judged links wrong (Ok it) e same h g = rw (e, same) (λ names all past. let w = h names all in only_as kinds.Links at n n refl old new w.0 w.1 g)
  count_judged links wrong (Err x) e same h g = tt
