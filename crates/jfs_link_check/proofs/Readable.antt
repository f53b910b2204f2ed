-- What is found at each number is what can be read of the file tree.
use Rattle.std.proofs.Common.{◌≡◌, ◌<◌, refl, sym, ap, ◌∙◌, subst, ℕ, ◌%◌, Bool, true, false, not, ◌&&◌, if◌then◌else◌, List, Option, Some, None, is_some, option_map}
use Rattle.jfs_inode.specs.declared.fields.Dinode.{Dinode}
use Rattle.jfs_super.specs.Rules.{blocks_of}
use Rattle.jfs_super.specs.declared.fields.Super.{Super}
use Rattle.jfs_object_check.specs.objects.specs.Volume.{home, slot_of}
use Rattle.jfs_object_check.specs.objects.specs.Objects.{Object, has_names, is_live, objects, object_in, spelled}
use Rattle.jfs_object_check.specs.objects.specs.Image.{extents_on}
use Rattle.jfs_object_check.specs.objects.proofs.Sums.{sum_same}
use Rattle.jfs_object_check.specs.meaning.specs.Readers.{readers}
use Rattle.jfs_object_check.specs.meaning.specs.Node.{parent_in}
use Rattle.jfs_object_check.specs.meaning.specs.Consistent.{is_reserved, leading_to, names_in, names_for, is_directory}
use Rattle.jfs_object_check.specs.mount_rules.specs.Subject.{Subject, subject_of, object, IsObject}
use Rattle.jfs_object_check.specs.findings.specs.Names.{readable, readable_node, leads}
use Rattle.jfs_object_check.specs.findings.proofs.Readable.{kind_is}
use Rattle.jfs_each.specs.Each.{Found, live_in, found_at}
use Rattle.jfs_link_check.specs.Counts.{CountedNames, CountsBelow, ends}
use Rattle.jfs_link_check.specs.Uses.{use_in, use_of, use_at, is_used, is_directory as holds_names, may_be_named}
use Rattle.jfs_link_check.specs.Notes.{names_by, names_found}
use Rattle.jfs_link_check.specs.declared.uses.Use.{Use}
use Rattle.jfs_link_check.specs.declared.uses.Use.TheVariants.{Directory, Other}
use Rattle.jfs_link_check.proofs.Standing.{stands}

-- counts by other words for the same numbers
pub counts_as : (most k : ℕ) (of other : ℕ → ℕ → ℕ) (c : CountedNames) → ((dir n : ℕ) → of dir n ≡ other dir n) → CountsBelow most of k c → CountsBelow most other k c
counts_as most k of other c same is = record {
  size = is.size;
  counts = λ n l. is.counts n l ∙ ap ends (sum_same k (λ d. other d n) (λ d. of d n) (λ d w. same d n));
  namers = λ n l h. let w = is.namers n l h in (w.0, subst (λ (x : ℕ). 0 < x) (same _ n) w.1);
}

module _ (super : Super) (page : ℕ → List ℕ) where
  abbrev pub subject : Subject
  subject = subject_of super page

  abbrev pub found : ℕ → Option Found
  found = found_at page (extents_on (readers (blocks_of super)) page)

  abbrev pub object_of : Found → Object
  object_of f = spelled (readers (blocks_of super)) page f.inode

  seen : (n : ℕ) → object subject n ≡ option_map object_of (found n)
  unfolding objects
  seen n = by (home (extents_on (readers (blocks_of super)) page) n)
    where
      live : (b : Bool) (p : ℕ) (d : Dinode) → (if b then Some (spelled (readers (blocks_of super)) page d) else None) ≡ option_map object_of (if b then Some (record { page = p; inode = d }) else None)
      live true p d = refl
      live false p d = refl

      by : (h : Option ℕ) → object_in (readers (blocks_of super)) page n h ≡ option_map object_of (live_in page n h)
      by None = refl
      by (Some p) = live (is_live n (slot_of (page p) (n % 8))) p (slot_of (page p) (n % 8))

  pub is_object : (n : ℕ) (f : Found) → found n ≡ Some f → IsObject subject n f.page (object_of f)
  is_object n f e = record { is = seen n ∙ ap (option_map object_of) e; stands = stands page (extents_on (readers (blocks_of super)) page) n f e }

  pub found_of : (n at : ℕ) (o : Object) → IsObject subject n at o → (f : Found) × (found n ≡ Some f) × (f.page ≡ at) × (object_of f ≡ o)
  found_of n at o is = by (found n) refl
    where
      none_is : (o : Object) → None ≡ Some o → ⊥
      none_is o h = cc h

      some_is : (a b : Object) → Some a ≡ Some b → a ≡ b
      some_is a b h = cc h

      same_page : (a b : ℕ) → Some a ≡ Some b → a ≡ b
      same_page a b h = cc h

      by : (x : Option Found) → found n ≡ x → (f : Found) × (found n ≡ Some f) × (f.page ≡ at) × (object_of f ≡ o)
      by None e = absurd (none_is o (sym (seen n ∙ ap (option_map object_of) e) ∙ is.is))
      by (Some f) e = (f, e, same_page f.page at (sym (stands page (extents_on (readers (blocks_of super)) page) n f e) ∙ is.stands), some_is (object_of f) o (sym (seen n ∙ ap (option_map object_of) e) ∙ is.is))

  names_at : (o : Option Found) → names_in (option_map (readable_node subject) (option_map object_of o)) ≡ names_found (blocks_of super) page o
  unfolding spelled
  names_at None = refl
  names_at (Some f) = refl

  pub names_same : (dir n : ℕ) → names_by (blocks_of super) page found dir n ≡ names_for (readable subject) dir n
  names_same dir n = sym (ap (λ (o : Option Object). leading_to n (names_in (option_map (readable_node subject) o))) (seen dir) ∙ ap (leading_to n) (names_at (found dir)))

  use_is : (d : Dinode) → holds_names (use_of d) ≡ has_names d
  use_is d = by (has_names d)
    where
      by : (b : Bool) → holds_names (if b then Directory (parent_in d) else Other d.nlink) ≡ b
      by true = refl
      by false = refl

  directory_at : (o : Option Found) → holds_names (use_in o) ≡ is_directory (option_map (readable_node subject) (option_map object_of o))
  unfolding spelled
  directory_at None = refl
  directory_at (Some f) = use_is f.inode ∙ sym (kind_is f.inode)

  used_at : (o : Option Found) → is_used (use_in o) ≡ is_some (option_map object_of o)
  used_at None = refl
  used_at (Some f) = by (has_names f.inode)
    where
      by : (b : Bool) → is_used (if b then Directory (parent_in f.inode) else Other f.inode.nlink) ≡ true
      by true = refl
      by false = refl

  module _ (noted : List Use) (are : (n : ℕ) → use_at noted n ≡ use_in (found n)) where
    pub directory_same : (n : ℕ) → holds_names (use_at noted n) ≡ is_directory ((readable subject).nodes n)
    directory_same n = ap holds_names (are n) ∙ directory_at (found n) ∙ sym (ap (λ (o : Option Object). is_directory (option_map (readable_node subject) o)) (seen n))

    pub leads_same : (n : ℕ) → may_be_named noted n ≡ leads subject n
    leads_same n = ap (λ (b : Bool). b && not (is_reserved n)) (ap is_used (are n) ∙ used_at (found n) ∙ sym (ap (λ (o : Option Object). is_some o) (seen n)))
