-- One inode whose tree was counted, or passed over.
use Rattle.std.proofs.Common.{◌≡◌, ◌≢◌, ◌⊎◌, inl, inr, refl, sym, ◌∙◌, subst, ℕ, suc, ◌+◌, ◌==◌, true, false, List, [], arith}
use Rattle.std.proofs.lemmas.Bool.{both_ways}
use Rattle.jfs_inode.specs.declared.fields.Dinode.{Dinode}
use Rattle.jfs_dtree.specs.Node.{name_scale}
use Rattle.jfs_object_check.specs.objects.specs.Objects.{has_names, names_of}
use Rattle.jfs_object_check.specs.meaning.specs.Readers.{readers}
use Rattle.jfs_object_check.specs.meaning.specs.Consistent.{is_reserved, leading_to}
use Rattle.jfs_object_check.specs.findings.specs.Gains.{Gains}
use Rattle.jfs_object_check.specs.findings.specs.declared.finding.Finding.{Finding}
use Rattle.jfs_object_check.specs.findings.specs.declared.finding.FindingKind.TheVariants as kinds
use Rattle.jfs_object_check.specs.Steps.{Only}
use Rattle.jfs_object_check.proofs.Found.{gains_none, gains_both, gains_as}
use Rattle.jfs_link_check.specs.Counts.{CountedNames, CountsBelow, ends}
use Rattle.jfs_link_check.specs.Places.{Place, places_with, names_to, subdirectories}
use Rattle.jfs_link_check.specs.Judged.{IsAstray, IsOfDirectory}
use Rattle.jfs_link_check.specs.Notes.{NotesInode, Sees, names_with}
use Rattle.jfs_link_check.specs.declared.notes.NameNotes.{NameNotes}
use Rattle.jfs_link_check.proofs.Counted.{counted, passed}
use Rattle.jfs_link_check.proofs.Walked.{as_many}

module _ (blocks : ℕ) (page : ℕ → List ℕ) (n at : ℕ) (d : Dinode) where
  abbrev ps : List Place
  ps = places_with blocks page d

  -- an inode that is no directory
  pub not_noted : (notes : NameNotes) → has_names d ≡ false → NotesInode blocks page n at d notes notes
  not_noted notes h = record {
    uses = refl;
    counts = λ most of is same. passed most n of notes.counts is (λ k. same k ∙ none k);
    findings = gains_none (IsOfDirectory notes.uses n at d ps) notes.findings.items never;
  }
    where
      none : (k : ℕ) → leading_to k (names_with blocks page d) ≡ 0
      none k = rw h refl

      no_places : ps ≡ []
      no_places = rw h refl

      never : (f : Finding) → IsOfDirectory notes.uses n at d ps f → ⊥
      never f (inl x) = subst (λ (qs : List Place). IsAstray notes.uses at qs f) no_places x
      never f (inr x) = both_ways (has_names d) h x.3.1

  -- a directory
  pub noted : (old begun seen new : NameNotes) (links : ℕ) → has_names d ≡ true → begun ≡ record old { here = record { number = n; page = at; subdirectories = 0 } } → Sees ps begun seen → links ≡ d.nlink
      → (new.uses ≡ seen.uses) × (new.counts ≡ seen.counts)
      → ((count : ℕ) → ends seen.here.subdirectories ≡ ends count
      → Gains (Only kinds.Links seen.here.page seen.here.number ((is_reserved seen.here.number ≡ false) × (links ≢ 2 + count))) seen.findings.items new.findings.items)
      → NotesInode blocks page n at d old new
  noted old begun seen new links has begins sees same stays judged = record {
    uses = stays.0 ∙ h.uses;
    counts = λ most of is leads. subst (λ (c : CountedNames). CountsBelow most of (suc n) c) (sym stays.1)
        (counted most n of (λ k. names_to k ps) old.counts seen.counts is (λ k. leads k ∙ sym (as_many name_scale (names_of (readers blocks) page d) (λ m. m == k) (λ m. m == k) (λ m. refl))) h.counts);
    findings = gains_as to from (gains_both h.findings (judged (subdirectories old.uses ps) (let b = h.below in omega (arith, b))));
  }
    where
      h : Sees ps (record old { here = record { number = n; page = at; subdirectories = 0 } }) seen
      h = subst (λ (v : NameNotes). Sees ps v seen) begins sees

      Miscounts : Finding → Type 0
      Miscounts f = Only kinds.Links seen.here.page seen.here.number ((is_reserved seen.here.number ≡ false) × (links ≢ 2 + subdirectories old.uses ps)) f

      to : (f : Finding) → IsAstray old.uses at ps f ⊎ Miscounts f → IsOfDirectory old.uses n at d ps f
      to f (inl x) = inl x
      to f (inr x) = inr (x.0, x.1 ∙ h.page, x.2 ∙ h.number, (subst (λ (k : ℕ). is_reserved k ≡ false) h.number x.3.0, has, λ e. x.3.1 (same ∙ e)))

      from : (f : Finding) → IsOfDirectory old.uses n at d ps f → IsAstray old.uses at ps f ⊎ Miscounts f
      from f (inl x) = inl x
      from f (inr x) = inr (x.0, x.1 ∙ sym h.page, x.2 ∙ sym h.number, (subst (λ (k : ℕ). is_reserved k ≡ false) (sym h.number) x.3.0, λ e. x.3.2 (sym same ∙ e)))
