-- What is noted of all inodes, one after the other.
use Rattle.std.proofs.Common.{◌≡◌, ◌⊎◌, inl, inr, refl, sym, ap, ◌∙◌, subst, ℕ, suc, ◌*◌, List, [], length, Option, Some, None, arith}
use Rattle.jfs_object_check.specs.objects.proofs.Sums.{eq_or_not}
use Rattle.jfs_object_check.specs.meaning.specs.Consistent.{leading_to}
use Rattle.jfs_object_check.specs.findings.specs.Gains.{Gains}
use Rattle.jfs_object_check.specs.findings.specs.declared.finding.Finding.{Finding}
use Rattle.jfs_object_check.proofs.Found.{gains_none, gains_both, gains_as}
use Rattle.jfs_each.specs.Each.{Found, Step, Visits, found_at}
use Rattle.jfs_each.proofs.Visiting.{visits_keep}
use Rattle.jfs_link_check.specs.Counts.{CountsBelow}
use Rattle.jfs_link_check.specs.Uses.{use_at, AreUses}
use Rattle.jfs_link_check.specs.Places.{places_with}
use Rattle.jfs_link_check.specs.Judged.{IsOfDirectory, IsOfBelow}
use Rattle.jfs_link_check.specs.Notes.{NotesInode, NotedBelow, names_by, names_found}
use Rattle.jfs_link_check.specs.declared.uses.Use.{Use}
use Rattle.jfs_link_check.specs.declared.notes.NameNotes.{NameNotes}
use Rattle.jfs_link_check.proofs.Counted.{passed}

-- no inode was noted
pub none_noted : (blocks counted : ℕ) (page : ℕ → List ℕ) (places : List (Option ℕ)) (notes : NameNotes) → AreUses page places notes.uses → counted ≡ length notes.uses
    → CountsBelow counted (names_by blocks page (found_at page places)) 0 notes.counts → notes.findings.items ≡ [] → NotedBelow blocks page (found_at page places) (32 * length places) 0 notes
none_noted blocks counted page places notes are size counts none = record {
  size = are.size;
  uses = are.each;
  pages = are.pages;
  counts = subst (λ (most : ℕ). CountsBelow most (names_by blocks page (found_at page places)) 0 notes.counts) (size ∙ are.size) counts;
  findings = subst (Gains Of []) (sym none) (gains_none Of [] (λ f h. let l = h.1 in omega (arith, l)));
}
  where
    Of : Finding → Type 0
    Of f = IsOfBelow blocks page (found_at page places) notes.uses 0 f

module _ (blocks : ℕ) (page : ℕ → List ℕ) (found : ℕ → Option Found) (most : ℕ) where
  module _ (uses : List Use) (k : ℕ) where
    abbrev Of : ℕ → Finding → Type 0
    Of m = IsOfBelow blocks page found uses m

    -- where no inode is in use
    none_here : (old new : List Finding) → found k ≡ None → Gains (Of k) old new → Gains (Of (suc k)) old new
    none_here old new e g = gains_as (λ f h. (h.0, (let l = h.1 in omega (arith, l)), h.2, h.3, h.4)) from g
      where
        none_is : (d : Found) → None ≡ Some d → ⊥
        none_is d e = cc

        from : (f : Finding) → Of (suc k) f → Of k f
        from f h = elim (eq_or_not h.0 k) [
          | inl same ↦ absurd (none_is h.2 (sym e ∙ sym (ap found same) ∙ h.3))
          | inr other ↦ (h.0, (let l = h.1 in omega (arith, l, other)), h.2, h.3, h.4)
        ]

    one_here : (d : Found) (old mid new : List Finding) → found k ≡ Some d → Gains (Of k) old mid → Gains (IsOfDirectory uses k d.page d.inode (places_with blocks page d.inode)) mid new → Gains (Of (suc k)) old new
    one_here d old mid new e g h = gains_as to from (gains_both g h)
      where
        Is : ℕ → Found → Finding → Type 0
        Is n d f = IsOfDirectory uses n d.page d.inode (places_with blocks page d.inode) f

        some_is : (f g : Found) → Some f ≡ Some g → f ≡ g
        some_is f g e = cc

        to : (f : Finding) → Of k f ⊎ Is k d f → Of (suc k) f
        to f (inl w) = (w.0, (let l = w.1 in omega (arith, l)), w.2, w.3, w.4)
        to f (inr w) = (k, omega arith, d, e, w)

        from : (f : Finding) → Of (suc k) f → Of k f ⊎ Is k d f
        from f w = elim (eq_or_not w.0 k) [
          | inl same ↦ inr (subst (λ (c : Found). Is k c f) (some_is w.2 d (sym w.3 ∙ ap found same ∙ e)) (subst (λ (n : ℕ). Is n w.2 f) same w.4))
          | inr other ↦ inl (w.0, (let l = w.1 in omega (arith, l, other)), w.2, w.3, w.4)
        ]

  module _ (k : ℕ) where
    pass : (notes : NameNotes) → found k ≡ None → NotedBelow blocks page found most k notes → NotedBelow blocks page found most (suc k) notes
    pass notes e b = record {
      size = b.size;
      uses = b.uses;
      pages = b.pages;
      counts = passed most k (names_by blocks page found) notes.counts b.counts (λ n. ap (λ (o : Option Found). leading_to n (names_found blocks page o)) e);
      findings = none_here notes.uses k [] notes.findings.items e b.findings;
    }

    add : (f : Found) (notes after : NameNotes) → found k ≡ Some f → NotesInode blocks page k f.page f.inode notes after → NotedBelow blocks page found most k notes → NotedBelow blocks page found most (suc k) after
    add f notes after e a b = record {
      size = ap (λ (us : List Use). length us) a.uses ∙ b.size;
      uses = λ n. ap (λ (us : List Use). use_at us n) a.uses ∙ b.uses n;
      pages = b.pages;
      counts = a.counts most (names_by blocks page found) b.counts (λ n. ap (λ (o : Option Found). leading_to n (names_found blocks page o)) e);
      findings = subst (λ (us : List Use). Gains (IsOfBelow blocks page found us (suc k)) [] after.findings.items) (sym a.uses)
          (one_here notes.uses k f [] notes.findings.items after.findings.items e b.findings a.findings);
    }

  -- one number more, of what notes on its way
  pub noted_next : {W : Type 0} (notes : W → NameNotes) (sees : W → ℕ → Found → W → Type 0) → ((n : ℕ) (f : Found) (old new : W) → sees old n f new → NotesInode blocks page n f.page f.inode (notes old) (notes new))
      → (k : ℕ) (o : Option Found) (old new : W) → found k ≡ o → NotedBelow blocks page found most k (notes old) → Step sees k o old new → NotedBelow blocks page found most (suc k) (notes new)
  noted_next notes sees adds k None old new e b s = subst (λ w. NotedBelow blocks page found most (suc k) (notes w)) (sym s) (pass k (notes old) e b)
  noted_next notes sees adds k (Some f) old new e b s = add k f (notes old) (notes new) e (adds k f old new s) b

-- all numbers were seen
pub all_noted : {W : Type 0} (notes : W → NameNotes) (sees : W → ℕ → Found → W → Type 0) (blocks : ℕ) (page : ℕ → List ℕ) (found : ℕ → Option Found) (most : ℕ)
    → ((n : ℕ) (f : Found) (old new : W) → sees old n f new → NotesInode blocks page n f.page f.inode (notes old) (notes new)) → (first last : W) → NotedBelow blocks page found most 0 (notes first)
    → Visits sees found 0 most first last → NotedBelow blocks page found most most (notes last)
all_noted notes sees blocks page found most adds first last start v =
    visits_keep sees found (λ n w. NotedBelow blocks page found most n (notes w)) first start most (λ n w u l b s. noted_next blocks page found most notes sees adds n (found n) w u refl b s) last v
