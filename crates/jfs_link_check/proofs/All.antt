-- What the notes tell of all inodes are the volume's findings of names, links and parents.
use Rattle.std.proofs.Common.{◌≡◌, ◌<◌, ◌≤◌, ◌⊎◌, inl, inr, refl, sym, ap, ◌∙◌, subst, ℕ, ◌+◌, ◌-◌, ◌^◌, Bool, true, false, if◌then◌else◌, List, [], ◌++◌, length, Option, Some, None, option_map, arith}
use Rattle.std.specs.Prelude.{min}
use Rattle.std.specs.List.{Contains}
use Rattle.std.proofs.lemmas.List.Elements.{Contains-append_left, Contains-append_right, Contains-append_cases}
use Rattle.jfs_inode.specs.declared.fields.Dinode.{Dinode}
use Rattle.jfs_super.specs.Rules.{blocks_of}
use Rattle.jfs_super.specs.declared.fields.Super.{Super}
use Rattle.jfs_object_check.specs.objects.specs.Objects.{has_names}
use Rattle.jfs_object_check.specs.objects.specs.Image.{extents_on}
use Rattle.jfs_object_check.specs.objects.proofs.Sums.{eq_or_not}
use Rattle.jfs_object_check.specs.meaning.specs.Readers.{readers}
use Rattle.jfs_object_check.specs.meaning.specs.Node.{parent_in}
use Rattle.jfs_object_check.specs.meaning.specs.Consistent.{leading_to, names_for}
use Rattle.jfs_object_check.specs.mount_rules.specs.Subject.{subject_of}
use Rattle.jfs_object_check.specs.findings.specs.Names.{readable, most}
use Rattle.jfs_object_check.specs.findings.specs.Gains.{Gains}
use Rattle.jfs_object_check.specs.findings.specs.declared.finding.Finding.{Finding}
use Rattle.jfs_object_check.proofs.Found.{gains_none, gains_both, gains_as}
use Rattle.jfs_each.specs.Each.{Found}
use Rattle.jfs_link_check.specs.Counts.{CountsBelow, CountsAll, NamesPast}
use Rattle.jfs_link_check.specs.Uses.{use_at, use_in, use_of}
use Rattle.jfs_link_check.specs.Places.{Place, places_with}
use Rattle.jfs_link_check.specs.Judged.{IsOfDirectory, IsOfBelow, IsLeft, IsJudged, page_told}
use Rattle.jfs_link_check.specs.Found.{IsOfNames}
use Rattle.jfs_link_check.specs.Notes.{AreNoted, NotedBelow, names_by, names_found}
use Rattle.jfs_link_check.specs.declared.uses.Use.{Use}
use Rattle.jfs_link_check.specs.declared.uses.Use.TheVariants.{Free, Directory, Other}
use Rattle.jfs_link_check.specs.declared.notes.NameNotes.{NameNotes}
use Rattle.jfs_link_check.proofs.Standing.{none_past, stands}
use Rattle.jfs_link_check.proofs.Due.{directory_due, other_due}
use Rattle.jfs_link_check.proofs.Readable.{subject, found, names_same, counts_as}
use Rattle.jfs_link_check.proofs.Told.{IsOfSome, all_told}

-- ---- findings that were noted before

pub noted_before : (is : Finding → Type 0) (old noted new : List Finding) → new ≡ old ++ noted → Gains is [] noted → Gains is old new
noted_before is old noted new e g = record {
  kept = λ f h. subst (λ fs. Contains fs f) (sym e) (Contains-append_left old noted f h);
  all = λ f h. subst (λ fs. Contains fs f) (sym e) (Contains-append_right old noted f (g.all f h));
  only = λ f h. elim (Contains-append_cases old noted f (subst (λ fs. Contains fs f) e h)) [
    | inl x ↦ inl x
    | inr x ↦ elim (g.only f x) [ inl y ↦ absurd (none_in f y) | inr y ↦ inr y ]
  ];
}
  where
    none_in : (f : Finding) → Contains [] f → ⊥
    none_in f h = let l = h.1 in omega (arith, l)

-- ---- one inode: what its names tell, and what is left

module _ (uses : List Use) (names : ℕ → ℕ → ℕ) (most n at : ℕ) (d : Dinode) (ps : List Place) (f : Finding) where
  abbrev Left : Use → Type 0
  Left u = IsLeft names most n (Some at) u f

  abbrev Whole : Type 0
  Whole = IsJudged uses names most n at d ps f

  left_to : (b : Bool) → has_names d ≡ b → Left (if b then Directory (parent_in d) else Other d.nlink) → Whole
  left_to true has h = inr (inr (h.0, h.1, h.2, (has, h.3)))
  left_to false has h = inr (inl (h.0, h.1, h.2, (h.3.0, λ e. h.3.1 (e ∙ other_due uses ps names most n d has))))

  to_whole : IsOfDirectory uses n at d ps f ⊎ Left (use_of d) → Whole
  to_whole (inl (inl h)) = inl h
  to_whole (inl (inr h)) = inr (inl (h.0, h.1, h.2, (h.3.0, λ e. h.3.2 (e ∙ directory_due uses ps names most n d h.3.1))))
  to_whole (inr h) = left_to (has_names d) refl h

  from_whole : Whole → IsOfDirectory uses n at d ps f ⊎ Left (use_of d)
  from_whole (inl h) = inl (inl h)
  from_whole (inr (inl h)) = by (has_names d) refl
    where
      by : (b : Bool) → has_names d ≡ b → IsOfDirectory uses n at d ps f ⊎ Left (if b then Directory (parent_in d) else Other d.nlink)
      by true has = inl (inr (h.0, h.1, h.2, (h.3.0, has, λ e. h.3.1 (e ∙ sym (directory_due uses ps names most n d has)))))
      by false has = inr (h.0, h.1, h.2, (h.3.0, λ e. h.3.1 (e ∙ sym (other_due uses ps names most n d has))))
  from_whole (inr (inr h)) = inr (subst Left (sym (ap (λ (b : Bool). if b then Directory (parent_in d) else Other d.nlink) h.3.0)) (h.0, h.1, h.2, h.3.1))

-- ---- what is left of all inodes

-- of some inode below a number
abbrev pub IsLeftBelow : (ℕ → ℕ → ℕ) → ℕ → List (Option ℕ) → List Use → ℕ → Finding → Type 0
IsLeftBelow names most places uses k f = (n : ℕ) × (n < k) × IsLeft names most n (page_told places n) (use_at uses n) f

unused : (names : ℕ → ℕ → ℕ) (most n : ℕ) (told : Option ℕ) (f : Finding) → IsLeft names most n told Free f → ⊥
unused names most n None f h = h
unused names most n (Some at) f h = h

module _ (names : ℕ → ℕ → ℕ) (most : ℕ) (places : List (Option ℕ)) (uses : List Use) where
  abbrev Of : ℕ → Finding → Type 0
  Of k = IsLeftBelow names most places uses k

  abbrev Is : ℕ → Finding → Type 0
  Is n f = IsLeft names most n (page_told places n) (use_at uses n) f

  pub none_left : (fs : List Finding) → Gains (Of 0) fs fs
  none_left fs = gains_none (Of 0) fs (λ f h. let l = h.1 in omega (arith, l))

  pub one_left : (k : ℕ) (old mid new : List Finding) → Gains (Of k) old mid → Gains (Is k) mid new → Gains (Of (k + 1)) old new
  one_left k old mid new g h = gains_as to from (gains_both g h)
    where
      to : (f : Finding) → Of k f ⊎ Is k f → Of (k + 1) f
      to f (inl w) = (w.0, (let l = w.1 in omega (arith, l)), w.2)
      to f (inr w) = (k, omega arith, w)

      from : (f : Finding) → Of (k + 1) f → Of k f ⊎ Is k f
      from f w = elim (eq_or_not w.0 k) [
        | inl same ↦ inr (subst (λ (n : ℕ). Is n f) same w.2)
        | inr other ↦ inl (w.0, (let l = w.1 in omega (arith, l, other)), w.2)
      ]

-- ---- the volume

module _ (super : Super) (page : ℕ → List ℕ) (notes : NameNotes) (noted : NotedBelow (blocks_of super) page (found super page) (most (subject super page)) (most (subject super page)) notes) where
  abbrev places : List (Option ℕ)
  places = extents_on (readers (blocks_of super)) page

  abbrev names : ℕ → ℕ → ℕ
  names = names_for (readable (subject super page))

  abbrev room : ℕ
  room = most (subject super page)

  pub all_counted : CountsAll names notes.counts
  all_counted = let size = noted.counts.size in subst (λ (k : ℕ). CountsBelow k names k notes.counts) (sym size) (counts_as room room (names_by (blocks_of super) page (found super page)) names notes.counts (names_same super page) noted.counts)

  pub none_past_all : (n : ℕ) → NamesPast (length notes.counts.counts) names n
  none_past_all n dir l =
      let size = noted.counts.size in
      sym (names_same super page dir n) ∙ ap (λ (o : Option Found). leading_to n (names_found (blocks_of super) page o)) (none_past page places dir (let k : room ≤ dir = omega (arith, size, l) in k))

  told_page : (n : ℕ) (d : Found) → found super page n ≡ Some d → page_told places n ≡ Some d.page
  told_page n d e = ap (λ (o : Option ℕ). option_map (λ p. min p (2 ^ 32 - 1)) o) (stands page places n d e) ∙ ap Some (let l = noted.pages n d e in omega (arith, l))

  abbrev Either : Finding → Type 0
  Either f = IsOfBelow (blocks_of super) page (found super page) notes.uses room f ⊎ IsLeftBelow names room places notes.uses room f

  some_to : (f : Finding) → Either f → IsOfSome super page notes.uses noted.uses f
  some_to f (inl w) = (w.0, w.1, w.2, w.3, to_whole notes.uses names room w.0 w.2.page w.2.inode (places_with (blocks_of super) page w.2.inode) f (inl w.4))
  some_to f (inr w) = by (found super page w.0) refl
    where
      by : (o : Option Found) → found super page w.0 ≡ o → IsOfSome super page notes.uses noted.uses f
      by None e = absurd (unused names room w.0 (page_told places w.0) f (subst (λ (u : Use). IsLeft names room w.0 (page_told places w.0) u f) (noted.uses w.0 ∙ ap use_in e) w.2))
      by (Some d) e = (
        w.0,
        w.1,
        d,
        e,
        to_whole notes.uses names room w.0 d.page d.inode (places_with (blocks_of super) page d.inode) f
            (inr (subst (λ (p : Option ℕ). IsLeft names room w.0 p (use_of d.inode) f) (told_page w.0 d e)
            (subst (λ (u : Use). IsLeft names room w.0 (page_told places w.0) u f) (noted.uses w.0 ∙ ap use_in e) w.2))),
      )

  some_from : (f : Finding) → IsOfSome super page notes.uses noted.uses f → Either f
  some_from f w = elim (from_whole notes.uses names room w.0 w.2.page w.2.inode (places_with (blocks_of super) page w.2.inode) f w.4) [
    | inl x ↦ inl (w.0, w.1, w.2, w.3, x)
    | inr x ↦ inr (
      w.0,
      w.1,
      subst (λ (u : Use). IsLeft names room w.0 (page_told places w.0) u f) (sym (noted.uses w.0 ∙ ap use_in w.3))
          (subst (λ (p : Option ℕ). IsLeft names room w.0 p (use_of w.2.inode) f) (sym (told_page w.0 w.2 w.3)) x),
    )
  ]

  pub of_volume : (old mid new : List Finding) → mid ≡ old ++ notes.findings.items → Gains (IsLeftBelow names room places notes.uses room) mid new → Gains (IsOfNames (subject super page)) old new
  of_volume old mid new e g =
      all_told super page notes.uses noted.uses old new (gains_as some_to some_from (gains_both (noted_before (IsOfBelow (blocks_of super) page (found super page) notes.uses room) old notes.findings.items mid e noted.findings) g))

-- what was left is found, whatever the names are
abbrev pub LeavesBelow : NameNotes → List (Option ℕ) → ℕ → List Finding → List Finding → Type 0
LeavesBelow notes places k old new = (names : ℕ → ℕ → ℕ) → CountsAll names notes.counts → ((n : ℕ) → NamesPast (length notes.counts.counts) names n)
    → Gains (IsLeftBelow names (length notes.counts.counts) places notes.uses k) old new

pub all_found : (notes : NameNotes) (places : List (Option ℕ)) (k : ℕ) (old mid new : List Finding) → mid ≡ old ++ notes.findings.items → k ≡ length notes.counts.counts → LeavesBelow notes places k mid new
    → (blocks : ℕ) (page : ℕ → List ℕ) → AreNoted blocks page places notes → (s : Super) → blocks_of s ≡ blocks → extents_on (readers blocks) page ≡ places → Gains (IsOfNames (subject_of s page)) old new
all_found notes places k old mid new e whole left blocks page noted s same at =
    let P : ℕ → List (Option ℕ) → Type 0 = (λ b ps. AreNoted b page ps notes × LeavesBelow notes ps (length notes.counts.counts) mid new) in
    let here = subst (λ (ps : List (Option ℕ)). P (blocks_of s) ps) (sym (ap (λ (b : ℕ). extents_on (readers b) page) same ∙ at)) (subst (λ (b : ℕ). P b places) (sym same) (noted, subst (λ (m : ℕ). LeavesBelow notes places m mid new) whole left)) in
    let size = here.0.counts.size in
    of_volume s page notes here.0 old mid new e
    (subst (λ (k : ℕ). Gains (IsLeftBelow (names_for (readable (subject s page))) k (extents_on (readers (blocks_of s)) page) notes.uses k) mid new) size
    (here.1 (names_for (readable (subject s page))) (all_counted s page notes here.0) (none_past_all s page notes here.0)))
