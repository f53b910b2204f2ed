-- What is found of all inodes are the volume's findings of names, links and parents.
use Rattle.std.proofs.Common.{◌≡◌, ◌≢◌, ◌<◌, inl, inr, refl, sym, ap, ◌∙◌, subst, ℕ, ◌+◌, true, false, if◌then◌else◌, List, [], ◌∷◌, ◌++◌, Some, None, Result, Ok, Err}
use Rattle.std.proofs.lemmas.Bool.{cases_lt}
use Rattle.jfs_bits.specs.declared.rule.Rule.{Rule}
use Rattle.jfs_inode.specs.declared.fields.Dinode.{Dinode}
use Rattle.jfs_name.specs.declared.name.NameEntry.{NameEntry}
use Rattle.jfs_super.specs.Rules.{blocks_of}
use Rattle.jfs_super.specs.declared.fields.Super.{Super}
use Rattle.jfs_dtree.specs.Node.{name_scale}
use Rattle.jfs_tree.specs.Walk.{Mark, Page, Key, Row, Fault, Marks}
use Rattle.jfs_object_check.specs.objects.specs.Objects.{Object, has_names, names_of, listed, spelled}
use Rattle.jfs_object_check.specs.objects.specs.Image.{extents_on}
use Rattle.jfs_object_check.specs.meaning.specs.Readers.{readers}
use Rattle.jfs_object_check.specs.meaning.specs.Node.{parent_in}
use Rattle.jfs_object_check.specs.meaning.specs.Consistent.{is_reserved, is_directory, names_for, names_to, links_due}
use Rattle.jfs_object_check.specs.mount_rules.specs.Subject.{Subject, IsObject, page_named}
use Rattle.jfs_object_check.specs.findings.specs.Names.{readable, readable_node, most, leads, StandsAt, IsPlaced}
use Rattle.jfs_object_check.specs.findings.specs.Findings.{Says}
use Rattle.jfs_object_check.specs.findings.specs.Gains.{Gains}
use Rattle.jfs_object_check.specs.findings.specs.declared.finding.Finding.{Finding}
use Rattle.jfs_object_check.specs.findings.specs.declared.finding.FindingKind.{FindingKind}
use Rattle.jfs_object_check.specs.findings.specs.declared.finding.FindingKind.TheVariants as kinds
use Rattle.jfs_object_check.specs.findings.proofs.Readable.{kind_is}
use Rattle.jfs_object_check.proofs.Found.{gains_as}
use Rattle.jfs_each.specs.Each.{Found}
use Rattle.jfs_link_check.specs.Found.{is_of_names, IsOfNames}
use Rattle.jfs_link_check.specs.Uses.{use_at, use_in, is_directory as holds_names, may_be_named}
use Rattle.jfs_link_check.specs.Places.{places_in, sound_places, places_with}
use Rattle.jfs_link_check.specs.Judged.{IsAstray, IsJudged, IsPlacedBy, due_by}
use Rattle.jfs_link_check.specs.declared.uses.Use.{Use}
use Rattle.jfs_link_check.proofs.Walked.{as_many}
use Rattle.jfs_link_check.proofs.Standing.{none_past}
use Rattle.jfs_link_check.proofs.Readable.{subject, found, object_of, is_object, found_of, directory_same, leads_same}

-- ---- names that lead to nothing

-- such a name, on a page of a walk
record IsLost {P : Type 0} (uses : List Use) (at : ℕ) (ms : Marks P NameEntry) (f : Finding) : Type 0 where
  kind : f.kind ≡ kinds.Name
  tree_page : ℕ
  e : NameEntry
  stands : StandsAt tree_page e ms
  on : f.page ≡ page_named at tree_page
  to : f.value ≡ e.inode
  nothing : may_be_named uses e.inode ≡ false

behind : {P : Type 0} (uses : List Use) (at : ℕ) (m : Mark P NameEntry) (ms : Marks P NameEntry) (f : Finding) → IsLost uses at ms f → IsLost uses at (m ∷ ms) f
behind {P} uses at m ms f l = record {
  kind = l.kind;
  tree_page = l.tree_page;
  e = l.e;
  stands = record { front = m ∷ l.stands.front; back = l.stands.back; at = ap (λ (ns : Marks P NameEntry). m ∷ ns) l.stands.at };
  on = l.on;
  to = l.to;
  nothing = l.nothing;
}

lost : {P : Type 0} (uses : List Use) (at : ℕ) (ms : Marks P NameEntry) (f : Finding) → IsAstray uses at (places_in ms) f → IsLost uses at ms f
lost uses at [] f h = absurd h
lost uses at (Page n ∷ ms) f h = behind uses at (Page n) ms f (lost uses at ms f h)
lost uses at (Key n k ∷ ms) f h = behind uses at (Key n k) ms f (lost uses at ms f h)
lost uses at (Row n e ∷ ms) f (inl h) = record { kind = h.0; tree_page = n; e = e; stands = record { front = []; back = ms; at = refl }; on = h.1; to = h.2; nothing = h.3 }
lost uses at (Row n e ∷ ms) f (inr h) = behind uses at (Row n e) ms f (lost uses at ms f h)
lost uses at (Fault n r ∷ ms) f h = behind uses at (Fault n r) ms f (lost uses at ms f h)

module _ {P : Type 0} (uses : List Use) (at tree_page : ℕ) (e : NameEntry) (back : Marks P NameEntry) (f : Finding) (kind : f.kind ≡ kinds.Name) (on : f.page ≡ page_named at tree_page) (to : f.value ≡ e.inode) (nothing : may_be_named uses e.inode ≡ false) where
  astray_in : (front : Marks P NameEntry) → IsAstray uses at (places_in (front ++ Row tree_page e ∷ back)) f
  astray_in [] = inl (kind, on, to, nothing)
  astray_in (Page n ∷ ms) = astray_in ms
  astray_in (Key n k ∷ ms) = astray_in ms
  astray_in (Row n x ∷ ms) = inr (astray_in ms)
  astray_in (Fault n r ∷ ms) = astray_in ms

astray : {P : Type 0} (uses : List Use) (at : ℕ) (ms : Marks P NameEntry) (f : Finding) → IsLost uses at ms f → IsAstray uses at (places_in ms) f
astray {P} uses at ms f l = subst (λ (ns : Marks P NameEntry). IsAstray uses at (places_in ns) f) (sym l.stands.at) (astray_in uses at l.tree_page l.e l.stands.back f l.kind l.on l.to l.nothing l.stands.front)

-- the tree breaks no rule
sound_only : {P : Type 0} (uses : List Use) (at : ℕ) (r : Result (List NameEntry) (ℕ × Rule)) (ms : Marks P NameEntry) (f : Finding) → IsAstray uses at (sound_places r ms) f → (names : List NameEntry) × (r ≡ Ok names) × IsAstray uses at (places_in ms) f
sound_only uses at (Ok es) ms f h = (es, refl, h)
sound_only uses at (Err x) ms f h = absurd h

sound_all : {P : Type 0} (uses : List Use) (at : ℕ) (r : Result (List NameEntry) (ℕ × Rule)) (ms : Marks P NameEntry) (f : Finding) (names : List NameEntry) → r ≡ Ok names → IsAstray uses at (places_in ms) f → IsAstray uses at (sound_places r ms) f
sound_all uses at r ms f names e h = subst (λ (r : Result (List NameEntry) (ℕ × Rule)). IsAstray uses at (sound_places r ms) f) (sym e) h

-- ---- all findings

module _ (super : Super) (page : ℕ → List ℕ) (uses : List Use) (are : (n : ℕ) → use_at uses n ≡ use_in (found super page n)) where
  abbrev s : Subject
  s = subject super page

  abbrev names : ℕ → ℕ → ℕ
  names = names_for (readable s)

  abbrev marks : Dinode → Marks (List ℕ) NameEntry
  marks d = names_of (readers (blocks_of super)) page d

  due_same : (n : ℕ) (f : Found) → due_by uses (places_with (blocks_of super) page f.inode) names (most s) n f.inode ≡ links_due (most s) (readable s) n (readable_node s (object_of super page f))
  unfolding spelled
  due_same n f = λ i. if sym (kind_is f.inode) i then 2 + as_many name_scale (marks f.inode) (λ m. holds_names (use_at uses m)) (λ m. is_directory ((readable s).nodes m)) (directory_same super page uses are) i else names_to (most s) (readable s) n

  placed_to : (n : ℕ) (f : Found) → IsPlacedBy names (most s) n (parent_in f.inode) → IsPlaced s n (readable_node s (object_of super page f))
  unfolding spelled
  placed_to n f p = record {
    top = λ e. let h = p.top e in (h.0, subst (λ (m : ℕ). names_to (most s) (readable s) m ≡ 0) e h.1);
    below = λ ne. let h = p.below ne in record { one = h.0; by_parent = h.1 };
  }

  placed_from : (n : ℕ) (f : Found) → IsPlaced s n (readable_node s (object_of super page f)) → IsPlacedBy names (most s) n (parent_in f.inode)
  unfolding spelled
  placed_from n f p = record {
    top = λ e. let h = p.top e in (h.0, subst (λ (m : ℕ). names_to (most s) (readable s) m ≡ 0) (sym e) h.1);
    below = λ ne. let h = p.below ne in (h.one, h.by_parent);
  }

  told : (f : Finding) (kind : FindingKind) → f.kind ≡ kind → is_of_names kind ≡ true → Says s kind f.page f.value → IsOfNames s f
  told f kind e t h = subst (λ (k : FindingKind). (is_of_names k ≡ true) × Says s k f.page f.value) (sym e) (t, h)

  at_place : (n : ℕ) (f : Found) (p v : ℕ) → found super page n ≡ Some f → p ≡ f.page → v ≡ n → IsObject s v p (object_of super page f)
  at_place n f p v e on is = subst (λ (m : ℕ). IsObject s m p (object_of super page f)) (sym is) (subst (λ (q : ℕ). IsObject s n q (object_of super page f)) (sym on) (is_object super page n f e))

  abbrev Is : ℕ → Found → Finding → Type 0
  Is n d f = IsJudged uses names (most s) n d.page d.inode (places_with (blocks_of super) page d.inode) f

  to_says : (n : ℕ) (d : Found) (f : Finding) → found super page n ≡ Some d → Is n d f → IsOfNames s f
  unfolding spelled
  to_says n d f e (inl h) =
      let w = sound_only uses d.page (listed name_scale (marks d.inode)) (marks d.inode) f h in
      let l = lost uses d.page (marks d.inode) f w.2 in
      told f kinds.Name l.kind refl (record {
        directory = n;
        inode_page = d.page;
        o = object_of super page d;
        is = is_object super page n d e;
        names = w.0;
        sound = w.1;
        e = l.e;
        tree_page = l.tree_page;
        stands = l.stands;
        on = l.on;
        to = l.to;
        nothing = ap (leads s) l.to ∙ sym (leads_same super page uses are l.e.inode) ∙ l.nothing;
      })
  to_says n d f e (inr (inl h)) =
      told f kinds.Links h.0 refl (
        object_of super page d,
        at_place n d f.page f.value e h.1 h.2,
        subst (λ (m : ℕ). is_reserved m ≡ false) (sym h.2) h.3.0,
        λ same. h.3.1 (same ∙ ap (λ (m : ℕ). links_due (most s) (readable s) m (readable_node s (object_of super page d))) h.2 ∙ sym (due_same n d)),
      )
  to_says n d f e (inr (inr h)) =
      told f kinds.Parent h.0 refl (
        object_of super page d,
        at_place n d f.page f.value e h.1 h.2,
        h.3.0,
        λ p. h.3.1 (placed_from n d (subst (λ (m : ℕ). IsPlaced s m (readable_node s (object_of super page d))) h.2 p)),
      )

  -- a finding of some inode
  abbrev pub IsOfSome : Finding → Type 0
  IsOfSome f = (n : ℕ) × (n < most s) × (d : Found) × (found super page n ≡ Some d) × Is n d f

  within : (n : ℕ) (d : Found) → found super page n ≡ Some d → n < most s
  within n d e = elim (cases_lt n (most s)) [ inl l ↦ l | inr l ↦ absurd (none_is d (sym (none_past page (extents_on (readers (blocks_of super)) page) n l) ∙ e)) ]
    where
      none_is : (d : Found) → None ≡ Some d → ⊥
      none_is d h = cc h

  of_one : (n : ℕ) (d : Found) (f : Finding) → found super page n ≡ Some d → Is n d f → IsOfSome f
  of_one n d f e h = (n, within n d e, d, e, h)

  from_says : (kind : FindingKind) (p v : ℕ) → is_of_names kind ≡ true → Says s kind p v → IsOfSome (record { kind = kind; page = p; value = v })
  unfolding spelled
  from_says kinds.Aggregate p v k h = absurd (cc k)
  from_says kinds.Iag p v k h = absurd (cc k)
  from_says kinds.Inode p v k h = absurd (cc k)
  from_says kinds.Xtree p v k h = absurd (cc k)
  from_says kinds.Dtree p v k h = absurd (cc k)
  from_says kinds.Shared p v k h = absurd (cc k)
  from_says kinds.Outside p v k h = absurd (cc k)
  from_says kinds.Name p v k h =
      let w = found_of super page h.directory h.inode_page h.o h.is in
      of_one h.directory w.0 (record { kind = kinds.Name; page = p; value = v }) w.1 (inl
      (sound_all uses w.0.page (listed name_scale (marks w.0.inode)) (marks w.0.inode) (record { kind = kinds.Name; page = p; value = v }) h.names
      (subst (λ (o : Object). listed name_scale o.names ≡ Ok h.names) (sym w.3) h.sound)
      (astray uses w.0.page (marks w.0.inode) (record { kind = kinds.Name; page = p; value = v }) (record {
        kind = refl;
        tree_page = h.tree_page;
        e = h.e;
        stands = subst (λ (o : Object). StandsAt h.tree_page h.e o.names) (sym w.3) h.stands;
        on = h.on ∙ ap (λ (q : ℕ). page_named q h.tree_page) (sym w.2);
        to = h.to;
        nothing = leads_same super page uses are h.e.inode ∙ sym (ap (leads s) h.to) ∙ h.nothing;
      }))))
  from_says kinds.Links p v k h =
      let w = found_of super page v p h.0 h.1 in
      of_one v w.0 (record { kind = kinds.Links; page = p; value = v }) w.1 (inr (inl (
        refl,
        sym w.2,
        refl,
        (
          h.2,
          λ same. subst (λ (o : Object). o.inode.nlink ≢ links_due (most s) (readable s) v (readable_node s o)) (sym w.3) h.3 (same ∙ due_same v w.0),
        ),
      )))
  from_says kinds.Parent p v k h =
      let w = found_of super page v p h.0 h.1 in
      of_one v w.0 (record { kind = kinds.Parent; page = p; value = v }) w.1 (inr (inr (
        refl,
        sym w.2,
        refl,
        (
          subst (λ (o : Object). has_names o.inode ≡ true) (sym w.3) h.2,
          λ placed. subst (λ (o : Object). IsPlaced s v (readable_node s o) → ⊥) (sym w.3) h.3 (placed_to v w.0 placed),
        ),
      )))
  from_says kinds.Nblocks p v k h = absurd (cc k)
  from_says kinds.Past p v k h = absurd (cc k)
  from_says kinds.Thin p v k h = absurd (cc k)
  from_says kinds.Map p v k h = absurd (cc k)
  from_says kinds.Bmap p v k h = absurd (cc k)

  pub all_told : (old new : List Finding) → Gains IsOfSome old new → Gains (IsOfNames s) old new
  all_told old new g = gains_as (λ f h. to_says h.0 h.2 f h.3 h.4) (λ f h. from_says f.kind f.page f.value h.0 h.1) g
