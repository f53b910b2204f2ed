-- The names of a directory, as a walk shows them.
use Rattle.std.proofs.Common.{◌≡◌, ◌⊎◌, inl, inr, refl, sym, ap, ◌∙◌, subst, ℕ, ◌+◌, ◌-◌, ◌^◌, Bool, true, false, not, ◌==◌, if◌then◌else◌, List, [], ◌∷◌, Result, Ok, Err, arith}
use Rattle.std.specs.Prelude.{OnOk, count_by, min}
use Rattle.std.specs.Int.{from_bool}
use Rattle.std.proofs.lemmas.List.Sums.{sum_by-cons}
use Rattle.jfs_bits.specs.declared.rule.Rule.{Rule}
use Rattle.jfs_bits.specs.declared.rule.Rule.TheVariants as rules
use Rattle.jfs_ranges.specs.declared.view.ViewError.{ViewError}
use Rattle.jfs_inode.specs.declared.fields.Dinode.{Dinode}
use Rattle.jfs_name.specs.declared.name.NameEntry.{NameEntry}
use Rattle.jfs_dtree.specs.Node.{name_scale}
use Rattle.jfs_tree.specs.Walk.{Page, Key, Row, Fault, Marks, Scale, rows_of}
use Rattle.jfs_tree.specs.Walking.{Meets, Stops, ended}
use Rattle.jfs_tree.specs.declared.form.TreeError.{TreeError}
use Rattle.jfs_tree.specs.declared.form.TreeError.TheVariants.{View, Bad, Memory}
use Rattle.jfs_tree.proofs.Judge.{judged}
use Rattle.jfs_object_check.specs.objects.specs.Objects.{has_names, names_of, listed, met}
use Rattle.jfs_object_check.specs.objects.specs.Owners.{entries}
use Rattle.jfs_object_check.specs.meaning.specs.Readers.{readers, root_of}
use Rattle.jfs_object_check.specs.mount_rules.specs.Subject.{page_named}
use Rattle.jfs_object_check.specs.findings.specs.Gains.{Gains}
use Rattle.jfs_object_check.specs.findings.specs.declared.finding.Finding.{Finding}
use Rattle.jfs_object_check.specs.findings.specs.declared.finding.FindingKind.TheVariants as kinds
use Rattle.jfs_object_check.specs.Steps.{Only}
use Rattle.jfs_object_check.proofs.Every.{not_true}
use Rattle.jfs_object_check.proofs.Found.{gains_none, gains_both, gains_as}
use Rattle.jfs_object_check.proofs.Walks.{names_are}
use Rattle.jfs_object_check.specs.owners.specs.Counts.{OwnerSets, Adds, page_has}
use Rattle.jfs_object_check.specs.owners.specs.Held.{names_walk}
use Rattle.jfs_object_check.specs.owners.proofs.Counted.{adds_none, adds_same}
use Rattle.jfs_object_check.specs.owners.proofs.Walked.{walk_adds}
use Rattle.jfs_link_check.specs.Counts.{AddsNames, ends}
use Rattle.jfs_link_check.specs.Uses.{use_at, is_directory, may_be_named}
use Rattle.jfs_link_check.specs.Places.{Place, places_in, sound_places, names_to, subdirectories}
use Rattle.jfs_link_check.specs.Judged.{IsAstray}
use Rattle.jfs_link_check.specs.Notes.{Sees}
use Rattle.jfs_link_check.specs.declared.uses.Use.{Use}
use Rattle.jfs_link_check.specs.declared.notes.NameNotes.{NameNotes}
use Rattle.jfs_link_check.specs.declared.census.Census.{Census}
use Rattle.jfs_link_check.proofs.Counted.{adds_nothing, adds_as, adds_both}

-- ---- names one after the other

one_place : (g : Place → Bool) (p : Place) → count_by g (p ∷ []) ≡ (if g p then 1 else 0)
one_place g p = let one = sum_by-cons (λ (q : Place). if g q then 1 else 0) p [] in omega (arith, one)

one_more : (g : Place → Bool) (p : Place) (ps : List Place) → count_by g (p ∷ ps) ≡ count_by g (p ∷ []) + count_by g ps
one_more g p ps =
    let all = sum_by-cons (λ (q : Place). if g q then 1 else 0) p ps in
    let one = sum_by-cons (λ (q : Place). if g q then 1 else 0) p [] in
    omega (arith, all, one)

and_none : (n : ℕ) → n + 0 ≡ n
and_none n = omega arith

-- no name was seen
pub sees_none : (v : NameNotes) → Sees [] v v
sees_none v = record {
  uses = refl;
  number = refl;
  page = refl;
  counts = adds_nothing v.here.number (λ n. names_to n []) v.counts (λ n. refl);
  below = ap ends (sym (and_none v.here.subdirectories));
  findings = gains_none (IsAstray v.uses v.here.page []) v.findings.items (λ f h. h);
}

-- one name, which was counted and judged
pub name_seen : {T E : Type 0} (page inode on value more : ℕ) (leads : Bool) (old new : NameNotes) (r : Result T E) → new.uses ≡ old.uses → new.here.number ≡ old.here.number → new.here.page ≡ old.here.page
    → AddsNames old.here.number (λ k. if inode == k then 1 else 0) old.counts new.counts
    → more ≡ from_bool (is_directory (use_at old.uses inode)) → new.here.subdirectories ≡ min (old.here.subdirectories + more) (2 ^ 64 - 1)
    → on ≡ page_named old.here.page page → leads ≡ may_be_named old.uses inode → value ≡ inode
    → OnOk r (Gains (Only kinds.Name on value (not leads ≡ true)) old.findings.items new.findings.items) → OnOk r (Sees (record { page = page; inode = inode } ∷ []) old new)
name_seen page inode on value more leads old new (Ok it) uses number at counts is below named may same g = record {
  uses = uses;
  number = number;
  page = at;
  counts = adds_as old.here.number (λ k. if inode == k then 1 else 0) (λ k. names_to k (p ∷ [])) old.counts new.counts (λ k. sym (one_place (λ (q : Place). q.inode == k) p)) counts;
  below = (
      let one = one_place (λ (q : Place). is_directory (use_at old.uses q.inode)) p in
      let bit = bool_is (is_directory (use_at old.uses inode)) in
      omega (arith, one, bit, is, below));
  findings = gains_as to from g;
}
  where
    p : Place
    p = record { page = page; inode = inode }

    bool_is : (b : Bool) → from_bool b ≡ (if b then 1 else 0)
    bool_is true = refl
    bool_is false = refl

    to : (f : Finding) → Only kinds.Name on value (not leads ≡ true) f → IsAstray old.uses old.here.page (p ∷ []) f
    to f w = inl (w.0, w.1 ∙ named, w.2 ∙ same, sym may ∙ not_true leads w.3)

    from : (f : Finding) → IsAstray old.uses old.here.page (p ∷ []) f → Only kinds.Name on value (not leads ≡ true) f
    from f (inl w) = (w.0, w.1 ∙ sym named, w.2 ∙ sym same, ap not (may ∙ w.3))
    from f (inr w) = absurd w
name_seen page inode on value more leads old new (Err e) uses number at counts is below named may same g = tt

-- a name, and those behind it
pub sees_next : (p : Place) (ps : List Place) (a b c : NameNotes) → Sees (p ∷ []) a b → Sees ps b c → Sees (p ∷ ps) a c
sees_next p ps a b c h k = record {
  uses = k.uses ∙ h.uses;
  number = k.number ∙ h.number;
  page = k.page ∙ h.page;
  counts = adds_both a.here.number (λ n. names_to n (p ∷ [])) (λ n. names_to n ps) (λ n. names_to n (p ∷ ps)) a.counts b.counts c.counts (λ n. one_more (λ (q : Place). q.inode == n) p ps) h.counts
      (subst (λ (dir : ℕ). AddsNames dir (λ n. names_to n ps) b.counts c.counts) h.number k.counts);
  below = below;
  findings = gains_as to from (gains_both h.findings rest);
}
  where
    here : ends c.here.subdirectories ≡ ends (b.here.subdirectories + subdirectories a.uses ps)
    here = subst (λ (us : List Use). ends c.here.subdirectories ≡ ends (b.here.subdirectories + subdirectories us ps)) h.uses k.below

    below : ends c.here.subdirectories ≡ ends (a.here.subdirectories + subdirectories a.uses (p ∷ ps))
    below = let last = here in let first = h.below in let sum = one_more (λ (q : Place). is_directory (use_at a.uses q.inode)) p ps in omega (arith, last, first, sum)

    rest : Gains (IsAstray a.uses a.here.page ps) b.findings.items c.findings.items
    rest = subst (λ (us : List Use). Gains (IsAstray us a.here.page ps) b.findings.items c.findings.items) h.uses (subst (λ (at : ℕ). Gains (IsAstray b.uses at ps) b.findings.items c.findings.items) h.page k.findings)

    to : (f : Finding) → IsAstray a.uses a.here.page (p ∷ []) f ⊎ IsAstray a.uses a.here.page ps f → IsAstray a.uses a.here.page (p ∷ ps) f
    to f (inl (inl x)) = inl x
    to f (inl (inr x)) = absurd x
    to f (inr x) = inr x

    from : (f : Finding) → IsAstray a.uses a.here.page (p ∷ ps) f → IsAstray a.uses a.here.page (p ∷ []) f ⊎ IsAstray a.uses a.here.page ps f
    from f (inl x) = inl (inl x)
    from f (inr x) = inr x

-- ---- a walk

-- what a visitor sees of a walk, a part of the visitor sees
module _ {P E V W : Type 0} (s : Scale P E) (part : V → W) (page : V → ℕ → V → Type 0) (row : V → ℕ → E → V → Type 0) (page_of_part : W → ℕ → W → Type 0) (row_of_part : W → ℕ → E → W → Type 0)
    (pages : (v : V) (n : ℕ) (u : V) → page v n u → page_of_part (part v) n (part u)) (rows : (v : V) (n : ℕ) (e : E) (u : V) → row v n e u → row_of_part (part v) n e (part u)) where
  meets_part : (low : P) (v : V) (ms : Marks P E) (r : Result P TreeError) (w : V) → Meets s page row low v ms r w → Meets s page_of_part row_of_part low (part v) ms r (part w)
  meets_part low v [] r w h = (h.0, ap part h.1)
  meets_part low v (Page n ∷ ms) r w h = elim h [
    | inl t ↦ inl (t.0, t.1, ap part t.2)
    | inr t ↦ inr (part t.0, pages v n t.0 t.1, meets_part low t.0 ms r w t.2)
  ]
  meets_part low v (Key n k ∷ ms) r w h = elim h [
    | inl t ↦ inl (t.0, meets_part k v ms r w t.1)
    | inr t ↦ inr (t.0, (t.1.0, ap part t.1.1))
  ]
  meets_part low v (Row n e ∷ ms) r w h = elim h [
    | inl t ↦ inl (
      t.0,
      elim t.1 [
        | inl x ↦ inl x
        | inr x ↦ inr (part x.0, rows v n e x.0 x.1, meets_part (s.to e) x.0 ms r w x.2)
      ],
    )
    | inr t ↦ inr (t.0, (t.1.0, ap part t.1.1))
  ]
  meets_part low v (Fault n rule ∷ ms) r w h = (h.0, ap part h.1)

abbrev done : {P : Type 0} → P → Result P TreeError
done p = Ok p

no_view : {P : Type 0} (p : P) (e : ViewError) → done p ≡ Err (View e) → ⊥
no_view p e h = cc

no_memory : {P : Type 0} (p : P) → done p ≡ Err Memory → ⊥
no_memory p h = cc

stopped : {P V X : Type 0} (n : ℕ) (rule : Rule) (v w : V) (m : P) → Stops n rule v (done m) w → X
stopped n rule v w m t = absurd (no_bad n rule m t.0)
  where
    no_bad : {P : Type 0} (n : ℕ) (rule : Rule) (m : P) → done m ≡ Err (Bad n rule) → ⊥
    no_bad n rule m h = cc

abbrev sees_name : NameNotes → ℕ → NameEntry → NameNotes → Type 0
sees_name old n x new = Sees (record { page = n; inode = x.inode } ∷ []) old new

module _ {P : Type 0} (s : Scale P NameEntry) where
  -- a walk that comes to its end saw all names
  all_seen : (low : P) (v : NameNotes) (ms : Marks P NameEntry) (m : P) (w : NameNotes) → Meets s (λ old n new. new ≡ old) sees_name low v ms (Ok m) w → Sees (places_in ms) v w
  all_seen low v [] m w h = subst (λ (u : NameNotes). Sees [] v u) (sym h.1) (sees_none v)
  all_seen low v (Page n ∷ ms) m w h = elim h [
    | inl t ↦ absurd (no_view m t.0 t.1)
    | inr t ↦ subst (λ (u : NameNotes). Sees (places_in ms) u w) t.1 (all_seen low t.0 ms m w t.2)
  ]
  all_seen low v (Key n k ∷ ms) m w h = elim h [
    | inl t ↦ all_seen k v ms m w t.1
    | inr t ↦ stopped n rules.Order v w m t.1
  ]
  all_seen low v (Row n e ∷ ms) m w h = elim h [
    | inl t ↦ elim t.1 [
      | inl x ↦ absurd (no_memory m x)
      | inr x ↦ sees_next (record { page = n; inode = e.inode }) (places_in ms) v x.0 w x.1 (all_seen (s.to e) x.0 ms m w x.2)
    ]
    | inr t ↦ stopped n rules.Order v w m t.1
  ]
  all_seen low v (Fault n rule ∷ ms) m w h = stopped n rule v w m h

abbrev sees_page : Census → ℕ → Census → Type 0
sees_page old n new = Adds (page_has n) old.owners new.owners × (new.names ≡ old.names)

abbrev sees_entry : Census → ℕ → NameEntry → Census → Type 0
sees_entry old n x new = (new.owners ≡ old.owners) × sees_name old.names n x new.names

-- a directory's tree: its pages have an owner more, and its names were seen
pub tree_seen : {T : Type 0} (blocks b : ℕ) (page : ℕ → List ℕ) (d : Dinode) (root : List ℕ) (r : Result T TreeError) → b ≡ blocks → root ≡ root_of d → has_names d ≡ true → (v w : Census)
    → (end : List ℕ) × Meets name_scale sees_page sees_entry [] v (names_walk b page root) (ended end r) w
    → OnOk r (Adds (met (names_of (readers blocks) page d)) v.owners w.owners × Sees (places_in (names_of (readers blocks) page d)) v.names w.names)
tree_seen {T} blocks b page d root r same at has v w m =
    subst (λ ms. OnOk r (Adds (met ms) v.owners w.owners × Sees (places_in ms) v.names w.names)) (names_are blocks b page d root r same at has) (by r m.1)
  where
    row_none : OwnerSets → ℕ → NameEntry → OwnerSets → Type 0
    row_none old n x new = new ≡ old

    by : (r : Result T TreeError) → Meets name_scale sees_page sees_entry [] v (names_walk b page root) (ended m.0 r) w
        → OnOk r (Adds (met (names_walk b page root)) v.owners w.owners × Sees (places_in (names_walk b page root)) v.names w.names)
    by (Ok it) h =
        let ms = names_walk b page root in
        let owned = meets_part name_scale (λ (c : Census). c.owners) sees_page sees_entry (λ old n new. Adds (page_has n) old new) row_none (λ v n u s. s.0) (λ v n e u s. s.0) [] v ms (Ok m.0) w h in
        let seen = meets_part name_scale (λ (c : Census). c.names) sees_page sees_entry (λ old n new. new ≡ old) sees_name (λ v n u s. s.1) (λ v n e u s. s.1) [] v ms (Ok m.0) w h in (
          adds_same (λ k. met ms k + 0) (met ms) v.owners w.owners (λ k. and_none (met ms k))
              (walk_adds name_scale row_none (λ (x : NameEntry) (k : ℕ). 0) (λ (k : ℕ) (es : List NameEntry). 0) (λ k. refl) (λ k e es. refl) (λ o n e u s. adds_none (λ k. 0) o u s (λ k. refl)) [] v.owners ms m.0 w.owners owned),
          all_seen name_scale [] v.names ms m.0 w.names seen,
        )
    by (Err e) h = tt

-- ---- places and names

counted_in : {P : Type 0} (g h : ℕ → Bool) → ((n : ℕ) → g n ≡ h n) → (ms : Marks P NameEntry) → count_by (λ (p : Place). g p.inode) (places_in ms) ≡ count_by (λ (e : NameEntry). h e.inode) (rows_of ms)
counted_in g h same [] = refl
counted_in g h same (Page n ∷ ms) = counted_in g h same ms
counted_in g h same (Key n k ∷ ms) = counted_in g h same ms
counted_in g h same (Row n e ∷ ms) =
    let p : Place = record { page = n; inode = e.inode } in
    let here = ap (λ (b : Bool). let k : ℕ = (if b then 1 else 0) in k) (same e.inode) in
    let one = sum_by-cons (λ (p : Place). if g p.inode then 1 else 0) p (places_in ms) in
    let other = sum_by-cons (λ (x : NameEntry). if h x.inode then 1 else 0) e (rows_of ms) in
    let rest = counted_in g h same ms in
    omega (arith, here, one, other, rest)
counted_in g h same (Fault n r ∷ ms) = counted_in g h same ms

-- as many places as names lead to inodes with a property
pub as_many : {P : Type 0} (s : Scale P NameEntry) (ms : Marks P NameEntry) (g h : ℕ → Bool) → ((n : ℕ) → g n ≡ h n)
    → count_by (λ (p : Place). g p.inode) (sound_places (listed s ms) ms) ≡ count_by (λ (e : NameEntry). h e.inode) (entries (listed s ms))
as_many s ms g h same = by (listed s ms) refl
  where
    by : (r : Result (List NameEntry) (ℕ × Rule)) → listed s ms ≡ r → count_by (λ (p : Place). g p.inode) (sound_places r ms) ≡ count_by (λ (e : NameEntry). h e.inode) (entries r)
    by (Ok es) e = counted_in g h same ms ∙ ap (λ (es : List NameEntry). count_by (λ (e : NameEntry). h e.inode) es) (judged s s.least ms es e).1
    by (Err f) e = refl
