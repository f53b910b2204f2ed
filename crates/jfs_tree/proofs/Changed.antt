-- What a draft tells are the changed lines of different pages.
use Rattle.std.proofs.Common.{◌≡◌, ◌≤◌, ◌<◌, inl, inr, refl, sym, ap, ◌∙◌, subst, ℕ, ◌+◌, Bool, true, false, ◌||◌, ◌==◌, if◌then◌else◌, List, [], ◌∷◌, ◌++◌, take, drop, append_assoc, arith}
use Rattle.std.specs.Prelude.{nat_le}
use Rattle.std.proofs.lemmas.Bool.{cases_eq, eq-eqb, ne_eqb, leb-false, leb-true}
use Rattle.std.proofs.lemmas.List.{take-append-drop}
use Rattle.jfs_bits.specs.declared.rule.PageKind.{PageKind}
use Rattle.jfs_disk.specs.Image.{Image, page_of}
use Rattle.jfs_ranges.specs.declared.edit.Edit.{Edit}
use Rattle.jfs_tree.specs.Edit.{count_in}
use Rattle.jfs_tree.specs.Form.{AllBelow}
use Rattle.jfs_tree.specs.Draft.{shown}
use Rattle.jfs_tree.specs.Tell.{DraftEdits, DraftedEdits, PageEdits, TellsDraft, TellsExactly, is_hidden, is_in, occurs}
use Rattle.jfs_tree.specs.Fresh.{allocs_of}
use Rattle.jfs_tree.specs.Removes.{page_frees}
use Rattle.jfs_tree.specs.Taken.{AreDrafted}
use Rattle.jfs_tree.specs.Changes.{PagesEdits, TellsChanges, TellsTaken}
use Rattle.jfs_tree.specs.declared.draft.Drafted.{Drafted}
use Rattle.jfs_tree.proofs.Runs.{told_still}
use Rattle.jfs_tree.proofs.Removes.{told_freed}
use Rattle.jfs_tree.proofs.Drafts.{drafted_occurs, none_drafted}

-- the pages of a draft behind these newer ones that are told
abbrev told_pages : ℕ → List Drafted → List Drafted → List ℕ
told_pages blocks newer [] = []
told_pages blocks newer (d ∷ ds) = if is_hidden blocks newer d.number then told_pages blocks (newer ++ d ∷ []) ds else d.number ∷ told_pages blocks (newer ++ d ∷ []) ds

right_false : (a b : Bool) → (a || b) ≡ false → b ≡ false
right_false true b e = cc
right_false false b e = e

left_false : (a b : Bool) → (a || b) ≡ false → a ≡ false
left_false true b e = cc
left_false false b e = refl

right_true : (a b : Bool) → b ≡ true → (a || b) ≡ true
right_true true b e = refl
right_true false b e = e

-- the newest page of a number is the one that shows
shown_here : (newer ds : List Drafted) (d : Drafted) (image : Image) → occurs d.number newer ≡ false → shown (newer ++ d ∷ ds) image d.number ≡ d.page.0
shown_here [] ds d image no_one = rw (eq-eqb d.number d.number refl) refl
shown_here (e ∷ newer) ds d image no_one = elim (cases_eq d.number e.number) [
  | inl is ↦ absurd (hit (e.number == d.number) (occurs d.number newer) (eq-eqb e.number d.number (sym is)) no_one)
  | inr other ↦ rw (ne_eqb d.number e.number other) (shown_here newer ds d image (miss (e.number == d.number) (occurs d.number newer) (ne_eqb e.number d.number (λ h. other (sym h))) no_one))
]
  where
    hit : (a b : Bool) → a ≡ true → (if a then true else b) ≡ false → ⊥
    hit a b e f = cc

    miss : (a b : Bool) → a ≡ false → (if a then true else b) ≡ false → b ≡ false
    miss a b e f = cc

module _ (blocks : ℕ) (image : Image) (taken : List ℕ) (kind : PageKind) where
  draft_pages : (newer ds : List Drafted) (edits : List Edit) → DraftEdits blocks image taken kind newer ds edits → PagesEdits kind taken (page_of image) (shown (newer ++ ds) image) (told_pages blocks newer ds) edits
  draft_pages newer [] edits is = is
  draft_pages newer (d ∷ ds) edits (own, rest, is, one, more) = by (is_hidden blocks newer d.number) refl one (draft_pages (newer ++ d ∷ []) ds rest more)
    where
      here : PagesEdits kind taken (page_of image) (shown ((newer ++ d ∷ []) ++ ds) image) (told_pages blocks (newer ++ d ∷ []) ds) rest → PagesEdits kind taken (page_of image) (shown (newer ++ d ∷ ds) image) (told_pages blocks (newer ++ d ∷ []) ds) rest
      here h = subst (λ xs. PagesEdits kind taken (page_of image) (shown xs image) (told_pages blocks (newer ++ d ∷ []) ds) rest) (append_assoc newer (d ∷ []) ds) h

      by : (b : Bool) → is_hidden blocks newer d.number ≡ b → DraftedEdits b image taken kind d.number d.page.0 own → PagesEdits kind taken (page_of image) (shown ((newer ++ d ∷ []) ++ ds) image) (told_pages blocks (newer ++ d ∷ []) ds) rest
          → PagesEdits kind taken (page_of image) (shown (newer ++ d ∷ ds) image) (if b then told_pages blocks (newer ++ d ∷ []) ds else d.number ∷ told_pages blocks (newer ++ d ∷ []) ds) edits
      by true e none h = subst (PagesEdits kind taken (page_of image) (shown (newer ++ d ∷ ds) image) (told_pages blocks (newer ++ d ∷ []) ds)) (sym (is ∙ ap (λ es. es ++ rest) none)) (here h)
      by false e own_edits h = (
        own,
        rest,
        is,
        subst (λ new. PageEdits (is_in d.number taken) d.number kind (page_of image d.number) new own) (sym (shown_here newer ds d image (right_false (nat_le blocks d.number) (occurs d.number newer) e))) own_edits,
        here h,
      )

occurs_last : (n : ℕ) (newer : List Drafted) (d : Drafted) → occurs n (newer ++ d ∷ []) ≡ (occurs n newer || d.number == n)
occurs_last n [] d = by (d.number == n)
  where
    by : (b : Bool) → (if b then true else false) ≡ b
    by true = refl
    by false = refl
occurs_last n (e ∷ newer) d = by (e.number == n) (occurs_last n newer d)
  where
    by : (b : Bool) → occurs n (newer ++ d ∷ []) ≡ (occurs n newer || d.number == n) → (if b then true else occurs n (newer ++ d ∷ [])) ≡ ((if b then true else occurs n newer) || d.number == n)
    by true h = refl
    by false h = h

none_hidden : (blocks n : ℕ) (newer ds : List Drafted) → occurs n newer ≡ true → count_in n (told_pages blocks newer ds) ≡ 0
none_hidden blocks n newer [] o = refl
none_hidden blocks n newer (d ∷ ds) o = by (is_hidden blocks newer d.number) refl (none_hidden blocks n (newer ++ d ∷ []) ds (occurs_last n newer d ∙ still (occurs n newer) (d.number == n) o))
  where
    still : (a b : Bool) → a ≡ true → (a || b) ≡ true
    still a b e = cc

    skip : (b : Bool) → b ≡ false → count_in n (told_pages blocks (newer ++ d ∷ []) ds) ≡ 0 → (if b then 1 else 0) + count_in n (told_pages blocks (newer ++ d ∷ []) ds) ≡ 0
    skip true e h = absurd cc
    skip false e h = omega (arith, h)

    other : is_hidden blocks newer d.number ≡ false → (d.number == n) ≡ false
    other e = ne_eqb d.number n (λ is. differs (occurs d.number newer) (ap (λ m. occurs m newer) is ∙ o) (right_false (nat_le blocks d.number) (occurs d.number newer) e))
      where
        differs : (b : Bool) → b ≡ true → b ≡ false → ⊥
        differs b t f = cc

    by : (b : Bool) → is_hidden blocks newer d.number ≡ b → count_in n (told_pages blocks (newer ++ d ∷ []) ds) ≡ 0 → count_in n (if b then told_pages blocks (newer ++ d ∷ []) ds else d.number ∷ told_pages blocks (newer ++ d ∷ []) ds) ≡ 0
    by true e h = h
    by false e h = skip (d.number == n) (other e) h

told_once : (blocks n : ℕ) (newer ds : List Drafted) → count_in n (told_pages blocks newer ds) ≤ 1
told_once blocks n newer [] = omega arith
told_once blocks n newer (d ∷ ds) = by (is_hidden blocks newer d.number) (told_once blocks n (newer ++ d ∷ []) ds)
  where
    first : (c : Bool) → (d.number == n) ≡ c → count_in n (told_pages blocks (newer ++ d ∷ []) ds) ≤ 1 → (if c then 1 else 0) + count_in n (told_pages blocks (newer ++ d ∷ []) ds) ≤ 1
    first true e h = let z = none_hidden blocks n (newer ++ d ∷ []) ds (occurs_last n newer d ∙ right_true (occurs n newer) (d.number == n) e) in omega (arith, z)
    first false e h = omega (arith, h)

    by : (b : Bool) → count_in n (told_pages blocks (newer ++ d ∷ []) ds) ≤ 1 → count_in n (if b then told_pages blocks (newer ++ d ∷ []) ds else d.number ∷ told_pages blocks (newer ++ d ∷ []) ds) ≤ 1
    by true h = h
    by false h = first (d.number == n) refl h

told_below : (blocks : ℕ) (newer ds : List Drafted) → AllBelow blocks (told_pages blocks newer ds)
told_below blocks newer [] = tt
told_below blocks newer (d ∷ ds) = by (is_hidden blocks newer d.number) refl (told_below blocks (newer ++ d ∷ []) ds)
  where
    by : (b : Bool) → is_hidden blocks newer d.number ≡ b → AllBelow blocks (told_pages blocks (newer ++ d ∷ []) ds) → AllBelow blocks (if b then told_pages blocks (newer ++ d ∷ []) ds else d.number ∷ told_pages blocks (newer ++ d ∷ []) ds)
    by true e h = h
    by false e h = (leb-false blocks d.number (left_false (nat_le blocks d.number) (occurs d.number newer) e), h)

-- a page of the draft is told
none_of : (a b : Bool) → a ≡ false → b ≡ false → (a || b) ≡ false
none_of true b e f = absurd cc
none_of false b e f = f

not_past : (blocks n : ℕ) → n < blocks → (b : Bool) → nat_le blocks n ≡ b → b ≡ false
not_past blocks n h true e = absurd (let g = leb-true blocks n e in omega (arith, g, h))
not_past blocks n h false e = refl

second : (a b : Bool) → a ≡ false → (if a then true else b) ≡ true → b ≡ true
second true b e f = absurd cc
second false b e f = f

told_has : (blocks n : ℕ) (newer ds : List Drafted) → n < blocks → occurs n newer ≡ false → occurs n ds ≡ true → is_in n (told_pages blocks newer ds) ≡ true
told_has blocks n newer [] within fresh has = absurd cc
told_has blocks n newer (d ∷ ds) within fresh has = elim (cases_eq d.number n) [
  | inl is ↦ first (is_hidden blocks newer d.number) (ap (λ m. is_hidden blocks newer m) is ∙ none_of (nat_le blocks n) (occurs n newer) (not_past blocks n within (nat_le blocks n) refl) fresh) (eq-eqb d.number n is)
  | inr other ↦ behind (is_hidden blocks newer d.number)
      (told_has blocks n (newer ++ d ∷ []) ds within (occurs_last n newer d ∙ none_of (occurs n newer) (d.number == n) fresh (ne_eqb d.number n other)) (second (d.number == n) (occurs n ds) (ne_eqb d.number n other) has))
]
  where
    head : (c : Bool) → c ≡ true → (c || is_in n (told_pages blocks (newer ++ d ∷ []) ds)) ≡ true
    head true e = refl
    head false e = absurd cc

    tail : (c : Bool) → is_in n (told_pages blocks (newer ++ d ∷ []) ds) ≡ true → (c || is_in n (told_pages blocks (newer ++ d ∷ []) ds)) ≡ true
    tail true h = refl
    tail false h = h

    first : (b : Bool) → b ≡ false → (d.number == n) ≡ true → is_in n (if b then told_pages blocks (newer ++ d ∷ []) ds else d.number ∷ told_pages blocks (newer ++ d ∷ []) ds) ≡ true
    first true e f = absurd cc
    first false e f = head (d.number == n) f

    behind : (b : Bool) → is_in n (told_pages blocks (newer ++ d ∷ []) ds) ≡ true → is_in n (if b then told_pages blocks (newer ++ d ∷ []) ds else d.number ∷ told_pages blocks (newer ++ d ∷ []) ds) ≡ true
    behind true h = h
    behind false h = tail (d.number == n) h

-- a draft that was told, and then these edits
pub changes : (blocks : ℕ) (image : Image) (taken : List ℕ) (kind : PageKind) (drafts : List Drafted) (tx copy later more last : List Edit) → copy ≡ tx → more ≡ later ++ last
    → AreDrafted blocks drafts taken → TellsExactly blocks image taken kind drafts copy later → TellsDraft blocks image drafts tx more → TellsChanges blocks kind taken (page_of image) last tx more
changes blocks image taken kind drafts tx copy later more last is e drafted (edits, told, are) leads = record {
  after = shown drafts image;
  changed = told_pages blocks [] drafts;
  lines = edits;
  told = e ∙ ap (λ es. es ++ last) (told ∙ ap (λ es. es ++ edits) is) ∙ append_assoc tx edits last;
  edits = draft_pages blocks image taken kind [] drafts edits are;
  takes = λ n t. told_has blocks n [] drafts (drafted n t).0 refl (drafted_occurs drafts n (drafted n t).1);
  once = λ n. told_once blocks n [] drafts;
  within = told_below blocks [] drafts;
  leads = λ base to m h. ((to m h).0, leads m h (base m) (to m h).0 (to m h).1);
}

-- with the view as the call got it
pub changes_as : (now blocks : ℕ) (kind : PageKind) (view image : Image) (taken : List ℕ) (last tx later : List Edit) → now ≡ blocks → view ≡ image → TellsChanges now kind taken (page_of view) last tx later → TellsChanges blocks kind taken (page_of image) last tx later
changes_as now blocks kind view image taken last tx later en ei told = subst (λ (i : Image). TellsChanges blocks kind taken (page_of i) last tx later) ei (subst (λ b. TellsChanges b kind taken (page_of view) last tx later) en told)

-- and then the pages that were taken
pub changes_taken : (blocks : ℕ) (image : Image) (kind : PageKind) (drafts : List Drafted) (tx copy later more : List Edit) (taken : List ℕ) → copy ≡ tx → more ≡ later ++ allocs_of taken
    → AreDrafted blocks drafts taken → TellsExactly blocks image taken kind drafts copy later → TellsDraft blocks image drafts copy later → TellsChanges blocks kind taken (page_of image) (allocs_of taken) tx more
changes_taken blocks image kind drafts tx copy later more taken is e drafted are told = changes blocks image taken kind drafts tx copy later more (allocs_of taken) is e drafted are (told_still blocks image drafts tx copy later more taken is e told)

pub taken_changes : (blocks : ℕ) (kind : PageKind) (pages : ℕ → List ℕ) (all given rest : List ℕ) (n : ℕ) (tx later : List Edit) → given ≡ all → rest ≡ drop n given → TellsChanges blocks kind (take n given) pages (allocs_of (take n given)) tx later
    → TellsTaken blocks kind pages all rest tx later
taken_changes blocks kind pages all given rest n tx later is cut told = (take n given, sym is ∙ sym (take-append-drop n given) ∙ ap (λ xs. take n given ++ xs) (sym cut), told)

-- and then the pages that are free
pub changes_freed : (blocks : ℕ) (image : Image) (kind : PageKind) (drafts : List Drafted) (tx copy later more : List Edit) (freed : List ℕ) → copy ≡ tx → more ≡ later ++ page_frees freed
    → TellsExactly blocks image [] kind drafts copy later → TellsDraft blocks image drafts copy later → TellsChanges blocks kind [] (page_of image) (page_frees freed) tx more
changes_freed blocks image kind drafts tx copy later more freed is e are told = changes blocks image [] kind drafts tx copy later more (page_frees freed) is e (none_drafted blocks drafts) are (told_freed blocks image drafts tx copy later more freed is e told)
