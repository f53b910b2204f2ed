-- Small facts: pages that a transaction or data leave, inode numbers that are met, and marks that are made.
use Rattle.std.proofs.Common.{◌≡◌, ◌⊎◌, inl, inr, refl, sym, ap, ◌∙◌, ℕ, Bool, true, false, true≢false, not, ◌&&◌, ◌||◌, ◌==◌, nat_le, if◌then◌else◌, List, [], ◌∷◌, length, set, Option, Some, None, eqb-true}
use Rattle.std.proofs.lemmas.Bool.{eq-eqb}
use Rattle.std.proofs.lemmas.List.{length-set}
use Rattle.jfs_marks.specs.imap.specs.Inodes.{Inodes, is_used}
use Rattle.jfs_ranges.specs.declared.edit.Edit.{Edit}
use Rattle.jfs_ranges.specs.Apply.{apply_tx, touches_edit, touches_tx}
use Rattle.jfs_ranges.proofs.Overlaid.{apply_edit-untouched}
use Rattle.jfs_marks.specs.data_steps.specs.After.{is_put, AreWholePages, page_put}
use Rattle.jfs_marks.specs.data_steps.specs.declared.pages.DataPage.{DataPage}
use Rattle.jfs_marks.specs.declared.changes.Met.{Met}
use Rattle.jfs_marks.specs.Changes.{same_number}
use Rattle.jfs_marks.specs.Marks.{with_taken_if, with_freed_if}
use Rattle.jfs_entered.proofs.Noted.{Reached}
use Rattle.jfs_marks.proofs.Fitted.{met_of}

-- ---- small facts

pub other_put : (ds : List DataPage) (b : ℕ) (page : List ℕ) → is_put b ds ≡ false → page_put ds b page ≡ page
other_put [] b page h = refl
other_put (d ∷ ds) b page h = by (d.block == b) h (other_put ds b page)
  where
    by : (x : Bool) → (x || is_put b ds) ≡ false → (is_put b ds ≡ false → page_put ds b page ≡ page) → page_put ds b (if x then d.page.0 else page) ≡ page
    by true h rest = absurd (true≢false h)
    by false h rest = rest h

pub not_true : (x : Bool) → not x ≡ true → x ≡ false
not_true true h = absurd (true≢false (sym h))
not_true false h = refl

pub same_some : (x y : Option ℕ) (n : ℕ) → same_number x y ≡ true → x ≡ Some n → y ≡ Some n
same_some (Some a) (Some b) n h e = ap Some (sym (eqb-true a b h)) ∙ e
same_some (Some a) None n h e = absurd (true≢false (sym h))
same_some None y n h e = absurd (cc (e))

pub same_back : (x y : Option ℕ) (n : ℕ) → same_number x y ≡ true → y ≡ Some n → x ≡ Some n
same_back (Some a) (Some b) n h e = ap Some (eqb-true a b h) ∙ e
same_back None (Some b) n h e = absurd (true≢false (sym h))
same_back x None n h e = absurd (cc (e))

pub differ : (n : ℕ) (x y : Option ℕ) → same_number x y ≡ false → x ≡ Some n → y ≡ Some n → ⊥
differ n x y h e f = true≢false (sym (same_self n) ∙ (ap (λ (k : Option ℕ). same_number (Some n) k) (sym f) ∙ ap (λ (k : Option ℕ). same_number k y) (sym e) ∙ h))
  where
    same_self : (n : ℕ) → same_number (Some n) (Some n) ≡ true
    same_self n = eq-eqb n n refl

pub reached_one : (o : Option ℕ) (n : ℕ) (m : Met) → m ≡ met_of o → Reached (Some n) m → o ≡ Some n
reached_one None n m e (inl h) = absurd (let g = sym e ∙ h in cc (g))
reached_one None n m e (inr h) = absurd (let g = sym e ∙ h in cc (g))
reached_one (Some k) n m e (inl h) = let g = sym e ∙ h in cc (g)
reached_one (Some k) n m e (inr h) = absurd (let g = sym e ∙ h in cc (g))

pub both_false : (a b : Bool) → (a || b) ≡ false → (a ≡ false) × (b ≡ false)
both_false true b h = absurd (true≢false h)
both_false false b h = (refl, h)

pub untouched : (n : ℕ) (tx : List Edit) (page : List ℕ) → length page ≡ 4096 → touches_tx n tx ≡ false → apply_tx n tx page ≡ page
untouched n [] page l h = refl
untouched n (e ∷ es) page l h = let parts = both_false (touches_edit n e) (touches_tx n es) h in ap (apply_tx n es) (apply_edit-untouched n e page l parts.0) ∙ untouched n es page l parts.1

pub put_whole : (ds : List DataPage) (b : ℕ) (page : List ℕ) → AreWholePages ds → length page ≡ 4096 → length (page_put ds b page) ≡ 4096
put_whole [] b page all l = l
put_whole (d ∷ ds) b page all l = put_whole ds b (if d.block == b then d.page.0 else page) all.1 (by (d.block == b))
  where
    by : (x : Bool) → length (if x then d.page.0 else page) ≡ 4096
    by true = all.0
    by false = l

pub of_option : (o : Option ℕ) (n : ℕ) → (o ≡ Some n) ⊎ (o ≡ Some n → ⊥)
of_option None n = inr (λ e. cc (e))
of_option (Some k) n = by (k == n) refl
  where
    by : (x : Bool) → (k == n) ≡ x → (Some k ≡ Some n) ⊎ (Some k ≡ Some n → ⊥)
    by true e = inl (ap Some (eqb-true k n e))
    by false e = inr (λ same. true≢false (sym (eq-eqb k n (number same)) ∙ e))
      where
        number : {a b : ℕ} → Some a ≡ Some b → a ≡ b
        number h = cc (h)

-- ---- marks that are made

pub last_extents : (taken freed : Option ℕ) (mid : Inodes) → (with_freed_if freed (with_taken_if taken mid)).extents ≡ mid.extents
last_extents taken freed mid = by_freed freed (with_taken_if taken mid) ∙ by_taken taken
  where
    by_taken : (o : Option ℕ) → (with_taken_if o mid).extents ≡ mid.extents
    by_taken None = refl
    by_taken (Some n) = refl

    by_freed : (o : Option ℕ) (m : Inodes) → (with_freed_if o m).extents ≡ m.extents
    by_freed None m = refl
    by_freed (Some n) m = at (nat_le 4 n && is_used m n)
      where
        at : (b : Bool) → (if b then record m { taken = set m.taken n false } else m).extents ≡ m.extents
        at true = refl
        at false = refl

pub last_bits : (taken freed : Option ℕ) (mid : Inodes) → length (with_freed_if freed (with_taken_if taken mid)).taken ≡ length mid.taken
last_bits taken freed mid = by_freed freed (with_taken_if taken mid) ∙ by_taken taken
  where
    by_taken : (o : Option ℕ) → length (with_taken_if o mid).taken ≡ length mid.taken
    by_taken None = refl
    by_taken (Some n) = length-set mid.taken n true

    by_freed : (o : Option ℕ) (m : Inodes) → length (with_freed_if o m).taken ≡ length m.taken
    by_freed None m = refl
    by_freed (Some n) m = at (nat_le 4 n && is_used m n)
      where
        at : (b : Bool) → length (if b then record m { taken = set m.taken n false } else m).taken ≡ length m.taken
        at true = length-set m.taken n false
        at false = refl
