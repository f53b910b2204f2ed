-- Edits one after the other.
use Rattle.std.proofs.Common.{◌≡◌, ◌<◌, ◌+◌, ◌*◌, ◌||◌, ◌&&◌, not, ℕ, Bool, true, false, if◌then◌else◌, List, [], ◌∷◌, ◌++◌, set, length, get_or, drop, Option, Some, refl, sym, ap, ◌∙◌, arith}
use Rattle.std.proofs.lemmas.List.{drop_more}
use Rattle.jfs_bits.specs.Bits.{is_in_run, is_taken}
use Rattle.jfs_ranges.specs.declared.edit.Edit.{Edit}
use Rattle.jfs_ranges.specs.declared.edit.Edit.TheVariants.{Lines, NoRedo, Alloc, Free}
use Rattle.jfs_records.specs.Redo.{all_of}
use Rattle.jfs_steps.specs.After.{is_extent, place_in, four_from, with_run, without_run, used_after, extents_after}

-- what becomes of a block depends on that block alone
pub used_at : (tx : List Edit) (u v : ℕ → Bool) (b : ℕ) → u b ≡ v b → used_after tx u b ≡ used_after tx v b
used_at [] u v b h = h
used_at (Lines page kind first bytes ∷ tx) u v b h = at (is_extent kind first bytes) (used_at tx (with_run (four_from page) u) (with_run (four_from page) v) b (ap (λ (x : Bool). is_in_run page 4 b || x) h)) (used_at tx u v b h)
  where
    at : (t : Bool) → used_after tx (with_run (four_from page) u) b ≡ used_after tx (with_run (four_from page) v) b → used_after tx u b ≡ used_after tx v b →
        used_after tx (if t then with_run (four_from page) u else u) b ≡ used_after tx (if t then with_run (four_from page) v else v) b
    at true marked passed = marked
    at false marked passed = passed
used_at (NoRedo page ∷ tx) u v b h = used_at tx u v b h
used_at (Alloc run ∷ tx) u v b h = used_at tx (with_run run u) (with_run run v) b (ap (λ (x : Bool). is_in_run run.addr run.len b || x) h)
used_at (Free run ∷ tx) u v b h = used_at tx (without_run run u) (without_run run v) b (ap (λ (x : Bool). not (is_in_run run.addr run.len b) && x) h)

pub used-append : (tx more : List Edit) (u : ℕ → Bool) (b : ℕ) → used_after (tx ++ more) u b ≡ used_after more (used_after tx u) b
used-append [] more u b = refl
used-append (Lines page kind first bytes ∷ tx) more u b = used-append tx more (if is_extent kind first bytes then with_run (four_from page) u else u) b
used-append (NoRedo page ∷ tx) more u b = used-append tx more u b
used-append (Alloc run ∷ tx) more u b = used-append tx more (with_run run u) b
used-append (Free run ∷ tx) more u b = used-append tx more (without_run run u) b

pub extents-append : (tx more : List Edit) (es : List (Option ℕ)) → extents_after (tx ++ more) es ≡ extents_after more (extents_after tx es)
extents-append [] more es = refl
extents-append (Lines page kind first bytes ∷ tx) more es = extents-append tx more (if is_extent kind first bytes then set es (place_in bytes) (Some page) else es)
extents-append (NoRedo page ∷ tx) more es = extents-append tx more es
extents-append (Alloc run ∷ tx) more es = extents-append tx more es
extents-append (Free run ∷ tx) more es = extents-append tx more es

-- ---- the rest of a list

pub front : {X : Type 0} (xs : List X) (i : ℕ) (x : X) → i < length xs → x ≡ get_or xs i x → drop i xs ≡ x ∷ drop (i + 1) xs
front xs i x l e = drop_more xs i x l ∙ ap (λ y. y ∷ drop (i + 1) xs) (sym e)

pub all_front : (txs : List (List Edit)) (i : ℕ) (tx : List Edit) → i < length txs → tx ≡ get_or txs i tx → all_of (drop i txs) ≡ tx ++ all_of (drop (i + 1) txs)
all_front txs i tx l e = ap all_of (front txs i tx l e)

-- ---- steps of loops: what is left gives what all gives

abbrev pub AreMarked : (whole rest : List Edit) → (start set : List ℕ) → Type 0
AreMarked whole rest start set = (length set ≡ length start) × ((b : ℕ) → b < 8 * length start → used_after rest (is_taken set) b ≡ used_after whole (is_taken start) b)

pub marks_on : (whole rest part more : List Edit) (start set new : List ℕ) → rest ≡ part ++ more → AreMarked whole rest start set → length new ≡ length set →
    ((b : ℕ) → b < 8 * length set → is_taken new b ≡ used_after part (is_taken set) b) → AreMarked whole more start new
marks_on whole rest part more start set new split before size bits = (
  size ∙ before.0,
  λ b h.
      used_at more (is_taken new) (used_after part (is_taken set)) b (bits b (omega (arith, before.0, h)))
      ∙ sym (used-append part more (is_taken set) b)
      ∙ sym (ap (λ (es : List Edit). used_after es (is_taken set) b) split)
      ∙ before.1 b h,
)

pub extents_on : (whole rest part more : List Edit) (start es new : List (Option ℕ)) → rest ≡ part ++ more → extents_after rest es ≡ extents_after whole start → new ≡ extents_after part es → extents_after more new ≡ extents_after whole start
extents_on whole rest part more start es new split before is =
    ap (extents_after more) is ∙ sym (extents-append part more es) ∙ sym (ap (λ (x : List Edit). extents_after x es) split) ∙ before
