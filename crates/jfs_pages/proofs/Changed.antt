-- What an entry's changes make of a page.
use Rattle.std.proofs.Common.{◌≡◌, ◌||◌, ℕ, Bool, true, false, List, [], ◌∷◌, length, Option, Some, None, IsSome, is_some, ◌==◌, option_map, unwrap_or, refl, sym, ap, ◌∙◌}
use Rattle.std.proofs.lemmas.Bool.{or_parts}
use Rattle.std.proofs.lemmas.Option.{none-some}
use Rattle.jfs_ranges.specs.declared.edit.Edit.{Edit}
use Rattle.jfs_ranges.specs.Apply.{apply_edit, apply_tx, touches_edit, touches_tx}
use Rattle.jfs_ranges.proofs.Overlaid.{apply_edit-untouched}
use Rattle.jfs_pages.specs.declared.dirty.Dirty.{Dirty}
use Rattle.jfs_pages.specs.Dirty.{touched_by, is_among}
use Rattle.jfs_pages.specs.Steps.{page_after, dirty_after, marked_after}

-- ---- bytes

page_after_some : (n : ℕ) (tx : List Edit) (bytes : List ℕ) → page_after n tx (Some bytes) ≡ Some (apply_tx n tx bytes)
page_after_some n [] bytes = refl
page_after_some n (edit ∷ edits) bytes = page_after_some n edits (apply_edit n edit bytes)

page_after_none : (n : ℕ) (tx : List Edit) → page_after n tx None ≡ None
page_after_none n [] = refl
page_after_none n (edit ∷ edits) = page_after_none n edits

pub page_after-tx : (n : ℕ) (tx : List Edit) (page : Option (List ℕ)) → page_after n tx page ≡ option_map (apply_tx n tx) page
page_after-tx n tx None = page_after_none n tx
page_after-tx n tx (Some bytes) = page_after_some n tx bytes

untouched : (n : ℕ) (tx : List Edit) (page : List ℕ) → length page ≡ 4096 → touches_tx n tx ≡ false → apply_tx n tx page ≡ page
untouched n [] page size h = refl
untouched n (edit ∷ edits) page size h =
    let parts = or_parts (touches_edit n edit) (touches_tx n edits) h in
    ap (λ (p : List ℕ). apply_tx n edits p) (apply_edit-untouched n edit page size parts.0) ∙ untouched n edits page size parts.1

-- A page that was read is changed. One that wasn't is touched by no edit, and its bytes on the disk stay.
pub shown-tx : (n : ℕ) (tx : List Edit) (old new : Option (List ℕ)) (disk : List ℕ) → length disk ≡ 4096 → new ≡ option_map (apply_tx n tx) old →
    (touches_tx n tx ≡ true → IsSome old) → unwrap_or new disk ≡ apply_tx n tx (unwrap_or old disk)
shown-tx n tx (Some bytes) new disk size e there = ap (λ (o : Option (List ℕ)). unwrap_or o disk) e
shown-tx n tx None new disk size e there = ap (λ (o : Option (List ℕ)). unwrap_or o disk) e ∙ sym (untouched n tx disk size (missed (touches_tx n tx) there))
  where
    missed : (touched : Bool) → (touched ≡ true → false ≡ true) → touched ≡ false
    missed false h = refl
    missed true h = sym (h refl)

-- a page that no edit touches is as it was
pub shown-untouched : (n : ℕ) (tx : List Edit) (old new : Option (List ℕ)) (disk : List ℕ) → ((bytes : List ℕ) → old ≡ Some bytes → length bytes ≡ 4096) → new ≡ option_map (apply_tx n tx) old →
    touches_tx n tx ≡ false → unwrap_or new disk ≡ unwrap_or old disk
shown-untouched n tx None new disk size e h = ap (λ (o : Option (List ℕ)). unwrap_or o disk) e
shown-untouched n tx (Some bytes) new disk size e h = ap (λ (o : Option (List ℕ)). unwrap_or o disk) e ∙ untouched n tx bytes (size bytes refl) h

pub was_there : {X Y : Type 0} (f : X → Y) (old : Option X) (new : Option Y) → new ≡ option_map f old → IsSome new → IsSome old
was_there f None new e some = ap is_some (sym e) ∙ some
was_there f (Some x) new e some = refl

-- ---- dirty pages

-- an entry that changes a page twice is one entry
twice : (a b : Bool) (n entry : ℕ) (old : Option Dirty) → touched_by b n entry (touched_by a n entry old) ≡ touched_by (a || b) n entry old
twice false b n entry old = refl
twice true false n entry old = refl
twice true true n entry None = refl
twice true true n entry (Some dirty) = refl

pub dirty_after-tx : (n entry : ℕ) (tx : List Edit) (old : Option Dirty) → dirty_after n entry tx old ≡ touched_by (touches_tx n tx) n entry old
dirty_after-tx n entry [] old = refl
dirty_after-tx n entry (edit ∷ edits) old =
    dirty_after-tx n entry edits (touched_by (touches_edit n edit) n entry old) ∙ twice (touches_edit n edit) (touches_tx n edits) n entry old

marked_after-all : (n entry : ℕ) (maps : List ℕ) (old : Option Dirty) → marked_after n entry maps old ≡ touched_by (is_among n maps) n entry old
marked_after-all n entry [] old = refl
marked_after-all n entry (page ∷ pages) old =
    marked_after-all n entry pages (touched_by (page == n) n entry old) ∙ twice (page == n) (is_among n pages) n entry old

-- an entry's edits, then the sets that it changes
pub dirty-entry : (n entry : ℕ) (tx : List Edit) (maps : List ℕ) (old middle new : Option Dirty) → middle ≡ dirty_after n entry tx old → new ≡ marked_after n entry maps middle →
    new ≡ touched_by (touches_tx n tx || is_among n maps) n entry old
dirty-entry n entry tx maps old middle new m e =
    e ∙ marked_after-all n entry maps middle
    ∙ ap (λ (d : Option Dirty). touched_by (is_among n maps) n entry d) (m ∙ dirty_after-tx n entry tx old)
    ∙ twice (touches_tx n tx) (is_among n maps) n entry old

-- where a page isn't dirty after an entry, it wasn't before, and no edit touches it
pub stays_clean : (touched : Bool) (n entry : ℕ) (old new : Option Dirty) → new ≡ touched_by touched n entry old → new ≡ None → (touched ≡ false) × (old ≡ None)
stays_clean false n entry old new e none = (refl, sym e ∙ none)
stays_clean true n entry old new e none = absurd (none-some _ (sym none ∙ e))
