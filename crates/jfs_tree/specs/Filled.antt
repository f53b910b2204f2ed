-- Pages that stay filled where an entry is added: a full page that gets another one beside it keeps enough entries.
use Rattle.std.specs.Prelude.{◌≡◌, ◌≤◌, ◌==◌, ◌&&◌, ℕ, suc, Bool, true, false, List, [], ◌∷◌, map, length, Option, Ok, ⊤}
use Rattle.jfs_disk.specs.Image.{Image}
use Rattle.jfs_tree.specs.Walk.{Child, Node, Leaf, Inner, Scale, rows_of, walk}
use Rattle.jfs_tree.specs.Spells.{no_page, with_root, spells}
use Rattle.jfs_tree.specs.Levels.{InLine, IsFilledTo, HoldsLeast, entry_count}
use Rattle.jfs_tree.specs.Edit.{Grew, IsApart, Ready}
use Rattle.jfs_tree.specs.Form.{LeadsDown, children_of}
use Rattle.jfs_tree.specs.Root.{IsSpare}
use Rattle.jfs_tree.specs.Call.{nodes}
use Rattle.jfs_tree.specs.Draft.{shown}
use Rattle.jfs_tree.specs.Adds.{read_as}
use Rattle.jfs_tree.specs.Fresh.{LeadsTo, after_tx}
use Rattle.jfs_ranges.specs.declared.edit.Edit.{Edit}
use Rattle.jfs_tree.specs.declared.draft.Drafted.{Drafted}
use Rattle.jfs_tree.specs.declared.form.Sibling.{Sibling}

-- The entry begins at or past the end of each of these.
abbrev pub ComesPast : {P E : Type 0} → Scale P E → E → List E → Type 0
ComesPast s x [] = ⊤
ComesPast s x (e ∷ es) = (s.le (s.to e) (s.from x) ≡ true) × ComesPast s x es

-- Of the two pages that a full one became each has at least so many entries; where the page was the last one of its level, the new one is it, and may have fewer.
pub record FillsBoth {P E : Type 0} (least : ℕ) (last : Bool) (left right : Node P E) : Type 0 where
  pub left_has : least ≤ entry_count left
  pub right_has : last ≡ false → least ≤ entry_count right

-- Whatever list the root spelled, if the entry is apart from it and the free blocks aren't pages of the tree: where each page but the last of its level held at least so many entries, each does in the pages to which the edits lead.
abbrev pub LeastTold : {P E : Type 0} → ℕ → Scale P E → (List ℕ → Node P E) → ℕ → (ℕ → List ℕ) → E → Node P E → Node P E → List ℕ → List Edit → List Edit → Type 0
LeastTold {E = E} least s node blocks pages x root after free tx later = (base : ℕ → List ℕ) → LeadsTo blocks base tx pages → (es : List E) → spells s (read_as node pages) root ≡ Ok es → IsApart s x es → IsSpare s (read_as node pages) root free
    → HoldsLeast least (with_root root (read_as node pages)) → HoldsLeast least (with_root after (read_as node (after_tx base later)))

-- The same where the entry is appended: it comes past all that the root spelled.
abbrev pub AppendsTold : {P E : Type 0} → ℕ → Scale P E → (List ℕ → Node P E) → ℕ → (ℕ → List ℕ) → E → Node P E → Node P E → List ℕ → List Edit → List Edit → Type 0
AppendsTold {E = E} least s node blocks pages x root after free tx later = (base : ℕ → List ℕ) → LeadsTo blocks base tx pages → (es : List E) → spells s (read_as node pages) root ≡ Ok es → ComesPast s x es → IsApart s x es → IsSpare s (read_as node pages) root free
    → HoldsLeast least (with_root root (read_as node pages)) → HoldsLeast least (with_root after (read_as node (after_tx base later)))

-- ---- parts of a call, for the prover alone

-- Where a page and those below it were filled, they are, perhaps with one more page beside the page. `appends` tells that the page is the last one of its level and the entry comes past all that is below it.
abbrev pub StaysFilled : {P E : Type 0} → Bool → ℕ → Scale P E → E → (ℕ → Node P E) → (ℕ → Node P E) → ℕ → ℕ → Bool → List (Child P) → List ℕ → Type 0
StaysFilled {P} appends least s x before after levels page last more free = (key low : P) (high : Option P) (depth : ℕ) → Ready s x key low (walk s before levels (record { key = key; page = page })) high free
    → (appends ≡ true → (last ≡ true) × ComesPast s x (rows_of (walk s before levels (record { key = key; page = page })))) → IsFilledTo least before depth last page → InLine (IsFilledTo least after depth) last (page ∷ map (λ (c : Child P). c.page) more)

-- a leaf took an entry
abbrev pub HereFilled : {P E : Type 0} → Bool → ℕ → (List ℕ → Node P E) → Scale P E → E → List ℕ → ℕ → Bool → List Drafted → List Drafted → List ℕ → Option (Sibling P) → Type 0
HereFilled {E = E} appends least node s x bytes page last old new free more = (image : Image) (es : List E) → bytes ≡ shown old image page → node bytes ≡ Leaf es
    → StaysFilled appends least s x (nodes node old image) (nodes node new image) 1 page last (children_of more) free

-- an inner page whose child grew
abbrev pub ChildFilled : {P E : Type 0} → Bool → ℕ → (List ℕ → Node P E) → Scale P E → List ℕ → ℕ → ℕ → Bool → Option (Sibling P) → List Drafted → List Drafted → List ℕ → Option (Sibling P) → Type 0
ChildFilled {P} {E} appends least node s bytes page place last more old new between out = (image : Image) (x : E) (before : ℕ → Node P E) (lower child : ℕ) (free : List ℕ) (at_end : Bool)
    → before page ≡ node bytes → LeadsDown s x (node bytes) place child → ((cs : List (Child P)) → node bytes ≡ Inner cs → at_end ≡ (suc place == length cs))
    → Grew s x before (nodes node old image) (suc lower) child (children_of more) free between
    → StaysFilled appends least s x before (nodes node old image) (suc lower) child (last && at_end) (children_of more) free
    → StaysFilled appends least s x before (nodes node new image) (suc (suc lower)) page last (children_of out) free

-- a whole tree that took an entry
abbrev pub FillsAlways : {P E : Type 0} → Bool → ℕ → Scale P E → E → (ℕ → Node P E) → (ℕ → Node P E) → Node P E → Node P E → List ℕ → Type 0
FillsAlways {E = E} appends least s x old new root after free = (es : List E) → spells s old root ≡ Ok es → IsApart s x es → IsSpare s old root free → (appends ≡ true → ComesPast s x es)
    → ((depth : ℕ) → IsFilledTo least (with_root root old) depth true no_page) → (depth : ℕ) → IsFilledTo least (with_root after new) depth true no_page
