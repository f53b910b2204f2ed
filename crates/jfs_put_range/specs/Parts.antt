-- Parts of the call, for the prover alone.
use Rattle.std.specs.Prelude.{◌≡◌, ◌<◌, ◌≤◌, ◌+◌, ◌-◌, ℕ, nat_le, Bool, true, false, ◌&&◌, if◌then◌else◌, List, [], ◌∷◌, ◌++◌, map, length, slice_get, Option, Some, None, Result, IfOk, IfSome}
use Rattle.std.specs.List.{All, flat_map}
use Rattle.jfs_bits.specs.declared.extent.Xad.{Xad}
use Rattle.jfs_bits.specs.Extent.{FitsXad}
use Rattle.jfs_tree.specs.Walk.{Child, Node, Leaf, Inner, Broken, Marks, Rises, rows_of, times, under, walk}
use Rattle.jfs_tree.specs.Levels.{InLine, IsFilledTo}
use Rattle.jfs_tree.specs.Path.{below_root}
use Rattle.jfs_tree.specs.Edit.{count_in}
use Rattle.jfs_tree.specs.Spells.{no_page}
use Rattle.jfs_tree.specs.Form.{AllBelow, children_of}
use Rattle.jfs_tree.specs.Frames.{IsTaken}
use Rattle.jfs_tree.specs.declared.form.Sibling.{Sibling}
use Rattle.jfs_tree.specs.declared.form.TreeError.{TreeError}
use Rattle.jfs_tree.specs.declared.form.TreeError.TheVariants.{View, Bad, Memory}
use Rattle.jfs_xtpage.specs.declared.head.XtForm.TheVariants.{Full}
use Rattle.jfs_xtpage.specs.Page.{head_of, end_of, rises_from, IsLaidOut}
use Rattle.jfs_xtree.specs.Node.{xt_scale, xt_node, frame_of, new_frame, all_within, child_of, BeginsAt}
use Rattle.jfs_xtree.specs.Spells.{page_nodes}
use Rattle.jfs_xtree.specs.CutParts.{AllFrom, pages_of_children, pages_of_entries}
use Rattle.jfs_xtree.specs.Cutting.{kept_below}
use Rattle.jfs_xtree.specs.Writing.{kept_from, AllTo}
use Rattle.jfs_written.specs.Range.{with_range}
use Rattle.jfs_written.specs.RangeLaws.{IsRange}
use Rattle.jfs_put_range.specs.Call.{LiesFrom}
use Rattle.jfs_put_range.specs.declared.part.Part.{Part}
use Rattle.jfs_put_range.specs.declared.leaf.Grown.{Grown}

abbrev pub AllUpTo : List Xad → Option ℕ → Type 0
AllUpTo xs None = Unit {0}
AllUpTo xs (Some high) = AllTo high xs

abbrev pub EndsBy : ℕ → Option ℕ → Type 0
EndsBy limit None = ⊥
EndsBy limit (Some high) = high ≤ limit

-- What a part of a tree has to be for a range to be written into it: it rises, the range lies between its key and its upper end, and no page is in it twice or free. `left` tells that the
-- part may have entries before the 17 blocks in which the range lies, `right` that it may have some behind them.
pub record Takes (xs : List Xad) (left right : Bool) (first key low : ℕ) (ms : Marks ℕ Xad) (high : Option ℕ) (free : List ℕ) : Type 0 where
  pub lies : LiesFrom first xs
  pub rises : Rises xt_scale low ms high
  pub above : AllFrom key xs
  pub below : AllUpTo xs high
  pub begins : left ≡ false → first ≤ key
  pub ends : right ≡ false → EndsBy (first + 17) high
  pub once : (n : ℕ) → times n ms + count_in n free ≤ 1

-- each page that wasn't taken keeps its frame
abbrev pub OthersFramed : (ℕ → List ℕ) → (ℕ → List ℕ) → List ℕ → List ℕ → Type 0
OthersFramed before after free left = (n : ℕ) → count_in n free ≡ count_in n left → frame_of Full (after n) ≡ frame_of Full (before n)

-- and each that was taken names itself
pub record Framed (before after : ℕ → List ℕ) (free left : List ℕ) : Type 0 where
  pub taken : (n : ℕ) → IsTaken free left n → frame_of Full (after n) ≡ new_frame n
  pub others : OthersFramed before after free left

-- A part in which a range was written: its entries are those with the range, its pages are its own and those that were taken, each page that is neither keeps its bytes, and each that wasn't taken its frame.
pub record Wrote (xs : List Xad) (before after : ℕ → List ℕ) (low : ℕ) (old new : Marks ℕ Xad) (high : Option ℕ) (free left : List ℕ) : Type 0 where
  pub rows : rows_of new ≡ with_range xs (rows_of old)
  pub rises : Rises xt_scale low new high
  pub pages : (n : ℕ) → times n new + count_in n left ≡ times n old + count_in n free
  pub keeps : (n : ℕ) → times n old ≡ 0 → count_in n free ≡ count_in n left → after n ≡ before n
  pub framed : Framed before after free left

-- the part below a page, where it has so many levels
abbrev pub part_of : ℕ → (ℕ → List ℕ) → ℕ → Child ℕ → Marks ℕ Xad
part_of blocks pages levels c = walk xt_scale (page_nodes blocks pages) levels c

-- the parts below children, and of the children that the entries of an inner page name; the first one has the page's key
abbrev pub parts_below : ℕ → (ℕ → List ℕ) → ℕ → List (Child ℕ) → Marks ℕ Xad
parts_below blocks pages levels cs = flat_map (walk xt_scale (page_nodes blocks pages) levels) cs

abbrev pub parts_under : ℕ → (ℕ → List ℕ) → ℕ → ℕ → List Xad → Marks ℕ Xad
parts_under blocks pages levels key entries = parts_below blocks pages levels (under key (map child_of entries))

-- Where pages side by side and those below them were filled, these are now, of any number of entries that a split leaves on both pages. `end` tells that the last of them is the last one of its level, which may have fewer entries.
abbrev pub KeepsFilled : Bool → ℕ → (ℕ → List ℕ) → (ℕ → List ℕ) → List ℕ → List ℕ → Type 0
KeepsFilled end blocks before after old new = (least : ℕ) → least ≤ 127 → (depth : ℕ) (last : Bool) → (end ≡ true → last ≡ true) → InLine (IsFilledTo least (page_nodes blocks before) depth) last old → InLine (IsFilledTo least (page_nodes blocks after) depth) last new

-- a range was written below a page: the page, and perhaps one more behind it, stand for it now
abbrev pub WrotePage : Bool → ℕ → List Xad → Bool → Bool → (ℕ → List ℕ) → (ℕ → List ℕ) → ℕ → ℕ → Option (Sibling ℕ) → List ℕ → List ℕ → Type 0
WrotePage end blocks xs left right before after levels page more free rest = (height key low : ℕ) (high : Option ℕ) (first : ℕ)
    → Takes xs left right first key low (part_of blocks before height (record { key = key; page = page })) high free
    → Wrote xs before after low (part_of blocks before height (record { key = key; page = page })) (parts_below blocks after height (record { key = key; page = page } ∷ children_of more)) high free rest
    × (height ≡ levels) × KeepsFilled end blocks before after (page ∷ []) (page ∷ pages_of_children (children_of more))

-- where a page is named, the part below the page wasn't one into which the range can be written
abbrev pub RefutesPage : ℕ → List Xad → Bool → Bool → (ℕ → List ℕ) → ℕ → ℕ → List ℕ → TreeError → Type 0
RefutesPage blocks xs left right before most page free (View e) = Unit {0}
RefutesPage blocks xs left right before most page free (Bad bad rule) = (height key low : ℕ) (high : Option ℕ) (first : ℕ) → height ≤ most
    → Takes xs left right first key low (part_of blocks before height (record { key = key; page = page })) high free → ⊥
RefutesPage blocks xs left right before most page free Memory = Unit {0}

-- Entries that stand for others: they rise where these did, begin where these did, and end before the upper end where these did. At the first offset of a page no one looks.
pub record Follows (top : Bool) (high : Option ℕ) (entries made : List Xad) : Type 0 where
  pub order : (low : ℕ) → rises_from low entries ≡ true → (top ≡ true → low ≡ 0) → rises_from low made ≡ true
  pub begins : (key : ℕ) → top ≡ false → BeginsAt key entries → BeginsAt key made
  pub ends : (bound : ℕ) → high ≡ Some bound → AllTo bound entries → AllTo bound made

-- A range was written below the children that these entries of an inner page name; `made` stand for them now. `top` tells that the first of them is the first one of the page.
abbrev pub WroteChildren : Bool → ℕ → List Xad → Bool → Bool → Bool → (ℕ → List ℕ) → (ℕ → List ℕ) → ℕ → List Xad → List Xad → List ℕ → List ℕ → Type 0
WroteChildren end blocks xs left right top before after levels entries made free rest = (height key low : ℕ) (high : Option ℕ) (first : ℕ)
    → rises_from 0 entries ≡ true → (top ≡ false → BeginsAt key entries)
    → Takes xs left right first key low (parts_under blocks before height key entries) high free
    → Wrote xs before after low (parts_under blocks before height key entries) (parts_under blocks after height key made) high free rest
    × (levels ≤ height) × (0 < length xs → height ≡ levels) × Follows top high entries made
    × (length entries ≤ length made) × KeepsFilled end blocks before after (pages_of_entries entries) (pages_of_entries made)

abbrev pub RefutesChildren : ℕ → List Xad → Bool → Bool → Bool → (ℕ → List ℕ) → ℕ → List Xad → List ℕ → TreeError → Type 0
RefutesChildren blocks xs left right top before most entries free (View e) = Unit {0}
RefutesChildren blocks xs left right top before most entries free (Bad bad rule) = (height key low : ℕ) (high : Option ℕ) (first : ℕ) → height ≤ most
    → rises_from 0 entries ≡ true → (top ≡ false → BeginsAt key entries)
    → Takes xs left right first key low (parts_under blocks before height key entries) high free → ⊥
RefutesChildren blocks xs left right top before most entries free Memory = Unit {0}

-- The free pages that a call on the part below a page may take, with so many levels: on each only the page at either end of the range can overflow.
abbrev pub most_taken : List Xad → Bool → Bool → ℕ → ℕ
most_taken [] left right most = 0
most_taken (x ∷ xs) left right most = (if left then most else 0) + (if right then most else 0)

-- what stands for these entries of an inner page was pushed behind others
pub record Pushed (tells : Type 0) (end : Bool) (blocks : ℕ) (xs : List Xad) (left right top : Bool) (before after : ℕ → List ℕ) (levels : ℕ) (entries old new : List Xad) (free rest : List ℕ) : Type 0 where
  pub made : List Xad
  pub is : new ≡ old ++ made
  pub some : 0 < length made
  pub few : length made ≤ length entries + most_taken xs left right 1
  pub fits : All FitsXad made
  pub within : all_within blocks made ≡ true
  pub wrote : tells → WroteChildren end blocks xs left right top before after levels entries made free rest

-- a part of a range, as a call on a part of a tree takes it
pub record IsPart (blocks : ℕ) (xs : List Xad) : Type 0 where
  pub first : ℕ
  pub lies : LiesFrom first xs
  pub range : IsRange blocks xs

-- a leaf that isn't empty, or an inner page
abbrev pub IsKind : ℕ → List ℕ → Bool → Type 0
IsKind blocks bytes true = (es : List Xad) × (xt_node Full blocks bytes ≡ Leaf es) × (0 < length es)
IsKind blocks bytes false = (cs : List (Child ℕ)) × (xt_node Full blocks bytes ≡ Inner cs)

-- a page below a root that breaks no rule, with its entries
pub record IsOpened (blocks : ℕ) (bytes : List ℕ) (entries : List Xad) (leaf : Bool) : Type 0 where
  pub laid : IsLaidOut bytes
  pub slots : (head_of bytes).maxentry ≡ 256
  pub some : 0 < length entries
  pub few : length entries ≤ 254
  pub fits : All FitsXad entries
  pub order : rises_from 0 entries ≡ true
  pub range : all_within blocks entries ≡ true
  pub node : xt_node Full blocks bytes ≡ (if leaf then Leaf entries else Inner (map child_of entries))

-- a page is named only where it breaks a rule
abbrev pub BreaksRule : Node ℕ Xad → ℕ → TreeError → Type 0
BreaksRule node page (View e) = Unit {0}
BreaksRule node page (Bad bad rule) = (bad ≡ page) × (below_root node ≡ Broken rule)
BreaksRule node page Memory = Unit {0}

abbrev pub is_none : List Xad → Bool
is_none [] = true
is_none (x ∷ xs) = false

-- the first of these begins at or before a block of the file
abbrev pub BeginsBy : ℕ → List Xad → Type 0
BeginsBy block [] = ⊥
BeginsBy block (x ∷ xs) = x.offset ≤ block

-- A part, cut at a block of the file: only where the other part has nothing can it have entries on that side of the 17 blocks, and what is behind the cut can be the last of its level.
pub record Cuts (bound : ℕ) (xs : List Xad) (left right last : Bool) (head tail : Part) : Type 0 where
  pub below : head.xs.items ≡ kept_below bound xs
  pub from : tail.xs.items ≡ kept_from bound xs
  pub head_left : head.left ≡ left
  pub head_right : head.right ≡ (right && is_none tail.xs.items)
  pub tail_left : tail.left ≡ (left && is_none head.xs.items)
  pub tail_right : tail.right ≡ right
  pub head_last : head.last ≡ false
  pub tail_last : tail.last ≡ last

-- where each free page is below the bound, each that is left is, and so is the new one
abbrev pub GrownBelow : List ℕ → List ℕ → Result Grown TreeError → Type 0
GrownBelow free rest result = (bound : ℕ) → AllBelow bound free → AllBelow bound rest × IfOk result (λ grown. IfSome grown.sibling (λ s. s.page < bound))

-- a page below the root is named, or none
abbrev pub NamesBelow : TreeError → Type 0
NamesBelow (View e) = Unit {0}
NamesBelow (Bad bad rule) = bad < no_page
NamesBelow Memory = Unit {0}

-- no page had to be read
abbrev pub NoView : TreeError → Type 0
NoView (View e) = ⊥
NoView (Bad bad rule) = Unit {0}
NoView Memory = Unit {0}

-- an entry that begins at or past a block of the file
abbrev pub begins_past : ℕ → Option Xad → Bool
begins_past bound None = false
begins_past bound (Some x) = nat_le bound x.offset

-- the first block behind an entry, where there is one
abbrev pub behind : Option Xad → ℕ
behind None = 0
behind (Some x) = end_of x

-- What doesn't fit a page lies past all that the page had.
abbrev pub passes_end : List Xad → List Xad → Bool
passes_end entries list = begins_past (behind (slice_get entries (length entries - 1))) (slice_get list 254)
