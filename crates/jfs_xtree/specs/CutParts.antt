-- Parts of a cut, for the prover alone.
use Rattle.std.specs.Prelude.{◌≡◌, ◌<◌, ◌≤◌, ◌+◌, ℕ, zero, suc, Bool, true, false, length, drop, if◌then◌else◌, List, [], ◌∷◌, ◌++◌, map, Option, Some, Result, Ok, Err}
use Rattle.std.specs.List.{flat_map}
use Rattle.jfs_bits.specs.declared.extent.Xad.{Xad}
use Rattle.jfs_bits.specs.declared.descriptor.Pxd.{Pxd}
use Rattle.jfs_bits.specs.declared.rule.Rule.TheVariants as rules
use Rattle.jfs_tree.specs.Walk.{Child, Node, Leaf, Inner, Broken, Page, Key, Row, Fault, Marks, Rises, rows_of, times, placed, under, body, walk}
use Rattle.jfs_tree.specs.Spells.{judge}
use Rattle.jfs_tree.specs.Edit.{count_in, FitsFirst}
use Rattle.jfs_tree.specs.Path.{below_root}
use Rattle.jfs_tree.specs.Shrink.{kept_of}
use Rattle.jfs_tree.specs.Levels.{InLine, IsFilledTo, pages_below}
use Rattle.jfs_tree.specs.declared.form.TreeError.{TreeError}
use Rattle.jfs_tree.specs.declared.form.TreeError.TheVariants.{View, Bad, Memory}
use Rattle.jfs_xtpage.specs.Page.{head_of, entries_of, end_of}
use Rattle.jfs_xtree.specs.Node.{xt_scale, is_leaf, child_of}
use Rattle.jfs_xtree.specs.Spells.{page_nodes}
use Rattle.jfs_xtree.specs.Cutting.{kept_below, gone_past}
use Rattle.jfs_xtree.specs.CutMet.{below_way, way_levels, path_below, way_pages, met_below}

-- A part was cut: its entries are those below the bound, its pages are those that it has still and those that are free now, and each page that isn't its own now keeps its bytes.
pub record CutPart (bound : ℕ) (before after : ℕ → List ℕ) (low : ℕ) (old new : Marks ℕ Xad) (high : Option ℕ) (freed : List ℕ) (runs : List Pxd) : Type 0 where
  pub rows : rows_of new ≡ kept_below bound (rows_of old)
  pub gone : runs ≡ gone_past bound (rows_of old)
  pub rises : Rises xt_scale low new high
  pub pages : (n : ℕ) → times n new + count_in n freed ≡ times n old
  pub keeps : (n : ℕ) → times n new ≡ 0 → after n ≡ before n

-- what a page that reads so shows below itself, where so many levels are
abbrev pub shows : (ℕ → Node ℕ Xad) → ℕ → Child ℕ → Node ℕ Xad → Marks ℕ Xad
shows nodes below c node = body (walk xt_scale nodes below) c (placed xt_scale below c.key node)

abbrev pub if_kept : Bool → Marks ℕ Xad → Marks ℕ Xad
if_kept kept ms = if kept then ms else []

-- where the levels below the old node were filled, those below the new one are
abbrev pub FillsNode : ℕ → (ℕ → List ℕ) → (ℕ → List ℕ) → Node ℕ Xad → Node ℕ Xad → Type 0
FillsNode blocks before after old new = (least depth : ℕ) → InLine (IsFilledTo least (page_nodes blocks before) depth) true (pages_below old) → InLine (IsFilledTo least (page_nodes blocks after) depth) true (pages_below new)

abbrev pub FillsPage : ℕ → (ℕ → List ℕ) → (ℕ → List ℕ) → ℕ → Type 0
FillsPage blocks before after page = (least depth : ℕ) → IsFilledTo least (page_nodes blocks before) depth true page → IsFilledTo least (page_nodes blocks after) depth true page

-- a page was cut that read as the old node, and reads as the new one where anything is left
abbrev pub CutsNode : ℕ → ℕ → (ℕ → List ℕ) → (ℕ → List ℕ) → Node ℕ Xad → Node ℕ Xad → Bool → List ℕ → List Pxd → Type 0
CutsNode blocks bound before after old new kept freed runs = (below : ℕ) (c : Child ℕ) (high : Option ℕ)
    → Rises xt_scale c.key (shows (page_nodes blocks before) below c old) high → ((n : ℕ) → times n (shows (page_nodes blocks before) below c old) ≤ 1)
    → CutPart bound before after c.key (shows (page_nodes blocks before) below c old) (if_kept kept (shows (page_nodes blocks after) below c new)) high freed runs
    × (kept ≡ true → FillsNode blocks before after old new)

-- the part below a page was cut, wherever it rises: the page is kept, or is free too
abbrev pub CutsPage : ℕ → ℕ → (ℕ → List ℕ) → (ℕ → List ℕ) → ℕ → Bool → List ℕ → List Pxd → Type 0
CutsPage blocks bound before after page kept freed runs = (levels key low : ℕ) (high : Option ℕ) → Rises xt_scale low (walk xt_scale (page_nodes blocks before) levels (record { key = key; page = page })) high
    → CutPart bound before after low (walk xt_scale (page_nodes blocks before) levels (record { key = key; page = page }))
    (flat_map (walk xt_scale (page_nodes blocks after) levels) (kept_of kept (record { key = key; page = page }))) high freed runs
    × (kept ≡ true → FillsPage blocks before after page)

-- the pages of children, and of entries
abbrev pub pages_of_children : List (Child ℕ) → List ℕ
pages_of_children cs = map (λ c. c.page) cs

abbrev pub pages_of_entries : List Xad → List ℕ
pages_of_entries xs = map (λ x. x.at.addr) xs

-- the runs of extents
abbrev pub runs_of : List Xad → List Pxd
runs_of xs = map (λ x. x.at) xs

-- what stands below the pages that these entries name was freed, and they too, wherever it rises
abbrev pub FreesUnder : (ℕ → Node ℕ Xad) → List Xad → List ℕ → List ℕ → List Pxd → List Pxd → Type 0
FreesUnder nodes xs free freed runs later = (levels low : ℕ) (high : Option ℕ) → Rises xt_scale low (flat_map (walk xt_scale nodes levels) (map child_of xs)) high
    → ((n : ℕ) → count_in n freed ≡ times n (flat_map (walk xt_scale nodes levels) (map child_of xs)) + count_in n free) × (later ≡ runs ++ runs_of (rows_of (flat_map (walk xt_scale nodes levels) (map child_of xs))))

-- each of these begins at or past the bound
abbrev pub AllFrom : ℕ → List Xad → Type 0
AllFrom bound [] = Unit {0}
AllFrom bound (x ∷ xs) = (bound ≤ x.offset) × AllFrom bound xs

-- whether any of these is there
abbrev pub KeepsSome : List Xad → Bool → Type 0
KeepsSome xs true = 0 < length xs
KeepsSome xs false = xs ≡ []

-- ---- what is met

-- the pages in their order
abbrev pub pages_in : Marks ℕ Xad → List ℕ
pages_in [] = []
pages_in (Page n ∷ ms) = n ∷ pages_in ms
pages_in (Key n k ∷ ms) = pages_in ms
pages_in (Row n e ∷ ms) = pages_in ms
pages_in (Fault n r ∷ ms) = pages_in ms

-- the place behind what was met last
abbrev pub place_after : ℕ → Marks ℕ Xad → ℕ
place_after low [] = low
place_after low (Page n ∷ ms) = place_after low ms
place_after low (Key n k ∷ ms) = place_after k ms
place_after low (Row n e ∷ ms) = place_after (end_of e) ms
place_after low (Fault n r ∷ ms) = place_after low ms

-- the key of the child at a place: of a page's first child it is the page's own
abbrev pub key_at : ℕ → ℕ → ℕ → ℕ
key_at low zero offset = low
key_at low (suc place) offset = offset

-- the key goes behind what was met, or breaks the order at the child's page
abbrev pub PassesChild : ℕ → ℕ → ℕ → ℕ → ℕ → Result (Unit {0}) TreeError → Type 0
PassesChild low place offset page after (Ok it) = (after ≡ key_at low place offset) × (low ≤ after)
PassesChild low place offset page after (Err e) = (0 < place) × (offset < low) × (e ≡ Bad page rules.Order)

-- a page with its key, and all that stands below it, where so many levels do
abbrev pub part_of : (ℕ → Node ℕ Xad) → ℕ → ℕ → ℕ → Marks ℕ Xad
part_of nodes below key page = walk xt_scale nodes (suc below) (record { key = key; page = page })

-- the children of a page from a place on, with so many levels below each
abbrev pub children_from : (ℕ → Node ℕ Xad) → ℕ → ℕ → ℕ → List Xad → Marks ℕ Xad
children_from nodes below from key xs = flat_map (walk xt_scale nodes (suc below)) (drop from (under key (map child_of xs)))

-- All this was met and freed, and it rises.
pub record Frees (low : ℕ) (ms : Marks ℕ Xad) (high : ℕ) (free freed : List ℕ) (runs later : List Pxd) : Type 0 where
  pub rises : Rises xt_scale low ms (Some high)
  pub ends : high ≡ place_after low ms
  pub pages : freed ≡ free ++ pages_in ms
  pub given : later ≡ runs ++ runs_of (rows_of ms)

-- a page is named only as the first one that breaks a rule in this
abbrev pub StopsAt : ℕ → Marks ℕ Xad → TreeError → Type 0
StopsAt low ms (View e) = Unit {0}
StopsAt low ms (Bad page rule) = judge xt_scale low ms ≡ Err (page, rule)
StopsAt low ms Memory = Unit {0}

-- a page that breaks a rule wherever it stands is named
abbrev pub BreaksAlone : Node ℕ Xad → ℕ → TreeError → Type 0
BreaksAlone node page (View e) = Unit {0}
BreaksAlone node page (Bad bad rule) = (bad ≡ page) × (below_root node ≡ Broken rule)
BreaksAlone node page Memory = Unit {0}

-- a leaf whose first extent misses its key is named
abbrev pub MissesKey : Bool → ℕ → TreeError → Type 0
MissesKey fits page (View e) = ⊥
MissesKey fits page (Bad bad rule) = (fits ≡ false) × (bad ≡ page) × (rule ≡ rules.Order)
MissesKey fits page Memory = Unit {0}

-- the first extent below a page, so many levels down
abbrev pub StartsBelow : (ℕ → Xad → Type 0) → ℕ → Node ℕ Xad → Xad → Type 0
StartsBelow f below (Leaf []) x = ⊥
StartsBelow f below (Leaf (e ∷ es)) x = (below ≡ 0) × (x ≡ e)
StartsBelow f below (Inner []) x = ⊥
StartsBelow f below (Inner (c ∷ cs)) x = f c.page x
StartsBelow f below (Broken rule) x = ⊥

abbrev pub Starts : (ℕ → Node ℕ Xad) → ℕ → ℕ → Xad → Type 0
Starts nodes zero page x = ⊥
Starts nodes (suc below) page x = StartsBelow (Starts nodes below) below (nodes page) x

-- Each page is counted once, and the first extent below it lies within these places.
abbrev pub Spread : (ℕ → Node ℕ Xad) → ℕ → ℕ → (ℕ → ℕ) → Type 0
Spread nodes low high count = (n : ℕ) → (count n ≤ 1) × (0 < count n → (levels : ℕ) × (x : Xad) × Starts nodes levels n x × (low ≤ x.offset) × (end_of x ≤ high))

-- A page that reads so was cut, with all that is met below it: what is met rises, and each freed page once. Where nothing is kept, all that stands below the page was met. What was met and isn't on the way was freed.
pub record CutMet (nodes : ℕ → Node ℕ Xad) (bound most : ℕ) (c : Child ℕ) (node : Node ℕ Xad) (high below : ℕ) (kept : Bool) (freed : List ℕ) (runs : List Pxd) : Type 0 where
  pub level : below ≡ below_way (way_levels nodes bound most) bound node
  pub rises : Rises xt_scale c.key (met_below nodes bound most c node) (Some high)
  pub ends : high ≡ place_after c.key (met_below nodes bound most c node)
  pub gone : runs ≡ gone_past bound (rows_of (met_below nodes bound most c node))
  pub spread : Spread nodes c.key high (λ n. count_in n freed)
  pub inside : (n : ℕ) → count_in n freed ≤ times n (met_below nodes bound most c node)
  pub whole : kept ≡ false → met_below nodes bound most c node ≡ shows nodes below c node
  pub rest : (n : ℕ) → times n (met_below nodes bound most c node) ≤ count_in n freed + count_in n (path_below (way_pages nodes bound most) bound node)

-- a leaf's first extent fits the key
abbrev pub FitsLeaf : ℕ → List ℕ → Type 0
FitsLeaf key bytes = is_leaf (head_of bytes).flag ≡ true → FitsFirst xt_scale key (entries_of bytes)
