-- The levels of a tree, and how full their pages are.
use Rattle.std.specs.Prelude.{◌≡◌, ◌<◌, ◌≤◌, ℕ, zero, suc, Bool, false, List, [], ◌∷◌, ◌++◌, length, map, ⊤}
use Rattle.std.specs.List.{flat_map}
use Rattle.jfs_tree.specs.Walk.{Child, Node, Leaf, Inner, Broken}
use Rattle.jfs_tree.specs.Spells.{no_page}

abbrev pub entry_count : {P E : Type 0} → Node P E → ℕ
entry_count (Leaf es) = length es
entry_count (Inner cs) = length cs
entry_count (Broken rule) = 0

abbrev pub pages_below : {P E : Type 0} → Node P E → List ℕ
pages_below (Leaf es) = []
pages_below {P} (Inner cs) = map (λ (c : Child P). c.page) cs
pages_below (Broken rule) = []

-- the pages of a level from left to right, so many levels below the root
unfoldable pub level : {P E : Type 0} → (ℕ → Node P E) → ℕ → List ℕ
level nodes zero = no_page ∷ []
level nodes (suc depth) = flat_map (λ n. pages_below (nodes n)) (level nodes depth)

-- a page with fewer entries than these that isn't the last of its level
pub record IsShort {P E : Type 0} (least : ℕ) (nodes : ℕ → Node P E) (page : ℕ) : Type 0 where
  pub depth : ℕ
  pub front : List ℕ
  pub next : ℕ
  pub back : List ℕ
  pub stands : level nodes depth ≡ front ++ page ∷ next ∷ back
  pub few : entry_count (nodes page) < least

-- each page but the last of its level holds at least so many entries
abbrev pub HoldsLeast : {P E : Type 0} → ℕ → (ℕ → Node P E) → Type 0
HoldsLeast least nodes = (page : ℕ) → IsShort least nodes page → ⊥

-- a page is thin with fewer than 64 entries
abbrev pub IsThinIn : {P E : Type 0} → (ℕ → Node P E) → ℕ → Type 0
IsThinIn nodes page = IsShort 64 nodes page

abbrev pub HasNoThin : {P E : Type 0} → (ℕ → Node P E) → Type 0
HasNoThin nodes = HoldsLeast 64 nodes

-- ---- the same from the top down, for the prover alone

-- what holds of pages side by side, where the last of them may be the last one of its level
abbrev pub InLine : (Bool → ℕ → Type 0) → Bool → List ℕ → Type 0
InLine holds last [] = ⊤
InLine holds last (n ∷ []) = holds last n
InLine holds last (n ∷ m ∷ ns) = holds false n × InLine holds last (m ∷ ns)

-- A page and those below it, so many levels deep, have at least so many entries; where the page is the last one of its level, the last one of each level may have fewer.
unfoldable pub IsFilledTo : {P E : Type 0} → ℕ → (ℕ → Node P E) → ℕ → Bool → ℕ → Type 0
IsFilledTo least nodes zero last page = ⊤
IsFilledTo least nodes (suc depth) last page = (last ≡ false → least ≤ entry_count (nodes page)) × InLine (IsFilledTo least nodes depth) last (pages_below (nodes page))

abbrev pub IsFilled : {P E : Type 0} → (ℕ → Node P E) → ℕ → Bool → ℕ → Type 0
IsFilled nodes depth last page = IsFilledTo 64 nodes depth last page
