-- The walk through a tree of pages. (JFS Layout: extent trees and directory trees are B+-trees of pages.)
use Rattle.std.specs.Prelude.{◌≡◌, ◌⊎◌, false, ℕ, zero, suc, ◌+◌, Bool, true, ◌==◌, if◌then◌else◌, List, [], ◌∷◌, map, Option, Some, None, ⊤}
use Rattle.std.specs.List.{flat_map}
use Rattle.jfs_bits.specs.declared.rule.Rule.{Rule}
use Rattle.jfs_bits.specs.declared.rule.Rule.TheVariants.{Deep}
use Rattle.jfs_bits.specs.declared.rule.Rule.TheVariants as rules

-- a child: the key from which on its entries stand, and its page
pub record Child (P : Type 0) : Type 0 where
  pub key : P
  pub page : ℕ

-- What the bytes of a page read as. Each kind of tree brings its reader.
pub data Node (P E : Type 0) : Type 0 where
  Leaf : List E → Node P E
  Inner : List (Child P) → Node P E
  Broken : Rule → Node P E

-- How entries lie among keys. An entry takes the places from `from` on, up to `to`; `fits` says whether an entry may be the first below a key.
pub record Scale (P E : Type 0) : Type 0 where
  pub le : P → P → Bool
  pub least : P
  pub from : E → P
  pub to : E → P
  pub fits : P → E → Bool

-- what a walk meets: a page that it reads, a child's key, an entry, a broken rule, each with the page that it stands on
pub data Mark (P E : Type 0) : Type 0 where
  Page : ℕ → Mark P E
  Key : ℕ → P → Mark P E
  Row : ℕ → E → Mark P E
  Fault : ℕ → Rule → Mark P E

abbrev pub Marks : (P E : Type 0) → Type 0
Marks P E = List (Mark P E)

-- A page with so many levels below it is a leaf where there are none, else an inner page; neither is empty, and a leaf's first entry fits its key.
abbrev pub placed : {P E : Type 0} → Scale P E → ℕ → P → Node P E → Node P E
placed s zero key (Leaf []) = Broken Deep
placed s zero key (Leaf (e ∷ es)) = if s.fits key e then Leaf (e ∷ es) else Broken rules.Order
placed s zero key (Inner cs) = Broken Deep
placed s zero key (Broken rule) = Broken rule
placed s (suc below) key (Leaf es) = Broken Deep
placed s (suc below) key (Inner []) = Broken Deep
placed s (suc below) key (Inner (c ∷ cs)) = Inner (c ∷ cs)
placed s (suc below) key (Broken rule) = Broken rule

-- The key of a page's first child isn't looked at: the page's own key stands for it.
abbrev pub under : {P : Type 0} → P → List (Child P) → List (Child P)
under key [] = []
under key (c ∷ cs) = record { key = key; page = c.page } ∷ cs

-- what a page shows, where its children show what `f` says
abbrev pub body : {P E : Type 0} → (Child P → Marks P E) → Child P → Node P E → Marks P E
body f c (Leaf es) = map (Row c.page) es
body f c (Inner cs) = flat_map f (under c.key cs)
body f c (Broken rule) = Fault c.page rule ∷ []

-- The walk from left to right through a page and all below it, where the page is the first of so many levels.
unfoldable pub walk : {P E : Type 0} → Scale P E → (ℕ → Node P E) → ℕ → Child P → Marks P E
walk s nodes zero c = Fault c.page Deep ∷ []
walk s nodes (suc below) c = Key c.page c.key ∷ Page c.page ∷ body (walk s nodes below) c (placed s below c.key (nodes c.page))

-- the entries
abbrev pub rows_of : {P E : Type 0} → Marks P E → List E
rows_of [] = []
rows_of (Page n ∷ ms) = rows_of ms
rows_of (Key n k ∷ ms) = rows_of ms
rows_of (Row n e ∷ ms) = e ∷ rows_of ms
rows_of (Fault n r ∷ ms) = rows_of ms

-- how often a page is read
abbrev pub times : {P E : Type 0} → ℕ → Marks P E → ℕ
times n [] = 0
times n (Page m ∷ ms) = (if m == n then 1 else 0) + times n ms
times n (Key m k ∷ ms) = times n ms
times n (Row m e ∷ ms) = times n ms
times n (Fault m r ∷ ms) = times n ms

-- at most the upper end, where there is one
abbrev pub UpTo : {P E : Type 0} → Scale P E → P → Option P → Type 0
UpTo s low None = ⊤
UpTo s low (Some high) = s.le low high ≡ true

-- Keys and entries rise from `low` to `high`, and no rule is broken.
abbrev pub Rises : {P E : Type 0} → Scale P E → P → Marks P E → Option P → Type 0
Rises s low [] high = UpTo s low high
Rises s low (Page n ∷ ms) high = Rises s low ms high
Rises s low (Key n k ∷ ms) high = (s.le low k ≡ true) × Rises s k ms high
Rises s low (Row n e ∷ ms) high = (s.le low (s.from e) ≡ true) × Rises s (s.to e) ms high
Rises s low (Fault n r ∷ ms) high = ⊥

-- The laws of a scale. An entry takes a place; one that is apart from the first entry below a key doesn't straddle the key, and fits it where it stands before that entry.
pub record IsOrder {P E : Type 0} (s : Scale P E) : Type 0 where
  pub refl_le : (a : P) → s.le a a ≡ true
  pub trans_le : (a b c : P) → s.le a b ≡ true → s.le b c ≡ true → s.le a c ≡ true
  pub least_le : (a : P) → s.le s.least a ≡ true
  pub span_le : (e : E) → s.le (s.from e) (s.to e) ≡ true
  pub takes_place : (e : E) → s.le (s.to e) (s.from e) ≡ false
  pub fits_least : (e : E) → s.fits s.least e ≡ true
  pub clear_key : (k : P) (x e : E) → s.fits k e ≡ true → ((s.le (s.to e) (s.from x) ≡ true) ⊎ (s.le (s.to x) (s.from e) ≡ true)) → (s.le k (s.from x) ≡ true) ⊎ (s.le (s.to x) k ≡ true)
  pub fits_before : (k : P) (x e : E) → s.le k (s.from x) ≡ true → s.le (s.to x) (s.from e) ≡ true → s.fits k e ≡ true → s.fits k x ≡ true
