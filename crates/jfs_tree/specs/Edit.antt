-- What a call adds to a tree.
use Rattle.std.specs.Prelude.{◌≡◌, ◌≤◌, ◌⊎◌, ℕ, zero, suc, ◌+◌, true, false, ◌==◌, if◌then◌else◌, List, [], ◌∷◌, ◌++◌, Option, Some, None, ⊤, map}
use Rattle.std.specs.List.{flat_map}
use Rattle.jfs_tree.specs.Walk.{Child, Node, Leaf, Inner, Page, Key, Row, Fault, Marks, Scale, UpTo, Rises, rows_of, times, walk}

-- the entry has no place in common with a key or an entry
abbrev pub Clear : {P E : Type 0} → Scale P E → E → Marks P E → Type 0
Clear s x [] = ⊤
Clear s x (Page n ∷ ms) = Clear s x ms
Clear s x (Key n k ∷ ms) = ((s.le k (s.from x) ≡ true) ⊎ (s.le (s.to x) k ≡ true)) × Clear s x ms
Clear s x (Row n e ∷ ms) = ((s.le (s.to e) (s.from x) ≡ true) ⊎ (s.le (s.to x) (s.from e) ≡ true)) × Clear s x ms
Clear s x (Fault n f ∷ ms) = Clear s x ms

-- the entry has no place in common with these
abbrev pub IsApart : {P E : Type 0} → Scale P E → E → List E → Type 0
IsApart s x [] = ⊤
IsApart s x (e ∷ es) = ((s.le (s.to e) (s.from x) ≡ true) ⊎ (s.le (s.to x) (s.from e) ≡ true)) × IsApart s x es

-- these keys rise strictly from a key on
abbrev pub KeysAbove : {P E : Type 0} → Scale P E → P → List (Child P) → Type 0
KeysAbove s key [] = ⊤
KeysAbove s key (c ∷ cs) = (s.le c.key key ≡ false) × KeysAbove s c.key cs

-- the keys of children rise; the first one's isn't looked at
abbrev pub KeysRise : {P E : Type 0} → Scale P E → List (Child P) → Type 0
KeysRise s [] = ⊤
KeysRise s (c ∷ cs) = KeysAbove s s.least cs

-- how often a number stands in a list
abbrev pub count_in : ℕ → List ℕ → ℕ
count_in n [] = 0
count_in n (m ∷ ms) = (if m == n then 1 else 0) + count_in n ms

-- the entries with one more among them
pub record Added {E : Type 0} (x : E) (old new : List E) : Type 0 where
  pub front : List E
  pub back : List E
  pub before : old ≡ front ++ back
  pub after : new ≡ front ++ x ∷ back

-- what a part of a tree has to be for an entry to go into it: it rises, the entry is its own, and no page is in it twice or free
pub record Ready {P E : Type 0} (s : Scale P E) (x : E) (key low : P) (ms : Marks P E) (high : Option P) (free : List ℕ) : Type 0 where
  pub rises : Rises s low ms high
  pub above : s.le key (s.from x) ≡ true
  pub below : UpTo s (s.to x) high
  pub clear : Clear s x ms
  pub once : (n : ℕ) → times n ms + count_in n free ≤ 1

-- what it is afterwards: pages come from the free ones alone
pub record Took {P E : Type 0} (s : Scale P E) (x : E) (low : P) (old new : Marks P E) (high : Option P) (free left : List ℕ) : Type 0 where
  pub rows : Added x (rows_of old) (rows_of new)
  pub rises : Rises s low new high
  pub pages : (n : ℕ) → times n new + count_in n left ≡ times n old + count_in n free

-- the upper end of what stands before these
abbrev pub bound : {P E : Type 0} → Marks P E → Option P → Option P
bound [] high = high
bound (Key n k ∷ ms) high = Some k
bound (Page n ∷ ms) high = high
bound (Row n e ∷ ms) high = high
bound (Fault n r ∷ ms) high = high

-- nothing, or a key and what rises from it
abbrev pub Tail : {P E : Type 0} → Scale P E → Marks P E → Option P → Type 0
Tail s [] high = ⊤
Tail s (Key n k ∷ ms) high = Rises s k ms high
Tail s (Page n ∷ ms) high = ⊥
Tail s (Row n e ∷ ms) high = ⊥
Tail s (Fault n r ∷ ms) high = ⊥

abbrev pub StartsWithKey : {P E : Type 0} → Marks P E → Type 0
StartsWithKey [] = ⊤
StartsWithKey (Key n k ∷ ms) = ⊤
StartsWithKey (Page n ∷ ms) = ⊥
StartsWithKey (Row n e ∷ ms) = ⊥
StartsWithKey (Fault n r ∷ ms) = ⊥

-- pages that are neither read here nor free read as before
abbrev pub Keeps : {P E : Type 0} → (ℕ → Node P E) → (ℕ → Node P E) → Marks P E → List ℕ → Type 0
Keeps old new ms free = (n : ℕ) → times n ms + count_in n free ≡ 0 → new n ≡ old n

-- the child behind these of a page with this key
abbrev pub own : {P : Type 0} → P → List (Child P) → Child P → Child P
own key [] c = record { key = key; page = c.page }
own key (b ∷ bs) c = c

-- the next child begins past the entry's place
abbrev pub IsPast : {P E : Type 0} → Scale P E → E → List (Child P) → Type 0
IsPast s x [] = ⊤
IsPast s x (b ∷ bs) = s.le b.key (s.from x) ≡ false

-- entries with one more before the first that does not end before it
abbrev pub with_entry : {P E : Type 0} → Scale P E → E → List E → List E
with_entry s x [] = x ∷ []
with_entry s x (e ∷ es) = if s.le (s.to e) (s.from x) then e ∷ with_entry s x es else x ∷ e ∷ es

abbrev pub IsCons : {X : Type 0} → List X → Type 0
IsCons [] = ⊥
IsCons (x ∷ xs) = ⊤

-- where the way down to some leaf ends, so many levels below: there and not before
abbrev pub EndsAt : {P E : Type 0} → (ℕ → Node P E) → ℕ → ℕ → Type 0
EndsAt nodes zero page = ⊥
EndsAt {P} {E} nodes (suc zero) page = (es : List E) × (nodes page ≡ Leaf es)
EndsAt {P} nodes (suc (suc below)) page = (front : List (Child P)) × (t : Child P) × (back : List (Child P)) × (nodes page ≡ Inner (front ++ t ∷ back)) × EndsAt nodes (suc below) t.page

-- The part below a page took an entry: the page and perhaps one more stand for it now. Pages were taken from the free ones, and no other page changed.
pub record Grew {P E : Type 0} (s : Scale P E) (x : E) (before after : ℕ → Node P E) (levels page : ℕ) (more : List (Child P)) (free left : List ℕ) : Type 0 where
  pub ends : EndsAt before levels page
  pub grows : (key low : P) (high : Option P) → Ready s x key low (walk s before levels (record { key = key; page = page })) high free
      → Took s x low (walk s before levels (record { key = key; page = page })) (flat_map (walk s after levels) (record { key = key; page = page } ∷ more)) high free left
  pub keeps : (key : P) (n : ℕ) → times n (walk s before levels (record { key = key; page = page })) ≡ 0 → count_in n free ≡ count_in n left → after n ≡ before n
  pub takes : (n : ℕ) → count_in n left ≤ count_in n free

-- the first of these entries fits the key
abbrev pub FitsFirst : {P E : Type 0} → Scale P E → P → List E → Type 0
FitsFirst s key [] = ⊥
FitsFirst s key (e ∷ es) = s.fits key e ≡ true

-- a key between entries, wherever they stand, which fits the first behind it
pub record PartsRows {P E : Type 0} (s : Scale P E) (front : List E) (key : P) (back : List E) : Type 0 where
  pub rises : (n : ℕ) (low : P) (high : Option P) → Rises s low (map (Row n) (front ++ back)) high → Rises s low (map (Row n) front) (Some key) × Rises s key (map (Row n) back) high
  pub fits : FitsFirst s key back

-- the entry that shares a place with x, in entries that rise
abbrev pub found_in : {P E : Type 0} → Scale P E → E → List E → Option E
found_in s x [] = None
found_in s x (e ∷ es) = if s.le (s.to e) (s.from x) then found_in s x es else (if s.le (s.to x) (s.from e) then None else Some e)

-- one place: no key is behind its begin and before its end
pub record IsPoint {P E : Type 0} (s : Scale P E) (x : E) : Type 0 where
  pub next : (k : P) → s.le k (s.from x) ≡ false → s.le (s.to x) k ≡ true
  pub wide : s.le (s.to x) (s.from x) ≡ false
