-- What a call takes out of a tree.
use Rattle.std.specs.Prelude.{◌≡◌, ◌≤◌, ℕ, ◌+◌, Bool, true, if◌then◌else◌, List, [], ◌∷◌, ◌++◌, Option}
use Rattle.std.specs.List.{flat_map}
use Rattle.jfs_tree.specs.Walk.{Child, Node, Marks, Scale, Rises, rows_of, times, walk}
use Rattle.jfs_tree.specs.Edit.{count_in, EndsAt}

-- the entries without one of them
pub record TakenOut {E : Type 0} (e : E) (old new : List E) : Type 0 where
  pub front : List E
  pub back : List E
  pub before : old ≡ front ++ e ∷ back
  pub after : new ≡ front ++ back

-- A key may be lower than the first entry below it, so it can stay where entries go. Keys of names are like that; a key of an extent tree is the
-- first offset below it.
pub record IsLoose {P E : Type 0} (s : Scale P E) : Type 0 where
  pub later : (k : P) (a b : E) → s.le (s.to a) (s.from b) ≡ true → s.fits k a ≡ true → s.fits k b ≡ true
  pub lower : (k l : P) (e : E) → s.le k l ≡ true → s.fits l e ≡ true → s.fits k e ≡ true

-- A part lost an entry. Its pages are those that it has still and those that are free now.
pub record Lost {P E : Type 0} (s : Scale P E) (e : E) (low : P) (old new : Marks P E) (high : Option P) (free freed : List ℕ) : Type 0 where
  pub rows : TakenOut e (rows_of old) (rows_of new)
  pub rises : Rises s low new high
  pub pages : (n : ℕ) → times n new + count_in n freed ≡ times n old + count_in n free

-- a page, where it is kept
abbrev pub kept_of : {P : Type 0} → Bool → Child P → List (Child P)
kept_of kept c = if kept then c ∷ [] else []

-- The part below a page lost an entry, wherever it rises and no page is in it twice or free: the page is kept, or is free too. No other page changed.
pub record Shrank {P E : Type 0} (s : Scale P E) (e : E) (before after : ℕ → Node P E) (levels page : ℕ) (kept : Bool) (free freed : List ℕ) : Type 0 where
  pub ends : EndsAt before levels page
  pub shrinks : (key low : P) (high : Option P) → Rises s low (walk s before levels (record { key = key; page = page })) high
      → ((n : ℕ) → times n (walk s before levels (record { key = key; page = page })) + count_in n free ≤ 1)
      → Lost s e low (walk s before levels (record { key = key; page = page })) (flat_map (walk s after levels) (kept_of kept (record { key = key; page = page }))) high free freed
  pub keeps : (key : P) (n : ℕ) → times n (walk s before levels (record { key = key; page = page })) ≡ 0 → after n ≡ before n
