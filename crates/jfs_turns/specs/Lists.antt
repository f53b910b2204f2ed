-- Lists of entries, and what a pass has seen of them.
use Rattle.std.specs.Prelude.{◌≡◌, ◌≢◌, ◌≤◌, ℕ, suc, List, [], ◌∷◌, ◌++◌, cond, ◌==◌}
use Rattle.std.specs.List.{AllByRecursion}

-- what both values were made from: plain data that no step changes
abbrev pub Base : Type 0
Base = List (List ℕ)

abbrev pub IsPrefix : {A : Type 0} → List A → List A → Type 0
IsPrefix {A} xs ys = (more : List A) × (xs ++ more ≡ ys)

module _ {E : Type 0} (client : E → ℕ) where
  -- no entry is of the client k
  abbrev pub Lacks : ℕ → List E → Type 0
  Lacks k [] = Unit {0}
  Lacks k (e ∷ es) = (client e ≢ k) × Lacks k es

  -- ys begins with xs, and goes on without an entry of the client k
  abbrev pub HasOwn : ℕ → List E → List E → Type 0
  HasOwn k xs ys = (more : List E) × (xs ++ more ≡ ys) × Lacks k more

  -- the same of the lists with which the passes k, k + 1, .. came back
  abbrev pub AreOwn : ℕ → List (List E) → List E → Type 0
  AreOwn k [] ys = Unit {0}
  AreOwn k (xs ∷ more) ys = HasOwn k xs ys × AreOwn (suc k) more ys

  -- each entry is of one of the clients 1 to n
  abbrev pub AreOfClients : ℕ → List E → Type 0
  AreOfClients n es = AllByRecursion (λ (e : E). (1 ≤ client e) × (client e ≤ n)) es

  -- the entries of the client k, in order
  abbrev pub entries_of : ℕ → List E → List E
  entries_of k [] = []
  entries_of k (e ∷ es) = cond (client e == k) (e ∷ entries_of k es) (entries_of k es)
