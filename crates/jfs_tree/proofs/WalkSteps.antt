-- One step of a walk: a row, a child, a page.
use Rattle.std.proofs.Common.{◌≡◌, ◌<◌, ◌≤◌, inl, inr, refl, sym, ap, ◌∙◌, subst, ℕ, zero, suc, ◌+◌, Bool, true, false, List, [], ◌∷◌, ◌++◌, map, drop, length, if◌then◌else◌, Some, Result, Ok, Err, arith}
use Rattle.std.specs.Prelude.{slice_get}
use Rattle.std.specs.List.{flat_map}
use Rattle.std.proofs.lemmas.List.{drop_more}
use Rattle.std.proofs.lemmas.Option.{slice_get_within, get_or_from_slice_get}
use Rattle.jfs_bits.specs.declared.rule.Rule.{Rule}
use Rattle.jfs_bits.specs.declared.rule.Rule.TheVariants as rules
use Rattle.jfs_tree.specs.Walk.{Child, Node, Leaf, Inner, Broken, Page, Key, Row, Fault, Marks, Scale, IsOrder, placed, body, walk}
use Rattle.jfs_tree.specs.Spells.{no_page, with_root}
use Rattle.jfs_tree.specs.Walking.{Meets, Counts, IsBroken, Opens, GoesOn, OthersGoOn, rows_in, children_in, leaf_shown, page_shown, others_shown}
use Rattle.jfs_tree.specs.declared.form.TreeError.{TreeError}
use Rattle.jfs_tree.specs.declared.form.TreeError.TheVariants.{View, Bad, Memory}
use Rattle.jfs_tree.specs.declared.walk_read.Shape.TheVariants as shape
use Rattle.jfs_tree.proofs.Tops.{root_else}
use Rattle.jfs_tree.proofs.Walked.{joined, stopped}

next_at : {X : Type 0} (xs : List X) (i : ℕ) (x : X) → slice_get xs i ≡ Some x → drop i xs ≡ x ∷ drop (i + 1) xs
next_at xs i x e = drop_more xs i x (slice_get_within xs i x e) ∙ ap (λ y. y ∷ drop (i + 1) xs) (get_or_from_slice_get xs i x x e)

-- ---- entries

module _ {P E V : Type 0} (s : Scale P E) (page : V → ℕ → V → Type 0) (row : V → ℕ → E → V → Type 0) (n : ℕ) (xs : List E) (i : ℕ) (x : E) (from to : P) (v u : V)
    (on : GoesOn s page row from v (map (Row n) xs) to u (map (Row n) (drop i xs))) (at : slice_get xs i ≡ Some x) where
  -- an entry that doesn't rise
  pub row_refused : s.le to (s.from x) ≡ false → Meets s page row from v (map (Row n) xs) (Err (Bad n rules.Order)) u
  row_refused misses = on (Err (Bad n rules.Order)) u (subst (λ ys. Meets s page row to u (map (Row n) ys) (Err (Bad n rules.Order)) u) (sym (next_at xs i x at)) (inr (misses, (refl, refl))))

  -- one for which there is no memory
  pub row_lost : (w : V) → s.le to (s.from x) ≡ true → Meets s page row from v (map (Row n) xs) (Err Memory) w
  row_lost w le = on (Err Memory) w (subst (λ ys. Meets s page row to u (map (Row n) ys) (Err Memory) w) (sym (next_at xs i x at)) (inl (le, inl refl)))

  pub row_seen : (w : V) (next : P) → s.le to (s.from x) ≡ true → row u n x w → next ≡ s.to x → GoesOn s page row from v (map (Row n) xs) next w (map (Row n) (drop (i + 1) xs))
  row_seen w next le sees is r z k = on r z (subst (λ ys. Meets s page row to u (map (Row n) ys) r z) (sym (next_at xs i x at))
      (inl (le, inr (w, sees, subst (λ p. Meets s page row p w (map (Row n) (drop (i + 1) xs)) r z) is k))))

-- the first entry of a leaf fits its key, or breaks the order
leaf_fits : {P E : Type 0} (s : Scale P E) (n : ℕ) (key : P) (xs : List E) (x : E) → slice_get xs 0 ≡ Some x → s.fits key x ≡ true → leaf_shown s n key xs ≡ map (Row n) xs
leaf_fits s n key [] x at fits = cc
leaf_fits {P} {E} s n key (y ∷ ys) x at fits = by (s.fits key y) (ap (s.fits key) (same y x at) ∙ fits)
  where
    same : (a b : E) → Some a ≡ Some b → a ≡ b
    same a b h = cc

    by : (b : Bool) → b ≡ true → (let all : Marks P E = map (Row n) (y ∷ ys) in if b then all else (Fault n rules.Order ∷ [])) ≡ map (Row n) (y ∷ ys)
    by true h = refl
    by false h = cc

pub leaf_goes : {P E V : Type 0} (s : Scale P E) (page : V → ℕ → V → Type 0) (row : V → ℕ → E → V → Type 0) (n : ℕ) (key : P) (v : V) (xs : List E) (x : E) (r : Result P TreeError) (w : V)
    → slice_get xs 0 ≡ Some x → s.fits key x ≡ true → Meets s page row key v (map (Row n) xs) r w → Meets s page row key v (leaf_shown s n key xs) r w
leaf_goes s page row n key v xs x r w at fits h = subst (λ ms. Meets s page row key v ms r w) (sym (leaf_fits s n key xs x at fits)) h

-- ---- children behind the first one

walk_is : {P E : Type 0} (s : Scale P E) (nodes : ℕ → Node P E) (below : ℕ) (c : Child P) → walk s nodes (suc below) c ≡ Key c.page c.key ∷ page_shown s nodes below c.page c.key
unfolding walk
walk_is s nodes below c = refl

-- what a walk met in a page and all below it, and in the other children of a page
abbrev pub PageMet : {P E V : Type 0} → Scale P E → (V → ℕ → V → Type 0) → (V → ℕ → E → V → Type 0) → (ℕ → Node P E) → Node P E → ℕ → ℕ → P → V → Result P TreeError → V → Type 0
PageMet s page row pages root below n key v r w = Meets s page row key v (page_shown s (with_root root pages) below n key) r w

abbrev pub OthersMet : {P E V : Type 0} → Scale P E → (V → ℕ → V → Type 0) → (V → ℕ → E → V → Type 0) → (ℕ → Node P E) → Node P E → ℕ → List (Child P) → P → V → Result P TreeError → V → Type 0
OthersMet s page row pages root below cs low v r w = Meets s page row low v (others_shown s (with_root root pages) below cs) r w

module _ {P E V : Type 0} (s : Scale P E) (page : V → ℕ → V → Type 0) (row : V → ℕ → E → V → Type 0) (pages : ℕ → Node P E) (below : ℕ) (cs : List (Child P)) (i : ℕ) (c : Child P) (from to : P) (v u : V)
    (on : OthersGoOn s page row pages below cs i from v to u) (at : slice_get cs i ≡ Some c) (root : Node P E) where
  next_shown : flat_map (walk s (with_root root pages) (suc below)) (drop i cs) ≡ Key c.page c.key ∷ (page_shown s (with_root root pages) below c.page c.key ++ flat_map (walk s (with_root root pages) (suc below)) (drop (i + 1) cs))
  next_shown = ap (flat_map (walk s (with_root root pages) (suc below))) (next_at cs i c at) ∙ ap (λ ms. ms ++ flat_map (walk s (with_root root pages) (suc below)) (drop (i + 1) cs)) (walk_is s (with_root root pages) below c)

  pub other_refused : (e : TreeError) → s.le to c.key ≡ false → e ≡ Bad c.page rules.Order → Meets s page row from v (others_shown s (with_root root pages) below cs) (Err e) u
  other_refused e misses is = subst (λ f. Meets s page row from v (others_shown s (with_root root pages) below cs) (Err f) u) (sym is)
      (on root (Err (Bad c.page rules.Order)) u (subst (λ ms. Meets s page row to u ms (Err (Bad c.page rules.Order)) u) (sym next_shown) (inr (misses, (refl, refl)))))

  pub other_stops : (e : TreeError) (w : V) (key : P) → s.le to c.key ≡ true → key ≡ c.key → PageMet s page row pages root below c.page key u (Err e) w → OthersMet s page row pages root below cs from v (Err e) w
  other_stops e w key le is h = on root (Err e) w (subst (λ ms. Meets s page row to u ms (Err e) w) (sym next_shown)
      (inl (
        le,
        stopped s page row c.key u (page_shown s (with_root root pages) below c.page c.key) (flat_map (walk s (with_root root pages) (suc below)) (drop (i + 1) cs)) e w
            (subst (λ k. PageMet s page row pages root below c.page k u (Err e) w) is h),
      )))

  pub other_goes : (m : P) (w : V) (key : P) → s.le to c.key ≡ true → key ≡ c.key → PageMet s page row pages root below c.page key u (Ok m) w
      → GoesOn s page row from v (others_shown s (with_root root pages) below cs) m w (flat_map (walk s (with_root root pages) (suc below)) (drop (i + 1) cs))
  other_goes m w key le is h r z k = on root r z (subst (λ ms. Meets s page row to u ms r z) (sym next_shown)
      (inl (
        le,
        joined s page row c.key u (page_shown s (with_root root pages) below c.page c.key) (flat_map (walk s (with_root root pages) (suc below)) (drop (i + 1) cs)) m w r z
            (subst (λ q. PageMet s page row pages root below c.page q u (Ok m) w) is h) k,
      )))

-- ---- pages

-- the root isn't a page
pub reads : {P E : Type 0} (root : Node P E) (pages : ℕ → Node P E) (n blocks : ℕ) → n < blocks → blocks ≤ no_page → with_root root pages n ≡ pages n
reads root pages n blocks l m = root_else root pages n (λ e. absurd (omega (arith, l, m, e)))

broken_placed : {P E : Type 0} (s : Scale P E) (below : ℕ) (key : P) (node : Node P E) (rule : Rule) → IsBroken node rule → placed s below key node ≡ Broken rule
broken_placed s zero key node rule (inl e) = rw e refl
broken_placed s (suc below) key node rule (inl e) = rw e refl
broken_placed s zero key node rule (inr (d, inl e)) = rw (e, d) refl
broken_placed s (suc below) key node rule (inr (d, inl e)) = rw (e, d) refl
broken_placed s zero key node rule (inr (d, inr e)) = rw (e, d) refl
broken_placed s (suc below) key node rule (inr (d, inr e)) = rw (e, d) refl

-- a page of some tree that a walk meets: it reads as `node`
module _ {P E V : Type 0} (s : Scale P E) (page : V → ℕ → V → Type 0) (row : V → ℕ → E → V → Type 0) (nodes : ℕ → Node P E) (n : ℕ) (node : Node P E) (is : nodes n ≡ node) (key : P) (v u : V) where
  shown_as : (below : ℕ) (shown : Node P E) → placed s below key node ≡ shown → page_shown s nodes below n key ≡ Page n ∷ body (walk s nodes below) (record { key = key; page = n }) shown
  shown_as below shown e = ap (λ m. Page n ∷ body (walk s nodes below) (record { key = key; page = n }) m) (ap (placed s below key) is ∙ e)

  breaks : (below : ℕ) (rule : Rule) → placed s below key node ≡ Broken rule → page v n u → Meets s page row key v (page_shown s nodes below n key) (Err (Bad n rule)) u
  breaks below rule e sees = subst (λ ms. Meets s page row key v ms (Err (Bad n rule)) u) (sym (shown_as below (Broken rule) e)) (inr (u, sees, (refl, refl)))

  -- a page that could not be read, or that breaks a rule wherever it stands
  pub page_fails : (below : ℕ) (e : TreeError) → Opens page n node v (Err e) u → Meets s page row key v (page_shown s nodes below n key) (Err e) u
  page_fails below (View e) h = inl (e, refl, h)
  page_fails below (Bad bad rule) h = subst (λ m. Meets s page row key v (page_shown s nodes below n key) (Err (Bad m rule)) u) (sym h.1) (breaks below rule (broken_placed s below key node rule h.2) h.0)
  page_fails below Memory h = absurd h

  pub leaf_met : (count : ℕ) (r : Result P TreeError) (w : V) → Counts node (shape.Leaf count) → page v n u → Meets s page row key u (leaf_shown s n key (rows_in node)) r w → Meets s page row key v (page_shown s nodes 0 n key) r w
  leaf_met count r w h sees met = inr (u, sees, subst (λ ms. Meets s page row key u ms r w) (sym (ap (λ m. body (walk s nodes 0) (record { key = key; page = n }) (placed s 0 key m)) is ∙ by node h.0 h.1)) met)
    where
      fit : (b : Bool) (e : E) (es : List E) → body (walk s nodes 0) (record { key = key; page = n }) (if b then Leaf (e ∷ es) else Broken rules.Order) ≡ (if b then map (Row n) (e ∷ es) else Fault n rules.Order ∷ [])
      fit true e es = refl
      fit false e es = refl

      by : (m : Node P E) → count ≡ length (rows_in m) → 0 < count → body (walk s nodes 0) (record { key = key; page = n }) (placed s 0 key m) ≡ leaf_shown s n key (rows_in m)
      by (Leaf []) c some = absurd (omega (arith, c, some))
      by (Leaf (e ∷ es)) c some = fit (s.fits key e) e es
      by (Inner cs) c some = absurd (omega (arith, c, some))
      by (Broken rule) c some = absurd (omega (arith, c, some))

  some_same : (a b : Child P) → Some a ≡ Some b → a ≡ b
  some_same a b h = cc

  inner_body : (below : ℕ) (c : Child P) (m : Node P E) → slice_get (children_in m) 0 ≡ Some c
      → body (walk s nodes (suc below)) (record { key = key; page = n }) (placed s (suc below) key m) ≡ Key c.page key ∷ (page_shown s nodes below c.page key ++ others_shown s nodes below (children_in m))
  inner_body below c (Leaf es) at = cc
  inner_body below c (Inner []) at = cc
  inner_body below c (Inner (d ∷ ds)) at =
      ap (λ ms. ms ++ flat_map (walk s nodes (suc below)) ds) (walk_is s nodes below (record { key = key; page = d.page }))
      ∙ ap (λ (t : Child P). Key t.page key ∷ (page_shown s nodes below t.page key ++ flat_map (walk s nodes (suc below)) ds)) (some_same d c at)
  inner_body below c (Broken rule) at = cc

  inner_shown : (below : ℕ) (c : Child P) → slice_get (children_in node) 0 ≡ Some c → page_shown s nodes (suc below) n key ≡ Page n ∷ Key c.page key ∷ (page_shown s nodes below c.page key ++ others_shown s nodes below (children_in node))
  inner_shown below c at = ap (λ m. Page n ∷ body (walk s nodes (suc below)) (record { key = key; page = n }) (placed s (suc below) key m)) is ∙ ap (λ ms. Page n ∷ ms) (inner_body below c node at)

  -- an inner page whose first child's part ends the walk
  pub inner_stops : IsOrder s → (above below : ℕ) (c : Child P) (e : TreeError) (w : V) → above ≡ suc below → slice_get (children_in node) 0 ≡ Some c → page v n u
      → Meets s page row key u (page_shown s nodes below c.page key) (Err e) w → Meets s page row key v (page_shown s nodes above n key) (Err e) w
  inner_stops o above below c e w up at sees h = subst (λ k. Meets s page row key v (page_shown s nodes k n key) (Err e) w) (sym up)
      (subst (λ ms. Meets s page row key v ms (Err e) w) (sym (inner_shown below c at))
      (inr (u, sees, inl (o.refl_le key, stopped s page row key u (page_shown s nodes below c.page key) (others_shown s nodes below (children_in node)) e w h))))

  -- and one whose other children are met behind it
  pub inner_goes : IsOrder s → (above below : ℕ) (c : Child P) (m : P) (x : V) (r : Result P TreeError) (w : V) → above ≡ suc below → slice_get (children_in node) 0 ≡ Some c → page v n u
      → Meets s page row key u (page_shown s nodes below c.page key) (Ok m) x → Meets s page row m x (others_shown s nodes below (children_in node)) r w → Meets s page row key v (page_shown s nodes above n key) r w
  inner_goes o above below c m x r w up at sees h k = subst (λ l. Meets s page row key v (page_shown s nodes l n key) r w) (sym up)
      (subst (λ ms. Meets s page row key v ms r w) (sym (inner_shown below c at))
      (inr (u, sees, inl (o.refl_le key, joined s page row key u (page_shown s nodes below c.page key) (others_shown s nodes below (children_in node)) m x r w h k))))
