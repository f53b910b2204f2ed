-- Filled levels: parts of them, and parts that stay.
use Rattle.std.proofs.Common.{◌≡◌, ◌≤◌, ◌<◌, inl, inr, refl, sym, ap, ◌∙◌, subst, ℕ, zero, suc, Bool, true, false, List, [], ◌∷◌, ◌++◌, map, Option, Some, None, Ok, append_assoc, arith}
use Rattle.std.specs.List.{flat_map}
use Rattle.std.proofs.lemmas.Bool.{cases_lt}
use Rattle.std.proofs.lemmas.List.{append-nil}
use Rattle.std.proofs.lemmas.List.Concat.{flat_map-append}
use Rattle.jfs_tree.specs.Edit.{IsCons}
use Rattle.jfs_tree.specs.Walk.{Child, Node, Leaf, Inner, Broken, Page, Key, Marks, Scale, Rises, IsOrder, times, placed, under, body, walk}
use Rattle.jfs_tree.specs.Spells.{no_page, with_root, spells, footprint}
use Rattle.jfs_tree.specs.Levels.{InLine, IsFilledTo, HoldsLeast, entry_count, pages_below, level, IsShort}
use Rattle.jfs_tree.proofs.Frame.{Agree, agree_left, agree_right, reads_itself}
use Rattle.jfs_tree.proofs.Rising.{rises_cut, rises_join, rises_lower}
use Rattle.jfs_tree.proofs.Spelled.{stands}
use Rattle.jfs_tree.proofs.Tops.{root_else, page_or, unfooted}

-- ---- pages side by side

-- a page that isn't the last one is held to more
abbrev Weakens : (Bool → ℕ → Type 0) → Type 0
Weakens holds = (last : Bool) (n : ℕ) → holds false n → holds last n

line_weaker : (holds : Bool → ℕ → Type 0) → Weakens holds → (last : Bool) (ns : List ℕ) → InLine holds false ns → InLine holds last ns
line_weaker holds w last [] h = tt
line_weaker holds w last (n ∷ []) h = w last n h
line_weaker holds w last (n ∷ m ∷ ns) h = (h.0, line_weaker holds w last (m ∷ ns) h.1)

pub line_join : (holds : Bool → ℕ → Type 0) → Weakens holds → (last : Bool) (a b : List ℕ) → InLine holds false a → InLine holds last b → InLine holds last (a ++ b)
line_join holds w last [] b h i = i
line_join holds w last (n ∷ []) [] h i = w last n h
line_join holds w last (n ∷ []) (m ∷ ns) h i = (h, i)
line_join holds w last (n ∷ m ∷ ns) b h i = (h.0, line_join holds w last (m ∷ ns) b h.1 i)

-- what stands before others isn't last
pub line_front : (holds : Bool → ℕ → Type 0) (last : Bool) (a : List ℕ) (n : ℕ) (b : List ℕ) → InLine holds last (a ++ n ∷ b) → InLine holds false a × InLine holds last (n ∷ b)
line_front holds last [] n b h = (tt, h)
line_front holds last (m ∷ []) n b h = (h.0, h.1)
line_front holds last (m ∷ k ∷ a) n b h = let t = line_front holds last (k ∷ a) n b h.1 in ((h.0, t.0), t.1)

line_first : (holds : Bool → ℕ → Type 0) → Weakens holds → (n : ℕ) (b : List ℕ) → InLine holds true (n ∷ b) → holds true n
line_first holds w n [] h = h
line_first holds w n (m ∷ b) h = w true n h.0

-- ---- a page that isn't the last one is filled to its end

module _ (least : ℕ) where
  pub filled_weaker : {P E : Type 0} (nodes : ℕ → Node P E) (depth : ℕ) → Weakens (IsFilledTo least nodes depth)
  unfolding IsFilledTo
  filled_weaker nodes zero last n h = tt
  filled_weaker nodes (suc depth) last n h = ((λ e. h.0 refl), line_weaker (IsFilledTo least nodes depth) (filled_weaker nodes depth) last (pages_below (nodes n)) h.1)

  -- a line of pages is cut before one
  pub line_parts : {P E : Type 0} (nodes : ℕ → Node P E) (depth : ℕ) (a : List ℕ) (n : ℕ) (b : List ℕ) → InLine (IsFilledTo least nodes depth) true (a ++ n ∷ b) → InLine (IsFilledTo least nodes depth) false a × IsFilledTo least nodes depth true n
  line_parts nodes depth a n b h = let t = line_front (IsFilledTo least nodes depth) true a n b h in (t.0, line_first (IsFilledTo least nodes depth) (filled_weaker nodes depth) n b t.1)

  pub line_both : {P E : Type 0} (nodes : ℕ → Node P E) (depth : ℕ) (last : Bool) (a b : List ℕ) → InLine (IsFilledTo least nodes depth) false a → InLine (IsFilledTo least nodes depth) last b → InLine (IsFilledTo least nodes depth) last (a ++ b)
  line_both nodes depth last a b = line_join (IsFilledTo least nodes depth) (filled_weaker nodes depth) last a b

-- ---- pages that read as before

abbrev pub numbers : {P : Type 0} → List (Child P) → List ℕ
numbers {P} cs = map (λ (c : Child P). c.page) cs

pub numbers_under : {P : Type 0} (key : P) (cs : List (Child P)) → numbers (under key cs) ≡ numbers cs
numbers_under key [] = refl
numbers_under key (c ∷ cs) = refl

module _ {P E : Type 0} (least : ℕ) (s : Scale P E) (o : IsOrder s) (old new : ℕ → Node P E) where
  abbrev Stays : (Child P → Marks P E) → ℕ → Type 0
  Stays f depth = (c : Child P) (low : P) (high : Option P) (last : Bool) → Rises s low (f c) high → Agree old new (f c) → IsFilledTo least old depth last c.page → IsFilledTo least new depth last c.page

  line_stays : (f : Child P → Marks P E) (depth : ℕ) → Stays f depth → (cs : List (Child P)) (low : P) (high : Option P) (last : Bool) → Rises s low (flat_map f cs) high → Agree old new (flat_map f cs)
      → InLine (IsFilledTo least old depth) last (numbers cs) → InLine (IsFilledTo least new depth) last (numbers cs)
  line_stays f depth h [] low high last r agree line = tt
  line_stays f depth h (c ∷ []) low high last r agree line = let t = rises_cut s o low (f c) [] high r in h c low (Some t.0) last t.1 (agree_left old new (f c) [] agree) line
  line_stays f depth h (c ∷ d ∷ cs) low high last r agree line =
      let t = rises_cut s o low (f c) (flat_map f (d ∷ cs)) high r in
      (h c low (Some t.0) false t.1 (agree_left old new (f c) (flat_map f (d ∷ cs)) agree) line.0, line_stays f depth h (d ∷ cs) t.0 high last t.2 (agree_right old new (f c) (flat_map f (d ∷ cs)) agree) line.1)

  node_stays : (f : Child P → Marks P E) (depth : ℕ) → Stays f depth → (below : ℕ) (c : Child P) (node : Node P E) (low : P) (high : Option P) (last : Bool) → Rises s low (body f c (placed s below c.key node)) high
      → Agree old new (body f c (placed s below c.key node)) → InLine (IsFilledTo least old depth) last (pages_below node) → InLine (IsFilledTo least new depth) last (pages_below node)
  node_stays f depth h below c (Leaf es) low high last r agree line = tt
  node_stays f depth h below c (Broken rule) low high last r agree line = tt
  node_stays f depth h zero c (Inner cs) low high last r agree line = absurd r
  node_stays f depth h (suc below) c (Inner []) low high last r agree line = tt
  node_stays f depth h (suc below) c (Inner (d ∷ ds)) low high last r agree line = line_stays f depth h (under c.key (d ∷ ds)) low high last r agree line

  pub filled_stays : (levels depth : ℕ) → Stays (walk s old levels) depth
  unfolding IsFilledTo walk
  filled_stays levels zero c low high last r agree h = tt
  filled_stays zero (suc depth) c low high last r agree h = absurd r
  filled_stays (suc below) (suc depth) c low high last r agree h =
      let ms = body (walk s old below) c (placed s below c.key (old c.page)) in
      let same = agree c.page (reads_itself c.page ms) in (
        (λ e. subst (λ (node : Node P E). least ≤ entry_count node) (sym same) (h.0 e)),
        subst (λ (node : Node P E). InLine (IsFilledTo least new depth) last (pages_below node)) (sym same)
            (node_stays (walk s old below) depth (filled_stays below depth) below c (old c.page) c.key high last r.1 (agree_right old new (Key c.page c.key ∷ Page c.page ∷ []) ms agree) h.1),
      )

  -- the pages below a page
  pub below_stays : (below depth : ℕ) (c : Child P) (node : Node P E) (low : P) (high : Option P) (last : Bool) → Rises s low (body (walk s old below) c (placed s below c.key node)) high
      → Agree old new (body (walk s old below) c (placed s below c.key node)) → InLine (IsFilledTo least old depth) last (pages_below node) → InLine (IsFilledTo least new depth) last (pages_below node)
  below_stays below depth c node low high last r agree line = node_stays (walk s old below) depth (filled_stays below depth) below c node low high last r agree line

  pub children_stay : (levels depth : ℕ) (cs : List (Child P)) (low : P) (high : Option P) (last : Bool) → Rises s low (flat_map (walk s old levels) cs) high → Agree old new (flat_map (walk s old levels) cs)
      → InLine (IsFilledTo least old depth) last (numbers cs) → InLine (IsFilledTo least new depth) last (numbers cs)
  children_stay levels depth cs low high last r agree line = line_stays (walk s old levels) depth (filled_stays levels depth) cs low high last r agree line

-- ---- filled levels have no thin page

module _ (least : ℕ) where
  level_filled : {P E : Type 0} (nodes : ℕ → Node P E) (depth : ℕ) (last : Bool) (ns : List ℕ) → InLine (IsFilledTo least nodes (suc depth)) last ns → InLine (IsFilledTo least nodes depth) last (flat_map (λ n. pages_below (nodes n)) ns)
  unfolding IsFilledTo
  level_filled nodes depth last [] h = tt
  level_filled nodes depth last (n ∷ []) h = subst (InLine (IsFilledTo least nodes depth) last) (sym (append-nil (pages_below (nodes n)))) h.1
  level_filled nodes depth last (n ∷ m ∷ ns) h = line_both least nodes depth last (pages_below (nodes n)) (flat_map (λ k. pages_below (nodes k)) (m ∷ ns)) h.0.1 (level_filled nodes depth last (m ∷ ns) h.1)

  levels_filled : {P E : Type 0} (nodes : ℕ → Node P E) → ((depth : ℕ) → IsFilledTo least nodes depth true no_page) → (depth more : ℕ) → InLine (IsFilledTo least nodes more) true (level nodes depth)
  unfolding level
  levels_filled nodes filled zero more = filled more
  levels_filled nodes filled (suc depth) more = level_filled nodes more true (level nodes depth) (levels_filled nodes filled depth (suc more))

  pub filled_not_thin : {P E : Type 0} (nodes : ℕ → Node P E) (page : ℕ) → ((depth : ℕ) → IsFilledTo least nodes depth true no_page) → IsShort least nodes page → ⊥
  unfolding IsFilledTo
  filled_not_thin nodes page filled thin =
      let line = subst (InLine (IsFilledTo least nodes 1) true) thin.stands (levels_filled nodes filled thin.depth 1) in
      let h = (line_front (IsFilledTo least nodes 1) true thin.front page (thin.next ∷ thin.back) line).1.0.0 refl in
      let few = thin.few in omega (arith, h, few)

-- ---- levels without a thin page are filled

-- a page that isn't the last one has enough entries
abbrev Thick : {P E : Type 0} → ℕ → (ℕ → Node P E) → Bool → ℕ → Type 0
Thick least nodes last n = last ≡ false → least ≤ entry_count (nodes n)

line_always : (holds : Bool → ℕ → Type 0) → ((last : Bool) (n : ℕ) → holds last n) → (last : Bool) (ns : List ℕ) → InLine holds last ns
line_always holds h last [] = tt
line_always holds h last (n ∷ []) = h last n
line_always holds h last (n ∷ m ∷ ns) = (h false n, line_always holds h last (m ∷ ns))

abbrev kids_in : {P E : Type 0} → Node P E → List (Child P)
kids_in (Leaf es) = []
kids_in (Inner cs) = cs
kids_in (Broken rule) = []

-- the children of pages, as a walk reads them
next_line : {P E : Type 0} → (ℕ → Node P E) → List (Child P) → List (Child P)
next_line nodes [] = []
next_line nodes (c ∷ cs) = under c.key (kids_in (nodes c.page)) ++ next_line nodes cs

pub numbers-append : {P : Type 0} (a b : List (Child P)) → numbers (a ++ b) ≡ numbers a ++ numbers b
numbers-append [] b = refl
numbers-append (c ∷ a) b = ap (λ ns. c.page ∷ ns) (numbers-append a b)

kids_are : {P E : Type 0} (key : P) (node : Node P E) → numbers (under key (kids_in node)) ≡ pages_below node
kids_are key (Leaf es) = refl
kids_are key (Inner cs) = numbers_under key cs
kids_are key (Broken rule) = refl

next_numbers : {P E : Type 0} (nodes : ℕ → Node P E) (cs : List (Child P)) → numbers (next_line nodes cs) ≡ flat_map (λ n. pages_below (nodes n)) (numbers cs)
unfolding next_line
next_numbers nodes [] = refl
next_numbers nodes (c ∷ cs) = numbers-append (under c.key (kids_in (nodes c.page))) (next_line nodes cs) ∙ ap (λ ns. ns ++ numbers (next_line nodes cs)) (kids_are c.key (nodes c.page)) ∙ ap (λ ns. pages_below (nodes c.page) ++ ns) (next_numbers nodes cs)

-- each of these pages has children
EachHas : {P E : Type 0} → (ℕ → Node P E) → List (Child P) → Type 0
EachHas nodes [] = Unit {0}
EachHas nodes (c ∷ cs) = IsCons (kids_in (nodes c.page)) × EachHas nodes cs

module _ {P E : Type 0} (least : ℕ) (s : Scale P E) (o : IsOrder s) (nodes : ℕ → Node P E) where
  inner_rises : (f : Child P → Marks P E) (below : ℕ) (c : Child P) (node : Node P E) (low : P) (high : Option P) → Rises s low (body f c (placed s (suc below) c.key node)) high → IsCons (kids_in node) × Rises s low (flat_map f (under c.key (kids_in node))) high
  inner_rises f below c (Leaf es) low high r = absurd r
  inner_rises f below c (Inner []) low high r = absurd r
  inner_rises f below c (Inner (d ∷ ds)) low high r = (tt, r)
  inner_rises f below c (Broken rule) low high r = absurd r

  -- what stands below pages that rise rises, and each of them has children
  next_rises : (below : ℕ) (cs : List (Child P)) (low : P) (high : Option P) → Rises s low (flat_map (walk s nodes (suc (suc below))) cs) high
      → EachHas nodes cs × Rises s low (flat_map (walk s nodes (suc below)) (next_line nodes cs)) high
  unfolding walk next_line EachHas
  next_rises below [] low high r = (tt, r)
  next_rises below (c ∷ cs) low high r =
      let f = walk s nodes (suc below) in
      let t = rises_cut s o low (walk s nodes (suc (suc below)) c) (flat_map (walk s nodes (suc (suc below))) cs) high r in
      let here = inner_rises f below c (nodes c.page) c.key (Some t.0) t.1.1 in
      let rest = next_rises below cs t.0 high t.2 in (
        (here.0, rest.0),
        subst (λ ms. Rises s low ms high) (sym (flat_map-append f (under c.key (kids_in (nodes c.page))) (next_line nodes cs)))
            (rises_join s o low t.0 (flat_map f (under c.key (kids_in (nodes c.page)))) (flat_map f (next_line nodes cs)) high (rises_lower s o low c.key (flat_map f (under c.key (kids_in (nodes c.page)))) (Some t.0) t.1.0 here.1) rest.1),
      )

  leaf_none : (f : Child P → Marks P E) (c : Child P) (node : Node P E) (low : P) (high : Option P) → Rises s low (body f c (placed s zero c.key node)) high → pages_below node ≡ []
  leaf_none f c (Leaf es) low high r = refl
  leaf_none f c (Inner cs) low high r = absurd r
  leaf_none f c (Broken rule) low high r = absurd r

  -- leaves
  leaves_filled : (depth : ℕ) (last : Bool) (cs : List (Child P)) (low : P) (high : Option P) → Rises s low (flat_map (walk s nodes 1) cs) high → InLine (Thick least nodes) last (numbers cs) → InLine (IsFilledTo least nodes (suc depth)) last (numbers cs)
  unfolding walk IsFilledTo
  leaves_filled depth last [] low high r line = tt
  leaves_filled depth last (c ∷ []) low high r line =
      let t = rises_cut s o low (walk s nodes 1 c) [] high r in
      (line, subst (InLine (IsFilledTo least nodes depth) last) (sym (leaf_none (walk s nodes zero) c (nodes c.page) c.key (Some t.0) t.1.1)) tt)
  leaves_filled depth last (c ∷ d ∷ cs) low high r line =
      let t = rises_cut s o low (walk s nodes 1 c) (flat_map (walk s nodes 1) (d ∷ cs)) high r in
      ((line.0, subst (InLine (IsFilledTo least nodes depth) false) (sym (leaf_none (walk s nodes zero) c (nodes c.page) c.key (Some t.0) t.1.1)) tt), leaves_filled depth last (d ∷ cs) t.0 high t.2 line.1)

  -- inner pages, whose children are filled
  first_of : (a b : List ℕ) (depth : ℕ) (last : Bool) → (n : ℕ) (ns : List ℕ) → b ≡ n ∷ ns → InLine (IsFilledTo least nodes depth) last (a ++ b) → InLine (IsFilledTo least nodes depth) false a × InLine (IsFilledTo least nodes depth) last b
  first_of a b depth last n ns is line = let t = line_front (IsFilledTo least nodes depth) last a n ns (subst (λ xs. InLine (IsFilledTo least nodes depth) last (a ++ xs)) is line) in (t.0, subst (InLine (IsFilledTo least nodes depth) last) (sym is) t.1)

  some_below : (node : Node P E) → IsCons (kids_in node) → (n : ℕ) × (ns : List ℕ) × (pages_below node ≡ n ∷ ns)
  some_below (Leaf es) h = absurd h
  some_below (Inner []) h = absurd h
  some_below (Inner (c ∷ cs)) h = (c.page, numbers cs, refl)
  some_below (Broken rule) h = absurd h

  inners_filled : (depth : ℕ) (last : Bool) (cs : List (Child P)) → EachHas nodes cs → InLine (Thick least nodes) last (numbers cs) → InLine (IsFilledTo least nodes depth) last (flat_map (λ n. pages_below (nodes n)) (numbers cs))
      → InLine (IsFilledTo least nodes (suc depth)) last (numbers cs)
  unfolding IsFilledTo EachHas
  inners_filled depth last [] has line all = tt
  inners_filled depth last (c ∷ []) has line all = (line, subst (InLine (IsFilledTo least nodes depth) last) (append-nil (pages_below (nodes c.page))) all)
  inners_filled depth last (c ∷ d ∷ cs) has line all =
      let pb = λ (n : ℕ). pages_below (nodes n) in
      let some = some_below (nodes d.page) has.1.0 in
      let t = first_of (pb c.page) (pb d.page ++ flat_map pb (numbers cs)) depth last some.0 (some.1 ++ flat_map pb (numbers cs)) (ap (λ ns. ns ++ flat_map pb (numbers cs)) some.2) all in
      ((line.0, t.0), inners_filled depth last (d ∷ cs) has.1 line.1 t.1)

  line_filled : (depth below at : ℕ) (cs : List (Child P)) (low : P) (high : Option P) → Rises s low (flat_map (walk s nodes below) cs) high → level nodes at ≡ numbers cs → ((d : ℕ) → InLine (Thick least nodes) true (level nodes d))
      → InLine (IsFilledTo least nodes depth) true (numbers cs)
  unfolding level IsFilledTo walk
  line_filled zero below at cs low high r is thick = line_always (IsFilledTo least nodes zero) (λ last n. tt) true (numbers cs)
  line_filled (suc depth) zero at [] low high r is thick = tt
  line_filled (suc depth) zero at (c ∷ cs) low high r is thick = absurd r
  line_filled (suc depth) (suc zero) at cs low high r is thick = leaves_filled depth true cs low high r (subst (InLine (Thick least nodes) true) is (thick at))
  line_filled (suc depth) (suc (suc below)) at cs low high r is thick =
      let t = next_rises below cs low high r in
      let next = ap (flat_map (λ n. pages_below (nodes n))) is ∙ sym (next_numbers nodes cs) in
      inners_filled depth true cs t.0 (subst (InLine (Thick least nodes) true) is (thick at))
      (subst (InLine (IsFilledTo least nodes depth) true) (next_numbers nodes cs) (line_filled depth (suc below) (suc at) (next_line nodes cs) low high t.1 next thick))

module _ (least : ℕ) where
  -- a line of pages none of which but the last has too few entries
  thick_line : {P E : Type 0} (nodes : ℕ → Node P E) (depth : ℕ) → HoldsLeast least nodes → (front ns : List ℕ) → level nodes depth ≡ front ++ ns → InLine (Thick least nodes) true ns
  thick_line nodes depth none front [] is = tt
  thick_line nodes depth none front (n ∷ []) is = λ e. absurd cc
  thick_line nodes depth none front (n ∷ m ∷ ns) is = (
    (λ e. elim (cases_lt (entry_count (nodes n)) least) [
      | inl few ↦ absurd (none n (record { depth = depth; front = front; next = m; back = ns; stands = is; few = few }))
      | inr enough ↦ enough
    ]),
    thick_line nodes depth none (front ++ n ∷ []) (m ∷ ns) (is ∙ sym (append_assoc front (n ∷ []) (m ∷ ns))),
  )

  -- In a tree that rises, levels without a thin page are filled.
  pub not_thin_filled : {P E : Type 0} (s : Scale P E) → IsOrder s → (nodes : ℕ → Node P E) (levels : ℕ) (key low : P) (high : Option P) → Rises s low (walk s nodes levels (record { key = key; page = no_page })) high
      → HoldsLeast least nodes → (depth : ℕ) → IsFilledTo least nodes depth true no_page
  unfolding level
  not_thin_filled {P} s o nodes levels key low high r none depth =
      let c : Child P = record { key = key; page = no_page } in
      line_filled least s o nodes depth levels 0 (c ∷ []) low high (subst (λ ms. Rises s low ms high) (sym (append-nil (walk s nodes levels c))) r) refl (λ d. thick_line nodes d none [] (level nodes d) refl)

  -- pages that are the same on the footprint of a tree leave its levels filled
  pub filled_frame : {P E : Type 0} (s : Scale P E) → IsOrder s → (old new : ℕ → Node P E) (levels : ℕ) (key low : P) (high : Option P) → Rises s low (walk s old levels (record { key = key; page = no_page })) high
      → Agree old new (walk s old levels (record { key = key; page = no_page })) → ((depth : ℕ) → IsFilledTo least old depth true no_page) → (depth : ℕ) → IsFilledTo least new depth true no_page
  filled_frame {P} s o old new levels key low high r agree filled depth = let c : Child P = record { key = key; page = no_page } in filled_stays least s o old new levels depth c low high true r agree (filled depth)

  -- a page under which the levels were and are filled
  pub page_filled : {P E : Type 0} (old new : ℕ → Node P E) (page : ℕ) (node : Node P E) → ((depth : ℕ) → InLine (IsFilledTo least old depth) true (pages_below (old page)) → InLine (IsFilledTo least new depth) true (pages_below node)) → new page ≡ node
      → (depth : ℕ) → IsFilledTo least old depth true page → IsFilledTo least new depth true page
  unfolding IsFilledTo
  page_filled old new page node h is zero filled = tt
  page_filled {P} {E} old new page node h is (suc depth) filled = ((λ e. absurd cc), subst (λ (b : Node P E). InLine (IsFilledTo least new depth) true (pages_below b)) (sym is) (h depth filled.1))

  -- ---- whole trees

  empty_filled : {P E : Type 0} (old new : ℕ → Node P E) (root : Node P E) → root ≡ Leaf [] → ((depth : ℕ) → IsFilledTo least (with_root root old) depth true no_page) → (depth : ℕ) → IsFilledTo least (with_root root new) depth true no_page
  empty_filled {P} {E} old new root is filled depth =
      page_filled (with_root root old) (with_root root new) no_page root (λ d line. subst (λ (b : Node P E). InLine (IsFilledTo least (with_root root new) d) true (pages_below b)) (sym is) tt) refl depth (filled depth)

  -- a tree whose pages are the same
  pub filled_same : {P E : Type 0} (s : Scale P E) → IsOrder s → (old new : ℕ → Node P E) (root : Node P E) (es : List E) → spells s old root ≡ Ok es → ((n : ℕ) → 0 < footprint s old root n → new n ≡ old n)
      → ((depth : ℕ) → IsFilledTo least (with_root root old) depth true no_page) → (depth : ℕ) → IsFilledTo least (with_root root new) depth true no_page
  filled_same {P} {E} s o old new root es spelled same filled = elim (stands s old root es spelled) [
    | inl e ↦ empty_filled old new root e.0 filled
    | inr st ↦ filled_frame s o (with_root root old) (with_root root new) st.levels s.least s.least None st.rises
        (λ n p. elim (page_or n) [
          | inl e ↦ subst (λ m. with_root root new m ≡ with_root root old m) (sym e) refl
          | inr ne ↦ root_else root new n ne ∙ same n (let f = unfooted s old root n ne in let t = ap (times n) st.is in omega (arith, f, t, p)) ∙ sym (root_else root old n ne)
        ]) filled
  ]

  empty_tree : {P E : Type 0} (root : Node P E) (pages : ℕ → Node P E) → root ≡ Leaf [] → (depth : ℕ) → IsFilledTo least (with_root root pages) depth true no_page
  unfolding IsFilledTo
  empty_tree root pages is zero = tt
  empty_tree {P} {E} root pages is (suc depth) = ((λ e. absurd cc), subst (λ (b : Node P E). InLine (IsFilledTo least (with_root root pages) depth) true (pages_below b)) (sym is) tt)

  -- a tree that spells a list and has no thin page
  pub filled_of : {P E : Type 0} (s : Scale P E) → IsOrder s → (pages : ℕ → Node P E) (root : Node P E) (es : List E) → spells s pages root ≡ Ok es → HoldsLeast least (with_root root pages)
      → (depth : ℕ) → IsFilledTo least (with_root root pages) depth true no_page
  filled_of {P} {E} s o pages root es spelled none = elim (stands s pages root es spelled) [
    | inl e ↦ empty_tree root pages e.0
    | inr st ↦ not_thin_filled s o (with_root root pages) st.levels s.least s.least None st.rises none
  ]

  -- a root without entries
  pub empty_thin : {P E : Type 0} (root : Node P E) (pages : ℕ → Node P E) → root ≡ Leaf [] → HoldsLeast least (with_root root pages)
  empty_thin root pages is page = filled_not_thin least (with_root root pages) page (empty_tree root pages is)
