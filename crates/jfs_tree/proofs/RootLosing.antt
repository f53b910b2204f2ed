-- A root whose tree loses an entry.
use Rattle.std.proofs.Common.{◌≡◌, ◌≤◌, ◌<◌, ◌⊎◌, inl, inr, refl, sym, ap, ◌∙◌, subst, ℕ, zero, suc, ◌+◌, Bool, true, false, List, [], ◌∷◌, ◌++◌, length, Option, None, Ok, arith}
use Rattle.std.specs.List.{flat_map}
use Rattle.jfs_tree.specs.Walk.{Child, Node, Leaf, Inner, Page, Key, Marks, Scale, Rises, IsOrder, rows_of, times, under, walk}
use Rattle.jfs_tree.specs.Spells.{no_page, with_root, top, tree_of, spells}
use Rattle.jfs_tree.specs.Edit.{IsCons, count_in, own}
use Rattle.jfs_tree.specs.Shrink.{IsLoose, TakenOut, Lost, kept_of, Shrank}
use Rattle.jfs_tree.specs.RootLoss.{Removes}
use Rattle.jfs_tree.proofs.Steps.{under_parts, times_inner}
use Rattle.jfs_tree.proofs.Between.{append_nil}
use Rattle.jfs_tree.proofs.Leaves.{times_leaf, leaf_fits, cons_rows}
use Rattle.jfs_tree.proofs.Found.{leaf_rows}
use Rattle.jfs_tree.proofs.Once.{each_once}
use Rattle.jfs_tree.proofs.Spelled.{tree_rises, spelled}
use Rattle.jfs_tree.proofs.Tops.{off_root, root_else, page_or, footed, off_foot}
use Rattle.jfs_tree.proofs.RootSteps.{same_root}
use Rattle.jfs_tree.proofs.RootCalls.{cons_middle, off_once, part_off}
use Rattle.jfs_tree.proofs.Shrinking.{inner_lost, walk_children, leaf_kept}
use Rattle.jfs_tree.proofs.Shrank.{reads_own, own_is, place_gone}

-- ---- what a whole tree is afterwards

-- the tree shows these marks now, with the entry less
removes_by : {P E : Type 0} (s : Scale P E) (e : E) (es : List E) (old new : ℕ → Node P E) (root after : Node P E) (ms ns : Marks P E) (freed : List ℕ)
    → tree_of s old root ≡ ms → rows_of ms ≡ es → times no_page ms ≤ 1
    → tree_of s new after ≡ ns → spells s new after ≡ Ok (rows_of ns) → 0 < times no_page ns
    → TakenOut e (rows_of ms) (rows_of ns) → ((n : ℕ) → times n ns + count_in n freed ≡ times n ms + count_in n [])
    → ((n : ℕ) → (n ≡ no_page) ⊎ (times n ms ≡ 0) → new n ≡ old n) → Removes s e es old new root after freed
removes_by s e es old new root after ms ns freed was rows most is spelt some taken pages keeps = record {
  list = rows_of ns;
  spelled = spelt;
  gone = subst (λ r. TakenOut e r (rows_of ns)) rows taken;
  pages = λ n. let h = footed s old new root after ms ns [] freed was is (let p = pages no_page in omega (arith, p, most, some)) pages n in omega (arith, h);
  keeps = λ n h. keeps n (off_foot s old root ms n was h);
}

module _ {P E : Type 0} (s : Scale P E) (o : IsOrder s) (e : E) (es : List E) (old new : ℕ → Node P E) (root after : Node P E) (ms : Marks P E) (freed : List ℕ)
    (was : tree_of s old root ≡ ms) (rows : rows_of ms ≡ es) (most : times no_page ms ≤ 1) (keeps : (n : ℕ) → (n ≡ no_page) ⊎ (times n ms ≡ 0) → new n ≡ old n) where
  -- there are entries left
  pub removes_walk : (lower : ℕ) → suc lower ≤ 8 → Lost s e s.least ms (walk s (with_root after new) (suc lower) (top s)) None [] freed → Removes s e es old new root after freed
  removes_walk lower deep lost =
      removes_by s e es old new root after ms (walk s (with_root after new) (suc lower) (top s)) freed was rows most
      (tree_rises s o new after (suc lower) deep lost.rises) (spelled s o new after (suc lower) deep lost.rises) (reads_own s (with_root after new) lower (top s)) lost.rows lost.pages keeps

  -- the root is a leaf without entries
  pub removes_last : after ≡ Leaf [] → TakenOut e (rows_of ms) [] → ((n : ℕ) → times {P = P} {E = E} n (Page no_page ∷ []) + count_in n freed ≡ times n ms + count_in n []) → Removes s e es old new root after freed
  unfolding spells
  removes_last is taken pages =
      removes_by s e es old new root after ms (Page no_page ∷ []) freed was rows most
      (ap (tree_of s new) is) (ap (spells s new) is) (omega arith) taken pages keeps

-- ---- a root whose child lost the entry

module _ {P E : Type 0} (s : Scale P E) (o : IsOrder s) (e : E) (old mid : ℕ → Node P E) (root : Node P E) (lower child : ℕ) (front : List (Child P)) (t : Child P) (back : List (Child P)) (kept : Bool) (freed : List ℕ)
    (was : root ≡ Inner (front ++ t ∷ back)) (to : t.page ≡ child) (g : Shrank s e old mid (suc lower) child kept [] freed)
    (r : Rises s s.least (walk s (with_root root old) (suc (suc lower)) (top s)) None) where
  abbrev before : ℕ → Node P E
  before = with_root root old

  abbrev middle : ℕ → Node P E
  middle = with_root root mid

  abbrev u : Child P
  u = own s.least front t

  once : (n : ℕ) → times n (walk s before (suc (suc lower)) (top s)) ≤ 1
  once n = each_once s o before (suc (suc lower)) (top s) s.least None r n

  -- the root isn't in the child's part
  off : times no_page (walk s before (suc lower) u) ≡ 0
  off = off_once (times no_page (walk s before (suc (suc lower)) (top s))) _ (times no_page (walk s before (suc lower) u)) _ (times_inner s before lower (top s) front t back no_page was) (once no_page)

  same : walk s old (suc lower) u ≡ walk s before (suc lower) u
  same = part_off s o root old lower front t back was r

  -- what the child lost, with the root among the pages
  child_lost : (low : P) (end : Option P) → Rises s low (walk s before (suc lower) u) end → ((n : ℕ) → times n (walk s before (suc lower) u) + count_in n [] ≤ 1)
      → Lost s e low (walk s before (suc lower) u) (flat_map (walk s middle (suc lower)) (kept_of kept u)) end [] freed
  child_lost low end rises one =
      let there = subst (λ (c : Child P). Rises s low (walk s old (suc lower) c) end → ((n : ℕ) → times n (walk s old (suc lower) c) + count_in n [] ≤ 1)
      → Lost s e low (walk s old (suc lower) c) (flat_map (walk s mid (suc lower)) (kept_of kept c)) end [] freed) (sym (own_is s.least front t child to)) (g.shrinks u.key low end) in
      let lost = there (subst (λ ms. Rises s low ms end) (sym same) rises) (λ n. let h = one n in let i = ap (times n) same in omega (arith, h, i)) in
      let none : times no_page (flat_map (walk s mid (suc lower)) (kept_of kept u)) ≡ 0 = let p = lost.pages no_page in let i = ap (times no_page) same in let z = off in omega (arith, p, i, z) in
      subst (λ ms. Lost s e low (walk s before (suc lower) u) ms end [] freed) (sym (off_root s mid middle (suc lower) (kept_of kept u) (λ n ne. root_else root mid n ne) none))
      (subst (λ ms. Lost s e low ms (flat_map (walk s mid (suc lower)) (kept_of kept u)) end [] freed) same lost)

  child_keeps : (n : ℕ) → times n (walk s before (suc lower) u) ≡ 0 → mid n ≡ old n
  child_keeps n none =
      g.keeps u.key n (subst (λ (c : Child P). times n (walk s old (suc lower) c) ≡ 0) (own_is s.least front t child to) (ap (times n) same ∙ none))

  middle_keeps : (n : ℕ) → times n (walk s before (suc lower) u) ≡ 0 → middle n ≡ before n
  middle_keeps n none = elim (page_or n) [
    | inl i ↦ same_root root mid old n i
    | inr ne ↦ root_else root mid n ne ∙ child_keeps n none ∙ sym (root_else root old n ne)
  ]

  -- no page outside the tree changed
  pub tree_keeps : (n : ℕ) → (n ≡ no_page) ⊎ (times n (walk s before (suc (suc lower)) (top s)) ≡ 0) → mid n ≡ old n
  tree_keeps n h = child_keeps n (elim h [
    | inl i ↦ subst (λ m. times m (walk s before (suc lower) u) ≡ 0) (sym i) off
    | inr z ↦ let i = times_inner s before lower (top s) front t back n was in omega (arith, i, z)
  ])

  -- the root's children then
  pub lost_root : (taken : Node P E) → Lost s e s.least (walk s before (suc (suc lower)) (top s))
      (Key no_page s.least ∷ Page no_page ∷ flat_map (walk s (with_root taken mid) (suc lower)) (under s.least front ++ (kept_of kept u ++ back))) None [] freed
  lost_root taken =
      inner_lost s o before middle (with_root taken mid) lower (top s) front t (kept_of kept u) back e [] freed s.least None was r
      (λ n. let h = once n in omega (arith, h)) child_lost middle_keeps (λ n ne. root_else taken mid n ne ∙ sym (root_else root mid n ne))

bare : {P : Type 0} (key : P) (front back : List (Child P)) → front ++ back ≡ [] → under key front ++ ([] ++ back) ≡ []
bare key [] [] h = refl
bare key [] (b ∷ bs) h = absurd (let l = ap length h in omega (arith, l))
bare key (f ∷ fs) back h = absurd (let l = ap length h in omega (arith, l))

-- The part below a root's child lost an entry that the root's tree has.
pub record Below {P E : Type 0} (s : Scale P E) (e : E) (es : List E) (old mid : ℕ → Node P E) (root : Node P E) (lower child : ℕ) (front : List (Child P)) (t : Child P) (back : List (Child P)) (kept : Bool) (freed : List ℕ) : Type 0 where
  pub is : root ≡ Inner (front ++ t ∷ back)
  pub to : t.page ≡ child
  pub shrank : Shrank s e old mid (suc lower) child kept [] freed
  pub deep : suc (suc lower) ≤ 8
  pub tree : tree_of s old root ≡ walk s (with_root root old) (suc (suc lower)) (top s)
  pub rises : Rises s s.least (walk s (with_root root old) (suc (suc lower)) (top s)) None
  pub rows : rows_of (walk s (with_root root old) (suc (suc lower)) (top s)) ≡ es

module _ {P E : Type 0} (s : Scale P E) (o : IsOrder s) (e : E) (es : List E) (old mid : ℕ → Node P E) (root after : Node P E) (lower child : ℕ) (front : List (Child P)) (t : Child P) (back : List (Child P)) (freed : List ℕ) where
  -- the child stays, and so does the root
  pub child_stays : Below s e es old mid root lower child front t back true freed → after ≡ root → Removes s e es old mid root after freed
  child_stays b same =
      let walked = walk_children s (with_root root mid) lower (top s) (front ++ t ∷ back) (front ++ t ∷ back) b.is (cons_middle front t back) refl
      ∙ ap (λ cs. Key no_page s.least ∷ Page no_page ∷ flat_map (walk s (with_root root mid) (suc lower)) cs) (under_parts s.least front t back) in
      let lost = lost_root s o e old mid root lower child front t back true freed b.is b.to b.shrank b.rises root in
      subst (λ a. Removes s e es old mid root a freed) (sym same)
      (removes_walk s o e es old mid root root (walk s (with_root root old) (suc (suc lower)) (top s)) freed b.tree b.rows
      (each_once s o (with_root root old) (suc (suc lower)) (top s) s.least None b.rises no_page)
      (tree_keeps s o e old mid root lower child front t back true freed b.is b.to b.shrank b.rises) (suc lower) b.deep
      (subst (λ ns. Lost s e s.least (walk s (with_root root old) (suc (suc lower)) (top s)) ns None [] freed) (sym walked) lost))

  -- the child goes, and others are left
  pub child_goes : IsLoose s → Below s e es old mid root lower child front t back false freed → (cs : List (Child P)) → after ≡ Inner cs → IsCons cs → ((key : P) → under key cs ≡ under key (front ++ back)) → Removes s e es old mid root after freed
  child_goes loose b cs is some same =
      let taken : Node P E = Inner cs in
      let walked = walk_children s (with_root taken mid) lower (top s) cs (front ++ back) refl some (same s.least) in
      let lost = lost_root s o e old mid root lower child front t back false freed b.is b.to b.shrank b.rises taken in
      let left = place_gone s o loose (with_root taken mid) (suc lower) no_page s.least (walk s (with_root root old) (suc (suc lower)) (top s)) e s.least None [] freed front back lost in
      subst (λ a. Removes s e es old mid root a freed) (sym is)
      (removes_walk s o e es old mid root taken (walk s (with_root root old) (suc (suc lower)) (top s)) freed b.tree b.rows
      (each_once s o (with_root root old) (suc (suc lower)) (top s) s.least None b.rises no_page)
      (tree_keeps s o e old mid root lower child front t back false freed b.is b.to b.shrank b.rises) (suc lower) b.deep
      (subst (λ ns. Lost s e s.least (walk s (with_root root old) (suc (suc lower)) (top s)) ns None [] freed) (sym walked) left))

  -- the last child goes
  pub last_goes : Below s e es old mid root lower child front t back false freed → front ++ back ≡ [] → after ≡ Leaf [] → Removes s e es old mid root after freed
  last_goes b none is =
      let taken : Node P E = Leaf [] in
      let lost = subst (λ cs. Lost s e s.least (walk s (with_root root old) (suc (suc lower)) (top s)) (Key no_page s.least ∷ Page no_page ∷ flat_map (walk s (with_root taken mid) (suc lower)) cs) None [] freed) (bare s.least front back none)
      (lost_root s o e old mid root lower child front t back false freed b.is b.to b.shrank b.rises taken) in
      removes_last s o e es old mid root after (walk s (with_root root old) (suc (suc lower)) (top s)) freed b.tree b.rows
      (each_once s o (with_root root old) (suc (suc lower)) (top s) s.least None b.rises no_page)
      (tree_keeps s o e old mid root lower child front t back false freed b.is b.to b.shrank b.rises) is lost.rows lost.pages

-- ---- a root that is a leaf

pub leaf_loses : {P E : Type 0} (s : Scale P E) → IsOrder s → IsLoose s → (e : E) (es rest : List E) (pages : ℕ → Node P E) (root after : Node P E) (left : List E)
    → root ≡ Leaf rest → tree_of s pages root ≡ walk s (with_root root pages) 1 (top s) → Rises s s.least (walk s (with_root root pages) 1 (top s)) None → rows_of (walk s (with_root root pages) 1 (top s)) ≡ es
    → TakenOut e rest left → after ≡ Leaf left → Removes s e es pages pages root after []
leaf_loses {P} {E} s o loose e es rest pages root after [] is tree rises rows taken then =
    let before : ℕ → Node P E = with_root root pages in
    let walked = cons_rows s before (top s) rest (leaf_fits s before (top s) rest s.least None is rises) is in
    removes_last s o e es pages pages root after (walk s before 1 (top s)) [] tree rows (each_once s o before 1 (top s) s.least None rises no_page) (λ n h. refl) then
    (subst (λ r. TakenOut e r []) (sym (leaf_rows s before (top s) rest s.least None is rises)) taken)
    (λ n. let w = ap (times n) walked in let t = times_leaf P n no_page rest in omega (arith, w, t))
leaf_loses {P} {E} s o loose e es rest pages root after (l ∷ ls) is tree rises rows taken then =
    let before : ℕ → Node P E = with_root root pages in
    let now : ℕ → Node P E = with_root after pages in
    let lost = leaf_kept s o loose before now (top s) taken.front e taken.back [] s.least None (is ∙ ap Leaf taken.before) (then ∙ ap Leaf taken.after) (subst IsCons taken.after tt) rises in
    removes_walk s o e es pages pages root after (walk s before 1 (top s)) [] tree rows (each_once s o before 1 (top s) s.least None rises no_page) (λ n h. refl) zero (omega arith)
    (subst (λ ns. Lost s e s.least (walk s before 1 (top s)) ns None [] []) (append_nil (walk s now 1 (top s))) lost)
