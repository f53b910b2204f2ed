-- A root that was to stand for a list, and what it stands for now.
use Rattle.std.proofs.Common.{◌≡◌, ◌≢◌, ◌≤◌, ◌<◌, ◌⊎◌, inl, inr, refl, sym, ap, ◌∙◌, subst, ℕ, zero, suc, ◌+◌, true, List, [], ◌∷◌, ◌++◌, ◌==◌, if◌then◌else◌, None, Ok, arith}
use Rattle.jfs_disk.specs.Image.{Image}
use Rattle.jfs_tree.specs.Walk.{Node, Inner, Marks, Scale, Rises, IsOrder, rows_of, times, placed, body, walk}
use Rattle.jfs_tree.specs.Levels.{InLine, IsFilledTo, pages_below}
use Rattle.jfs_tree.specs.Spells.{no_page, with_root, top, tree_of, footprint}
use Rattle.jfs_tree.specs.Edit.{count_in}
use Rattle.jfs_tree.specs.Form.{AllBelow, IsFront}
use Rattle.jfs_tree.specs.Root.{Settled}
use Rattle.jfs_tree.specs.Draft.{shown}
use Rattle.jfs_tree.specs.Call.{nodes, StaysTaken}
use Rattle.jfs_tree.specs.Becomes.{Becomes}
use Rattle.jfs_tree.specs.declared.draft.Drafted.{Drafted}
use Rattle.jfs_tree.proofs.Adding.{zero_walk}
use Rattle.jfs_tree.proofs.Filling.{below_stays, filled_frame}
use Rattle.jfs_tree.proofs.Frame.{Agree}
use Rattle.jfs_tree.proofs.RootSteps.{same_all}
use Rattle.jfs_tree.proofs.Roots.{root_moves}
use Rattle.jfs_tree.proofs.Spelled.{tree_rises, spelled}
use Rattle.jfs_tree.proofs.Tops.{count_below, footed, off_foot, root_else}

-- ---- filled levels

no_page_free : (q b l : ℕ) → b ≡ (if q == q then 1 else 0) + l → b ≡ 0 → ⊥
no_page_free q b l h i = grind arith

not_root : (n t f : ℕ) → ((if no_page == n then 1 else 0) + t) + f ≤ 1 → 0 < t → n ≢ no_page
not_root n t f h p e = grind arith

not_taken : (q n t r f l : ℕ) → (r + t) + f ≤ 1 → f ≡ (if q == n then 1 else 0) + l → 0 < t → n ≢ q
not_taken q n t r f l h e p i = grind arith

-- a root below which one page stands, which holds what was to stand at the root
moved_filled : {P E : Type 0} (least : ℕ) (nodes : ℕ → Node P E) (q : ℕ) (key : P) (taken after : Node P E) → nodes no_page ≡ after → after ≡ Inner (record { key = key; page = q } ∷ []) → nodes q ≡ taken
    → ((depth : ℕ) → InLine (IsFilledTo least nodes depth) true (pages_below taken)) → (depth : ℕ) → IsFilledTo least nodes depth true no_page
unfolding IsFilledTo
moved_filled least nodes q key taken after root is at line zero = tt
moved_filled {P} {E} least nodes q key taken after root is at line (suc zero) = ((λ e. absurd cc), subst (λ (n : Node P E). InLine (IsFilledTo least nodes 0) true (pages_below n)) (sym (root ∙ is)) tt)
moved_filled {P} {E} least nodes q key taken after root is at line (suc (suc depth)) = (
  (λ e. absurd cc),
  subst (λ (n : Node P E). InLine (IsFilledTo least nodes (suc depth)) true (pages_below n)) (sym (root ∙ is)) ((λ e. absurd cc), subst (λ (n : Node P E). InLine (IsFilledTo least nodes depth) true (pages_below n)) (sym at) (line depth)),
)

-- the pages below a root's content
below_filled : {P E : Type 0} (least : ℕ) (nodes : ℕ → Node P E) (node : Node P E) → nodes no_page ≡ node → ((depth : ℕ) → IsFilledTo least nodes depth true no_page) → (depth : ℕ) → InLine (IsFilledTo least nodes depth) true (pages_below node)
unfolding IsFilledTo
below_filled {P} {E} least nodes node is filled depth = subst (λ (n : Node P E). InLine (IsFilledTo least nodes depth) true (pages_below n)) is (filled (suc depth)).1

settled_filled : {P E : Type 0} (least : ℕ) (s : Scale P E) → IsOrder s → (mid new : ℕ → Node P E) (taken after : Node P E) (levels : ℕ) (between left : List ℕ) → count_in no_page between ≡ 0
    → Rises s s.least (walk s (with_root taken mid) levels (top s)) None → ((n : ℕ) → times n (walk s (with_root taken mid) levels (top s)) + count_in n between ≤ 1)
    → Settled s levels taken mid new after between left → ((depth : ℕ) → IsFilledTo least (with_root taken mid) depth true no_page) → (depth : ℕ) → IsFilledTo least (with_root after new) depth true no_page
unfolding walk
settled_filled {P} {E} least s o mid new taken after levels between left apart rises once (inl (same, pages, counts)) filled =
    filled_frame least s o (with_root taken mid) (with_root after new) levels s.least s.least None rises (λ n p. ap (λ r. with_root r new n) same ∙ ap (λ m. if n == no_page then taken else m) (pages n)) filled
settled_filled {P} {E} least s o mid new taken after zero between left apart rises once (inr (q, deep, is, here, pages, counts)) filled = absurd rises
settled_filled {P} {E} least s o mid new taken after (suc lower) between left apart rises once (inr (q, deep, is, here, pages, counts)) filled =
    let before = with_root taken mid in
    let now = with_root after new in
    let ms = body (walk s before lower) (top s) (placed s lower s.least taken) in
    let off : q ≢ no_page = λ e. no_page_free q (count_in q between) (count_in q left) (counts q) (ap (λ m. count_in m between) e ∙ apart) in
    let agree : Agree before now ms = λ n t.
    let nr = not_root n (times n ms) (count_in n between) (once n) t in
    root_else after new n nr ∙ pages n (not_taken q n (times n ms) (if no_page == n then 1 else 0) (count_in n between) (count_in n left) (once n) (counts n) t) ∙ sym (root_else taken mid n nr) in
    moved_filled least now q s.least taken after refl is (root_else after new q off ∙ here)
    (λ depth. below_stays least s o before now lower depth (top s) taken s.least None true rises.1 agree (below_filled least before taken refl filled depth))

-- ---- what stands

-- What is to stand at the root, once the pages below it are in the draft: its walk rises and has the list, its pages are the old ones and those that were taken, and each page that
-- is neither keeps its bytes.
pub record Stood {P E : Type 0} (s : Scale P E) (node : List ℕ → Node P E) (image : Image) (list : List E) (old mid : List Drafted) (root taken : Node P E) (levels : ℕ) (free between : List ℕ) : Type 0 where
  pub most : levels ≤ 8
  pub before : Marks P E
  pub was : tree_of s (nodes node old image) root ≡ before
  pub once : (n : ℕ) → times n before + count_in n free ≤ 1
  pub rows : rows_of (walk s (with_root taken (nodes node mid image)) levels (top s)) ≡ list
  pub rises : Rises s s.least (walk s (with_root taken (nodes node mid image)) levels (top s)) None
  pub pages : (n : ℕ) → times n (walk s (with_root taken (nodes node mid image)) levels (top s)) + count_in n between ≡ times n before + count_in n free
  pub keeps : (n : ℕ) → (n ≡ no_page) ⊎ (times n before ≡ 0) → count_in n free ≡ count_in n between → shown mid image n ≡ shown old image n
  pub fewer : (n : ℕ) → count_in n between ≤ count_in n free

count_front : (n : ℕ) (left taken : List ℕ) → count_in n left ≤ count_in n (left ++ taken)
count_front n [] taken = omega arith
count_front n (m ∷ left) taken = let h = count_front n left taken in omega (arith, h)

-- what is left of the free pages
pub fewer_left : (n : ℕ) (free left : List ℕ) → IsFront left free → count_in n left ≤ count_in n free
fewer_left n free left front = subst (λ ms. count_in n left ≤ count_in n ms) (sym front.1) (count_front n left front.0)

q_in : (q b f l : ℕ) → b ≡ (if q == q then 1 else 0) + l → b ≤ f → f ≡ 0 → ⊥
q_in q b f l h i e = grind arith

one_each : (t m w f : ℕ) → t + f ≤ 1 → w + m ≡ t + f → w + m ≤ 1
one_each t m w f h e = omega (arith, h, e)

same_between : (f m l : ℕ) → l ≤ m → m ≤ f → f ≡ l → (f ≡ m) × (m ≡ l)
same_between f m l h i e = (omega (arith, h, i, e), omega (arith, h, i, e))

module _ {P E : Type 0} (s : Scale P E) (o : IsOrder s) (node : List ℕ → Node P E) (image : Image) (blocks : ℕ) (list : List E) (old mid new : List Drafted) (root taken after : Node P E) (free between left : List ℕ)
    (below_free : AllBelow blocks free) (below_left : AllBelow blocks left) (within : blocks ≤ no_page) (fewer : (n : ℕ) → count_in n left ≤ count_in n between) (stays : StaysTaken mid new between left) where
  kept : (levels : ℕ) → (st : Stood s node image list old mid root taken levels free between) → (n : ℕ) → footprint s (nodes node old image) root n ≡ 0 → count_in n free ≡ count_in n left → shown new image n ≡ shown old image n
  kept levels st n none same =
      let c = same_between (count_in n free) (count_in n between) (count_in n left) (fewer n) (st.fewer n) same in
      stays image n c.1 ∙ st.keeps n (off_foot s (nodes node old image) root st.before n st.was none) c.0

  root_free : count_in no_page left ≡ count_in no_page free
  root_free = count_below blocks no_page left below_left within ∙ sym (count_below blocks no_page free below_free within)

  -- what stands at the root, or below it
  pub settles : (levels : ℕ) → Stood s node image list old mid root taken levels free between → Settled s levels taken (nodes node mid image) (nodes node new image) after between left
      → Becomes s node list (shown old image) (shown new image) root after free left
  settles levels st (inl (same, pages, counts)) =
      let is = same_all s after taken (nodes node mid image) (nodes node new image) levels same pages in
      let rises = subst (λ ms. Rises s s.least ms None) (sym is) st.rises in
      record {
        spelled = spelled s o (nodes node new image) after levels st.most rises ∙ ap (λ ms. Ok (rows_of ms)) is ∙ ap (λ xs. Ok xs) st.rows;
        pages = footed s (nodes node old image) (nodes node new image) root after st.before (walk s (with_root after (nodes node new image)) levels (top s)) free left st.was
            (tree_rises s o (nodes node new image) after levels st.most rises) root_free
            (λ n. let h = st.pages n in let e = ap (times n) is in let f = counts n in omega (arith, h, e, f));
        keeps = kept levels st;
        fewer = λ n. let h = fewer n in let i = st.fewer n in omega (arith, h, i);
      }
  settles zero st (inr (q, deep, above, here, pages, counts)) = absurd (zero_walk s (with_root taken (nodes node mid image)) (top s) s.least None st.rises)
  settles (suc lower) st (inr (q, deep, above, here, pages, counts)) =
      let q_off : q ≢ no_page = λ e. q_in q (count_in q between) (count_in q free) (count_in q left) (counts q) (st.fewer q) (ap (λ m. count_in m free) e ∙ count_below blocks no_page free below_free within) in
      let m = root_moves s o (with_root taken (nodes node mid image)) (with_root after (nodes node new image)) lower no_page q s.least s.least s.least None between left above
      (root_else after (nodes node new image) q q_off ∙ here)
      (λ n nr nq. root_else after (nodes node new image) n nr ∙ pages n nq ∙ sym (root_else taken (nodes node mid image) n nr))
      (λ n. one_each (times n st.before) (count_in n between) _ (count_in n free) (st.once n) (st.pages n)) counts st.rises in
      record {
        spelled = spelled s o (nodes node new image) after (suc (suc lower)) deep m.0 ∙ ap (λ xs. Ok xs) (m.1 ∙ st.rows);
        pages = footed s (nodes node old image) (nodes node new image) root after st.before (walk s (with_root after (nodes node new image)) (suc (suc lower)) (top s)) free left st.was
            (tree_rises s o (nodes node new image) after (suc (suc lower)) deep m.0) root_free
            (λ n. let h = st.pages n in let e = m.2 n in omega (arith, h, e));
        keeps = kept (suc lower) st;
        fewer = λ n. let h = fewer n in let i = st.fewer n in omega (arith, h, i);
      }

  fewer_free : (f m : ℕ) → f ≡ 0 → m ≤ f → m ≡ 0
  fewer_free f m h l = omega (arith, h, l)

  -- and its levels are filled, where those of what was to stand at the root are
  pub settles_filled : (least levels : ℕ) → Stood s node image list old mid root taken levels free between → Settled s levels taken (nodes node mid image) (nodes node new image) after between left
      → ((depth : ℕ) → IsFilledTo least (with_root taken (nodes node mid image)) depth true no_page) → (depth : ℕ) → IsFilledTo least (with_root after (nodes node new image)) depth true no_page
  settles_filled least levels st settled filled =
      settled_filled least s o (nodes node mid image) (nodes node new image) taken after levels between left
      (fewer_free (count_in no_page free) (count_in no_page between) (count_below blocks no_page free below_free within) (st.fewer no_page)) st.rises
      (λ n. one_each (times n st.before) (count_in n between) _ (count_in n free) (st.once n) (st.pages n)) settled filled
