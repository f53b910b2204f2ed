-- The part below a page that lost an entry.
use Rattle.std.proofs.Common.{◌≡◌, ◌≢◌, ◌≤◌, ◌<◌, refl, sym, ap, ◌∙◌, subst, ℕ, suc, ◌+◌, ◌==◌, Bool, true, false, if◌then◌else◌, List, [], ◌∷◌, ◌++◌, Option, arith}
use Rattle.std.specs.List.{flat_map}
use Rattle.jfs_tree.specs.Walk.{Child, Node, Leaf, Inner, Page, Key, Marks, Scale, Rises, IsOrder, times, placed, under, body, walk}
use Rattle.jfs_tree.specs.Edit.{count_in, own, IsCons, EndsAt}
use Rattle.jfs_tree.specs.Shrink.{IsLoose, Lost, kept_of, Shrank}
use Rattle.jfs_tree.proofs.Frame.{reads_itself}
use Rattle.jfs_tree.proofs.Between.{append_nil}
use Rattle.jfs_tree.proofs.Steps.{under_parts, times_inner}
use Rattle.jfs_tree.proofs.Growing.{leaf_other}
use Rattle.jfs_tree.proofs.Shrinking.{leaf_kept, leaf_gone, inner_lost, walk_children, first_rekeyed, page_gone}

-- a page stands in its own part
pub reads_own : {P E : Type 0} (s : Scale P E) (nodes : ℕ → Node P E) (below : ℕ) (c : Child P) → 0 < times c.page (walk s nodes (suc below) c)
unfolding walk
reads_own s nodes below c = reads_itself c.page (body (walk s nodes below) c (placed s below c.key (nodes c.page)))

-- ---- a leaf

pub shrank_leaf_kept : {P E : Type 0} (s : Scale P E) → IsOrder s → IsLoose s → (before after : ℕ → Node P E) (page : ℕ) (front : List E) (e : E) (back : List E) (free : List ℕ)
    → before page ≡ Leaf (front ++ e ∷ back) → after page ≡ Leaf (front ++ back) → IsCons (front ++ back) → ((n : ℕ) → n ≢ page → after n ≡ before n)
    → Shrank s e before after 1 page true free free
shrank_leaf_kept {P} s o loose before after page front e back free was is some others = record {
  ends = (front ++ e ∷ back, was);
  shrinks = λ key low high r once. leaf_kept s o loose before after (record { key = key; page = page }) front e back free low high was is some r;
  keeps = λ key n none. others n (leaf_other s before 0 page n key none);
}

pub shrank_leaf_gone : {P E : Type 0} (s : Scale P E) → IsOrder s → (before after : ℕ → Node P E) (page : ℕ) (e : E) (free freed : List ℕ)
    → before page ≡ Leaf (e ∷ []) → ((n : ℕ) → count_in n freed ≡ (if page == n then 1 else 0) + count_in n free) → ((n : ℕ) → after n ≡ before n)
    → Shrank s e before after 1 page false free freed
shrank_leaf_gone s o before after page e free freed was pages others = record {
  ends = (e ∷ [], was);
  shrinks = λ key low high r once. leaf_gone s o before after (record { key = key; page = page }) e free freed low high was pages r;
  keeps = λ key n none. others n;
}

-- ---- an inner page

pub own_is : {P : Type 0} (key : P) (front : List (Child P)) (t : Child P) (child : ℕ) → t.page ≡ child → own key front t ≡ record { key = (own key front t).key; page = child }
own_is key [] t child e = ap (λ (p : ℕ). record { key = key; page = p }) e
own_is key (f ∷ fs) t child e = ap (λ (p : ℕ). record { key = t.key; page = p }) e

module _ {P E : Type 0} (s : Scale P E) (o : IsOrder s) (e : E) (before middle : ℕ → Node P E) (lower page child : ℕ) (front : List (Child P)) (t : Child P) (back : List (Child P)) (kept : Bool) (free between : List ℕ)
    (was : before page ≡ Inner (front ++ t ∷ back)) (to : t.page ≡ child) (g : Shrank s e before middle (suc lower) child kept free between) where
  -- what the child lost, at the key that it has on its page
  child_lost : (key mid : P) (end : Option P) → Rises s mid (walk s before (suc lower) (own key front t)) end
      → ((n : ℕ) → times n (walk s before (suc lower) (own key front t)) + count_in n free ≤ 1)
      → Lost s e mid (walk s before (suc lower) (own key front t)) (flat_map (walk s middle (suc lower)) (kept_of kept (own key front t))) end free between
  child_lost key mid end =
      subst (λ (u : Child P). Rises s mid (walk s before (suc lower) u) end → ((n : ℕ) → times n (walk s before (suc lower) u) + count_in n free ≤ 1)
      → Lost s e mid (walk s before (suc lower) u) (flat_map (walk s middle (suc lower)) (kept_of kept u)) end free between)
      (sym (own_is key front t child to)) (g.shrinks (own key front t).key mid end)

  child_keeps : (key : P) (n : ℕ) → times n (walk s before (suc lower) (own key front t)) ≡ 0 → middle n ≡ before n
  child_keeps key n none = g.keeps (own key front t).key n (subst (λ (u : Child P). times n (walk s before (suc lower) u) ≡ 0) (own_is key front t child to) none)

  page_keeps : (key : P) (n : ℕ) → times n (walk s before (suc (suc lower)) (record { key = key; page = page })) ≡ 0 → middle n ≡ before n
  page_keeps key n none = child_keeps key n (let h = times_inner s before lower (record { key = key; page = page }) front t back n was in omega (arith, h, none))

  lost_with : (after : ℕ → Node P E) → ((n : ℕ) → n ≢ page → after n ≡ middle n) → (key low : P) (high : Option P) → Rises s low (walk s before (suc (suc lower)) (record { key = key; page = page })) high
      → ((n : ℕ) → times n (walk s before (suc (suc lower)) (record { key = key; page = page })) + count_in n free ≤ 1)
      → Lost s e low (walk s before (suc (suc lower)) (record { key = key; page = page })) (Key page key ∷ Page page ∷ flat_map (walk s after (suc lower)) (under key front ++ (kept_of kept (own key front t) ++ back))) high free between
  lost_with after here key low high r once =
      inner_lost s o before middle after lower (record { key = key; page = page }) front t (kept_of kept (own key front t)) back e free between low high was r once (child_lost key) (child_keeps key) here

  -- the page stays as it was, where it isn't in the child's part
  page_stays : (key : P) → ((n : ℕ) → times n (walk s before (suc (suc lower)) (record { key = key; page = page })) + count_in n free ≤ 1) → middle page ≡ before page
  page_stays key once =
      child_keeps key page (let h = times_inner s before lower (record { key = key; page = page }) front t back page was in let k = once page in let m = own_once page in omega (arith, h, k, m))
    where
      own_once : (n : ℕ) → ◌≡◌ {A = ℕ} (if n == n then 1 else 0) 1
      own_once n = grind arith

pub shrank_child_kept : {P E : Type 0} (s : Scale P E) → IsOrder s → (e : E) (before middle : ℕ → Node P E) (lower page child : ℕ) (front : List (Child P)) (t : Child P) (back : List (Child P)) (free between : List ℕ)
    → before page ≡ Inner (front ++ t ∷ back) → t.page ≡ child → Shrank s e before middle (suc lower) child true free between
    → Shrank s e before middle (suc (suc lower)) page true free between
shrank_child_kept {P} {E} s o e before middle lower page child front t back free between was to g = record {
  ends = (front, t, back, was, subst (λ p. EndsAt before (suc lower) p) (sym to) g.ends);
  shrinks = λ key low high r once.
      let c : Child P = record { key = key; page = page } in
      let lost = lost_with s o e before middle lower page child front t back true free between was to g middle (λ n apart. refl) key low high r once in
      let stays = page_stays s o e before middle lower page child front t back true free between was to g key once in
      let walked = walk_children s middle lower c (front ++ t ∷ back) (front ++ t ∷ back) (stays ∙ was) (cons_middle front t back) refl
      ∙ ap (λ cs. Key page key ∷ Page page ∷ flat_map (walk s middle (suc lower)) cs) (under_parts key front t back) in
      subst (λ ms. Lost s e low (walk s before (suc (suc lower)) c) ms high free between) (sym (append_nil (walk s middle (suc (suc lower)) c) ∙ walked)) lost;
  keeps = page_keeps s o e before middle lower page child front t back true free between was to g;
}
  where
    cons_middle : (front : List (Child P)) (t : Child P) (back : List (Child P)) → IsCons (front ++ t ∷ back)
    cons_middle [] t back = tt
    cons_middle (f ∷ fs) t back = tt

-- where the first child goes, the next takes the page's key
pub place_gone : {P E : Type 0} (s : Scale P E) → IsOrder s → IsLoose s → (nodes : ℕ → Node P E) (levels n : ℕ) (key : P) (old : Marks P E) (e : E) (low : P) (high : Option P) (free freed : List ℕ) (front back : List (Child P))
    → Lost s e low old (Key n key ∷ Page n ∷ flat_map (walk s nodes levels) (under key front ++ ([] ++ back))) high free freed
    → Lost s e low old (Key n key ∷ Page n ∷ flat_map (walk s nodes levels) (under key (front ++ back))) high free freed
place_gone s o loose nodes levels n key old e low high free freed [] [] lost = lost
place_gone s o loose nodes levels n key old e low high free freed [] (b ∷ bs) lost = first_rekeyed s o loose nodes levels n key b bs old e low high free freed lost
place_gone s o loose nodes levels n key old e low high free freed (f ∷ fs) back lost = lost

-- the child's place on the page goes with it
pub shrank_child_gone : {P E : Type 0} (s : Scale P E) → IsOrder s → IsLoose s → (e : E) (before middle after : ℕ → Node P E) (lower page child : ℕ) (front : List (Child P)) (t : Child P) (back cs : List (Child P)) (free between : List ℕ)
    → before page ≡ Inner (front ++ t ∷ back) → t.page ≡ child → Shrank s e before middle (suc lower) child false free between
    → after page ≡ Inner cs → IsCons cs → ((key : P) → under key cs ≡ under key (front ++ back)) → ((n : ℕ) → n ≢ page → after n ≡ middle n)
    → Shrank s e before after (suc (suc lower)) page true free between
shrank_child_gone {P} {E} s o loose e before middle after lower page child front t back cs free between was to g is some same here = record {
  ends = (front, t, back, was, subst (λ p. EndsAt before (suc lower) p) (sym to) g.ends);
  shrinks = λ key low high r once.
      let c : Child P = record { key = key; page = page } in
      let lost = lost_with s o e before middle lower page child front t back false free between was to g after here key low high r once in
      let walked = walk_children s after lower c cs (front ++ back) is some (same key) in
      subst (λ ms. Lost s e low (walk s before (suc (suc lower)) c) ms high free between) (sym (append_nil (walk s after (suc (suc lower)) c) ∙ walked))
      (place_gone s o loose after (suc lower) page key (walk s before (suc (suc lower)) c) e low high free between front back lost);
  keeps = λ key n none. here n (leaf_other s before (suc lower) page n key none) ∙ page_keeps s o e before middle lower page child front t back false free between was to g key n none;
}

-- the page had no other child, and goes too
pub shrank_page_gone : {P E : Type 0} (s : Scale P E) → IsOrder s → (e : E) (before middle after : ℕ → Node P E) (lower page child : ℕ) (t : Child P) (free between freed : List ℕ)
    → before page ≡ Inner (t ∷ []) → t.page ≡ child → Shrank s e before middle (suc lower) child false free between
    → ((n : ℕ) → count_in n freed ≡ (if page == n then 1 else 0) + count_in n between) → ((n : ℕ) → after n ≡ middle n)
    → Shrank s e before after (suc (suc lower)) page false free freed
shrank_page_gone {P} s o e before middle after lower page child t free between freed was to g more here = record {
  ends = ([], t, [], was, subst (λ p. EndsAt before (suc lower) p) (sym to) g.ends);
  shrinks = λ key low high r once.
      page_gone s o page key (walk s before (suc (suc lower)) (record { key = key; page = page })) e low high free between freed more
      (lost_with s o e before middle lower page child [] t [] false free between was to g after (λ n apart. here n) key low high r once);
  keeps = λ key n none. here n ∙ page_keeps s o e before middle lower page child [] t [] false free between was to g key n none;
}
