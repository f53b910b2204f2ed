-- What a removal from a whole tree answers, from what its parts do.
use Rattle.std.proofs.Common.{◌≡◌, inl, inr, sym, ap, ◌∙◌, subst, ℕ, suc, Bool, true, false, List, [], ◌∷◌, ◌++◌, length, Option, Some, None, arith}
use Rattle.jfs_tree.specs.Walk.{Child, Node, Leaf, Scale, Rises, IsOrder, rows_of, walk}
use Rattle.jfs_tree.specs.Spells.{with_root, top}
use Rattle.jfs_tree.specs.Edit.{IsPoint, EndsAt, found_in, own}
use Rattle.jfs_tree.specs.Form.{LeadsDown}
use Rattle.jfs_tree.specs.Call.{Finds}
use Rattle.jfs_tree.specs.Shrink.{IsLoose, Shrank}
use Rattle.jfs_tree.specs.Removal.{TakesRow, TakesChild, TellsSingle}
use Rattle.jfs_tree.specs.RootLoss.{Removes, RemovesAlways, RootLost}
use Rattle.jfs_tree.proofs.Adding.{ends_level, inner_part}
use Rattle.jfs_tree.proofs.Finding.{leaf_level, inner_level}
use Rattle.jfs_tree.proofs.Growing.{own_page}
use Rattle.jfs_tree.proofs.Losing.{others_left, stands_alone, as_many}
use Rattle.jfs_tree.proofs.RootCalls.{leads_more, here_always, down_always, part_off}
use Rattle.jfs_tree.proofs.RootLosing.{Below, child_stays, child_goes, last_goes, leaf_loses}
use Rattle.jfs_tree.proofs.Spelled.{stands}

-- ---- the root itself

pub root_bare : {P E : Type 0} (place : ℕ) (root after : Node P E) (single : Bool) → TellsSingle root single → single ≡ true → after ≡ Leaf [] → RootLost place false root after
root_bare place root after single tells one is front t back was at =
    let none = stands_alone front t back single (tells.inner (front ++ t ∷ back) was) one in
    inl (ap (λ f. f ++ back) none.0 ∙ none.1, is)

pub root_less : {P E : Type 0} (place : ℕ) (root after : Node P E) (single : Bool) → TellsSingle root single → single ≡ false → TakesChild place root after → RootLost place false root after
root_less place root after single tells more takes front t back was at =
    let c = takes front t back was at in
    inr (c.0, c.1, as_many c.0 (front ++ back) c.2 (others_left front t back single (tells.inner (front ++ t ∷ back) was) more), c.3)

-- ---- a root that is a leaf

none_some : {E : Type 0} (e : E) → ◌≡◌ {A = Option E} None (Some e) → ⊥
none_some e h = cc

pub here_removes : {P E : Type 0} (s : Scale P E) → IsOrder s → IsLoose s → (x : E) (pages : ℕ → Node P E) (root after : Node P E) (rest : List E) (found : Option E)
    → root ≡ Leaf rest → TakesRow s x root after found → RemovesAlways s x pages pages root after [] found
here_removes s o loose x pages root after rest None is takes es spelled =
    (here_always s x pages root rest None is (sym (takes rest is)) es spelled, tt)
here_removes {P} {E} s o loose x pages root after rest (Some e) is takes es spelled =
    let t = takes rest is in (
      here_always s x pages root rest (Some e) is (sym t.0) es spelled,
      elim (stands s pages root es spelled) [
        | inl empty ↦ absurd (none_some e (ap (found_in s x) (sym (nil_of rest (sym is ∙ empty.0))) ∙ t.0))
        | inr st ↦
            let level = leaf_level s (with_root root pages) st.levels (top s) rest s.least None is st.rises in
            leaf_loses s o loose e es rest pages root after t.1.0 is (st.is ∙ ap (λ l. walk s (with_root root pages) l (top s)) level)
            (subst (λ l. Rises s s.least (walk s (with_root root pages) l (top s)) None) level st.rises)
            (ap (λ l. rows_of (walk s (with_root root pages) l (top s))) (sym level) ∙ st.rows) t.1.1 t.1.2
      ],
    )
  where
    as_leaf : List E → Node P E
    as_leaf es = Leaf es

    nil_of : (rest : List E) → as_leaf rest ≡ as_leaf [] → rest ≡ []
    nil_of rest h = cc

-- ---- a root whose child lost the entry

lost_by : {P E : Type 0} (s : Scale P E) → IsOrder s → IsLoose s → (e : E) (es : List E) (old mid : ℕ → Node P E) (root after : Node P E) (lower place child : ℕ) (front : List (Child P)) (t : Child P) (back : List (Child P)) (kept : Bool) (freed : List ℕ)
    → Below s e es old mid root lower child front t back kept freed → length front ≡ place → RootLost place kept root after → Removes s e es old mid root after freed
lost_by s o loose e es old mid root after lower place child front t back true freed below at did =
    child_stays s o e es old mid root after lower child front t back freed below did
lost_by s o loose e es old mid root after lower place child front t back false freed below at did =
    elim (did front t back below.is at) [
      | inl (none, is) ↦ last_goes s o e es old mid root after lower child front t back freed below none is
      | inr (cs, is, some, same) ↦ child_goes s o e es old mid root after lower child front t back freed loose below cs is some same
    ]

pub down_removes : {P E : Type 0} (s : Scale P E) → IsOrder s → IsLoose s → (x : E) → IsPoint s x → (old mid : ℕ → Node P E) (root after : Node P E) (place child levels : ℕ) (e : E) (kept : Bool) (freed : List ℕ)
    → LeadsDown s x root place child → Finds s x old child (Some e) → Shrank s e old mid levels child kept [] freed → RootLost place kept root after
    → RemovesAlways s x old mid root after freed (Some e)
down_removes {P} {E} s o loose x p old mid root after place child levels e kept freed leads finds shrank did es spelled = (
  down_always s o x p old root place child (Some e) leads finds es spelled,
  elim (stands s old root es spelled) [
    | inl empty ↦ absurd (leads_more P E (leads.front ++ leads.child ∷ leads.back) (sym leads.is ∙ empty.0))
    | inr st ↦
        let l = inner_level s (with_root root old) st.levels (top s) (leads.front ++ leads.child ∷ leads.back) s.least None leads.is st.rises in
        let r = subst (λ i. Rises s s.least (walk s (with_root root old) i (top s)) None) l.1 st.rises in
        let part = inner_part s o (with_root root old) l.0 (top s) leads.front leads.child leads.back s.least None leads.is r in
        let u = own s.least leads.front leads.child in
        let off = part_off s o root old l.0 leads.front leads.child leads.back leads.is r in
        let level = ends_level s o old levels (suc l.0) u part.0 (Some part.1) (subst (EndsAt old levels) (sym (own_page s.least leads.front leads.child ∙ leads.to)) shrank.ends) (subst (λ ms. Rises s part.0 ms (Some part.1)) (sym off) part.2) in
        lost_by s o loose e es old mid root after l.0 place child leads.front leads.child leads.back kept freed
        (record {
          is = leads.is;
          to = leads.to;
          shrank = subst (λ i. Shrank s e old mid i child kept [] freed) (sym level) shrank;
          deep = let m = st.most in let i = l.1 in omega (arith, m, i);
          tree = st.is ∙ ap (λ i. walk s (with_root root old) i (top s)) l.1;
          rises = r;
          rows = ap (λ i. rows_of (walk s (with_root root old) i (top s))) (sym l.1) ∙ st.rows;
        }) leads.at did
  ],
)
