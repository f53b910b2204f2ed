-- A page that lost an entry or a child, as the draft shows it.
use Rattle.std.proofs.Common.{◌≡◌, ◌≢◌, refl, sym, ap, ◌∙◌, subst, ℕ, suc, ◌==◌, Bool, true, false, not, List, [], ◌∷◌, ◌++◌, length, Some, arith}
use Rattle.std.proofs.lemmas.Bool.{true≢false, eqb-true}
use Rattle.jfs_disk.specs.Image.{Image}
use Rattle.jfs_tree.specs.Walk.{Child, Node, Leaf, Inner, Scale, IsOrder}
use Rattle.jfs_tree.specs.Edit.{IsCons}
use Rattle.jfs_tree.specs.Draft.{shown}
use Rattle.jfs_tree.specs.Call.{nodes, PutsOne}
use Rattle.jfs_tree.specs.Shrink.{IsLoose, TakenOut, Shrank}
use Rattle.jfs_tree.specs.Removal.{HasChildAt, HasOthers, TakesRow, TakesChild, TellsSingle, Settles, LostHere, LostBelow}
use Rattle.jfs_tree.specs.declared.draft.Drafted.{Drafted}
use Rattle.jfs_tree.specs.declared.removal.Shrunk.{Shrunk}
use Rattle.jfs_tree.proofs.Taking.{itself, another, taken_last}
use Rattle.jfs_tree.proofs.Shrank.{shrank_leaf_kept, shrank_leaf_gone, shrank_child_kept, shrank_child_gone, shrank_page_gone}

-- others are left where one goes that isn't alone
pub others_left : {X : Type 0} (front : List X) (x : X) (back : List X) (single : Bool) → single ≡ (length (front ++ x ∷ back) == 1) → single ≡ false → IsCons (front ++ back)
others_left [] x [] single e h = absurd (true≢false (sym e ∙ h))
others_left [] x (b ∷ bs) single e h = tt
others_left (f ∷ fs) x back single e h = tt

-- one that is alone has no neighbours
pub stands_alone : {X : Type 0} (front : List X) (x : X) (back : List X) (single : Bool) → single ≡ (length (front ++ x ∷ back) == 1) → single ≡ true → (front ≡ []) × (back ≡ [])
stands_alone [] x [] single e h = (refl, refl)
stands_alone [] x (b ∷ bs) single e h = absurd (let l = eqb-true (length (x ∷ b ∷ bs)) 1 (sym e ∙ h) in omega (arith, l))
stands_alone (f ∷ []) x back single e h = absurd (let l = eqb-true (length (f ∷ x ∷ back)) 1 (sym e ∙ h) in omega (arith, l))
stands_alone (f ∷ g ∷ gs) x back single e h = absurd (let l = eqb-true (length (f ∷ g ∷ (gs ++ x ∷ back))) 1 (sym e ∙ h) in omega (arith, l))

pub as_many : {X : Type 0} (xs ys : List X) → length xs ≡ length ys → IsCons ys → IsCons xs
as_many [] [] e h = h
as_many [] (y ∷ ys) e h = absurd (omega (arith, e))
as_many (x ∷ xs) ys e h = tt

pub others_at : {P E : Type 0} (place : ℕ) (node : Node P E) (single : Bool) → HasChildAt place node → TellsSingle node single → single ≡ false → HasOthers place node
others_at place node single (front, t, back, is, at) tells more = (front, t, back, is, at, others_left front t back single (tells.inner (front ++ t ∷ back) is) more)

-- the page as the draft shows it, and the others
put_here : {P E : Type 0} (node : List ℕ → Node P E) (page : ℕ) (put : List ℕ) (old new : List Drafted) → PutsOne old new page put → (image : Image) → nodes node new image page ≡ node put
put_here node page put old new puts image = ap node (puts image page ∙ itself page put (shown old image page))

put_others : {P E : Type 0} (node : List ℕ → Node P E) (page : ℕ) (put : List ℕ) (old new : List Drafted) → PutsOne old new page put → (image : Image) (n : ℕ) → n ≢ page → nodes node new image n ≡ nodes node old image n
put_others node page put old new puts image n apart = ap node (puts image n ∙ another n page put (shown old image n) apart)

-- ---- a leaf

leaf_settled : {P E : Type 0} (node : List ℕ → Node P E) (s : Scale P E) → IsOrder s → IsLoose s → (e : E) (put : List ℕ) (page : ℕ) (old new : List Drafted) (free freed : List ℕ) (es left : List E) (single : Bool) (image : Image)
    → nodes node old image page ≡ Leaf es → TakenOut e es left → node put ≡ Leaf left → single ≡ (length es == 1) → Settles (not single) page put old new free freed
    → Shrank s e (nodes node old image) (nodes node new image) 1 page (not single) free freed
leaf_settled node s o loose e put page old new free freed es left false image was taken is tells settles =
    subst (λ f. Shrank s e (nodes node old image) (nodes node new image) 1 page true free f) (sym settles.1)
    (shrank_leaf_kept s o loose (nodes node old image) (nodes node new image) page taken.front e taken.back free
    (was ∙ ap Leaf taken.before) (put_here node page put old new settles.0 image ∙ is ∙ ap Leaf taken.after)
    (others_left taken.front e taken.back false (tells ∙ ap (λ xs. length xs == 1) taken.before) refl) (put_others node page put old new settles.0 image))
leaf_settled {P} {E} node s o loose e put page old new free freed es left true image was taken is tells settles =
    let none = stands_alone taken.front e taken.back true (tells ∙ ap (λ xs. length xs == 1) taken.before) refl in
    let alone : es ≡ e ∷ [] = taken.before ∙ ap (λ (f : List E). f ++ e ∷ taken.back) none.0 ∙ ap (λ (b : List E). e ∷ b) none.1 in
    shrank_leaf_gone s o (nodes node old image) (nodes node new image) page e free freed (was ∙ ap Leaf alone) (taken_last freed free page settles.1) (λ n. ap (λ ds. node (shown ds image n)) settles.0)

pub here_lost : {P E : Type 0} (node : List ℕ → Node P E) (s : Scale P E) → IsOrder s → IsLoose s → (x e : E) (bytes put : List ℕ) (page : ℕ) (old new : List Drafted) (free freed : List ℕ) (single : Bool)
    → TakesRow s x (node bytes) (node put) (Some e) → TellsSingle (node bytes) single → Settles (not single) page put old new free freed
    → LostHere node s x bytes page old new free freed (Some (record { entry = e; kept = not single; levels = 1 }))
here_lost node s o loose x e bytes put page old new free freed single takes tells settles image es read is =
    let t = takes es is in
    (t.0, refl, leaf_settled node s o loose e put page old new free freed es t.1.0 single image (ap node (sym read) ∙ is) t.1.1 t.1.2 (tells.leaf es is) settles)

-- ---- an inner page

pub below_kept : {P E : Type 0} (node : List ℕ → Node P E) (s : Scale P E) → IsOrder s → (x : E) (bytes : List ℕ) (page place : ℕ) (shrunk : Shrunk E) (old : List Drafted) (between : List ℕ) (levels : ℕ)
    → shrunk.kept ≡ true → LostBelow node s x bytes page place shrunk old old between between (record { entry = shrunk.entry; kept = shrunk.kept; levels = levels })
below_kept node s o x bytes page place shrunk old between levels kept image before lower child free was leads g =
    subst (λ k. Shrank s shrunk.entry before (nodes node old image) (suc (suc lower)) page k free between) (sym kept)
    (shrank_child_kept s o shrunk.entry before (nodes node old image) lower page child leads.front leads.child leads.back free between (was ∙ leads.is) leads.to
    (subst (λ k. Shrank s shrunk.entry before (nodes node old image) (suc lower) child k free between) kept g))

-- a page with other children loses the place of one that went
pub below_less : {P E : Type 0} (node : List ℕ → Node P E) (s : Scale P E) → IsOrder s → IsLoose s → (x : E) (bytes put : List ℕ) (page place : ℕ) (shrunk : Shrunk E) (old new : List Drafted) (between freed : List ℕ) (single : Bool) (levels : ℕ)
    → shrunk.kept ≡ false → single ≡ false → TakesChild place (node bytes) (node put) → TellsSingle (node bytes) single → Settles (not single) page put old new between freed
    → LostBelow node s x bytes page place shrunk old new between freed (record { entry = shrunk.entry; kept = not single; levels = levels })
below_less node s o loose x bytes put page place shrunk old new between freed true levels gone more takes tells settles image before lower child free was leads g = absurd (true≢false more)
below_less {P} node s o loose x bytes put page place shrunk old new between freed false levels gone more takes tells settles image before lower child free was leads g =
    let t = takes leads.front leads.child leads.back leads.is leads.at in
    let some = others_left leads.front leads.child leads.back false (tells.inner (leads.front ++ leads.child ∷ leads.back) leads.is) refl in
    subst (λ f. Shrank s shrunk.entry before (nodes node new image) (suc (suc lower)) page true free f) (sym settles.1)
    (shrank_child_gone s o loose shrunk.entry before (nodes node old image) (nodes node new image) lower page child leads.front leads.child leads.back t.0 free between (was ∙ leads.is) leads.to
    (subst (λ k. Shrank s shrunk.entry before (nodes node old image) (suc lower) child k free between) gone g)
    (put_here node page put old new settles.0 image ∙ t.1) (as_many t.0 (leads.front ++ leads.back) t.2 some) t.3 (put_others node page put old new settles.0 image))

-- a page goes with its last child
pub below_gone : {P E : Type 0} (node : List ℕ → Node P E) (s : Scale P E) → IsOrder s → (x : E) (bytes put : List ℕ) (page place : ℕ) (shrunk : Shrunk E) (old new : List Drafted) (between freed : List ℕ) (single : Bool) (levels : ℕ)
    → shrunk.kept ≡ false → single ≡ true → TellsSingle (node bytes) single → Settles (not single) page put old new between freed
    → LostBelow node s x bytes page place shrunk old new between freed (record { entry = shrunk.entry; kept = not single; levels = levels })
below_gone node s o x bytes put page place shrunk old new between freed false levels gone last tells settles image before lower child free was leads g = absurd (true≢false (sym last))
below_gone {P} node s o x bytes put page place shrunk old new between freed true levels gone last tells settles image before lower child free was leads g =
    let none = stands_alone leads.front leads.child leads.back true (tells.inner (leads.front ++ leads.child ∷ leads.back) leads.is) refl in
    let alone : leads.front ++ leads.child ∷ leads.back ≡ leads.child ∷ [] = ap (λ (f : List (Child P)). f ++ leads.child ∷ leads.back) none.0 ∙ ap (λ (b : List (Child P)). leads.child ∷ b) none.1 in
    shrank_page_gone s o shrunk.entry before (nodes node old image) (nodes node new image) lower page child leads.child free between freed (was ∙ leads.is ∙ ap Inner alone) leads.to
    (subst (λ k. Shrank s shrunk.entry before (nodes node old image) (suc lower) child k free between) gone g)
    (taken_last freed between page settles.1) (λ n. ap (λ ds. node (shown ds image n)) settles.0)
