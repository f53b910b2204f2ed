-- A page that took an entry or a child, as the draft shows it.
use Rattle.std.proofs.Common.{◌≡◌, ◌≢◌, ◌<◌, refl, sym, ap, ◌∙◌, subst, ℕ, ◌+◌, ◌==◌, if◌then◌else◌, List, [], ◌∷◌, ◌++◌, Some, None, arith}
use Rattle.jfs_disk.specs.Image.{Image}
use Rattle.jfs_tree.specs.Walk.{Child, Node, Leaf, Scale, IsOrder}
use Rattle.jfs_tree.specs.Edit.{IsApart, KeysRise, with_entry, count_in}
use Rattle.jfs_tree.specs.Form.{AllBelow, AtPlace, HasChildren, LeadsDown, SplitsRows, SplitsChildren, as_child}
use Rattle.jfs_tree.specs.Draft.{shown}
use Rattle.jfs_tree.specs.Call.{nodes, PutsOne, PutsTwo, TookHere, TookChild}
use Rattle.jfs_tree.specs.declared.draft.Drafted.{Drafted}
use Rattle.jfs_tree.specs.declared.form.Sibling.{Sibling}
use Rattle.jfs_tree.proofs.Growing.{Route, inner_kept, inner_parted, leaf_kept, leaf_parted}

pub itself : (n : ℕ) (a b : List ℕ) → (if n == n then a else b) ≡ a
itself n a b = grind arith

pub another : (n m : ℕ) (a b : List ℕ) → n ≢ m → (if n == m then a else b) ≡ b
another n m a b ne = grind arith

count_last : (n q : ℕ) (xs : List ℕ) → count_in n (xs ++ q ∷ []) ≡ (if q == n then 1 else 0) + count_in n xs
count_last n q [] = omega arith
count_last n q (x ∷ xs) = let h = count_last n q xs in omega (arith, h)

-- the last of the free pages is taken
pub taken_last : (free left : List ℕ) (q : ℕ) → free ≡ left ++ q ∷ [] → (n : ℕ) → count_in n free ≡ (if q == n then 1 else 0) + count_in n left
taken_last free left q h n = ap (count_in n) h ∙ count_last n q left

below_last : (bound q : ℕ) (xs : List ℕ) → AllBelow bound (xs ++ q ∷ []) → AllBelow bound xs × (q < bound)
below_last bound q [] h = (tt, h.0)
below_last bound q (x ∷ xs) h = let t = below_last bound q xs h.1 in ((h.0, t.0), t.1)

pub below_popped : (bound q : ℕ) (free left : List ℕ) → free ≡ left ++ q ∷ [] → AllBelow bound free → AllBelow bound left × (q < bound)
below_popped bound q free left e h = below_last bound q left (subst (AllBelow bound) e h)

pub here_kept : {P E : Type 0} (node : List ℕ → Node P E) (s : Scale P E) → IsOrder s → (x : E) (bytes put : List ℕ) (page : ℕ) (old new : List Drafted) (free : List ℕ)
    → ((es : List E) → node bytes ≡ Leaf es → IsApart s x es → node put ≡ Leaf (with_entry s x es)) → PutsOne old new page put
    → TookHere node s x bytes page old new free free None
here_kept node s o x bytes put page old new free puts is image es read leaf =
    leaf_kept s o x (nodes node old image) (nodes node new image) page es free (ap node (sym read) ∙ leaf)
    (λ a. ap node (is image page ∙ itself page put (shown old image page)) ∙ puts es leaf a) (λ n ne. ap node (is image n ∙ another n page put (shown old image n) ne))

-- two pages were put, which are not one
pub two_first : (old new : List Drafted) (page q : ℕ) (left right : List ℕ) → PutsTwo old new page left q right → page ≢ q → (image : Image) → shown new image page ≡ left
two_first old new page q left right a ne image = a image page ∙ another page q right _ ne ∙ itself page left (shown old image page)

pub two_last : (old new : List Drafted) (page q : ℕ) (left right : List ℕ) → PutsTwo old new page left q right → (image : Image) → shown new image q ≡ right
two_last old new page q left right a image = a image q ∙ itself q right _

pub two_others : (old new : List Drafted) (page q : ℕ) (left right : List ℕ) → PutsTwo old new page left q right → (image : Image) (n : ℕ) → n ≢ page → n ≢ q → shown new image n ≡ shown old image n
two_others old new page q left right a image n ne nq = a image n ∙ another n q right _ nq ∙ another n page left (shown old image n) ne

pub here_parted : {P E : Type 0} (node : List ℕ → Node P E) (s : Scale P E) → IsOrder s → (x : E) (bytes left_page right_page : List ℕ) (page q : ℕ) (key : P) (old new : List Drafted) (free left : List ℕ)
    → ((es : List E) → node bytes ≡ Leaf es → IsApart s x es → SplitsRows s (with_entry s x es) (node left_page) (node right_page) key)
    → free ≡ left ++ q ∷ [] → PutsTwo old new page left_page q right_page
    → TookHere node s x bytes page old new free left (Some (record { key = key; page = q }))
here_parted node s o x bytes left_page right_page page q key old new free left splits pop a image es read leaf =
    leaf_parted s o x (nodes node old image) (nodes node new image) page q es (node left_page) (node right_page) key free left (ap node (sym read) ∙ leaf) (splits es leaf)
    (taken_last free left q pop)
    (λ ne. ap node (two_first old new page q left_page right_page a ne image))
    (ap node (two_last old new page q left_page right_page a image))
    (λ n ne nq. ap node (two_others old new page q left_page right_page a image n ne nq))

pub route_of : {P E : Type 0} (s : Scale P E) (x : E) (node : Node P E) (place child : ℕ) (l : LeadsDown s x node place child) → Route s x node child l.front l.child l.back
route_of s x node place child l = record { is = l.is; to = l.to; past = l.past; above = l.above }

pub place_of : {P E : Type 0} (s : Scale P E) (x : E) (node : Node P E) (place child : ℕ) (l : LeadsDown s x node place child) (new : Child P) → AtPlace node place new (l.front ++ l.child ∷ new ∷ l.back)
place_of s x node place child l new = record { front = l.front; before = l.child; back = l.back; was = l.is; at = l.at; is = refl }

pub child_kept : {P E : Type 0} (node : List ℕ → Node P E) (s : Scale P E) → IsOrder s → (bytes put : List ℕ) (page place : ℕ) (sibling : Sibling P) (old new : List Drafted) (between : List ℕ)
    → ((all : List (Child P)) → AtPlace (node bytes) place (as_child sibling) all → KeysRise s all → HasChildren (node put) all)
    → PutsOne old new page put → TookChild {E = E} node s bytes page place sibling old new between between None
child_kept node s o bytes put page place sibling old new between puts is image x before lower child free was leads grew =
    let all = leads.front ++ leads.child ∷ as_child sibling ∷ leads.back in
    inner_kept s o x before (nodes node old image) (nodes node new image) lower page child (as_child sibling ∷ []) free between leads.front leads.child leads.back
    (subst (λ n. Route s x n child leads.front leads.child leads.back) (sym was) (route_of s x (node bytes) place child leads)) grew
    (λ k. subst (λ n. HasChildren n all) (sym (ap node (is image page ∙ itself page put (shown old image page)))) (puts all (place_of s x (node bytes) place child leads (as_child sibling)) k))
    (λ n ne. ap node (is image n ∙ another n page put (shown old image n) ne))

pub child_parted : {P E : Type 0} (node : List ℕ → Node P E) (s : Scale P E) → IsOrder s → (bytes left_page right_page : List ℕ) (page place q : ℕ) (key : P) (sibling : Sibling P) (old new : List Drafted) (between left : List ℕ)
    → ((all : List (Child P)) → AtPlace (node bytes) place (as_child sibling) all → KeysRise s all → SplitsChildren all (node left_page) (node right_page) key)
    → between ≡ left ++ q ∷ [] → PutsTwo old new page left_page q right_page
    → TookChild {E = E} node s bytes page place sibling old new between left (Some (record { key = key; page = q }))
child_parted node s o bytes left_page right_page page place q key sibling old new between left splits pop a image x before lower child free was leads grew =
    inner_parted s o x before (nodes node old image) (nodes node new image) lower page child q (as_child sibling ∷ []) free between left leads.front leads.child leads.back (node left_page) (node right_page) key
    (subst (λ n. Route s x n child leads.front leads.child leads.back) (sym was) (route_of s x (node bytes) place child leads)) grew
    (taken_last between left q pop)
    (splits (leads.front ++ leads.child ∷ as_child sibling ∷ leads.back) (place_of s x (node bytes) place child leads (as_child sibling)))
    (λ ne. ap node (two_first old new page q left_page right_page a ne image))
    (ap node (two_last old new page q left_page right_page a image))
    (λ n ne nq. ap node (two_others old new page q left_page right_page a image n ne nq))
