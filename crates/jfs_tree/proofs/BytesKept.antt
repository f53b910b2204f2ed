-- Pages that keep their bytes, not just what they read as.
use Rattle.std.proofs.Common.{◌≡◌, ◌≤◌, inl, inr, refl, sym, ap, ◌∙◌, subst, ℕ, zero, suc, ◌+◌, List, [], ◌∷◌, ◌++◌, Option, Some, None, Result, Ok, Err, IfOk, IfSome, OnOk, arith}
use Rattle.jfs_disk.specs.Image.{Image, page_of}
use Rattle.jfs_tree.specs.Walk.{Child, Node, Inner, Scale, Rises, IsOrder, times, walk}
use Rattle.jfs_tree.specs.Spells.{no_page, with_root, top, tree_of, footprint}
use Rattle.jfs_tree.specs.Edit.{EndsAt, Grew, count_in, own}
use Rattle.jfs_tree.specs.Form.{AllBelow, IsFront, LeadsDown, children_of}
use Rattle.jfs_tree.specs.Draft.{shown}
use Rattle.jfs_tree.specs.Call.{KeepsBytes, PutsOne, PutsTwo, StaysOff, StaysTaken, nodes, pages_of}
use Rattle.jfs_tree.specs.Root.{KeepsAlways}
use Rattle.jfs_tree.specs.Shrink.{Shrank}
use Rattle.jfs_tree.specs.RootLoss.{KeepsOthers}
use Rattle.jfs_tree.specs.declared.draft.Drafted.{Drafted}
use Rattle.jfs_tree.specs.declared.form.Sibling.{Sibling}
use Rattle.jfs_tree.specs.declared.form.TreeError.{TreeError}
use Rattle.jfs_tree.specs.declared.grow.Grown.{Grown}
use Rattle.jfs_tree.specs.declared.removal.Shrunk.{Shrunk}
use Rattle.jfs_tree.specs.Removal.{kept_in}
use Rattle.jfs_tree.proofs.Adding.{ends_level, inner_part}
use Rattle.jfs_tree.proofs.Finding.{inner_level}
use Rattle.jfs_tree.proofs.Growing.{leaf_other, not_taken, own_page}
use Rattle.jfs_tree.proofs.Shrank.{own_is}
use Rattle.jfs_tree.proofs.Spelled.{stands}
use Rattle.jfs_tree.proofs.Steps.{times_inner}
use Rattle.jfs_tree.proofs.Taking.{another, taken_last, two_others}
use Rattle.jfs_tree.proofs.Tops.{off_foot}
use Rattle.jfs_tree.proofs.Once.{each_once}
use Rattle.jfs_tree.proofs.RootCalls.{below_root, leads_more, off_once, part_off}

-- ---- what is put into a draft

pub two_off : (old new : List Drafted) (page q : ℕ) (one other : List ℕ) (free left : List ℕ) → PutsTwo old new page one q other → free ≡ left ++ q ∷ [] → StaysOff page old new free left
two_off old new page q one other free left puts popped image m ne e =
    two_others old new page q one other puts image m ne (not_taken q m (count_in m left) (count_in m free) (taken_last free left q popped m) e)

pub moved_keeps : (old new : List Drafted) (q : ℕ) (page : List ℕ) (free left : List ℕ) (r : Result (Unit {0}) TreeError) → OnOk r (PutsOne old new q page) → free ≡ left ++ q ∷ [] → OnOk r (StaysTaken old new free left)
moved_keeps old new q page free left (Ok u) puts popped = λ image m e. puts image m ∙ another m q page (shown old image m) (not_taken q m (count_in m left) (count_in m free) (taken_last free left q popped m) e)
moved_keeps old new q page free left (Err e) puts popped = tt

-- ---- below a page

-- what isn't met below a page is another page, and isn't met below its child
pub away : {P E : Type 0} (s : Scale P E) (pages : ℕ → Node P E) (levels page : ℕ) (key : P) (front : List (Child P)) (t : Child P) (back : List (Child P)) (m : ℕ) → pages page ≡ Inner (front ++ t ∷ back)
    → times m (walk s pages (suc levels) (record { key = key; page = page })) ≡ 0 → times m (walk s pages levels (own key front t)) ≡ 0
unfolding walk
away s pages zero page key front t back m is none = refl
away s pages (suc lower) page key front t back m is none = let h = times_inner s pages lower (record { key = key; page = page }) front t back m is in omega (arith, h, none)

pub counts_between : (f b l t u : ℕ) → f ≡ b + t → b ≡ l + u → f ≡ l → (f ≡ b) × (b ≡ l)
counts_between f b l t u h i e = (omega (arith, h, i, e), omega (arith, h, i, e))

pub count_parts : (n : ℕ) (a b : List ℕ) → count_in n (a ++ b) ≡ count_in n a + count_in n b
count_parts n [] b = omega arith
count_parts n (x ∷ a) b = let h = count_parts n a b in omega (arith, h)

pub fewer_taken : (n : ℕ) (free left : List ℕ) (f : IsFront left free) → count_in n free ≡ count_in n left + count_in n f.0
fewer_taken n free left f = ap (count_in n) f.1 ∙ count_parts n left f.0

pub here_keeps : {P E : Type 0} (s : Scale P E) (pages : ℕ → Node P E) (image : Image) (old new : List Drafted) (page : ℕ) (free left : List ℕ) → StaysOff page old new free left → KeepsBytes s pages image old new 1 page free left
here_keeps s pages image old new page free left off key m none e = off image m (leaf_other s pages zero page m key none) e

above_keeps : {P E : Type 0} (s : Scale P E) (x : E) (pages : ℕ → Node P E) (image : Image) (old mid new : List Drafted) (levels page place child : ℕ) (free between left : List ℕ) → LeadsDown s x (pages page) place child
    → KeepsBytes s pages image old mid levels child free between → StaysOff page mid new between left → IsFront between free → IsFront left between → KeepsBytes s pages image old new (suc levels) page free left
above_keeps {P} s x pages image old mid new levels page place child free between left leads below off first last key m none e =
    let c = counts_between (count_in m free) (count_in m between) (count_in m left) _ _ (fewer_taken m free between first) (fewer_taken m between left last) e in
    let away_from = subst (λ (u : Child P). times m (walk s pages levels u) ≡ 0) (own_is key leads.front leads.child child leads.to) (away s pages levels page key leads.front leads.child leads.back m leads.is none) in
    off image m (leaf_other s pages levels page m key none) c.1 ∙ below (own key leads.front leads.child).key m away_from c.0

pub one_suc : (n : ℕ) → suc n ≡ n + 1
one_suc n = omega arith

pub grown_keeps : {P E : Type 0} (node : List ℕ → Node P E) (s : Scale P E) (x : E) (old mid new : List Drafted) (image later : Image) (page place child levels : ℕ) (bytes : List ℕ) (free between left : List ℕ) (r : Result (Grown P) TreeError)
    → later ≡ image → bytes ≡ shown old image page → LeadsDown s x (node bytes) place child → KeepsBytes s (nodes node old later) later old mid levels child free between
    → OnOk r (StaysOff page mid new between left) → IsFront between free → IsFront left between → IfOk r (λ g. g.levels ≡ levels + 1)
    → IfOk r (λ g. KeepsBytes s (nodes node old image) image old new g.levels page free left)
grown_keeps node s x old mid new image later page place child levels bytes free between left (Err e) kept read leads below off first last is = tt
grown_keeps node s x old mid new image later page place child levels bytes free between left (Ok g) kept read leads below off first last is =
    subst (λ l. KeepsBytes s (nodes node old image) image old new l page free left) (one_suc levels ∙ sym is)
    (above_keeps s x (nodes node old image) image old mid new levels page place child free between left (subst (λ b. LeadsDown s x (node b) place child) read leads)
    (subst (λ (i : Image). KeepsBytes s (nodes node old i) i old mid levels child free between) kept below) off first last)

-- ---- below a page that lost an entry

abbrev pub LossKeeps : {P E : Type 0} → (List ℕ → Node P E) → Scale P E → Image → List Drafted → ℕ → Option (Shrunk E) → Type 0
LossKeeps node s image new page found = IfSome found (λ shrunk. KeepsBytes s (pages_of node image) image [] new shrunk.levels page [] [])

pub here_less : {P E : Type 0} (node : List ℕ → Node P E) (s : Scale P E) (image : Image) (old new : List Drafted) (page : ℕ) (r : Result (Option (Shrunk E)) TreeError)
    → OnOk r (StaysOff page old new [] []) → IfOk r (λ found. IfSome found (λ shrunk. shrunk.levels ≡ 1)) → old ≡ [] → IfOk r (LossKeeps node s image new page)
here_less node s image old new page (Err e) off is fresh = tt
here_less node s image old new page (Ok None) off is fresh = tt
here_less node s image old new page (Ok (Some shrunk)) off is fresh =
    subst (λ l. KeepsBytes s (pages_of node image) image [] new l page [] []) (sym is)
    (here_keeps s (pages_of node image) image [] new page [] [] (subst (λ (d : List Drafted). StaysOff page d new [] []) fresh off))

pub down_less : {P E : Type 0} (node : List ℕ → Node P E) (s : Scale P E) (x : E) (image later : Image) (mid new : List Drafted) (page place child : ℕ) (bytes : List ℕ) (shrunk : Shrunk E) (found : Option (Shrunk E)) (r : Result (Option (Shrunk E)) TreeError)
    → IfOk r (λ found. found ≡ Some (record { entry = shrunk.entry; kept = kept_in found; levels = shrunk.levels + 1 })) → OnOk r (StaysOff page mid new [] [])
    → later ≡ image → bytes ≡ page_of image page → LeadsDown s x (node bytes) place child → found ≡ Some shrunk → LossKeeps node s later mid child found → IfOk r (LossKeeps node s image new page)
down_less node s x image later mid new page place child bytes shrunk found (Err e) same off kept read leads is below = tt
down_less {E = E} node s x image later mid new page place child bytes shrunk found (Ok answer) same off kept read leads is below =
    let there = subst (λ (i : Image). KeepsBytes s (pages_of node i) i [] mid shrunk.levels child [] []) kept (subst (λ (o : Option (Shrunk E)). LossKeeps node s later mid child o) is below) in
    subst (LossKeeps node s image new page) (sym same)
    (subst (λ l. KeepsBytes s (pages_of node image) image [] new l page [] []) (one_suc shrunk.levels)
    (above_keeps s x (pages_of node image) image [] mid new shrunk.levels page place child [] [] [] (subst (λ b. LeadsDown s x (node b) place child) read leads) there off ([], refl) ([], refl)))

-- ---- a root

-- what isn't a page of the tree isn't met below the root's child
pub off_child : {P E : Type 0} (s : Scale P E) → IsOrder s → (pages : ℕ → Node P E) (root : Node P E) (lower : ℕ) (front : List (Child P)) (t : Child P) (back : List (Child P)) (n : ℕ)
    → root ≡ Inner (front ++ t ∷ back) → tree_of s pages root ≡ walk s (with_root root pages) (suc (suc lower)) (top s) → Rises s s.least (walk s (with_root root pages) (suc (suc lower)) (top s)) None
    → footprint s pages root n ≡ 0 → times n (walk s pages (suc lower) (own s.least front t)) ≡ 0
off_child s o pages root lower front t back n is tree rises foot =
    let ms = walk s (with_root root pages) (suc (suc lower)) (top s) in
    let u = own s.least front t in
    let off = part_off s o root pages lower front t back is rises in
    let zero_at = off_once (times no_page ms) _ (times no_page (walk s (with_root root pages) (suc lower) u)) _ (times_inner s (with_root root pages) lower (top s) front t back no_page is) (each_once s o (with_root root pages) (suc (suc lower)) (top s) s.least None rises no_page) in
    ap (times n) off ∙ elim (off_foot s pages root ms n tree foot) [
      | inl e ↦ subst (λ m. times m (walk s (with_root root pages) (suc lower) u) ≡ 0) (sym e) zero_at
      | inr z ↦ let h = times_inner s (with_root root pages) lower (top s) front t back n is in omega (arith, h, z)
    ]

pub always_keeps : {P E : Type 0} (node : List ℕ → Node P E) (s : Scale P E) → IsOrder s → (x : E) (image : Image) (root : Node P E) (old mid new : List Drafted) (place child levels blocks : ℕ) (free between left : List ℕ) (more : Option (Sibling P)) (r : Result (Unit {0}) TreeError)
    → AllBelow blocks free → blocks ≤ no_page → LeadsDown s x root place child → Grew s x (nodes node old image) (nodes node mid image) levels child (children_of more) free between
    → KeepsBytes s (nodes node old image) image old mid levels child free between → OnOk r (StaysTaken mid new between left) → IsFront between free → IsFront left between
    → OnOk r (KeepsAlways s x (nodes node old image) root image old new free left)
always_keeps node s o x image root old mid new place child levels blocks free between left more (Err e) below within leads grew keeps stays first last = tt
always_keeps {P} node s o x image root old mid new place child levels blocks free between left more (Ok u) below within leads grew keeps stays first last = λ es spelled apart spare n foot e.
    let pages = nodes node old image in
    let w = below_root s o x es pages root place child levels blocks free below within leads grew.ends spelled apart spare in
    let c = counts_between (count_in n free) (count_in n between) (count_in n left) _ _ (fewer_taken n free between first) (fewer_taken n between left last) e in
    let none = off_child s o pages root w.lower leads.front leads.child leads.back n leads.is w.is w.ready.rises foot in
    let there = subst (λ (v : Child P). times n (walk s pages (suc w.lower) v) ≡ 0) (own_is s.least leads.front leads.child child leads.to) none in
    stays image n c.1 ∙ keeps (own s.least leads.front leads.child).key n (subst (λ l. times n (walk s pages l (record { key = (own s.least leads.front leads.child).key; page = child })) ≡ 0) (sym w.level) there) c.0

pub others_keep : {P E : Type 0} (node : List ℕ → Node P E) (s : Scale P E) → IsOrder s → (x : E) (image : Image) (root : Node P E) (mid : List Drafted) (place child : ℕ) (shrunk : Shrunk E) (freed : List ℕ)
    → LeadsDown s x root place child → Shrank s shrunk.entry (pages_of node image) (nodes node mid image) shrunk.levels child shrunk.kept [] freed
    → KeepsBytes s (pages_of node image) image [] mid shrunk.levels child [] [] → KeepsOthers s (pages_of node image) root image mid
others_keep {P} {E} node s o x image root mid place child shrunk freed leads shrank keeps es spelled n foot =
    let pages = pages_of node image in
    elim (stands s pages root es spelled) [
      | inl empty ↦ absurd (leads_more P E (leads.front ++ leads.child ∷ leads.back) (sym leads.is ∙ empty.0))
      | inr st ↦
          let l = inner_level s (with_root root pages) st.levels (top s) (leads.front ++ leads.child ∷ leads.back) s.least None leads.is st.rises in
          let r = subst (λ i. Rises s s.least (walk s (with_root root pages) i (top s)) None) l.1 st.rises in
          let part = inner_part s o (with_root root pages) l.0 (top s) leads.front leads.child leads.back s.least None leads.is r in
          let u = own s.least leads.front leads.child in
          let off = part_off s o root pages l.0 leads.front leads.child leads.back leads.is r in
          let level = ends_level s o pages shrunk.levels (suc l.0) u part.0 (Some part.1) (subst (EndsAt pages shrunk.levels) (sym (own_page s.least leads.front leads.child ∙ leads.to)) shrank.ends) (subst (λ ms. Rises s part.0 ms (Some part.1)) (sym off) part.2) in
          let none = off_child s o pages root l.0 leads.front leads.child leads.back n leads.is (st.is ∙ ap (λ i. walk s (with_root root pages) i (top s)) l.1) r foot in
          keeps u.key n (subst (λ i. times n (walk s pages i (record { key = u.key; page = child })) ≡ 0) level (subst (λ (v : Child P). times n (walk s pages (suc l.0) v) ≡ 0) (own_is s.least leads.front leads.child child leads.to) none)) refl
    ]
