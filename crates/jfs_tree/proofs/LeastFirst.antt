-- The first keys on the leftmost way.
use Rattle.std.proofs.Common.{◌≡◌, ◌≢◌, ◌<◌, inl, inr, refl, sym, ap, ◌∙◌, subst, ℕ, zero, suc, ◌+◌, ◌==◌, Bool, true, false, if◌then◌else◌, List, [], ◌∷◌, Some, None, Result, Ok, Err, OnOk, arith}
use Rattle.std.proofs.lemmas.Bool.{cases_eq, eq-eqb}
use Rattle.jfs_disk.specs.Image.{Image}
use Rattle.jfs_tree.specs.Walk.{Child, Node, Leaf, Inner, Broken, Page, Marks, Scale, times}
use Rattle.jfs_tree.specs.Spells.{along_first, first_path}
use Rattle.jfs_tree.specs.Draft.{shown}
use Rattle.jfs_tree.specs.Call.{nodes, PutsOne}
use Rattle.jfs_tree.specs.Fresh.{HasPages}
use Rattle.jfs_tree.specs.Leftmost.{LeastDown, LowersFirst, LowersBelow, LowersTree, IsLowered, LeavesAlone, lowest}
use Rattle.jfs_tree.specs.declared.draft.Drafted.{Drafted}
use Rattle.jfs_tree.specs.declared.form.TreeError.{TreeError}
use Rattle.jfs_tree.proofs.Lowered.{lowered_on, lowered_path}
use Rattle.jfs_tree.proofs.Putting.{put_framed}
use Rattle.jfs_tree.proofs.Taking.{itself, another}

-- ---- what stays as it was

pub leaf_least : {P E : Type 0} (s : Scale P E) (pages : ℕ → Node P E) (most : ℕ) (es : List E) → LeastDown s pages most (Leaf es)
unfolding LeastDown
leaf_least s pages zero es = tt
leaf_least s pages (suc most) es = tt

-- leaves don't matter
pub leaves_least : {P E : Type 0} (s : Scale P E) (old new : ℕ → Node P E) → LeavesAlone old new → (most : ℕ) (node : Node P E) → LeastDown s old most node → LeastDown s new most node
unfolding LeastDown
leaves_least s old new alone zero node h = tt
leaves_least s old new alone (suc most) (Leaf es) h = tt
leaves_least s old new alone (suc most) (Inner []) h = tt
leaves_least s old new alone (suc most) (Inner (c ∷ cs)) h = (
  h.0,
  elim (alone c.page) [
    | inl e ↦ subst (LeastDown s new most) (sym e) (leaves_least s old new alone most (old c.page) h.1)
    | inr leaves ↦ subst (LeastDown s new most) (sym leaves.1.1) (leaf_least s new most leaves.1.0)
  ],
)
leaves_least s old new alone (suc most) (Broken rule) h = tt

-- pages that are the same below a bound
pub within_least : {P E : Type 0} (s : Scale P E) (old new : ℕ → Node P E) (bound : ℕ) → ((m : ℕ) → HasPages bound (old m)) → ((m : ℕ) → m < bound → new m ≡ old m) → (most : ℕ) (node : Node P E) → HasPages bound node
    → LeastDown s old most node → LeastDown s new most node
unfolding LeastDown
within_least s old new bound all same zero node has h = tt
within_least s old new bound all same (suc most) (Leaf es) has h = tt
within_least s old new bound all same (suc most) (Inner []) has h = tt
within_least s old new bound all same (suc most) (Inner (c ∷ cs)) has h = (
  h.0,
  subst (LeastDown s new most) (sym (same c.page (has (c ∷ cs) refl).0)) (within_least s old new bound all same most (old c.page) (all c.page) h.1),
)
within_least s old new bound all same (suc most) (Broken rule) has h = tt

-- ---- from a page on

-- a page without children ends the way
none_least : {P E : Type 0} (s : Scale P E) (pages : ℕ → Node P E) (most : ℕ) (node : Node P E) → ((c : Child P) (cs : List (Child P)) → node ≡ Inner (c ∷ cs) → ⊥) → LeastDown s pages most node
unfolding LeastDown
none_least s pages zero node none = tt
none_least s pages (suc most) (Leaf es) none = tt
none_least s pages (suc most) (Inner []) none = tt
none_least s pages (suc most) (Inner (c ∷ cs)) none = absurd (none c cs refl)
none_least s pages (suc most) (Broken rule) none = tt

one_least : {P E : Type 0} (s : Scale P E) (pages : ℕ → Node P E) (most : ℕ) (page : ℕ) (cs : List (Child P)) → LeastDown s pages most (pages page) → LeastDown s pages (suc most) (Inner (record { key = s.least; page = page } ∷ cs))
unfolding LeastDown
one_least s pages most page cs h = (refl, h)

-- a lowered page stays so
stays_lowest : {P E : Type 0} (s : Scale P E) (page : ℕ) (cs : List (Child P)) (new : Node P E) → IsLowered s (Inner (record { key = s.least; page = page } ∷ cs)) new → new ≡ Inner (record { key = s.least; page = page } ∷ cs)
stays_lowest s page cs new (inl e) = e
stays_lowest s page cs new (inr e) = e

pub lowers_end : {P E : Type 0} (node : List ℕ → Node P E) (frame : List ℕ → List ℕ) (s : Scale P E) (image : Image) (drafts : List Drafted) (most page : ℕ) → most ≡ 0 → LowersBelow node frame s image drafts drafts most page
unfolding LeastDown
lowers_end node frame s image drafts zero page e = record { least = tt; lowered = λ n. inl refl; frames = λ n. refl; keeps = λ n z. refl }
lowers_end node frame s image drafts (suc most) page e = absurd (omega (arith, e))

pub lowers_none : {P E : Type 0} (node : List ℕ → Node P E) (frame : List ℕ → List ℕ) (s : Scale P E) (image : Image) (drafts : List Drafted) (most page : ℕ) (bytes : List ℕ) (new : Node P E) → bytes ≡ shown drafts image page → LowersFirst s (node bytes) new None → LowersBelow node frame s image drafts drafts most page
lowers_none {P} node frame s image drafts most page bytes new read first = record {
  least = none_least s (nodes node drafts image) most (nodes node drafts image page) (λ (c : Child P) (cs : List (Child P)) is. first.1 c cs (ap node read ∙ is));
  lowered = λ n. inl refl;
  frames = λ n. refl;
  keeps = λ n z. refl;
}

-- what is put in a page's place
put_lowered : {P E : Type 0} (node : List ℕ → Node P E) (s : Scale P E) (image : Image) (old new : List Drafted) (page : ℕ) (put : List ℕ) → PutsOne old new page put → node put ≡ lowest s (nodes node old image page) → (n : ℕ) → IsLowered s (nodes node old image n) (nodes node new image n)
put_lowered node s image old new page put puts is n = elim (cases_eq n page) [
  | inl e ↦ inr (ap node (puts image n ∙ ap (λ m. if m == page then put else shown old image m) e ∙ itself page put (shown old image page)) ∙ is ∙ ap (λ m. lowest s (nodes node old image m)) (sym e))
  | inr o ↦ inl (ap node (puts image n ∙ another n page put (shown old image n) o))
]

not_met : {P E : Type 0} (n page : ℕ) (ms : Marks P E) → times n (Page page ∷ ms) ≡ 0 → (n ≢ page) × (times n ms ≡ 0)
not_met n page ms z = elim (cases_eq page n) [
  | inl e ↦ absurd (met (page == n) (times n ms) (eqb e) z)
  | inr o ↦ (λ e. o (sym e), (rest (page == n) (times n ms) z))
]
  where
    eqb : page ≡ n → (page == n) ≡ true
    eqb e = eq-eqb page n e

    met : (b : Bool) (k : ℕ) → b ≡ true → (if b then 1 else 0) + k ≡ 0 → ⊥
    met true k e h = omega (arith, h)
    met false k e h = cc

    rest : (b : Bool) (k : ℕ) → (if b then 1 else 0) + k ≡ 0 → k ≡ 0
    rest true k h = absurd (omega (arith, h))
    rest false k h = omega (arith, h)

path_on : {P E : Type 0} (pages : ℕ → Node P E) (most page : ℕ) (c : Child P) (cs : List (Child P)) → pages page ≡ Inner (c ∷ cs) → first_path pages (suc most) page ≡ Page page ∷ first_path pages most c.page
unfolding first_path
path_on pages most page c cs is = ap (λ node. Page page ∷ along_first (first_path pages most) node) is

pub lowers_on : {P E : Type 0} (node : List ℕ → Node P E) (frame : List ℕ → List ℕ) (s : Scale P E) (image : Image) (old mid new : List Drafted) (most less page child : ℕ) (bytes put : List ℕ) → most ≡ suc less → bytes ≡ shown old image page → LowersFirst s (node bytes) (node put) (Some child)
    → frame put ≡ frame bytes → PutsOne old mid page put → LowersBelow node frame s image mid new less child → LowersBelow node frame s image old new most page
lowers_on {P} {E} node frame s image old mid new most less page child bytes put more read first same puts below =
    let c = first.0 in
    let cs = first.1 in
    let was : nodes node old image page ≡ Inner (c ∷ cs) = ap node (sym read) ∙ first.2 in
    let is : node put ≡ Inner (record { key = s.least; page = c.page } ∷ cs) = first.3 ∙ ap (lowest s) first.2 in
    let there : nodes node mid image page ≡ Inner (record { key = s.least; page = c.page } ∷ cs) = ap node (puts image page ∙ itself page put (shown old image page)) ∙ is in
    let ends = stays_lowest s c.page cs (nodes node new image page) (subst (λ (m : Node P E). IsLowered s m (nodes node new image page)) there (below.lowered page)) in
    let step = put_lowered node s image old mid page put puts (first.3 ∙ ap (λ b. lowest s (node b)) read) in
    subst (λ (m : ℕ). LowersBelow node frame s image old new m page) (sym more)
    (record {
      least = subst (LeastDown s (nodes node new image) (suc less)) (sym ends) (one_least s (nodes node new image) less c.page cs (subst (λ (p : ℕ). LeastDown s (nodes node new image) less (nodes node new image p)) first.4 below.least));
      lowered = λ n. lowered_on s (nodes node old image n) (nodes node mid image n) (nodes node new image n) (step n) (below.lowered n);
      frames = λ n. below.frames n ∙ put_framed frame image old mid page bytes put puts (ap frame read) same n;
      keeps = λ n z.
          let off = not_met n page (first_path (nodes node old image) less c.page) (subst (λ (ms : Marks P E). times n ms ≡ 0) (path_on (nodes node old image) less page c cs was) z) in
          below.keeps n (subst (λ (p : ℕ). times n (first_path (nodes node mid image) less p) ≡ 0) (sym first.4) (ap (times n) (lowered_path s (nodes node old image) (nodes node mid image) step less c.page) ∙ off.1))
          ∙ puts image n ∙ another n page put (shown old image n) off.0;
    })

pub lowers_step : {P E : Type 0} (node : List ℕ → Node P E) (frame : List ℕ → List ℕ) (s : Scale P E) (image later : Image) (old mid new : List Drafted) (most less page child : ℕ) (bytes put : List ℕ) (r : Result (Unit {0}) TreeError) → most ≡ suc less → later ≡ image → bytes ≡ shown old image page
    → LowersFirst s (node bytes) (node put) (Some child) → frame put ≡ frame bytes → PutsOne old mid page put → OnOk r (LowersBelow node frame s later mid new less child) → OnOk r (LowersBelow node frame s image old new most page)
lowers_step node frame s image later old mid new most less page child bytes put (Err e) more same read first framed puts below = tt
lowers_step node frame s image later old mid new most less page child bytes put (Ok u) more same read first framed puts below =
    lowers_on node frame s image old mid new most less page child bytes put more read first framed puts (subst (λ (i : Image). LowersBelow node frame s i mid new less child) same below)

-- ---- from a root on

pub tree_none : {P E : Type 0} (node : List ℕ → Node P E) (frame : List ℕ → List ℕ) (s : Scale P E) (image : Image) (drafts : List Drafted) (root after : Node P E) → LowersFirst s root after None → LowersTree node frame s image drafts drafts root after
tree_none {P} node frame s image drafts root after first = record {
  least = none_least s (nodes node drafts image) 8 after (λ (c : Child P) (cs : List (Child P)) is. first.1 c cs (sym first.0 ∙ is));
  root_lowered = inl first.0;
  lowered = λ n. inl refl;
  frames = λ n. refl;
  keeps = λ n z. refl;
}

pub tree_on : {P E : Type 0} (node : List ℕ → Node P E) (frame : List ℕ → List ℕ) (s : Scale P E) (image : Image) (old new : List Drafted) (root after : Node P E) (page : ℕ) → LowersFirst s root after (Some page) → LowersBelow node frame s image old new 7 page → LowersTree node frame s image old new root after
tree_on {P} {E} node frame s image old new root after page first below =
    let c = first.0 in
    let cs = first.1 in
    let is : after ≡ Inner (record { key = s.least; page = c.page } ∷ cs) = first.3 ∙ ap (lowest s) first.2 in
    record {
      least = subst (LeastDown s (nodes node new image) 8) (sym is) (one_least s (nodes node new image) 7 c.page cs (subst (λ (p : ℕ). LeastDown s (nodes node new image) 7 (nodes node new image p)) first.4 below.least));
      root_lowered = inr first.3;
      lowered = below.lowered;
      frames = below.frames;
      keeps = λ n z. below.keeps n (subst (λ (p : ℕ). times n (first_path (nodes node old image) 7 p) ≡ 0) (sym first.4) (ap (λ m. times n (along_first (first_path (nodes node old image) 7) m)) (sym first.2) ∙ z));
    }

pub tree_step : {P E : Type 0} (node : List ℕ → Node P E) (frame : List ℕ → List ℕ) (s : Scale P E) (image : Image) (old new : List Drafted) (root after : Node P E) (page : ℕ) (r : Result (Unit {0}) TreeError) → LowersFirst s root after (Some page)
    → OnOk r (LowersBelow node frame s image old new 7 page) → OnOk r (LowersTree node frame s image old new root after)
tree_step node frame s image old new root after page (Err e) first below = tt
tree_step node frame s image old new root after page (Ok u) first below = tree_on node frame s image old new root after page first below
