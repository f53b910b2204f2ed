-- A removal, and then first keys made the least ones.
use Rattle.std.proofs.Common.{◌≡◌, ◌≤◌, inl, inr, refl, sym, ap, ◌∙◌, subst, ℕ, zero, suc, ◌+◌, ◌==◌, Bool, true, false, List, [], ◌∷◌, ◌++◌, length, Option, Some, None, Result, Ok, Err, IfOk, IfNone, IfSome, arith}
use Rattle.std.specs.List.{flat_map}
use Rattle.std.proofs.lemmas.Bool.{cases_eq, eqb-true, true≢false}
use Rattle.jfs_disk.specs.Image.{Image, page_of}
use Rattle.jfs_ranges.specs.declared.edit.Edit.{Edit}
use Rattle.jfs_tree.specs.Walk.{Child, Node, Leaf, Inner, Broken, Marks, Scale, IsOrder, Rises, times, placed, body, walk}
use Rattle.jfs_tree.specs.Spells.{with_root, one_more, below_first, levels_of, along_first, first_path, top, spells, footprint}
use Rattle.jfs_tree.specs.Edit.{IsCons, own}
use Rattle.jfs_tree.specs.Form.{IsLeaf}
use Rattle.jfs_tree.specs.Draft.{shown}
use Rattle.jfs_bits.specs.declared.rule.Rule.{Rule}
use Rattle.jfs_tree.specs.Call.{nodes, pages_of, IsRead, PutsOne}
use Rattle.jfs_tree.specs.Path.{TellsBroken}
use Rattle.jfs_tree.specs.Root.{NamesBroken}
use Rattle.jfs_tree.specs.Fresh.{HasPages, after_tx}
use Rattle.jfs_tree.specs.Adds.{read_as}
use Rattle.jfs_tree.specs.Tell.{TellsDraft}
use Rattle.jfs_tree.specs.Removal.{Settles, TakesRow}
use Rattle.jfs_tree.specs.RootLoss.{KeepsOthers, RemovesAlways, RootLost}
use Rattle.jfs_tree.specs.Leftmost.{IsLeftmost, LeastDown, StaysLeftmost, LowersTree, LeavesAlone, LeavesOrGoes, RootOrGoes}
use Rattle.jfs_tree.specs.declared.draft.Drafted.{Drafted}
use Rattle.jfs_tree.specs.declared.form.TreeError.{TreeError}
use Rattle.jfs_tree.specs.declared.form.TreeError.TheVariants.{View, Bad, Memory}
use Rattle.jfs_tree.specs.declared.removal.Shrunk.{Shrunk}
use Rattle.jfs_tree.proofs.Adding.{inner_part}
use Rattle.jfs_tree.proofs.BytesKept.{off_child}
use Rattle.jfs_tree.proofs.Finding.{inner_level}
use Rattle.jfs_tree.proofs.Frame.{times-append}
use Rattle.jfs_tree.proofs.Footprint.{levels_suc}
use Rattle.jfs_tree.proofs.LeastFirst.{leaves_least, within_least, leaf_least}
use Rattle.jfs_tree.proofs.Lowered.{spells_lowered, footprint_lowered}
use Rattle.jfs_tree.proofs.RootCalls.{leads_more, part_off}
use Rattle.jfs_tree.proofs.Spelled.{levels_found, stands}
use Rattle.jfs_tree.proofs.Taking.{itself, another}

-- ---- the pages on the way are the tree's own

one_less : (o : Option ℕ) (k : ℕ) → one_more o ≡ Some (suc k) → o ≡ Some k
one_less None k e = cc
one_less (Some j) k e = cc

no_more : (o : Option ℕ) → one_more o ≡ Some 0 → ⊥
no_more None e = cc
no_more (Some j) e = cc

along_met : {P E : Type 0} (s : Scale P E) (f : ℕ → Marks P E) (nodes : ℕ → Node P E) (most : ℕ) (below : ℕ) (c : Child P) (n : ℕ) (node : Node P E)
    → ((d : Child P) (k : ℕ) → levels_of nodes most d.page ≡ Some k → times n (f d.page) ≤ times n (walk s nodes k d)) → below_first (levels_of nodes most) node ≡ Some below
    → times n (along_first f node) ≤ times n (body (walk s nodes below) c (placed s below c.key node))
along_met s f nodes most below c n (Leaf es) h l = omega arith
along_met s f nodes most below c n (Inner []) h l = omega arith
along_met {P} s f nodes most below c n (Inner (d ∷ ds)) h l =
    let u : Child P = record { key = c.key; page = d.page } in
    let t = levels_suc nodes most d.page below l in
    let k = h u below l in
    let a = times-append n (walk s nodes below u) (flat_map (walk s nodes below) ds) in
    subst (λ j. times n (f d.page) ≤ times n (body (walk s nodes below) c (placed s j c.key (Inner (d ∷ ds))))) (sym t.1) (omega (arith, a, k))
along_met s f nodes most below c n (Broken rule) h l = omega arith

-- what is met on the way down the first children is met on the walk
first_met : {P E : Type 0} (s : Scale P E) (nodes : ℕ → Node P E) (n most : ℕ) (c : Child P) (levels : ℕ) → levels_of nodes most c.page ≡ Some levels → times n (first_path nodes most c.page) ≤ times n (walk s nodes levels c)
unfolding levels_of first_path walk
first_met s nodes n zero c levels l = cc
first_met s nodes n (suc most) c zero l = absurd (no_more (below_first (levels_of nodes most) (nodes c.page)) l)
first_met s nodes n (suc most) c (suc below) l =
    let h = along_met s (first_path nodes most) nodes most below c n (nodes c.page) (λ d k. first_met s nodes n most d k) (one_less (below_first (levels_of nodes most) (nodes c.page)) below l) in
    omega (arith, h)

-- a page that isn't the tree's own isn't on its leftmost way
first_off : {P E : Type 0} (s : Scale P E) → IsOrder s → (pages : ℕ → Node P E) (root : Node P E) (es : List E) (n : ℕ) → spells s pages root ≡ Ok es → footprint s pages root n ≡ 0 → times n (along_first (first_path pages 7) root) ≡ 0
first_off s o pages (Leaf rows) es n spelled foot = refl
first_off s o pages (Inner []) es n spelled foot = refl
first_off {P} {E} s o pages (Inner (c ∷ cs)) es n spelled foot =
    elim (stands s pages (Inner (c ∷ cs)) es spelled) [
      | inl empty ↦ absurd (leads_more P E (c ∷ cs) empty.0)
      | inr st ↦
          let root : Node P E = Inner (c ∷ cs) in
          let l = inner_level s (with_root root pages) st.levels (top s) (c ∷ cs) s.least None refl st.rises in
          let r = subst (λ i. Rises s s.least (walk s (with_root root pages) i (top s)) None) l.1 st.rises in
          let part = inner_part s o (with_root root pages) l.0 (top s) [] c cs s.least None refl r in
          let u = own s.least [] c in
          let off = part_off s o root pages l.0 [] c cs refl r in
          let none = off_child s o pages root l.0 [] c cs n refl (st.is ∙ ap (λ i. walk s (with_root root pages) i (top s)) l.1) r foot in
          let found = levels_found s o pages (suc l.0) 7 u part.0 (Some part.1) (let m = st.most in let i = l.1 in omega (arith, m, i)) (subst (λ ms. Rises s part.0 ms (Some part.1)) (sym off) part.2) in
          let met = first_met s pages n 7 u (suc l.0) found in
          omega (arith, met, none)
    ]
first_off s o pages (Broken rule) es n spelled foot = refl

-- ---- the removal

off_old : (n a f o : ℕ) → a + f ≡ o → o ≡ 0 → a ≡ 0
off_old n a f o e z = omega (arith, e, z)

pub lowered_removes : {P E : Type 0} (node : List ℕ → Node P E) (frame : List ℕ → List ℕ) (s : Scale P E) → IsOrder s → (x : E) (image : Image) (mid new : List Drafted) (root between after : Node P E) (freed : List ℕ) (found : Option E)
    → RemovesAlways s x (pages_of node image) (nodes node mid image) root between freed found → LowersTree node frame s image mid new between after
    → RemovesAlways s x (pages_of node image) (nodes node new image) root after freed found
lowered_removes node frame s o x image mid new root between after freed None removes lowers es spelled = ((removes es spelled).0, tt)
lowered_removes node frame s o x image mid new root between after freed (Some e) removes lowers es spelled =
    let a = removes es spelled in (
      a.0,
      record {
        list = a.1.list;
        spelled = spells_lowered s (nodes node mid image) (nodes node new image) between after lowers.lowered lowers.root_lowered ∙ a.1.spelled;
        gone = a.1.gone;
        pages = λ n. let f = footprint_lowered s (nodes node mid image) (nodes node new image) between after lowers.lowered lowers.root_lowered n in let p = a.1.pages n in omega (arith, f, p);
        keeps = λ n z.
            let none = off_old n _ _ _ (a.1.pages n) z in
            ap node (lowers.keeps n (first_off s o (nodes node mid image) between a.1.list n a.1.spelled none)) ∙ a.1.keeps n z;
      },
    )

pub lowered_keeps : {P E : Type 0} (node : List ℕ → Node P E) (frame : List ℕ → List ℕ) (s : Scale P E) → IsOrder s → (x : E) (image : Image) (mid new : List Drafted) (root between after : Node P E) (freed : List ℕ) (found : Option E) (X Y : Type 0) → IsCons freed → IfNone found (X × Y × (freed ≡ []))
    → RemovesAlways s x (pages_of node image) (nodes node mid image) root between freed found → KeepsOthers s (pages_of node image) root image mid → LowersTree node frame s image mid new between after
    → KeepsOthers s (pages_of node image) root image new
lowered_keeps node frame s o x image mid new root between after freed None X Y some none removes keeps lowers es spelled n foot = absurd (subst IsCons none.2 some)
lowered_keeps node frame s o x image mid new root between after freed (Some e) X Y some none removes keeps lowers es spelled n foot =
    let a = (removes es spelled).1 in
    lowers.keeps n (first_off s o (nodes node mid image) between a.list n a.spelled (off_old n _ _ _ (a.pages n) foot)) ∙ keeps es spelled n foot

-- ---- in the words of the call

pub lowered_as : {P E : Type 0} (node : List ℕ → Node P E) (frame : List ℕ → List ℕ) (s : Scale P E) (image later : Image) (old new : List Drafted) (root after : Node P E) → later ≡ image → LowersTree node frame s later old new root after → LowersTree node frame s image old new root after
lowered_as node frame s image later old new root after same lowers = subst (λ (i : Image). LowersTree node frame s i old new root after) same lowers

pub bare_is : (ns : List ℕ) (empty : Bool) → empty ≡ (length ns == 0) → empty ≡ true → ns ≡ []
bare_is [] empty is e = refl
bare_is (n ∷ ns) empty is e = absurd (let l = eqb-true (length (n ∷ ns)) 0 (sym is ∙ e) in omega (arith, l))

pub some_is : (ns : List ℕ) (empty : Bool) → empty ≡ (length ns == 0) → empty ≡ false → IsCons ns
some_is [] empty is e = absurd (true≢false (sym is ∙ e))
some_is (n ∷ ns) empty is e = tt

pub absent_not : {E : Type 0} (X : Type 0) (found : Option E) (old new : List ℕ) (drafts : List Drafted) (freed : List ℕ) → IsCons freed → IfNone found ((new ≡ old) × (drafts ≡ []) × (freed ≡ [])) → IfNone found X
absent_not X None old new drafts freed some absent = absurd (subst IsCons absent.2 some)
absent_not X (Some e) old new drafts freed some absent = tt

pub names_read : {P E : Type 0} (s : Scale P E) (pages : ℕ → Node P E) (root : Node P E) (e : TreeError) → IsRead e → NamesBroken s pages root e
names_read s pages root (View e) h = tt
names_read s pages root (Bad page rule) h = absurd h
names_read s pages root Memory h = tt

pub tells_read : (T : Type 0) (first : Option (ℕ × Rule)) (e : TreeError) → IsRead e → TellsBroken {T = T} first (Err e)
tells_read T first (View e) h = tt
tells_read T first (Bad page rule) h = absurd h
tells_read T first Memory h = tt

-- where no page went, inner pages are as they were
pub stays_least : {P E : Type 0} (s : Scale P E) (old new : ℕ → Node P E) (root after : Node P E) (freed : List ℕ) → RootOrGoes old new root after freed → freed ≡ [] → IsLeftmost s old root → IsLeftmost s new after
stays_least s old new root after freed (inl (alone, inl e)) none h = subst (LeastDown s new 8) (sym e) (leaves_least s old new alone 8 root h)
stays_least s old new root after freed (inl (alone, inr leaf)) none h = subst (LeastDown s new 8) (sym leaf.1) (leaf_least s new 8 leaf.0)
stays_least s old new root after freed (inr some) none h = absurd (subst IsCons none some)

-- ---- what is put into the draft

pub more_some : (free freed : List ℕ) (page : ℕ) → freed ≡ free ++ page ∷ [] → IsCons freed
more_some [] freed page e = subst IsCons (sym e) tt
more_some (n ∷ ns) freed page e = subst IsCons (sym e) tt

put_leaf : {P E : Type 0} (node : List ℕ → Node P E) (image : Image) (old new : List Drafted) (page : ℕ) (put : List ℕ) → PutsOne old new page put → IsLeaf (nodes node old image page) → IsLeaf (node put) → LeavesAlone (nodes node old image) (nodes node new image)
put_leaf node image old new page put puts was is n = elim (cases_eq n page) [
  | inl e ↦ inr (subst (λ m. IsLeaf (nodes node old image m)) (sym e) was, subst (λ m. IsLeaf (nodes node new image m)) (sym e) (subst IsLeaf (sym (ap node (puts image page ∙ itself page put (shown old image page)))) is))
  | inr o ↦ inl (ap node (puts image n ∙ another n page put (shown old image n) o))
]

-- a leaf that is kept, or went
pub leaf_goes : {P E : Type 0} (node : List ℕ → Node P E) (image : Image) (old new : List Drafted) (page : ℕ) (put : List ℕ) (kept : Bool) (free freed : List ℕ)
    → Settles kept page put old new free freed → IsLeaf (nodes node old image page) → IsLeaf (node put) → LeavesOrGoes (nodes node old image) (nodes node new image) kept freed
leaf_goes node image old new page put true free freed settles was is = inl (refl, put_leaf node image old new page put settles.0 was is)
leaf_goes node image old new page put false free freed settles was is = inr (more_some free freed page settles.1)

pub leaf_answers : {P E : Type 0} (node : List ℕ → Node P E) (s : Scale P E) (x e : E) (image : Image) (old new : List Drafted) (page : ℕ) (bytes put : List ℕ) (kept : Bool) (free freed : List ℕ)
    → Settles kept page put old new free freed → IsLeaf (node bytes) → TakesRow s x (node bytes) (node put) (Some e) → bytes ≡ shown old image page → LeavesOrGoes (nodes node old image) (nodes node new image) kept freed
leaf_answers node s x e image old new page bytes put kept free freed settles leaf takes read =
    let t = takes leaf.0 leaf.1 in
    leaf_goes node image old new page put kept free freed settles (subst (λ b. IsLeaf (node b)) read leaf) (t.1.0, t.1.2)

-- what a call below a page leaves, as its answer has it
abbrev pub GoesTo : {P E : Type 0} → (List ℕ → Node P E) → Image → List Drafted → List ℕ → Option (Shrunk E) → Type 0
GoesTo node image new freed found = IfSome found (λ shrunk. LeavesOrGoes (pages_of node image) (nodes node new image) shrunk.kept freed)

pub here_goes : {P E : Type 0} (node : List ℕ → Node P E) (image : Image) (old new : List Drafted) (page : ℕ) (bytes freed : List ℕ) (result : Result (Option (Shrunk E)) TreeError)
    → IfOk result (λ found. IfSome found (λ shrunk. (image : Image) → bytes ≡ shown old image page → LeavesOrGoes (nodes node old image) (nodes node new image) shrunk.kept freed))
    → old ≡ [] → bytes ≡ shown old image page → IfOk result (GoesTo node image new freed)
here_goes node image old new page bytes freed (Err e) did fresh read = tt
here_goes node image old new page bytes freed (Ok None) did fresh read = tt
here_goes node image old new page bytes freed (Ok (Some shrunk)) did fresh read = subst (λ (d : List Drafted). LeavesOrGoes (nodes node d image) (nodes node new image) shrunk.kept freed) fresh (did image read)

pub down_goes : {P E : Type 0} (node : List ℕ → Node P E) (image later : Image) (mid new : List Drafted) (between freed : List ℕ) (shrunk : Shrunk E) (found : Option (Shrunk E)) (result : Result (Option (Shrunk E)) TreeError)
    → IfOk result (λ found. IfSome found (λ more. (image : Image) (before : ℕ → Node P E) → LeavesOrGoes before (nodes node mid image) shrunk.kept between → LeavesOrGoes before (nodes node new image) more.kept freed))
    → later ≡ image → found ≡ Some shrunk → GoesTo node later mid between found → IfOk result (GoesTo node image new freed)
down_goes node image later mid new between freed shrunk found (Err e) did same is below = tt
down_goes node image later mid new between freed shrunk found (Ok None) did same is below = tt
down_goes {P} {E} node image later mid new between freed shrunk found (Ok (Some more)) did same is below =
    did image (pages_of node image) (subst (λ (i : Image). LeavesOrGoes (pages_of node i) (nodes node mid i) shrunk.kept between) same (subst (λ (o : Option (Shrunk E)). GoesTo node later mid between o) is below))

-- a page above one that went
pub place_goes : {P E : Type 0} (before mid new : ℕ → Node P E) (old after : List Drafted) (page : ℕ) (put : List ℕ) (kept gone : Bool) (free freed : List ℕ) → gone ≡ false → Settles kept page put old after free freed
    → LeavesOrGoes before mid gone free → LeavesOrGoes before new kept freed
place_goes before mid new old after page put kept gone free freed away settles (inl h) = absurd (true≢false (sym h.0 ∙ away))
place_goes before mid new old after page put true gone free freed away settles (inr some) = inr (subst IsCons (sym settles.1) some)
place_goes before mid new old after page put false gone free freed away settles (inr some) = inr (more_some free freed page settles.1)

-- a root whose child stayed, or went
pub root_goes : {P E : Type 0} (old new : ℕ → Node P E) (root after : Node P E) (place : ℕ) (kept : Bool) (freed : List ℕ) → LeavesOrGoes old new kept freed → RootLost place kept root after → RootOrGoes old new root after freed
root_goes old new root after place kept freed (inr some) did = inr some
root_goes old new root after place true freed (inl h) did = inl (h.1, inl did)
root_goes old new root after place false freed (inl h) did = absurd (true≢false (sym h.0))

-- a root that is a leaf
pub leaf_root_goes : {P E : Type 0} (node : List ℕ → Node P E) (s : Scale P E) (x : E) (image : Image) (drafts : List Drafted) (root after : Node P E) (freed : List ℕ) (found : Option E) → drafts ≡ [] → IsLeaf root → TakesRow s x root after found → (found ≡ None → after ≡ root)
    → RootOrGoes (pages_of node image) (nodes node drafts image) root after freed
leaf_root_goes node s x image drafts root after freed None fresh leaf takes same = inl (λ n. inl (ap (λ d. node (shown d image n)) fresh), inl (same refl))
leaf_root_goes node s x image drafts root after freed (Some e) fresh leaf takes same = let t = takes leaf.0 leaf.1 in inl (λ n. inl (ap (λ d. node (shown d image n)) fresh), inr (t.1.0, t.1.2))

pub none_kept : {P E : Type 0} (node : List ℕ → Node P E) (old new : List ℕ) (found : Option E) → IfNone found (new ≡ old) → found ≡ None → node new ≡ node old
none_kept node old new None same is = ap node same
none_kept node old new (Some e) same is = cc

-- nothing changed
pub nothing_goes : {P E : Type 0} (node : List ℕ → Node P E) (image : Image) (drafts : List Drafted) (root : Node P E) (freed : List ℕ) → drafts ≡ [] → RootOrGoes (pages_of node image) (nodes node drafts image) root root freed
nothing_goes node image drafts root freed fresh = inl (λ n. inl (ap (λ d. node (shown d image n)) fresh), inl refl)

-- ---- seen from the transaction

pub stays_told : {P E : Type 0} (s : Scale P E) (node : List ℕ → Node P E) (blocks : ℕ) (image : Image) (drafts : List Drafted) (root after : Node P E) (tx later : List Edit) → HasPages blocks after → ((bytes : List ℕ) → HasPages blocks (node bytes))
    → (IsLeftmost s (pages_of node image) root → IsLeftmost s (nodes node drafts image) after) → TellsDraft blocks image drafts tx later → StaysLeftmost s node blocks (page_of image) root after tx later
stays_told s node blocks image drafts root after tx later top_has has stays told h base leads =
    within_least s (nodes node drafts image) (read_as node (after_tx base later)) blocks (λ m. has (shown drafts image m)) (λ n l. ap node (told n l (base n) (leads n l).0 (leads n l).1)) 8 after top_has (stays h)

pub stays_same : {P E : Type 0} (s : Scale P E) (node : List ℕ → Node P E) (blocks : ℕ) (pages : ℕ → List ℕ) (root after : Node P E) (tx later : List Edit) → HasPages blocks root → ((bytes : List ℕ) → HasPages blocks (node bytes))
    → after ≡ root → later ≡ tx → StaysLeftmost s node blocks pages root after tx later
stays_same s node blocks pages root after tx later top_has has same told h base leads =
    subst (LeastDown s (read_as node (after_tx base later)) 8) (sym same)
    (within_least s (read_as node pages) (read_as node (after_tx base later)) blocks (λ m. has (pages m)) (λ n l. ap node (ap (λ es. after_tx base es n) told ∙ (leads n l).1)) 8 root top_has h)
