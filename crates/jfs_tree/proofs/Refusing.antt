-- Why an entry is refused on its way, page by page.
use Rattle.std.proofs.Common.{◌≡◌, ◌≤◌, inl, inr, refl, sym, ap, ◌∙◌, subst, ℕ, suc, Bool, true, false, List, [], ◌∷◌, ◌++◌, map, if◌then◌else◌, Option, Some, None, Result, Ok, Err, IfOk, IfErr, arith}
use Rattle.jfs_bits.specs.declared.rule.Rule.{Rule}
use Rattle.jfs_bits.specs.declared.rule.Rule.TheVariants as rules
use Rattle.jfs_tree.specs.Walk.{Child, Node, Leaf, Inner, Broken, Row, Scale, Rises, IsOrder}
use Rattle.jfs_tree.specs.Spells.{no_page}
use Rattle.jfs_tree.specs.Edit.{IsApart, IsCons, FitsFirst, KeysAbove, KeysRise, with_entry}
use Rattle.jfs_tree.specs.Form.{Leads, LeadsDown, HasRisingKeys, as_child}
use Rattle.jfs_disk.specs.Image.{Image, page_of}
use Rattle.jfs_tree.specs.Adds.{read_as, on_page}
use Rattle.jfs_tree.specs.Call.{IsRead, nodes}
use Rattle.jfs_tree.specs.declared.draft.Drafted.{Drafted}
use Rattle.jfs_tree.specs.Path.{below_root, broken_at, broken_below, broken_on_way}
use Rattle.jfs_tree.specs.Room.{FullDown, GrowsWhereFull, at_page}
use Rattle.jfs_tree.specs.Refusal.{begin_of, end_of, IsBetween, AllBetween, FitsIn, FitsOnward, FitsDown, Misfits, ClashesAt, ClashesBelow, ClashesOnWay, HasAllLevels, TellsRefusal, TellsAdding, CutsRows, HereCut, ChildCut, GrownCut, HereClash, NeverRises, GrownClash, RootGrownClash, KeyFits, TellsGrowing}
use Rattle.jfs_tree.specs.declared.form.Sibling.{Sibling}
use Rattle.jfs_tree.specs.declared.form.TreeError.{TreeError}
use Rattle.jfs_tree.specs.declared.form.TreeError.TheVariants.{View, Bad, Memory}
use Rattle.jfs_tree.specs.declared.form.Way.TheVariants.{Here}
use Rattle.jfs_tree.specs.declared.grow.Grown.{Grown}
use Rattle.jfs_tree.proofs.Keys.{past_row, rises_up}
use Rattle.jfs_tree.proofs.Path.{way_deep, reads, leads_on, below_leads, root_is, root_leaf, root_breaks}
use Rattle.jfs_tree.proofs.Taking.{place_of}

-- ---- a leaf's entries in a place

after_apart : {P E : Type 0} (s : Scale P E) → IsOrder s → (x : E) (k : P) (es : List E) (high : Option P) → s.le (s.to x) k ≡ true → Rises s k (map (Row no_page) es) high → IsApart s x es
after_apart s o x k [] high h r = tt
after_apart s o x k (e ∷ es) high h r =
    let up = o.trans_le (s.to x) k (s.from e) h r.0 in
    (inr up, after_apart s o x (s.to e) es high (o.trans_le (s.to x) (s.from e) (s.to e) up (o.span_le e)) r.1)

fits_apart : {P E : Type 0} (s : Scale P E) → IsOrder s → (x : E) (low : P) (es : List E) (high : Option P) → Rises s low (map (Row no_page) (with_entry s x es)) high → IsApart s x es
fits_apart s o x low [] high r = tt
fits_apart s o x low (e ∷ es) high r = by (s.le (s.to e) (s.from x)) refl (fits_apart s o x (s.to e) es high) r
  where
    by : (b : Bool) → s.le (s.to e) (s.from x) ≡ b → (Rises s (s.to e) (map (Row no_page) (with_entry s x es)) high → IsApart s x es)
        → Rises s low (map (Row no_page) (if b then e ∷ with_entry s x es else x ∷ e ∷ es)) high → IsApart s x (e ∷ es)
    by true is next r = (inl is, next r.1)
    by false is next r = (inr r.1.0, after_apart s o x (s.to e) es high (o.trans_le (s.to x) (s.from e) (s.to e) r.1.0 (o.span_le e)) r.1.1)

front_past : {P E : Type 0} (s : Scale P E) → IsOrder s → (low key : P) (front : List E) → IsCons front → Rises s low (map (Row no_page) front) (Some key) → s.le key low ≡ false
front_past s o low key [] some r = absurd some
front_past s o low key (f ∷ fs) some r = past_row s o low key f r.0 (rises_up s o (s.to f) (map (Row no_page) fs) key r.1)

back_past : {P E : Type 0} (s : Scale P E) → IsOrder s → (key high : P) (back : List E) → FitsFirst s key back → Rises s key (map (Row no_page) back) (Some high) → s.le high key ≡ false
back_past s o key high [] fits r = absurd fits
back_past s o key high (b ∷ bs) fits r = past_row s o key high b r.0 (rises_up s o (s.to b) (map (Row no_page) bs) high r.1)

parted : {P E : Type 0} (s : Scale P E) → IsOrder s → (low key : P) (high : Option P) (back : List E) → s.le key low ≡ false → FitsFirst s key back → Rises s key (map (Row no_page) back) high → IsBetween s low high key
parted s o low key None back above fits r = above
parted s o low key (Some high) back above fits r = (above, back_past s o key high back fits r)

cut_between : {P E : Type 0} (s : Scale P E) → IsOrder s → (rows : List E) (low key : P) (high : Option P) → CutsRows s rows key → Rises s low (map (Row no_page) rows) high → IsBetween s low high key
cut_between s o rows low key high (front, back, is, some, parts) r =
    let p = parts.rises no_page low high (subst (λ es. Rises s low (map (Row no_page) es) high) is r) in
    parted s o low key high back (front_past s o low key front some p.0) parts.fits p.1

-- ---- one more key among rising keys

low_of : {P E : Type 0} (s : Scale P E) (low : P) (high : Option P) (key : P) → IsBetween s low high key → s.le key low ≡ false
low_of s low None key i = i
low_of s low (Some high) key i = i.0

above_new : {P E : Type 0} (s : Scale P E) (low k key : P) (back : List (Child P)) → KeysAbove s k back → IsBetween s low (end_of back) key → KeysAbove s key back
above_new s low k key [] a i = tt
above_new s low k key (b ∷ bs) a i = (i.1, a.1)

above_with : {P E : Type 0} (s : Scale P E) (k : P) (front : List (Child P)) (t new : Child P) (back : List (Child P)) → KeysAbove s k (front ++ t ∷ back) → IsBetween s t.key (end_of back) new.key → KeysAbove s k (front ++ t ∷ new ∷ back)
above_with s k [] t new back a i = (a.0, (low_of s t.key (end_of back) new.key i, above_new s t.key t.key new.key back a.1 i))
above_with s k (f ∷ front) t new back a i = (a.0, above_with s f.key front t new back a.1 i)

pub rise_with : {P E : Type 0} (s : Scale P E) (front : List (Child P)) (t new : Child P) (back : List (Child P)) → KeysRise s (front ++ t ∷ back) → IsBetween s (begin_of s front t) (end_of back) new.key → KeysRise s (front ++ t ∷ new ∷ back)
rise_with s [] t new back a i = (low_of s s.least (end_of back) new.key i, above_new s s.least s.least new.key back a i)
rise_with s (f ∷ front) t new back a i = above_with s s.least front t new back a i

-- where a child's key doesn't go behind the child at its place, it isn't in that child's place
misfit : {P E : Type 0} (s : Scale P E) (x : E) (node : Node P E) (place child : ℕ) (new : Sibling P) → HasRisingKeys s node → (leads : LeadsDown s x node place child) → NeverRises s node place new
    → IsBetween s (begin_of s leads.front leads.child) (end_of leads.back) new.key → ⊥
misfit s x node place child new rising leads never i =
    never (leads.front ++ leads.child ∷ as_child new ∷ leads.back) (place_of s x node place child leads (as_child new))
    (rise_with s leads.front leads.child (as_child new) leads.back (rising (leads.front ++ leads.child ∷ leads.back) leads.is) i)

-- ---- the key of a page that was split off an inner page

among : {P E : Type 0} (s : Scale P E) (low : P) (high : Option P) (front : List (Child P)) (t new : Child P) (back : List (Child P)) → AllBetween s low high (front ++ t ∷ back) → IsBetween s low high new.key → AllBetween s low high (front ++ t ∷ new ∷ back)
among s low high [] t new back a i = (a.0, (i, a.1))
among s low high (f ∷ front) t new back a i = (a.0, among s low high front t new back a.1 i)

fits_with : {P E : Type 0} (s : Scale P E) (x : E) (low : P) (high : Option P) (front : List (Child P)) (t new : Child P) (back : List (Child P)) → FitsIn s x low high (Inner (front ++ t ∷ back)) → IsBetween s low high new.key → FitsIn s x low high (Inner (front ++ t ∷ new ∷ back))
fits_with s x low high [] t new back a i = (i, a)
fits_with s x low high (f ∷ front) t new back a i = among s low high front t new back a i

one_of : {P E : Type 0} (s : Scale P E) (low : P) (high : Option P) (front : List (Child P)) (t : Child P) (back : List (Child P)) → AllBetween s low high (front ++ t ∷ back) → IsBetween s low high t.key
one_of s low high [] t back a = a.0
one_of s low high (f ∷ front) t back a = one_of s low high front t back a.1

one_fits : {P E : Type 0} (s : Scale P E) (x : E) (low : P) (high : Option P) (front : List (Child P)) (t : Child P) (back : List (Child P)) → IsCons front → FitsIn s x low high (Inner (front ++ t ∷ back)) → IsBetween s low high t.key
one_fits s x low high [] t back some a = absurd some
one_fits s x low high (f ∷ front) t back some a = one_of s low high front t back a

inner_key : {P E : Type 0} (s : Scale P E) (nodes : ℕ → Node P E) (x : E) (less page place child : ℕ) (new : Sibling P) (more : Option (Sibling P)) → LeadsDown s x (nodes page) place child
    → KeyFits s nodes x less child (Some new) → ChildCut (nodes page) place new more → KeyFits s nodes x (suc less) page more
inner_key s nodes x less page place child new None leads fits cut = tt
inner_key s nodes x less page place child new (Some up) leads fits cut = λ low high down.
    let there = subst (FitsOnward (FitsDown s nodes x low high less)) leads.alone down.1 in
    let here = subst (FitsIn s x low high) leads.is down.0 in
    let all = fits_with s x low high leads.front leads.child (as_child new) leads.back here (fits low high there) in
    let c = cut (leads.front ++ leads.child ∷ as_child new ∷ leads.back) (place_of s x (nodes page) place child leads (as_child new)) in
    subst (IsBetween s low high) (sym c.5) (one_fits s x low high c.0 c.1 c.2 c.4 (subst (λ cs. FitsIn s x low high (Inner cs)) c.3 all))

-- ---- a page that was read

module _ {P E : Type 0} (s : Scale P E) (o : IsOrder s) (nodes : ℕ → Node P E) (x : E) (full lacks : ℕ → Type 0) (most less page : ℕ) (is : most ≡ suc less) where
  pub tells_broken : (rule : Rule) → below_root (nodes page) ≡ Broken rule → TellsGrowing s nodes x full lacks most page (broken_below s nodes (s.from x) most page) (Err (Bad page rule))
  tells_broken rule broken = inl (reads s nodes (s.from x) most less page (nodes page) is refl ∙ ap (broken_at s (s.from x) (broken_below s nodes (s.from x) less) page) broken)

  ends : Leads s x (below_root (nodes page)) (Ok Here) → broken_below s nodes (s.from x) most page ≡ None
  ends leads = reads s nodes (s.from x) most less page (nodes page) is refl ∙ ap (broken_at s (s.from x) (broken_below s nodes (s.from x) less) page) leads.1

  pub tells_clash : (e : TreeError) → Leads s x (below_root (nodes page)) (Ok Here) → Leads s x (nodes page) (Ok Here) → HereClash s x (nodes page) page e → TellsGrowing s nodes x full lacks most page (broken_below s nodes (s.from x) most page) (Err e)
  tells_clash (View v) below leaf h = absurd h
  tells_clash (Bad bad rule) below leaf h =
      inr (ends below, h.1, subst (λ m. ClashesBelow s nodes x full lacks m page bad) (sym is) (inl (h.0, subst (ClashesAt s nodes x full lacks less) (sym leaf.1) (h.2 leaf.0 leaf.1))))
  tells_clash Memory below leaf h = tt

  leaf_key : (es : List E) (more : Option (Sibling P)) → nodes page ≡ Leaf es → HereCut s x (nodes page) more → KeyFits s nodes x (suc less) page more
  leaf_key es None leaf cut = tt
  leaf_key es (Some up) leaf cut = λ low high down.
      let rises = subst (FitsIn s x low high) leaf down.0 in
      cut_between s o (with_entry s x es) low up.key high (cut es leaf (fits_apart s o x low es high rises)) rises

  pub tells_taken : (grown : Grown P) (more : Option (Sibling P)) → grown.sibling ≡ more → Leads s x (below_root (nodes page)) (Ok Here) → Leads s x (nodes page) (Ok Here) → HereCut s x (nodes page) more
      → TellsGrowing s nodes x full lacks most page (broken_below s nodes (s.from x) most page) (Ok grown)
  tells_taken grown more same below leaf cut =
      (ends below, subst (λ m. KeyFits s nodes x m page grown.sibling) (sym is) (subst (KeyFits s nodes x (suc less) page) (sym same) (leaf_key leaf.0 more leaf.1 cut)))

  -- ---- a page that leads to a child

  next_is : (place child : ℕ) → LeadsDown s x (nodes page) place child → broken_below s nodes (s.from x) most page ≡ broken_below s nodes (s.from x) less child
  next_is place child leads =
      reads s nodes (s.from x) most less page (nodes page) is refl ∙ leads_on s (s.from x) (broken_below s nodes (s.from x) less) page child (below_root (nodes page)) (below_leads s (s.from x) child (nodes page) leads.alone)

  pub tells_below : (place child : ℕ) (e : TreeError) → LeadsDown s x (nodes page) place child → TellsGrowing s nodes x full lacks less child (broken_below s nodes (s.from x) less child) (Err e)
      → TellsGrowing s nodes x full lacks most page (broken_below s nodes (s.from x) most page) (Err e)
  tells_below place child (View v) leads told = tt
  tells_below place child (Bad bad rule) leads (inl first) = inl (next_is place child leads ∙ first)
  tells_below place child (Bad bad rule) leads (inr (none, order, clash)) =
      inr (next_is place child leads ∙ none, order, subst (λ m. ClashesBelow s nodes x full lacks m page bad) (sym is) (inr (child, leads.alone, clash)))
  tells_below place child Memory leads told = tt

  misfits : (place child levels : ℕ) (new : Sibling P) → HasRisingKeys s (nodes page) → (leads : LeadsDown s x (nodes page) place child) → FullDown s x nodes full lacks levels child → KeyFits s nodes x less child (Some new) → NeverRises s (nodes page) place new → Misfits s nodes x full lacks less (nodes page)
  misfits place child levels new rising leads stuffed fits never = record {
    place = place;
    child = child;
    leads = leads;
    levels = levels;
    stuffed = stuffed;
    never = λ down. misfit s x (nodes page) place child new rising leads never (fits (begin_of s leads.front leads.child) (end_of leads.back) down);
  }

  clash_of : (node : Node P E) (cs : List (Child P)) → node ≡ Inner cs → Misfits s nodes x full lacks less node → ClashesAt s nodes x full lacks less node
  clash_of node cs inner m = subst (ClashesAt s nodes x full lacks less) (sym inner) (subst (Misfits s nodes x full lacks less) inner m)

  refused_by : (place child levels : ℕ) (new : Sibling P) (e : TreeError) → HasRisingKeys s (nodes page) → (leads : LeadsDown s x (nodes page) place child) → FullDown s x nodes full lacks levels child → broken_below s nodes (s.from x) less child ≡ None
      → KeyFits s nodes x less child (Some new) → GrownClash s (nodes page) page place (Some new) e → TellsGrowing s nodes x full lacks most page (broken_below s nodes (s.from x) most page) (Err e)
  refused_by place child levels new (View v) rising leads stuffed none fits h = absurd h
  refused_by place child levels new (Bad bad rule) rising leads stuffed none fits h =
      inr (
        next_is place child leads ∙ none,
        h.1,
        subst (λ m. ClashesBelow s nodes x full lacks m page bad) (sym is)
            (inl (h.0, clash_of (nodes page) (leads.front ++ leads.child ∷ leads.back) leads.is (misfits place child levels new rising leads stuffed fits h.2))),
      )
  refused_by place child levels new Memory rising leads stuffed none fits h = tt

  pub tells_grown : (place child levels : ℕ) (grown : Grown P) (more : Option (Sibling P)) (free left : List ℕ) (r : Result (Grown P) TreeError) → grown.sibling ≡ more → GrowsWhereFull s x nodes full lacks levels child more free left → HasRisingKeys s (nodes page) → LeadsDown s x (nodes page) place child
      → TellsGrowing s nodes x full lacks less child (broken_below s nodes (s.from x) less child) (Ok grown)
      → IfOk r (λ g. GrownCut (nodes page) place more g.sibling) → IfErr r (λ e. GrownClash s (nodes page) page place more e)
      → TellsGrowing s nodes x full lacks most page (broken_below s nodes (s.from x) most page) r
  tells_grown place child levels grown None free left (Ok g) same room rising leads told cut clash = (next_is place child leads ∙ told.0, subst (KeyFits s nodes x most page) (sym cut) tt)
  tells_grown place child levels grown None free left (Err e) same room rising leads told cut clash = absurd clash
  tells_grown place child levels grown (Some new) free left (Ok g) same room rising leads told cut clash =
      (next_is place child leads ∙ told.0, subst (λ m. KeyFits s nodes x m page g.sibling) (sym is) (inner_key s nodes x less page place child new g.sibling leads (subst (KeyFits s nodes x less child) same told.1) cut))
  tells_grown place child levels grown (Some new) free left (Err e) same room rising leads told cut clash = refused_by place child levels new e rising leads room.0 told.0 (subst (KeyFits s nodes x less child) same told.1) clash

pub tells_deep : {P E : Type 0} (s : Scale P E) (nodes : ℕ → Node P E) (x : E) (full lacks : ℕ → Type 0) (most page : ℕ) → most ≡ 0 → TellsGrowing s nodes x full lacks most page (broken_below s nodes (s.from x) most page) (Err (Bad page rules.Deep))
tells_deep s nodes x full lacks most page is = inl (way_deep s nodes (s.from x) most page is)

-- ---- from the root on

module _ {P E : Type 0} (s : Scale P E) (nodes : ℕ → Node P E) (x : E) (full lacks : ℕ → Type 0) (root : Node P E) (deep : Type 0) where
  pub adding_breaks : (rule : Rule) → root ≡ Broken rule → TellsAdding {T = Unit {0}} (broken_on_way s nodes (s.from x) root) (ClashesOnWay s nodes x full lacks root) deep (Err (Bad no_page rule))
  adding_breaks rule is = inl (root_breaks s (s.from x) nodes root rule is)

  pub adding_here : (es : List E) (r : Result (Unit {0}) TreeError) → root ≡ Leaf es → IfErr r (λ e. HereClash s x root no_page e) → TellsAdding (broken_on_way s nodes (s.from x) root) (ClashesOnWay s nodes x full lacks root) deep r
  adding_here es (Ok it) is h = root_leaf s (s.from x) nodes root es is
  adding_here es (Err (View v)) is h = absurd h
  adding_here es (Err (Bad bad rule)) is h = inr (root_leaf s (s.from x) nodes root es is, inl (h.1, inl (h.0, subst (ClashesAt s nodes x full lacks 7) (sym is) (h.2 es is))))
  adding_here es (Err Memory) is h = tt

  pub adding_below : (place child : ℕ) (e : TreeError) → LeadsDown s x root place child → TellsGrowing s nodes x full lacks 7 child (broken_below s nodes (s.from x) 7 child) (Err e)
      → TellsAdding {T = Unit {0}} (broken_on_way s nodes (s.from x) root) (ClashesOnWay s nodes x full lacks root) deep (Err e)
  adding_below place child (View v) leads told = tt
  adding_below place child (Bad bad rule) leads (inl first) = inl (root_is s x nodes root place child leads ∙ first)
  adding_below place child (Bad bad rule) leads (inr (none, order, clash)) = inr (root_is s x nodes root place child leads ∙ none, inl (order, inr (child, leads.alone, clash)))
  adding_below place child Memory leads told = tt

seven : (n : ℕ) → n ≤ 7 → 7 ≤ n → n ≡ 7
seven n a b = omega (arith, a, b)

module _ {P E : Type 0} (s : Scale P E) (nodes : ℕ → Node P E) (x : E) (full lacks : ℕ → Type 0) (root : Node P E) (no_place : P → Type 0) where
  misfits_root : (place child levels : ℕ) (new : Sibling P) → HasRisingKeys s root → (leads : LeadsDown s x root place child) → FullDown s x nodes full lacks levels child → KeyFits s nodes x 7 child (Some new) → NeverRises s root place new → ClashesAt s nodes x full lacks 7 root
  misfits_root place child levels new rising leads stuffed fits never =
      let m : Misfits s nodes x full lacks 7 root = record {
        place = place;
        child = child;
        leads = leads;
        levels = levels;
        stuffed = stuffed;
        never = λ down. misfit s x root place child new rising leads never (fits (begin_of s leads.front leads.child) (end_of leads.back) down);
      } in
      subst (ClashesAt s nodes x full lacks 7) (sym leads.is) (subst (Misfits s nodes x full lacks 7) leads.is m)

  refused_root : (place child levels : ℕ) (new : Sibling P) (e : TreeError) → HasRisingKeys s root → LeadsDown s x root place child → broken_below s nodes (s.from x) 7 child ≡ None
      → KeyFits s nodes x 7 child (Some new) → FullDown s x nodes full lacks levels child → levels ≤ 7 → RootGrownClash s root levels place no_place (Some new) e
      → TellsAdding {T = Unit {0}} (broken_on_way s nodes (s.from x) root) (ClashesOnWay s nodes x full lacks root) (HasAllLevels s nodes x full lacks root no_place) (Err e)
  refused_root place child levels new (View v) rising leads none fits down most h = absurd h
  refused_root place child levels new (Bad bad rule) rising leads none fits down most (named, inl (order, never)) =
      inr (root_is s x nodes root place child leads ∙ none, inl (order, inl (named, misfits_root place child levels new rising leads down fits never)))
  refused_root place child levels new (Bad bad rule) rising leads none fits down most (named, inr (deep, seven_levels, lacks_place)) =
      inr (root_is s x nodes root place child leads ∙ none, inr (named, deep, (place, child, leads, subst (λ n. FullDown s x nodes full lacks n child) (seven levels most seven_levels) down, (new.key, lacks_place))))
  refused_root place child levels new Memory rising leads none fits down most h = tt

  pub adding_grown : (place child levels : ℕ) (grown : Grown P) (more : Option (Sibling P)) (free left : List ℕ) (r : Result (Unit {0}) TreeError) → grown.sibling ≡ more → HasRisingKeys s root → LeadsDown s x root place child
      → TellsGrowing s nodes x full lacks 7 child (broken_below s nodes (s.from x) 7 child) (Ok grown)
      → GrowsWhereFull s x nodes full lacks levels child more free left → levels ≤ 7 → IfErr r (λ e. RootGrownClash s root levels place no_place more e)
      → TellsAdding (broken_on_way s nodes (s.from x) root) (ClashesOnWay s nodes x full lacks root) (HasAllLevels s nodes x full lacks root no_place) r
  adding_grown place child levels grown more free left (Ok it) same rising leads told room most h = root_is s x nodes root place child leads ∙ told.0
  adding_grown place child levels grown None free left (Err e) same rising leads told room most h = absurd h
  adding_grown place child levels grown (Some new) free left (Err e) same rising leads told room most h =
      refused_root place child levels new e rising leads told.0 (subst (KeyFits s nodes x 7 child) same told.1) room.0 most h

-- ---- the answer, seen from the transaction

-- what an answer tells of a way in the pages as a draft shows them
abbrev pub TellsIn : {P E : Type 0} → Scale P E → (List ℕ → Node P E) → Image → E → Node P E → (List ℕ → Type 0) → (List ℕ → Type 0) → (P → Type 0) → Result (Unit {0}) TreeError → List Drafted → Type 0
TellsIn s node image x root full lacks no_place r ds = TellsAdding (broken_on_way s (nodes node ds image) (s.from x) root) (ClashesOnWay s (nodes node ds image) x (at_page full ds image) (at_page lacks ds image) root)
    (HasAllLevels s (nodes node ds image) x (at_page full ds image) (at_page lacks ds image) root no_place) r

module _ {P E : Type 0} (s : Scale P E) (node : List ℕ → Node P E) (image : Image) (x : E) (root : Node P E) (full lacks : List ℕ → Type 0) (no_place : P → Type 0) (ds : List Drafted) (none : ds ≡ []) where
  pub tells_refused : (e : TreeError) → TellsIn s node image x root full lacks no_place (Err e) ds
      → TellsRefusal (broken_on_way s (read_as node (page_of image)) (s.from x) root) (ClashesOnWay s (read_as node (page_of image)) x (on_page full (page_of image)) (on_page lacks (page_of image)) root) (HasAllLevels s (read_as node (page_of image)) x (on_page full (page_of image)) (on_page lacks (page_of image)) root no_place) e
  tells_refused e h = subst (TellsIn s node image x root full lacks no_place (Err e)) none h

  pub tells_planned : {T : Type 0} (it : Unit {0}) (r : Result T TreeError) → TellsIn s node image x root full lacks no_place (Ok it) ds → IfErr r IsRead
      → TellsAdding (broken_on_way s (read_as node (page_of image)) (s.from x) root) (ClashesOnWay s (read_as node (page_of image)) x (on_page full (page_of image)) (on_page lacks (page_of image)) root) (HasAllLevels s (read_as node (page_of image)) x (on_page full (page_of image)) (on_page lacks (page_of image)) root no_place) r
  tells_planned it (Ok t) h read = subst (TellsIn s node image x root full lacks no_place (Ok it)) none h
  tells_planned it (Err (View v)) h read = tt
  tells_planned it (Err (Bad bad rule)) h read = absurd read
  tells_planned it (Err Memory) h read = tt
