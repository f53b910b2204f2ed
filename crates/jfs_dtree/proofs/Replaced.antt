-- A name that was led to another inode, as the call says it.
use Rattle.std.proofs.Common.{◌≡◌, ◌≢◌, ◌≤◌, ◌<◌, inl, inr, refl, sym, ap, ◌∙◌, subst, ℕ, zero, suc, ◌/◌, ◌%◌, Bool, true, false, ◌==◌, if◌then◌else◌, List, [], ◌∷◌, ◌++◌, length, map, Option, Some, None, Ok, Err, arith}
use Rattle.std.specs.Prelude.{slice_set}
use Rattle.std.specs.Option.{option_map}
use Rattle.std.proofs.lemmas.Bool.{cases_lt, eqb-true, eq-eqb, ne_eqb, true≢false}
use Rattle.jfs_name.specs.declared.name.NameEntry.{NameEntry}
use Rattle.jfs_name.specs.Directory.{is_same}
use Rattle.jfs_ranges.specs.declared.edit.Edit.{Edit}
use Rattle.jfs_dtpage.specs.declared.head.DtForm.{DtForm}
use Rattle.jfs_dtpage.specs.declared.head.DtForm.TheVariants.{Root, Full}
use Rattle.jfs_dtpage.specs.declared.head.DtHead.{DtHead}
use Rattle.jfs_dtpage.specs.Form.{flag_of, head_of, is_leaf}
use Rattle.jfs_dtpage.specs.Order.{IsBefore, name_at, GoesAt, IsFound}
use Rattle.jfs_dtpage.specs.Page.{Named, names_of, entries_of, IsDtPage}
use Rattle.jfs_tree.specs.Walk.{Node, Leaf, Inner, Broken, times}
use Rattle.jfs_tree.specs.Spells.{no_page, tree_of, spells, footprint}
use Rattle.jfs_tree.specs.Form.{LeadsDown}
use Rattle.jfs_tree.specs.Path.{found_below, found_on_way}
use Rattle.jfs_tree.specs.Fresh.{LeadsTo, after_tx}
use Rattle.jfs_tree.proofs.Footprint.{spells_frame, footprint_frame}
use Rattle.jfs_tree.proofs.Path.{root_found_down}
use Rattle.jfs_tree.proofs.Ways.{on_way}
use Rattle.jfs_tree.proofs.Within.{footprint_within}
use Rattle.jfs_dtree.specs.Laws.{order, point}
use Rattle.jfs_dtree.specs.Node.{named as named_entry, name_scale, dt_node}
use Rattle.jfs_dtree.specs.Spells.{root_node, page_nodes, spells_names, owned_pages, found_for, IsNamedOnWay}
use Rattle.jfs_dtree.specs.Removing.{MissesName}
use Rattle.jfs_dtree.specs.Replacing.{led, end_below, ChangesInode, LeadsElsewhere, ReplacesName, FollowsWay, LeadsPage, LeadsBelow, EndsNowhere}
use Rattle.jfs_dtree.specs.declared.error.DtError.{DtError}
use Rattle.jfs_dtree.specs.declared.error.DtError.TheVariants.{View, Bad, Exists, Missing, TooDeep}
use Rattle.jfs_dtree.proofs.Ending.{Shows, ends_leaf, ends_found, ends_nowhere, root_shows, leaf_root_shows}
use Rattle.jfs_dtree.proofs.Led.{Has, picked, led_at, led_keeps, inode_led, set_led, past_missing, before_not, after_not, rows_led, found_any}
use Rattle.jfs_dtree.proofs.Listed.{spelled_ascends, found_named}
use Rattle.jfs_dtree.proofs.Nodes.{leaf_is, leaf_read}
use Rattle.jfs_dtree.proofs.Places.{row_names, rows_length, at_row, before_rows, behind_rows}
use Rattle.jfs_dtree.proofs.Roots.{has_pages}
use Rattle.jfs_dtree.proofs.Swapped.{swapped, swap_spells, swap_footprint, rises_of}

-- ---- a leaf

pub no_change : (bytes : List ℕ) → ChangesInode bytes bytes
no_change bytes = (32, omega arith, λ from width side. refl)

map_set : {X Y : Type 0} (f : X → Y) (xs : List X) (i : ℕ) (x : X) → map f (slice_set xs i x) ≡ slice_set (map f xs) i (f x)
map_set f [] zero x = refl
map_set f [] (suc i) x = refl
map_set f (y ∷ xs) zero x = refl
map_set f (y ∷ xs) (suc i) x = ap (λ ys. f y ∷ ys) (map_set f xs i x)

flag_is : (form : DtForm) (bytes : List ℕ) → (head_of form bytes).flag ≡ flag_of bytes
flag_is Root bytes = refl
flag_is Full bytes = refl

same_leaf : (form : DtForm) (old new : List ℕ) → head_of form new ≡ head_of form old → is_leaf new ≡ is_leaf old
same_leaf form old new head = ap (λ (f : ℕ). f / 2 % 2 == 1) (sym (flag_is form new) ∙ ap (λ (h : DtHead). h.flag) head ∙ flag_is form old)

pub leaf_led : (form : DtForm) (blocks : ℕ) (old new name : List ℕ) (x : NameEntry) (inode place : ℕ) (es : List NameEntry) → dt_node form blocks old ≡ Leaf es → name ≡ x.name → IsFound (names_of form old) name (Ok place) → IsDtPage form new
    → entries_of form new ≡ slice_set (entries_of form old) place (Named inode (name_at (names_of form old) place)) → head_of form new ≡ head_of form old → dt_node form blocks new ≡ Leaf (map (led x.name inode) es)
leaf_led form blocks old new name x inode place es leaf same found sound entries head =
    let page = leaf_is form blocks old es leaf in
    let rows = map named_entry (entries_of form old) in
    let here : name_at (names_of form old) place ≡ x.name = found.1 ∙ same in
    let within = found.0 in
    let n = rows_length form old in
    let rise = page.0.1.1.1.1.0 in
    let set = set_led x.name inode rows place (omega (arith, within, n))
    (λ i h. subst (λ m. IsBefore m x.name) (at_row form old i) (subst (λ m. IsBefore (name_at (names_of form old) i) m) here (rise i place h within)))
    (sym (at_row form old place) ∙ here)
    (λ i h l. subst (λ m. IsBefore x.name m) (at_row form old i) (subst (λ m. IsBefore m (name_at (names_of form old) i)) here (rise place i h (omega (arith, l, n))))) in
    leaf_read form blocks new sound (same_leaf form old new head ∙ page.1)
    ∙ ap (λ ds. Leaf ds) (ap (map named_entry) entries ∙ map_set named_entry (entries_of form old) place (Named inode (name_at (names_of form old) place))
    ∙ ap (λ m. slice_set rows place (record { name = m; inode = inode })) here ∙ set ∙ ap (map (led x.name inode)) page.2)

pub leaf_still : (form : DtForm) (blocks : ℕ) (old name : List ℕ) (x : NameEntry) (inode place : ℕ) (es : List NameEntry) → dt_node form blocks old ≡ Leaf es → name ≡ x.name → GoesAt (names_of form old) place name → dt_node form blocks old ≡ Leaf (map (led x.name inode) es)
leaf_still form blocks old name x inode place es leaf same goes =
    let page = leaf_is form blocks old es leaf in
    let rows = map named_entry (entries_of form old) in
    let differ = past_missing x.name inode rows (λ i l. by i l (before_rows form old name x place same goes i) (λ h. behind_rows form old name x place same goes i h l)) in
    leaf ∙ ap (λ ds. Leaf ds) (sym page.2 ∙ sym differ ∙ ap (map (led x.name inode)) page.2)
  where
    by : (i : ℕ) → i < length (map named_entry (entries_of form old)) → (i < place → IsBefore (name_at (row_names (map named_entry (entries_of form old))) i) x.name) → (place ≤ i → IsBefore x.name (name_at (row_names (map named_entry (entries_of form old))) i))
        → is_same (name_at (row_names (map named_entry (entries_of form old))) i) x.name ≡ false
    by i l before behind = elim (cases_lt i place) [
      | inl h ↦ before_not (name_at (row_names (map named_entry (entries_of form old))) i) x.name (before h)
      | inr h ↦ after_not (name_at (row_names (map named_entry (entries_of form old))) i) x.name (behind h)
    ]

-- ---- a tree

map_same : (name : List ℕ) (inode : ℕ) (es : List NameEntry) → map (λ e. picked (led name inode) false e) es ≡ es
map_same name inode [] = refl
map_same name inode (e ∷ es) = ap (λ ds. e ∷ ds) (map_same name inode es)

swapped_none : (name : List ℕ) (inode : ℕ) (node : Node (List ℕ) NameEntry) → swapped (λ e. picked (led name inode) false e) node ≡ node
swapped_none name inode (Leaf es) = ap (λ ds. Leaf ds) (map_same name inode es)
swapped_none name inode (Inner cs) = refl
swapped_none name inode (Broken rule) = refl

inner_swapped : (f : NameEntry → NameEntry) (node : Node (List ℕ) NameEntry) (cs : List _) → node ≡ Inner cs → node ≡ swapped f node
inner_swapped f node cs is = subst (λ k. k ≡ swapped f k) (sym is) refl

foot_positive : (pages : ℕ → Node (List ℕ) NameEntry) (root : Node (List ℕ) NameEntry) (n : ℕ) → (n ≡ no_page → ⊥) → 0 < times n (tree_of name_scale pages root) → footprint name_scale pages root n ≡ 0 → ⊥
unfolding footprint
foot_positive pages root n other some none = off (n == no_page) (times n (tree_of name_scale pages root)) (ne_eqb n no_page other) some none
  where
    off : (b : Bool) (k : ℕ) → b ≡ false → 0 < k → (if b then 0 else k) ≡ 0 → ⊥
    off true k e some none = cc
    off false k e some none = omega (arith, some, none)

module _ (blocks : ℕ) (pages : ℕ → List ℕ) (root name : List ℕ) (inode : ℕ) (es : List NameEntry) (spelled : spells_names blocks pages root ≡ Ok es) where
  lead_all : (n : ℕ) (after : List ℕ) (now later : ℕ → List ℕ) → Shows (Has name) n (tree_of name_scale (page_nodes blocks pages) (root_node blocks root)) → root_node blocks after ≡ swapped (led_at name inode n no_page) (root_node blocks root)
      → ((m : ℕ) → m ≢ no_page → page_nodes blocks now m ≡ swapped (led_at name inode n m) (page_nodes blocks pages m)) → ((m : ℕ) → m < blocks → later m ≡ now m) → ((m : ℕ) → m < blocks → owned_pages blocks pages root m ≡ 0 → later m ≡ pages m)
      → LeadsElsewhere blocks name inode es pages later root after
  lead_all n after now later shows root_is page_is agree keeps =
      let tree = tree_of name_scale (page_nodes blocks pages) (root_node blocks root) in
      let frame = λ (m : ℕ) (h : 0 < footprint name_scale (page_nodes blocks now) (root_node blocks after) m).
      ap (dt_node Full blocks) (agree m (footprint_within name_scale (page_nodes blocks now) (root_node blocks after) m blocks (has_pages Root blocks after) (λ k. has_pages Full blocks (now k)) h)) in
      let rises = rises_of name_scale (page_nodes blocks pages) (root_node blocks root) es spelled in
      record {
        spelled =
            spells_frame name_scale (page_nodes blocks now) (page_nodes blocks later) (root_node blocks after) frame
            ∙ ap (spells name_scale (page_nodes blocks now)) root_is
            ∙ swap_spells name_scale (led_at name inode n) (led_keeps name inode n) (page_nodes blocks pages) (page_nodes blocks now) page_is (root_node blocks root) es spelled
            ∙ ap (λ list. Ok list) (rows_led name inode n [] tree None rises.0 shows.0 ∙ ap (map (led name inode)) rises.1 ∙ sym (inode_led name inode es [] (spelled_ascends (page_nodes blocks pages) (root_node blocks root) es spelled)));
        owned = λ m.
            footprint_frame name_scale (page_nodes blocks now) (page_nodes blocks later) (root_node blocks after) frame m
            ∙ ap (λ r. footprint name_scale (page_nodes blocks now) r m) root_is
            ∙ swap_footprint name_scale (led_at name inode n) (led_keeps name inode n) (page_nodes blocks pages) (page_nodes blocks now) page_is (root_node blocks root) m;
        keeps = keeps;
      }

-- the entry that is found has the name
option_some : (o : Option NameEntry) (k : ℕ) → option_map (λ (e : NameEntry). e.inode) o ≡ Some k → (e : NameEntry) × (o ≡ Some e)
option_some None k h = cc
option_some (Some e) k h = (e, refl)

pub way_named : (blocks : ℕ) (pages : ℕ → List ℕ) (root name : List ℕ) → IsNamedOnWay blocks pages root name
way_named blocks pages root name es spelled =
    let x : NameEntry = record { name = name; inode = 0 } in
    ap (option_map (λ (e : NameEntry). e.inode)) (on_way name_scale order x (point x) (page_nodes blocks pages) (root_node blocks root) es spelled)
    ∙ found_named (page_nodes blocks pages) (root_node blocks root) es x spelled

-- ---- in a root that is a leaf

pub led_here : (blocks : ℕ) (pages : ℕ → List ℕ) (root after name : List ℕ) (inode old : ℕ) (rows : List NameEntry) (tx : List Edit) → found_for blocks pages root name ≡ Some old
    → root_node blocks root ≡ Leaf rows → root_node blocks after ≡ Leaf (map (led name inode) rows) → ReplacesName blocks pages name inode root after tx tx old
led_here blocks pages root after name inode old rows tx found leaf is es spelled =
    let y : NameEntry = record { name = name; inode = 0 } in
    let entry = option_some (found_on_way name_scale (page_nodes blocks pages) y (root_node blocks root)) old found in
    let any = found_any rows y entry.0 (sym (ap (found_on_way name_scale (page_nodes blocks pages) y) leaf) ∙ entry.1) in
    let shows = leaf_root_shows name_scale (page_nodes blocks pages) (root_node blocks root) (Has name) rows es leaf any spelled in (
      sym (way_named blocks pages root name es spelled) ∙ found,
      λ base leads. lead_all blocks pages root name inode es spelled no_page after pages (after_tx base tx) shows
          (is ∙ sym (ap (swapped (led_at name inode no_page no_page)) leaf))
          (λ m other. sym (ap (λ b. swapped (λ e. picked (led name inode) b e) (page_nodes blocks pages m)) (ne_eqb m no_page other) ∙ swapped_none name inode (page_nodes blocks pages m)))
          (λ m h. (leads m h).1) (λ m h zero_is. (leads m h).1),
    )

-- ---- below a root

page_led : (blocks : ℕ) (pages : ℕ → List ℕ) (name : List ℕ) (inode n : ℕ) (bytes : List ℕ) (rows : List NameEntry) → page_nodes blocks pages n ≡ Leaf rows → dt_node Full blocks bytes ≡ Leaf (map (led name inode) rows)
    → (m : ℕ) → page_nodes blocks (λ k. if k == n then bytes else pages k) m ≡ swapped (led_at name inode n m) (page_nodes blocks pages m)
page_led blocks pages name inode n bytes rows leaf is m = by (m == n) refl
  where
    by : (b : Bool) → (m == n) ≡ b → dt_node Full blocks (if b then bytes else pages m) ≡ swapped (λ e. picked (led name inode) b e) (dt_node Full blocks (pages m))
    by true same = is ∙ sym (ap (λ k. swapped (led name inode) (dt_node Full blocks (pages k))) (eqb-true m n same) ∙ ap (swapped (led name inode)) leaf)
    by false same = sym (swapped_none name inode (dt_node Full blocks (pages m)))

-- the page as all edits leave it, and the others
after_led : (blocks : ℕ) (pages base : ℕ → List ℕ) (n : ℕ) (name : List ℕ) (inode : ℕ) (tx later : List Edit) → LeadsTo blocks base tx pages → (p : LeadsPage n (pages n) name inode tx later) → (m : ℕ) → m < blocks → after_tx base later m ≡ (if m == n then p.bytes else pages m)
after_led blocks pages base n name inode tx later leads p m h = by (m == n) refl
  where
    by : (b : Bool) → (m == n) ≡ b → after_tx base later m ≡ (if b then p.bytes else pages m)
    by true same = subst (λ k. after_tx base later k ≡ p.bytes) (sym (eqb-true m n same)) (p.told (base n) (subst (λ k. after_tx base tx k ≡ pages k) (eqb-true m n same) (leads m h).1))
    by false same = p.others m (λ e. apart e same) (base m) (leads m h).0 ∙ (leads m h).1
      where
        apart : m ≡ n → (m == n) ≡ false → ⊥
        apart e f = true≢false (sym (eq-eqb m n e) ∙ f)

pub led_below : (blocks : ℕ) (pages : ℕ → List ℕ) (root name : List ℕ) (x : NameEntry) (inode place page old : ℕ) (tx later : List Edit) → blocks ≤ no_page → x ≡ record { name = name; inode = 0 } → LeadsDown name_scale x (root_node blocks root) place page
    → LeadsBelow blocks pages x.name inode page tx later → found_for blocks pages root name ≡ Some old → ReplacesName blocks pages name inode root root tx later old
led_below blocks pages root name x inode place page old tx later most ex leads_x below_x found es spelled =
    let y : NameEntry = record { name = name; inode = 0 } in
    let leads = subst (λ z. LeadsDown name_scale z (root_node blocks root) place page) ex leads_x in
    let below = subst (λ (z : NameEntry). LeadsBelow blocks pages z.name inode page tx later) ex below_x in
    let n = below.0 in
    let p = below.3 in
    let within = below.1 in
    let leaf = ends_leaf name_scale (page_nodes blocks pages) name 7 page n below.2 in
    let entry = option_some (found_on_way name_scale (page_nodes blocks pages) y (root_node blocks root)) old found in
    let down = root_found_down name_scale y (page_nodes blocks pages) (root_node blocks root) place page (Ok (found_below name_scale (page_nodes blocks pages) y 7 page)) leads refl in
    let any = found_any leaf.0 y entry.0 (sym (ends_found name_scale (page_nodes blocks pages) y 7 page n leaf.0 below.2 leaf.1) ∙ down ∙ entry.1) in
    let shows = root_shows name_scale order y (page_nodes blocks pages) (root_node blocks root) (Has name) n leaf.0 es place page leads below.2 leaf.1 any spelled in
    let other : n ≡ no_page → ⊥ = λ e. (omega (arith, e, within, most)) in (
      sym (way_named blocks pages root name es spelled) ∙ found,
      λ base to.
          let agree = after_led blocks pages base n name inode tx later to p in
          lead_all blocks pages root name inode es spelled n root (λ k. if k == n then p.bytes else pages k) (after_tx base later) shows
          (inner_swapped (led_at name inode n no_page) (root_node blocks root) (leads.front ++ leads.child ∷ leads.back) leads.is)
          (λ m ne. page_led blocks pages name inode n p.bytes leaf.0 leaf.1 (p.node blocks leaf.0 leaf.1) m)
          agree
          (λ m h zero_is. agree m h ∙ ap (λ b. if b then p.bytes else pages m) (ne_eqb m n (λ e. foot_positive (page_nodes blocks pages) (root_node blocks root) n other shows.1 (subst (λ k. owned_pages blocks pages root k ≡ 0) e zero_is)))),
    )

-- where the way ends nowhere, no inode is found
nothing_down : (blocks : ℕ) (pages : ℕ → List ℕ) (root name : List ℕ) (x : NameEntry) (place page old : ℕ) → x ≡ record { name = name; inode = 0 } → LeadsDown name_scale x (root_node blocks root) place page
    → end_below name_scale (page_nodes blocks pages) x.name 7 page ≡ None → found_for blocks pages root name ≡ Some old → ⊥
nothing_down blocks pages root name x place page old ex leads_x end_x found =
    let y : NameEntry = record { name = name; inode = 0 } in
    let leads = subst (λ z. LeadsDown name_scale z (root_node blocks root) place page) ex leads_x in
    let end = subst (λ (z : NameEntry). end_below name_scale (page_nodes blocks pages) z.name 7 page ≡ None) ex end_x in
    let down = root_found_down name_scale y (page_nodes blocks pages) (root_node blocks root) place page (Ok (found_below name_scale (page_nodes blocks pages) y 7 page)) leads refl in
    none (sym (ap (option_map (λ (e : NameEntry). e.inode)) (sym down ∙ ends_nowhere name_scale (page_nodes blocks pages) y 7 page end)) ∙ found)
  where
    none : ◌≡◌ {A = Option ℕ} None (Some old) → ⊥
    none e = cc

-- so a name that was found fails to be led only where a page can't be read, or for want of memory
abbrev pub IsView : DtError → Type 0
IsView (View e) = Unit {0}
IsView (Bad page rule) = ⊥
IsView Exists = ⊥
IsView Missing = ⊥
IsView TooDeep = ⊥

pub lost_below : (blocks : ℕ) (pages : ℕ → List ℕ) (root name : List ℕ) (x : NameEntry) (place page old : ℕ) (e : DtError) → x ≡ record { name = name; inode = 0 } → LeadsDown name_scale x (root_node blocks root) place page
    → EndsNowhere (end_below name_scale (page_nodes blocks pages) x.name 7 page) e → found_for blocks pages root name ≡ Some old → IsView e
lost_below blocks pages root name x place page old (View e) ex leads end found = tt
lost_below blocks pages root name x place page old (Bad b rule) ex leads end found = end
lost_below blocks pages root name x place page old Exists ex leads end found = end
lost_below blocks pages root name x place page old Missing ex leads end found = nothing_down blocks pages root name x place page old ex leads end found
lost_below blocks pages root name x place page old TooDeep ex leads end found = end

pub view_follows : (found : Option ℕ) (e : DtError) → IsView e → FollowsWay found (Err e)
view_follows found (View e) h = tt
view_follows found (Bad page rule) h = absurd h
view_follows found Exists h = h
view_follows found Missing h = absurd h
view_follows found TooDeep h = h

pub view_misses : (blocks : ℕ) (pages : ℕ → List ℕ) (name root : List ℕ) (e : DtError) → IsView e → MissesName blocks pages name root e
view_misses blocks pages name root (View e) h = tt
view_misses blocks pages name root (Bad page rule) h = absurd h
view_misses blocks pages name root Exists h = h
view_misses blocks pages name root Missing h = absurd h
view_misses blocks pages name root TooDeep h = h
