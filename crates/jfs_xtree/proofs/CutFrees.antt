-- Pages that are freed with all that stands below them.
use Rattle.std.proofs.Common.{◌≡◌, ◌≤◌, ◌<◌, refl, sym, ap, ◌∙◌, subst, Bool, true, false, ℕ, zero, suc, ◌+◌, ◌-◌, List, [], ◌∷◌, ◌++◌, map, length, drop, Some, Result, Ok, Err, OnOk, IfErr, arith, append_assoc}
use Rattle.std.specs.Prelude.{nat_le}
use Rattle.std.specs.List.{flat_map}
use Rattle.std.proofs.lemmas.Bool.{le-leb, lt-leb}
use Rattle.jfs_bits.specs.declared.extent.Xad.{Xad}
use Rattle.jfs_bits.specs.declared.descriptor.Pxd.{Pxd}
use Rattle.jfs_bits.specs.declared.rule.Rule.{Rule}
use Rattle.jfs_bits.specs.declared.rule.Rule.TheVariants as rules
use Rattle.jfs_bits.specs.Field.{field_of}
use Rattle.jfs_disk.specs.Image.{Image, page_of}
use Rattle.jfs_tree.specs.Walk.{Child, Node, Leaf, Inner, Broken, Page, Key, Row, Marks, Rises, rows_of, times, placed, under, body, walk}
use Rattle.jfs_tree.specs.Spells.{judge}
use Rattle.jfs_tree.specs.Edit.{count_in, FitsFirst}
use Rattle.jfs_tree.specs.Path.{below_root}
use Rattle.jfs_tree.specs.declared.form.TreeError.{TreeError}
use Rattle.jfs_tree.specs.declared.form.TreeError.TheVariants.{View, Bad, Memory}
use Rattle.jfs_tree.proofs.Rising.{rises_lower, rises_join, rises_cut}
use Rattle.jfs_tree.proofs.Frame.{rows-append}
use Rattle.jfs_tree.proofs.Between.{append_nil}
use Rattle.jfs_tree.proofs.Leaves.{cons_rows, rows_leaf}
use Rattle.jfs_xtpage.specs.declared.head.XtForm.TheVariants.{Full}
use Rattle.jfs_xtpage.specs.Page.{head_of, entries_of, entry_of, count_of, rises_from}
use Rattle.jfs_xtpage.proofs.Entries.{last, length-entries}
use Rattle.jfs_xtree.specs.Node.{xt_scale, xt_node, is_leaf, child_of, IsSound}
use Rattle.jfs_xtree.specs.Spells.{page_nodes}
use Rattle.jfs_xtree.specs.Laws.{order}
use Rattle.jfs_xtree.specs.CutParts.{FreesUnder, Frees, StopsAt, BreaksAlone, MissesKey, runs_of, pages_in, place_after, key_at, part_of, children_from}
use Rattle.jfs_xtree.proofs.Reading.{sound_leaf, sound_inner}
use Rattle.jfs_xtree.proofs.CutMarks.{after-append, pages-append, if_not, stops_behind, stops_before, stops_key, key_stops, leaf_rises, rises_key, count-append, count_pages, starts_once, start_of}

-- ---- the entries from a place on

pub drop_here : (bytes : List ℕ) (i : ℕ) → i < count_of bytes → drop i (entries_of bytes) ≡ entry_of bytes i ∷ drop (i + 1) (entries_of bytes)
drop_here bytes i l =
    sym (last bytes 0 i (count_of bytes) i (suc (count_of bytes - (i + 1))) (omega (arith, l)) (omega arith))
    ∙ ap (λ xs. entry_of bytes i ∷ xs) (last bytes 0 (i + 1) (count_of bytes) (suc i) (count_of bytes - (i + 1)) (omega (arith, l)) (omega arith))

pub drop_past : (bytes : List ℕ) (i : ℕ) → count_of bytes ≤ i → i ≤ count_of bytes → drop i (entries_of bytes) ≡ []
drop_past bytes i l m = sym (last bytes 0 i (count_of bytes) i 0 (omega (arith, l, m)) (omega arith))

runs_both : (xs ys : List Xad) → runs_of (xs ++ ys) ≡ runs_of xs ++ runs_of ys
runs_both [] ys = refl
runs_both (x ∷ xs) ys = ap (λ ps. x.at ∷ ps) (runs_both xs ys)

-- one more run
pub run_pushed : (bytes : List ℕ) (i : ℕ) (x : Xad) (runs more old : List Pxd) (from : List Xad) → i < count_of bytes → x ≡ entry_of bytes i → more ≡ runs ++ x.at ∷ [] → runs ++ runs_of (drop i (entries_of bytes)) ≡ old ++ runs_of from
    → more ++ runs_of (drop (i + 1) (entries_of bytes)) ≡ old ++ runs_of from
run_pushed bytes i x runs more old from l is push inv =
    ap (λ ps. ps ++ runs_of (drop (i + 1) (entries_of bytes))) push ∙ append_assoc runs (x.at ∷ []) (runs_of (drop (i + 1) (entries_of bytes)))
    ∙ ap (λ (y : Xad). runs ++ (y.at ∷ runs_of (drop (i + 1) (entries_of bytes)))) is
    ∙ ap (λ xs. runs ++ runs_of xs) (sym (drop_here bytes i l)) ∙ inv

pub runs_pushed : (bytes : List ℕ) (i : ℕ) (runs old : List Pxd) (from : List Xad) → count_of bytes ≤ i → i ≤ count_of bytes → runs ++ runs_of (drop i (entries_of bytes)) ≡ old ++ runs_of from → runs ≡ old ++ runs_of from
runs_pushed bytes i runs old from l m inv = sym (append_nil runs) ∙ ap (λ xs. runs ++ runs_of xs) (sym (drop_past bytes i l m)) ∙ inv

abbrev pub a_leaf : List Xad → Node ℕ Xad
a_leaf es = Leaf es

-- ---- children from a place on

map_drop : (i : ℕ) (xs : List Xad) → drop i (map child_of xs) ≡ map child_of (drop i xs)
map_drop zero xs = refl
map_drop (suc i) [] = refl
map_drop (suc i) (x ∷ xs) = map_drop i xs

under_drop : (key i : ℕ) (xs : List Xad) → drop (suc i) (under key (map child_of xs)) ≡ map child_of (drop (suc i) xs)
under_drop key i [] = refl
under_drop key i (x ∷ xs) = map_drop i xs

-- behind the first child the page's key doesn't matter
pub drop_under : (key place : ℕ) (xs : List Xad) → drop (place + 1) (under key (map child_of xs)) ≡ map child_of (drop (place + 1) xs)
drop_under key place xs = subst (λ i. drop i (under key (map child_of xs)) ≡ map child_of (drop i xs)) (let h : suc place ≡ place + 1 = omega arith in h) (under_drop key place xs)

under_here : (key : ℕ) (bytes : List ℕ) (i : ℕ) → i < count_of bytes
    → drop i (under key (map child_of (entries_of bytes))) ≡ record { key = key_at key i (entry_of bytes i).offset; page = (entry_of bytes i).at.addr } ∷ drop (i + 1) (under key (map child_of (entries_of bytes)))
under_here key bytes zero l =
    ap (λ ys. under key (map child_of ys)) (drop_here bytes 0 l) ∙ ap (λ cs. record { key = key; page = (entry_of bytes 0).at.addr } ∷ cs) (sym (drop_under key 0 (entries_of bytes)))
under_here key bytes (suc j) l =
    under_drop key j (entries_of bytes) ∙ ap (map child_of) (drop_here bytes (suc j) l) ∙ ap (λ cs. child_of (entry_of bytes (suc j)) ∷ cs) (sym (drop_under key (suc j) (entries_of bytes)))

pub children_here : (nodes : ℕ → Node ℕ Xad) (below key : ℕ) (bytes : List ℕ) (i : ℕ) → i < count_of bytes
    → children_from nodes below i key (entries_of bytes) ≡ part_of nodes below (key_at key i (entry_of bytes i).offset) (entry_of bytes i).at.addr ++ children_from nodes below (i + 1) key (entries_of bytes)
children_here nodes below key bytes i l = ap (flat_map (walk xt_scale nodes (suc below))) (under_here key bytes i l)

under_past : (key : ℕ) (bytes : List ℕ) (i : ℕ) → drop i (entries_of bytes) ≡ [] → drop i (under key (map child_of (entries_of bytes))) ≡ []
under_past key bytes zero e = ap (λ ys. under key (map child_of ys)) e
under_past key bytes (suc j) e = under_drop key j (entries_of bytes) ∙ ap (map child_of) e

children_past : (nodes : ℕ → Node ℕ Xad) (below key : ℕ) (bytes : List ℕ) (i : ℕ) → count_of bytes ≤ i → i ≤ count_of bytes → children_from nodes below i key (entries_of bytes) ≡ []
children_past nodes below key bytes i l m = ap (flat_map (walk xt_scale nodes (suc below))) (under_past key bytes i (drop_past bytes i l m))

-- ---- what is met and freed, one part behind another

frees_none : (low : ℕ) (free : List ℕ) (runs : List Pxd) → Frees low [] low free free runs runs
frees_none low free runs = record { rises = le-leb low low (omega arith); ends = refl; pages = sym (append_nil free); given = sym (append_nil runs) }

-- a part behind its key, and what stands behind the part
frees_part : (nodes : ℕ → Node ℕ Xad) (below low key page mid high : ℕ) (rest : Marks ℕ Xad) (free one freed : List ℕ) (runs between later : List Pxd) → low ≤ key
    → Frees key (part_of nodes below key page) mid free one runs between → Frees mid rest high one freed between later → Frees low (part_of nodes below key page ++ rest) high free freed runs later
unfolding walk
frees_part nodes below low key page mid high rest free one freed runs between later l a b =
    let A = part_of nodes below key page in
    record {
      rises = rises_join xt_scale order low mid A rest (Some high) (rises_lower xt_scale order low key A (Some mid) (le-leb low key l) a.rises) b.rises;
      ends = b.ends ∙ ap (λ m. place_after m rest) a.ends ∙ sym (after-append key A rest);
      pages = b.pages ∙ ap (λ ns. ns ++ pages_in rest) a.pages ∙ append_assoc free (pages_in A) (pages_in rest) ∙ ap (λ ns. free ++ ns) (sym (pages-append A rest));
      given = b.given ∙ ap (λ ps. ps ++ runs_of (rows_of rest)) a.given ∙ append_assoc runs (runs_of (rows_of A)) (runs_of (rows_of rest))
          ∙ ap (λ ps. runs ++ ps) (sym (ap runs_of (rows-append A rest) ∙ runs_both (rows_of A) (rows_of rest)));
    }

part_stops : (nodes : ℕ → Node ℕ Xad) (below low key page : ℕ) (rest : Marks ℕ Xad) (e : TreeError) → low ≤ key → StopsAt key (part_of nodes below key page) e → StopsAt low (part_of nodes below key page ++ rest) e
unfolding walk
part_stops nodes below low key page rest e l s =
    let ms = Page page ∷ body (walk xt_scale nodes below) (record { key = key; page = page }) (placed xt_scale below key (nodes page)) in
    stops_before low (Key page key ∷ ms) rest e (stops_key low key page ms e l (key_stops key page ms e s))

part_past : (nodes : ℕ → Node ℕ Xad) (below low key page mid : ℕ) (rest : Marks ℕ Xad) (free one : List ℕ) (runs between : List Pxd) (e : TreeError) → low ≤ key
    → Frees key (part_of nodes below key page) mid free one runs between → StopsAt mid rest e → StopsAt low (part_of nodes below key page ++ rest) e
unfolding walk
part_past nodes below low key page mid rest free one runs between e l a s =
    let A = part_of nodes below key page in
    stops_behind low mid A rest (Some mid) e (rises_lower xt_scale order low key A (Some mid) (le-leb low key l) a.rises) a.ends s

part_refused : (nodes : ℕ → Node ℕ Xad) (below low key page : ℕ) (rest : Marks ℕ Xad) → key < low → StopsAt low (part_of nodes below key page ++ rest) (Bad page rules.Order)
unfolding walk
part_refused nodes below low key page rest l =
    if_not (nat_le low key) (judge xt_scale key (Page page ∷ (body (walk xt_scale nodes below) (record { key = key; page = page }) (placed xt_scale below key (nodes page)) ++ rest))) (Err (page, rules.Order)) (lt-leb low key l)

-- ---- the children of a page, one by one

-- from here on is as from there on
abbrev pub GoesOnFrom : ℕ → Marks ℕ Xad → List ℕ → List Pxd → ℕ → Marks ℕ Xad → List ℕ → List Pxd → Type 0
GoesOnFrom low all free runs mid left one between = ((high : ℕ) (freed : List ℕ) (later : List Pxd) → Frees mid left high one freed between later → Frees low all high free freed runs later)
    × ((e : TreeError) → StopsAt mid left e → StopsAt low all e)

key_is : (low mid key after i offset : ℕ) → (i ≡ 0 → mid ≡ low) → after ≡ key_at mid i offset → after ≡ key_at low i offset
key_is low mid key after zero offset first is = is ∙ first refl
key_is low mid key after (suc i) offset first is = is

pub child_goes : (nodes : ℕ → Node ℕ Xad) (below low key mid after to i n : ℕ) (bytes : List ℕ) (all : Marks ℕ Xad) (free one two : List ℕ) (runs between later : List Pxd) → i < count_of bytes → n ≡ (entry_of bytes i).at.addr → (i ≡ 0 → mid ≡ key)
    → (after ≡ key_at mid i (entry_of bytes i).offset) × (mid ≤ after) → Frees after (part_of nodes below after n) to one two between later → GoesOnFrom low all free runs mid (children_from nodes below i key (entries_of bytes)) one between
    → GoesOnFrom low all free runs to (children_from nodes below (i + 1) key (entries_of bytes)) two later
child_goes nodes below low key mid after to i n bytes all free one two runs between later l at first pass here goes =
    let is = key_is key mid key after i (entry_of bytes i).offset first pass.0 in
    let rest = children_from nodes below (i + 1) key (entries_of bytes) in
    let split : children_from nodes below i key (entries_of bytes) ≡ part_of nodes below after n ++ rest =
    children_here nodes below key bytes i l ∙ ap (λ k. part_of nodes below k (entry_of bytes i).at.addr ++ rest) (sym is) ∙ ap (λ m. part_of nodes below after m ++ rest) (sym at) in (
      λ high freed end f. goes.0 high freed end (subst (λ ms. Frees mid ms high one freed between end) (sym split) (frees_part nodes below mid after n to high rest one two freed between later end pass.1 here f)),
      λ e s. goes.1 e (subst (λ ms. StopsAt mid ms e) (sym split) (part_past nodes below mid after n to rest one two between later e pass.1 here s)),
    )

pub child_stops : (nodes : ℕ → Node ℕ Xad) (below low key mid after i n : ℕ) (bytes : List ℕ) (all : Marks ℕ Xad) (free one : List ℕ) (runs between : List Pxd) (e : TreeError) → i < count_of bytes → n ≡ (entry_of bytes i).at.addr → (i ≡ 0 → mid ≡ key)
    → (after ≡ key_at mid i (entry_of bytes i).offset) × (mid ≤ after) → StopsAt after (part_of nodes below after n) e → GoesOnFrom low all free runs mid (children_from nodes below i key (entries_of bytes)) one between → StopsAt low all e
child_stops nodes below low key mid after i n bytes all free one runs between e l at first pass stops goes =
    let is = key_is key mid key after i (entry_of bytes i).offset first pass.0 in
    let rest = children_from nodes below (i + 1) key (entries_of bytes) in
    let split : children_from nodes below i key (entries_of bytes) ≡ part_of nodes below after n ++ rest =
    children_here nodes below key bytes i l ∙ ap (λ k. part_of nodes below k (entry_of bytes i).at.addr ++ rest) (sym is) ∙ ap (λ m. part_of nodes below after m ++ rest) (sym at) in
    goes.1 e (subst (λ ms. StopsAt mid ms e) (sym split) (part_stops nodes below mid after n rest e pass.1 stops))

key_past : (low i offset : ℕ) → 0 < i → key_at low i offset ≡ offset
key_past low zero offset l = absurd (omega (arith, l))
key_past low (suc i) offset l = refl

pub child_refused : (nodes : ℕ → Node ℕ Xad) (below low key mid i n : ℕ) (bytes : List ℕ) (all : Marks ℕ Xad) (free one : List ℕ) (runs between : List Pxd) (e : TreeError) → i < count_of bytes → n ≡ (entry_of bytes i).at.addr
    → (0 < i) × ((entry_of bytes i).offset < mid) × (e ≡ Bad n rules.Order) → GoesOnFrom low all free runs mid (children_from nodes below i key (entries_of bytes)) one between → StopsAt low all e
child_refused nodes below low key mid i n bytes all free one runs between e l at refused goes =
    let rest = children_from nodes below (i + 1) key (entries_of bytes) in
    let split : children_from nodes below i key (entries_of bytes) ≡ part_of nodes below (entry_of bytes i).offset n ++ rest =
    children_here nodes below key bytes i l ∙ ap (λ k. part_of nodes below k (entry_of bytes i).at.addr ++ rest) (key_past key i (entry_of bytes i).offset refused.0) ∙ ap (λ m. part_of nodes below (entry_of bytes i).offset m ++ rest) (sym at) in
    goes.1 e (subst (λ f. StopsAt mid (children_from nodes below i key (entries_of bytes)) f) (sym refused.2)
    (subst (λ ms. StopsAt mid ms (Bad n rules.Order)) (sym split) (part_refused nodes below mid (entry_of bytes i).offset n rest refused.1)))

pub children_done : (nodes : ℕ → Node ℕ Xad) (below low key mid i : ℕ) (bytes : List ℕ) (all : Marks ℕ Xad) (free one : List ℕ) (runs between : List Pxd) → count_of bytes ≤ i → i ≤ count_of bytes
    → GoesOnFrom low all free runs mid (children_from nodes below i key (entries_of bytes)) one between → Frees low all mid free one runs between
children_done nodes below low key mid i bytes all free one runs between l m goes =
    goes.0 mid one between (subst (λ ms. Frees mid ms mid one one between between) (sym (children_past nodes below key bytes i l m)) (frees_none mid one between))

-- ---- a page

breaks_placed : (below key : ℕ) (node : Node ℕ Xad) (rule : Rule) → below_root node ≡ Broken rule → placed xt_scale below key node ≡ Broken rule
breaks_placed zero key (Leaf []) rule e = e
breaks_placed (suc below) key (Leaf []) rule e = e
breaks_placed below key (Leaf (x ∷ xs)) rule e = absurd cc
breaks_placed below key (Inner cs) rule e = absurd cc
breaks_placed zero key (Broken r) rule e = e
breaks_placed (suc below) key (Broken r) rule e = e

part_breaks : (nodes : ℕ → Node ℕ Xad) (below key page : ℕ) (rule : Rule) → placed xt_scale below key (nodes page) ≡ Broken rule → StopsAt key (part_of nodes below key page) (Bad page rule)
unfolding walk
part_breaks nodes below key page rule e =
    let c : Child ℕ = record { key = key; page = page } in
    stops_key key key page (Page page ∷ body (walk xt_scale nodes below) c (placed xt_scale below key (nodes page))) (Bad page rule) (omega arith) (ap (λ node. judge xt_scale key (body (walk xt_scale nodes below) c node)) e)

pub page_breaks : (nodes : ℕ → Node ℕ Xad) (below key page : ℕ) (e : TreeError) → BreaksAlone (nodes page) page e → StopsAt key (part_of nodes below key page) e
page_breaks nodes below key page (View e) b = tt
page_breaks nodes below key page (Bad bad rule) b =
    subst (λ n. StopsAt key (part_of nodes below key page) (Bad n rule)) (sym b.0) (part_breaks nodes below key page rule (breaks_placed below key (nodes page) rule b.1))
page_breaks nodes below key page Memory b = tt

-- a leaf above the level of leaves, and an inner page on it
leaf_deep : (below key : ℕ) (node : Node ℕ Xad) (es : List Xad) → node ≡ Leaf es → 0 < below → placed xt_scale below key node ≡ Broken rules.Deep
leaf_deep zero key node es is l = absurd (omega (arith, l))
leaf_deep (suc below) key node es is l = ap (placed xt_scale (suc below) key) is

inner_deep : (below key : ℕ) (node : Node ℕ Xad) (cs : List (Child ℕ)) → node ≡ Inner cs → below ≡ 0 → placed xt_scale below key node ≡ Broken rules.Deep
inner_deep zero key node cs is z = ap (placed xt_scale zero key) is
inner_deep (suc below) key node cs is z = absurd (omega (arith, z))

pub leaf_is_deep : (nodes : ℕ → Node ℕ Xad) (below key page : ℕ) (es : List Xad) → nodes page ≡ Leaf es → 0 < below → StopsAt key (part_of nodes below key page) (Bad page rules.Deep)
leaf_is_deep nodes below key page es is l = part_breaks nodes below key page rules.Deep (leaf_deep below key (nodes page) es is l)

pub inner_is_deep : (nodes : ℕ → Node ℕ Xad) (below key page : ℕ) (cs : List (Child ℕ)) → nodes page ≡ Inner cs → below ≡ 0 → StopsAt key (part_of nodes below key page) (Bad page rules.Deep)
inner_is_deep nodes below key page cs is z = part_breaks nodes below key page rules.Deep (inner_deep below key (nodes page) cs is z)

leaf_part : (nodes : ℕ → Node ℕ Xad) (key page : ℕ) (es : List Xad) → nodes page ≡ Leaf es → FitsFirst xt_scale key es → part_of nodes 0 key page ≡ Key page key ∷ Page page ∷ map (Row page) es
leaf_part nodes key page es is fits = cons_rows xt_scale nodes (record { key = key; page = page }) es fits is

-- the first entry of a page that has any
pub first_is : (bytes : List ℕ) → 0 < count_of bytes → entries_of bytes ≡ entry_of bytes 0 ∷ drop 1 (entries_of bytes)
first_is bytes l = drop_here bytes 0 l

pub fits_first : (key : ℕ) (bytes : List ℕ) → 0 < count_of bytes → xt_scale.fits key (entry_of bytes 0) ≡ true → FitsFirst xt_scale key (entries_of bytes)
fits_first key bytes l f = subst (FitsFirst xt_scale key) (sym (first_is bytes l)) f

pub rises_at : (key : ℕ) (bytes : List ℕ) → 0 < count_of bytes → xt_scale.fits key (entry_of bytes 0) ≡ true → rises_from 0 (entries_of bytes) ≡ true → rises_from key (entries_of bytes) ≡ true
rises_at key bytes l f r =
    subst (λ es. rises_from key es ≡ true) (sym (first_is bytes l)) (rises_key key (entry_of bytes 0) (drop 1 (entries_of bytes)) f (subst (λ es. rises_from 0 es ≡ true) (first_is bytes l) r))

pub leaf_misses : (nodes : ℕ → Node ℕ Xad) (below key page : ℕ) (bytes : List ℕ) (e : TreeError) → nodes page ≡ Leaf (entries_of bytes) → below ≡ 0 → 0 < count_of bytes → MissesKey (xt_scale.fits key (entry_of bytes 0)) page e → StopsAt key (part_of nodes below key page) e
leaf_misses nodes below key page bytes (View e) is z l m = tt
leaf_misses nodes below key page bytes (Bad bad rule) is z l m =
    subst (λ n. StopsAt key (part_of nodes below key page) (Bad n rule)) (sym m.1)
    (subst (λ r. StopsAt key (part_of nodes below key page) (Bad page r)) (sym m.2)
    (subst (λ b. StopsAt key (part_of nodes b key page) (Bad page rules.Order)) (sym z)
    (part_breaks nodes 0 key page rules.Order (ap (placed xt_scale 0 key) (is ∙ ap (λ es. Leaf es) (first_is bytes l))
    ∙ if_not (xt_scale.fits key (entry_of bytes 0)) (Leaf (entry_of bytes 0 ∷ drop 1 (entries_of bytes))) (Broken rules.Order) m.0))))
leaf_misses nodes below key page bytes Memory is z l m = tt

pub leaf_frees : (nodes : ℕ → Node ℕ Xad) (below key page high : ℕ) (bytes : List ℕ) (free one : List ℕ) (runs later : List Pxd) → nodes page ≡ Leaf (entries_of bytes) → below ≡ 0 → 0 < count_of bytes → rises_from 0 (entries_of bytes) ≡ true
    → one ≡ free ++ page ∷ [] → xt_scale.fits key (entry_of bytes 0) ≡ true → later ≡ runs ++ runs_of (entries_of bytes) → high ≡ place_after key (map (Row page) (entries_of bytes)) → Frees key (part_of nodes below key page) high free one runs later
leaf_frees nodes below key page high bytes free one runs later is z l r push fits given end =
    let es = entries_of bytes in
    let leaf : Frees key (Key page key ∷ Page page ∷ map (Row page) es) high free one runs later = record {
      rises = (le-leb key key (omega arith), subst (λ m. Rises xt_scale key (map (Row page) es) (Some m)) (sym end) (leaf_rises key page es (rises_at key bytes l fits r)));
      ends = end;
      pages = push ∙ ap (λ ns. free ++ page ∷ ns) (sym (no_pages page es));
      given = given ∙ ap (λ xs. runs ++ runs_of xs) (sym (rows_leaf ℕ page es));
    } in
    subst (λ b. Frees key (part_of nodes b key page) high free one runs later) (sym z)
    (subst (λ ms. Frees key ms high free one runs later) (sym (leaf_part nodes key page es is (fits_first key bytes l fits))) leaf)
  where
    no_pages : (page : ℕ) (es : List Xad) → pages_in (map (Row page) es) ≡ []
    no_pages page [] = refl
    no_pages page (e ∷ es) = no_pages page es

-- where the leaf's blocks could be taken
pub leaf_frees_if : (nodes : ℕ → Node ℕ Xad) (below key page high : ℕ) (bytes : List ℕ) (free one : List ℕ) (runs later : List Pxd) (r : Result (Unit {0}) TreeError) → nodes page ≡ Leaf (entries_of bytes) → below ≡ 0 → 0 < count_of bytes → rises_from 0 (entries_of bytes) ≡ true
    → one ≡ free ++ page ∷ [] → OnOk r (xt_scale.fits key (entry_of bytes 0) ≡ true) → OnOk r (later ≡ runs ++ runs_of (entries_of bytes)) → OnOk r (high ≡ place_after key (map (Row page) (entries_of bytes))) → OnOk r (Frees key (part_of nodes below key page) high free one runs later)
leaf_frees_if nodes below key page high bytes free one runs later (Err e) is z l r push fits given end = tt
leaf_frees_if nodes below key page high bytes free one runs later (Ok it) is z l r push fits given end = leaf_frees nodes below key page high bytes free one runs later is z l r push fits given end

pub leaf_misses_if : (nodes : ℕ → Node ℕ Xad) (below key page : ℕ) (bytes : List ℕ) (r : Result (Unit {0}) TreeError) → nodes page ≡ Leaf (entries_of bytes) → below ≡ 0 → 0 < count_of bytes → IfErr r (λ e. MissesKey (xt_scale.fits key (entry_of bytes 0)) page e)
    → IfErr r (λ e. StopsAt key (part_of nodes below key page) e)
leaf_misses_if nodes below key page bytes (Err e) is z l m = leaf_misses nodes below key page bytes e is z l m
leaf_misses_if nodes below key page bytes (Ok it) is z l m = tt

pub some_children : (b : ℕ) (key : ℕ) (ys : List Xad) → 0 < length ys → placed xt_scale (suc b) key (Inner (map child_of ys)) ≡ Inner (map child_of ys)
some_children b key [] l = absurd (omega (arith, l))
some_children b key (y ∷ ys) l = refl

inner_part : (nodes : ℕ → Node ℕ Xad) (below b key page : ℕ) (ys : List Xad) → nodes page ≡ Inner (map child_of ys) → 0 < length ys → below ≡ suc b
    → part_of nodes below key page ≡ Key page key ∷ Page page ∷ children_from nodes b 0 key ys
unfolding walk
inner_part nodes below b key page ys is some e =
    ap (λ n. part_of nodes n key page) e
    ∙ ap (λ node. Key page key ∷ Page page ∷ body (walk xt_scale nodes (suc b)) (record { key = key; page = page }) node) (ap (placed xt_scale (suc b) key) is ∙ some_children b key ys some)

pub inner_frees : (nodes : ℕ → Node ℕ Xad) (below b key page high : ℕ) (ys : List Xad) (free one freed : List ℕ) (runs later : List Pxd) (r : Result (Unit {0}) TreeError) → (nodes page ≡ Inner (map child_of ys)) × (0 < length ys) → below ≡ suc b → one ≡ free ++ page ∷ []
    → OnOk r (Frees key (children_from nodes b 0 key ys) high one freed runs later) → OnOk r (Frees key (part_of nodes below key page) high free freed runs later)
inner_frees nodes below b key page high ys free one freed runs later (Err x) is e push f = tt
inner_frees nodes below b key page high ys free one freed runs later (Ok it) is e push f =
    subst (λ ms. Frees key ms high free freed runs later) (sym (inner_part nodes below b key page ys is.0 is.1 e))
    (record {
      rises = (le-leb key key (omega arith), f.rises);
      ends = f.ends;
      pages = f.pages ∙ ap (λ ns. ns ++ pages_in (children_from nodes b 0 key ys)) push ∙ append_assoc free (page ∷ []) (pages_in (children_from nodes b 0 key ys));
      given = f.given;
    })

pub page_stops : (low n : ℕ) (ms : Marks ℕ Xad) (e : TreeError) → StopsAt low ms e → StopsAt low (Page n ∷ ms) e
page_stops low n ms (View e) s = tt
page_stops low n ms (Bad page rule) s = s
page_stops low n ms Memory s = tt

pub inner_stops : (nodes : ℕ → Node ℕ Xad) (below b key page : ℕ) (ys : List Xad) (r : Result (Unit {0}) TreeError) → (nodes page ≡ Inner (map child_of ys)) × (0 < length ys) → below ≡ suc b
    → IfErr r (λ e. StopsAt key (children_from nodes b 0 key ys) e) → IfErr r (λ e. StopsAt key (part_of nodes below key page) e)
inner_stops nodes below b key page ys (Ok it) is more s = tt
inner_stops nodes below b key page ys (Err e) is more s =
    subst (λ ms. StopsAt key ms e) (sym (inner_part nodes below b key page ys is.0 is.1 more)) (stops_key key key page (Page page ∷ children_from nodes b 0 key ys) e (omega arith) (page_stops key page (children_from nodes b 0 key ys) e s))

-- ---- as the old tree has it

-- what was met and freed is what stands below these entries, wherever that rises
pub frees_under : (nodes : ℕ → Node ℕ Xad) (below low high : ℕ) (xs : List Xad) (free freed : List ℕ) (runs later : List Pxd) → Frees low (flat_map (walk xt_scale nodes (suc below)) (map child_of xs)) high free freed runs later → FreesUnder nodes xs free freed runs later
frees_under nodes below low high [] free freed runs later f levels from to r = ((λ n. (let p = ap (count_in n) (f.pages ∙ append_nil free) in omega (arith, p))), f.given)
frees_under nodes below low high (x ∷ xs) free freed runs later f levels from to r =
    let c = child_of x in
    let a = rises_cut xt_scale order low (walk xt_scale nodes (suc below) c) (flat_map (walk xt_scale nodes (suc below)) (map child_of xs)) (Some high) f.rises in
    let b = rises_cut xt_scale order from (walk xt_scale nodes levels c) (flat_map (walk xt_scale nodes levels) (map child_of xs)) to r in
    let s = start_of nodes (suc below) c low a.0 a.1 in
    let t = start_of nodes levels c from b.0 b.1 in
    let same : suc below ≡ levels = (starts_once nodes (suc below) levels c.page s.0 t.0 s.1 t.1).0 in
    subst (λ l. ((n : ℕ) → count_in n freed ≡ times n (flat_map (walk xt_scale nodes l) (map child_of (x ∷ xs))) + count_in n free) × (later ≡ runs ++ runs_of (rows_of (flat_map (walk xt_scale nodes l) (map child_of (x ∷ xs)))))) same (
      λ n. (let F = flat_map (walk xt_scale nodes (suc below)) (map child_of (x ∷ xs)) in let p = ap (count_in n) f.pages in let q = count-append n free (pages_in F) in let o = count_pages n F in omega (arith, p, q, o)),
      f.given,
    )

-- ---- by the code's names

-- a page that was read is what the view shows
pub read_leaf : (blocks n : ℕ) (image : Image) (page bytes : List ℕ) (flag : ℕ) (r : Bool) → page ≡ page_of image n → bytes ≡ page → IsSound Full blocks (head_of page) (entries_of page) → r ≡ is_leaf flag → flag ≡ field_of bytes 16 1 → r ≡ true
    → page_nodes blocks (page_of image) n ≡ Leaf (entries_of page)
read_leaf blocks n image page bytes flag r is same sound kind value leaf =
    ap (xt_node Full blocks) (sym is) ∙ sound_leaf Full blocks page sound (ap (λ b. is_leaf (field_of b 16 1)) (sym same) ∙ ap is_leaf (sym value) ∙ sym kind ∙ leaf)

pub read_inner : (blocks n : ℕ) (image : Image) (page bytes : List ℕ) (flag : ℕ) (r : Bool) → page ≡ page_of image n → bytes ≡ page → IsSound Full blocks (head_of page) (entries_of page)
    → 2 < (head_of page).nextindex → r ≡ is_leaf flag → flag ≡ field_of bytes 16 1 → r ≡ false
    → (page_nodes blocks (page_of image) n ≡ Inner (map child_of (entries_of page))) × (0 < length (entries_of page))
read_inner blocks n image page bytes flag r is same sound some kind value inner =
    let f = ap (λ b. is_leaf (field_of b 16 1)) (sym same) ∙ ap is_leaf (sym value) ∙ sym kind ∙ inner in
    let size = length-entries page 0 (count_of page) in
    let long : 0 < length (entries_of page) = omega (arith, size, some) in
    (ap (xt_node Full blocks) (sym is) ∙ sound_inner Full blocks page sound f long, long)
