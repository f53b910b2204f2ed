-- What a cut meets on its way to the bound.
use Rattle.std.proofs.Common.{◌≡◌, ◌≤◌, ◌<◌, refl, sym, ap, ◌∙◌, subst, ℕ, zero, suc, ◌+◌, ◌-◌, ◌==◌, Bool, true, false, if◌then◌else◌, List, [], ◌∷◌, ◌++◌, map, length, take, drop, Some, Result, Ok, Err, IfOk, OnOk, IfErr, arith}
use Rattle.std.specs.Prelude.{nat_le, nat_lt}
use Rattle.std.specs.List.{flat_map}
use Rattle.std.proofs.lemmas.Bool.{le-leb, lt-leb, leb-true}
use Rattle.std.proofs.lemmas.Bool.Decides.{nat_tests}
use Rattle.jfs_bits.specs.declared.extent.Xad.{Xad}
use Rattle.jfs_bits.specs.declared.descriptor.Pxd.{Pxd}
use Rattle.jfs_bits.specs.declared.rule.Rule.{Rule}
use Rattle.jfs_bits.specs.declared.rule.Rule.TheVariants as rules
use Rattle.jfs_disk.specs.Image.{Image, page_of}
use Rattle.jfs_tree.specs.Walk.{Child, Node, Leaf, Inner, Broken, Page, Key, Row, Marks, Rises, rows_of, times, placed, under, body, walk}
use Rattle.jfs_tree.specs.Spells.{judge}
use Rattle.jfs_tree.specs.Edit.{count_in, own, FitsFirst}
use Rattle.jfs_tree.specs.Path.{below_root}
use Rattle.jfs_tree.specs.Removal.{Settles}
use Rattle.jfs_tree.specs.declared.draft.Drafted.{Drafted}
use Rattle.jfs_tree.specs.declared.form.TreeError.{TreeError}
use Rattle.jfs_tree.specs.declared.form.TreeError.TheVariants.{View, Bad, Memory}
use Rattle.jfs_tree.proofs.Rising.{rises_join}
use Rattle.jfs_tree.proofs.Frame.{times-append, rows-append}
use Rattle.jfs_tree.proofs.Keys.{rises_up}
use Rattle.jfs_tree.proofs.Leaves.{rows_leaf, placed_leaf}
use Rattle.jfs_xtpage.specs.Page.{head_of, entries_of, entry_of, count_of, end_of, rises_from}
use Rattle.jfs_xtree.specs.Laws.{order, ends_after}
use Rattle.jfs_xtpage.specs.declared.head.XtForm.{XtForm}
use Rattle.jfs_xtpage.specs.declared.head.XtForm.TheVariants.{Full}
use Rattle.jfs_xtpage.proofs.Entries.{length-entries}
use Rattle.jfs_xtree.specs.Node.{xt_scale, xt_node, is_leaf, child_of, IsSound, LeadsAt}
use Rattle.jfs_xtree.specs.Spells.{page_nodes}
use Rattle.jfs_xtree.specs.Cutting.{gone_past}
use Rattle.jfs_xtree.specs.CutMet.{begins_below, from_way, of_first, below_way, way_levels, path_first, path_below, way_pages, on_way, met_children, met_body, met, met_below}
use Rattle.jfs_xtree.specs.CutParts.{Frees, StopsAt, BreaksAlone, CutsPage, CutMet, FitsLeaf, Spread, AllFrom, shows, runs_of, pages_in, place_after, key_at, part_of, children_from}
use Rattle.jfs_xtree.proofs.Pages.{rises_less}
use Rattle.jfs_xtree.proofs.Reading.{sound_leaf}
use Rattle.jfs_xtree.proofs.Ways.{cut_at, length_front, map_cut}
use Rattle.jfs_xtree.proofs.CutRows.{from_place, gone_all, gone_append}
use Rattle.jfs_xtree.proofs.CutInners.{back_goes}
use Rattle.jfs_xtree.proofs.CutMarks.{after-append, if_so, if_not, stops_behind, stops_before, stops_key, leaf_rises, rises_key, count-append, count_pages, spread_walk, spread_none, spread_same, spread_join, spread_list, spread_wider}
use Rattle.jfs_xtree.proofs.CutFrees.{a_leaf, drop_under, children_here, page_stops, first_is, some_children}
use Rattle.jfs_xtree.proofs.CutSteps.{first_of_all}

-- ---- the child on the way

-- each but the first begins below the bound
abbrev KeysBelow : ℕ → List (Child ℕ) → Child ℕ → Type 0
KeysBelow bound [] t = Unit {0}
KeysBelow bound (f ∷ fs) t = (begins_below bound (fs ++ t ∷ []) ≡ true) × KeysBelow bound fs t

same_begin : (bound : ℕ) (fs : List (Child ℕ)) (t : Child ℕ) (back : List (Child ℕ)) → begins_below bound (fs ++ t ∷ back) ≡ begins_below bound (fs ++ t ∷ [])
same_begin bound [] t back = refl
same_begin bound (f ∷ fs) t back = refl

way_at : (bound : ℕ) (front : List (Child ℕ)) (t : Child ℕ) (back : List (Child ℕ)) → KeysBelow bound front t → begins_below bound back ≡ false → from_way bound (front ++ t ∷ back) ≡ t ∷ back
way_at bound [] t back k n = if_not (begins_below bound back) (from_way bound back) (t ∷ back) n
way_at bound (f ∷ fs) t back k n =
    if_so (begins_below bound (fs ++ t ∷ back)) (from_way bound (fs ++ t ∷ back)) (f ∷ (fs ++ t ∷ back)) (same_begin bound fs t back ∙ k.0) ∙ way_at bound fs t back k.1 n

way_under : (bound key : ℕ) (front : List (Child ℕ)) (t : Child ℕ) (back : List (Child ℕ)) → KeysBelow bound front t → begins_below bound back ≡ false → from_way bound (under key (front ++ t ∷ back)) ≡ own key front t ∷ back
way_under bound key [] t back k n = if_not (begins_below bound back) (from_way bound back) (record { key = key; page = t.page } ∷ back) n
way_under bound key (f ∷ fs) t back k n =
    if_so (begins_below bound (fs ++ t ∷ back)) (from_way bound (fs ++ t ∷ back)) (record { key = key; page = f.page } ∷ (fs ++ t ∷ back)) (same_begin bound fs t back ∙ k.0) ∙ way_at bound fs t back k.1 n

above_all : (low : ℕ) (y : Xad) (ys : List Xad) (x : Xad) (rest : List Xad) → rises_from low (y ∷ (ys ++ x ∷ rest)) ≡ true → end_of y ≤ x.offset
above_all low y [] x rest r = let t = rises_less low y (x ∷ rest) r in (rises_less (end_of y) x rest t.1).0
above_all low y (z ∷ zs) x rest r =
    let t = rises_less low y (z ∷ (zs ++ x ∷ rest)) r in
    let u = rises_less (end_of y) z (zs ++ x ∷ rest) t.1 in
    let h = above_all (end_of y) z zs x rest t.1 in
    let a = u.0 in let w = ends_after z in omega (arith, a, w, h)

is_below : (a b : ℕ) → a < b → nat_lt a b ≡ true
is_below a b l = grind (arith, nat_tests, l)

not_below : (a b : ℕ) → b ≤ a → nat_lt a b ≡ false
not_below a b l = grind (arith, nat_tests, l)

keys_below : (bound low : ℕ) (xs : List Xad) (x : Xad) (rest : List Xad) → rises_from low (xs ++ x ∷ rest) ≡ true → (0 < length xs → x.offset < bound) → KeysBelow bound (map child_of xs) (child_of x)
keys_below bound low [] x rest r h = tt
keys_below bound low (y ∷ []) x rest r h = (is_below x.offset bound (h (omega arith)), tt)
keys_below bound low (y ∷ z ∷ zs) x rest r h =
    let t = rises_less low y (z ∷ (zs ++ x ∷ rest)) r in
    let u = above_all (end_of y) z zs x rest t.1 in let w = ends_after z in let b = h (omega arith) in
    (is_below z.offset bound (omega (arith, u, w, b)), keys_below bound (end_of y) (z ∷ zs) x rest t.1 (λ l. b))

none_begins : (bound : ℕ) (xs : List Xad) → AllFrom bound xs → begins_below bound (map child_of xs) ≡ false
none_begins bound [] h = refl
none_begins bound (x ∷ xs) h = not_below x.offset bound h.0

own_is : (key place : ℕ) (xs : List Xad) (x : Xad) → length xs ≡ place → own key (map child_of xs) (child_of x) ≡ record { key = key_at key place x.offset; page = x.at.addr }
own_is key zero [] x e = refl
own_is key (suc place) [] x e = absurd (omega (arith, e))
own_is key zero (y ∷ ys) x e = absurd (omega (arith, e))
own_is key (suc place) (y ∷ ys) x e = refl

-- the children from the way on, by the place that the code found
record OnWay (bound key place : ℕ) (bytes : List ℕ) : Type 0 where
  under_key : from_way bound (under key (map child_of (entries_of bytes))) ≡ record { key = key_at key place (entry_of bytes place).offset; page = (entry_of bytes place).at.addr } ∷ map child_of (drop (place + 1) (entries_of bytes))
  alone : from_way bound (map child_of (entries_of bytes)) ≡ child_of (entry_of bytes place) ∷ map child_of (drop (place + 1) (entries_of bytes))
  behind : AllFrom bound (drop (place + 1) (entries_of bytes))

on_place : (bound last key place : ℕ) (bytes : List ℕ) → rises_from 0 (entries_of bytes) ≡ true → last ≡ bound - 1 → LeadsAt bytes last place → OnWay bound key place bytes
on_place bound last key place bytes order is leads =
    let inside = leads.within in
    let a = take place (entries_of bytes) in
    let x = entry_of bytes place in
    let b = drop (place + 1) (entries_of bytes) in
    let long = length_front bytes place inside in
    let cut = cut_at bytes place inside in
    let all = ap (map child_of) cut ∙ map_cut a x b in
    let r = subst (λ xs. rises_from 0 xs ≡ true) cut order in
    let from = from_place bytes bound (place + 1) (omega (arith, inside)) (λ j p q. let l = leads.past j (omega (arith, p)) q in omega (arith, l, is)) in
    let keys = keys_below bound 0 a x b r (λ l. some_below a l r (leads.above (omega (arith, l, long)))) in
    record {
      under_key = ap (λ cs. from_way bound (under key cs)) all ∙ way_under bound key (map child_of a) (child_of x) (map child_of b) keys (none_begins bound b from) ∙ ap (λ c. c ∷ map child_of b) (own_is key place a x long);
      alone = ap (from_way bound) all ∙ way_at bound (map child_of a) (child_of x) (map child_of b) keys (none_begins bound b from);
      behind = from;
    }
  where
    some_below : (xs : List Xad) → 0 < length xs → rises_from 0 (xs ++ entry_of bytes place ∷ drop (place + 1) (entries_of bytes)) ≡ true → (entry_of bytes place).offset ≤ last → (entry_of bytes place).offset < bound
    some_below [] l r h = absurd (omega (arith, l))
    some_below (y ∷ ys) l r h = let u = above_all 0 y ys (entry_of bytes place) (drop (place + 1) (entries_of bytes)) r in let w = ends_after y in omega (arith, u, w, h, is)

-- what is met of an inner page: its child on the way, and those behind it
record WayIs (nodes : ℕ → Node ℕ Xad) (bound most : ℕ) (c : Child ℕ) (node : Node ℕ Xad) (key n : ℕ) (back : List Xad) : Type 0 where
  met_is : met_below nodes bound most c node ≡ met nodes bound most (record { key = key; page = n }) ++ flat_map (walk xt_scale nodes (way_levels nodes bound most n)) (map child_of back)
  level : below_way (way_levels nodes bound most) bound node ≡ way_levels nodes bound most n
  path : path_below (way_pages nodes bound most) bound node ≡ way_pages nodes bound most n

way_is : (nodes : ℕ → Node ℕ Xad) (bound most last place key n : ℕ) (c : Child ℕ) (node : Node ℕ Xad) (bytes : List ℕ) → rises_from 0 (entries_of bytes) ≡ true → last ≡ bound - 1 → LeadsAt bytes last place
    → node ≡ Inner (map child_of (entries_of bytes)) → key ≡ key_at c.key place (entry_of bytes place).offset → n ≡ (entry_of bytes place).at.addr → WayIs nodes bound most c node key n (drop (place + 1) (entries_of bytes))
way_is nodes bound most last place key n c node bytes order is leads inner keyed at =
    let w = on_place bound last c.key place bytes order is leads in
    let b = map child_of (drop (place + 1) (entries_of bytes)) in
    let x = entry_of bytes place in
    let whole : WayIs nodes bound most c (Inner (map child_of (entries_of bytes))) (key_at c.key place x.offset) x.at.addr (drop (place + 1) (entries_of bytes)) = record {
      met_is = ap (met_children nodes (met nodes bound most) (way_levels nodes bound most)) w.under_key;
      level = ap (of_first (way_levels nodes bound most)) w.alone;
      path = ap (path_first (way_pages nodes bound most)) w.alone;
    } in
    subst (λ o. WayIs nodes bound most c o key n (drop (place + 1) (entries_of bytes))) (sym inner)
    (subst (λ k. WayIs nodes bound most c (Inner (map child_of (entries_of bytes))) k n (drop (place + 1) (entries_of bytes))) (sym keyed)
    (subst (λ m. WayIs nodes bound most c (Inner (map child_of (entries_of bytes))) (key_at c.key place x.offset) m (drop (place + 1) (entries_of bytes))) (sym at) whole))

-- ---- a page on the way that breaks a rule

abbrev a_bad : ℕ → Rule → TreeError
a_bad page rule = Bad page rule

past_last : (nodes : ℕ → Node ℕ Xad) (bound most low : ℕ) (c : Child ℕ) → most ≡ 0 → StopsAt low (met nodes bound most c) (Bad c.page rules.Deep)
unfolding met
past_last nodes bound zero low c z = refl
past_last nodes bound (suc most) low c z = absurd (omega (arith, z))

pub way_past : (nodes : ℕ → Node ℕ Xad) (bound most low key n m : ℕ) → most ≡ 0 → n ≡ m → StopsAt low (met nodes bound most (record { key = key; page = m })) (Bad n rules.Deep)
way_past nodes bound most low key n m z at = subst (λ p. StopsAt low (met nodes bound most (record { key = key; page = m })) (Bad p rules.Deep)) (sym at) (past_last nodes bound most low (record { key = key; page = m }) z)

some_more : (most : ℕ) → 0 < most → (less : ℕ) × (most ≡ suc less)
some_more zero l = absurd (omega (arith, l))
some_more (suc less) l = (less, refl)

key_refused : (nodes : ℕ → Node ℕ Xad) (bound less low : ℕ) (c : Child ℕ) → c.key < low → StopsAt low (met nodes bound (suc less) c) (Bad c.page rules.Order)
unfolding met
key_refused nodes bound less low c l = if_not (nat_le low c.key) _ _ (lt-leb low c.key l)

key_past : (low i offset : ℕ) → 0 < i → key_at low i offset ≡ offset
key_past low zero offset l = absurd (omega (arith, l))
key_past low (suc i) offset l = refl

pub way_refused : (nodes : ℕ → Node ℕ Xad) (bound most low place offset n m : ℕ) (e : TreeError) → 0 < most → n ≡ m → (0 < place) × (offset < low) × (e ≡ Bad n rules.Order) → StopsAt low (met nodes bound most (record { key = key_at low place offset; page = m })) e
way_refused nodes bound most low place offset n m e l at refused =
    let t = some_more most l in
    subst (λ f. StopsAt low (met nodes bound most (record { key = key_at low place offset; page = m })) f) (sym (refused.2 ∙ ap (λ p. a_bad p rules.Order) at))
    (subst (λ k. StopsAt low (met nodes bound k (record { key = key_at low place offset; page = m })) (Bad m rules.Order)) (sym t.1)
    (key_refused nodes bound t.0 low (record { key = key_at low place offset; page = m }) (let h = key_past low place offset refused.0 in let o = refused.1 in omega (arith, h, o))))

-- a child that breaks a rule behind its key
met_stops : (nodes : ℕ → Node ℕ Xad) (bound less low : ℕ) (c : Child ℕ) (e : TreeError) → low ≤ c.key → StopsAt c.key (met_below nodes bound less c (nodes c.page)) e → StopsAt low (met nodes bound (suc less) c) e
unfolding met
met_stops nodes bound less low c e l s =
    stops_key low c.key c.page (Page c.page ∷ met_below nodes bound less c (nodes c.page)) e l (page_stops c.key c.page (met_below nodes bound less c (nodes c.page)) e s)

breaks_on_way : (key : ℕ) (node : Node ℕ Xad) (rule : Rule) → below_root node ≡ Broken rule → on_way key node ≡ Broken rule
breaks_on_way key (Leaf []) rule e = e
breaks_on_way key (Leaf (x ∷ xs)) rule e = absurd cc
breaks_on_way key (Inner cs) rule e = absurd cc
breaks_on_way key (Broken r) rule e = e

shown_broken : (nodes : ℕ → Node ℕ Xad) (bound less : ℕ) (c : Child ℕ) (node : Node ℕ Xad) (rule : Rule) → on_way c.key node ≡ Broken rule → StopsAt c.key (met_below nodes bound less c node) (Bad c.page rule)
shown_broken nodes bound less c node rule e = ap (λ o. judge xt_scale c.key (met_body nodes (met nodes bound less) (way_levels nodes bound less) bound c o)) e

breaks_alone : (nodes : ℕ → Node ℕ Xad) (bound less : ℕ) (c : Child ℕ) (node : Node ℕ Xad) (e : TreeError) → BreaksAlone node c.page e → StopsAt c.key (met_below nodes bound less c node) e
breaks_alone nodes bound less c node (View e) b = tt
breaks_alone nodes bound less c node (Bad bad rule) b =
    subst (λ p. StopsAt c.key (met_below nodes bound less c node) (Bad p rule)) (sym b.0) (shown_broken nodes bound less c node rule (breaks_on_way c.key node rule b.1))
breaks_alone nodes bound less c node Memory b = tt

-- by the code's names: a page that was read breaks a rule by itself
pub way_breaks : (nodes : ℕ → Node ℕ Xad) (bound most low place offset n m key : ℕ) (e : TreeError) → 0 < most → n ≡ m → (key ≡ key_at low place offset) × (low ≤ key) → BreaksAlone (nodes n) n e
    → StopsAt low (met nodes bound most (record { key = key_at low place offset; page = m })) e
way_breaks nodes bound most low place offset n m key e l at pass b =
    let t = some_more most l in
    subst (λ k. StopsAt low (met nodes bound k (record { key = key_at low place offset; page = m })) e) (sym t.1)
    (subst (λ k. StopsAt low (met nodes bound (suc t.0) (record { key = k; page = m })) e) pass.0
    (subst (λ p. StopsAt low (met nodes bound (suc t.0) (record { key = key; page = p })) e) at
    (met_stops nodes bound t.0 low (record { key = key; page = n }) e pass.1 (breaks_alone nodes bound t.0 (record { key = key; page = n }) (nodes n) e b))))

-- and a leaf whose first extent misses the key
pub way_misses : (nodes : ℕ → Node ℕ Xad) (bound most low place offset n m key : ℕ) (bytes : List ℕ) → 0 < most → n ≡ m → (key ≡ key_at low place offset) × (low ≤ key) → nodes n ≡ Leaf (entries_of bytes) → 0 < count_of bytes
    → xt_scale.fits key (entry_of bytes 0) ≡ false → StopsAt low (met nodes bound most (record { key = key_at low place offset; page = m })) (Bad n rules.Order)
way_misses nodes bound most low place offset n m key bytes l at pass is some misses =
    let t = some_more most l in
    subst (λ k. StopsAt low (met nodes bound k (record { key = key_at low place offset; page = m })) (Bad n rules.Order)) (sym t.1)
    (subst (λ k. StopsAt low (met nodes bound (suc t.0) (record { key = k; page = m })) (Bad n rules.Order)) pass.0
    (subst (λ p. StopsAt low (met nodes bound (suc t.0) (record { key = key; page = p })) (Bad n rules.Order)) at
    (met_stops nodes bound t.0 low (record { key = key; page = n }) (Bad n rules.Order) pass.1
    (shown_broken nodes bound t.0 (record { key = key; page = n }) (nodes n) rules.Order
    (ap (on_way key) (is ∙ ap (λ es. a_leaf es) (first_is bytes some)) ∙ if_not (xt_scale.fits key (entry_of bytes 0)) _ _ misses)))))

-- ---- what an inner page meets

-- a rule that is broken at its child on the way, below that child, or behind it
pub child_breaks : (nodes : ℕ → Node ℕ Xad) (bound most last place key n : ℕ) (c : Child ℕ) (node : Node ℕ Xad) (bytes : List ℕ) (e : TreeError) → rises_from 0 (entries_of bytes) ≡ true → last ≡ bound - 1 → LeadsAt bytes last place
    → node ≡ Inner (map child_of (entries_of bytes)) → key ≡ key_at c.key place (entry_of bytes place).offset → n ≡ (entry_of bytes place).at.addr → StopsAt c.key (met nodes bound most (record { key = key; page = n })) e → StopsAt c.key (met_below nodes bound most c node) e
child_breaks nodes bound most last place key n c node bytes e order is leads inner keyed at s =
    let w = way_is nodes bound most last place key n c node bytes order is leads inner keyed at in
    subst (λ ms. StopsAt c.key ms e) (sym w.met_is) (stops_before c.key (met nodes bound most (record { key = key; page = n })) (flat_map (walk xt_scale nodes (way_levels nodes bound most n)) (map child_of (drop (place + 1) (entries_of bytes)))) e s)

pub below_breaks : (nodes : ℕ → Node ℕ Xad) (bound most less last place key n : ℕ) (c : Child ℕ) (node : Node ℕ Xad) (bytes : List ℕ) (e : TreeError) → rises_from 0 (entries_of bytes) ≡ true → last ≡ bound - 1 → LeadsAt bytes last place
    → node ≡ Inner (map child_of (entries_of bytes)) → (key ≡ key_at c.key place (entry_of bytes place).offset) × (c.key ≤ key) → n ≡ (entry_of bytes place).at.addr → most ≡ suc less
    → StopsAt key (met_below nodes bound less (record { key = key; page = n }) (nodes n)) e → StopsAt c.key (met_below nodes bound most c node) e
below_breaks nodes bound most less last place key n c node bytes e order is leads inner pass at more s =
    child_breaks nodes bound most last place key n c node bytes e order is leads inner pass.0 at
    (subst (λ k. StopsAt c.key (met nodes bound k (record { key = key; page = n })) e) (sym more) (met_stops nodes bound less c.key (record { key = key; page = n }) e pass.1 s))

-- the child on the way, with all that is met below it
record ChildMet (nodes : ℕ → Node ℕ Xad) (bound most low key n mid b : ℕ) (kept : Bool) (freed : List ℕ) (runs : List Pxd) : Type 0 where
  rises : Rises xt_scale low (met nodes bound most (record { key = key; page = n })) (Some mid)
  ends : mid ≡ place_after low (met nodes bound most (record { key = key; page = n }))
  level : way_levels nodes bound most n ≡ suc b
  gone : runs ≡ gone_past bound (rows_of (met nodes bound most (record { key = key; page = n })))
  inside : (m : ℕ) → (if n == m then 1 else 0) + count_in m freed ≤ times m (met nodes bound most (record { key = key; page = n }))
  whole : kept ≡ false → met nodes bound most (record { key = key; page = n }) ≡ part_of nodes b key n
  rest : (m : ℕ) → times m (met nodes bound most (record { key = key; page = n })) ≤ count_in m freed + count_in m (way_pages nodes bound most n)

child_met : (nodes : ℕ → Node ℕ Xad) (bound most less low key n mid b : ℕ) (kept : Bool) (freed : List ℕ) (runs : List Pxd) → most ≡ suc less → low ≤ key → CutMet nodes bound less (record { key = key; page = n }) (nodes n) mid b kept freed runs
    → ChildMet nodes bound most low key n mid b kept freed runs
unfolding met way_levels way_pages walk
child_met nodes bound most less low key n mid b kept freed runs more l m =
    subst (λ k. ChildMet nodes bound k low key n mid b kept freed runs) (sym more)
    (record {
      rises = (le-leb low key l, m.rises);
      ends = m.ends;
      level = ap (λ k. suc k) (sym m.level);
      gone = m.gone;
      inside = λ p. (let i = m.inside p in omega (arith, i));
      whole = λ z. ap (λ ms. Key n key ∷ Page n ∷ ms) (m.whole z);
      rest = λ p. (let i = m.rest p in omega (arith, i));
    })

pub behind_is : (nodes : ℕ → Node ℕ Xad) (b place mid : ℕ) (bytes : List ℕ) → children_from nodes b (place + 1) mid (entries_of bytes) ≡ flat_map (walk xt_scale nodes (suc b)) (map child_of (drop (place + 1) (entries_of bytes)))
behind_is nodes b place mid bytes = ap (flat_map (walk xt_scale nodes (suc b))) (drop_under mid place (entries_of bytes))

pub behind_breaks : (nodes : ℕ → Node ℕ Xad) (bound most less last place key n mid b : ℕ) (c : Child ℕ) (node : Node ℕ Xad) (bytes : List ℕ) (kept : Bool) (freed : List ℕ) (runs : List Pxd) (e : TreeError) → rises_from 0 (entries_of bytes) ≡ true → last ≡ bound - 1 → LeadsAt bytes last place
    → node ≡ Inner (map child_of (entries_of bytes)) → (key ≡ key_at c.key place (entry_of bytes place).offset) × (c.key ≤ key) → n ≡ (entry_of bytes place).at.addr → most ≡ suc less
    → CutMet nodes bound less (record { key = key; page = n }) (nodes n) mid b kept freed runs → StopsAt mid (children_from nodes b (place + 1) mid (entries_of bytes)) e → StopsAt c.key (met_below nodes bound most c node) e
behind_breaks nodes bound most less last place key n mid b c node bytes kept freed runs e order is leads inner pass at more m s =
    let w = way_is nodes bound most last place key n c node bytes order is leads inner pass.0 at in
    let h = child_met nodes bound most less c.key key n mid b kept freed runs more pass.1 m in
    let back = map child_of (drop (place + 1) (entries_of bytes)) in
    subst (λ ms. StopsAt c.key ms e) (sym w.met_is)
    (subst (λ l. StopsAt c.key (met nodes bound most (record { key = key; page = n }) ++ flat_map (walk xt_scale nodes l) back) e) (sym h.level)
    (stops_behind c.key mid (met nodes bound most (record { key = key; page = n })) (flat_map (walk xt_scale nodes (suc b)) back) (Some mid) e h.rises h.ends
    (subst (λ ms. StopsAt mid ms e) (behind_is nodes b place mid bytes) s)))

-- ---- an inner page that was cut

-- where nothing of the child is left, all of it is free
freed_whole : (blocks bound key n mid b : ℕ) (image : Image) (after : ℕ → List ℕ) (kept : Bool) (freed : List ℕ) (runs : List Pxd) → kept ≡ false → Rises xt_scale key (part_of (page_nodes blocks (page_of image)) b key n) (Some mid)
    → CutsPage blocks bound (page_of image) after n kept freed runs → Spread (page_nodes blocks (page_of image)) key mid (λ m. count_in m freed)
freed_whole blocks bound key n mid b image after true freed runs z r cuts = absurd cc
freed_whole blocks bound key n mid b image after false freed runs z r cuts =
    let nodes = page_nodes blocks (page_of image) in
    let part = (cuts (suc b) key key (Some mid) r).0 in
    spread_same nodes key mid (λ m. times m (part_of nodes b key n)) (λ m. count_in m freed) (λ m. (let p = part.pages m in omega (arith, p))) (spread_walk nodes (suc b) (record { key = key; page = n }) key mid r)

child_spread : (blocks bound low key n mid b : ℕ) (image : Image) (after : ℕ → List ℕ) (kept : Bool) (one two : List ℕ) (runs : List Pxd) → low ≤ key → Spread (page_nodes blocks (page_of image)) key mid (λ m. count_in m one) → (kept ≡ true → two ≡ one)
    → (kept ≡ false → Rises xt_scale key (part_of (page_nodes blocks (page_of image)) b key n) (Some mid)) → CutsPage blocks bound (page_of image) after n kept two runs → Spread (page_nodes blocks (page_of image)) low mid (λ m. count_in m two)
child_spread blocks bound low key n mid b image after true one two runs l s same r cuts = spread_wider (page_nodes blocks (page_of image)) low key mid (λ m. count_in m two) l (subst (λ f. Spread (page_nodes blocks (page_of image)) key mid (λ m. count_in m f)) (sym (same refl)) s)
child_spread blocks bound low key n mid b image after false one two runs l s same r cuts = spread_wider (page_nodes blocks (page_of image)) low key mid (λ m. count_in m two) l (freed_whole blocks bound key n mid b image after false two runs refl (r refl) cuts)

inner_shows : (nodes : ℕ → Node ℕ Xad) (below b : ℕ) (c : Child ℕ) (node : Node ℕ Xad) (ys : List Xad) → below ≡ suc b → node ≡ Inner (map child_of ys) → 0 < length ys → shows nodes below c node ≡ children_from nodes b 0 c.key ys
inner_shows nodes below b c node ys e is some =
    ap (λ l. shows nodes l c node) e ∙ ap (λ o. body (walk xt_scale nodes (suc b)) c o) (ap (placed xt_scale (suc b) c.key) is ∙ some_children b c.key ys some)

two_rest : (n : ℕ) (k : Bool) (one two : List ℕ) → (k ≡ true → two ≡ one) → (k ≡ false → two ≡ one ++ n ∷ []) → (p : ℕ) → count_in p one ≤ count_in p two
two_rest n true one two same pushed p = let e = ap (count_in p) (same refl) in omega (arith, e)
two_rest n false one two same pushed p = let e = ap (count_in p) (pushed refl) in let a = count-append p one (n ∷ []) in omega (arith, e, a)

two_inside : (n : ℕ) (k : Bool) (one two : List ℕ) → (k ≡ true → two ≡ one) → (k ≡ false → two ≡ one ++ n ∷ []) → (p : ℕ) → count_in p two ≤ (if n == p then 1 else 0) + count_in p one
two_inside n true one two same pushed p = let e = ap (count_in p) (same refl) in omega (arith, e)
two_inside n false one two same pushed p = let e = ap (count_in p) (pushed refl) in let a = count-append p one (n ∷ []) in omega (arith, e, a)

part_rises : (nodes : ℕ → Node ℕ Xad) (b low key n mid : ℕ) (ms : Marks ℕ Xad) → ms ≡ part_of nodes b key n → Rises xt_scale low ms (Some mid) → Rises xt_scale key (part_of nodes b key n) (Some mid)
unfolding walk
part_rises nodes b low key n mid ms e r = let s = subst (λ xs. Rises xt_scale low xs (Some mid)) e r in (le-leb key key (omega arith), s.1)

pub inner_met : (blocks bound most less last place key n mid b high below : ℕ) (c : Child ℕ) (node : Node ℕ Xad) (bytes : List ℕ) (image : Image) (after : ℕ → List ℕ) (k kept : Bool) (one two freed : List ℕ) (first given runs : List Pxd)
    → rises_from 0 (entries_of bytes) ≡ true → last ≡ bound - 1 → LeadsAt bytes last place → node ≡ Inner (map child_of (entries_of bytes)) → (key ≡ key_at c.key place (entry_of bytes place).offset) × (c.key ≤ key) → n ≡ (entry_of bytes place).at.addr → most ≡ suc less
    → CutMet (page_nodes blocks (page_of image)) bound less (record { key = key; page = n }) (page_nodes blocks (page_of image) n) mid b k one first → CutsPage blocks bound (page_of image) after n k two given → (k ≡ true → two ≡ one) → (k ≡ false → two ≡ one ++ n ∷ [])
    → Frees mid (children_from (page_nodes blocks (page_of image)) b (place + 1) mid (entries_of bytes)) high two freed first runs → below ≡ b + 1 → (kept ≡ false → (place ≡ 0) × (k ≡ false))
    → CutMet (page_nodes blocks (page_of image)) bound most c node high below kept freed runs
inner_met blocks bound most less last place key n mid b high below c node bytes image after k kept one two freed first given runs order_is is leads inner pass at more m cuts same pushed frees deeper none =
    let nodes = page_nodes blocks (page_of image) in
    let back = drop (place + 1) (entries_of bytes) in
    let w = way_is nodes bound most last place key n c node bytes order_is is leads inner pass.0 at in
    let way = on_place bound last c.key place bytes order_is is leads in
    let h = child_met nodes bound most less c.key key n mid b k one first more pass.1 m in
    let M = met nodes bound most (record { key = key; page = n }) in
    let R = flat_map (walk xt_scale nodes (suc b)) (map child_of back) in
    let split = w.met_is ∙ ap (λ l. M ++ flat_map (walk xt_scale nodes l) (map child_of back)) h.level in
    let f = subst (λ ms. Frees mid ms high two freed first runs) (behind_is nodes b place mid bytes) frees in
    let up = leb-true c.key mid (rises_up xt_scale order c.key M mid h.rises) in
    let on = leb-true mid high (rises_up xt_scale order mid R high f.rises) in
    let inside = leads.within in
    let past = back_goes bound nodes b mid (map child_of back) (Some high) f.rises (first_of_all bound back way.behind) in
    record {
      level = deeper ∙ (let s : b + 1 ≡ suc b = omega arith in s) ∙ sym h.level ∙ sym w.level;
      rises = subst (λ ms. Rises xt_scale c.key ms (Some high)) (sym split) (rises_join xt_scale order c.key mid M R (Some high) h.rises f.rises);
      ends = f.ends ∙ ap (λ p. place_after p R) h.ends ∙ sym (after-append c.key M R) ∙ ap (place_after c.key) (sym split);
      gone = f.given ∙ ap (λ ps. ps ++ runs_of (rows_of R)) h.gone ∙ ap (λ ps. gone_past bound (rows_of M) ++ ps) (sym (gone_all bound (rows_of R) past))
          ∙ sym (gone_append bound (rows_of M) (rows_of R)) ∙ ap (gone_past bound) (sym (rows-append M R)) ∙ ap (λ ms. gone_past bound (rows_of ms)) (sym split);
      spread = spread_join nodes c.key mid high (λ p. count_in p two) (λ p. times p R) (λ p. count_in p freed) up on
          (child_spread blocks bound c.key key n mid b image after k one two given pass.1 m.spread same (λ z. part_rises nodes b c.key key n mid M (h.whole z) h.rises) cuts)
          (spread_list nodes (suc b) (map child_of back) mid high f.rises) (λ p. (let a = ap (count_in p) f.pages in let d = count-append p two (pages_in R) in let e = count_pages p R in omega (arith, a, d, e)));
      inside = λ p.
          (let a = ap (count_in p) f.pages in let d = count-append p two (pages_in R) in let e = count_pages p R in let i = h.inside p in let j = two_inside n k one two same pushed p in let t = times-append p M R in let s = ap (times p) split in
          omega (arith, a, d, e, i, j, t, s));
      rest = λ p.
          (let a = ap (count_in p) f.pages in let d = count-append p two (pages_in R) in let e = count_pages p R in let i = h.rest p in let j = two_rest n k one two same pushed p in let t = times-append p M R in let s = ap (times p) split in
          let v = ap (count_in p) w.path in omega (arith, a, d, e, i, j, t, s, v));
      whole = λ z. (let y = none z in all_met nodes h.level (h.whole y.1) split y.0 (let x = y.0 in omega (arith, x, inside)));
    }
  where
    all_met : (nodes : ℕ → Node ℕ Xad) → way_levels nodes bound most n ≡ suc b → met nodes bound most (record { key = key; page = n }) ≡ part_of nodes b key n
        → met_below nodes bound most c node ≡ met nodes bound most (record { key = key; page = n }) ++ flat_map (walk xt_scale nodes (suc b)) (map child_of (drop (place + 1) (entries_of bytes)))
        → place ≡ 0 → 0 < count_of bytes → met_below nodes bound most c node ≡ shows nodes below c node
    all_met nodes level whole split front some = split ∙ ap (λ ms. ms ++ flat_map (walk xt_scale nodes (suc b)) (map child_of (drop (place + 1) (entries_of bytes)))) whole
        ∙ ap (λ ms. part_of nodes b key n ++ ms) (sym (behind_is nodes b place c.key bytes))
        ∙ ap (λ k. part_of nodes b k n ++ children_from nodes b (place + 1) c.key (entries_of bytes)) pass.0
        ∙ ap (λ p. part_of nodes b (key_at c.key place (entry_of bytes place).offset) p ++ children_from nodes b (place + 1) c.key (entries_of bytes)) at
        ∙ sym (children_here nodes b c.key bytes place leads.within) ∙ ap (λ i. children_from nodes b i c.key (entries_of bytes)) front
        ∙ sym (inner_shows nodes below b c node (entries_of bytes) (deeper ∙ (let s : b + 1 ≡ suc b = omega arith in s)) inner (let size = length-entries bytes 0 (count_of bytes) in omega (arith, size, some)))

-- ---- a leaf that was cut

abbrev rows_at : ℕ → List Xad → Marks ℕ Xad
rows_at page es = map (Row page) es

rows_no_pages : (n page : ℕ) (es : List Xad) → times n (rows_at page es) ≡ 0
rows_no_pages n page [] = refl
rows_no_pages n page (e ∷ es) = rows_no_pages n page es

leaf_met : (nodes : ℕ → Node ℕ Xad) (bound most low page high below : ℕ) (es : List Xad) (kept : Bool) (freed : List ℕ) (runs : List Pxd) → FitsFirst xt_scale low es → rises_from 0 es ≡ true → freed ≡ [] → runs ≡ gone_past bound es → high ≡ place_after low (map (Row page) es) → below ≡ 0
    → CutMet nodes bound most (record { key = low; page = page }) (Leaf es) high below kept freed runs
leaf_met nodes bound most low page high below [] kept freed runs fits r none gone end z = absurd fits
leaf_met nodes bound most low page high below (e ∷ es) kept freed runs fits r none gone end z =
    let c : Child ℕ = record { key = low; page = page } in
    let is : met_below nodes bound most c (Leaf (e ∷ es)) ≡ map (Row page) (e ∷ es) = ap (met_body nodes (met nodes bound most) (way_levels nodes bound most) bound c) (if_so (xt_scale.fits low e) (Leaf (e ∷ es)) (Broken rules.Order) fits) in
    record {
      level = z;
      rises = subst (λ ms. Rises xt_scale low ms (Some high)) (sym is) (subst (λ h. Rises xt_scale low (map (Row page) (e ∷ es)) (Some h)) (sym end) (leaf_rises low page (e ∷ es) (rises_key low e es fits r)));
      ends = end ∙ ap (place_after low) (sym is);
      gone = gone ∙ ap (gone_past bound) (sym (ap rows_of is ∙ rows_leaf ℕ page (e ∷ es)));
      spread = spread_none nodes low high (λ n. count_in n freed) (λ n. ap (count_in n) none);
      inside = λ n. (let e = ap (count_in n) none in omega (arith, e));
      rest = λ n. (let t = ap (times n) is in let z = rows_no_pages n page (e ∷ es) in omega (arith, t, z));
      whole = λ k. is ∙ sym (ap (λ b. shows nodes b c (Leaf (e ∷ es))) z ∙ ap (body (walk xt_scale nodes 0) c) (placed_leaf xt_scale low (e ∷ es) fits));
    }

pub leaf_met_if : (form : XtForm) (blocks bound most low high below : ℕ) (bytes : List ℕ) (image : Image) (freed : List ℕ) (old runs : List Pxd) (r : Result Bool TreeError) → IsSound form blocks (head_of bytes) (entries_of bytes) → is_leaf (head_of bytes).flag ≡ true
    → freed ≡ [] → old ≡ [] → OnOk r (runs ≡ old ++ gone_past bound (entries_of bytes)) → ((page : ℕ) → high ≡ place_after low (map (Row page) (entries_of bytes))) → below ≡ 0
    → IfOk r (λ kept. FitsLeaf low bytes → (page : ℕ) → CutMet (page_nodes blocks (page_of image)) bound most (record { key = low; page = page }) (xt_node form blocks bytes) high below kept freed runs)
leaf_met_if form blocks bound most low high below bytes image freed old runs (Err e) sound leaf none empty gone end z = tt
leaf_met_if form blocks bound most low high below bytes image freed old runs (Ok kept) sound leaf none empty gone end z = λ fits page.
    subst (λ o. CutMet (page_nodes blocks (page_of image)) bound most (record { key = low; page = page }) o high below kept freed runs) (sym (sound_leaf form blocks bytes sound leaf))
    (leaf_met (page_nodes blocks (page_of image)) bound most low page high below (entries_of bytes) kept freed runs (fits leaf) sound.order none (gone ∙ ap (λ ps. ps ++ gone_past bound (entries_of bytes)) empty) (end page) z)

-- want of memory alone
pub memory_alone : (r : Result Bool TreeError) (low : ℕ) (f : ℕ → Marks ℕ Xad) → IfErr r (λ e. e ≡ Memory) → IfErr r (λ e. (page : ℕ) → StopsAt low (f page) e)
memory_alone (Ok it) low f h = tt
memory_alone (Err e) low f h = λ page. subst (λ x. StopsAt low (f page) x) (sym h) tt

-- ---- by the code's names

pub child_node : (blocks n addr : ℕ) (image : Image) (page : List ℕ) → page ≡ page_of image addr → n ≡ addr → xt_node Full blocks page ≡ page_nodes blocks (page_of image) n
child_node blocks n addr image page is at = ap (xt_node Full blocks) (is ∙ ap (page_of image) (sym at))

pub child_is : (blocks bound less key n addr mid more b deeper : ℕ) (image view : Image) (page : List ℕ) (kept : Bool) (freed : List ℕ) (runs : List Pxd) → view ≡ image → page ≡ page_of image addr → n ≡ addr → more ≡ mid → deeper ≡ b
    → CutMet (page_nodes blocks (page_of view)) bound less (record { key = key; page = n }) (xt_node Full blocks page) mid b kept freed runs → CutMet (page_nodes blocks (page_of image)) bound less (record { key = key; page = n }) (page_nodes blocks (page_of image) n) more deeper kept freed runs
child_is blocks bound less key n addr mid more b deeper image view page kept freed runs same is at em eb m =
    subst (λ k. CutMet (page_nodes blocks (page_of image)) bound less (record { key = key; page = n }) (page_nodes blocks (page_of image) n) k deeper kept freed runs) (sym em)
    (subst (λ k. CutMet (page_nodes blocks (page_of image)) bound less (record { key = key; page = n }) (page_nodes blocks (page_of image) n) mid k kept freed runs) (sym eb)
    (subst (λ o. CutMet (page_nodes blocks (page_of image)) bound less (record { key = key; page = n }) o mid b kept freed runs) (child_node blocks n addr image page is at)
    (subst (λ (i : Image). CutMet (page_nodes blocks (page_of i)) bound less (record { key = key; page = n }) (xt_node Full blocks page) mid b kept freed runs) same m)))

pub settled_kept : (k : Bool) (page : ℕ) (bytes : List ℕ) (old new : List Drafted) (free freed : List ℕ) → Settles k page bytes old new free freed → k ≡ true → freed ≡ free
settled_kept true page bytes old new free freed s e = s.1
settled_kept false page bytes old new free freed s e = absurd cc

pub settled_gone : (k : Bool) (page : ℕ) (bytes : List ℕ) (old new : List Drafted) (free freed : List ℕ) → Settles k page bytes old new free freed → k ≡ false → freed ≡ free ++ page ∷ []
settled_gone true page bytes old new free freed s e = absurd cc
settled_gone false page bytes old new free freed s e = s.1

pub none_left : (place left r : ℕ) (k : Bool) → left ≡ place + r → r ≡ (if k then 1 else 0) → left ≡ 0 → (place ≡ 0) × (k ≡ false)
none_left place left r true a b z = absurd (omega (arith, a, b, z))
none_left place left r false a b z = (omega (arith, a, b, z), refl)
