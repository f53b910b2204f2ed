-- Where the levels of a tree end, and what they hold.
use Rattle.std.proofs.Common.{◌≡◌, inl, inr, refl, sym, ap, ◌∙◌, subst, ℕ, zero, suc, ◌+◌, ◌≤◌, Bool, true, false, ◌==◌, if◌then◌else◌, List, [], ◌∷◌, ◌++◌, map, Option, None, Ok, arith}
use Rattle.std.specs.List.{flat_map}
use Rattle.std.proofs.lemmas.Bool.{cases_lt}
use Rattle.std.proofs.lemmas.List.{append-nil, map-append}
use Rattle.std.proofs.lemmas.List.Concat.{flat_map-append}
use Rattle.jfs_bits.specs.declared.extent.Xad.{Xad}
use Rattle.jfs_bits.specs.declared.rule.Rule.TheVariants as rules
use Rattle.jfs_tree.specs.Walk.{Child, Node, Leaf, Inner, Broken, Page, Key, Row, Fault, Marks, Scale, Rises, placed, under, body, walk, rows_of, times}
use Rattle.jfs_tree.specs.Spells.{no_page, with_root, top, tree_of, spells}
use Rattle.jfs_tree.specs.Levels.{pages_below, level}
use Rattle.jfs_tree.proofs.Spelled.{stands}
use Rattle.jfs_xtree.specs.Node.{xt_scale}
use Rattle.jfs_owners.specs.objects.specs.Objects.{met}
use Rattle.jfs_owners.specs.objects.specs.Owners.{run_has, covers}
use Rattle.jfs_owners.specs.Counts.{page_has}
use Rattle.jfs_owners.proofs.Walked.{no_pages}
use Rattle.jfs_object_check.specs.Lines.{rows_have, line_has, levels_have}
use Rattle.jfs_object_check.proofs.Beside.{first_level, next_level, root_level}

-- ---- marks without a broken rule

Clear : {P E : Type 0} → Marks P E → Type 0
Clear [] = Unit {0}
Clear (Page n ∷ ms) = Clear ms
Clear (Key n k ∷ ms) = Clear ms
Clear (Row n e ∷ ms) = Clear ms
Clear (Fault n rule ∷ ms) = ⊥

rises_clear : {P E : Type 0} (s : Scale P E) (low : P) (ms : Marks P E) (high : Option P) → Rises s low ms high → Clear ms
unfolding Clear
rises_clear s low [] high r = tt
rises_clear s low (Page n ∷ ms) high r = rises_clear s low ms high r
rises_clear s low (Key n k ∷ ms) high r = rises_clear s k ms high r.1
rises_clear s low (Row n e ∷ ms) high r = rises_clear s (s.to e) ms high r.1
rises_clear s low (Fault n rule ∷ ms) high r = absurd r

clear_parts : {P E : Type 0} (a b : Marks P E) → Clear (a ++ b) → Clear a × Clear b
unfolding Clear
clear_parts [] b h = (tt, h)
clear_parts (Page n ∷ a) b h = clear_parts a b h
clear_parts (Key n k ∷ a) b h = clear_parts a b h
clear_parts (Row n e ∷ a) b h = clear_parts a b h
clear_parts (Fault n rule ∷ a) b h = absurd h

clear_both : {P E : Type 0} (a b : Marks P E) → Clear a → Clear b → Clear (a ++ b)
unfolding Clear
clear_both [] b h i = i
clear_both (Page n ∷ a) b h i = clear_both a b h i
clear_both (Key n k ∷ a) b h i = clear_both a b h i
clear_both (Row n e ∷ a) b h i = clear_both a b h i
clear_both (Fault n rule ∷ a) b h i = absurd h

-- ---- what marks hold

-- how often the pages and the extents among marks have a block
held : ℕ → Marks ℕ Xad → ℕ
held b [] = 0
held b (Page n ∷ ms) = page_has n b + held b ms
held b (Key n k ∷ ms) = held b ms
held b (Row n e ∷ ms) = run_has e.at b + held b ms
held b (Fault n rule ∷ ms) = held b ms

held_both : (b : ℕ) (xs ys : Marks ℕ Xad) → held b (xs ++ ys) ≡ held b xs + held b ys
unfolding held
held_both b [] ys = omega arith
held_both b (Page n ∷ xs) ys = let r = held_both b xs ys in omega (arith, r)
held_both b (Key n k ∷ xs) ys = held_both b xs ys
held_both b (Row n e ∷ xs) ys = let r = held_both b xs ys in omega (arith, r)
held_both b (Fault n rule ∷ xs) ys = held_both b xs ys

held_rows : (b n : ℕ) (es : List Xad) → held b (map (Row n) es) ≡ covers b es
unfolding held
held_rows b n [] = refl
held_rows b n (e ∷ es) = ap (λ k. run_has e.at b + k) (held_rows b n es)

-- as the owners of a tree are counted
held_is : (b : ℕ) (ms : Marks ℕ Xad) → held b ms ≡ met ms b + covers b (rows_of ms)
unfolding held
held_is b [] = let z = no_pages xt_scale b in omega (arith, z)
held_is b (Page n ∷ ms) = let r = held_is b ms in let p = one_page (b == no_page) (if n == b then 1 else 0) (times b ms) in omega (arith, r, p)
  where
    one_page : (t : Bool) (one rest : ℕ) → (if t then 0 else (one + rest)) ≡ (if t then 0 else one) + (if t then 0 else rest)
    one_page true one rest = refl
    one_page false one rest = refl
held_is b (Key n k ∷ ms) = held_is b ms
held_is b (Row n e ∷ ms) = let r = held_is b ms in omega (arith, r)
held_is b (Fault n rule ∷ ms) = held_is b ms

-- ---- so many levels down

abbrev numbers : List (Child ℕ) → List ℕ
numbers cs = map (λ (c : Child ℕ). c.page) cs

abbrev line_below : (ℕ → Node ℕ Xad) → List ℕ → List ℕ
line_below nodes ns = flat_map (λ n. pages_below (nodes n)) ns

down : (ℕ → Node ℕ Xad) → ℕ → List ℕ → List ℕ
down nodes zero ns = ns
down nodes (suc d) ns = down nodes d (line_below nodes ns)

-- what so many levels have, from these pages on
down_has : (ℕ → Node ℕ Xad) → ℕ → List ℕ → ℕ → ℕ
down_has nodes zero ns b = 0
down_has nodes (suc d) ns b = line_has nodes ns b + down_has nodes d (line_below nodes ns) b

module _ (s : Scale ℕ Xad) (nodes : ℕ → Node ℕ Xad) where
  -- Marks show so much of their own, and the children on these pages, as a walk goes through them.
  Stand : ℕ → Marks ℕ Xad → (ℕ → ℕ) → List ℕ → Type 0
  Stand below ms own ns = (ds : List (Child ℕ)) × Clear (flat_map (walk s nodes below) ds) × (numbers ds ≡ ns) × ((b : ℕ) → held b ms ≡ own b + held b (flat_map (walk s nodes below) ds))

  alone : (below : ℕ) (ms : Marks ℕ Xad) (own : ℕ → ℕ) → ((b : ℕ) → held b ms ≡ own b) → Stand below ms own []
  unfolding Stand Clear held
  alone below ms own e = ([], tt, refl, λ b. (let h = e b in omega (arith, h)))

  abbrev shown : ℕ → Child ℕ → Node ℕ Xad → Marks ℕ Xad
  shown below c node = body (walk s nodes below) c node

  node_stand : (below : ℕ) (c : Child ℕ) (node : Node ℕ Xad) → Clear (shown below c (placed s below c.key node)) → Stand below (shown below c (placed s below c.key node)) (rows_have node) (pages_below node)
  unfolding Stand Clear
  node_stand zero c (Leaf []) h = absurd h
  node_stand zero c (Leaf (e ∷ es)) h = by (s.fits c.key e) h
    where
      leaf : Bool → Node ℕ Xad
      leaf t = if t then Leaf (e ∷ es) else Broken rules.Order

      by : (t : Bool) → Clear (shown zero c (leaf t)) → Stand zero (shown zero c (leaf t)) (rows_have (Leaf (e ∷ es))) []
      by true k = alone zero (map (Row c.page) (e ∷ es)) (rows_have (Leaf (e ∷ es))) (λ b. held_rows b c.page (e ∷ es))
      by false k = absurd k
  node_stand zero c (Inner cs) h = absurd h
  node_stand zero c (Broken rule) h = absurd h
  node_stand (suc below) c (Leaf es) h = absurd h
  node_stand (suc below) c (Inner []) h = absurd h
  node_stand (suc below) c (Inner (d ∷ ds)) h = (under c.key (d ∷ ds), h, refl, λ b. omega arith)
  node_stand (suc below) c (Broken rule) h = absurd h

  line_stand : (below : ℕ) (cs : List (Child ℕ)) → Clear (flat_map (walk s nodes (suc below)) cs) → Stand below (flat_map (walk s nodes (suc below)) cs) (line_has nodes (numbers cs)) (line_below nodes (numbers cs))
  unfolding Stand Clear walk held
  line_stand below [] h = alone below [] (λ b. 0) (λ b. refl)
  line_stand below (c ∷ cs) h =
      let f = walk s nodes below in
      let g = walk s nodes (suc below) in
      let t = clear_parts (g c) (flat_map g cs) h in
      let here = node_stand below c (nodes c.page) t.0 in
      let rest = line_stand below cs t.1 in
      let both = flat_map-append f here.0 rest.0 in (
        here.0 ++ rest.0,
        subst Clear (sym both) (clear_both (flat_map f here.0) (flat_map f rest.0) here.1 rest.1),
        map-append (λ (d : Child ℕ). d.page) here.0 rest.0 ∙ ap (λ ns. ns ++ numbers rest.0) here.2 ∙ ap (λ ns. pages_below (nodes c.page) ++ ns) rest.2,
        λ b.
            (let p = held_both b (g c) (flat_map g cs) in let q = here.3 b in let r = rest.3 b in
            let u = ap (held b) both in let v = held_both b (flat_map f here.0) (flat_map f rest.0) in omega (arith, p, q, r, u, v)),
      )

  -- a walk without a broken rule ends with its last level, and shows what its levels have
  walk_ends : (levels : ℕ) (cs : List (Child ℕ)) → Clear (flat_map (walk s nodes levels) cs)
      → (down nodes levels (numbers cs) ≡ []) × ((b : ℕ) → held b (flat_map (walk s nodes levels) cs) ≡ down_has nodes levels (numbers cs) b)
  unfolding down down_has Clear walk Stand held
  walk_ends zero [] h = (refl, λ b. refl)
  walk_ends zero (c ∷ cs) h = absurd h
  walk_ends (suc below) cs h =
      let t = line_stand below cs h in
      let w = walk_ends below t.0 t.1 in (
        ap (down nodes below) (sym t.2) ∙ w.0,
        λ b. (let p = t.3 b in let q = w.1 b in let r = ap (λ ns. down_has nodes below ns b) t.2 in omega (arith, p, q, r)),
      )

down_last : (nodes : ℕ → Node ℕ Xad) (d : ℕ) (ns : List ℕ) → down nodes (suc d) ns ≡ line_below nodes (down nodes d ns)
unfolding down
down_last nodes zero ns = refl
down_last nodes (suc d) ns = down_last nodes d (line_below nodes ns)

has_last : (nodes : ℕ → Node ℕ Xad) (d : ℕ) (ns : List ℕ) (b : ℕ) → down_has nodes (suc d) ns b ≡ down_has nodes d ns b + line_has nodes (down nodes d ns) b
unfolding down down_has
has_last nodes zero ns b = omega arith
has_last nodes (suc d) ns b = let r = has_last nodes d (line_below nodes ns) b in omega (arith, r)

level_down : (nodes : ℕ → Node ℕ Xad) (d : ℕ) → level nodes d ≡ down nodes d (no_page ∷ [])
unfolding down
level_down nodes zero = root_level nodes
level_down nodes (suc d) = next_level nodes d ∙ ap (line_below nodes) (level_down nodes d) ∙ sym (down_last nodes d (no_page ∷ []))

levels_down : (nodes : ℕ → Node ℕ Xad) (d b : ℕ) → levels_have nodes d b ≡ down_has nodes d (no_page ∷ []) b
unfolding levels_have down_has
levels_down nodes zero b = refl
levels_down nodes (suc d) b =
    let r = levels_down nodes d b in
    let e = ap (λ ns. line_has nodes ns b) (level_down nodes d) in
    let f = has_last nodes d (no_page ∷ []) b in omega (arith, r, e, f)

-- no level stands below one without pages, and it has nothing
none_past : (nodes : ℕ → Node ℕ Xad) (d e : ℕ) → level nodes d ≡ [] → d ≤ e → level nodes e ≡ []
none_past nodes d zero none l = subst (λ n. level nodes n ≡ []) (omega (arith, l)) none
none_past nodes d (suc e) none l = elim (cases_lt d (suc e)) [
  | inl w ↦ next_level nodes e ∙ ap (line_below nodes) (none_past nodes d e none (omega (arith, w)))
  | inr w ↦ subst (λ n. level nodes n ≡ []) (omega (arith, w, l)) none
]

no_more : (nodes : ℕ → Node ℕ Xad) (d e b : ℕ) → level nodes d ≡ [] → d ≤ e → levels_have nodes e b ≡ levels_have nodes d b
unfolding levels_have
no_more nodes d zero b none l = ap (λ n. levels_have nodes n b) (let z : 0 ≡ d = omega (arith, l) in z)
no_more nodes d (suc e) b none l = elim (cases_lt d (suc e)) [
  | inl w ↦
      let r = no_more nodes d e b none (omega (arith, w)) in
      let z = ap (λ ns. line_has nodes ns b) (none_past nodes d e none (omega (arith, w))) in omega (arith, r, z)
  | inr w ↦ ap (λ n. levels_have nodes n b) (let z : suc e ≡ d = omega (arith, w, l) in z)
]

-- ---- a root that spells a list

module _ (s : Scale ℕ Xad) (pages : ℕ → Node ℕ Xad) where
  -- it ends on some level, eight at most with its own, and has what its levels have
  EndsAt : Node ℕ Xad → ℕ → Type 0
  EndsAt root d = (d ≤ 8) × (level (with_root root pages) d ≡ []) × ((b : ℕ) → held b (tree_of s pages root) ≡ levels_have (with_root root pages) d b)

  empty_ends : EndsAt (Leaf []) 1
  unfolding EndsAt held levels_have
  empty_ends = (omega arith, first_level (Leaf []) pages, λ b. (let e = ap (λ ns. line_has (with_root (Leaf []) pages) ns b) (root_level (with_root (Leaf []) pages)) in omega (arith, e)))

  ends : (root : Node ℕ Xad) (es : List Xad) → spells s pages root ≡ Ok es → (d : ℕ) × EndsAt root d
  unfolding EndsAt Clear
  ends root es spelled = elim (stands s pages root es spelled) [
    | inl e ↦ (1, subst (λ r. EndsAt r 1) (sym e.0) empty_ends)
    | inr st ↦
        let nodes = with_root root pages in
        let alone = append-nil (walk s nodes st.levels (top s)) in
        let w = walk_ends s nodes st.levels (top s ∷ []) (subst Clear (sym alone) (rises_clear s s.least (walk s nodes st.levels (top s)) None st.rises)) in
        (st.levels, (st.most, level_down nodes st.levels ∙ w.0, λ b. ap (held b) (st.is ∙ sym alone) ∙ w.1 b ∙ sym (levels_down nodes st.levels b)))
  ]

  pub eight_levels : (root : Node ℕ Xad) (es : List Xad) (d : ℕ) → spells s pages root ≡ Ok es → 8 ≤ d → level (with_root root pages) d ≡ []
  unfolding EndsAt
  eight_levels root es d spelled l = let t = ends root es spelled in let at = t.1 in none_past (with_root root pages) t.0 d at.1 (let m = at.0 in omega (arith, m, l))

  pub levels_held : (root : Node ℕ Xad) (es : List Xad) (b : ℕ) → spells s pages root ≡ Ok es → levels_have (with_root root pages) 8 b ≡ met (tree_of s pages root) b + covers b (rows_of (tree_of s pages root))
  unfolding EndsAt
  levels_held root es b spelled = let t = ends root es spelled in let at = t.1 in no_more (with_root root pages) t.0 8 b at.1 at.0 ∙ sym (at.2 b) ∙ held_is b (tree_of s pages root)
