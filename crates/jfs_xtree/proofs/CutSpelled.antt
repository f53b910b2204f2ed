-- What rises as a whole rises where a cut meets it.
use Rattle.std.proofs.Common.{◌≡◌, ◌≤◌, refl, sym, ap, ◌∙◌, subst, ℕ, zero, suc, Bool, true, false, if◌then◌else◌, List, [], ◌∷◌, ◌++◌, Option, Some, arith}
use Rattle.std.specs.Prelude.{nat_lt}
use Rattle.std.specs.List.{flat_map}
use Rattle.std.proofs.lemmas.List.Concat.{flat_map-append}
use Rattle.jfs_bits.specs.declared.extent.Xad.{Xad}
use Rattle.jfs_bits.specs.declared.rule.Rule.TheVariants as rules
use Rattle.jfs_tree.specs.Walk.{Child, Node, Leaf, Inner, Broken, Rises, body, walk}
use Rattle.jfs_tree.proofs.Rising.{rises_lower, rises_join, rises_cut}
use Rattle.jfs_tree.proofs.Keys.{rises_up}
use Rattle.jfs_xtree.specs.Laws.{order}
use Rattle.jfs_xtree.specs.Node.{xt_scale}
use Rattle.jfs_xtree.specs.CutMet.{begins_below, from_way, of_first, below_way, way_levels, met_children, met_body, met, met_below}
use Rattle.jfs_xtree.specs.CutParts.{shows}

-- a tail of the children
way_split : (bound : ℕ) (c : Child ℕ) (cs : List (Child ℕ)) → (front : List (Child ℕ)) × (t : Child ℕ) × (back : List (Child ℕ)) × (from_way bound (c ∷ cs) ≡ t ∷ back) × (c ∷ cs ≡ front ++ t ∷ back)
way_split bound c [] = ([], c, [], refl, refl)
way_split bound c (d ∷ ds) = by (nat_lt d.key bound) (way_split bound d ds)
  where
    by : (b : Bool) → (front : List (Child ℕ)) × (t : Child ℕ) × (back : List (Child ℕ)) × (from_way bound (d ∷ ds) ≡ t ∷ back) × (d ∷ ds ≡ front ++ t ∷ back)
        → (front : List (Child ℕ)) × (t : Child ℕ) × (back : List (Child ℕ)) × ((if b then from_way bound (d ∷ ds) else c ∷ d ∷ ds) ≡ t ∷ back) × (c ∷ d ∷ ds ≡ front ++ t ∷ back)
    by true w = (c ∷ w.0, w.1, w.2, w.3, ap (λ xs. c ∷ xs) w.4)
    by false w = ([], c, d ∷ ds, refl, refl)

same_first : (f : ℕ → ℕ) (bound key : ℕ) (c : Child ℕ) (cs : List (Child ℕ)) → of_first f (from_way bound (c ∷ cs)) ≡ of_first f (from_way bound (record { key = key; page = c.page } ∷ cs))
same_first f bound key c cs = by (begins_below bound cs)
  where
    by : (b : Bool) → of_first f (if b then from_way bound cs else c ∷ cs) ≡ of_first f (if b then from_way bound cs else record { key = key; page = c.page } ∷ cs)
    by true = refl
    by false = refl

pub node_rises : (nodes : ℕ → Node ℕ Xad) (bound below most : ℕ) (c : Child ℕ) (node : Node ℕ Xad) (high : Option ℕ)
    → ((d : Child ℕ) (low : ℕ) (to : Option ℕ) → Rises xt_scale low (walk xt_scale nodes below d) to → Rises xt_scale low (met nodes bound most d) to × (way_levels nodes bound most d.page ≡ below))
    → Rises xt_scale c.key (shows nodes below c node) high → Rises xt_scale c.key (met_below nodes bound most c node) high × (below_way (way_levels nodes bound most) bound node ≡ below)
node_rises nodes bound zero most c (Leaf []) high h r = absurd r
node_rises nodes bound zero most c (Leaf (e ∷ es)) high h r = (by (xt_scale.fits c.key e) r, refl)
  where
    by : (b : Bool) → Rises xt_scale c.key (body (walk xt_scale nodes zero) c (if b then Leaf (e ∷ es) else Broken rules.Order)) high
        → Rises xt_scale c.key (met_body nodes (met nodes bound most) (way_levels nodes bound most) bound c (if b then Leaf (e ∷ es) else Broken rules.Order)) high
    by true r = r
    by false r = absurd r
node_rises nodes bound zero most c (Inner cs) high h r = absurd r
node_rises nodes bound zero most c (Broken rule) high h r = absurd r
node_rises nodes bound (suc b) most c (Leaf es) high h r = absurd r
node_rises nodes bound (suc b) most c (Inner []) high h r = absurd r
node_rises nodes bound (suc b) most c (Inner (d ∷ ds)) high h r =
    let u : Child ℕ = record { key = c.key; page = d.page } in
    let f = walk xt_scale nodes (suc b) in
    let w = way_split bound u ds in
    let parts = ap (flat_map f) w.4 ∙ flat_map-append f w.0 (w.1 ∷ w.2) in
    let p = rises_cut xt_scale order c.key (flat_map f w.0) (f w.1 ++ flat_map f w.2) high (subst (λ ms. Rises xt_scale c.key ms high) parts r) in
    let q = rises_cut xt_scale order p.0 (f w.1) (flat_map f w.2) high p.2 in
    let i = h w.1 p.0 (Some q.0) q.1 in
    let all = rises_join xt_scale order p.0 q.0 (met nodes bound most w.1) (flat_map (walk xt_scale nodes (way_levels nodes bound most w.1.page)) w.2) high i.0 (subst (λ l. Rises xt_scale q.0 (flat_map (walk xt_scale nodes l) w.2) high) (sym i.1) q.2) in (
      subst (λ cs. Rises xt_scale c.key (met_children nodes (met nodes bound most) (way_levels nodes bound most) cs) high) (sym w.3)
          (rises_lower xt_scale order c.key p.0 (met_children nodes (met nodes bound most) (way_levels nodes bound most) (w.1 ∷ w.2)) high (rises_up xt_scale order c.key (flat_map f w.0) p.0 p.1) all),
      same_first (way_levels nodes bound most) bound c.key d ds ∙ ap (of_first (way_levels nodes bound most)) w.3 ∙ i.1,
    )
node_rises nodes bound (suc b) most c (Broken rule) high h r = absurd r

pub met_rises : (nodes : ℕ → Node ℕ Xad) (bound levels most : ℕ) → levels ≤ most → (c : Child ℕ) (low : ℕ) (high : Option ℕ) → Rises xt_scale low (walk xt_scale nodes levels c) high → Rises xt_scale low (met nodes bound most c) high × (way_levels nodes bound most c.page ≡ levels)
unfolding walk met way_levels
met_rises nodes bound zero most l c low high r = absurd r
met_rises nodes bound (suc below) zero l c low high r = absurd (omega (arith, l))
met_rises nodes bound (suc below) (suc most) l c low high r =
    let t = node_rises nodes bound below most c (nodes c.page) high (met_rises nodes bound below most (omega (arith, l))) r.1 in ((r.0, t.0), ap (λ n. suc n) t.1)
