-- Blocks that a page leads to the same child.
use Rattle.std.proofs.Common.{◌≡◌, ◌≤◌, ◌<◌, ◌⊎◌, inl, inr, refl, sym, ap, ◌∙◌, subst, ℕ, suc, ◌+◌, ◌==◌, Bool, true, false, List, [], ◌∷◌, ◌++◌, length, Option, Some, None, Result, Ok, Err, arith, length-append}
use Rattle.std.specs.Prelude.{slice_get, min, map, nat_le}
use Rattle.std.proofs.lemmas.List.{length-map}
use Rattle.std.proofs.lemmas.Bool.{le-leb, lt-leb, leb-true, leb-false}
use Rattle.std.proofs.lemmas.Bool.Decides.{nat_tests}
use Rattle.jfs_bits.specs.declared.rule.Rule.{Rule}
use Rattle.jfs_bits.specs.declared.extent.Xad.{Xad}
use Rattle.jfs_tree.specs.Walk.{Child, Node, Leaf, Inner, Broken}
use Rattle.jfs_tree.specs.Walking.{children_in}
use Rattle.jfs_tree.specs.Edit.{KeysAbove, KeysRise, IsPast}
use Rattle.jfs_tree.specs.Form.{LeadsDown, HasRisingKeys, TellsLast, as_child}
use Rattle.jfs_tree.specs.Path.{below_root, way_of}
use Rattle.jfs_tree.specs.declared.form.Sibling.{Sibling}
use Rattle.jfs_tree.specs.declared.form.Way.TheVariants.{Down}
use Rattle.jfs_tree.proofs.Path.{AllPast, leads_alone}
use Rattle.jfs_xtpage.specs.declared.head.XtForm.{XtForm}
use Rattle.jfs_xtpage.specs.declared.head.XtForm.TheVariants.{Root, Full, Small}
use Rattle.jfs_xtpage.specs.Page.{head_of, entries_of, count_of, slots_of}
use Rattle.jfs_xtpage.proofs.Entries.{length-entries}
use Rattle.jfs_xtree.specs.Node.{xt_scale, xt_node, child_of}
use Rattle.jfs_xtree.proofs.Pages.{slots}
use Rattle.jfs_xtree.proofs.Reading.{and_true, inner_is}
use Rattle.jfs_ways.specs.Leading.{LeadsUntil}

-- a page has few children
few_slots : (form : XtForm) → slots_of form ≤ 256
few_slots Root = omega arith
few_slots Full = omega arith
few_slots Small = omega arith

pub children_few : (form : XtForm) (blocks : ℕ) (bytes : List ℕ) (cs : List (Child ℕ)) → xt_node form blocks bytes ≡ Inner cs → length cs ≤ 256
children_few form blocks bytes cs node =
    let t = inner_is form blocks bytes cs node in
    let m = (slots form (head_of bytes).maxentry t.0.max).1 in
    let c = and_true (nat_le 2 (head_of bytes).nextindex) (nat_le (head_of bytes).nextindex (head_of bytes).maxentry) t.0.count in
    let n = leb-true (head_of bytes).nextindex (head_of bytes).maxentry c.1 in
    let count = length-entries bytes 0 (count_of bytes) in
    let same = ap length t.2 in let size = length-map (entries_of bytes) child_of in
    let few = few_slots form in
    omega (arith, m, n, count, same, size, few)

-- keys that rise from a key on are past each place up to it
above_past : (k low : ℕ) (cs : List (Child ℕ)) → k ≤ low → KeysAbove xt_scale low cs → AllPast xt_scale k cs
above_past k low [] l h = tt
above_past k low (c ∷ cs) l h = let m = leb-false c.key low h.0 in (lt-leb c.key k (let g : k < c.key = omega (arith, l, m) in g), above_past k c.key cs (omega (arith, l, m)) h.1)

above_behind : (low : ℕ) (front : List (Child ℕ)) (c : Child ℕ) (back : List (Child ℕ)) → KeysAbove xt_scale low (front ++ c ∷ back) → KeysAbove xt_scale c.key back
above_behind low [] c back h = h.1
above_behind low (f ∷ front) c back h = above_behind f.key front c back h.1

-- the keys behind a child rise from its key on, but for the first child, at whose key nothing looks
behind_rise : (front : List (Child ℕ)) (c b : Child ℕ) (back : List (Child ℕ)) → KeysRise xt_scale (front ++ c ∷ b ∷ back) → KeysAbove xt_scale b.key back
behind_rise [] c b back h = h.1
behind_rise (f ∷ front) c b back h = (above_behind 0 front c (b ∷ back) h).1

past_behind : (k : ℕ) (front : List (Child ℕ)) (c b : Child ℕ) (back : List (Child ℕ)) → k < b.key → KeysRise xt_scale (front ++ c ∷ b ∷ back) → AllPast xt_scale k (b ∷ back)
past_behind k front c b back l h = (lt-leb b.key k l, above_past k b.key back (omega (arith, l)) (behind_rise front c b back h))

-- the child behind a place
none_behind : (front : List (Child ℕ)) (c : Child ℕ) (back : List (Child ℕ)) → (suc (length front) == length (front ++ c ∷ back)) ≡ true → back ≡ []
none_behind front c [] e = refl
none_behind front c (b ∷ back) e = absurd (let n = length-append front (c ∷ b ∷ back) in not_equal (length front) (length back) (length (front ++ c ∷ b ∷ back)) n e)
  where
    not_equal : (f r n : ℕ) → n ≡ f + suc (suc r) → (suc f == n) ≡ true → ⊥
    not_equal f r n h e = grind (arith, nat_tests)

some_behind : (front : List (Child ℕ)) (c : Child ℕ) (back : List (Child ℕ)) → (suc (length front) == length (front ++ c ∷ back)) ≡ false → suc (length front) < length (front ++ c ∷ back)
some_behind front c back e = let n = length-append front (c ∷ back) in less (length front) (length back) (length (front ++ c ∷ back)) n e
  where
    less : (f r n : ℕ) → n ≡ f + suc r → (suc f == n) ≡ false → suc f < n
    less f r n h e = grind (arith, nat_tests)

next_is : (front : List (Child ℕ)) (c : Child ℕ) (back : List (Child ℕ)) (d : Child ℕ) → slice_get (front ++ c ∷ back) (suc (length front)) ≡ Some d → (rest : List (Child ℕ)) × (back ≡ d ∷ rest)
next_is [] c [] d e = absurd cc
next_is [] c (b ∷ back) d e = (back, ap (λ x. x ∷ back) (let g : b ≡ d = cc in g))
next_is (f ∷ front) c back d e = next_is front c back d e

module _ (node : Node ℕ Xad) (block : Xad) (at end place page : ℕ) (last : Bool) (is_at : block.offset ≡ at) (some : at < end) (leads : LeadsDown xt_scale block node place page) (tells : TellsLast node (Down place page last)) where
  abbrev all_children : List (Child ℕ)
  all_children = leads.front ++ leads.child ∷ leads.back

  is_last : last ≡ (suc (length leads.front) == length all_children)
  is_last = tells all_children leads.is ∙ ap (λ p. suc p == length all_children) (sym leads.at)

  above : (k : ℕ) → at ≤ k → (leads.front ≡ []) ⊎ (xt_scale.le leads.child.key k ≡ true)
  above k l = elim leads.above [ inl none ↦ inl none | inr h ↦ inr (le-leb leads.child.key k (let m = leb-true leads.child.key block.offset h in omega (arith, m, is_at, l))) ]

  alone : (k : ℕ) → at ≤ k → AllPast xt_scale k leads.back → way_of xt_scale k node ≡ Some page
  alone k l past = leads_alone xt_scale k node leads.front leads.child leads.back leads.is (above k l) past ∙ ap (λ p. Some p) leads.to

  -- the last child
  pub until_end : last ≡ true → LeadsUntil node at end page end
  until_end e =
      let none = none_behind leads.front leads.child leads.back (sym is_last ∙ e) in
      record { later = some; within = omega arith; block = block; place = place; leads = leads; alone = λ k l m. alone k l (subst (AllPast xt_scale k) (sym none) tt) }

  pub fits_next : (form : XtForm) (blocks : ℕ) (bytes : List ℕ) → node ≡ xt_node form blocks bytes → place ≤ 256
  fits_next form blocks bytes e = let f = children_few form blocks bytes all_children (sym e ∙ leads.is) in let n = length-append leads.front (leads.child ∷ leads.back) in let p = leads.at in omega (arith, f, n, p)

  pub has_next : last ≡ false → place + 1 < length (children_in node)
  has_next e = let h = some_behind leads.front leads.child leads.back (sym is_last ∙ e) in let n = ap (λ x. length (children_in x)) leads.is in let p = leads.at in omega (arith, h, n, p)

  -- and one before another
  pub until_next : (s : Sibling ℕ) (next : ℕ) → HasRisingKeys xt_scale node → slice_get (children_in node) (place + 1) ≡ Some (as_child s) → next ≡ min s.key end → LeadsUntil node at end page next
  until_next s next rises got is =
      let there : slice_get all_children (suc (length leads.front)) ≡ Some (as_child s)
      = ap (λ x. slice_get (children_in x) (suc (length leads.front))) (sym leads.is) ∙ ap (slice_get (children_in node)) (let p = leads.at in let g : suc (length leads.front) ≡ place + 1 = omega (arith, p) in g) ∙ got in
      let b = next_is leads.front leads.child leads.back (as_child s) there in
      let behind : block.offset < s.key = leb-false s.key block.offset (subst (IsPast xt_scale block) b.1 leads.past) in
      record {
        later = omega (arith, behind, is_at, some, is);
        within = omega (arith, is);
        block = block;
        place = place;
        leads = leads;
        alone = λ k l m. alone k l (subst (AllPast xt_scale k) (sym b.1)
            (past_behind k leads.front leads.child (as_child s) b.0 (omega (arith, m, is)) (subst (λ bs. KeysRise xt_scale (leads.front ++ leads.child ∷ bs)) b.1 (rises all_children leads.is))));
      }

-- below a root it is the same
pub until_below : (node : Node ℕ Xad) (at end page next : ℕ) → LeadsUntil node at end page next → LeadsUntil (below_root node) at end page next
until_below node at end page next u = subst (λ n. LeadsUntil n at end page next) (u.leads.is ∙ sym (ap below_root u.leads.is)) u
