-- A page that loses an entry, or a child that went with its last one.
use Rattle.std.proofs.Common.{◌≡◌, ◌≢◌, ◌≤◌, refl, sym, ap, ◌∙◌, subst, ℕ, suc, ◌+◌, ◌==◌, true, if◌then◌else◌, List, [], ◌∷◌, ◌++◌, map, Option, Some, arith, append_assoc}
use Rattle.std.specs.List.{flat_map}
use Rattle.jfs_tree.specs.Walk.{Child, Node, Leaf, Inner, Page, Key, Row, Fault, Marks, Scale, UpTo, Rises, IsOrder, rows_of, times, under, walk}
use Rattle.jfs_tree.specs.Edit.{count_in, own, bound, Tail, FitsFirst, IsCons}
use Rattle.jfs_tree.specs.Shrink.{TakenOut, IsLoose, Lost}
use Rattle.jfs_tree.proofs.Rising.{upto_lower, rises_lower, rises_join, rises_cut}
use Rattle.jfs_tree.proofs.Frame.{times-append, rows-append}
use Rattle.jfs_tree.proofs.Between.{append_nil, cut_at_key}
use Rattle.jfs_tree.proofs.Keys.{child_from}
use Rattle.jfs_tree.proofs.Steps.{inner_is, inner_walk, starts_or_none, times_inner}
use Rattle.jfs_tree.proofs.Leaves.{rows_leaf, times_leaf, leaf_fits, cons_rows}
use Rattle.jfs_tree.proofs.Replace.{IsLocal, Changed, changed_between, replaced_walk}
use Rattle.jfs_tree.proofs.Rekey.{rekeyed}

taken_is_local : {E : Type 0} (e : E) → IsLocal (TakenOut e)
taken_is_local e = record {
  within = λ a old new b h. record {
    front = a ++ h.front;
    back = h.back ++ b;
    before = ap (λ t. a ++ (t ++ b)) h.before ∙ ap (λ t. a ++ t) (append_assoc h.front (e ∷ h.back) b) ∙ sym (append_assoc a h.front (e ∷ (h.back ++ b)));
    after = ap (λ t. a ++ (t ++ b)) h.after ∙ ap (λ t. a ++ t) (append_assoc h.front h.back b) ∙ sym (append_assoc a h.front (h.back ++ b));
  };
}

-- what rises comes up to its end
pub rises_span : {P E : Type 0} (s : Scale P E) → IsOrder s → (low : P) (ms : Marks P E) (high : Option P) → Rises s low ms high → UpTo s low high
rises_span s o low [] high r = r
rises_span s o low (Page n ∷ ms) high r = rises_span s o low ms high r
rises_span s o low (Key n k ∷ ms) high r = upto_lower s o low k high r.0 (rises_span s o k ms high r.1)
rises_span s o low (Row n e ∷ ms) high r = upto_lower s o low (s.from e) high r.0 (upto_lower s o (s.from e) (s.to e) high (o.span_le e) (rises_span s o (s.to e) ms high r.1))
rises_span s o low (Fault n f ∷ ms) high r = absurd r

-- ---- a leaf

-- the rows rise without one of them
rises_without : {P E : Type 0} (s : Scale P E) → IsOrder s → (n : ℕ) (low : P) (front : List E) (e : E) (back : List E) (high : Option P)
    → Rises s low (map (Row n) (front ++ e ∷ back)) high → Rises s low (map (Row n) (front ++ back)) high
rises_without s o n low [] e back high r = rises_lower s o low (s.to e) (map (Row n) back) high (o.trans_le low (s.from e) (s.to e) r.0 (o.span_le e)) r.1
rises_without s o n low (f ∷ fs) e back high r = (r.0, rises_without s o n (s.to f) fs e back high r.1)

-- the first of those that are left fits where the first one did
fits_without : {P E : Type 0} (s : Scale P E) → IsLoose s → (n : ℕ) (key low : P) (front : List E) (e : E) (back : List E) (high : Option P)
    → Rises s low (map (Row n) (front ++ e ∷ back)) high → FitsFirst s key (front ++ e ∷ back) → IsCons (front ++ back) → FitsFirst s key (front ++ back)
fits_without s loose n key low [] e [] high r fits some = absurd some
fits_without s loose n key low [] e (b ∷ bs) high r fits some = loose.later key e b r.1.0 fits
fits_without s loose n key low (f ∷ fs) e back high r fits some = fits

-- a leaf that keeps entries
pub leaf_kept : {P E : Type 0} (s : Scale P E) → IsOrder s → IsLoose s → (before after : ℕ → Node P E) (c : Child P) (front : List E) (e : E) (back : List E) (free : List ℕ) (low : P) (high : Option P)
    → before c.page ≡ Leaf (front ++ e ∷ back) → after c.page ≡ Leaf (front ++ back) → IsCons (front ++ back)
    → Rises s low (walk s before 1 c) high
    → Lost s e low (walk s before 1 c) (flat_map (walk s after 1) (c ∷ [])) high free free
leaf_kept {P} s o loose before after c front e back free low high was is some r =
    let old = front ++ e ∷ back in
    let new = front ++ back in
    let fits = leaf_fits s before c old low high was r in
    let walked = cons_rows s before c old fits was in
    let rr = subst (λ ms. Rises s low ms high) walked r in
    let fits_new = fits_without s loose c.page c.key c.key front e back high rr.1 fits some in
    let left = append_nil (walk s after 1 c) ∙ cons_rows s after c new fits_new is in
    subst (λ ms. Lost s e low ms (flat_map (walk s after 1) (c ∷ [])) high free free) (sym walked)
    (subst (λ ms. Lost s e low (Key c.page c.key ∷ Page c.page ∷ map (Row c.page) old) ms high free free) (sym left)
    (record {
      rows = record { front = front; back = back; before = rows_leaf P c.page old; after = rows_leaf P c.page new };
      rises = (rr.0, rises_without s o c.page c.key front e back high rr.1);
      pages = λ n. let a = times_leaf P n c.page old in let b = times_leaf P n c.page new in omega (arith, a, b);
    }))

-- a leaf that goes with its last entry
pub leaf_gone : {P E : Type 0} (s : Scale P E) → IsOrder s → (before after : ℕ → Node P E) (c : Child P) (e : E) (free freed : List ℕ) (low : P) (high : Option P)
    → before c.page ≡ Leaf (e ∷ []) → ((n : ℕ) → count_in n freed ≡ (if c.page == n then 1 else 0) + count_in n free)
    → Rises s low (walk s before 1 c) high
    → Lost s e low (walk s before 1 c) [] high free freed
leaf_gone {P} s o before after c e free freed low high was pages r =
    let fits = leaf_fits s before c (e ∷ []) low high was r in
    let walked = cons_rows s before c (e ∷ []) fits was in
    let rr = subst (λ ms. Rises s low ms high) walked r in
    subst (λ ms. Lost s e low ms [] high free freed) (sym walked)
    (record {
      rows = record { front = []; back = []; before = refl; after = refl };
      rises = rises_span s o low (Key c.page c.key ∷ Page c.page ∷ Row c.page e ∷ []) high rr;
      pages = λ n. let h = pages n in omega (arith, h);
    })

-- ---- an inner page

-- an inner page that rises, part by part
record Parts {P E : Type 0} (s : Scale P E) (low key : P) (a part b : Marks P E) (high : Option P) : Type 0 where
  above : s.le low key ≡ true
  mid : P
  left : Rises s key a (Some mid)
  here : Rises s mid part (bound b high)
  right : Tail s b high

inner_parts : {P E : Type 0} (s : Scale P E) → IsOrder s → (nodes : ℕ → Node P E) (lower : ℕ) (c : Child P) (front : List (Child P)) (t : Child P) (back : List (Child P)) (low : P) (high : Option P)
    → nodes c.page ≡ Inner (front ++ t ∷ back) → Rises s low (walk s nodes (suc (suc lower)) c) high
    → Parts s low c.key (flat_map (walk s nodes (suc lower)) (under c.key front)) (walk s nodes (suc lower) (own c.key front t)) (flat_map (walk s nodes (suc lower)) back) high
inner_parts s o nodes lower c front t back low high is r =
    let a = flat_map (walk s nodes (suc lower)) (under c.key front) in
    let part = walk s nodes (suc lower) (own c.key front t) in
    let b = flat_map (walk s nodes (suc lower)) back in
    let rr = subst (λ ms. Rises s low ms high) (inner_walk s nodes lower c front t back is) r in
    let u = rises_cut s o c.key a (part ++ b) high rr.1 in
    let v = rises_cut s o u.0 part b high u.2 in
    let w = cut_at_key s o u.0 part b high (starts_or_none s nodes (suc lower) back v.0 high v.2) u.2 in
    record { above = rr.0; mid = u.0; left = u.1; here = w.0; right = w.1 }

-- what a child lost, its page lost: other children may stand in the child's place, or none
pub inner_lost : {P E : Type 0} (s : Scale P E) → IsOrder s → (before middle after : ℕ → Node P E) (lower : ℕ) (c : Child P) (front : List (Child P)) (t : Child P) (ts back : List (Child P)) (e : E) (free between : List ℕ) (low : P) (high : Option P)
    → before c.page ≡ Inner (front ++ t ∷ back)
    → Rises s low (walk s before (suc (suc lower)) c) high
    → ((n : ℕ) → times n (walk s before (suc (suc lower)) c) + count_in n free ≤ 1)
    → ((mid : P) (end : Option P) → Rises s mid (walk s before (suc lower) (own c.key front t)) end → ((n : ℕ) → times n (walk s before (suc lower) (own c.key front t)) + count_in n free ≤ 1)
    → Lost s e mid (walk s before (suc lower) (own c.key front t)) (flat_map (walk s middle (suc lower)) ts) end free between)
    → ((n : ℕ) → times n (walk s before (suc lower) (own c.key front t)) ≡ 0 → middle n ≡ before n)
    → ((n : ℕ) → n ≢ c.page → after n ≡ middle n)
    → Lost s e low (walk s before (suc (suc lower)) c) (Key c.page c.key ∷ Page c.page ∷ flat_map (walk s after (suc lower)) (under c.key front ++ (ts ++ back))) high free between
inner_lost {P} {E} s o before middle after lower c front t ts back e free between low high is r once child below here =
    let a = flat_map (walk s before (suc lower)) (under c.key front) in
    let part = walk s before (suc lower) (own c.key front t) in
    let b = flat_map (walk s before (suc lower)) back in
    let new = flat_map (walk s middle (suc lower)) ts in
    let p = inner_parts s o before lower c front t back low high is r in
    let count = λ (n : ℕ). times_inner s before lower c front t back n is in
    let lost = child p.mid (bound b high) p.here (λ n. let x = count n in let y = once n in omega (arith, x, y)) in
    let changed : Changed s (TakenOut e) p.mid part new (bound b high) free between = record { rows = lost.rows; rises = lost.rises; pages = lost.pages } in
    let whole = changed_between s o (TakenOut e) (taken_is_local e) c.key p.mid a part new b high free between p.left p.right changed in
    let walked = replaced_walk s before middle after lower c front t ts back free between is once lost.pages (λ n h. below n (omega (arith, h))) (λ n apart none. here n apart) in
    subst (λ ms. Lost s e low ms (Key c.page c.key ∷ Page c.page ∷ flat_map (walk s after (suc lower)) (under c.key front ++ (ts ++ back))) high free between) (sym (inner_walk s before lower c front t back is))
    (subst (λ ms. Lost s e low (Key c.page c.key ∷ Page c.page ∷ (a ++ (part ++ b))) (Key c.page c.key ∷ Page c.page ∷ ms) high free between) (sym walked)
    (record {
      rows = whole.rows;
      rises = (p.above, whole.rises);
      pages = λ n. let h = whole.pages n in omega (arith, h);
    }))

-- ---- what stands for a page afterwards

-- its children are these; the first one's key isn't looked at
pub walk_children : {P E : Type 0} (s : Scale P E) (nodes : ℕ → Node P E) (lower : ℕ) (c : Child P) (cs all : List (Child P))
    → nodes c.page ≡ Inner cs → IsCons cs → under c.key cs ≡ under c.key all
    → walk s nodes (suc (suc lower)) c ≡ Key c.page c.key ∷ Page c.page ∷ flat_map (walk s nodes (suc lower)) (under c.key all)
walk_children s nodes lower c [] all is some same = absurd some
walk_children s nodes lower c (d ∷ ds) all is some same =
    inner_is s nodes lower c [] d ds is ∙ ap (λ cs. Key c.page c.key ∷ Page c.page ∷ flat_map (walk s nodes (suc lower)) cs) same

-- the first child takes the page's key
pub first_rekeyed : {P E : Type 0} (s : Scale P E) → IsOrder s → IsLoose s → (nodes : ℕ → Node P E) (levels n : ℕ) (key : P) (b : Child P) (bs : List (Child P)) (old : Marks P E) (e : E) (low : P) (high : Option P) (free freed : List ℕ)
    → Lost s e low old (Key n key ∷ Page n ∷ flat_map (walk s nodes levels) (b ∷ bs)) high free freed
    → Lost s e low old (Key n key ∷ Page n ∷ flat_map (walk s nodes levels) (under key (b ∷ bs))) high free freed
first_rekeyed {P} s o loose nodes levels n key b bs old e low high free freed lost =
    let u : Child P = record { key = key; page = b.page } in
    let rest = flat_map (walk s nodes levels) bs in
    let c = rises_cut s o key (walk s nodes levels b) rest high lost.rises.1 in
    let t = rekeyed s o loose key b.key (child_from s nodes levels b key (Some c.0) [] (subst (λ ms. Rises s key ms (Some c.0)) (sym (append_nil (walk s nodes levels b))) c.1)) nodes levels b.page (Some c.0) c.1 in
    record {
      rows = subst (λ es. TakenOut e (rows_of old) es) (rows-append (walk s nodes levels b) rest ∙ ap (λ es. es ++ rows_of rest) (sym t.rows) ∙ sym (rows-append (walk s nodes levels u) rest)) lost.rows;
      rises = (lost.rises.0, rises_join s o key c.0 (walk s nodes levels u) rest high t.rises c.2);
      pages = λ m. let h = lost.pages m in let x = times-append m (walk s nodes levels b) rest in let y = times-append m (walk s nodes levels u) rest in let z = t.pages m in omega (arith, h, x, y, z);
    }

-- a page without children goes too
pub page_gone : {P E : Type 0} (s : Scale P E) → IsOrder s → (n : ℕ) (key : P) (old : Marks P E) (e : E) (low : P) (high : Option P) (free between freed : List ℕ)
    → ((m : ℕ) → count_in m freed ≡ (if n == m then 1 else 0) + count_in m between)
    → Lost s e low old (Key n key ∷ Page n ∷ []) high free between → Lost s e low old [] high free freed
page_gone s o n key old e low high free between freed more lost = record {
  rows = lost.rows;
  rises = rises_span s o low (Key n key ∷ Page n ∷ []) high lost.rises;
  pages = λ m. let h = lost.pages m in let k = more m in omega (arith, h, k);
}
