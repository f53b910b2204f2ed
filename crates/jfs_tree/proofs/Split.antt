-- A page that is split where an entry goes into it.
use Rattle.std.proofs.Common.{◌≡◌, ◌≢◌, ◌≤◌, ◌<◌, sym, ap, ◌∙◌, subst, ℕ, zero, suc, ◌+◌, List, ◌∷◌, ◌++◌, ◌==◌, if◌then◌else◌, Option, Some, arith}
use Rattle.std.specs.List.{flat_map}
use Rattle.std.proofs.lemmas.List.Concat.{flat_map-append}
use Rattle.jfs_tree.specs.Walk.{Child, Node, Inner, Page, Key, Marks, Scale, Rises, IsOrder, rows_of, times, under, walk}
use Rattle.jfs_tree.specs.Edit.{count_in, Added, Ready, Took, bound, own}
use Rattle.jfs_tree.proofs.Frame.{Agree, times-append, rows-append}
use Rattle.jfs_tree.proofs.Rising.{rises_cut, rises_join}
use Rattle.jfs_tree.proofs.Between.{Between, cut_at_key, took_between}
use Rattle.jfs_tree.proofs.Steps.{inner_walk, times_inner, untouched, once_here, under_parts, rest_took}

-- a new page begins between two parts
pub took_parted : {P E : Type 0} (s : Scale P E) → IsOrder s → (x : E) (low k key : P) (n m q : ℕ) (old a b : Marks P E) (high : Option P) (free left less : List ℕ)
    → (Rises s k (a ++ b) high → Rises s k a (Some key) × Rises s key b high)
    → ((i : ℕ) → count_in i left ≡ (if q == i then 1 else 0) + count_in i less)
    → Took s x low old (Key n k ∷ Page m ∷ (a ++ b)) high free left
    → Took s x low old (Key n k ∷ Page m ∷ (a ++ (Key q key ∷ Page q ∷ b))) high free less
took_parted s o x low k key n m q old a b high free left less parts taken t =
    let p = parts t.rises.1 in
    record {
      rows = subst (λ r. Added x (rows_of old) r) (rows-append a b ∙ sym (rows-append a (Key q key ∷ Page q ∷ b))) t.rows;
      rises = (t.rises.0, rises_join s o k key a (Key q key ∷ Page q ∷ b) high p.0 (o.refl_le key, p.1));
      pages = λ i. let h = t.pages i in let e = times-append i a b in let f = times-append i a (Key q key ∷ Page q ∷ b) in let g = taken i in omega (arith, h, e, f, g);
    }

-- children part at the key of one
pub children_part : {P E : Type 0} (s : Scale P E) → IsOrder s → (nodes : ℕ → Node P E) (levels : ℕ) (low : P) (a : Marks P E) (r : Child P) (rs : List (Child P)) (high : Option P)
    → Rises s low (a ++ flat_map (walk s nodes levels) (r ∷ rs)) high → Rises s low a (Some r.key) × Rises s r.key (flat_map (walk s nodes levels) (r ∷ rs)) high
unfolding walk
children_part s o nodes zero low a r rs high h = absurd (rises_cut s o low a (flat_map (walk s nodes zero) (r ∷ rs)) high h).2
children_part s o nodes (suc levels) low a r rs high h =
    let t = cut_at_key s o low a (flat_map (walk s nodes (suc levels)) (r ∷ rs)) high tt h in (t.0, (o.refl_le r.key, t.1))

-- The children of a page, before and after one of them took an entry; `mid` are the pages that are free in between.
pub record AtLevel {P E : Type 0} (s : Scale P E) (before middle after : ℕ → Node P E) (below : ℕ) (c : Child P) (front : List (Child P)) (t : Child P) (back : List (Child P)) (free mid left : List ℕ) : Type 0 where
  pub old_page : before c.page ≡ Inner (front ++ t ∷ back)
  pub kept : (n : ℕ) → times n (walk s before (suc below) (own c.key front t)) ≡ 0 → count_in n free ≡ count_in n mid → middle n ≡ before n
  pub here : (n : ℕ) → n ≢ c.page → count_in n mid ≡ count_in n left → after n ≡ middle n
  pub takes : (n : ℕ) → count_in n left ≤ count_in n mid
  pub took : (n : ℕ) → count_in n mid ≤ count_in n free

-- what of these children changed, and what didn't
pub children_agree : {P E : Type 0} (s : Scale P E) (x : E) (before middle after : ℕ → Node P E) (below : ℕ) (c : Child P) (front : List (Child P)) (t : Child P) (more back : List (Child P)) (free between left : List ℕ)
    (mid : P) (high : Option P) → AtLevel s before middle after below c front t back free between left
    → ((n : ℕ) → times n (walk s before (suc (suc below)) c) + count_in n free ≤ 1)
    → Took s x mid (walk s before (suc below) (own c.key front t)) (flat_map (walk s middle (suc below)) (own c.key front t ∷ more)) high free between
    → Agree before after (flat_map (walk s before (suc below)) (under c.key front)) × Agree middle after (flat_map (walk s middle (suc below)) (own c.key front t ∷ more)) × Agree before after (flat_map (walk s before (suc below)) back)
children_agree s x before middle after below c front t more back free between left mid high at once took =
    let A = flat_map (walk s before (suc below)) (under c.key front) in
    let T = walk s before (suc below) (own c.key front t) in
    let B = flat_map (walk s before (suc below)) back in
    let M = flat_map (walk s middle (suc below)) (own c.key front t ∷ more) in
    let count : (n : ℕ) → ((if c.page == n then 1 else 0) + (times n A + (times n T + times n B + count_in n free)) ≤ 1) =
    λ n. let e = times_inner s before below c front t back n at.old_page in let h = once n in omega (arith, e, h) in
    let side : (n : ℕ) → 0 < times n A + times n B → after n ≡ before n =
    λ n h. let k = count n in let i = at.takes n in let j = at.took n in
    at.here n (once_here c.page n (times n A + (times n T + times n B + count_in n free)) k (omega (arith, h))) (omega (arith, h, i, j, k))
    ∙ at.kept n (omega (arith, h, k)) (omega (arith, h, i, j, k)) in
    let fresh : (n : ℕ) → 0 < times n M → after n ≡ middle n =
    λ n h. let k = count n in let p = took.pages n in let i = at.takes n in
    at.here n (once_here c.page n (times n A + (times n T + times n B + count_in n free)) k (omega (arith, h, p))) (omega (arith, h, i, p, k)) in
    ((λ n h. side n (omega (arith, h))), fresh, (λ n h. side n (omega (arith, h))))

pub children_walk : {P E : Type 0} (s : Scale P E) (x : E) (before middle after : ℕ → Node P E) (below : ℕ) (c : Child P) (front : List (Child P)) (t : Child P) (more back : List (Child P)) (free between left : List ℕ)
    (mid : P) (high : Option P) → AtLevel s before middle after below c front t back free between left
    → ((n : ℕ) → times n (walk s before (suc (suc below)) c) + count_in n free ≤ 1)
    → Took s x mid (walk s before (suc below) (own c.key front t)) (flat_map (walk s middle (suc below)) (own c.key front t ∷ more)) high free between
    → flat_map (walk s after (suc below)) (under c.key (front ++ t ∷ (more ++ back)))
    ≡ flat_map (walk s before (suc below)) (under c.key front) ++ (flat_map (walk s middle (suc below)) (own c.key front t ∷ more) ++ flat_map (walk s before (suc below)) back)
children_walk s x before middle after below c front t more back free between left mid high at once took =
    let A = flat_map (walk s before (suc below)) (under c.key front) in
    let M = flat_map (walk s middle (suc below)) (own c.key front t ∷ more) in
    let agree = children_agree s x before middle after below c front t more back free between left mid high at once took in
    ap (flat_map (walk s after (suc below))) (under_parts c.key front t (more ++ back))
    ∙ flat_map-append (walk s after (suc below)) (under c.key front) (own c.key front t ∷ (more ++ back))
    ∙ ap (λ ms. ms ++ flat_map (walk s after (suc below)) (own c.key front t ∷ (more ++ back))) (untouched s before after (suc below) (under c.key front) agree.0)
    ∙ ap (λ ms. A ++ ms) (flat_map-append (walk s after (suc below)) (own c.key front t ∷ more) back)
    ∙ ap (λ ms. A ++ (ms ++ flat_map (walk s after (suc below)) back)) (untouched s middle after (suc below) (own c.key front t ∷ more) agree.1)
    ∙ ap (λ ms. A ++ (M ++ ms)) (untouched s before after (suc below) back agree.2)

-- where a child took the entry, the page with its children did
pub children_took : {P E : Type 0} (s : Scale P E) → IsOrder s → (x : E) (before middle after : ℕ → Node P E) (below : ℕ) (c : Child P) (front : List (Child P)) (t : Child P) (more back : List (Child P)) (low key : P) (high : Option P) (free between left : List ℕ)
    → AtLevel s before middle after below c front t back free between left
    → Ready s x key low (walk s before (suc (suc below)) c) high free
    → (b : Between s x (own c.key front t).key c.key (flat_map (walk s before (suc below)) (under c.key front)) (walk s before (suc below) (own c.key front t)) (flat_map (walk s before (suc below)) back) high free)
    → Took s x b.mid (walk s before (suc below) (own c.key front t)) (flat_map (walk s middle (suc below)) (own c.key front t ∷ more)) (bound (flat_map (walk s before (suc below)) back) high) free between
    → Took s x low (walk s before (suc (suc below)) c) (Key c.page c.key ∷ Page c.page ∷ flat_map (walk s after (suc below)) (under c.key (front ++ t ∷ (more ++ back)))) high free between
children_took s o x before middle after below c front t more back low key high free between left at r b took =
    let A = flat_map (walk s before (suc below)) (under c.key front) in
    let T = walk s before (suc below) (own c.key front t) in
    let B = flat_map (walk s before (suc below)) back in
    let M = flat_map (walk s middle (suc below)) (own c.key front t ∷ more) in
    let was = inner_walk s before below c front t back at.old_page in
    let is = children_walk s x before middle after below c front t more back free between left b.mid (bound B high) at r.once took in
    let opened : Ready s x key low (Key c.page c.key ∷ Page c.page ∷ (A ++ (T ++ B))) high free = subst (λ ms. Ready s x key low ms high free) was r in
    subst (λ ms. Took s x low ms (Key c.page c.key ∷ Page c.page ∷ flat_map (walk s after (suc below)) (under c.key (front ++ t ∷ (more ++ back)))) high free between) (sym was)
    (subst (λ ms. Took s x low (Key c.page c.key ∷ Page c.page ∷ (A ++ (T ++ B))) (Key c.page c.key ∷ Page c.page ∷ ms) high free between) (sym is)
    (rest_took s x low c.page c.key (A ++ (T ++ B)) (A ++ (M ++ B)) high free between opened.rises.0
    (took_between s o x c.key b.mid A T M B high free between b.left b.right took)))
