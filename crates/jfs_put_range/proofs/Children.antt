-- The children of an inner page, one after the other.
use Rattle.std.proofs.Common.{◌≡◌, ◌≤◌, ◌<◌, ◌⊎◌, inl, inr, refl, sym, ap, ◌∙◌, subst, ℕ, ◌+◌, Bool, true, false, ◌&&◌, if◌then◌else◌, List, [], ◌∷◌, ◌++◌, map, length, Option, Some, None, arith}
use Rattle.std.specs.Prelude.{nat_le}
use Rattle.std.proofs.lemmas.Bool.{leb-false}
use Rattle.std.proofs.lemmas.List.{length-append}
use Rattle.std.proofs.lemmas.List.Concat.{flat_map-append}
use Rattle.jfs_bits.specs.declared.extent.Xad.{Xad}
use Rattle.jfs_tree.specs.Walk.{Child, Rises, under, walk}
use Rattle.jfs_tree.specs.Edit.{count_in}
use Rattle.jfs_tree.specs.Form.{as_child, children_of}
use Rattle.jfs_tree.specs.declared.form.Sibling.{Sibling}
use Rattle.jfs_tree.specs.declared.form.TreeError.{TreeError}
use Rattle.jfs_tree.specs.declared.form.TreeError.TheVariants.{View, Bad, Memory}
use Rattle.jfs_tree.proofs.Between.{append_nil}
use Rattle.jfs_tree.proofs.Keys.{walk_strict}
use Rattle.jfs_tree.proofs.Split.{children_part}
use Rattle.jfs_xtpage.specs.Page.{end_of, rises_from}
use Rattle.jfs_xtree.specs.Laws.{order, ends_after}
use Rattle.jfs_xtree.specs.Node.{xt_scale, child_of, child_entry, lowered, BeginsAt}
use Rattle.jfs_xtree.specs.Spells.{page_nodes}
use Rattle.jfs_xtree.specs.CutParts.{pages_of_children, pages_of_entries}
use Rattle.jfs_xtree.specs.Cutting.{kept_below}
use Rattle.jfs_xtree.specs.Writing.{kept_from}
use Rattle.jfs_xtree.proofs.Pages.{rises_more, rises_less}
use Rattle.jfs_xtree.proofs.WrittenIn.{all_to_more}
use Rattle.jfs_written.proofs.Cuts.{all_to_append}
use Rattle.jfs_written.proofs.Each.{rises_append}
use Rattle.jfs_refill.specs.Grown.{grown_entries}
use Rattle.jfs_refill.proofs.Growth.{grown_rises}
use Rattle.jfs_put_range.specs.Parts.{Takes, Wrote, WrotePage, WroteChildren, RefutesChildren, Follows, KeepsFilled, part_of, parts_below, parts_under, is_none}
use Rattle.jfs_put_range.proofs.Rows.{begins_more, children_begin}
use Rattle.jfs_put_range.proofs.Beside.{wrote_none, wrote_beside, parts_stay, second_agrees, first_agrees}
use Rattle.jfs_put_range.proofs.Filled.{both_keep}
use Rattle.jfs_put_range.proofs.Cutting.{head_takes, rest_takes, some_side}

-- ---- children that no part of the range has

same_follows : (top : Bool) (high : Option ℕ) (entries : List Xad) → Follows top high entries entries
same_follows top high entries = record { order = λ low r z. r; begins = λ k nt b. b; ends = λ bound is all. all }

pub none_written : (end : Bool) (blocks : ℕ) (left right top : Bool) (pages : ℕ → List ℕ) (entries : List Xad) (free : List ℕ) → WroteChildren end blocks [] left right top pages pages 0 entries entries free free
none_written end blocks left right top pages entries free height key low high first rises begins takes = (
  wrote_none pages low (parts_under blocks pages height key entries) high free takes.rises,
  omega arith,
  (λ some. absurd (omega (arith, some))),
  same_follows top high entries,
  omega arith,
  (λ least most depth last ends line. line),
)

-- ---- one child

lowered_page : (top : Bool) (key : ℕ) (x : Xad) → (lowered top key x).at.addr ≡ x.at.addr
lowered_page top key x = by (nat_le (end_of x) key)
  where
    by : (b : Bool) → (if b then x else record { flag = x.flag; offset = if top then 0 else x.offset; at = record { len = 1; addr = x.at.addr } }).at.addr ≡ x.at.addr
    by true = refl
    by false = refl

lowered_offset : (top : Bool) (key : ℕ) (x : Xad) → top ≡ false → (lowered top key x).offset ≡ x.offset
lowered_offset top key x nt = by (nat_le (end_of x) key) top nt
  where
    by : (b t : Bool) → t ≡ false → (if b then x else record { flag = x.flag; offset = if t then 0 else x.offset; at = record { len = 1; addr = x.at.addr } }).offset ≡ x.offset
    by true t nt = refl
    by false true nt = absurd cc
    by false false nt = refl

grown_under : (key : ℕ) (top : Bool) (x : Xad) (more : Option (Sibling ℕ)) → under key (map child_of (grown_entries top x more)) ≡ record { key = key; page = x.at.addr } ∷ children_of more
grown_under key top x None = refl
grown_under key top x (Some s) = ap (λ (p : ℕ). let c : Child ℕ = record { key = key; page = p } in c ∷ as_child s ∷ []) (lowered_page top s.key x)

-- what stands behind the child has a key past the child's own, and before the upper end
sibling_rises : (blocks : ℕ) (pages : ℕ → List ℕ) (height low : ℕ) (c d : Child ℕ) (high : Option ℕ) → Rises xt_scale low (parts_below blocks pages height (c ∷ d ∷ [])) high → (c.key < d.key) × ((bound : ℕ) → high ≡ Some bound → d.key < bound)
sibling_rises blocks pages height low c d high r =
    let nodes = page_nodes blocks pages in
    let p = children_part xt_scale order nodes height low (walk xt_scale nodes height c) d [] high r in (
      leb-false d.key c.key (walk_strict xt_scale order nodes height c low d.key p.0),
      λ bound is. leb-false bound d.key (walk_strict xt_scale order nodes height d d.key bound
          (subst (λ m. Rises xt_scale d.key (walk xt_scale nodes height d) m) is (subst (λ ms. Rises xt_scale d.key ms high) (append_nil (walk xt_scale nodes height d)) p.1))),
    )

grown_follows : (blocks : ℕ) (pages : ℕ → List ℕ) (height key low : ℕ) (top : Bool) (x : Xad) (more : Option (Sibling ℕ)) (high : Option ℕ) → (top ≡ false → key ≡ x.offset)
    → Rises xt_scale low (parts_below blocks pages height (record { key = key; page = x.at.addr } ∷ children_of more)) high → Follows top high (x ∷ []) (grown_entries top x more)
grown_follows blocks pages height key low top x None high begins r = same_follows top high (x ∷ [])
grown_follows blocks pages height key low top x (Some s) high begins r =
    let p = sibling_rises blocks pages height low (record { key = key; page = x.at.addr }) (as_child s) high r in
    let past : key < s.key = p.0 in
    let behind : (0 < s.key) × (top ≡ false → x.offset < s.key) × (rises_from (s.key + 1) [] ≡ true) = (omega (arith, past), (λ nt. (let b = begins nt in omega (arith, past, b))), refl) in
    let whole = rises_less 0 (lowered top s.key x) (child_entry s.key s.page ∷ []) (grown_rises 0 top x (Some s) [] (omega arith) (λ is. refl) behind) in
    let ends = rises_less (end_of (lowered top s.key x)) (child_entry s.key s.page) [] whole.1 in
    record {
      order = λ lo rr zero. grown_rises lo top x (Some s) [] (rises_less lo x [] rr).0 zero behind;
      begins = λ k nt b. b ∙ sym (lowered_offset top s.key x nt);
      ends = λ bound is all.
          let e = ends.0 in let u = p.1 bound is in
          ((let f : end_of (lowered top s.key x) ≤ bound = omega (arith, e, u) in f), ((let f : s.key + 1 ≤ bound = omega (arith, u) in f), tt));
    }

grown_pages : (top : Bool) (x : Xad) (more : Option (Sibling ℕ)) → pages_of_entries (grown_entries top x more) ≡ x.at.addr ∷ pages_of_children (children_of more)
grown_pages top x None = refl
grown_pages top x (Some s) = ap (λ (p : ℕ). p ∷ s.page ∷ []) (lowered_page top s.key x)

grown_count : (top : Bool) (x : Xad) (more : Option (Sibling ℕ)) → 1 ≤ length (grown_entries top x more)
grown_count top x None = omega arith
grown_count top x (Some s) = omega arith

pub child_written : (end : Bool) (blocks : ℕ) (xs : List Xad) (left right top : Bool) (before after : ℕ → List ℕ) (levels : ℕ) (x : Xad) (more : Option (Sibling ℕ)) (free rest : List ℕ)
    → WrotePage end blocks xs left right before after levels x.at.addr more free rest → WroteChildren end blocks xs left right top before after levels (x ∷ []) (grown_entries top x more) free rest
child_written end blocks xs left right top before after levels x more free rest w height key low high first rises begins takes =
    let c : Child ℕ = record { key = key; page = x.at.addr } in
    let one = append_nil (part_of blocks before height c) in
    let g = w height key low high first (subst (λ ms. Takes xs left right first key low ms high free) one takes) in
    let new = ap (parts_below blocks after height) (grown_under key top x more) in
    let l = g.1 in (
      subst (λ ms. Wrote xs before after low ms (parts_under blocks after height key (grown_entries top x more)) high free rest) (sym one)
          (subst (λ ms. Wrote xs before after low (part_of blocks before height c) ms high free rest) (sym new) g.0),
      omega (arith, l),
      (λ some. l),
      grown_follows blocks after height key low top x more high begins g.0.rises,
      grown_count top x more,
      subst (KeepsFilled end blocks before after (x.at.addr ∷ [])) (sym (grown_pages top x more)) g.2,
    )

-- ---- a child, and those behind it

map_both : (hs ts : List Xad) → map child_of (hs ++ ts) ≡ map child_of hs ++ map child_of ts
map_both [] ts = refl
map_both (h ∷ hs) ts = ap (λ cs. child_of h ∷ cs) (map_both hs ts)

under_both : (key : ℕ) (hs ts : List Xad) → 0 < length hs → under key (map child_of (hs ++ ts)) ≡ under key (map child_of hs) ++ map child_of ts
under_both key [] ts l = absurd (omega (arith, l))
under_both key (x ∷ hs) ts l = ap (λ cs. let c : Child ℕ = record { key = key; page = x.at.addr } in c ∷ cs) (map_both hs ts)

own_key : (k : ℕ) (ts : List Xad) → BeginsAt k ts → map child_of ts ≡ under k (map child_of ts)
own_key k [] h = absurd h
own_key k (x ∷ ts) h = ap (λ (n : ℕ). let c : Child ℕ = record { key = n; page = x.at.addr } in c ∷ map child_of ts) (sym h)

two_parts : (blocks : ℕ) (pages : ℕ → List ℕ) (height key bound : ℕ) (hs ts : List Xad) → 0 < length hs → BeginsAt bound ts → parts_under blocks pages height key (hs ++ ts) ≡ parts_under blocks pages height key hs ++ parts_under blocks pages height bound ts
two_parts blocks pages height key bound hs ts some begins =
    ap (parts_below blocks pages height) (under_both key hs ts some ∙ ap (λ cs. under key (map child_of hs) ++ cs) (own_key bound ts begins))
    ∙ flat_map-append (walk xt_scale (page_nodes blocks pages) height) (under key (map child_of hs)) (under bound (map child_of ts))

-- what a child and those behind it are for the two parts of the range
record Beside (blocks : ℕ) (xs : List Xad) (left right mine its : Bool) (before : ℕ → List ℕ) (height key low : ℕ) (high : Option ℕ) (first : ℕ) (e r : Xad) (rs : List Xad) (free : List ℕ) : Type 0 where
  a : Rises xt_scale low (part_of blocks before height (record { key = key; page = e.at.addr })) (Some r.offset)
  b : Rises xt_scale r.offset (parts_under blocks before height r.offset (r ∷ rs)) high
  past : key < r.offset
  ends : end_of e ≤ r.offset
  rises : rises_from (end_of r) rs ≡ true
  head : Takes (kept_below r.offset xs) left mine first key low (parts_under blocks before height key (e ∷ [])) (Some r.offset) free
  rest : (between : List ℕ) → ((n : ℕ) → count_in n between ≤ count_in n free) → Takes (kept_from r.offset xs) its right first r.offset r.offset (parts_under blocks before height r.offset (r ∷ rs)) high between

beside : (blocks : ℕ) (xs : List Xad) (left right mine its : Bool) (before : ℕ → List ℕ) (height key low : ℕ) (high : Option ℕ) (first : ℕ) (e r : Xad) (rs : List Xad) (free : List ℕ)
    → mine ≡ (right && is_none (kept_from r.offset xs)) → its ≡ (left && is_none (kept_below r.offset xs)) → rises_from 0 (e ∷ r ∷ rs) ≡ true
    → Takes xs left right first key low (parts_under blocks before height key (e ∷ r ∷ rs)) high free → Beside blocks xs left right mine its before height key low high first e r rs free
beside blocks xs left right mine its before height key low high first e r rs free is_mine is_its rises takes =
    let nodes = page_nodes blocks before in
    let c : Child ℕ = record { key = key; page = e.at.addr } in
    let a = part_of blocks before height c in
    let b = parts_under blocks before height r.offset (r ∷ rs) in
    let p = children_part xt_scale order nodes height low a (child_of r) (map child_of rs) high takes.rises in
    let past = leb-false r.offset key (walk_strict xt_scale order nodes height c low r.offset p.0) in
    let up = rises_less (end_of e) r rs (rises_less 0 e (r ∷ rs) rises).1 in
    record {
      a = p.0;
      b = p.1;
      past = past;
      ends = up.0;
      rises = up.1;
      head = subst (λ ms. Takes (kept_below r.offset xs) left mine first key low ms (Some r.offset) free) (sym (append_nil a)) (head_takes xs left right mine r.offset first key low a b high free is_mine p.0 p.1 takes);
      rest = λ between fewer. rest_takes xs left right its r.offset first key low a b high free between is_its (omega (arith, past)) p.1 fewer takes;
    }

both_follow : (top : Bool) (high : Option ℕ) (e r : Xad) (rs hs ts : List Xad) → end_of e ≤ r.offset → rises_from (end_of r) rs ≡ true → Follows top (Some r.offset) (e ∷ []) hs → Follows false high (r ∷ rs) ts → Follows top high (e ∷ r ∷ rs) (hs ++ ts)
both_follow top high e r rs hs ts l up f g = record {
  order = λ low rises zero.
      let t = rises_less low e (r ∷ rs) rises in let k = t.0 in let w = ends_after e in
      rises_append low r.offset hs ts (f.order low (rises_more low e [] k refl) zero) (f.ends r.offset refl (l, tt)) (omega (arith, k, w, l)) (g.order r.offset (rises_more r.offset r rs (omega arith) up) (λ is. absurd cc));
  begins = λ k nt b. begins_more k hs ts (f.begins k nt b);
  ends = λ bound is all.
      let m = all.1.0 in let w = ends_after r in
      all_to_append bound hs ts (all_to_more r.offset bound hs (omega (arith, m, w)) (f.ends r.offset refl (l, tt))) (g.ends bound is all.1);
}

pub both_written : (end : Bool) (blocks : ℕ) (xs : List Xad) (left right top mine its : Bool) (before middle after : ℕ → List ℕ) (one two levels : ℕ) (e r : Xad) (rs hs ts : List Xad) (free between rest : List ℕ)
    → mine ≡ (right && is_none (kept_from r.offset xs)) → its ≡ (left && is_none (kept_below r.offset xs)) → one ≤ levels → two ≤ levels → (levels ≡ one) ⊎ (levels ≡ two)
    → ((n : ℕ) → count_in n between ≤ count_in n free) → ((n : ℕ) → count_in n rest ≤ count_in n between) → 0 < length hs
    → WroteChildren false blocks (kept_below r.offset xs) left mine top before middle one (e ∷ []) hs free between
    → WroteChildren end blocks (kept_from r.offset xs) its right false middle after two (r ∷ rs) ts between rest
    → WroteChildren end blocks xs left right top before after levels (e ∷ r ∷ rs) (hs ++ ts) free rest
both_written end blocks xs left right top mine its before middle after one two levels e r rs hs ts free between rest is_mine is_its l m which fewer less some h t height key low high first rises begins takes =
    let s = beside blocks xs left right mine its before height key low high first e r rs free is_mine is_its rises takes in
    let a = part_of blocks before height (record { key = key; page = e.at.addr }) in
    let b = parts_under blocks before height r.offset (r ∷ rs) in
    let x = parts_under blocks middle height key hs in
    let y = parts_under blocks after height r.offset ts in
    let g = h height key low (Some r.offset) first (rises_more 0 e [] (omega arith) refl) begins s.head in
    let hw = subst (λ ms. Wrote (kept_below r.offset xs) before middle low ms x (Some r.offset) free between) (append_nil a) g.0 in
    let keeps = second_agrees (kept_below r.offset xs) low before middle a x (parts_under blocks before height r.offset (r ∷ rs)) (Some r.offset) free between takes.once fewer hw in
    let same = parts_stay blocks before middle height (map child_of (r ∷ rs)) keeps in
    let k = t height r.offset r.offset high first (rises_more 0 r rs (omega arith) s.rises) (λ is. refl) (subst (λ ms. Takes (kept_from r.offset xs) its right first r.offset r.offset ms high between) (sym same) (s.rest between fewer)) in
    let tw = subst (λ ms. Wrote (kept_from r.offset xs) middle after r.offset ms y high between rest) same k.0 in
    let later = first_agrees (kept_below r.offset xs) (kept_from r.offset xs) low r.offset before middle after a x b y (Some r.offset) high free between rest takes.once less hw tw in
    let stays = parts_stay blocks middle after height (under key (map child_of hs)) later in
    let v = g.1 in let w = k.1 in (
      subst (λ ms. Wrote xs before after low (a ++ b) ms high free rest)
          (sym (two_parts blocks after height key r.offset hs ts some (k.3.begins r.offset refl refl) ∙ ap (λ ms. ms ++ y) stays))
          (wrote_beside xs r.offset low before middle after a x b y high free between rest s.a s.b
          (children_begin (page_nodes blocks before) height (child_of r) (map child_of rs) r.offset high (let p = s.past in omega (arith, p)) s.b) fewer less hw tw),
      up_to v w which,
      (λ any. elim (some_side r.offset xs any) [ inl p ↦ (let d = g.2 p in let u = up_to v w which in omega (arith, d, l, u)) | inr p ↦ (let d = k.2 p in let u = up_to v w which in omega (arith, d, m, u)) ]),
      both_follow top high e r rs hs ts s.ends s.rises g.3 k.3,
      (let i = g.4 in let j = k.4 in let n = length-append hs ts in omega (arith, i, j, n)),
      both_keep end blocks before middle after height key r.offset low e r rs hs ts (Some r.offset) high s.b keeps hw.rises later g.5 k.5,
    )
  where
    up_to : one ≤ height → two ≤ height → (levels ≡ one) ⊎ (levels ≡ two) → levels ≤ height
    up_to v w (inl i) = omega (arith, v, i)
    up_to v w (inr i) = omega (arith, w, i)

pub head_refuted : (blocks : ℕ) (xs : List Xad) (left right top mine : Bool) (before : ℕ → List ℕ) (most : ℕ) (e r : Xad) (rs : List Xad) (free : List ℕ) (err : TreeError)
    → mine ≡ (right && is_none (kept_from r.offset xs)) → RefutesChildren blocks (kept_below r.offset xs) left mine top before most (e ∷ []) free err → RefutesChildren blocks xs left right top before most (e ∷ r ∷ rs) free err
head_refuted blocks xs left right top mine before most e r rs free (View v) is refutes = tt
head_refuted blocks xs left right top mine before most e r rs free (Bad bad rule) is refutes = λ height key low high first within rises begins takes.
    let s = beside blocks xs left right mine (left && is_none (kept_below r.offset xs)) before height key low high first e r rs free is refl rises takes in
    refutes height key low (Some r.offset) first within (rises_more 0 e [] (omega arith) refl) begins s.head
head_refuted blocks xs left right top mine before most e r rs free Memory is refutes = tt

pub rest_refuted : (blocks : ℕ) (xs : List Xad) (left right top mine its : Bool) (before middle : ℕ → List ℕ) (one most : ℕ) (e r : Xad) (rs hs : List Xad) (free between : List ℕ) (err : TreeError)
    → mine ≡ (right && is_none (kept_from r.offset xs)) → its ≡ (left && is_none (kept_below r.offset xs)) → ((n : ℕ) → count_in n between ≤ count_in n free)
    → WroteChildren false blocks (kept_below r.offset xs) left mine top before middle one (e ∷ []) hs free between
    → RefutesChildren blocks (kept_from r.offset xs) its right false middle most (r ∷ rs) between err
    → RefutesChildren blocks xs left right top before most (e ∷ r ∷ rs) free err
rest_refuted blocks xs left right top mine its before middle one most e r rs hs free between (View v) is_mine is_its fewer h refutes = tt
rest_refuted blocks xs left right top mine its before middle one most e r rs hs free between (Bad bad rule) is_mine is_its fewer h refutes = λ height key low high first within rises begins takes.
    let s = beside blocks xs left right mine its before height key low high first e r rs free is_mine is_its rises takes in
    let a = part_of blocks before height (record { key = key; page = e.at.addr }) in
    let x = parts_under blocks middle height key hs in
    let g = h height key low (Some r.offset) first (rises_more 0 e [] (omega arith) refl) begins s.head in
    let hw = subst (λ ms. Wrote (kept_below r.offset xs) before middle low ms x (Some r.offset) free between) (append_nil a) g.0 in
    let keeps = second_agrees (kept_below r.offset xs) low before middle a x (parts_under blocks before height r.offset (r ∷ rs)) (Some r.offset) free between takes.once fewer hw in
    let same = parts_stay blocks before middle height (map child_of (r ∷ rs)) keeps in
    refutes height r.offset r.offset high first within (rises_more 0 r rs (omega arith) s.rises) (λ is. refl) (subst (λ ms. Takes (kept_from r.offset xs) its right first r.offset r.offset ms high between) (sym same) (s.rest between fewer))
rest_refuted blocks xs left right top mine its before middle one most e r rs hs free between Memory is_mine is_its fewer h refutes = tt
