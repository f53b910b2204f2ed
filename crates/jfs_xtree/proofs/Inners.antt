-- One more child on an inner page, behind a place.
use Rattle.std.proofs.Common.{◌≡◌, ◌≤◌, ◌<◌, inl, inr, refl, sym, ap, ◌∙◌, subst, ℕ, zero, suc, ◌+◌, ◌-◌, ◌==◌, List, [], ◌∷◌, ◌++◌, map, length, take, drop, Bool, true, false, if◌then◌else◌, arith}
use Rattle.std.specs.Prelude.{nat_le, ⊤}
use Rattle.std.proofs.lemmas.Bool.{leb-true, leb-false, le-leb}
use Rattle.std.proofs.lemmas.Bool.Decides.{nat_tests}
use Rattle.jfs_bits.specs.declared.extent.Xad.{Xad}
use Rattle.jfs_tree.specs.Walk.{Child, under}
use Rattle.jfs_tree.specs.Edit.{IsCons, KeysAbove, KeysRise}
use Rattle.jfs_tree.specs.Form.{AtPlace, HasChildren, SplitsChildren}
use Rattle.jfs_xtpage.specs.declared.head.XtForm.{XtForm}
use Rattle.jfs_xtpage.specs.Page.{head_of, entries_of, entries_from, entry_of, count_of, end_of, rises_from}
use Rattle.jfs_xtpage.proofs.Entries.{length-entries, last}
use Rattle.jfs_xtree.specs.Node.{xt_scale, is_within, all_within, child_of, child_entry, xt_node, lowered, with_at, SameKind, TakesChild, BeginsAt}
use Rattle.jfs_xtree.proofs.Reading.{truth, and_true, inner_is}
use Rattle.jfs_xtree.proofs.Pages.{IsNew, inner_made, new_inner, rises_more, rises_less, rises_front, rises_back, within_both, within_front, within_back}
use Rattle.jfs_xtree.proofs.Ways.{cut_at, length_front, map_cut, map_both, length_map, head_same, cut_same}

-- ---- one more child

-- the key is behind what stands before its place
pub NextPast : ℕ → List (Child ℕ) → Type 0
NextPast key [] = ⊤
NextPast key (c ∷ cs) = key < c.key

above_at : (k : ℕ) (front : List (Child ℕ)) (x y : Child ℕ) (back : List (Child ℕ)) → KeysAbove xt_scale k (front ++ x ∷ y ∷ back) → (x.key < y.key) × NextPast y.key back
unfolding NextPast
above_at k [] x y [] h = (leb-false y.key x.key h.1.0, tt)
above_at k [] x y (b ∷ back) h = (leb-false y.key x.key h.1.0, leb-false b.key y.key h.1.1.0)
above_at k (f ∷ front) x y back h = above_at f.key front x y back h.1

next_first : (c : Child ℕ) (k : ℕ) (back : List (Child ℕ)) → KeysAbove xt_scale k (c ∷ back) → (k < c.key) × NextPast c.key back
unfolding NextPast
next_first c k [] h = (leb-false c.key k h.0, tt)
next_first c k (b ∷ back) h = (leb-false c.key k h.0, leb-false b.key c.key h.1.0)

rise_at : (front : List (Child ℕ)) (x y : Child ℕ) (back : List (Child ℕ)) → KeysRise xt_scale (front ++ x ∷ y ∷ back) → (0 < y.key) × ((front ≡ [] → ⊥) → x.key < y.key) × NextPast y.key back
rise_at [] x y back h = let t = next_first y 0 back h in (t.0, (λ never. absurd (never refl)), t.1)
rise_at (f ∷ front) x y back h = let t = above_at 0 front x y back h in let l = t.0 in (omega (arith, l), (λ some. t.0), t.1)

next_entry : (bytes : List ℕ) (key p m : ℕ) → NextPast key (map child_of (entries_from bytes p m)) → 0 < m → key < (entry_of bytes p).offset
unfolding NextPast
next_entry bytes key p zero n h = absurd (omega (arith, h))
next_entry bytes key p (suc m) n h = n

-- the parts of a page at which a child is put
pub record Cut (form : XtForm) (blocks : ℕ) (bytes : List ℕ) (place : ℕ) (c : Child ℕ) (all : List (Child ℕ)) : Type 0 where
  pub within : place < count_of bytes
  pub all_is : all ≡ map child_of (take place (entries_of bytes)) ++ child_of (entry_of bytes place) ∷ c ∷ map child_of (drop (place + 1) (entries_of bytes))

longer : (a : List (Child ℕ)) (x : Child ℕ) (c : List (Child ℕ)) → length a < length (a ++ x ∷ c)
longer [] x c = omega arith
longer (y ∷ a) x c = let h = longer a x c in omega (arith, h)

pub cut_of : (form : XtForm) (blocks : ℕ) (bytes : List ℕ) (place : ℕ) (c : Child ℕ) (all : List (Child ℕ)) → AtPlace (xt_node form blocks bytes) place c all → Cut form blocks bytes place c all
cut_of form blocks bytes place c all at =
    let t = inner_is form blocks bytes (at.front ++ at.before ∷ at.back) at.was in
    let n : length (at.front ++ at.before ∷ at.back) ≡ count_of bytes = ap length (sym t.2) ∙ length_map (entries_of bytes) ∙ length-entries bytes 0 (count_of bytes) in
    let more = longer at.front at.before at.back in
    let placed = at.at in
    let within : place < count_of bytes = omega (arith, n, more, placed) in
    let same = cut_same at.front (map child_of (take place (entries_of bytes))) at.before (child_of (entry_of bytes place)) at.back (map child_of (drop (place + 1) (entries_of bytes)))
    (sym t.2 ∙ ap (map child_of) (cut_at bytes place within) ∙ map_cut (take place (entries_of bytes)) (entry_of bytes place) (drop (place + 1) (entries_of bytes)))
    (placed ∙ sym (length_map (take place (entries_of bytes)) ∙ length_front bytes place within)) in
    record {
      within = within;
      all_is = at.is ∙ ap (λ f. f ++ at.before ∷ c ∷ at.back) same.0 ∙ ap (λ b. map child_of (take place (entries_of bytes)) ++ b ∷ c ∷ at.back) same.1 ∙ ap (λ b. map child_of (take place (entries_of bytes)) ++ child_of (entry_of bytes place) ∷ c ∷ b) same.2;
    }

not_empty : (xs : List Xad) (n : ℕ) → length xs ≡ suc n → map child_of xs ≡ [] → ⊥
not_empty [] n e is = none n e
  where
    none : (n : ℕ) → zero ≡ suc n → ⊥
    none n e = omega (arith, e)
not_empty (x ∷ xs) n e is = absurd cc

-- where keys rise, the code's test holds
pub takes_of : (form : XtForm) (blocks : ℕ) (bytes : List ℕ) (place : ℕ) (c : Child ℕ) (all : List (Child ℕ)) → AtPlace (xt_node form blocks bytes) place c all → KeysRise xt_scale all → TakesChild bytes place c.key
takes_of form blocks bytes place c all at rise =
    let cut = cut_of form blocks bytes place c all at in
    let front = take place (entries_of bytes) in
    let r = rise_at (map child_of front) (child_of (entry_of bytes place)) c (map child_of (drop (place + 1) (entries_of bytes))) (subst (KeysRise xt_scale) cut.all_is rise) in
    let within = cut.within in
    record {
      within = within;
      some = r.0;
      above = λ h. r.1 (some_front place h within);
      below = λ h. next_entry bytes c.key (place + 1) (count_of bytes - (place + 1))
          (subst (λ xs. NextPast c.key (map child_of xs)) (sym (last bytes 0 (place + 1) (count_of bytes) (place + 1) (count_of bytes - (place + 1)) (omega (arith, within)) (omega arith))) r.2) (omega (arith, h));
    }
  where
    some_front : (place : ℕ) → 0 < place → place < count_of bytes → map child_of (take place (entries_of bytes)) ≡ [] → ⊥
    some_front zero h l = absurd (omega (arith, h))
    some_front (suc p) h l = not_empty (take (suc p) (entries_of bytes)) p (length_front bytes (suc p) l)

-- ---- the entries with one more child

with_behind : (f : List Xad) (l c : Xad) (b : List Xad) (p : ℕ) → p ≡ suc (length f) → with_at (f ++ l ∷ b) p c ≡ f ++ l ∷ c ∷ b
with_behind [] l c b p e = ap (λ n. with_at (l ∷ b) n c) (e ∙ one)
  where
    one : suc 0 ≡ suc zero
    one = refl
with_behind (x ∷ f) l c b zero e = absurd (none (length f) e)
  where
    none : (n : ℕ) → zero ≡ suc (suc n) → ⊥
    none n e = omega (arith, e)
with_behind (x ∷ f) l c b (suc p) e = ap (λ xs. x ∷ xs) (with_behind f l c b p (omega (arith, e)))

-- what an entry is before a key
lowered_is : (first : Bool) (key : ℕ) (e : Xad) → 0 < key → (first ≡ false → e.offset < key) → (end_of (lowered first key e) ≤ key) × ((lowered first key e).at.addr ≡ e.at.addr) × (first ≡ false → (lowered first key e).offset ≡ e.offset)
lowered_is first key e some above = elim (truth (nat_le (end_of e) key)) [
  | inl is ↦ rw is (leb-true (end_of e) key is, refl, λ f. refl)
  | inr is ↦ rw is (by first above, refl, keeps first)
]
  where
    by : (first : Bool) → (first ≡ false → e.offset < key) → (if first then 0 else e.offset) + 1 ≤ key
    by true above = omega (arith, some)
    by false above = let h = above refl in omega (arith, h)

    keeps : (first : Bool) → first ≡ false → (if first then 0 else e.offset) ≡ e.offset
    keeps true f = absurd cc
    keeps false f = refl

lowered_within : (blocks : ℕ) (first : Bool) (key : ℕ) (e : Xad) → is_within blocks e ≡ true → is_within blocks (lowered first key e) ≡ true
lowered_within blocks first key e w = elim (truth (nat_le (end_of e) key)) [
  | inl is ↦ rw is w
  | inr is ↦ rw is (let t = and_true (nat_le 1 e.at.len) (nat_le (e.at.addr + e.at.len) blocks) w in let a = leb-true 1 e.at.len t.0 in let b = leb-true (e.at.addr + e.at.len) blocks t.1 in le-leb (e.at.addr + 1) blocks (omega (arith, a, b)))
]

NextFrom : ℕ → List Xad → Type 0
NextFrom key [] = ⊤
NextFrom key (b ∷ bs) = key < b.offset

next_from : (key : ℕ) (xs : List Xad) → NextPast key (map child_of xs) → NextFrom key xs
unfolding NextPast NextFrom
next_from key [] h = tt
next_from key (x ∷ xs) h = h

rises_next : (key low : ℕ) (b : List Xad) → NextFrom key b → rises_from low b ≡ true → rises_from (key + 1) b ≡ true
unfolding NextFrom
rises_next key low [] n r = refl
rises_next key low (x ∷ b) n r = let t = rises_less low x b r in rises_more (key + 1) x b (omega (arith, n)) t.1

rises_here : (low key page : ℕ) (l : Xad) (b : List Xad) → low ≤ l.offset → end_of l ≤ key → rises_from (key + 1) b ≡ true → rises_from low (l ∷ child_entry key page ∷ b) ≡ true
rises_here low key page l b a e r = rises_more low l (child_entry key page ∷ b) a (rises_more (end_of l) (child_entry key page) b e r)

rises_there : (f : List Xad) (low key page : ℕ) (e l : Xad) (b : List Xad) → l.offset ≡ e.offset → end_of l ≤ key → NextFrom key b → rises_from low (f ++ e ∷ b) ≡ true → rises_from low (f ++ l ∷ child_entry key page ∷ b) ≡ true
rises_there [] low key page e l b same ends n r = let t = rises_less low e b r in let h = t.0 in rises_here low key page l b (omega (arith, h, same)) ends (rises_next key (end_of e) b n t.1)
rises_there (x ∷ f) low key page e l b same ends n r = let t = rises_less low x (f ++ e ∷ b) r in rises_more low x (f ++ l ∷ child_entry key page ∷ b) t.0 (rises_there f (end_of x) key page e l b same ends n t.1)

rises_first : (key page : ℕ) (e l : Xad) (b : List Xad) → end_of l ≤ key → NextFrom key b → rises_from 0 (e ∷ b) ≡ true → rises_from 0 (l ∷ child_entry key page ∷ b) ≡ true
rises_first key page e l b ends n r = let t = rises_less 0 e b r in rises_here 0 key page l b (omega arith) ends (rises_next key (end_of e) b n t.1)

within_there : (blocks : ℕ) (f : List Xad) (e l c : Xad) (b : List Xad) → is_within blocks l ≡ true → is_within blocks c ≡ true → all_within blocks (f ++ e ∷ b) ≡ true → all_within blocks (f ++ l ∷ c ∷ b) ≡ true
within_there blocks [] e l c b hl hc w = let t = and_true (is_within blocks e) (all_within blocks b) w in within_both blocks l (c ∷ b) hl (within_both blocks c b hc t.1)
within_there blocks (x ∷ f) e l c b hl hc w = let t = and_true (is_within blocks x) (all_within blocks (f ++ e ∷ b)) w in within_both blocks x (f ++ l ∷ c ∷ b) t.0 (within_there blocks f e l c b hl hc t.1)

pub child_within : (blocks key page : ℕ) → page < blocks → is_within blocks (child_entry key page) ≡ true
child_within blocks key page h = rw (le-leb (page + 1) blocks (omega (arith, h))) refl

-- the same children, but for the first one's key
pub record ButFirst (xs ys : List (Child ℕ)) : Type 0 where
  pub one : Child ℕ
  pub other : Child ℕ
  pub rest : List (Child ℕ)
  pub xs_is : xs ≡ one ∷ rest
  pub ys_is : ys ≡ other ∷ rest
  pub page : one.page ≡ other.page

pub under_same : (xs ys : List (Child ℕ)) → ButFirst xs ys → (key : ℕ) → under key ys ≡ under key xs
under_same xs ys b key = ap (under key) b.ys_is ∙ ap (λ (p : ℕ). let c : Child ℕ = record { key = key; page = p } in c ∷ b.rest) (sym b.page) ∙ ap (under key) (sym b.xs_is)

but_first : (f b : List Xad) (e l c : Xad) → l.at.addr ≡ e.at.addr → ((f ≡ [] → ⊥) → l.offset ≡ e.offset) → ButFirst (map child_of f ++ child_of e ∷ child_of c ∷ map child_of b) (map child_of (f ++ l ∷ c ∷ b))
but_first [] b e l c page key = record { one = child_of e; other = child_of l; rest = child_of c ∷ map child_of b; xs_is = refl; ys_is = refl; page = sym page }
but_first (x ∷ f) b e l c page key = record {
  one = child_of x;
  other = child_of x;
  rest = map child_of f ++ child_of e ∷ child_of c ∷ map child_of b;
  xs_is = refl;
  ys_is = ap (λ cs. child_of x ∷ cs) (map_cut f l (c ∷ b) ∙ ap (λ (d : Child ℕ). map child_of f ++ d ∷ child_of c ∷ map child_of b) (same_child l e (key (λ e. absurd cc)) page));
  page = refl;
}
  where
    same_child : (l e : Xad) → l.offset ≡ e.offset → l.at.addr ≡ e.at.addr → child_of l ≡ child_of e
    same_child l e a b = rw (a, b) refl

-- ---- what becomes of the page

-- all entries, with way made and the new one
pub record Grows (blocks : ℕ) (all : List (Child ℕ)) (xs : List Xad) : Type 0 where
  pub rises : rises_from 0 xs ≡ true
  pub within : all_within blocks xs ≡ true
  pub children : ButFirst all (map child_of xs)

positive : (p : ℕ) → (p == 0) ≡ false → 0 < p
positive p e = grind (arith, nat_tests)

pub grows : (form : XtForm) (blocks : ℕ) (old mid : List ℕ) (place key page : ℕ) (all : List (Child ℕ)) → AtPlace (xt_node form blocks old) place (record { key = key; page = page }) all → KeysRise xt_scale all → page < blocks
    → entries_of mid ≡ take place (entries_of old) ++ lowered (place == 0) key (entry_of old place) ∷ drop (place + 1) (entries_of old)
    → Grows blocks all (with_at (entries_of mid) (place + 1) (child_entry key page))
grows form blocks old mid place key page all at rise inside made =
    let c : Child ℕ = record { key = key; page = page } in
    let cut = cut_of form blocks old place c all at in
    let takes = takes_of form blocks old place c all at rise in
    let f = take place (entries_of old) in
    let e = entry_of old place in
    let b = drop (place + 1) (entries_of old) in
    let l = lowered (place == 0) key e in
    let size = length_front old place cut.within in
    let is : with_at (entries_of mid) (place + 1) (child_entry key page) ≡ f ++ l ∷ child_entry key page ∷ b = ap (λ xs. with_at xs (place + 1) (child_entry key page)) made ∙ with_behind f l (child_entry key page) b (place + 1) (omega (arith, size)) in
    let t = inner_is form blocks old (at.front ++ at.before ∷ at.back) at.was in
    let rises = ap (rises_from 0) (sym (cut_at old place cut.within)) ∙ t.0.order in
    let ranges = ap (all_within blocks) (sym (cut_at old place cut.within)) ∙ t.0.range in
    let low = lowered_is (place == 0) key e takes.some (λ z. takes.above (positive place z)) in
    let r = rise_at (map child_of f) (child_of e) c (map child_of b) (subst (KeysRise xt_scale) cut.all_is rise) in
    let next = next_from key b r.2 in
    record {
      rises = ap (rises_from 0) is ∙ risen place f e l b low.0 low.2 next size rises;
      within = ap (all_within blocks) is ∙ within_there blocks f e l (child_entry key page) b (lowered_within blocks (place == 0) key e (entry_within f e b ranges)) (child_within blocks key page inside) ranges;
      children = subst (λ xs. ButFirst all (map child_of xs)) (sym is) (subst (λ ys. ButFirst ys (map child_of (f ++ l ∷ child_entry key page ∷ b))) (sym cut.all_is)
          (but_first f b e l (child_entry key page) low.1 (λ never. low.2 (not_first place f size never))));
    }
  where
    entry_within : (f : List Xad) (e : Xad) (b : List Xad) → all_within blocks (f ++ e ∷ b) ≡ true → is_within blocks e ≡ true
    entry_within f e b w = (and_true (is_within blocks e) (all_within blocks b) (within_back blocks f (e ∷ b) w)).0

    empty : (f : List Xad) → length f ≡ 0 → f ≡ []
    empty [] h = refl
    empty (x ∷ f) h = absurd (omega (arith, h))

    is : (p : ℕ) → 0 < p → (p == 0) ≡ false
    is p h = grind (arith, nat_tests)

    not_first : (place : ℕ) (f : List Xad) → length f ≡ place → (f ≡ [] → ⊥) → (place == 0) ≡ false
    not_first zero f size never = absurd (never (empty f size))
    not_first (suc p) f size never = is (suc p) (omega arith)

    risen : (place : ℕ) (f : List Xad) (e l : Xad) (b : List Xad) → end_of l ≤ key → ((place == 0) ≡ false → l.offset ≡ e.offset) → NextFrom key b → length f ≡ place → rises_from 0 (f ++ e ∷ b) ≡ true → rises_from 0 (f ++ l ∷ child_entry key page ∷ b) ≡ true
    risen zero f e l b ends same next size r =
        subst (λ g. rises_from 0 (g ++ l ∷ child_entry key page ∷ b) ≡ true) (sym (empty f size)) (rises_first key page e l b ends next (subst (λ g. rises_from 0 (g ++ e ∷ b) ≡ true) (empty f size) r))
    risen (suc p) f e l b ends same next size r = rises_there f 0 key page e l b (same (is (suc p) (omega arith))) ends next r

more_than_one : (xs : List Xad) (p : ℕ) (c : Xad) → 0 < length (with_at xs p c)
more_than_one xs zero c = omega arith
more_than_one [] (suc p) c = omega arith
more_than_one (x ∷ xs) (suc p) c = omega arith

-- a page that had room
pub child_put : (form : XtForm) (blocks : ℕ) (old mid new : List ℕ) (place key page : ℕ) (all : List (Child ℕ)) → AtPlace (xt_node form blocks old) place (record { key = key; page = page }) all → KeysRise xt_scale all → page < blocks
    → entries_of mid ≡ take place (entries_of old) ++ lowered (place == 0) key (entry_of old place) ∷ drop (place + 1) (entries_of old)
    → SameKind (head_of old) (head_of new) → entries_of new ≡ with_at (entries_of mid) (place + 1) (child_entry key page) → HasChildren (xt_node form blocks new) all
child_put form blocks old mid new place key page all at rise inside made kind entries =
    let g = grows form blocks old mid place key page all at rise inside made in
    let t = inner_is form blocks old (at.front ++ at.before ∷ at.back) at.was in
    let ys = with_at (entries_of mid) (place + 1) (child_entry key page) in
    record {
      children = map child_of ys;
      is = inner_made form blocks old new (entries_of old) ys t.0 t.1 kind entries (more_than_one (entries_of mid) (place + 1) (child_entry key page)) g.rises g.within;
      some = subst IsCons (sym g.children.ys_is) tt;
      same = under_same all (map child_of ys) g.children;
    }

begins_some : (key : ℕ) (xs : List Xad) → BeginsAt key xs → (x : Xad) × (back : List Xad) × (xs ≡ x ∷ back) × (key ≡ x.offset)
begins_some key [] h = absurd h
begins_some key (x ∷ xs) h = (x, xs, refl, h)

cons_some : (xs : List Xad) → IsCons xs → (x : Xad) × (back : List Xad) × (xs ≡ x ∷ back)
cons_some [] h = absurd h
cons_some (x ∷ xs) h = (x, xs, refl)

-- a full page that became two
pub child_parted : (form : XtForm) (blocks : ℕ) (old mid new right : List ℕ) (place key page first : ℕ) (all : List (Child ℕ)) → AtPlace (xt_node form blocks old) place (record { key = key; page = page }) all → KeysRise xt_scale all → page < blocks
    → entries_of mid ≡ take place (entries_of old) ++ lowered (place == 0) key (entry_of old place) ∷ drop (place + 1) (entries_of old)
    → SameKind (head_of old) (head_of new) → IsNew form false (head_of right) → with_at (entries_of mid) (place + 1) (child_entry key page) ≡ entries_of new ++ entries_of right → IsCons (entries_of new) → BeginsAt first (entries_of right)
    → SplitsChildren all (xt_node form blocks new) (xt_node form blocks right) first
child_parted form blocks old mid new right place key page first all at rise inside made kind fresh rows some begins =
    let g = grows form blocks old mid place key page all at rise inside made in
    let t = inner_is form blocks old (at.front ++ at.before ∷ at.back) at.was in
    let ls = entries_of new in
    let rs = entries_of right in
    let up = ap (rises_from 0) (sym rows) ∙ g.rises in
    let win = ap (all_within blocks) (sym rows) ∙ g.within in
    let l = cons_some ls some in
    let r = begins_some first rs begins in
    let ys : map child_of (with_at (entries_of mid) (place + 1) (child_entry key page)) ≡ child_of l.0 ∷ (map child_of l.1 ++ map child_of rs) = ap (map child_of) rows ∙ map_both ls rs ∙ ap (λ xs. map child_of xs ++ map child_of rs) l.2 in
    let same = head_same g.children.other (child_of l.0) g.children.rest (map child_of l.1 ++ map child_of rs) (sym g.children.ys_is ∙ ys) in
    let front : List (Child ℕ) = g.children.one ∷ map child_of l.1 in
    let but : ButFirst front (map child_of ls) = record { one = g.children.one; other = child_of l.0; rest = map child_of l.1; xs_is = refl; ys_is = ap (map child_of) l.2; page = g.children.page ∙ ap (λ (c : Child ℕ). c.page) same.0 } in
    let back : map child_of rs ≡ child_of r.0 ∷ map child_of r.1 = ap (map child_of) r.2 in
    record {
      front = front;
      first = child_of r.0;
      back = map child_of r.1;
      is = g.children.xs_is ∙ ap (λ cs. g.children.one ∷ cs) same.1 ∙ ap (λ cs. front ++ cs) back;
      some = tt;
      left_is = record {
        children = map child_of ls;
        is = inner_made form blocks old new (entries_of old) ls t.0 t.1 kind refl (subst (λ xs. 0 < length xs) (sym l.2) (omega arith)) (rises_front ls rs 0 up) (within_front blocks ls rs win);
        some = subst IsCons (sym (ap (map child_of) l.2)) tt;
        same = under_same front (map child_of ls) but;
      };
      right_is = record {
        children = map child_of rs;
        is = new_inner form blocks right rs fresh refl (subst (λ xs. 0 < length xs) (sym r.2) (omega arith)) (rises_back ls rs 0 up) (within_back blocks ls rs win);
        some = subst IsCons (sym back) tt;
        same = λ key. ap (under key) back;
      };
      key_is = r.3;
    }

pub lowered_not : (first : Bool) (key : ℕ) (e : Xad) → end_of e ≤ key → lowered first key e ≡ e
lowered_not first key e h = rw (le-leb (end_of e) key h) refl
