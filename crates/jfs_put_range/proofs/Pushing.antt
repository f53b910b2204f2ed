-- What the parts of a call push, and what they take.
use Rattle.std.proofs.Common.{◌≡◌, ◌⊎◌, inl, inr, ◌≤◌, ◌<◌, refl, sym, ap, ◌∙◌, subst, ℕ, ◌+◌, ◌^◌, Bool, true, false, ◌&&◌, if◌then◌else◌, List, [], ◌∷◌, ◌++◌, length, Option, Some, None, IfSome, Result, Ok, Err, IfOk, OnOk, append_assoc, arith}
use Rattle.std.specs.Prelude.{max, nat_le, slice_get}
use Rattle.std.specs.List.{All}
use Rattle.std.proofs.lemmas.List.{length-append}
use Rattle.std.proofs.lemmas.List.Elements.{All-from_recursion, recursion_from_All}
use Rattle.jfs_bits.specs.declared.extent.Xad.{Xad}
use Rattle.jfs_bits.specs.Extent.{FitsXad}
use Rattle.jfs_disk.specs.Image.{Image}
use Rattle.jfs_tree.specs.Edit.{count_in}
use Rattle.jfs_tree.specs.Form.{IsFront}
use Rattle.jfs_tree.specs.Draft.{shown}
use Rattle.jfs_tree.proofs.Telling.{less_or}
use Rattle.jfs_tree.specs.declared.draft.Drafted.{Drafted}
use Rattle.jfs_tree.specs.declared.form.Sibling.{Sibling}
use Rattle.jfs_tree.specs.declared.form.TreeError.{TreeError}
use Rattle.jfs_xtpage.specs.Page.{end_of}
use Rattle.jfs_xtree.specs.Node.{is_within, all_within, child_entry, lowered, BeginsAt}
use Rattle.jfs_xtree.specs.Cutting.{kept_below}
use Rattle.jfs_xtree.specs.Writing.{kept_from}
use Rattle.jfs_xtree.proofs.Reading.{and_true}
use Rattle.jfs_xtree.proofs.Pages.{within_both}
use Rattle.jfs_written.proofs.Each.{each_append, is_cut_to_ranges}
use Rattle.jfs_refill.specs.Grown.{grown_entries}
use Rattle.jfs_refill.proofs.Growth.{grown_within}
use Rattle.jfs_put_range.specs.Parts.{WrotePage, RefutesChildren, WroteChildren, Pushed, IsPart, Cuts, is_none, most_taken}
use Rattle.jfs_put_range.specs.declared.part.Part.{Part}
use Rattle.jfs_put_range.proofs.Cutting.{lies_below, lies_from}
use Rattle.jfs_put_range.proofs.Children.{none_written, child_written, both_written, head_refuted, rest_refuted}

-- ---- what is left of the free pages

count_both : (n : ℕ) (a b : List ℕ) → count_in n (a ++ b) ≡ count_in n a + count_in n b
count_both n [] b = omega arith
count_both n (m ∷ a) b = let h = count_both n a b in omega (arith, h)

pub fewer_taken : (n : ℕ) (free left : List ℕ) → IsFront left free → count_in n left ≤ count_in n free
fewer_taken n free left front = let h = ap (count_in n) front.1 in let c = count_both n left front.0 in omega (arith, h, c)

-- ---- parts of a part

pub part_below : (blocks bound : ℕ) (xs : List Xad) → blocks ≤ 2 ^ 40 → IsPart blocks xs → IsPart blocks (kept_below bound xs)
part_below blocks bound xs top p = record { first = p.first; lies = lies_below bound p.first xs p.lies; range = (is_cut_to_ranges xs blocks bound top p.range).0 }

pub part_from : (blocks bound : ℕ) (xs : List Xad) → blocks ≤ 2 ^ 40 → IsPart blocks xs → IsPart blocks (kept_from bound xs)
part_from blocks bound xs top p = record { first = p.first; lies = lies_from bound p.first xs p.lies; range = (is_cut_to_ranges xs blocks bound top p.range).2 }

by_flags : (h t : List Xad) (left right : Bool) (m : ℕ) → most_taken h left (right && is_none t) m + most_taken t (left && is_none h) right m ≤ (if left then m else 0) + (if right then m else 0)
by_flags [] [] left right m = omega arith
by_flags [] (y ∷ ys) true true m = omega arith
by_flags [] (y ∷ ys) true false m = omega arith
by_flags [] (y ∷ ys) false true m = omega arith
by_flags [] (y ∷ ys) false false m = omega arith
by_flags (x ∷ xs) [] true true m = omega arith
by_flags (x ∷ xs) [] true false m = omega arith
by_flags (x ∷ xs) [] false true m = omega arith
by_flags (x ∷ xs) [] false false m = omega arith
by_flags (x ∷ xs) (y ∷ ys) true true m = omega arith
by_flags (x ∷ xs) (y ∷ ys) true false m = omega arith
by_flags (x ∷ xs) (y ∷ ys) false true m = omega arith
by_flags (x ∷ xs) (y ∷ ys) false false m = omega arith

cut_sum : (bound : ℕ) (xs : List Xad) (left right : Bool) (m : ℕ) → most_taken (kept_below bound xs) left (right && is_none (kept_from bound xs)) m + most_taken (kept_from bound xs) (left && is_none (kept_below bound xs)) right m ≤ most_taken xs left right m
cut_sum bound [] left right m = omega arith
cut_sum bound (x ∷ xs) left right m = by_flags (kept_below bound (x ∷ xs)) (kept_from bound (x ∷ xs)) left right m

-- the two parts take no more pages than the whole
pub cut_taken : (bound : ℕ) (xs : List Xad) (left right last : Bool) (head tail : Part) (m : ℕ) → Cuts bound xs left right last head tail → most_taken head.xs.items head.left head.right m + most_taken tail.xs.items tail.left tail.right m ≤ most_taken xs left right m
cut_taken bound xs left right last head tail m c =
    let below = c.below in let from = c.from in
    let hl = c.head_left in let hr = c.head_right ∙ ap (λ ys. right && is_none ys) from in
    let tl = c.tail_left ∙ ap (λ ys. left && is_none ys) below in let tr = c.tail_right in
    rw (hl, hr, tl, tr, below, from) (cut_sum bound xs left right m)

-- ---- one child

grown_some : (top : Bool) (x : Xad) (more : Option (Sibling ℕ)) → 0 < length (grown_entries top x more)
grown_some top x None = omega arith
grown_some top x (Some s) = omega arith

abbrev some_of : Sibling ℕ → Option (Sibling ℕ)
some_of s = Some s

grown_few : (xs : List Xad) (left right top : Bool) (x : Xad) (more : Option (Sibling ℕ)) → 0 < length xs → (left ≡ false → right ≡ false → more ≡ None) → length (grown_entries top x more) ≤ 1 + most_taken xs left right 1
grown_few [] left right top x more some alone = absurd (omega (arith, some))
grown_few (y ∷ ys) left right top x None some alone = omega arith
grown_few (y ∷ ys) true right top x (Some s) some alone = omega arith
grown_few (y ∷ ys) false true top x (Some s) some alone = omega arith
grown_few (y ∷ ys) false false top x (Some s) some alone = absurd (is_some s (alone refl refl))
  where
    is_some : (s : Sibling ℕ) → some_of s ≡ None → ⊥
    is_some s e = cc

pub child_pushed : (end : Bool) (tells : Type 0) (blocks : ℕ) (xs : List Xad) (left right top : Bool) (before after : ℕ → List ℕ) (levels : ℕ) (x : Xad) (more : Option (Sibling ℕ)) (old new : List Xad) (free rest : List ℕ) → 0 < length xs → (left ≡ false → right ≡ false → more ≡ None)
    → all_within blocks (x ∷ []) ≡ true → IfSome more (λ s. s.page < blocks) → new ≡ old ++ grown_entries top x more → All FitsXad (grown_entries top x more) → (tells → WrotePage end blocks xs left right before after levels x.at.addr more free rest)
    → Pushed tells end blocks xs left right top before after levels (x ∷ []) old new free rest
child_pushed end tells blocks xs left right top before after levels x more old new free rest some alone within inside is fits wrote = record {
  made = grown_entries top x more;
  is = is;
  some = grown_some top x more;
  few = grown_few xs left right top x more some alone;
  fits = fits;
  within = ap (all_within blocks) (sym (append_none (grown_entries top x more))) ∙ grown_within blocks top x more [] (and_true (is_within blocks x) true within).0 inside refl;
  wrote = λ t. child_written end blocks xs left right top before after levels x more free rest (wrote t);
}
  where
    append_none : (a : List Xad) → a ++ [] ≡ a
    append_none [] = refl
    append_none (x ∷ a) = ap (λ ys. x ∷ ys) (append_none a)

-- ---- entries as they are

pub none_pushed : (end : Bool) (tells : Type 0) (blocks : ℕ) (xs : List Xad) (left right top : Bool) (pages : ℕ → List ℕ) (levels : ℕ) (entries old new : List Xad) (free : List ℕ) → xs ≡ [] → levels ≡ 0 → 0 < length entries → All FitsXad entries → all_within blocks entries ≡ true
    → new ≡ old ++ entries → Pushed tells end blocks xs left right top pages pages levels entries old new free free
none_pushed end tells blocks xs left right top pages levels entries old new free none zero some fits within is = record {
  made = entries;
  is = is;
  some = some;
  few = omega arith;
  fits = fits;
  within = within;
  wrote = λ t. subst (λ ys. WroteChildren end blocks ys left right top pages pages levels entries entries free free) (sym none)
      (subst (λ l. WroteChildren end blocks [] left right top pages pages l entries entries free free) (sym zero) (none_written end blocks left right top pages entries free));
}

pub none_done : (end : Bool) (tells : Type 0) (blocks : ℕ) (xs : List Xad) (left right top : Bool) (pages : ℕ → List ℕ) (entries old new : List Xad) (free : List ℕ) (r : Result ℕ TreeError) → xs ≡ [] → 0 < length entries → All FitsXad entries → all_within blocks entries ≡ true
    → OnOk r (new ≡ old ++ entries) → IfOk r (λ levels. levels ≡ 0) → IfOk r (λ levels. Pushed tells end blocks xs left right top pages pages levels entries old new free free)
none_done end tells blocks xs left right top pages entries old new free (Ok levels) none some fits within is zero = none_pushed end tells blocks xs left right top pages levels entries old new free none zero some fits within is
none_done end tells blocks xs left right top pages entries old new free (Err e) none some fits within is zero = tt

pub no_extents : (xs : List Xad) → length xs ≡ 0 → xs ≡ []
no_extents [] e = refl
no_extents (x ∷ xs) e = absurd (omega (arith, e))

-- ---- entries of children

pub first_within : (blocks : ℕ) (x : Xad) (xs : List Xad) → all_within blocks (x ∷ xs) ≡ true → all_within blocks (x ∷ []) ≡ true
first_within blocks x xs w = within_both blocks x [] (and_true (is_within blocks x) (all_within blocks xs) w).0 refl

pub rest_within : (blocks : ℕ) (x : Xad) (xs : List Xad) → all_within blocks (x ∷ xs) ≡ true → all_within blocks xs ≡ true
rest_within blocks x xs w = (and_true (is_within blocks x) (all_within blocks xs) w).1

pub first_fits : (x : Xad) (xs : List Xad) → All FitsXad (x ∷ xs) → FitsXad x
first_fits x xs f = (recursion_from_All FitsXad (x ∷ xs) f).0

pub rest_fits : (x : Xad) (xs : List Xad) → All FitsXad (x ∷ xs) → All FitsXad xs
rest_fits x xs f = All-from_recursion FitsXad xs (recursion_from_All FitsXad (x ∷ xs) f).1

pub some_begins : (bound : ℕ) (xs : List Xad) → BeginsAt bound xs → 0 < length xs
some_begins bound [] b = absurd b
some_begins bound (x ∷ xs) b = omega arith

pub first_begins : (xs : List Xad) (x : Xad) → Some x ≡ slice_get xs 0 → BeginsAt x.offset xs
first_begins [] x e = cc
first_begins (y ∷ ys) x e = same x y e
  where
    same : (a b : Xad) → Some a ≡ Some b → a.offset ≡ b.offset
    same a b h = ap (λ (z : Xad). z.offset) (let i : a ≡ b = cc in i)

lowered_fits : (top : Bool) (key : ℕ) (x : Xad) → FitsXad x → FitsXad (lowered top key x)
lowered_fits top key x f = by (nat_le (end_of x) key) top
  where
    by : (b t : Bool) → FitsXad (if b then x else record { flag = x.flag; offset = if t then 0 else x.offset; at = record { len = 1; addr = x.at.addr } })
    by true t = f
    by false true = record { flag = f.flag; offset = omega arith; run = record { len = omega arith; addr = f.run.addr } }
    by false false = record { flag = f.flag; offset = f.offset; run = record { len = omega arith; addr = f.run.addr } }

pub grown_fits : (top : Bool) (x : Xad) (more : Option (Sibling ℕ)) (blocks : ℕ) → FitsXad x → blocks < 2 ^ 32 → IfSome more (λ s. s.key < 2 ^ 40) → IfSome more (λ s. s.page < blocks) → All FitsXad (grown_entries top x more)
grown_fits top x None blocks f small key page = All-from_recursion FitsXad (x ∷ []) (f, tt)
grown_fits top x (Some s) blocks f small key page =
    All-from_recursion FitsXad (lowered top s.key x ∷ child_entry s.key s.page ∷ [])
    (lowered_fits top s.key x f, (record { flag = omega arith; offset = key; run = record { len = omega arith; addr = omega (arith, small, page) } }, tt))

-- ---- a child and those behind it

pub within_append : (blocks : ℕ) (a b : List Xad) → all_within blocks a ≡ true → all_within blocks b ≡ true → all_within blocks (a ++ b) ≡ true
within_append blocks [] b h g = g
within_append blocks (x ∷ a) b h g = let t = and_true (is_within blocks x) (all_within blocks a) h in within_both blocks x (a ++ b) t.0 (within_append blocks a b t.1 g)

pub fits_append : (a b : List Xad) → All FitsXad a → All FitsXad b → All FitsXad (a ++ b)
fits_append a b f g = All-from_recursion FitsXad (a ++ b) (each_append FitsXad a b (recursion_from_All FitsXad a f) (recursion_from_All FitsXad b g))

greater_is : (a b m : ℕ) → m ≡ max a b → (m ≡ a) ⊎ (m ≡ b)
greater_is a b m e = elim (less_or a m (omega (arith, e))) [ inl l ↦ inr (omega (arith, l, e)) | inr same ↦ inl (sym same) ]

module _ (tells : Type 0) (blocks : ℕ) (xs : List Xad) (left right last top : Bool) (d0 d1 : List Drafted) (image later : Image) (bound one : ℕ) (child : Xad) (rest l0 l1 : List Xad) (head tail : Part) (free between : List ℕ)
    (cut : Cuts bound xs left right last head tail) (begins : BeginsAt bound rest) (same : tells → later ≡ image) (front : IsFront between free)
    (first : Pushed tells head.last blocks head.xs.items head.left head.right top (shown d0 image) (shown d1 image) one (child ∷ []) l0 l1 free between) where
  head_wrote : tells → WroteChildren false blocks (kept_below bound xs) left head.right top (shown d0 image) (shown d1 image) one (child ∷ []) first.made free between
  head_wrote t =
      subst (λ b. WroteChildren b blocks (kept_below bound xs) left head.right top (shown d0 image) (shown d1 image) one (child ∷ []) first.made free between) cut.head_last
      (subst (λ ys. WroteChildren head.last blocks ys left head.right top (shown d0 image) (shown d1 image) one (child ∷ []) first.made free between) cut.below
      (subst (λ b. WroteChildren head.last blocks head.xs.items b head.right top (shown d0 image) (shown d1 image) one (child ∷ []) first.made free between) cut.head_left (first.wrote t)))

  is_mine : head.right ≡ (right && is_none (kept_from bound xs))
  is_mine = cut.head_right ∙ ap (λ ys. right && is_none ys) cut.from

  is_its : tail.left ≡ (left && is_none (kept_below bound xs))
  is_its = cut.tail_left ∙ ap (λ ys. left && is_none ys) cut.below

  pub both_pushed : (d2 : List Drafted) (two levels : ℕ) (l2 : List Xad) (less : List ℕ) → IsFront less between → levels ≡ max one two
      → Pushed tells tail.last blocks tail.xs.items tail.left tail.right false (shown d1 later) (shown d2 later) two rest l1 l2 between less
      → Pushed tells last blocks xs left right top (shown d0 image) (shown d2 image) levels (child ∷ rest) l0 l2 free less
  both_pushed d2 two levels l2 less back greater second =
      let f = cut_taken bound xs left right last head tail 1 cut in
      let a = first.few in let b = second.few in let n = length-append first.made second.made in let s = first.some in
      record {
        made = first.made ++ second.made;
        is = second.is ∙ ap (λ ys. ys ++ second.made) first.is ∙ append_assoc l0 first.made second.made;
        some = omega (arith, n, s);
        few = omega (arith, a, b, n, f);
        fits = fits_append first.made second.made first.fits second.fits;
        within = within_append blocks first.made second.made first.within second.within;
        wrote = λ t.
            let tw = subst (λ (i : Image). WroteChildren tail.last blocks tail.xs.items tail.left tail.right false (shown d1 i) (shown d2 i) two rest second.made between less) (same t) (second.wrote t) in
            let tw' = subst (λ b. WroteChildren b blocks (kept_from bound xs) tail.left right false (shown d1 image) (shown d2 image) two rest second.made between less) cut.tail_last
            (subst (λ ys. WroteChildren tail.last blocks ys tail.left right false (shown d1 image) (shown d2 image) two rest second.made between less) cut.from
            (subst (λ b. WroteChildren tail.last blocks tail.xs.items tail.left b false (shown d1 image) (shown d2 image) two rest second.made between less) cut.tail_right tw)) in
            by rest begins is_mine is_its (head_wrote t) second.made tw';
      }
    where
      by : (rest : List Xad) → BeginsAt bound rest → head.right ≡ (right && is_none (kept_from bound xs)) → tail.left ≡ (left && is_none (kept_below bound xs))
          → WroteChildren false blocks (kept_below bound xs) left head.right top (shown d0 image) (shown d1 image) one (child ∷ []) first.made free between
          → (ts : List Xad) → WroteChildren last blocks (kept_from bound xs) tail.left right false (shown d1 image) (shown d2 image) two rest ts between less
          → WroteChildren last blocks xs left right top (shown d0 image) (shown d2 image) levels (child ∷ rest) (first.made ++ ts) free less
      by [] b mine its h ts t = absurd b
      by (r ∷ rs) b mine its h ts t =
          both_written last blocks xs left right top head.right tail.left (shown d0 image) (shown d1 image) (shown d2 image) one two levels child r rs first.made ts free between less
          (subst (λ n. head.right ≡ (right && is_none (kept_from n xs))) b mine) (subst (λ n. tail.left ≡ (left && is_none (kept_below n xs))) b its)
          (omega (arith, greater)) (omega (arith, greater)) (greater_is one two levels greater)
          (λ n. fewer_taken n free between front) (λ n. fewer_taken n between less back) first.some
          (subst (λ n. WroteChildren false blocks (kept_below n xs) left head.right top (shown d0 image) (shown d1 image) one (child ∷ []) first.made free between) b h)
          (subst (λ n. WroteChildren last blocks (kept_from n xs) tail.left right false (shown d1 image) (shown d2 image) two (r ∷ rs) ts between less) b t)

  pub rest_refuses : (most : ℕ) (e : TreeError) → tells → RefutesChildren blocks tail.xs.items tail.left tail.right false (shown d1 later) most rest between e → RefutesChildren blocks xs left right top (shown d0 image) most (child ∷ rest) free e
  rest_refuses most e t r =
      by rest begins is_mine is_its (head_wrote t)
      (subst (λ ys. RefutesChildren blocks ys tail.left right false (shown d1 image) most rest between e) cut.from
      (subst (λ b. RefutesChildren blocks tail.xs.items tail.left b false (shown d1 image) most rest between e) cut.tail_right
      (subst (λ (i : Image). RefutesChildren blocks tail.xs.items tail.left tail.right false (shown d1 i) most rest between e) (same t) r)))
    where
      by : (rest : List Xad) → BeginsAt bound rest → head.right ≡ (right && is_none (kept_from bound xs)) → tail.left ≡ (left && is_none (kept_below bound xs))
          → WroteChildren false blocks (kept_below bound xs) left head.right top (shown d0 image) (shown d1 image) one (child ∷ []) first.made free between
          → RefutesChildren blocks (kept_from bound xs) tail.left right false (shown d1 image) most rest between e → RefutesChildren blocks xs left right top (shown d0 image) most (child ∷ rest) free e
      by [] b mine its h r = absurd b
      by (r ∷ rs) b mine its h q =
          rest_refuted blocks xs left right top head.right tail.left (shown d0 image) (shown d1 image) one most child r rs first.made free between e
          (subst (λ n. head.right ≡ (right && is_none (kept_from n xs))) b mine) (subst (λ n. tail.left ≡ (left && is_none (kept_below n xs))) b its) (λ n. fewer_taken n free between front)
          (subst (λ n. WroteChildren false blocks (kept_below n xs) left head.right top (shown d0 image) (shown d1 image) one (child ∷ []) first.made free between) b h)
          (subst (λ n. RefutesChildren blocks (kept_from n xs) tail.left right false (shown d1 image) most (r ∷ rs) between e) b q)

pub head_refuses : (blocks : ℕ) (xs : List Xad) (left right last top : Bool) (before : ℕ → List ℕ) (most bound : ℕ) (child : Xad) (rest : List Xad) (head tail : Part) (free : List ℕ) (e : TreeError) → Cuts bound xs left right last head tail → BeginsAt bound rest
    → RefutesChildren blocks head.xs.items head.left head.right top before most (child ∷ []) free e → RefutesChildren blocks xs left right top before most (child ∷ rest) free e
head_refuses blocks xs left right last top before most bound child rest head tail free e cut begins r =
    by rest begins (cut.head_right ∙ ap (λ ys. right && is_none ys) cut.from)
    (subst (λ ys. RefutesChildren blocks ys left head.right top before most (child ∷ []) free e) cut.below (subst (λ b. RefutesChildren blocks head.xs.items b head.right top before most (child ∷ []) free e) cut.head_left r))
  where
    by : (rest : List Xad) → BeginsAt bound rest → head.right ≡ (right && is_none (kept_from bound xs)) → RefutesChildren blocks (kept_below bound xs) left head.right top before most (child ∷ []) free e
        → RefutesChildren blocks xs left right top before most (child ∷ rest) free e
    by [] b mine q = absurd b
    by (r ∷ rs) b mine q =
        head_refuted blocks xs left right top head.right before most child r rs free e (subst (λ n. head.right ≡ (right && is_none (kept_from n xs))) b mine)
        (subst (λ n. RefutesChildren blocks (kept_below n xs) left head.right top before most (child ∷ []) free e) b q)
