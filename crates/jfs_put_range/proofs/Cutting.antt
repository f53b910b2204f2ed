-- What a part of a tree is for each of two parts of a range.
use Rattle.std.proofs.Common.{◌≡◌, ◌≤◌, ◌<◌, ◌⊎◌, inl, inr, refl, sym, ◌∙◌, ℕ, ◌+◌, Bool, true, false, ◌&&◌, List, [], ◌∷◌, ◌++◌, length, Option, Some, None, arith}
use Rattle.std.proofs.lemmas.Bool.{leb-true, lt-leb, cases_lt}
use Rattle.jfs_bits.specs.declared.extent.Xad.{Xad}
use Rattle.jfs_tree.specs.Walk.{Marks, UpTo, Rises}
use Rattle.jfs_tree.specs.Edit.{count_in}
use Rattle.jfs_tree.proofs.Frame.{times-append}
use Rattle.jfs_xtpage.specs.Page.{end_of}
use Rattle.jfs_xtree.specs.Laws.{ends_after}
use Rattle.jfs_xtree.specs.Node.{xt_scale}
use Rattle.jfs_xtree.specs.CutParts.{AllFrom}
use Rattle.jfs_xtree.specs.Cutting.{kept_below}
use Rattle.jfs_xtree.specs.Writing.{kept_from, AllTo}
use Rattle.jfs_xtree.proofs.CutWalks.{span}
use Rattle.jfs_written.proofs.Cuts.{below_ends, below_to, below_past, from_to, from_begins, from_past}
use Rattle.jfs_put_range.specs.Call.{LiesFrom}
use Rattle.jfs_put_range.specs.Parts.{Takes, AllUpTo, EndsBy, is_none}

pub lies_below : (bound first : ℕ) (xs : List Xad) → LiesFrom first xs → LiesFrom first (kept_below bound xs)
lies_below bound first xs l = record { from = below_past bound first xs l.from; to = below_to bound (first + 17) xs l.to }

pub lies_from : (bound first : ℕ) (xs : List Xad) → LiesFrom first xs → LiesFrom first (kept_from bound xs)
lies_from bound first xs l = record { from = from_past bound first xs l.from; to = from_to bound (first + 17) xs l.to }

tail_reaches : (bound limit : ℕ) (xs : List Xad) → AllTo limit xs → is_none (kept_from bound xs) ≡ false → bound ≤ limit
tail_reaches bound limit xs h some = by (kept_from bound xs) (from_begins bound xs) (from_to bound limit xs h) some
  where
    by : (ys : List Xad) → AllFrom bound ys → AllTo limit ys → is_none ys ≡ false → bound ≤ limit
    by [] f t s = absurd cc
    by (y ∷ ys) f t s = let a = f.0 in let b = t.0 in let w = ends_after y in omega (arith, a, b, w)

head_begins : (bound first : ℕ) (xs : List Xad) → AllFrom first xs → is_none (kept_below bound xs) ≡ false → first ≤ bound
head_begins bound first xs h some = by (kept_below bound xs) (below_past bound first xs h) (below_ends bound xs) some
  where
    by : (ys : List Xad) → AllFrom first ys → AllTo bound ys → is_none ys ≡ false → first ≤ bound
    by [] f t s = absurd cc
    by (y ∷ ys) f t s = let a = f.0 in let b = t.0 in let w = ends_after y in omega (arith, a, b, w)

not_both : (a b : Bool) → (a && b) ≡ false → (a ≡ false) ⊎ (b ≡ false)
not_both true b e = inr e
not_both false b e = inl refl

ends_before : (limit bound : ℕ) (high : Option ℕ) → EndsBy limit high → UpTo xt_scale bound high → bound ≤ limit
ends_before limit bound None e u = absurd e
ends_before limit bound (Some h) e u = let g = leb-true bound h u in omega (arith, e, g)

up_to_from : (bound : ℕ) (xs : List Xad) (high : Option ℕ) → AllUpTo xs high → AllUpTo (kept_from bound xs) high
up_to_from bound xs None h = tt
up_to_from bound xs (Some high) h = from_to bound high xs h

-- the first part ends where the second one begins
pub head_takes : (xs : List Xad) (left right mine : Bool) (bound first key low : ℕ) (a b : Marks ℕ Xad) (high : Option ℕ) (free : List ℕ) → mine ≡ (right && is_none (kept_from bound xs)) → Rises xt_scale low a (Some bound) → Rises xt_scale bound b high
    → Takes xs left right first key low (a ++ b) high free → Takes (kept_below bound xs) left mine first key low a (Some bound) free
head_takes xs left right mine bound first key low a b high free is ra rb t = record {
  lies = lies_below bound first xs t.lies;
  rises = ra;
  above = below_past bound key xs t.above;
  below = below_ends bound xs;
  begins = t.begins;
  ends = λ e. elim (not_both right (is_none (kept_from bound xs)) (sym is ∙ e)) [
    | inl h ↦ ends_before (first + 17) bound high (t.ends h) (span bound b high rb)
    | inr h ↦ tail_reaches bound (first + 17) xs t.lies.to h
  ];
  once = λ n. (let s = times-append n a b in let o = t.once n in omega (arith, s, o));
}

pub rest_takes : (xs : List Xad) (left right mine : Bool) (bound first key low : ℕ) (a b : Marks ℕ Xad) (high : Option ℕ) (free between : List ℕ) → mine ≡ (left && is_none (kept_below bound xs)) → key ≤ bound → Rises xt_scale bound b high
    → ((n : ℕ) → count_in n between ≤ count_in n free) → Takes xs left right first key low (a ++ b) high free → Takes (kept_from bound xs) mine right first bound bound b high between
rest_takes xs left right mine bound first key low a b high free between is l rb fewer t = record {
  lies = lies_from bound first xs t.lies;
  rises = rb;
  above = from_begins bound xs;
  below = up_to_from bound xs high t.below;
  begins = λ e. elim (not_both left (is_none (kept_below bound xs)) (sym is ∙ e)) [
    | inl h ↦ let g = t.begins h in omega (arith, g, l)
    | inr h ↦ head_begins bound first xs t.lies.from h
  ];
  ends = t.ends;
  once = λ n. (let s = times-append n a b in let o = t.once n in let f = fewer n in omega (arith, s, o, f));
}

-- an extent lies on one side at least
pub some_side : (bound : ℕ) (xs : List Xad) → 0 < length xs → (0 < length (kept_below bound xs)) ⊎ (0 < length (kept_from bound xs))
some_side bound [] l = absurd (omega (arith, l))
some_side bound (x ∷ xs) l = elim (cases_lt x.offset bound) [
  | inl h ↦ inl (rw (lt-leb bound x.offset h) (omega arith))
  | inr h ↦ inr (rw (lt-leb (end_of x) bound (let w = ends_after x in omega (arith, h, w))) (omega arith))
]
