-- A page whose entries gave way to others, on one page or two.
use Rattle.std.proofs.Common.{◌≡◌, ◌≢◌, ◌≤◌, ◌<◌, sym, ◌∙◌, ℕ, suc, ◌+◌, ◌==◌, Bool, true, if◌then◌else◌, List, [], ◌∷◌, ◌++◌, map, length, Option, Some, arith}
use Rattle.std.specs.Prelude.{nat_le}
use Rattle.std.specs.List.{flat_map}
use Rattle.std.proofs.lemmas.Bool.{le-leb}
use Rattle.jfs_bits.specs.declared.extent.Xad.{Xad}
use Rattle.jfs_tree.specs.Walk.{Child, Node, Inner, Page, Key, Marks, Rises, rows_of, times, under, walk}
use Rattle.jfs_tree.specs.Edit.{count_in}
use Rattle.jfs_tree.proofs.Frame.{times-append, rows-append}
use Rattle.jfs_tree.proofs.Rising.{rises_join}
use Rattle.jfs_tree.proofs.Steps.{inner_is}
use Rattle.jfs_xtree.specs.Laws.{order}
use Rattle.jfs_xtree.specs.Node.{xt_scale, child_of}
use Rattle.jfs_put_range.specs.Parts.{Framed, Takes, Wrote}

off : (n m rest : ℕ) → (if n == m then 1 else 0) + rest ≡ 0 → m ≢ n
off n m rest h e = grind arith

no_more : (q m f b r : ℕ) → b ≡ (if q == m then 1 else 0) + r → f ≡ r → b ≤ f → b ≡ r
no_more q m f b r e g l = omega (arith, g, l, more (if q == m then 1 else 0) e)
  where
    more : (i : ℕ) → b ≡ i + r → r ≤ b
    more i e = omega (arith, e)

-- what stands on a page and below it
pub inside : (xs : List Xad) (left right : Bool) (first key low n : ℕ) (ms : Marks ℕ Xad) (high : Option ℕ) (free : List ℕ) → Takes xs left right first key low (Key n key ∷ Page n ∷ ms) high free → Takes xs left right first key key ms high free
inside xs left right first key low n ms high free t = record {
  lies = t.lies;
  rises = t.rises.1;
  above = t.above;
  below = t.below;
  begins = t.begins;
  ends = t.ends;
  once = λ m. (let o = t.once m in omega (arith, o));
}

-- it is on one page still
pub one_page : (xs : List Xad) (before middle after : ℕ → List ℕ) (key low n : ℕ) (p q : Marks ℕ Xad) (high : Option ℕ) (free between : List ℕ) → nat_le low key ≡ true
    → ((m : ℕ) → m ≢ n → after m ≡ middle m) → Framed before after free between → Wrote xs before middle key p q high free between
    → Wrote xs before after low (Key n key ∷ Page n ∷ p) (Key n key ∷ Page n ∷ q) high free between
one_page xs before middle after key low n p q high free between l others framed w = record {
  rows = w.rows;
  rises = (l, w.rises);
  pages = λ m. (let h = w.pages m in omega (arith, h));
  keeps = λ m z e. others m (off n m (times m p) z) ∙ w.keeps m (let h : times m p ≡ 0 = omega (arith, z) in h) e;
  framed = framed;
}

-- or on two, of which the second one was free
pub two_pages : (xs : List Xad) (before middle after : ℕ → List ℕ) (key low n q k : ℕ) (p new a b : Marks ℕ Xad) (high : Option ℕ) (free between rest : List ℕ) → nat_le low key ≡ true
    → ((m : ℕ) → count_in m between ≤ count_in m free) → ((m : ℕ) → count_in m between ≡ (if q == m then 1 else 0) + count_in m rest)
    → ((m : ℕ) → m ≢ n → count_in m between ≡ count_in m rest → after m ≡ middle m)
    → rows_of (a ++ b) ≡ rows_of new → ((m : ℕ) → times m (a ++ b) ≡ times m new) → Rises xt_scale key a (Some k) → Rises xt_scale k b high
    → Framed before after free rest → Wrote xs before middle key p new high free between
    → Wrote xs before after low (Key n key ∷ Page n ∷ p) (Key n key ∷ Page n ∷ (a ++ (Key q k ∷ Page q ∷ b))) high free rest
two_pages xs before middle after key low n q k p new a b high free between rest l fewer taken others rows times_are ra rb framed w = record {
  rows = rows-append a (Key q k ∷ Page q ∷ b) ∙ sym (rows-append a b) ∙ rows ∙ w.rows;
  rises = (l, rises_join xt_scale order key k a (Key q k ∷ Page q ∷ b) high ra (le-leb k k (omega arith), rb));
  pages = λ m. (let h = w.pages m in let t = times_are m in let s = times-append m a b in let u = times-append m a (Key q k ∷ Page q ∷ b) in let c = taken m in omega (arith, h, t, s, u, c));
  keeps = λ m z e.
      let b = no_more q m (count_in m free) (count_in m between) (count_in m rest) (taken m) e (fewer m) in
      others m (off n m (times m p) z) b ∙ w.keeps m (let h : times m p ≡ 0 = omega (arith, z) in h) (e ∙ sym b);
  framed = framed;
}

-- ---- an inner page with these entries

pub walk_inner : (nodes : ℕ → Node ℕ Xad) (lower : ℕ) (c : Child ℕ) (entries : List Xad) → 0 < length entries → nodes c.page ≡ Inner (map child_of entries)
    → walk xt_scale nodes (suc (suc lower)) c ≡ Key c.page c.key ∷ Page c.page ∷ flat_map (walk xt_scale nodes (suc lower)) (under c.key (map child_of entries))
walk_inner nodes lower c [] some is = absurd (omega (arith, some))
walk_inner nodes lower c (x ∷ xs) some is = inner_is xt_scale nodes lower c [] (child_of x) (map child_of xs) is
