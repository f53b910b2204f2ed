-- Two parts of a tree, one beside the other, that are written one after the other.
use Rattle.std.proofs.Common.{◌≡◌, ◌≤◌, ◌<◌, refl, sym, ap, ◌∙◌, ℕ, ◌+◌, List, [], ◌++◌, Option, Some, arith}
use Rattle.jfs_bits.specs.declared.extent.Xad.{Xad}
use Rattle.jfs_tree.specs.Walk.{Child, Marks, Rises, rows_of, times}
use Rattle.jfs_tree.specs.Edit.{count_in}
use Rattle.jfs_tree.proofs.Frame.{times-append, rows-append}
use Rattle.jfs_tree.proofs.Rising.{rises_join}
use Rattle.jfs_tree.proofs.Steps.{untouched}
use Rattle.jfs_xtpage.specs.declared.head.XtForm.TheVariants.{Full}
use Rattle.jfs_xtree.specs.Laws.{order}
use Rattle.jfs_xtree.specs.Node.{xt_scale, xt_node, BeginsAt}
use Rattle.jfs_xtree.specs.Spells.{page_nodes}
use Rattle.jfs_xtree.specs.Cutting.{kept_below}
use Rattle.jfs_xtree.specs.Writing.{kept_from}
use Rattle.jfs_written.specs.Range.{with_range}
use Rattle.jfs_written.proofs.Sides.{writes_each_side}
use Rattle.jfs_put_range.specs.Parts.{Wrote, parts_below}
use Rattle.jfs_put_range.proofs.Framed.{framed_none, framed_then}
use Rattle.jfs_put_range.proofs.Rows.{rows_to, rows_rise, nothing}

-- where nothing is written
pub wrote_none : (pages : ℕ → List ℕ) (low : ℕ) (ms : Marks ℕ Xad) (high : Option ℕ) (free : List ℕ) → Rises xt_scale low ms high → Wrote [] pages pages low ms ms high free free
wrote_none pages low ms high free r = record { rows = sym (nothing (rows_of ms)); rises = r; pages = λ n. refl; keeps = λ n z e. refl; framed = framed_none pages free }

pub wrote_beside : (xs : List Xad) (bound low : ℕ) (before middle after : ℕ → List ℕ) (a x b y : Marks ℕ Xad) (high : Option ℕ) (free between left : List ℕ)
    → Rises xt_scale low a (Some bound) → Rises xt_scale bound b high → BeginsAt bound (rows_of b) → ((n : ℕ) → count_in n between ≤ count_in n free) → ((n : ℕ) → count_in n left ≤ count_in n between)
    → Wrote (kept_below bound xs) before middle low a x (Some bound) free between → Wrote (kept_from bound xs) middle after bound b y high between left
    → Wrote xs before after low (a ++ b) (x ++ y) high free left
wrote_beside xs bound low before middle after a x b y high free between left ra rb begins fewer less h t = record {
  rows = rows-append x y ∙ ap (λ es. es ++ rows_of y) h.rows ∙ ap (λ es. with_range (kept_below bound xs) (rows_of a) ++ es) t.rows
      ∙ sym (writes_each_side xs bound (rows_of a) (rows_of b) (rows_to low a bound ra) (rows_rise bound b high rb) begins)
      ∙ ap (with_range xs) (sym (rows-append a b));
  rises = rises_join xt_scale order low bound x y high h.rises t.rises;
  pages = λ n. (let e = times-append n a b in let f = times-append n x y in let p = h.pages n in let q = t.pages n in omega (arith, e, f, p, q));
  keeps = λ n z e.
      let s = times-append n a b in let f = fewer n in let g = less n in
      t.keeps n (omega (arith, s, z)) (omega (arith, e, f, g)) ∙ h.keeps n (omega (arith, s, z)) (omega (arith, e, f, g));
  framed = framed_then before middle after free between left fewer less h.framed t.framed;
}

-- parts whose pages keep their bytes
pub parts_stay : (blocks : ℕ) (old new : ℕ → List ℕ) (levels : ℕ) (cs : List (Child ℕ)) → ((n : ℕ) → 0 < times n (parts_below blocks old levels cs) → new n ≡ old n) → parts_below blocks new levels cs ≡ parts_below blocks old levels cs
parts_stay blocks old new levels cs h = untouched xt_scale (page_nodes blocks old) (page_nodes blocks new) levels cs (λ n some. ap (xt_node Full blocks) (h n some))

-- The second part is the same once the first one is written, and what the first one is then stays when the second one is written.
pub second_agrees : (xs : List Xad) (low : ℕ) (before middle : ℕ → List ℕ) (a x b : Marks ℕ Xad) (high : Option ℕ) (free between : List ℕ) → ((n : ℕ) → times n (a ++ b) + count_in n free ≤ 1) → ((n : ℕ) → count_in n between ≤ count_in n free)
    → Wrote xs before middle low a x high free between → (n : ℕ) → 0 < times n b → middle n ≡ before n
second_agrees xs low before middle a x b high free between once fewer h n some =
    let s = times-append n a b in let o = once n in let f = fewer n in
    h.keeps n (omega (arith, s, o, some)) (omega (arith, s, o, some, f))

pub first_agrees : (xs ys : List Xad) (low bound : ℕ) (before middle after : ℕ → List ℕ) (a x b y : Marks ℕ Xad) (mid high : Option ℕ) (free between left : List ℕ) → ((n : ℕ) → times n (a ++ b) + count_in n free ≤ 1) → ((n : ℕ) → count_in n left ≤ count_in n between)
    → Wrote xs before middle low a x mid free between → Wrote ys middle after bound b y high between left → (n : ℕ) → 0 < times n x → after n ≡ middle n
first_agrees xs ys low bound before middle after a x b y mid high free between left once less h t n some =
    let s = times-append n a b in let o = once n in let l = less n in let p = h.pages n in
    t.keeps n (omega (arith, s, o, some, p)) (omega (arith, s, o, some, p, l))
