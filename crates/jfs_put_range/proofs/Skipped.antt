-- Children that the range leaves as they are.
use Rattle.std.proofs.Common.{◌≡◌, ◌≤◌, ◌<◌, inr, refl, sym, ap, ◌∙◌, subst, ℕ, zero, suc, Bool, true, false, ◌&&◌, List, [], ◌∷◌, ◌++◌, length, take, drop, Result, Ok, Err, IfOk, IfErr, append_assoc, arith}
use Rattle.std.specs.List.{All, AllByRecursion as Each}
use Rattle.std.proofs.lemmas.List.{length-append, take-append-drop}
use Rattle.std.proofs.lemmas.List.Elements.{All-from_recursion, recursion_from_All}
use Rattle.jfs_bits.specs.declared.extent.Xad.{Xad}
use Rattle.jfs_bits.specs.declared.rule.Rule.{Rule}
use Rattle.jfs_bits.specs.Extent.{FitsXad}
use Rattle.jfs_tree.specs.Edit.{count_in}
use Rattle.jfs_tree.specs.declared.form.TreeError.{TreeError}
use Rattle.jfs_tree.specs.declared.form.TreeError.TheVariants.{View, Bad, Memory}
use Rattle.jfs_xtpage.specs.Page.{end_of, rises_from}
use Rattle.jfs_xtree.specs.Laws.{ends_after}
use Rattle.jfs_xtree.specs.Node.{is_within, all_within, BeginsAt}
use Rattle.jfs_xtree.specs.CutParts.{AllFrom}
use Rattle.jfs_xtree.specs.Cutting.{kept_below}
use Rattle.jfs_xtree.specs.Writing.{kept_from}
use Rattle.jfs_xtree.proofs.CutRows.{kept_none}
use Rattle.jfs_xtree.proofs.Pages.{rises_less}
use Rattle.jfs_xtree.proofs.Reading.{and_true}
use Rattle.jfs_xtree.proofs.WrittenIn.{from_all, from_low, all_from_less}
use Rattle.jfs_put_range.specs.Parts.{WroteChildren, RefutesChildren, Pushed, BeginsBy, is_none}
use Rattle.jfs_put_range.proofs.Children.{none_written, both_written, rest_refuted}
use Rattle.jfs_put_range.proofs.Pushing.{fits_append, within_append}

and_whole : (b : Bool) → (b && true) ≡ b
and_whole true = refl
and_whole false = refl

-- ---- one child

module _ (blocks : ℕ) (xs : List Xad) (left right top : Bool) (before : ℕ → List ℕ) (e n : Xad) (ns : List Xad) (free : List ℕ) (from : rises_from 0 (e ∷ n ∷ ns) ≡ true → AllFrom n.offset xs) where
  abbrev mine : Bool
  mine = right && is_none (kept_from n.offset xs)

  abbrev its : Bool
  its = left && is_none (kept_below n.offset xs)

  its_is : AllFrom n.offset xs → its ≡ left
  its_is h = ap (λ ys. left && is_none ys) (kept_none n.offset xs h) ∙ and_whole left

  nothing_before : AllFrom n.offset xs → WroteChildren false blocks (kept_below n.offset xs) left mine top before before 0 (e ∷ []) (e ∷ []) free free
  nothing_before h = subst (λ ys. WroteChildren false blocks ys left mine top before before 0 (e ∷ []) (e ∷ []) free free) (sym (kept_none n.offset xs h)) (none_written false blocks left mine top before (e ∷ []) free)

  one_skipped : (end : Bool) (after : ℕ → List ℕ) (levels : ℕ) (ts : List Xad) (rest : List ℕ) → ((m : ℕ) → count_in m rest ≤ count_in m free)
      → WroteChildren end blocks xs left right false before after levels (n ∷ ns) ts free rest → WroteChildren end blocks xs left right top before after levels (e ∷ n ∷ ns) (e ∷ ts) free rest
  one_skipped end after levels ts rest less w height key low high first rises begins takes =
      let h = from rises in
      both_written end blocks xs left right top mine its before before after 0 levels levels e n ns (e ∷ []) ts free free rest refl refl (omega arith) (omega arith) (inr refl) (λ m. omega arith) less (omega arith) (nothing_before h)
      (subst (λ ys. WroteChildren end blocks ys its right false before after levels (n ∷ ns) ts free rest) (sym (from_all n.offset xs h))
      (subst (λ b. WroteChildren end blocks xs b right false before after levels (n ∷ ns) ts free rest) (sym (its_is h)) w))
      height key low high first rises begins takes

  one_refuted : (most bad : ℕ) (rule : Rule) → RefutesChildren blocks xs left right false before most (n ∷ ns) free (Bad bad rule) → RefutesChildren blocks xs left right top before most (e ∷ n ∷ ns) free (Bad bad rule)
  one_refuted most bad rule w height key low high first within rises begins takes =
      let h = from rises in
      rest_refuted blocks xs left right top mine its before before 0 most e n ns (e ∷ []) free free (Bad bad rule) refl refl (λ m. omega arith) (nothing_before h)
      (subst (λ ys. RefutesChildren blocks ys its right false before most (n ∷ ns) free (Bad bad rule)) (sym (from_all n.offset xs h))
      (subst (λ b. RefutesChildren blocks xs b right false before most (n ∷ ns) free (Bad bad rule)) (sym (its_is h)) w))
      height key low high first within rises begins takes

-- ---- several

before_it : (low : ℕ) (f : Xad) (ps : List Xad) (r : Xad) (rs : List Xad) → rises_from low (f ∷ (ps ++ r ∷ rs)) ≡ true → f.offset ≤ r.offset
before_it low f [] r rs rises = let t = rises_less low f (r ∷ rs) rises in let k = (rises_less (end_of f) r rs t.1).0 in let w = ends_after f in omega (arith, k, w)
before_it low f (p ∷ ps) r rs rises =
    let t = rises_less low f (p ∷ (ps ++ r ∷ rs)) rises in
    let k = (rises_less (end_of f) p (ps ++ r ∷ rs) t.1).0 in let w = ends_after f in
    let i = before_it (end_of f) p ps r rs t.1 in omega (arith, k, w, i)

from_next : (xs : List Xad) (e f : Xad) (ps : List Xad) (r : Xad) (rs : List Xad) → AllFrom r.offset xs → rises_from 0 (e ∷ f ∷ (ps ++ r ∷ rs)) ≡ true → AllFrom f.offset xs
from_next xs e f ps r rs h rises = all_from_less r.offset f.offset xs (before_it (end_of e) f ps r rs (rises_less 0 e (f ∷ (ps ++ r ∷ rs)) rises).1) h

skipped : (end : Bool) (blocks : ℕ) (xs : List Xad) (left right top : Bool) (before after : ℕ → List ℕ) (levels : ℕ) (ps : List Xad) (r : Xad) (rs ts : List Xad) (free rest : List ℕ) → ((m : ℕ) → count_in m rest ≤ count_in m free) → (0 < length ps → AllFrom r.offset xs)
    → WroteChildren end blocks xs left right (top && is_none ps) before after levels (r ∷ rs) ts free rest → WroteChildren end blocks xs left right top before after levels (ps ++ r ∷ rs) (ps ++ ts) free rest
skipped end blocks xs left right top before after levels [] r rs ts free rest less h w = subst (λ b. WroteChildren end blocks xs left right b before after levels (r ∷ rs) ts free rest) (and_whole top) w
skipped end blocks xs left right top before after levels (e ∷ []) r rs ts free rest less h w =
    one_skipped blocks xs left right top before e r rs free (λ rises. h (omega arith)) end after levels ts rest less (subst (λ b. WroteChildren end blocks xs left right b before after levels (r ∷ rs) ts free rest) (no_top top) w)
  where
    no_top : (b : Bool) → (b && false) ≡ false
    no_top true = refl
    no_top false = refl
skipped end blocks xs left right top before after levels (e ∷ f ∷ ps) r rs ts free rest less h w =
    one_skipped blocks xs left right top before e f (ps ++ r ∷ rs) free (λ rises. from_next xs e f ps r rs (h (omega arith)) rises) end after levels (f ∷ (ps ++ ts)) rest less
    (skipped end blocks xs left right false before after levels (f ∷ ps) r rs ts free rest less (λ some. h (omega arith)) (subst (λ b. WroteChildren end blocks xs left right b before after levels (r ∷ rs) ts free rest) (no_top top) w))
  where
    no_top : (b : Bool) → (b && false) ≡ false
    no_top true = refl
    no_top false = refl

skip_refuted : (blocks : ℕ) (xs : List Xad) (left right top : Bool) (before : ℕ → List ℕ) (most : ℕ) (ps : List Xad) (r : Xad) (rs : List Xad) (free : List ℕ) (bad : ℕ) (rule : Rule) → (0 < length ps → AllFrom r.offset xs)
    → RefutesChildren blocks xs left right (top && is_none ps) before most (r ∷ rs) free (Bad bad rule) → RefutesChildren blocks xs left right top before most (ps ++ r ∷ rs) free (Bad bad rule)
skip_refuted blocks xs left right top before most [] r rs free bad rule h w = subst (λ b. RefutesChildren blocks xs left right b before most (r ∷ rs) free (Bad bad rule)) (and_whole top) w
skip_refuted blocks xs left right top before most (e ∷ []) r rs free bad rule h w =
    one_refuted blocks xs left right top before e r rs free (λ rises. h (omega arith)) most bad rule (subst (λ b. RefutesChildren blocks xs left right b before most (r ∷ rs) free (Bad bad rule)) (no_top top) w)
  where
    no_top : (b : Bool) → (b && false) ≡ false
    no_top true = refl
    no_top false = refl
skip_refuted blocks xs left right top before most (e ∷ f ∷ ps) r rs free bad rule h w =
    one_refuted blocks xs left right top before e f (ps ++ r ∷ rs) free (λ rises. from_next xs e f ps r rs (h (omega arith)) rises) most bad rule
    (skip_refuted blocks xs left right false before most (f ∷ ps) r rs free bad rule (λ some. h (omega arith)) (subst (λ b. RefutesChildren blocks xs left right b before most (r ∷ rs) free (Bad bad rule)) (no_top top) w))
  where
    no_top : (b : Bool) → (b && false) ≡ false
    no_top true = refl
    no_top false = refl

-- ---- as the code has it

-- the range begins at or past the child at which it goes on
all_from_first : (block : ℕ) (xs : List Xad) (r : Xad) → BeginsAt block xs → rises_from 0 xs ≡ true → r.offset ≤ block → AllFrom r.offset xs
all_from_first block [] r b rises l = absurd b
all_from_first block (x ∷ xs) r b rises l =
    let t = rises_less 0 x xs rises in let w = ends_after x in
    ((let k : r.offset ≤ x.offset = omega (arith, b, l) in k), all_from_less (end_of x) r.offset xs (let k : r.offset ≤ end_of x = omega (arith, b, l, w) in k) (from_low (end_of x) xs t.1))

module _ (end : Bool) (tells : Type 0) (blocks block : ℕ) (xs : List Xad) (left right top first : Bool) (d : ℕ → List ℕ) (entries ps fs : List Xad) (at : ℕ) (free : List ℕ)
    (is_front : ps ≡ take at entries) (is_back : fs ≡ drop at entries) (is_first : first ≡ (top && is_none ps)) (begins : BeginsAt block xs) (rises : rises_from 0 xs ≡ true) (by_block : 0 < length ps → BeginsBy block fs) where
  whole : entries ≡ ps ++ fs
  whole = sym (take-append-drop at entries) ∙ ap (λ ys. ys ++ drop at entries) (sym is_front) ∙ ap (λ ys. ps ++ ys) (sym is_back)

  pub skip_pushed : (after : ℕ → List ℕ) (levels : ℕ) (old mid new : List Xad) (rest : List ℕ) → ((m : ℕ) → count_in m rest ≤ count_in m free) → 0 < length fs → All FitsXad entries → all_within blocks entries ≡ true → mid ≡ old ++ ps
      → Pushed tells end blocks xs left right first d after levels fs mid new free rest → Pushed tells end blocks xs left right top d after levels entries old new free rest
  skip_pushed after levels old mid new rest less some fits within pushed p =
      subst (λ es. Pushed tells end blocks xs left right top d after levels es old new free rest) (sym whole)
      (record {
        made = ps ++ p.made;
        is = p.is ∙ ap (λ ys. ys ++ p.made) pushed ∙ append_assoc old ps p.made;
        some = (let s = p.some in let n = length-append ps p.made in omega (arith, s, n));
        few = (let f = p.few in let n = length-append ps p.made in let m = length-append ps fs in omega (arith, f, n, m));
        fits = fits_append ps p.made (front_fits ps fs (subst (All FitsXad) whole fits)) p.fits;
        within = within_append blocks ps p.made (front_within ps fs (subst (λ es. all_within blocks es ≡ true) whole within)) p.within;
        wrote = λ t. by fs some by_block p.made (subst (λ b. WroteChildren end blocks xs left right b d after levels fs p.made free rest) is_first (p.wrote t));
      })
    where
      by : (fs : List Xad) → 0 < length fs → (0 < length ps → BeginsBy block fs) → (ts : List Xad) → WroteChildren end blocks xs left right (top && is_none ps) d after levels fs ts free rest → WroteChildren end blocks xs left right top d after levels (ps ++ fs) (ps ++ ts) free rest
      by [] some h ts w = absurd (omega (arith, some))
      by (r ∷ rs) some h ts w = skipped end blocks xs left right top d after levels ps r rs ts free rest less (λ s. all_from_first block xs r begins rises (h s)) w

      front_fits : (a b : List Xad) → All FitsXad (a ++ b) → All FitsXad a
      front_fits a b f = All-from_recursion FitsXad a (each a (recursion_from_All FitsXad (a ++ b) f))
        where
          each : (a : List Xad) → Each FitsXad (a ++ b) → Each FitsXad a
          each [] f = tt
          each (x ∷ a) f = (f.0, each a f.1)

      front_within : (a b : List Xad) → all_within blocks (a ++ b) ≡ true → all_within blocks a ≡ true
      front_within [] b w = refl
      front_within (x ∷ a) b w = let t = and_true (is_within blocks x) (all_within blocks (a ++ b)) w in rw (t.0, front_within a b t.1) refl

  pub skip_refuses : (most : ℕ) (e : TreeError) → 0 < length fs → RefutesChildren blocks xs left right first d most fs free e → RefutesChildren blocks xs left right top d most entries free e
  skip_refuses most (View v) some w = tt
  skip_refuses most (Bad bad rule) some w =
      subst (λ es. RefutesChildren blocks xs left right top d most es free (Bad bad rule)) (sym whole) (by fs some by_block (subst (λ b. RefutesChildren blocks xs left right b d most fs free (Bad bad rule)) is_first w))
    where
      by : (fs : List Xad) → 0 < length fs → (0 < length ps → BeginsBy block fs) → RefutesChildren blocks xs left right (top && is_none ps) d most fs free (Bad bad rule) → RefutesChildren blocks xs left right top d most (ps ++ fs) free (Bad bad rule)
      by [] some h w = absurd (omega (arith, some))
      by (r ∷ rs) some h w = skip_refuted blocks xs left right top d most ps r rs free bad rule (λ s. all_from_first block xs r begins rises (h s)) w
  skip_refuses most Memory some w = tt

  pub skip_all : (after : ℕ → List ℕ) (old mid new : List Xad) (rest : List ℕ) (r : Result ℕ TreeError) → ((m : ℕ) → count_in m rest ≤ count_in m free) → 0 < length fs → All FitsXad entries → all_within blocks entries ≡ true → mid ≡ old ++ ps
      → IfOk r (λ levels. Pushed tells end blocks xs left right first d after levels fs mid new free rest) → IfOk r (λ levels. Pushed tells end blocks xs left right top d after levels entries old new free rest)
  skip_all after old mid new rest (Ok levels) less some fits within pushed p = skip_pushed after levels old mid new rest less some fits within pushed p
  skip_all after old mid new rest (Err e) less some fits within pushed p = tt

  pub skip_errs : (most : ℕ) (r : Result ℕ TreeError) → 0 < length fs → IfErr r (λ e. RefutesChildren blocks xs left right first d most fs free e) → IfErr r (λ e. RefutesChildren blocks xs left right top d most entries free e)
  skip_errs most (Ok levels) some w = tt
  skip_errs most (Err e) some w = skip_refuses most e some w

-- ---- what is behind a place

pub drop_some : (at : ℕ) (xs : List Xad) → at < length xs → 0 < length (drop at xs)
drop_some at [] l = absurd (omega (arith, l))
drop_some zero (x ∷ xs) l = omega arith
drop_some (suc at) (x ∷ xs) l = drop_some at xs (let h : at < length xs = omega (arith, l) in h)

pub drop_within : (blocks at : ℕ) (xs : List Xad) → all_within blocks xs ≡ true → all_within blocks (drop at xs) ≡ true
drop_within blocks zero xs w = w
drop_within blocks (suc at) [] w = w
drop_within blocks (suc at) (x ∷ xs) w = drop_within blocks at xs (and_true (is_within blocks x) (all_within blocks xs) w).1

pub drop_fits : (at : ℕ) (xs : List Xad) → All FitsXad xs → All FitsXad (drop at xs)
drop_fits at xs f = All-from_recursion FitsXad (drop at xs) (by at xs (recursion_from_All FitsXad xs f))
  where
    by : (at : ℕ) (xs : List Xad) → Each FitsXad xs → Each FitsXad (drop at xs)
    by zero xs f = f
    by (suc at) [] f = f
    by (suc at) (x ∷ xs) f = by at xs f.1

pub drop_less : (at : ℕ) (xs : List Xad) → length (drop at xs) ≤ length xs
drop_less zero xs = omega arith
drop_less (suc at) [] = omega arith
drop_less (suc at) (x ∷ xs) = let h = drop_less at xs in omega (arith, h)
