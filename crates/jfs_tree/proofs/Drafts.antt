-- What a draft has: pages that were put there, and those that were taken.
use Rattle.std.proofs.Common.{◌≡◌, ◌<◌, ◌⊎◌, inl, inr, refl, sym, ap, ◌∙◌, subst, ℕ, zero, suc, ◌+◌, ◌-◌, ◌==◌, ◌||◌, if◌then◌else◌, Bool, true, false, List, [], ◌∷◌, ◌++◌, length, take, drop, Result, Ok, Err, OnOk, arith}
use Rattle.std.specs.Prelude.{reverse}
use Rattle.std.proofs.lemmas.Bool.{cases_eq, cases_lt, eq-eqb, ne_eqb}
use Rattle.std.proofs.lemmas.List.{take-append-drop}
use Rattle.jfs_disk.specs.Image.{Image, page_of}
use Rattle.jfs_tree.specs.Edit.{count_in}
use Rattle.jfs_tree.specs.Draft.{shown}
use Rattle.jfs_tree.specs.Call.{PutsOne, PutsTwo}
use Rattle.jfs_tree.specs.Form.{AllBelow, IsFront}
use Rattle.jfs_tree.specs.Frames.{IsTaken}
use Rattle.jfs_tree.specs.Tell.{is_in, occurs}
use Rattle.jfs_tree.specs.Taken.{IsDrafted, KeepsDrafted, HasTaken, DraftsTaken, AreDrafted}
use Rattle.jfs_tree.specs.declared.draft.Drafted.{Drafted}
use Rattle.jfs_tree.specs.declared.form.TreeError.{TreeError}
use Rattle.jfs_tree.proofs.Taking.{taken_last}
use Rattle.jfs_tree.proofs.DraftTold.{shown_fresh}
use Rattle.jfs_tree.proofs.Runs.{below_parts, count_reverse, left_named}
use Rattle.jfs_tree.proofs.BytesKept.{count_parts}

either : (c : Bool) (x y z : List ℕ) → y ≡ z → (if c then x else y) ≡ (if c then x else z)
either true x y z e = refl
either false x y z e = e

hit : (c : Bool) (x y : List ℕ) → c ≡ true → (if c then x else y) ≡ x
hit true x y e = refl
hit false x y e = absurd cc

-- ---- pages that are put

pub one_keeps : (old new : List Drafted) (page : ℕ) (bytes : List ℕ) → PutsOne old new page bytes → KeepsDrafted old new
one_keeps old new page bytes puts n has a b = puts a n ∙ either (n == page) bytes (shown old a n) (shown old b n) (has a b) ∙ sym (puts b n)

one_has : (old new : List Drafted) (page : ℕ) (bytes : List ℕ) → PutsOne old new page bytes → (n : ℕ) → n ≡ page → IsDrafted new n
one_has old new page bytes puts n is a b = puts a n ∙ hit (n == page) bytes (shown old a n) (eq-eqb n page is) ∙ sym (puts b n ∙ hit (n == page) bytes (shown old b n) (eq-eqb n page is))

two_keeps : (old new : List Drafted) (page q : ℕ) (one other : List ℕ) → PutsTwo old new page one q other → KeepsDrafted old new
two_keeps old new page q one other puts n has a b =
    puts a n ∙ either (n == q) other (if n == page then one else shown old a n) (if n == page then one else shown old b n) (either (n == page) one (shown old a n) (shown old b n) (has a b)) ∙ sym (puts b n)

two_has : (old new : List Drafted) (page q : ℕ) (one other : List ℕ) → PutsTwo old new page one q other → (n : ℕ) → n ≡ q → IsDrafted new n
two_has old new page q one other puts n is a b =
    puts a n ∙ hit (n == q) other (if n == page then one else shown old a n) (eq-eqb n q is) ∙ sym (puts b n ∙ hit (n == q) other (if n == page then one else shown old b n) (eq-eqb n q is))

-- only the last one was taken
not_other : (b : Bool) (c l : ℕ) → c ≡ (if b then 1 else 0) + l → b ≡ false → l < c → ⊥
not_other true c l e is h = absurd cc
not_other false c l e is h = omega (arith, e, h)

popped_is : (free left : List ℕ) (q : ℕ) → free ≡ left ++ q ∷ [] → (n : ℕ) → IsTaken free left n → n ≡ q
popped_is free left q popped n taken = elim (cases_eq n q) [
  | inl is ↦ is
  | inr other ↦ absurd (not_other (q == n) (count_in n free) (count_in n left) (taken_last free left q popped n) (ne_eqb q n (λ h. other (sym h))) taken)
]

-- ---- calls

pub drafts_none : (drafts : List Drafted) (free : List ℕ) → DraftsTaken drafts drafts free free
drafts_none drafts free = record { keeps = λ n has. has; takes = λ n taken. absurd (omega (arith, taken)) }

pub drafts_one : (old new : List Drafted) (page : ℕ) (bytes free : List ℕ) → PutsOne old new page bytes → DraftsTaken old new free free
drafts_one old new page bytes free puts = record { keeps = one_keeps old new page bytes puts; takes = λ n taken. absurd (omega (arith, taken)) }

pub drafts_two : (old new : List Drafted) (page q : ℕ) (one other free left : List ℕ) → PutsTwo old new page one q other → free ≡ left ++ q ∷ [] → DraftsTaken old new free left
drafts_two old new page q one other free left puts popped = record { keeps = two_keeps old new page q one other puts; takes = λ n taken. two_has old new page q one other puts n (popped_is free left q popped n taken) }

pub drafts_moved : (old new : List Drafted) (q : ℕ) (page free left : List ℕ) (r : Result (Unit {0}) TreeError) → OnOk r (PutsOne old new q page) → free ≡ left ++ q ∷ [] → OnOk r (DraftsTaken old new free left)
drafts_moved old new q page free left (Ok u) puts popped = record { keeps = one_keeps old new q page puts; takes = λ n taken. one_has old new q page puts n (popped_is free left q popped n taken) }
drafts_moved old new q page free left (Err e) puts popped = tt

pub drafts_both : (old mid new : List Drafted) (free between left : List ℕ) → DraftsTaken old mid free between → DraftsTaken mid new between left → DraftsTaken old new free left
drafts_both old mid new free between left first rest = record {
  keeps = λ n has. rest.keeps n (first.keeps n has);
  takes = λ n taken. elim (cases_lt (count_in n between) (count_in n free)) [
    | inl before ↦ rest.keeps n (first.takes n before)
    | inr after ↦ rest.takes n (omega (arith, taken, after))
  ];
}

pub drafts_then : {T : Type 0} (old mid new : List Drafted) (free between left : List ℕ) (r : Result T TreeError) → DraftsTaken old mid free between → OnOk r (DraftsTaken mid new between left) → OnOk r (DraftsTaken old new free left)
drafts_then old mid new free between left (Ok t) first rest = drafts_both old mid new free between left first rest
drafts_then old mid new free between left (Err e) first rest = tt

pub drafts_still : {T : Type 0} (drafts : List Drafted) (free : List ℕ) (r : Result T TreeError) → OnOk r (DraftsTaken drafts drafts free free)
drafts_still drafts free (Ok t) = drafts_none drafts free
drafts_still drafts free (Err e) = tt

-- by other names of the same lists
pub taken_as : (drafts : List Drafted) (free all left rest : List ℕ) → free ≡ all → rest ≡ left → HasTaken drafts free left → HasTaken drafts all rest
taken_as drafts free all left rest is same has = subst (λ xs. HasTaken drafts xs rest) is (subst (λ xs. HasTaken drafts free xs) (sym same) has)

pub drafts_linked : (old mid new : List Drafted) (free left : List ℕ) → DraftsTaken old mid free left → KeepsDrafted mid new → DraftsTaken old new free left
drafts_linked old mid new free left first rest = record { keeps = λ n has. rest n (first.keeps n has); takes = λ n taken. rest n (first.takes n taken) }

pub keeps_then : (old mid new : List Drafted) → KeepsDrafted old mid → KeepsDrafted mid new → KeepsDrafted old new
keeps_then old mid new first rest n has = rest n (first n has)

pub keeps_ok : {T : Type 0} (old mid new : List Drafted) (r : Result T TreeError) → KeepsDrafted old mid → OnOk r (KeepsDrafted mid new) → OnOk r (KeepsDrafted old new)
keeps_ok old mid new (Ok t) first rest = keeps_then old mid new first rest
keeps_ok old mid new (Err e) first rest = tt

-- ---- pages of a draft are among those that are told

-- an image with a page that isn't empty
image_to : ℕ → Image
image_to zero = (0 ∷ []) ∷ []
image_to (suc n) = [] ∷ image_to n

not_nil : (x : ℕ) (xs : List ℕ) → [] ≡ x ∷ xs → ⊥
not_nil x xs e = absurd cc

differs : (n : ℕ) → page_of [] n ≡ page_of (image_to n) n → ⊥
unfolding image_to
differs zero e = not_nil 0 [] e
differs (suc n) e = differs n e

pub drafted_occurs : (drafts : List Drafted) (n : ℕ) → IsDrafted drafts n → occurs n drafts ≡ true
drafted_occurs drafts n has = by (occurs n drafts) refl
  where
    by : (b : Bool) → occurs n drafts ≡ b → b ≡ true
    by true e = refl
    by false e = absurd (differs n (sym (shown_fresh drafts [] n e) ∙ has [] (image_to n) ∙ shown_fresh drafts (image_to n) n e))

-- ---- links of three pages

pub keeps_four : (a b c d e : List Drafted) → KeepsDrafted a b → KeepsDrafted b c → KeepsDrafted c d → KeepsDrafted d e → KeepsDrafted a e
keeps_four a b c d e f g h i n has = i n (h n (g n (f n has)))

pub none_drafted : (blocks : ℕ) (drafts : List Drafted) → AreDrafted blocks drafts []
none_drafted blocks drafts n is = absurd cc

-- ---- pages that were taken from a stack

in_counts : (n : ℕ) (xs : List ℕ) → is_in n xs ≡ true → 0 < count_in n xs
in_counts n [] is = absurd cc
in_counts n (x ∷ xs) is = by (x == n) (in_counts n xs) is
  where
    by : (b : Bool) → (is_in n xs ≡ true → 0 < count_in n xs) → (b || is_in n xs) ≡ true → 0 < (if b then 1 else 0) + count_in n xs
    by true more e = omega arith
    by false more e = let h = more e in omega (arith, h)

in_below : (bound n : ℕ) (xs : List ℕ) → AllBelow bound xs → is_in n xs ≡ true → n < bound
in_below bound n [] below is = absurd cc
in_below bound n (x ∷ xs) below is = elim (cases_eq x n) [
  | inl e ↦ subst (λ k. k < bound) e below.0
  | inr other ↦ in_below bound n xs below.1 (by (x == n) (ne_eqb x n other) is)
]
  where
    by : (b : Bool) → b ≡ false → (b || is_in n xs) ≡ true → is_in n xs ≡ true
    by true e f = absurd cc
    by false e f = f

more_counts : (c l t : ℕ) → c ≡ t + l → 0 < t → l < c
more_counts c l t e h = omega (arith, e, h)

pub are_drafted : (blocks : ℕ) (drafts : List Drafted) (all given stack left : List ℕ) (k : ℕ) → given ≡ all → k ≡ length left → stack ≡ reverse all → IsFront left stack → AllBelow blocks all → HasTaken drafts stack left → AreDrafted blocks drafts (take (length given - k) given)
are_drafted blocks drafts all given stack left k is_all is_k is front below has n taken =
    let at = length given - k in
    let rest = left_named all given stack left (drop at given) k is_all is_k is front refl in
    let parts = take-append-drop at given in (
      in_below blocks n (take at given) (below_parts blocks (take at given) (drop at given) (subst (AllBelow blocks) (sym (parts ∙ is_all)) below)).0 taken,
      has n (more_counts (count_in n stack) (count_in n left) (count_in n (take at given))
          (ap (count_in n) is ∙ count_reverse n all ∙ ap (count_in n) (sym (parts ∙ is_all)) ∙ count_parts n (take at given) (drop at given) ∙ ap (λ xs. count_in n (take at given) + count_in n xs) rest ∙ ap (λ c. count_in n (take at given) + c) (count_reverse n left)) (in_counts n (take at given) taken)),
    )
