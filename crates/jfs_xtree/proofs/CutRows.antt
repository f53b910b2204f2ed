-- Lists of extents that are cut at a block of the file.
use Rattle.std.proofs.Common.{◌≡◌, ◌≤◌, ◌<◌, refl, sym, ap, ◌∙◌, subst, ℕ, zero, suc, ◌+◌, ◌-◌, Bool, true, false, List, [], ◌∷◌, ◌++◌, length, take, drop, Result, Ok, Err, OnOk, if◌then◌else◌, arith, append_assoc}
use Rattle.std.specs.Prelude.{nat_le}
use Rattle.std.proofs.lemmas.Bool.{le-leb, lt-leb}
use Rattle.jfs_tree.specs.declared.form.TreeError.{TreeError}
use Rattle.jfs_bits.specs.declared.extent.Xad.{Xad}
use Rattle.jfs_bits.specs.declared.descriptor.Pxd.{Pxd}
use Rattle.jfs_xtpage.specs.Page.{entries_of, entries_from, entry_of, count_of, end_of, rises_from}
use Rattle.jfs_xtpage.proofs.Entries.{last}
use Rattle.jfs_xtree.specs.Laws.{ends_after}
use Rattle.jfs_xtree.specs.Cutting.{up_to, kept_below, gone_of, gone_past}
use Rattle.jfs_xtree.specs.CutParts.{AllFrom, runs_of}
use Rattle.jfs_xtree.proofs.Pages.{rises_less}
use Rattle.jfs_xtree.proofs.Ways.{cut_at, length_front}

-- ---- extents at and past the bound

all_from : (bytes : List ℕ) (bound p n : ℕ) → ((j : ℕ) → p ≤ j → j < p + n → bound ≤ (entry_of bytes j).offset) → AllFrom bound (entries_from bytes p n)
all_from bytes bound p zero h = tt
all_from bytes bound p (suc n) h = (h p (omega arith) (omega arith), all_from bytes bound (suc p) n (λ j a b. h j (omega (arith, a)) (omega (arith, b))))

pub from_place : (bytes : List ℕ) (bound place : ℕ) → place ≤ count_of bytes → ((j : ℕ) → place ≤ j → j < count_of bytes → bound ≤ (entry_of bytes j).offset) → AllFrom bound (drop place (entries_of bytes))
from_place bytes bound place l h =
    subst (AllFrom bound) (last bytes 0 place (count_of bytes) place (count_of bytes - place) (omega (arith, l)) (omega arith)) (all_from bytes bound place (count_of bytes - place) (λ j a b. h j a (omega (arith, b, l))))

pub kept_none : (bound : ℕ) (xs : List Xad) → AllFrom bound xs → kept_below bound xs ≡ []
kept_none bound [] h = refl
kept_none bound (x ∷ xs) h = rw (le-leb bound x.offset h.0) (kept_none bound xs h.1)

pub gone_all : (bound : ℕ) (xs : List Xad) → AllFrom bound xs → gone_past bound xs ≡ runs_of xs
gone_all bound [] h = refl
gone_all bound (x ∷ xs) h = rw (le-leb bound x.offset h.0) (ap (λ ps. x.at ∷ ps) (gone_all bound xs h.1))

-- ---- parts of a list

pub kept_append : (bound : ℕ) (a b : List Xad) → kept_below bound (a ++ b) ≡ kept_below bound a ++ kept_below bound b
kept_append bound [] b = refl
kept_append bound (x ∷ a) b = by (nat_le bound x.offset) (kept_append bound a b)
  where
    by : (t : Bool) → kept_below bound (a ++ b) ≡ kept_below bound a ++ kept_below bound b
        → (if t then kept_below bound (a ++ b) else up_to bound x ∷ kept_below bound (a ++ b)) ≡ (if t then kept_below bound a else up_to bound x ∷ kept_below bound a) ++ kept_below bound b
    by true h = h
    by false h = ap (λ xs. up_to bound x ∷ xs) h

pub gone_append : (bound : ℕ) (a b : List Xad) → gone_past bound (a ++ b) ≡ gone_past bound a ++ gone_past bound b
gone_append bound [] b = refl
gone_append bound (x ∷ a) b = ap (λ ps. gone_of bound x ++ ps) (gone_append bound a b) ∙ sym (append_assoc (gone_of bound x) (gone_past bound a) (gone_past bound b))

-- an extent that ends at or before the bound stays
pub up_to_same : (bound : ℕ) (x : Xad) → end_of x ≤ bound → up_to bound x ≡ x
up_to_same bound x l = rw (le-leb (end_of x) bound l) refl

pub kept_first : (bound : ℕ) (x : Xad) (xs : List Xad) → end_of x ≤ bound → kept_below bound (x ∷ xs) ≡ x ∷ kept_below bound xs
kept_first bound x xs l = let w = ends_after x in rw (lt-leb bound x.offset (omega (arith, l, w)), le-leb (end_of x) bound l) refl

pub gone_first : (bound : ℕ) (x : Xad) (xs : List Xad) → end_of x ≤ bound → gone_past bound (x ∷ xs) ≡ gone_past bound xs
gone_first bound x xs l = let w = ends_after x in rw (lt-leb bound x.offset (omega (arith, l, w)), le-leb (end_of x) bound l) refl

-- what rises reaches an extent's offset
reaches : (a : List Xad) (y : Xad) (b : List Xad) (low : ℕ) → rises_from low (a ++ y ∷ b) ≡ true → low ≤ y.offset
reaches [] y b low r = (rises_less low y b r).0
reaches (x ∷ a) y b low r =
    let t = rises_less low x (a ++ y ∷ b) r in
    let h = t.0 in let w = ends_after x in let g = reaches a y b (end_of x) t.1 in omega (arith, h, w, g)

-- where `y` is the last one that begins below the bound
pub kept_cut : (bound : ℕ) (a : List Xad) (y : Xad) (b : List Xad) (low : ℕ) → rises_from low (a ++ y ∷ b) ≡ true → y.offset < bound → AllFrom bound b → kept_below bound (a ++ y ∷ b) ≡ a ++ up_to bound y ∷ []
kept_cut bound [] y b low r l h = rw (lt-leb bound y.offset l) (ap (λ xs. up_to bound y ∷ xs) (kept_none bound b h))
kept_cut bound (x ∷ a) y b low r l h =
    let t = rises_less low x (a ++ y ∷ b) r in
    let g = reaches a y b (end_of x) t.1 in
    kept_first bound x (a ++ y ∷ b) (omega (arith, g, l)) ∙ ap (λ xs. x ∷ xs) (kept_cut bound a y b (end_of x) t.1 l h)

pub gone_cut : (bound : ℕ) (a : List Xad) (y : Xad) (b : List Xad) (low : ℕ) → rises_from low (a ++ y ∷ b) ≡ true → y.offset < bound → AllFrom bound b → gone_past bound (a ++ y ∷ b) ≡ gone_of bound y ++ runs_of b
gone_cut bound [] y b low r l h = ap (λ ps. gone_of bound y ++ ps) (gone_all bound b h)
gone_cut bound (x ∷ a) y b low r l h =
    let t = rises_less low x (a ++ y ∷ b) r in
    let g = reaches a y b (end_of x) t.1 in
    gone_first bound x (a ++ y ∷ b) (omega (arith, g, l)) ∙ gone_cut bound a y b (end_of x) t.1 l h

-- ---- by the code's places

pub take_one_more : (a : List Xad) (y : Xad) (b : List Xad) (k : ℕ) → k ≡ length a → take (k + 1) (a ++ y ∷ b) ≡ a ++ y ∷ []
take_one_more a y b k e = ap (λ n. take n (a ++ y ∷ b)) (let h : k + 1 ≡ suc (length a) = omega (arith, e) in h) ∙ by a
  where
    by : (a : List Xad) → take (suc (length a)) (a ++ y ∷ b) ≡ a ++ y ∷ []
    by [] = refl
    by (x ∷ a) = ap (λ xs. x ∷ xs) (by a)

-- where nothing is kept, all is gone
pub gone_none_before : (r : Result (Unit {0}) TreeError) (bytes : List ℕ) (bound keep : ℕ) (old mid new : List Pxd) → keep ≡ 0 → AllFrom bound (drop keep (entries_of bytes)) → mid ≡ old → OnOk r (new ≡ mid ++ runs_of (drop keep (entries_of bytes)))
    → OnOk r (new ≡ old ++ gone_past bound (entries_of bytes))
gone_none_before (Ok it) bytes bound keep old mid new z past same is =
    is ∙ ap (λ ps. ps ++ runs_of (drop keep (entries_of bytes))) same ∙ ap (λ k. old ++ runs_of (drop k (entries_of bytes))) z
    ∙ ap (λ ps. old ++ ps) (sym (gone_all bound (entries_of bytes) (subst (λ k. AllFrom bound (drop k (entries_of bytes))) z past)))
gone_none_before (Err e) bytes bound keep old mid new z past same is = is

pub gone_at : (r : Result (Unit {0}) TreeError) (bytes : List ℕ) (bound keep k : ℕ) (x : Xad) (old tail mid new : List Pxd) → keep ≡ k + 1 → keep ≤ count_of bytes → rises_from 0 (entries_of bytes) ≡ true → (entry_of bytes k).offset < bound
    → AllFrom bound (drop keep (entries_of bytes)) → x ≡ entry_of bytes k → tail ≡ old ++ gone_of bound x → mid ≡ tail → OnOk r (new ≡ mid ++ runs_of (drop keep (entries_of bytes))) → OnOk r (new ≡ old ++ gone_past bound (entries_of bytes))
gone_at (Ok it) bytes bound keep k x old tail mid new e most r before past is pushed same all =
    let parts = cut_at bytes k (omega (arith, e, most)) in
    all ∙ ap (λ ps. ps ++ runs_of (drop keep (entries_of bytes))) (same ∙ pushed ∙ ap (λ y. old ++ gone_of bound y) is)
    ∙ append_assoc old (gone_of bound (entry_of bytes k)) (runs_of (drop keep (entries_of bytes)))
    ∙ ap (λ n. old ++ (gone_of bound (entry_of bytes k) ++ runs_of (drop n (entries_of bytes)))) e
    ∙ ap (λ ps. old ++ ps) (sym (ap (gone_past bound) parts
    ∙ gone_cut bound (take k (entries_of bytes)) (entry_of bytes k) (drop (k + 1) (entries_of bytes)) 0 (subst (λ xs. rises_from 0 xs ≡ true) parts r) before (subst (λ n. AllFrom bound (drop n (entries_of bytes))) e past)))
gone_at (Err it) bytes bound keep k x old tail mid new e most r before past is pushed same all = all

-- what is left on the page
pub rows_none : (bytes new : List ℕ) (bound keep : ℕ) → keep ≡ 0 → AllFrom bound (drop keep (entries_of bytes)) → entries_of new ≡ take keep (entries_of bytes) → entries_of new ≡ kept_below bound (entries_of bytes)
rows_none bytes new bound keep z past cut =
    cut ∙ ap (λ k. take k (entries_of bytes)) z ∙ sym (kept_none bound (entries_of bytes) (subst (λ k. AllFrom bound (drop k (entries_of bytes))) z past))

pub rows_at : (bytes mid new : List ℕ) (bound keep k : ℕ) → keep ≡ k + 1 → keep ≤ count_of bytes → rises_from 0 (entries_of bytes) ≡ true → (entry_of bytes k).offset < bound → AllFrom bound (drop keep (entries_of bytes))
    → entries_of mid ≡ take k (entries_of bytes) ++ up_to bound (entry_of bytes k) ∷ drop (k + 1) (entries_of bytes) → entries_of new ≡ take keep (entries_of mid) → entries_of new ≡ kept_below bound (entries_of bytes)
rows_at bytes mid new bound keep k e most r before past short cut =
    let parts = cut_at bytes k (omega (arith, e, most)) in
    cut ∙ ap (λ n. take n (entries_of mid)) e ∙ ap (take (k + 1)) short
    ∙ take_one_more (take k (entries_of bytes)) (up_to bound (entry_of bytes k)) (drop (k + 1) (entries_of bytes)) k (sym (length_front bytes k (omega (arith, e, most))))
    ∙ sym (ap (kept_below bound) parts
    ∙ kept_cut bound (take k (entries_of bytes)) (entry_of bytes k) (drop (k + 1) (entries_of bytes)) 0 (subst (λ xs. rises_from 0 xs ≡ true) parts r) before (subst (λ n. AllFrom bound (drop n (entries_of bytes))) e past))
