-- On pages that matter, every line applied forwards gives what redo gives.
use Rattle.std.proofs.Common.{◌≡◌, ◌<◌, ◌≤◌, ◌⊎◌, ◌+◌, ◌*◌, ◌/◌, ◌%◌, ℕ, zero, suc, Bool, true, false, List, [], ◌∷◌, ◌++◌, length, refl, sym, ap, ◌∙◌, subst, inl, inr, arith}
use Rattle.std.proofs.lemmas.Bool.{cases_lt, cases_Bool}
use Rattle.std.proofs.lemmas.List.{ext_get_or}
use Rattle.jfs_ranges.specs.declared.edit.Edit.{Edit}
use Rattle.jfs_recovery.specs.Face.{Face, IsFace, Gives, Passes, Pages, byte, IsStep, matters}
use Rattle.jfs_recovery.specs.Forward.{forward_page}
use Rattle.jfs_recovery.specs.Core.{Core, entry, image, count, matters_at, IsLogged}
use Rattle.jfs_recovery.specs.Sound.{IsSound, IsLeft, IsLogImage, window}
use Rattle.jfs_recovery.proofs.Images.{window_next, window_empty, size_image}
use Rattle.jfs_recovery.proofs.Redo.{Untouched, Cases, Facts, facts, known_cells, size_left}

forward-append : (f : Face) (p : ℕ) (xs : List (List Edit)) (tx : List Edit) (now : List ℕ) → forward_page f p now (xs ++ tx ∷ []) ≡ f.lines tx p (forward_page f p now xs)
unfolding forward_page
forward-append f p [] tx now = refl
forward-append f p (x ∷ xs) tx now = forward-append f p xs tx (f.lines x p now)

size_forward : (f : Face) → IsFace f → (p : ℕ) (xs : List (List Edit)) (now : List ℕ) → length now ≡ 4096 → length (forward_page f p now xs) ≡ 4096
unfolding forward_page
size_forward f laws p [] now h = h
size_forward f laws p (x ∷ xs) now h = size_forward f laws p xs (f.lines x p now) (laws.size_lines x p now h)

next_case : (f : Face) → IsFace f → (s : Pages) (tx : List Edit) (t : Pages) → IsStep f s tx t → (p i : ℕ) → f.is_map p ≡ false → i < 4096 → IsLogged f s tx t p → length (s p) ≡ 4096 →
    (m : ℕ → Bool) (v : ℕ → List ℕ) (c n : ℕ) → c ≤ n → (left now : List ℕ) → length now ≡ 4096 →
    m n ≡ matters f s p → m (suc n) ≡ matters f t p → v n ≡ s p → v (suc n) ≡ t p →
    (m n ≡ true → Cases m v c n i left now) → m (suc n) ≡ true → Cases m v c (suc n) i left (f.lines tx p now)
next_case f laws s tx t follows p i page small logged size m v c n cn left now size_now mn mt vn vt before true_after = at (cases_Bool (f.closes tx p)) (cases_Bool (m n)) (laws.bytes tx p i small)
  where
    new : List ℕ
    new = f.lines tx p now

    new_size : length new ≡ 4096
    new_size = laws.size_lines tx p now size_now

    Goal : Type 0
    Goal = Cases m v c (suc n) i left new

    lines_are : t p ≡ f.lines tx p (s p)
    lines_are = follows.pages p page

    to_next : byte (t p) i ≡ byte (v (suc n)) i
    to_next = ap (λ (a : List ℕ). byte a i) (sym vt)

    -- a byte that is given is given whatever was there; where the page is whole, each is
    given : Gives f tx p i → Goal
    given gives = inl (sym (gives now now size_now size_now) ∙ gives now (s p) size_now size ∙ ap (λ (a : List ℕ). byte a i) (sym lines_are) ∙ to_next)

    whole : (f.closes tx p ≡ true) ⊎ (matters f s p ≡ false) → Gives f tx p i ⊎ Passes f tx p i → Goal
    whole why (inl gives) = given gives
    whole why (inr passes) = inl (sym (passes.redo new new_size) ∙ logged.whole (sym mt ∙ true_after) why new i new_size small ∙ to_next)

    steady : Passes f tx p i → f.closes tx p ≡ false → byte (v n) i ≡ byte (v (suc n)) i
    steady passes unclosed = ap (λ (a : List ℕ). byte a i) vn ∙ sym (passes.lines unclosed (s p) size) ∙ ap (λ (a : List ℕ). byte a i) (sym lines_are) ∙ to_next

    stay : Passes f tx p i → f.closes tx p ≡ false → Untouched m v c n i left now → (k : ℕ) → c ≤ k → k ≤ suc n → (byte (v k) i ≡ byte (v (suc n)) i) × (m k ≡ true)
    stay passes unclosed u k ck kn = which (cases_lt n k)
      where
        which : (n < k) ⊎ (k ≤ n) → (byte (v k) i ≡ byte (v (suc n)) i) × (m k ≡ true)
        which (inl l) = let e : suc n ≡ k = omega arith in (ap (λ (j : ℕ). byte (v j) i) (sym e), subst (λ (j : ℕ). m j ≡ true) e true_after)
        which (inr l) = (u.steady k ck l ∙ steady passes unclosed, u.mattered k ck l)

    unclosed_case : f.closes tx p ≡ false → Cases m v c n i left now → Gives f tx p i ⊎ Passes f tx p i → Goal
    unclosed_case unclosed old (inl gives) = given gives
    unclosed_case unclosed (inl same) (inr passes) = inl (passes.lines unclosed now size_now ∙ same ∙ steady passes unclosed)
    unclosed_case unclosed (inr u) (inr passes) = inr (record {
      stays = passes.lines unclosed now size_now ∙ u.stays;
      steady = λ k ck kn. (stay passes unclosed u k ck kn).0;
      mattered = λ k ck kn. (stay passes unclosed u k ck kn).1;
    })

    at : (f.closes tx p ≡ true) ⊎ (f.closes tx p ≡ false) → (m n ≡ true) ⊎ (m n ≡ false) → Gives f tx p i ⊎ Passes f tx p i → Goal
    at (inl e) x b = whole (inl e) b
    at (inr e) (inr none) b = whole (inr (sym mn ∙ none)) b
    at (inr e) (inl some) b = unclosed_case e (before some) b

abbrev forwarded : Face → Core → ℕ → ℕ → ℕ → List ℕ → List ℕ
forwarded f core p c n left = forward_page f p left (window core c n)

cases : (f : Face) → IsFace f → (core : Core) → IsSound f core → (p i : ℕ) → f.is_map p ≡ false → i < 4096 → (c : ℕ) (left : List ℕ) → length left ≡ 4096 →
    (n : ℕ) → c ≤ n → n ≤ count core → matters_at f core p n ≡ true → Cases (matters_at f core p) (λ k. image core k p) c n i left (forwarded f core p c n left)
unfolding forward_page
cases f laws core kept p i page small c left size n cn w mattered = by_count n cn w mattered
  where
    m : ℕ → Bool
    m = matters_at f core p

    v : ℕ → List ℕ
    v k = image core k p

    Goal : ℕ → Type 0
    Goal k = Cases m v c k i left (forwarded f core p c k left)

    none : (k : ℕ) → k ≡ c → m k ≡ true → Goal k
    none k e here = inr (record {
      stays = ap (λ (a : List ℕ). byte a i) (ap (λ (j : ℕ). forward_page f p left (window core c j)) e ∙ ap (λ (xs : List (List Edit)). forward_page f p left xs) (window_empty core c));
      steady = λ j a b. let same : j ≡ k = omega arith in ap (λ (q : ℕ). byte (v q) i) same;
      mattered = λ j a b. let same : k ≡ j = omega arith in subst (λ (q : ℕ). m q ≡ true) same here;
    })

    more : (k : ℕ) → c ≤ k → k < count core → (m k ≡ true → Goal k) → m (suc k) ≡ true → Goal (suc k)
    more k ck l before here =
        let P : List ℕ → Type 0 = λ x. Cases m v c (suc k) i left x in
        subst P (sym (ap (λ (xs : List (List Edit)). forward_page f p left xs) (window_next core c k ck l) ∙ forward-append f p (window core c k) (entry core k) left))
        (next_case f laws (image core k) (entry core k) (image core (suc k)) (kept.follows k l) p i page small (kept.logged k p l page) (size_image f laws core kept k (omega arith) p) m v c k ck left (forwarded f core p c k left)
        (size_forward f laws p (window core c k) left size) refl refl refl refl before here)

    by_count : (k : ℕ) → c ≤ k → k ≤ count core → m k ≡ true → Goal k
    by_count zero h l here = none zero (omega arith) here
    by_count (suc k) h l here = which (cases_lt k c) (λ q there. by_count k q (omega arith) there)
      where
        which : (k < c) ⊎ (c ≤ k) → (c ≤ k → m k ≡ true → Goal k) → Goal (suc k)
        which (inl q) before = none (suc k) (omega arith) here
        which (inr q) before = more k q (omega arith) (before q) here

pub forward_gives : (f : Face) → IsFace f → (core : Core) → IsSound f core → (low : Pages) (c n : ℕ) → IsLeft core low → IsLogImage core c n → (p : ℕ) → f.is_map p ≡ false →
    matters_at f core p n ≡ true → forwarded f core p c n (low p) ≡ image core n p
forward_gives f laws core kept low c n left log p page mattered =
    let fs = facts f core kept c n log in
    let size = size_left f core kept low left p in
    let one = size_forward f laws p (window core c n) (low p) size in
    ext_get_or 0 (forwarded f core p c n (low p)) (image core n p) (one ∙ sym (size_image f laws core kept n fs.within p)) (λ i w.
    let small : i < 4096 = omega (arith, w, one) in
    at fs i small (cases f laws core kept p i page small c (low p) size n (omega (arith, fs.told, fs.later)) fs.within mattered))
  where
    at : Facts core c n → (i : ℕ) → i < 4096 → Cases (matters_at f core p) (λ k. image core k p) c n i (low p) (forwarded f core p c n (low p)) → byte (forwarded f core p c n (low p)) i ≡ byte (image core n p) i
    at fs i small (inl same) = same
    at fs i small (inr u) =
        let known = known_cells f core kept low left c fs.early fs.told p (λ k a b. u.mattered k a (omega (arith, fs.later))) in
        let cell = known.each (i / 16) (omega arith) (inl page) in
        let place : 16 * (i / 16) + i % 16 ≡ i = omega arith in
        u.stays
        ∙ subst (λ (x : ℕ). byte (low p) x ≡ byte (image core cell.0 p) x) place (cell.3 (i % 16) (omega arith))
        ∙ u.steady cell.0 cell.1 (omega (arith, cell.2, fs.later))
