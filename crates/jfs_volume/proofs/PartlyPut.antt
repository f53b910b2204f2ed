-- Data of which the write of a block failed: each block holds what it was to hold, or what it held, or some front sectors of the one and then the other.
use Rattle.std.proofs.Common.{◌≡◌, ◌≤◌, ◌<◌, ◌⊎◌, ◌==◌, ◌||◌, ◌++◌, ◌∷◌, [], ℕ, Bool, true, false, true≢false, if◌then◌else◌, List, length, set, None, refl, sym, ap, ◌∙◌, inl, inr, subst, arith}
use Rattle.std.proofs.lemmas.Bool.{cases_eq, eq-eqb, ne_eqb, eqb-true}
use Rattle.std.proofs.lemmas.List.{length-append, length-set, get_or-set_same, get_or-set_other}
use Rattle.jfs_disk.specs.Image.{Image, page_of}
use Rattle.jfs_disk.specs.Crash.{torn, TearsPage}
use Rattle.jfs_marks.specs.data_steps.specs.After.{is_put, EachOnce, LieWithin, page_put, put_data}
use Rattle.jfs_marks.specs.data_steps.specs.declared.pages.DataPage.{DataPage}
use Rattle.jfs_marks.specs.data_steps.proofs.Putting.{put_off}
use Rattle.jfs_pages.specs.declared.dirty.Dirty.{Dirty}
use Rattle.jfs_pages.specs.Dirty.{dirty_of}
use Rattle.jfs_volume.specs.Data.{Store, AreClean, put_pages, AreTorn, IsPartly, IsPartlyPut}

-- ---- lists of data

both_false : (a b : Bool) → (a || b) ≡ false → (a ≡ false) × (b ≡ false)
both_false false b e = (refl, e)
both_false true b e = absurd (true≢false e)

put_either : (xs ys : List DataPage) (b : ℕ) → is_put b (xs ++ ys) ≡ (is_put b xs || is_put b ys)
put_either [] ys b = refl
put_either (x ∷ xs) ys b = by (x.block == b) (put_either xs ys b)
  where
    by : (t : Bool) → is_put b (xs ++ ys) ≡ (is_put b xs || is_put b ys) → (t || is_put b (xs ++ ys)) ≡ ((t || is_put b xs) || is_put b ys)
    by true e = refl
    by false e = e

put_both : (xs ys : List DataPage) (b : ℕ) (page : List ℕ) → page_put (xs ++ ys) b page ≡ page_put ys b (page_put xs b page)
put_both [] ys b page = refl
put_both (x ∷ xs) ys b page = put_both xs ys b (if x.block == b then x.page.0 else page)

-- what stands before isn't behind
once_after : (xs ys : List DataPage) (b : ℕ) → EachOnce (xs ++ ys) → is_put b xs ≡ true → is_put b ys ≡ false
once_after [] ys b once h = absurd (true≢false (sym h))
once_after (x ∷ xs) ys b once h = by (once_after xs ys b once.1) (x.block == b) refl h
  where
    none : is_put x.block ys ≡ false
    none = (both_false (is_put x.block xs) (is_put x.block ys) (sym (put_either xs ys x.block) ∙ once.0)).1

    by : (is_put b xs ≡ true → is_put b ys ≡ false) → (t : Bool) → (x.block == b) ≡ t → (t || is_put b xs) ≡ true → is_put b ys ≡ false
    by more true e h = subst (λ (n : ℕ). is_put n ys ≡ false) (eqb-true x.block b e) none
    by more false e h = more h

once_behind : (xs ys : List DataPage) → EachOnce (xs ++ ys) → EachOnce ys
once_behind [] ys once = once
once_behind (x ∷ xs) ys once = once_behind xs ys once.1

lie_front : (blocks : ℕ) (xs ys : List DataPage) → LieWithin blocks (xs ++ ys) → LieWithin blocks xs
lie_front blocks [] ys lie = tt
lie_front blocks (x ∷ xs) ys lie = (lie.0, lie_front blocks xs ys lie.1)

lie_behind : (blocks : ℕ) (xs ys : List DataPage) → LieWithin blocks (xs ++ ys) → LieWithin blocks ys
lie_behind blocks [] ys lie = lie
lie_behind blocks (x ∷ xs) ys lie = lie_behind blocks xs ys lie.1

clean_front : (xs ys : List DataPage) (dirty : List Dirty) → AreClean (xs ++ ys) dirty → AreClean xs dirty
clean_front xs ys dirty clean b put = clean b (put_either xs ys b ∙ ap (λ (t : Bool). t || is_put b ys) put)

-- ---- pages that are put into an image which has their places

pub put_at : (ds : List DataPage) (image : Image) (blocks b : ℕ) → LieWithin blocks ds → blocks ≤ length image → page_of (put_pages ds image) b ≡ page_put ds b (page_of image b)
put_at [] image blocks b lie fits = refl
put_at (d ∷ ds) image blocks b lie fits =
    put_at ds (set image d.block d.page.0) blocks b lie.1 (let s = length-set image d.block d.page.0 in omega (arith, fits, s)) ∙ ap (page_put ds b) (by (cases_eq d.block b))
  where
    by : (d.block ≡ b) ⊎ (d.block ≡ b → ⊥) → page_of (set image d.block d.page.0) b ≡ (if d.block == b then d.page.0 else page_of image b)
    by (inl e) = ap (λ (k : ℕ). page_of (set image d.block d.page.0) k) (sym e) ∙ get_or-set_same image d.block d.page.0 [] (let l = lie.0 in omega (arith, l, fits)) ∙ sym (rw (eq-eqb d.block b e) refl)
    by (inr other) = get_or-set_other image d.block b d.page.0 [] (λ e. other (sym e)) ∙ sym (rw (ne_eqb d.block b other) refl)

put_length : (ds : List DataPage) (image : Image) → length (put_pages ds image) ≡ length image
put_length [] image = refl
put_length (d ∷ ds) image = put_length ds (set image d.block d.page.0) ∙ length-set image d.block d.page.0

-- ---- one of them failed

module _ (old new : Store) (blocks : ℕ) (fits : blocks ≤ length old.view) (front rest : List DataPage) (stopped : DataPage)
    (lie : LieWithin blocks (front ++ stopped ∷ rest)) (once : EachOnce (front ++ stopped ∷ rest)) (mid_view : Image) (mid_is : mid_view ≡ put_pages front old.view)
    (sectors : ℕ) (few : sectors ≤ 8) (left : new.view ≡ set mid_view stopped.block (torn sectors stopped.page.0 (page_of mid_view stopped.block))) where
  abbrev pages : List DataPage
  pages = front ++ stopped ∷ rest

  abbrev old_page : ℕ → List ℕ
  old_page = page_of old.view

  there : stopped.block < blocks
  there = (lie_behind blocks front (stopped ∷ rest) lie).0

  before : (b : ℕ) → page_of mid_view b ≡ page_put front b (old_page b)
  before b = ap (λ (image : Image). page_of image b) mid_is ∙ put_at front old.view blocks b (lie_front blocks front (stopped ∷ rest) lie) fits

  length_mid : length mid_view ≡ length old.view
  length_mid = ap (λ (image : Image). length image) mid_is ∙ put_length front old.view

  not_before : is_put stopped.block front ≡ false
  not_before = by (is_put stopped.block front) refl
    where
      by : (t : Bool) → is_put stopped.block front ≡ t → is_put stopped.block front ≡ false
      by false e = e
      by true e = absurd (true≢false (sym (ap (λ (t : Bool). t || is_put stopped.block rest) (eq-eqb stopped.block stopped.block refl)) ∙ once_after front (stopped ∷ rest) stopped.block once e))

  here : page_of new.view stopped.block ≡ torn sectors (put_data pages old_page stopped.block) (old_page stopped.block)
  here = ap (λ (image : Image). page_of image stopped.block) left
      ∙ get_or-set_same mid_view stopped.block (torn sectors stopped.page.0 (page_of mid_view stopped.block)) [] (omega (arith, there, fits, length_mid))
      ∙ ap (torn sectors stopped.page.0) (before stopped.block ∙ put_off front stopped.block (old_page stopped.block) not_before)
      ∙ ap (λ (page : List ℕ). torn sectors page (old_page stopped.block)) (sym wanted)
    where
      wanted : put_data pages old_page stopped.block ≡ stopped.page.0
      wanted = put_both front (stopped ∷ rest) stopped.block (old_page stopped.block)
          ∙ ap (λ (t : Bool). page_put rest stopped.block (if t then stopped.page.0 else page_put front stopped.block (old_page stopped.block))) (eq-eqb stopped.block stopped.block refl)
          ∙ put_off rest stopped.block stopped.page.0 (once_behind front (stopped ∷ rest) once).0

  elsewhere : (b : ℕ) → (stopped.block ≡ b → ⊥) → page_of new.view b ≡ page_put front b (old_page b)
  elsewhere b other = ap (λ (image : Image). page_of image b) left ∙ get_or-set_other mid_view stopped.block b (torn sectors stopped.page.0 (page_of mid_view stopped.block)) [] (λ e. other (sym e)) ∙ before b

  each_is : (b : ℕ) → IsPartly (put_data pages old_page b) (old_page b) (page_of new.view b)
  each_is b = by (cases_eq stopped.block b)
    where
      apart : (stopped.block ≡ b → ⊥) → (t : Bool) → is_put b front ≡ t → IsPartly (put_data pages old_page b) (old_page b) (page_of new.view b)
      apart other true h =
          inl (elsewhere b other ∙ sym (put_both front (stopped ∷ rest) b (old_page b)
          ∙ put_off (stopped ∷ rest) b (page_put front b (old_page b)) (once_after front (stopped ∷ rest) b once h)))
      apart other false h = inr (inl (elsewhere b other ∙ put_off front b (old_page b) h))

      by : (stopped.block ≡ b) ⊎ (stopped.block ≡ b → ⊥) → IsPartly (put_data pages old_page b) (old_page b) (page_of new.view b)
      by (inl e) = subst (λ (n : ℕ). IsPartly (put_data pages old_page n) (old_page n) (page_of new.view n)) e (inr (inr (sectors, few, here)))
      by (inr other) = apart other (is_put b front) refl

  others_are : (b : ℕ) → is_put b pages ≡ false → page_of new.view b ≡ old_page b
  others_are b h = elsewhere b not_here ∙ put_off front b (old_page b) (both_false (is_put b front) (is_put b (stopped ∷ rest)) none).0
    where
      none : (is_put b front || is_put b (stopped ∷ rest)) ≡ false
      none = sym (put_either front (stopped ∷ rest) b) ∙ h

      not_here : stopped.block ≡ b → ⊥
      not_here e = true≢false (sym (eq-eqb stopped.block b e) ∙ (both_false (stopped.block == b) (is_put b rest) (both_false (is_put b front) (is_put b (stopped ∷ rest)) none).1).0)

  partly : IsPartlyPut pages old.view new.view
  partly = record { some = (let s = length-append front (stopped ∷ rest) in omega (arith, s)); each = λ b put. each_is b; others = others_are }

pub partly_put : {tells crashes : Type 0} (told : tells) (pages : List DataPage) (dirty : List Dirty) (old new : Store) (blocks : ℕ) → LieWithin blocks pages → blocks ≤ length old.view → blocks ≤ length old.disk → AreClean pages dirty → AreTorn tells crashes pages dirty old new
    → EachOnce pages → IsPartlyPut pages old.view new.view
partly_put told pages dirty old new blocks lie fits on_disk clean t once = subst (λ (ds : List DataPage). IsPartlyPut ds old.view new.view) (sym t.split)
    (partly old new blocks fits t.front t.rest t.stopped (subst (LieWithin blocks) t.split lie) (subst EachOnce t.split once) t.mid.view (t.put.view told (clean_front t.front (t.stopped ∷ t.rest) dirty all_clean))
    tears.0 tears.1 (t.torn.view told stopped_clean ∙ ap (set t.mid.view t.stopped.block) is_torn))
  where
    all_clean : AreClean (t.front ++ t.stopped ∷ t.rest) dirty
    all_clean = subst (λ (ds : List DataPage). AreClean ds dirty) t.split clean

    stopped_clean : dirty_of dirty t.stopped.block ≡ None
    stopped_clean = all_clean t.stopped.block (put_either t.front (t.stopped ∷ t.rest) t.stopped.block ∙ at (is_put t.stopped.block t.front))
      where
        at : (a : Bool) → (a || is_put t.stopped.block (t.stopped ∷ t.rest)) ≡ true
        at true = refl
        at false = ap (λ (x : Bool). x || is_put t.stopped.block t.rest) (eq-eqb t.stopped.block t.stopped.block refl)

    tears : TearsPage t.stopped.block t.stopped.page.0 t.mid.disk new.disk
    tears = t.torn.disk told

    length_mid : length t.mid.disk ≡ length old.disk
    length_mid = ap (λ (image : Image). length image) (t.put.disk told) ∙ put_length t.front old.disk

    is_torn : page_of new.disk t.stopped.block ≡ torn tears.0 t.stopped.page.0 (page_of t.mid.view t.stopped.block)
    is_torn = ap (λ (image : Image). page_of image t.stopped.block) tears.2
        ∙ get_or-set_same t.mid.disk t.stopped.block (torn tears.0 t.stopped.page.0 (page_of t.mid.disk t.stopped.block)) [] (let l = (lie_behind blocks t.front (t.stopped ∷ t.rest) (subst (LieWithin blocks) t.split lie)).0 in omega (arith, l, on_disk, length_mid))
        ∙ ap (torn tears.0 t.stopped.page.0) (sym (t.torn.shown told stopped_clean))
