-- An entry's records, of which some are written.
use Rattle.std.proofs.Common.{◌≡◌, ◌<◌, ◌≤◌, ◌+◌, ◌-◌, ℕ, zero, suc, List, [], ◌∷◌, ◌++◌, length, drop, get_or, refl, sym, ap, subst, ◌∙◌, append_assoc, arith}
use Rattle.std.specs.List.{AllByRecursion}
use Rattle.std.specs.Prelude.{slice_set, Result, Ok, Err, OnOk}
use Rattle.jfs_logfmt.specs.declared.log_record.Record.TheVariants as kinds
use Rattle.std.proofs.lemmas.List.{length-append, drop-set-lt, drop_all}
use Rattle.std.proofs.Math.Seq.{drop-cons}
use Rattle.jfs_logpages.specs.Back.{address_at}
use Rattle.jfs_logfmt.proofs.Numbers.{length-text}
use Rattle.jfs_records.proofs.ReadBack.{size-stamped}
use Rattle.jfs_logfmt.specs.declared.log_record.Record.{Record}
use Rattle.jfs_logfmt.specs.Written.{Fits, text_of}
use Rattle.jfs_logpages.specs.Records.{size_of, sizes_of, log_text, ends_of}
use Rattle.jfs_records.specs.Entries.{stamped, chained}

pub record IsSoFar (ring number at : ℕ) (all : List Record) (old : List ℕ) (records : List Record) (now : List ℕ) (old_ends ends : List ℕ) (back start i : ℕ) : Type 0 where
  pub rest : now ++ log_text (chained ring number back (at + (length now - length old)) (drop i all)) ≡ old ++ log_text (chained ring number 0 at all)
  pub ended : ends ++ ends_of (length now) (chained ring number back (at + (length now - length old)) (drop i all)) ≡ old_ends ++ ends_of (length old) (chained ring number 0 at all)
  pub still : drop i records ≡ drop i all
  pub size : length now + sizes_of (drop i all) ≡ length old + sizes_of all
  pub fits : AllByRecursion Fits (drop i all)
  pub from : start ≡ length old
  pub long : length old ≤ length now

pub more : (at : ℕ) (old now new : List ℕ) (r : Record) → new ≡ now ++ text_of r → length old ≤ length now → 0 < at + (length new - length old)
more at old now new r e long = omega (arith, ap (λ (l : List ℕ). length l) e, length-append now (text_of r), length-text r, long)

drop_next : {A : Type 0} (i : ℕ) (xs : List A) → drop (suc i) xs ≡ drop 1 (drop i xs)
drop_next zero xs = refl
drop_next (suc i) [] = refl
drop_next (suc i) (x ∷ xs) = drop_next i xs

-- one record more
one_more : (ring number at : ℕ) (all : List Record) (old : List ℕ) (records : List Record) (now old_ends ends : List ℕ) (back start i : ℕ) (item : Record) (tail later : List Record) (new new_ends : List ℕ) →
    IsSoFar ring number at all old records now old_ends ends back start i → drop i all ≡ item ∷ tail → drop (i + 1) all ≡ tail → drop (i + 1) later ≡ tail → new ≡ now ++ text_of (stamped number back item) → new_ends ≡ ends ++ length new ∷ []
    → IsSoFar ring number at all old later new old_ends new_ends (address_at ring 0 (at + (length new - start))) start (i + 1)
one_more ring number at all old records now old_ends ends back start i item tail later new new_ends so here next still e ended =
    let size : length new ≡ length now + size_of item = omega (arith, ap (λ (l : List ℕ). length l) e, length-append now (text_of (stamped number back item)), length-text (stamped number back item), size-stamped number back item) in
    let p = at + (length now - length old) in
    let place : p + size_of item ≡ at + (length new - length old) = omega (arith, size, so.long) in
    let place' : at + (length new - length old) ≡ at + (length new - start) = omega (arith, so.from) in
    let f : ℕ → ℕ → List Record → List ℕ = λ a q l. log_text (chained ring number a q l) in
    let g : ℕ → ℕ → ℕ → List Record → List ℕ = λ n a q l. ends_of n (chained ring number a q l) in
    let there : length new ≡ length now + size_of (stamped number back item) = omega (arith, size, size-stamped number back item) in
    let whole : now ++ f back p (item ∷ tail) ≡ now ++ f back p (drop i all) = ap (λ (l : List Record). now ++ f back p l) (sym here) in
    record {
      rest = ap (λ (l : List Record). new ++ f (address_at ring 0 (at + (length new - start))) (at + (length new - length old)) l) next
          ∙ ap (λ (a : ℕ). new ++ f (address_at ring 0 a) (at + (length new - length old)) tail) (sym place')
          ∙ ap (λ (q : ℕ). new ++ f (address_at ring 0 q) q tail) (sym place)
          ∙ ap (λ (l : List ℕ). l ++ f (address_at ring 0 (p + size_of item)) (p + size_of item) tail) e
          ∙ append_assoc now (text_of (stamped number back item)) (f (address_at ring 0 (p + size_of item)) (p + size_of item) tail)
          ∙ whole ∙ so.rest;
      ended = ap (λ (l : List Record). new_ends ++ g (length new) (address_at ring 0 (at + (length new - start))) (at + (length new - length old)) l) next
          ∙ ap (λ (a : ℕ). new_ends ++ g (length new) (address_at ring 0 a) (at + (length new - length old)) tail) (sym place')
          ∙ ap (λ (q : ℕ). new_ends ++ g (length new) (address_at ring 0 q) q tail) (sym place)
          ∙ ap (λ (l : List ℕ). l ++ g (length new) (address_at ring 0 (p + size_of item)) (p + size_of item) tail) ended
          ∙ append_assoc ends (length new ∷ []) (g (length new) (address_at ring 0 (p + size_of item)) (p + size_of item) tail)
          ∙ ap (λ (n : ℕ). ends ++ n ∷ g n (address_at ring 0 (p + size_of item)) (p + size_of item) tail) there
          ∙ ap (λ (l : List Record). ends ++ g (length now) back p l) (sym here) ∙ so.ended;
      still = still ∙ sym next;
      size = omega (arith, size, so.size, ap sizes_of here, ap sizes_of next);
      fits = (let P : List Record → Type 0 = λ l. AllByRecursion Fits l in let g : AllByRecursion Fits (item ∷ tail) = subst P here so.fits in subst P (sym next) g.1);
      from = so.from;
      long = omega (arith, size, so.long);
    }

pub goes_on : (ring number at : ℕ) (all : List Record) (old : List ℕ) (records : List Record) (now old_ends ends : List ℕ) (back start i : ℕ) (item r : Record) (new new_ends : List ℕ) →
    IsSoFar ring number at all old records now old_ends ends back start i → i < length records → item ≡ get_or records i item → r ≡ stamped number back (get_or records i item) → new ≡ now ++ text_of r → new_ends ≡ ends ++ length new ∷ []
    → IsSoFar ring number at all old (slice_set records i r) new old_ends new_ends (address_at ring 0 (at + (length new - start))) start (i + 1)
goes_on ring number at all old records now old_ends ends back start i item r new new_ends so less is stamp e ended =
    let tail = drop (suc i) records in
    let here : drop i all ≡ item ∷ tail = sym so.still ∙ drop-cons records i item less ∙ ap (λ (x : Record). x ∷ tail) (sym is) in
    let plus : i + 1 ≡ suc i = omega arith in
    let next : drop (i + 1) all ≡ tail = ap (λ (n : ℕ). drop n all) plus ∙ drop_next i all ∙ ap (λ (l : List Record). drop 1 l) here in
    let later : drop (i + 1) (slice_set records i r) ≡ tail = drop-set-lt (i + 1) records i r (omega arith) ∙ ap (λ (n : ℕ). drop n records) plus in
    one_more ring number at all old records now old_ends ends back start i item tail (slice_set records i r) new new_ends so here next later (e ∙ ap (λ (x : Record). now ++ text_of x) (stamp ∙ ap (λ (x : Record). stamped number back x) (sym is))) ended

-- the COMMIT ends it
finished : (ring number at : ℕ) (all : List Record) (old : List ℕ) (records : List Record) (now old_ends ends : List ℕ) (back start i : ℕ) (new new_ends : List ℕ) → IsSoFar ring number at all old records now old_ends ends back start i → length all ≤ i
    → new ≡ now ++ text_of (kinds.Commit number back) → new_ends ≡ ends ++ length new ∷ [] → new_ends ≡ old_ends ++ ends_of (length old) (chained ring number 0 at all)
finished ring number at all old records now old_ends ends back start i new new_ends so past e ended =
    let size : length new ≡ length now + size_of (kinds.Commit number back) = omega (arith, ap (λ (l : List ℕ). length l) e, length-append now (text_of (kinds.Commit number back)), length-text (kinds.Commit number back)) in
    ended ∙ ap (λ (n : ℕ). ends ++ n ∷ []) size
    ∙ ap (λ (l : List Record). ends ++ ends_of (length now) (chained ring number back (at + (length now - length old)) l)) (sym (drop_all i all past))
    ∙ so.ended

pub finishes : {X E : Type 0} (result : Result X E) (ring number at : ℕ) (all : List Record) (old : List ℕ) (records : List Record) (now old_ends ends : List ℕ) (back start i : ℕ) (new new_ends : List ℕ) → IsSoFar ring number at all old records now old_ends ends back start i → length all ≤ i
    → OnOk result (new ≡ now ++ text_of (kinds.Commit number back)) → OnOk result (new_ends ≡ ends ++ length new ∷ []) → OnOk result (new_ends ≡ old_ends ++ ends_of (length old) (chained ring number 0 at all))
finishes (Ok x) ring number at all old records now old_ends ends back start i new new_ends so past e ended = finished ring number at all old records now old_ends ends back start i new new_ends so past e ended
finishes (Err x) ring number at all old records now old_ends ends back start i new new_ends so past e ended = tt
