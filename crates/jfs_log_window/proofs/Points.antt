-- Where redo begins among the records of events: at the newest SYNCPT.
use Rattle.std.proofs.Common.{◌≡◌, ◌⊎◌, inl, inr, ◌+◌, ◌++◌, ◌<◌, ℕ, zero, suc, Bool, true, false, List, [], ◌∷◌, take, if◌then◌else◌, Option, Some, None, refl, sym, ap, subst, ◌∙◌, arith}
use Rattle.std.specs.List.{AllByRecursion}
use Rattle.jfs_logfmt.specs.declared.log_record.Record.{Record}
use Rattle.jfs_logfmt.specs.declared.log_record.Record.TheVariants as records
use Rattle.jfs_records.specs.logpages.specs.Back.{address_at}
use Rattle.jfs_records.specs.logpages.specs.Records.{size_of, sync_in, later_or, newest_sync, BeginsAt}
use Rattle.jfs_records.specs.Records.{records_of}
use Rattle.jfs_records.specs.Entries.{Item, entry, point, stamped, chained, item_records, item_size, log_records}
use Rattle.jfs_records.specs.Laws.{IsOwn}
use Rattle.jfs_records.proofs.ReadBack.{has_edits, HaveEdits, have-records}
use Rattle.jfs_halves.specs.Entry.{Happened}
use Rattle.jfs_log_window.specs.Events.{Event, Entered, Pointed, count, points_in, items_from}

-- ---- no SYNCPT of these gives another address than 0

abbrev IsOwnSync : Option ℕ → Type 0
IsOwnSync o = (o ≡ None) ⊎ (o ≡ Some 0)

abbrev AreOwn : List Record → Type 0
AreOwn rs = AllByRecursion (λ r. IsOwnSync (sync_in r)) rs

own_append : (xs ys : List Record) → AreOwn xs → AreOwn ys → AreOwn (xs ++ ys)
own_append [] ys a b = b
own_append (x ∷ xs) ys a b = (a.0, own_append xs ys a.1 b)

own_take : (k : ℕ) (rs : List Record) → AreOwn rs → AreOwn (take k rs)
own_take zero rs a = tt
own_take (suc k) [] a = tt
own_take (suc k) (r ∷ rs) a = (a.0, own_take k rs a.1)

own_stamped : (tid back : ℕ) (r : Record) → has_edits r ≡ true → IsOwnSync (sync_in (stamped tid back r))
own_stamped tid back (records.Redo _ _ _ _ _ _ _ _) h = inl refl
own_stamped tid back (records.NoRedo _ _ _ _ _ _) h = inl refl
own_stamped tid back (records.Update _ _ _ _ _ _) h = inl refl
own_stamped tid back (records.Commit _ _) h = inl refl
own_stamped tid back (records.SyncPt _) h = absurd (cc (h))

own_chained : (ring tid back at : ℕ) (rs : List Record) → HaveEdits rs → AreOwn (chained ring tid back at rs)
own_chained ring tid back at [] hs = (inl refl, tt)
own_chained ring tid back at (r ∷ rs) hs = (own_stamped tid back r hs.0, own_chained ring tid (address_at ring 0 (at + size_of r)) (at + size_of r) rs hs.1)

own_item : (ring at : ℕ) (i : Item) → IsOwn i → AreOwn (item_records ring at i)
own_item ring at (entry tid tx) own = own_chained ring tid 0 at (records_of tx) (have-records tx)
own_item ring at (point sync) own = (inr (ap (λ (n : ℕ). Some n) own), tt)

own_log : (ring at : ℕ) (is : List Item) → AllByRecursion IsOwn is → AreOwn (log_records ring at is)
own_log ring at [] own = tt
own_log ring at (i ∷ is) own = own_append (item_records ring at i) (log_records ring (at + item_size i) is) (own_item ring at i own.0) (own_log ring (at + item_size i) is own.1)

own_newest : (rs : List Record) → AreOwn rs → IsOwnSync (newest_sync rs)
own_newest [] a = inl refl
own_newest (r ∷ rs) a = by (own_newest rs a.1)
  where
    by : IsOwnSync (newest_sync rs) → IsOwnSync (newest_sync (r ∷ rs))
    by (inl e) = subst IsOwnSync (sym (ap (λ (o : Option ℕ). later_or o (sync_in r)) e)) a.0
    by (inr e) = inr (ap (λ (o : Option ℕ). later_or o (sync_in r)) e)

-- ---- so redo begins at one

no_address : (ring at : ℕ) (o : Option ℕ) → IsOwnSync o → o ≡ Some (address_at ring 0 at) → ⊥
no_address ring at o (inl e) is = absurd (cc (e, is))
no_address ring at o (inr e) is = some (address_at ring 0 at) (omega arith) (sym e ∙ is)
  where
    some : (a : ℕ) → 0 < a → ◌≡◌ {A = Option ℕ} (Some 0) (Some a) → ⊥
    some zero low f = omega (arith, low)
    some (suc a) low f = absurd (cc (f))

no_head : (ring tid back at : ℕ) (rs : List Record) (r : Record) (more rest : List Record) → HaveEdits rs → chained ring tid back at rs ++ more ≡ r ∷ rest → r ≡ records.SyncPt 0 → ⊥
no_head ring tid back at [] r more rest hs e is = absurd (cc (e, is))
no_head ring tid back at (x ∷ xs) r more rest hs e is = by x hs.0 (heads (stamped tid back x) (chained ring tid (address_at ring 0 (at + size_of x)) (at + size_of x) xs ++ more) r rest e ∙ is)
  where
    heads : (a : Record) (more : List Record) (b : Record) (bs : List Record) → a ∷ more ≡ b ∷ bs → a ≡ b
    heads a more b bs f = cc

    by : (x : Record) → has_edits x ≡ true → stamped tid back x ≡ records.SyncPt 0 → ⊥
    by (records.Redo _ _ _ _ _ _ _ _) h f = absurd (cc (f))
    by (records.NoRedo _ _ _ _ _ _) h f = absurd (cc (f))
    by (records.Update _ _ _ _ _ _) h f = absurd (cc (f))
    by (records.Commit _ _) h f = absurd (cc (f))
    by (records.SyncPt _) h f = absurd (cc (h))

-- the first record of a front, where there is one
front_is : (k : ℕ) (all : List Record) (r : Record) (rs : List Record) → take k all ≡ r ∷ rs → (rest : List Record) × (all ≡ r ∷ rest)
front_is zero all r rs e = absurd (cc (e))
front_is (suc k) [] r rs e = absurd (cc (e))
front_is (suc k) (x ∷ xs) r rs e = (xs, ap (λ (y : Record). y ∷ xs) (heads x (take k xs) r rs e))
  where
    heads : (a : Record) (more : List Record) (b : Record) (bs : List Record) → a ∷ more ≡ b ∷ bs → a ≡ b
    heads a more b bs f = cc

at_point : (ring at : ℕ) (post : List Item) (rs : List Record) → AllByRecursion IsOwn post → AreOwn rs → ((r : Record) (tail : List Record) → rs ≡ r ∷ tail → (rest : List Record) × (log_records ring at post ≡ r ∷ rest)) → BeginsAt ring at rs
    → (rest : List Item) × (post ≡ point 0 ∷ rest)
at_point ring at post [] own syncs first begins = absurd begins
at_point ring at post (r ∷ rs) own syncs first (inl gives) = absurd (no_address ring (at + size_of r) (newest_sync (r ∷ rs)) (own_newest (r ∷ rs) syncs) gives)
at_point ring at [] (r ∷ rs) own syncs first (inr is) = absurd (cc ((first r rs refl).1))
at_point ring at (entry tid tx ∷ post) (r ∷ rs) own syncs first (inr is) =
    let f = first r rs refl in
    absurd (no_head ring tid 0 at (records_of tx) r (log_records ring (at + item_size (entry tid tx)) post) f.0 (have-records tx) f.1 is.0)
at_point ring at (point sync ∷ post) (r ∷ rs) own syncs first (inr is) = (post, ap (λ (n : ℕ). point n ∷ post) own.0)

pub begins_at_point : (ring at : ℕ) (post : List Item) (some : ℕ) → AllByRecursion IsOwn post → BeginsAt ring at (take some (log_records ring at post)) → (rest : List Item) × (post ≡ point 0 ∷ rest)
begins_at_point ring at post some own begins =
    at_point ring at post (take some (log_records ring at post)) own (own_take some (log_records ring at post) (own_log ring at post own)) (λ r tail e. front_is some (log_records ring at post) r tail e) begins

-- ---- a SYNCPT among what stands in the log was made at some moment

pub record IsSplit (n : ℕ) (es : List Event) (pre rest : List Item) : Type 0 where
  pub before : List Event
  pub behind : List Event
  pub parts : es ≡ before ++ Pointed ∷ behind
  pub pre_is : items_from n before ≡ pre
  pub rest_is : items_from (n + count before) behind ≡ rest

tails : (a : Item) (more : List Item) (b : Item) (bs : List Item) → a ∷ more ≡ b ∷ bs → more ≡ bs
tails a more b bs f = cc

heads : (a : Item) (more : List Item) (b : Item) (bs : List Item) → a ∷ more ≡ b ∷ bs → a ≡ b
heads a more b bs f = cc

none : (pre rest : List Item) (s : ℕ) → [] ≡ pre ++ point s ∷ rest → ⊥
none [] rest s e = absurd (cc (e))
none (i ∷ pre) rest s e = absurd (cc (e))

-- what stands of an entry in the log, if it does
abbrev own_if : Bool → ℕ → Happened → List Item
own_if b n h = if b then entry (suc n) h.noted ∷ [] else []

-- the split behind it
abbrev IsFound : Bool → ℕ → Happened → List Event → List Item → List Item → Type 0
IsFound b n h es rest pre = (before : List Event) × (behind : List Event) × (es ≡ before ++ Pointed ∷ behind) × (own_if b n h ++ items_from (suc n) before ≡ pre) × (items_from (suc n + count before) behind ≡ rest)

pub split_at : (n : ℕ) (es : List Event) (pre rest : List Item) (s : ℕ) → items_from n es ≡ pre ++ point s ∷ rest → IsSplit n es pre rest
split_at n [] pre rest s e = absurd (none pre rest s e)
split_at n (Pointed ∷ es) [] rest s e = record {
  before = [];
  behind = es;
  parts = refl;
  pre_is = refl;
  rest_is = let zero_more : n + 0 ≡ n = omega arith in ap (λ (k : ℕ). items_from k es) zero_more ∙ tails (point 0) (items_from n es) (point s) rest e;
}
split_at n (Pointed ∷ es) (i ∷ pre) rest s e =
    let later = split_at n es pre rest s (tails (point 0) (items_from n es) i (pre ++ point s ∷ rest) e) in
    record {
      before = Pointed ∷ later.before;
      behind = later.behind;
      parts = ap (λ (l : List Event). Pointed ∷ l) later.parts;
      pre_is = ap (λ (l : List Item). point 0 ∷ l) later.pre_is ∙ ap (λ (x : Item). x ∷ pre) (heads (point 0) (items_from n es) i (pre ++ point s ∷ rest) e);
      rest_is = later.rest_is;
    }
split_at n (Entered h ∷ es) pre rest s e =
    let found = by h.logs pre e (λ (front : List Item) (f : items_from (suc n) es ≡ front ++ point s ∷ rest). split_at (suc n) es front rest s f) in
    let place : n + count (Entered h ∷ found.0) ≡ suc n + count found.0 = omega arith in
    record {
      before = Entered h ∷ found.0;
      behind = found.1;
      parts = ap (λ (l : List Event). Entered h ∷ l) found.2;
      pre_is = found.3;
      rest_is = ap (λ (k : ℕ). items_from k found.1) place ∙ found.4;
    }
  where
    by : (b : Bool) (pre : List Item) → own_if b n h ++ items_from (suc n) es ≡ pre ++ point s ∷ rest → ((front : List Item) → items_from (suc n) es ≡ front ++ point s ∷ rest → IsSplit (suc n) es front rest) → IsFound b n h es rest pre
    by false pre e behind = let later = behind pre e in (later.before, later.behind, later.parts, later.pre_is, later.rest_is)
    by true [] e behind = absurd (cc (heads (entry (suc n) h.noted) (items_from (suc n) es) (point s) rest e))
    by true (i ∷ pre) e behind =
        let later = behind pre (tails (entry (suc n) h.noted) (items_from (suc n) es) i (pre ++ point s ∷ rest) e) in (
          later.before,
          later.behind,
          later.parts,
          ap (λ (l : List Item). entry (suc n) h.noted ∷ l) later.pre_is ∙ ap (λ (x : Item). x ∷ pre) (heads (entry (suc n) h.noted) (items_from (suc n) es) i (pre ++ point s ∷ rest) e),
          later.rest_is,
        )

-- ---- the last one

pub record IsLast (es : List Event) : Type 0 where
  pub before : List Event
  pub behind : List Event
  pub parts : es ≡ before ++ Pointed ∷ behind
  pub none : points_in behind ≡ 0

pub last_of_all : (es : List Event) → (points_in es ≡ 0) ⊎ IsLast es
last_of_all [] = inl refl
last_of_all (Entered h ∷ es) = by (last_of_all es)
  where
    by : (points_in es ≡ 0) ⊎ IsLast es → (points_in (Entered h ∷ es) ≡ 0) ⊎ IsLast (Entered h ∷ es)
    by (inl e) = inl e
    by (inr l) = inr (record { before = Entered h ∷ l.before; behind = l.behind; parts = ap (λ (xs : List Event). Entered h ∷ xs) l.parts; none = l.none })
last_of_all (Pointed ∷ es) = by (last_of_all es)
  where
    by : (points_in es ≡ 0) ⊎ IsLast es → (points_in (Pointed ∷ es) ≡ 0) ⊎ IsLast (Pointed ∷ es)
    by (inl e) = inr (record { before = []; behind = es; parts = refl; none = e })
    by (inr l) = inr (record { before = Pointed ∷ l.before; behind = l.behind; parts = ap (λ (xs : List Event). Pointed ∷ xs) l.parts; none = l.none })

pub last_point : (es rest : List Event) → es ≡ Pointed ∷ rest → IsLast es
last_point es rest e = by (last_of_all es)
  where
    by : (points_in es ≡ 0) ⊎ IsLast es → IsLast es
    by (inl none) = absurd (omega (arith, none, ap points_in e))
    by (inr l) = l
