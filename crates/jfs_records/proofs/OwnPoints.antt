-- Where every SYNCPT stands for itself, redo begins at the newest one whose record is there.
use Rattle.std.proofs.Common.{◌≡◌, ◌⊎◌, inl, inr, ◌+◌, ℕ, zero, suc, true, List, [], ◌∷◌, ◌++◌, length, take, Option, Some, None, refl, sym, ap, subst, ◌∙◌, append_assoc, arith}
use Rattle.std.specs.List.{AllByRecursion}
use Rattle.std.proofs.lemmas.Bool.{true≢false}
use Rattle.jfs_logfmt.specs.declared.log_record.Record.{Record}
use Rattle.jfs_logfmt.specs.declared.log_record.Record.TheVariants as records
use Rattle.jfs_logpages.specs.Back.{address_at}
use Rattle.jfs_records.specs.Records.{records_of}
use Rattle.jfs_logpages.specs.Records.{size_of, sync_in, later_or, newest_sync, BeginsAt}
use Rattle.jfs_records.specs.Entries.{stamped, chained, Item, entry, point, item_records, item_size, log_records, text_size}
use Rattle.jfs_records.specs.Laws.{BeginsWithin, IsOwn, OwnPointsBegin}
use Rattle.std.proofs.Math.Seq.{take-append-add}
use Rattle.jfs_records.proofs.ReadBack.{has_edits, HaveEdits, have-records, records-append}

no_sync : (tid back : ℕ) (r : Record) → has_edits r ≡ true → sync_in (stamped tid back r) ≡ None
no_sync tid back (records.Redo _ _ _ _ _ _ _ _) h = refl
no_sync tid back (records.NoRedo _ _ _ _ _ _) h = refl
no_sync tid back (records.Update _ _ _ _ _ _) h = refl
no_sync tid back (records.Commit _ _) h = absurd (true≢false (sym h))
no_sync tid back (records.SyncPt _) h = absurd (true≢false (sym h))

-- a front of an entry's records and more has no SYNCPT, or has them all
front_chained : (ring tid back at : ℕ) (rs more : List Record) (k : ℕ) → HaveEdits rs →
    (newest_sync (take k (chained ring tid back at rs ++ more)) ≡ None) ⊎ ((j : ℕ) × (take k (chained ring tid back at rs ++ more) ≡ chained ring tid back at rs ++ take j more))
front_chained ring tid back at rs more zero hs = inl refl
front_chained ring tid back at [] more (suc k) hs = inr (k, refl)
front_chained ring tid back at (r ∷ rs) more (suc k) hs = by (front_chained ring tid next (at + size_of r) rs more k hs.1)
  where
    next : ℕ
    next = address_at ring 0 (at + size_of r)

    rest : List Record
    rest = chained ring tid next (at + size_of r) rs

    by : (newest_sync (take k (rest ++ more)) ≡ None) ⊎ ((j : ℕ) × (take k (rest ++ more) ≡ rest ++ take j more))
        → (newest_sync (stamped tid back r ∷ take k (rest ++ more)) ≡ None) ⊎ ((j : ℕ) × (stamped tid back r ∷ take k (rest ++ more) ≡ stamped tid back r ∷ (rest ++ take j more)))
    by (inl e) = inl (ap (λ (o : Option ℕ). later_or o (sync_in (stamped tid back r))) e ∙ no_sync tid back r hs.0)
    by (inr e) = inr (e.0, ap (λ (l : List Record). stamped tid back r ∷ l) e.1)

none_chained : (ring tid back at : ℕ) (rs more : List Record) → HaveEdits rs → newest_sync more ≡ None → newest_sync (chained ring tid back at rs ++ more) ≡ None
none_chained ring tid back at [] more hs e = ap (λ (o : Option ℕ). later_or o None) e
none_chained ring tid back at (r ∷ rs) more hs e =
    ap (λ (o : Option ℕ). later_or o (sync_in (stamped tid back r))) (none_chained ring tid (address_at ring 0 (at + size_of r)) (at + size_of r) rs more hs.1 e) ∙ no_sync tid back r hs.0

-- one item more in front
behind : (ring at : ℕ) (i : Item) (is : List Item) (rs : List Record) → BeginsWithin ring (at + item_size i) rs is → BeginsWithin ring at (item_records ring at i ++ rs) (i ∷ is)
behind ring at i is rs b =
    let place : at + item_size i + text_size b.pre ≡ at + (item_size i + text_size b.pre) = omega arith in
    let pre : List Record = log_records ring (at + item_size i) b.pre in
    let f : ℕ → List Record = λ n. take b.some (log_records ring n b.post) in
    let P : ℕ → Type 0 = λ n. BeginsAt ring n (f n) in
    record {
      pre = i ∷ b.pre;
      post = b.post;
      parts = ap (λ (l : List Item). i ∷ l) b.parts;
      some = b.some;
      are = ap (λ (l : List Record). item_records ring at i ++ l) (b.are ∙ ap (λ (n : ℕ). pre ++ f n) place) ∙ sym (append_assoc (item_records ring at i) pre (f (at + (item_size i + text_size b.pre))));
      begins = subst P place b.begins;
    }

-- the newest SYNCPT that is there, or there is none
own : (ring at : ℕ) (is : List Item) (k : ℕ) → AllByRecursion IsOwn is → BeginsWithin ring at (take k (log_records ring at is)) is ⊎ (newest_sync (take k (log_records ring at is)) ≡ None)
own ring at [] zero all = inr refl
own ring at [] (suc k) all = inr refl
own ring at (entry tid tx ∷ is) k all = by (front_chained ring tid 0 at (records_of tx) rest k (have-records tx)) (λ j. own ring (at + item_size (entry tid tx)) is j all.1)
  where
    rest : List Record
    rest = log_records ring (at + item_size (entry tid tx)) is

    mine : List Record
    mine = chained ring tid 0 at (records_of tx)

    by : (newest_sync (take k (mine ++ rest)) ≡ None) ⊎ ((j : ℕ) × (take k (mine ++ rest) ≡ mine ++ take j rest))
        → ((j : ℕ) → BeginsWithin ring (at + item_size (entry tid tx)) (take j rest) is ⊎ (newest_sync (take j rest) ≡ None))
        → BeginsWithin ring at (take k (mine ++ rest)) (entry tid tx ∷ is) ⊎ (newest_sync (take k (mine ++ rest)) ≡ None)
    by (inl e) later = inr e
    by (inr e) later = at_it (later e.0)
      where
        at_it : BeginsWithin ring (at + item_size (entry tid tx)) (take e.0 rest) is ⊎ (newest_sync (take e.0 rest) ≡ None) → BeginsWithin ring at (take k (mine ++ rest)) (entry tid tx ∷ is) ⊎ (newest_sync (take k (mine ++ rest)) ≡ None)
        at_it (inl b) = let P : List Record → Type 0 = λ l. BeginsWithin ring at l (entry tid tx ∷ is) in inl (subst P (sym e.1) (behind ring at (entry tid tx) is (take e.0 rest) b))
        at_it (inr n) = inr (ap newest_sync e.1 ∙ none_chained ring tid 0 at (records_of tx) (take e.0 rest) (have-records tx) n)
own ring at (point sync ∷ is) zero all = inr refl
own ring at (point sync ∷ is) (suc k) all = by (own ring (at + 36) is k all.1)
  where
    rest : List Record
    rest = take k (log_records ring (at + 36) is)

    by : BeginsWithin ring (at + 36) rest is ⊎ (newest_sync rest ≡ None) → BeginsWithin ring at (records.SyncPt sync ∷ rest) (point sync ∷ is) ⊎ (newest_sync (records.SyncPt sync ∷ rest) ≡ None)
    by (inl b) = inl (behind ring at (point sync) is rest b)
    by (inr n) =
        let zero_more : at ≡ at + 0 = omega arith in
        let f : ℕ → List Record = λ n. take (suc k) (log_records ring n (point sync ∷ is)) in
        let P : ℕ → Type 0 = λ n. BeginsAt ring n (f n) in
        inl (record { pre = []; post = point sync ∷ is; parts = refl; some = suc k; are = ap f zero_more; begins = subst P zero_more (inr (ap (λ (n : ℕ). records.SyncPt n) all.0, n)) })

-- where the first item is a SYNCPT that is there, redo begins somewhere
pub own_begins : (ring at : ℕ) (is : List Item) (k : ℕ) → AllByRecursion IsOwn (point 0 ∷ is) → BeginsWithin ring at (take (suc k) (log_records ring at (point 0 ∷ is))) (point 0 ∷ is)
own_begins ring at is k all = by (own ring at (point 0 ∷ is) (suc k) all)
  where
    rs : List Record
    rs = take k (log_records ring (at + 36) is)

    some : (o : Option ℕ) → later_or o (Some 0) ≡ None → ⊥
    some None e = grind arith
    some (Some x) e = grind arith

    by : BeginsWithin ring at (records.SyncPt 0 ∷ rs) (point 0 ∷ is) ⊎ (newest_sync (records.SyncPt 0 ∷ rs) ≡ None) → BeginsWithin ring at (records.SyncPt 0 ∷ rs) (point 0 ∷ is)
    by (inl b) = b
    by (inr n) = absurd (some (newest_sync rs) n)

-- what a crash while a group is written asks, where the first item is a SYNCPT
pub own_premise : OwnPointsBegin
own_premise ring at is js all k =
    let old : List Record = log_records ring at (point 0 ∷ is) in
    let new : List Record = log_records ring (at + text_size (point 0 ∷ is)) js in
    let e : take (length old + k) (log_records ring at ((point 0 ∷ is) ++ js)) ≡ old ++ take k new = ap (λ (l : List Record). take (length old + k) l) (records-append ring at (point 0 ∷ is) js) ∙ take-append-add old new k in
    let n : suc (length (log_records ring (at + 36) is) + k) ≡ length old + k = omega arith in
    let P : ℕ → Type 0 = λ m. BeginsWithin ring at (take m (log_records ring at ((point 0 ∷ is) ++ js))) ((point 0 ∷ is) ++ js) in
    let Q : List Record → Type 0 = λ l. BeginsWithin ring at l ((point 0 ∷ is) ++ js) in
    subst Q e (subst P n (own_begins ring at (is ++ js) (length (log_records ring (at + 36) is) + k) all))
