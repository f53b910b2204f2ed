-- The records of entries are a chain, and so is a front of them.
use Rattle.std.proofs.Common.{◌≡◌, ◌<◌, ◌≤◌, ◌+◌, ◌/◌, ◌-◌, ◌^◌, ◌==◌, ℕ, zero, suc, true, List, [], ◌∷◌, ◌++◌, take, Option, Some, None, refl, sym, subst, ◌∙◌, arith}
use Rattle.std.specs.Prelude.{⊤}
use Rattle.std.proofs.lemmas.Bool.{and_from, eq-eqb, true≢false}
use Rattle.std.proofs.Math.Nat.{mod-lt}
use Rattle.jfs_logfmt.specs.declared.log_record.Record.{Record}
use Rattle.jfs_logfmt.specs.declared.log_record.Record.TheVariants as records
use Rattle.jfs_logpages.specs.Back.{address_at, is_followed, goes_on, back_of}
use Rattle.jfs_records.specs.Records.{records_of}
use Rattle.jfs_logpages.specs.Records.{size_of, sizes_of, AreWhole, first_record_of, IsChain}
use Rattle.jfs_records.specs.Entries.{stamped, chained, Item, entry, point, item_records, item_size, log_records}
use Rattle.jfs_records.specs.Limits.{ItemFits, ItemsFit}
use Rattle.jfs_records.proofs.ReadBack.{has_edits, HaveEdits, have-records, size-stamped}
use Rattle.jfs_records.proofs.Whole.{whole_records, whole_stamped}

-- the first of them begins a transaction, or is a SYNCPT
abbrev pub IsAnew : Option Record → Type 0
IsAnew None = ⊤
IsAnew (Some r) = back_of r ≡ 0

same : (n : ℕ) → (n == n) ≡ true
same n = eq-eqb n n refl

goes : (at tid : ℕ) (r : Record) → has_edits r ≡ true → goes_on at tid (stamped tid at r) ≡ true
goes at tid (records.Redo _ _ _ _ _ _ _ _) h = and_from (tid == tid) (at == at) (same tid) (same at)
goes at tid (records.NoRedo _ _ _ _ _ _) h = and_from (tid == tid) (at == at) (same tid) (same at)
goes at tid (records.Update _ _ _ _ _ _) h = and_from (tid == tid) (at == at) (same tid) (same at)
goes at tid (records.Commit _ _) h = absurd (true≢false (sym h))
goes at tid (records.SyncPt _) h = absurd (true≢false (sym h))

next_goes : (ring tid back at : ℕ) (rs more : List Record) → HaveEdits rs → (a : ℕ) → (r : Record) → has_edits r ≡ true → is_followed back (stamped tid a r) (first_record_of (chained ring tid back at rs ++ more)) ≡ true
next_goes ring tid back at rs more hs a r h = of r h ∙ next rs hs
  where
    first : List Record → Record
    first [] = records.Commit tid back
    first (s ∷ ss) = stamped tid back s

    of : (r : Record) → has_edits r ≡ true → is_followed back (stamped tid a r) (first_record_of (chained ring tid back at rs ++ more)) ≡ goes_on back tid (first rs)
    of r h = by rs r h
      where
        by : (rs : List Record) (r : Record) → has_edits r ≡ true → is_followed back (stamped tid a r) (first_record_of (chained ring tid back at rs ++ more)) ≡ goes_on back tid (first rs)
        by [] (records.Redo _ _ _ _ _ _ _ _) h = refl
        by [] (records.NoRedo _ _ _ _ _ _) h = refl
        by [] (records.Update _ _ _ _ _ _) h = refl
        by [] (records.Commit _ _) h = absurd (true≢false (sym h))
        by [] (records.SyncPt _) h = absurd (true≢false (sym h))
        by (s ∷ ss) (records.Redo _ _ _ _ _ _ _ _) h = refl
        by (s ∷ ss) (records.NoRedo _ _ _ _ _ _) h = refl
        by (s ∷ ss) (records.Update _ _ _ _ _ _) h = refl
        by (s ∷ ss) (records.Commit _ _) h = absurd (true≢false (sym h))
        by (s ∷ ss) (records.SyncPt _) h = absurd (true≢false (sym h))

    next : (rs : List Record) → HaveEdits rs → goes_on back tid (first rs) ≡ true
    next [] hs = and_from (tid == tid) (back == back) (same tid) (same back)
    next (s ∷ ss) hs = goes back tid s hs.0

anew_follows : (at tid back : ℕ) (o : Option Record) → IsAnew o → is_followed at (records.Commit tid back) o ≡ true
anew_follows at tid back None h = refl
anew_follows at tid back (Some r) h = eq-eqb (back_of r) 0 h

chain_chained : (ring tid back at : ℕ) (rs more : List Record) → HaveEdits rs → IsAnew (first_record_of more) → IsChain ring (at + (sizes_of rs + 36)) more → IsChain ring at (chained ring tid back at rs ++ more)
chain_chained ring tid back at [] more hs anew rest =
    (anew_follows (address_at ring 0 (at + size_of (records.Commit tid back))) tid back (first_record_of more) anew, subst (λ (n : ℕ). IsChain ring n more) (omega arith) rest)
chain_chained ring tid back at (r ∷ rs) more hs anew rest =
    let next = address_at ring 0 (at + size_of r) in
    let later = chain_chained ring tid next (at + size_of r) rs more hs.1 anew (subst (λ (n : ℕ). IsChain ring n more) (omega arith) rest) in
    let first = next_goes ring tid next (at + size_of r) rs more hs.1 back r hs.0 in
    let P : ℕ → Type 0 = λ n. (is_followed (address_at ring 0 (at + n)) (stamped tid back r) (first_record_of (chained ring tid next (at + size_of r) rs ++ more)) ≡ true) × IsChain ring (at + n) (chained ring tid next (at + size_of r) rs ++ more) in
    subst P (sym (size-stamped tid back r)) (first, later)

head_anew : (ring at : ℕ) (is : List Item) → IsAnew (first_record_of (log_records ring at is))
head_anew ring at [] = tt
head_anew ring at (entry tid tx ∷ is) = by (records_of tx) (have-records tx)
  where
    by : (rs : List Record) → HaveEdits rs → IsAnew (first_record_of (chained ring tid 0 at rs ++ log_records ring (at + item_size (entry tid tx)) is))
    by [] hs = refl
    by (records.Redo _ _ _ _ _ _ _ _ ∷ rs) hs = refl
    by (records.NoRedo _ _ _ _ _ _ ∷ rs) hs = refl
    by (records.Update _ _ _ _ _ _ ∷ rs) hs = refl
    by (records.Commit _ _ ∷ rs) hs = absurd (true≢false (sym hs.0))
    by (records.SyncPt _ ∷ rs) hs = absurd (true≢false (sym hs.0))
head_anew ring at (point sync ∷ is) = refl

point_follows : (at sync : ℕ) (o : Option Record) → IsAnew o → is_followed at (records.SyncPt sync) o ≡ true
point_follows at sync None h = refl
point_follows at sync (Some r) h = eq-eqb (back_of r) 0 h

pub chain_log : (ring at : ℕ) (is : List Item) → IsChain ring at (log_records ring at is)
chain_log ring at [] = tt
chain_log ring at (entry tid tx ∷ is) =
    let next = at + item_size (entry tid tx) in
    chain_chained ring tid 0 at (records_of tx) (log_records ring next is) (have-records tx) (head_anew ring next is) (chain_log ring next is)
chain_log ring at (point sync ∷ is) =
    (point_follows (address_at ring 0 (at + 36)) sync (first_record_of (log_records ring (at + 36) is)) (head_anew ring (at + 36) is), chain_log ring (at + 36) is)

follows_front : (at : ℕ) (r : Record) (rs : List Record) (k : ℕ) → is_followed at r (first_record_of rs) ≡ true → is_followed at r (first_record_of (take k rs)) ≡ true
follows_front at r rs zero h = refl
follows_front at r [] (suc k) h = refl
follows_front at r (s ∷ ss) (suc k) h = h

pub chain_front : (ring at : ℕ) (rs : List Record) (k : ℕ) → IsChain ring at rs → IsChain ring at (take k rs)
chain_front ring at rs zero c = tt
chain_front ring at [] (suc k) c = tt
chain_front ring at (r ∷ rs) (suc k) c = (follows_front (address_at ring 0 (at + size_of r)) r rs k c.0, chain_front ring (at + size_of r) rs k c.1)

-- ---- none of them breaks a rule

address_small : (ring place : ℕ) → 0 < ring → ring < 2 ^ 16 → address_at ring 0 place < 2 ^ 32
address_small ring place some most =
    omega (arith, mod-lt (0 + (place - 1) / 4080) {m = ring} some, most)

whole_chained : (ring blocks tid back at : ℕ) → 0 < ring → ring < 2 ^ 16 → tid < 2 ^ 32 → back < 2 ^ 32 → (rs : List Record) → AreWhole blocks rs → AreWhole blocks (chained ring tid back at rs)
whole_chained ring blocks tid back at some most t b [] gs = (record { fits = tt; kept = tt; numbers = (t, b) }, tt)
whole_chained ring blocks tid back at some most t b (r ∷ rs) gs =
    (whole_stamped blocks tid back r t b gs.0, whole_chained ring blocks tid (address_at ring 0 (at + size_of r)) (at + size_of r) some most t (address_small ring (at + size_of r) some most) rs gs.1)

whole_both : (blocks : ℕ) (rs ss : List Record) → AreWhole blocks rs → AreWhole blocks ss → AreWhole blocks (rs ++ ss)
whole_both blocks [] ss a b = b
whole_both blocks (r ∷ rs) ss a b = (a.0, whole_both blocks rs ss a.1 b)

whole_item : (ring blocks at : ℕ) → 0 < ring → ring < 2 ^ 16 → blocks ≤ 2 ^ 23 → (i : Item) → ItemFits blocks i → AreWhole blocks (item_records ring at i)
whole_item ring blocks at some most size (entry tid tx) fits = whole_chained ring blocks tid 0 at some most fits.0 (omega arith) (records_of tx) (whole_records blocks size tx fits.1)
whole_item ring blocks at some most size (point sync) fits = (record { fits = tt; kept = tt; numbers = fits }, tt)

pub whole_log : (ring blocks at : ℕ) → 0 < ring → ring < 2 ^ 16 → blocks ≤ 2 ^ 23 → (is : List Item) → ItemsFit blocks is → AreWhole blocks (log_records ring at is)
whole_log ring blocks at some most size [] fits = tt
whole_log ring blocks at some most size (i ∷ is) fits =
    whole_both blocks (item_records ring at i) (log_records ring (at + item_size i) is) (whole_item ring blocks at some most size i fits.0) (whole_log ring blocks (at + item_size i) some most size is fits.1)

pub whole_front : (blocks : ℕ) (rs : List Record) (k : ℕ) → AreWhole blocks rs → AreWhole blocks (take k rs)
whole_front blocks rs zero gs = tt
whole_front blocks [] (suc k) gs = tt
whole_front blocks (r ∷ rs) (suc k) gs = (gs.0, whole_front blocks rs k gs.1)

pub front_anew : (rs : List Record) (k : ℕ) → IsAnew (first_record_of rs) → IsAnew (first_record_of (take k rs))
front_anew rs zero h = tt
front_anew [] (suc k) h = tt
front_anew (r ∷ rs) (suc k) h = h

pub log_anew : (ring at : ℕ) (is : List Item) (k : ℕ) → IsAnew (first_record_of (take k (log_records ring at is)))
log_anew ring at is k = front_anew (log_records ring at is) k (head_anew ring at is)
