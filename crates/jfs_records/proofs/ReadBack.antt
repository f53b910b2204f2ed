-- The records of entries say the entries' transactions.
use Rattle.std.proofs.Common.{◌≡◌, ◌≤◌, ◌⊎◌, inl, inr, ◌+◌, ℕ, zero, suc, Bool, true, false, List, [], ◌∷◌, ◌++◌, length, take, map, if◌then◌else◌, refl, sym, ap, ◌∙◌, append_assoc, arith}
use Rattle.std.specs.List.{AllByRecursion}
use Rattle.std.proofs.lemmas.List.{append-nil, length-append}
use Rattle.std.proofs.lemmas.Grind.{flat_map-append}
use Rattle.std.proofs.lemmas.Bool.{true≢false}
use Rattle.jfs_ranges.specs.declared.edit.Edit.{Edit}
use Rattle.jfs_ranges.specs.declared.edit.Edit.TheVariants.{Lines, NoRedo, Alloc, Free}
use Rattle.jfs_logfmt.specs.declared.log_record.Record.{Record}
use Rattle.jfs_logfmt.specs.declared.log_record.Record.TheVariants as records
use Rattle.jfs_logfmt.specs.Written.{body_text, text_of}
use Rattle.jfs_logfmt.proofs.Numbers.{length-text}
use Rattle.jfs_records.specs.declared.note.Note.{Note}
use Rattle.jfs_logpages.specs.Back.{address_at}
use Rattle.jfs_records.specs.Records.{Noted, record_for, record_of, joins, join, grouped, gathered, records_of, tx_of}
use Rattle.jfs_logpages.specs.Records.{size_of, sizes_of, log_text}
use Rattle.jfs_records.specs.Entries.{stamped, chained, Item, entry, point, item_records, item_size, text_size, log_records}
use Rattle.jfs_records.specs.Committed.{edits_of, all_edits, transactions, committed, entries_of}
use Rattle.jfs_records.proofs.Joined.{edits_records}

-- ---- sizes don't depend on the place

pub body-stamped : (tid back : ℕ) (r : Record) → body_text (stamped tid back r) ≡ body_text r
body-stamped tid back (records.Redo _ _ _ _ _ _ _ _) = refl
body-stamped tid back (records.NoRedo _ _ _ _ _ _) = refl
body-stamped tid back (records.Update _ _ _ _ _ _) = refl
body-stamped tid back (records.Commit _ _) = refl
body-stamped tid back (records.SyncPt _) = refl

pub size-stamped : (tid back : ℕ) (r : Record) → size_of (stamped tid back r) ≡ size_of r
size-stamped tid back r = ap (λ (l : List ℕ). length l + 36) (body-stamped tid back r)

length-chained : (ring tid back at : ℕ) (rs : List Record) → length (log_text (chained ring tid back at rs)) ≡ sizes_of rs + 36
length-chained ring tid back at [] = omega (arith, length-append (text_of (records.Commit tid back)) [], length-text (records.Commit tid back))
length-chained ring tid back at (r ∷ rs) =
    let next = address_at ring 0 (at + size_of r) in
    omega (
      arith,
      length-append (text_of (stamped tid back r)) (log_text (chained ring tid next (at + size_of r) rs)),
      length-text (stamped tid back r),
      size-stamped tid back r,
      length-chained ring tid next (at + size_of r) rs,
    )

pub length-item : (ring at : ℕ) (i : Item) → length (log_text (item_records ring at i)) ≡ item_size i
length-item ring at (entry tid tx) = length-chained ring tid 0 at (records_of tx)
length-item ring at (point sync) = omega (arith, length-append (text_of (records.SyncPt sync)) [], length-text (records.SyncPt sync))

pub length-items : (ring at : ℕ) (is : List Item) → length (log_text (log_records ring at is)) ≡ text_size is
length-items ring at [] = refl
length-items ring at (i ∷ is) =
    let rest = log_records ring (at + item_size i) is in
    omega (
      arith,
      ap length (flat_map-append text_of (item_records ring at i) rest),
      length-append (log_text (item_records ring at i)) (log_text rest),
      length-item ring at i,
      length-items ring (at + item_size i) is,
    )

pub text_size-append : (is js : List Item) → text_size (is ++ js) ≡ text_size is + text_size js
text_size-append [] js = omega arith
text_size-append (i ∷ is) js = omega (arith, text_size-append is js)

pub records-append : (ring at : ℕ) (is js : List Item) → log_records ring at (is ++ js) ≡ log_records ring at is ++ log_records ring (at + text_size is) js
records-append ring at [] js = ap (λ (n : ℕ). log_records ring n js) (omega arith)
records-append ring at (i ∷ is) js =
    let place : at + item_size i + text_size is ≡ at + (item_size i + text_size is) = omega arith in
    ap (λ (l : List Record). item_records ring at i ++ l) (records-append ring (at + item_size i) is js ∙ ap (λ (n : ℕ). log_records ring (at + item_size i) is ++ log_records ring n js) place)
    ∙ sym (append_assoc (item_records ring at i) (log_records ring (at + item_size i) is) (log_records ring (at + (item_size i + text_size is)) js))

-- ---- no record of a transaction is a COMMIT

edits-stamped : (tid back : ℕ) (r : Record) → edits_of (stamped tid back r) ≡ edits_of r
edits-stamped tid back (records.Redo _ _ _ _ _ _ _ _) = refl
edits-stamped tid back (records.NoRedo _ _ _ _ _ _) = refl
edits-stamped tid back (records.Update _ _ _ _ _ _) = refl
edits-stamped tid back (records.Commit _ _) = refl
edits-stamped tid back (records.SyncPt _) = refl

-- a record that has edits
abbrev pub has_edits : Record → Bool
has_edits (records.Redo _ _ _ _ _ _ _ _) = true
has_edits (records.NoRedo _ _ _ _ _ _) = true
has_edits (records.Update _ _ _ _ _ _) = true
has_edits (records.Commit _ _) = false
has_edits (records.SyncPt _) = false

abbrev pub HaveEdits : List Record → Type 0
HaveEdits rs = AllByRecursion (λ r. has_edits r ≡ true) rs

edits-join : (r s : Record) → has_edits r ≡ true → has_edits (join r s) ≡ true
edits-join (records.Redo _ _ _ _ _ _ _ _) s h = refl
edits-join (records.NoRedo _ _ _ _ _ _) s h = refl
edits-join (records.Update _ _ _ _ _ _) s h = refl
edits-join (records.Commit _ _) s h = absurd (true≢false (sym h))
edits-join (records.SyncPt _) s h = absurd (true≢false (sym h))

have-grouped : (r : Record) (ss : List Record) → has_edits r ≡ true → HaveEdits ss → HaveEdits (grouped r ss)
have-grouped r [] h hs = (h, tt)
have-grouped r (s ∷ ss) h hs = by (joins r s) (have-grouped (join r s) ss (edits-join r s h) hs.1) (have-grouped s ss hs.0 hs.1)
  where
    by : (b : Bool) → HaveEdits (grouped (join r s) ss) → HaveEdits (grouped s ss) → HaveEdits (if b then grouped (join r s) ss else r ∷ grouped s ss)
    by true one two = one
    by false one two = (h, two)

have-noted : (note : Note) (edit : Edit) → has_edits (record_for note edit) ≡ true
have-noted note (Lines page kind first bytes) = refl
have-noted note (NoRedo page) = refl
have-noted note (Alloc at) = refl
have-noted note (Free at) = refl

have-each : (tx : List Noted) → HaveEdits (map record_of tx)
have-each [] = tt
have-each (n ∷ ns) = (have-noted n.note n.edit, have-each ns)

pub have-records : (tx : List Noted) → HaveEdits (records_of tx)
have-records tx = by (map record_of tx) (have-each tx)
  where
    by : (rs : List Record) → HaveEdits rs → HaveEdits (gathered rs)
    by [] hs = tt
    by (r ∷ rs) hs = have-grouped r rs hs.0 hs.1

-- ---- transactions

goes_by : (begun : List Edit) (tid back : ℕ) (r : Record) (rs : List Record) → has_edits r ≡ true → transactions begun (stamped tid back r ∷ rs) ≡ transactions (begun ++ edits_of r) rs
goes_by begun tid back (records.Redo _ _ _ _ _ _ _ _) rs h = refl
goes_by begun tid back (records.NoRedo _ _ _ _ _ _) rs h = refl
goes_by begun tid back (records.Update _ _ _ _ _ _) rs h = refl
goes_by begun tid back (records.Commit _ _) rs h = absurd (true≢false (sym h))
goes_by begun tid back (records.SyncPt _) rs h = absurd (true≢false (sym h))

chained_back : (ring tid back at : ℕ) (begun : List Edit) (rs more : List Record) → HaveEdits rs → transactions begun (chained ring tid back at rs ++ more) ≡ (begun ++ all_edits rs) ∷ committed more
chained_back ring tid back at begun [] more hs = ap (λ (l : List Edit). l ∷ committed more) (sym (append-nil begun))
chained_back ring tid back at begun (r ∷ rs) more hs =
    let next = address_at ring 0 (at + size_of r) in
    goes_by begun tid back r (chained ring tid next (at + size_of r) rs ++ more) hs.0
    ∙ chained_back ring tid next (at + size_of r) (begun ++ edits_of r) rs more hs.1
    ∙ ap (λ (l : List Edit). l ∷ committed more) (append_assoc begun (edits_of r) (all_edits rs))

-- entries, and then more
pub entries_back : (ring at : ℕ) (is : List Item) (more : List Record) → committed (log_records ring at is ++ more) ≡ entries_of is ++ committed more
entries_back ring at [] more = refl
entries_back ring at (entry tid tx ∷ is) more =
    let rest = log_records ring (at + item_size (entry tid tx)) is in
    ap committed (append_assoc (chained ring tid 0 at (records_of tx)) rest more)
    ∙ chained_back ring tid 0 at [] (records_of tx) (rest ++ more) (have-records tx)
    ∙ ap (λ (l : List Edit). l ∷ committed (rest ++ more)) (edits_records tx)
    ∙ ap (λ (l : List (List Edit)). tx_of tx ∷ l) (entries_back ring (at + item_size (entry tid tx)) is more)
entries_back ring at (point sync ∷ is) more = entries_back ring (at + 36) is more

-- ---- a front of the records

-- a front of an entry's records has no transaction, or it has the whole entry
front_chained : (ring tid back at : ℕ) (begun : List Edit) (rs more : List Record) (k : ℕ) → HaveEdits rs →
    (transactions begun (take k (chained ring tid back at rs ++ more)) ≡ [])
    ⊎ ((j : ℕ) × (transactions begun (take k (chained ring tid back at rs ++ more)) ≡ (begun ++ all_edits rs) ∷ committed (take j more)))
front_chained ring tid back at begun rs more zero hs = inl refl
front_chained ring tid back at begun [] more (suc k) hs = inr (k, ap (λ (l : List Edit). l ∷ committed (take k more)) (sym (append-nil begun)))
front_chained ring tid back at begun (r ∷ rs) more (suc k) hs =
    by (front_chained ring tid next (at + size_of r) (begun ++ edits_of r) rs more k hs.1)
  where
    next : ℕ
    next = address_at ring 0 (at + size_of r)

    rest : List Record
    rest = take k (chained ring tid next (at + size_of r) rs ++ more)

    by : (transactions (begun ++ edits_of r) rest ≡ []) ⊎ ((j : ℕ) × (transactions (begun ++ edits_of r) rest ≡ (begun ++ edits_of r ++ all_edits rs) ∷ committed (take j more)))
        → (transactions begun (stamped tid back r ∷ rest) ≡ []) ⊎ ((j : ℕ) × (transactions begun (stamped tid back r ∷ rest) ≡ (begun ++ (edits_of r ++ all_edits rs)) ∷ committed (take j more)))
    by (inl e) = inl (goes_by begun tid back r rest hs.0 ∙ e)
    by (inr e) = inr (e.0, goes_by begun tid back r rest hs.0 ∙ e.1 ∙ ap (λ (l : List Edit). l ∷ committed (take e.0 more)) (append_assoc begun (edits_of r) (all_edits rs)))

pub front_back : (ring at : ℕ) (is : List Item) (k : ℕ) → (n : ℕ) × (n ≤ length (entries_of is)) × (committed (take k (log_records ring at is)) ≡ take n (entries_of is))
front_back ring at [] zero = (0, omega arith, refl)
front_back ring at [] (suc k) = (0, omega arith, refl)
front_back ring at (entry tid tx ∷ is) k =
    by (front_chained ring tid 0 at [] (records_of tx) rest k (have-records tx)) (λ j. front_back ring (at + item_size (entry tid tx)) is j)
  where
    rest : List Record
    rest = log_records ring (at + item_size (entry tid tx)) is

    whole : List Record
    whole = chained ring tid 0 at (records_of tx) ++ rest

    by : (committed (take k whole) ≡ []) ⊎ ((j : ℕ) × (committed (take k whole) ≡ all_edits (records_of tx) ∷ committed (take j rest)))
        → ((j : ℕ) → (n : ℕ) × (n ≤ length (entries_of is)) × (committed (take j rest) ≡ take n (entries_of is)))
        → (n : ℕ) × (n ≤ length (entries_of (entry tid tx ∷ is))) × (committed (take k whole) ≡ take n (entries_of (entry tid tx ∷ is)))
    by (inl e) later = (0, omega arith, e)
    by (inr e) later =
        let l = later e.0 in
        (suc l.0, omega (arith, l.1), e.1 ∙ ap (λ (x : List Edit). x ∷ committed (take e.0 rest)) (edits_records tx) ∙ ap (λ (x : List (List Edit)). tx_of tx ∷ x) l.2)
front_back ring at (point sync ∷ is) zero = (0, omega arith, refl)
front_back ring at (point sync ∷ is) (suc k) = front_back ring (at + 36) is k

-- entries, and then a front of later ones' records
pub front_after : (ring at : ℕ) (is js : List Item) (k : ℕ) → (n : ℕ) × (n ≤ length (entries_of js)) × (committed (log_records ring at is ++ take k (log_records ring (at + text_size is) js)) ≡ entries_of is ++ take n (entries_of js))
front_after ring at is js k =
    let front = front_back ring (at + text_size is) js k in
    (front.0, front.1, entries_back ring at is (take k (log_records ring (at + text_size is) js)) ∙ ap (λ (l : List (List Edit)). entries_of is ++ l) front.2)
