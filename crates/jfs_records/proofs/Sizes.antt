-- The size of a transaction's records: its bytes add up, and the number of its records grows by no more than that of what is added.
use Rattle.std.proofs.Common.{◌≡◌, ◌<◌, ◌≤◌, ◌⊎◌, inl, inr, ◌+◌, ◌*◌, ◌/◌, ◌^◌, ◌==◌, ◌&&◌, nat_lt, ℕ, suc, Bool, true, false, List, [], ◌∷◌, ◌++◌, length, map, if◌then◌else◌, refl, sym, ap, subst, ◌∙◌, append_assoc, arith}
use Rattle.std.proofs.lemmas.Bool.{and_from, and_parts, cases_Bool, lt-ltb, ltb-false, eq-eqb}
use Rattle.std.proofs.lemmas.List.{map-append, length-append, append-nil}
use Rattle.jfs_bits.specs.declared.descriptor.Pxd.{Pxd}
use Rattle.jfs_bits.specs.declared.list.LineRange.{LineRange}
use Rattle.jfs_ranges.specs.declared.edit.Edit.{Edit}
use Rattle.jfs_ranges.specs.declared.edit.Edit.TheVariants.{Lines, NoRedo, Alloc, Free}
use Rattle.jfs_logfmt.specs.declared.log_record.Record.{Record}
use Rattle.jfs_logfmt.specs.declared.log_record.Record.TheVariants as records
use Rattle.jfs_logfmt.specs.Kinds.{map_number}
use Rattle.byteorder.specs.Endian.{little_bytes}
use Rattle.jfs_bits.specs.Line.{line_size}
use Rattle.jfs_logfmt.specs.Written.{body_text, range_text}
use Rattle.jfs_logfmt.proofs.Spelled.{length-runs}
use Rattle.jfs_records.specs.Records.{Noted, record_of, is_alike, joins, join, ranges_in, list_in, grouped, gathered, records_of, record_for, tx_of}
use Rattle.jfs_logpages.specs.Records.{sizes_of}
use Rattle.jfs_records.specs.Steps.{data_of}
use Rattle.jfs_records.specs.Sizes.{edit_bytes, bytes_of, count_of, entry_size}
use Rattle.jfs_records.specs.Entries.{entry, item_size}
use Rattle.jfs_records.specs.Laws.{freed, RunsShareRecords}
use Rattle.jfs_records.specs.declared.note.Note.{Note}
use Rattle.jfs_records.proofs.Joined.{Alike, pages, maps, alike, small, length-join}

-- ---- bytes and records

size_grouped : (r : Record) (ss : List Record) → sizes_of (grouped r ss) ≡ length (body_text r) + data_of ss + 36 * length (grouped r ss)
size_grouped r [] = omega arith
size_grouped r (s ∷ ss) = by (joins r s) refl (size_grouped (join r s) ss) (size_grouped s ss)
  where
    by : (b : Bool) → joins r s ≡ b → sizes_of (grouped (join r s) ss) ≡ length (body_text (join r s)) + data_of ss + 36 * length (grouped (join r s) ss)
        → sizes_of (grouped s ss) ≡ length (body_text s) + data_of ss + 36 * length (grouped s ss)
        → sizes_of (if b then grouped (join r s) ss else r ∷ grouped s ss) ≡ length (body_text r) + (length (body_text s) + data_of ss) + 36 * length (if b then grouped (join r s) ss else r ∷ grouped s ss)
    by true h one two = omega (arith, one, length-join r s h)
    by false h one two = omega (arith, two)

-- the data of the record of an edit
pub bytes_for : (note : Note) (e : Edit) → length (body_text (record_for note e)) ≡ edit_bytes e
bytes_for note (Lines page kind first bytes) =
    ap (λ (l : List ℕ). length l) (append-nil (range_text (line_size kind) (record { first = first; bytes = bytes })))
    ∙ length-append bytes (little_bytes 2 first ++ little_bytes 2 (length bytes / line_size kind))
bytes_for note (NoRedo page) = refl
bytes_for note (Alloc run) = length-runs (run ∷ [])
bytes_for note (Free run) = length-runs (run ∷ [])

pub bytes_are : (tx : List Noted) → data_of (map record_of tx) ≡ bytes_of (tx_of tx)
bytes_are [] = refl
bytes_are (n ∷ ns) = omega (arith, bytes_for n.note n.edit, bytes_are ns)

pub size_is : (tx : List Noted) → sizes_of (records_of tx) ≡ bytes_of (tx_of tx) + 36 * count_of tx
size_is tx = omega (arith, by (map record_of tx), bytes_are tx)
  where
    by : (rs : List Record) → sizes_of (gathered rs) ≡ data_of rs + 36 * length (gathered rs)
    by [] = omega arith
    by (r ∷ rs) = size_grouped r rs

pub bytes_add : (xs ys : List Edit) → bytes_of (xs ++ ys) ≡ bytes_of xs + bytes_of ys
bytes_add [] ys = omega arith
bytes_add (e ∷ es) ys = omega (arith, bytes_add es ys)

-- ---- what joins

front_alike : (s u v : Record) → Alike s u → is_alike (join s u) v ≡ is_alike u v
front_alike s u v (pages tid back tid' back' fileset inode kind new_page at rs rs' one) = refl
front_alike s u v (maps tid back tid' back' fileset inode alloc list list') = refl

back_alike : (s u v : Record) → Alike s u → is_alike s (join u v) ≡ is_alike s u
back_alike s u v (pages tid back tid' back' fileset inode kind new_page at rs rs' one) = refl
back_alike s u v (maps tid back tid' back' fileset inode alloc list list') = refl

join_assoc : (s u v : Record) → Alike s u → join (join s u) v ≡ join s (join u v)
join_assoc s u v (pages tid back tid' back' fileset inode kind new_page at rs rs' one) =
    ap (λ (l : List LineRange). records.Redo tid back fileset inode kind new_page at l) (append_assoc rs rs' (ranges_in v))
join_assoc s u v (maps tid back tid' back' fileset inode alloc list list') =
    ap (λ (l : List Pxd). records.Update tid back fileset inode alloc l) (append_assoc list list' (list_in v))

both_joined : (r s : Record) → length (body_text r) + length (body_text s) < 2 ^ 16 → is_alike r s ≡ true → joins r s ≡ true
both_joined r s h k = and_from (nat_lt (length (body_text r) + length (body_text s)) (2 ^ 16)) (is_alike r s) (lt-ltb (length (body_text r) + length (body_text s)) (2 ^ 16) h) k

pub is_so : (r s : Record) → joins r s ≡ true → is_alike r s ≡ true
is_so r s h = (and_parts (nat_lt (length (body_text r) + length (body_text s)) (2 ^ 16)) (is_alike r s) h).1

shorter : (s u v : Record) → joins s u ≡ true → joins (join s u) v ≡ true → joins u v ≡ true
shorter s u v h k = both_joined u v (omega (arith, small (join s u) v k, length-join s u h)) (sym (front_alike s u v (alike s u h)) ∙ is_so (join s u) v k)

longer : (s u v : Record) → joins s u ≡ true → joins (join s u) v ≡ true → joins s (join u v) ≡ true
longer s u v h k =
    both_joined s (join u v) (omega (arith, small (join s u) v k, length-join s u h, length-join u v (shorter s u v h k))) (back_alike s u v (alike s u h) ∙ is_so s u h)

-- ---- a record that begins with more in it makes as many records of what follows, or one fewer

pub unjoined : (r s : Record) (ss : List Record) → joins r s ≡ false → length (grouped r (s ∷ ss)) ≡ suc (length (grouped s ss))
unjoined r s ss h = ap (λ (b : Bool). length (if b then grouped (join r s) ss else r ∷ grouped s ss)) h

pub joined : (r s : Record) (ss : List Record) → joins r s ≡ true → length (grouped r (s ∷ ss)) ≡ length (grouped (join r s) ss)
joined r s ss h = ap (λ (b : Bool). length (if b then grouped (join r s) ss else r ∷ grouped s ss)) h

near : (s u : Record) (ss : List Record) → joins s u ≡ true → (length (grouped u ss) ≤ length (grouped (join s u) ss)) × (length (grouped (join s u) ss) ≤ suc (length (grouped u ss)))
near s u [] h = (omega arith, omega arith)
near s u (v ∷ ss) h = by (cases_Bool (joins (join s u) v)) (cases_Bool (joins u v)) (λ k. near s (join u v) ss k) (λ k. near u v ss k)
  where
    whole : ℕ
    whole = length (grouped (join s u) (v ∷ ss))

    part : ℕ
    part = length (grouped u (v ∷ ss))

    by : (joins (join s u) v ≡ true) ⊎ (joins (join s u) v ≡ false) → (joins u v ≡ true) ⊎ (joins u v ≡ false)
        → (joins s (join u v) ≡ true → (length (grouped (join u v) ss) ≤ length (grouped (join s (join u v)) ss)) × (length (grouped (join s (join u v)) ss) ≤ suc (length (grouped (join u v) ss))))
        → (joins u v ≡ true → (length (grouped v ss) ≤ length (grouped (join u v) ss)) × (length (grouped (join u v) ss) ≤ suc (length (grouped v ss))))
        → (part ≤ whole) × (whole ≤ suc part)
    by (inl k) x one two =
        let here = joined u v ss (shorter s u v h k) in
        let there = joined (join s u) v ss k ∙ ap (λ (r : Record). length (grouped r ss)) (join_assoc s u v (alike s u h)) in
        let later = one (longer s u v h k) in
        (omega (arith, here, there, later.0), omega (arith, here, there, later.1))
    by (inr k) (inl l) one two =
        let here = joined u v ss l in
        let there = unjoined (join s u) v ss k in
        let later = two l in
        (omega (arith, here, there, later.1), omega (arith, here, there, later.0))
    by (inr k) (inr l) one two =
        let here = unjoined u v ss l in
        let there = unjoined (join s u) v ss k in
        (omega (arith, here, there), omega (arith, here, there))

behind : (r : Record) (ss : List Record) → length (grouped r ss) ≤ suc (length (gathered ss))
behind r [] = omega arith
behind r (s ∷ ss) = by (cases_Bool (joins r s))
  where
    by : (joins r s ≡ true) ⊎ (joins r s ≡ false) → length (grouped r (s ∷ ss)) ≤ suc (length (grouped s ss))
    by (inl k) = omega (arith, joined r s ss k, (near r s ss k).1)
    by (inr k) = omega (arith, unjoined r s ss k)

grouped_add : (r : Record) (ss us : List Record) → length (grouped r (ss ++ us)) ≤ length (grouped r ss) + length (gathered us)
grouped_add r [] us = omega (arith, behind r us)
grouped_add r (s ∷ ss) us = by (cases_Bool (joins r s)) (grouped_add (join r s) ss us) (grouped_add s ss us)
  where
    by : (joins r s ≡ true) ⊎ (joins r s ≡ false) → length (grouped (join r s) (ss ++ us)) ≤ length (grouped (join r s) ss) + length (gathered us) → length (grouped s (ss ++ us)) ≤ length (grouped s ss) + length (gathered us)
        → length (grouped r (s ∷ (ss ++ us))) ≤ length (grouped r (s ∷ ss)) + length (gathered us)
    by (inl k) one two = omega (arith, joined r s (ss ++ us) k, joined r s ss k, one)
    by (inr k) one two = omega (arith, unjoined r s (ss ++ us) k, unjoined r s ss k, two)

gathered_add : (rs ss : List Record) → length (gathered (rs ++ ss)) ≤ length (gathered rs) + length (gathered ss)
gathered_add [] ss = omega arith
gathered_add (r ∷ rs) ss = grouped_add r rs ss

pub count_adds : (xs ys : List Noted) → count_of (xs ++ ys) ≤ count_of xs + count_of ys
count_adds xs ys = subst (λ (l : List Record). length (gathered l) ≤ count_of xs + count_of ys) (sym (map-append record_of xs ys)) (gathered_add (map record_of xs) (map record_of ys))

-- ---- runs that are freed one after the other

abbrev freed_record : ℕ → ℕ → Pxd → Record
freed_record fileset inode at = records.Update 0 0 fileset inode false (at ∷ [])

run_grouped : (fileset inode : ℕ) (list runs : List Pxd) → 0 < length list → length list ≤ 8191 → 8191 * length (grouped (records.Update 0 0 fileset inode false list) (map (freed_record fileset inode) runs)) ≤ 8190 + length list + length runs
run_grouped fileset inode list [] some most = omega (arith, some)
run_grouped fileset inode list (p ∷ ps) some most = by (cases_Bool (joins r s)) (λ k. run_grouped fileset inode (list ++ p ∷ []) ps (omega (arith, more)) k) (run_grouped fileset inode (p ∷ []) ps (omega arith) (omega arith))
  where
    r : Record
    r = records.Update 0 0 fileset inode false list

    s : Record
    s = freed_record fileset inode p

    more : length (list ++ p ∷ []) ≡ length list + 1
    more = length-append list (p ∷ [])

    size : length (body_text r) + length (body_text s) ≡ 8 * length list + 8
    size = omega (arith, length-runs list, length-runs (p ∷ []))

    same : is_alike r s ≡ true
    same = and_from (fileset == fileset) (inode == inode && map_number false == map_number false) (eq-eqb fileset fileset refl) (and_from (inode == inode) (map_number false == map_number false) (eq-eqb inode inode refl) refl)

    full : joins r s ≡ false → 8191 ≤ length list
    full k = omega (arith, ltb-false (length (body_text r) + length (body_text s)) (2 ^ 16) (shut (nat_lt (length (body_text r) + length (body_text s)) (2 ^ 16)) k), size)
      where
        shut : (b : Bool) → (b && is_alike r s) ≡ false → b ≡ false
        shut true h = sym same ∙ h
        shut false h = refl

    by : (joins r s ≡ true) ⊎ (joins r s ≡ false)
        → (length (list ++ p ∷ []) ≤ 8191 → 8191 * length (grouped (join r s) (map (freed_record fileset inode) ps)) ≤ 8190 + length (list ++ p ∷ []) + length ps)
        → 8191 * length (grouped s (map (freed_record fileset inode) ps)) ≤ 8190 + length {A = Pxd} (p ∷ []) + length ps
        → 8191 * length (grouped r (s ∷ map (freed_record fileset inode) ps)) ≤ 8190 + length list + suc (length ps)
    by (inl k) one two = omega (arith, joined r s (map (freed_record fileset inode) ps) k, one (omega (arith, more, small r s k, size)), more)
    by (inr k) one two = omega (arith, unjoined r s (map (freed_record fileset inode) ps) k, two, full k)

-- n of them take at most one record for each 8,191, and one more
run_counts_records : (fileset inode : ℕ) (runs : List Pxd) → 8191 * length (gathered (map (freed_record fileset inode) runs)) ≤ 8190 + length runs
run_counts_records fileset inode [] = omega arith
run_counts_records fileset inode (p ∷ ps) = omega (arith, run_grouped fileset inode (p ∷ []) ps (omega arith) (omega arith))

records_freed : (note : Note) (runs : List Pxd) → map record_of (map (freed note) runs) ≡ map (freed_record note.fileset note.inode) runs
records_freed note [] = refl
records_freed note (p ∷ ps) = ap (λ (l : List Record). freed_record note.fileset note.inode p ∷ l) (records_freed note ps)

pub run_counts : RunsShareRecords
run_counts note runs = subst (λ (l : List Record). 8191 * length (gathered l) ≤ 8190 + length runs) (sym (records_freed note runs)) (run_counts_records note.fileset note.inode runs)

pub entry_sized : (number : ℕ) (tx : List Noted) → item_size (entry number tx) ≡ entry_size tx
entry_sized number tx = omega (arith, size_is tx)
