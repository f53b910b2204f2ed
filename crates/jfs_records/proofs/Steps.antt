-- A transaction's edits are gone through one by one: each joins the open record, or begins the next one.
use Rattle.std.proofs.Common.{◌≡◌, ◌<◌, ◌≤◌, ◌⊎◌, inl, inr, ◌+◌, ◌-◌, ◌*◌, ◌^◌, ◌==◌, ◌&&◌, min, nat_lt, ℕ, zero, suc, Bool, true, false, List, [], ◌∷◌, ◌++◌, length, drop, map, get_or, if◌then◌else◌, refl, sym, ap, subst, ◌∙◌, append_assoc, arith}
use Rattle.std.proofs.lemmas.Bool.{cases_lt, lt-ltb, le-ltb, true≢false}
use Rattle.jfs_ranges.specs.declared.edit.Edit.{Edit}
use Rattle.jfs_logfmt.specs.declared.log_record.Record.{Record}
use Rattle.jfs_logfmt.specs.declared.log_record.Record.TheVariants as records
use Rattle.jfs_logfmt.specs.Written.{body_text}
use Rattle.jfs_records.specs.declared.note.Note.{Note}
use Rattle.jfs_records.specs.Records.{noted, record_for, record_of, is_alike, joins, join, grouped, records_of}
use Rattle.std.specs.Prelude.{Result, Ok, Err, OnOk}
use Rattle.jfs_records.specs.Sizes.{edit_bytes, entry_size}
use Rattle.jfs_records.specs.Steps.{data_of, IsOpen, IsMeasured, IsGrouped}
use Rattle.jfs_records.proofs.Joined.{length-join}
use Rattle.jfs_records.proofs.Sizes.{joined, unjoined, bytes_for, bytes_are}

-- ---- edits and notes

pub some_of : (n : ℕ) → (n == 0) ≡ false → 0 < n
some_of zero h = absurd (true≢false h)
some_of (suc n) h = omega arith

pub drop_noted : (es : List Edit) (ns : List Note) (i : ℕ) (d : Edit) (c : Note) → length es ≡ length ns → i < length es
    → map record_of (drop i (noted es ns)) ≡ record_for (get_or ns i c) (get_or es i d) ∷ map record_of (drop (suc i) (noted es ns))
drop_noted [] ns i d c same less = absurd (omega (arith, less))
drop_noted (e ∷ es) [] i d c same less = absurd (omega (arith, same))
drop_noted (e ∷ es) (n ∷ ns) zero d c same less = refl
drop_noted (e ∷ es) (n ∷ ns) (suc i) d c same less = drop_noted es ns i d c (omega (arith, same)) (omega (arith, less))

pub next_noted : (es : List Edit) (ns : List Note) (i j : ℕ) (e : Edit) (n : Note) → length es ≡ length ns → i < length es → j ≡ suc i → e ≡ get_or es i e → n ≡ get_or ns i n
    → map record_of (drop i (noted es ns)) ≡ record_for n e ∷ map record_of (drop j (noted es ns))
next_noted es ns i j e n same less next is of =
    drop_noted es ns i e n same less
    ∙ ap (λ (x : Edit). record_for (get_or ns i n) x ∷ map record_of (drop (suc i) (noted es ns))) (sym is)
    ∙ ap (λ (x : Note). record_for x e ∷ map record_of (drop (suc i) (noted es ns))) (sym of)
    ∙ ap (λ (k : ℕ). record_for n e ∷ map record_of (drop k (noted es ns))) (sym next)

pub none_left : (es : List Edit) (ns : List Note) (i : ℕ) → length es ≤ i → map record_of (drop i (noted es ns)) ≡ []
none_left [] ns zero past = refl
none_left [] ns (suc i) past = refl
none_left (e ∷ es) [] zero past = refl
none_left (e ∷ es) [] (suc i) past = refl
none_left (e ∷ es) (n ∷ ns) zero past = absurd (omega (arith, past))
none_left (e ∷ es) (n ∷ ns) (suc i) past = none_left es ns i (omega (arith, past))

-- ---- whether an edit joins

same_less : (x y n : ℕ) → (x < n → y < n) → (n ≤ x → n ≤ y) → nat_lt x n ≡ nat_lt y n
same_less x y n f g = by (cases_lt x n)
  where
    by : (x < n) ⊎ (n ≤ x) → nat_lt x n ≡ nat_lt y n
    by (inl l) = lt-ltb x n l ∙ sym (lt-ltb y n (f l))
    by (inr l) = le-ltb x n l ∙ sym (le-ltb y n (g l))

pub joins_open : (first : Edit) (owner : Note) (bytes more sum : ℕ) (r s : Record) → IsOpen first owner bytes r → more ≡ min (length (body_text s)) (2 ^ 64 - 1) → sum ≡ min (bytes + more) (2 ^ 64 - 1)
    → (nat_lt sum (2 ^ 16) && is_alike (record_for owner first) s) ≡ joins r s
joins_open first owner bytes more sum r s o m t =
    ap (λ (b : Bool). nat_lt sum (2 ^ 16) && b) (sym (o.alike s))
    ∙ ap (λ (b : Bool). b && is_alike r s) (same_less sum (length (body_text r) + length (body_text s)) (2 ^ 16) (λ l. omega (arith, l, o.bytes_are, m, t)) (λ l. omega (arith, l, o.bytes_are, m, t)))

more_is : (note : Note) (e : Edit) (more : ℕ) → more ≡ min (edit_bytes e) (2 ^ 64 - 1) → more ≡ min (length (body_text (record_for note e))) (2 ^ 64 - 1)
more_is note e more m = omega (arith, m, bytes_for note e)

pub joins_then : (first : Edit) (owner : Note) (bytes more sum : ℕ) (r : Record) (note : Note) (e : Edit) (alike : Bool) → IsOpen first owner bytes r → more ≡ min (edit_bytes e) (2 ^ 64 - 1) → sum ≡ min (bytes + more) (2 ^ 64 - 1)
    → sum < 2 ^ 16 → alike ≡ is_alike (record_for owner first) (record_for note e) → alike ≡ joins r (record_for note e)
joins_then first owner bytes more sum r note e alike o m t less is =
    is ∙ ap (λ (b : Bool). b && is_alike (record_for owner first) (record_for note e)) (sym (lt-ltb sum (2 ^ 16) less))
    ∙ joins_open first owner bytes more sum r (record_for note e) o (more_is note e more m) t

pub joins_else : (first : Edit) (owner : Note) (bytes more sum : ℕ) (r : Record) (note : Note) (e : Edit) → IsOpen first owner bytes r → more ≡ min (edit_bytes e) (2 ^ 64 - 1) → sum ≡ min (bytes + more) (2 ^ 64 - 1)
    → 2 ^ 16 ≤ sum → nat_lt sum (2 ^ 16) ≡ joins r (record_for note e)
joins_else first owner bytes more sum r note e o m t most =
    le-ltb sum (2 ^ 16) most ∙ ap (λ (b : Bool). b && is_alike (record_for owner first) (record_for note e)) (sym (le-ltb sum (2 ^ 16) most))
    ∙ joins_open first owner bytes more sum r (record_for note e) o (more_is note e more m) t

join_alike : (r s v : Record) → is_alike (join r s) v ≡ is_alike r v
join_alike (records.Redo _ _ _ _ _ _ _ _) s v = refl
join_alike (records.NoRedo _ _ _ _ _ _) s v = refl
join_alike (records.Update _ _ _ _ _ _) s v = refl
join_alike (records.Commit _ _) s v = refl
join_alike (records.SyncPt _) s v = refl

pub open_joined : (first : Edit) (owner : Note) (bytes more new : ℕ) (r s : Record) → IsOpen first owner bytes r → joins r s ≡ true → more ≡ min (length (body_text s)) (2 ^ 64 - 1) → new ≡ bytes + more → new < 2 ^ 16 → IsOpen first owner new (join r s)
open_joined first owner bytes more new r s o h m e small = record {
  alike = λ v. join_alike r s v ∙ o.alike v;
  bytes_are = omega (arith, e, o.bytes_are, m, small, length-join r s h);
}

-- ---- the size

some_grouped : (r : Record) (ss : List Record) → 0 < length (grouped r ss)
some_grouped r [] = omega arith
some_grouped r (s ∷ ss) = by (joins r s) (some_grouped (join r s) ss)
  where
    by : (b : Bool) → 0 < length (grouped (join r s) ss) → 0 < length (if b then grouped (join r s) ss else r ∷ grouped s ss)
    by true h = h
    by false h = omega arith

pub measured_joined : (first : Edit) (owner : Note) (bytes size more grown : ℕ) (note : Note) (e : Edit) (rest : List Record) (whole : ℕ) → (m : IsMeasured first owner bytes size (record_for note e ∷ rest) whole) → joins m.r (record_for note e) ≡ true
    → more ≡ min (edit_bytes e) (2 ^ 64 - 1) → bytes + edit_bytes e < 2 ^ 16 → grown ≡ min (size + more) (2 ^ 64 - 1) → IsMeasured first owner (bytes + more) grown rest whole
measured_joined first owner bytes size more grown note e rest whole m h s small g =
    let long = bytes_for note e in
    record {
      r = join m.r (record_for note e);
      open_record = open_joined first owner bytes more (bytes + more) m.r (record_for note e) m.open_record h (more_is note e more s) refl (omega (arith, s, small));
      sum = omega (arith, m.sum, g, s, long, small, joined m.r (record_for note e) rest h);
      fits = omega (arith, g);
    }

pub measured_apart : (first began : Edit) (owner of : Note) (bytes new size more grown last : ℕ) (note : Note) (e : Edit) (rest : List Record) (whole : ℕ) → (m : IsMeasured first owner bytes size (record_for note e ∷ rest) whole) → joins m.r (record_for note e) ≡ false
    → IsOpen began of new (record_for note e) → more ≡ min (edit_bytes e) (2 ^ 64 - 1) → grown ≡ min (size + more) (2 ^ 64 - 1) → last ≡ min (grown + 36) (2 ^ 64 - 1) → IsMeasured began of new last rest whole
measured_apart first began owner of bytes new size more grown last note e rest whole m h o s g l =
    record {
      r = record_for note e;
      open_record = o;
      sum = omega (arith, m.sum, g, l, s, bytes_for note e, unjoined m.r (record_for note e) rest h, some_grouped (record_for note e) rest);
      fits = omega (arith, l);
    }

pub measured_start : (first : Edit) (owner : Note) (es : List Edit) (ns : List Note) (e : Edit) (n : Note) (bytes size : ℕ) → length es ≡ length ns → 0 < length es → e ≡ get_or es 0 e → n ≡ get_or ns 0 n → IsOpen first owner bytes (record_for n e) → size ≡ min (bytes + 72) (2 ^ 64 - 1)
    → IsMeasured first owner bytes size (map record_of (drop 1 (noted es ns))) (entry_size (noted es ns))
measured_start first owner [] ns e n bytes size same some is of o s = absurd (omega (arith, some))
measured_start first owner (x ∷ es) [] e n bytes size same some is of o s = absurd (omega (arith, same))
measured_start first owner (x ∷ es) (y ∷ ns) e n bytes size same some is of o s =
    let r : record_for n e ≡ record_for y x = ap (λ (z : Note). record_for z e) of ∙ ap (λ (z : Edit). record_for y z) is in
    let P : Record → Type 0 = λ r. IsOpen first owner bytes r in
    let here : IsOpen first owner bytes (record_for y x) = subst P r o in
    record {
      r = record_for y x;
      open_record = here;
      sum = omega (arith, s, here.bytes_are, bytes_are (noted (x ∷ es) (y ∷ ns)), some_grouped (record_for y x) (map record_of (noted es ns)));
      fits = omega (arith, s);
    }

pub measured_last : (first : Edit) (owner : Note) (bytes size : ℕ) (rest : List Record) (whole : ℕ) → rest ≡ [] → IsMeasured first owner bytes size rest whole → size ≡ min whole (2 ^ 64 - 1)
measured_last first owner bytes size rest whole none m =
    let sum = subst (λ (l : List Record). min (size + (data_of l + 36 * (length (grouped m.r l) - 1))) (2 ^ 64 - 1) ≡ min whole (2 ^ 64 - 1)) none m.sum in
    omega (arith, sum, m.fits)

-- ---- the records

pub grouped_joined : (first : Edit) (owner : Note) (bytes more : ℕ) (closed : List Record) (last next : Record) (note : Note) (e : Edit) (rest whole : List Record) → IsGrouped first owner bytes closed last (record_for note e ∷ rest) whole → joins last (record_for note e) ≡ true
    → more ≡ min (edit_bytes e) (2 ^ 64 - 1) → bytes + edit_bytes e < 2 ^ 16 → next ≡ join last (record_for note e) → IsGrouped first owner (bytes + more) closed next rest whole
grouped_joined first owner bytes more closed last next note e rest whole g h m small n =
    let s = record_for note e in
    record {
      open_record = (let P : Record → Type 0 = λ r. IsOpen first owner (bytes + more) r in subst P (sym n) (open_joined first owner bytes more (bytes + more) last s g.open_record h (more_is note e more m) refl (omega (arith, m, small))));
      list = ap (λ (r : Record). closed ++ grouped r rest) n ∙ ap (λ (b : Bool). closed ++ (if b then grouped (join last s) rest else last ∷ grouped s rest)) (sym h) ∙ g.list;
    }

pub on_ok : {X E : Type 0} (A B : Type 0) (result : Result X E) → (A → B) → OnOk result A → OnOk result B
on_ok A B (Ok x) f a = f a
on_ok A B (Err e) f a = tt

pub grouped_apart : (first began : Edit) (owner of : Note) (bytes new : ℕ) (closed more : List Record) (last s next : Record) (rest whole : List Record) → IsGrouped first owner bytes closed last (s ∷ rest) whole → joins last s ≡ false
    → IsOpen began of new s → next ≡ s → more ≡ closed ++ last ∷ [] → IsGrouped began of new more next rest whole
grouped_apart first began owner of bytes new closed more last s next rest whole g h o n e = record {
  open_record = (let P : Record → Type 0 = λ r. IsOpen began of new r in subst P (sym n) o);
  list = ap (λ (l : List Record). l ++ grouped next rest) e ∙ append_assoc closed (last ∷ []) (grouped next rest) ∙ ap (λ (r : Record). closed ++ last ∷ grouped r rest) n
      ∙ ap (λ (b : Bool). closed ++ (if b then grouped (join last s) rest else last ∷ grouped s rest)) (sym h) ∙ g.list;
}

pub grouped_start : (first : Edit) (owner : Note) (es : List Edit) (ns : List Note) (e : Edit) (n : Note) (bytes : ℕ) (last : Record) → length es ≡ length ns → 0 < length es → e ≡ get_or es 0 e → n ≡ get_or ns 0 n → IsOpen first owner bytes (record_for n e) → last ≡ record_for n e
    → IsGrouped first owner bytes [] last (map record_of (drop 1 (noted es ns))) (records_of (noted es ns))
grouped_start first owner [] ns e n bytes last same some is of o l = absurd (omega (arith, some))
grouped_start first owner (x ∷ es) [] e n bytes last same some is of o l = absurd (omega (arith, same))
grouped_start first owner (x ∷ es) (y ∷ ns) e n bytes last same some is of o l = record {
  open_record = (let P : Record → Type 0 = λ r. IsOpen first owner bytes r in subst P (sym l) o);
  list = ap (λ (r : Record). grouped r (map record_of (noted es ns))) (l ∙ ap (λ (z : Note). record_for z e) of ∙ ap (λ (z : Edit). record_for y z) is);
}

pub grouped_last : (first : Edit) (owner : Note) (bytes : ℕ) (closed : List Record) (last : Record) (rest whole : List Record) → rest ≡ [] → IsGrouped first owner bytes closed last rest whole → closed ++ last ∷ [] ≡ whole
grouped_last first owner bytes closed last rest whole none g = ap (λ (l : List Record). closed ++ grouped last l) (sym none) ∙ g.list
