-- The laws of a face hold of edits as the log has them.
use Rattle.std.proofs.Common.{◌≡◌, ◌<◌, ◌≤◌, ◌⊎◌, ◌+◌, ◌-◌, ◌*◌, ℕ, zero, suc, true, false, nat_le, if◌then◌else◌, List, [], ◌∷◌, ◌++◌, length, get_or, refl, sym, ap, ◌∙◌, inl, inr, arith}
use Rattle.std.proofs.lemmas.Bool.{cases_Bool, cond-true, cond-false, le-leb, or_parts}
use Rattle.std.proofs.lemmas.List.{get_or_default}
use Rattle.jfs_ranges.specs.declared.edit.Edit.{Edit}
use Rattle.jfs_ranges.specs.declared.edit.Edit.TheVariants.{Lines}
use Rattle.jfs_ranges.specs.Apply.{place_of_line, byte_after, overlaid, apply_edit, apply_tx}
use Rattle.jfs_core.proofs.Bytes.{length-apply_tx, CoversOrPasses, byte_all, all_cases, get_or-page_after}
use Rattle.jfs_recovery.specs.Face.{byte}
use Rattle.jfs_records.specs.Redo.{is_noredo, closes_in}
use Rattle.jfs_recovery.specs.Lines.{rest_of, LogsWhole}

-- ---- the rest

abbrev pub lines : List Edit → ℕ → List ℕ → List ℕ
lines tx p a = apply_tx p tx a

abbrev pub redoes : List Edit → ℕ → List ℕ → List ℕ
redoes tx p a = apply_tx p (rest_of p tx) a

pub all_rest : (p : ℕ) (tx : List Edit) → closes_in p tx ≡ false → rest_of p tx ≡ tx
unfolding rest_of
all_rest p [] h = refl
all_rest p (e ∷ es) h =
    let x = or_parts (is_noredo p e) (closes_in p es) h in
    cond-false (closes_in p es) (rest_of p es) (if is_noredo p e then es else e ∷ es) x.1 ∙ cond-false (is_noredo p e) es (e ∷ es) x.0

-- before the rest, something is done to the page
record IsThen (p : ℕ) (tx : List Edit) (a : List ℕ) : Type 0 where
  pub mid : List ℕ
  pub size : length mid ≡ length a
  pub same : apply_tx p tx a ≡ apply_tx p (rest_of p tx) mid

then_rest : (p : ℕ) (tx : List Edit) (a : List ℕ) → IsThen p tx a
unfolding rest_of
then_rest p [] a = record { mid = a; size = refl; same = refl }
then_rest p (e ∷ es) a = at (cases_Bool (closes_in p es)) (cases_Bool (is_noredo p e)) (then_rest p es (apply_edit p e a))
  where
    one : length (apply_edit p e a) ≡ length a
    one = length-apply_tx p (e ∷ []) a

    at : (closes_in p es ≡ true) ⊎ (closes_in p es ≡ false) → (is_noredo p e ≡ true) ⊎ (is_noredo p e ≡ false) → IsThen p es (apply_edit p e a) → IsThen p (e ∷ es) a
    at (inl c) x later = record {
      mid = later.mid;
      size = later.size ∙ one;
      same = later.same ∙ ap (λ (t : List Edit). apply_tx p t later.mid) (sym (cond-true (closes_in p es) (rest_of p es) (if is_noredo p e then es else e ∷ es) c));
    }
    at (inr c) (inl n) later = record {
      mid = apply_edit p e a;
      size = one;
      same = ap (λ (t : List Edit). apply_tx p t (apply_edit p e a)) (sym (cond-false (closes_in p es) (rest_of p es) (if is_noredo p e then es else e ∷ es) c ∙ cond-true (is_noredo p e) es (e ∷ es) n));
    }
    at (inr c) (inr n) later = record {
      mid = a;
      size = refl;
      same = ap (λ (t : List Edit). apply_tx p t a) (sym (cond-false (closes_in p es) (rest_of p es) (if is_noredo p e then es else e ∷ es) c ∙ cond-false (is_noredo p e) es (e ∷ es) n));
    }

-- ---- each byte is given or passed over

abbrev pub Given : List Edit → ℕ → ℕ → Type 0
Given tx p i = (a b : List ℕ) → length a ≡ 4096 → length b ≡ 4096 → byte (redoes tx p a) i ≡ byte (lines tx p b) i

pub record Passed (tx : List Edit) (p i : ℕ) : Type 0 where
  pub redo : (a : List ℕ) → length a ≡ 4096 → byte (redoes tx p a) i ≡ byte a i
  pub lines : closes_in p tx ≡ false → (b : List ℕ) → length b ≡ 4096 → byte (lines tx p b) i ≡ byte b i

one_byte : (p : ℕ) (tx : List Edit) (a : List ℕ) (i : ℕ) → length a ≡ 4096 → i < 4096 → byte (apply_tx p tx a) i ≡ byte_all (4096 * p + i) (record { tx = tx } ∷ []) (byte a i)
one_byte p tx a i size small = get_or-page_after p (record { tx = tx } ∷ []) a i (omega (arith, size))

pub given_or_passed : (tx : List Edit) (p i : ℕ) → i < 4096 → Given tx p i ⊎ Passed tx p i
given_or_passed tx p i small = at (all_cases place (record { tx = rest } ∷ []))
  where
    place : ℕ
    place = 4096 * p + i

    rest : List Edit
    rest = rest_of p tx

    f : ℕ → ℕ
    f x = byte_all place (record { tx = rest } ∷ []) x

    at : CoversOrPasses (byte_all place (record { tx = rest } ∷ [])) → Given tx p i ⊎ Passed tx p i
    at (inl covers) = inl (λ a b ha hb.
        let later = then_rest p tx b in
        one_byte p rest a i ha small ∙ covers (byte a i) (byte later.mid i) ∙ sym (one_byte p rest later.mid i (later.size ∙ hb) small) ∙ ap (λ (x : List ℕ). byte x i) (sym later.same))
    at (inr passes) = inr (record {
      redo = λ a ha. one_byte p rest a i ha small ∙ passes (byte a i);
      lines = λ none b hb. ap (λ (t : List Edit). byte (apply_tx p t b) i) (sym (all_rest p tx none)) ∙ one_byte p rest b i hb small ∙ passes (byte b i);
    })

-- ---- a page that is logged whole

pub get_or-overlaid : (at : ℕ) (new : List ℕ) (place : ℕ) (xs : List ℕ) (i : ℕ) → i < length xs → get_or (overlaid at new place xs) i 0 ≡ byte_after at new (place + i) (get_or xs i 0)
get_or-overlaid at new place [] i h = absurd (omega arith)
get_or-overlaid at new place (x ∷ xs) zero h = let e : place + 0 ≡ place = omega arith in rw e refl
get_or-overlaid at new place (x ∷ xs) (suc i) h =
    let e : place + suc i ≡ suc place + i = omega arith in
    rw e (get_or-overlaid at new (suc place) xs i (omega arith))

byte_within : (at : ℕ) (new : List ℕ) (place x y : ℕ) → at ≤ place → place < at + length new → byte_after at new place x ≡ byte_after at new place y
byte_within at new place x y low high =
    cond-true (nat_le at place) (get_or new (place - at) x) x (le-leb at place low)
    ∙ get_or_default new (place - at) x y (omega arith)
    ∙ sym (cond-true (nat_le at place) (get_or new (place - at) y) y (le-leb at place low))

apply_tx-append : (p : ℕ) (xs ys : List Edit) (a : List ℕ) → apply_tx p (xs ++ ys) a ≡ apply_tx p ys (apply_tx p xs a)
apply_tx-append p [] ys a = refl
apply_tx-append p (x ∷ xs) ys a = apply_tx-append p xs ys (apply_edit p x a)

pub whole_given : (tx : List Edit) (p : ℕ) → LogsWhole p tx → (i : ℕ) → i < 4096 → Given tx p i
whole_given tx p w i small a b ha hb =
    let later = then_rest p tx b in
    same a later.mid ha (later.size ∙ hb) ∙ ap (λ (x : List ℕ). byte x i) (sym later.same)
  where
    after_front : List ℕ → List ℕ
    after_front x = apply_tx p w.front x

    size : (x : List ℕ) → length x ≡ 4096 → length (after_front x) ≡ 4096
    size x h = length-apply_tx p w.front x ∙ h

    put : List ℕ → List ℕ
    put x = apply_edit p (Lines w.page w.kind w.first w.bytes) (after_front x)

    put_size : (x : List ℕ) → length x ≡ 4096 → length (put x) ≡ 4096
    put_size x h = length-apply_tx p (Lines w.page w.kind w.first w.bytes ∷ []) (after_front x) ∙ size x h

    whole : (x : List ℕ) → apply_tx p (rest_of p tx) x ≡ apply_tx p w.back (put x)
    whole x = ap (λ (t : List Edit). apply_tx p t x) w.rest ∙ apply_tx-append p w.front (Lines w.page w.kind w.first w.bytes ∷ w.back) x

    put_same : (x y : List ℕ) → length x ≡ 4096 → length y ≡ 4096 → byte (put x) i ≡ byte (put y) i
    put_same x y hx hy =
        let start = place_of_line w.page w.kind w.first in
        get_or-overlaid start w.bytes (4096 * p) (after_front x) i (omega (arith, size x hx))
        ∙ byte_within start w.bytes (4096 * p + i) (byte (after_front x) i) (byte (after_front y) i) (omega (arith, w.begins)) (omega (arith, w.ends))
        ∙ sym (get_or-overlaid start w.bytes (4096 * p) (after_front y) i (omega (arith, size y hy)))

    same : (x y : List ℕ) → length x ≡ 4096 → length y ≡ 4096 → byte (apply_tx p (rest_of p tx) x) i ≡ byte (apply_tx p (rest_of p tx) y) i
    same x y hx hy =
        let f = byte_all (4096 * p + i) (record { tx = w.back } ∷ []) in
        ap (λ (z : List ℕ). byte z i) (whole x)
        ∙ one_byte p w.back (put x) i (put_size x hx) small
        ∙ ap f (put_same x y hx hy)
        ∙ sym (one_byte p w.back (put y) i (put_size y hy) small)
        ∙ ap (λ (z : List ℕ). byte z i) (sym (whole y))
