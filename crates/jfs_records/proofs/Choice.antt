-- Redo is a choice per cell.
use Rattle.std.proofs.Common.{◌≡◌, ◌<◌, ◌≤◌, ◌+◌, ◌-◌, ◌*◌, ◌&&◌, ◌||◌, nat_le, nat_lt, ℕ, zero, suc, Bool, true, false, List, [], ◌∷◌, length, get_or, Option, Some, None, if◌then◌else◌, refl, sym, ap, ◌∙◌, arith}
use Rattle.std.proofs.lemmas.Bool.{and_parts, ltb-true, ltb-false, true≢false}
use Rattle.std.proofs.lemmas.List.{get_or_default}
use Rattle.jfs_ranges.specs.declared.edit.Edit.{Edit}
use Rattle.jfs_ranges.specs.declared.edit.Edit.TheVariants.{Lines, NoRedo, Alloc, Free}
use Rattle.jfs_ranges.specs.Apply.{place_of_line, byte_after, overlaid, apply_edit}
use Rattle.jfs_ranges.proofs.Overlaid.{length-apply_edit}
use Rattle.jfs_records.specs.Redo.{is_noredo, closes_in, redone, covers, or_else, chosen, byte_by, picked, HasCells, IsChoice}

get_or-overlaid : (at : ℕ) (new : List ℕ) (place : ℕ) (xs : List ℕ) (i : ℕ) → i < length xs → get_or (overlaid at new place xs) i 0 ≡ byte_after at new (place + i) (get_or xs i 0)
get_or-overlaid at new place [] i h = absurd (omega arith)
get_or-overlaid at new place (x ∷ xs) zero h = let e : place ≡ place + 0 = omega arith in ap (λ (n : ℕ). byte_after at new n x) e
get_or-overlaid at new place (x ∷ xs) (suc i) h =
    let e : suc place + i ≡ place + suc i = omega arith in
    get_or-overlaid at new (suc place) xs i (omega arith) ∙ ap (λ (n : ℕ). byte_after at new n (get_or xs i 0)) e

byte_edit : (p i : ℕ) (e : Edit) (now : List ℕ) → i < length now → get_or (apply_edit p e now) i 0 ≡ byte_by p i e (get_or now i 0)
byte_edit p i (Lines page kind first bytes) now h = get_or-overlaid (place_of_line page kind first) bytes (4096 * p) now i h
byte_edit p i (NoRedo page) now h = refl
byte_edit p i (Alloc run) now h = refl
byte_edit p i (Free run) now h = refl

after_past : (xs : List ℕ) (i d : ℕ) → length xs ≤ i → get_or xs i d ≡ d
after_past [] i d h = refl
after_past (x ∷ xs) zero d h = absurd (omega arith)
after_past (x ∷ xs) (suc i) d h = after_past xs i d (omega arith)

given_by : (at : ℕ) (bytes : List ℕ) (place old : ℕ) → (nat_le at place && nat_lt (place - at) (length bytes)) ≡ true → byte_after at bytes place old ≡ byte_after at bytes place 0
given_by at bytes place old h =
    let parts = and_parts (nat_le at place) (nat_lt (place - at) (length bytes)) h in
    rw (parts.0) (get_or_default bytes (place - at) old 0 (ltb-true (place - at) (length bytes) parts.1))

passed_by : (at : ℕ) (bytes : List ℕ) (place old : ℕ) → (nat_le at place && nat_lt (place - at) (length bytes)) ≡ false → byte_after at bytes place old ≡ old
passed_by at bytes place old h = by (nat_le at place) h
  where
    by : (b : Bool) → (b && nat_lt (place - at) (length bytes)) ≡ false → (if b then get_or bytes (place - at) old else old) ≡ old
    by true h = after_past bytes (place - at) old (ltb-false (place - at) (length bytes) h)
    by false h = refl

covered : (p i : ℕ) (e : Edit) (old : ℕ) → covers p i e ≡ true → byte_by p i e old ≡ byte_by p i e 0
covered p i (Lines page kind first bytes) old h = given_by (place_of_line page kind first) bytes (4096 * p + i) old h
covered p i (NoRedo page) old h = absurd (true≢false (sym h))
covered p i (Alloc run) old h = absurd (true≢false (sym h))
covered p i (Free run) old h = absurd (true≢false (sym h))

not_covered : (p i : ℕ) (e : Edit) (old : ℕ) → covers p i e ≡ false → byte_by p i e old ≡ old
not_covered p i (Lines page kind first bytes) old h = passed_by (place_of_line page kind first) bytes (4096 * p + i) old h
not_covered p i (NoRedo page) old h = refl
not_covered p i (Alloc run) old h = refl
not_covered p i (Free run) old h = refl

closed_none : (p i : ℕ) (e : Edit) → is_noredo p e ≡ true → covers p i e ≡ false
closed_none p i (Lines page kind first bytes) h = absurd (true≢false (sym h))
closed_none p i (NoRedo page) h = refl
closed_none p i (Alloc run) h = refl
closed_none p i (Free run) h = refl

-- one byte, forwards
one : (p i : ℕ) (left now : List ℕ) (e : Edit) → length now ≡ length left → i < length left → get_or (if is_noredo p e then left else apply_edit p e now) i 0 ≡ (if is_noredo p e then get_or left i 0 else byte_by p i e (get_or now i 0))
one p i left now e size h = by (is_noredo p e)
  where
    by : (b : Bool) → get_or (if b then left else apply_edit p e now) i 0 ≡ (if b then get_or left i 0 else byte_by p i e (get_or now i 0))
    by true = refl
    by false = byte_edit p i e now (omega (arith, size, h))

size_of : (p : ℕ) (left now : List ℕ) (e : Edit) → length now ≡ length left → length (if is_noredo p e then left else apply_edit p e now) ≡ length left
size_of p left now e size = by (is_noredo p e)
  where
    by : (b : Bool) → length (if b then left else apply_edit p e now) ≡ length left
    by true = refl
    by false = length-apply_edit p e now ∙ size

-- the choice with one edit more in front
more : (p i : ℕ) (e : Edit) (was now : ℕ) (o : Option Edit) (shut noredo hit : Bool) → is_noredo p e ≡ noredo → covers p i e ≡ hit
    → picked p i o (if shut then was else (if noredo then was else byte_by p i e now)) ≡ picked p i (or_else o (if shut then None else (if hit then Some e else None))) (if noredo || shut then was else now)
more p i e was now (Some x) shut noredo hit n h = refl
more p i e was now None true true hit n h = refl
more p i e was now None true false hit n h = refl
more p i e was now None false true true n h = absurd (true≢false (sym h ∙ closed_none p i e n))
more p i e was now None false true false n h = refl
more p i e was now None false false true n h = covered p i e now h
more p i e was now None false false false n h = not_covered p i e now h

pub byte_chosen : (p i : ℕ) (left now : List ℕ) (es : List Edit) → length now ≡ length left → i < length left
    → get_or (redone p left now es) i 0 ≡ picked p i (chosen p i es) (if closes_in p es then get_or left i 0 else get_or now i 0)
byte_chosen p i left now [] size h = refl
byte_chosen p i left now (e ∷ es) size h =
    let next : List ℕ = if is_noredo p e then left else apply_edit p e now in
    byte_chosen p i left next es (size_of p left now e size) h
    ∙ ap (λ (n : ℕ). picked p i (chosen p i es) (if closes_in p es then get_or left i 0 else n)) (one p i left now e size h)
    ∙ more p i e (get_or left i 0) (get_or now i 0) (chosen p i es) (closes_in p es) (is_noredo p e) (covers p i e) refl refl

same_choice : (p c j : ℕ) → j < 16 → (es : List Edit) → ((k : ℕ) → (d : Edit) → k < length es → HasCells (get_or es k d)) → chosen p (16 * c + j) es ≡ chosen p (16 * c) es
same_choice p c j h [] whole = refl
same_choice p c j h (e ∷ es) whole =
    let here = whole 0 e (omega arith) p c j h in
    let later = same_choice p c j h es (λ k d l. whole (suc k) d (omega arith)) in
    ap (λ (o : Option Edit). or_else o (if closes_in p es then None else (if covers p (16 * c + j) e then Some e else None))) later
    ∙ ap (λ (b : Bool). or_else (chosen p (16 * c) es) (if closes_in p es then None else (if b then Some e else None))) here

pub is_choice : IsChoice
is_choice p left es whole c j h l =
    byte_chosen p (16 * c + j) left left es refl l
    ∙ ap (λ (o : Option Edit). picked p (16 * c + j) o (if closes_in p es then get_or left (16 * c + j) 0 else get_or left (16 * c + j) 0)) (same_choice p c j h es whole)
    ∙ ap (λ (n : ℕ). picked p (16 * c + j) (chosen p (16 * c) es) n) (either (closes_in p es))
  where
    either : (b : Bool) → (if b then get_or left (16 * c + j) 0 else get_or left (16 * c + j) 0) ≡ get_or left (16 * c + j) 0
    either true = refl
    either false = refl
