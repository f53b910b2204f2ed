-- A page that a crash left in the midst of redo is redone to the same.
use Rattle.std.proofs.Common.{◌≡◌, ◌⊎◌, ◌<◌, ◌≤◌, ◌+◌, ◌-◌, ◌*◌, ℕ, Bool, true, false, true≢false, ◌||◌, if◌then◌else◌, List, [], ◌∷◌, ◌++◌, length, take, drop, get_or, Option, Some, None, refl, sym, ap, ◌∙◌, inl, inr, arith}
use Rattle.std.proofs.lemmas.Bool.{cases_lt}
use Rattle.std.proofs.lemmas.List.{get_or-take, get_or-drop, get_or_append_left, ext_get_or, length-take-le, drop_at}
use Rattle.jfs_disk.specs.Crash.{torn}
use Rattle.jfs_disk.proofs.Tearing.{length-torn}
use Rattle.jfs_ranges.specs.declared.edit.Edit.{Edit}
use Rattle.jfs_ranges.specs.Apply.{apply_edit, touches_edit, touches_tx}
use Rattle.jfs_ranges.proofs.Overlaid.{length-apply_edit, apply_edit-untouched}
use Rattle.jfs_records.specs.Redo.{is_noredo, closes_in, redone, chosen, picked}
use Rattle.jfs_records.proofs.Choice.{byte_chosen}

pub length-redone : (p : ℕ) (left now : List ℕ) (es : List Edit) → length now ≡ length left → length (redone p left now es) ≡ length left
length-redone p left now [] size = size
length-redone p left now (e ∷ es) size = length-redone p left (if is_noredo p e then left else apply_edit p e now) es (at (is_noredo p e))
  where
    at : (b : Bool) → length (if b then left else apply_edit p e now) ≡ length left
    at true = refl
    at false = length-apply_edit p e now ∙ size

-- a byte of a page that is torn is one of both pages'
torn_byte : (sectors : ℕ) (front rest : List ℕ) (i : ℕ) → sectors ≤ 8 → length front ≡ 4096 → (get_or (torn sectors front rest) i 0 ≡ get_or front i 0) ⊎ (get_or (torn sectors front rest) i 0 ≡ get_or rest i 0)
unfolding torn
torn_byte sectors front rest i few size = at (cases_lt i (512 * sectors))
  where
    long : length (take (512 * sectors) front) ≡ 512 * sectors
    long = length-take-le (512 * sectors) front (omega (arith, few, size))

    at : (i < 512 * sectors) ⊎ (512 * sectors ≤ i) → (get_or (take (512 * sectors) front ++ drop (512 * sectors) rest) i 0 ≡ get_or front i 0) ⊎ (get_or (take (512 * sectors) front ++ drop (512 * sectors) rest) i 0 ≡ get_or rest i 0)
    at (inl low) = inl (get_or_append_left (take (512 * sectors) front) (drop (512 * sectors) rest) 0 i (omega (arith, low, long)) ∙ get_or-take (512 * sectors) front i 0 low)
    at (inr high) =
        let whole = take (512 * sectors) front ++ drop (512 * sectors) rest in
        let behind : drop (512 * sectors) whole ≡ drop (512 * sectors) rest = drop_at (take (512 * sectors) front) (drop (512 * sectors) rest) (512 * sectors) long in
        let place : 512 * sectors + (i - 512 * sectors) ≡ i = omega (arith, high) in
        inr (ap (λ (n : ℕ). get_or whole n 0) (sym place) ∙ sym (get_or-drop (512 * sectors) whole (i - 512 * sectors) 0) ∙ ap (λ (bytes : List ℕ). get_or bytes (i - 512 * sectors) 0) behind
        ∙ get_or-drop (512 * sectors) rest (i - 512 * sectors) 0 ∙ ap (λ (n : ℕ). get_or rest n 0) place)

-- a byte of a redone page is that of the last line that counts, or what was there
byte_of : (p i : ℕ) (left : List ℕ) (es : List Edit) → i < length left → get_or (redone p left left es) i 0 ≡ picked p i (chosen p i es) (get_or left i 0)
byte_of p i left es h = byte_chosen p i left left es refl h ∙ ap (picked p i (chosen p i es)) (either (closes_in p es))
  where
    either : (b : Bool) → (if b then get_or left i 0 else get_or left i 0) ≡ get_or left i 0
    either true = refl
    either false = refl

-- bytes that differ from what was there are given by a line
same_byte : (p i : ℕ) (o : Option Edit) (old left : ℕ) → (left ≡ picked p i o old) ⊎ (left ≡ old) → picked p i o left ≡ picked p i o old
same_byte p i (Some e) old left either = refl
same_byte p i None old left (inl is) = is
same_byte p i None old left (inr is) = is

-- A page whose bytes are those that it had, or those that redo makes of them, is redone to the same.
pub mixed_again : (p : ℕ) (old left : List ℕ) (es : List Edit) → length old ≡ 4096 → length left ≡ 4096
    → ((i : ℕ) → i < 4096 → (get_or left i 0 ≡ get_or (redone p old old es) i 0) ⊎ (get_or left i 0 ≡ get_or old i 0)) → redone p left left es ≡ redone p old old es
mixed_again p old left es size sizes each = ext_get_or 0 (redone p left left es) new (length-redone p left left es refl ∙ sizes ∙ sym long) (λ i low.
    let within : i < 4096 = omega (arith, low, length-redone p left left es refl, sizes) in
    let old_byte = byte_of p i old es (omega (arith, within, size)) in
    byte_of p i left es (omega (arith, within, sizes))
    ∙ same_byte p i (chosen p i es) (get_or old i 0) (get_or left i 0) (elim (each i within) [ inl e ↦ inl (e ∙ old_byte) | inr e ↦ inr e ])
    ∙ sym old_byte)
  where
    new : List ℕ
    new = redone p old old es

    long : length new ≡ 4096
    long = length-redone p old old es refl ∙ size

pub redone_again : (p : ℕ) (old : List ℕ) (es : List Edit) (sectors : ℕ) → sectors ≤ 8 → length old ≡ 4096
    → redone p (torn sectors (redone p old old es) old) (torn sectors (redone p old old es) old) es ≡ redone p old old es
redone_again p old es sectors few size =
    let new = redone p old old es in
    let long = length-redone p old old es refl ∙ size in
    mixed_again p old (torn sectors new old) es size (length-torn sectors new old few long size) (λ i within. torn_byte sectors new old i few long)

-- a page of which no line counts
pub unnamed : (p : ℕ) (old : List ℕ) (es : List Edit) → ((i : ℕ) → chosen p i es ≡ None) → redone p old old es ≡ old
unnamed p old es none = ext_get_or 0 (redone p old old es) old (length-redone p old old es refl) (λ i low.
    byte_of p i old es (omega (arith, low, length-redone p old old es refl)) ∙ ap (λ (o : Option Edit). picked p i o (get_or old i 0)) (none i))

-- and one that no line touches
pub untouched : (p : ℕ) (old : List ℕ) (es : List Edit) → length old ≡ 4096 → touches_tx p es ≡ false → redone p old old es ≡ old
untouched p old [] size none = refl
untouched p old (e ∷ es) size none = at (touches_edit p e) refl none (untouched p old es size)
  where
    same : touches_edit p e ≡ false → (t : Bool) → (if t then old else apply_edit p e old) ≡ old
    same clear true = refl
    same clear false = apply_edit-untouched p e old size clear

    at : (t : Bool) → touches_edit p e ≡ t → (t || touches_tx p es) ≡ false → (touches_tx p es ≡ false → redone p old old es ≡ old) → redone p old (if is_noredo p e then old else apply_edit p e old) es ≡ old
    at true touches none rest = absurd (true≢false none)
    at false clear none rest = ap (λ (now : List ℕ). redone p old now es) (same clear (is_noredo p e)) ∙ rest none
