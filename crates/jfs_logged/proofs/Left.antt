-- Edits that have a line of a page give one of its bytes, whatever it held; so those that leave it have none.
use Rattle.std.proofs.Common.{◌≡◌, ◌⊎◌, ◌<◌, ◌≤◌, ◌+◌, ◌-◌, ◌*◌, ◌||◌, nat_le, nat_lt, ℕ, Bool, true, false, List, [], ◌∷◌, length, get_or, replicate, refl, sym, ap, ◌∙◌, inl, inr, arith}
use Rattle.std.proofs.lemmas.Bool.{cases_Bool, and_parts, ltb-true, le-leb, cond-true}
use Rattle.std.proofs.lemmas.List.{get_or_default, get_or-replicate, length-replicate}
use Rattle.jfs_ranges.specs.declared.edit.Edit.{Edit}
use Rattle.jfs_ranges.specs.declared.edit.Edit.TheVariants.{Lines, NoRedo, Alloc, Free}
use Rattle.jfs_ranges.specs.Apply.{apply_edit, apply_tx, byte_after, place_of_line, touches_edit, touches_tx}
use Rattle.jfs_recovery.specs.crash_core.proofs.Bytes.{length-apply_tx}
use Rattle.jfs_recovery.proofs.Lines.{get_or-overlaid}
use Rattle.jfs_logged.specs.Own.{LeftLaw}

-- one byte is the same, whatever the page held
abbrev GivesByte : ℕ → List Edit → Type 0
GivesByte p tx = (i : ℕ) × (i < 4096) × ((a b : List ℕ) → length a ≡ 4096 → length b ≡ 4096 → get_or (apply_tx p tx a) i 0 ≡ get_or (apply_tx p tx b) i 0)

-- a byte that is the same before an edit is the same after it
same_edit : (p : ℕ) (e : Edit) (a b : List ℕ) (i : ℕ) → i < length a → i < length b → get_or a i 0 ≡ get_or b i 0 → get_or (apply_edit p e a) i 0 ≡ get_or (apply_edit p e b) i 0
same_edit p (Lines n kind first bytes) a b i l k same =
    get_or-overlaid (place_of_line n kind first) bytes (4096 * p) a i l ∙ ap (λ (x : ℕ). byte_after (place_of_line n kind first) bytes (4096 * p + i) x) same ∙ sym (get_or-overlaid (place_of_line n kind first) bytes (4096 * p) b i k)
same_edit p (NoRedo n) a b i l k same = same
same_edit p (Alloc run) a b i l k same = same
same_edit p (Free run) a b i l k same = same

size_edit : (p : ℕ) (e : Edit) (a : List ℕ) → length (apply_edit p e a) ≡ length a
size_edit p e a = length-apply_tx p (e ∷ []) a

same_after : (p : ℕ) (tx : List Edit) (a b : List ℕ) (i : ℕ) → i < length a → i < length b → get_or a i 0 ≡ get_or b i 0 → get_or (apply_tx p tx a) i 0 ≡ get_or (apply_tx p tx b) i 0
same_after p [] a b i l k same = same
same_after p (e ∷ es) a b i l k same =
    let s = size_edit p e a in
    let t = size_edit p e b in
    same_after p es (apply_edit p e a) (apply_edit p e b) i (omega (arith, s, l)) (omega (arith, t, k)) (same_edit p e a b i l k same)

-- a line's byte
line_byte : (at : ℕ) (new : List ℕ) (place x y : ℕ) → at ≤ place → place - at < length new → byte_after at new place x ≡ byte_after at new place y
line_byte at new place x y low high =
    cond-true (nat_le at place) (get_or new (place - at) x) x (le-leb at place low)
    ∙ get_or_default new (place - at) x y high
    ∙ sym (cond-true (nat_le at place) (get_or new (place - at) y) y (le-leb at place low))

given_edit : (p : ℕ) (e : Edit) → touches_edit p e ≡ true → GivesByte p (e ∷ [])
given_edit p (Lines n kind first bytes) h = (
  i,
  few,
  λ a b s t.
      get_or-overlaid at bytes (4096 * p) a i (omega (arith, few, s)) ∙ line_byte at bytes (4096 * p + i) (get_or a i 0) (get_or b i 0) (omega arith) (omega (arith, high)) ∙ sym (get_or-overlaid at bytes (4096 * p) b i (omega (arith, few, t))),
)
  where
    at : ℕ
    at = place_of_line n kind first

    i : ℕ
    i = at - 4096 * p

    parts : (nat_lt at (4096 * p + 4096) ≡ true) × (nat_lt (4096 * p - at) (length bytes) ≡ true)
    parts = and_parts (nat_lt at (4096 * p + 4096)) (nat_lt (4096 * p - at) (length bytes)) h

    few : i < 4096
    few = let low = ltb-true at (4096 * p + 4096) parts.0 in omega (arith, low)

    high : 4096 * p - at < length bytes
    high = ltb-true (4096 * p - at) (length bytes) parts.1
given_edit p (NoRedo n) h = absurd (cc (h))
given_edit p (Alloc run) h = absurd (cc (h))
given_edit p (Free run) h = absurd (cc (h))

given : (p : ℕ) (tx : List Edit) → touches_tx p tx ≡ true → GivesByte p tx
given p [] h = absurd (cc (h))
given p (e ∷ es) h = at (touches_edit p e) refl h (λ k. given p es k)
  where
    at : (x : Bool) → touches_edit p e ≡ x → (x || touches_tx p es) ≡ true → (touches_tx p es ≡ true → GivesByte p es) → GivesByte p (e ∷ es)
    at true e_is k rest = let g = given_edit p e e_is in (
      g.0,
      g.1,
      λ a b s t.
          (let x = size_edit p e a in let y = size_edit p e b in let few = g.1 in same_after p es (apply_edit p e a) (apply_edit p e b) g.0 (omega (arith, x, few, s)) (omega (arith, y, few, t)) (g.2 a b s t)),
    )
    at false e_is k rest = let g = rest k in (g.0, g.1, λ a b s t. g.2 (apply_edit p e a) (apply_edit p e b) (size_edit p e a ∙ s) (size_edit p e b ∙ t))

abbrev full : ℕ → List ℕ
full x = replicate 4096 x

pub left_law : LeftLaw
left_law p tx leaves = by (cases_Bool (touches_tx p tx))
  where
    size : (x : ℕ) → length (full x) ≡ 4096
    size x = length-replicate {A = ℕ} 4096 x

    by : (touches_tx p tx ≡ true) ⊎ (touches_tx p tx ≡ false) → touches_tx p tx ≡ false
    by (inr e) = e
    by (inl e) =
        let g = given p tx e in
        let few = g.1 in
        let zero_is = ap (λ (a : List ℕ). get_or a g.0 0) (leaves (full 0) (size 0)) ∙ get_or-replicate {A = ℕ} 4096 g.0 0 0 few in
        let one_is = ap (λ (a : List ℕ). get_or a g.0 0) (leaves (full 1) (size 1)) ∙ get_or-replicate {A = ℕ} 4096 g.0 1 0 few in
        let both = g.2 (full 0) (full 1) (size 0) (size 1) in
        absurd (omega (arith, zero_is, one_is, both))
