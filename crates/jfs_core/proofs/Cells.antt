-- Cells of a page's contents, torn or written.
use Rattle.std.proofs.Common.{◌≡◌, ◌<◌, ◌≤◌, ◌⊎◌, ◌+◌, ◌-◌, ◌*◌, ℕ, zero, suc, List, [], ◌∷◌, ◌++◌, length, take, drop, get_or, refl, sym, ap, ◌∙◌, subst, inl, inr, arith}
use Rattle.std.proofs.lemmas.Bool.{cases_lt}
use Rattle.std.proofs.lemmas.List.{length-append, length-take-le, get_or_append_left, get_or-append_right, get_or-take, get_or-drop}
use Rattle.jfs_disk.specs.Crash.{PageHistory, content_of, torn}
use Rattle.jfs_core.specs.Sound.{SameCell, IsBetween}

-- a tear goes between cells
pub torn-cell : (s : ℕ) (a b : List ℕ) (cell : ℕ) → length a ≡ 4096 → s ≤ 8 → SameCell (torn s a b) a cell ⊎ SameCell (torn s a b) b cell
unfolding torn
torn-cell s a b cell ea h = at (cases_lt cell (32 * s))
  where
    front : length (take (512 * s) a) ≡ 512 * s
    front = length-take-le (512 * s) a (omega arith)

    at : (cell < 32 * s) ⊎ (32 * s ≤ cell) → SameCell (take (512 * s) a ++ drop (512 * s) b) a cell ⊎ SameCell (take (512 * s) a ++ drop (512 * s) b) b cell
    at (inl l) = inl (λ i w.
        get_or_append_left (take (512 * s) a) (drop (512 * s) b) 0 (16 * cell + i) (omega (arith, front))
        ∙ get_or-take (512 * s) a (16 * cell + i) 0 (omega arith))
    at (inr l) = inr (λ i w.
        let place : 512 * s + (16 * cell + i - 512 * s) ≡ 16 * cell + i = omega arith in
        get_or-append_right (take (512 * s) a) (drop (512 * s) b) (512 * s) (16 * cell + i) 0 front (omega arith)
        ∙ get_or-drop (512 * s) b (16 * cell + i - 512 * s) 0
        ∙ ap (λ (x : ℕ). get_or b x 0) place)

pub IsBetween-torn : (cares : ℕ → Type 0) (v : ℕ → List ℕ) (m told s : ℕ) (a b : List ℕ) → length a ≡ 4096 → s ≤ 8 → IsBetween cares v m told a → IsBetween cares v m told b → IsBetween cares v m told (torn s a b)
IsBetween-torn cares v m told s a b ea h one two = record { each = λ cell w c. at cell w c (torn-cell s a b cell ea h) }
  where
    at : (cell : ℕ) → cell < 256 → cares cell → SameCell (torn s a b) a cell ⊎ SameCell (torn s a b) b cell → (k : ℕ) × (m ≤ k) × (k ≤ told) × SameCell (torn s a b) (v k) cell
    at cell w c (inl same) = let e = one.each cell w c in (e.0, e.1, e.2, λ i l. same i l ∙ e.3 i l)
    at cell w c (inr same) = let e = two.each cell w c in (e.0, e.1, e.2, λ i l. same i l ∙ e.3 i l)

-- a fact of each content, with new writes
pub all_contents : (P : List ℕ → Type 0) (page : PageHistory) (seen : List ℕ) (new : List (List ℕ)) →
    ((j : ℕ) → j ≤ length page.writes → P (content_of page j)) → ((i : ℕ) → i < length new → P (get_or new i [])) →
    (j : ℕ) → j ≤ length (page.writes ++ new) → P (content_of (record page { seen = seen; writes = page.writes ++ new }) j)
all_contents P page seen new old fresh zero h = old zero (omega arith)
all_contents P page seen new old fresh (suc j) h = at (cases_lt j (length page.writes))
  where
    at : (j < length page.writes) ⊎ (length page.writes ≤ j) → P (get_or (page.writes ++ new) j [])
    at (inl l) = subst P (sym (get_or_append_left page.writes new [] j l)) (old (suc j) (omega arith))
    at (inr l) = subst P (sym (get_or-append_right page.writes new (length page.writes) j [] refl l)) (fresh (j - length page.writes) (omega (arith, length-append page.writes new)))

pub one_content : (P : List ℕ → Type 0) (a : List ℕ) → P a → (i : ℕ) → i < 1 → P (get_or (a ∷ []) i [])
one_content P a h zero l = h
one_content P a h (suc i) l = absurd (omega arith)

pub two_contents : (P : List ℕ → Type 0) (a b : List ℕ) → P a → P b → (i : ℕ) → i < 2 → P (get_or (a ∷ b ∷ []) i [])
two_contents P a b ha hb zero l = ha
two_contents P a b ha hb (suc zero) l = hb
two_contents P a b ha hb (suc (suc i)) l = absurd (omega arith)

-- ---- between

pub IsBetween-longer : (cares : ℕ → Type 0) (v : ℕ → List ℕ) (m told more : ℕ) (content : List ℕ) → told ≤ more → IsBetween cares v m told content → IsBetween cares v m more content
IsBetween-longer cares v m told more content h b = record { each = λ cell w c. let e = b.each cell w c in (e.0, e.1, omega (arith, e.2), e.3) }

-- the same contents up to told
pub IsBetween-along : (cares : ℕ → Type 0) (v w : ℕ → List ℕ) (m told : ℕ) (content : List ℕ) → ((k : ℕ) → k ≤ told → w k ≡ v k) → IsBetween cares v m told content → IsBetween cares w m told content
IsBetween-along cares v w m told content same b =
    record { each = λ cell l c. let e = b.each cell l c in (e.0, e.1, e.2, λ i q. e.3 i q ∙ ap (λ (z : List ℕ). get_or z (16 * cell + i) 0) (sym (same e.0 e.2))) }

-- exactly the content after told entries
pub IsBetween-exact : (cares : ℕ → Type 0) (v : ℕ → List ℕ) (m told : ℕ) (content : List ℕ) → m ≤ told → content ≡ v told → IsBetween cares v m told content
IsBetween-exact cares v m told content h e =
    record { each = λ cell l c. (told, h, omega arith, λ i q. ap (λ (z : List ℕ). get_or z (16 * cell + i) 0) e) }

-- between told and told, where nothing changes from there on to m
pub IsBetween-steady : (cares : ℕ → Type 0) (v : ℕ → List ℕ) (told m more : ℕ) (content : List ℕ) → m ≤ more → v m ≡ v told → IsBetween cares v told told content → IsBetween cares v m more content
IsBetween-steady cares v told m more content h e b =
    record {
      each = λ cell l c.
          let x = b.each cell l c in
          let k : x.0 ≡ told = omega (arith, x.1, x.2) in
          (m, omega arith, h, λ i q. x.3 i q ∙ ap (λ (z : List ℕ). get_or z (16 * cell + i) 0) (ap v k ∙ sym e));
    }
