-- Events where some are stable, and a group has the others.
use Rattle.std.proofs.Common.{◌≡◌, ◌≤◌, ◌+◌, ◌∷◌, [], ◌++◌, ℕ, zero, suc, Bool, true, false, if◌then◌else◌, List, length, drop, get_or, refl, ap, subst, arith}
use Rattle.std.proofs.lemmas.List.{length-append}
use Rattle.std.specs.List.{AllByRecursion}
use Rattle.jfs_records.specs.Entries.{entry}
use Rattle.jfs_groups.specs.Text.{AreCounts}
use Rattle.jfs_log_window.specs.Events.{Event, Entered, Pointed, count, points_in, points_from, items_from}
use Rattle.jfs_log_window.specs.Window.{IsOfEntry}
use Rattle.jfs_kept_history.proofs.Items.{least}

-- ---- all sync counts stand behind the first d entries

-- none is behind more than so many
abbrev pub AllWithin : ℕ → List ℕ → Type 0
AllWithin most points = AllByRecursion (λ (p : ℕ). p ≤ most) points

pub counts_within : (low high : ℕ) (points : List ℕ) → AreCounts low high points → AllWithin high points
counts_within low high [] a = tt
counts_within low high (p ∷ ps) a = (highest p ps a.1, counts_within p high ps a.1)
  where
    highest : (q : ℕ) (qs : List ℕ) → AreCounts q high qs → q ≤ high
    highest q [] b = b
    highest q (r ∷ rs) b = let more = highest r rs b.1 in let first = b.0 in omega (arith, more, first)

no_point : (n : ℕ) (es : List Event) → AllWithin n (points_from (suc n) es) → points_in es ≡ 0
no_point n es within = by (points_from (suc n) es) refl within
  where
    by : (ps : List ℕ) → points_from (suc n) es ≡ ps → AllWithin n ps → points_in es ≡ 0
    by [] e all = none es (suc n) e
      where
        none : (fs : List Event) (m : ℕ) → points_from m fs ≡ [] → points_in fs ≡ 0
        none [] m e = refl
        none (Entered h ∷ fs) m e = none fs (suc m) e
        none (Pointed ∷ fs) m e = absurd (let k = ap (λ (l : List ℕ). length l) e in omega (arith, k))
    by (p ∷ ps) e all = absurd (let low = least (suc n) es p ps e in let high = all.0 in omega (arith, low, high))

-- The first d entries with all SYNCPTs, and then entries alone.
pub record Split (es : List Event) (d : ℕ) : Type 0 where
  pub front : List Event
  pub rest : List Event
  pub all : es ≡ front ++ rest
  pub many : count front ≡ d
  pub alone : points_in rest ≡ 0

pub split : (n d : ℕ) (es : List Event) → d ≤ count es → AllWithin (n + d) (points_from n es) → Split es d
split n d [] few within = record { front = []; rest = []; all = refl; many = (let k : 0 ≡ d = omega (arith, few) in k); alone = refl }
split n d (Pointed ∷ es) few within =
    let s = split n d es few within.1 in
    record { front = Pointed ∷ s.front; rest = s.rest; all = ap (λ (l : List Event). Pointed ∷ l) s.all; many = s.many; alone = s.alone }
split n zero (Entered h ∷ es) few within = record {
  front = [];
  rest = Entered h ∷ es;
  all = refl;
  many = refl;
  alone = no_point n es (below within);
}
  where
    same : n + 0 ≡ n
    same = omega arith

    below : AllWithin (n + 0) (points_from (suc n) es) → AllWithin n (points_from (suc n) es)
    below all = subst (λ (m : ℕ). AllWithin m (points_from (suc n) es)) same all
split n (suc d) (Entered h ∷ es) few within =
    let s = split (suc n) d es (omega (arith, few)) (subst (λ (m : ℕ). AllWithin m (points_from (suc n) es)) (let k : n + suc d ≡ suc n + d = omega arith in k) within) in
    record { front = Entered h ∷ s.front; rest = s.rest; all = ap (λ (l : List Event). Entered h ∷ l) s.all; many = ap suc s.many; alone = s.alone }

-- what stands in the log of entries alone
pub only_entries : (n : ℕ) (es : List Event) → points_in es ≡ 0 → AllByRecursion IsOfEntry (items_from n es)
only_entries n [] none = tt
only_entries n (Entered h ∷ es) none = by h.logs (only_entries (suc n) es none)
  where
    by : (b : Bool) → AllByRecursion IsOfEntry (items_from (suc n) es) → AllByRecursion IsOfEntry ((if b then entry (suc n) h.noted ∷ [] else []) ++ items_from (suc n) es)
    by true all = (tt, all)
    by false all = all
only_entries n (Pointed ∷ es) none = absurd (omega (arith, none))

-- ---- a SYNCPT behind all

pub record Last (es : List Event) : Type 0 where
  pub front : List Event
  pub all : es ≡ front ++ Pointed ∷ []

-- the last sync count is that of all entries
pub last_point : (n m : ℕ) (es : List Event) (points : List ℕ) → m ≡ n + count es → points_from n es ≡ points ++ m ∷ [] → Last es
last_point n m [] points is e = absurd (let k = ap (λ (l : List ℕ). length l) e in let j = length-append points (m ∷ []) in omega (arith, k, j))
last_point n m (Entered h ∷ es) points is e =
    let s = last_point (suc n) m es points (omega (arith, is)) e in
    record { front = Entered h ∷ s.front; all = ap (λ (l : List Event). Entered h ∷ l) s.all }
last_point n m (Pointed ∷ es) [] is e = by es (ap (λ (l : List ℕ). get_or l 0 0) e) is (ap (λ (l : List ℕ). drop 1 l) e)
  where
    by : (fs : List Event) → n ≡ m → m ≡ n + count fs → points_from n fs ≡ [] → Last (Pointed ∷ fs)
    by [] same is none = record { front = []; all = refl }
    by (Pointed ∷ fs) same is none = absurd (let k = ap (λ (l : List ℕ). length l) none in omega (arith, k))
    by (Entered h ∷ fs) same is none = absurd (omega (arith, same, is))
last_point n m (Pointed ∷ es) (p ∷ ps) is e =
    let s = last_point n m es ps is (ap (λ (l : List ℕ). drop 1 l) e) in
    record { front = Pointed ∷ s.front; all = ap (λ (l : List Event). Pointed ∷ l) s.all }
