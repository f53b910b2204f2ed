-- Lists of syncpoints, with a mark or without.
use Rattle.std.proofs.Common.{◌≡◌, ◌<◌, ◌≤◌, ℕ, suc, ◌^◌, ◌||◌, Bool, true, false, if◌then◌else◌, List, [], ◌∷◌, ◌++◌, length, refl, sym, ap, ◌∙◌, arith}
use Rattle.std.proofs.lemmas.Bool.{false≢true}
use Rattle.jfs_groups.specs.Points.{halt_mark, is_mark, is_marked, syncs}
use Rattle.jfs_groups.specs.Text.{AreCounts}
use Rattle.jfs_shared.specs.Shared.{counts_in}

-- without a mark all are syncpoints
pub all_syncs : (ps : List ℕ) → is_marked ps ≡ false → syncs ps ≡ length ps
all_syncs [] e = refl
all_syncs (p ∷ ps) e = by (is_mark p) (all_syncs ps) e
  where
    by : (b : Bool) → (is_marked ps ≡ false → syncs ps ≡ length ps) → (b || is_marked ps) ≡ false → (if b then syncs ps else suc (syncs ps)) ≡ suc (length ps)
    by true rest e = absurd (false≢true (sym e))
    by false rest e = ap (λ (n : ℕ). suc n) (rest e)

-- a mark isn't one
pub marked_syncs : (ps : List ℕ) → syncs (ps ++ halt_mark ∷ []) ≡ syncs ps
marked_syncs [] = refl
marked_syncs (p ∷ ps) = ap (λ (n : ℕ). if is_mark p then n else suc n) (marked_syncs ps)

or_true : (b c : Bool) → c ≡ true → (b || c) ≡ true
or_true true c e = refl
or_true false c e = e

pub marked_at_end : (ps : List ℕ) → is_marked (ps ++ halt_mark ∷ []) ≡ true
marked_at_end [] = refl
marked_at_end (p ∷ ps) = or_true (is_mark p) (is_marked (ps ++ halt_mark ∷ [])) (marked_at_end ps)

-- and a sync count isn't a mark
no_mark : (n : ℕ) → n < 2 ^ 64 → is_mark n ≡ false
no_mark n less = search (arith)

pub synced_more : (ps : List ℕ) (n : ℕ) → n < 2 ^ 64 → syncs (ps ++ n ∷ []) ≡ suc (syncs ps)
synced_more [] n less = ap (λ (b : Bool). if b then 0 else 1) (no_mark n less)
synced_more (p ∷ ps) n less = by (is_mark p) (synced_more ps n less)
  where
    by : (b : Bool) → syncs (ps ++ n ∷ []) ≡ suc (syncs ps) → (if b then syncs (ps ++ n ∷ []) else suc (syncs (ps ++ n ∷ []))) ≡ suc (if b then syncs ps else suc (syncs ps))
    by true rest = rest
    by false rest = ap (λ (k : ℕ). suc k) rest

pub marked_more : (ps : List ℕ) (n : ℕ) → n < 2 ^ 64 → is_marked (ps ++ n ∷ []) ≡ is_marked ps
marked_more [] n less = ap (λ (b : Bool). b || false) (no_mark n less)
marked_more (p ∷ ps) n less = ap (λ (b : Bool). is_mark p || b) (marked_more ps n less)

-- ---- the sync counts

pub marked_counts : (ps : List ℕ) → counts_in (ps ++ halt_mark ∷ []) ≡ counts_in ps
marked_counts [] = refl
marked_counts (p ∷ ps) = ap (λ (l : List ℕ). if is_mark p then l else p ∷ l) (marked_counts ps)

pub more_counts : (ps : List ℕ) (n : ℕ) → n < 2 ^ 64 → counts_in (ps ++ n ∷ []) ≡ counts_in ps ++ n ∷ []
more_counts [] n less = ap (λ (b : Bool). if b then [] else n ∷ []) (no_mark n less)
more_counts (p ∷ ps) n less = by (is_mark p) (more_counts ps n less)
  where
    by : (b : Bool) → counts_in (ps ++ n ∷ []) ≡ counts_in ps ++ n ∷ [] → (if b then counts_in (ps ++ n ∷ []) else p ∷ counts_in (ps ++ n ∷ [])) ≡ (if b then counts_in ps else p ∷ counts_in ps) ++ n ∷ []
    by true rest = rest
    by false rest = ap (λ (l : List ℕ). p ∷ l) rest

-- without a mark all of them are
pub all_counts : (ps : List ℕ) → is_marked ps ≡ false → counts_in ps ≡ ps
all_counts [] e = refl
all_counts (p ∷ ps) e = by (is_mark p) (all_counts ps) e
  where
    by : (b : Bool) → (is_marked ps ≡ false → counts_in ps ≡ ps) → (b || is_marked ps) ≡ false → (if b then counts_in ps else p ∷ counts_in ps) ≡ p ∷ ps
    by true rest e = absurd (false≢true (sym e))
    by false rest e = ap (λ (l : List ℕ). p ∷ l) (rest e)

no_counts : (ms : List ℕ) → syncs ms ≡ 0 → counts_in ms ≡ []
no_counts [] e = refl
no_counts (m ∷ ms) e = by (is_mark m) (no_counts ms) e
  where
    by : (b : Bool) → (syncs ms ≡ 0 → counts_in ms ≡ []) → (if b then syncs ms else suc (syncs ms)) ≡ 0 → (if b then counts_in ms else m ∷ counts_in ms) ≡ []
    by true rest none = rest none
    by false rest none = absurd (omega (arith, none))

-- sync counts that rise from one number of entries to another, and marks behind them
pub counts_of : (low high : ℕ) (ps ms : List ℕ) → high < 2 ^ 64 → AreCounts low high ps → syncs ms ≡ 0 → counts_in (ps ++ ms) ≡ ps
counts_of low high [] ms less rise none = no_counts ms none
counts_of low high (p ∷ ps) ms less rise none =
    ap (λ (b : Bool). if b then counts_in (ps ++ ms) else p ∷ counts_in (ps ++ ms)) (no_mark p (let most = highest p ps rise.1 in omega (arith, most, less)))
    ∙ ap (λ (l : List ℕ). p ∷ l) (counts_of p high ps ms less rise.1 none)
  where
    highest : (q : ℕ) (qs : List ℕ) → AreCounts q high qs → q ≤ high
    highest q [] up = up
    highest q (r ∷ rs) up = let more = highest r rs up.1 in let first = up.0 in omega (arith, more, first)
