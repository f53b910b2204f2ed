-- Blocks that entries freed stay busy until these are told.
use Rattle.std.proofs.Common.{◌≡◌, ◌<◌, ◌≤◌, ◌⊎◌, ℕ, suc, true, false, List, [], ◌∷◌, length, slice_index_or, refl, sym, ap, ◌∙◌, inl, inr, arith}
use Rattle.std.proofs.lemmas.Bool.{cases_Bool, cases_lt, lt-leb}
use Rattle.std.proofs.lemmas.List.{get_or_past}
use Rattle.jfs_map_files.specs.bmap.specs.States.{Blocks, BlockState, Free, Owned, Busy, state_of, settled_state, blocks_settled}
use Rattle.jfs_map_files.specs.bmap.proofs.States.{changed-at}
use Rattle.jfs_halves.specs.Entry.{Happened, edits}
use Rattle.jfs_halves.specs.Marks.{takes, frees, entered_state}
use Rattle.jfs_halves.specs.Half.{VolumeHalf}
use Rattle.jfs_halves.specs.Change.{Change, Enters, Takes, Tells, HandsOut, GoesHome, Tears, Drops, Writes, WriteTears, Stops, LogStops, Syncs, Points, Knows, changed, Fits, after, FitAll}
use Rattle.jfs_halves.specs.Laws.{BusyUntilTold}

-- acknowledged entries stay so
told-grows : (half : VolumeHalf) (c : Change) → Fits half c → half.told ≤ (changed half c).told
told-grows half (Enters h) fits = omega arith
told-grows half Takes fits = omega arith
told-grows half (Tells n) fits = fits.0
told-grows half HandsOut fits = omega arith
told-grows half (GoesHome p) fits = omega arith
told-grows half (Tears p sectors fault) fits = omega arith
told-grows half (Drops p) fits = omega arith
told-grows half (Writes p bytes) fits = omega arith
told-grows half (WriteTears p bytes sectors fault) fits = omega arith
told-grows half (Stops fault) fits = omega arith
told-grows half (LogStops fault) fits = omega arith
told-grows half Syncs fits = omega arith
told-grows half Points fits = omega arith
told-grows half Knows fits = omega arith

told-after : (half : VolumeHalf) (list : List Change) → FitAll half list → half.told ≤ (after half list).told
told-after half [] fit = omega arith
told-after half (c ∷ cs) fit = omega (arith, told-grows half c fit.0, told-after (changed half c) cs fit.1)

-- a block that is busy is there
busy-there : (m : Blocks) (b k : ℕ) → state_of m b ≡ Busy k → b < length m.states
busy-there m b k e = at (cases_lt b (length m.states))
  where
    at : (b < length m.states) ⊎ (length m.states ≤ b) → b < length m.states
    at (inl h) = h
    at (inr h) = let past : Owned ≡ Busy k = sym (get_or_past m.states b Owned h) ∙ e in absurd (cc)

busy-entered : (m : Blocks) (n : ℕ) (h : Happened) (b k : ℕ) → (takes b (edits h) ≡ true → state_of m b ≡ Free) → state_of m b ≡ Busy k → entered_state n (edits h) b (state_of m b) ≡ Busy k
busy-entered m n h b k free e = at (cases_Bool (takes b (edits h))) (cases_Bool (frees b (edits h)))
  where
    at : (takes b (edits h) ≡ true) ⊎ (takes b (edits h) ≡ false) → (frees b (edits h) ≡ true) ⊎ (frees b (edits h) ≡ false) → entered_state n (edits h) b (state_of m b) ≡ Busy k
    at (inl t) f = let never : Free ≡ Busy k = sym (free t) ∙ e in absurd (cc)
    at (inr t) (inl f) = rw (t, f, e) refl
    at (inr t) (inr f) = rw (t, f, e) refl

busy-settled : (told n b k : ℕ) (m : Blocks) → n ≤ told → told < k → state_of m b ≡ Busy k → state_of (blocks_settled n m) b ≡ Busy k
busy-settled told n b k m early late e = changed-at (λ (c : ℕ) (s : BlockState). settled_state n s) m b (busy-there m b k e) ∙ ap (settled_state n) e ∙ rw (lt-leb k n (omega (arith, early, late))) refl

busy-one : (half : VolumeHalf) (c : Change) (b k : ℕ) → Fits half c → state_of half.shown.map b ≡ Busy k → (changed half c).told < k → state_of (changed half c).shown.map b ≡ Busy k
busy-one half (Enters h) b k fits e late =
    ap (λ (states : List BlockState). slice_index_or states b Owned) fits.map.states
    ∙ changed-at (λ (c : ℕ) (s : BlockState). entered_state (suc (length half.history)) (edits h) c s) half.shown.map b (busy-there half.shown.map b k e)
    ∙ busy-entered half.shown.map (suc (length half.history)) h b k (fits.takes_free b) e
busy-one half Takes b k fits e late = e
busy-one half (Tells n) b k fits e late = busy-settled n n b k half.shown.map (omega arith) late e
busy-one half HandsOut b k fits e late = e
busy-one half (GoesHome p) b k fits e late = e
busy-one half (Tears p sectors fault) b k fits e late = e
busy-one half (Drops p) b k fits e late = e
busy-one half (Writes p bytes) b k fits e late = e
busy-one half (WriteTears p bytes sectors fault) b k fits e late = e
busy-one half (Stops fault) b k fits e late = e
busy-one half (LogStops fault) b k fits e late = e
busy-one half Syncs b k fits e late = e
busy-one half Points b k fits e late = e
busy-one half Knows b k fits e late = e

pub busy_stays : BusyUntilTold
busy_stays half [] b k fit e late = e
busy_stays half (c ∷ cs) b k fit e late =
    busy_stays (changed half c) cs b k fit.1 (busy-one half c b k fit.0 e (omega (arith, late, told-after (changed half c) cs fit.1))) late
