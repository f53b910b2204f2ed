-- Changes, and then others.
use Rattle.std.proofs.Common.{◌≡◌, ◌<◌, ◌⊎◌, ℕ, zero, suc, List, [], ◌∷◌, ◌++◌, length, get_or, refl, sym, ap, ◌∙◌, inl, inr, arith, append_assoc, subst}
use Rattle.jfs_disk.specs.Crash.{DiskState}
use Rattle.jfs_halves.specs.Half.{VolumeHalf, Halves, low_in}
use Rattle.jfs_halves.specs.Change.{Change, Enters, Takes, Tells, HandsOut, GoesHome, Tears, Drops, Writes, WriteTears, Stops, LogStops, Syncs, Points, Knows, changed, states_of, after, FitAll, states_after}
use Rattle.jfs_halves.specs.Both.{BothChange, Changes, GroupIsWritten, GroupFails, changed as changed_both, states_of as states_of_both, after as after_both, FitAll as FitBoth, states_after as states_both}
use Rattle.jfs_halves.specs.Log.{LogStandsFor}
use Rattle.jfs_halves.specs.Parts.{StandsFor}
use Rattle.jfs_halves.specs.Moves.{VolumeJoins, BothJoin}
use Rattle.jfs_halves.specs.Laws.{IsFrontState, MomentsAreFronts}

-- ---- of the volume

pub after-join : (half : VolumeHalf) (xs ys : List Change) → after half (xs ++ ys) ≡ after (after half xs) ys
after-join half [] ys = refl
after-join half (x ∷ xs) ys = after-join (changed half x) xs ys

fit-join : (half : VolumeHalf) (xs ys : List Change) → FitAll half xs → FitAll (after half xs) ys → FitAll half (xs ++ ys)
fit-join half [] ys a b = b
fit-join half (x ∷ xs) ys a b = (a.0, fit-join (changed half x) xs ys a.1 b)

pub states-join : (half : VolumeHalf) (xs ys : List Change) → states_after half (xs ++ ys) ≡ states_after half xs ++ states_after (after half xs) ys
states-join half [] ys = refl
states-join half (x ∷ xs) ys =
    ap (λ (states : List DiskState). states_of half x ++ states) (states-join (changed half x) xs ys)
    ∙ sym (append_assoc (states_of half x) (states_after (changed half x) xs) (states_after (after (changed half x) xs) ys))

pub join : VolumeJoins
join seen asked old mid new half xs ys a b = record {
  fit = fit-join half xs ys a.fit b.fit;
  stands = subst (λ (h : VolumeHalf). StandsFor seen asked new h) (sym (after-join half xs ys)) b.stands;
  past = λ t k. b.past t k ∙ ap (λ (states : List DiskState). states ++ states_after (after half xs) ys) (a.past t k)
      ∙ append_assoc old.past (states_after half xs) (states_after (after half xs) ys)
      ∙ ap (λ (states : List DiskState). old.past ++ states) (sym (states-join half xs ys));
}

-- ---- of both halves

pub after_both-join : (both : Halves) (xs ys : List BothChange) → after_both both (xs ++ ys) ≡ after_both (after_both both xs) ys
after_both-join both [] ys = refl
after_both-join both (x ∷ xs) ys = after_both-join (changed_both both x) xs ys

fit_both-join : (both : Halves) (xs ys : List BothChange) → FitBoth both xs → FitBoth (after_both both xs) ys → FitBoth both (xs ++ ys)
fit_both-join both [] ys a b = b
fit_both-join both (x ∷ xs) ys a b = (a.0, fit_both-join (changed_both both x) xs ys a.1 b)

states_both-join : (both : Halves) (xs ys : List BothChange) → states_both both (xs ++ ys) ≡ states_both both xs ++ states_both (after_both both xs) ys
states_both-join both [] ys = refl
states_both-join both (x ∷ xs) ys =
    ap (λ (states : List DiskState). states_of_both both x ++ states) (states_both-join (changed_both both x) xs ys)
    ∙ sym (append_assoc (states_of_both both x) (states_both (changed_both both x) xs) (states_both (after_both (changed_both both x) xs) ys))

pub join_both : BothJoin
join_both seen asked old mid new middle log both xs ys a b = record {
  fit = fit_both-join both xs ys a.fit b.fit;
  stands = subst (λ (h : Halves). StandsFor seen asked new h.volume) (sym (after_both-join both xs ys)) b.stands;
  log_stands = subst (λ (h : Halves). LogStandsFor seen asked log h) (sym (after_both-join both xs ys)) b.log_stands;
  past = λ t k. b.past t k ∙ ap (λ (states : List DiskState). states ++ states_both (after_both both xs) ys) (a.past t k)
      ∙ append_assoc old.past (states_both both xs) (states_both (after_both both xs) ys)
      ∙ ap (λ (states : List DiskState). old.past ++ states) (sym (states_both-join both xs ys));
}

-- ---- moments

-- a change leads to no state, or to the one after it
abbrev IsOneState : List DiskState → DiskState → Type 0
IsOneState states state = (states ≡ []) ⊎ (states ≡ state ∷ [])

one_state : (half : VolumeHalf) (c : Change) → IsOneState (states_of half c) (low_in (changed half c))
one_state half (Enters h) = inl refl
one_state half Takes = inl refl
one_state half (Tells n) = inl refl
one_state half HandsOut = inl refl
one_state half (GoesHome p) = inr refl
one_state half (Tears p sectors fault) = inr refl
one_state half (Drops p) = inl refl
one_state half (Writes p bytes) = inr refl
one_state half (WriteTears p bytes sectors fault) = inr refl
one_state half (Stops fault) = inl refl
one_state half (LogStops fault) = inl refl
one_state half Syncs = inr refl
one_state half Points = inl refl
one_state half Knows = inl refl

one_state_both : (both : Halves) (c : BothChange) → IsOneState (states_of_both both c) (low_in (changed_both both c).volume)
one_state_both both (Changes c) = one_state both.volume c
one_state_both both GroupIsWritten = inl refl
one_state_both both (GroupFails fault) = inl refl

one_more : (both : Halves) (c : BothChange) (cs : List BothChange) (state : DiskState) → IsFrontState (changed_both both c) cs state → IsFrontState both (c ∷ cs) state
one_more both c cs state front = record { upto = suc front.upto; front = omega (arith, front.front); is = front.is }

pub moments : MomentsAreFronts
moments both [] i h = absurd (omega (arith, h))
moments both (c ∷ cs) i h = at (λ j k. moments (changed_both both c) cs j k) (one_state_both both c) i h
  where
    at : ((j : ℕ) → j < length (states_both (changed_both both c) cs) → IsFrontState (changed_both both c) cs (get_or (states_both (changed_both both c) cs) j []))
        → IsOneState (states_of_both both c) (low_in (changed_both both c).volume) → (j : ℕ) → j < length (states_of_both both c ++ states_both (changed_both both c) cs)
        → IsFrontState both (c ∷ cs) (get_or (states_of_both both c ++ states_both (changed_both both c) cs) j [])
    at rest (inl e) j k = rw e (one_more both c cs _ (rest j (rw e at k)))
    at rest (inr e) zero k = rw e (record { upto = 1; front = omega arith; is = refl })
    at rest (inr e) (suc j) k = let inside : suc j < suc (length (states_both (changed_both both c) cs)) = rw e at k in rw e (one_more both c cs _ (rest j (omega (arith, inside))))
