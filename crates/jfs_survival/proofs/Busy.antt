-- Blocks that entries freed which aren't acknowledged are busy in the half's map.
use Rattle.std.proofs.Common.{◌≡◌, ◌≢◌, ◌<◌, ◌≤◌, ◌⊎◌, ℕ, suc, Bool, true, false, List, length, slice_index_or, Option, None, IsSome, refl, sym, ap, ◌∙◌, subst, inl, inr, arith}
use Rattle.std.proofs.lemmas.Bool.{cases_Bool, cases_lt, lt-leb}
use Rattle.std.proofs.lemmas.List.{get_or_past, length_push}
use Rattle.jfs_logged.specs.halves.specs.Entry.{Happened, edits}
use Rattle.jfs_logged.specs.halves.specs.Half.{VolumeHalf, Halves}
use Rattle.jfs_logged.specs.halves.specs.Marks.{takes, frees, entered_state}
use Rattle.jfs_logged.specs.halves.specs.Change.{Enters, Takes, Tells, HandsOut, GoesHome, Tears, Drops, Writes, WriteTears, Stops, LogStops, Syncs, Points, Knows}
use Rattle.jfs_logged.specs.halves.specs.Both.{BothChange, Changes, GroupIsWritten, GroupFails, Fits, changed}
use Rattle.jfs_map_files.specs.bmap.specs.States.{Blocks, BlockState, Free, Owned, Busy, state_of, is_busy_state, settled_state, blocks_settled}
use Rattle.jfs_map_files.specs.bmap.proofs.States.{changed-at, changed-length}
use Rattle.jfs_face.specs.recovery.specs.kinds.specs.Owner.{Owner}
use Rattle.jfs_face.specs.recovery.specs.Face.{Face, Pages}
use Rattle.jfs_face.specs.recovery.specs.Core.{Core, Step, count, owner_at, IsBusy, does, after_steps, appended}
use Rattle.jfs_face.specs.recovery.specs.Core.Step.{Take, Told}
use Rattle.jfs_face.specs.recovery.proofs.Kept.{longer_image, last_image}
use Rattle.jfs_face.specs.Volume.{face_of}
use Rattle.jfs_survival.specs.Stands.{IsCoreOf}
use Rattle.jfs_survival.specs.Played.{step_if, IsPlayed}
use Rattle.jfs_survival.specs.Busy.{HasStates, MovesStates, StatesLaw, FreeLaw}
use Rattle.jfs_survival.proofs.Blocks.{never}
use Rattle.jfs_survival.proofs.Changes.{counted}

-- a block past the end of the map counts as owned
there : (m : Blocks) (b k : ℕ) → state_of m b ≡ Busy k → b < length m.states
there m b k e = at (cases_lt b (length m.states))
  where
    at : (b < length m.states) ⊎ (length m.states ≤ b) → b < length m.states
    at (inl h) = h
    at (inr h) = let past : Owned ≡ Busy k = sym (get_or_past m.states b Owned h) ∙ e in absurd (cc)

no_free : {A : Type 0} (s : BlockState) → s ≡ Free → s ≡ Owned → A
no_free s e d = absurd (let x : Free ≡ Owned = sym e ∙ d in cc)

no_busy : {A : Type 0} (s : BlockState) (k : ℕ) → s ≡ Free → s ≡ Busy k → A
no_busy s k e d = absurd (let x : Free ≡ Busy k = sym e ∙ d in cc)

module _ (f : Face) (both : Halves) (core : Core) (is : IsCoreOf f both core) (states : HasStates f both core) where
  abbrev half : VolumeHalf
  half = both.volume

  abbrev n : ℕ
  n = count core

  -- ---- an entry

  module _ (h : Happened) (fits : Fits both (Changes (Enters h))) (t : Pages) (moves : MovesStates half h (λ b. owner_at f core b n) (λ b. f.owner t b)) where
    abbrev new : Core
    new = appended f core (edits h) t

    more : count new ≡ suc n
    more = let e = length_push core.history (record { tx = edits h; image = t }) in omega (arith, e)

    before : (b k : ℕ) → k ≤ n → owner_at f new b k ≡ owner_at f core b k
    before b k low = ap (λ (x : Pages). f.owner x b) (longer_image f core (edits h) t k low)

    last : (b : ℕ) → owner_at f new b (suc n) ≡ f.owner t b
    last b = ap (λ (x : Pages). f.owner x b) (last_image f core (edits h) t)

    state_is : (b : ℕ) → b < length half.shown.map.states → state_of h.after.map b ≡ entered_state (suc (length half.history)) (edits h) b (state_of half.shown.map b)
    state_is b l = ap (λ (list : List BlockState). slice_index_or list b Owned) fits.0.map.states ∙ changed-at (λ (c : ℕ) (s : BlockState). entered_state (suc (length half.history)) (edits h) c s) half.shown.map b l

    -- a busy block stays so
    stays : (b k : ℕ) → state_of half.shown.map b ≡ Busy k → state_of h.after.map b ≡ Busy k
    stays b k e = state_is b (there half.shown.map b k e) ∙ at (cases_Bool (takes b (edits h))) (cases_Bool (frees b (edits h)))
      where
        at : (takes b (edits h) ≡ true) ⊎ (takes b (edits h) ≡ false) → (frees b (edits h) ≡ true) ⊎ (frees b (edits h) ≡ false) → entered_state (suc (length half.history)) (edits h) b (state_of half.shown.map b) ≡ Busy k
        at (inl took) x = no_busy (state_of half.shown.map b) k (fits.0.takes_free b took) e
        at (inr none) (inl freed) = rw (none, freed, e) refl
        at (inr none) (inr stay) = rw (none, stay, e) refl

    -- one that it frees is busy for it
    comes : (b : ℕ) → IsSome (owner_at f core b n) → f.owner t b ≡ None → state_of h.after.map b ≡ Busy (suc (length half.history))
    comes b some none = let x = moves.gone b some none in state_is b x.0 ∙ at (states.owned b some) x.1 (cases_Bool (takes b (edits h)))
      where
        at : state_of half.shown.map b ≡ Owned → frees b (edits h) ≡ true → (takes b (edits h) ≡ true) ⊎ (takes b (edits h) ≡ false) → entered_state (suc (length half.history)) (edits h) b (state_of half.shown.map b) ≡ Busy (suc (length half.history))
        at e freed (inl took) = no_free (state_of half.shown.map b) (fits.0.takes_free b took) e
        at e freed (inr kept) = rw (kept, freed, e) refl

    busy : (b : ℕ) (z : IsBusy (owner_at f new b) core.told (suc n)) → (k : ℕ) × (z.freed < k) × (state_of h.after.map b ≡ Busy k)
    busy b z = at (cases_lt z.freed n)
      where
        at : (z.freed < n) ⊎ (n ≤ z.freed) → (k : ℕ) × (z.freed < k) × (state_of h.after.map b ≡ Busy k)
        at (inl low) =
            let old = states.busy b (record {
              freed = z.freed;
              since = z.since;
              before = low;
              owned = subst (λ (o : Option Owner). IsSome o) (before b z.freed (omega (arith, low))) z.owned;
              gone = sym (before b (suc z.freed) (omega (arith, low))) ∙ z.gone;
            }) in
            (old.0, old.1, stays b old.0 old.2)
        at (inr high) =
            let e : z.freed ≡ n = (let w = z.before in omega (arith, w, high)) in
            let some = subst (λ (o : Option Owner). IsSome o) (ap (owner_at f new b) e ∙ before b n (omega arith)) z.owned in
            let none = sym (last b) ∙ ap (λ (k : ℕ). owner_at f new b (suc k)) (sym e) ∙ z.gone in
            (suc (length half.history), (let c = counted f both core is in omega (arith, e, c)), comes b some none)

    pub entered : HasStates f (changed both (Changes (Enters h))) new
    entered = record {
      owned = λ b some. moves.owned b (subst (λ (o : Option Owner). IsSome o) (ap (λ (k : ℕ). owner_at f new b k) more ∙ last b) some);
      busy = λ b z. at b (count new) more z;
    }
      where
        at : (b k : ℕ) → k ≡ suc n → (z : IsBusy (owner_at f new b) core.told k) → (j : ℕ) × (z.freed < j) × (state_of h.after.map b ≡ Busy j)
        at b k e z = let y : IsBusy (owner_at f new b) core.told (suc n) = record { freed = z.freed; since = z.since; before = (let w = z.before in omega (arith, w, e)); owned = z.owned; gone = z.gone } in busy b y

  -- ---- an acknowledgement

  told : (m : ℕ) → Fits both (Changes (Tells m)) → HasStates f (changed both (Changes (Tells m))) (does f core Told)
  told m fits = record { owned = owned; busy = busy }
    where
      durable : core.durable ≡ m
      durable = is.durable ∙ sym fits.1

      settled : (b : ℕ) (s : BlockState) → state_of half.shown.map b ≡ s → settled_state m s ≡ s → state_of (blocks_settled m half.shown.map) b ≡ s
      settled b s e same = at (cases_lt b (length half.shown.map.states))
        where
          at : (b < length half.shown.map.states) ⊎ (length half.shown.map.states ≤ b) → state_of (blocks_settled m half.shown.map) b ≡ s
          at (inl l) = changed-at (λ (c : ℕ) (x : BlockState). settled_state m x) half.shown.map b l ∙ ap (settled_state m) e ∙ same
          at (inr past) = get_or_past (blocks_settled m half.shown.map).states b Owned (let size = changed-length (λ (c : ℕ) (x : BlockState). settled_state m x) half.shown.map in omega (arith, past, size)) ∙ sym (get_or_past half.shown.map.states b Owned past) ∙ e

      owned : (b : ℕ) → IsSome (owner_at f core b n) → state_of (blocks_settled m half.shown.map) b ≡ Owned
      owned b some = settled b Owned (states.owned b some) refl

      busy : (b : ℕ) (z : IsBusy (owner_at f core b) core.durable n) → (k : ℕ) × (z.freed < k) × (state_of (blocks_settled m half.shown.map) b ≡ Busy k)
      busy b z =
          let since = z.since in
          let low = is.sound.counts.told_durable in
          let old = states.busy b (record { freed = z.freed; since = omega (arith, since, low); before = z.before; owned = z.owned; gone = z.gone }) in
          let late = old.1 in
          (old.0, old.1, settled b (Busy old.0) old.2 (rw (lt-leb old.0 m (omega (arith, since, durable, late))) refl))

  -- ---- all else

  pub others : (c : BothChange) (list : List Step) → Fits both c → IsPlayed f both core c list → ((h : Happened) → c ≢ Changes (Enters h)) → HasStates f (changed both c) (after_steps f core list)
  others (Changes (Enters h)) list fits p ne = absurd (ne h refl)
  others (Changes Takes) list fits e ne = subst (λ (x : List Step). HasStates f (changed both (Changes Takes)) (after_steps f core x)) (sym e) (at _)
    where
      at : (b : Bool) → HasStates f (changed both (Changes Takes)) (after_steps f core (step_if b Take))
      at true = record { owned = states.owned; busy = states.busy }
      at false = record { owned = states.owned; busy = states.busy }
  others (Changes (Tells m)) list fits e ne = subst (λ (x : List Step). HasStates f (changed both (Changes (Tells m))) (after_steps f core x)) (sym e) (told m fits)
  others (Changes HandsOut) list fits e ne = subst (λ (x : List Step). HasStates f (changed both (Changes HandsOut)) (after_steps f core x)) (sym e) (record { owned = states.owned; busy = states.busy })
  others (Changes (GoesHome p)) list fits (inl (a, e)) ne = subst (λ (x : List Step). HasStates f (changed both (Changes (GoesHome p))) (after_steps f core x)) (sym e) (record { owned = states.owned; busy = states.busy })
  others (Changes (GoesHome p)) list fits (inr (a, e)) ne = subst (λ (x : List Step). HasStates f (changed both (Changes (GoesHome p))) (after_steps f core x)) (sym e) (record { owned = states.owned; busy = states.busy })
  others (Changes (Tears p sectors fault)) list fits (inl (a, e)) ne = subst (λ (x : List Step). HasStates f (changed both (Changes (Tears p sectors fault))) (after_steps f core x)) (sym e) (record { owned = states.owned; busy = states.busy })
  others (Changes (Tears p sectors fault)) list fits (inr (a, e)) ne = subst (λ (x : List Step). HasStates f (changed both (Changes (Tears p sectors fault))) (after_steps f core x)) (sym e) (record { owned = states.owned; busy = states.busy })
  others (Changes (Drops p)) list fits e ne = subst (λ (x : List Step). HasStates f (changed both (Changes (Drops p))) (after_steps f core x)) (sym e) (record { owned = states.owned; busy = states.busy })
  others (Changes (Writes p bytes)) list fits (inl (a, e)) ne = subst (λ (x : List Step). HasStates f (changed both (Changes (Writes p bytes))) (after_steps f core x)) (sym e) (record { owned = states.owned; busy = states.busy })
  others (Changes (Writes p bytes)) list fits (inr (a, e)) ne = subst (λ (x : List Step). HasStates f (changed both (Changes (Writes p bytes))) (after_steps f core x)) (sym e) (record { owned = states.owned; busy = states.busy })
  others (Changes (WriteTears p bytes sectors fault)) list fits (inl (a, e)) ne =
      subst (λ (x : List Step). HasStates f (changed both (Changes (WriteTears p bytes sectors fault))) (after_steps f core x)) (sym e) (record { owned = states.owned; busy = states.busy })
  others (Changes (WriteTears p bytes sectors fault)) list fits (inr (a, e)) ne =
      subst (λ (x : List Step). HasStates f (changed both (Changes (WriteTears p bytes sectors fault))) (after_steps f core x)) (sym e) (record { owned = states.owned; busy = states.busy })
  others (Changes (Stops fault)) list fits e ne = subst (λ (x : List Step). HasStates f (changed both (Changes (Stops fault))) (after_steps f core x)) (sym e) (record { owned = states.owned; busy = states.busy })
  others (Changes (LogStops fault)) list fits e ne = subst (λ (x : List Step). HasStates f (changed both (Changes (LogStops fault))) (after_steps f core x)) (sym e) (record { owned = states.owned; busy = states.busy })
  others (Changes Syncs) list fits e ne = subst (λ (x : List Step). HasStates f (changed both (Changes Syncs)) (after_steps f core x)) (sym e) (record { owned = states.owned; busy = states.busy })
  others (Changes Points) list fits (a, e) ne = subst (λ (x : List Step). HasStates f (changed both (Changes Points)) (after_steps f core x)) (sym e) (record { owned = states.owned; busy = states.busy })
  others (Changes Knows) list fits e ne = subst (λ (x : List Step). HasStates f (changed both (Changes Knows)) (after_steps f core x)) (sym e) (record { owned = states.owned; busy = states.busy })
  others GroupIsWritten list fits e ne = subst (λ (x : List Step). HasStates f (changed both GroupIsWritten) (after_steps f core x)) (sym e) (record { owned = states.owned; busy = states.busy })
  others (GroupFails fault) list fits e ne = subst (λ (x : List Step). HasStates f (changed both (GroupFails fault)) (after_steps f core x)) (sym e) (record { owned = states.owned; busy = states.busy })

pub states_law : StatesLaw
states_law = record {
  enters = λ r pl changes both core h t is fits moves states. entered (face_of r pl changes) both core is states h fits t moves;
  others = λ r pl changes both core c steps is fits played ne states. others (face_of r pl changes) both core is states c steps fits played ne;
}

pub free_law : FreeLaw
free_law = record {
  takes_none = λ r pl changes both core h b states fits took z. (let x = states.busy b z in no_busy (state_of both.volume.shown.map b) x.0 (fits.0.takes_free b took) x.2);
  writes_none = λ r pl changes both core b states may z. (let x = states.busy b z in never (is_busy_state (state_of both.volume.shown.map b)) (ap is_busy_state x.2) may.not_busy);
}
