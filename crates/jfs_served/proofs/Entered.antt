-- The states of blocks once an entry with its transaction has joined.
use Rattle.std.proofs.Common.{◌≡◌, ◌<◌, ◌≤◌, ◌⊎◌, ◌==◌, ◌||◌, ◌&&◌, ◌+◌, refl, sym, ap, ◌∙◌, subst, ℕ, Bool, true, false, not, nat_lt, if◌then◌else◌, List, [], ◌∷◌, ◌++◌, length, inl, inr, arith}
use Rattle.std.specs.List.{AllByRecursion}
use Rattle.std.proofs.lemmas.Bool.{and_parts, cases_lt, eqb-true, ltb-true, or_cases}
use Rattle.std.proofs.lemmas.List.{get_or_past}
use Rattle.jfs_bits.specs.Bits.{is_in_run}
use Rattle.jfs_bits.specs.declared.descriptor.Pxd.{Pxd}
use Rattle.jfs_ranges.specs.Apply.{touches_tx}
use Rattle.jfs_ranges.specs.declared.edit.Edit.{Edit}
use Rattle.jfs_ranges.specs.declared.edit.Edit.TheVariants.{Lines, NoRedo, Alloc, Free as FreeRun}
use Rattle.jfs_shown.specs.bmap.specs.States.{Blocks, BlockState, Free, Owned, Reserved, Busy, state_of, is_owned, is_owned_state, is_in_list, put_state, released_state}
use Rattle.jfs_shown.specs.bmap.proofs.States.{changed-at, changed-length}
use Rattle.jfs_entered.proofs.Extents.{AreShort}
use Rattle.jfs_call.specs.files.specs.Outcome.{reserved_by}
use Rattle.jfs_call.specs.files.specs.Written.{FreesOwn}
use Rattle.jfs_call.specs.volume.specs.data_steps.specs.steps.specs.After.{is_extent, takes, frees}
use Rattle.jfs_call.specs.volume.specs.records.specs.Marks.{is_new_extent}
use Rattle.jfs_call.specs.volume.specs.records.specs.Redo.{is_noredo}
use Rattle.jfs_call.specs.volume.specs.Gone.{goes, gone_freed}
use Rattle.jfs_call.specs.volume.specs.Runs.{taken_by, taken_in, freed_in, pages_freed}
use Rattle.jfs_call.specs.halves.specs.Change.{SameStates}
use Rattle.jfs_call.specs.halves.specs.Marks.{frees as frees_block, entered_state, map_after, frees_page}
use Rattle.jfs_call.specs.halves.specs.declared.freed.FreedPage.{FreedPage}
use Rattle.jfs_call.specs.volume.proofs.Taken.{in_list-append, takes_runs, frees_runs, all_append, all_freed}
use Rattle.jfs_served.specs.Holds.{IsBusyPage}
use Rattle.jfs_served.proofs.Given.{IsKept, stays, comes, each, mid_size, in_taken, all_busy}

-- ---- runs, as a transaction takes and frees them

or_no : (x : Bool) → (x || false) ≡ true → x ≡ true
or_no true e = e
or_no false e = e

one_run : (run : Pxd) (b : ℕ) → is_in_list (run ∷ []) b ≡ true → is_in_run run.addr run.len b ≡ true
unfolding is_in_list
one_run run b e = or_no (is_in_run run.addr run.len b) e

no_run : (b : ℕ) → is_in_list [] b ≡ true → ⊥
unfolding is_in_list
no_run b e = cc (e)

in_none : (b : ℕ) → is_in_list [] b ≡ false
unfolding is_in_list
in_none b = refl

in_either : (xs ys : List Pxd) (b : ℕ) → is_in_list (xs ++ ys) b ≡ true → (is_in_list xs b ≡ true) ⊎ (is_in_list ys b ≡ true)
in_either xs ys b e = or_cases (is_in_list xs b) (is_in_list ys b) (sym (in_list-append xs ys b) ∙ e)

counted : (run : Pxd) (n b : ℕ) → (is_in_list (run ∷ []) b ≡ true) ⊎ (0 < n) → 0 < (if is_in_run run.addr run.len b then 1 else 0) + n
counted run n b (inl e) = rw (one_run run b e) (omega arith)
counted run n b (inr m) = omega (arith, m)

more_of : {P : Type 0} (a : Bool) (n : ℕ) → P ⊎ (a ≡ true) → (a ≡ true → 0 < n) → P ⊎ (0 < n)
more_of a n (inl p) rest = inl p
more_of a n (inr e) rest = inr (rest e)

from_taken : (blocks : ℕ) (tx : List Edit) (b : ℕ) → AreShort blocks tx → is_in_list (taken_in tx) b ≡ true → 0 < takes tx b
from_taken blocks [] b s e = absurd (no_run b e)
from_taken blocks (Lines page kind first bytes ∷ tx) b s e = by (is_extent kind first bytes) (sym s.0.0) (more_of (is_in_list (taken_in tx) b) (takes tx b) (in_either (taken_by (Lines page kind first bytes)) (taken_in tx) b e) (from_taken blocks tx b s.1))
  where
    run : Pxd
    run = record { len = 4; addr = page }

    by : (x : Bool) → x ≡ is_new_extent kind bytes → (is_in_list (if is_new_extent kind bytes then run ∷ [] else []) b ≡ true) ⊎ (0 < takes tx b) → 0 < (if x then (if is_in_run page 4 b then 1 else 0) else 0) + takes tx b
    by true is h = counted run (takes tx b) b (subst (λ (x : Bool). (is_in_list (if x then run ∷ [] else []) b ≡ true) ⊎ (0 < takes tx b)) (sym is) h)
    by false is h = side (subst (λ (x : Bool). (is_in_list (if x then run ∷ [] else []) b ≡ true) ⊎ (0 < takes tx b)) (sym is) h)
      where
        side : (is_in_list [] b ≡ true) ⊎ (0 < takes tx b) → 0 < 0 + takes tx b
        side (inl e) = absurd (no_run b e)
        side (inr m) = omega (arith, m)
from_taken blocks (NoRedo page ∷ tx) b s e = from_taken blocks tx b s e
from_taken blocks (Alloc run ∷ tx) b s e = counted run (takes tx b) b (more_of (is_in_list (taken_in tx) b) (takes tx b) (in_either (run ∷ []) (taken_in tx) b e) (from_taken blocks tx b s))
from_taken blocks (FreeRun run ∷ tx) b s e = from_taken blocks tx b s e

from_freed : (tx : List Edit) (b : ℕ) → is_in_list (freed_in tx) b ≡ true → 0 < frees tx b
from_freed [] b e = absurd (no_run b e)
from_freed (Lines page kind first bytes ∷ tx) b e = from_freed tx b e
from_freed (NoRedo page ∷ tx) b e = from_freed tx b e
from_freed (Alloc run ∷ tx) b e = from_freed tx b e
from_freed (FreeRun run ∷ tx) b e = counted run (frees tx b) b (more_of (is_in_list (freed_in tx) b) (frees tx b) (in_either (run ∷ []) (freed_in tx) b e) (from_freed tx b))

-- ---- pages that it gives up

goes_freed : (tx es : List Edit) (page : ℕ) → gone_freed tx es ≡ true → frees_page page es ≡ true → frees_block page tx ≡ true
goes_freed tx [] page gone e = absurd (cc (e))
goes_freed tx (x ∷ es) page gone e =
    let parts = and_parts (goes tx x) (gone_freed tx es) gone in
    side x parts.0 (or_cases (is_noredo page x && not (touches_tx page es)) (frees_page page es) e) (goes_freed tx es page parts.1)
  where
    side : (x : Edit) → goes tx x ≡ true → ((is_noredo page x && not (touches_tx page es)) ≡ true) ⊎ (frees_page page es ≡ true) → (frees_page page es ≡ true → frees_block page tx ≡ true) → frees_block page tx ≡ true
    side x g (inr e) rest = rest e
    side (Lines p kind first bytes) g (inl e) rest = absurd (cc (e))
    side (NoRedo p) g (inl e) rest = subst (λ (q : ℕ). frees_block q tx ≡ true) (eqb-true p page (and_parts (p == page) (not (touches_tx page es)) e).0) g
    side (Alloc run) g (inl e) rest = absurd (cc (e))
    side (FreeRun run) g (inl e) rest = absurd (cc (e))

-- ---- the map

module _ (n k : ℕ) (tx : List Edit) (old mid new : Blocks) (short : AreShort n tx) (free : (b : ℕ) → 0 < takes tx b → state_of old b ≡ Free) (is : mid ≡ reserved_by tx old)
    (entered : SameStates new (map_after k tx (put_state Free (taken_in tx) mid))) where
  abbrev unreserve : ℕ → BlockState → BlockState
  unreserve b s = if is_in_list (taken_in tx) b then Free else s

  new_at : (b : ℕ) → b < length old.states → state_of new b ≡ entered_state k tx b (unreserve b (state_of mid b))
  new_at b l =
      let size = mid_size tx old mid free is in
      let before : b < length mid.states = omega (arith, l, size) in
      ap (λ (ss : List BlockState). state_of (record new { states = ss }) b) entered.states
      ∙ changed-at (λ (c : ℕ) (s : BlockState). entered_state k tx c s) (put_state Free (taken_in tx) mid) b (let there = changed-length unreserve mid in omega (arith, before, there))
      ∙ ap (λ (s : BlockState). entered_state k tx b s) (changed-at unreserve mid b before)

  -- a block that is busy, or free, is there
  there : (b : ℕ) → (state_of old b ≡ Owned → ⊥) → b < length old.states
  there b other = by (cases_lt b (length old.states))
    where
      by : (b < length old.states) ⊎ (length old.states ≤ b) → b < length old.states
      by (inl l) = l
      by (inr past) = absurd (other (get_or_past old.states b Owned past))

  -- where it takes and frees no run, all blocks stay
  pub idle : taken_in tx ≡ [] → freed_in tx ≡ [] → length new.states ≡ length old.states → (b : ℕ) → state_of new b ≡ state_of old b
  idle takes_none frees_none size b = by (cases_lt b (length old.states))
    where
      untaken : is_in_list (taken_in tx) b ≡ false
      untaken = ap (λ (runs : List Pxd). is_in_list runs b) takes_none ∙ in_none b

      unfreed : frees_block b tx ≡ false
      unfreed = frees_runs b tx ∙ ap (λ (runs : List Pxd). is_in_list runs b) frees_none ∙ in_none b

      kept : IsKept (takes tx b) (state_of old b) (state_of mid b) → state_of mid b ≡ state_of old b
      kept (stays none same) = same
      kept (comes more was held) = absurd (cc (in_taken tx b more, untaken))

      by : (b < length old.states) ⊎ (length old.states ≤ b) → state_of new b ≡ state_of old b
      by (inl l) = new_at b l ∙ rw (takes_runs b tx ∙ untaken, unfreed, untaken) (kept (each tx old mid free is b))
      by (inr past) = get_or_past new.states b Owned (omega (arith, past, size)) ∙ sym (get_or_past old.states b Owned past)

  stays_busy : (b entry : ℕ) → state_of old b ≡ Busy entry → state_of new b ≡ Busy entry
  stays_busy b entry e = new_at b (there b (λ o. cc (o, e))) ∙ by (is_in_list (taken_in tx) b) refl (each tx old mid free is b)
    where
      rest : (f : Bool) → (if f then released_state k (Busy entry) else Busy entry) ≡ Busy entry
      rest true = refl
      rest false = refl

      by : (x : Bool) → is_in_list (taken_in tx) b ≡ x → IsKept (takes tx b) (state_of old b) (state_of mid b) → entered_state k tx b (if x then Free else state_of mid b) ≡ Busy entry
      by true i kept = absurd (cc (free b (from_taken n tx b short i), e))
      by false i (comes more was held) = absurd (cc (was, e))
      by false i (stays none same) = rw (takes_runs b tx ∙ i, same ∙ e) (rest (frees_block b tx))

  freed_busy : FreesOwn (λ b. nat_lt b (length old.states) && is_owned old b) tx → (b : ℕ) → frees_block b tx ≡ true → state_of new b ≡ Busy k
  freed_busy own b e = by (own.owned b (from_freed tx b (sym (frees_runs b tx) ∙ e)))
    where
      owned_is : (s : BlockState) → is_owned_state s ≡ true → s ≡ Owned
      owned_is Free o = absurd (cc (o))
      owned_is Owned o = refl
      owned_is Reserved o = absurd (cc (o))
      owned_is (Busy entry) o = absurd (cc (o))

      used : (t : Bool) → is_in_list (taken_in tx) b ≡ t → state_of old b ≡ Owned → IsKept (takes tx b) (state_of old b) (state_of mid b) → entered_state k tx b (if t then Free else state_of mid b) ≡ Busy k
      used true i o kept = rw (takes_runs b tx ∙ i, e) refl
      used false i o (stays none same) = rw (takes_runs b tx ∙ i, e, same ∙ o) refl
      used false i o (comes more was held) = absurd (cc (was, o))

      taken : is_in_list (taken_in tx) b ≡ true → entered_state k tx b (unreserve b (state_of mid b)) ≡ Busy k
      taken i = rw (takes_runs b tx ∙ i, e) refl

      by : ((nat_lt b (length old.states) && is_owned old b) ≡ true) ⊎ (0 < takes tx b) → state_of new b ≡ Busy k
      by (inl u) = let p = and_parts (nat_lt b (length old.states)) (is_owned old b) u in
          new_at b (ltb-true b (length old.states) p.0) ∙ used (is_in_list (taken_in tx) b) refl (owned_is (state_of old b) p.1) (each tx old mid free is b)
      by (inr more) = new_at b (there b (λ o. cc (o, free b more))) ∙ taken (in_taken tx b more)

  pub all_still_busy : FreesOwn (λ b. nat_lt b (length old.states) && is_owned old b) tx → gone_freed tx tx ≡ true → (fs : List FreedPage) → AllByRecursion (IsBusyPage old) fs → AllByRecursion (IsBusyPage new) (fs ++ pages_freed k tx)
  all_still_busy own gone fs all = all_append (IsBusyPage new) fs (pages_freed k tx) (all_busy old new fs stays_busy all) (all_freed (IsBusyPage new) k tx (λ page f. freed_busy own page (goes_freed tx tx page gone f)))
