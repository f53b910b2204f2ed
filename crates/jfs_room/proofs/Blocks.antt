-- Blocks without owners, by the block map.
use Rattle.std.proofs.Common.{◌≡◌, ◌≤◌, ◌<◌, ◌^◌, refl, sym, ap, ◌∙◌, ℕ, ◌+◌, ◌*◌, ◌/◌, ◌==◌, Bool, true, false, not, ◌&&◌, nat_lt, if◌then◌else◌, List, inl, inr, arith}
use Rattle.std.proofs.lemmas.Bool.{cases_lt, lt-ltb, both_ways}
use Rattle.std.proofs.lemmas.List.{get_or_past}
use Rattle.jfs_bits.specs.Bits.{is_free_run}
use Rattle.jfs_bits.proofs.Buds.{any_below-at, any_below-from}
use Rattle.jfs_bits.proofs.Counts.{count_below-same}
use Rattle.jfs_bits.proofs.Runs.{is_free-at, is_free-from}
use Rattle.jfs_way.specs.imap.specs.Inodes.{Inodes}
use Rattle.jfs_way.specs.bmap.specs.States.{BlockState, Free, Owned, Reserved, Busy, Blocks, is_free_state, is_owned_state, is_busy_state, state_of, is_used, is_owned, all_settled}
use Rattle.jfs_way.specs.bmap.proofs.States.{changed-each}
use Rattle.jfs_way.specs.objects.specs.Readers.{Readers}
use Rattle.jfs_way.specs.objects.specs.Volume.{Volume}
use Rattle.jfs_way.specs.objects.specs.Owners.{Agrees, bit}
use Rattle.jfs_way.specs.meaning.specs.Room as meaning
use Rattle.jfs_way.specs.meaning.proofs.Free.{free_law}
use Rattle.jfs_way.specs.Volume.{volume_of}
use Rattle.jfs_room.specs.Laws.{blocks_in, FreeLaw, RunLaw, NoneReserved, TellsRun}

-- a block of the volume is in use where the map has it owned
in_map : (m : Blocks) (b : ℕ) → b < blocks_in m → (nat_lt b (blocks_in m) && is_owned m b) ≡ is_owned m b
in_map m b l = ap (λ (x : Bool). x && is_owned m b) (lt-ltb b (blocks_in m) l)

pub free_is : FreeLaw
free_is r page area m inodes a = free_law r (volume_of page area m inodes) (blocks_in m) a
    ∙ count_below-same (blocks_in m) (λ b. not (nat_lt b (blocks_in m) && is_owned m b)) (λ b. not (is_owned m b)) (λ b l. ap not (in_map m b l))

-- ---- runs

abbrev settled : BlockState → BlockState
settled s = if is_busy_state s then Free else s

-- Once all busy blocks are settled, an owned block is in use; and so is no other one where none is reserved.
owned_stays : (s : BlockState) → not (is_free_state (settled s)) ≡ false → is_owned_state s ≡ false
owned_stays Free h = refl
owned_stays Owned h = absurd (cc (h))
owned_stays Reserved h = refl
owned_stays (Busy entry) h = refl

only_owned : (s : BlockState) → (s ≡ Reserved → ⊥) → is_owned_state s ≡ false → not (is_free_state (settled s)) ≡ false
only_owned Free h e = refl
only_owned Owned h e = absurd (cc (e))
only_owned Reserved h e = absurd (h refl)
only_owned (Busy entry) h e = refl

module _ (m : Blocks) where
  abbrev in_use : ℕ → Bool
  in_use = is_used (all_settled m)

  in_use_is : (b : ℕ) → in_use b ≡ not (is_free_state (settled (state_of m b)))
  in_use_is b = ap (λ (s : BlockState). not (is_free_state s)) (changed-each (λ c s. settled s) m b refl)

  -- a block past the end counts as owned, so a run that is free lies within the volume
  past : (b : ℕ) → blocks_in m ≤ b → in_use b ≡ true
  past b l = in_use_is b ∙ ap (λ (s : BlockState). not (is_free_state (settled s))) (get_or_past m.states b Owned l)

  within : (j : ℕ) → is_free_run in_use 2 j ≡ true → j < blocks_in m / 4
  within j free = elim (cases_lt (j * 2 ^ 2 + 3) (blocks_in m)) [
    | inl l ↦ omega (arith, l)
    | inr l ↦ absurd (both_ways (in_use (j * 2 ^ 2 + 3)) (is_free-at in_use (j * 2 ^ 2) (2 ^ 2) free 3 (omega arith)) (past (j * 2 ^ 2 + 3) l))
  ]

  module _ (r : Readers) (page : ℕ → List ℕ) (area : ℕ → ℕ) (inodes : Inodes) (a : Agrees r (volume_of page area m inodes)) where
    abbrev v : Volume
    v = volume_of page area m inodes

    abbrev has_owner : ℕ → Bool
    has_owner = meaning.is_owned r v

    owned_is : (b : ℕ) → b < blocks_in m → has_owner b ≡ is_owned m b
    owned_is b l = ap (λ (k : ℕ). not (k == 0)) (a.blocks b) ∙ counted (v.used b) ∙ in_map m b l
      where
        counted : (x : Bool) → not (bit x == 0) ≡ x
        counted true = refl
        counted false = refl

    unowned : (j : ℕ) → j < blocks_in m / 4 → is_free_run in_use 2 j ≡ true → is_free_run has_owner 2 j ≡ true
    unowned j l free = is_free-from has_owner (j * 2 ^ 2) (2 ^ 2) (λ i k.
        owned_is (j * 2 ^ 2 + i) (omega (arith, l, k)) ∙ owned_stays (state_of m (j * 2 ^ 2 + i)) (sym (in_use_is (j * 2 ^ 2 + i)) ∙ is_free-at in_use (j * 2 ^ 2) (2 ^ 2) free i k))

    unused : NoneReserved m → (j : ℕ) → j < blocks_in m / 4 → is_free_run has_owner 2 j ≡ true → is_free_run in_use 2 j ≡ true
    unused none j l free = is_free-from in_use (j * 2 ^ 2) (2 ^ 2) (λ i k.
        in_use_is (j * 2 ^ 2 + i) ∙ only_owned (state_of m (j * 2 ^ 2 + i)) (none (j * 2 ^ 2 + i)) (sym (owned_is (j * 2 ^ 2 + i) (omega (arith, l, k))) ∙ is_free-at has_owner (j * 2 ^ 2) (2 ^ 2) free i k))

    told_run : (run : Bool) → TellsRun m run → run ≡ true → meaning.has_run r v (blocks_in m) ≡ true
    told_run run tells e = let found = tells.0 e in let l = within found.0 found.1 in any_below-from (blocks_in m / 4) (is_free_run has_owner 2) found.0 l (unowned found.0 l found.1)

    same_run : (run : Bool) → TellsRun m run → NoneReserved m → meaning.has_run r v (blocks_in m) ≡ run
    same_run true tells none = told_run true tells refl
    same_run false tells none = by (meaning.has_run r v (blocks_in m)) refl
      where
        by : (x : Bool) → meaning.has_run r v (blocks_in m) ≡ x → x ≡ false
        by false e = refl
        by true e = let found = any_below-at (blocks_in m / 4) (is_free_run has_owner 2) e in absurd (cc (tells.1 (found.0, unused none found.0 found.1 found.2)))

pub runs_are : RunLaw
runs_are r page area m inodes a run tells = record { told = told_run m r page area inodes a run tells; same = same_run m r page area inodes a run tells }
