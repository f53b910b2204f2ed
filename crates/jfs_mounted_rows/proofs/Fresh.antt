-- A new map has no block that is reserved or busy.
use Rattle.std.proofs.Common.{◌≡◌, ◌<◌, ◌≤◌, ◌⊎◌, ◌∙◌, ℕ, Bool, true, false, if◌then◌else◌, List, [], length, inl, inr, refl, ap, arith}
use Rattle.std.proofs.lemmas.Bool.{cases_lt}
use Rattle.std.proofs.lemmas.List.{get_or_past}
use Rattle.jfs_bits.specs.Bits.{is_taken}
use Rattle.jfs_bmap.specs.Set.{each_below}
use Rattle.jfs_bmap.specs.States.{Blocks, BlockState, Free, Owned, state_of, fresh, is_in_list, AreApart, AreReserved}
use Rattle.jfs_bmap.proofs.Views.{length-each_below, each_below-at}
use Rattle.jfs_volume.specs.Busy.{IsIdle}

pub fresh_length : (set : List ℕ) (blocks agsize : ℕ) → length (fresh set blocks agsize).states ≡ blocks
fresh_length set blocks agsize = length-each_below blocks (λ b. if is_taken set b then Owned else Free)

either : (t : Bool) → ((if t then Owned else Free) ≡ Free) ⊎ ((if t then Owned else Free) ≡ Owned)
either true = inr refl
either false = inl refl

on : (s t : BlockState) → s ≡ t → (t ≡ Free) ⊎ (t ≡ Owned) → (s ≡ Free) ⊎ (s ≡ Owned)
on s t e (inl f) = inl (e ∙ f)
on s t e (inr o) = inr (e ∙ o)

pub fresh_idle : (set : List ℕ) (blocks agsize : ℕ) → IsIdle (fresh set blocks agsize)
fresh_idle set blocks agsize b = at (cases_lt b blocks)
  where
    state : ℕ → BlockState
    state c = if is_taken set c then Owned else Free

    at : (b < blocks) ⊎ (blocks ≤ b) → (state_of (fresh set blocks agsize) b ≡ Free) ⊎ (state_of (fresh set blocks agsize) b ≡ Owned)
    at (inl h) = on (state_of (fresh set blocks agsize) b) (state b) (each_below-at blocks (λ c. if is_taken set c then Owned else Free) b Owned h) (either (is_taken set b))
    at (inr h) = inr (get_or_past (fresh set blocks agsize).states b Owned (omega (arith, h, fresh_length set blocks agsize)))

-- no run is reserved in every map
pub none_reserved : (m : Blocks) → AreReserved m []
unfolding is_in_list AreApart
none_reserved m = record { reserved = λ b h. absurd (cc); once = tt }
