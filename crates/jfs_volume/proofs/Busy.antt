-- Which entries busy blocks wait for, after each change of the map.
use Rattle.std.proofs.Common.{◌≡◌, ◌<◌, ◌≤◌, ◌⊎◌, ◌+◌, ℕ, Bool, true, false, if◌then◌else◌, List, length, refl, sym, ap, ◌∙◌, inl, inr, arith}
use Rattle.std.proofs.lemmas.Bool.{cases_lt, lt-leb, le-leb}
use Rattle.std.proofs.lemmas.List.{get_or_past}
use Rattle.jfs_bits.specs.declared.descriptor.Pxd.{Pxd}
use Rattle.jfs_bmap.specs.States.{Blocks, BlockState, Free, Owned, Reserved, Busy, state_of, changed, is_in_list, put_state, released, released_state, settled_state, blocks_settled, is_busy_state}
use Rattle.jfs_bmap.proofs.States.{changed-at, changed-length}
use Rattle.jfs_map_files.specs.declared.maps.Maps.{Maps}
use Rattle.jfs_volume.specs.Asked.{MayReserve}
use Rattle.jfs_volume.specs.Busy.{BusyBetween, IsIdle}

-- a block that is busy after a change was changed to that
busy_changed : (change : ℕ → BlockState → BlockState) (m : Blocks) (b entry : ℕ) → state_of (changed change m) b ≡ Busy entry → change b (state_of m b) ≡ Busy entry
busy_changed change m b entry e = at (cases_lt b (length m.states))
  where
    at : (b < length m.states) ⊎ (length m.states ≤ b) → change b (state_of m b) ≡ Busy entry
    at (inl h) = sym (changed-at change m b h) ∙ e
    at (inr h) = let past : Owned ≡ Busy entry = sym (get_or_past (changed change m).states b Owned (omega (arith, h, changed-length change m))) ∙ e in absurd (cc)

-- ---- acknowledged entries

from_settled : (n entry : ℕ) (s : BlockState) → settled_state n s ≡ Busy entry → (s ≡ Busy entry) × (n < entry)
from_settled n entry Free e = absurd (cc)
from_settled n entry Owned e = absurd (cc)
from_settled n entry Reserved e = absurd (cc)
from_settled n entry (Busy k) e = at (cases_lt n k)
  where
    at : (n < k) ⊎ (k ≤ n) → (Busy k ≡ Busy entry) × (n < entry)
    at (inl h) =
        let stays : settled_state n (Busy k) ≡ Busy k = rw (lt-leb k n h) refl in
        let same : Busy k ≡ Busy entry = sym stays ∙ e in
        let number : k ≡ entry = cc in
        (same, omega (arith, h, number))
    at (inr h) = let gone : settled_state n (Busy k) ≡ Free = rw (le-leb k n h) refl in let never : Free ≡ Busy entry = sym gone ∙ e in absurd (cc)

pub between_settled : (told appended n : ℕ) (m : Blocks) → BusyBetween told appended m → BusyBetween n appended (blocks_settled n m)
between_settled told appended n m between b entry e =
    let w = from_settled n entry (state_of m b) (busy_changed (λ (c : ℕ) (s : BlockState). settled_state n s) m b entry e) in
    (w.1, (between b entry w.0).1)

-- ---- entries

pub between_more : (told appended : ℕ) (m : Blocks) → BusyBetween told appended m → BusyBetween told (appended + 1) m
between_more told appended m between b entry e = let w = between b entry e in (w.0, omega (arith, w.1))

from_put : (put s : BlockState) (entry : ℕ) (b : Bool) → (put ≡ Busy entry → ⊥) → (if b then put else s) ≡ Busy entry → s ≡ Busy entry
from_put put s entry true never e = absurd (never e)
from_put put s entry false never e = e

not_free : (entry : ℕ) → Free ≡ Busy entry → ⊥
not_free entry e = absurd (cc)

not_owned : (entry : ℕ) → Owned ≡ Busy entry → ⊥
not_owned entry e = absurd (cc)

not_reserved : (entry : ℕ) → Reserved ≡ Busy entry → ⊥
not_reserved entry e = absurd (cc)

pub between_freed : (told appended : ℕ) (list : List Pxd) (m : Blocks) → BusyBetween told appended m → BusyBetween told appended (put_state Free list m)
between_freed told appended list m between b entry e =
    between b entry (from_put Free (state_of m b) entry (is_in_list list b) (not_free entry) (busy_changed (λ (c : ℕ) (s : BlockState). if is_in_list list c then Free else s) m b entry e))

between_owned : (told appended : ℕ) (list : List Pxd) (m : Blocks) → BusyBetween told appended m → BusyBetween told appended (put_state Owned list m)
between_owned told appended list m between b entry e =
    between b entry (from_put Owned (state_of m b) entry (is_in_list list b) (not_owned entry) (busy_changed (λ (c : ℕ) (s : BlockState). if is_in_list list c then Owned else s) m b entry e))

from_released : (n entry : ℕ) (s : BlockState) (b : Bool) → (if b then released_state n s else s) ≡ Busy entry → (s ≡ Busy entry) ⊎ (entry ≡ n)
from_released n entry s false e = inl e
from_released n entry Free true e = absurd (cc)
from_released n entry Owned true e = let number : n ≡ entry = cc in inr (sym number)
from_released n entry Reserved true e = absurd (cc)
from_released n entry (Busy k) true e = inl e

-- an entry joins: blocks that it takes have owners, and those that it frees wait for it
pub between_entered : (told appended : ℕ) (taken freed : List Pxd) (m : Blocks) → told ≤ appended → BusyBetween told appended m → BusyBetween told (appended + 1) (released freed (appended + 1) (put_state Owned taken m))
between_entered told appended taken freed m few between b entry e =
    at (from_released (appended + 1) entry (state_of (put_state Owned taken m) b) (is_in_list freed b)
    (busy_changed (λ (c : ℕ) (s : BlockState). if is_in_list freed c then released_state (appended + 1) s else s) (put_state Owned taken m) b entry e))
  where
    at : (state_of (put_state Owned taken m) b ≡ Busy entry) ⊎ (entry ≡ appended + 1) → (told < entry) × (entry ≤ appended + 1)
    at (inl same) = let w = between_owned told appended taken m between b entry same in (w.0, omega (arith, w.1))
    at (inr is) = (omega (arith, is, few), omega (arith, is))

-- ---- the start

pub between_idle : (told appended : ℕ) (m : Blocks) → IsIdle m → BusyBetween told appended m
between_idle told appended m idle b entry e = at (idle b)
  where
    at : (state_of m b ≡ Free) ⊎ (state_of m b ≡ Owned) → (told < entry) × (entry ≤ appended)
    at (inl f) = absurd (not_free entry (sym f ∙ e))
    at (inr o) = absurd (not_owned entry (sym o ∙ e))

-- no block is busy where all entries are acknowledged
pub none_busy : (told appended : ℕ) (m : Blocks) (b : ℕ) → BusyBetween told appended m → told ≡ appended → is_busy_state (state_of m b) ≡ false
none_busy told appended m b between all = at (state_of m b) refl
  where
    at : (s : BlockState) → state_of m b ≡ s → is_busy_state (state_of m b) ≡ false
    at Free e = ap is_busy_state e
    at Owned e = ap is_busy_state e
    at Reserved e = ap is_busy_state e
    at (Busy entry) e = let w = between b entry e in absurd (omega (arith, w.0, w.1, all))

-- ---- free blocks are reserved

pub between_reserved : (told appended : ℕ) (old new : Maps) → MayReserve old new → BusyBetween told appended old.blocks → BusyBetween told appended new.blocks
between_reserved told appended old new r between b entry e = at (r.each b)
  where
    at : (state_of new.blocks b ≡ state_of old.blocks b) ⊎ ((state_of old.blocks b ≡ Free) × (state_of new.blocks b ≡ Reserved)) → (told < entry) × (entry ≤ appended)
    at (inl same) = between b entry (sym same ∙ e)
    at (inr w) = absurd (not_reserved entry (sym w.1 ∙ e))
