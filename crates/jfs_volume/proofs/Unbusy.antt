-- Blocks that data is to go into aren't busy.
use Rattle.std.proofs.Common.{◌≡◌, ◌<◌, ◌≤◌, ◌⊎◌, ◌==◌, ◌+◌, ◌||◌, ◌∷◌, [], ℕ, Bool, true, false, List, length, drop, get_or, refl, ap, ◌∙◌, inl, inr, subst, arith}
use Rattle.std.proofs.lemmas.Bool.{cases_lt, eqb-true, and_parts}
use Rattle.std.proofs.lemmas.List.{drop_more, drop_all}
use Rattle.jfs_bits.specs.Bits.{is_in_run}
use Rattle.jfs_bits.specs.declared.descriptor.Pxd.{Pxd}
use Rattle.jfs_bmap.specs.States.{Blocks, BlockState, Free, Owned, Reserved, Busy, state_of, is_in_list, is_owned, is_owned_state, is_busy_state, put_state}
use Rattle.jfs_bmap.proofs.Puts.{put-length, put-here, put-other, state-past}
use Rattle.jfs_ranges.specs.declared.edit.Edit.{Edit}
use Rattle.jfs_marks.specs.data_steps.specs.After.{is_put}
use Rattle.jfs_marks.specs.data_steps.specs.declared.pages.DataPage.{DataPage}
use Rattle.jfs_halves.specs.Parts.{Parts}
use Rattle.jfs_volume.specs.Append.{IsWritable, unreserved}
use Rattle.jfs_volume.specs.Called.{are_clean, have_places}
use Rattle.jfs_volume.specs.Runs.{taken_in}
use Rattle.jfs_volume.proofs.CallJoins.{are_all_clean}

-- ---- a block that has its place

owned_idle : (s : BlockState) → is_owned_state s ≡ true → is_busy_state s ≡ false
owned_idle Free h = absurd (cc (h))
owned_idle Owned h = refl
owned_idle Reserved h = absurd (cc (h))
owned_idle (Busy entry) h = absurd (cc (h))

idle_at : (map : Blocks) (taken : List Pxd) (b : ℕ) (here : Bool) → is_in_list taken b ≡ here → (here || is_owned map b) ≡ true → is_busy_state (state_of (put_state Free taken map) b) ≡ false
idle_at map taken b true is h = by (cases_lt b (length map.states))
  where
    by : (b < length map.states) ⊎ (length map.states ≤ b) → is_busy_state (state_of (put_state Free taken map) b) ≡ false
    by (inl l) = ap is_busy_state (put-here Free taken map b l is)
    by (inr past) = ap is_busy_state (state-past (put_state Free taken map) b (let same = put-length Free taken map in omega (arith, same, past)))
idle_at map taken b false is h = ap is_busy_state (put-other Free taken map b is) ∙ owned_idle (state_of map b) h

place_at : (map : Blocks) (taken : List Pxd) (d : DataPage) (ds : List DataPage) (b : ℕ) (here : Bool) → (d.block == b) ≡ here → (here || is_put b ds) ≡ true → (is_in_list taken d.block || is_owned map d.block) ≡ true → ((c : ℕ) → is_put c ds ≡ true → (is_in_list taken c || is_owned map c) ≡ true)
    → (is_in_list taken b || is_owned map b) ≡ true
place_at map taken d ds b true same put first rest = subst (λ (n : ℕ). (is_in_list taken n || is_owned map n) ≡ true) (eqb-true d.block b same) first
place_at map taken d ds b false same put first rest = rest b put

places_at : (map : Blocks) (taken : List Pxd) (put : List DataPage) → have_places map taken put ≡ true → (b : ℕ) → is_put b put ≡ true → (is_in_list taken b || is_owned map b) ≡ true
places_at map taken [] h b put = absurd (cc (put))
places_at map taken (d ∷ ds) h b put =
    let parts = and_parts (is_in_list taken d.block || is_owned map d.block) (have_places map taken ds) h in
    place_at map taken d ds b (d.block == b) refl put parts.0 (places_at map taken ds parts.1)

-- so data is writable, once what was reserved for it is free again
pub writable_by : (tx : List Edit) (put : List DataPage) (p : Parts) → are_clean put p.dirty ≡ true → have_places p.map (taken_in tx) put ≡ true → IsWritable put (unreserved tx p)
writable_by tx put p clean places b is = (are_all_clean put p.dirty clean b is, idle_at p.map (taken_in tx) b (is_in_list (taken_in tx) b) refl (places_at p.map (taken_in tx) put places b is))

-- ---- a loop over runs

-- what a loop finds at a place of a list of runs
abbrev run_at : List Pxd → ℕ → Pxd
run_at runs i = get_or runs i (record { len = 0; addr = 0 })

pub run_next : (runs : List Pxd) (i b : ℕ) → i < length runs → is_in_list (drop i runs) b ≡ (is_in_run (run_at runs i).addr (run_at runs i).len b || is_in_list (drop (i + 1) runs) b)
unfolding is_in_list
run_next runs i b h = ap (λ (xs : List Pxd). is_in_list xs b) (drop_more runs i (record { len = 0; addr = 0 }) h)

pub run_last : (runs : List Pxd) (i b : ℕ) → length runs ≤ i → is_in_list (drop i runs) b ≡ false
unfolding is_in_list
run_last runs i b h = ap (λ (xs : List Pxd). is_in_list xs b) (drop_all i runs h)
