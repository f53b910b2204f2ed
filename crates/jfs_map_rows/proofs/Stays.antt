-- What was reserved stays so, whatever other calls do meanwhile.
use Rattle.std.proofs.Common.{◌≡◌, ◌<◌, ◌*◌, ℕ, Bool, true, false, not, inl, inr, List, [], ◌∷◌, length, refl, sym, ap, ◌∙◌}
use Rattle.std.specs.Prelude.{if◌then◌else◌, Some}
use Rattle.std.proofs.lemmas.Bool.{cases_lt, both_ways, false_from_ne_true}
use Rattle.jfs_bits.specs.Bits.{is_in_run}
use Rattle.jfs_bits.specs.declared.descriptor.Pxd.{Pxd}
use Rattle.jfs_bmap.specs.Set.{IsLowest}
use Rattle.jfs_bmap.specs.States.{BlockState, Free, Owned, Reserved, Busy, is_free_state, Blocks, state_of, is_used, is_in_list, AreReserved, put_state, released, released_state, blocks_settled, settled_state}
use Rattle.jfs_bmap.proofs.States.{changed-at, in_list-one, free_run-at}
use Rattle.jfs_bmap.proofs.Puts.{in_list-none, none-apart, free-not_reserved, put-other, state-past}
use Rattle.jfs_bmap.proofs.Releases.{released-at}
use Rattle.jfs_map_rows.specs.Stays.{StaysReserved}

-- no run at all is reserved
pub none-reserved : (m : Blocks) → AreReserved m []
none-reserved m = record { reserved = λ b h. absurd (both_ways (is_in_list [] b) (in_list-none b) h); once = none-apart }

-- where free blocks are reserved, and then put in any state
pub reserve-stays : (state : BlockState) (list : List Pxd) (m : Blocks) → ((b : ℕ) → is_in_list list b ≡ true → state_of m b ≡ Free) → StaysReserved m (put_state state list (put_state Reserved list m))
reserve-stays state list m free b here =
    let out : is_in_list list b ≡ false = false_from_ne_true (is_in_list list b) (λ t. free-not_reserved m b (free b t) here) in
    put-other state list (put_state Reserved list m) b out ∙ put-other Reserved list m b out ∙ here

-- the blocks of the lowest run of four are free
pub four-free : (m : Blocks) (run : Pxd) → IsLowest (is_used m) 2 (Some run.addr) → run.len ≡ 4 → (b : ℕ) → is_in_list (run ∷ []) b ≡ true → state_of m b ≡ Free
four-free m run lowest four b h =
    let here : is_in_run run.addr run.len b ≡ true = sym (in_list-one run b) ∙ h in
    unused (state_of m b) (free_run-at (is_used m) (lowest.0 * 4) 4 b lowest.2 (rw (lowest.1, four) at here))
  where
    unused : (s : BlockState) → not (is_free_state s) ≡ false → s ≡ Free
    unused Free e = refl
    unused Owned e = cc e
    unused Reserved e = cc e
    unused (Busy entry) e = cc e

-- a block past the end is owned, so a reserved one is within the volume
reserved-there : (m : Blocks) (b : ℕ) → state_of m b ≡ Reserved → b < length m.states
reserved-there m b h = elim (cases_lt b (length m.states)) [ inl k ↦ k | inr k ↦ absurd (apart (sym (state-past m b k) ∙ h)) ]
  where
    apart : Owned ≡ Reserved → ⊥
    apart e = cc

-- where blocks are released
pub released-stays : (runs : List Pxd) (entry : ℕ) (m : Blocks) → StaysReserved m (released runs entry m)
released-stays runs entry m b here = released-at runs entry m b (reserved-there m b here) ∙ either (is_in_list runs b) (state_of m b) here
  where
    either : (x : Bool) (s : BlockState) → s ≡ Reserved → (if x then released_state entry s else s) ≡ Reserved
    either true s e = ap (released_state entry) e
    either false s e = e

-- where busy blocks are freed
pub settled-stays : (told : ℕ) (m : Blocks) → StaysReserved m (blocks_settled told m)
settled-stays told m b here = changed-at (λ c s. settled_state told s) m b (reserved-there m b here) ∙ ap (settled_state told) here
