-- Which blocks get owners or lose them when runs change their states.
use Rattle.std.proofs.Common.{◌≡◌, ℕ, true, false, inl, inr, List, length, refl, sym, ap, ◌∙◌, arith}
use Rattle.std.specs.Prelude.{nat_le, if◌then◌else◌}
use Rattle.std.proofs.lemmas.Bool.{cases_lt, cases_Bool, both_ways}
use Rattle.jfs_bits.specs.declared.descriptor.Pxd.{Pxd}
use Rattle.jfs_bmap.specs.States.{BlockState, Free, Owned, Reserved, Busy, is_owned_state, Blocks, state_of, is_owned, is_in_list, put_state, released_state, released, settled_state}
use Rattle.jfs_bmap.specs.Laws.{ChangeOwners}
use Rattle.jfs_bmap.proofs.States.{changed-each}
use Rattle.jfs_bmap.proofs.Puts.{state-past, put-length, put-at, put-other}

-- runs put in a state whose blocks have owners as they had
put-owners : (state : BlockState) (list : List Pxd) (m : Blocks) (b : ℕ) → (is_in_list list b ≡ true → is_owned_state state ≡ is_owned m b) → is_owned (put_state state list m) b ≡ is_owned m b
put-owners state list m b same = elim (cases_Bool (is_in_list list b)) [
  | inl e ↦ (elim (cases_lt b (length m.states)) [
    | inl h ↦ ap is_owned_state (put-at state list m b h ∙ rw e refl) ∙ same e
    | inr h ↦ ap is_owned_state (state-past (put_state state list m) b (omega (arith, put-length state list m)) ∙ sym (state-past m b h))
  ])
  | inr e ↦ ap is_owned_state (put-other state list m b e)
]

settle-owners : (told : ℕ) (s : BlockState) → is_owned_state (settled_state told s) ≡ is_owned_state s
settle-owners told Free = refl
settle-owners told Owned = refl
settle-owners told Reserved = refl
settle-owners told (Busy entry) = elim (cases_Bool (nat_le entry told)) [ inl e ↦ rw e refl | inr e ↦ rw e refl ]

-- a block of none of the released runs, and one past the end
release-else : (list : List Pxd) (entry : ℕ) (m : Blocks) (b : ℕ) → is_in_list list b ≡ false → state_of (released list entry m) b ≡ state_of m b
release-else list entry m b out = changed-each (λ c s. if is_in_list list c then released_state entry s else s) m b (rw out refl) ∙ rw out refl

pub change-owners : ChangeOwners
change-owners = record {
  reserve = λ m list free b. put-owners Reserved list m b (λ e. sym (ap is_owned_state (free b e)));
  give_back = λ m list reserved b. put-owners Free list m b (λ e. sym (ap is_owned_state (reserved.reserved b e)));
  settle = λ m told b. ap is_owned_state (changed-each (λ c s. settled_state told s) m b refl) ∙ settle-owners told (state_of m b);
  own = λ m list b out. put-owners Owned list m b (λ e. absurd (both_ways (is_in_list list b) out e));
  release = λ m list entry b out. ap is_owned_state (release-else list entry m b out);
}
