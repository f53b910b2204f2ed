-- Maps whose blocks an entry releases, run by run.
use Rattle.std.proofs.Common.{◌≡◌, ◌<◌, ◌+◌, ◌-◌, ℕ, Bool, true, false, ◌||◌, List, [], ◌∷◌, ◌++◌, length, length-append, refl, sym, ◌∙◌, arith}
use Rattle.std.specs.Prelude.{if◌then◌else◌}
use Rattle.jfs_bits.specs.Bits.{is_in_run}
use Rattle.jfs_bits.specs.declared.descriptor.Pxd.{Pxd}
use Rattle.jfs_bmap.specs.States.{BlockState, Free, Owned, Reserved, Busy, Blocks, state_of, is_in_list, released, released_state}
use Rattle.jfs_bmap.proofs.States.{same_blocks, changed-at, changed-length, in_list-one}
use Rattle.jfs_bmap.proofs.Puts.{in_list-append, in_list-none}

-- a block that one entry releases twice
released-twice : (x y : Bool) (entry : ℕ) (s : BlockState) → (if y then released_state entry (if x then released_state entry s else s) else (if x then released_state entry s else s)) ≡ (if x || y then released_state entry s else s)
released-twice false false entry s = refl
released-twice false true entry s = refl
released-twice true false entry s = refl
released-twice true true entry Free = refl
released-twice true true entry Owned = refl
released-twice true true entry Reserved = refl
released-twice true true entry (Busy earlier) = refl

-- each state of a map after a release
pub released-at : (runs : List Pxd) (entry : ℕ) (m : Blocks) (b : ℕ) → b < length m.states → state_of (released runs entry m) b ≡ (if is_in_list runs b then released_state entry (state_of m b) else state_of m b)
released-at runs entry m b h = changed-at (λ c s. if is_in_list runs c then released_state entry s else s) m b h

-- and their number
pub released-length : (runs : List Pxd) (entry : ℕ) (m : Blocks) → length (released runs entry m).states ≡ length m.states
released-length runs entry m = changed-length (λ c s. if is_in_list runs c then released_state entry s else s) m

-- no run is released
pub released-none : (entry : ℕ) (m : Blocks) → m ≡ released [] entry m
released-none entry m =
    same_blocks m (released [] entry m) (sym (released-length [] entry m)) (λ b h. sym (released-at [] entry m b h ∙ rw (in_list-none b) refl)) refl (omega arith)

-- one run more
pub released-more : (runs : List Pxd) (run : Pxd) (entry : ℕ) (m : Blocks) → released (run ∷ []) entry (released runs entry m) ≡ released (runs ++ run ∷ []) entry m
released-more runs run entry m =
    let before = released runs entry m in
    let lengths = released-length runs entry m in
    let lengths_now = released-length (run ∷ []) entry before in
    same_blocks (released (run ∷ []) entry before) (released (runs ++ run ∷ []) entry m)
    (lengths_now ∙ lengths ∙ sym (released-length (runs ++ run ∷ []) entry m))
    (λ b h.
    let within : b < length m.states = omega (arith, lengths, lengths_now) in
    released-at (run ∷ []) entry before b (omega (arith, lengths_now)) ∙ rw (released-at runs entry m b within, released-at (runs ++ run ∷ []) entry m b within, in_list-append runs (run ∷ []) b, in_list-one run b) (released-twice (is_in_list runs b) (is_in_run run.addr run.len b) entry (state_of m b)))
    refl (spares m.spare (length runs) (length (runs ++ run ∷ [])) (length-append runs (run ∷ [])))
  where
    spares : (spare n k : ℕ) → k ≡ n + 1 → spare - n - 1 ≡ spare - k
    spares spare n k e = omega arith
