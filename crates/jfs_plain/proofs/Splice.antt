-- Bytes put over others, byte by byte.
use Rattle.std.proofs.Common.{◌≡◌, ◌<◌, ◌≤◌, ◌+◌, ◌-◌, ◌⊎◌, inl, inr, ℕ, List, [], ◌∷◌, ◌++◌, length, take, get_or, true, false, nat_le, nat_lt, ◌&&◌, ◌^◌, suc, append_assoc, append-nil, refl, ap, ◌∙◌, arith}
use Rattle.std.proofs.lemmas.List.{get_or_append_left, get_or-append_right, get_or-take, get_or-drop, length-take-le}
use Rattle.std.proofs.lemmas.Bool.{cases_lt}
use Rattle.std.proofs.lemmas.Bool.Decides.{nat_tests}
use Rattle.jfs_bits.specs.Field.{put_bytes}
use Rattle.jfs_plain.specs.Moves.{byte_after}
use Rattle.jfs_plain.specs.Step.{bytes_from, blocks_in}

put_before : (at : ℕ) (new xs : List ℕ) (i : ℕ) → at ≤ length xs → i < at → get_or (put_bytes at new xs) i 0 ≡ get_or xs i 0
unfolding put_bytes
put_before at new xs i w h =
    let l : length (take at xs) ≡ at = length-take-le at xs w in
    get_or_append_left (take at xs) _ 0 i (rw l h) ∙ get_or-take at xs i 0 h

put_within : (at : ℕ) (new xs : List ℕ) (i : ℕ) → at ≤ length xs → at ≤ i → i - at < length new → get_or (put_bytes at new xs) i 0 ≡ get_or new (i - at) 0
unfolding put_bytes
put_within at new xs i w h k =
    get_or-append_right (take at xs) _ at i 0 (length-take-le at xs w) h ∙ get_or_append_left new _ 0 (i - at) k

put_behind : (at : ℕ) (new xs : List ℕ) (i : ℕ) → at ≤ length xs → at ≤ i → length new ≤ i - at → get_or (put_bytes at new xs) i 0 ≡ get_or xs i 0
unfolding put_bytes
put_behind at new xs i w h k =
    let e : at + length new + (i - at - length new) ≡ i = omega arith in
    get_or-append_right (take at xs) _ at i 0 (length-take-le at xs w) h ∙ get_or-append_right new _ (length new) (i - at) 0 refl k
    ∙ get_or-drop (at + length new) xs (i - at - length new) 0 ∙ ap (λ (n : ℕ). get_or xs n 0) e

pub byte_put : (at : ℕ) (new xs : List ℕ) (f : ℕ → ℕ) (i : ℕ) → at ≤ length xs → get_or xs i 0 ≡ f i → get_or (put_bytes at new xs) i 0 ≡ byte_after f at new i
byte_put at new xs f i w e = by_place (cases_lt i at)
  where
    by_end : at ≤ i → ((i - at < length new) ⊎ (length new ≤ i - at)) → get_or (put_bytes at new xs) i 0 ≡ byte_after f at new i
    by_end h (inl k) = let t : (nat_le at i && nat_lt i (at + length new)) ≡ true = grind (arith, nat_tests) in rw t (put_within at new xs i w h k)
    by_end h (inr k) = let t : (nat_le at i && nat_lt i (at + length new)) ≡ false = grind (arith, nat_tests) in rw t (put_behind at new xs i w h k ∙ e)

    by_place : ((i < at) ⊎ (at ≤ i)) → get_or (put_bytes at new xs) i 0 ≡ byte_after f at new i
    by_place (inl h) = let t : (nat_le at i && nat_lt i (at + length new)) ≡ false = grind (arith, nat_tests) in rw t (put_before at new xs i w h ∙ e)
    by_place (inr h) = by_end h (cases_lt (i - at) (length new))

-- ---- what is read

pub bytes_more : (f : ℕ → ℕ) (bs : List ℕ) (at next m k : ℕ) → next ≡ suc at → m ≡ suc k → (bs ++ f at ∷ []) ++ bytes_from f next k ≡ bs ++ bytes_from f at m
unfolding bytes_from
bytes_more f bs at next m k e h = rw (e, h) (append_assoc bs (f at ∷ []) (bytes_from f (suc at) k))

pub bytes_none : (f : ℕ → ℕ) (bs : List ℕ) (at m : ℕ) → m ≡ 0 → bs ++ bytes_from f at m ≡ bs
unfolding bytes_from
bytes_none f bs at m e = rw e (append-nil bs)

-- ---- the room is ample

pub enough : (offset count : ℕ) → offset + count < 2 ^ 64 → nat_lt (2 ^ 65) (blocks_in offset count + 8 + 64) ≡ false
enough offset count h = grind (arith, nat_tests)
