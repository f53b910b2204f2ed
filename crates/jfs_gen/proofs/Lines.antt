-- How a generated script goes on, that its lines are within the limits, and how many they are.
use Rattle.std.proofs.Common.{◌≡◌, ℕ, suc, zero, ◌+◌, ◌-◌, ◌*◌, ◌/◌, ◌%◌, ◌^◌, ◌<◌, ◌≤◌, ◌==◌, nat_lt, Bool, true, false, if◌then◌else◌, List, [], ◌∷◌, ◌++◌, length, ap, ◌∙◌, sym, refl, arith, append_assoc}
use Rattle.std.specs.Prelude.{bit_xor}
use Rattle.jfs_plain.specs.Limits.{FitsPath, FitsCall}
use Rattle.jfs_plain.specs.declared.call.Call.{Call}
use Rattle.jfs_plain.specs.declared.call.Call.TheVariants as kinds
use Rattle.jfs_plain.specs.declared.call.Line.{Line}
use Rattle.jfs_gen.specs.Limits.{AllFit}
use Rattle.jfs_gen.specs.Workload.{next, file_path, call_of, calls_after, line_of, numbered, lines_of}
use Rattle.jfs_gen.proofs.Names.{home_fits, file_fits}

-- the lines so far, and those that are still to come
abbrev pub Comes : ℕ → ℕ → ℕ → ℕ → List Line → List Line → Type 0
Comes client calls i x items whole = items ++ numbered (i + 2) (calls_after client (calls - i) x ++ kinds.Sync ∷ []) ≡ whole

pub goes_on : (client calls i x : ℕ) (items later whole : List Line) → i < calls → Comes client calls i x items whole → later ≡ items ++ line_of (i + 2) (call_of client (next x / 2 ^ 33)) ∷ [] → Comes client calls (i + 1) (next x) later whole
goes_on client calls i x items later whole more comes is =
    let rest : List Call = calls_after client (calls - (i + 1)) (next x) ++ kinds.Sync ∷ [] in
    let left : calls - i ≡ suc (calls - (i + 1)) = omega (arith, more) in
    let number : i + 1 + 2 ≡ suc (i + 2) = omega arith in
    ap (λ n. later ++ numbered n rest) number
    ∙ ap (λ ls. ls ++ numbered (suc (i + 2)) rest) is
    ∙ append_assoc items (line_of (i + 2) (call_of client (next x / 2 ^ 33)) ∷ []) (numbered (suc (i + 2)) rest)
    ∙ sym (ap (λ k. items ++ numbered (i + 2) (calls_after client k x ++ kinds.Sync ∷ [])) left)
    ∙ comes

pub ends : (client calls i x : ℕ) (items later whole : List Line) → calls ≤ i → i ≤ calls → Comes client calls i x items whole → later ≡ items ++ line_of (calls + 2) kinds.Sync ∷ [] → later ≡ whole
ends client calls i x items later whole none all comes is =
    let e : i ≡ calls = omega arith in
    let left : calls - i ≡ 0 = omega arith in
    is ∙ sym (ap (λ k. items ++ line_of (k + 2) kinds.Sync ∷ []) e) ∙ sym (ap (λ k. items ++ numbered (i + 2) (calls_after client k x ++ kinds.Sync ∷ [])) left) ∙ comes

by_tests : (a b c d : Bool) (path : List (List ℕ)) (byte block : ℕ) → FitsPath path → block < 8
    → FitsCall (if a then kinds.Create path 420 else if b then kinds.Unlink path else if c then kinds.Fill path (4096 * block) 4096 byte else if d then kinds.Stat path else kinds.Truncate path (4096 * block))
by_tests true b c d path byte block fits small = (fits, omega arith)
by_tests false true c d path byte block fits small = fits
by_tests false false true d path byte block fits small = (fits, (omega arith, omega arith, omega arith))
by_tests false false false true path byte block fits small = fits
by_tests false false false false path byte block fits small = fits

call_fits : (client r : ℕ) → client < 100 → FitsCall (call_of client r)
unfolding call_of
call_fits client r small =
    by_tests (nat_lt (r % 8) 2) (r % 8 == 2) (nat_lt (r % 8) 6) (r % 8 == 6) (file_path client (r / 8 % 16)) (r / 8 % 16) (r / 128 % 8) (file_fits client (r / 8 % 16) small (omega arith)) (omega arith)

rest_fits : (client more x n : ℕ) → client < 100 → AllFit (numbered n (calls_after client more x ++ kinds.Sync ∷ []))
rest_fits client zero x n small = ((tt, tt), tt)
rest_fits client (suc more) x n small = ((call_fits client (next x / 2 ^ 33) small, tt), rest_fits client more (next x) (suc n) small)

pub all_fit : (number client calls : ℕ) → client < 100 → AllFit (lines_of number client calls)
all_fit number client calls small = (((home_fits client small, omega arith), tt), rest_fits client calls _ 2 small)

count_of_rest : (client more x n : ℕ) → length (numbered n (calls_after client more x ++ kinds.Sync ∷ [])) ≡ more + 1
count_of_rest client zero x n = refl
count_of_rest client (suc more) x n = omega (arith, count_of_rest client more (next x) (suc n))

pub count_of_lines : (number client calls : ℕ) → length (lines_of number client calls) ≡ calls + 2
count_of_lines number client calls = omega (arith, count_of_rest client calls (bit_xor number client) 2)
