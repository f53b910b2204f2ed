-- What is left of reserved blocks.
use Rattle.std.proofs.Common.{◌≡◌, ◌≤◌, ◌<◌, refl, sym, ap, ◌∙◌, ℕ, ◌+◌, Bool, true, false, true≢false, ◌||◌, nat_lt, List, ◌++◌, arith}
use Rattle.std.proofs.lemmas.Bool.Decides.{nat_tests}
use Rattle.jfs_bits.specs.declared.descriptor.Pxd.{Pxd}
use Rattle.jfs_bmap.specs.States.{Blocks, is_in_list, AreApart, AreReserved}
use Rattle.jfs_tree.specs.Edit.{count_in}
use Rattle.jfs_tree.specs.Fresh.{blocks_of}
use Rattle.jfs_runs.specs.Laws.{one_if, WasTaken, IsLeft, LeftIsReserved}
use Rattle.jfs_runs.proofs.Counted.{count_append, counted, counted_some, apart_once}

at_most_one : (t : Bool) → one_if t ≤ 1
at_most_one true = omega arith
at_most_one false = omega arith

is_one : (t : Bool) (n : ℕ) → n ≡ one_if t → 0 < n → t ≡ true
is_one true n e some = refl
is_one false n e some = absurd (omega (arith, e, some))

pub what_is_left : LeftIsReserved
what_is_left m list left taken was =
    let sum : (b : ℕ) → count_in b taken + count_in b (blocks_of left) ≡ one_if (is_in_list list b) =
    λ b. sym (count_append b taken (blocks_of left)) ∙ sym (ap (λ (bs : List ℕ). count_in b bs) was.parts) ∙ counted list was.reserved.once b in
    let once : AreApart left = apart_once left (λ b. omega (arith, sum b, at_most_one (is_in_list list b))) in
    record {
      reserved = record {
        reserved = λ b h. was.reserved.reserved b (is_one (is_in_list list b) (count_in b taken + count_in b (blocks_of left)) (sum b) (omega (arith, counted_some b left h)));
        once = once;
      };
      others = λ b. by (is_in_list list b) (is_in_list left b) (count_in b taken) (count_in b (blocks_of left)) (sum b) (counted left once b);
      apart = λ b h. omega (arith, sum b, at_most_one (is_in_list list b), counted_some b left h);
    }
  where
    by : (all rest : Bool) (n k : ℕ) → n + k ≡ one_if all → k ≡ one_if rest → all ≡ (nat_lt 0 n || rest)
    by true true n k e f = grind (arith, nat_tests)
    by true false n k e f = grind (arith, nat_tests)
    by false true n k e f = absurd (omega (arith, e, f))
    by false false n k e f = grind (arith, nat_tests)
