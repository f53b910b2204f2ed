-- Runs of blocks that are reserved one after another.
use Rattle.std.proofs.Common.{◌≡◌, ◌≤◌, ◌<◌, refl, sym, ap, ◌∙◌, subst, inl, inr, ℕ, ◌+◌, ◌*◌, ◌^◌, Bool, true, false, not, ◌||◌, if◌then◌else◌, List, [], ◌∷◌, ◌++◌, length, Option, Some, None, Err, arith}
use Rattle.std.specs.List.{All}
use Rattle.std.proofs.lemmas.Bool.{both_ways, or_cases, false_from_ne_true}
use Rattle.std.proofs.lemmas.List.Elements.{All-nil, All-cons, All-append}
use Rattle.jfs_bits.specs.declared.descriptor.Pxd.{Pxd}
use Rattle.jfs_bits.specs.Bits.{is_in_run, is_free}
use Rattle.jfs_room.specs.bmap.specs.States.{BlockState, Free, Owned, Reserved, Busy, Blocks, is_free_state, is_owned_state, state_of, is_used, free_count, put_state, is_in_list, total_of, AreApart, AreReserved}
use Rattle.jfs_room.specs.bmap.proofs.States.{free_run-at, in_list-one}
use Rattle.jfs_room.specs.bmap.proofs.Puts.{in_list-append, in_list-none, put-length, put-here, put-other, put-append, put-none, put-back, free-there, reserved-put}
use Rattle.jfs_room.specs.bmap.proofs.Reservations.{lowest-free, free-within, free-put}
use Rattle.jfs_room.specs.page_tree.specs.Edit.{count_in}
use Rattle.jfs_room.specs.page_tree.specs.Fresh.{blocks_of}
use Rattle.jfs_runs.proofs.Counted.{all_laws}
use Rattle.jfs_claim.specs.Take.{run_list, IsRun, Reserves, TakesEach, Claims, AreFresh, HasFree, Lacks, AnswersByCount, AnswersByFree}
use Rattle.jfs_claim.specs.declared.reserve.Want.{Want}
use Rattle.jfs_claim.specs.declared.reserve.Claim.{Claim}
use Rattle.jfs_claim.specs.declared.reserve.ClaimError.{ClaimError}
use Rattle.jfs_claim.specs.declared.reserve.ClaimError.TheVariants.{NeedsLog, Memory}

abbrev EndsIn : ℕ → Pxd → Type 0
EndsIn size run = run.addr + run.len ≤ size

-- ---- two lists

apart_append : (xs ys : List Pxd) → AreApart xs → AreApart ys → ((b : ℕ) → is_in_list xs b ≡ true → is_in_list ys b ≡ false) → AreApart (xs ++ ys)
unfolding AreApart is_in_list
apart_append [] ys x y h = y
apart_append (run ∷ runs) ys x y h = (
  λ b here. in_list-append runs ys b ∙ none (is_in_list runs b) (is_in_list ys b) (x.0 b here) (h b (ap (λ (t : Bool). t || is_in_list runs b) here)),
  apart_append runs ys x.1 y (λ b there. h b (ap (λ (t : Bool). is_in_run run.addr run.len b || t) there ∙ or_true (is_in_run run.addr run.len b))),
)
  where
    none : (p q : Bool) → p ≡ false → q ≡ false → (p || q) ≡ false
    none p q e f = ap (λ (t : Bool). t || q) e ∙ f

    or_true : (t : Bool) → (t || true) ≡ true
    or_true true = refl
    or_true false = refl

differ : (s : BlockState) → s ≡ Reserved → s ≡ Free → ⊥
differ Free e f = cc (e)
differ Owned e f = cc (e)
differ Reserved e f = cc (f)
differ (Busy entry) e f = cc (e)

-- a block that is free once others are reserved is none of these, and was free
module _ (m : Blocks) (xs : List Pxd) (free : (b : ℕ) → is_in_list xs b ≡ true → state_of m b ≡ Free) where
  apart_from : (b : ℕ) → state_of (put_state Reserved xs m) b ≡ Free → is_in_list xs b ≡ false
  apart_from b h = false_from_ne_true (is_in_list xs b) (λ t. differ (state_of (put_state Reserved xs m) b) (put-here Reserved xs m b (free-there m b (free b t)) t) h)

  pub free_before : (b : ℕ) → state_of (put_state Reserved xs m) b ≡ Free → state_of m b ≡ Free
  free_before b h = sym (put-other Reserved xs m b (apart_from b h)) ∙ h

pub one_then_other : (m now : Blocks) (xs ys : List Pxd) → Reserves m (put_state Reserved xs m) xs → Reserves (put_state Reserved xs m) now ys → Reserves m now (xs ++ ys)
one_then_other m now xs ys x y = record {
  free = λ b h. elim (or_cases (is_in_list xs b) (is_in_list ys b) (sym (in_list-append xs ys b) ∙ h)) [
    | inl here ↦ x.free b here
    | inr there ↦ free_before m xs x.free b (y.free b there)
  ];
  once = apart_append xs ys x.once y.once (λ b here. false_from_ne_true (is_in_list ys b) (λ there. both_ways (is_in_list xs b) (apart_from m xs x.free b (y.free b there)) here));
  within = All-append (EndsIn (length m.states)) xs ys x.within (subst (λ (k : ℕ). All (EndsIn k) ys) (put-length Reserved xs m) y.within);
  now_is = y.now_is ∙ put-append Reserved xs ys m;
}

-- ---- the run

not_used : (s : BlockState) → not (is_free_state s) ≡ false → s ≡ Free
not_used Free h = refl
not_used Owned h = absurd (cc (h))
not_used Reserved h = absurd (cc (h))
not_used (Busy entry) h = absurd (cc (h))

pub reserves_run : (m : Blocks) (wanted : Bool) (run : Option Pxd) → IsRun m wanted run → Reserves m (put_state Reserved (run_list run) m) (run_list run)
unfolding AreApart
reserves_run m wanted None h = record {
  free = λ b t. absurd (both_ways (is_in_list [] b) (in_list-none b) t);
  once = tt;
  within = All-nil (EndsIn (length m.states));
  now_is = refl;
}
reserves_run m wanted (Some run) h =
    let free : is_free (is_used m) run.addr run.len ≡ true = lowest-free (is_used m) 2 run.addr run.len (omega (arith, h.1)) h.2 in
    record {
      free = λ b t. not_used (state_of m b) (free_run-at (is_used m) run.addr run.len b free (sym (in_list-one run b) ∙ t));
      once = (λ b t. in_list-none b, tt);
      within = All-cons (EndsIn (length m.states)) run [] (free-within m run.addr run.len free (omega (arith, h.1))) (All-nil (EndsIn (length m.states)));
      now_is = refl;
    }

abbrev run_size : Bool → ℕ
run_size wanted = if wanted then 4 else 0

-- so many blocks fewer are free then
fewer_free : (m : Blocks) (wanted : Bool) (run : Option Pxd) → IsRun m wanted run → free_count (put_state Reserved (run_list run) m) + run_size wanted ≡ free_count m
fewer_free m wanted None h = rw h (ap (λ (n : Blocks). free_count n + 0) (put-none Reserved m) ∙ plus_none (free_count m))
  where
    plus_none : (n : ℕ) → n + 0 ≡ n
    plus_none n = omega arith
fewer_free m wanted (Some run) h =
    let free : is_free (is_used m) run.addr run.len ≡ true = lowest-free (is_used m) 2 run.addr run.len (omega (arith, h.1)) h.2 in
    let four : run_size wanted ≡ run.len = rw h.0 (sym h.1) in
    rw four (free-put run m free (omega (arith, h.1)))

-- ---- all of it

module _ (m : Blocks) (want : Want) (run : Option Pxd) (is_run : IsRun m want.run run) where
  abbrev with_it : Blocks
  with_it = put_state Reserved (run_list run) m

  pub claims : (now : Blocks) (claim : Claim) → claim.run ≡ run → TakesEach with_it now want.blocks claim.blocks → claim.fresh ≡ claim.blocks → Claims m now want claim
  claims now claim same each all = subst (λ (x : Option Pxd). TakesEach (put_state Reserved (run_list x) m) now want.blocks claim.blocks → IsRun m want.run x → Claims m now want claim) same
      (λ each is_run. record {
        run = is_run;
        each = each;
        all_left = all;
        reserves = one_then_other m now (run_list claim.run) claim.blocks (reserves_run m want.run claim.run is_run) each.reserves;
      }) each is_run

  pub fresh : (now : Blocks) (list : List Pxd) → TakesEach with_it now want.blocks list → total_of list ≡ length list → AreFresh m want.blocks (blocks_of list)
  fresh now list each singles = record {
    number = all_laws.number list ∙ singles ∙ each.number;
    within = all_laws.within list (length m.states) (subst (λ (k : ℕ). All (EndsIn k) list) (put-length Reserved (run_list run) m) each.reserves.within);
    once = λ b. once_or_not (is_in_list list b) (count_in b (blocks_of list)) (all_laws.counts list each.reserves.once b);
    unowned = λ b some. ap is_owned_state (free_before m (run_list run) (reserves_run m want.run run is_run).free b (each.reserves.free b (counted (is_in_list list b) (count_in b (blocks_of list)) (all_laws.counts list each.reserves.once b) some)));
  }
    where
      once_or_not : (x : Bool) (n : ℕ) → n ≡ (if x then 1 else 0) → n ≤ 1
      once_or_not true n e = omega (arith, e)
      once_or_not false n e = omega (arith, e)

      counted : (x : Bool) (n : ℕ) → n ≡ (if x then 1 else 0) → 0 < n → x ≡ true
      counted true n e l = refl
      counted false n e l = absurd (omega (arith, e, l))

  there_is_run : want.run ≡ true → (j : ℕ) × (is_free (is_used m) (j * 2 ^ 2) (2 ^ 2) ≡ true)
  there_is_run wanted = by run is_run
    where
      by : (run : Option Pxd) → IsRun m want.run run → (j : ℕ) × (is_free (is_used m) (j * 2 ^ 2) (2 ^ 2) ≡ true)
      by None h = absurd (both_ways want.run h wanted)
      by (Some run) h = (h.2.0, h.2.2)

  pub enough : want.blocks ≤ free_count with_it → HasFree m want
  enough h = (let e = fewer_free m want.run run is_run in omega (arith, e, h), there_is_run)

  pub too_few : free_count with_it < want.blocks → Lacks m want
  too_few h = inl (let e = fewer_free m want.run run is_run in omega (arith, e, h))

  pub refused : (now : Blocks) → now ≡ with_it → (why : ClaimError) → AnswersByCount now want.blocks (Err why) → AnswersByFree m want (Err why)
  refused now same NeedsLog h = too_few (rw same at h)
  refused now same Memory h = enough (rw same at h)

  run_is_free : Reserves m with_it (run_list run)
  run_is_free = reserves_run m want.run run is_run

  pub run_reserved : AreReserved with_it (run_list run)
  run_reserved = reserved-put (run_list run) m run_is_free.once run_is_free.free

  pub run_back : put_state Free (run_list run) with_it ≡ m
  run_back = put-back (run_list run) m run_is_free.free
