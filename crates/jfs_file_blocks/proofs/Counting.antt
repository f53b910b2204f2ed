-- Runs for a file, and then single blocks.
use Rattle.std.proofs.Common.{◌≡◌, ◌≤◌, ◌<◌, refl, sym, ap, ◌∙◌, subst, inl, inr, ℕ, zero, suc, ◌+◌, Bool, true, false, true≢false, not, ◌||◌, nat_lt, if◌then◌else◌, List, [], ◌∷◌, ◌++◌, length, Option, Some, None, Ok, Err, arith}
use Rattle.std.specs.List.{All}
use Rattle.std.proofs.lemmas.Bool.Decides.{nat_tests}
use Rattle.std.proofs.lemmas.List.Elements.{All-tail}
use Rattle.std.proofs.lemmas.Bool.{both_ways, or_left, or_right, or_parts, false_from_ne_true}
use Rattle.jfs_bits.specs.declared.descriptor.Pxd.{Pxd}
use Rattle.jfs_bits.specs.Bits.{is_in_run}
use Rattle.jfs_bmap.specs.Choice.{IsReservation, AreLowestBlocks}
use Rattle.jfs_bmap.specs.States.{BlockState, Free, Reserved, Blocks, is_free_state, state_of, is_used, is_owned_state, free_count, put_state, is_in_list, total_of, AreApart, AreReserved}
use Rattle.jfs_bmap.proofs.States.{free_run-from, in_list-one, same_blocks, changed-at, changed-length}
use Rattle.jfs_bmap.proofs.Puts.{in_list-append, in_list-none, put-length, put-at, put-other, put-append, put-none, put-nowhere, put-back, reserved-put}
use Rattle.jfs_bmap.proofs.Reservations.{free-put, reservation-total}
use Rattle.jfs_claim.specs.page_tree.specs.Edit.{count_in}
use Rattle.jfs_claim.specs.page_tree.specs.Fresh.{blocks_of}
use Rattle.jfs_claim.specs.runs.proofs.Counted.{all_laws}
use Rattle.jfs_claim.specs.Take.{Reserves, Claims, AreFresh, IsRun, run_list, claimed, reserving, AnswersByFree as AnswersClaim}
use Rattle.jfs_claim.specs.declared.reserve.Claim.{Claim}
use Rattle.jfs_claim.specs.declared.reserve.ClaimError.{ClaimError}
use Rattle.jfs_claim.specs.declared.reserve.ClaimError.TheVariants.{NeedsLog, Memory}
use Rattle.jfs_claim.proofs.Takes.{one_then_other}
use Rattle.jfs_claim.proofs.Settles.{front_reserved, back_reserved}
use Rattle.jfs_file_blocks.specs.Reserving.{IsReservedFor, TakesBlocks, AnswersByFree}
use Rattle.jfs_file_blocks.specs.declared.reserve.FileWant.{FileWant}
use Rattle.jfs_file_blocks.specs.declared.reserve.FileBlocks.{FileBlocks}

used_free : (s : BlockState) → s ≡ Free → not (is_free_state s) ≡ false
used_free s h = ap (λ (x : BlockState). not (is_free_state x)) h

in_front : (run : Pxd) (runs : List Pxd) (b : ℕ) → is_in_run run.addr run.len b ≡ true → is_in_list (run ∷ runs) b ≡ true
unfolding is_in_list
in_front run runs b h = or_left (is_in_run run.addr run.len b) (is_in_list runs b) h

in_back : (run : Pxd) (runs : List Pxd) (b : ℕ) → is_in_list runs b ≡ true → is_in_list (run ∷ runs) b ≡ true
unfolding is_in_list
in_back run runs b h = or_right (is_in_run run.addr run.len b) (is_in_list runs b) h

-- runs that were free and are reserved are no longer free
one_fewer : (run : Pxd) (m : Blocks) → ((b : ℕ) → is_in_run run.addr run.len b ≡ true → state_of m b ≡ Free) → free_count (put_state Reserved (run ∷ []) m) + run.len ≡ free_count m
one_fewer run m free = by run.len refl
  where
    by : (n : ℕ) → run.len ≡ n → free_count (put_state Reserved (run ∷ []) m) + run.len ≡ free_count m
    by zero e = ap (λ (now : Blocks). free_count now + run.len) (put-nowhere Reserved (run ∷ []) m (λ b. in_list-one run b ∙ none b)) ∙ (let z : free_count m + run.len ≡ free_count m = omega (arith, e) in z)
      where
        none : (b : ℕ) → is_in_run run.addr run.len b ≡ false
        none b = ap (λ (k : ℕ). is_in_run run.addr k b) e ∙ empty run.addr b
          where
            empty : (a b : ℕ) → is_in_run a 0 b ≡ false
            empty a b = grind (arith, nat_tests)
    by (suc n) e = free-put run m (free_run-from (is_used m) run.addr run.len (λ b h. used_free (state_of m b) (free b h))) (omega (arith, e))

pub fewer : (list : List Pxd) (m : Blocks) → AreApart list → ((b : ℕ) → is_in_list list b ≡ true → state_of m b ≡ Free) → free_count (put_state Reserved list m) + total_of list ≡ free_count m
unfolding AreApart total_of
fewer [] m apart free = ap (λ (now : Blocks). free_count now + 0) (put-none Reserved m) ∙ (let z : free_count m + 0 ≡ free_count m = omega arith in z)
fewer (run ∷ rest) m apart free =
    let m1 = put_state Reserved (run ∷ []) m in
    let one = one_fewer run m (λ b h. free b (in_front run rest b h)) in
    let others = fewer rest m1 apart.1 (λ b h. put-other Reserved (run ∷ []) m b (in_list-one run b ∙ false_from_ne_true (is_in_run run.addr run.len b) (λ t. both_ways (is_in_list rest b) (apart.0 b t) h)) ∙ free b (in_back run rest b h)) in
    let both = ap free_count (put-append Reserved (run ∷ []) rest m) in
    omega (arith, one, others, both)

-- ---- together

abbrev EndsIn : ℕ → Pxd → Type 0
EndsIn size run = run.addr + run.len ≤ size

no_run_is_none : (m : Blocks) (run : Option Pxd) → IsRun m false run → run ≡ None
no_run_is_none m None h = refl
no_run_is_none m (Some run) h = absurd (cc (h.0))

module _ (before : Blocks) (want : FileWant) (files : List Pxd) (chosen : IsReservation (is_used before) want.hint want.blocks files) (once : AreApart files)
    (free : (b : ℕ) → is_in_list files b ≡ true → state_of before b ≡ Free) (within : All (EndsIn (length before.states)) files) where
  abbrev mid : Blocks
  mid = put_state Reserved files before

  pub files_reserve : Reserves before mid files
  files_reserve = record { free = free; once = once; within = within; now_is = refl }

  pub still_free : free_count mid + want.blocks ≡ free_count before
  still_free = let f = fewer files before once free in let t = reservation-total (is_used before) want.hint want.blocks files chosen in omega (arith, f, t)

  pub files_back : put_state Free files mid ≡ before
  files_back = put-back files before free

  pub files_held : AreReserved mid files
  files_held = reserved-put files before once free

  module _ (now : Blocks) (blocks : FileBlocks) (is : blocks.runs ≡ files) (claims : Claims mid now (record { run = false; blocks = want.pages }) blocks.claim) where
    none : blocks.claim.run ≡ None
    none = no_run_is_none mid blocks.claim.run claims.run

    as_listed : claimed blocks.claim ≡ blocks.claim.blocks
    as_listed = ap (λ (run : Option Pxd). run_list run ++ blocks.claim.blocks) none

    all_reserves : Reserves before now (files ++ blocks.claim.blocks)
    all_reserves = one_then_other before now files blocks.claim.blocks files_reserve (subst (λ (xs : List Pxd). Reserves mid now xs) as_listed claims.reserves)

    pub takes : TakesBlocks before now want blocks
    takes = record {
      chosen = subst (λ (xs : List Pxd). IsReservation (is_used before) want.hint want.blocks xs) (sym is) chosen;
      pages = subst (λ (xs : List Pxd). AreLowestBlocks (is_used (put_state Reserved xs before)) blocks.claim.blocks) (sym is)
          (subst (λ (m : Blocks). AreLowestBlocks (is_used m) blocks.claim.blocks) (ap (λ (run : Option Pxd). put_state Reserved (run_list run) mid) none ∙ put-none Reserved mid) claims.each.lowest);
      number = claims.each.number;
      all_left = claims.all_left;
      reserved = record { none = none; all = subst (λ (xs : List Pxd). Reserves before now (xs ++ blocks.claim.blocks)) (sym is) all_reserves };
    }

    pub fresh : total_of (files ++ blocks.claim.blocks) ≡ want.blocks + want.pages → AreFresh before (want.blocks + want.pages) (blocks_of (blocks.runs ++ blocks.claim.fresh))
    fresh number = subst (λ (xs : List Pxd). AreFresh before (want.blocks + want.pages) (blocks_of xs)) (sym lists) (record {
      number = all_laws.number (files ++ blocks.claim.blocks) ∙ number;
      within = all_laws.within (files ++ blocks.claim.blocks) (length before.states) all_reserves.within;
      once = λ b. once_or_not (is_in_list (files ++ blocks.claim.blocks) b) (count_in b (blocks_of (files ++ blocks.claim.blocks))) (all_laws.counts (files ++ blocks.claim.blocks) all_reserves.once b);
      unowned = λ b some. ap is_owned_state (all_reserves.free b (counted (is_in_list (files ++ blocks.claim.blocks) b) (count_in b (blocks_of (files ++ blocks.claim.blocks))) (all_laws.counts (files ++ blocks.claim.blocks) all_reserves.once b) some));
    })
      where
        lists : blocks.runs ++ blocks.claim.fresh ≡ files ++ blocks.claim.blocks
        lists = ap (λ (xs : List Pxd). xs ++ blocks.claim.fresh) is ∙ ap (λ (xs : List Pxd). files ++ xs) claims.all_left

        once_or_not : (x : Bool) (n : ℕ) → n ≡ (if x then 1 else 0) → n ≤ 1
        once_or_not true n e = omega (arith, e)
        once_or_not false n e = omega (arith, e)

        counted : (x : Bool) (n : ℕ) → n ≡ (if x then 1 else 0) → 0 < n → x ≡ true
        counted true n e l = refl
        counted false n e l = absurd (omega (arith, e, l))

total_append : (xs ys : List Pxd) → total_of (xs ++ ys) ≡ total_of xs + total_of ys
unfolding total_of
total_append [] ys = omega arith
total_append (x ∷ xs) ys = let h = total_append xs ys in omega (arith, h)

pub totals : (taken : ℕ → Bool) (want : FileWant) (files pages : List Pxd) → IsReservation taken want.hint want.blocks files → total_of pages ≡ want.pages → total_of (files ++ pages) ≡ want.blocks + want.pages
totals taken want files pages chosen number = let a = total_append files pages in let t = reservation-total taken want.hint want.blocks files chosen in omega (arith, a, t, number)

-- the answer of a claim of single blocks, for both together
pub answered : (before mid : Blocks) (want : FileWant) (blocks : FileBlocks) (claim : Claim) → free_count mid + want.blocks ≡ free_count before → AnswersClaim mid (record { run = false; blocks = want.pages }) (Ok claim) → AnswersByFree before want (Ok blocks)
answered before mid want blocks claim sum h = omega (arith, sum, h.0)

refused_at : (before mid : Blocks) (want : FileWant) (why : ClaimError) → free_count mid + want.blocks ≡ free_count before → AnswersClaim mid (record { run = false; blocks = want.pages }) (Err why) → AnswersByFree before want (Err why)
refused_at before mid want NeedsLog sum (inl h) = omega (arith, sum, h)
refused_at before mid want NeedsLog sum (inr h) = absurd (cc (h.0))
refused_at before mid want Memory sum h = omega (arith, sum)

pub refused : (before mid now : Blocks) (want : FileWant) (why : ClaimError) → now ≡ mid → free_count mid + want.blocks ≡ free_count before → AnswersClaim now (record { run = false; blocks = want.pages }) (Err why) → AnswersByFree before want (Err why)
refused before mid now want why e sum h = refused_at before mid want why sum (subst (λ (m : Blocks). AnswersClaim m (record { run = false; blocks = want.pages }) (Err why)) e h)

-- ---- given back

between : (xs ys : List Pxd) → AreApart (xs ++ ys) → (b : ℕ) → is_in_list xs b ≡ true → is_in_list ys b ≡ false
unfolding AreApart is_in_list
between [] ys h b here = absurd (true≢false (sym here))
between (run ∷ runs) ys h b here = by (is_in_run run.addr run.len b) refl here (between runs ys h.1 b)
  where
    by : (x : Bool) → is_in_run run.addr run.len b ≡ x → (x || is_in_list runs b) ≡ true → (is_in_list runs b ≡ true → is_in_list ys b ≡ false) → is_in_list ys b ≡ false
    by true e t f = (or_parts (is_in_list runs b) (is_in_list ys b) (sym (in_list-append runs ys b) ∙ h.0 b e)).1
    by false e t f = f t

module _ (before now : Blocks) (blocks : FileBlocks) (is : IsReservedFor before now blocks) where
  abbrev pub held : Blocks
  held = put_state Reserved blocks.runs before

  front : Reserves before now (blocks.runs ++ blocks.claim.blocks)
  front = is.all

  front_free : (b : ℕ) → is_in_list blocks.runs b ≡ true → state_of before b ≡ Free
  front_free b h = is.all.free b (in_list-append blocks.runs blocks.claim.blocks b ∙ or_left (is_in_list blocks.runs b) (is_in_list blocks.claim.blocks b) h)

  back_free : (b : ℕ) → is_in_list blocks.claim.blocks b ≡ true → state_of held b ≡ Free
  back_free b h = put-other Reserved blocks.runs before b (not_front b h) ∙ is.all.free b (in_list-append blocks.runs blocks.claim.blocks b ∙ or_right (is_in_list blocks.runs b) (is_in_list blocks.claim.blocks b) h)
    where
      not_front : (b : ℕ) → is_in_list blocks.claim.blocks b ≡ true → is_in_list blocks.runs b ≡ false
      not_front b h = false_from_ne_true (is_in_list blocks.runs b) (λ t. both_ways (is_in_list blocks.claim.blocks b) (between blocks.runs blocks.claim.blocks is.all.once b t) h)

  now_is : now ≡ put_state Reserved blocks.claim.blocks held
  now_is = is.all.now_is ∙ sym (put-append Reserved blocks.runs blocks.claim.blocks before)

  -- the claim alone, on top of the file's blocks
  pub claim_reserves : Reserves held now (claimed blocks.claim)
  claim_reserves = subst (λ (xs : List Pxd). Reserves held now xs) (sym (ap (λ (run : Option Pxd). run_list run ++ blocks.claim.blocks) is.none)) (record {
    free = back_free;
    once = (back_reserved before now blocks.runs blocks.claim.blocks is.all).once;
    within = subst (λ (k : ℕ). All (EndsIn k) blocks.claim.blocks) (sym (put-length Reserved blocks.runs before)) (back_within blocks.runs blocks.claim.blocks is.all.within);
    now_is = now_is;
  })
    where
      back_within : (xs ys : List Pxd) → All (EndsIn (length before.states)) (xs ++ ys) → All (EndsIn (length before.states)) ys
      back_within [] ys h = h
      back_within (x ∷ xs) ys h = back_within xs ys (All-tail (EndsIn (length before.states)) x (xs ++ ys) h)

  pub held_reserved : AreReserved held blocks.runs
  held_reserved = reserved-put blocks.runs before (front_reserved before now blocks.runs blocks.claim.blocks is.all).once front_free

  pub held_back : put_state Free blocks.runs held ≡ before
  held_back = put-back blocks.runs before front_free

-- what the claim's settling leaves, beside the file's blocks
pub settled_as : (files : List Pxd) (taken : List ℕ) (run : Option Pxd) (before : Blocks) → run ≡ None → reserving (run_list run) taken (put_state Reserved files before) ≡ reserving files taken before
settled_as files taken run before none = ap (λ (r : Option Pxd). reserving (run_list r) taken (put_state Reserved files before)) none
    ∙ same_blocks (reserving [] taken held) (reserving files taken before) (sizes ∙ sym (changed-length all before)) (λ b h.
    let within : b < length before.states = omega (arith, sizes, h) in
    changed-at some held b (omega (arith, size, within))
    ∙ ap (λ (x : Bool). if x || nat_lt 0 (count_in b taken) then Reserved else state_of held b) (in_list-none b)
    ∙ ap (λ (s : BlockState). if nat_lt 0 (count_in b taken) then Reserved else s) (put-at Reserved files before b within)
    ∙ by (is_in_list files b) (nat_lt 0 (count_in b taken)) (state_of before b)
    ∙ sym (changed-at all before b within))
    refl refl
  where
    held : Blocks
    held = put_state Reserved files before

    some : ℕ → BlockState → BlockState
    some b s = if is_in_list [] b || nat_lt 0 (count_in b taken) then Reserved else s

    all : ℕ → BlockState → BlockState
    all b s = if is_in_list files b || nat_lt 0 (count_in b taken) then Reserved else s

    size : length (put_state Reserved files before).states ≡ length before.states
    size = put-length Reserved files before

    sizes : length (reserving [] taken (put_state Reserved files before)).states ≡ length before.states
    sizes = changed-length some (put_state Reserved files before) ∙ size

    by : (x t : Bool) (s : BlockState) → (if t then Reserved else (if x then Reserved else s)) ≡ (if x || t then Reserved else s)
    by true true s = refl
    by true false s = refl
    by false true s = refl
    by false false s = refl
