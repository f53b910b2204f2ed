-- The blocks in use after an entry.
use Rattle.std.proofs.Common.{◌≡◌, ◌<◌, ◌≤◌, ◌⊎◌, inl, inr, refl, sym, ap, ◌∙◌, ℕ, ◌+◌, ◌-◌, Bool, true, false, true≢false, not, ◌&&◌, ◌||◌, nat_le, nat_lt, if◌then◌else◌, List, [], ◌∷◌, length, Some, None, arith, zero-add}
use Rattle.std.proofs.lemmas.Bool.{cases_Bool, cases_lt, lt-ltb, le-ltb, ltb-true, leb-true}
use Rattle.std.proofs.lemmas.List.{get_or_past}
use Rattle.jfs_bits.specs.Bits.{is_in_run}
use Rattle.jfs_bits.specs.declared.descriptor.Pxd.{Pxd}
use Rattle.jfs_room.specs.bmap.specs.States.{Blocks, BlockState, Free, Owned, Reserved, Busy, is_owned_state, state_of, is_owned, is_in_list, put_state, released_state}
use Rattle.jfs_room.specs.bmap.proofs.States.{changed-at, changed-length}
use Rattle.jfs_ranges.specs.declared.edit.Edit.{Edit}
use Rattle.jfs_ranges.specs.declared.edit.Edit.TheVariants.{Lines, NoRedo, Alloc, Free as FreeRun}
use Rattle.jfs_marks.specs.records.specs.Marks.{has_block, is_new_extent}
use Rattle.jfs_halves.specs.Marks.{is_taking, is_freeing, takes as takes_block, frees as frees_block, entered_state, map_after}
use Rattle.jfs_halves.specs.Change.{SameStates}
use Rattle.jfs_marks.specs.objects.specs.Owners.{run_has}
use Rattle.jfs_room.specs.Laws.{NoneReserved}
use Rattle.jfs_marks.specs.steps.specs.After.{is_extent, four_from, with_run, without_run, takes, frees, used_after}
use Rattle.jfs_entered.proofs.Extents.{AreShort, are_short}
use Rattle.jfs_entered.specs.Laws.{used_in, IsReserved, FreesBehind, BlocksLaw}

-- ---- the two counts

in_run : (run : Pxd) (b : ℕ) → has_block run b ≡ is_in_run run.addr run.len b
in_run run b = by (cases_Bool (nat_le run.addr b))
  where
    by : (nat_le run.addr b ≡ true) ⊎ (nat_le run.addr b ≡ false) → (nat_le run.addr b && nat_lt (b - run.addr) run.len) ≡ (nat_le run.addr b && nat_lt b (run.addr + run.len))
    by (inr e) = rw e refl
    by (inl e) = rw e (side (cases_lt (b - run.addr) run.len))
      where
        low : run.addr ≤ b
        low = leb-true run.addr b e

        side : (b - run.addr < run.len) ⊎ (run.len ≤ b - run.addr) → nat_lt (b - run.addr) run.len ≡ nat_lt b (run.addr + run.len)
        side (inl h) = lt-ltb (b - run.addr) run.len h ∙ sym (lt-ltb b (run.addr + run.len) (omega (arith, h, low)))
        side (inr h) = le-ltb (b - run.addr) run.len h ∙ sym (le-ltb b (run.addr + run.len) (omega (arith, h, low)))

some_of : (x : Bool) (n : ℕ) → nat_lt 0 ((if x then 1 else 0) + n) ≡ (x || nat_lt 0 n)
some_of true n = lt-ltb 0 (1 + n) (omega arith)
some_of false n = ap (λ (k : ℕ). nat_lt 0 k) (zero-add n)

taking : (h : Bool) → is_taking (if h then Some true else None) ≡ h
taking true = refl
taking false = refl

not_freeing : (h : Bool) → is_freeing (if h then Some true else None) ≡ false
not_freeing true = refl
not_freeing false = refl

freeing : (h : Bool) → is_freeing (if h then Some false else None) ≡ h
freeing true = refl
freeing false = refl

not_taking : (h : Bool) → is_taking (if h then Some false else None) ≡ false
not_taking true = refl
not_taking false = refl

pub takes_is : (blocks : ℕ) (tx : List Edit) (b : ℕ) → AreShort blocks tx → takes_block b tx ≡ nat_lt 0 (takes tx b)
takes_is blocks [] b s = refl
takes_is blocks (Lines page kind first bytes ∷ tx) b s =
    ap (λ (x : Bool). is_taking (if x && has_block (four_from page) b then Some true else None) || takes_block b tx) s.0.0
    ∙ by (is_extent kind first bytes) (takes_is blocks tx b s.1)
  where
    by : (x : Bool) → takes_block b tx ≡ nat_lt 0 (takes tx b)
        → (is_taking (if x && has_block (four_from page) b then Some true else None) || takes_block b tx) ≡ nat_lt 0 ((if x then run_has (four_from page) b else 0) + takes tx b)
    by false rest = rest ∙ sym (ap (λ (k : ℕ). nat_lt 0 k) (zero-add (takes tx b)))
    by true rest = ap (λ (y : Bool). y || takes_block b tx) (taking (has_block (four_from page) b) ∙ in_run (four_from page) b) ∙ ap (λ (y : Bool). is_in_run page 4 b || y) rest ∙ sym (some_of (is_in_run page 4 b) (takes tx b))
takes_is blocks (NoRedo page ∷ tx) b s = takes_is blocks tx b s
takes_is blocks (Alloc run ∷ tx) b s = ap (λ (y : Bool). y || takes_block b tx) (taking (has_block run b) ∙ in_run run b) ∙ ap (λ (y : Bool). is_in_run run.addr run.len b || y) (takes_is blocks tx b s) ∙ sym (some_of (is_in_run run.addr run.len b) (takes tx b))
takes_is blocks (FreeRun run ∷ tx) b s = ap (λ (y : Bool). y || takes_block b tx) (not_taking (has_block run b)) ∙ takes_is blocks tx b s

frees_is : (tx : List Edit) (b : ℕ) → frees_block b tx ≡ nat_lt 0 (frees tx b)
frees_is [] b = refl
frees_is (Lines page kind first bytes ∷ tx) b = ap (λ (y : Bool). y || frees_block b tx) (not_freeing (is_new_extent kind bytes && has_block (four_from page) b)) ∙ frees_is tx b
frees_is (NoRedo page ∷ tx) b = frees_is tx b
frees_is (Alloc run ∷ tx) b = ap (λ (y : Bool). y || frees_block b tx) (not_freeing (has_block run b)) ∙ frees_is tx b
frees_is (FreeRun run ∷ tx) b = ap (λ (y : Bool). y || frees_block b tx) (freeing (has_block run b) ∙ in_run run b) ∙ ap (λ (y : Bool). is_in_run run.addr run.len b || y) (frees_is tx b) ∙ sym (some_of (is_in_run run.addr run.len b) (frees tx b))

-- ---- what is in use after edits

both : (x : Bool) (n : ℕ) → (if x then 1 else 0) + n ≡ 0 → (x ≡ false) × (n ≡ 0)
both true n h = absurd (omega (arith, h))
both false n h = (refl, omega (arith, h))

-- not told of: as before
stays : (tx : List Edit) (used : ℕ → Bool) (b : ℕ) → takes tx b ≡ 0 → frees tx b ≡ 0 → used_after tx used b ≡ used b
stays [] used b t f = refl
stays (Lines page kind first bytes ∷ tx) used b t f = by (is_extent kind first bytes) t (λ now t. stays tx now b t f)
  where
    by : (x : Bool) → (if x then run_has (four_from page) b else 0) + takes tx b ≡ 0 → ((now : ℕ → Bool) → takes tx b ≡ 0 → used_after tx now b ≡ now b) → used_after tx (if x then with_run (four_from page) used else used) b ≡ used b
    by false t rest = rest used (omega (arith, t))
    by true t rest = let p = both (is_in_run page 4 b) (takes tx b) t in rest (with_run (four_from page) used) p.1 ∙ ap (λ (x : Bool). x || used b) p.0
stays (NoRedo page ∷ tx) used b t f = stays tx used b t f
stays (Alloc run ∷ tx) used b t f = let p = both (is_in_run run.addr run.len b) (takes tx b) t in stays tx (with_run run used) b p.1 f ∙ ap (λ (x : Bool). x || used b) p.0
stays (FreeRun run ∷ tx) used b t f = let p = both (is_in_run run.addr run.len b) (frees tx b) f in stays tx (without_run run used) b t p.1 ∙ ap (λ (x : Bool). not x && used b) p.0

or_true : (x : Bool) → (x || true) ≡ true
or_true true = refl
or_true false = refl

-- taken, and not freed
comes : (tx : List Edit) (used : ℕ → Bool) (b : ℕ) → frees tx b ≡ 0 → (used b ≡ true) ⊎ (0 < takes tx b) → used_after tx used b ≡ true
comes [] used b f (inl h) = h
comes [] used b f (inr h) = absurd (omega (arith, h))
comes (Lines page kind first bytes ∷ tx) used b f h = by (is_extent kind first bytes) h (λ now h. comes tx now b f h)
  where
    less : (used b ≡ true) ⊎ (0 < 0 + takes tx b) → (used b ≡ true) ⊎ (0 < takes tx b)
    less (inl h) = inl h
    less (inr h) = inr (omega (arith, h))

    one : (x : Bool) → (used b ≡ true) ⊎ (0 < (if x then 1 else 0) + takes tx b) → ((x || used b) ≡ true) ⊎ (0 < takes tx b)
    one true h = inl refl
    one false h = less h

    by : (x : Bool) → (used b ≡ true) ⊎ (0 < (if x then run_has (four_from page) b else 0) + takes tx b) → ((now : ℕ → Bool) → (now b ≡ true) ⊎ (0 < takes tx b) → used_after tx now b ≡ true)
        → used_after tx (if x then with_run (four_from page) used else used) b ≡ true
    by false h rest = rest used (less h)
    by true h rest = rest (with_run (four_from page) used) (one (is_in_run page 4 b) h)
comes (NoRedo page ∷ tx) used b f h = comes tx used b f h
comes (Alloc run ∷ tx) used b f h = comes tx (with_run run used) b f (one (is_in_run run.addr run.len b) h)
  where
    one : (x : Bool) → (used b ≡ true) ⊎ (0 < (if x then 1 else 0) + takes tx b) → ((x || used b) ≡ true) ⊎ (0 < takes tx b)
    one true h = inl refl
    one false (inl h) = inl h
    one false (inr h) = inr (omega (arith, h))
comes (FreeRun run ∷ tx) used b f h = let p = both (is_in_run run.addr run.len b) (frees tx b) f in comes tx (without_run run used) b p.1 (one h (ap (λ (x : Bool). not x && used b) p.0))
  where
    one : (used b ≡ true) ⊎ (0 < takes tx b) → without_run run used b ≡ used b → (without_run run used b ≡ true) ⊎ (0 < takes tx b)
    one (inl h) e = inl (e ∙ h)
    one (inr h) e = inr h

-- freed, and not taken
pub goes : (tx : List Edit) (used : ℕ → Bool) (b : ℕ) → takes tx b ≡ 0 → (used b ≡ false) ⊎ (0 < frees tx b) → used_after tx used b ≡ false
goes [] used b t (inl h) = h
goes [] used b t (inr h) = absurd (omega (arith, h))
goes (Lines page kind first bytes ∷ tx) used b t h = by (is_extent kind first bytes) t (λ now t h. goes tx now b t h)
  where
    one : (used b ≡ false) ⊎ (0 < frees tx b) → with_run (four_from page) used b ≡ used b → (with_run (four_from page) used b ≡ false) ⊎ (0 < frees tx b)
    one (inl h) e = inl (e ∙ h)
    one (inr h) e = inr h

    by : (x : Bool) → (if x then run_has (four_from page) b else 0) + takes tx b ≡ 0 → ((now : ℕ → Bool) → takes tx b ≡ 0 → (now b ≡ false) ⊎ (0 < frees tx b) → used_after tx now b ≡ false)
        → used_after tx (if x then with_run (four_from page) used else used) b ≡ false
    by false t rest = rest used (omega (arith, t)) h
    by true t rest = let p = both (is_in_run page 4 b) (takes tx b) t in rest (with_run (four_from page) used) p.1 (one h (ap (λ (x : Bool). x || used b) p.0))
goes (NoRedo page ∷ tx) used b t h = goes tx used b t h
goes (Alloc run ∷ tx) used b t h = let p = both (is_in_run run.addr run.len b) (takes tx b) t in goes tx (with_run run used) b p.1 (one h (ap (λ (x : Bool). x || used b) p.0))
  where
    one : (used b ≡ false) ⊎ (0 < frees tx b) → with_run run used b ≡ used b → (with_run run used b ≡ false) ⊎ (0 < frees tx b)
    one (inl h) e = inl (e ∙ h)
    one (inr h) e = inr h
goes (FreeRun run ∷ tx) used b t h = goes tx (without_run run used) b t (one (is_in_run run.addr run.len b) h)
  where
    one : (x : Bool) → (used b ≡ false) ⊎ (0 < (if x then 1 else 0) + frees tx b) → ((not x && used b) ≡ false) ⊎ (0 < frees tx b)
    one true h = inl refl
    one false (inl h) = inl h
    one false (inr h) = inr (omega (arith, h))

-- ---- the map

module _ (blocks n : ℕ) (tx : List Edit) (list : List Pxd) (old mid new : Blocks) (short : AreShort blocks tx) (reserved : IsReserved old mid tx) (behind : FreesBehind tx)
    (list_is : (b : ℕ) → takes_block b tx ≡ is_in_list list b) (entered : SameStates new (map_after n tx (put_state Free list mid))) where
  abbrev taken : ℕ → Bool
  taken b = nat_lt 0 (takes tx b)

  abbrev freed : ℕ → Bool
  freed b = nat_lt 0 (frees tx b)

  abbrev reserve : ℕ → BlockState → BlockState
  reserve b s = if nat_lt 0 (takes tx b) then Reserved else s

  abbrev unreserve : ℕ → BlockState → BlockState
  unreserve b s = if is_in_list list b then Free else s

  mid_size : length mid.states ≡ length old.states
  mid_size = ap (λ (s : List BlockState). length s) reserved.states ∙ changed-length reserve old

  pub size : length new.states ≡ length old.states
  size = ap (λ (s : List BlockState). length s) entered.states ∙ changed-length (λ (c : ℕ) (s : BlockState). entered_state n tx c s) (put_state Free list mid) ∙ changed-length unreserve mid ∙ mid_size

  -- each block, by what the transaction says of it
  abbrev after_state : Bool → Bool → BlockState → BlockState
  after_state t f s = if f then released_state n (if t then Owned else s) else (if t then Owned else s)

  state_is : (b : ℕ) → b < length old.states → state_of new b ≡ after_state (taken b) (freed b) (state_of old b)
  state_is b l =
      let l2 : b < length (put_state Free list mid).states = (let a = changed-length unreserve mid in let c = mid_size in omega (arith, l, a, c)) in
      let l1 : b < length mid.states = (let c = mid_size in omega (arith, l, c)) in
      ap (λ (s : List BlockState). get_state s) entered.states ∙ changed-at (λ (c : ℕ) (s : BlockState). entered_state n tx c s) (put_state Free list mid) b l2
      ∙ ap (entered_state n tx b) (changed-at unreserve mid b l1 ∙ ap (unreserve b) (ap (λ (s : List BlockState). get_state s) reserved.states ∙ changed-at reserve old b l))
      ∙ ap (λ (x : Bool). if frees_block b tx then released_state n (if x then Owned else (if is_in_list list b then Free else (if taken b then Reserved else state_of old b))) else (if x then Owned else (if is_in_list list b then Free else (if taken b then Reserved else state_of old b)))) (takes_is blocks tx b short)
      ∙ ap (λ (x : Bool). if frees_block b tx then released_state n (if taken b then Owned else (if x then Free else (if taken b then Reserved else state_of old b))) else (if taken b then Owned else (if x then Free else (if taken b then Reserved else state_of old b)))) (sym (list_is b) ∙ takes_is blocks tx b short)
      ∙ ap (λ (x : Bool). if x then released_state n (if taken b then Owned else (if taken b then Free else (if taken b then Reserved else state_of old b))) else (if taken b then Owned else (if taken b then Free else (if taken b then Reserved else state_of old b)))) (frees_is tx b)
      ∙ tidy (taken b) (freed b) (state_of old b)
    where
      get_state : List BlockState → BlockState
      get_state s = state_of (record old { states = s }) b

      tidy : (t f : Bool) (s : BlockState) → (if f then released_state n (if t then Owned else (if t then Free else (if t then Reserved else s))) else (if t then Owned else (if t then Free else (if t then Reserved else s)))) ≡ after_state t f s
      tidy true true s = refl
      tidy true false s = refl
      tidy false true s = refl
      tidy false false s = refl

  zero_of : (k : ℕ) → nat_lt 0 k ≡ false → k ≡ 0
  zero_of k e = by (cases_lt 0 k)
    where
      by : (0 < k) ⊎ (k ≤ 0) → k ≡ 0
      by (inl l) = absurd (true≢false (sym (lt-ltb 0 k l) ∙ e))
      by (inr l) = omega (arith, l)

  -- a block that is taken is there
  there : (b : ℕ) → 0 < takes tx b → b < length old.states
  there b t = by (cases_lt b (length old.states))
    where
      by : (b < length old.states) ⊎ (length old.states ≤ b) → b < length old.states
      by (inl l) = l
      by (inr l) = let clash : Owned ≡ Free = sym (get_or_past old.states b Owned l) ∙ reserved.free b t in absurd (cc (clash))

  released_not : (s : BlockState) → is_owned_state (released_state n s) ≡ false
  released_not Free = refl
  released_not Owned = refl
  released_not Reserved = refl
  released_not (Busy k) = refl

  used_here : (b : ℕ) → b < length old.states → is_owned new b ≡ used_after tx (used_in old) b
  used_here b l = ap is_owned_state (state_is b l) ∙ by (taken b) refl (freed b) refl
    where
      by : (t : Bool) → taken b ≡ t → (f : Bool) → freed b ≡ f → is_owned_state (after_state t f (state_of old b)) ≡ used_after tx (used_in old) b
      by true t true f = sym (behind b (ltb-true 0 (takes tx b) t) (ltb-true 0 (frees tx b) f) (used_in old))
      by true t false f = sym (comes tx (used_in old) b (zero_of (frees tx b) f) (inr (ltb-true 0 (takes tx b) t)))
      by false t true f = released_not (state_of old b) ∙ sym (goes tx (used_in old) b (zero_of (takes tx b) t) (inr (ltb-true 0 (frees tx b) f)))
      by false t false f = sym (stays tx (used_in old) b (zero_of (takes tx b) t) (zero_of (frees tx b) f) ∙ ap (λ (x : Bool). x && is_owned old b) (lt-ltb b (length old.states) l))

  pub used : (b : ℕ) → used_in new b ≡ used_after tx (used_in old) b
  used b = by (cases_lt b (length old.states))
    where
      by : (b < length old.states) ⊎ (length old.states ≤ b) → used_in new b ≡ used_after tx (used_in old) b
      by (inl l) = ap (λ (x : Bool). x && is_owned new b) (lt-ltb b (length new.states) (let s = size in omega (arith, l, s))) ∙ used_here b l
      by (inr l) = ap (λ (x : Bool). x && is_owned new b) (le-ltb b (length new.states) (let s = size in omega (arith, l, s)))
          ∙ sym (goes tx (used_in old) b (zero_of (takes tx b) (none (taken b) refl)) (inl (ap (λ (x : Bool). x && is_owned old b) (le-ltb b (length old.states) l))))
        where
          none : (x : Bool) → taken b ≡ x → x ≡ false
          none false e = refl
          none true e = absurd (let t = there b (ltb-true 0 (takes tx b) e) in omega (arith, t, l))

  pub rest : NoneReserved old → NoneReserved new
  rest none b e = by (cases_lt b (length old.states))
    where
      released_free : (s : BlockState) → released_state n s ≡ Reserved → s ≡ Reserved
      released_free Free h = absurd (cc (h))
      released_free Owned h = absurd (cc (h))
      released_free Reserved h = refl
      released_free (Busy k) h = absurd (cc (h))

      at : (t f : Bool) (s : BlockState) → after_state t f s ≡ Reserved → s ≡ Reserved
      at true true s h = absurd (cc (h))
      at true false s h = absurd (cc (h))
      at false true s h = released_free s h
      at false false s h = h

      by : (b < length old.states) ⊎ (length old.states ≤ b) → ⊥
      by (inl l) = none b (at (taken b) (freed b) (state_of old b) (sym (state_is b l) ∙ e))
      by (inr l) = let clash : Owned ≡ Reserved = sym (get_or_past new.states b Owned (let s = size in omega (arith, l, s))) ∙ e in cc (clash)

pub blocks_law : BlocksLaw
blocks_law blocks n tx notes list old mid new h =
    let short = are_short blocks tx notes h.loggable.each h.loggable.all in record {
      used = used blocks n tx list old mid new short h.reserved h.behind h.list_is h.entered;
      size = size blocks n tx list old mid new short h.reserved h.behind h.list_is h.entered;
      rest = rest blocks n tx list old mid new short h.reserved h.behind h.list_is h.entered;
    }
