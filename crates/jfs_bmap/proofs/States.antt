-- The states of blocks, by the sets that a map keeps, and how a run changes them.
use Rattle.std.proofs.Common.{◌≡◌, ◌<◌, ◌≤◌, ◌+◌, ◌-◌, ℕ, Bool, true, false, not, ◌&&◌, ◌||◌, inl, inr, List, [], ◌∷◌, length, refl, sym, ap, ◌∙◌, arith}
use Rattle.std.specs.Prelude.{if◌then◌else◌, nat_le, nat_lt}
use Rattle.std.specs.declared.cmp.Reverse.{Reverse}
use Rattle.std.proofs.lemmas.Bool.{cases_lt, or_cases, or_parts, or_right, both_ways, and_parts, leb-true, ltb-true, false_from_ne_true}
use Rattle.std.proofs.lemmas.List.{ext_get_or, get_or_past}
use Rattle.jfs_bits.specs.Bits.{is_in_run, is_free, is_full}
use Rattle.jfs_bits.specs.declared.descriptor.Pxd.{Pxd}
use Rattle.jfs_bits.proofs.Runs.{is_free-at, is_free-from, all_below-from}
use Rattle.jfs_bits.proofs.Counts.{in_run, count_below-same, count_below-nothing}
use Rattle.jfs_bmap.specs.declared.freed.Freed.{Freed}
use Rattle.jfs_bmap.specs.Set.{each_below, taken_at, marked, cleared, free_in}
use Rattle.jfs_bmap.specs.States.{BlockState, Free, Owned, Reserved, Busy, is_free_state, is_owned_state, is_reserved_state, is_reserved, is_busy_state, Blocks, state_of, is_used, is_owned, free_count, busy_count, unowned_count, is_in_list, changed, put_state, all_settled}
use Rattle.jfs_bmap.specs.Freed.{entry_at}
use Rattle.jfs_bmap.specs.Kept.{Parts, state_in, ArePending, AreKept}
use Rattle.jfs_bmap.proofs.Balances.{count_balance}
use Rattle.jfs_bmap.proofs.Views.{length-each_below, each_below-at, taken_at-past, length-marked, taken_at-marked, length-cleared, taken_at-cleared}

-- ---- one block

-- a block's state by the sets that it is in, and by the entry that it waits for
abbrev pub state_by : Bool → Bool → Bool → ℕ → BlockState
state_by owned held used entry = if owned then Owned else (if held then Reserved else (if used then Busy entry else Free))

pub state_in-by : (p : Parts) (b : ℕ) → state_in p b ≡ state_by (taken_at p.owned b) (taken_at p.held b) (taken_at p.used b) (entry_at p.entries b)
unfolding state_in
state_in-by p b = refl

free-by : (o h u : Bool) (e : ℕ) → (o ≡ true → h ≡ true) → (h ≡ true → u ≡ true) → is_free_state (state_by o h u e) ≡ not u
free-by true true true e x y = refl
free-by true true false e x y = cc (y refl)
free-by true false u e x y = cc (x refl)
free-by false true true e x y = refl
free-by false true false e x y = cc (y refl)
free-by false false true e x y = refl
free-by false false false e x y = refl

owned-by : (o h u : Bool) (e : ℕ) → is_owned_state (state_by o h u e) ≡ o
owned-by true h u e = refl
owned-by false true u e = refl
owned-by false false true e = refl
owned-by false false false e = refl

-- a block is reserved that is held and has no owner
reserved_state-by : (o h u : Bool) (e : ℕ) → is_reserved_state (state_by o h u e) ≡ (h && not o)
reserved_state-by true true u e = refl
reserved_state-by true false u e = refl
reserved_state-by false true u e = refl
reserved_state-by false false true e = refl
reserved_state-by false false false e = refl

-- once a busy block is settled, a block is free unless it is held
settled-by : (o h u : Bool) (e : ℕ) → (o ≡ true → h ≡ true) → not (is_free_state (if is_busy_state (state_by o h u e) then Free else state_by o h u e)) ≡ h
settled-by true true u e x = refl
settled-by true false u e x = cc (x refl)
settled-by false true u e x = refl
settled-by false false true e x = refl
settled-by false false false e x = refl

-- a block that isn't held is busy or free
busy-by : (o h u : Bool) (e : ℕ) → (o ≡ true → h ≡ true) → (h ≡ true → u ≡ true) → (if is_busy_state (state_by o h u e) then 1 else 0) + (if not u then 1 else 0) ≡ (if not h then 1 else 0) + (if false then 1 else 0)
busy-by true true true e x y = refl
busy-by true true false e x y = absurd (cc (y refl))
busy-by true false u e x y = absurd (cc (x refl))
busy-by false true true e x y = refl
busy-by false true false e x y = absurd (cc (y refl))
busy-by false false true e x y = refl
busy-by false false false e x y = refl

reserved-by : (o h u : Bool) (e : ℕ) → state_by o h u e ≡ Reserved → (o ≡ false) × (h ≡ true)
reserved-by true h u e k = absurd (cc)
reserved-by false true u e k = (refl, refl)
reserved-by false false true e k = absurd (cc)
reserved-by false false false e k = absurd (cc)

-- ---- a map's value

-- two maps with the same parts
pub same_blocks : (m n : Blocks) → length m.states ≡ length n.states → ((b : ℕ) → b < length m.states → state_of m b ≡ state_of n b) → m.agsize ≡ n.agsize → m.spare ≡ n.spare → m ≡ n
same_blocks m n size same groups spare =
    let states : m.states ≡ n.states = ext_get_or Owned m.states n.states size same in
    λ i. record { states = states i; agsize = groups i; spare = spare i }

-- each state of a changed map
pub changed-at : (change : ℕ → BlockState → BlockState) (m : Blocks) (b : ℕ) → b < length m.states → state_of (changed change m) b ≡ change b (state_of m b)
changed-at change m b h = each_below-at (length m.states) (λ c. change c (state_of m c)) b Owned h

pub changed-length : (change : ℕ → BlockState → BlockState) (m : Blocks) → length (changed change m).states ≡ length m.states
changed-length change m = length-each_below (length m.states) (λ c. change c (state_of m c))

-- a change that leaves blocks past the end owned
pub changed-each : (change : ℕ → BlockState → BlockState) (m : Blocks) (b : ℕ) → change b Owned ≡ Owned → state_of (changed change m) b ≡ change b (state_of m b)
changed-each change m b past = elim (cases_lt b (length m.states)) [
  | inl h ↦ changed-at change m b h
  | inr h ↦ get_or_past (changed change m).states b Owned (omega (arith, changed-length change m)) ∙ sym (ap (change b) (get_or_past m.states b Owned h) ∙ past)
]

-- the value of a map with these parts
abbrev pub view_of : Parts → ℕ → ℕ → Blocks
view_of p agsize spare = record { states = each_below (length p.owned) (state_in p); agsize = agsize; spare = spare }

pub view-length : (p : Parts) (agsize spare : ℕ) → length (view_of p agsize spare).states ≡ length p.owned
view-length p agsize spare = length-each_below (length p.owned) (state_in p)

pub state-at : (p : Parts) (agsize spare b : ℕ) → state_of (view_of p agsize spare) b ≡ state_in p b
unfolding state_in
state-at p agsize spare b = elim (cases_lt b (length p.owned)) [
  | inl h ↦ each_below-at (length p.owned) (state_in p) b Owned h
  | inr h ↦ get_or_past (view_of p agsize spare).states b Owned (omega (arith, view-length p agsize spare)) ∙ sym (rw (taken_at-past p.owned b h) refl)
]

-- a map whose value is the one of these parts, changed block by block
pub view-changed : (change : ℕ → BlockState → BlockState) (p q : Parts) (agsize spare : ℕ) → length q.owned ≡ length p.owned → ((b : ℕ) → state_in q b ≡ change b (state_in p b)) → view_of q agsize spare ≡ changed change (view_of p agsize spare)
view-changed change p q agsize spare size same =
    let m = view_of p agsize spare in
    let here = view-length q agsize spare in
    let before = view-length p agsize spare in
    same_blocks (view_of q agsize spare) (changed change m)
    (here ∙ size ∙ sym (changed-length change m ∙ before))
    (λ b h. state-at q agsize spare b ∙ same b ∙ ap (change b) (sym (state-at p agsize spare b)) ∙ sym (changed-at change m b (omega (arith, here, size, before))))
    refl refl

-- ---- what the parts say about the value

module _ (p : Parts) (agsize spare : ℕ) (kept : AreKept p) where
  free-at : (b : ℕ) → is_free_state (state_of (view_of p agsize spare) b) ≡ not (taken_at p.used b)
  free-at b = ap is_free_state (state-at p agsize spare b ∙ state_in-by p b) ∙ free-by (taken_at p.owned b) (taken_at p.held b) (taken_at p.used b) (entry_at p.entries b) (kept.are_held b) (kept.are_used b)

  pub used-view : is_used (view_of p agsize spare) ≡ taken_at p.used
  used-view = λ i b. used b i
    where
      twice : (t : Bool) → not (not t) ≡ t
      twice true = refl
      twice false = refl

      used : (b : ℕ) → is_used (view_of p agsize spare) b ≡ taken_at p.used b
      used b = ap not (free-at b) ∙ twice (taken_at p.used b)

  owned-at : (b : ℕ) → is_owned (view_of p agsize spare) b ≡ taken_at p.owned b
  owned-at b = ap is_owned_state (state-at p agsize spare b ∙ state_in-by p b) ∙ owned-by (taken_at p.owned b) (taken_at p.held b) (taken_at p.used b) (entry_at p.entries b)

  pub reserved-view : (b : ℕ) → is_reserved (view_of p agsize spare) b ≡ (taken_at p.held b && not (taken_at p.owned b))
  reserved-view b = ap is_reserved_state (state-at p agsize spare b ∙ state_in-by p b) ∙ reserved_state-by (taken_at p.owned b) (taken_at p.held b) (taken_at p.used b) (entry_at p.entries b)

  pub owned-view : is_owned (view_of p agsize spare) ≡ taken_at p.owned
  owned-view = λ i b. owned-at b i

  settled-at : (b : ℕ) → is_used (all_settled (view_of p agsize spare)) b ≡ taken_at p.held b
  settled-at b =
      ap (λ (s : BlockState). not (is_free_state s)) (changed-each (λ c s. if is_busy_state s then Free else s) (view_of p agsize spare) b refl ∙ ap (λ (s : BlockState). if is_busy_state s then Free else s) (state-at p agsize spare b ∙ state_in-by p b))
      ∙ settled-by (taken_at p.owned b) (taken_at p.held b) (taken_at p.used b) (entry_at p.entries b) (kept.are_held b)

  -- what is in use once all busy blocks are settled
  pub settled-view : is_used (all_settled (view_of p agsize spare)) ≡ taken_at p.held
  settled-view = λ i b. settled-at b i

  pub free_count-view : free_count (view_of p agsize spare) ≡ free_in p.used
  free_count-view = rw (view-length p agsize spare, kept.used_blocks) (count_below-same (length p.owned) (λ b. is_free_state (state_of (view_of p agsize spare) b)) (λ b. not (taken_at p.used b)) (λ b h. free-at b))

  pub unowned_count-view : unowned_count (view_of p agsize spare) ≡ free_in p.owned
  unowned_count-view = rw (view-length p agsize spare) (count_below-same (length p.owned) (λ b. not (is_owned (view_of p agsize spare) b)) (λ b. not (taken_at p.owned b)) (λ b h. ap not (owned-at b)))

  -- the blocks that aren't held are busy or free
  pub busy_count-view : busy_count (view_of p agsize spare) + free_in p.used ≡ free_in p.held
  busy_count-view =
      let n = length p.owned in
      let busy = λ (b : ℕ). is_busy_state (state_of (view_of p agsize spare) b) in
      rw (view-length p agsize spare, kept.used_blocks, kept.held_blocks) (omega (
        arith,
        count_balance n busy (λ b. not (taken_at p.used b)) (λ b. not (taken_at p.held b)) (λ b. false) (λ b h.
            rw (state-at p agsize spare b, state_in-by p b) (busy-by (taken_at p.owned b) (taken_at p.held b) (taken_at p.used b) (entry_at p.entries b) (kept.are_held b) (kept.are_used b))),
        count_below-nothing n (λ b. false) (λ b h. refl),
      ))

-- ---- runs of blocks

pub in_run-at : (first n b : ℕ) → is_in_run first n b ≡ true → (first ≤ b) × (b < first + n)
in_run-at first n b h = let parts = and_parts (nat_le first b) (nat_lt b (first + n)) h in (leb-true first b parts.0, ltb-true b (first + n) parts.1)

pub empty_run : (first n b : ℕ) → n ≡ 0 → is_in_run first n b ≡ false
empty_run first n b none = false_from_ne_true (is_in_run first n b) (λ h. omega (arith, (in_run-at first n b h).0, (in_run-at first n b h).1))

-- each block of a free run, by its number
pub free_run-at : (taken : ℕ → Bool) (first n b : ℕ) → is_free taken first n ≡ true → is_in_run first n b ≡ true → taken b ≡ false
free_run-at taken first n b free h =
    let within = in_run-at first n b h in
    let here : first + (b - first) ≡ b = omega (arith, within.0) in
    rw here at (is_free-at taken first n free (b - first) (omega (arith, within.0, within.1)))

pub free_run-from : (taken : ℕ → Bool) (first n : ℕ) → ((b : ℕ) → is_in_run first n b ≡ true → taken b ≡ false) → is_free taken first n ≡ true
free_run-from taken first n h = is_free-from taken first n (λ i k. h (first + i) (in_run first n (first + i) (omega arith) (omega arith)))

pub full_run-from : (taken : ℕ → Bool) (first n : ℕ) → ((b : ℕ) → is_in_run first n b ≡ true → taken b ≡ true) → is_full taken first n ≡ true
unfolding is_full
full_run-from taken first n h = all_below-from n (λ i. taken (first + i)) (λ i k. h (first + i) (in_run first n (first + i) (omega arith) (omega arith)))

-- a list of one run
pub in_list-one : (run : Pxd) (b : ℕ) → is_in_list (run ∷ []) b ≡ is_in_run run.addr run.len b
unfolding is_in_list
in_list-one run b = right (is_in_run run.addr run.len b)
  where
    right : (t : Bool) → (t || false) ≡ t
    right true = refl
    right false = refl

-- ---- one run changes its state

-- the released runs of sets of as many blocks, in which no block more is busy
pending-same : {held used : List Bool} {entries : List (List ℕ)} {heap : List (Reverse Freed)} (held_now used_now : List Bool) → ArePending held used entries heap → length used_now ≡ length used → ((b : ℕ) → taken_at held_now b ≡ false → taken_at used_now b ≡ true → (taken_at held b ≡ false) × (taken_at used b ≡ true)) → ArePending held_now used_now entries heap
pending-same held_now used_now pending size busy = record {
  order = pending.order;
  within = rw size pending.within;
  covered = λ b h u. (let before = busy b h u in pending.covered b before.0 before.1);
}

-- a free block that is held and used from now on is reserved; the others stay
reserve-by : (r o h u : Bool) (e : ℕ) → (r ≡ true → u ≡ false) → (o ≡ true → h ≡ true) → (h ≡ true → u ≡ true) → state_by o (r || h) (r || u) e ≡ (if r then Reserved else state_by o h u e)
reserve-by false o h u e x y z = refl
reserve-by true false h u e x y z = refl
reserve-by true true h u e x y z = absurd (both_ways u (x refl) (z (y refl)))

-- a reserved block that isn't held and used any more is free; the others stay
free_again-by : (r o h u : Bool) (e : ℕ) → (r ≡ true → o ≡ false) → state_by o (not r && h) (not r && u) e ≡ (if r then Free else state_by o h u e)
free_again-by false o h u e x = refl
free_again-by true true h u e x = absurd (both_ways true (x refl) refl)
free_again-by true false h u e x = refl

-- a block that gets an owner is owned
own-by : (r o h u : Bool) (e : ℕ) → state_by (r || o) h u e ≡ (if r then Owned else state_by o h u e)
own-by true o h u e = refl
own-by false o h u e = refl

module _ (p : Parts) (agsize spare first n : ℕ) (kept : AreKept p) where
  -- the parts after a free run was reserved
  abbrev pub reserved : Parts
  reserved = record p { held = marked first n p.held; used = marked first n p.used }

  pub kept-reserved : AreKept reserved
  kept-reserved = record {
    most = kept.most;
    held_blocks = length-marked first n p.held ∙ kept.held_blocks;
    used_blocks = length-marked first n p.used ∙ kept.used_blocks;
    are_held = λ b o. taken_at-marked first n p.held b ∙ or_right (is_in_run first n b) (taken_at p.held b) (kept.are_held b o);
    are_used = λ b h. taken_at-marked first n p.used b ∙ more (is_in_run first n b) (taken_at p.held b) (taken_at p.used b) (kept.are_used b) (sym (taken_at-marked first n p.held b) ∙ h);
    pending = pending-same (marked first n p.held) (marked first n p.used) kept.pending (length-marked first n p.used) (λ b h u.
        let out = or_parts (is_in_run first n b) (taken_at p.held b) (sym (taken_at-marked first n p.held b) ∙ h) in
        (out.1, other (is_in_run first n b) (taken_at p.used b) out.0 (sym (taken_at-marked first n p.used b) ∙ u)));
  }
    where
      more : (r h u : Bool) → (h ≡ true → u ≡ true) → (r || h) ≡ true → (r || u) ≡ true
      more true h u k l = refl
      more false h u k l = k l

      other : (r u : Bool) → r ≡ false → (r || u) ≡ true → u ≡ true
      other true u k l = absurd (cc)
      other false u k l = l

  pub view-reserved : is_free (taken_at p.used) first n ≡ true → view_of reserved agsize spare ≡ put_state Reserved (record { len = n; addr = first } ∷ []) (view_of p agsize spare)
  view-reserved free =
      view-changed (λ b s. if is_in_list (record { len = n; addr = first } ∷ []) b then Reserved else s) p reserved agsize spare refl (λ b.
      state_in-by reserved b
      ∙ rw (taken_at-marked first n p.held b, taken_at-marked first n p.used b, state_in-by p b, in_list-one (record { len = n; addr = first }) b)
      (reserve-by (is_in_run first n b) (taken_at p.owned b) (taken_at p.held b) (taken_at p.used b) (entry_at p.entries b) (free_run-at (taken_at p.used) first n b free) (kept.are_held b) (kept.are_used b)))

  -- a run without a held block has none with an owner; a free one is not held
  pub free-unheld : is_free (taken_at p.used) first n ≡ true → is_free (taken_at p.held) first n ≡ true
  free-unheld free = free_run-from (taken_at p.held) first n (λ b r. false_from_ne_true (taken_at p.held b) (λ h. both_ways (taken_at p.used b) (free_run-at (taken_at p.used) first n b free r) (kept.are_used b h)))

-- ---- a reserved run

-- what the sets say about a reserved block
pub reserved-at : (p : Parts) (b : ℕ) → state_in p b ≡ Reserved → (taken_at p.owned b ≡ false) × (taken_at p.held b ≡ true)
reserved-at p b h = reserved-by (taken_at p.owned b) (taken_at p.held b) (taken_at p.used b) (entry_at p.entries b) (sym (state_in-by p b) ∙ h)

module _ (p : Parts) (agsize spare first n : ℕ) (kept : AreKept p) (are_reserved : (b : ℕ) → is_in_run first n b ≡ true → state_in p b ≡ Reserved) where
  -- none of its blocks has an owner, and each is held
  unowned : (b : ℕ) → is_in_run first n b ≡ true → taken_at p.owned b ≡ false
  unowned b r = (reserved-at p b (are_reserved b r)).0

  -- such a run is within the volume, unless it has no block
  pub reserved-within : 0 < n → first + n ≤ length p.owned
  reserved-within some = elim (cases_lt (first + n - 1) (length p.owned)) [
    | inl h ↦ omega arith
    | inr h ↦ absurd (both_ways (taken_at p.owned (first + n - 1)) (unowned (first + n - 1) (in_run first n (first + n - 1) (omega arith) (omega arith))) (taken_at-past p.owned (first + n - 1) h))
  ]

  pub reserved-held : is_full (taken_at p.held) first n ≡ true
  reserved-held = full_run-from (taken_at p.held) first n (λ b r. (reserved-at p b (are_reserved b r)).1)

  pub reserved-used : is_full (taken_at p.used) first n ≡ true
  reserved-used = full_run-from (taken_at p.used) first n (λ b r. kept.are_used b (reserved-at p b (are_reserved b r)).1)

  pub reserved-unowned : is_free (taken_at p.owned) first n ≡ true
  reserved-unowned = free_run-from (taken_at p.owned) first n unowned

  -- the parts after the run was given back
  abbrev pub given_back : Parts
  given_back = record p { held = cleared first n p.held; used = cleared first n p.used }

  module _ (within : first + n ≤ length p.owned) where
    held-now : (b : ℕ) → taken_at (cleared first n p.held) b ≡ (not (is_in_run first n b) && taken_at p.held b)
    held-now b = taken_at-cleared first n p.held b (omega (arith, within, kept.held_blocks))

    used-now : (b : ℕ) → taken_at (cleared first n p.used) b ≡ (not (is_in_run first n b) && taken_at p.used b)
    used-now b = taken_at-cleared first n p.used b (omega (arith, within, kept.used_blocks))

    pub kept-given_back : AreKept given_back
    kept-given_back = record {
      most = kept.most;
      held_blocks = length-cleared first n p.held ∙ kept.held_blocks;
      used_blocks = length-cleared first n p.used ∙ kept.used_blocks;
      are_held = λ b o. held-now b ∙ rw (false_from_ne_true (is_in_run first n b) (λ r. both_ways (taken_at p.owned b) (unowned b r) o)) (kept.are_held b o);
      are_used = λ b h. used-now b ∙ less (is_in_run first n b) (taken_at p.held b) (taken_at p.used b) (kept.are_used b) (sym (held-now b) ∙ h);
      pending = pending-same (cleared first n p.held) (cleared first n p.used) kept.pending (length-cleared first n p.used) (λ b h u.
          let used = and_parts (not (is_in_run first n b)) (taken_at p.used b) (sym (used-now b) ∙ u) in
          (other (is_in_run first n b) (taken_at p.held b) used.0 (sym (held-now b) ∙ h), used.1));
    }
      where
        less : (r h u : Bool) → (h ≡ true → u ≡ true) → (not r && h) ≡ true → (not r && u) ≡ true
        less true h u k l = l
        less false h u k l = k l

        other : (r h : Bool) → not r ≡ true → (not r && h) ≡ false → h ≡ false
        other true h k l = absurd (cc)
        other false h k l = l

    pub view-given_back : view_of given_back agsize spare ≡ put_state Free (record { len = n; addr = first } ∷ []) (view_of p agsize spare)
    view-given_back =
        view-changed (λ b s. if is_in_list (record { len = n; addr = first } ∷ []) b then Free else s) p given_back agsize spare refl (λ b.
        state_in-by given_back b
        ∙ rw (held-now b, used-now b, state_in-by p b, in_list-one (record { len = n; addr = first }) b)
        (free_again-by (is_in_run first n b) (taken_at p.owned b) (taken_at p.held b) (taken_at p.used b) (entry_at p.entries b) (unowned b)))

  -- the parts after the run got an owner
  abbrev pub with_owner : Parts
  with_owner = record p { owned = marked first n p.owned }

  pub kept-owned : AreKept with_owner
  kept-owned = record {
    most = rw size kept.most;
    held_blocks = kept.held_blocks ∙ sym size;
    used_blocks = kept.used_blocks ∙ sym size;
    are_held = λ b o. (elim (or_cases (is_in_run first n b) (taken_at p.owned b) (sym (taken_at-marked first n p.owned b) ∙ o)) [ inl r ↦ (reserved-at p b (are_reserved b r)).1 | inr o ↦ kept.are_held b o ]);
    are_used = kept.are_used;
    pending = kept.pending;
  }
    where
      size : length (marked first n p.owned) ≡ length p.owned
      size = length-marked first n p.owned

  pub view-owned : view_of with_owner agsize spare ≡ put_state Owned (record { len = n; addr = first } ∷ []) (view_of p agsize spare)
  view-owned =
      view-changed (λ b s. if is_in_list (record { len = n; addr = first } ∷ []) b then Owned else s) p with_owner agsize spare (length-marked first n p.owned) (λ b.
      state_in-by with_owner b
      ∙ rw (taken_at-marked first n p.owned b, state_in-by p b, in_list-one (record { len = n; addr = first }) b)
      (own-by (is_in_run first n b) (taken_at p.owned b) (taken_at p.held b) (taken_at p.used b) (entry_at p.entries b)))
