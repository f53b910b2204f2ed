-- What the fields of an opened map say about its value, and what a run that changes its state does to them.
use Rattle.std.proofs.Common.{◌≡◌, ◌<◌, ◌≤◌, ◌+◌, ◌^◌, ℕ, Bool, true, not, ◌&&◌, [], ◌∷◌, length, sym, ap, ◌∙◌, subst, arith}
use Rattle.jfs_bits.specs.Bits.{is_in_run, is_free, is_full}
use Rattle.jfs_bits.proofs.Counts.{count_below-most}
use Rattle.jfs_bmap.specs.declared.block_map.BlockMap.TheInside.{Inside}
use Rattle.std.specs.Prelude.{Option, Some, None}
use Rattle.std.specs.BinaryHeap.{heap_items}
use Rattle.jfs_bmap.specs.Set.{taken_at, free_in, IsLowest, IsFreeFront}
use Rattle.jfs_bmap.specs.States.{Free, Owned, Reserved, Blocks, state_of, is_used, is_owned, is_reserved, free_count, busy_count, unowned_count, put_state, all_settled}
use Rattle.jfs_bmap.specs.Kept.{Parts, state_in, AreKept}
use Rattle.jfs_bmap.proofs.States.{view_of, view-length, state-at, used-view, owned-view, reserved-view, settled-view, free_count-view, unowned_count-view, busy_count-view, reserved, kept-reserved, view-reserved, free-unheld, reserved-within, reserved-held, reserved-used, reserved-unowned, given_back, kept-given_back, view-given_back, with_owner, kept-owned, view-owned}
use Rattle.jfs_bmap.proofs.Reservations.{lowest-free, none-free}

abbrev pub parts : Inside → Parts
parts m = record { owned = m.owned; held = m.held; used = m.used; entries = m.entries.items; heap = heap_items m.freed }

abbrev pub view : Inside → Blocks
view m = view_of (parts m) m.agsize m.spare

module _ (m : Inside) (value : Blocks) (is : view m ≡ value) where
  pub size-is : length value.states ≡ length m.owned
  size-is = ap (λ (b : Blocks). length b.states) (sym is) ∙ view-length (parts m) m.agsize m.spare

  pub state-is : (b : ℕ) → state_of value b ≡ state_in (parts m) b
  state-is b = ap (λ (z : Blocks). state_of z b) (sym is) ∙ state-at (parts m) m.agsize m.spare b

  pub owned-is : AreKept (parts m) → is_owned value ≡ taken_at m.owned
  owned-is kept = ap is_owned (sym is) ∙ owned-view (parts m) m.agsize m.spare kept

  pub reserved-is : AreKept (parts m) → (b : ℕ) → is_reserved value b ≡ (taken_at m.held b && not (taken_at m.owned b))
  reserved-is kept b = ap (λ (z : Blocks). is_reserved z b) (sym is) ∙ reserved-view (parts m) m.agsize m.spare kept b

  pub used-is : AreKept (parts m) → is_used value ≡ taken_at m.used
  used-is kept = ap is_used (sym is) ∙ used-view (parts m) m.agsize m.spare kept

  pub settled-is : AreKept (parts m) → is_used (all_settled value) ≡ taken_at m.held
  settled-is kept = ap (λ (b : Blocks). is_used (all_settled b)) (sym is) ∙ settled-view (parts m) m.agsize m.spare kept

  pub free-is : AreKept (parts m) → free_count value ≡ free_in m.used
  free-is kept = ap free_count (sym is) ∙ free_count-view (parts m) m.agsize m.spare kept

  pub unowned-is : AreKept (parts m) → unowned_count value ≡ free_in m.owned
  unowned-is kept = ap unowned_count (sym is) ∙ unowned_count-view (parts m) m.agsize m.spare kept

  pub busy-is : AreKept (parts m) → busy_count value + free_in m.used ≡ free_in m.held
  busy-is kept = ap (λ (b : Blocks). busy_count b + free_in m.used) (sym is) ∙ busy_count-view (parts m) m.agsize m.spare kept

-- a free run is reserved
module _ (m : Inside) (value : Blocks) (is : view m ≡ value) (kept : AreKept (parts m)) (first n : ℕ) (free : is_free (is_used value) first n ≡ true) where
  pub reserve-free : is_free (taken_at m.used) first n ≡ true
  reserve-free = subst (λ (taken : ℕ → Bool). is_free taken first n ≡ true) (used-is m value is kept) free

  pub reserve-unheld : is_free (taken_at m.held) first n ≡ true
  reserve-unheld = free-unheld (parts m) m.agsize m.spare first n kept reserve-free

  pub reserve-kept : AreKept (reserved (parts m) m.agsize m.spare first n kept)
  reserve-kept = kept-reserved (parts m) m.agsize m.spare first n kept

  pub reserve-view : view_of (reserved (parts m) m.agsize m.spare first n kept) m.agsize m.spare ≡ put_state Reserved (record { len = n; addr = first } ∷ []) value
  reserve-view = rw (← is) (view-reserved (parts m) m.agsize m.spare first n kept reserve-free)

-- a reserved run gets an owner, or is given back
module _ (m : Inside) (value : Blocks) (is : view m ≡ value) (kept : AreKept (parts m)) (first n : ℕ) (are_reserved : (b : ℕ) → is_in_run first n b ≡ true → state_of value b ≡ Reserved) where
  pub reserved_in : (b : ℕ) → is_in_run first n b ≡ true → state_in (parts m) b ≡ Reserved
  reserved_in b h = sym (state-is m value is b) ∙ are_reserved b h

  pub run-within : 0 < n → first + n ≤ length m.owned
  run-within some = reserved-within (parts m) m.agsize m.spare first n kept reserved_in some

  pub run-held : is_full (taken_at m.held) first n ≡ true
  run-held = reserved-held (parts m) m.agsize m.spare first n kept reserved_in

  pub run-used : is_full (taken_at m.used) first n ≡ true
  run-used = reserved-used (parts m) m.agsize m.spare first n kept reserved_in

  pub run-unowned : is_free (taken_at m.owned) first n ≡ true
  run-unowned = reserved-unowned (parts m) m.agsize m.spare first n kept reserved_in

  pub own-kept : AreKept (with_owner (parts m) m.agsize m.spare first n kept reserved_in)
  own-kept = kept-owned (parts m) m.agsize m.spare first n kept reserved_in

  pub own-view : view_of (with_owner (parts m) m.agsize m.spare first n kept reserved_in) m.agsize m.spare ≡ put_state Owned (record { len = n; addr = first } ∷ []) value
  own-view = rw (← is) (view-owned (parts m) m.agsize m.spare first n kept reserved_in)

  pub back-kept : 0 < n → AreKept (given_back (parts m) m.agsize m.spare first n kept reserved_in)
  back-kept some = kept-given_back (parts m) m.agsize m.spare first n kept reserved_in (run-within some)

  pub back-view : 0 < n → view_of (given_back (parts m) m.agsize m.spare first n kept reserved_in) m.agsize m.spare ≡ put_state Free (record { len = n; addr = first } ∷ []) value
  back-view some = rw (← is) (view-given_back (parts m) m.agsize m.spare first n kept reserved_in (run-within some))

-- what a search in the used blocks finds
pub found-is : (m : Inside) (value : Blocks) → view m ≡ value → AreKept (parts m) → (l2 : ℕ) (found : Option ℕ) → IsLowest (taken_at m.used) l2 found → IsLowest (is_used value) l2 found
found-is m value is kept l2 found h = subst (λ (taken : ℕ → Bool). IsLowest taken l2 found) (sym (used-is m value is kept)) h

pub found-free : (m : Inside) (value : Blocks) → view m ≡ value → AreKept (parts m) → (l2 first n : ℕ) → n ≤ 2 ^ l2 → IsLowest (taken_at m.used) l2 (Some first) → is_free (is_used value) first n ≡ true
found-free m value is kept l2 first n most h = lowest-free (is_used value) l2 first n most (found-is m value is kept l2 (Some first) h)

-- a volume has at most 2 ^ 23 blocks
pub enough-most : (m : Inside) (value : Blocks) → view m ≡ value → AreKept (parts m) → (left : ℕ) → left ≤ free_count value → left ≤ 2 ^ 23
enough-most m value is kept left enough = omega (arith, free-is m value is kept, count_below-most (length m.used) (λ b. not (taken_at m.used b)), kept.used_blocks, kept.most)

-- where no block was found, none is free
pub none-enough : (m : Inside) (value : Blocks) → view m ≡ value → AreKept (parts m) → (left : ℕ) → left ≤ free_count value → IsLowest (taken_at m.used) 0 None → left ≡ 0
none-enough m value is kept left enough none = omega (arith, free-is m value is kept, none-free (taken_at m.used) (length m.used) none)

-- the free blocks from a wanted one on
pub front-is : (m : Inside) (value : Blocks) → view m ≡ value → AreKept (parts m) → (first limit n : ℕ) → IsFreeFront (taken_at m.used) first limit n → IsFreeFront (is_used value) first limit n
front-is m value is kept first limit n h = subst (λ (taken : ℕ → Bool). IsFreeFront taken first limit n) (sym (used-is m value is kept)) h
