-- A call with a transaction that doesn't join leaves the tree.
use Rattle.std.proofs.Common.{◌≡◌, ◌<◌, ◌≤◌, ◌⊎◌, ◌==◌, ◌+◌, refl, sym, ap, ◌∙◌, subst, ℕ, Bool, true, false, nat_lt, if◌then◌else◌, List, [], ◌∷◌, ◌++◌, length, inl, inr, arith}
use Rattle.std.specs.List.{AllByRecursion}
use Rattle.std.proofs.lemmas.Bool.{and_parts, cases_lt, ltb-true, lt-ltb, or_left, or_right}
use Rattle.std.proofs.lemmas.List.{get_or_past}
use Rattle.jfs_bits.specs.Bits.{is_in_run}
use Rattle.jfs_bits.specs.declared.descriptor.Pxd.{Pxd}
use Rattle.jfs_bits.specs.declared.rule.PageKind.{PageKind}
use Rattle.jfs_bits.specs.declared.rule.PageKind.TheVariants as kinds
use Rattle.jfs_disk.specs.Image.{Image, page_of}
use Rattle.jfs_ranges.specs.declared.edit.Edit.{Edit}
use Rattle.jfs_ranges.specs.declared.edit.Edit.TheVariants.{Lines, NoRedo, Alloc, Free as FreeRun}
use Rattle.jfs_shown.specs.bmap.specs.States.{Blocks, BlockState, Free, Owned, Reserved, Busy, state_of, is_owned, is_owned_state, is_in_list, put_state, AreReserved}
use Rattle.jfs_shown.specs.bmap.proofs.States.{changed-at, changed-length}
use Rattle.jfs_shown.specs.map_files.specs.declared.maps.Maps.{Maps}
use Rattle.jfs_shown.specs.map_files.specs.declared.map_file.MapFiles.{MapFiles}
use Rattle.jfs_room.specs.Laws.{NoneReserved}
use Rattle.jfs_call.specs.files.specs.Outcome.{reserved_by}
use Rattle.jfs_call.specs.volume.specs.data_steps.specs.steps.specs.After.{is_extent, takes}
use Rattle.jfs_call.specs.volume.specs.records.specs.Marks.{is_new_extent}
use Rattle.jfs_call.specs.volume.specs.Called.{JoinsNot}
use Rattle.jfs_call.specs.volume.specs.MapsHome.{HoldsNone}
use Rattle.jfs_call.specs.volume.specs.Runs.{taken_by, taken_in}
use Rattle.jfs_call.specs.halves.specs.Change.{SameStates}
use Rattle.jfs_call.specs.halves.specs.Parts.{Parts}
use Rattle.jfs_call.specs.halves.specs.declared.freed.FreedPage.{FreedPage}
use Rattle.jfs_call.specs.volume.proofs.Taken.{in_list-append}
use Rattle.jfs_call.specs.volume.proofs.GivingBack.{in_one}
use Rattle.jfs_served.specs.Holds.{IsBusyPage, HoldsTree, KeepsTree}
use Rattle.jfs_served.specs.Step.{IsAsked}
use Rattle.jfs_served.specs.Laws.{GivenBackLaw, UnfinishedLaw}
use Rattle.jfs_served.proofs.Files.{unchanged, files_stay}
use Rattle.jfs_served.proofs.Keeps.{kept}

-- ---- what a transaction takes, as its runs have it

new_of : (kind : PageKind) (first : ℕ) (bytes : List ℕ) → is_extent kind first bytes ≡ true → is_new_extent kind bytes ≡ true
new_of kinds.Inode first bytes e = (and_parts (first == 0) (length bytes == 16384) e).1
new_of kinds.Xtree first bytes e = e
new_of kinds.Dtree first bytes e = e
new_of kinds.Index first bytes e = e

in_run : (run : Pxd) (n b : ℕ) → 0 < (if is_in_run run.addr run.len b then 1 else 0) + n → (is_in_list (run ∷ []) b ≡ true) ⊎ (0 < n)
in_run run n b more = by (is_in_run run.addr run.len b) refl more
  where
    by : (x : Bool) → is_in_run run.addr run.len b ≡ x → 0 < (if x then 1 else 0) + n → (is_in_list (run ∷ []) b ≡ true) ⊎ (0 < n)
    by true e m = inl (in_one run b e)
    by false e m = inr (omega (arith, m))

joined : (xs ys : List Pxd) (b n : ℕ) → (is_in_list xs b ≡ true) ⊎ (0 < n) → (0 < n → is_in_list ys b ≡ true) → is_in_list (xs ++ ys) b ≡ true
joined xs ys b n (inl h) rest = in_list-append xs ys b ∙ or_left (is_in_list xs b) (is_in_list ys b) h
joined xs ys b n (inr h) rest = in_list-append xs ys b ∙ or_right (is_in_list xs b) (is_in_list ys b) (rest h)

pub in_taken : (tx : List Edit) (b : ℕ) → 0 < takes tx b → is_in_list (taken_in tx) b ≡ true
in_taken [] b more = absurd (omega (arith, more))
in_taken (Lines page kind first bytes ∷ tx) b more = by (is_extent kind first bytes) refl more (in_taken tx b)
  where
    run : Pxd
    run = record { len = 4; addr = page }

    by : (x : Bool) → is_extent kind first bytes ≡ x → 0 < (if x then (if is_in_run page 4 b then 1 else 0) else 0) + takes tx b → (0 < takes tx b → is_in_list (taken_in tx) b ≡ true) → is_in_list (taken_in (Lines page kind first bytes ∷ tx)) b ≡ true
    by true e m rest = joined (taken_by (Lines page kind first bytes)) (taken_in tx) b (takes tx b)
        (subst (λ (x : Bool). (is_in_list (if x then run ∷ [] else []) b ≡ true) ⊎ (0 < takes tx b)) (sym (new_of kind first bytes e)) (in_run run (takes tx b) b m)) rest
    by false e m rest = joined (taken_by (Lines page kind first bytes)) (taken_in tx) b (takes tx b) (inr (omega (arith, m))) rest
in_taken (NoRedo page ∷ tx) b more = in_taken tx b more
in_taken (Alloc run ∷ tx) b more = joined (run ∷ []) (taken_in tx) b (takes tx b) (in_run run (takes tx b) b more) (in_taken tx b)
in_taken (FreeRun run ∷ tx) b more = in_taken tx b more

-- ---- what is reserved for it

-- a block that is reserved for it was free
pub data IsKept (taken : ℕ) (was now : BlockState) : Type 0 where
  stays : taken ≡ 0 → now ≡ was → IsKept taken was now
  comes : 0 < taken → was ≡ Free → now ≡ Reserved → IsKept taken was now

module _ (tx : List Edit) (old mid : Blocks) (free : (b : ℕ) → 0 < takes tx b → state_of old b ≡ Free) (is : mid ≡ reserved_by tx old) where
  abbrev reserve : ℕ → BlockState → BlockState
  reserve b s = if nat_lt 0 (takes tx b) then Reserved else s

  pub mid_size : length mid.states ≡ length old.states
  mid_size = ap (λ (m : Blocks). length m.states) is ∙ changed-length reserve old

  mid_at : (b : ℕ) → b < length old.states → state_of mid b ≡ reserve b (state_of old b)
  mid_at b l = ap (λ (m : Blocks). state_of m b) is ∙ changed-at reserve old b l

  pub each : (b : ℕ) → IsKept (takes tx b) (state_of old b) (state_of mid b)
  each b = by (cases_lt b (length old.states)) (nat_lt 0 (takes tx b)) refl
    where
      none : (k : ℕ) → nat_lt 0 k ≡ false → k ≡ 0
      none k e = at (cases_lt 0 k)
        where
          at : (0 < k) ⊎ (k ≤ 0) → k ≡ 0
          at (inl l) = absurd (cc (lt-ltb 0 k l, e))
          at (inr l) = omega (arith, l)

      by : (b < length old.states) ⊎ (length old.states ≤ b) → (x : Bool) → nat_lt 0 (takes tx b) ≡ x → IsKept (takes tx b) (state_of old b) (state_of mid b)
      by (inl l) true e = comes (ltb-true 0 (takes tx b) e) (free b (ltb-true 0 (takes tx b) e)) (mid_at b l ∙ rw e refl)
      by (inl l) false e = stays (none (takes tx b) e) (mid_at b l ∙ rw e refl)
      by (inr past) true e = let clash : Owned ≡ Free = sym (get_or_past old.states b Owned past) ∙ free b (ltb-true 0 (takes tx b) e) in absurd (cc (clash))
      by (inr past) false e = stays (none (takes tx b) e) (get_or_past mid.states b Owned (let s = mid_size in omega (arith, past, s)) ∙ sym (get_or_past old.states b Owned past))

owned_kept : (taken : ℕ) (was now : BlockState) → IsKept taken was now → is_owned_state now ≡ is_owned_state was
owned_kept taken was now (stays none same) = ap is_owned_state same
owned_kept taken was now (comes more free held) = ap is_owned_state held ∙ sym (ap is_owned_state free)

busy_kept : (taken entry : ℕ) (was now : BlockState) → IsKept taken was now → was ≡ Busy entry → now ≡ Busy entry
busy_kept taken entry was now (stays none same) e = same ∙ e
busy_kept taken entry was now (comes more free held) e = absurd (cc (free, e))

pub all_busy : (old new : Blocks) (fs : List FreedPage) → ((b entry : ℕ) → state_of old b ≡ Busy entry → state_of new b ≡ Busy entry) → AllByRecursion (IsBusyPage old) fs → AllByRecursion (IsBusyPage new) fs
all_busy old new [] each all = tt
all_busy old new (f ∷ fs) each all = (each f.page f.by_entry all.0, all_busy old new fs each all.1)

-- ---- given back

module _ (tx : List Edit) (old mid : Blocks) (none : NoneReserved old) (free : (b : ℕ) → 0 < takes tx b → state_of old b ≡ Free) (is : mid ≡ reserved_by tx old) (reserved : AreReserved mid (taken_in tx)) where
  abbrev unreserve : ℕ → BlockState → BlockState
  unreserve b s = if is_in_list (taken_in tx) b then Free else s

  pub back_size : length (put_state Free (taken_in tx) mid).states ≡ length old.states
  back_size = changed-length unreserve mid ∙ mid_size tx old mid free is

  pub back_at : (b : ℕ) → state_of (put_state Free (taken_in tx) mid) b ≡ state_of old b
  back_at b = by (cases_lt b (length mid.states)) (is_in_list (taken_in tx) b) refl (each tx old mid free is b)
    where
      by : (b < length mid.states) ⊎ (length mid.states ≤ b) → (x : Bool) → is_in_list (taken_in tx) b ≡ x → IsKept (takes tx b) (state_of old b) (state_of mid b) → state_of (put_state Free (taken_in tx) mid) b ≡ state_of old b
      by (inr past) x e k = get_or_past (put_state Free (taken_in tx) mid).states b Owned (let s = back_size in let t = mid_size tx old mid free is in omega (arith, past, s, t))
          ∙ sym (get_or_past old.states b Owned (let t = mid_size tx old mid free is in omega (arith, past, t)))
      by (inl l) true e (stays zero same) = absurd (none b (sym same ∙ reserved.reserved b e))
      by (inl l) true e (comes more was held) = changed-at unreserve mid b l ∙ rw e (sym was)
      by (inl l) false e (stays zero same) = changed-at unreserve mid b l ∙ rw e same
      by (inl l) false e (comes more was held) = absurd (cc (in_taken tx b more, e))

-- ---- the parts

module _ (area : ℕ → ℕ) (log_pages : ℕ) (old mid new : Parts) (h : HoldsTree area log_pages old) (asked : IsAsked old mid) (out : JoinsNot mid new) (on : new.view ≡ mid.view) where
  abbrev given : Parts → Parts
  given p = record p { view = new.view; disk = new.disk; past = new.past; faults = new.faults; map = new.map; halted = new.halted }

  parts : given old ≡ new
  parts = sym (out.parts ∙ ap given asked.parts)

  -- the map has the same blocks with owners, and the same busy ones
  pub out_keeps : length new.map.states ≡ length old.map.states → ((b : ℕ) → is_owned new.map b ≡ is_owned old.map b) → ((b entry : ℕ) → state_of old.map b ≡ Busy entry → state_of new.map b ≡ Busy entry) → KeepsTree area log_pages old new
  out_keeps size owned busy = kept area log_pages old new h (record {
    size = size;
    owned = owned;
    inodes = sym (ap (λ (p : Parts). p.inodes) parts);
    limit = sym (ap (λ (p : Parts). p.limit) parts);
    blocks = sym (ap (λ (p : Parts). p.blocks) parts);
    freed = subst (λ (fs : List FreedPage). AllByRecursion (IsBusyPage new.map) fs) (ap (λ (p : Parts). p.freed) parts) (all_busy old.map new.map old.freed busy h.freed);
    areas = λ b zero. subst (λ (f : MapFiles). HoldsNone f b) (ap (λ (p : Parts). p.files) parts) (h.areas b zero);
    view = λ b used zero. ap (λ (image : Image). page_of image b) (on ∙ asked.view);
    known = files_stay area log_pages old new h
        (unchanged area old new (λ b more. ap (λ (image : Image). page_of image b) (on ∙ asked.view)) (sym (ap (λ (p : Parts). p.files) parts)) size owned (sym (ap (λ (p : Parts). p.inodes) parts)));
  })

pub state_by : (a b : Blocks) (at : ℕ) → SameStates a b → state_of a at ≡ state_of b at
state_by a b at same = ap (λ (ss : List BlockState). state_of (record a { states = ss }) at) same.states

pub given_back_law : GivenBackLaw
given_back_law area log_pages request now tx put old mid new may asked answer back on =
    let is = ap (λ (m : Maps). m.blocks) answer.maps.now_is in
    let at : (b : ℕ) → state_of new.map b ≡ state_of old.map b = λ b. state_by new.map (put_state Free (taken_in tx) mid.map) b back.map ∙ back_at tx old.map mid.map may.none answer.maps.free is back.reserved b in
    record {
      keeps = out_keeps area log_pages old mid new may.holds asked back.joins_not on
          (ap (λ (ss : List BlockState). length ss) back.map.states ∙ back_size tx old.map mid.map may.none answer.maps.free is back.reserved)
          (λ b. ap is_owned_state (at b)) (λ b entry e. at b ∙ e);
      none = λ none b e. none b (sym (at b) ∙ e);
    }

pub unfinished_law : UnfinishedLaw
unfinished_law area log_pages request now tx put old mid new may asked answer out on = by out.map
  where
    is : mid.map ≡ reserved_by tx old.map
    is = ap (λ (m : Maps). m.blocks) answer.maps.now_is

    kept_at : (b : ℕ) → IsKept (takes tx b) (state_of old.map b) (state_of mid.map b)
    kept_at = each tx old.map mid.map answer.maps.free is

    by : (AreReserved mid.map (taken_in tx) × SameStates new.map (put_state Free (taken_in tx) mid.map)) ⊎ SameStates new.map mid.map → KeepsTree area log_pages old new
    by (inl (reserved, same)) = (given_back_law area log_pages request now tx put old mid new may asked answer (record { reserved = reserved; joins_not = out.joins_not; map = same }) on).keeps
    by (inr same) = out_keeps area log_pages old mid new may.holds asked out.joins_not on
        (ap (λ (ss : List BlockState). length ss) same.states ∙ mid_size tx old.map mid.map answer.maps.free is)
        (λ b. ap is_owned_state (state_by new.map mid.map b same) ∙ owned_kept (takes tx b) (state_of old.map b) (state_of mid.map b) (kept_at b))
        (λ b entry e. state_by new.map mid.map b same ∙ busy_kept (takes tx b) entry (state_of old.map b) (state_of mid.map b) (kept_at b) e)
