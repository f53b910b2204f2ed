-- A link among the calls.
use Rattle.std.proofs.Common.{◌≡◌, ◌≤◌, refl, sym, ap, ap₂, ◌∙◌, ℕ, ◌+◌, Bool, true, false, true≢false, ◌||◌, nat_lt, if◌then◌else◌, List, [], Result, Ok, Err, arith}
use Rattle.std.proofs.lemmas.Bool.Decides.{nat_tests}
use Rattle.jfs_imap.specs.Inodes.{Inodes}
use Rattle.jfs_create.specs.bmap.specs.States.{BlockState, Reserved, Blocks, unowned_count, is_in_list, changed}
use Rattle.jfs_create.specs.bmap.proofs.Puts.{in_list-none}
use Rattle.jfs_ranges.specs.declared.edit.Edit.{Edit}
use Rattle.jfs_look.specs.page_tree.specs.Edit.{count_in}
use Rattle.jfs_plain.specs.Tree.{and_then}
use Rattle.jfs_plain.specs.Step.{need_of_name}
use Rattle.jfs_plain.specs.declared.refusal.Refusal.{Refusal}
use Rattle.jfs_plain.specs.declared.refusal.Refusal.TheVariants.{NoSpace, IsDir}
use Rattle.jfs_truncate.specs.objects.specs.Objects.{has_names}
use Rattle.jfs_look.specs.way.specs.declared.object.Held.{Held}
use Rattle.jfs_look.specs.way.specs.Way.{path_of}
use Rattle.jfs_chmod.specs.steps.specs.After.{takes}
use Rattle.jfs_chmod.specs.steps.specs.Place.{last_of, new_place_of}
use Rattle.jfs_create.specs.room.specs.Laws.{NoneReserved}
use Rattle.jfs_create.specs.claim.specs.Look.{space_for}
use Rattle.jfs_create.specs.claim.specs.Take.{Lacks}
use Rattle.jfs_create.specs.claim.proofs.Looks.{settled_is_enough}
use Rattle.jfs_create.specs.link.specs.Link.{ReservesTaken, want_of_name, unless_full, unless_deep, joint_of, asked_of, asked}
use Rattle.jfs_create.specs.link.specs.declared.asking.Joint.{Joint}
use Rattle.jfs_files.specs.Outcome.{reserved_by, TakesFree, IsBusyFor}
use Rattle.jfs_map_files.specs.declared.maps.Maps.{Maps}

-- ---- the blocks that are reserved

pub taken_reserved : (before now : Blocks) (tx : List Edit) → ReservesTaken before now tx → now ≡ reserved_by tx before
taken_reserved before now tx r = r.2.now_is ∙ ap (λ (change : ℕ → BlockState → BlockState). changed change before) (λ i b s. same b s i)
  where
    same : (b : ℕ) (s : BlockState) → (if is_in_list [] b || nat_lt 0 (count_in b r.0) then Reserved else s) ≡ (if nat_lt 0 (takes tx b) then Reserved else s)
    same b s = ap₂ (λ (x : Bool) (n : ℕ). if x || nat_lt 0 n then Reserved else s) (in_list-none b) (sym (r.1 b))

pub maps_after : (maps new : Maps) (now : Blocks) (tx : List Edit) → ReservesTaken maps.blocks now tx → new ≡ record maps { blocks = now } → TakesFree maps new tx
maps_after maps new now tx r e = record {
  free = λ b l. r.2.free b (let k = r.1 b in omega (arith, l, k));
  once = λ b. (let k = r.1 b in let o = r.2.once b in omega (arith, k, o));
  now_is = e ∙ ap (λ (m : Blocks). record maps { blocks = m }) (taken_reserved maps.blocks now tx r);
}

-- ---- what stands between

-- what goes through in the end went through before
pub both_ok : {X Y : Type 0} (x : Result X Refusal) (f : X → Result Y Refusal) (y : Y) → and_then x f ≡ Ok y → (z : X) × (x ≡ Ok z) × (f z ≡ Ok y)
both_ok (Ok z) f y e = (z, refl, e)
both_ok (Err why) f y e = absurd (cc (e))

-- a space that is there leaves the blocks that are always kept
pub left_for : (free need : ℕ) (it : Unit {0}) → space_for free need ≡ Ok it → need + 64 ≤ free
left_for free need it e = by (nat_lt free (need + 64)) refl e
  where
    not_less : (a b : ℕ) → nat_lt a b ≡ false → b ≤ a
    not_less a b h = grind (arith, nat_tests)

    by : (x : Bool) → nat_lt free (need + 64) ≡ x → (if x then Err (NoSpace free) else Ok tt) ≡ Ok it → need + 64 ≤ free
    by true h e = absurd (cc (e))
    by false h e = not_less free (need + 64) h

pub enough_for : (free need : ℕ) (it : Unit {0}) → space_for free need ≡ Ok it → need ≤ free
enough_for free need it e = let l = left_for free need it e in omega (arith, l)

module _ (blocks : ℕ) (pages : ℕ → List ℕ) (map : Blocks) (inodes : Inodes) (from to : List (List ℕ)) where
  abbrev after_space : Held → Held → Result Joint Refusal
  after_space object dir = and_then (space_for (unowned_count map) need_of_name) (λ it. and_then (unless_deep blocks pages (last_of to) dir) (λ dir. Ok (joint_of object dir)))

  abbrev after_place : Held → Held → Result Joint Refusal
  after_place object dir = and_then (unless_full object (Ok dir)) (λ dir. after_space object dir)

  -- what is asked looks whether there is space
  looked : (joint : Joint) → asked blocks pages map inodes from to ≡ Ok joint → 8 ≤ unowned_count map
  looked joint e =
      let walked = both_ok (path_of blocks pages inodes from) (asked_of blocks pages map inodes to) joint e in
      by_kind walked.0 (has_names walked.0.inode) walked.2
    where
      by_kind : (object : Held) (x : Bool) → (if x then Err IsDir else and_then (new_place_of blocks pages inodes to) (after_place object)) ≡ Ok joint → 8 ≤ unowned_count map
      by_kind object true e = absurd (cc (e))
      by_kind object false e =
          let placed = both_ok (new_place_of blocks pages inodes to) (after_place object) joint e in
          let few = both_ok (unless_full object (Ok placed.0)) (after_space object) joint placed.2 in
          let space = both_ok (space_for (unowned_count map) need_of_name) (λ it. and_then (unless_deep blocks pages (last_of to) few.0) (λ dir. Ok (joint_of object dir))) joint few.2 in
          enough_for (unowned_count map) need_of_name space.0 space.1

  pub busy_between : (joint : Joint) × (asked blocks pages map inodes from to ≡ Ok joint) → Lacks map want_of_name → NoneReserved map → IsBusyFor map want_of_name
  busy_between asks lacks none = (lacks, settled_is_enough map want_of_name none (let l = looked asks.0 asks.1 in omega (arith, l)) (λ run. absurd (true≢false (sym run))))
