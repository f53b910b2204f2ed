-- What is looked at, by the room of the volume.
use Rattle.std.proofs.Common.{◌≡◌, ◌≤◌, refl, sym, ap, ◌∙◌, subst, ℕ, ◌+◌, ◌^◌, Bool, true, false, not, ◌&&◌, nat_lt, if◌then◌else◌, length, Result, Ok, Err, arith}
use Rattle.std.proofs.lemmas.Bool.{lt-ltb}
use Rattle.jfs_bits.specs.Bits.{count_below}
use Rattle.jfs_bits.proofs.Counts.{count_below-same}
use Rattle.jfs_imap.specs.Inodes.{Inodes, IsPick}
use Rattle.jfs_imap.specs.declared.inode_map.Pick.{Pick}
use Rattle.jfs_imap.specs.declared.inode_map.Pick.TheVariants.{Number, NeedsExtent, NoInodes as NoneFree}
use Rattle.jfs_room.specs.bmap.specs.States.{BlockState, Free, Owned, Reserved, Busy, Blocks, is_free_state, is_owned_state, is_busy_state, state_of, unowned_count, free_count, all_settled}
use Rattle.jfs_room.specs.bmap.proofs.States.{changed-each, changed-length}
use Rattle.jfs_plain.specs.Step.{Room}
use Rattle.jfs_plain.specs.declared.refusal.Refusal.{Refusal}
use Rattle.jfs_plain.specs.declared.refusal.Refusal.TheVariants.{NoSpace}
use Rattle.jfs_room.specs.meaning.specs.Readers.{readers}
use Rattle.jfs_room.specs.Laws.{blocks_in, picked}
use Rattle.jfs_room.proofs.Blocks.{free_is, runs_are}
use Rattle.jfs_room.proofs.Fresh.{fresh_is}
use Rattle.jfs_claim.specs.Look.{space_for, inode_by, LooksFor, WhateverInodes, IfAtRest, room_of, TellsSpace, TellsInode}
use Rattle.jfs_claim.specs.declared.look.FreshInode.{FreshInode}
use Rattle.jfs_claim.specs.Laws.{SettledIsEnough}

-- ---- space

told_by : (room : Room) (need : ℕ) (short : Bool) → nat_lt room.free (need + 64) ≡ short → TellsSpace room need (if short then Err (NoSpace room.free) else Ok tt)
told_by room need true h = (h, refl)
told_by room need false h = h

pub space_told : (map : Blocks) (need : ℕ) → WhateverInodes map (λ room. TellsSpace room need (space_for (unowned_count map) need))
space_told map need page area inodes a log_pages =
    let room = room_of page area map inodes log_pages in
    subst (λ (free : ℕ). TellsSpace room need (if nat_lt free (need + 64) then Err (NoSpace free) else Ok tt)) (free_is (readers (blocks_in map)) page area map inodes a) (told_by room need (nat_lt room.free (need + 64)) refl)

-- ---- the inode

inode_told : (room : Room) (most : ℕ) (inodes : Inodes) (pick : Pick) (run : Bool) → most ≤ 2 ^ 27 → length inodes.extents ≡ most → IsPick inodes pick → room.inode ≡ picked pick run → TellsInode room (inode_by pick run)
inode_told room most inodes (Number n) run small size pick same = same
inode_told room most inodes (NeedsExtent place) true small size pick same = rw (lt-ltb place (2 ^ 27) (let l = pick.1.0 in omega (arith, l, size, small))) same
inode_told room most inodes (NeedsExtent place) false small size pick same = rw (and_no (nat_lt place (2 ^ 27))) (same, refl)
  where
    and_no : (x : Bool) → (x && false) ≡ false
    and_no true = refl
    and_no false = refl
inode_told room most inodes NoneFree run small size pick same = (same, refl)

pub inode_is_told : (map : Blocks) (inodes : Inodes) (result : Result FreshInode Refusal) → LooksFor map inodes result → IfAtRest map inodes (λ room. TellsInode room result)
inode_is_told map inodes result h rest page area a log_pages =
    let r = readers (blocks_in map) in
    let room = room_of page area map inodes log_pages in
    let run = (runs_are r page area map inodes a h.1 h.3).same rest.none in
    subst (λ (x : Result FreshInode Refusal). TellsInode room x) (sym h.4)
    (inode_told room (length inodes.extents) inodes h.0 h.1 rest.places refl h.2 (fresh_is r page area map inodes a (blocks_in map) h.0 h.2 ∙ ap (picked h.0) run))

-- ---- once busy blocks are settled

free_once_settled : (s : BlockState) → (s ≡ Reserved → ⊥) → is_free_state (if is_busy_state s then Free else s) ≡ not (is_owned_state s)
free_once_settled Free h = refl
free_once_settled Owned h = refl
free_once_settled Reserved h = absurd (h refl)
free_once_settled (Busy entry) h = refl

pub settled_is_enough : SettledIsEnough
settled_is_enough map want none enough run =
    let n = length map.states in
    let now = all_settled map in
    let change = λ (b : ℕ) (s : BlockState). if is_busy_state s then Free else s in
    let same : free_count now ≡ unowned_count map =
    ap (λ (k : ℕ). count_below k (λ b. is_free_state (state_of now b))) (changed-length change map)
    ∙ count_below-same n (λ b. is_free_state (state_of now b)) (λ b. not (is_owned_state (state_of map b))) (λ b l. ap is_free_state (changed-each change map b refl) ∙ free_once_settled (state_of map b) (none b)) in
    (omega (arith, same, enough), run)
