-- A rename among the calls.
use Rattle.std.proofs.Common.{◌≡◌, ◌≤◌, ℕ, true≢false, sym, List, Ok, arith}
use Rattle.jfs_imap.specs.Inodes.{Inodes}
use Rattle.jfs_create.specs.bmap.specs.States.{Blocks, unowned_count}
use Rattle.jfs_plain.specs.Tree.{and_then}
use Rattle.jfs_plain.specs.Step.{need_of_name}
use Rattle.jfs_look.specs.way.specs.declared.object.Held.{Held}
use Rattle.jfs_chmod.specs.steps.specs.Place.{last_of}
use Rattle.jfs_create.specs.room.specs.Laws.{NoneReserved}
use Rattle.jfs_create.specs.claim.specs.Look.{space_for}
use Rattle.jfs_create.specs.claim.specs.Take.{Lacks}
use Rattle.jfs_create.specs.claim.proofs.Looks.{settled_is_enough}
use Rattle.jfs_create.specs.place.specs.Place.{occupant_at}
use Rattle.jfs_create.specs.link.specs.Link.{want_of_name}
use Rattle.jfs_rename.specs.rename_steps.specs.declared.moving.Moving.{Moving}
use Rattle.jfs_rename.specs.Ends.{moving_on}
use Rattle.jfs_rename.specs.Permits.{permitted}
use Rattle.jfs_rename.specs.Through.{inside_of}
use Rattle.jfs_rename.specs.Asks.{unless_deep, room_for, with_room, asked_at, asked_of, asked}
use Rattle.jfs_rename.specs.declared.permits.Asked.{Asked}
use Rattle.jfs_rename.specs.declared.permits.Asked.TheVariants.{Same, Free, Over}
use Rattle.jfs_files.specs.Outcome.{IsBusyFor}
use Rattle.jfs_files.proofs.Links.{both_ok, enough_for}

module _ (blocks : ℕ) (pages : ℕ → List ℕ) (map : Blocks) (inodes : Inodes) (limit : ℕ) (from to : List (List ℕ)) (moving : Moving) where
  room_enough : (target : Held) (it : Unit {0}) → room_for blocks pages map target (last_of to) ≡ Ok it → 8 ≤ unowned_count map
  room_enough target it e = let space = both_ok (space_for (unowned_count map) need_of_name) (λ it. unless_deep blocks pages target (last_of to)) it e in enough_for (unowned_count map) need_of_name space.0 space.1

  -- a rename that changes something looks whether there is space
  with_space : (target : Held) (a : Asked) → with_room blocks pages map target (last_of to) a ≡ Ok (Free moving) → 8 ≤ unowned_count map
  with_space target Same e = absurd (cc (e))
  with_space target (Free other) e = let room = both_ok (room_for blocks pages map target (last_of to)) (λ it. Ok (Free other)) (Free moving) e in room_enough target room.0 room.1
  with_space target (Over other there) e = let room = both_ok (room_for blocks pages map target (last_of to)) (λ it. Ok (Over other there)) (Free moving) e in room_enough target room.0 room.1

  looked : asked blocks pages map inodes limit from to ≡ Ok (Free moving) → 8 ≤ unowned_count map
  looked e =
      let ends = both_ok (moving_on blocks pages inodes from to) (asked_of blocks pages map inodes limit to) (Free moving) e in
      let inside = both_ok (inside_of blocks pages inodes ends.0.object to) (λ inside. and_then (occupant_at blocks pages inodes ends.0.target (last_of to)) (asked_at blocks pages map limit to ends.0 inside)) (Free moving) ends.2 in
      let found = both_ok (occupant_at blocks pages inodes ends.0.target (last_of to)) (asked_at blocks pages map limit to ends.0 inside.0) (Free moving) inside.2 in
      let may = both_ok (permitted blocks limit ends.0 inside.0 found.0) (with_room blocks pages map ends.0.target (last_of to)) (Free moving) found.2 in
      with_space ends.0.target may.0 may.2

  pub busy_between : asked blocks pages map inodes limit from to ≡ Ok (Free moving) → Lacks map want_of_name → NoneReserved map → IsBusyFor map want_of_name
  busy_between asks lacks none = (lacks, settled_is_enough map want_of_name none (let l = looked asks in omega (arith, l)) (λ run. absurd (true≢false (sym run))))
