-- The whole call on a consistent volume: from what its parts answer to the plain step.
use Rattle.std.proofs.Common.{◌≡◌, ◌⊎◌, ◌<◌, refl, sym, ap, ◌∙◌, subst, inl, inr, ℕ, Bool, true, false, true≢false, ◌||◌, ◌==◌, nat_lt, if◌then◌else◌, List, [], length, Option, Some, None, Result, Ok, Err, arith}
use Rattle.jfs_bits.specs.declared.descriptor.Moment.{Moment}
use Rattle.jfs_bmap.specs.States.{Blocks, Reserved, changed, is_in_list}
use Rattle.jfs_disk.specs.Image.{Image, page_of}
use Rattle.jfs_imap.specs.Inodes.{Inodes}
use Rattle.jfs_ranges.specs.declared.edit.Edit.{Edit}
use Rattle.jfs_tree.specs.Edit.{count_in}
use Rattle.jfs_plain.specs.Tree.{Tree, Place, place_at, passes, is_dir, and_then}
use Rattle.jfs_plain.specs.Moves.{shifts}
use Rattle.jfs_plain.specs.Step.{Room, rename, departs, gained, why_barred, links_in, links_of}
use Rattle.jfs_plain.specs.declared.refusal.Refusal.{Refusal}
use Rattle.jfs_plain.specs.declared.refusal.Refusal.TheVariants.{NotFound}
use Rattle.jfs_plain.specs.declared.reply.Reply.TheVariants.{Done}
use Rattle.jfs_link.specs.objects.specs.Objects.{has_names}
use Rattle.jfs_link.specs.meaning.specs.Readers.{readers}
use Rattle.jfs_link.specs.meaning.specs.Consistent.{IsConsistent}
use Rattle.jfs_link.specs.way.specs.Answer.{is_open}
use Rattle.jfs_link.specs.way.specs.Way.{name_from}
use Rattle.jfs_link.specs.way.specs.Walk.{IsHeld, IsShown, tree_in}
use Rattle.jfs_link.specs.way.specs.Volume.{volume_of}
use Rattle.jfs_link.specs.way.specs.declared.object.Held.{Held}
use Rattle.jfs_link.specs.steps.specs.Place.{last_of}
use Rattle.jfs_link.specs.claim.specs.Take.{reserving}
use Rattle.jfs_link.specs.place.specs.Place.{occupant_at, if_found}
use Rattle.jfs_link.specs.Link.{ReservesFree, ReservesTaken, IfConsistentBy}
use Rattle.jfs_rename_steps.specs.Moves.{MovesOver, OverRefused}
use Rattle.jfs_rename_steps.specs.declared.moving.Moving.{Moving}
use Rattle.jfs_rename.specs.Asks.{asked, asked_of, asked_at, with_room, room_for, changes_nothing, MayMove, MayRename, RefusesRename, IsAskedOf, IsAskedOn}
use Rattle.jfs_rename.specs.Done.{AreOn, room_in}
use Rattle.jfs_rename.specs.Ends.{AreHeld, AreShown, AreDirectories, moving_on}
use Rattle.jfs_rename.specs.Permits.{free_check, over_check, permitted}
use Rattle.jfs_rename.specs.Renames.{MovesReserved, RenamesAs, StaysFresh}
use Rattle.jfs_rename.specs.Steps.{StepsAs}
use Rattle.jfs_rename.specs.Once.{FreesOnce}
use Rattle.jfs_rename.specs.Through.{inside_of}
use Rattle.jfs_rename.specs.declared.permits.Asked.{Asked}
use Rattle.jfs_rename.specs.declared.permits.Asked.TheVariants.{Same, Free, Over}
use Rattle.jfs_rename.specs.declared.renaming.Renamed.{Renamed}
use Rattle.jfs_rename.specs.declared.renaming.Renamed.TheVariants as renamed
use Rattle.jfs_rename.proofs.Ground.{node_m, node_q}
use Rattle.jfs_rename.proofs.Moved.{move_law, move_done}
use Rattle.jfs_rename.proofs.Plain.{moved}
use Rattle.jfs_rename.proofs.Refused.{free_open, over_open}
use Rattle.jfs_rename.proofs.Replaced.{replace_law, replace_done}
use Rattle.jfs_rename.proofs.Taking.{over_found}

-- ---- on a consistent volume

module _ (blocks : ℕ) (pages : ℕ → List ℕ) (map : Blocks) (inodes : Inodes) (whole : (b : ℕ) → b < blocks → length (pages b) ≡ 4096) (size : length map.states ≡ blocks) (from to : List (List ℕ)) (limit : ℕ) (now : Moment) where
  abbrev plain : Room → Tree → Rattle.jfs_plain.specs.Step.Outcome
  plain room t = rename room t from to now

  pub ask_steps : (why : Refusal) → IfConsistentBy blocks pages map inodes (RefusesRename from to limit why) → StepsAs blocks pages map inodes limit plain (Err why)
  ask_steps why refused within area con log_pages same = by (refused within area con log_pages same)
    where
      by : ((now : Moment) → rename (room_in blocks pages area map inodes log_pages) (tree_in blocks pages area map inodes) from to now ≡ Err why) ⊎ (is_open why ≡ true) → (plain (room_in blocks pages area map inodes log_pages) (tree_in blocks pages area map inodes) ≡ Err why) ⊎ (is_open why ≡ true)
      by (inl f) = inl (f now)
      by (inr o) = inr o

  pub same_steps : IfConsistentBy blocks pages map inodes (MayRename from to limit Same) → StepsAs blocks pages map inodes limit plain (Ok renamed.Same)
  same_steps allowed within area con log_pages same = allowed within area con log_pages same now

  module _ (moving : Moving) (held : AreHeld blocks inodes moving) (dirs : AreDirectories moving) (shown : AreShown pages moving) where
    on : (area : ℕ → ℕ) → IsConsistent (readers blocks) (volume_of pages area map inodes) → AreOn blocks pages area map inodes moving
    on area con = record { con = con; whole = whole; size = size; held = held; shown = shown; dirs = dirs }

    -- the plain step isn't refused
    plain_moves : (area : ℕ → ℕ) (con : IsConsistent (readers blocks) (volume_of pages area map inodes)) (log_pages : ℕ) → MayMove from to moving (room_in blocks pages area map inodes log_pages) (tree_in blocks pages area map inodes)
        → (u : Tree) × (rename (room_in blocks pages area map inodes log_pages) (tree_in blocks pages area map inodes) from to now ≡ Ok (Done, u))
    plain_moves area con log_pages may =
        let node = node_m blocks pages area map inodes moving (on area con) from to may.ends in
        let target = node_q blocks pages area map inodes moving (on area con) from to may.ends in (
          _,
          moved (tree_in blocks pages area map inodes) (room_in blocks pages area map inodes log_pages) from to now moving.object.number node.node may.ends.walked node.there may.ends.named
              (place_at moving.source.number (last_of from)) may.ends.source (place_at moving.target.number (last_of to)) may.ends.target may.free
              (ap (λ (x : Bool). why_barred x (passes (tree_in blocks pages area map inodes) to moving.object.number) (moving.source.number == moving.target.number) (links_of (tree_in blocks pages area map inodes) moving.target.number)) node.dir
              ∙ ap (λ (l : ℕ). why_barred (has_names moving.object.inode) (passes (tree_in blocks pages area map inodes) to moving.object.number) (moving.source.number == moving.target.number) l) (ap links_in target.there ∙ target.links) ∙ may.allowed)
              may.space may.takes_name,
        )

    pub free_steps : IfConsistentBy blocks pages map inodes (MayRename from to limit (Free moving)) → (after : Blocks) (r : Result Renamed Refusal) → MovesReserved blocks pages moving (last_of from) (last_of to) now map after r → StepsAs blocks pages map inodes limit plain r
    free_steps allowed after (Ok (renamed.Done tx)) (m, reserves) = λ within area con log_pages same. move_law blocks pages area map inodes moving (on area con) from to now log_pages (allowed within area con log_pages same) m.free m.left m.fresh tx m.moves
    free_steps allowed after (Ok renamed.Same) m = absurd m
    free_steps allowed after (Ok renamed.NeedsLog) m = λ within area con log_pages same. plain_moves area con log_pages (allowed within area con log_pages same)
    free_steps allowed after (Err why) (inl o) = λ within area con log_pages same. inr o
    free_steps allowed after (Err why) (inr s) = λ within area con log_pages same. inr (free_open blocks pages area map inodes moving (on area con) from to now log_pages (allowed within area con log_pages same) s.free s.fresh why s.refused)

    pub free_once : IfConsistentBy blocks pages map inodes (MayRename from to limit (Free moving)) → (after : Blocks) (r : Result Renamed Refusal) → MovesReserved blocks pages moving (last_of from) (last_of to) now map after r → FreesOnce blocks pages map inodes limit r
    free_once allowed after (Ok (renamed.Done tx)) (m, reserves) = λ within area con log_pages same.
        (move_done blocks pages area map inodes moving (on area con) from to now log_pages (allowed within area con log_pages same) m.free m.fresh m.left m.moves.after m.moves.gains tx m.moves.leaves).1
    free_once allowed after (Ok renamed.Same) m = tt
    free_once allowed after (Ok renamed.NeedsLog) m = tt
    free_once allowed after (Err why) m = tt

    module _ (there : Held) (held_k : IsHeld blocks inodes there) (shown_k : IsShown pages there) (allowed : IfConsistentBy blocks pages map inodes (MayRename from to limit (Over moving there))) where
      pub over_steps : (tx : List Edit) → MovesOver blocks pages moving there (last_of from) (last_of to) now tx → StepsAs blocks pages map inodes limit plain (Ok (renamed.Done tx))
      over_steps tx j within area con log_pages same = replace_law blocks pages area map inodes moving (on area con) there held_k shown_k from to now limit log_pages same (allowed within area con log_pages same) tx j

      pub over_stays : asked blocks pages map inodes limit from to ≡ Ok (Over moving there) → (why : Refusal) → OverRefused blocks pages moving there (last_of from) (last_of to) now why → StepsAs blocks pages map inodes limit plain (Err why)
      over_stays e why h within area con log_pages same = inr (over_open blocks pages area map inodes moving (on area con) there held_k shown_k from to now limit log_pages same (allowed within area con log_pages same)
          (over_found blocks pages map inodes from to limit now moving there e) why h)

      pub over_once : (tx : List Edit) → MovesOver blocks pages moving there (last_of from) (last_of to) now tx → FreesOnce blocks pages map inodes limit (Ok (renamed.Done tx))
      over_once tx j within area con log_pages same =
          (replace_done blocks pages area map inodes moving (on area con) there held_k shown_k from to now limit log_pages same (allowed within area con log_pages same) j.freed j.target j.led j.put j.frees j.leads j.puts j.lines tx j.leaves).1
