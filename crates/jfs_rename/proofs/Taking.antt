-- The whole call: from what its parts answer to what it answers.
use Rattle.std.proofs.Common.{◌≡◌, ◌⊎◌, ◌<◌, refl, sym, ap, ◌∙◌, subst, inl, inr, ℕ, Bool, true, false, true≢false, ◌||◌, ◌==◌, nat_lt, if◌then◌else◌, List, [], length, Option, Some, None, Result, Ok, Err, arith}
use Rattle.jfs_bits.specs.declared.descriptor.Moment.{Moment}
use Rattle.jfs_bmap.specs.States.{Blocks, Reserved, changed, is_in_list}
use Rattle.jfs_bmap.proofs.Puts.{in_list-none, put-nowhere}
use Rattle.jfs_disk.specs.Image.{Image, page_of}
use Rattle.jfs_imap.specs.Inodes.{Inodes}
use Rattle.jfs_ranges.specs.declared.edit.Edit.{Edit}
use Rattle.jfs_tree.specs.Edit.{count_in}
use Rattle.jfs_plain.specs.Tree.{Tree, Place, place_at, passes, is_dir, and_then}
use Rattle.jfs_plain.specs.Moves.{shifts}
use Rattle.jfs_plain.specs.Step.{Room, rename, departs, gained, why_barred, links_in, links_of}
use Rattle.jfs_plain.specs.declared.refusal.Refusal.{Refusal}
use Rattle.jfs_plain.specs.declared.refusal.Refusal.TheVariants.{NotFound}
use Rattle.jfs_plain.specs.declared.reply.Reply.TheVariants.{Done}
use Rattle.jfs_link.specs.objects.specs.Objects.{has_names}
use Rattle.jfs_link.specs.meaning.specs.Readers.{readers}
use Rattle.jfs_link.specs.meaning.specs.Consistent.{IsConsistent}
use Rattle.jfs_link.specs.way.specs.Answer.{is_open}
use Rattle.jfs_link.specs.way.specs.Way.{name_from}
use Rattle.jfs_link.specs.way.specs.Walk.{IsHeld, IsShown, tree_in}
use Rattle.jfs_link.specs.way.specs.Volume.{volume_of}
use Rattle.jfs_link.specs.way.specs.declared.object.Held.{Held}
use Rattle.jfs_link.specs.steps.specs.Place.{last_of}
use Rattle.jfs_link.specs.claim.specs.Take.{reserving}
use Rattle.jfs_link.specs.place.specs.Place.{occupant_at, if_found}
use Rattle.jfs_link.specs.Link.{ReservesFree, ReservesTaken, IfConsistentBy}
use Rattle.jfs_rename_steps.specs.Moves.{MovesOver, OverRefused}
use Rattle.jfs_rename_steps.specs.declared.moving.Moving.{Moving}
use Rattle.jfs_rename_steps.proofs.Taken.{over_takes}
use Rattle.jfs_rename.specs.Asks.{asked, asked_of, asked_at, with_room, room_for, changes_nothing, MayMove, MayRename, RefusesRename, IsAskedOf, IsAskedOn}
use Rattle.jfs_rename.specs.Ends.{AreHeld, AreShown, AreDirectories, moving_on}
use Rattle.jfs_rename.specs.Permits.{free_check, over_check, permitted}
use Rattle.jfs_rename.specs.Renames.{MovesReserved, RenamesAs, StaysFresh}
use Rattle.jfs_rename.specs.Through.{inside_of}
use Rattle.jfs_rename.specs.declared.permits.Asked.{Asked}
use Rattle.jfs_rename.specs.declared.permits.Asked.TheVariants.{Same, Free, Over}
use Rattle.jfs_rename.specs.declared.renaming.Renamed.{Renamed}
use Rattle.jfs_rename.specs.declared.renaming.Renamed.TheVariants as renamed

-- ---- no block is taken

same_test : (b : ℕ) → (is_in_list [] b || nat_lt 0 (count_in b [])) ≡ is_in_list [] b
same_test b = by (is_in_list [] b)
  where
    by : (x : Bool) → (x || false) ≡ x
    by true = refl
    by false = refl

none_taken : (m : Blocks) → reserving [] [] m ≡ m
none_taken m = (λ i. changed (λ b s. if same_test b i then Reserved else s) m) ∙ put-nowhere Reserved [] m in_list-none

pub none_reserved : (m : Blocks) → ReservesFree m m []
none_reserved m = record { free = λ b l. absurd (omega (arith, l)); once = λ b. omega arith; now_is = sym (none_taken m) }

-- ---- what was said of the view after another call, of the one before

pub back_to : (R : ℕ → (ℕ → List ℕ) → List ℕ → List ℕ → Type 0) (b now : ℕ) (image shown : Image) (old told_old new told_new : List ℕ) → now ≡ b → shown ≡ image → told_old ≡ old → told_new ≡ new → R now (page_of shown) told_old told_new → R b (page_of image) old new
back_to R b now image shown old told_old new told_new e f h k x = subst (λ (n : List ℕ). R b (page_of image) old n) k (subst (λ (n : List ℕ). R b (page_of image) n told_new) h (subst (λ (i : Image). R b (page_of i) told_old told_new) f (subst (λ (c : ℕ). R c (page_of shown) told_old told_new) e x)))

-- ---- on any volume

module _ (blocks : ℕ) (pages : ℕ → List ℕ) (before after : Blocks) (inodes : Inodes) (from to : List (List ℕ)) (limit : ℕ) (now : Moment) where
  pub free_meets : (moving : Moving) → asked blocks pages before inodes limit from to ≡ Ok (Free moving) → (r : Result Renamed Refusal) → MovesReserved blocks pages moving (last_of from) (last_of to) now before after r
      → RenamesAs blocks pages before after inodes from to limit now r
  free_meets moving e (Ok (renamed.Done tx)) (m, reserves) = ((Free moving, e, m), reserves)
  free_meets moving e (Ok renamed.Same) m = absurd m
  free_meets moving e (Ok renamed.NeedsLog) m = (moving, e)
  free_meets moving e (Err why) (inl o) = inr (inr o)
  free_meets moving e (Err why) (inr s) = inr (inl (Free moving, e, s))

module _ (blocks : ℕ) (pages : ℕ → List ℕ) (map : Blocks) (inodes : Inodes) (from to : List (List ℕ)) (limit : ℕ) (now : Moment) (moving : Moving) (there : Held) (e : asked blocks pages map inodes limit from to ≡ Ok (Over moving there)) where
  pub over_meets : (tx : List Edit) → MovesOver blocks pages moving there (last_of from) (last_of to) now tx → RenamesAs blocks pages map map inodes from to limit now (Ok (renamed.Done tx))
  over_meets tx j = ((Over moving there, e, j), ([], over_takes blocks pages moving there (last_of from) (last_of to) now tx j, none_reserved map))

  pub over_kept : (why : Refusal) → OverRefused blocks pages moving there (last_of from) (last_of to) now why → RenamesAs blocks pages map map inodes from to limit now (Err why)
  over_kept why h = inr (inl (Over moving there, e, h))

  -- what stands there was found under the name
  pub over_found : name_from blocks pages inodes moving.target (last_of to) ≡ Ok there
  over_found = at_moving (moving_on blocks pages inodes from to) e
    where
      in_room : (r : Result (Unit {0}) Refusal) (a : Asked) → and_then r (λ it. Ok a) ≡ Ok (Over moving there) → a ≡ Over moving there
      in_room (Ok it) a h = cc (h)
      in_room (Err w) a h = absurd (cc (h))

      of_room : (target : Held) (a : Asked) → with_room blocks pages map target (last_of to) a ≡ Ok (Over moving there) → a ≡ Over moving there
      of_room target a h = by (changes_nothing a) h
        where
          by : (x : Bool) → (if x then Ok a else and_then (room_for blocks pages map target (last_of to)) (λ it. Ok a)) ≡ Ok (Over moving there) → a ≡ Over moving there
          by true h = cc (h)
          by false h = in_room (room_for blocks pages map target (last_of to)) a h

      ended : (m : Moving) (k : Held) (r : Result (Unit {0}) Refusal) → and_then (and_then r (λ it. Ok (Over m k))) (with_room blocks pages map m.target (last_of to)) ≡ Ok (Over moving there) → Over m k ≡ Over moving there
      ended m k (Ok it) h = of_room m.target (Over m k) h
      ended m k (Err w) h = absurd (cc (h))

      not_free : (m : Moving) (r : Result (Unit {0}) Refusal) → and_then (and_then r (λ it. Ok (Free m))) (with_room blocks pages map m.target (last_of to)) ≡ Ok (Over moving there) → ⊥
      not_free m (Ok it) h = no (of_room m.target (Free m) h)
        where
          no : Free m ≡ Over moving there → ⊥
          no h = cc (h)
      not_free m (Err w) h = absurd (cc (h))

      not_same : (m : Moving) → with_room blocks pages map m.target (last_of to) Same ≡ Ok (Over moving there) → ⊥
      not_same m h = no (of_room m.target Same h)
        where
          no : Same ≡ Over moving there → ⊥
          no h = cc (h)

      same_moving : (m : Moving) (k : Held) → Over m k ≡ Over moving there → (m ≡ moving) × (k ≡ there)
      same_moving m k h = (cc (h), cc (h))

      found_is : (r : Result Held Refusal) (k : Held) → if_found r ≡ Ok (Some k) → r ≡ Ok k
      found_is (Ok o) k h = ap (λ (x : Held). Ok x) (cc (h))
      found_is (Err w) k h = by w h
        where
          by : (w : Refusal) → if_found (Err w) ≡ Ok (Some k) → Err w ≡ Ok k
          by w h = absurd (never w h)
            where
              never : (w : Refusal) → if_found (Err w) ≡ Ok (Some k) → ⊥
              never NotFound h = cc (h)
              never w h = cc (h)

      at_found : (m : Moving) (inside : Bool) (found : Option Held) → occupant_at blocks pages inodes m.target (last_of to) ≡ Ok found → asked_at blocks pages map limit to m inside found ≡ Ok (Over moving there) → name_from blocks pages inodes moving.target (last_of to) ≡ Ok there
      at_found m inside None o h = absurd (not_free m (free_check m inside) h)
      at_found m inside (Some k) o h = by (k.number == m.object.number) h
        where
          by : (x : Bool) → and_then (if x then Ok Same else and_then (over_check blocks limit m.object k inside) (λ it. Ok (Over m k))) (with_room blocks pages map m.target (last_of to)) ≡ Ok (Over moving there) → name_from blocks pages inodes moving.target (last_of to) ≡ Ok there
          by true h = absurd (not_same m h)
          by false h = let s = same_moving m k (ended m k (over_check blocks limit m.object k inside) h) in
              subst (λ (x : Moving). name_from blocks pages inodes x.target (last_of to) ≡ Ok there) s.0 (subst (λ (x : Held). name_from blocks pages inodes m.target (last_of to) ≡ Ok x) s.1 (found_is (name_from blocks pages inodes m.target (last_of to)) k o))

      at_occupant : (m : Moving) (inside : Bool) (r : Result (Option Held) Refusal) → occupant_at blocks pages inodes m.target (last_of to) ≡ r → and_then r (asked_at blocks pages map limit to m inside) ≡ Ok (Over moving there) → name_from blocks pages inodes moving.target (last_of to) ≡ Ok there
      at_occupant m inside (Ok found) o h = at_found m inside found o h
      at_occupant m inside (Err w) o h = absurd (cc (h))

      at_inside : (m : Moving) (r : Result Bool Refusal) → and_then r (λ inside. and_then (occupant_at blocks pages inodes m.target (last_of to)) (asked_at blocks pages map limit to m inside)) ≡ Ok (Over moving there) → name_from blocks pages inodes moving.target (last_of to) ≡ Ok there
      at_inside m (Ok inside) h = at_occupant m inside (occupant_at blocks pages inodes m.target (last_of to)) refl h
      at_inside m (Err w) h = absurd (cc (h))

      at_moving : (r : Result Moving Refusal) → and_then r (asked_of blocks pages map inodes limit to) ≡ Ok (Over moving there) → name_from blocks pages inodes moving.target (last_of to) ≡ Ok there
      at_moving (Ok m) h = at_inside m (inside_of blocks pages inodes m.object to) h
      at_moving (Err w) h = absurd (cc (h))
