-- What is asked of any volume, part by part.
use Rattle.std.proofs.Common.{◌≡◌, ◌⊎◌, sym, ap, ◌∙◌, inl, inr, ℕ, Bool, true, false, true≢false, ◌==◌, if◌then◌else◌, List, Option, Some, None, Result, Ok, Err, IfSome}
use Rattle.jfs_disk.specs.declared.disk.Fault.{Fault}
use Rattle.jfs_imap.specs.Inodes.{Inodes}
use Rattle.jfs_bmap.specs.States.{Blocks}
use Rattle.jfs_plain.specs.Tree.{and_then}
use Rattle.jfs_plain.specs.declared.refusal.Refusal.{Refusal}
use Rattle.jfs_plain.specs.declared.refusal.Refusal.TheVariants as why
use Rattle.jfs_link.specs.way.specs.Answer.{is_open, Answers, CarriesCause}
use Rattle.jfs_link.specs.way.specs.Walk.{IsHeld}
use Rattle.jfs_link.specs.way.specs.declared.object.Held.{Held}
use Rattle.jfs_link.specs.steps.specs.Place.{last_of}
use Rattle.jfs_link.specs.place.specs.Place.{occupant_at}
use Rattle.jfs_rename_steps.specs.declared.moving.Moving.{Moving}
use Rattle.jfs_rename.specs.Ends.{AreHeld, AreDirectories, moving_on}
use Rattle.jfs_rename.specs.Through.{inside_of}
use Rattle.jfs_rename.specs.Permits.{free_check, over_check, permitted}
use Rattle.jfs_rename.specs.Asks.{asked, asked_of, asked_at, with_room, room_for, changes_nothing, IsAskedOf}
use Rattle.jfs_rename.specs.declared.permits.Asked.{Asked}
use Rattle.jfs_rename.specs.declared.permits.Asked.TheVariants.{Same, Free, Over}

-- what is neither a fault nor want of memory raises no count
pub closed_carries : (before now : Fault) (w : Refusal) → is_open w ≡ false → now ≡ before → CarriesCause before now w
closed_carries before now why.NotFound h e = e
closed_carries before now why.NotDir h e = e
closed_carries before now why.IsDir h e = e
closed_carries before now why.NotFile h e = e
closed_carries before now why.Exists h e = e
closed_carries before now why.NotEmpty h e = e
closed_carries before now why.TooManyLinks h e = e
closed_carries before now why.FileTooBig h e = e
closed_carries before now why.IntoItself h e = e
closed_carries before now (why.NoSpace free) h e = e
closed_carries before now why.NoInodes h e = e
closed_carries before now (why.ReadOnly fault) h e = e
closed_carries before now (why.IoFault fault) h e = absurd (true≢false h)
closed_carries before now why.OutOfMemory h e = e
closed_carries before now (why.Damaged page rule) h e = e
closed_carries before now (why.TooDeep inode) h e = e

-- ---- what is asked is held

module _ (blocks : ℕ) (inodes : Inodes) (limit : ℕ) (moving : Moving) (inside : Bool) (held : AreHeld blocks inodes moving) (dirs : AreDirectories moving) where
  pub asked_held : (found : Option Held) → IfSome found (IsHeld blocks inodes) → (a : Asked) → Ok a ≡ permitted blocks limit moving inside found → IsAskedOf blocks inodes a
  asked_held found held_f a h = by found held_f (sym h)
    where
      free : (r : Result (Unit {0}) Refusal) → and_then r (λ it. Ok (Free moving)) ≡ Ok a → IsAskedOf blocks inodes a
      free (Ok it) h = subst_of (cc (h))
        where
          subst_of : Free moving ≡ a → IsAskedOf blocks inodes a
          subst_of e = Rattle.std.proofs.Common.subst (IsAskedOf blocks inodes) e (held, dirs)
      free (Err w) h = absurd (cc (h))

      over : (there : Held) → IsHeld blocks inodes there → (r : Result (Unit {0}) Refusal) → and_then r (λ it. Ok (Over moving there)) ≡ Ok a → IsAskedOf blocks inodes a
      over there k (Ok it) h = subst_of (cc (h))
        where
          subst_of : Over moving there ≡ a → IsAskedOf blocks inodes a
          subst_of e = Rattle.std.proofs.Common.subst (IsAskedOf blocks inodes) e (held, dirs, k)
      over there k (Err w) h = absurd (cc (h))

      same : Same ≡ a → IsAskedOf blocks inodes a
      same e = Rattle.std.proofs.Common.subst (IsAskedOf blocks inodes) e tt

      by : (found : Option Held) → IfSome found (IsHeld blocks inodes) → permitted blocks limit moving inside found ≡ Ok a → IsAskedOf blocks inodes a
      by None held_f h = free (free_check moving inside) h
      by (Some there) held_f h = of (there.number == moving.object.number) h
        where
          of : (x : Bool) → (if x then Ok Same else and_then (over_check blocks limit moving.object there inside) (λ it. Ok (Over moving there))) ≡ Ok a → IsAskedOf blocks inodes a
          of true h = same (cc (h))
          of false h = over there held_f (over_check blocks limit moving.object there inside) h

-- ---- the room comes last

module _ (blocks : ℕ) (pages : ℕ → List ℕ) (map : Blocks) (inodes : Inodes) (limit : ℕ) (from to : List (List ℕ)) (moving : Moving) (met : moving_on blocks pages inodes from to ≡ Ok moving) (inside : Bool) (told : inside_of blocks pages inodes moving.object to ≡ Ok inside)
    (found : Option Held) (stands : occupant_at blocks pages inodes moving.target (last_of to) ≡ Ok found) (a : Asked) (may : Ok a ≡ permitted blocks limit moving inside found) (changes : changes_nothing a ≡ false) where
  come_to_room : asked blocks pages map inodes limit from to ≡ and_then (room_for blocks pages map moving.target (last_of to)) (λ it. Ok a)
  come_to_room = ap (λ (r : Result Moving Refusal). and_then r (asked_of blocks pages map inodes limit to)) met
      ∙ ap (λ (r : Result Bool Refusal). and_then r (λ inside. and_then (occupant_at blocks pages inodes moving.target (last_of to)) (asked_at blocks pages map limit to moving inside))) told
      ∙ ap (λ (r : Result (Option Held) Refusal). and_then r (asked_at blocks pages map limit to moving inside)) stands
      ∙ ap (λ (r : Result Asked Refusal). and_then r (with_room blocks pages map moving.target (last_of to))) (sym may)
      ∙ ap (λ (x : Bool). if x then Ok a else and_then (room_for blocks pages map moving.target (last_of to)) (λ it. Ok a)) changes

  pub asked_is : (it : Unit {0}) → room_for blocks pages map moving.target (last_of to) ≡ Ok it → asked blocks pages map inodes limit from to ≡ Ok a
  asked_is it h = come_to_room ∙ ap (λ (r : Result (Unit {0}) Refusal). and_then r (λ it. Ok a)) h

  pub asked_short : (w : Refusal) → (room_for blocks pages map moving.target (last_of to) ≡ Err w) ⊎ (is_open w ≡ true) → (asked blocks pages map inodes limit from to ≡ Err w) ⊎ (is_open w ≡ true)
  asked_short w (inl h) = inl (come_to_room ∙ ap (λ (r : Result (Unit {0}) Refusal). and_then r (λ it. Ok a)) h)
  asked_short w (inr h) = inr h
