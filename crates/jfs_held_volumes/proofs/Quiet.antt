-- What leaves the volume.
use Rattle.std.proofs.Common.{◌≡◌, ◌⊎◌, ◌<◌, ◌≤◌, ℕ, suc, Bool, true, false, true≢false, List, [], ◌∷◌, length, slice_index_or, Option, Some, IsSome, refl, sym, ap, ◌∙◌, subst, inl, inr, arith}
use Rattle.jfs_ranges.specs.declared.edit.Edit.{Edit}
use Rattle.jfs_ranges.specs.Apply.{touches_tx}
use Rattle.jfs_image_volumes.specs.survival.specs.face.specs.steps.specs.bmap.specs.States.{BlockState, Owned, state_of}
use Rattle.jfs_image_volumes.specs.survival.specs.face.specs.steps.specs.bmap.proofs.States.{changed-at}
use Rattle.jfs_image_volumes.specs.survival.specs.halves.specs.Entry.{edits}
use Rattle.jfs_image_volumes.specs.survival.specs.halves.specs.Marks.{entered_state}
use Rattle.jfs_image_volumes.specs.survival.specs.halves.specs.Change.{Enters, Takes, Tells, HandsOut, GoesHome, Tears, Drops, Writes, WriteTears, Stops, LogStops, Syncs, Points, Knows}
use Rattle.jfs_image_volumes.specs.survival.specs.halves.specs.Both.{BothChange, Changes, GroupIsWritten, GroupFails}
use Rattle.jfs_image_volumes.specs.survival.specs.recovery.specs.records.specs.Redo.{closes_in}
use Rattle.jfs_image_volumes.specs.survival.specs.recovery.specs.objects.specs.Readers.{Readers}
use Rattle.jfs_image_volumes.specs.survival.specs.recovery.specs.objects.specs.Volume.{Volume}
use Rattle.jfs_image_volumes.specs.survival.specs.recovery.specs.kinds.specs.Owner.{Owner}
use Rattle.jfs_image_volumes.specs.survival.specs.recovery.specs.kinds.proofs.Stay.{is_used}
use Rattle.jfs_image_volumes.specs.survival.specs.recovery.specs.Lines.{rest_of}
use Rattle.jfs_image_volumes.specs.survival.specs.face.specs.Places.{is_map_page}
use Rattle.jfs_image_volumes.specs.survival.specs.logged.specs.Logged.{LogsPage}
use Rattle.jfs_image_volumes.specs.survival.specs.Lists.{IsPlain}
use Rattle.jfs_image_volumes.specs.Next.{MayFollow}
use Rattle.jfs_held_volumes.specs.Held.{Mount, Held, IsHeld}
use Rattle.jfs_held_volumes.specs.Changes.{HasTheSame, MayChange, next}
use Rattle.jfs_held_volumes.specs.Laws.{ReplyLaw, QuietLaw}
use Rattle.jfs_held_volumes.proofs.Played.{seen}

-- ---- an entry without edits

-- no edits log what matters of one volume
page_logged : (p : ℕ) (matters : Bool) (page : List ℕ) → LogsPage p matters matters [] page
unfolding rest_of
page_logged p matters page = record {
  whole = λ now why a size. never now why;
  shut = λ gone a size. refl;
  noted = λ gone was. absurd (true≢false (sym was ∙ gone));
}
  where
    never : {A : Type 0} → matters ≡ true → (false ≡ true) ⊎ (matters ≡ false) → A
    never now (inl e) = absurd (true≢false (sym e))
    never now (inr e) = absurd (true≢false (sym now ∙ e))

some_is : (o : Option Owner) (a : Owner) → o ≡ Some a → IsSome o
some_is o a e = subst (λ (x : Option Owner). IsSome x) (sym e) (there a)
  where
    there : (a : Owner) → IsSome (Some a)
    there a = refl

module _ (m : Mount) (x : Held) (held : IsHeld m x) where
  abbrev r : Readers
  r = m.readers

  abbrev v : Volume
  v = x.volume

  -- no page of a map lies past the volume's part
  no_map_past : (p : ℕ) → length x.both.volume.blocks ≤ p → is_map_page m.places p ≡ false
  no_map_past p far = by (is_map_page m.places p) refl
    where
      by : (b : Bool) → is_map_page m.places p ≡ b → b ≡ false
      by false e = refl
      by true e = let near = held.maps_within p e in absurd (omega (arith, near, far))

  follows : (tx : List Edit) → tx ≡ [] → MayFollow r m.places v v tx
  follows tx none = subst (λ (es : List Edit). MayFollow r m.places v v es) (sym none) (record {
    after = record {
      logs = record { owners = λ b was now. refl; pages = λ p was now. refl; logs = λ p. page_logged p _ (v.page p) };
      area = λ b. refl;
      extents = refl;
    };
    sound = held.now.sound;
    used = λ b. refl;
    within = record { blocks = λ b some. absurd (none_taken b some); places = λ e some. absurd (true≢false (sym some)) };
    fixed = λ p e. refl;
  })
    where
      none_taken : (b : ℕ) → 0 < 0 → ⊥
      none_taken b l = omega (arith, l)

pub reply_law : ReplyLaw
reply_law m x h held fits none = record {
  follows = follows m x held (edits h) none;
  keeps = record { no_maps = λ p e. ap (λ (es : List Edit). touches_tx p es) none; within = λ p far. (ap (λ (es : List Edit). touches_tx p es) none, ap (λ (es : List Edit). closes_in p es) none, no_map_past m x held p far) };
  owned = λ b used. ap (λ (list : List BlockState). slice_index_or list b Owned) fits.0.map.states
      ∙ changed-at (λ (c : ℕ) (s : BlockState). entered_state (suc (length x.both.volume.history)) (edits h) c s) x.both.volume.shown.map b (held.mapped b used)
      ∙ ap (λ (es : List Edit). entered_state (suc (length x.both.volume.history)) es b (state_of x.both.volume.shown.map b)) none
      ∙ (let one = is_used m.readers x.volume held.now.sound.agrees b used in held.states.owned b (some_is _ one.0 (seen m x held b ∙ one.1)));
}

-- ---- changes of which nothing is asked

itself : (v : Volume) → HasTheSame v v
itself v = record { extents = refl; area = λ b. refl; used = λ b. refl; in_use = λ n. refl; pages = λ b used. refl }

leaves : (m : Mount) (x : Held) (c : BothChange) → IsPlain c → MayChange m x c x.volume
leaves m x (Changes (Enters h)) p = absurd p
leaves m x (Changes Takes) p = itself x.volume
leaves m x (Changes (Tells n)) p = itself x.volume
leaves m x (Changes HandsOut) p = itself x.volume
leaves m x (Changes (GoesHome q)) p = absurd p
leaves m x (Changes (Tears q sectors fault)) p = absurd p
leaves m x (Changes (Drops q)) p = itself x.volume
leaves m x (Changes (Writes q bytes)) p = absurd p
leaves m x (Changes (WriteTears q bytes sectors fault)) p = absurd p
leaves m x (Changes (Stops fault)) p = itself x.volume
leaves m x (Changes (LogStops fault)) p = itself x.volume
leaves m x (Changes Syncs) p = itself x.volume
leaves m x (Changes Points) p = absurd p
leaves m x (Changes Knows) p = itself x.volume
leaves m x GroupIsWritten p = itself x.volume
leaves m x (GroupFails fault) p = itself x.volume

pub quiet_law : QuietLaw
quiet_law m x [] fits plain = tt
quiet_law m x (c ∷ cs) fits plain = (fits.0, leaves m x c plain.0, quiet_law m (next m x c x.volume) cs fits.1 plain.1)
