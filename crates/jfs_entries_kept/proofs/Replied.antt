-- A reply joins.
use Rattle.std.proofs.Common.{ℕ, true, true≢false, [], ◌∷◌, refl, sym, subst, arith}
use Rattle.std.proofs.lemmas.List.{append-nil}
use Rattle.jfs_bits.specs.declared.descriptor.Moment.{Moment}
use Rattle.jfs_kept_volumes.specs.volume_calls.specs.plain.specs.declared.call.Request.{Request}
use Rattle.jfs_kept_volumes.specs.volume_calls.specs.plain.specs.declared.reply.Reply.{Reply}
use Rattle.jfs_kept_volumes.specs.volume_calls.specs.halves.specs.Entry.{Happened}
use Rattle.jfs_kept_volumes.specs.volume_calls.specs.halves.specs.Change.{Enters}
use Rattle.jfs_kept_volumes.specs.volume_calls.specs.halves.specs.Both.{Changes}
use Rattle.jfs_kept_volumes.specs.volume_calls.specs.halves.specs.Moves.{Moves}
use Rattle.jfs_kept_volumes.specs.volume_calls.specs.halves.specs.Parts.{Parts}
use Rattle.jfs_kept_volumes.specs.volume_calls.specs.volume.specs.Join.{entry_with, with_entry, unchanged}
use Rattle.jfs_kept_volumes.specs.volume_calls.specs.volume.proofs.Joining.{joins_moves}
use Rattle.jfs_kept_volumes.specs.volume_calls.specs.volume.specs.data_steps.specs.objects.specs.Volume.{Volume}
use Rattle.jfs_kept_volumes.specs.joined_held.specs.held.specs.survival.proofs.Changes.{counted}
use Rattle.jfs_kept_volumes.specs.joined_held.specs.held.specs.Held.{Mount, Held, face_at}
use Rattle.jfs_kept_volumes.specs.joined_held.specs.held.specs.Changes.{HasTheSame, LeadsTo, AllMay, leaving}
use Rattle.jfs_kept_volumes.specs.joined_held.specs.held.proofs.Kept.{before}
use Rattle.jfs_kept_volumes.specs.joined_held.specs.held.proofs.Quiet.{reply_law as leaves_itself}
use Rattle.jfs_kept_volumes.specs.joined_held.specs.Held.{blocks_at, volume_at, held_at}
use Rattle.jfs_kept_volumes.specs.Keeper.{Keeper}
use Rattle.jfs_kept_volumes.specs.Kept.{IsHeldAtRest}
use Rattle.jfs_kept_volumes.proofs.Made.{made_law, same_mounted}
use Rattle.jfs_kept_volumes.proofs.Rests.{rest_law}
use Rattle.jfs_entries_kept.specs.Entries.{Comes, replied, ReplyLaw}

module _ (m : Mount) (area : ℕ → ℕ) (client line : ℕ) (request : Request) (now : Moment) (reply : Reply) (old : Parts) (x : Keeper) (is : IsHeldAtRest m area old x) where
  abbrev h : Happened
  h = unchanged client line request now reply x.both.volume

  abbrev new : Parts
  new = with_entry (entry_with client line request reply) old

  abbrev v : Volume
  v = volume_at area old

  abbrev start : Held
  start = held_at x.both x.core x.volumes area old

  moves : Moves true true old new x.both.volume (Enters h ∷ [])
  moves = joins_moves true true client line request now reply old x.both.volume is.stands

  pub leads : LeadsTo m start h v
  leads = leaves_itself m start h is.held.held (moves.fit.0, tt) refl

  all : AllMay m start (leaving v (Changes (Enters h) ∷ []))
  all = ((moves.fit.0, tt), leads, tt)

  same : HasTheSame v (volume_at area new)
  same = record { extents = refl; area = λ b. refl; used = λ b. refl; in_use = λ n. refl; pages = λ b used. refl }

  joined : Comes m area new (h ∷ []) x (replied m area old h x)
  joined = record {
    rests = made_law m area old new (leaving v (Changes (Enters h) ∷ [])) x is all moves.stands (rest_law (blocks_at old) x.both (Enters h) is.rest moves.fit.0 (λ e. absurd (true≢false (sym e)))) (record { blocks = refl; extents = refl }) same;
    grows = record {
      history = refl;
      points_are = sym (append-nil x.both.volume.points);
      volumes = λ k low. before m start is.held.held (Changes (Enters h)) v k (let number = counted (face_at m) x.both x.core is.held.held.core_is in omega (arith, low, number));
      mounted = same_mounted m start (leaving v (Changes (Enters h) ∷ []));
    };
  }

pub reply_law : ReplyLaw
reply_law m area client line request now reply old new x is e =
    subst (λ (p : Parts). Comes m area p (unchanged client line request now reply x.both.volume ∷ []) x (replied m area old (unchanged client line request now reply x.both.volume) x)) (sym e) (joined m area client line request now reply old x is)
