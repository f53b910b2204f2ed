-- A run of a mounted volume, piece by piece.
use Rattle.std.proofs.Common.{◌&&◌, nat_lt, refl, sym, ap, ◌∙◌, ℕ, Bool, [], ◌∷◌, length, map, arith}
use Rattle.jfs_disk.specs.Image.{Image, page_of}
use Rattle.jfs_mounted_held.specs.shown.specs.imap.specs.Inodes.{Inodes}
use Rattle.jfs_mounted_held.specs.shown.specs.bmap.specs.States.{Blocks, is_owned}
use Rattle.jfs_mounted_held.specs.shown.specs.objects.specs.Image.{extent_place}
use Rattle.jfs_mounted_held.specs.shown.specs.meaning.specs.Readers.{readers}
use Rattle.jfs_mounted_held.specs.shown.specs.way.specs.Volume.{volume_of}
use Rattle.jfs_commits_held.specs.volume_calls.specs.halves.specs.Change.{Enters}
use Rattle.jfs_commits_held.specs.volume_calls.specs.halves.specs.Both.{Changes}
use Rattle.jfs_commits_held.specs.volume_calls.specs.halves.specs.Entry.{Happened}
use Rattle.jfs_commits_held.specs.volume_calls.specs.halves.specs.Parts.{Parts}
use Rattle.jfs_commits_held.specs.volume_calls.specs.volume.specs.data_steps.specs.objects.specs.Volume.{Volume}
use Rattle.jfs_commits_held.specs.joined_held.specs.held.specs.Held.{Mount, Held}
use Rattle.jfs_commits_held.specs.joined_held.specs.held.specs.Changes.{HasTheSame, LeadsTo, next, leaving}
use Rattle.jfs_commits_held.specs.joined_held.specs.held.proofs.Crash.{crash_law as crash_of_changes}
use Rattle.jfs_commits_held.specs.joined_held.specs.held.proofs.Kept.{one, part_size, replaced}
use Rattle.jfs_commits_held.specs.joined_held.specs.held.proofs.Quiet.{reply_law as leaves_itself}
use Rattle.jfs_commits_held.specs.joined_held.specs.Held.{volume_at}
use Rattle.jfs_mounted_held.proofs.Mounted.{mounted_law}
use Rattle.jfs_runs_held.specs.Runs.{Point, held_in, IsHeldIn, IsPiece, IsRun, starts, goes_on, PiecesLaw, Replies, ReplyLaw, CrashLaw}

pub pieces_law : PiecesLaw
pieces_law = record {
  calls = λ m area x new put h w run. record { may = run.may; held = run.held };
  commits = λ m area x new run. record { may = run.may; held = run.held };
}

-- ---- a reply

module _ (m : Mount) (area : ℕ → ℕ) (asked : Bool) (x : Point) (new : Parts) (h : Happened) (is_held : IsHeldIn m area x) (replies : Replies asked x new h) where
  abbrev v : Volume
  v = volume_at area x.parts

  abbrev y : Held
  y = held_in area x

  leads : LeadsTo m y h v
  leads = leaves_itself m y h is_held.held (replies.moves.fit.0, tt) replies.none

  same : HasTheSame v (volume_at area new)
  same = record {
    extents = ap (λ (i : Inodes). map extent_place i.extents) replies.inodes;
    area = λ b. refl;
    used = λ b. ap (λ (k : Blocks). nat_lt b (length k.states) && is_owned k b) replies.map;
    in_use = λ n. ap (λ (i : Inodes). (volume_of (page_of x.parts.view) area x.parts.map i).in_use n) replies.inodes;
    pages = λ b used. ap (λ (image : Image). page_of image b) replies.view;
  }

  replied : IsPiece m area x (leaving v (Changes (Enters h) ∷ [])) new
  replied = record {
    may = ((replies.moves.fit.0, tt), leads, tt);
    held = record {
      held = replaced m (next m y (Changes (Enters h)) v) (volume_at area new) (one m y is_held.held (Changes (Enters h)) v (replies.moves.fit.0, tt) leads) same;
      readers_are = ap (λ (k : Blocks). readers (length k.states)) replies.map ∙ is_held.readers_are;
      blocks = is_held.blocks ∙ sym (ap (λ (k : Blocks). length k.states) replies.map);
      extents = ap (λ (i : Inodes). length i.extents) replies.inodes ∙ is_held.extents;
      within = (let low = is_held.within in let size = ap (λ (k : Blocks). length k.states) replies.map in let part = part_size x.both (Changes (Enters h)) in omega (arith, low, size, part));
    };
  }

pub reply_law : ReplyLaw
reply_law m area asked x new h is_held replies = replied m area asked x new h is_held replies

-- ---- a run

held_by : (m : Mount) (area : ℕ → ℕ) (start x : Point) → IsHeldIn m area start → IsRun m area start x → IsHeldIn m area x
held_by m area start x held starts = held
held_by m area start x held (goes_on y ds new run piece) = piece.held

pub crash_law : CrashLaw
crash_law s count old p log mount sound x ds new run piece k =
    crash_of_changes _ (held_in _ x) ds (held_by _ _ _ x (mounted_law s count old p log mount sound) run).held piece.may k
