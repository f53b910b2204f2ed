-- The entries of a mounted volume: a legal history of a plain file tree.
use Rattle.std.specs.Prelude.{◌≡◌, ◌⊎◌, [], ℕ, Bool, false, List, map, None}
use Rattle.jfs_bits.specs.declared.descriptor.Moment.{Moment}
use Rattle.jfs_disk.specs.Image.{Image, page_of}
use Rattle.jfs_server.specs.shared.specs.legal.specs.served.specs.halves.specs.Parts.{Parts}
use Rattle.jfs_plain.specs.declared.call.Entry.{Entry}
use Rattle.jfs_server.specs.shared.specs.legal.specs.served.specs.Holds.{tree_at, room_at}
use Rattle.jfs_server.specs.shared.specs.legal.specs.served.specs.Laws.{HoldsImage, IsImageOf}
use Rattle.jfs_server.specs.shared.specs.legal.specs.served.specs.shown.specs.kinds.specs.Images.{HasWholeFiles}
use Rattle.jfs_server.specs.shared.specs.legal.specs.served.specs.Legal.{Timed, IsLegal}
use Rattle.jfs_server.specs.shared.specs.legal.specs.History.{at, IsOver}
use Rattle.jfs_server.specs.shared.specs.legal.specs.History as history
use Rattle.jfs_super.specs.Rules.{blocks_of}
use Rattle.jfs_super.specs.declared.fields.Super.{Super}
use Rattle.jfs_plain.specs.Moves.{Same}
use Rattle.jfs_mount.specs.meaning.specs.Readers.{readers}
use Rattle.jfs_mount.specs.meaning.specs.Image.{tree_of, IsConsistentImage}
use Rattle.jfs_mount.specs.meaning.specs.Image as meaning
use Rattle.jfs_run.specs.declared.run.RunEnd.{RunEnd}
use Rattle.jfs_run.specs.declared.run.RunEnd.TheVariants as ends

-- calls that were all handed at this moment
abbrev pub all_at : Moment → List Entry → List Timed
all_at now es = map (at now) es

-- all are legal
abbrev pub AreLegal : (ℕ → ℕ) → ℕ → Moment → Parts → List Entry → Type 0
AreLegal area log_pages now start es = history.AreLegal area log_pages start (all_at now es)

-- ---- a run

-- The replies are those of a plain file tree that is at first the image's, with its room, on a volume that hasn't halted.
pub record FollowsTree (s : Super) (page : ℕ → List ℕ) (now : Moment) (es : List Entry) : Type 0 where
  pub start : Parts
  pub runs : start.halted ≡ None
  pub tree : Same (tree_of s page) (tree_at (meaning.volume_of s page).area start)
  pub room : room_at (meaning.volume_of s page).area s.logpxd.len start ≡ meaning.room_of s page
  pub legal : AreLegal (meaning.volume_of s page).area s.logpxd.len now start es

abbrev pub IsLegalRun : Super → (ℕ → List ℕ) → Moment → List Entry → Type 0
IsLegalRun s page now es = (es ≡ []) ⊎ FollowsTree s page now es

-- ---- a run that is done

-- Its entries are legal from these parts on, and the disk is a clean and consistent image with the tree and the room that the volume has behind the last of them.
pub record HasTreeBehind (s : Super) (area : ℕ → ℕ) (now : Moment) (start : Parts) (es : List Entry) (image : Image) : Type 0 where
  pub last : Parts
  pub legal : IsLegal area s.logpxd.len start (all_at now es) last
  pub image_is : IsImageOf s area last (page_of image)

-- so from the volume that begins as the image's
pub record EndsOnTree (s : Super) (page : ℕ → List ℕ) (now : Moment) (es : List Entry) (image : Image) : Type 0 where
  pub follows : FollowsTree s page now es
  pub ends : HasTreeBehind s (meaning.volume_of s page).area now follows.start es image

-- Where it began on a consistent image in which no tree of the maps' files and of the bad blocks' breaks a rule.
abbrev pub LeavesImage : Super → Image → Moment → List Entry → Image → Type 0
LeavesImage s old now es new = IsConsistentImage s (page_of old) → HasWholeFiles (readers (blocks_of s)) (page_of old) → EndsOnTree s (page_of old) now es new

-- it was done, and the volume wasn't to be left
abbrev pub IfUnmounted : RunEnd → Bool → Type 0 → Type 0
IfUnmounted end is_left fact = end ≡ ends.Done → is_left ≡ false → fact

-- ---- for the prover

-- The entries are legal from a volume on that holds the image's tree, and these parts are what they leave, as far as that is known where memory ran out for a call.
pub record HasReplied (s : Super) (page : ℕ → List ℕ) (now : Moment) (es : List Entry) (p : Parts) : Type 0 where
  pub start : Parts
  pub holds : HoldsImage s page start
  pub runs : start.halted ≡ None
  pub over : IsOver (meaning.volume_of s page).area s.logpxd.len start (all_at now es) p
