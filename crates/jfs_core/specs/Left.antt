-- One crash of a core, by choices.
use Rattle.std.specs.Prelude.{◌≡◌, ℕ, suc, ◌-◌, Bool, ◌&&◌, nat_le, List, [], ◌∷◌, get_or}
use Rattle.jfs_disk.specs.Image.{Image}
use Rattle.jfs_disk.specs.Crash.{IsCrashImage}
use Rattle.jfs_disk.specs.Choice.{left_by, choice_of, IsChosen}
use Rattle.jfs_disk.specs.declared.choice.Choice.{Choice}
use Rattle.jfs_core.specs.Image.{History, page_after}
use Rattle.jfs_core.specs.Core.{Core, Block, low_of}
use Rattle.jfs_core.specs.Sound.{IsLogImage, Recovered, redone_image}

-- the newest sync count that is stable in the log
abbrev pub stable_count : Core → ℕ
stable_count core = get_or core.syncpoints (core.points_stable - 1) 0

-- a group write that a crash cut short left this many entries in the log
abbrev pub may_hold : Core → ℕ → Bool
may_hold core n = nat_le core.durable n && nat_le n core.taken

-- A crash image of the low part by the choices, and its redo from the newest stable sync count up to entry n. The pair is one
-- that a crash may leave, and redo recovers it.
pub record IsCrash (core : Core) (choices : List Choice) (n : ℕ) (image : Image) : Type 0 where
  pub low : Image
  pub chosen : IsChosen choices (low_of core) low
  pub left : IsCrashImage (low_of core) low
  pub log : IsLogImage core (stable_count core) n
  pub redone : image ≡ redone_image core low (stable_count core) n
  pub recovered : Recovered core low (stable_count core) n

-- ---- page by page: for the prover

-- the low part as a crash leaves it by the choices, from page n on
abbrev pub chosen_from : List Choice → ℕ → List Block → Image
chosen_from choices n [] = []
chosen_from choices n (block ∷ blocks) = left_by (choice_of choices n) block.pages block.pages.seen ∷ chosen_from choices (suc n) blocks

-- each of these pages after entries
abbrev pub redone_from : List Choice → History → ℕ → List Block → Image
redone_from choices entries n [] = []
redone_from choices entries n (block ∷ blocks) = page_after n entries (left_by (choice_of choices n) block.pages block.pages.seen) ∷ redone_from choices entries (suc n) blocks
