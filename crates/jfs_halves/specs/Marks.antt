-- What an entry makes of the block map, and which pages it frees.
use Rattle.std.specs.Prelude.{◌≡◌, ℕ, Bool, true, false, not, ◌&&◌, ◌||◌, if◌then◌else◌, List, [], ◌∷◌, Option, Some, None}
use Rattle.jfs_ranges.specs.declared.edit.Edit.{Edit}
use Rattle.jfs_ranges.specs.Apply.{touches_tx}
use Rattle.jfs_map_files.specs.bmap.specs.States.{Blocks, BlockState, Free, Owned, state_of, changed, released_state}
use Rattle.jfs_records.specs.Marks.{mark_of}
use Rattle.jfs_records.specs.Redo.{is_noredo}

-- ---- blocks

abbrev pub is_taking : Option Bool → Bool
is_taking None = false
is_taking (Some taken) = taken

abbrev pub is_freeing : Option Bool → Bool
is_freeing None = false
is_freeing (Some taken) = not taken

-- whether some edit takes block b, as new inodes do with theirs; and whether some edit frees it
abbrev pub takes : ℕ → List Edit → Bool
takes b [] = false
takes b (e ∷ es) = is_taking (mark_of b e) || takes b es

abbrev pub frees : ℕ → List Edit → Bool
frees b [] = false
frees b (e ∷ es) = is_freeing (mark_of b e) || frees b es

-- A block that entry n takes has an owner; an owned block that it frees is busy for it, also where it took the block itself.
abbrev pub taken_state : List Edit → ℕ → BlockState → BlockState
taken_state tx b s = if takes b tx then Owned else s

abbrev pub entered_state : ℕ → List Edit → ℕ → BlockState → BlockState
entered_state n tx b s = if frees b tx then released_state n (taken_state tx b s) else taken_state tx b s

abbrev pub map_after : ℕ → List Edit → Blocks → Blocks
map_after n tx map = changed (λ b s. entered_state n tx b s) map

-- Each block that edits take is free before, so none is busy.
abbrev pub TakeFree : Blocks → List Edit → Type 0
TakeFree map tx = (b : ℕ) → takes b tx ≡ true → state_of map b ≡ Free

-- ---- pages

-- whether edits free page p: a NoRedo of it that no line of it follows
abbrev pub frees_page : ℕ → List Edit → Bool
frees_page p [] = false
frees_page p (e ∷ es) = (is_noredo p e && not (touches_tx p es)) || frees_page p es
