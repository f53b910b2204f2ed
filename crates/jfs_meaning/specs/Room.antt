-- The room of a volume: what decides whether a call finds space.
use Rattle.std.specs.Prelude.{ℕ, zero, suc, ◌*◌, ◌/◌, Bool, false, not, ◌&&◌, ◌==◌, if◌then◌else◌, List, length, get_or, is_some, Option, Some, None}
use Rattle.jfs_bits.specs.Bits.{any_below, count_below, is_free_run}
use Rattle.jfs_super.specs.Geometry.{file_limit_of}
use Rattle.jfs_dtree.specs.Room.{is_deep_below}
use Rattle.jfs_plain.specs.Step.{Room}
use Rattle.jfs_objects.specs.Readers.{Readers}
use Rattle.jfs_objects.specs.Volume.{Volume, home, room}
use Rattle.jfs_objects.specs.Objects.{Object, objects, has_names}
use Rattle.jfs_objects.specs.Owners.{owners}

-- ---- blocks

abbrev pub is_owned : Readers → Volume → ℕ → Bool
is_owned r v b = not (owners r v b == 0)

-- how many of the first blocks have no owner
abbrev pub free_blocks : Readers → Volume → ℕ → ℕ
free_blocks r v blocks = count_below blocks (λ b. owners r v b == 0)

-- an inode extent takes an aligned run of four blocks
abbrev pub has_run : Readers → Volume → ℕ → Bool
has_run r v blocks = any_below (blocks / 4) (is_free_run (is_owned r v) 2)

-- ---- inodes

abbrev pub or_else : Option ℕ → Option ℕ → Option ℕ
or_else None other = other
or_else (Some n) other = Some n

-- the lowest number below a bound that passes a test
unfoldable pub lowest : ℕ → (ℕ → Bool) → Option ℕ
lowest zero test = None
lowest (suc n) test = or_else (lowest n test) (if test n then Some n else None)

-- its extent is there, and it is no object
abbrev pub is_free_inode : Readers → Volume → ℕ → Bool
is_free_inode r v n = is_some (home v.extents n) && not (is_some (objects r v n))

abbrev pub is_empty_place : Volume → ℕ → Bool
is_empty_place v place = not (is_some (get_or v.extents place None))

-- each place of an inode extent stands for 32 numbers
abbrev pub first_of : Option ℕ → Option ℕ
first_of None = None
first_of (Some place) = Some (32 * place)

-- The inode that a new object gets: the lowest free one of the extents that are there; else, where there is a run for one more extent, the first one of the lowest place without an extent.
abbrev pub fresh_inode : Readers → Volume → ℕ → Option ℕ
fresh_inode r v blocks = or_else (lowest (room v) (is_free_inode r v)) (if has_run r v blocks then first_of (lowest (length v.extents) (is_empty_place v)) else None)

-- ---- directories

-- a directory's tree can't take a name
abbrev pub is_deep_in : Readers → (ℕ → List ℕ) → Option Object → List ℕ → Bool
is_deep_in r page None name = false
is_deep_in r page (Some o) name = has_names o.inode && is_deep_below r.names_order r.names_page page (r.names_root o.inode) name

-- ---- the room, where the file system part has so many blocks and the log so many pages
abbrev pub room_on : Readers → Volume → ℕ → ℕ → Room
room_on r v blocks log_pages = record {
  limit = file_limit_of log_pages;
  free = free_blocks r v blocks;
  deep = λ dir name. is_deep_in r v.page (objects r v dir) name;
  inode = fresh_inode r v blocks;
}
