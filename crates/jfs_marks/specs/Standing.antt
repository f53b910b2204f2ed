-- The inodes in use that stand on a page.
use Rattle.std.specs.Prelude.{ℕ, ◌+◌, ◌/◌, ◌%◌, ◌==◌, ◌&&◌, Bool, false, if◌then◌else◌, List, Option, Some, None}
use Rattle.jfs_inode.specs.declared.fields.Dinode.{Dinode}
use Rattle.jfs_imap.specs.Inodes.{Inodes, home_of}
use Rattle.jfs_data_steps.specs.objects.specs.Volume.{slot_of}
use Rattle.jfs_data_steps.specs.objects.specs.Objects.{is_live}
use Rattle.jfs_marks.specs.declared.founded.Founded.{Founded}
use Rattle.jfs_marks.specs.declared.founded.Founded.TheVariants.{Nothing, One, Several}

-- the page of an inode, in an extent of the map or in a new one
abbrev pub home_with : Inodes → Founded → ℕ → Option ℕ
home_with inodes Nothing n = home_of inodes n
home_with inodes (One extent) n = if n / 32 == extent.place then Some (extent.first + n % 32 / 8) else home_of inodes n
home_with inodes Several n = home_of inodes n

abbrev pub is_page : ℕ → Option ℕ → Bool
is_page p None = false
is_page p (Some q) = q == p

-- An inode has its number, and it stands where that number has its place.
abbrev pub standing_as : Inodes → Founded → ℕ → ℕ → Dinode → Option ℕ
standing_as inodes founded p slot d = if d.number % 8 == slot && (is_page p (home_with inodes founded d.number) && is_live d.number d) then Some d.number else None

-- the number of the inode in a slot of page p, where it is in use
abbrev pub standing : Inodes → Founded → ℕ → List ℕ → ℕ → Option ℕ
standing inodes founded p page slot = standing_as inodes founded p slot (slot_of page slot)
