-- What a disk holds before a command and after it, and what a command did.
use Rattle.std.specs.Prelude.{◌≡◌, ◌<◌, ℕ, List, [], length}
use Rattle.jfs_disk.specs.Image.{Image, page_of}
use Rattle.jfs_disk.specs.Crash.{DiskState}
use Rattle.jfs_disk.specs.declared.disk.Disk.{Ghosts}
use Rattle.jfs_plain.specs.declared.call.Entry.{Entry}

-- A disk at one moment: how many pages it has, what a read gives of each, and the states that it has had, the oldest first.
pub record Held : Type 0 where
  pub pages : ℕ
  pub image : Image
  pub past : List DiskState

-- The disk holds this, as far as it tells. Each page is whole, also where the disk doesn't tell.
pub record IsHeld {D : Type 0} (d : Ghosts D) (disk : D) (held : Held) : Type 0 where
  pub pages : held.pages ≡ d.page_count disk
  pub image : d.tells → held.image ≡ d.image disk
  pub past : d.tells_crashes → held.past ≡ d.past disk
  pub whole : (n : ℕ) → n < held.pages → length (page_of held.image n) ≡ 4096

-- What a command did: the text before its status's line, its clients' entries, the numbers of those that were told durable,
-- and what the disk then holds.
pub record Work : Type 0 where
  pub text : List ℕ
  pub history : List Entry
  pub told : List ℕ
  pub held : Held

-- what the disk holds by what it says of itself
abbrev pub held_of : {D : Type 0} → Ghosts D → D → Held
held_of d disk = record { pages = d.page_count disk; image = d.image disk; past = d.past disk }

-- a command without clients that left the disk as it was, as far as that tells what a read gives and what a crash may leave
pub record ChangesNothing (tells crashes : Type 0) (held : Held) (work : Work) : Type 0 where
  pub history : work.history ≡ []
  pub told : work.told ≡ []
  pub image : tells → work.held.image ≡ held.image
  pub past : crashes → work.held.past ≡ held.past
