-- Room in the log.
use Rattle.std.specs.Prelude.{◌≤◌, ℕ, ◌+◌, ◌-◌, ◌*◌, ◌/◌, ◌^◌, ◌&&◌, nat_le, Bool, length}
use Rattle.jfs_logpages.specs.Group.{pages_of, room_of}
use Rattle.jfs_halves.specs.Parts.{Text}

-- A text of `size` bytes that will stand at `place` of a ring fits one group; all since the SYNCPT that begins at `sync`, with one more SYNCPT behind it, fits half the ring; and so far the numbers of the log's pages have 32 bits.
abbrev pub IsWithinRoom : ℕ → ℕ → ℕ → ℕ → Type 0
IsWithinRoom ring sync place size = (pages_of size ≤ room_of ring) × (pages_of (place + size + 36 - sync) ≤ ring / 2) × (place + size + 36 ≤ 4080 * 2 ^ 32)

-- its test
abbrev pub fits_room : ℕ → ℕ → ℕ → ℕ → Bool
fits_room ring sync place size = nat_le (pages_of size) (room_of ring) && (nat_le (pages_of (place + size + 36 - sync)) (ring / 2) && nat_le (place + size + 36) (4080 * 2 ^ 32))

-- whether so many bytes more may wait
abbrev pub has_room : Text → ℕ → Bool
has_room text size = fits_room text.ring text.sync text.place (length text.bytes + size)

-- how many ring pages all since the newest SYNCPT takes, with what waits
abbrev pub since_in : Text → ℕ
since_in text = pages_of (text.place + length text.bytes - text.sync)
