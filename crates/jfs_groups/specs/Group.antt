-- The text of the group that a volume hands out.
use Rattle.std.specs.Prelude.{◌≡◌, ◌≤◌, ◌⊎◌, ℕ, ◌*◌, ◌^◌, List, [], ◌∷◌, ◌++◌, length, take, drop, Option}
use Rattle.jfs_logpages.specs.declared.group_text.GroupText.{GroupText}
use Rattle.jfs_logpages.specs.Group.{pages_of, room_of}
use Rattle.jfs_logpages.specs.Records.{log_text, ends_of}
use Rattle.jfs_records.specs.Records.{Noted}
use Rattle.jfs_records.specs.Entries.{log_records}
use Rattle.jfs_turns.specs.Standing.{Standing}
use Rattle.jfs_groups.specs.Points.{halt_mark, syncs}
use Rattle.jfs_groups.specs.Start.{LogStart}
use Rattle.jfs_groups.specs.Text.{items_from, end_of}

-- The records of the entries that weren't taken, to stand behind the text of those that were and of so many syncpoints. The last entry is the list's. It fits a group, and the page numbers of the whole text have 32 bits.
pub record IsGroupOf {E : Type 0} (logs : E → Option (List Noted)) (ring : ℕ) (list : List E) (taken points : ℕ) (group : GroupText) : Type 0 where
  pub last : group.last ≡ length list
  pub bytes : group.bytes.items ≡ log_text (log_records ring (end_of logs ring (take taken list) points) (items_from logs taken (drop taken list)))
  pub ends : group.ends.items ≡ ends_of 0 (log_records ring (end_of logs ring (take taken list) points) (items_from logs taken (drop taken list)))
  pub room : pages_of (length group.bytes.items) ≤ room_of ring
  pub numbers : end_of logs ring list points ≤ 4080 * 2 ^ 32

-- ---- what the calls of a volume are to what it stands for

module _ {V E : Type 0} (stands : Standing V E) where
  -- it stands for something
  abbrev pub StandsForSome : V → Type 0
  StandsForSome x = (base : List (List ℕ)) × (list : List E) × (taken : ℕ) × (told : ℕ) × (points : List ℕ) × (known : ℕ) × stands x base list taken told points known

  -- all entries are taken, and all else is as it was
  abbrev pub Takes : (E → Option (List Noted)) → (List (List ℕ) → LogStart) → V → V → GroupText → Type 0
  Takes logs start old new group =
      (base : List (List ℕ)) (list : List E) (taken told : ℕ) (points : List ℕ) (known : ℕ) → stands old base list taken told points known → stands new base list (length list) told points known × IsGroupOf logs (start base).ring list taken (syncs points) group

  -- n entries may be acknowledged: no fewer than are, and no more than are taken
  abbrev pub MayTell : V → ℕ → Type 0
  MayTell x n = (base : List (List ℕ)) × (list : List E) × (taken : ℕ) × (told : ℕ) × (points : List ℕ) × (known : ℕ) × stands x base list taken told points known × (told ≤ n) × (n ≤ taken)

  -- n entries are acknowledged, and all else is as it was
  abbrev pub Tells : V → ℕ → V → Type 0
  Tells old n new = (base : List (List ℕ)) (list : List E) (taken told : ℕ) (points : List ℕ) (known : ℕ) → stands old base list taken told points known → stands new base list taken n points known

  -- It stands for what it stood for, with a mark behind the syncpoints or none; and it counts them.
  abbrev pub Halts : (V → ℕ) → V → V → Type 0
  Halts count old new = (base : List (List ℕ)) (list : List E) (taken told : ℕ) (points : List ℕ) (known : ℕ) → stands old base list taken told points known
      → (later : List ℕ) × ((later ≡ points) ⊎ (later ≡ points ++ halt_mark ∷ [])) × stands new base list taken told later known × (count new ≡ length later)

  -- it stands for what it stood for
  abbrev pub Stays : V → V → Type 0
  Stays old new = (base : List (List ℕ)) (list : List E) (taken told : ℕ) (points : List ℕ) (known : ℕ) → stands old base list taken told points known → stands new base list taken told points known
