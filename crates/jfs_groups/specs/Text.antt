-- The log's text since the mount: what stands in it, and how far it reaches. A place counts the bytes from page number 0 of the ring on.
use Rattle.std.specs.Prelude.{◌≤◌, ℕ, suc, ◌+◌, ◌-◌, ◌*◌, ◌/◌, List, [], ◌∷◌, ◌++◌, length, take, drop, replicate, Option, Some, None}
use Rattle.jfs_disk.specs.Image.{Image}
use Rattle.jfs_logpages.specs.declared.last.Last.{Last}
use Rattle.jfs_logpages.specs.Group.{Holds}
use Rattle.jfs_logpages.specs.Records.{log_text, ends_of}
use Rattle.jfs_logpages.specs.Ring.{ReadsPrefix}
use Rattle.jfs_records.specs.Records.{Noted}
use Rattle.jfs_records.specs.Entries.{Item, entry, point, text_size, log_records}

-- what stands in the log of the entry with a number: its transaction, or nothing
abbrev pub item_of : ℕ → Option (List Noted) → List Item
item_of n None = []
item_of n (Some tx) = entry n tx ∷ []

-- Sync counts rise, from one count of entries to another.
abbrev pub AreCounts : ℕ → ℕ → List ℕ → Type 0
AreCounts low high [] = low ≤ high
AreCounts low high (p ∷ ps) = (low ≤ p) × AreCounts p high ps

-- The mount leaves the ring's pages zeros, and a SYNCPT on the last of them. Items stand behind it.
abbrev pub text_with : ℕ → List Item → List ℕ
text_with ring is = replicate (4080 * (ring - 1)) 0 ++ log_text (log_records ring (4080 * (ring - 1)) (point 0 ∷ is))

-- A log reads as the text of items and a front of the records of a group that was to stand behind it, at most half a ring before the group's last page.
abbrev pub FrontOf : ℕ → List Item → List Item → Image → Type 0
FrontOf ring is group image =
    let at = 4080 * (ring - 1) + text_size (point 0 ∷ is) in
    let records = log_records ring at group in
    ReadsPrefix ring (text_with ring is) (log_text records) (ends_of 0 records) ((at + text_size group - 1) / 4080) image

module _ {E : Type 0} (logs : E → Option (List Noted)) where
  -- the items of entries, of which the first has number n + 1
  abbrev pub items_from : ℕ → List E → List Item
  items_from n [] = []
  items_from n (e ∷ es) = item_of (suc n) (logs e) ++ items_from (suc n) es

  -- how far the text of entries and of so many syncpoints reaches: behind the zeros, 36 bytes for the mount's SYNCPT and for each syncpoint
  abbrev pub end_of : ℕ → List E → ℕ → ℕ
  end_of ring list points = 4080 * (ring - 1) + 36 * suc points + text_size (items_from 0 list)

  -- the items of entries behind n others, and of syncpoints: each stands behind as many entries as its sync count says
  abbrev pub items_with : ℕ → List E → List ℕ → List Item
  items_with n list [] = items_from n list
  items_with n list (p ∷ ps) = items_from n (take (p - n) list) ++ point 0 ∷ items_with p (drop (p - n) list) ps

  -- The log holds the records of all the entries and of syncpoints with these sync counts, each in its place, and nothing else since the mount.
  pub record HoldsText (ring : ℕ) (list : List E) (points : List ℕ) (last : Last) (image : Image) : Type 0 where
    pub counts : AreCounts 0 (length list) points
    pub ends : List ℕ
    pub holds : Holds last (text_with ring (items_with 0 list points)) ends image
