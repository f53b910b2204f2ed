-- What a redone volume follows from, and what its pages are.
use Rattle.std.specs.Prelude.{◌≡◌, ◌<◌, ◌+◌, ◌*◌, ℕ, List, length, drop, get_or}
use Rattle.jfs_disk.specs.Image.{Image, page_of}
use Rattle.jfs_ranges.specs.declared.edit.Edit.{Edit}
use Rattle.jfs_records.specs.Redo.{all_of, chosen, picked}
use Rattle.jfs_super.specs.Rules.{blocks_of}
use Rattle.jfs_super.specs.declared.fields.Super.{Super}
use Rattle.jfs_mount_maps.specs.mount_rules.specs.Subject.{subject_of}
use Rattle.jfs_redo.specs.Log.{AreCommitted}
use Rattle.jfs_redo.specs.Redo.{IsMapPlace, IsRedone}

-- redo by the same transactions makes the same pages of volumes with the same pages
abbrev pub RedoneAgree : Type 0
RedoneAgree = (s : Super) (txs : List (List Edit)) (old like new other : Image) → ((p : ℕ) → page_of old p ≡ page_of like p) → IsRedone s txs old new → IsRedone s txs like other → (p : ℕ) → page_of new p ≡ page_of other p

-- Of a volume redone by what its log commits, each cell of 16 bytes is that of the last line that covers it and that no NoRedo of its page follows; where there is none, it is as it was. The pages of the maps and the superblock's are made otherwise.
abbrev pub RedoneIsChoice : Type 0
RedoneIsChoice = (s : Super) (txs : List (List Edit)) (old new : Image) → AreCommitted s.logpxd.len (blocks_of s) (drop s.logpxd.addr old) txs → IsRedone s txs old new
    → (p : ℕ) → p < blocks_of s → length (page_of old p) ≡ 4096 → (p ≡ 8 → ⊥) → (IsMapPlace (subject_of s (page_of old)) p → ⊥)
    → (c j : ℕ) → c < 256 → j < 16 → get_or (page_of new p) (16 * c + j) 0 ≡ picked p (16 * c + j) (chosen p (16 * c) (all_of txs)) (get_or (page_of old p) (16 * c + j) 0)
