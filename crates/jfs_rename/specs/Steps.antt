-- What a rename does to a consistent volume.
use Rattle.std.specs.Prelude.{◌≡◌, ◌⊎◌, ℕ, true, List, Result, Ok, Err}
use Rattle.jfs_imap.specs.Inodes.{Inodes}
use Rattle.jfs_bmap.specs.States.{Blocks}
use Rattle.jfs_ranges.specs.declared.edit.Edit.{Edit}
use Rattle.jfs_plain.specs.Tree.{Tree}
use Rattle.jfs_plain.specs.Step.{Room, Outcome}
use Rattle.jfs_plain.specs.declared.refusal.Refusal.{Refusal}
use Rattle.jfs_plain.specs.declared.reply.Reply.TheVariants.{Done}
use Rattle.jfs_link.specs.meaning.specs.Readers.{readers}
use Rattle.jfs_link.specs.meaning.specs.Consistent.{IsConsistent}
use Rattle.jfs_link.specs.way.specs.Answer.{is_open}
use Rattle.jfs_link.specs.way.specs.Volume.{volume_of, PlacesWithin}
use Rattle.jfs_link.specs.steps.specs.After.{after_call}
use Rattle.jfs_link.specs.steps.specs.Call.{IsDone}
use Rattle.jfs_link.specs.Link.{IfConsistentBy}
use Rattle.jfs_rename.specs.Done.{room_in}
use Rattle.jfs_rename.specs.declared.renaming.Renamed.{Renamed}
use Rattle.jfs_rename.specs.declared.renaming.Renamed.TheVariants as renamed

-- what is said of the tree and the room of a consistent volume with this block map and this greatest size of a file
abbrev pub IfLimited : ℕ → (ℕ → List ℕ) → Blocks → Inodes → ℕ → (Room → Tree → Type 0) → Type 0
IfLimited blocks pages map inodes limit fact = IfConsistentBy blocks pages map inodes (λ room t. room.limit ≡ limit → fact room t)

abbrev pub IsDoneIn : ℕ → (ℕ → List ℕ) → Blocks → Inodes → ℕ → (Room → Tree → Outcome) → List Edit → Type 0
IsDoneIn blocks pages map inodes limit plain tx = PlacesWithin blocks inodes → (area : ℕ → ℕ) → IsConsistent (readers blocks) (volume_of pages area map inodes) → (log_pages : ℕ) → (room_in blocks pages area map inodes log_pages).limit ≡ limit
    → IsDone blocks (volume_of pages area map inodes) (after_call blocks tx (volume_of pages area map inodes)) (plain (room_in blocks pages area map inodes log_pages))

-- The transaction takes the plain step; where nothing changes, the plain step changes nothing; where a commit is due, it isn't refused; and a refusal is the plain step's, or it is open.
abbrev pub StepsAs : ℕ → (ℕ → List ℕ) → Blocks → Inodes → ℕ → (Room → Tree → Outcome) → Result Renamed Refusal → Type 0
StepsAs blocks pages map inodes limit plain (Ok (renamed.Done tx)) = IsDoneIn blocks pages map inodes limit plain tx
StepsAs blocks pages map inodes limit plain (Ok renamed.Same) = IfLimited blocks pages map inodes limit (λ room t. plain room t ≡ Ok (Done, t))
StepsAs blocks pages map inodes limit plain (Ok renamed.NeedsLog) = IfLimited blocks pages map inodes limit (λ room t. (u : Tree) × (plain room t ≡ Ok (Done, u)))
StepsAs blocks pages map inodes limit plain (Err why) = IfLimited blocks pages map inodes limit (λ room t. (plain room t ≡ Err why) ⊎ (is_open why ≡ true))
