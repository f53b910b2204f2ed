-- The command `format`: it writes an empty volume over all pages of the disk, if a volume can have so many.
use Rattle.std.specs.Prelude.{◌≡◌, ◌⊎◌, ℕ, List, [], ◌++◌, codes}
use Rattle.std.specs.Fmt.{decimal}
use Rattle.jfs_bits.specs.declared.descriptor.Moment.{Moment}
use Rattle.jfs_disk.specs.Image.{page_of}
use Rattle.jfs_disk.specs.Crash.{AllSince, last_of}
use Rattle.jfs_disk.specs.Moment.{IsResting, now_of}
use Rattle.jfs_format.specs.declared.layout.Layout.{Layout}
use Rattle.jfs_format.specs.declared.volume.NewVolume.{NewVolume}
use Rattle.jfs_format.specs.declared.formatter.FormatError.{FormatError}
use Rattle.jfs_format.specs.declared.formatter.FormatError.TheVariants as errors
use Rattle.jfs_format.specs.Layout.{IsFormattable, layout_of, free_blocks}
use Rattle.jfs_format.specs.Superblock.{new_super}
use Rattle.jfs_format.specs.Volume.{wanted, IsNewVolume, IsOnTheWay, IsUnnamed}
use Rattle.jfs_plain.specs.Moves.{Same}
use Rattle.jfs_plain.specs.Plain.{new_tree}
use Rattle.jfs_findings_new.specs.meaning.specs.Image.{tree_of, IsConsistentImage}
use Rattle.jfs_findings_new.specs.mount_rules.specs.Subject.{subject_of}
use Rattle.jfs_findings_new.specs.findings.specs.Clean.{HasNoFinding}
use Rattle.jfs_command.specs.declared.status.Status.{Status}
use Rattle.jfs_command.specs.declared.status.Status.TheVariants.{Done, BadSize}
use Rattle.jfs_command.specs.declared.status.Stop.TheVariants as stops
use Rattle.jfs_command.specs.declared.outcome.End.{End}
use Rattle.jfs_command.specs.declared.outcome.End.TheVariants.{Own, Stopped}
use Rattle.jfs_command.specs.Held.{Held, Work, ChangesNothing}
use Rattle.jfs_command.specs.Meaning.{Meaning, Answer, finished, refused, every_status}
use Rattle.jfs_command.specs.Superblock.{superblock_of}

-- how many blocks the file system part has, and how many of them are free
abbrev pub counts_text : ℕ → ℕ → List ℕ
counts_text blocks free = codes "formatted " ++ decimal blocks ++ codes " blocks, " ++ decimal free ++ codes " free\n"

abbrev pub format_text : Layout → List ℕ
format_text l = counts_text l.blocks (free_blocks l)

-- what is answered of a disk of so many pages
abbrev pub FormatSays : ℕ → Answer → Type 0
FormatSays pages answer =
    (IsFormattable pages × (answer ≡ finished (format_text (layout_of pages)))) ⊎ ((IsFormattable pages → ⊥) × (answer ≡ refused (BadSize pages)))

-- The volume was begun: pages that it doesn't name stay, and of a disk on which nothing was pending a crash leaves at each moment since then
-- page 8 as it was, or all else of the new volume.
pub record HasBegun (tells crashes : Type 0) (v : NewVolume) (held : Held) (work : Work) : Type 0 where
  pub history : work.history ≡ []
  pub told : work.told ≡ []
  pub unnamed : tells → (n : ℕ) → IsUnnamed v.layout n → page_of work.held.image n ≡ page_of held.image n
  pub moments : tells → crashes → IsResting (last_of held.past) → AllSince (IsOnTheWay v held.image) work.held.past (now_of held.past)

-- all pages are those of the new volume, and a crash leaves them
pub record HasFormatted (tells crashes : Type 0) (v : NewVolume) (held : Held) (work : Work) : Type 0 where
  pub begun : HasBegun tells crashes v held work
  pub volume : tells → IsNewVolume v work.held.image
  -- page 8 reads as its superblock, with its UUID and label
  pub reads : tells → superblock_of work.held ≡ new_super v
  -- by it the pages mean the tree of `PlainTree::new`, and are consistent: their maps agree, and no rule is broken
  pub tree : tells → Same (new_tree v.moment) (tree_of (superblock_of work.held) (page_of work.held.image))
  pub consistent : tells → IsConsistentImage (superblock_of work.held) (page_of work.held.image)
  -- and a check finds nothing
  pub clean : tells → HasNoFinding (subject_of (superblock_of work.held) (page_of work.held.image))
  pub stable : crashes → IsResting (last_of work.held.past)

abbrev pub Formats : Status → (tells crashes : Type 0) → NewVolume → Held → Work → Type 0
Formats Done tells crashes v held work = HasFormatted tells crashes v held work
Formats _ tells crashes v held work = ChangesNothing tells crashes held work

-- it looks at no page
abbrev pub format_meaning : List ℕ → List ℕ → Moment → Meaning
format_meaning uuid label now = record {
  looks = λ held n. ⊥;
  says = λ tells held answer. FormatSays held.pages answer;
  judged = every_status;
  does = λ tells crashes held status work. Formats status tells crashes (wanted held.pages uuid label now) held work;
  stops = λ stop faults tells crashes held work. IsFormattable held.pages × (work.text ≡ []) × HasBegun tells crashes (wanted held.pages uuid label now) held work;
}

-- ---- for the prover: how the command ends where no volume was made
abbrev pub end_of : FormatError → End
end_of (errors.BadSize pages) = Own (BadSize pages)
end_of (errors.Disk fault) = Stopped stops.Disk
