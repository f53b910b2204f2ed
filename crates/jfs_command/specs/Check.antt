-- The command `check`: it lists what is wrong with a volume, or says that nothing is.
use Rattle.std.specs.Prelude.{◌≡◌, ◌⊎◌, ℕ, ⊤, Bool, true, ◌||◌, ◌==◌, if◌then◌else◌, List, ◌++◌, length, codes, Result, Ok, Err}
use Rattle.std.specs.List.{flat_map}
use Rattle.std.specs.Fmt.{decimal}
use Rattle.jfs_disk.specs.Image.{Image, page_of}
use Rattle.jfs_super.specs.declared.fields.Super.{Super}
use Rattle.jfs_super.specs.Rules.{IsAccepted}
use Rattle.jfs_findings_new.specs.mount_rules.specs.Subject.{Subject, subject_of}
use Rattle.jfs_findings_new.specs.findings.specs.Kind.{number_of, name_of}
use Rattle.jfs_findings_new.specs.findings.specs.Findings.{AreFindings}
use Rattle.jfs_findings_new.specs.findings.specs.declared.finding.Finding.{Finding}
use Rattle.jfs_check.specs.Checked.{AreCounted}
use Rattle.jfs_check.specs.declared.checked.CheckError.{CheckError}
use Rattle.jfs_check.specs.declared.checked.CheckError.TheVariants as errors
use Rattle.jfs_command.specs.declared.check.Listed.{Listed}
use Rattle.jfs_command.specs.declared.status.Status.{Status}
use Rattle.jfs_command.specs.declared.status.Status.TheVariants.{Done, Found}
use Rattle.jfs_command.specs.declared.status.Stop.TheVariants as stops
use Rattle.jfs_command.specs.declared.outcome.End.{End}
use Rattle.jfs_command.specs.declared.outcome.End.TheVariants.{Own, Stopped}
use Rattle.jfs_command.specs.Status.{Refuses, IsOwn, kind_of}
use Rattle.jfs_command.specs.Count.{Count, Stays, HasRisen}
use Rattle.jfs_command.specs.Held.{Held}
use Rattle.jfs_command.specs.Meaning.{Meaning, Answer, refused, only_looks}
use Rattle.jfs_command.specs.Superblock.{superblock_of, LooksAtSuper, AfterState, AfterSuperblock}

-- it takes a volume that is clean or dirty, or whose redo failed
abbrev pub is_taken : ℕ → Bool
is_taken state = state == 0 || (state == 2 || state == 4)

-- ---- the text

-- the number and the name of a finding's kind, its page, and its value
abbrev pub finding_line : Finding → List ℕ
finding_line f = decimal (number_of f.kind) ++ codes " " ++ name_of f.kind ++ codes " page " ++ decimal f.page ++ codes " value " ++ decimal f.value ++ codes "\n"

abbrev pub found_line : ℕ → List ℕ
found_line count = codes "found " ++ decimal count ++ codes "\n"

abbrev pub free_words : ℕ → List ℕ
free_words free = codes "clean, " ++ decimal free ++ codes " free blocks, "

abbrev pub clean_line : ℕ → ℕ → List ℕ
clean_line free inodes = free_words free ++ (decimal inodes ++ codes " inodes\n")

abbrev pub status_for : List Finding → Status
status_for findings = if length findings == 0 then Done else Found (length findings)

-- a line for each finding, and then their number; where there is none, how many blocks are free and how many inodes are in use
abbrev pub text_for : List Finding → ℕ → ℕ → List ℕ
text_for findings free inodes = if length findings == 0 then clean_line free inodes else flat_map finding_line findings ++ found_line (length findings)

abbrev pub answer_for : List Finding → ℕ → ℕ → Answer
answer_for findings free inodes = record { status = status_for findings; text = text_for findings free inodes }

-- ---- what it means

-- The answer lists findings: all of the volume's, where the disk tells. Of another disk the form of the text alone is said, since no image need fit what it gave.
pub record ListsFindings (tells : Type 0) (s : Subject) (answer : Answer) : Type 0 where
  pub findings : List Finding
  pub free : ℕ
  pub inodes : ℕ
  pub is : answer ≡ answer_for findings free inodes
  pub all : tells → AreFindings s findings
  pub counts : tells → AreCounted s free inodes

-- of one volume one answer is given, text and all
abbrev pub CheckSaysOneThing : Type 0
CheckSaysOneThing = (s : Subject) (a b : Answer) → ListsFindings ⊤ s a → ListsFindings ⊤ s b → a ≡ b

-- what is answered of an image whose superblock is accepted
abbrev pub CheckSays : (tells : Type 0) → Image → Super → Answer → Type 0
CheckSays tells image s = AfterState (is_taken s.state.0) s.state.0 (ListsFindings tells (subject_of s (page_of image)))

-- page 8, where there is one, and all pages of a volume that is taken
abbrev pub LooksAtVolume : Held → ℕ → Type 0
LooksAtVolume held n = LooksAtSuper held n ⊎ (IsAccepted (superblock_of held) held.pages × (is_taken (superblock_of held).state.0 ≡ true))

-- Page 8 is read once and judged by that, so its refusal is judged of each disk. All else may be read more than once.
abbrev pub IsRefused : Status → Type 0
IsRefused status = kind_of status ≡ Refuses

-- it writes nothing
abbrev pub check_meaning : Meaning
check_meaning = only_looks LooksAtVolume (λ tells held. AfterSuperblock held (CheckSays tells held.image)) IsRefused

-- ---- for the prover: what the function that lists the findings answers

-- how the command ends where the volume couldn't be checked
abbrev pub end_of : CheckError → End
end_of (errors.Read fault) = Stopped stops.Disk
end_of errors.Memory = Stopped stops.Memory

abbrev pub CheckEnds : (tells : Type 0) → Image → Super → Count → Result Listed End → Type 0
CheckEnds tells image s disk (Ok listed) = CheckSays tells image s (record { status = listed.status; text = listed.text.items }) × IsOwn listed.status × Stays disk
CheckEnds tells image s disk (Err (Own status)) = CheckSays tells image s (refused status) × IsOwn status × Stays disk
CheckEnds tells image s disk (Err (Stopped stops.Disk)) = HasRisen disk
CheckEnds tells image s disk (Err (Stopped stops.Memory)) = ⊤
CheckEnds tells image s disk (Err (Stopped stops.Scripts)) = ⊥
