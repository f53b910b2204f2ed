-- The command `format` does what it means.
use Rattle.std.proofs.Common.{◌≡◌, ℕ, List, [], Result, Err, inl, inr, refl, sym, ap, subst, ◌∙◌}
use Rattle.jfs_bits.specs.declared.descriptor.Moment.{Moment}
use Rattle.jfs_disk.specs.declared.disk.Disk.{Ghosts}
use Rattle.jfs_disk.specs.Image.{Image, page_of, ArePages}
use Rattle.jfs_disk.specs.Crash.{AllSince}
use Rattle.jfs_disk.specs.Moment.{now_of}
use Rattle.jfs_super.specs.declared.fields.Super.{Super}
use Rattle.jfs_plain.specs.Moves.{Same}
use Rattle.jfs_plain.specs.Plain.{new_tree}
use Rattle.jfs_findings_new.specs.meaning.specs.Image.{tree_of, IsConsistentImage}
use Rattle.jfs_findings_new.specs.new_volume.proofs.Tree.{new_volume_tree}
use Rattle.jfs_findings_new.specs.mount_rules.specs.Subject.{subject_of}
use Rattle.jfs_findings_new.specs.findings.specs.Clean.{HasNoFinding}
use Rattle.jfs_findings_new.proofs.NewClean.{new_clean}
use Rattle.jfs_format.specs.declared.formatter.FormatError.{FormatError}
use Rattle.jfs_format.specs.declared.formatter.FormatError.TheVariants as errors
use Rattle.jfs_format.specs.Answer.{IsFormatAnswer}
use Rattle.jfs_format.specs.Layout.{IsFormattable, layout_of}
use Rattle.jfs_format.specs.Superblock.{new_super}
use Rattle.jfs_format.specs.declared.volume.NewVolume.{NewVolume}
use Rattle.jfs_format.specs.Volume.{wanted, IsNewVolume, IsOnTheWay}
use Rattle.jfs_format.proofs.Layouts.{layout-bounds}
use Rattle.jfs_command.specs.declared.status.Status.TheVariants.{Done, BadSize}
use Rattle.jfs_command.specs.declared.status.Stop.TheVariants as stops
use Rattle.jfs_command.specs.declared.outcome.End.TheVariants.{Own, Stopped}
use Rattle.jfs_command.specs.declared.outcome.Outcome.{Outcome}
use Rattle.jfs_command.specs.Status.{IsOwn}
use Rattle.jfs_command.specs.Count.{Stays, HasRisen}
use Rattle.jfs_command.specs.Held.{IsHeld, held_of}
use Rattle.jfs_command.specs.Meaning.{Answer, Performs, finished, refused, work_of}
use Rattle.jfs_command.specs.Format.{format_text, FormatSays, HasBegun, HasFormatted, Formats, end_of, format_meaning}
use Rattle.jfs_command.proofs.Evidence.{held_as, some_held}
use Rattle.jfs_command.proofs.Looking.{faults_of, ends_as}

one_status : (pages : ℕ) (a b : Answer) → FormatSays pages a → FormatSays pages b → a.status ≡ b.status
one_status pages a b (inl x) (inl y) = ap (λ (z : Answer). z.status) (x.1 ∙ sym y.1)
one_status pages a b (inr x) (inr y) = ap (λ (z : Answer). z.status) (x.1 ∙ sym y.1)
one_status pages a b (inl x) (inr y) = absurd (y.0 x.0)
one_status pages a b (inr x) (inl y) = absurd (x.0 y.0)

-- What is said of the pages that the disk tells is said of these, which are the same where it tells.
begun_as : {D : Type 0} (d : Ghosts D) (old new : D) (outcome : Outcome) (v : NewVolume) (shown : Image) → (d.tells → shown ≡ d.image old)
    → HasBegun d.tells d.tells_crashes v (held_of d old) (work_of outcome (held_of d new)) → HasBegun d.tells d.tells_crashes v (held_as d old shown) (work_of outcome (held_of d new))
begun_as d old new outcome v shown is begun = record {
  history = begun.history;
  told = begun.told;
  unnamed = λ t n free. begun.unnamed t n free ∙ sym (ap (λ (i : Image). page_of i n) (is t));
  moments = λ t crashes resting. subst (λ (i : Image). AllSince (IsOnTheWay v i) (d.past new) (now_of (d.past old))) (sym (is t)) (begun.moments t crashes resting);
}

comes : {D : Type 0} (d : Ghosts D) (old new : D) (outcome : Outcome) (uuid label : List ℕ) (now : Moment) (shown : Image) (answer : Answer) → IsHeld d old (held_as d old shown) → FormatSays (d.page_count old) answer
    → Formats answer.status d.tells d.tells_crashes (wanted (d.page_count old) uuid label now) (held_as d old shown) (work_of outcome (held_of d new))
    → outcome.text.items ≡ answer.text → IsOwn answer.status → Stays (faults_of d old new) → outcome.end ≡ Own answer.status → Performs d (format_meaning uuid label now) old new outcome
comes d old new outcome uuid label now shown answer is says does is_text own stays is_end =
    let with_text : List ℕ → Answer = λ text. record { status = answer.status; text = text } in
    let said = subst (λ (a : Answer). FormatSays (d.page_count old) a) (sym (ap with_text is_text)) says in
    ends_as d (format_meaning uuid label now) old new outcome (held_as d old shown) (Own answer.status) is_end is (λ sources. (
      record {
        says = said;
        does = does;
        looked = λ other same. subst (λ (n : ℕ). FormatSays n (with_text outcome.text.items)) (sym same.pages) said;
        one = λ judged other same x also. one_status (d.page_count old) x (with_text outcome.text.items) (subst (λ (n : ℕ). FormatSays n x) same.pages also) said;
      },
      own,
      stays,
      refl,
    ))

-- what the pages of a new volume mean
pub record Means (now : Moment) (s : Super) (image : Image) : Type 0 where
  pub tree : Same (new_tree now) (tree_of s (page_of image))
  pub consistent : IsConsistentImage s (page_of image)
  pub clean : HasNoFinding (subject_of s (page_of image))

pub means : (pages : ℕ) (uuid label : List ℕ) (now : Moment) (s : Super) (image : Image) → IsFormattable pages → IsNewVolume (wanted pages uuid label now) image → s ≡ new_super (wanted pages uuid label now) → Means now s image
means pages uuid label now s image fits volume is =
    let layout = layout-bounds pages fits in
    let done = new_volume_tree pages (wanted pages uuid label now) image layout volume in
    let clean = (new_clean pages (wanted pages uuid label now) image layout volume).1 in
    subst (λ (s : Super). Means now s image) (sym is) (record { tree = done.1; consistent = done.0; clean = clean })

-- a new volume
pub formatted : {D : Type 0} (d : Ghosts D) (old new : D) (outcome : Outcome) (uuid label : List ℕ) (now : Moment) → (d.tells → ArePages (d.page_count old) (d.image old)) → IsFormattable (d.page_count old)
    → HasFormatted d.tells d.tells_crashes (wanted (d.page_count old) uuid label now) (held_of d old) (work_of outcome (held_of d new))
    → outcome.text.items ≡ format_text (layout_of (d.page_count old)) → Stays (faults_of d old new) → outcome.end ≡ Own Done → Performs d (format_meaning uuid label now) old new outcome
formatted d old new outcome uuid label now pages fits does is_text stays is_end =
    let found = some_held d old pages in
    comes d old new outcome uuid label now found.shown (finished (format_text (layout_of (d.page_count old)))) found.is (inl (fits, refl))
    (record {
      begun = begun_as d old new outcome (wanted (d.page_count old) uuid label now) found.shown found.is.image does.begun;
      volume = does.volume;
      reads = does.reads;
      tree = does.tree;
      consistent = does.consistent;
      clean = does.clean;
      stable = does.stable;
    })
    is_text tt stays is_end

-- a disk that can't have one
not_formatted : {D : Type 0} (d : Ghosts D) (old new : D) (outcome : Outcome) (uuid label : List ℕ) (now : Moment) (count : ℕ) → (d.tells → ArePages (d.page_count old) (d.image old)) → (IsFormattable (d.page_count old) → ⊥) → count ≡ d.page_count old → new ≡ old
    → outcome.history.items ≡ [] → outcome.told.items ≡ [] → outcome.text.items ≡ [] → outcome.end ≡ Own (BadSize count) → Performs d (format_meaning uuid label now) old new outcome
not_formatted {D} d old new outcome uuid label now count pages small is same no_history no_told no_text is_end =
    let found = some_held d old pages in
    comes d old new outcome uuid label now found.shown (refused (BadSize count)) found.is (inr (small, ap (λ (n : ℕ). refused (BadSize n)) is))
    (record { history = no_history; told = no_told; image = λ t. ap (λ (x : D). d.image x) same ∙ sym (found.is.image t); past = λ t. ap (λ (x : D). d.past x) same })
    no_text tt (ap (λ (x : D). d.fault_count x) same) is_end

-- a volume that was begun
pub begun_no_memory : {D : Type 0} (d : Ghosts D) (old new : D) (outcome : Outcome) (uuid label : List ℕ) (now : Moment) → (d.tells → ArePages (d.page_count old) (d.image old)) → IsFormattable (d.page_count old)
    → HasBegun d.tells d.tells_crashes (wanted (d.page_count old) uuid label now) (held_of d old) (work_of outcome (held_of d new))
    → outcome.text.items ≡ [] → outcome.end ≡ Stopped stops.Memory → Performs d (format_meaning uuid label now) old new outcome
begun_no_memory d old new outcome uuid label now pages fits begun no_text is_end =
    let found = some_held d old pages in
    ends_as d (format_meaning uuid label now) old new outcome (held_as d old found.shown) (Stopped stops.Memory) is_end found.is
    (λ sources. ((fits, no_text, begun_as d old new outcome (wanted (d.page_count old) uuid label now) found.shown found.is.image begun), tt))

begun_disk_failed : {D : Type 0} (d : Ghosts D) (old new : D) (outcome : Outcome) (uuid label : List ℕ) (now : Moment) → (d.tells → ArePages (d.page_count old) (d.image old)) → IsFormattable (d.page_count old)
    → HasBegun d.tells d.tells_crashes (wanted (d.page_count old) uuid label now) (held_of d old) (work_of outcome (held_of d new))
    → outcome.text.items ≡ [] → HasRisen (faults_of d old new) → outcome.end ≡ Stopped stops.Disk → Performs d (format_meaning uuid label now) old new outcome
begun_disk_failed d old new outcome uuid label now pages fits begun no_text risen is_end =
    let found = some_held d old pages in
    ends_as d (format_meaning uuid label now) old new outcome (held_as d old found.shown) (Stopped stops.Disk) is_end found.is
    (λ sources. ((fits, no_text, begun_as d old new outcome (wanted (d.page_count old) uuid label now) found.shown found.is.image begun), (risen, refl)))

-- no volume
pub refused_or_failed : {D : Type 0} (d : Ghosts D) (old new : D) (outcome : Outcome) (uuid label : List ℕ) (now : Moment) (error : FormatError) (result : Result (Unit {0}) FormatError) → (d.tells → ArePages (d.page_count old) (d.image old)) → result ≡ Err error → IsFormatAnswer d old new result
    → HasBegun d.tells d.tells_crashes (wanted (d.page_count old) uuid label now) (held_of d old) (work_of outcome (held_of d new))
    → outcome.text.items ≡ [] → outcome.end ≡ end_of error → Performs d (format_meaning uuid label now) old new outcome
refused_or_failed {D} d old new outcome uuid label now error result whole is answer begun no_text is_end = by error (subst (λ (r : Result (Unit {0}) FormatError). IsFormatAnswer d old new r) is answer) is_end
  where
    by : (error : FormatError) → IsFormatAnswer {T = Unit {0}} d old new (Err error) → outcome.end ≡ end_of error → Performs d (format_meaning uuid label now) old new outcome
    by (errors.BadSize pages) cause is_end = not_formatted d old new outcome uuid label now pages whole cause.0 cause.1 cause.2 begun.history begun.told no_text is_end
    by (errors.Disk fault) cause is_end = begun_disk_failed d old new outcome uuid label now whole cause.0 begun no_text cause.1 is_end
