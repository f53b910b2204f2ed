-- Commands that look at the superblock, go on where it is accepted, and change nothing.
use Rattle.std.proofs.Common.{◌≡◌, ◌<◌, ◌≤◌, ◌⊎◌, ℕ, List, [], Option, Some, Ok, Err, length, refl, sym, ap, subst, ◌∙◌, arith}
use Rattle.jfs_bits.specs.Broken.{first_broken}
use Rattle.jfs_disk.specs.Image.{Image, page_of, ArePages}
use Rattle.jfs_disk.specs.declared.disk.Disk.{Ghosts}
use Rattle.jfs_super.specs.declared.fields.Super.{Super}
use Rattle.jfs_super.specs.declared.read.BadSuper.{BadSuper}
use Rattle.jfs_super.specs.Super.{super_of}
use Rattle.jfs_super.specs.Rules.{rows, IsAccepted}
use Rattle.jfs_super.proofs.Rules.{accepted_pages}
use Rattle.jfs_command.specs.declared.status.Status.{Status}
use Rattle.jfs_command.specs.declared.status.Status.TheVariants as statuses
use Rattle.jfs_command.specs.declared.status.Stop.TheVariants as stops
use Rattle.jfs_command.specs.declared.outcome.End.{End}
use Rattle.jfs_command.specs.declared.outcome.End.TheVariants.{Own, Stopped}
use Rattle.jfs_command.specs.declared.outcome.Outcome.{Outcome}
use Rattle.jfs_command.specs.Status.{IsOwn}
use Rattle.jfs_command.specs.Count.{Count, Stays, HasRisen}
use Rattle.jfs_command.specs.Held.{Held, IsHeld, ChangesNothing, held_of}
use Rattle.jfs_command.specs.Meaning.{Meaning, Answer, LooksSame, EndsBy, Performs, faults_beside, only_looks, refused, work_of}
use Rattle.jfs_command.specs.Superblock.{superblock_of, AfterRules, AfterSuperblock, Looks}
use Rattle.jfs_command.proofs.SuperblockLemmas.{SamePage8, same_first, same_after, one_after}
use Rattle.jfs_command.proofs.Evidence.{held_as, some_held, has_page8}

-- Such a command: the pages that it looks at, what it says of what a disk holds and its superblock where that is accepted, and the
-- statuses that are judged of each disk.
pub record Behind : Type 1 where
  pub looks : Held → ℕ → Type 0
  pub says : (tells : Type 0) → Held → Super → Answer → Type 0
  pub judged : Status → Type 0

-- What it says rests on the pages that are looked at, page 8 among them, and has one status where that is judged.
pub record GoesOn (c : Behind) : Type 1 where
  pub page8 : (held : Held) → 8 < held.pages → c.looks held 8
  pub rests : (tells : Type 0) → (a b : Held) → (answer : Answer) → IsAccepted (superblock_of a) a.pages → LooksSame (c.looks a) a b → c.says tells a (superblock_of a) answer → c.says tells b (superblock_of a) answer
  pub one : (tells : Type 0) → (held : Held) → (x y : Answer) → tells ⊎ c.judged y.status → IsAccepted (superblock_of held) held.pages
      → c.says tells held (superblock_of held) x → c.says tells held (superblock_of held) y → x.status ≡ y.status

-- what the command means
abbrev pub looks_and : Behind → Meaning
looks_and c = only_looks c.looks (λ tells held. AfterSuperblock held (c.says tells held)) c.judged

abbrev pub faults_of : {D : Type 0} → Ghosts D → D → D → Count
faults_of d old new = record { before = d.fault_count old; now = d.fault_count new }

page8_same : (c : Behind) (a b : Held) → GoesOn c → LooksSame (c.looks a) a b → SamePage8 a b
page8_same c a b goes same = record { pages = same.pages; page = λ there. same.each 8 (goes.page8 a there) }

pub looked : (c : Behind) (tells : Type 0) (a b : Held) (answer : Answer) → GoesOn c → LooksSame (c.looks a) a b → AfterSuperblock a (c.says tells a) answer → AfterSuperblock b (c.says tells b) answer
looked c tells a b answer goes same said =
    same_after a b (c.says tells a) (c.says tells b) answer (page8_same c a b goes same) (λ accepted said. goes.rests tells a b answer accepted same said) said

-- What a command did that ran from one disk to another and left what it shows as it was.
pub record ShowsSame {D : Type 0} (d : Ghosts D) (old new : D) (outcome : Outcome) : Type 0 where
  pub image : d.tells → d.image new ≡ d.image old
  pub past : d.tells_crashes → d.past new ≡ d.past old
  pub history : outcome.history.items ≡ []
  pub told : outcome.told.items ≡ []

changes_nothing : {D : Type 0} (d : Ghosts D) (old new : D) (held : Held) (outcome : Outcome) → IsHeld d old held → ShowsSame d old new outcome → ChangesNothing d.tells d.tells_crashes held (work_of outcome (held_of d new))
changes_nothing d old new held outcome is same = record {
  history = same.history;
  told = same.told;
  image = λ t. same.image t ∙ sym (is.image t);
  past = λ t. same.past t ∙ sym (is.past t);
}

pub ends_as : {D : Type 0} (d : Ghosts D) (m : Meaning) (old new : D) (outcome : Outcome) (held : Held) (end : End) → outcome.end ≡ end → IsHeld d old held
    → ((sources : ℕ) → EndsBy m d.tells d.tells_crashes held (work_of outcome (held_of d new)) (faults_beside sources (faults_of d old new)) end) → Performs d m old new outcome
ends_as d m old new outcome held end is_end is ends = record {
  held = held;
  before = is;
  ends = λ sources. subst (λ (e : End). EndsBy m d.tells d.tells_crashes held (work_of outcome (held_of d new)) (faults_beside sources (faults_of d old new)) e) (sym is_end) (ends sources);
}

-- the command comes to an answer
pub comes : {D : Type 0} (d : Ghosts D) (old new : D) (outcome : Outcome) (c : Behind) (held : Held) (answer : Answer) → GoesOn c → IsHeld d old held → ShowsSame d old new outcome
    → outcome.text.items ≡ answer.text → AfterSuperblock held (c.says d.tells held) answer → IsOwn answer.status → Stays (faults_of d old new) → outcome.end ≡ Own answer.status → Performs d (looks_and c) old new outcome
comes d old new outcome c held answer goes is same is_text said own stays is_end =
    let with_text : List ℕ → Answer = λ text. record { status = answer.status; text = text } in
    let told = subst (λ (a : Answer). AfterSuperblock held (c.says d.tells held) a) (sym (ap with_text is_text)) said in
    ends_as d (looks_and c) old new outcome held (Own answer.status) is_end is (λ sources. (
      record {
        says = told;
        does = changes_nothing d old new held outcome is same;
        looked = λ other alike. looked c d.tells held other (with_text outcome.text.items) goes alike told;
        one = λ judged other alike x also. one_after other (c.says d.tells other) x answer (λ accepted a b. goes.one d.tells other x answer judged accepted a b) also (looked c d.tells held other answer goes alike said);
      },
      own,
      stays,
      refl,
    ))

-- a command that was stopped had looked at page 8
stopped : {D : Type 0} (d : Ghosts D) (old new : D) (outcome : Outcome) (c : Behind) (shown : Image) → GoesOn c → IsHeld d old (held_as d old shown) → 9 ≤ d.page_count old → ShowsSame d old new outcome
    → outcome.text.items ≡ [] → ((n : ℕ) × c.looks (held_as d old shown) n) × (outcome.text.items ≡ []) × ChangesNothing d.tells d.tells_crashes (held_as d old shown) (work_of outcome (held_of d new))
stopped d old new outcome c shown goes is there same no_text =
    ((8, goes.page8 (held_as d old shown) (omega (arith, there))), no_text, changes_nothing d old new (held_as d old shown) outcome is same)

pub no_memory : {D : Type 0} (d : Ghosts D) (old new : D) (outcome : Outcome) (c : Behind) → GoesOn c → (d.tells → ArePages (d.page_count old) (d.image old)) → 9 ≤ d.page_count old → ShowsSame d old new outcome
    → outcome.text.items ≡ [] → outcome.end ≡ Stopped stops.Memory → Performs d (looks_and c) old new outcome
no_memory d old new outcome c goes pages there same no_text is_end =
    let found = some_held d old pages in
    ends_as d (looks_and c) old new outcome (held_as d old found.shown) (Stopped stops.Memory) is_end found.is
    (λ sources. (stopped d old new outcome c found.shown goes found.is there same no_text, tt))

pub disk_failed : {D : Type 0} (d : Ghosts D) (old new : D) (outcome : Outcome) (c : Behind) → GoesOn c → (d.tells → ArePages (d.page_count old) (d.image old)) → 9 ≤ d.page_count old → ShowsSame d old new outcome
    → outcome.text.items ≡ [] → HasRisen (faults_of d old new) → outcome.end ≡ Stopped stops.Disk → Performs d (looks_and c) old new outcome
disk_failed d old new outcome c goes pages there same no_text risen is_end =
    let found = some_held d old pages in
    ends_as d (looks_and c) old new outcome (held_as d old found.shown) (Stopped stops.Disk) is_end found.is
    (λ sources. (stopped d old new outcome c found.shown goes found.is there same no_text, (risen, refl)))

-- ---- the look at the superblock

-- What a disk holds of which an accepted superblock was read, and something else of this image.
pub record Seen {D : Type 0} (d : Ghosts D) (disk : D) (s : Super) (image : Image) : Type 0 where
  pub held : Held
  pub is : IsHeld d disk held
  pub block : superblock_of held ≡ s
  pub accepted : IsAccepted s held.pages
  pub behind : (n : ℕ) → 8 < n → n < held.pages → length (page_of image n) ≡ 4096 → page_of held.image n ≡ page_of image n

pub seen : {D : Type 0} (d : Ghosts D) (disk : D) (s : Super) (image : Image) (count : Count) → (d.tells → ArePages (d.page_count disk) (d.image disk)) → (d.tells → image ≡ d.image disk)
    → Looks d.tells (d.page_count disk) (d.image disk) count (Ok s) → Seen d disk s image
seen d disk s image count pages same (page, is8, is, accepted, stays) =
    let found = has_page8 d disk image page pages same is8 in
    record {
      held = held_as d disk found.shown;
      is = found.is;
      block = ap super_of (found.there (accepted_pages s (d.page_count disk) accepted)) ∙ sym is;
      accepted = accepted;
      behind = found.behind;
    }

-- what follows an accepted superblock is what the command says
pub goes_on : (says : Held → Super → Answer → Type 0) (held : Held) (s : Super) (answer : Answer) → superblock_of held ≡ s → IsAccepted s held.pages → says held s answer → AfterSuperblock held (says held) answer
goes_on says held s answer block accepted said =
    let none = subst (λ (t : Super). IsAccepted t held.pages) (sym block) accepted in
    subst (λ (o : Option BadSuper). AfterRules o (says held (superblock_of held)) answer) (sym none) (subst (λ (t : Super). says held t answer) (sym block) said)

-- a look that went no further
pub not_looked : {D : Type 0} (d : Ghosts D) (old new : D) (end : End) (outcome : Outcome) (c : Behind) → GoesOn c → (d.tells → ArePages (d.page_count old) (d.image old))
    → Looks d.tells (d.page_count old) (d.image old) (faults_of d old new) (Err end) → ShowsSame d old new outcome → outcome.text.items ≡ [] → outcome.end ≡ end → Performs d (looks_and c) old new outcome
not_looked d old new (Own (statuses.BadImage number rule value)) outcome c goes pages (page, is8, number_is, broken, stays) same no_text is_end =
    let found = has_page8 d old (d.image old) page pages (λ t. refl) is8 in
    let held : Held = held_as d old found.shown in
    let first : first_broken (rows (superblock_of held) held.pages) ≡ Some (record { rule = rule; value = value }) =
    same_first (superblock_of held) (super_of page) held.pages (λ there. ap super_of (found.there there)) ∙ broken in
    comes d old new outcome c held (refused (statuses.BadImage number rule value)) goes found.is same no_text
    (subst (λ (o : Option BadSuper). AfterRules o (c.says d.tells held (superblock_of held)) (refused (statuses.BadImage number rule value))) (sym first) (ap (λ (n : ℕ). refused (statuses.BadImage n rule value)) number_is))
    tt stays is_end
not_looked d old new (Stopped stops.Disk) outcome c goes pages (there, risen) same no_text is_end = disk_failed d old new outcome c goes pages there same no_text risen is_end
not_looked d old new (Stopped stops.Memory) outcome c goes pages there same no_text is_end = no_memory d old new outcome c goes pages there same no_text is_end
not_looked d old new (Stopped stops.Scripts) outcome c goes pages h same no_text is_end = absurd h
not_looked d old new (Own _) outcome c goes pages h same no_text is_end = absurd h
