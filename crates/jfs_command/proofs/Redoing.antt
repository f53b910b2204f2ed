-- The command `redo` does what it means.
use Rattle.std.proofs.Common.{◌≡◌, ◌≤◌, ◌⊎◌, ℕ, Bool, true, false, List, [], Option, Some, Result, Ok, Err, inl, inr, refl, sym, ap, subst, ◌∙◌, arith}
use Rattle.std.specs.Global.{Vec}
use Rattle.jfs_bits.specs.Count.{Rose}
use Rattle.jfs_bits.specs.Broken.{first_broken}
use Rattle.jfs_disk.specs.Image.{Image, page_of, ArePages}
use Rattle.jfs_disk.specs.Crash.{DiskState, last_of}
use Rattle.jfs_disk.specs.Moment.{IsResting}
use Rattle.jfs_disk.specs.declared.disk.Disk.{Ghosts}
use Rattle.jfs_super.specs.declared.fields.Super.{Super}
use Rattle.jfs_super.specs.declared.read.BadSuper.{BadSuper}
use Rattle.jfs_super.specs.Super.{super_of}
use Rattle.jfs_super.specs.Rules.{rows, blocks_of, IsAccepted}
use Rattle.jfs_super.proofs.Rules.{accepted_pages}
use Rattle.jfs_redo.specs.Redo.{StaysBehind}
use Rattle.jfs_redo.specs.Partly.{IsRedoneMeanwhile}
use Rattle.jfs_command.specs.declared.status.Status.{Status}
use Rattle.jfs_command.specs.declared.status.Status.TheVariants as statuses
use Rattle.jfs_command.specs.declared.status.Stop.TheVariants as stops
use Rattle.jfs_command.specs.declared.outcome.End.{End}
use Rattle.jfs_command.specs.declared.outcome.End.TheVariants.{Own, Stopped}
use Rattle.jfs_command.specs.declared.outcome.Outcome.{Outcome}
use Rattle.jfs_command.specs.Status.{IsOwn}
use Rattle.jfs_command.specs.Count.{Stays}
use Rattle.jfs_command.specs.Held.{Held, IsHeld, Work, held_of, ChangesNothing}
use Rattle.jfs_command.specs.Meaning.{Answer, Performs, finished, refused, work_of}
use Rattle.jfs_command.specs.Superblock.{superblock_of, AfterRules, AfterSuperblock, Looks}
use Rattle.jfs_command.specs.Redo.{is_mounted, RedoSays, IsMounted, LooksAtMounted, StaysRedoable, HasRedone, HasDone, Redoes, HasBegun, NoneIsJudged, redo_meaning, work_with, RedoEnds}
use Rattle.jfs_command.proofs.SuperblockLemmas.{same_first, one_after}
use Rattle.jfs_command.proofs.Evidence.{held_as, some_held, has_page8}
use Rattle.jfs_command.proofs.Looking.{Behind, GoesOn, ShowsSame, faults_of, looked, ends_as, Seen, seen, goes_on}
use Rattle.jfs_command.proofs.RedoSaid.{long, same_says, one_thing, says_told}

abbrev pub redo_behind : Behind
redo_behind = record { looks = LooksAtMounted; says = λ tells held. RedoSays tells held.image; judged = NoneIsJudged }

one_status : (tells : Type 0) (held : Held) (x y : Answer) → tells ⊎ ⊥ → IsAccepted (superblock_of held) held.pages → RedoSays tells held.image (superblock_of held) x → RedoSays tells held.image (superblock_of held) y → x.status ≡ y.status
one_status tells held x y (inl told) accepted a b =
    let s = superblock_of held in
    ap (λ (z : Answer). z.status) (one_thing held.pages s held.image x y accepted (says_told tells s held.image x told a) (says_told tells s held.image y told b))
one_status tells held x y (inr none) accepted a b = absurd none

pub redo_goes : GoesOn redo_behind
redo_goes = record {
  page8 = λ held there. inl (refl, there);
  rests = λ tells a b answer accepted same said. same_says tells a.image b.image (superblock_of a) answer (long (superblock_of a) a.pages accepted) (λ told mounted n. same.each n (inr (accepted, mounted))) said;
  one = λ tells held x y judged accepted said also. one_status tells held x y judged accepted said also;
}

-- the command comes to an answer
comes : {D : Type 0} (d : Ghosts D) (old new : D) (outcome : Outcome) (held : Held) (answer : Answer) → IsHeld d old held → Redoes answer.status d.tells d.tells_crashes (superblock_of held) held (work_of outcome (held_of d new))
    → outcome.text.items ≡ answer.text → AfterSuperblock held (RedoSays d.tells held.image) answer → IsOwn answer.status → Stays (faults_of d old new) → outcome.end ≡ Own answer.status → Performs d redo_meaning old new outcome
comes d old new outcome held answer is does is_text said own stays is_end =
    let with_text : List ℕ → Answer = λ text. record { status = answer.status; text = text } in
    let told = subst (λ (a : Answer). AfterSuperblock held (RedoSays d.tells held.image) a) (sym (ap with_text is_text)) said in
    ends_as d redo_meaning old new outcome held (Own answer.status) is_end is (λ sources. (
      record {
        says = told;
        does = does;
        looked = λ other alike. looked redo_behind d.tells held other (with_text outcome.text.items) redo_goes alike told;
        one = λ judged other alike x also. one_after other (RedoSays d.tells other.image) x answer (λ accepted a b. one_status d.tells other x answer judged accepted a b) also (looked redo_behind d.tells held other answer redo_goes alike said);
      },
      own,
      stays,
      refl,
    ))

-- ---- what was done, by what is known of the disk

-- what is said of what the disk tells is said of these, which are the same where it tells
module _ (tells crashes : Type 0) (s : Super) (a held : Held) (work : Work) (image : tells → held.image ≡ a.image) (past : crashes → held.past ≡ a.past) where
  nothing_as : ChangesNothing tells crashes a work → ChangesNothing tells crashes held work
  nothing_as did = record { history = did.history; told = did.told; image = λ t. did.image t ∙ sym (image t); past = λ t. did.past t ∙ sym (past t) }

  behind_as : (tells → StaysBehind (blocks_of s) a.image work.held.image) → tells → StaysBehind (blocks_of s) held.image work.held.image
  behind_as did t p far = did t p far ∙ sym (ap (λ (i : Image). page_of i p) (image t))

  redoable_as : StaysRedoable tells crashes s a work.held → StaysRedoable tells crashes s held work.held
  redoable_as did t c rests = subst (λ (i : Image). IsRedoneMeanwhile s i held.past work.held.past) (sym (image t))
      (subst (λ (before : List DiskState). IsResting (last_of before) → IsRedoneMeanwhile s a.image before work.held.past) (sym (past c)) (did t c) rests)

  redone_as : HasRedone tells crashes s a work → HasRedone tells crashes s held work
  redone_as did = record {
    history = did.history;
    told = did.told;
    volume = λ t. let it = did.volume t in rw (image t) it;
    superblock = did.superblock;
    behind = behind_as did.behind;
    stable = did.stable;
    meanwhile = redoable_as did.meanwhile;
  }

  done_as : (mounted : Bool) → HasDone mounted tells crashes s a work → HasDone mounted tells crashes s held work
  done_as true did = redone_as did
  done_as false did = nothing_as did

  redoes_as : (status : Status) → Redoes status tells crashes s a work → Redoes status tells crashes s held work
  redoes_as statuses.Done did = done_as (is_mounted s.state.0) did
  redoes_as _ did = nothing_as did

  begun_as : held.pages ≡ a.pages → HasBegun tells crashes s a work → HasBegun tells crashes s held work
  begun_as pages did = record {
    history = did.history;
    told = did.told;
    behind = behind_as did.behind;
    unless = λ not. nothing_as (did.unless (λ is. not (subst (λ (n : ℕ). IsMounted s n) (sym pages) is)));
    meanwhile = redoable_as did.meanwhile;
  }

same_work : (outcome : Outcome) (text : List ℕ) (left : Held) → outcome.text.items ≡ text → outcome.history.items ≡ [] → outcome.told.items ≡ [] → work_with text left ≡ work_of outcome left
same_work outcome text left is_text no_history no_told = rw (is_text, no_history, no_told) refl

-- ---- the command

-- the look at the superblock and the work after it, from one disk over another to a third
pub record Runs {D : Type 0} (d : Ghosts D) (old mid new : D) (s : Super) (result : Result (Vec ℕ) End) : Type 0 where
  pub pages : d.tells → ArePages (d.page_count old) (d.image old)
  pub looked : Looks d.tells (d.page_count old) (d.image old) (faults_of d old mid) (Ok s)
  pub count : d.page_count mid ≡ d.page_count old
  pub image : d.tells → d.image mid ≡ d.image old
  pub past : d.tells_crashes → d.past mid ≡ d.past old
  pub ends : RedoEnds d.tells d.tells_crashes s (held_of d mid) (held_of d new) (faults_of d mid new) result

-- a command without clients
pub record NoClients (outcome : Outcome) : Type 0 where
  pub history : outcome.history.items ≡ []
  pub told : outcome.told.items ≡ []

module _ {D : Type 0} (d : Ghosts D) (old mid new : D) (s : Super) (result : Result (Vec ℕ) End) (outcome : Outcome) (runs : Runs d old mid new s result) (none : NoClients outcome) where
  found : Seen d old s (d.image old)
  found = seen d old s (d.image old) (faults_of d old mid) runs.pages (λ t. refl) runs.looked

  shown : d.tells → found.held.image ≡ d.image mid
  shown t = found.is.image t ∙ sym (runs.image t)

  shown_past : d.tells_crashes → found.held.past ≡ d.past mid
  shown_past t = found.is.past t ∙ sym (runs.past t)

  said : (answer : Answer) → RedoSays d.tells (d.image mid) s answer → Redoes answer.status d.tells d.tells_crashes s (held_of d mid) (work_with answer.text (held_of d new))
      → Stays (faults_of d mid new) → IsOwn answer.status → outcome.text.items ≡ answer.text → outcome.end ≡ Own answer.status → Performs d redo_meaning old new outcome
  said answer says did stays own is_text is_end =
      let held = found.held in
      let same = same_says d.tells (d.image mid) held.image s answer (long s held.pages found.accepted) (λ told mounted n. ap (λ (i : Image). page_of i n) (shown told)) says in
      let done = redoes_as d.tells d.tells_crashes s (held_of d mid) held (work_of outcome (held_of d new)) shown shown_past answer.status
      (subst (λ (w : Work). Redoes answer.status d.tells d.tells_crashes s (held_of d mid) w) (same_work outcome answer.text (held_of d new) is_text none.history none.told) did) in
      comes d old new outcome held answer found.is (subst (λ (t : Super). Redoes answer.status d.tells d.tells_crashes t held (work_of outcome (held_of d new))) (sym found.block) done) is_text
      (goes_on (λ held. RedoSays d.tells held.image) held s answer found.block found.accepted same) own (stays ∙ runs.looked.4) is_end

  begun : HasBegun d.tells d.tells_crashes s (held_of d mid) (work_with [] (held_of d new)) → outcome.text.items ≡ []
      → ((n : ℕ) × LooksAtMounted found.held n) × (outcome.text.items ≡ []) × HasBegun d.tells d.tells_crashes (superblock_of found.held) found.held (work_of outcome (held_of d new))
  begun did no_text =
      let held = found.held in
      let there = accepted_pages s held.pages found.accepted in
      let done = begun_as d.tells d.tells_crashes s (held_of d mid) held (work_of outcome (held_of d new)) shown shown_past (found.is.pages ∙ sym runs.count)
      (subst (λ (w : Work). HasBegun d.tells d.tells_crashes s (held_of d mid) w) (same_work outcome [] (held_of d new) no_text none.history none.told) did) in
      ((8, redo_goes.page8 held (omega (arith, there))), no_text, subst (λ (t : Super). HasBegun d.tells d.tells_crashes t held (work_of outcome (held_of d new))) (sym found.block) done)

pub redone : {D : Type 0} (d : Ghosts D) (old mid new : D) (s : Super) (text : Vec ℕ) (outcome : Outcome) → Runs d old mid new s (Ok text) → NoClients outcome
    → outcome.text.items ≡ text.items → outcome.end ≡ Own statuses.Done → Performs d redo_meaning old new outcome
redone d old mid new s text outcome runs none is_text is_end = said d old mid new s (Ok text) outcome runs none (finished text.items) runs.ends.0 runs.ends.1 runs.ends.2 tt is_text is_end

pub not_redone : {D : Type 0} (d : Ghosts D) (old mid new : D) (s : Super) (end : End) (outcome : Outcome) → Runs d old mid new s (Err end) → NoClients outcome
    → outcome.text.items ≡ [] → outcome.end ≡ end → Performs d redo_meaning old new outcome
not_redone d old mid new s (Own status) outcome runs none no_text is_end =
    said d old mid new s (Err (Own status)) outcome runs none (refused status) runs.ends.0 runs.ends.1 runs.ends.3 runs.ends.2 no_text is_end
not_redone d old mid new s (Stopped stops.Disk) outcome runs none no_text is_end =
    let result : Result (Vec ℕ) End = Err (Stopped stops.Disk) in
    let it = found d old mid new s result outcome runs none in
    ends_as d redo_meaning old new outcome it.held (Stopped stops.Disk) is_end it.is
    (λ sources. (begun d old mid new s result outcome runs none runs.ends.0 no_text, (subst (λ (n : ℕ). Rose n (d.fault_count new)) runs.looked.4 runs.ends.1, refl)))
not_redone d old mid new s (Stopped stops.Memory) outcome runs none no_text is_end =
    let result : Result (Vec ℕ) End = Err (Stopped stops.Memory) in
    let it = found d old mid new s result outcome runs none in
    ends_as d redo_meaning old new outcome it.held (Stopped stops.Memory) is_end it.is
    (λ sources. (begun d old mid new s result outcome runs none runs.ends no_text, tt))
not_redone d old mid new s (Stopped stops.Scripts) outcome runs none no_text is_end = absurd runs.ends

-- ---- a look that went no further

-- nothing was done, of whatever the disk may hold
module _ {D : Type 0} (d : Ghosts D) (old new : D) (outcome : Outcome) (same : ShowsSame d old new outcome) (shown : Image) (is : IsHeld d old (held_as d old shown)) where
  abbrev held : Held
  held = held_as d old shown

  nothing : ChangesNothing d.tells d.tells_crashes held (work_of outcome (held_of d new))
  nothing = record { history = same.history; told = same.told; image = λ t. same.image t ∙ sym (is.image t); past = λ t. same.past t ∙ sym (is.past t) }

  stopped : 9 ≤ d.page_count old → outcome.text.items ≡ [] → ((n : ℕ) × LooksAtMounted held n) × (outcome.text.items ≡ []) × HasBegun d.tells d.tells_crashes (superblock_of held) held (work_of outcome (held_of d new))
  stopped there no_text = (
    (8, inl (refl, omega (arith, there))),
    no_text,
    record {
      history = same.history;
      told = same.told;
      behind = λ t p far. ap (λ (i : Image). page_of i p) (nothing.image t);
      unless = λ _. nothing;
      meanwhile = λ t c rests. inl (nothing.past c);
    },
  )

pub not_looked : {D : Type 0} (d : Ghosts D) (old new : D) (end : End) (outcome : Outcome) → (d.tells → ArePages (d.page_count old) (d.image old))
    → Looks d.tells (d.page_count old) (d.image old) (faults_of d old new) (Err end) → ShowsSame d old new outcome → outcome.text.items ≡ [] → outcome.end ≡ end → Performs d redo_meaning old new outcome
not_looked d old new (Own (statuses.BadImage number rule value)) outcome pages (page, is8, number_is, broken, stays) same no_text is_end =
    let it = has_page8 d old (d.image old) page pages (λ t. refl) is8 in
    let held : Held = held_as d old it.shown in
    let first : first_broken (rows (superblock_of held) held.pages) ≡ Some (record { rule = rule; value = value }) =
    same_first (superblock_of held) (super_of page) held.pages (λ there. ap super_of (it.there there)) ∙ broken in
    comes d old new outcome held (refused (statuses.BadImage number rule value)) it.is (nothing d old new outcome same it.shown it.is) no_text
    (subst (λ (o : Option BadSuper). AfterRules o (RedoSays d.tells held.image (superblock_of held)) (refused (statuses.BadImage number rule value))) (sym first) (ap (λ (n : ℕ). refused (statuses.BadImage n rule value)) number_is))
    tt stays is_end
not_looked d old new (Stopped stops.Disk) outcome pages (there, risen) same no_text is_end =
    let it = some_held d old pages in
    ends_as d redo_meaning old new outcome (held_as d old it.shown) (Stopped stops.Disk) is_end it.is (λ sources. (stopped d old new outcome same it.shown it.is there no_text, (risen, refl)))
not_looked d old new (Stopped stops.Memory) outcome pages there same no_text is_end =
    let it = some_held d old pages in
    ends_as d redo_meaning old new outcome (held_as d old it.shown) (Stopped stops.Memory) is_end it.is (λ sources. (stopped d old new outcome same it.shown it.is there no_text, tt))
not_looked d old new (Stopped stops.Scripts) outcome pages h same no_text is_end = absurd h
not_looked d old new (Own _) outcome pages h same no_text is_end = absurd h
