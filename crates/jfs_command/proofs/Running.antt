-- The command `run` does what it means.
use Rattle.std.proofs.Common.{◌≡◌, ◌++◌, ◌<◌, ◌≤◌, ◌⊎◌, ℕ, Bool, true, List, [], length, map, Option, Some, None, Result, Ok, Err, inl, inr, refl, sym, ap, subst, ◌∙◌, arith}
use Rattle.std.specs.Global.{Vec}
use Rattle.jfs_bits.specs.Count.{Rose}
use Rattle.jfs_bits.specs.Broken.{first_broken}
use Rattle.jfs_bits.specs.declared.descriptor.Moment.{Moment}
use Rattle.jfs_disk.specs.Image.{Image, page_of, ArePages}
use Rattle.jfs_disk.specs.Crash.{DiskState, last_of}
use Rattle.jfs_disk.specs.Moment.{IsResting}
use Rattle.jfs_disk.specs.declared.disk.Disk.{Ghosts}
use Rattle.jfs_findings_new.specs.meaning.specs.Image.{IsConsistentImage}
use Rattle.jfs_findings_new.specs.mount_rules.specs.Subject.{subject_of}
use Rattle.jfs_findings_new.specs.mount_rules.specs.Mount.{broken_mount}
use Rattle.jfs_run.specs.Calls.{NoCalls}
use Rattle.jfs_run.specs.Left.{IsLeftRun, IsLeftNeverMounted}
use Rattle.jfs_run.specs.Legal.{IsLegalRun, LeavesImage}
use Rattle.jfs_run.specs.kept_history.specs.Keepable.{IsKeepableImage}
use Rattle.jfs_run.specs.kept_history.specs.mounted_maps.specs.Keepable.{IsKeepable}
use Rattle.jfs_run.specs.Run.{StayBeside}
use Rattle.jfs_io.specs.declared.source.Source.{Ghosts as SourceMembers}
use Rattle.jfs_plain.specs.declared.call.Line.{Line}
use Rattle.jfs_super.specs.declared.fields.Super.{Super}
use Rattle.jfs_super.specs.declared.read.BadSuper.{BadSuper}
use Rattle.jfs_super.specs.Super.{super_of}
use Rattle.jfs_super.specs.Rules.{rows, blocks_of, IsAccepted}
use Rattle.jfs_redo.specs.Redo.{StaysBehind}
use Rattle.jfs_redo.specs.Partly.{IsRedoneMeanwhile}
use Rattle.jfs_super.proofs.Rules.{accepted_pages}
use Rattle.jfs_command.specs.declared.status.Status.{Status}
use Rattle.jfs_command.specs.declared.status.Status.TheVariants as statuses
use Rattle.jfs_command.specs.declared.status.Stop.TheVariants as stops
use Rattle.jfs_command.specs.declared.outcome.End.{End}
use Rattle.jfs_command.specs.declared.outcome.End.TheVariants.{Own, Stopped}
use Rattle.jfs_command.specs.declared.outcome.Outcome.{Outcome}
use Rattle.jfs_command.specs.Status.{IsOwn}
use Rattle.jfs_command.specs.Count.{Count, Faults, Stays, HasRisen}
use Rattle.jfs_command.specs.Held.{Held, IsHeld, Work, held_of, ChangesNothing}
use Rattle.jfs_command.specs.Inputs.{Inputs, source_faults}
use Rattle.jfs_command.specs.Meaning.{Answer, EndsBy, Performs, refused, work_of}
use Rattle.jfs_command.specs.Redo.{is_clean, is_mounted}
use Rattle.jfs_command.specs.Scripts.{ScriptsEnd}
use Rattle.jfs_command.specs.Superblock.{superblock_of, AfterRules, Looks}
use Rattle.jfs_command.specs.Top.{PerformsBy}
use Rattle.jfs_command.specs.Order.{Planned, Order, by_scripts, Asks}
use Rattle.jfs_command.specs.Run.{IsOfScripts, front_text, whole_text, calls_of, Start, cleaned, is_ready, IsRedoneBy, BeginsOn, as_it_is, as_redone, AreReplies, CallsNone, MayBegin, LinesSay, RunSays, refuses, takes, HasRun, HasOnlyRedone, BeginsOnRedone, Runs, Spares, HasBegunRedo, LeavesCalls, FailsOn, RunsOutOn, Stopped as StopsBy, RestsAtFirst, HasFailed, HasRunOut, DoesLines, LinesEnd, run_meaning}
use Rattle.jfs_command.proofs.SuperblockLemmas.{same_first}
use Rattle.jfs_command.proofs.Evidence.{held_as, some_held, has_page8}
use Rattle.jfs_command.proofs.Looking.{ShowsSame, faults_of, ends_as, Seen, seen, goes_on}
use Rattle.jfs_command.proofs.RedoSaid.{long}
use Rattle.jfs_command.proofs.RunLines.{fails_where, runs_out_where}
use Rattle.jfs_command.proofs.RunSaid.{IsOrder, order_is, same_lines, same_run, one_run}

moved : (P : Super → Image → Type 0) (s t : Super) (a b : Image) → s ≡ t → a ≡ b → P s a → P t b
moved P s t a b is same it = subst (λ (u : Super). P u b) is (subst (λ (i : Image). P s i) same it)

-- the command comes to an answer
comes : {D : Type 0} (d : Ghosts D) (old new : D) (outcome : Outcome) (is_left : Bool) (now : Moment) (order : Order) (is_order : IsOrder order) (held : Held) (answer : Answer) → IsHeld d old held
    → Runs answer.status d.tells d.tells_crashes order is_left now held (work_of outcome (held_of d new)) → outcome.text.items ≡ answer.text → RunSays d.tells order held answer
    → IsOwn answer.status → Stays (faults_of d old new) → outcome.end ≡ Own answer.status → Performs d (run_meaning is_left order now) old new outcome
comes d old new outcome is_left now order is_order held answer is does is_text said own stays is_end =
    let with_text : List ℕ → Answer = λ text. record { status = answer.status; text = text } in
    let told = subst (λ (a : Answer). RunSays d.tells order held a) (sym (ap with_text is_text)) said in
    ends_as d (run_meaning is_left order now) old new outcome held (Own answer.status) is_end is (λ sources. (
      record {
        says = told;
        does = does;
        looked = λ other alike. same_run d.tells order held other (with_text outcome.text.items) alike told;
        one = λ judged other alike x also. one_run d.tells order is_order held other x answer alike judged also (same_run d.tells order held other answer alike said);
      },
      own,
      stays,
      refl,
    ))

-- ---- the script was read, and the superblock accepted

-- the look at the superblock and the work after it, from one disk over another to a third
pub record Ran {D : Type 0} (d : Ghosts D) (old mid new : D) (s : Super) (p : Planned) (is_left : Bool) (now : Moment) (outcome : Outcome) : Type 0 where
  pub pages : d.tells → ArePages (d.page_count old) (d.image old)
  pub looked : Looks d.tells (d.page_count old) (d.image old) (faults_of d old mid) (Ok s)
  pub image : d.tells → d.image mid ≡ d.image old
  pub past : d.tells_crashes → d.past mid ≡ d.past old
  pub ends : LinesEnd d.tells d.tells_crashes p is_left now s (held_of d mid) (work_of outcome (held_of d new)) (faults_of d mid new) outcome.end

module _ {D : Type 0} (d : Ghosts D) (old mid new : D) (s : Super) (p : Planned) (is_left : Bool) (now : Moment) (outcome : Outcome) (order : Order) (is_order : IsOrder order) (good : Asks order (Ok p)) (ran : Ran d old mid new s p is_left now outcome) where
  abbrev work : Work
  work = work_of outcome (held_of d new)

  found : Seen d old s (d.image old)
  found = seen d old s (d.image old) (faults_of d old mid) ran.pages (λ t. refl) ran.looked

  shown : d.tells → found.held.image ≡ d.image mid
  shown t = found.is.image t ∙ sym (ran.image t)

  nothing : ChangesNothing d.tells d.tells_crashes (held_of d mid) work → ChangesNothing d.tells d.tells_crashes found.held work
  nothing did = record { history = did.history; told = did.told; image = λ t. did.image t ∙ sym (shown t); past = λ t. did.past t ∙ ran.past t ∙ sym (found.is.past t) }

  risen : HasRisen (faults_of d mid new) → HasRisen (faults_of d old new)
  risen rose = subst (λ (n : ℕ). Rose n (d.fault_count new)) ran.looked.4 rose

  -- where nothing was pending at first, nothing is behind the look at the superblock
  rests_at_mid : d.tells_crashes → RestsAtFirst (superblock_of found.held) found.held → RestsAtFirst s (held_of d mid)
  rests_at_mid k (inl mounted) = inl (subst (λ (u : Super). is_mounted u.state.0 ≡ true) found.block mounted)
  rests_at_mid k (inr rests) = inr (subst (λ (past : List DiskState). IsResting (last_of past)) (found.is.past k ∙ sym (ran.past k)) rests)

  -- what is said of the superblock and the image is said of what the disk held at first
  from_mid : (P : Super → Image → Type 0) → d.tells → P s (d.image mid) → P (superblock_of found.held) found.held.image
  from_mid P t it = moved P s (superblock_of found.held) (d.image mid) found.held.image (sym found.block) (sym (shown t)) it

  -- what calls begin on, by what the disk held at first
  record AtFirst (start : Start) : Type 0 where
    pub at : Start
    pub on : BeginsOn d.tells (superblock_of found.held) found.held.image at
    pub text : at.text ≡ start.text
    pub same : d.tells → at ≡ start

  clean_first : d.tells → (let a : Start = record { super = superblock_of found.held; image = found.held.image; text = [] } in let b : Start = record { super = s; image = d.image mid; text = [] } in a ≡ b)
  clean_first t =
      let by_super : Super → Start = λ u. record { super = u; image = found.held.image; text = [] } in
      let by_image : Image → Start = λ i. record { super = s; image = i; text = [] } in
      ap by_super found.block ∙ ap by_image (shown t)

  at_first : (start : Start) → BeginsOn d.tells s (d.image mid) start → AtFirst start
  at_first start (as_it_is clean e) = record {
    at = record { super = superblock_of found.held; image = found.held.image; text = [] };
    on = as_it_is (subst (λ (u : Super). is_clean u.state.0 ≡ true) (sym found.block) clean) refl;
    text = sym (ap (λ (st : Start). st.text) e);
    same = λ t. clean_first t ∙ sym e;
  }
  at_first start (as_redone mounted count super text by) = record {
    at = start;
    on = as_redone (subst (λ (u : Super). is_mounted u.state.0 ≡ true) (sym found.block) mounted) count (super ∙ ap cleaned (sym found.block)) text
        (λ t. from_mid (λ (u : Super) (i : Image). IsRedoneBy u i start.image count) t (by t));
    text = refl;
    same = λ t. refl;
  }

  -- what was done from there
  module _ (start : Start) (first : AtFirst start) where
    back : (P : Start → Type 0) → d.tells → P start → P first.at
    back P t it = subst P (sym (first.same t)) it

    replies : AreReplies d.tells start.super start.image now outcome.history.items → AreReplies d.tells first.at.super first.at.image now outcome.history.items
    replies did = λ t. back (λ st. IsConsistentImage st.super (page_of st.image) → IsLegalRun st.super (page_of st.image) now outcome.history.items) t (did t)

    called : {A : Type 0} → CallsNone d.tells start work ⊎ (A × MayBegin d.tells start) → CallsNone d.tells first.at work ⊎ (A × MayBegin d.tells first.at)
    called (inl none) = inl (none.0, λ t. back (λ st. StayBeside st.super st.image (d.image new)) t (none.1 t))
    called (inr (was, may)) = inr (was, λ t. back (λ st. broken_mount (subject_of st.super (page_of st.image)) ≡ None) t (may t))

    behind_first : (text : List ℕ) → outcome.text.items ≡ start.text ++ text → outcome.text.items ≡ first.at.text ++ text
    behind_first text is = is ∙ sym (ap (λ (x : List ℕ). x ++ text) first.text)

    has_run : HasRun d.tells d.tells_crashes p is_left now start work → HasRun d.tells d.tells_crashes p is_left now first.at work
    has_run did = record {
      entries = did.entries;
      told = did.told;
      calm = did.calm;
      replies = replies did.replies;
      text = behind_first (whole_text p.printed (calls_of work)) did.text;
      superblock = λ not_left t. back (λ st. page_of (d.image new) 8 ≡ page_of st.image 8) t (did.superblock not_left t);
      stable = did.stable;
      image = λ not_left t. back (λ st. LeavesImage st.super st.image now outcome.history.items (d.image new)) t (did.image not_left t);
      again = λ not_left t k. back (λ st. IsKeepableImage st.super st.image → IsKeepable st.super (page_of (d.image new))) t (did.again not_left t k);
      left = λ t k. back (λ st. IsKeepableImage st.super st.image → IsLeftRun st.super st.image now is_left (calls_of work) (last_of (d.past new))) t (did.left t k);
    }

    only_redone : HasOnlyRedone d.tells d.tells_crashes start work → HasOnlyRedone d.tells d.tells_crashes first.at work
    only_redone did = record { history = did.history; told = did.told; text = did.text ∙ sym first.text; image = λ t. back (λ st. d.image new ≡ st.image) t (did.image t); stable = did.stable }

    lefts : LeavesCalls d.tells d.tells_crashes is_left now start (RestsAtFirst s (held_of d mid)) work → LeavesCalls d.tells d.tells_crashes is_left now first.at (RestsAtFirst s (held_of d mid)) work
    lefts did = λ t k. back (λ st. IsKeepableImage st.super st.image → (NoCalls (calls_of work) × IsLeftNeverMounted st.super st.image (d.image new) (RestsAtFirst s (held_of d mid)) (last_of (d.past new))) ⊎ IsLeftRun st.super st.image now is_left (calls_of work) (last_of (d.past new))) t (did t k)

    -- the premise is of what the disk held at first too
    fails : FailsOn d.tells d.tells_crashes p is_left now start (RestsAtFirst s (held_of d mid)) work → FailsOn d.tells d.tells_crashes p is_left now first.at (RestsAtFirst (superblock_of found.held) found.held) work
    fails did = fails_where d.tells d.tells_crashes p is_left now first.at work (RestsAtFirst s (held_of d mid)) (RestsAtFirst (superblock_of found.held) found.held) rests_at_mid (record {
      called = called did.called;
      replies = replies did.replies;
      text = behind_first (front_text p.printed (calls_of work)) did.text;
      left = lefts did.left;
    })

    runs_out : RunsOutOn (faults_of d mid new) d.tells d.tells_crashes p is_left now start (RestsAtFirst s (held_of d mid)) work → RunsOutOn (faults_of d old new) d.tells d.tells_crashes p is_left now first.at (RestsAtFirst (superblock_of found.held) found.held) work
    runs_out did = runs_out_where (faults_of d old new) d.tells d.tells_crashes p is_left now first.at work (RestsAtFirst s (held_of d mid)) (RestsAtFirst (superblock_of found.held) found.held) rests_at_mid (record {
      called = called did.called;
      told = told_by did.told;
      calm = told_by did.calm;
      replies = replies did.replies;
      text = text_by did.text;
      left = lefts did.left;
    })
      where
        told_by : {A : Type 0} → HasRisen (faults_of d mid new) ⊎ A → HasRisen (faults_of d old new) ⊎ A
        told_by (inl rose) = inl (risen rose)
        told_by (inr all) = inr all

        text_by : (outcome.text.items ≡ start.text ++ front_text p.printed (calls_of work)) ⊎ (outcome.text.items ≡ []) → (outcome.text.items ≡ first.at.text ++ front_text p.printed (calls_of work)) ⊎ (outcome.text.items ≡ [])
        text_by (inl is) = inl (behind_first (front_text p.printed (calls_of work)) is)
        text_by (inr none) = inr none

  does_image : ChangesNothing d.tells d.tells_crashes (held_of d mid) work ⊎ ((start : Start) × BeginsOnRedone d.tells s (d.image mid) start × HasOnlyRedone d.tells d.tells_crashes start work)
      → ChangesNothing d.tells d.tells_crashes found.held work ⊎ ((start : Start) × BeginsOnRedone d.tells (superblock_of found.held) found.held.image start × HasOnlyRedone d.tells d.tells_crashes start work)
  does_image (inl did) = inl (nothing did)
  does_image (inr (start, on, did)) =
      let first = at_first start on.1 in
      inr (first.at, (subst (λ (u : Super). is_mounted u.state.0 ≡ true) (sym found.block) on.0, first.on), only_redone start first did)

  does : (status : Status) → DoesLines status d.tells d.tells_crashes p is_left now s (held_of d mid) work → Runs status d.tells d.tells_crashes order is_left now found.held work
  does statuses.Done (start, on, did) = let first = at_first start on in (p, good, first.at, first.on, has_run start first did)
  does (statuses.BadImage page rule value) did = does_image did
  does _ did = nothing did

  -- of a volume that is ready nothing is said to be spared
  spares : is_ready s.state.0 ≡ true → Spares d.tells d.tells_crashes order found.held work
  spares ready none = absurd (none (
    (p, good),
    (
      subst (λ (t : Super). IsAccepted t found.held.pages) (sym found.block) found.accepted,
      subst (λ (t : Super). is_ready t.state.0 ≡ true) (sym found.block) ready,
    ),
  ))

  begun : HasBegunRedo d.tells d.tells_crashes s (held_of d mid) work → HasBegunRedo d.tells d.tells_crashes (superblock_of found.held) found.held work
  begun did = record {
    mounted = subst (λ (u : Super). is_mounted u.state.0 ≡ true) (sym found.block) did.mounted;
    calls = did.calls;
    text = did.text;
    stays = λ t. from_mid (λ (u : Super) (i : Image). StaysBehind (blocks_of u) i (d.image new)) t (did.stays t);
    meanwhile = λ t k rests. from_mid (λ (u : Super) (i : Image). IsRedoneMeanwhile u i found.held.past (d.past new)) t
        (subst (λ (before : List DiskState). IsResting (last_of before) → IsRedoneMeanwhile s (d.image mid) before (d.past new)) (ran.past k ∙ sym (found.is.past k)) (did.meanwhile t k) rests);
  }

  stops_by : (P Q : Start → Type 0) → ((start : Start) (first : AtFirst start) → P start → Q first.at) → StopsBy d.tells d.tells_crashes P s (held_of d mid) work → StopsBy d.tells d.tells_crashes Q (superblock_of found.held) found.held work
  stops_by P Q next (inl did) = inl (did.0, nothing did.1)
  stops_by P Q next (inr (inl did)) = inr (inl (begun did))
  stops_by P Q next (inr (inr (start, on, did))) = let first = at_first start on in inr (inr (first.at, first.on, next start first did))

  looks8 : 8 < found.held.pages
  looks8 = let there = accepted_pages s found.held.pages found.accepted in omega (arith, there)

  by_end : (end : End) → outcome.end ≡ end → LinesEnd d.tells d.tells_crashes p is_left now s (held_of d mid) work (faults_of d mid new) end → Performs d (run_meaning is_left order now) old new outcome
  by_end (Own status) is_end (said, did, own, stays) =
      let answer : Answer = record { status = status; text = outcome.text.items } in
      comes d old new outcome is_left now order is_order found.held answer found.is (does status did) refl
      (takes p good (goes_on (λ held. LinesSay d.tells p held.image) found.held s answer found.block found.accepted
      (same_lines d.tells p s (d.image mid) found.held.image answer (long s found.held.pages found.accepted) (λ t ready n. ap (λ (i : Image). page_of i n) (shown t)) said)))
      own (stays ∙ ran.looked.4) is_end
  by_end (Stopped stops.Disk) is_end (did, rose, ready) =
      ends_as d (run_meaning is_left order now) old new outcome found.held (Stopped stops.Disk) is_end found.is (λ sources. (
        record {
          planned = p;
          taken = good;
          looked = (8, ((p, good), inl (refl, looks8)));
          done = stops_by (λ start. FailsOn d.tells d.tells_crashes p is_left now start (RestsAtFirst s (held_of d mid)) work)
              (λ start. FailsOn d.tells d.tells_crashes p is_left now start (RestsAtFirst (superblock_of found.held) found.held) work) fails did;
          spares = spares ready;
        },
        (risen rose, refl),
      ))
  by_end (Stopped stops.Memory) is_end (did, ready) =
      ends_as d (run_meaning is_left order now) old new outcome found.held (Stopped stops.Memory) is_end found.is (λ sources. (
        record {
          done = stops_by (λ start. RunsOutOn (faults_of d mid new) d.tells d.tells_crashes p is_left now start (RestsAtFirst s (held_of d mid)) work)
              (λ start. (l : Planned) × Asks order (Ok l) × RunsOutOn (faults_of d old new) d.tells d.tells_crashes l is_left now start (RestsAtFirst (superblock_of found.held) found.held) work) (λ start first it. (p, good, runs_out start first it)) did;
          spares = spares ready;
        },
        tt,
      ))
  by_end (Stopped stops.Scripts) is_end ends = absurd ends

  pub ran_on : Performs d (run_meaning is_left order now) old new outcome
  ran_on = by_end outcome.end refl ran.ends

-- ---- nothing was called

-- nothing was done, of whatever the disk may hold
module _ {D : Type 0} (d : Ghosts D) (old new : D) (outcome : Outcome) (same : ShowsSame d old new outcome) (now : Moment) (shown : Image) (is : IsHeld d old (held_as d old shown)) where
  abbrev held : Held
  held = held_as d old shown

  nothing_done : ChangesNothing d.tells d.tells_crashes held (work_of outcome (held_of d new))
  nothing_done = record { history = same.history; told = same.told; image = λ t. same.image t ∙ sym (is.image t); past = λ t. same.past t ∙ sym (is.past t) }

  run_out : (disk : Count) (order : Order) (is_left : Bool) → outcome.text.items ≡ [] → HasRunOut disk d.tells d.tells_crashes order is_left now held (work_of outcome (held_of d new))
  run_out disk order is_left no_text = record { done = inl (no_text, nothing_done); spares = λ none. nothing_done }

  failed : (p : Planned) (order : Order) (is_left : Bool) → Asks order (Ok p) → 9 ≤ d.page_count old → outcome.text.items ≡ [] → HasFailed d.tells d.tells_crashes order is_left now held (work_of outcome (held_of d new))
  failed p order is_left good there no_text = record {
    planned = p;
    taken = good;
    looked = (8, ((p, good), inl (refl, omega (arith, there))));
    done = inl (no_text, nothing_done);
    spares = λ none. nothing_done;
  }

-- the script was read, and the look at the superblock went no further
pub not_looked : {D : Type 0} (d : Ghosts D) (old new : D) (end : End) (outcome : Outcome) (is_left : Bool) (now : Moment) (p : Planned) (order : Order) (is_order : IsOrder order) → Asks order (Ok p)
    → (d.tells → ArePages (d.page_count old) (d.image old)) → Looks d.tells (d.page_count old) (d.image old) (faults_of d old new) (Err end) → ShowsSame d old new outcome
    → outcome.text.items ≡ [] → outcome.end ≡ end → Performs d (run_meaning is_left order now) old new outcome
not_looked d old new (Own (statuses.BadImage number rule value)) outcome is_left now p order is_order good pages (page, is8, number_is, broken, stays) same no_text is_end =
    let it = has_page8 d old (d.image old) page pages (λ t. refl) is8 in
    let held : Held = held_as d old it.shown in
    let answer : Answer = refused (statuses.BadImage number rule value) in
    let first : first_broken (rows (superblock_of held) held.pages) ≡ Some (record { rule = rule; value = value }) =
    same_first (superblock_of held) (super_of page) held.pages (λ there. ap super_of (it.there there)) ∙ broken in
    comes d old new outcome is_left now order is_order held answer it.is (inl (nothing_done d old new outcome same now it.shown it.is)) no_text
    (takes p good (subst (λ (o : Option BadSuper). AfterRules o (LinesSay d.tells p held.image (superblock_of held)) answer) (sym first) (ap (λ (n : ℕ). refused (statuses.BadImage n rule value)) number_is)))
    tt stays is_end
not_looked d old new (Stopped stops.Disk) outcome is_left now p order is_order good pages (there, rose) same no_text is_end =
    let it = some_held d old pages in
    ends_as d (run_meaning is_left order now) old new outcome (held_as d old it.shown) (Stopped stops.Disk) is_end it.is
    (λ sources. (failed d old new outcome same now it.shown it.is p order is_left good there no_text, (rose, refl)))
not_looked d old new (Stopped stops.Memory) outcome is_left now p order is_order good pages there same no_text is_end =
    let it = some_held d old pages in
    ends_as d (run_meaning is_left order now) old new outcome (held_as d old it.shown) (Stopped stops.Memory) is_end it.is
    (λ sources. (run_out d old new outcome same now it.shown it.is (faults_of d old new) order is_left no_text, tt))
not_looked d old new (Stopped stops.Scripts) outcome is_left now p order is_order good pages h same no_text is_end = absurd h
not_looked d old new (Own _) outcome is_left now p order is_order good pages h same no_text is_end = absurd h

-- ---- a refusal of scripts is one

own_refusal : (status : Status) → IsOfScripts status → IsOwn status
own_refusal (statuses.BadScript client line rule) is = tt
own_refusal (statuses.TooMuch count) is = tt
own_refusal _ is = absurd is

refused_runs : (tells crashes : Type 0) (order : Order) (is_left : Bool) (now : Moment) (held : Held) (work : Work) (status : Status) → IsOfScripts status → ChangesNothing tells crashes held work → Runs status tells crashes order is_left now held work
refused_runs tells crashes order is_left now _ _ (statuses.BadScript client line rule) is nothing = nothing
refused_runs tells crashes order is_left now _ _ (statuses.TooMuch count) is nothing = nothing
refused_runs tells crashes order is_left now _ _ _ is nothing = absurd is

-- ---- with the script's source

abbrev inputs_of : List (List ℕ) → Moment → Inputs
inputs_of scripts now = record { scripts = scripts; now = now }

-- what the sources gave
pub record Given {S : Type 0} (s : SourceMembers S) (sources : List S) (texts : List (List ℕ)) : Type 0 where
  pub number : length texts ≡ length sources
  pub texts_are : s.tells → texts ≡ map s.remaining sources

module _ {D S : Type 0} (d : Ghosts D) (s : SourceMembers S) (is_left : Bool) (now : Moment) (old new : D) (sources later : List S) (outcome : Outcome) (texts : List (List ℕ)) (given : Given s sources texts) where
  abbrev sources_count : Count
  sources_count = record { before = source_faults s sources; now = source_faults s later }

  abbrev faults : Faults
  faults = record { disk = faults_of d old new; scripts = sources_count }

  by : (held : Held) → IsHeld d old held → EndsBy (run_meaning is_left (by_scripts texts) now) d.tells d.tells_crashes held (work_of outcome (held_of d new)) faults outcome.end
      → PerformsBy d s (λ inputs. run_meaning is_left (by_scripts inputs.scripts) inputs.now) now old new sources later outcome
  by held is ends = record { inputs = inputs_of texts now; given = record { number = given.number; scripts = given.texts_are; moment = refl }; held = held; before = is; ends = ends }

  -- the sources didn't fail
  pub performs_by : Stays sources_count → Performs d (run_meaning is_left (by_scripts texts) now) old new outcome → PerformsBy d s (λ inputs. run_meaning is_left (by_scripts inputs.scripts) inputs.now) now old new sources later outcome
  performs_by stays p =
      by p.held p.before (subst (λ (n : ℕ). EndsBy (run_meaning is_left (by_scripts texts) now) d.tells d.tells_crashes p.held (work_of outcome (held_of d new)) (record { disk = faults_of d old new; scripts = record { before = source_faults s sources; now = n } }) outcome.end)
      (sym stays) (p.ends (source_faults s sources)))

  ends_by : (held : Held) (end : End) → outcome.end ≡ end → IsHeld d old held → EndsBy (run_meaning is_left (by_scripts texts) now) d.tells d.tells_crashes held (work_of outcome (held_of d new)) faults end
      → PerformsBy d s (λ inputs. run_meaning is_left (by_scripts inputs.scripts) inputs.now) now old new sources later outcome
  ends_by held end is_end is ends = by held is (subst (λ (e : End). EndsBy (run_meaning is_left (by_scripts texts) now) d.tells d.tells_crashes held (work_of outcome (held_of d new)) faults e) (sym is_end) ends)

  -- the scripts were not read, or were refused: the disk was left alone
  pub not_read : (end : End) → (d.tells → ArePages (d.page_count old) (d.image old)) → ShowsSame d old new outcome → Stays (faults_of d old new) → outcome.text.items ≡ [] → outcome.end ≡ end
      → (let e : Result (Vec (Vec Line)) End = Err end in ScriptsEnd texts sources_count e) → PerformsBy d s (λ inputs. run_meaning is_left (by_scripts inputs.scripts) inputs.now) now old new sources later outcome
  not_read (Own status) pages same stays no_text is_end (bad, none) =
      let it = some_held d old pages in
      performs_by none (comes d old new outcome is_left now (by_scripts texts) (order_is (by_scripts texts)) (held_as d old it.shown) (refused status) it.is (refused_runs d.tells d.tells_crashes (by_scripts texts) is_left now (held_as d old it.shown) (work_of outcome (held_of d new)) status ((order_is (by_scripts texts)).refusals status bad) (nothing_done d old new outcome same now it.shown it.is)) no_text
      (refuses status bad refl) (own_refusal status ((order_is (by_scripts texts)).refusals status bad)) stays is_end)
  not_read (Stopped stops.Scripts) pages same stays no_text is_end rose =
      let it = some_held d old pages in
      ends_by (held_as d old it.shown) (Stopped stops.Scripts) is_end it.is (no_text, (rose, stays, nothing_done d old new outcome same now it.shown it.is))
  not_read (Stopped stops.Memory) pages same stays no_text is_end free =
      let it = some_held d old pages in
      ends_by (held_as d old it.shown) (Stopped stops.Memory) is_end it.is (run_out d old new outcome same now it.shown it.is (faults_of d old new) (by_scripts texts) is_left no_text, tt)
  not_read (Stopped stops.Disk) pages same stays no_text is_end h = absurd h

-- ---- without scripts

-- there was no memory for what was to be done
pub not_begun : {D : Type 0} (d : Ghosts D) (disk : D) (order : Order) (is_left : Bool) (now : Moment) (outcome : Outcome) → (d.tells → ArePages (d.page_count disk) (d.image disk)) → ShowsSame d disk disk outcome
    → outcome.text.items ≡ [] → outcome.end ≡ Stopped stops.Memory → Performs d (run_meaning is_left order now) disk disk outcome
not_begun d disk order is_left now outcome pages same no_text is_end =
    let it = some_held d disk pages in
    ends_as d (run_meaning is_left order now) disk disk outcome (held_as d disk it.shown) (Stopped stops.Memory) is_end it.is
    (λ sources. (run_out d disk disk outcome same now it.shown it.is (faults_of d disk disk) order is_left no_text, tt))
