-- What a run of lines on a volume did is what the command `run` says of it.
use Rattle.std.proofs.Common.{◌++◌, Option, Result, Ok, Err, ◌≡◌, ◌⊎◌, ℕ, Bool, true, true≢false, List, [], length, None, inl, inr, refl, sym, ap, subst, ◌∙◌}
use Rattle.std.proofs.Math.Seq.{take-length}
use Rattle.std.proofs.lemmas.List.{append-nil}
use Rattle.jfs_bits.specs.Count.{Rose}
use Rattle.jfs_bits.proofs.Broken.{first_broken-none, none-first_broken}
use Rattle.jfs_disk.specs.Crash.{DiskState, last_of}
use Rattle.jfs_disk.specs.Moment.{IsResting}
use Rattle.jfs_bits.specs.declared.descriptor.Moment.{Moment}
use Rattle.jfs_disk.specs.Image.{Image, page_of, ArePages}
use Rattle.jfs_super.specs.declared.fields.Super.{Super}
use Rattle.jfs_super.specs.Rules.{rows, shape_rows, flag_rows, size_rows, log_rows, blocks_of, IsAccepted}
use Rattle.jfs_redo.specs.Redo.{RedoIs, IsRedoCause, IsRefusal, StaysBehind}
use Rattle.jfs_redo.specs.declared.error.Redone.{Redone}
use Rattle.jfs_redo.specs.declared.error.RedoError.{RedoError}
use Rattle.jfs_redo.specs.declared.error.RedoError.TheVariants as errors
use Rattle.jfs_run.proofs.Plans.{whole_begins}
use Rattle.jfs_run.specs.Calls.{Calls, AllTold, NoCalls, AllCalled, SomeCalled, FirstTold, waiting_from, any_failed}
use Rattle.jfs_run.specs.Left.{LeavesRun, IsLeftNeverMounted}
use Rattle.jfs_run.specs.Legal.{LeavesImage, IfUnmounted}
use Rattle.jfs_run.specs.kept_history.specs.Keepable.{IsKeepableImage}
use Rattle.jfs_run.specs.kept_history.specs.mounted_maps.specs.Keepable.{IsKeepable}
use Rattle.jfs_run.specs.Run.{Seen, RunIs, MayMount, StayBeside, IsUncalled}
use Rattle.jfs_run.specs.declared.run.RunEnd.{RunEnd}
use Rattle.jfs_run.specs.declared.run.RunEnd.TheVariants as ran
use Rattle.jfs_findings_new.specs.mount_rules.specs.Mount.{broken_mount}
use Rattle.jfs_findings_new.specs.mount_rules.specs.Subject.{subject_of}
use Rattle.jfs_command.specs.declared.status.Status.{Status}
use Rattle.jfs_command.specs.declared.status.Status.TheVariants as statuses
use Rattle.jfs_command.specs.Status.{Refuses, IsOwn, kind_of}
use Rattle.jfs_command.specs.declared.status.Stop.TheVariants as stops
use Rattle.jfs_command.specs.declared.outcome.Outcome.{Outcome}
use Rattle.jfs_command.specs.declared.outcome.End.{End}
use Rattle.jfs_command.specs.declared.outcome.End.TheVariants.{Own, Stopped}
use Rattle.jfs_command.specs.Count.{Count}
use Rattle.jfs_command.specs.Held.{Held, Work, ChangesNothing}
use Rattle.jfs_command.specs.Meaning.{Answer, refused, work_of}
use Rattle.jfs_command.specs.Redo.{redone_text, is_clean, is_mounted, MountedSays, is_foreign, is_bad, breaks_maps, StaysRedoable, end_of as redo_end}
use Rattle.jfs_command.specs.Superblock.{AfterState}
use Rattle.jfs_command.specs.Order.{Planned}
use Rattle.jfs_command.specs.Run.{whole_text, AreReplies, runs, breaks, Start, cleaned, is_ready, IsRedoneBy, BeginsOn, as_it_is, as_redone, behind, ReadySays, begins, not_redone, LinesSay, HasBegunRedo, LeavesCalls, FailsOn, RunsOutOn, end_of, text_before, text_of, Tells, RestsAtFirst, DoesOn, StartEnds, DoesLines, LinesEnd}
use Rattle.jfs_command.proofs.RedoMounted.{not_clean}

-- ---- what became of all lines, or of none, became of a front of them

first_told : (c : Calls) → AllTold c → FirstTold c
first_told c all = record { waiting = all.waiting; are = all.are; count = length (waiting_from 1 all.waiting); told_is = all.told_is ∙ sym (take-length (waiting_from 1 all.waiting)) }

pub all_of_none : (c : Calls) → NoCalls c → AllTold c
all_of_none c none = record { waiting = []; are = rw none.0 tt; told_is = none.1 }

pub was : (b : Bool) → true ≡ b → b ≡ true
was b e = sym e

-- What holds under one premise on what is pending holds under any that implies it.
leaves_where : (tells crashes : Type 0) (is_left : Bool) (moment : Moment) (start : Start) (work : Work) (had rests : Type 0) → (crashes → rests → had) → LeavesCalls tells crashes is_left moment start had work → LeavesCalls tells crashes is_left moment start rests work
leaves_where tells crashes is_left moment start work had rests by left = λ t k checked. rested k (left t k checked)
  where
    rested : {N B : Type 0} → crashes → (N × IsLeftNeverMounted start.super start.image work.held.image had (last_of work.held.past)) ⊎ B → (N × IsLeftNeverMounted start.super start.image work.held.image rests (last_of work.held.past)) ⊎ B
    rested k (inl (none, never)) = inl (none, record { pages = never.pages; left = λ it. never.left (by k it) })
    rested k (inr l) = inr l

pub fails_where : (tells crashes : Type 0) (p : Planned) (is_left : Bool) (moment : Moment) (start : Start) (work : Work) (had rests : Type 0) → (crashes → rests → had)
    → FailsOn tells crashes p is_left moment start had work → FailsOn tells crashes p is_left moment start rests work
fails_where tells crashes p is_left moment start work had rests by fails = record { called = fails.called; replies = fails.replies; text = fails.text; left = leaves_where tells crashes is_left moment start work had rests by fails.left }

pub runs_out_where : (disk : Count) (tells crashes : Type 0) (p : Planned) (is_left : Bool) (moment : Moment) (start : Start) (work : Work) (had rests : Type 0) → (crashes → rests → had)
    → RunsOutOn disk tells crashes p is_left moment start had work → RunsOutOn disk tells crashes p is_left moment start rests work
runs_out_where disk tells crashes p is_left moment start work had rests by out = record { called = out.called; told = out.told; calm = out.calm; replies = out.replies; text = out.text; left = leaves_where tells crashes is_left moment start work had rests by out.left }

-- ---- how the command ends

abbrev work_of_calls : List ℕ → Calls → Held → Work
work_of_calls text c left = record { text = text; history = c.history; told = c.told; held = left }

abbrev seen_as : Held → ℕ → Seen
seen_as held faults = record { image = held.image; past = held.past; faults = faults }

module _ (tells crashes : Type 0) (p : Planned) (is_left : Bool) (moment : Moment) (s : Super) (held left : Held) (before now : ℕ) (c : Calls) (redone : Option ℕ) where
  abbrev count : Count
  count = record { before = before; now = now }

  abbrev start : Start
  start = record { super = s; image = held.image; text = text_before redone }

  called_by : {A : Type 0} → IsUncalled tells s (seen_as held before) (seen_as left now) c ⊎ (A × MayMount tells s (seen_as held before))
      → (NoCalls c × (tells → StayBeside s held.image left.image)) ⊎ (A × (tells → broken_mount (subject_of s (page_of held.image)) ≡ None))
  called_by (inl none) = inl (none.calls, none.pages)
  called_by (inr (was, may)) = inr (was, may)

  abbrev Replies : RunEnd → Type 0
  Replies end = AreReplies tells s held.image moment c.history

  abbrev Leaves : RunEnd → Type 0
  Leaves end = tells → IfUnmounted end is_left (LeavesImage s held.image moment c.history left.image)

  abbrev KeepsAgain : RunEnd → Type 0
  KeepsAgain end = tells → crashes → IsKeepableImage s held.image → IfUnmounted end is_left (IsKeepable s (page_of left.image))

  abbrev Lefts : RunEnd → Type 0
  Lefts end = tells → crashes → IsKeepableImage s held.image → LeavesRun (IsLeftNeverMounted s held.image left.image (IsResting (last_of held.past)) (last_of left.past)) s held.image moment is_left c (last_of left.past) end

  with_text : (end : RunEnd) → RunIs tells crashes s p.plan is_left (seen_as held before) (seen_as left now) c end → Replies end → Leaves end → KeepsAgain end → Lefts end → StartEnds tells crashes p is_left moment start held.past (work_of_calls (text_of redone p.printed end c) c left) count (end_of end)
  with_text ran.Done is replies leaves agains lefts = (
    record { status = statuses.Done; text = whole_text p.printed c },
    runs c is.entries is.told refl is.mounts,
    refl,
    refl,
    record {
      entries = is.entries;
      told = is.told;
      calm = is.calm;
      replies = replies;
      text = refl;
      superblock = λ not_left t. (is.ended not_left).superblock t;
      stable = λ not_left t. (is.ended not_left).resting t;
      image = λ not_left t. leaves t refl not_left;
      again = λ not_left t k checked. agains t k checked refl not_left;
      left = lefts;
    },
    is.faults,
  )
  with_text (ran.BadImage bad) is replies leaves agains lefts = (
    refused (statuses.BadImage bad.page bad.rule bad.value),
    breaks bad refl is.rule,
    refl,
    refl,
    record { history = is.calls.0; told = is.calls.1; text = append-nil (text_before redone); image = is.image; past_is = is.past },
    is.faults,
  )
  with_text ran.Disk is replies leaves agains lefts = (record { called = called_by is.done; replies = replies; text = refl; left = lefts }, is.rose)
  with_text ran.Memory is replies leaves agains lefts = record { called = called_by is.done; told = is.told; calm = is.calm; replies = replies; text = inl refl; left = lefts }

  some_of : IsUncalled tells s (seen_as held before) (seen_as left now) c ⊎ (AllCalled p.plan c × MayMount tells s (seen_as held before)) → IsUncalled tells s (seen_as held before) (seen_as left now) c ⊎ (SomeCalled p.plan c × MayMount tells s (seen_as held before))
  some_of (inl none) = inl none
  some_of (inr (all, may)) = inr ((whole_begins p.plan c.history all.0, all.1), may)

  -- there was no memory for the text
  without_text : (end : RunEnd) → RunIs tells crashes s p.plan is_left (seen_as held before) (seen_as left now) c end → Replies end → Lefts end → StartEnds tells crashes p is_left moment start held.past (work_of_calls [] c left) count (Stopped stops.Memory)
  without_text ran.Done is replies lefts =
      record { called = inr ((whole_begins p.plan c.history is.entries, first_told c is.told), is.mounts); told = inr is.told; calm = inr is.calm; replies = replies; text = inr refl; left = λ t k checked. inr (lefts t k checked) }
  without_text (ran.BadImage bad) is replies lefts =
      record { called = inl (is.calls, λ t n _ _. ap (λ (i : Image). page_of i n) (is.image t)); told = inr (all_of_none c is.calls); calm = inr (ap any_failed is.calls.0); replies = replies; text = inr refl; left = λ t k checked. inl (lefts t k checked) }
  without_text ran.Disk is replies lefts = record { called = called_by (some_of is.done); told = inl is.rose; calm = inl is.rose; replies = replies; text = inr refl; left = lefts }
  without_text ran.Memory is replies lefts = record { called = called_by is.done; told = is.told; calm = is.calm; replies = replies; text = inr refl; left = lefts }

  pub ended : (end : RunEnd) (e : End) (text : List ℕ) → RunIs tells crashes s p.plan is_left (seen_as held before) (seen_as left now) c end → Replies end → Leaves end → KeepsAgain end → Lefts end → Tells redone p.printed end c e text
      → StartEnds tells crashes p is_left moment start held.past (work_of_calls text c left) count e
  ended end e text is replies leaves agains lefts (inl (is_end, is_text)) =
      subst (λ (x : End). StartEnds tells crashes p is_left moment start held.past (work_of_calls text c left) count x) (sym is_end)
      (subst (λ (t : List ℕ). StartEnds tells crashes p is_left moment start held.past (work_of_calls t c left) count (end_of end)) (sym is_text) (with_text end is replies leaves agains lefts))
  ended end e text is replies leaves agains lefts (inr (is_end, is_text)) =
      subst (λ (x : End). StartEnds tells crashes p is_left moment start held.past (work_of_calls text c left) count x) (sym is_end)
      (subst (λ (t : List ℕ). StartEnds tells crashes p is_left moment start held.past (work_of_calls t c left) count (Stopped stops.Memory)) (sym is_text) (without_text end is replies lefts))

-- ---- by the state of the volume

answer_is : (answer rest : Answer) (text : List ℕ) → rest.status ≡ answer.status → answer.text ≡ text ++ rest.text → answer ≡ behind text rest
answer_is answer rest text status is_text =
    let with_status : Status → Answer = λ x. record { status = x; text = answer.text } in
    let with_text : List ℕ → Answer = λ x. record { status = rest.status; text = x } in
    ap with_status (sym status) ∙ ap with_text is_text

module _ (tells crashes : Type 0) (p : Planned) (is_left : Bool) (moment : Moment) (s : Super) (held : Held) (work : Work) where
  ready_says : (answer : Answer) → is_ready s.state.0 ≡ true → ReadySays tells p s held.image answer → LinesSay tells p held.image s answer
  ready_says answer ready it = subst (λ (b : Bool). AfterState b s.state.0 (ReadySays tells p s held.image) answer) (sym ready) it

  clean_ready : is_clean s.state.0 ≡ true → is_ready s.state.0 ≡ true
  clean_ready clean = rw clean refl

  -- a volume that was clean
  clean_does : (status : Status) (on : is_clean s.state.0 ≡ true) → DoesOn status tells crashes p is_left moment (record { super = s; image = held.image; text = [] }) held.past work → DoesLines status tells crashes p is_left moment s held work × IsOwn status
  clean_does statuses.Done clean did = ((record { super = s; image = held.image; text = [] }, as_it_is clean refl, did), tt)
  clean_does (statuses.BadImage page rule value) clean did = (inl (record { history = did.history; told = did.told; image = did.image; past = did.past_is }), tt)
  clean_does _ clean did = absurd did

  -- a volume that is clean is not redone
  clean_rests : is_clean s.state.0 ≡ true → RestsAtFirst s held → IsResting (last_of held.past)
  clean_rests clean (inl mounted) = absurd (true≢false (sym clean ∙ not_clean s.state.0 mounted))
  clean_rests clean (inr rests) = rests

  pub from_clean : (disk : Count) (end : End) → is_clean s.state.0 ≡ true → StartEnds tells crashes p is_left moment (record { super = s; image = held.image; text = [] }) held.past work disk end → LinesEnd tells crashes p is_left moment s held work disk end
  from_clean disk (Own status) clean (rest, said, is_status, is_text, did, stays) =
      let answer : Answer = record { status = status; text = work.text } in
      let start : Start = record { super = s; image = held.image; text = [] } in
      let done = clean_does status clean did in
      (ready_says answer (clean_ready clean) (begins start (as_it_is clean refl) rest said (answer_is answer rest [] is_status is_text)), done.0, done.1, stays)
  from_clean disk (Stopped stops.Disk) clean (fails, rose) =
      let start : Start = record { super = s; image = held.image; text = [] } in
      (inr (inr (start, as_it_is clean refl, fails_where tells crashes p is_left moment start work (IsResting (last_of held.past)) (RestsAtFirst s held) (λ k. clean_rests clean) fails)), rose, clean_ready clean)
  from_clean disk (Stopped stops.Memory) clean out =
      let start : Start = record { super = s; image = held.image; text = [] } in
      (inr (inr (start, as_it_is clean refl, runs_out_where disk tells crashes p is_left moment start work (IsResting (last_of held.past)) (RestsAtFirst s held) (λ k. clean_rests clean) out)), clean_ready clean)
  from_clean disk (Stopped stops.Scripts) clean ends = absurd ends

  -- a volume that was redone
  module _ (mid : Held) (count : ℕ) (mounted : is_mounted s.state.0 ≡ true) (by : tells → IsRedoneBy s held.image mid.image count) (resting : crashes → IsResting (last_of mid.past)) where
    abbrev redone_start : Start
    redone_start = record { super = cleaned s; image = mid.image; text = redone_text count }

    on : BeginsOn tells s held.image redone_start
    on = as_redone mounted count refl refl by

    redone_ready : is_ready s.state.0 ≡ true
    redone_ready = rw (not_clean s.state.0 mounted, mounted) refl

    redone_does : (status : Status) → DoesOn status tells crashes p is_left moment redone_start mid.past work → DoesLines status tells crashes p is_left moment s held work × IsOwn status
    redone_does statuses.Done did = ((redone_start, on, did), tt)
    redone_does (statuses.BadImage page rule value) did =
        (inr (redone_start, (mounted, on), record { history = did.history; told = did.told; text = did.text; image = did.image; stable = λ t. subst (λ (p : List DiskState). IsResting (last_of p)) (sym (did.past_is t)) (resting t) }), tt)
    redone_does _ did = absurd did

    -- nothing is pending behind a redo, whatever was before it
    as_pending : FailsOn tells crashes p is_left moment redone_start (IsResting (last_of mid.past)) work → FailsOn tells crashes p is_left moment redone_start (RestsAtFirst s held) work
    as_pending fails = fails_where tells crashes p is_left moment redone_start work (IsResting (last_of mid.past)) (RestsAtFirst s held) (λ k rests. resting k) fails

    pub from_redone : (before middle now : ℕ) (end : End) → middle ≡ before → StartEnds tells crashes p is_left moment redone_start mid.past work (record { before = middle; now = now }) end
        → LinesEnd tells crashes p is_left moment s held work (record { before = before; now = now }) end
    from_redone before middle now (Own status) same (rest, said, is_status, is_text, did, stays) =
        let answer : Answer = record { status = status; text = work.text } in
        let done = redone_does status did in
        (ready_says answer redone_ready (begins redone_start on rest said (answer_is answer rest (redone_text count) is_status is_text)), done.0, done.1, stays ∙ same)
    from_redone before middle now (Stopped stops.Disk) same (fails, rose) = (inr (inr (redone_start, on, as_pending fails)), subst (λ (n : ℕ). Rose n now) same rose, redone_ready)
    from_redone before middle now (Stopped stops.Memory) same out = (
      inr (inr (
        redone_start,
        on,
        runs_out_where (record { before = before; now = now }) tells crashes p is_left moment redone_start work (IsResting (last_of mid.past)) (RestsAtFirst s held) (λ k rests. resting k)
            (subst (λ (n : ℕ). RunsOutOn (record { before = n; now = now }) tells crashes p is_left moment redone_start (IsResting (last_of mid.past)) work) same out),
      )),
      redone_ready,
    )
    from_redone before middle now (Stopped stops.Scripts) same ends = absurd ends

-- ---- a volume that wasn't redone

module _ (tells crashes : Type 0) (p : Planned) (is_left : Bool) (moment : Moment) (s : Super) (held left : Held) (mounted : is_mounted s.state.0 ≡ true) (stays : tells → StaysBehind (blocks_of s) held.image left.image) (meanwhile : StaysRedoable tells crashes s held left) where
  abbrev empty : Work
  empty = record { text = []; history = []; told = []; held = left }

  begun : HasBegunRedo tells crashes s held empty
  begun = record { mounted = mounted; calls = (refl, refl); text = refl; stays = stays; meanwhile = meanwhile }

  is_ready_now : is_ready s.state.0 ≡ true
  is_ready_now = rw (not_clean s.state.0 mounted, mounted) refl

  says : (status : Status) → kind_of status ≡ Refuses → MountedSays tells s held.image (refused status) → LinesSay tells p held.image s (refused status)
  says status refuses said = ready_says tells crashes p is_left moment s held empty (refused status) is_ready_now (not_redone mounted status refuses refl said)

  nothing : (why : RedoError) → IsRefusal why → (tells → IsRefusal why → left.image ≡ held.image) → (crashes → IsRefusal why → left.past ≡ held.past) → ChangesNothing tells crashes held empty
  nothing why refuses image past = record { history = refl; told = refl; image = λ t. image t refuses; past = λ t. past t refuses }

  pub stopped : (before now : ℕ) (why : RedoError) → (tells → (let r : Result Redone RedoError = Err why in RedoIs s held.image left.image r))
      → (tells → IsRefusal why → left.image ≡ held.image) → (crashes → IsRefusal why → left.past ≡ held.past) → (let r : Result Redone RedoError = Err why in IsRedoCause before now r)
      → LinesEnd tells crashes p is_left moment s held empty (record { before = before; now = now }) (redo_end why)
  stopped before now (errors.Disk fault) redo image past cause = (inr (inl begun), cause.0, is_ready_now)
  stopped before now (errors.ForeignLog label) redo image past cause = (says (statuses.ForeignLog label) refl (is_foreign label refl redo), nothing (errors.ForeignLog label) tt image past, tt, cause)
  stopped before now (errors.BadLog address rule) redo image past cause = (says (statuses.BadLog address rule) refl (is_bad address rule refl redo), nothing (errors.BadLog address rule) tt image past, tt, cause)
  stopped before now (errors.BadImage bad) redo image past cause =
      (says (statuses.BadImage bad.page bad.rule bad.value) refl (breaks_maps bad refl redo), inl (nothing (errors.BadImage bad) tt image past), tt, cause)
  stopped before now errors.Memory redo image past cause = (inr (inl begun), is_ready_now)

-- what was redone is what redo answers
pub redone_by : (s : Super) (old new : Image) (pages : ℕ) (done : Redone) → ArePages pages new → (let r : Result Redone RedoError = Ok done in RedoIs s old new r) → IsRedoneBy s old new done.transactions
redone_by s old new pages done whole is =
    record { like = old; same = λ n. refl; txs = is.0; commits = is.1; count_is = is.2; unbroken = is.3; redo = is.4; whole = subst (λ (n : ℕ). ArePages n new) (sym whole.number) whole }

-- a superblock that is accepted is so once it is clean
pub accepted_clean : (s : Super) (pages : ℕ) → IsAccepted s pages → IsAccepted (cleaned s) pages
unfolding rows shape_rows flag_rows size_rows log_rows
accepted_clean s pages accepted =
    let all = first_broken-none (rows s pages) accepted in
    none-first_broken (rows (cleaned s) pages)
    (all.0, (all.1.0, (all.1.1.0, (all.1.1.1.0, (all.1.1.1.1.0, (all.1.1.1.1.1.0, (all.1.1.1.1.1.1.0, (all.1.1.1.1.1.1.1.0, (all.1.1.1.1.1.1.1.1.0, (all.1.1.1.1.1.1.1.1.1.0, (all.1.1.1.1.1.1.1.1.1.1.0, (all.1.1.1.1.1.1.1.1.1.1.1.0, (all.1.1.1.1.1.1.1.1.1.1.1.1.0, (all.1.1.1.1.1.1.1.1.1.1.1.1.1.0, (refl, (all.1.1.1.1.1.1.1.1.1.1.1.1.1.1.1.0, (all.1.1.1.1.1.1.1.1.1.1.1.1.1.1.1.1.0, (all.1.1.1.1.1.1.1.1.1.1.1.1.1.1.1.1.1.0, tt))))))))))))))))))

pub same_empty : (outcome : Outcome) (left : Held) → outcome.text.items ≡ [] → outcome.history.items ≡ [] → outcome.told.items ≡ [] → (let w : Work = record { text = []; history = []; told = []; held = left } in w ≡ work_of outcome left)
same_empty outcome left no_text no_history no_told = rw (no_text, no_history, no_told) refl
