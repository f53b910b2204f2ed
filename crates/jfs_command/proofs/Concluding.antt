-- From the end of a command and what was printed to the status of the run.
use Rattle.std.proofs.Common.{◌≡◌, ℕ, List, [], ◌++◌, length, map, Result, Ok, Err, ◌⊎◌, inl, inr, refl, sym, ap, subst, ◌∙◌}
use Rattle.std.proofs.lemmas.List.{append-nil, nil_from_length, length-map}
use Rattle.jfs_bits.specs.declared.descriptor.Moment.{Moment}
use Rattle.jfs_disk.specs.Image.{Image, page_of, ArePages}
use Rattle.jfs_disk.specs.declared.disk.Disk.{Ghosts as DiskMembers}
use Rattle.jfs_io.specs.declared.source.Source.{Ghosts as SourceMembers}
use Rattle.jfs_io.specs.declared.sink.Sink.{Ghosts as SinkMembers}
use Rattle.jfs_command.specs.declared.words.Usage.{Usage}
use Rattle.jfs_command.specs.declared.words.Command.{Command}
use Rattle.jfs_command.specs.declared.status.Status.{Status}
use Rattle.jfs_command.specs.declared.status.Status.TheVariants as statuses
use Rattle.jfs_command.specs.declared.status.Stop.TheVariants as stops
use Rattle.jfs_command.specs.declared.outcome.End.{End}
use Rattle.jfs_command.specs.declared.outcome.End.TheVariants.{Own, Stopped}
use Rattle.jfs_plain.specs.declared.call.Entry.{Entry}
use Rattle.jfs_command.specs.declared.outcome.Outcome.{Outcome}
use Rattle.jfs_command.specs.Status.{Kind, Finishes, Refuses, RefusesWord, ByScripts, BySink, ByDisk, ByMemory, IsOwnKind, kind_of, status_of, sink_fault_after, line_of}
use Rattle.jfs_command.specs.Count.{Count, Stays, HasRisen}
use Rattle.jfs_command.specs.Held.{held_of}
use Rattle.jfs_command.proofs.Evidence.{held_as, some_held}
use Rattle.jfs_command.specs.Inputs.{Inputs, AreInputs}
use Rattle.jfs_command.specs.Meaning.{Answer, EndsBy, work_of}
use Rattle.jfs_command.specs.Meanings.{meaning_of}
use Rattle.jfs_command.specs.Print.{IsFront, Puts, Concludes}
use Rattle.jfs_command.specs.Top.{Run, CameTo, NothingFailed, EndsAs, Ends, PrintsAs, Prints, whole_text, Devices, run_of, IsAnswered, IsComplete, PerformsCommand}

-- ---- the cause of a status

-- a status that the sink has no part in
abbrev pub IsBeforeSink : Kind → Type 0
IsBeforeSink BySink = ⊥
IsBeforeSink _ = Unit {0}

own_ends : (run : Run) (status : Status) (kind : Kind) → IsOwnKind kind → CameTo run status → NothingFailed run → EndsAs run status kind × IsBeforeSink kind
own_ends run status Finishes own came none = ((came, none), tt)
own_ends run status Refuses own came none = ((came, none), tt)
own_ends run status (RefusesWord word) own came none = absurd own
own_ends run status ByScripts own came none = absurd own
own_ends run status BySink own came none = absurd own
own_ends run status ByDisk own came none = absurd own
own_ends run status ByMemory own came none = absurd own

-- the status of a command that ended has its cause
pub caused : (run : Run) (command : Command) (end : End) → run.asked ≡ Ok command → EndsBy (meaning_of command run.inputs) run.tells run.crashes run.held run.work run.faults end → Ends run (status_of end) × IsBeforeSink (kind_of (status_of end))
caused run command (Own status) asked (comes, own, disk, scripts) = own_ends run status (kind_of status) own (command, asked, comes) (disk, scripts)
caused run command (Stopped stops.Scripts) asked (stopped, by) = ((command, asked, stopped, by), tt)
caused run command (Stopped stops.Disk) asked (stopped, by) = ((command, asked, stopped, by), tt)
caused run command (Stopped stops.Memory) asked (stopped, by) = (inr (inl (stops.Memory, (command, asked, stopped, by))), tt)

-- ---- the text of a status

front_of_itself : (text : List ℕ) → IsFront text text
front_of_itself text = ([], sym (append-nil text))

whole_put : (run : Run) (status : Status) (kind : Kind) → kind_of status ≡ kind → EndsAs run status kind → IsBeforeSink kind → Stays run.sink → PrintsAs run status (whole_text run status) kind
whole_put run status Finishes is ends before stays = (refl, stays)
whole_put run status Refuses is ends before stays = inl (refl, stays)
whole_put run status (RefusesWord word) is ends before stays = inl (refl, stays)
whole_put run status ByScripts is ends before stays = inl (refl, stays)
whole_put run status BySink is ends before stays = absurd before
whole_put run status ByDisk is ends before stays = inl (refl, stays)
whole_put run status ByMemory is ends before stays = (status, subst (λ (k : Kind). EndsAs run status k) (sym is) ends, front_of_itself (whole_text run status))

-- the status and its text where the sink failed
pub record Concluded (run : Run) (status : Status) (text : List ℕ) : Type 0 where
  pub ends : Ends run status
  pub prints : Prints run status text

judged : (run : Run) (status : Status) (text : List ℕ) (kind : Kind) → kind_of status ≡ kind → EndsAs run status kind → PrintsAs run status text kind → Concluded run status text
judged run status text kind is ends prints = record {
  ends = subst (λ (k : Kind). EndsAs run status k) (sym is) ends;
  prints = subst (λ (k : Kind). PrintsAs run status text k) (sym is) prints;
}

finished_line : (status : Status) → kind_of status ≡ Finishes → line_of status ≡ []
finished_line statuses.Done is = refl
finished_line (statuses.Found count) is = refl
finished_line _ is = absurd cc

front_put : (run : Run) (status : Status) (text : List ℕ) (kind : Kind) → kind_of status ≡ kind → EndsAs run status kind → IsBeforeSink kind → HasRisen run.sink → IsFront text (whole_text run status) → Concluded run (sink_fault_after kind status) text
front_put run status text Finishes is (came, none) before risen front = record {
  ends = ((status, is, came), risen, none);
  prints = subst (λ (line : List ℕ). IsFront text (run.work.text ++ line)) (finished_line status is) front;
}
front_put run status text Refuses is ends before risen front = judged run status text Refuses is ends (inr (front, risen))
front_put run status text (RefusesWord word) is ends before risen front = judged run status text (RefusesWord word) is ends (inr (front, risen))
front_put run status text ByScripts is ends before risen front = judged run status text ByScripts is ends (inr (front, risen))
front_put run status text BySink is ends before risen front = absurd before
front_put run status text ByDisk is ends before risen front = judged run status text ByDisk is ends (inr (front, risen))
front_put run status text ByMemory is ends before risen front = judged run status text ByMemory is ends (status, subst (λ (k : Kind). EndsAs run status k) (sym is) ends, front)

-- where memory runs out, what was done is what had been done
for_memory : (run : Run) (status : Status) (kind : Kind) → EndsAs run status kind → EndsAs run statuses.OutOfMemory ByMemory
for_memory run status Finishes (came, none) = inr (inr (status, came, none))
for_memory run status Refuses (came, none) = inr (inr (status, came, none))
for_memory run status (RefusesWord word) (asked, nothing, none) = inl (nothing, none)
for_memory run status ByScripts stopped = inr (inl (stops.Scripts, stopped))
for_memory run status BySink ((own, is, came), risen, none) = inr (inr (own, came, none))
for_memory run status ByDisk stopped = inr (inl (stops.Disk, stopped))
for_memory run status ByMemory ends = ends

pub concluded : (run : Run) (tells : Type 0) (old new : List ℕ) (status result : Status) → Ends run status → IsBeforeSink (kind_of status) → Concludes tells old new run.sink run.work.text status result
    → (text : List ℕ) × Puts tells old new text × Concluded run result text
concluded run tells old new status result ends before (inl (same, stays, put)) =
    let text = whole_text run status in
    (text, put, subst (λ (s : Status). Concluded run s text) (sym same) (judged run status text (kind_of status) refl ends (whole_put run status (kind_of status) refl ends before stays)))
concluded run tells old new status result ends before (inr (inl (same, risen, (text, front, put)))) =
    (text, put, subst (λ (s : Status). Concluded run s text) (sym same) (front_put run status text (kind_of status) refl ends before risen front))
concluded run tells old new status result ends before (inr (inr (same, inl (text, front, put)))) =
    (text, put, subst (λ (s : Status). Concluded run s text) (sym same) (record { ends = for_memory run status (kind_of status) ends; prints = (status, ends, front) }))
concluded run tells old new status result ends before (inr (inr (same, inr (text, front, put)))) =
    let free = for_memory run status (kind_of status) ends in
    (text, put, subst (λ (s : Status). Concluded run s text) (sym same) (record { ends = free; prints = (statuses.OutOfMemory, free, front) }))

-- ---- the answer of a run

abbrev sink_count : {K : Type 0} → SinkMembers K → K → K → Count
sink_count k old new = record { before = k.fault_count old; now = k.fault_count new }

pub answered : {D S K : Type 0} (d : DiskMembers D) (s : SourceMembers S) (k : SinkMembers K) (asked : Result Command Usage) (command : Command) → asked ≡ Ok command → (now : Moment) (old new : Devices D S K) (outcome : Outcome) (result : Status)
    → PerformsCommand d s command now old.disk new.disk old.scripts new.scripts outcome
    → Concludes k.tells (k.taken old.out) (k.taken new.out) (sink_count k old.out new.out) outcome.text.items (status_of outcome.end) result
    → IsAnswered d s k asked now old new result outcome.history.items outcome.told.items
answered d s k asked command is now old new outcome result p concludes =
    let run = run_of d s k asked old new p.inputs p.held (work_of outcome (held_of d new.disk)) in
    let cause = caused run command outcome.end is p.ends in
    let text = concluded run k.tells (k.taken old.out) (k.taken new.out) (status_of outcome.end) result cause.0 cause.1 concludes in
    record { inputs = p.inputs; given = p.given; held = p.held; before = p.before; whole = outcome.text.items; text = text.0; put = text.1; ends = text.2.ends; prints = text.2.prints }

-- words outside the grammar: nothing is done
pub refused : {D S K : Type 0} (d : DiskMembers D) (s : SourceMembers S) (k : SinkMembers K) (asked : Result Command Usage) (word : ℕ) → asked ≡ Err (record { word = word }) → (now : Moment) (disk : D) (scripts : List S) (out later : K) (result : Status) (history : List Entry) (told : List ℕ)
    → (d.tells → ArePages (d.page_count disk) (d.image disk)) → history ≡ [] → told ≡ [] → Concludes k.tells (k.taken out) (k.taken later) (sink_count k out later) [] (statuses.Usage word) result
    → IsAnswered d s k asked now (record { disk = disk; scripts = scripts; out = out }) (record { disk = disk; scripts = scripts; out = later }) result history told
refused {D} {S} {K} d s k asked word is now disk scripts out later result entries numbers pages no_history no_told concludes =
    let old : Devices D S K = record { disk = disk; scripts = scripts; out = out } in
    let new : Devices D S K = record { disk = disk; scripts = scripts; out = later } in
    let inputs : Inputs = record { scripts = map s.remaining scripts; now = now } in
    let found = some_held d disk pages in
    let text = concluded (run_of d s k asked old new inputs (held_as d disk found.shown) (record { text = []; history = []; told = []; held = held_of d disk })) k.tells (k.taken out) (k.taken later) (statuses.Usage word) result (is, (refl, record { history = refl; told = refl; image = λ t. sym (found.is.image t); past = λ _. refl }), (refl, refl)) tt concludes in
    rw (no_history, no_told) (record {
      inputs = inputs;
      given = record { number = length-map scripts s.remaining; scripts = λ _. refl; moment = refl };
      held = held_as d disk found.shown;
      before = found.is;
      whole = [];
      text = text.0;
      put = text.1;
      ends = text.2.ends;
      prints = text.2.prints;
    })

-- ---- no other status has its cause

memory_is : (status : Status) → kind_of status ≡ ByMemory → status ≡ statuses.OutOfMemory
memory_is statuses.OutOfMemory is = refl
memory_is _ is = absurd cc

same_inputs : (a b : Inputs) → a.scripts ≡ b.scripts → a.now ≡ b.now → a ≡ b
same_inputs a b scripts now =
    let with_scripts : List (List ℕ) → Inputs = λ x. record { scripts = x; now = a.now } in
    let with_now : Moment → Inputs = λ x. record { scripts = b.scripts; now = x } in
    ap with_scripts scripts ∙ ap with_now now

one_inputs : {S : Type 0} (s : SourceMembers S) (scripts : List S) (now : Moment) (a b : Inputs) → s.tells ⊎ (scripts ≡ []) → AreInputs s scripts now a → AreInputs s scripts now b → a ≡ b
one_inputs s scripts now a b (inl tells) are_a are_b = same_inputs a b (are_a.scripts tells ∙ sym (are_b.scripts tells)) (are_a.moment ∙ sym are_b.moment)
one_inputs s scripts now a b (inr none) are_a are_b =
    same_inputs a b (nil_from_length a.scripts (are_a.number ∙ ap length none) ∙ sym (nil_from_length b.scripts (are_b.number ∙ ap length none))) (are_a.moment ∙ sym are_b.moment)

one_command : (asked : Result Command Usage) (a b : Command) → asked ≡ Ok a → asked ≡ Ok b → a ≡ b
one_command asked a b is_a is_b = let e = sym is_a ∙ is_b in cc

pub completes : {D S K : Type 0} (d : DiskMembers D) (s : SourceMembers S) (k : SinkMembers K) (asked : Result Command Usage) (now : Moment) (old new : Devices D S K) (status : Status) (history : List Entry) (told : List ℕ)
    → IsAnswered d s k asked now old new status history told → IsComplete d s k asked now old new status
completes d s k asked now old new status history told a = λ tells sources held is_held inputs are command is_command answer says no_disk no_scripts no_sink.
    let run = run_of d s k asked old new a.inputs a.held (record { text = a.whole; history = history; told = told; held = held_of d new.disk }) in
    by_kind run status (kind_of status) refl a.ends command is_command answer
    (λ (came : CameTo run status).
    let one = one_command asked came.0 command came.1 is_command in
    let same_inputs = one_inputs s old.scripts now a.inputs inputs sources a.given are in
    came.2.one (inl tells) held
    (record { pages = is_held.pages ∙ sym a.before.pages; each = λ n _. ap (λ (i : Image). page_of i n) (is_held.image tells ∙ sym (a.before.image tells)) })
    answer
    (subst (λ (c : Command). (meaning_of c a.inputs).says d.tells held answer) (sym one) (subst (λ (i : Inputs). (meaning_of command i).says d.tells held answer) (sym same_inputs) says)))
    no_disk no_scripts no_sink
  where
    by_kind : (run : Run) (status : Status) (kind : Kind) → kind_of status ≡ kind → EndsAs run status kind → (command : Command) → run.asked ≡ Ok command → (answer : Answer) → (CameTo run status → answer.status ≡ status)
        → ¬ (HasRisen run.faults.disk) → ¬ (HasRisen run.faults.scripts) → ¬ (HasRisen run.sink) → (status ≡ answer.status) ⊎ (status ≡ statuses.OutOfMemory)
    by_kind run status Finishes is (came, none) command asked answer one no_disk no_scripts no_sink = inl (sym (one came))
    by_kind run status Refuses is (came, none) command asked answer one no_disk no_scripts no_sink = inl (sym (one came))
    by_kind run status (RefusesWord word) is (words, nothing, none) command asked answer one no_disk no_scripts no_sink = let e = sym words ∙ asked in absurd cc
    by_kind run status ByScripts is (own, said, stopped, by) command asked answer one no_disk no_scripts no_sink = absurd (no_scripts by.0)
    by_kind run status BySink is (own, risen, none) command asked answer one no_disk no_scripts no_sink = absurd (no_sink risen)
    by_kind run status ByDisk is (own, said, stopped, by) command asked answer one no_disk no_scripts no_sink = absurd (no_disk by.0)
    by_kind run status ByMemory is ends command asked answer one no_disk no_scripts no_sink = inr (memory_is status is)
