-- The command `log` does what it means.
use Rattle.std.proofs.Common.{◌≡◌, ◌≤◌, ◌<◌, ◌+◌, ◌-◌, ◌*◌, ◌/◌, ◌⊎◌, ◌&&◌, ◌==◌, ℕ, zero, suc, Bool, true, false, List, [], ◌∷◌, ◌++◌, length, drop, replicate, map, reverse, Result, Ok, Err, get_or-drop, inl, inr, refl, sym, ap, subst, ◌∙◌, arith}
use Rattle.std.proofs.lemmas.Bool.{cases_lt, and_parts, eq-eqb, eqb-true}
use Rattle.std.proofs.lemmas.List.{drop_at, length-replicate}
use Rattle.std.specs.Global.{Vec}
use Rattle.jfs_bits.specs.Count.{Rose}
use Rattle.jfs_disk.specs.Image.{Image, page_of, ArePages}
use Rattle.jfs_disk.specs.declared.disk.Disk.{Ghosts}
use Rattle.jfs_super.specs.declared.fields.Super.{Super}
use Rattle.jfs_super.specs.declared.fields.Geometry.{Geometry}
use Rattle.jfs_super.specs.Rules.{blocks_of, IsAccepted}
use Rattle.jfs_super.specs.Geometry.{geometry_of}
use Rattle.jfs_super.proofs.Rules.{accepted_pages, accepted_layout, accepted_log}
use Rattle.jfs_logpages.specs.Back.{Met, AreMet, FromSync}
use Rattle.jfs_logpages.specs.Outcome.{IsReadFault, IsRefusal, TellsNothing}
use Rattle.jfs_logpages.specs.ReadLog.{IsReadAs, IsReadLog}
use Rattle.jfs_logpages.specs.declared.ring_text.RingText.{RingText}
use Rattle.jfs_logpages.specs.declared.error.RingError.{RingError}
use Rattle.jfs_logpages.specs.declared.error.RingError.TheVariants as errors
use Rattle.jfs_logpages.proofs.OneAnswer.{has-one, looks}
use Rattle.jfs_logpages.proofs.Stops.{Ending, ends-once, read-ending}
use Rattle.jfs_command.specs.declared.status.Status.TheVariants as statuses
use Rattle.jfs_command.specs.declared.status.Stop.TheVariants as stops
use Rattle.jfs_command.specs.declared.outcome.End.{End}
use Rattle.jfs_command.specs.declared.outcome.End.TheVariants.{Own, Stopped}
use Rattle.jfs_command.specs.declared.outcome.Outcome.{Outcome}
use Rattle.jfs_command.specs.Status.{IsOwn}
use Rattle.jfs_command.specs.Count.{Count, Stays}
use Rattle.jfs_command.specs.Held.{Held}
use Rattle.jfs_command.specs.Meaning.{Answer, LooksSame, Performs, finished, refused, every_status}
use Rattle.jfs_command.specs.Superblock.{superblock_of, Looks}
use Rattle.jfs_command.specs.LogText.{log_text}
use Rattle.jfs_command.specs.Log.{log_of, LooksAtLog, LogSays, prints, is_foreign, is_bad, LogSaysOneThing, HasLabel, TellsLabel, LogEnds, end_of, log_meaning}
use Rattle.jfs_command.proofs.WholeLog.{IsWholeLog, whole_log}
use Rattle.jfs_command.proofs.Looking.{Behind, GoesOn, ShowsSame, faults_of, comes, no_memory, disk_failed, seen, goes_on}

-- ---- the log is one that may follow a look at the superblock

same_says : (pages blocks : ℕ) (a b : Image) (answer : Answer) → 2 < pages → ((n : ℕ) → 0 < n → n < pages → page_of b n ≡ page_of a n) → LogSays pages blocks a answer → LogSays pages blocks b answer
same_says pages blocks a b answer some same (prints read is m ms from e) = prints read (looks pages blocks a b some same (Ok read) is) m ms from e
same_says pages blocks a b answer some same (is_foreign label is e) = is_foreign label (looks pages blocks a b some same (Err (errors.ForeignLog label)) is) e
same_says pages blocks a b answer some same (is_bad address rule is e) = is_bad address rule (looks pages blocks a b some same (Err (errors.BadLog address rule)) is) e

-- what is answered of a refusal
abbrev pub answer_for : RingError → Answer
answer_for (errors.ForeignLog label) = refused (statuses.ForeignLog label)
answer_for (errors.BadLog address rule) = refused (statuses.BadLog address rule)
answer_for _ = refused statuses.Done

pub one_refusal : (pages blocks : ℕ) (log : Image) (a b : RingError) → 2 < pages → (TellsNothing a → ⊥) → (TellsNothing b → ⊥) → IsReadLog pages blocks log (Err a) → IsReadLog pages blocks log (Err b) → answer_for a ≡ answer_for b
one_refusal pages blocks log a b some tells_a tells_b x y = by (has-one pages blocks log some (Err a) (Err b) x y)
  where
    by : (a ≡ b) ⊎ (TellsNothing a ⊎ TellsNothing b) → answer_for a ≡ answer_for b
    by (inl same) = ap (λ (e : RingError). answer_for e) same
    by (inr (inl nothing)) = absurd (tells_a nothing)
    by (inr (inr nothing)) = absurd (tells_b nothing)

-- the records of one text from the place on that the newest SYNCPT gives
pub one_list : (ring first blocks : ℕ) (text : List ℕ) (m m' : Met) (ms ms' : List Met) → 0 < ring → length text ≤ 4080 * (ring / 2) → FromSync ring first blocks text m ms → FromSync ring first blocks text m' ms' → m ∷ ms ≡ m' ∷ ms'
one_list ring first blocks text m m' ms ms' some half x y =
    list_of (ends-once ring first blocks text (Ok (m ∷ ms)) (Ok (m' ∷ ms')) some half (read-ending ring first blocks text m ms x) (read-ending ring first blocks text m' ms' y))
  where
    list_of : {xs ys : List Met} → (let x : Ending = Ok xs in let y : Ending = Ok ys in x ≡ y) → xs ≡ ys
    list_of e = cc

one_text : (pages blocks : ℕ) (log : Image) (a b : RingText) (m m' : Met) (ms ms' : List Met) → 2 < pages → IsReadAs pages blocks log a → IsReadAs pages blocks log b → FromSync (pages - 2) a.first blocks a.bytes.items m ms → FromSync (pages - 2) b.first blocks b.bytes.items m' ms'
    → log_text (pages - 2) a.first (length a.bytes.items) (m ∷ ms) ≡ log_text (pages - 2) b.first (length b.bytes.items) (m' ∷ ms')
one_text pages blocks log a b m m' ms ms' some x y from from' =
    let ring = pages - 2 in
    let same = has-one pages blocks log some (Ok a) (Ok b) x y in
    let half : length a.bytes.items ≤ 4080 * (ring / 2) = subst (λ (n : ℕ). length a.bytes.items ≤ 4080 * (n / 2)) x.ring a.half in
    let moved = subst (λ (n : ℕ). FromSync ring n blocks a.bytes.items m' ms') (sym same.0) (subst (λ (t : List ℕ). FromSync ring b.first blocks t m' ms') (sym same.1) from') in
    let records = one_list ring a.first blocks a.bytes.items m m' ms ms' (omega (arith, some)) half from moved in
    ap (λ (all : List Met). log_text ring a.first (length a.bytes.items) all) records
    ∙ ap (λ (n : ℕ). log_text ring n (length a.bytes.items) (m' ∷ ms')) same.0
    ∙ ap (λ (t : List ℕ). log_text ring b.first (length t) (m' ∷ ms')) same.1

pub one_thing : LogSaysOneThing
one_thing pages blocks log a b some (prints read is m ms from e) (prints read' is' m' ms' from' e') = e ∙ ap finished (one_text pages blocks log read read' m m' ms ms' some is is' from from') ∙ sym e'
one_thing pages blocks log a b some (prints read is m ms from e) (is_foreign label is' e') = absurd (has-one pages blocks log some (Ok read) (Err (errors.ForeignLog label)) is is')
one_thing pages blocks log a b some (prints read is m ms from e) (is_bad address rule is' e') = absurd (has-one pages blocks log some (Ok read) (Err (errors.BadLog address rule)) is is')
one_thing pages blocks log a b some (is_foreign label is e) (prints read is' m ms from e') = absurd (has-one pages blocks log some (Err (errors.ForeignLog label)) (Ok read) is is')
one_thing pages blocks log a b some (is_bad address rule is e) (prints read is' m ms from e') = absurd (has-one pages blocks log some (Err (errors.BadLog address rule)) (Ok read) is is')
one_thing pages blocks log a b some (is_foreign label is e) (is_foreign label' is' e') =
    e ∙ one_refusal pages blocks log (errors.ForeignLog label) (errors.ForeignLog label') some (λ n. n) (λ n. n) is is' ∙ sym e'
one_thing pages blocks log a b some (is_foreign label is e) (is_bad address rule is' e') =
    e ∙ one_refusal pages blocks log (errors.ForeignLog label) (errors.BadLog address rule) some (λ n. n) (λ n. n) is is' ∙ sym e'
one_thing pages blocks log a b some (is_bad address rule is e) (is_foreign label is' e') =
    e ∙ one_refusal pages blocks log (errors.BadLog address rule) (errors.ForeignLog label) some (λ n. n) (λ n. n) is is' ∙ sym e'
one_thing pages blocks log a b some (is_bad address rule is e) (is_bad address' rule' is' e') =
    e ∙ one_refusal pages blocks log (errors.BadLog address rule) (errors.BadLog address' rule') some (λ n. n) (λ n. n) is is' ∙ sym e'

abbrev log_says : Held → Super → Answer → Type 0
log_says held s = LogSays s.logpxd.len (blocks_of s) (log_of held s)

abbrev pub log_behind : Behind
log_behind = record { looks = LooksAtLog; says = λ tells. log_says; judged = every_status }

enough : (held : Held) → IsAccepted (superblock_of held) held.pages → 2 < (superblock_of held).logpxd.len
enough held accepted = let layout = accepted_layout (superblock_of held) held.pages accepted in let shortest = layout.shortest in omega (arith, shortest)

page_behind : (image : Image) (at n : ℕ) → page_of (drop at image) n ≡ page_of image (at + n)
page_behind image at n = get_or-drop at image n []

-- the log's pages are looked at
same_log : (a b : Held) → IsAccepted (superblock_of a) a.pages → LooksSame (LooksAtLog a) a b → (n : ℕ) → 0 < n → n < (superblock_of a).logpxd.len → page_of (log_of b (superblock_of a)) n ≡ page_of (log_of a (superblock_of a)) n
same_log a b accepted same n some less =
    let at = (superblock_of a).logpxd.addr in
    page_behind b.image at n ∙ same.each (at + n) (inr (accepted, (omega (arith, some), omega (arith, less)))) ∙ sym (page_behind a.image at n)

pub log_goes : GoesOn log_behind
log_goes = record {
  page8 = λ held there. inl (refl, there);
  rests = λ tells a b answer accepted same said. same_says (superblock_of a).logpxd.len (blocks_of (superblock_of a)) (log_of a (superblock_of a)) (log_of b (superblock_of a)) answer (enough a accepted) (same_log a b accepted same) said;
  one = λ tells held x y judged accepted said also. ap (λ (z : Answer). z.status) (one_thing (superblock_of held).logpxd.len (blocks_of (superblock_of held)) (log_of held (superblock_of held)) x y (enough held accepted) said also);
}

-- ---- what was read of the log

-- the records that were read, for the function that writes their lines
pub records_met : (pages blocks : ℕ) (log : Image) (read : RingText) → IsReadLog pages blocks log (Ok read)
    → (m : Met) × (ms : List Met) × AreMet blocks read.bytes.items m.start (m ∷ ms) × (map (λ (x : Met). x.end) (m ∷ ms) ≡ reverse read.ends.items)
records_met pages blocks log read is = (is.m, is.ms, (refl, is.records.is, is.records.behind.met), is.ends)

pub lines_said : (pages blocks : ℕ) (log : Image) (read : RingText) (lines : List ℕ) (count : Count) (text : Vec ℕ) → IsReadLog pages blocks log (Ok read)
    → ((ms : List Met) → (from : ℕ) → AreMet blocks read.bytes.items from ms → map (λ (x : Met). x.end) ms ≡ reverse read.ends.items → lines ≡ log_text read.ring read.first (length read.bytes.items) ms)
    → text.items ≡ lines → Stays count → LogEnds pages blocks log count (Ok text)
lines_said pages blocks log read lines count text is made is_text stays =
    let lines_are = made (is.m ∷ is.ms) is.m.start (refl, is.records.is, is.records.behind.met) is.ends in
    let ring_is = ap (λ (ring : ℕ). log_text ring read.first (length read.bytes.items) (is.m ∷ is.ms)) is.ring in
    (prints read is is.m is.ms is.records (ap finished (is_text ∙ lines_are ∙ ring_is)), stays)

-- the end of a log that was not read
pub not_read : (pages blocks : ℕ) (log : Image) (before now : ℕ) (error : RingError) → IsReadLog pages blocks log (Err error) → IsReadFault before now error → (IsRefusal error → now ≡ before) → HasLabel error
    → LogEnds pages blocks log (record { before = before; now = now }) (Err (end_of error))
not_read pages blocks log before now (errors.Read fault) is cause quiet label = cause.0
not_read pages blocks log before now (errors.ForeignLog text) is cause quiet label =
    (is_foreign text is refl, tt, quiet tt, label)
not_read pages blocks log before now (errors.BadLog address rule) is cause quiet label = (is_bad address rule is refl, tt, quiet tt, tt)
not_read pages blocks log before now errors.Memory is cause quiet label = tt

-- the layout that a superblock gives has its log and its blocks
pub at_layout : (g : Geometry) (s : Super) (image : Image) (count : Count) (result : Result (Vec ℕ) End) → g ≡ geometry_of s
    → LogEnds g.log.len g.blocks (drop g.log.addr image) count result → LogEnds s.logpxd.len (blocks_of s) (drop s.logpxd.addr image) count result
at_layout g s image count result is ends = subst (λ (x : Geometry). LogEnds x.log.len x.blocks (drop x.log.addr image) count result) is ends

-- ---- the command

-- the look at the superblock and the reading of the log after it, from one disk over another to a third
pub record Runs {D : Type 0} (d : Ghosts D) (old mid new : D) (s : Super) (image : Image) (result : Result (Vec ℕ) End) : Type 0 where
  pub pages : d.tells → ArePages (d.page_count old) (d.image old)
  pub looked : Looks d.tells (d.page_count old) (d.image old) (faults_of d old mid) (Ok s)
  pub same : d.tells → d.image mid ≡ d.image old
  pub is : d.tells → image ≡ d.image mid
  pub ends : LogEnds s.logpxd.len (blocks_of s) (drop s.logpxd.addr image) (faults_of d mid new) result

-- ---- what was read of a log is so of one with whole pages

are_whole : ℕ → Image → Bool
are_whole zero log = true
are_whole (suc n) log = are_whole n log && length (page_of log n) == 4096

whole_all : (n : ℕ) (log : Image) → IsWholeLog n log → are_whole n log ≡ true
unfolding are_whole
whole_all zero log each = refl
whole_all (suc n) log each = rw (whole_all n log (λ k h. each k (omega (arith, h))), eq-eqb (length (page_of log n)) 4096 (each n (omega arith))) refl

whole_each : (n : ℕ) (log : Image) → are_whole n log ≡ true → IsWholeLog n log
unfolding are_whole
whole_each zero log is k h = absurd (omega (arith, h))
whole_each (suc n) log is k h =
    let two = and_parts (are_whole n log) (length (page_of log n) == 4096) is in
    by two.1 (λ low. whole_each n log two.0 k low) (cases_lt k n)
  where
    by : (length (page_of log n) == 4096) ≡ true → (k < n → length (page_of log k) ≡ 4096) → (k < n) ⊎ (n ≤ k) → length (page_of log k) ≡ 4096
    by here below (inl low) = below low
    by here below (inr high) = ap (λ (m : ℕ). length (page_of log m)) (let e : k ≡ n = omega (arith, h, high) in e) ∙ eqb-true (length (page_of log n)) 4096 here

-- a log of whole pages of which the same is said
record SaysWhole (pages blocks : ℕ) (answer : Answer) : Type 0 where
  pub log : Image
  pub whole : IsWholeLog pages log
  pub says : LogSays pages blocks log answer

says_whole : (pages blocks : ℕ) (log : Image) (answer : Answer) → 256 ≤ pages → pages ≤ 32768 → TellsLabel answer.status → LogSays pages blocks log answer → SaysWhole pages blocks answer
says_whole pages blocks log answer long small label (prints read is m ms from e) =
    let w = whole_log pages blocks log (Ok read) long small tt is in
    record { log = w.log; whole = w.whole; says = prints read w.is m ms from e }
says_whole pages blocks log answer long small label (is_foreign text is e) =
    let w = whole_log pages blocks log (Err (errors.ForeignLog text)) long small (subst (λ (a : Answer). TellsLabel a.status) e label) is in
    record { log = w.log; whole = w.whole; says = is_foreign text w.is e }
says_whole pages blocks log answer long small label (is_bad address rule is e) =
    let w = whole_log pages blocks log (Err (errors.BadLog address rule)) long small tt is in
    record { log = w.log; whole = w.whole; says = is_bad address rule w.is e }

-- an image of whole pages in the log, by which the answer is right
record Shows {D : Type 0} (d : Ghosts D) (disk : D) (s : Super) (answer : Answer) : Type 0 where
  pub image : Image
  pub same : d.tells → image ≡ d.image disk
  pub whole : IsWholeLog s.logpxd.len (drop s.logpxd.addr image)
  pub says : LogSays s.logpxd.len (blocks_of s) (drop s.logpxd.addr image) answer

shows : {D : Type 0} (d : Ghosts D) (disk : D) (s : Super) (image : Image) (answer : Answer) → (d.tells → ArePages (d.page_count disk) (d.image disk)) → (d.tells → image ≡ d.image disk) → IsAccepted s (d.page_count disk)
    → TellsLabel answer.status → LogSays s.logpxd.len (blocks_of s) (drop s.logpxd.addr image) answer → Shows d disk s answer
shows d disk s image answer pages same accepted label says = by (are_whole len (drop at image)) refl
  where
    at : ℕ
    at = s.logpxd.addr

    len : ℕ
    len = s.logpxd.len

    told : d.tells → are_whole len (drop at image) ≡ true
    told t = whole_all len (drop at image) (λ n h.
        ap (λ (p : List ℕ). length p) (page_behind image at n ∙ ap (λ (i : Image). page_of i (at + n)) (same t))
        ∙ (pages t).sizes (at + n) (let within = accepted_log s (d.page_count disk) accepted in omega (arith, h, within)))

    by : (b : Bool) → are_whole len (drop at image) ≡ b → Shows d disk s answer
    by true is = record { image = image; same = same; whole = whole_each len (drop at image) is; says = says }
    by false is =
        let layout = accepted_layout s (d.page_count disk) accepted in
        let w = says_whole len (blocks_of s) (drop at image) answer layout.shortest layout.longest label says in
        let there : drop at (replicate at [] ++ w.log) ≡ w.log = drop_at (replicate at []) w.log at (length-replicate {A = List ℕ} at []) in
        record {
          image = replicate at [] ++ w.log;
          same = λ t. absurd (let e : false ≡ true = sym is ∙ told t in cc);
          whole = subst (λ (log : Image). IsWholeLog len log) (sym there) w.whole;
          says = subst (λ (log : Image). LogSays len (blocks_of s) log answer) (sym there) w.says;
        }

-- what is said of the log that was read is what the command says
said : {D : Type 0} (d : Ghosts D) (old mid new : D) (s : Super) (image : Image) (result : Result (Vec ℕ) End) (outcome : Outcome) (answer : Answer) → Runs d old mid new s image result → LogSays s.logpxd.len (blocks_of s) (drop s.logpxd.addr image) answer
    → TellsLabel answer.status → Stays (faults_of d mid new) → IsOwn answer.status → ShowsSame d old new outcome → outcome.text.items ≡ answer.text → outcome.end ≡ Own answer.status → Performs d log_meaning old new outcome
said d old mid new s image result outcome answer runs says label stays own same is_text is_end =
    let it = shows d old s image answer runs.pages (λ t. runs.is t ∙ runs.same t) runs.looked.3 label says in
    let found = seen d old s it.image (faults_of d old mid) runs.pages it.same runs.looked in
    let layout = accepted_layout s found.held.pages found.accepted in
    let within = accepted_log s found.held.pages found.accepted in
    let at = s.logpxd.addr in
    let least = layout.least in
    let behind = layout.behind in
    let log : LogSays s.logpxd.len (blocks_of s) (log_of found.held s) answer =
    same_says s.logpxd.len (blocks_of s) (drop at it.image) (log_of found.held s) answer (let shortest = layout.shortest in omega (arith, shortest))
    (λ n some less.
    page_behind found.held.image at n
    ∙ found.behind (at + n) (omega (arith, least, behind)) (omega (arith, less, within)) (ap (λ (p : List ℕ). length p) (sym (page_behind it.image at n)) ∙ it.whole n less)
    ∙ sym (page_behind it.image at n))
    it.says in
    comes d old new outcome log_behind found.held answer log_goes found.is same is_text (goes_on log_says found.held s answer found.block found.accepted log) own (stays ∙ runs.looked.4) is_end

pub log_shown : {D : Type 0} (d : Ghosts D) (old mid new : D) (s : Super) (image : Image) (text : Vec ℕ) (outcome : Outcome) → Runs d old mid new s image (Ok text) → ShowsSame d old new outcome
    → outcome.text.items ≡ text.items → outcome.end ≡ Own statuses.Done → Performs d log_meaning old new outcome
log_shown d old mid new s image text outcome runs same is_text is_end = said d old mid new s image (Ok text) outcome (finished text.items) runs runs.ends.0 tt runs.ends.1 tt same is_text is_end

pub log_not_shown : {D : Type 0} (d : Ghosts D) (old mid new : D) (s : Super) (image : Image) (end : End) (outcome : Outcome) → Runs d old mid new s image (Err end) → ShowsSame d old new outcome
    → outcome.text.items ≡ [] → outcome.end ≡ end → Performs d log_meaning old new outcome
log_not_shown d old mid new s image (Own status) outcome runs same no_text is_end = said d old mid new s image (Err (Own status)) outcome (refused status) runs runs.ends.0 runs.ends.3 runs.ends.2 runs.ends.1 same no_text is_end
log_not_shown d old mid new s image (Stopped stops.Disk) outcome runs same no_text is_end =
    disk_failed d old new outcome log_behind log_goes runs.pages (accepted_pages s (d.page_count old) runs.looked.3) same no_text (subst (λ (n : ℕ). Rose n (d.fault_count new)) runs.looked.4 runs.ends) is_end
log_not_shown d old mid new s image (Stopped stops.Memory) outcome runs same no_text is_end = no_memory d old new outcome log_behind log_goes runs.pages (accepted_pages s (d.page_count old) runs.looked.3) same no_text is_end
log_not_shown d old mid new s image (Stopped stops.Scripts) outcome runs same no_text is_end = absurd runs.ends
