-- The command `check` does what it means.
use Rattle.std.proofs.Common.{◌≡◌, ◌⊎◌, ◌<◌, ℕ, Bool, true, false, cond, List, [], ◌∷◌, ◌++◌, length, Option, Some, None, Result, Ok, Err, inl, inr, refl, sym, ap, subst, ◌∙◌, arith}
use Rattle.std.proofs.Math.Path.{fun_ext}
use Rattle.std.specs.Prelude.{◌==◌}
use Rattle.std.specs.List.{flat_map}
use Rattle.std.proofs.lemmas.Bool.{ne_eqb}
use Rattle.jfs_bits.specs.Count.{Rose}
use Rattle.jfs_disk.specs.Image.{Image, page_of, ArePages}
use Rattle.jfs_disk.specs.declared.disk.Disk.{Ghosts}
use Rattle.jfs_super.specs.declared.fields.Super.{Super}
use Rattle.jfs_super.proofs.Rules.{accepted_pages}
use Rattle.jfs_findings_new.specs.mount_rules.specs.Subject.{Subject, subject_of}
use Rattle.jfs_findings_new.specs.mount_rules.specs.Mount.{BadMount, broken_mount}
use Rattle.jfs_findings_new.specs.findings.specs.Findings.{SaysUnless, AreFindings}
use Rattle.jfs_findings_new.specs.findings.specs.declared.finding.Finding.{Finding}
use Rattle.jfs_findings_new.specs.findings.specs.declared.finding.FindingKind.TheVariants as kinds
use Rattle.jfs_check.specs.Checked.{AreCounted}
use Rattle.jfs_findings_new.specs.findings.proofs.OneList.{one_list}
use Rattle.jfs_command.specs.declared.check.Listed.{Listed}
use Rattle.jfs_command.specs.declared.status.Status.TheVariants.{Done, Found}
use Rattle.jfs_command.specs.declared.status.Stop.TheVariants as stops
use Rattle.jfs_command.specs.declared.outcome.End.{End}
use Rattle.jfs_command.specs.declared.outcome.End.TheVariants.{Own, Stopped}
use Rattle.jfs_command.specs.declared.outcome.Outcome.{Outcome}
use Rattle.jfs_command.specs.Status.{Kind, Finishes, Refuses, IsOwn, kind_of}
use Rattle.jfs_command.specs.Count.{Stays}
use Rattle.jfs_command.specs.Meaning.{Answer, Performs, refused}
use Rattle.jfs_command.specs.Superblock.{superblock_of, Looks}
use Rattle.jfs_command.specs.Check.{is_taken, finding_line, found_line, clean_line, status_for, answer_for, ListsFindings, CheckSaysOneThing, CheckSays, LooksAtVolume, IsRefused, CheckEnds, check_meaning}
use Rattle.jfs_command.proofs.SuperblockLemmas.{next_after, one_after_state}
use Rattle.jfs_command.proofs.Looking.{Behind, GoesOn, ShowsSame, faults_of, comes, no_memory, disk_failed, seen, goes_on}

-- ---- the check is one that may follow a look at the superblock

abbrev pub check_behind : Behind
check_behind = record { looks = LooksAtVolume; says = λ tells held. CheckSays tells held.image; judged = IsRefused }

moved : (tells : Type 0) (s t : Subject) (answer : Answer) → (tells → s ≡ t) → ListsFindings tells s answer → ListsFindings tells t answer
moved tells s t answer same c = record {
  findings = c.findings;
  free = c.free;
  inodes = c.inodes;
  is = c.is;
  all = λ told. subst (λ (u : Subject). AreFindings u c.findings) (same told) (c.all told);
  counts = λ told. subst (λ (u : Subject). AreCounted u c.free c.inodes) (same told) (c.counts told);
}

-- what is said of one image is said of another with the same pages
same_says : (tells : Type 0) (a b : Image) (s : Super) (answer : Answer) → (tells → is_taken s.state.0 ≡ true → (n : ℕ) → page_of b n ≡ page_of a n) → CheckSays tells a s answer → CheckSays tells b s answer
same_says tells a b s answer same said =
    next_after (is_taken s.state.0) s.state.0 (ListsFindings tells (subject_of s (page_of a))) (ListsFindings tells (subject_of s (page_of b))) answer
    (λ taken c. moved tells (subject_of s (page_of a)) (subject_of s (page_of b)) answer (λ told. ap (λ (page : ℕ → List ℕ). subject_of s page) (fun_ext (λ n. sym (same told taken n)))) c) said

finishes : (b : Bool) (count : ℕ) → kind_of (cond b Done (Found count)) ≡ Finishes
finishes true count = refl
finishes false count = refl

never : (k : Kind) → k ≡ Finishes → k ≡ Refuses → ⊥
never k finished refused = let e = sym finished ∙ refused in absurd cc

one_status : (tells : Type 0) (s : Subject) (x y : Answer) → tells ⊎ IsRefused y.status → ListsFindings tells s x → ListsFindings tells s y → x.status ≡ y.status
one_status tells s x y (inl told) a b =
    ap (λ (z : Answer). z.status) a.is ∙ ap (λ (fs : List Finding). status_for fs) (one_list s a.findings b.findings (a.all told) (b.all told)) ∙ sym (ap (λ (z : Answer). z.status) b.is)
one_status tells s x y (inr refuses) a b =
    absurd (never (kind_of y.status) (ap (λ (z : Answer). kind_of z.status) b.is ∙ finishes (length b.findings == 0) (length b.findings)) refuses)

pub check_goes : GoesOn check_behind
check_goes = record {
  page8 = λ held there. inl (refl, there);
  rests = λ tells a b answer accepted same said. same_says tells a.image b.image (superblock_of a) answer (λ told taken n. same.each n (inr (accepted, taken))) said;
  one = λ tells held x y judged accepted said also.
      let s = superblock_of held in
      one_after_state (is_taken s.state.0) s.state.0 (ListsFindings tells (subject_of s (page_of held.image))) x y (one_status tells (subject_of s (page_of held.image)) x y judged) said also;
}

-- ---- one answer, text and all

not_none : (f : Finding) (fs : List Finding) → length (f ∷ fs) ≡ 0 → ⊥
not_none f fs e = absurd cc

not_first : (b : Bool) (x y z : List ℕ) → b ≡ false → cond b x z ≡ cond b y z
not_first b x y z e = rw e refl

abbrev found_text : List Finding → List ℕ
found_text findings = flat_map finding_line findings ++ found_line (length findings)

one_text : (findings : List Finding) (free free' inodes inodes' : ℕ) → (findings ≡ [] → (free ≡ free') × (inodes ≡ inodes')) → answer_for findings free inodes ≡ answer_for findings free' inodes'
one_text [] free free' inodes inodes' same = let counts = same refl in ap (λ (n : ℕ). answer_for [] n inodes) counts.0 ∙ ap (λ (n : ℕ). answer_for [] free' n) counts.1
one_text (f ∷ fs) free free' inodes inodes' same =
    let with_text : List ℕ → Answer = λ text. record { status = status_for (f ∷ fs); text = text } in
    ap with_text (not_first (length (f ∷ fs) == 0) (clean_line free inodes) (clean_line free' inodes') (found_text (f ∷ fs)) (ne_eqb (length (f ∷ fs)) 0 (not_none f fs)))

none_there : (i : ℕ) → i < 0 → ⊥
none_there i h = omega (arith, h)

-- without findings no rule of a mount is broken
none_broken : (s : Subject) (o : Option BadMount) → broken_mount s ≡ o → AreFindings s [] → o ≡ None
none_broken s None is a = refl
none_broken s (Some bad) is a =
    let f : Finding = record { kind = kinds.Aggregate; page = bad.page; value = bad.value } in
    let at = a.all f (subst (λ (o : Option BadMount). SaysUnless o s f) (sym is) refl) in
    absurd (none_there at.0 at.1)

pub one_thing : CheckSaysOneThing
one_thing s a b x y =
    let same = one_list s x.findings y.findings (x.all tt) (y.all tt) in
    x.is
    ∙ one_text x.findings x.free y.free x.inodes y.inodes (λ none.
    let mounted = none_broken s (broken_mount s) refl (subst (λ (fs : List Finding). AreFindings s fs) none (x.all tt)) in
    let counts = x.counts tt mounted in
    let also = y.counts tt mounted in
    (counts.0 ∙ sym also.0, counts.1 ∙ sym also.1))
    ∙ ap (λ (fs : List Finding). answer_for fs y.free y.inodes) same ∙ sym y.is

-- ---- the command

-- the look at the superblock and the check after it, from one disk over another to a third
pub record Runs {D : Type 0} (d : Ghosts D) (old mid new : D) (s : Super) (result : Result Listed End) : Type 0 where
  pub pages : d.tells → ArePages (d.page_count old) (d.image old)
  pub looked : Looks d.tells (d.page_count old) (d.image old) (faults_of d old mid) (Ok s)
  pub same : d.tells → d.image mid ≡ d.image old
  pub ends : CheckEnds d.tells (d.image mid) s (faults_of d mid new) result

-- what is said of the volume that was checked is what the command says
said : {D : Type 0} (d : Ghosts D) (old mid new : D) (s : Super) (result : Result Listed End) (outcome : Outcome) (answer : Answer) → Runs d old mid new s result → CheckSays d.tells (d.image mid) s answer
    → Stays (faults_of d mid new) → IsOwn answer.status → ShowsSame d old new outcome → outcome.text.items ≡ answer.text → outcome.end ≡ Own answer.status → Performs d check_meaning old new outcome
said d old mid new s result outcome answer runs says stays own same is_text is_end =
    let found = seen d old s (d.image old) (faults_of d old mid) runs.pages (λ t. refl) runs.looked in
    let checked = same_says d.tells (d.image mid) found.held.image s answer (λ told taken n. ap (λ (i : Image). page_of i n) (found.is.image told ∙ sym (runs.same told))) says in
    comes d old new outcome check_behind found.held answer check_goes found.is same is_text
    (goes_on (λ held. CheckSays d.tells held.image) found.held s answer found.block found.accepted checked) own (stays ∙ runs.looked.4) is_end

pub checked : {D : Type 0} (d : Ghosts D) (old mid new : D) (s : Super) (it : Listed) (outcome : Outcome) → Runs d old mid new s (Ok it) → ShowsSame d old new outcome
    → outcome.text.items ≡ it.text.items → outcome.end ≡ Own it.status → Performs d check_meaning old new outcome
checked d old mid new s it outcome runs same is_text is_end = said d old mid new s (Ok it) outcome (record { status = it.status; text = it.text.items }) runs runs.ends.0 runs.ends.2 runs.ends.1 same is_text is_end

pub stopped : {D : Type 0} (d : Ghosts D) (old mid new : D) (s : Super) (end : End) (outcome : Outcome) → Runs d old mid new s (Err end) → ShowsSame d old new outcome
    → outcome.text.items ≡ [] → outcome.end ≡ end → Performs d check_meaning old new outcome
stopped d old mid new s (Own status) outcome runs same no_text is_end = said d old mid new s (Err (Own status)) outcome (refused status) runs runs.ends.0 runs.ends.2 runs.ends.1 same no_text is_end
stopped d old mid new s (Stopped stops.Disk) outcome runs same no_text is_end =
    disk_failed d old new outcome check_behind check_goes runs.pages (accepted_pages s (d.page_count old) runs.looked.3) same no_text (subst (λ (n : ℕ). Rose n (d.fault_count new)) runs.looked.4 runs.ends) is_end
stopped d old mid new s (Stopped stops.Memory) outcome runs same no_text is_end = no_memory d old new outcome check_behind check_goes runs.pages (accepted_pages s (d.page_count old) runs.looked.3) same no_text is_end
stopped d old mid new s (Stopped stops.Scripts) outcome runs same no_text is_end = absurd runs.ends
