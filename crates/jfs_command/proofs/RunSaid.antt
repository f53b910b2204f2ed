-- What the command `run` says rests on the pages that it looks at, and has one status.
use Rattle.std.proofs.Common.{◌≡◌, ◌<◌, ◌⊎◌, ℕ, suc, length, arith, Bool, true, false, List, [], ◌∷◌, Option, Some, None, Result, Ok, Err, inl, inr, refl, sym, ap, subst, ◌∙◌}
use Rattle.std.proofs.Math.Path.{fun_ext}
use Rattle.std.specs.Prelude.{⊤}
use Rattle.jfs_bits.specs.Broken.{first_broken}
use Rattle.jfs_disk.specs.Image.{Image, page_of}
use Rattle.jfs_super.specs.declared.fields.Super.{Super}
use Rattle.jfs_super.specs.declared.read.BadSuper.{BadSuper}
use Rattle.jfs_super.specs.Rules.{rows}
use Rattle.jfs_ranges.specs.declared.edit.Edit.{Edit}
use Rattle.jfs_redo.specs.Redo.{IsRedone}
use Rattle.jfs_redo.proofs.OneVolume.{redone_agree}
use Rattle.jfs_findings_new.specs.mount_rules.specs.Subject.{subject_of}
use Rattle.jfs_findings_new.specs.mount_rules.specs.Mount.{BadMount, broken_mount}
use Rattle.jfs_plain.specs.declared.call.Line.{Line}
use Rattle.jfs_script.specs.Laws.{Meant, asks, is_bad, is_too_much, MeansScript}
use Rattle.jfs_script.proofs.OneMeaning.{one_thing as one_meaning}
use Rattle.jfs_command.specs.declared.status.Status.{Status}
use Rattle.jfs_command.specs.declared.status.Status.TheVariants.{BadImage, BadScript, TooMuch}
use Rattle.jfs_command.specs.Status.{Refuses, kind_of}
use Rattle.jfs_command.specs.Held.{Held}
use Rattle.jfs_command.specs.Meaning.{Answer, LooksSame, finished, refused}
use Rattle.jfs_command.specs.Redo.{redone_text, is_clean, is_mounted, MountedSays, redoes, is_foreign, is_bad, breaks_maps}
use Rattle.jfs_command.specs.declared.printed.Printed.{Printed}
use Rattle.jfs_command.specs.Scripts.{ScriptSays, SayFrom, ScriptsSay}
use Rattle.jfs_command.specs.Superblock.{superblock_of, AfterRules, AfterState, AfterSuperblock}
use Rattle.jfs_command.specs.Order.{Planned, Order, by_scripts, by_number, Asks}
use Rattle.jfs_command.specs.Run.{CleanSays, runs, breaks, Start, is_ready, IsRedoneBy, BeginsOn, as_it_is, as_redone, behind, ReadySays, begins, not_redone, LinesSay, RunSays, refuses, takes, RunSaysOneThing, IsOfScripts, LooksAtReady, LooksAtRun}
use Rattle.jfs_command.proofs.SuperblockLemmas.{SamePage8, same_after, one_after, next_after, one_after_state}
use Rattle.jfs_command.proofs.RedoSaid.{long, same_commits, once, mounted_same, one_mounted, mounted_told}
use Rattle.jfs_command.proofs.RedoMounted.{not_clean}

-- ---- scripts have one meaning

abbrev result_of : ℕ → Meant → Result (List Line) Status
result_of client (asks lines) = Ok lines
result_of client (is_bad line rule) = Err (BadScript client line rule)
result_of client (is_too_much count) = Err (TooMuch count)

meant_by : (client : ℕ) (text : List ℕ) (said : Result (List Line) Status) → ScriptSays client text said → (m : Meant) × MeansScript text m × (said ≡ result_of client m)
meant_by client text (Ok lines) is = (asks lines, is, refl)
meant_by client text (Err (BadScript c line rule)) (first, within, bad) = (is_bad line rule, (within, bad), ap (λ (n : ℕ). Err (BadScript n line rule)) first)
meant_by client text (Err (TooMuch count)) is = (is_too_much count, is, refl)
meant_by client text (Err _) is = absurd is

one_script : (client : ℕ) (text : List ℕ) (a b : Result (List Line) Status) → ScriptSays client text a → ScriptSays client text b → a ≡ b
one_script client text a b is_a is_b =
    let x = meant_by client text a is_a in
    let y = meant_by client text b is_b in
    x.2 ∙ ap (result_of client) (one_meaning text x.0 y.0 x.1 y.1) ∙ sym y.2

one_good : (client : ℕ) (text : List ℕ) (a b : List Line) → ScriptSays client text (Ok a) → ScriptSays client text (Ok b) → a ≡ b
one_good client text a b is_a is_b = let one = one_script client text (Ok a) (Ok b) is_a is_b in cc

one_bad_script : (client : ℕ) (text : List ℕ) (a b : Status) → ScriptSays client text (Err a) → ScriptSays client text (Err b) → a ≡ b
one_bad_script client text a b is_a is_b = let one = one_script client text (Err a) (Err b) is_a is_b in cc

not_both : (client : ℕ) (text : List ℕ) (lines : List Line) (status : Status) → ScriptSays client text (Ok lines) → ScriptSays client text (Err status) → ⊥
not_both client text lines status good bad = let one = one_script client text (Ok lines) (Err status) good bad in absurd cc

all_from : (client : ℕ) (texts : List (List ℕ)) (a b : List (List Line)) → SayFrom client texts (Ok a) → SayFrom client texts (Ok b) → a ≡ b
all_from client [] [] [] is_a is_b = refl
all_from client [] [] (y ∷ ys) is_a is_b = absurd is_b
all_from client [] (x ∷ xs) b is_a is_b = absurd is_a
all_from client (t ∷ ts) [] b is_a is_b = absurd is_a
all_from client (t ∷ ts) (x ∷ xs) [] is_a is_b = absurd is_b
all_from client (t ∷ ts) (x ∷ xs) (y ∷ ys) is_a is_b =
    ap (λ (l : List Line). l ∷ xs) (one_good client t x y is_a.0 is_b.0) ∙ ap (λ (ls : List (List Line)). y ∷ ls) (all_from (suc client) ts xs ys is_a.1 is_b.1)

bad_from : (client : ℕ) (texts : List (List ℕ)) (a b : Status) → SayFrom client texts (Err a) → SayFrom client texts (Err b) → a ≡ b
bad_from client [] a b is_a is_b = absurd is_a
bad_from client (t ∷ ts) a b (inl here) (inl also) = one_bad_script client t a b here also
bad_from client (t ∷ ts) a b (inl here) (inr (lines, good, later)) = absurd (not_both client t lines a good here)
bad_from client (t ∷ ts) a b (inr (lines, good, later)) (inl here) = absurd (not_both client t lines b good here)
bad_from client (t ∷ ts) a b (inr (lines, good, later)) (inr (others, fine, also)) = bad_from (suc client) ts a b later also

never_from : (client : ℕ) (texts : List (List ℕ)) (plan : List (List Line)) (status : Status) → SayFrom client texts (Ok plan) → SayFrom client texts (Err status) → ⊥
never_from client [] plan status good bad = bad
never_from client (t ∷ ts) [] status good bad = good
never_from client (t ∷ ts) (x ∷ xs) status good (inl here) = not_both client t x status good.0 here
never_from client (t ∷ ts) (x ∷ xs) status good (inr (lines, fine, later)) = never_from (suc client) ts xs status good.1 later

one_from : (texts : List (List ℕ)) (a b : Result (List (List Line)) Status) → SayFrom 1 texts a → SayFrom 1 texts b → a ≡ b
one_from texts (Ok a) (Ok b) is_a is_b = ap (λ (plan : List (List Line)). Ok plan) (all_from 1 texts a b is_a is_b)
one_from texts (Ok a) (Err b) is_a is_b = absurd (never_from 1 texts a b is_a is_b)
one_from texts (Err a) (Ok b) is_a is_b = absurd (never_from 1 texts b a is_b is_a)
one_from texts (Err a) (Err b) is_a is_b = ap (λ (status : Status). Err status) (bad_from 1 texts a b is_a is_b)

one_scripts : (texts : List (List ℕ)) (a b : Result (List (List Line)) Status) → ScriptsSay texts a → ScriptsSay texts b → a ≡ b
one_scripts texts a b (inl (many, is_a)) (inl (more, is_b)) = is_a ∙ sym is_b
one_scripts texts a b (inl (many, is_a)) (inr (some, few, is_b)) = absurd (omega (arith, many, few))
one_scripts texts a b (inr (some, few, is_a)) (inl (many, is_b)) = absurd (omega (arith, many, few))
one_scripts texts a b (inr (some, few, is_a)) (inr (more, fewer, is_b)) = one_from texts a b is_a is_b

-- a refusal of scripts is one
refused_script : (client : ℕ) (text : List ℕ) (status : Status) → ScriptSays client text (Err status) → IsOfScripts status
refused_script client text (BadScript c line rule) bad = tt
refused_script client text (TooMuch count) bad = tt
refused_script client text _ bad = absurd bad

refused_from : (client : ℕ) (texts : List (List ℕ)) (status : Status) → SayFrom client texts (Err status) → IsOfScripts status
refused_from client [] status bad = absurd bad
refused_from client (t ∷ ts) status (inl here) = refused_script client t status here
refused_from client (t ∷ ts) status (inr (lines, good, later)) = refused_from (suc client) ts status later

refused_scripts : (texts : List (List ℕ)) (status : Status) → ScriptsSay texts (Err status) → IsOfScripts status
refused_scripts texts status (inl (many, is)) = let same : status ≡ TooMuch (length texts) = cc (is) in subst IsOfScripts (sym same) tt
refused_scripts texts status (inr (some, few, bad)) = refused_from 1 texts status bad

-- ---- orders

planned_is : (a b : Planned) → a.plan ≡ b.plan → a.printed ≡ b.printed → a ≡ b
planned_is a b plan printed =
    let with_plan : List (List Line) → Planned = λ x. record { plan = x; printed = a.printed } in
    let with_printed : Printed → Planned = λ x. record { plan = b.plan; printed = x } in
    ap with_plan plan ∙ ap with_printed printed

pub ok_of : {X Y : Type 0} (a b : X) → ◌≡◌ {A = Result X Y} (Ok a) (Ok b) → a ≡ b
ok_of a b e = cc

err_of : {X Y : Type 0} (a b : Y) → ◌≡◌ {A = Result X Y} (Err a) (Err b) → a ≡ b
err_of a b e = cc

-- there is one thing to be done, or one refusal of scripts
pub record IsOrder (order : Order) : Type 0 where
  pub one : (a b : Result Planned Status) → Asks order a → Asks order b → a ≡ b
  pub refusals : (status : Status) → Asks order (Err status) → IsOfScripts status

pub order_is : (order : Order) → IsOrder order
order_is (by_scripts texts) = record { one = one; refusals = refused_scripts texts }
  where
    one : (a b : Result Planned Status) → Asks (by_scripts texts) a → Asks (by_scripts texts) b → a ≡ b
    one (Ok a) (Ok b) is_a is_b = ap (λ (p : Planned). Ok p) (planned_is a b (let same = one_scripts texts (Ok a.plan) (Ok b.plan) is_a.0 is_b.0 in ok_of a.plan b.plan same) (is_a.1 ∙ sym is_b.1))
    one (Ok a) (Err b) is_a is_b = let same = one_scripts texts (Ok a.plan) (Err b) is_a.0 is_b in absurd cc
    one (Err a) (Ok b) is_a is_b = let same = one_scripts texts (Err a) (Ok b.plan) is_a is_b.0 in absurd cc
    one (Err a) (Err b) is_a is_b = ap (λ (status : Status). Err status) (let same = one_scripts texts (Err a) (Err b) is_a is_b in err_of a b same)
order_is (by_number number calls clients) = record { one = one; refusals = λ status bad. absurd bad }
  where
    one : (a b : Result Planned Status) → Asks (by_number number calls clients) a → Asks (by_number number calls clients) b → a ≡ b
    one (Ok a) (Ok b) is_a is_b = ap (λ (p : Planned). Ok p) (is_a ∙ sym is_b)
    one (Ok a) (Err b) is_a is_b = absurd is_b
    one (Err a) b is_a is_b = absurd is_a

one_refusal : (order : Order) (is : IsOrder order) (a b : Status) → Asks order (Err a) → Asks order (Err b) → a ≡ b
one_refusal order is a b is_a is_b = err_of a b (is.one (Err a) (Err b) is_a is_b)

never : (order : Order) (is : IsOrder order) (status : Status) (p : Planned) → Asks order (Err status) → Asks order (Ok p) → ⊥
never order is status p bad good = let one = is.one (Err status) (Ok p) bad good in absurd cc

-- ---- a clean volume, by the rules of a mount

mount_of : Start → Option BadMount
mount_of start = broken_mount (subject_of start.super (page_of start.image))

same_mount : (s : Super) (a b : Image) (o : Option BadMount) → ((n : ℕ) → page_of b n ≡ page_of a n) → broken_mount (subject_of s (page_of a)) ≡ o → broken_mount (subject_of s (page_of b)) ≡ o
same_mount s a b o same is = ap (λ (page : ℕ → List ℕ). broken_mount (subject_of s page)) (fun_ext same) ∙ is

clean_same : (tells : Type 0) (p : Planned) (s : Super) (a b : Image) (answer : Answer) → (tells → (n : ℕ) → page_of b n ≡ page_of a n) → CleanSays tells p s a answer → CleanSays tells p s b answer
clean_same tells p s a b answer same (runs c entries told is none) = runs c entries told is (λ t. same_mount s a b None (same t) (none t))
clean_same tells p s a b answer same (breaks bad is some) = breaks bad is (λ t. same_mount s a b (Some bad) (same t) (some t))

one_bad : (x y : BadMount) (o : Option BadMount) → o ≡ Some x → o ≡ Some y → x ≡ y
one_bad x y o is_x is_y = let e = sym is_x ∙ is_y in cc

unbroken : (bad : BadMount) (o : Option BadMount) → o ≡ None → o ≡ Some bad → ⊥
unbroken bad o is_none is_some = let e = sym is_none ∙ is_some in absurd cc

status_is : (x y : Answer) → x ≡ y → x.status ≡ y.status
status_is x y same = ap (λ (z : Answer). z.status) same

one_clean : (tells : Type 0) (p : Planned) (a b : Start) (x y : Answer) → tells → mount_of b ≡ mount_of a → CleanSays tells p a.super a.image x → CleanSays tells p b.super b.image y → x.status ≡ y.status
unfolding mount_of
one_clean tells p a b x y told same (runs c entries all is none) (runs c' entries' all' is' none') = ap (λ (z : Answer). z.status) is ∙ sym (ap (λ (z : Answer). z.status) is')
one_clean tells p a b x y told same (runs c entries all is none) (breaks bad is' some) = absurd (unbroken bad (mount_of b) (same ∙ none told) (some told))
one_clean tells p a b x y told same (breaks bad is some) (runs c' entries' all' is' none') = absurd (unbroken bad (mount_of b) (none' told) (same ∙ some told))
one_clean tells p a b x y told same (breaks bad is some) (breaks bad' is' some') =
    status_is x y (is ∙ ap (λ (b : BadMount). refused (BadImage b.page b.rule b.value)) (one_bad bad bad' (mount_of b) (same ∙ some told) (some' told)) ∙ sym is')

-- ---- a volume that is ready

both_states : (state : ℕ) → is_clean state ≡ true → is_mounted state ≡ true → ⊥
both_states state clean mounted = let no = not_clean state mounted in let e = sym no ∙ clean in absurd cc

redone_same : (s : Super) (a b redone : Image) (count : ℕ) → ((n : ℕ) → page_of b n ≡ page_of a n) → IsRedoneBy s a redone count → IsRedoneBy s b redone count
redone_same s a b redone count same by = record { like = by.like; same = λ n. by.same n ∙ sym (same n); txs = by.txs; commits = by.commits; count_is = by.count_is; unbroken = by.unbroken; redo = by.redo; whole = by.whole }

begun_same : (tells : Type 0) (p : Planned) (s : Super) (a b : Image) (answer rest : Answer) (start : Start) → (tells → (n : ℕ) → page_of b n ≡ page_of a n)
    → BeginsOn tells s a start → CleanSays tells p start.super start.image rest → answer ≡ behind start.text rest → ReadySays tells p s b answer
begun_same tells p s a b answer rest start same (as_it_is clean e) said is =
    begins (record { super = s; image = b; text = [] }) (as_it_is clean refl) rest (clean_same tells p s a b rest same (subst (λ (st : Start). CleanSays tells p st.super st.image rest) e said))
    (is ∙ ap (λ (st : Start). behind st.text rest) e)
begun_same tells p s a b answer rest start same (as_redone mounted count super text by) said is =
    begins start (as_redone mounted count super text (λ t. redone_same s a b start.image count (same t) (by t))) rest said is

ready_same : (tells : Type 0) (p : Planned) (s : Super) (a b : Image) (answer : Answer) → 2 < s.logpxd.len → (tells → (n : ℕ) → page_of b n ≡ page_of a n) → ReadySays tells p s a answer → ReadySays tells p s b answer
ready_same tells p s a b answer some same (begins start on rest said is) = begun_same tells p s a b answer rest start same on said is
ready_same tells p s a b answer some same (not_redone mounted status kind is said) = not_redone mounted status kind is (mounted_same tells s a b answer some same said)

-- what is said of one image is said of another with the same pages
pub same_lines : (tells : Type 0) (p : Planned) (s : Super) (a b : Image) (answer : Answer) → 2 < s.logpxd.len → (tells → is_ready s.state.0 ≡ true → (n : ℕ) → page_of b n ≡ page_of a n) → LinesSay tells p a s answer → LinesSay tells p b s answer
same_lines tells p s a b answer some same said =
    next_after (is_ready s.state.0) s.state.0 (ReadySays tells p s a) (ReadySays tells p s b) answer (λ ready x. ready_same tells p s a b answer some (λ t. same t ready) x) said

-- redo makes one thing of it
one_redone : (s : Super) (image a b : Image) (n m : ℕ) → 2 < s.logpxd.len → IsRedoneBy s image a n → IsRedoneBy s image b m → (p : ℕ) → page_of a p ≡ page_of b p
one_redone s image a b n m some x y =
    let one = same_commits s x.like image some (λ p. sym (x.same p)) x.txs x.commits in
    let other = same_commits s y.like image some (λ p. sym (y.same p)) y.txs y.commits in
    redone_agree s x.txs x.like y.like a b (λ p. x.same p ∙ sym (y.same p)) x.redo (subst (λ (txs : List (List Edit)). IsRedone s txs y.like b) (once s image some y.txs x.txs other one) y.redo)

same_start : (tells : Type 0) (s : Super) (image : Image) (a b : Start) → tells → 2 < s.logpxd.len → BeginsOn tells s image a → BeginsOn tells s image b → mount_of b ≡ mount_of a
unfolding mount_of
same_start tells s image a b told some (as_it_is clean e) (as_it_is clean' e') = ap mount_of (e' ∙ sym e)
same_start tells s image a b told some (as_it_is clean e) (as_redone mounted count super text by) = absurd (both_states s.state.0 clean mounted)
same_start tells s image a b told some (as_redone mounted count super text by) (as_it_is clean e) = absurd (both_states s.state.0 clean mounted)
same_start tells s image a b told some (as_redone mounted count super text by) (as_redone mounted' count' super' text' by') =
    ap (λ (u : Super). broken_mount (subject_of u (page_of b.image))) (super' ∙ sym super)
    ∙ ap (λ (page : ℕ → List ℕ). broken_mount (subject_of a.super page)) (fun_ext (one_redone s image b.image a.image count' count some (by' told) (by told)))

-- what is redone is not refused
finished_never : (s : Super) (image redone : Image) (count : ℕ) (y : Answer) → 2 < s.logpxd.len → IsRedoneBy s image redone count → MountedSays ⊤ s image y → kind_of y.status ≡ Refuses → ⊥
finished_never s image redone count y some by said kind =
    let z : Answer = finished (redone_text count) in
    let of_like : MountedSays ⊤ s by.like z = redoes count refl (λ _. (by.txs, by.commits, by.count_is, by.unbroken)) in
    let same = one_mounted s image some z y (mounted_same ⊤ s by.like image z some (λ _ n. sym (by.same n)) of_like) said in
    let e = ap (λ (a : Answer). kind_of a.status) same ∙ kind in absurd cc

refusing : (y : Answer) (status : Status) → kind_of status ≡ Refuses → y ≡ refused status → kind_of y.status ≡ Refuses
refusing y status kind is = ap (λ (a : Answer). kind_of a.status) is ∙ kind

never_begun : (tells : Type 0) (s : Super) (image : Image) (start : Start) (y : Answer) → tells → 2 < s.logpxd.len → BeginsOn tells s image start → is_mounted s.state.0 ≡ true → MountedSays tells s image y → kind_of y.status ≡ Refuses → ⊥
never_begun tells s image start y told some (as_it_is clean e) mounted said kind = both_states s.state.0 clean mounted
never_begun tells s image start y told some (as_redone mounted count super text by) mounted' said kind = finished_never s image start.image count y some (by told) (mounted_told tells s image y told said) kind

one_ready : (tells : Type 0) (p : Planned) (s : Super) (image : Image) (x y : Answer) → tells → 2 < s.logpxd.len → ReadySays tells p s image x → ReadySays tells p s image y → x.status ≡ y.status
one_ready tells p s image x y told some (begins a on rest said is) (begins b on' rest' said' is') =
    status_is x (behind a.text rest) is ∙ one_clean tells p a b rest rest' told (same_start tells s image a b told some on on') said said' ∙ sym (status_is y (behind b.text rest') is')
one_ready tells p s image x y told some (begins a on rest said is) (not_redone mounted status kind is' said') = absurd (never_begun tells s image a y told some on mounted said' (refusing y status kind is'))
one_ready tells p s image x y told some (not_redone mounted status kind is said) (begins b on rest said' is') = absurd (never_begun tells s image b x told some on mounted said (refusing x status kind is))
one_ready tells p s image x y told some (not_redone mounted status kind is said) (not_redone mounted' status' kind' is' said') =
    status_is x y (one_mounted s image some x y (mounted_told tells s image x told said) (mounted_told tells s image y told said'))

one_lines : (tells : Type 0) (p : Planned) (s : Super) (image : Image) (x y : Answer) → tells → 2 < s.logpxd.len → LinesSay tells p image s x → LinesSay tells p image s y → x.status ≡ y.status
one_lines tells p s image x y told some said also = one_after_state (is_ready s.state.0) s.state.0 (ReadySays tells p s image) x y (one_ready tells p s image x y told some) said also

-- ---- the command

page8_of : (a b : Held) → LooksSame (LooksAtReady a) a b → SamePage8 a b
page8_of a b same = record { pages = same.pages; page = λ there. same.each 8 (inl (refl, there)) }

looked : (tells : Type 0) (p : Planned) (a b : Held) (answer : Answer) → LooksSame (LooksAtReady a) a b → AfterSuperblock a (LinesSay tells p a.image) answer → AfterSuperblock b (LinesSay tells p b.image) answer
looked tells p a b answer same said =
    same_after a b (LinesSay tells p a.image) (LinesSay tells p b.image) answer (page8_of a b same)
    (λ accepted said. same_lines tells p (superblock_of a) a.image b.image answer (long (superblock_of a) a.pages accepted) (λ told ready n. same.each n (inr (accepted, ready))) said) said

taken_look : (order : Order) (a b : Held) (p : Planned) → Asks order (Ok p) → LooksSame (LooksAtRun order a) a b → LooksSame (LooksAtReady a) a b
taken_look order a b p good same = record { pages = same.pages; each = λ n looks. same.each n ((p, good), looks) }

pub same_run : (tells : Type 0) (order : Order) (a b : Held) (answer : Answer) → LooksSame (LooksAtRun order a) a b → RunSays tells order a answer → RunSays tells order b answer
same_run tells order a b answer same (refuses status bad is) = refuses status bad is
same_run tells order a b answer same (takes p good said) = takes p good (looked tells p a b answer (taken_look order a b p good same) said)

-- a refusal of scripts isn't one of what is said of a volume
not_clean_said : (tells : Type 0) (p : Planned) (s : Super) (image : Image) (y : Answer) → CleanSays tells p s image y → IsOfScripts y.status → ⊥
not_clean_said tells p s image y (runs c entries told is none) judged = absurd (subst (λ (z : Answer). IsOfScripts z.status) is judged)
not_clean_said tells p s image y (breaks bad is some) judged = absurd (subst (λ (z : Answer). IsOfScripts z.status) is judged)

not_mounted_said : (tells : Type 0) (s : Super) (image : Image) (y : Answer) → MountedSays tells s image y → IsOfScripts y.status → ⊥
not_mounted_said tells s image y (redoes count is all) judged = absurd (subst (λ (z : Answer). IsOfScripts z.status) is judged)
not_mounted_said tells s image y (is_foreign label is it) judged = absurd (subst (λ (z : Answer). IsOfScripts z.status) is judged)
not_mounted_said tells s image y (is_bad address rule is it) judged = absurd (subst (λ (z : Answer). IsOfScripts z.status) is judged)
not_mounted_said tells s image y (breaks_maps bad is it) judged = absurd (subst (λ (z : Answer). IsOfScripts z.status) is judged)

not_ready_said : (tells : Type 0) (p : Planned) (s : Super) (image : Image) (y : Answer) → ReadySays tells p s image y → IsOfScripts y.status → ⊥
not_ready_said tells p s image y (begins start on rest said is) judged = not_clean_said tells p start.super start.image rest said (subst (λ (z : Answer). IsOfScripts z.status) is judged)
not_ready_said tells p s image y (not_redone mounted status kind is said) judged = not_mounted_said tells s image y said judged

not_lines : (ready : Bool) (state : ℕ) (says : Answer → Type 0) (y : Answer) → (says y → IsOfScripts y.status → ⊥) → AfterState ready state says y → IsOfScripts y.status → ⊥
not_lines true state says y none said judged = none said judged
not_lines false state says y none said judged = absurd (subst (λ (z : Answer). IsOfScripts z.status) said judged)

not_rules : (o : Option BadSuper) (says : Answer → Type 0) (y : Answer) → (says y → IsOfScripts y.status → ⊥) → AfterRules o says y → IsOfScripts y.status → ⊥
not_rules None says y none said judged = none said judged
not_rules (Some bad) says y none said judged = absurd (subst (λ (z : Answer). IsOfScripts z.status) said judged)

not_of_scripts : (tells : Type 0) (p : Planned) (held : Held) (y : Answer) → AfterSuperblock held (LinesSay tells p held.image) y → IsOfScripts y.status → ⊥
not_of_scripts tells p held y said judged =
    let s = superblock_of held in
    not_rules (first_broken (rows s held.pages)) (LinesSay tells p held.image s) y
    (not_lines (is_ready s.state.0) s.state.0 (ReadySays tells p s held.image) y (not_ready_said tells p s held.image y)) said judged

one_taken : (tells : Type 0) (p : Planned) (a b : Held) (x y : Answer) → LooksSame (LooksAtReady a) a b → tells ⊎ IsOfScripts y.status
    → AfterSuperblock b (LinesSay tells p b.image) x → AfterSuperblock b (LinesSay tells p b.image) y → x.status ≡ y.status
one_taken tells p a b x y same (inl told) said also =
    one_after b (LinesSay tells p b.image) x y
    (λ accepted u v. one_lines tells p (superblock_of b) b.image x y told (long (superblock_of b) b.pages accepted) u v) said also
one_taken tells p a b x y same (inr judged) said also = absurd (not_of_scripts tells p b y also judged)

pub one_run : (tells : Type 0) (order : Order) (one : IsOrder order) (a b : Held) (x y : Answer) → LooksSame (LooksAtRun order a) a b → tells ⊎ IsOfScripts y.status → RunSays tells order b x → RunSays tells order b y → x.status ≡ y.status
one_run tells order one a b x y same judged (refuses u bad is) (refuses v bad' is') = status_is x y (is ∙ ap refused (one_refusal order one u v bad bad') ∙ sym is')
one_run tells order one a b x y same judged (refuses u bad is) (takes p good said) = absurd (never order one u p bad good)
one_run tells order one a b x y same judged (takes p good said) (refuses u bad is) = absurd (never order one u p bad good)
one_run tells order one a b x y same judged (takes p good said) (takes q good' said') =
    let is : q ≡ p = ok_of q p (one.one (Ok q) (Ok p) good' good) in
    one_taken tells p a b x y (taken_look order a b p good same) judged said (subst (λ (r : Planned). AfterSuperblock b (LinesSay tells r b.image) y) is said')

pub one_thing : RunSaysOneThing
one_thing scripts held a b said also = one_run ⊤ (by_scripts scripts) (order_is (by_scripts scripts)) held held a b (record { pages = refl; each = λ n _. refl }) (inl tt) said also
