-- What the command `redo` says rests on the pages that it looks at, and is one thing.
use Rattle.std.proofs.Common.{◌≡◌, ◌<◌, ◌≤◌, ◌+◌, ◌-◌, ◌*◌, ◌/◌, ℕ, Bool, true, false, List, [], length, drop, map, get_or-drop, Option, Some, None, Ok, Err, sym, ap, subst, ◌∙◌, arith}
use Rattle.std.proofs.Math.Path.{fun_ext}
use Rattle.std.specs.Prelude.{⊤}
use Rattle.jfs_bits.specs.declared.rule.Rule.{Rule}
use Rattle.jfs_disk.specs.Image.{Image, page_of}
use Rattle.jfs_ranges.specs.declared.edit.Edit.{Edit}
use Rattle.jfs_super.specs.declared.fields.Super.{Super}
use Rattle.jfs_super.specs.Rules.{blocks_of, IsAccepted}
use Rattle.jfs_super.proofs.Rules.{accepted_layout}
use Rattle.jfs_logpages.specs.Back.{Met}
use Rattle.jfs_logpages.specs.ReadLog.{IsReadAs, IsNotOwn, BreaksLog}
use Rattle.jfs_logpages.specs.declared.error.RingError.TheVariants as ring
use Rattle.jfs_logpages.proofs.OneAnswer.{has-one, looks, records-once}
use Rattle.jfs_redo.specs.records.specs.Committed.{committed}
use Rattle.jfs_findings_new.specs.mount_rules.specs.Subject.{subject_of}
use Rattle.jfs_findings_new.specs.mount_rules.specs.Mount.{BadMount, broken_maps}
use Rattle.jfs_command.specs.declared.status.Status.TheVariants.{BadImage}
use Rattle.jfs_command.specs.Meaning.{Answer, finished, refused}
use Rattle.jfs_command.specs.Superblock.{AfterState}
use Rattle.jfs_command.specs.Redo.{redone_text, is_clean, is_mounted, Commits, MountedSays, redoes, is_foreign, is_bad, breaks_maps, UnlessClean, RedoSays, RedoSaysOneThing}
use Rattle.jfs_command.proofs.SuperblockLemmas.{next_after}
use Rattle.jfs_command.proofs.LogShown.{one_refusal, one_list}

pub long : (s : Super) (pages : ℕ) → IsAccepted s pages → 2 < s.logpxd.len
long s pages accepted = let layout = accepted_layout s pages accepted in let shortest = layout.shortest in omega (arith, shortest)

-- ---- pages that are the same say the same

page_behind : (image : Image) (at n : ℕ) → page_of (drop at image) n ≡ page_of image (at + n)
page_behind image at n = get_or-drop at image n []

module _ (s : Super) (a b : Image) (some : 2 < s.logpxd.len) (same : (n : ℕ) → page_of b n ≡ page_of a n) where
  same_log : (n : ℕ) → 0 < n → n < s.logpxd.len → page_of (drop s.logpxd.addr b) n ≡ page_of (drop s.logpxd.addr a) n
  same_log n _ _ = page_behind b s.logpxd.addr n ∙ same (s.logpxd.addr + n) ∙ sym (page_behind a s.logpxd.addr n)

  pub same_commits : (txs : List (List Edit)) → Commits s a txs → Commits s b txs
  same_commits txs are =
      let ring = s.logpxd.len - 2 in
      let text = are.read.bytes.items in
      let moved : IsReadAs s.logpxd.len (blocks_of s) (drop s.logpxd.addr b) are.read = looks s.logpxd.len (blocks_of s) (drop s.logpxd.addr a) (drop s.logpxd.addr b) some same_log (Ok are.read) are.reads in
      let half : length text ≤ 4080 * (ring / 2) = subst (λ (n : ℕ). length text ≤ 4080 * (n / 2)) are.reads.ring are.read.half in
      let records = one_list ring are.read.first (blocks_of s) text are.reads.m moved.m are.reads.ms moved.ms (omega (arith, some)) half are.reads.records moved.records in
      record { read = are.read; reads = moved; are = are.are ∙ ap (λ (all : List Met). committed (map (λ (m : Met). m.is) all)) records }

  same_maps : (o : Option BadMount) → broken_maps (subject_of s (page_of a)) ≡ o → broken_maps (subject_of s (page_of b)) ≡ o
  same_maps o is = ap (λ (page : ℕ → List ℕ). broken_maps (subject_of s page)) (fun_ext same) ∙ is

pub mounted_same : (tells : Type 0) (s : Super) (a b : Image) (answer : Answer) → 2 < s.logpxd.len → (tells → (n : ℕ) → page_of b n ≡ page_of a n) → MountedSays tells s a answer → MountedSays tells s b answer
mounted_same tells s a b answer some same (redoes count e all) =
    redoes count e (λ told. let it = all told in (it.0, same_commits s a b some (same told) it.0 it.1, it.2, same_maps s a b some (same told) None it.3))
mounted_same tells s a b answer some same (is_foreign label e is) =
    is_foreign label e (λ told. looks s.logpxd.len (blocks_of s) (drop s.logpxd.addr a) (drop s.logpxd.addr b) some (same_log s a b some (same told)) (Err (ring.ForeignLog label)) (is told))
mounted_same tells s a b answer some same (is_bad address rule e is) =
    is_bad address rule e (λ told. looks s.logpxd.len (blocks_of s) (drop s.logpxd.addr a) (drop s.logpxd.addr b) some (same_log s a b some (same told)) (Err (ring.BadLog address rule)) (is told))
mounted_same tells s a b answer some same (breaks_maps bad e is) =
    breaks_maps bad e (λ told. let it = is told in ((it.0.0, same_commits s a b some (same told) it.0.0 it.0.1), same_maps s a b some (same told) (Some bad) it.1))

unless_clean : (clean : Bool) (says said : Answer → Type 0) (answer : Answer) → (says answer → said answer) → UnlessClean clean says answer → UnlessClean clean said answer
unless_clean true says said answer next it = it
unless_clean false says said answer next it = next it

-- what is said of one image is said of another with the same pages
pub same_says : (tells : Type 0) (a b : Image) (s : Super) (answer : Answer) → 2 < s.logpxd.len → (tells → is_mounted s.state.0 ≡ true → (n : ℕ) → page_of b n ≡ page_of a n) → RedoSays tells a s answer → RedoSays tells b s answer
same_says tells a b s answer some same said =
    let after_a = AfterState (is_mounted s.state.0) s.state.0 (MountedSays tells s a) in
    let after_b = AfterState (is_mounted s.state.0) s.state.0 (MountedSays tells s b) in
    unless_clean (is_clean s.state.0) after_a after_b answer
    (λ it. next_after (is_mounted s.state.0) s.state.0 (MountedSays tells s a) (MountedSays tells s b) answer (λ mounted x. mounted_same tells s a b answer some (λ told. same told mounted) x) it) said

-- ---- one answer, text and all

module _ (s : Super) (image : Image) (some : 2 < s.logpxd.len) where
  abbrev log : Image
  log = drop s.logpxd.addr image

  pub once : (x y : List (List Edit)) → Commits s image x → Commits s image y → x ≡ y
  once x y one other =
      one.are ∙ ap (λ (all : List Met). committed (map (λ (m : Met). m.is) all)) (records-once s.logpxd.len (blocks_of s) log one.read other.read some one.reads other.reads) ∙ sym other.are

  not_foreign : (txs : List (List Edit)) (label : List ℕ) → Commits s image txs → IsNotOwn s.logpxd.len log (ring.ForeignLog label) → ⊥
  not_foreign txs label one is = has-one s.logpxd.len (blocks_of s) log some (Ok one.read) (Err (ring.ForeignLog label)) one.reads is

  not_bad : (txs : List (List Edit)) (address : ℕ) (rule : Rule) → Commits s image txs → BreaksLog s.logpxd.len (blocks_of s) log address rule → ⊥
  not_bad txs address rule one is = has-one s.logpxd.len (blocks_of s) log some (Ok one.read) (Err (ring.BadLog address rule)) one.reads is

  unbroken : (bad : BadMount) (o : Option BadMount) → o ≡ None → o ≡ Some bad → ⊥
  unbroken bad o is_none is_some = let e = sym is_none ∙ is_some in absurd cc

  one_bad : (x y : BadMount) (o : Option BadMount) → o ≡ Some x → o ≡ Some y → x ≡ y
  one_bad x y o is_x is_y = let e = sym is_x ∙ is_y in cc

  pub one_mounted : (x y : Answer) → MountedSays ⊤ s image x → MountedSays ⊤ s image y → x ≡ y
  one_mounted x y (redoes count e all) (redoes count' e' all') =
      let it = all tt in let other = all' tt in
      e ∙ ap (λ (n : ℕ). finished (redone_text n)) (it.2 ∙ ap (λ (txs : List (List Edit)). length txs) (once it.0 other.0 it.1 other.1) ∙ sym other.2) ∙ sym e'
  one_mounted x y (redoes count e all) (is_foreign label e' is) = absurd (not_foreign (all tt).0 label (all tt).1 (is tt))
  one_mounted x y (redoes count e all) (is_bad address rule e' is) = absurd (not_bad (all tt).0 address rule (all tt).1 (is tt))
  one_mounted x y (redoes count e all) (breaks_maps bad e' is) = absurd (unbroken bad (broken_maps (subject_of s (page_of image))) (all tt).3 (is tt).1)
  one_mounted x y (is_foreign label e is) (redoes count e' all) = absurd (not_foreign (all tt).0 label (all tt).1 (is tt))
  one_mounted x y (is_foreign label e is) (is_foreign label' e' is') =
      e ∙ one_refusal s.logpxd.len (blocks_of s) log (ring.ForeignLog label) (ring.ForeignLog label') some (λ n. n) (λ n. n) (is tt) (is' tt) ∙ sym e'
  one_mounted x y (is_foreign label e is) (is_bad address rule e' is') =
      e ∙ one_refusal s.logpxd.len (blocks_of s) log (ring.ForeignLog label) (ring.BadLog address rule) some (λ n. n) (λ n. n) (is tt) (is' tt) ∙ sym e'
  one_mounted x y (is_foreign label e is) (breaks_maps bad e' is') = absurd (not_foreign (is' tt).0.0 label (is' tt).0.1 (is tt))
  one_mounted x y (is_bad address rule e is) (redoes count e' all) = absurd (not_bad (all tt).0 address rule (all tt).1 (is tt))
  one_mounted x y (is_bad address rule e is) (is_foreign label e' is') =
      e ∙ one_refusal s.logpxd.len (blocks_of s) log (ring.BadLog address rule) (ring.ForeignLog label) some (λ n. n) (λ n. n) (is tt) (is' tt) ∙ sym e'
  one_mounted x y (is_bad address rule e is) (is_bad address' rule' e' is') =
      e ∙ one_refusal s.logpxd.len (blocks_of s) log (ring.BadLog address rule) (ring.BadLog address' rule') some (λ n. n) (λ n. n) (is tt) (is' tt) ∙ sym e'
  one_mounted x y (is_bad address rule e is) (breaks_maps bad e' is') = absurd (not_bad (is' tt).0.0 address rule (is' tt).0.1 (is tt))
  one_mounted x y (breaks_maps bad e is) (redoes count e' all) = absurd (unbroken bad (broken_maps (subject_of s (page_of image))) (all tt).3 (is tt).1)
  one_mounted x y (breaks_maps bad e is) (is_foreign label e' is') = absurd (not_foreign (is tt).0.0 label (is tt).0.1 (is' tt))
  one_mounted x y (breaks_maps bad e is) (is_bad address rule e' is') = absurd (not_bad (is tt).0.0 address rule (is tt).0.1 (is' tt))
  one_mounted x y (breaks_maps bad e is) (breaks_maps bad' e' is') =
      e ∙ ap (λ (b : BadMount). refused (BadImage b.page b.rule b.value)) (one_bad bad bad' (broken_maps (subject_of s (page_of image))) (is tt).1 (is' tt).1) ∙ sym e'

  one_state : (mounted : Bool) (x y : Answer) → AfterState mounted s.state.0 (MountedSays ⊤ s image) x → AfterState mounted s.state.0 (MountedSays ⊤ s image) y → x ≡ y
  one_state true x y a b = one_mounted x y a b
  one_state false x y a b = a ∙ sym b

  pub one_said : (clean : Bool) (x y : Answer) → UnlessClean clean (AfterState (is_mounted s.state.0) s.state.0 (MountedSays ⊤ s image)) x → UnlessClean clean (AfterState (is_mounted s.state.0) s.state.0 (MountedSays ⊤ s image)) y → x ≡ y
  one_said true x y a b = a ∙ sym b
  one_said false x y a b = one_state (is_mounted s.state.0) x y a b

pub one_thing : RedoSaysOneThing
one_thing pages s image a b accepted x y = one_said s image (long s pages accepted) (is_clean s.state.0) a b x y

-- ---- of a disk that tells, all is said

pub mounted_told : (tells : Type 0) (s : Super) (image : Image) (answer : Answer) → tells → MountedSays tells s image answer → MountedSays ⊤ s image answer
mounted_told tells s image answer told (redoes count e all) = redoes count e (λ _. all told)
mounted_told tells s image answer told (is_foreign label e is) = is_foreign label e (λ _. is told)
mounted_told tells s image answer told (is_bad address rule e is) = is_bad address rule e (λ _. is told)
mounted_told tells s image answer told (breaks_maps bad e is) = breaks_maps bad e (λ _. is told)

pub says_told : (tells : Type 0) (s : Super) (image : Image) (answer : Answer) → tells → RedoSays tells image s answer → RedoSays ⊤ image s answer
says_told tells s image answer told said =
    let after_a = AfterState (is_mounted s.state.0) s.state.0 (MountedSays tells s image) in
    let after_b = AfterState (is_mounted s.state.0) s.state.0 (MountedSays ⊤ s image) in
    unless_clean (is_clean s.state.0) after_a after_b answer
    (λ it. next_after (is_mounted s.state.0) s.state.0 (MountedSays tells s image) (MountedSays ⊤ s image) answer (λ mounted x. mounted_told tells s image answer told x) it) said
