-- What the parts of a reading answer, as the whole reading's answer.
use Rattle.std.proofs.Common.{◌≡◌, ◌-◌, ℕ, Bool, true, false, IsTrue, not, if◌then◌else◌, Result, Ok, Err, List, refl, sym, ap, subst, ◌∙◌, inl, inr}
use Rattle.jfs_bits.specs.declared.rule.Rule.{Rule}
use Rattle.std.specs.Bool.{⊤, Decides}
use Rattle.jfs_disk.specs.Image.{Image, page_of}
use Rattle.jfs_logfmt.specs.declared.log_super.LogSuper.{LogSuper}
use Rattle.jfs_logfmt.specs.declared.log_record.BadRecord.{BadRecord}
use Rattle.jfs_logfmt.specs.Super.{is_log_super, log_super_of}
use Rattle.jfs_logpages.specs.Fresh.{own_label}
use Rattle.jfs_logpages.specs.Ring.{Reads}
use Rattle.jfs_logpages.specs.Back.{BreaksAt}
use Rattle.jfs_logpages.specs.Outcome.{IsBadLog, IsBadLogOrFault, TellsNothing}
use Rattle.jfs_logpages.specs.ReadLog.{HasSuper, label_of, IsNotOwn, BreaksRing, IsReadLog}
use Rattle.jfs_logpages.specs.declared.error.RingError.{RingError}
use Rattle.jfs_logpages.specs.declared.error.RingError.TheVariants as errors

pub not-own : (pages : ℕ) (log : Image) (error : RingError) → TellsNothing error → IsNotOwn pages log error
not-own pages log errors.Memory is = is
not-own pages log (errors.Read fault) is = is
not-own pages log (errors.BadLog address rule) is = absurd is
not-own pages log (errors.ForeignLog label) is = absurd is

pub no-text : (P : ℕ → Rule → Type 0) (error : RingError) → TellsNothing error → IsBadLogOrFault P error
no-text P errors.Memory is = is
no-text P (errors.Read fault) is = is
no-text P (errors.BadLog address rule) is = absurd is
no-text P (errors.ForeignLog label) is = absurd is

pub bad-ring : (pages blocks : ℕ) (log : Image) (error : RingError) → HasSuper pages log → label_of log ≡ own_label → IsBadLogOrFault (BreaksRing (pages - 2) log) error → IsReadLog pages blocks log (Err error)
bad-ring pages blocks log (errors.BadLog address rule) known own is = inr (known, own, inl is)
bad-ring pages blocks log errors.Memory known own is = is
bad-ring pages blocks log (errors.Read fault) known own is = is
bad-ring pages blocks log (errors.ForeignLog label) known own is = absurd is

pub bad-text : (pages blocks first : ℕ) (text : List ℕ) (log : Image) (error : RingError) → HasSuper pages log → label_of log ≡ own_label → Reads (pages - 2) log first text
    → IsBadLog (BreaksAt (pages - 2) first blocks text) error → IsReadLog pages blocks log (Err error)
bad-text pages blocks first text log (errors.BadLog address rule) known own reads is = inr (known, own, inr (first, text, reads, is))
bad-text pages blocks first text log errors.Memory known own reads is = is
bad-text pages blocks first text log (errors.Read fault) known own reads is = absurd is
bad-text pages blocks first text log (errors.ForeignLog label) known own reads is = absurd is

value : LogSuper → Result LogSuper BadRecord → LogSuper
value other (Ok s) = s
value other (Err bad) = other

IsValue : Result LogSuper BadRecord → Type 0
IsValue (Ok s) = ⊤
IsValue (Err bad) = ⊥

-- a superblock that was read
pub known-super : (page : List ℕ) (s : LogSuper) (bad : BadRecord) (result : Result LogSuper BadRecord) → result ≡ (if is_log_super page then Ok (log_super_of page) else Err bad) → result ≡ Ok s → IsTrue (is_log_super page) × (s ≡ log_super_of page)
unfolding IsValue value
known-super page s bad result e is = by (is_log_super page) refl (sym is ∙ e)
  where
    by : (b : Bool) → is_log_super page ≡ b → Ok s ≡ (if b then Ok (log_super_of page) else Err bad) → IsTrue (is_log_super page) × (s ≡ log_super_of page)
    by true h f = (h, ap (value s) f)
    by false h f = absurd (subst IsValue f tt)

-- a page that was refused
pub not-super : (page : List ℕ) (bad : BadRecord) (result : Result LogSuper BadRecord) (error : BadRecord) → result ≡ (if is_log_super page then Ok (log_super_of page) else Err bad) → result ≡ Err error → IsTrue (is_log_super page) → ⊥
unfolding IsValue
not-super page bad result error e is known = by (is_log_super page) known (sym e ∙ is)
  where
    by : (b : Bool) → b ≡ true → (if b then Ok (log_super_of page) else Err bad) ≡ Err error → ⊥
    by true h f = subst IsValue f tt
    by false h f = absurd cc

pub same-label : (xs ys : List ℕ) (same r : Bool) → Decides same (xs ≡ ys) → r ≡ not same → r ≡ false → xs ≡ ys
same-label xs ys same r decides e none = decides.0 (by same (sym e ∙ none))
  where
    by : (b : Bool) → not b ≡ false → b ≡ true
    by true h = refl
    by false h = sym h

pub other-label : (xs ys : List ℕ) (same r : Bool) → Decides same (xs ≡ ys) → r ≡ not same → r ≡ true → xs ≡ ys → ⊥
other-label xs ys same r decides e some is = by same (decides.1 is) (sym e ∙ some)
  where
    by : (b : Bool) → b ≡ true → not b ≡ true → ⊥
    by true h f = absurd cc
    by false h f = absurd cc

-- a superblock of another size, or of another's label
read-super : (log : Image) (page : List ℕ) (s : LogSuper) → page ≡ page_of log 1 → s ≡ log_super_of page → s ≡ log_super_of (page_of log 1)
read-super log page s e is = is ∙ ap log_super_of e

pub other-size : (pages : ℕ) (log : Image) (page : List ℕ) (s : LogSuper) → page ≡ page_of log 1 → IsTrue (is_log_super page) × (s ≡ log_super_of page) → (s.size ≡ pages → ⊥) → HasSuper pages log → ⊥
other-size pages log page s e known apart has = apart (ap (λ (t : LogSuper). t.size) (read-super log page s e known.1) ∙ has.1)

pub other-super : (pages : ℕ) (log : Image) (page : List ℕ) (s : LogSuper) → page ≡ page_of log 1 → IsTrue (is_log_super page) × (s ≡ log_super_of page) → s.size ≡ pages → (s.label ≡ own_label → ⊥)
    → HasSuper pages log × (s.label ≡ label_of log) × (s.label ≡ own_label → ⊥)
other-super pages log page s e known size apart =
    let same = read-super log page s e known.1 in
    ((subst (λ (p : List ℕ). IsTrue (is_log_super p)) e known.0, sym (ap (λ (t : LogSuper). t.size) same) ∙ size), ap (λ (t : LogSuper). t.label) same, apart)

pub own-super : (pages : ℕ) (log : Image) (page : List ℕ) (s : LogSuper) → page ≡ page_of log 1 → IsTrue (is_log_super page) × (s ≡ log_super_of page) → s.size ≡ pages → s.label ≡ own_label → HasSuper pages log × (label_of log ≡ own_label)
own-super pages log page s e known size label =
    let same : s ≡ log_super_of (page_of log 1) = known.1 ∙ ap log_super_of e in
    ((subst (λ (p : List ℕ). IsTrue (is_log_super p)) e known.0, sym (ap (λ (t : LogSuper). t.size) same) ∙ size), sym (ap (λ (t : LogSuper). t.label) same) ∙ label)
