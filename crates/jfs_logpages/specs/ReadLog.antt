-- What a log reads as, or why it doesn't: its superblock, its label, its ring, and its records from the end backwards, in this order.
use Rattle.std.specs.Prelude.{◌≡◌, ◌⊎◌, ℕ, ◌-◌, ⊤, IsTrue, List, ◌∷◌, map, reverse, Result, Ok, Err}
use Rattle.jfs_bits.specs.declared.rule.Rule.{Rule}
use Rattle.jfs_bits.specs.declared.rule.Rule.TheVariants as rules
use Rattle.jfs_disk.specs.Image.{Image, page_of}
use Rattle.jfs_logfmt.specs.Super.{is_log_super, log_super_of}
use Rattle.jfs_logpages.specs.Fresh.{own_label}
use Rattle.jfs_logpages.specs.Ring.{IsRun, Reads}
use Rattle.jfs_logpages.specs.Back.{Met, FromSync, BreaksAt}
use Rattle.jfs_logpages.specs.declared.ring_text.RingText.{RingText}
use Rattle.jfs_logpages.specs.declared.error.RingError.{RingError}
use Rattle.jfs_logpages.specs.declared.error.RingError.TheVariants as errors

-- the log's superblock: magic, version, and the log's own number of pages
abbrev pub HasSuper : ℕ → Image → Type 0
HasSuper pages log = IsTrue (is_log_super (page_of log 1)) × ((log_super_of (page_of log 1)).size ≡ pages)

abbrev pub label_of : Image → List ℕ
label_of log = (log_super_of (page_of log 1)).label

-- the superblock breaks its rule
abbrev pub BreaksSuper : ℕ → Image → ℕ → Rule → Type 0
BreaksSuper pages log address rule = (rule ≡ rules.Super) × (address ≡ 4096) × (HasSuper pages log → ⊥)

-- another's label, or the superblock breaks its rule
abbrev pub IsNotOwn : ℕ → Image → RingError → Type 0
IsNotOwn pages log (errors.ForeignLog label) = HasSuper pages log × (label ≡ label_of log) × (label ≡ own_label → ⊥)
IsNotOwn pages log (errors.BadLog address rule) = BreaksSuper pages log address rule
IsNotOwn pages log (errors.Read fault) = ⊤
IsNotOwn pages log errors.Memory = ⊤

-- no number ends half a ring
abbrev pub BreaksRing : ℕ → Image → ℕ → Rule → Type 0
BreaksRing ring log address rule = (rule ≡ rules.Ring) × (address ≡ 0) × ((q : ℕ) → IsRun ring log q → ⊥)

-- the ring's text breaks a rule
abbrev pub BreaksText : ℕ → ℕ → Image → ℕ → Rule → Type 0
BreaksText ring blocks log address rule = (first : ℕ) × (text : List ℕ) × Reads ring log first text × BreaksAt ring first blocks text address rule

-- the first rule that a log of so many pages breaks, and where
abbrev pub BreaksLog : ℕ → ℕ → Image → ℕ → Rule → Type 0
BreaksLog pages blocks log address rule =
    BreaksSuper pages log address rule
    ⊎ (HasSuper pages log × (label_of log ≡ own_label) × (BreaksRing (pages - 2) log address rule ⊎ BreaksText (pages - 2) blocks log address rule))

-- the ring's text, and where in it its records end from the place on that the newest SYNCPT gives, the last one first
pub record IsReadAs (pages blocks : ℕ) (log : Image) (read : RingText) : Type 0 where
  pub super_block : HasSuper pages log
  pub label : label_of log ≡ own_label
  pub text : Reads (pages - 2) log read.first read.bytes.items
  pub m : Met
  pub ms : List Met
  pub records : FromSync (pages - 2) read.first blocks read.bytes.items m ms
  pub ends : map (λ x. x.end) (m ∷ ms) ≡ reverse read.ends.items
  pub ring : read.ring ≡ pages - 2

-- what is answered of a log of so many pages on a volume of so many blocks
abbrev pub IsReadLog : ℕ → ℕ → Image → Result RingText RingError → Type 0
IsReadLog pages blocks log (Ok read) = IsReadAs pages blocks log read
IsReadLog pages blocks log (Err (errors.ForeignLog label)) = IsNotOwn pages log (errors.ForeignLog label)
IsReadLog pages blocks log (Err (errors.BadLog address rule)) = BreaksLog pages blocks log address rule
IsReadLog pages blocks log (Err (errors.Read fault)) = ⊤
IsReadLog pages blocks log (Err errors.Memory) = ⊤
