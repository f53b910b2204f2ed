-- A line of a script: `lazy` perhaps, the name of a call, and its arguments.
use Rattle.std.specs.Prelude.{◌≡◌, ℕ, Bool, true, false, if◌then◌else◌, List, [], ◌∷◌, codes, Option, Some, None, Result, Ok, Err}
use Rattle.std.specs.Str.{bytes_eq}
use Rattle.jfs_bits.specs.declared.rule.Rule.{Rule}
use Rattle.jfs_bits.specs.declared.rule.Rule.TheVariants as rules
use Rattle.jfs_plain.specs.declared.call.Call.{Call}
use Rattle.jfs_plain.specs.declared.call.Call.TheVariants as calls
use Rattle.jfs_plain.specs.declared.call.Request.{Request}
use Rattle.jfs_script.specs.declared.verb.Verb.{Verb}
use Rattle.jfs_script.specs.declared.verb.Verb.TheVariants as verbs
use Rattle.jfs_script.specs.Lines.{is_skipped, is_text, words_of}
use Rattle.jfs_script.specs.Words.{Then, PathAlone, PathAndMode, TwoPaths, PathAndTarget, PathAndSize, PathAndBytes, PathAndRange, PathAndFill}

-- the names of calls
unfoldable pub verb_of : List ℕ → Option Verb
verb_of word =
    if bytes_eq word (codes "mkdir") then Some verbs.Mkdir else
    if bytes_eq word (codes "create") then Some verbs.Create else
    if bytes_eq word (codes "symlink") then Some verbs.Symlink else
    if bytes_eq word (codes "link") then Some verbs.Link else
    if bytes_eq word (codes "unlink") then Some verbs.Unlink else
    if bytes_eq word (codes "rmdir") then Some verbs.Rmdir else
    if bytes_eq word (codes "rename") then Some verbs.Rename else
    if bytes_eq word (codes "chmod") then Some verbs.Chmod else
    if bytes_eq word (codes "write") then Some verbs.Write else
    if bytes_eq word (codes "fill") then Some verbs.Fill else
    if bytes_eq word (codes "truncate") then Some verbs.Truncate else
    if bytes_eq word (codes "read") then Some verbs.Read else
    if bytes_eq word (codes "stat") then Some verbs.Stat else
    if bytes_eq word (codes "list") then Some verbs.List else
    if bytes_eq word (codes "readlink") then Some verbs.Readlink else
    if bytes_eq word (codes "sync") then Some verbs.Sync else None

-- whether the call may change the tree, so that a caller may be lazy about it
abbrev pub may_be_lazy : Verb → Bool
may_be_lazy verbs.Read = false
may_be_lazy verbs.Stat = false
may_be_lazy verbs.List = false
may_be_lazy verbs.Readlink = false
may_be_lazy verbs.Sync = false
may_be_lazy _ = true

abbrev pub Makes : {A C : Type 0} → (A → C) → (Result A Rule → Type 0) → Result C Rule → Type 0
Makes make means = Then means (λ a r. r ≡ Ok (make a))

abbrev pub NoWords : List (List ℕ) → Result (Unit {0}) Rule → Type 0
NoWords [] r = r ≡ Ok tt
NoWords (word ∷ words) r = r ≡ Err rules.Count

-- the call that a name and its arguments mean, or the first rule from the left that they break
abbrev pub CallIs : Verb → List (List ℕ) → Result Call Rule → Type 0
CallIs verbs.Mkdir words = Makes (λ a. calls.Mkdir a.0 a.1) (PathAndMode words)
CallIs verbs.Create words = Makes (λ a. calls.Create a.0 a.1) (PathAndMode words)
CallIs verbs.Symlink words = Makes (λ a. calls.Symlink a.0 a.1) (PathAndTarget words)
CallIs verbs.Link words = Makes (λ a. calls.Link a.0 a.1) (TwoPaths words)
CallIs verbs.Unlink words = Makes (λ a. calls.Unlink a) (PathAlone words)
CallIs verbs.Rmdir words = Makes (λ a. calls.Rmdir a) (PathAlone words)
CallIs verbs.Rename words = Makes (λ a. calls.Rename a.0 a.1) (TwoPaths words)
CallIs verbs.Chmod words = Makes (λ a. calls.Chmod a.0 a.1) (PathAndMode words)
CallIs verbs.Write words = Makes (λ a. calls.Write a.0 a.1 a.2) (PathAndBytes words)
CallIs verbs.Fill words = Makes (λ a. calls.Fill a.0 a.1 a.2 a.3) (PathAndFill 65536 words)
CallIs verbs.Truncate words = Makes (λ a. calls.Truncate a.0 a.1) (PathAndSize words)
CallIs verbs.Read words = Makes (λ a. calls.Read a.0 a.1 a.2) (PathAndRange 4096 words)
CallIs verbs.Stat words = Makes (λ a. calls.Stat a) (PathAlone words)
CallIs verbs.List words = Makes (λ a. calls.List a) (PathAlone words)
CallIs verbs.Readlink words = Makes (λ a. calls.Readlink a) (PathAlone words)
CallIs verbs.Sync words = Makes (λ a. calls.Sync) (NoWords words)

-- a call, if a caller may ask for it so
abbrev pub FittingCallIs : Bool → Verb → List (List ℕ) → Result Call Rule → Type 0
FittingCallIs true verb words r = CallIs verb words r
FittingCallIs false verb words r = r ≡ Err rules.Lazy

abbrev pub NamedCallIs : (Verb → Bool) → Option Verb → List (List ℕ) → Result Call Rule → Type 0
NamedCallIs fits None words r = r ≡ Err rules.Word
NamedCallIs fits (Some verb) words r = FittingCallIs (fits verb) verb words r

-- after `lazy` stands a call that may change the tree
abbrev pub LazyCallIs : List (List ℕ) → Result Call Rule → Type 0
LazyCallIs [] r = r ≡ Err rules.Count
LazyCallIs (word ∷ words) r = NamedCallIs may_be_lazy (verb_of word) words r

abbrev pub PlainCallIs : List ℕ → List (List ℕ) → Result Call Rule → Type 0
PlainCallIs word words r = NamedCallIs (λ _. true) (verb_of word) words r

-- a call, perhaps after `lazy`
abbrev pub CallAfter : Bool → List ℕ → List (List ℕ) → Result Request Rule → Type 0
CallAfter true word words r = Makes (λ call. record { call = call; lazy = true }) (LazyCallIs words) r
CallAfter false word words r = Makes (λ call. record { call = call; lazy = false }) (PlainCallIs word words) r

abbrev pub RequestIs : List (List ℕ) → Result Request Rule → Type 0
RequestIs [] r = r ≡ Err rules.Count
RequestIs (word ∷ words) r = CallAfter (bytes_eq word (codes "lazy")) word words r

abbrev pub TextIs : Bool → List ℕ → Result (Option Request) Rule → Type 0
TextIs true line r = Makes (λ q. Some q) (RequestIs (words_of line)) r
TextIs false line r = r ≡ Err rules.Text

abbrev pub UnlessSkipped : Bool → List ℕ → Result (Option Request) Rule → Type 0
UnlessSkipped true line r = r ≡ Ok None
UnlessSkipped false line r = TextIs (is_text line) line r

-- what a line asks for, if it isn't skipped
abbrev pub LineIs : List ℕ → Result (Option Request) Rule → Type 0
LineIs line r = UnlessSkipped (is_skipped line) line r
