-- How text at the end of bytes is cut into its data and its descriptor.
use Rattle.std.proofs.Common.{◌≡◌, ◌≤◌, ◌+◌, ◌-◌, ℕ, true, false, List, ◌++◌, length, take, drop, Option, Some, None, Result, Ok, Err, sym, ap, subst, ◌∙◌, append_assoc, arith}
use Rattle.std.specs.Prelude.{nat_lt, IfOk}
use Rattle.std.proofs.lemmas.List.{take_at, drop_at, take-append-drop, length-append}
use Rattle.std.proofs.lemmas.Bool.Decides.{nat_tests}
use Rattle.jfs_bits.specs.declared.rule.Rule.{Rule}
use Rattle.jfs_bits.specs.Broken.{IsFirstBroken}
use Rattle.jfs_bits.proofs.Broken.{same_broken}
use Rattle.jfs_logfmt.specs.declared.descriptor.Descriptor.{Descriptor}
use Rattle.jfs_logfmt.specs.declared.kind.RecordType.{RecordType}
use Rattle.jfs_logfmt.specs.declared.log_record.Record.{Record}
use Rattle.jfs_logfmt.specs.declared.log_record.RecordError.{RecordError}
use Rattle.jfs_logfmt.specs.declared.log_record.RecordError.TheVariants as errors
use Rattle.jfs_logfmt.specs.Kinds.{type_of}
use Rattle.jfs_logfmt.specs.Descriptor.{descriptor_of}
use Rattle.jfs_logfmt.specs.Text.{Says, Spells}
use Rattle.jfs_logfmt.specs.Rules.{Keeps, record_rules, IsFirstOf, FirstBroken, tail_of, body_of, type_before, has_length, is_long, IsRecordOf, IfBad, IsRead}
use Rattle.jfs_logfmt.proofs.Once.{said_once}
use Rattle.jfs_logfmt.proofs.Kept.{none_broken, long_for, typed, type_for, type_of-number}

-- the type that is read is the one that the bytes end with
type_before-known : (bytes : List ℕ) (of : RecordType) → 36 ≤ length bytes → type_of (descriptor_of (tail_of bytes)).number ≡ Some of → type_before bytes ≡ Some of
type_before-known bytes of h e = let no : nat_lt (length bytes) 36 ≡ false = grind (arith, nat_tests) in rw no e

-- a rule that a reader of this type found broken
pub first_found : (blocks : ℕ) (bytes front tail body : List ℕ) (of : RecordType) (d : Descriptor) (long : ℕ) (e : RecordError) → 36 ≤ length bytes → front ≡ take (length bytes - 36) bytes → tail ≡ drop (length bytes - 36) bytes → length front ≡ length bytes - 36 → d ≡ descriptor_of tail → type_of d.number ≡ Some of → long ≡ d.length → long ≤ length front → is_long of d ≡ true → body ≡ drop (length front - long) front → ((left : ℕ) → has_length of left d ≡ true → IfBad {X = Record} (Err e) (IsFirstBroken (Keeps of blocks left d body) record_rules)) → IfBad {X = Record × ℕ} (Err e) (FirstBroken blocks bytes)
first_found blocks bytes front tail body of d long errors.Memory h ef et size ed t el fits is_long eb f = tt
first_found blocks bytes front tail body of d long (errors.Bad b) h ef et size ed t el fits is_long eb f =
    let left = length bytes - 36 in
    let d_is : d ≡ descriptor_of (tail_of bytes) = ed ∙ ap (λ (l : List ℕ). descriptor_of l) et in
    let start : length front - long ≡ left - (descriptor_of (tail_of bytes)).length = omega (arith, size, el, ap (λ (x : Descriptor). x.length) d_is) in
    let body_is : body ≡ body_of bytes = eb ∙ ap (λ (n : ℕ). drop n front) start ∙ ap (λ (l : List ℕ). drop (left - (descriptor_of (tail_of bytes)).length) l) ef in
    let first = f left (long_for of left d (omega (arith, el, fits, size)) is_long) in
    let P : Descriptor → Type 0 = λ x. IsFirstBroken (Keeps of blocks left x body) record_rules b.rule in
    let Q : List ℕ → Type 0 = λ x. IsFirstBroken (Keeps of blocks left (descriptor_of (tail_of bytes)) x) record_rules b.rule in
    let R : Option RecordType → Type 0 = λ o. IsFirstOf o blocks bytes b.rule in
    let type_is = sym (ap (λ (x : Descriptor). type_of x.number) d_is) ∙ t in
    subst R (sym (type_before-known bytes of h type_is)) (subst Q body_is (subst P d_is first))

-- text at the end of bytes
record Cut (bytes front : List ℕ) (r : Record) : Type 0 where
  says : Says (descriptor_of (tail_of bytes)) (body_of bytes) r
  long : (descriptor_of (tail_of bytes)).length ≡ length (body_of bytes)
  start : length front + (descriptor_of (tail_of bytes)).length + 36 ≡ length bytes

cut : (bytes front text : List ℕ) (r : Record) → bytes ≡ front ++ text → Spells text r → Cut bytes front r
cut bytes front text r e s =
    let whole : bytes ≡ (front ++ s.body) ++ s.tail = e ∙ ap (λ (l : List ℕ). front ++ l) s.parts ∙ sym (append_assoc front s.body s.tail) in
    let sizes : length bytes ≡ length front + length s.body + 36 = omega (arith, ap length whole, length-append (front ++ s.body) s.tail, length-append front s.body, s.size) in
    let left : length (front ++ s.body) ≡ length bytes - 36 = omega (arith, length-append front s.body, sizes) in
    let tail_is : s.tail ≡ tail_of bytes = sym (ap (λ (l : List ℕ). drop (length bytes - 36) l) whole ∙ drop_at (front ++ s.body) s.tail (length bytes - 36) left) in
    let long : (descriptor_of (tail_of bytes)).length ≡ length s.body = ap (λ (l : List ℕ). (descriptor_of l).length) (sym tail_is) ∙ s.long in
    let start : length front ≡ length bytes - 36 - (descriptor_of (tail_of bytes)).length = omega (arith, sizes, long) in
    let body_is : s.body ≡ body_of bytes = sym (
    ap (λ (l : List ℕ). drop (length bytes - 36 - (descriptor_of (tail_of bytes)).length) l) (ap (λ (l : List ℕ). take (length bytes - 36) l) whole ∙ take_at (front ++ s.body) s.tail (length bytes - 36) left)
    ∙ drop_at front s.body (length bytes - 36 - (descriptor_of (tail_of bytes)).length) start) in
    record {
      says = (let P : List ℕ → Type 0 = λ l. Says (descriptor_of (tail_of bytes)) l r in let Q : List ℕ → Type 0 = λ l. Says (descriptor_of l) s.body r in subst P body_is (subst Q tail_is s.says));
      long = long ∙ ap (λ (l : List ℕ). length l) body_is;
      start = omega (arith, sizes, long);
    }

-- a record of the volume at the end of bytes breaks no rule, whatever stands before it
pub none_is_broken : (blocks : ℕ) (bytes front text : List ℕ) (r : Record) → bytes ≡ front ++ text → Spells text r → IsRecordOf blocks r → (rule : Rule) → FirstBroken blocks bytes rule → ⊥
none_is_broken blocks bytes front text r e spells sound rule broken =
    let c = cut bytes front text r e spells in
    let d = descriptor_of (tail_of bytes) in
    let t : type_of d.number ≡ Some (type_for r) = ap (λ (n : ℕ). type_of n) (typed d (body_of bytes) r c.says) ∙ type_of-number (type_for r) in
    let known = type_before-known bytes (type_for r) (omega (arith, c.start)) t in
    let R : Option RecordType → Type 0 = λ o. IsFirstOf o blocks bytes rule in
    none_broken (type_for r) blocks (length bytes - 36) d (body_of bytes) r t c.says sound c.long (omega (arith, c.start)) rule (subst R known broken)

pub keeps_all : (blocks : ℕ) (bytes : List ℕ) (result : Result (Record × ℕ) RecordError) → IfOk result (λ x. Spells (drop x.1 bytes) x.0 × IsRecordOf blocks x.0) → IfOk result (λ _. (rule : Rule) → FirstBroken blocks bytes rule → ⊥)
keeps_all blocks bytes (Ok x) found = none_is_broken blocks bytes (take x.1 bytes) (drop x.1 bytes) x.0 (sym (take-append-drop x.1 bytes)) found.0 found.1
keeps_all blocks bytes (Err e) found = tt

-- and is what is read
pub reads_it : (blocks : ℕ) (bytes : List ℕ) (result : Result (Record × ℕ) RecordError) → IfOk result (λ x. x.1 + (descriptor_of (tail_of bytes)).length + 36 ≡ length bytes) → IfOk result (λ x. Spells (drop x.1 bytes) x.0 × IsRecordOf blocks x.0) → IfBad result (FirstBroken blocks bytes) → (front text : List ℕ) (r : Record) → bytes ≡ front ++ text → Spells text r → IsRecordOf blocks r → IsRead result (λ x. (x.0 ≡ r) × (x.1 ≡ length front))
reads_it blocks bytes (Ok x) start found broken front text r e spells sound =
    let c = cut bytes front text r e spells in
    let own = cut bytes (take x.1 bytes) (drop x.1 bytes) x.0 (sym (take-append-drop x.1 bytes)) found.0 in
    (said_once (descriptor_of (tail_of bytes)) (body_of bytes) x.0 r own.says c.says, omega (arith, start, c.start))
reads_it blocks bytes (Err errors.Memory) start found broken front text r e spells sound = tt
reads_it blocks bytes (Err (errors.Bad b)) start found broken front text r e spells sound =
    absurd (none_is_broken blocks bytes front text r e spells sound b.rule broken)

-- bytes end with one record at most, and break one rule first
pub one_at_end : (bytes front text : List ℕ) (r : Record) (other_front other_text : List ℕ) (s : Record) → bytes ≡ front ++ text → Spells text r → bytes ≡ other_front ++ other_text → Spells other_text s → (r ≡ s) × (length front ≡ length other_front)
one_at_end bytes front text r other_front other_text s e spells f others =
    let c = cut bytes front text r e spells in
    let d = cut bytes other_front other_text s f others in
    (said_once (descriptor_of (tail_of bytes)) (body_of bytes) r s c.says d.says, omega (arith, c.start, d.start))

pub one_broken : (blocks : ℕ) (bytes : List ℕ) (one other : Rule) → FirstBroken blocks bytes one → FirstBroken blocks bytes other → one ≡ other
one_broken blocks bytes one other first second = by (type_before bytes) first second
  where
    by : (of : Option RecordType) → IsFirstOf of blocks bytes one → IsFirstOf of blocks bytes other → one ≡ other
    by None a b = a ∙ sym b
    by (Some of) a b = same_broken (Keeps of blocks (length bytes - 36) (descriptor_of (tail_of bytes)) (body_of bytes)) record_rules one other a b
