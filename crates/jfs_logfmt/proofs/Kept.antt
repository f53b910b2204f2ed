-- Text that spells a record of the volume keeps every rule.
use Rattle.std.proofs.Common.{◌≡◌, ◌≤◌, ◌*◌, ◌^◌, ℕ, Bool, true, false, List, length, Option, Some, refl, sym, ap, subst, ◌∙◌, arith}
use Rattle.std.specs.Prelude.{◌==◌, nat_le, is_some}
use Rattle.std.specs.List.{list_all}
use Rattle.std.proofs.lemmas.Bool.Decides.{nat_tests}
use Rattle.jfs_bits.specs.declared.rule.Rule.{Rule}
use Rattle.jfs_bits.specs.Broken.{AllHold, IsFirstBroken}
use Rattle.jfs_bits.specs.declared.rule.PageKind.{PageKind}
use Rattle.jfs_bits.specs.declared.rule.PageKind.TheVariants as kinds
use Rattle.jfs_bits.specs.declared.descriptor.Pxd.{Pxd}
use Rattle.jfs_logfmt.specs.declared.descriptor.Descriptor.{Descriptor}
use Rattle.jfs_logfmt.specs.declared.kind.RecordType.{RecordType}
use Rattle.jfs_logfmt.specs.declared.kind.RecordType.TheVariants as types
use Rattle.jfs_logfmt.specs.declared.kind.PageType.{PageType}
use Rattle.jfs_logfmt.specs.declared.log_record.Record.{Record}
use Rattle.jfs_logfmt.specs.declared.log_record.Record.TheVariants as records
use Rattle.jfs_logfmt.specs.Kinds.{type_number, type_of, page_number, page_type, page_of, page_blocks, map_number, map_of}
use Rattle.jfs_bits.specs.Line.{l2_line}
use Rattle.jfs_logfmt.specs.Text.{Says, SpellsRanges, runs_of}
use Rattle.jfs_bits.proofs.Broken.{none_broken as none_is_first}
use Rattle.jfs_logfmt.specs.Rules.{Keeps, HasRanges, record_rules, IsRecordOf, AreWithin, is_inside, is_page, is_line, is_redone, is_freed, is_long, has_length}

-- the tables both ways
pub type_of-number : (t : RecordType) → type_of (type_number t) ≡ Some t
type_of-number types.Commit = refl
type_of-number types.SyncPt = refl
type_of-number types.RedoPage = refl
type_of-number types.NoRedoPage = refl
type_of-number types.UpdateMap = refl

pub page_of-number : (kind : PageKind) (new_page : Bool) → page_of (page_number (page_type kind new_page)) ≡ Some (page_type kind new_page)
page_of-number kinds.Inode true = refl
page_of-number kinds.Inode false = refl
page_of-number kinds.Xtree true = refl
page_of-number kinds.Xtree false = refl
page_of-number kinds.Dtree true = refl
page_of-number kinds.Dtree false = refl
page_of-number kinds.Index true = refl
page_of-number kinds.Index false = refl

pub map_of-number : (alloc : Bool) → map_of (map_number alloc) ≡ Some alloc
map_of-number true = refl
map_of-number false = refl

the_type : (of t : RecordType) (n : ℕ) → type_of n ≡ Some of → n ≡ type_number t → t ≡ of
the_type of t n e h =
    let k : Some t ≡ Some of = sym (type_of-number t) ∙ sym (ap (λ (m : ℕ). type_of m) h) ∙ e in cc

equal : (a b : ℕ) → a ≡ b → (a == b) ≡ true
equal a b e = grind (arith, nat_tests)

pub long_for : (of : RecordType) (left : ℕ) (d : Descriptor) → d.length ≤ left → is_long of d ≡ true → has_length of left d ≡ true
long_for of left d h k = let first : nat_le d.length left ≡ true = grind (arith, nat_tests) in rw (first, k) refl

-- a record's type
pub type_for : Record → RecordType
type_for (records.Commit tid back) = types.Commit
type_for (records.SyncPt sync) = types.SyncPt
type_for (records.NoRedo tid back fileset inode kind at) = types.NoRedoPage
type_for (records.Redo tid back fileset inode kind new_page at ranges) = types.RedoPage
type_for (records.Update tid back fileset inode alloc list) = types.UpdateMap

kept : (blocks left : ℕ) (d : Descriptor) (body : List ℕ) (r : Record) → Says d body r → IsRecordOf blocks r → d.length ≡ length body → d.length ≤ left → AllHold (Keeps (type_for r) blocks left d body) record_rules
unfolding type_for
kept blocks left d body (records.Commit tid back) s sound e h =
    (long_for types.Commit left d h (equal d.length 0 (e ∙ ap (λ (l : List ℕ). length l) s.1)), (refl, (tt, (refl, (refl, tt)))))
kept blocks left d body (records.SyncPt sync) s sound e h =
    (long_for types.SyncPt left d h (equal d.length 0 (e ∙ ap (λ (l : List ℕ). length l) s.2)), (refl, (tt, (refl, (refl, tt)))))
kept blocks left d body (records.NoRedo tid back fileset inode kind at) s sound e h =
    let page = ap (λ (n : ℕ). page_of n) s.2 ∙ page_of-number kind false in
    let long = long_for types.NoRedoPage left d h (equal d.length 0 (e ∙ ap (λ (l : List ℕ). length l) s.4)) in
    let place = ap (λ (p : Pxd). is_page blocks p) s.3 ∙ sound.0 in
    let used = ap (λ (o : Option PageType). is_freed o d.at.len) page ∙ equal d.at.len 1 (ap (λ (p : Pxd). p.len) s.3 ∙ sound.1) in
    (long, (refl, (tt, (place, (used, tt)))))
kept blocks left d body (records.Redo tid back fileset inode kind new_page at ranges) s sound e h =
    let page = ap (λ (n : ℕ). page_of n) s.2 ∙ page_of-number kind new_page in
    let range : HasRanges types.RedoPage d body = (ranges, (let P : ℕ → Type 0 = λ n. SpellsRanges (2 ^ n) body ranges in subst P (sym s.3) s.5), (let P : ℕ → Pxd → Type 0 = λ n p. AreWithin (2 ^ n) p.len ranges in rw (s.3, s.4) sound.2)) in
    let lines = ap (λ (o : Option PageType). is_line o d.count) page ∙ equal d.count (l2_line kind) s.3 in
    let place = ap (λ (p : Pxd). is_page blocks p) s.4 ∙ sound.0 in
    let used = ap (λ (o : Option PageType). is_redone o d.at.len) page ∙ equal d.at.len (page_blocks (page_type kind new_page)) (ap (λ (p : Pxd). p.len) s.4 ∙ sound.1) in
    (long_for types.RedoPage left d h refl, (lines, (range, (place, (used, tt)))))
kept blocks left d body (records.Update tid back fileset inode alloc list) s sound e h =
    (long_for types.UpdateMap left d h (equal d.length (8 * d.count) (e ∙ s.4 ∙ ap (λ (n : ℕ). 8 * n) (sym s.3))), (refl, (tt, (ap (λ (n : ℕ). list_all (is_inside blocks) (runs_of body 0 n)) s.3 ∙ ap (λ (l : List Pxd). list_all (is_inside blocks) l) s.5 ∙ sound, (ap (λ (n : ℕ). is_some (map_of n)) s.2 ∙ ap (λ (o : Option Bool). is_some o) (map_of-number alloc), tt)))))

pub typed : (d : Descriptor) (body : List ℕ) (r : Record) → Says d body r → d.number ≡ type_number (type_for r)
unfolding type_for
typed d body (records.Commit tid back) s = s.0.0
typed d body (records.SyncPt sync) s = s.0
typed d body (records.NoRedo tid back fileset inode kind at) s = s.0.0
typed d body (records.Redo tid back fileset inode kind new_page at ranges) s = s.0.0
typed d body (records.Update tid back fileset inode alloc list) s = s.0.0

-- so none is the first that is broken
pub none_broken : (of : RecordType) (blocks left : ℕ) (d : Descriptor) (body : List ℕ) (r : Record) → type_of d.number ≡ Some of → Says d body r → IsRecordOf blocks r → d.length ≡ length body → d.length ≤ left → (rule : Rule) → IsFirstBroken (Keeps of blocks left d body) record_rules rule → ⊥
none_broken of blocks left d body r e says sound long h rule f =
    let same = the_type of (type_for r) d.number e (typed d body r says) in
    let all = kept blocks left d body r says sound long h in
    none_is_first (Keeps of blocks left d body) record_rules rule (let P : RecordType → Type 0 = λ t. AllHold (Keeps t blocks left d body) record_rules in subst P same all) f
