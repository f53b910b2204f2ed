-- The records of entries are read back as they are written.
use Rattle.std.proofs.Common.{◌≡◌, ◌<◌, ◌≤◌, ◌+◌, ◌*◌, ◌^◌, nat_lt, nat_le, ℕ, Bool, true, false, List, [], ◌∷◌, ◌++◌, length, map, if◌then◌else◌, refl, ap, ◌∙◌, arith}
use Rattle.std.specs.List.{AllByRecursion, list_all}
use Rattle.std.proofs.lemmas.List.{length-append, append-nil}
use Rattle.std.proofs.lemmas.List.Folds.{list_all-append}
use Rattle.std.proofs.lemmas.Bool.{and_from, le-leb, lt-ltb}
use Rattle.jfs_bits.specs.declared.descriptor.Pxd.{Pxd}
use Rattle.jfs_bits.specs.declared.list.LineRange.{LineRange}
use Rattle.jfs_bits.specs.declared.rule.PageKind.{PageKind}
use Rattle.jfs_bits.specs.declared.rule.PageKind.TheVariants as kinds
use Rattle.jfs_bits.specs.Line.{line_size}
use Rattle.jfs_bits.specs.Descriptor.{FitsPxd}
use Rattle.jfs_ranges.specs.declared.edit.Edit.{Edit}
use Rattle.jfs_ranges.specs.declared.edit.Edit.TheVariants.{Lines, NoRedo, Alloc, Free}
use Rattle.jfs_logfmt.specs.declared.log_record.Record.{Record}
use Rattle.jfs_logfmt.specs.declared.log_record.Record.TheVariants as records
use Rattle.jfs_logfmt.specs.Kinds.{page_type, page_blocks}
use Rattle.jfs_logfmt.specs.Rules.{is_page, is_inside, is_within}
use Rattle.jfs_logfmt.specs.Written.{FitsRange, body_text, range_text}
use Rattle.jfs_logfmt.proofs.Spelled.{length-runs}
use Rattle.jfs_records.specs.Records.{Noted, record_for, record_of, joins, join, grouped, gathered, records_of}
use Rattle.jfs_logpages.specs.Records.{IsWhole, AreWhole}
use Rattle.jfs_records.specs.declared.note.Note.{Note}
use Rattle.jfs_records.specs.Entries.{stamped}
use Rattle.jfs_records.specs.Limits.{CanLog, IsLoggable}
use Rattle.jfs_records.proofs.Joined.{Alike, pages, maps, alike, small, length-join}

-- ---- the records of edits

all_append : {X : Type 0} (P : X → Type 0) (xs ys : List X) → AllByRecursion P xs → AllByRecursion P ys → AllByRecursion P (xs ++ ys)
all_append P [] ys a b = b
all_append P (x ∷ xs) ys a b = (a.0, all_append P xs ys a.1 b)

whole_alike : (blocks : ℕ) (r s : Record) → Alike r s → length (body_text (join r s)) < 2 ^ 16 → IsWhole blocks r → IsWhole blocks s → IsWhole blocks (join r s)
whole_alike blocks r s (pages tid back tid' back' fileset inode kind new_page at rs rs' one) h g k = record {
  fits = (g.fits.0, all_append (FitsRange (line_size kind)) rs rs' g.fits.1 k.fits.1, h);
  kept = (g.kept.0, g.kept.1, all_append (λ q. is_within (line_size kind) at.len q ≡ true) rs rs' g.kept.2 k.kept.2);
  numbers = g.numbers;
}
whole_alike blocks r s (maps tid back tid' back' fileset inode alloc list list') h g k = record {
  fits = (all_append FitsPxd list list' g.fits.0 k.fits.0, omega (arith, h, length-runs (list ++ list')));
  kept = list_all-append (is_inside blocks) list list' ∙ and_from (list_all (is_inside blocks) list) (list_all (is_inside blocks) list') g.kept k.kept;
  numbers = g.numbers;
}

whole_join : (blocks : ℕ) (r s : Record) → joins r s ≡ true → IsWhole blocks r → IsWhole blocks s → IsWhole blocks (join r s)
whole_join blocks r s h g k = whole_alike blocks r s (alike r s h) (omega (arith, small r s h, length-join r s h)) g k

whole_grouped : (blocks : ℕ) (r : Record) (ss : List Record) → IsWhole blocks r → AreWhole blocks ss → AreWhole blocks (grouped r ss)
whole_grouped blocks r [] g gs = (g, tt)
whole_grouped blocks r (s ∷ ss) g gs = by (joins r s) refl (λ h. whole_grouped blocks (join r s) ss (whole_join blocks r s h g gs.0) gs.1) (whole_grouped blocks s ss gs.0 gs.1)
  where
    by : (b : Bool) → joins r s ≡ b → (joins r s ≡ true → AreWhole blocks (grouped (join r s) ss)) → AreWhole blocks (grouped s ss) → AreWhole blocks (if b then grouped (join r s) ss else r ∷ grouped s ss)
    by true h one two = one h
    by false h one two = (g, two)

blocks_some : (kind : PageKind) (new_page : Bool) → (0 < page_blocks (page_type kind new_page)) × (page_blocks (page_type kind new_page) ≤ 4)
blocks_some kinds.Inode true = (omega arith, omega arith)
blocks_some kinds.Inode false = (omega arith, omega arith)
blocks_some kinds.Xtree true = (omega arith, omega arith)
blocks_some kinds.Xtree false = (omega arith, omega arith)
blocks_some kinds.Dtree true = (omega arith, omega arith)
blocks_some kinds.Dtree false = (omega arith, omega arith)
blocks_some kinds.Index true = (omega arith, omega arith)
blocks_some kinds.Index false = (omega arith, omega arith)

inside : (blocks : ℕ) (at : Pxd) → at.addr < blocks → at.addr + at.len ≤ blocks → is_inside blocks at ≡ true
inside blocks at h k = and_from (nat_lt at.addr blocks) (nat_le (at.addr + at.len) blocks) (lt-ltb at.addr blocks h) (le-leb (at.addr + at.len) blocks k)

placed : (blocks : ℕ) (at : Pxd) → 16 ≤ at.addr → at.addr < blocks → at.addr + at.len ≤ blocks → is_page blocks at ≡ true
placed blocks at l h k = and_from (nat_le 16 at.addr) (is_inside blocks at) (le-leb 16 at.addr l) (inside blocks at h k)

whole_edit : (blocks : ℕ) → blocks ≤ 2 ^ 23 → (note : Note) (edit : Edit) → CanLog blocks note.new_page edit → note.fileset < 2 ^ 32 → note.inode < 2 ^ 32 → IsWhole blocks (record_for note edit)
whole_edit blocks most note (Lines page kind first bytes) c f i =
    let some = blocks_some kind note.new_page in
    let size = length-append bytes in
    record {
      fits = (
        record { len = omega (arith, some.1); addr = omega (arith, c.high, some.0, most) },
        (record { first = c.line; whole = c.whole; bytes = omega (arith, c.within, some.1) }, tt),
        omega (arith, ap (λ (l : List ℕ). length l) (append-nil (range_text (line_size kind) (record { first = first; bytes = bytes }))), length_range (line_size kind) (record { first = first; bytes = bytes }), c.within, some.1),
      );
      kept = (
        placed blocks (record { len = page_blocks (page_type kind note.new_page); addr = page }) c.low (omega (arith, c.high, some.0)) c.high,
        refl,
        (and_from (nat_lt 0 (length bytes)) (nat_le (first * line_size kind + length bytes) (page_blocks (page_type kind note.new_page) * 4096)) (lt-ltb 0 (length bytes) c.some) (le-leb (first * line_size kind + length bytes) (page_blocks (page_type kind note.new_page) * 4096) c.within), tt),
      );
      numbers = (omega arith, omega arith, f, i);
    }
  where
    length_range : (size : ℕ) (r : LineRange) → length (range_text size r) ≡ length r.bytes + 4
    length_range size r = length-append r.bytes _
whole_edit blocks most note (NoRedo page) c f i = record {
  fits = record { len = omega arith; addr = omega (arith, c.1, most) };
  kept = (placed blocks (record { len = 1; addr = page }) c.0 c.1 (omega (arith, c.1)), refl);
  numbers = (omega arith, omega arith, f, i);
}
whole_edit blocks most note (Alloc at) c f i = record {
  fits = ((record { len = omega (arith, c.1, most); addr = omega (arith, c.0, most) }, tt), omega arith);
  kept = and_from (is_inside blocks at) true (inside blocks at c.0 c.1) refl;
  numbers = (omega arith, omega arith, f, i);
}
whole_edit blocks most note (Free at) c f i = record {
  fits = ((record { len = omega (arith, c.1, most); addr = omega (arith, c.0, most) }, tt), omega arith);
  kept = and_from (is_inside blocks at) true (inside blocks at c.0 c.1) refl;
  numbers = (omega arith, omega arith, f, i);
}

whole_each : (blocks : ℕ) → blocks ≤ 2 ^ 23 → (tx : List Noted) → AllByRecursion (IsLoggable blocks) tx → AreWhole blocks (map record_of tx)
whole_each blocks most [] all = tt
whole_each blocks most (n ∷ ns) all = (whole_edit blocks most n.note n.edit all.0.edit all.0.fileset all.0.inode, whole_each blocks most ns all.1)

pub whole_records : (blocks : ℕ) → blocks ≤ 2 ^ 23 → (tx : List Noted) → AllByRecursion (IsLoggable blocks) tx → AreWhole blocks (records_of tx)
whole_records blocks most tx all = by (map record_of tx) (whole_each blocks most tx all)
  where
    by : (rs : List Record) → AreWhole blocks rs → AreWhole blocks (gathered rs)
    by [] gs = tt
    by (r ∷ rs) gs = whole_grouped blocks r rs gs.0 gs.1

-- with a number and an address
pub whole_stamped : (blocks tid back : ℕ) (r : Record) → tid < 2 ^ 32 → back < 2 ^ 32 → IsWhole blocks r → IsWhole blocks (stamped tid back r)
whole_stamped blocks tid back (records.Redo _ _ _ _ _ _ _ _) t b g = record { fits = g.fits; kept = g.kept; numbers = (t, b, g.numbers.2, g.numbers.3) }
whole_stamped blocks tid back (records.NoRedo _ _ _ _ _ _) t b g = record { fits = g.fits; kept = g.kept; numbers = (t, b, g.numbers.2, g.numbers.3) }
whole_stamped blocks tid back (records.Update _ _ _ _ _ _) t b g = record { fits = g.fits; kept = g.kept; numbers = (t, b, g.numbers.2, g.numbers.3) }
whole_stamped blocks tid back (records.Commit _ _) t b g = record { fits = g.fits; kept = g.kept; numbers = (t, b) }
whole_stamped blocks tid back (records.SyncPt _) t b g = g
