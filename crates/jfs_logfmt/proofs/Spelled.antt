-- The text that is written of a record spells it.
use Rattle.std.proofs.Common.{◌≡◌, ◌<◌, ◌+◌, ◌*◌, ◌/◌, ◌^◌, ℕ, List, [], ◌∷◌, ◌++◌, length, take, refl, sym, ap, subst, ◌∙◌, append_assoc, arith}
use Rattle.std.specs.List.{flat_map, AllByRecursion}
use Rattle.std.proofs.lemmas.List.{take_at, drop_at, length-append}
use Rattle.std.proofs.Math.Nat.{div-le_self}
use Rattle.byteorder.specs.Endian.{little_bytes}
use Rattle.jfs_bits.specs.declared.descriptor.Pxd.{Pxd}
use Rattle.jfs_bits.specs.declared.list.LineRange.{LineRange}
use Rattle.jfs_bits.specs.Field.{field_of, range_of}
use Rattle.jfs_bits.specs.Descriptor.{pxd_of, pxd_bytes, FitsPxd}
use Rattle.jfs_bits.proofs.Ranges.{field_of-range, field_of-number}
use Rattle.jfs_bits.proofs.Descriptors.{pxd_of-range, pxd_of-bytes, length-pxd_bytes}
use Rattle.jfs_logfmt.specs.declared.descriptor.Descriptor.{Descriptor}
use Rattle.jfs_logfmt.specs.declared.log_record.Record.{Record}
use Rattle.jfs_logfmt.specs.declared.log_record.Record.TheVariants as records
use Rattle.jfs_bits.specs.Line.{line_size}
use Rattle.jfs_logfmt.specs.Descriptor.{descriptor_of, descriptor_bytes}
use Rattle.jfs_logfmt.specs.Text.{IsRangeText, SpellsRanges, runs_of, Says, Spells}
use Rattle.jfs_logfmt.specs.Written.{range_text, body_text, described, text_of, FitsRange, Fits}
use Rattle.jfs_logfmt.proofs.ReadBack.{length-descriptor_bytes}

is_range_text : (size : ℕ) (r : LineRange) → FitsRange size r → IsRangeText size (range_text size r) r
unfolding range_of
is_range_text size r fits =
    let lines = length r.bytes / size in
    let place = little_bytes 2 r.first ++ little_bytes 2 lines in
    let second : field_of place 2 2 ≡ lines = field_of-range place 2 2 ∙ field_of-number 2 lines [] (omega (arith, fits.bytes, div-le_self (length r.bytes) size)) in
    record {
      place = place;
      parts = refl;
      four = refl;
      first = field_of-number 2 r.first (little_bytes 2 lines) (omega (arith, fits.first));
      lines = fits.whole ∙ ap (λ (n : ℕ). n * size) (sym second);
    }

spells_ranges : (size : ℕ) (rs : List LineRange) → AllByRecursion (FitsRange size) rs → SpellsRanges size (flat_map (range_text size) rs) rs
spells_ranges size [] fits = refl
spells_ranges size (r ∷ rs) fits = (range_text size r, flat_map (range_text size) rs, refl, is_range_text size r fits.0, spells_ranges size rs fits.1)

pub length-runs : (list : List Pxd) → length (flat_map pxd_bytes list) ≡ 8 * length list
length-runs [] = refl
length-runs (p ∷ ps) = omega (arith, length-append (pxd_bytes p) (flat_map pxd_bytes ps), length-pxd_bytes p, length-runs ps)

first_run : (front rest : List ℕ) (at : ℕ) (p : Pxd) → FitsPxd p → length front ≡ at → pxd_of (front ++ (pxd_bytes p ++ rest)) at ≡ p
unfolding range_of
first_run front rest at p fits e =
    pxd_of-range (front ++ (pxd_bytes p ++ rest)) at
    ∙ ap (λ (l : List ℕ). pxd_of l 0) (ap (λ (l : List ℕ). take 8 l) (drop_at front (pxd_bytes p ++ rest) at e) ∙ take_at (pxd_bytes p) rest 8 (length-pxd_bytes p))
    ∙ pxd_of-bytes p fits

runs_spelled : (front : List ℕ) (at : ℕ) (list : List Pxd) → AllByRecursion FitsPxd list → length front ≡ at → runs_of (front ++ flat_map pxd_bytes list) at (length list) ≡ list
runs_spelled front at [] fits e = refl
runs_spelled front at (p ∷ ps) fits e =
    let rest = flat_map pxd_bytes ps in
    let first = first_run front rest at p fits.0 e in
    let size : length (front ++ pxd_bytes p) ≡ at + 8 = omega (arith, length-append front (pxd_bytes p), length-pxd_bytes p, e) in
    let later = runs_spelled (front ++ pxd_bytes p) (at + 8) ps fits.1 size in
    let same : front ++ (pxd_bytes p ++ rest) ≡ front ++ pxd_bytes p ++ rest = sym (append_assoc front (pxd_bytes p) rest) in
    ap (λ (q : Pxd). q ∷ runs_of (front ++ (pxd_bytes p ++ rest)) (at + 8) (length ps)) first
    ∙ ap (λ (l : List Pxd). p ∷ l) (ap (λ (l : List ℕ). runs_of l (at + 8) (length ps)) same ∙ later)

pub body_fits : (r : Record) → Fits r → length (body_text r) < 2 ^ 16
body_fits (records.Redo tid back fileset inode kind new_page at ranges) fits = fits.2
body_fits (records.Update tid back fileset inode alloc list) fits = omega (arith, length-runs list, fits.1)
body_fits (records.NoRedo tid back fileset inode kind at) fits = omega arith
body_fits (records.Commit tid back) fits = omega arith
body_fits (records.SyncPt sync) fits = omega arith

says : (r : Record) (n : ℕ) → Fits r → Says (described r n) (body_text r) r
says (records.Redo tid back fileset inode kind new_page at ranges) n fits =
    ((refl, refl, refl), (refl, refl), refl, refl, refl, spells_ranges (line_size kind) ranges fits.1)
says (records.Update tid back fileset inode alloc list) n fits =
    ((refl, refl, refl), (refl, refl), refl, refl, length-runs list, runs_spelled [] 0 list fits.0 refl)
says (records.NoRedo tid back fileset inode kind at) n fits = ((refl, refl, refl), (refl, refl), refl, refl, refl)
says (records.Commit tid back) n fits = ((refl, refl, refl), refl)
says (records.SyncPt sync) n fits = (refl, refl, refl)

long : (r : Record) (n : ℕ) → (described r n).length ≡ n
long (records.Redo tid back fileset inode kind new_page at ranges) n = refl
long (records.Update tid back fileset inode alloc list) n = refl
long (records.NoRedo tid back fileset inode kind at) n = refl
long (records.Commit tid back) n = refl
long (records.SyncPt sync) n = refl

-- data of fewer than 2 ^ 16 bytes, and the descriptor
pub text_fits : (r : Record) → Fits r → length (text_of r) < 2 ^ 17
text_fits r fits =
    let d : Descriptor = described r (length (body_text r)) in
    omega (arith, length-append (body_text r) (descriptor_bytes d), length-descriptor_bytes d, body_fits r fits)

pub spelled : (r : Record) → Fits r → (let d : Descriptor = described r (length (body_text r)) in descriptor_of (descriptor_bytes d) ≡ d) → Spells (text_of r) r
spelled r fits read =
    let n = length (body_text r) in
    let d = described r n in
    record {
      body = body_text r;
      tail = descriptor_bytes d;
      parts = refl;
      size = length-descriptor_bytes d;
      long = ap (λ (x : Descriptor). x.length) read ∙ long r n;
      says = (let P : Descriptor → Type 0 = λ x. Says x (body_text r) r in subst P (sym read) (says r n fits));
    }
