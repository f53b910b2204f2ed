-- New inode extents in a log lie within the volume, as each record's page does.
use Rattle.std.proofs.Common.{◌≡◌, ◌≤◌, ◌<◌, ◌+◌, ◌*◌, ◌||◌, ℕ, Bool, true, false, true≢false, ◌==◌, List, [], ◌∷◌, ◌++◌, map, length, refl, sym, subst, arith}
use Rattle.std.specs.Prelude.{nat_le, nat_lt}
use Rattle.std.specs.List.{AllByRecursion}
use Rattle.std.proofs.lemmas.Bool.{and_parts, leb-true, le-ltb, eqb-true, false≢true}
use Rattle.jfs_bits.specs.declared.descriptor.Pxd.{Pxd}
use Rattle.jfs_bits.specs.declared.list.LineRange.{LineRange}
use Rattle.jfs_bits.specs.declared.rule.PageKind.{PageKind}
use Rattle.jfs_bits.specs.declared.rule.PageKind.TheVariants as kinds
use Rattle.jfs_bits.specs.Line.{line_size}
use Rattle.jfs_disk.specs.Image.{Image}
use Rattle.jfs_ranges.specs.Apply.{place_of_line, touches_edit, touches_tx}
use Rattle.jfs_ranges.specs.declared.edit.Edit.{Edit}
use Rattle.jfs_logpages.specs.Back.{Met, AreMet}
use Rattle.jfs_logfmt.specs.declared.log_record.Record.{Record}
use Rattle.jfs_logfmt.specs.declared.log_record.Record.TheVariants as records
use Rattle.jfs_logfmt.specs.Rules.{IsRecordOf, AreWithin, is_page, is_inside, is_within}
use Rattle.jfs_records.specs.Committed.{edits_of, lines_of, marks_of, transactions, committed}
use Rattle.jfs_records.specs.Redo.{all_of}
use Rattle.jfs_redo.specs.Log.{AreCommitted, ExtentLies, ExtentsLieWithin}

pub all-append : {X : Type 0} (P : X → Type 0) (xs ys : List X) → AllByRecursion P xs → AllByRecursion P ys → AllByRecursion P (xs ++ ys)
all-append P [] ys h k = k
all-append P (x ∷ xs) ys h k = (h.0, all-append P xs ys h.1 k)

-- lines that are a new inode extent fill four pages
of-range : (blocks page len : ℕ) (kind : PageKind) (r : LineRange) → page + len ≤ blocks → is_within (line_size kind) len r ≡ true → ExtentLies blocks (lines_of page kind r)
of-range blocks page len kinds.Inode r lies within is =
    let parts = and_parts (r.first == 0) (length r.bytes == 16384) is in
    let long = eqb-true (length r.bytes) 16384 parts.1 in
    let fits = leb-true (r.first * line_size kinds.Inode + length r.bytes) (len * 4096) (and_parts (nat_lt 0 (length r.bytes)) (nat_le (r.first * line_size kinds.Inode + length r.bytes) (len * 4096)) within).1 in
    omega (arith, lies, long, fits)
of-range blocks page len kinds.Xtree r lies within is = absurd (false≢true is)
of-range blocks page len kinds.Dtree r lies within is = absurd (false≢true is)
of-range blocks page len kinds.Index r lies within is = absurd (false≢true is)

of-ranges : (blocks page len : ℕ) (kind : PageKind) (rs : List LineRange) → page + len ≤ blocks → AreWithin (line_size kind) len rs → AllByRecursion (ExtentLies blocks) (map (lines_of page kind) rs)
of-ranges blocks page len kind [] lies within = tt
of-ranges blocks page len kind (r ∷ rs) lies within = (of-range blocks page len kind r lies within.0, of-ranges blocks page len kind rs lies within.1)

of-marks : (blocks : ℕ) (alloc : Bool) (list : List Pxd) → AllByRecursion (ExtentLies blocks) (map (marks_of alloc) list)
of-marks blocks alloc [] = tt
of-marks blocks true (at ∷ list) = (tt, of-marks blocks true list)
of-marks blocks false (at ∷ list) = (tt, of-marks blocks false list)

placed : (blocks : ℕ) (at : Pxd) → is_page blocks at ≡ true → at.addr + at.len ≤ blocks
placed blocks at h = leb-true (at.addr + at.len) blocks (and_parts (nat_lt at.addr blocks) (nat_le (at.addr + at.len) blocks) (and_parts (nat_le 16 at.addr) (is_inside blocks at) h).1).1

of-record : (blocks : ℕ) (r : Record) → IsRecordOf blocks r → AllByRecursion (ExtentLies blocks) (edits_of r)
of-record blocks (records.Redo tid back fileset inode kind new_page at ranges) is = of-ranges blocks at.addr at.len kind ranges (placed blocks at is.0) is.2
of-record blocks (records.NoRedo tid back fileset inode kind at) is = (tt, tt)
of-record blocks (records.Update tid back fileset inode alloc list) is = of-marks blocks alloc list
of-record blocks (records.Commit tid back) is = tt
of-record blocks (records.SyncPt sync) is = tt

of-records : (blocks : ℕ) (rs : List Record) → AllByRecursion (IsRecordOf blocks) rs → (begun : List Edit) → ExtentsLieWithin blocks begun → AllByRecursion (ExtentsLieWithin blocks) (transactions begun rs)
of-records blocks [] all begun h = tt
of-records blocks (records.Commit tid back ∷ rs) all begun h = (h, of-records blocks rs all.1 [] tt)
of-records blocks (records.Redo tid back fileset inode kind new_page at ranges ∷ rs) all begun h = of-records blocks rs all.1 _ (all-append (ExtentLies blocks) begun _ h (of-record blocks (records.Redo tid back fileset inode kind new_page at ranges) all.0))
of-records blocks (records.NoRedo tid back fileset inode kind at ∷ rs) all begun h = of-records blocks rs all.1 _ (all-append (ExtentLies blocks) begun _ h (of-record blocks (records.NoRedo tid back fileset inode kind at) all.0))
of-records blocks (records.Update tid back fileset inode alloc list ∷ rs) all begun h = of-records blocks rs all.1 _ (all-append (ExtentLies blocks) begun _ h (of-record blocks (records.Update tid back fileset inode alloc list) all.0))
of-records blocks (records.SyncPt sync ∷ rs) all begun h = of-records blocks rs all.1 _ (all-append (ExtentLies blocks) begun [] h tt)

pub extents-lie : (blocks : ℕ) (rs : List Record) → AllByRecursion (IsRecordOf blocks) rs → AllByRecursion (ExtentsLieWithin blocks) (committed rs)
extents-lie blocks rs all = of-records blocks rs all [] tt

-- so do those of all transactions in a row
pub all-lie : (blocks : ℕ) (txs : List (List Edit)) → AllByRecursion (ExtentsLieWithin blocks) txs → ExtentsLieWithin blocks (all_of txs)
all-lie blocks [] h = tt
all-lie blocks (tx ∷ txs) h = all-append (ExtentLies blocks) tx (all_of txs) h.0 (all-lie blocks txs h.1)

-- ---- of a log that was read

-- the records of a log break no rule
records-kept : (blocks : ℕ) (text : List ℕ) (from : ℕ) (ms : List Met) → AreMet blocks text from ms → AllByRecursion (IsRecordOf blocks) (map (λ (m : Met). m.is) ms)
records-kept blocks text from [] met = tt
records-kept blocks text from (m ∷ ms) met = (met.1.kept, records-kept blocks text m.end ms met.2)

committed-kept : (blocks : ℕ) (log : Image) (pages : ℕ) (txs : List (List Edit)) (are : AreCommitted pages blocks log txs) → AllByRecursion (IsRecordOf blocks) (map (λ (m : Met). m.is) (are.reads.m ∷ are.reads.ms))
committed-kept blocks log pages txs are = (are.reads.records.is.kept, records-kept blocks are.read.bytes.items are.reads.m.end are.reads.ms are.reads.records.behind.met)

pub transactions-lie : (blocks : ℕ) (log : Image) (pages : ℕ) (txs : List (List Edit)) → AreCommitted pages blocks log txs → AllByRecursion (ExtentsLieWithin blocks) txs
transactions-lie blocks log pages txs are = subst (AllByRecursion (ExtentsLieWithin blocks)) (sym are.are) (extents-lie blocks (map (λ (m : Met). m.is) (are.reads.m ∷ are.reads.ms)) (committed-kept blocks log pages txs are))

-- ---- no line touches one of the first 16 pages

abbrev pub LowPagesStay : List Edit → Type 0
LowPagesStay es = (p : ℕ) → p < 16 → touches_tx p es ≡ false

low-append : (es more : List Edit) → LowPagesStay es → LowPagesStay more → LowPagesStay (es ++ more)
low-append [] more h k = k
low-append (e ∷ es) more h k = λ p low. by p (touches_edit p e) (h p low) (low-append es more rest_of k p low)
  where
    later : (t u : Bool) → (t || u) ≡ false → u ≡ false
    later true u is = absurd (true≢false is)
    later false u is = is

    rest_of : (q : ℕ) → q < 16 → touches_tx q es ≡ false
    rest_of q under = later (touches_edit q e) (touches_tx q es) (h q under)

    by : (p : ℕ) → (t : Bool) → (t || touches_tx p es) ≡ false → touches_tx p (es ++ more) ≡ false → (t || touches_tx p (es ++ more)) ≡ false
    by p true is rest = absurd (true≢false is)
    by p false is rest = rest

low-lines : (page : ℕ) (kind : PageKind) (rs : List LineRange) → 16 ≤ page → LowPagesStay (map (lines_of page kind) rs)
unfolding place_of_line
low-lines page kind [] high p low = refl
low-lines page kind (r ∷ rs) high p low =
    let behind : nat_lt (4096 * page + line_size kind * r.first) (4096 * p + 4096) ≡ false = le-ltb (4096 * page + line_size kind * r.first) (4096 * p + 4096) (omega (arith, high, low)) in
    rw behind (low-lines page kind rs high p low)

low-marks : (alloc : Bool) (list : List Pxd) → LowPagesStay (map (marks_of alloc) list)
low-marks alloc [] p low = refl
low-marks true (at ∷ list) p low = low-marks true list p low
low-marks false (at ∷ list) p low = low-marks false list p low

low-record : (blocks : ℕ) (r : Record) → IsRecordOf blocks r → LowPagesStay (edits_of r)
low-record blocks (records.Redo tid back fileset inode kind new_page at ranges) is = low-lines at.addr kind ranges (leb-true 16 at.addr (and_parts (nat_le 16 at.addr) (is_inside blocks at) is.0).0)
low-record blocks (records.NoRedo tid back fileset inode kind at) is = λ p low. refl
low-record blocks (records.Update tid back fileset inode alloc list) is = low-marks alloc list
low-record blocks (records.Commit tid back) is = λ p low. refl
low-record blocks (records.SyncPt sync) is = λ p low. refl

low-records : (blocks : ℕ) (rs : List Record) → AllByRecursion (IsRecordOf blocks) rs → (begun : List Edit) → LowPagesStay begun → LowPagesStay (all_of (transactions begun rs))
low-records blocks [] all begun h = λ p low. refl
low-records blocks (records.Commit tid back ∷ rs) all begun h = low-append begun (all_of (transactions [] rs)) h (low-records blocks rs all.1 [] (λ p low. refl))
low-records blocks (records.Redo tid back fileset inode kind new_page at ranges ∷ rs) all begun h =
    low-records blocks rs all.1 _ (low-append begun _ h (low-record blocks (records.Redo tid back fileset inode kind new_page at ranges) all.0))
low-records blocks (records.NoRedo tid back fileset inode kind at ∷ rs) all begun h = low-records blocks rs all.1 _ (low-append begun _ h (low-record blocks (records.NoRedo tid back fileset inode kind at) all.0))
low-records blocks (records.Update tid back fileset inode alloc list ∷ rs) all begun h = low-records blocks rs all.1 _ (low-append begun _ h (low-record blocks (records.Update tid back fileset inode alloc list) all.0))
low-records blocks (records.SyncPt sync ∷ rs) all begun h = low-records blocks rs all.1 _ (low-append begun [] h (λ p low. refl))

pub low_pages-stay : (blocks : ℕ) (log : Image) (pages : ℕ) (txs : List (List Edit)) → AreCommitted pages blocks log txs → LowPagesStay (all_of txs)
low_pages-stay blocks log pages txs are = subst (λ (ts : List (List Edit)). LowPagesStay (all_of ts)) (sym are.are) (low-records blocks (map (λ (m : Met). m.is) (are.reads.m ∷ are.reads.ms)) (committed-kept blocks log pages txs are) [] (λ p low. refl))
