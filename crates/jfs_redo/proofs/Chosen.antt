-- A redone page is a choice, cell by cell: each line of a log is of whole cells.
use Rattle.std.proofs.Common.{◌≡◌, ◌<◌, ◌+◌, ◌-◌, ◌*◌, ◌&&◌, nat_le, nat_lt, ℕ, zero, suc, Bool, true, false, List, [], ◌∷◌, length, map, take, drop, get_or, refl, sym, ap, ◌∙◌, subst, arith}
use Rattle.std.specs.List.{AllByRecursion}
use Rattle.std.proofs.lemmas.Bool.{cond-true, lt-ltb}
use Rattle.std.proofs.lemmas.Bool.Decides.{nat_tests}
use Rattle.jfs_bits.specs.declared.descriptor.Pxd.{Pxd}
use Rattle.jfs_bits.specs.declared.list.LineRange.{LineRange}
use Rattle.jfs_bits.specs.declared.rule.PageKind.{PageKind}
use Rattle.jfs_bits.specs.declared.rule.PageKind.TheVariants as kinds
use Rattle.jfs_bits.specs.Field.{field_of}
use Rattle.jfs_bits.specs.Line.{line_size}
use Rattle.jfs_disk.specs.Image.{Image, page_of}
use Rattle.jfs_ranges.specs.Apply.{place_of_line}
use Rattle.jfs_ranges.specs.declared.edit.Edit.{Edit}
use Rattle.jfs_ranges.specs.declared.edit.Edit.TheVariants.{Lines}
use Rattle.jfs_logfmt.specs.Text.{SpellsRanges, Spells}
use Rattle.jfs_logfmt.specs.declared.log_record.Record.{Record}
use Rattle.jfs_logfmt.specs.declared.log_record.Record.TheVariants as records
use Rattle.jfs_logpages.specs.Back.{Met, AreMet}
use Rattle.jfs_records.specs.Committed.{edits_of, lines_of, marks_of, transactions}
use Rattle.jfs_records.specs.Redo.{all_of, redone, HasCells}
use Rattle.jfs_records.proofs.Choice.{is_choice}
use Rattle.jfs_super.specs.Rules.{blocks_of}
use Rattle.jfs_super.specs.declared.fields.Super.{Super}
use Rattle.jfs_redo.specs.Log.{AreCommitted}
use Rattle.jfs_redo.specs.Laws.{RedoneIsChoice}
use Rattle.jfs_redo.proofs.Extents.{all-append}

-- ---- lines

-- cells from one of them on, so many in a row
in_row : (at len a b p c j : ℕ) → at ≡ 16 * a → len ≡ 16 * b → j < 16 → (nat_le at (4096 * p + (16 * c + j)) && nat_lt (4096 * p + (16 * c + j) - at) len) ≡ (nat_le at (4096 * p + 16 * c) && nat_lt (4096 * p + 16 * c - at) len)
in_row at len a b p c j begins long within = grind (arith, nat_tests)

line_cells : (kind : PageKind) → (k : ℕ) × (line_size kind ≡ 16 * k)
line_cells kinds.Inode = (8, refl)
line_cells kinds.Xtree = (1, refl)
line_cells kinds.Dtree = (2, refl)
line_cells kinds.Index = (1, refl)

times : (k n : ℕ) → 16 * k * n ≡ 16 * (k * n)
times k n = omega arith

-- lines of so many line sizes
has_cells : (page first n : ℕ) (kind : PageKind) (bytes : List ℕ) → length bytes ≡ n * line_size kind → HasCells (Lines page kind first bytes)
unfolding place_of_line
has_cells page first n kind bytes long p c j within =
    let k = line_cells kind in
    let begins : 4096 * page + line_size kind * first ≡ 16 * (256 * page + k.0 * first) = omega (arith, ap (λ (n : ℕ). n * first) k.1, times k.0 first) in
    in_row (4096 * page + line_size kind * first) (length bytes) (256 * page + k.0 * first) (n * k.0) p c j begins (long ∙ ap (λ (size : ℕ). n * size) k.1 ∙ omega arith) within

-- ---- records

of-ranges : (page : ℕ) (kind : PageKind) (body : List ℕ) (rs : List LineRange) → SpellsRanges (line_size kind) body rs → AllByRecursion HasCells (map (lines_of page kind) rs)
of-ranges page kind body [] spelled = tt
of-ranges page kind body (r ∷ rs) (text, rest, parts, is, more) = (has_cells page r.first (field_of is.place 2 2) kind r.bytes is.lines, of-ranges page kind rest rs more)

of-marks : (alloc : Bool) (list : List Pxd) → AllByRecursion HasCells (map (marks_of alloc) list)
of-marks alloc [] = tt
of-marks true (at ∷ list) = (λ p c j within. refl, of-marks true list)
of-marks false (at ∷ list) = (λ p c j within. refl, of-marks false list)

abbrev HasOwnCells : Record → Type 0
HasOwnCells r = AllByRecursion HasCells (edits_of r)

of-record : (text : List ℕ) (r : Record) → Spells text r → HasOwnCells r
of-record text (records.Redo tid back fileset inode kind new_page at ranges) is = of-ranges at.addr kind is.body ranges is.says.5
of-record text (records.NoRedo tid back fileset inode kind at) is = (λ p c j within. refl, tt)
of-record text (records.Update tid back fileset inode alloc list) is = of-marks alloc list
of-record text (records.Commit tid back) is = tt
of-record text (records.SyncPt sync) is = tt

of-met : (blocks : ℕ) (text : List ℕ) (from : ℕ) (ms : List Met) → AreMet blocks text from ms → AllByRecursion HasOwnCells (map (λ (m : Met). m.is) ms)
of-met blocks text from [] met = tt
of-met blocks text from (m ∷ ms) met = (of-record (drop m.start (take m.end text)) m.is met.1.spells, of-met blocks text m.end ms met.2)

-- ---- transactions

of-records : (rs : List Record) → AllByRecursion HasOwnCells rs → (begun : List Edit) → AllByRecursion HasCells begun → AllByRecursion HasCells (all_of (transactions begun rs))
of-records [] all begun h = tt
of-records (records.Commit tid back ∷ rs) all begun h = all-append HasCells begun _ h (of-records rs all.1 [] tt)
of-records (records.Redo tid back fileset inode kind new_page at ranges ∷ rs) all begun h = of-records rs all.1 _ (all-append HasCells begun _ h all.0)
of-records (records.NoRedo tid back fileset inode kind at ∷ rs) all begun h = of-records rs all.1 _ (all-append HasCells begun _ h all.0)
of-records (records.Update tid back fileset inode alloc list ∷ rs) all begun h = of-records rs all.1 _ (all-append HasCells begun _ h all.0)
of-records (records.SyncPt sync ∷ rs) all begun h = of-records rs all.1 _ (all-append HasCells begun [] h tt)

-- the edits that a log commits
committed_cells : (pages blocks : ℕ) (log : Image) (txs : List (List Edit)) → AreCommitted pages blocks log txs → AllByRecursion HasCells (all_of txs)
committed_cells pages blocks log txs are =
    let reads = are.reads in
    let text = are.read.bytes.items in
    let each : AllByRecursion HasOwnCells (map (λ (m : Met). m.is) (reads.m ∷ reads.ms)) =
    (of-record (drop reads.m.start (take reads.m.end text)) reads.m.is reads.records.is.spells, of-met blocks text reads.m.end reads.ms reads.records.behind.met) in
    subst (λ (ts : List (List Edit)). AllByRecursion HasCells (all_of ts)) (sym are.are) (of-records (map (λ (m : Met). m.is) (reads.m ∷ reads.ms)) each [] tt)

one_of : (es : List Edit) → AllByRecursion HasCells es → (k : ℕ) (d : Edit) → k < length es → HasCells (get_or es k d)
one_of [] all k d low = absurd (omega (arith, low))
one_of (e ∷ es) all zero d low = all.0
one_of (e ∷ es) all (suc k) d low = one_of es all.1 k d (omega (arith, low))

-- ---- the choice

pub redone_is_choice : RedoneIsChoice
redone_is_choice s txs old new committed is p low size other place c j cell byte =
    let here = cond-true (nat_lt p (blocks_of s)) (redone p (page_of old p) (page_of old p) (all_of txs)) (page_of old p) (lt-ltb p (blocks_of s) low) in
    ap (λ (page : List ℕ). get_or page (16 * c + j) 0) (is.rest p other ∙ is.others p place ∙ is.pages.pages p ∙ here)
    ∙ is_choice p (page_of old p) (all_of txs) (one_of (all_of txs) (committed_cells s.logpxd.len (blocks_of s) (drop s.logpxd.addr old) txs committed)) c j byte (omega (arith, size, cell, byte))
