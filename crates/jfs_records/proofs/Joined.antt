-- Records that became one say what they said.
use Rattle.std.proofs.Common.{◌≡◌, ◌<◌, ◌+◌, ◌^◌, ◌==◌, ◌&&◌, nat_lt, ℕ, Bool, true, false, List, [], ◌∷◌, ◌++◌, length, map, if◌then◌else◌, refl, sym, ap, subst, ◌∙◌, append_assoc}
use Rattle.std.proofs.lemmas.List.{map-append, length-append}
use Rattle.std.proofs.lemmas.Grind.{flat_map-append}
use Rattle.std.proofs.lemmas.Bool.{and_parts, eqb-true, ltb-true, true≢false}
use Rattle.jfs_bits.specs.declared.descriptor.Pxd.{Pxd}
use Rattle.jfs_bits.specs.declared.list.LineRange.{LineRange}
use Rattle.jfs_bits.specs.declared.rule.PageKind.{PageKind}
use Rattle.jfs_bits.specs.Line.{line_size}
use Rattle.jfs_bits.specs.Descriptor.{pxd_bytes}
use Rattle.jfs_ranges.specs.declared.edit.Edit.{Edit}
use Rattle.jfs_ranges.specs.declared.edit.Edit.TheVariants.{Lines, NoRedo, Alloc, Free}
use Rattle.jfs_logfmt.specs.declared.log_record.Record.{Record}
use Rattle.jfs_logfmt.specs.declared.log_record.Record.TheVariants as records
use Rattle.jfs_logfmt.specs.Kinds.{page_number, page_type, map_number}
use Rattle.jfs_logfmt.specs.Written.{body_text, range_text}
use Rattle.jfs_logfmt.proofs.Once.{page_once, map_once}
use Rattle.jfs_records.specs.Records.{Noted, record_for, record_of, is_alike, is_page_of, is_map_of, joins, join, grouped, gathered, records_of, tx_of}
use Rattle.jfs_records.specs.declared.note.Note.{Note}
use Rattle.jfs_records.specs.Committed.{lines_of, marks_of, edits_of, all_edits}

-- what two records that are joined have in common
pub data Alike : Record → Record → Type 0 where
  pages : (tid back tid' back' fileset inode : ℕ) (kind : PageKind) (new_page : Bool) (at : Pxd) (rs rs' : List LineRange) → at.len ≡ 1
      → Alike (records.Redo tid back fileset inode kind new_page at rs) (records.Redo tid' back' fileset inode kind new_page at rs')
  maps : (tid back tid' back' fileset inode : ℕ) (alloc : Bool) (list list' : List Pxd) → Alike (records.Update tid back fileset inode alloc list) (records.Update tid' back' fileset inode alloc list')

same_pxd : (p q : Pxd) → p.len ≡ 1 → q.len ≡ 1 → p.addr ≡ q.addr → p ≡ q
same_pxd p q a b c =
    let f : ℕ → ℕ → Pxd = λ l x. record { len = l; addr = x } in
    ap (λ (l : ℕ). f l p.addr) (a ∙ sym b) ∙ ap (λ (x : ℕ). f q.len x) c

alike_pages : (tid back fileset inode : ℕ) (kind : PageKind) (new_page : Bool) (at : Pxd) (rs : List LineRange) (s : Record) → is_page_of fileset inode (page_number (page_type kind new_page)) at s ≡ true → Alike (records.Redo tid back fileset inode kind new_page at rs) s
alike_pages tid back fileset inode kind new_page at rs (records.Redo tid' back' fileset' inode' kind' new' at' rs') h =
    let a = and_parts (fileset == fileset') (inode == inode' && (page_number (page_type kind new_page) == page_number (page_type kind' new') && (at.len == 1 && (at'.len == 1 && at.addr == at'.addr)))) h in
    let b = and_parts (inode == inode') (page_number (page_type kind new_page) == page_number (page_type kind' new') && (at.len == 1 && (at'.len == 1 && at.addr == at'.addr))) a.1 in
    let c = and_parts (page_number (page_type kind new_page) == page_number (page_type kind' new')) (at.len == 1 && (at'.len == 1 && at.addr == at'.addr)) b.1 in
    let d = and_parts (at.len == 1) (at'.len == 1 && at.addr == at'.addr) c.1 in
    let e = and_parts (at'.len == 1) (at.addr == at'.addr) d.1 in
    let kinds = page_once kind kind' new_page new' (page_number (page_type kind new_page)) refl (eqb-true (page_number (page_type kind new_page)) (page_number (page_type kind' new')) c.0) in
    let one = eqb-true at.len 1 d.0 in
    let k0 = kinds.0 in
    let k1 = kinds.1 in
    let f0 = eqb-true fileset fileset' a.0 in
    let i0 = eqb-true inode inode' b.0 in
    let p0 = same_pxd at at' one (eqb-true at'.len 1 e.0) (eqb-true at.addr at'.addr e.1) in
    let same : records.Redo tid' back' fileset inode kind new_page at rs' ≡ records.Redo tid' back' fileset' inode' kind' new' at' rs' = cc in
    let P : Record → Type 0 = λ s. Alike (records.Redo tid back fileset inode kind new_page at rs) s in
    subst P same (pages tid back tid' back' fileset inode kind new_page at rs rs' one)
alike_pages tid back fileset inode kind new_page at rs (records.NoRedo _ _ _ _ _ _) h = absurd (true≢false (sym h))
alike_pages tid back fileset inode kind new_page at rs (records.Update _ _ _ _ _ _) h = absurd (true≢false (sym h))
alike_pages tid back fileset inode kind new_page at rs (records.Commit _ _) h = absurd (true≢false (sym h))
alike_pages tid back fileset inode kind new_page at rs (records.SyncPt _) h = absurd (true≢false (sym h))

alike_maps : (tid back fileset inode : ℕ) (alloc : Bool) (list : List Pxd) (s : Record) → is_map_of fileset inode alloc s ≡ true → Alike (records.Update tid back fileset inode alloc list) s
alike_maps tid back fileset inode alloc list (records.Update tid' back' fileset' inode' alloc' list') h =
    let a = and_parts (fileset == fileset') (inode == inode' && map_number alloc == map_number alloc') h in
    let b = and_parts (inode == inode') (map_number alloc == map_number alloc') a.1 in
    let f0 = eqb-true fileset fileset' a.0 in
    let i0 = eqb-true inode inode' b.0 in
    let m0 = map_once alloc alloc' (map_number alloc) refl (eqb-true (map_number alloc) (map_number alloc') b.1) in
    let same : records.Update tid' back' fileset inode alloc list' ≡ records.Update tid' back' fileset' inode' alloc' list' = cc in
    let P : Record → Type 0 = λ s. Alike (records.Update tid back fileset inode alloc list) s in
    subst P same (maps tid back tid' back' fileset inode alloc list list')
alike_maps tid back fileset inode alloc list (records.Redo _ _ _ _ _ _ _ _) h = absurd (true≢false (sym h))
alike_maps tid back fileset inode alloc list (records.NoRedo _ _ _ _ _ _) h = absurd (true≢false (sym h))
alike_maps tid back fileset inode alloc list (records.Commit _ _) h = absurd (true≢false (sym h))
alike_maps tid back fileset inode alloc list (records.SyncPt _) h = absurd (true≢false (sym h))

alike_if : (r s : Record) → is_alike r s ≡ true → Alike r s
alike_if (records.Redo tid back fileset inode kind new_page at rs) s h = alike_pages tid back fileset inode kind new_page at rs s h
alike_if (records.Update tid back fileset inode alloc list) s h = alike_maps tid back fileset inode alloc list s h
alike_if (records.NoRedo _ _ _ _ _ _) s h = absurd (true≢false (sym h))
alike_if (records.Commit _ _) s h = absurd (true≢false (sym h))
alike_if (records.SyncPt _) s h = absurd (true≢false (sym h))

pub alike : (r s : Record) → joins r s ≡ true → Alike r s
alike r s h = alike_if r s (and_parts (nat_lt (length (body_text r) + length (body_text s)) (2 ^ 16)) (is_alike r s) h).1

pub small : (r s : Record) → joins r s ≡ true → length (body_text r) + length (body_text s) < 2 ^ 16
small r s h = ltb-true (length (body_text r) + length (body_text s)) (2 ^ 16) (and_parts (nat_lt (length (body_text r) + length (body_text s)) (2 ^ 16)) (is_alike r s) h).0

-- ---- what they say

edits_join : (r s : Record) → Alike r s → edits_of (join r s) ≡ edits_of r ++ edits_of s
edits_join r s (pages tid back tid' back' fileset inode kind new_page at rs rs' one) = map-append (lines_of at.addr kind) rs rs'
edits_join r s (maps tid back tid' back' fileset inode alloc list list') = map-append (marks_of alloc) list list'

edits_grouped : (r : Record) (ss : List Record) → all_edits (grouped r ss) ≡ edits_of r ++ all_edits ss
edits_grouped r [] = refl
edits_grouped r (s ∷ ss) = by (joins r s) refl (edits_grouped (join r s) ss) (edits_grouped s ss)
  where
    by : (b : Bool) → joins r s ≡ b → all_edits (grouped (join r s) ss) ≡ edits_of (join r s) ++ all_edits ss → all_edits (grouped s ss) ≡ edits_of s ++ all_edits ss
        → all_edits (if b then grouped (join r s) ss else r ∷ grouped s ss) ≡ edits_of r ++ (edits_of s ++ all_edits ss)
    by true h one two = one ∙ ap (λ (l : List Edit). l ++ all_edits ss) (edits_join r s (alike r s h)) ∙ append_assoc (edits_of r) (edits_of s) (all_edits ss)
    by false h one two = ap (λ (l : List Edit). edits_of r ++ l) two

edits_gathered : (rs : List Record) → all_edits (gathered rs) ≡ all_edits rs
edits_gathered [] = refl
edits_gathered (r ∷ rs) = edits_grouped r rs

edits_noted : (note : Note) (edit : Edit) → edits_of (record_for note edit) ≡ edit ∷ []
edits_noted note (Lines page kind first bytes) = refl
edits_noted note (NoRedo page) = refl
edits_noted note (Alloc at) = refl
edits_noted note (Free at) = refl

edits_each : (tx : List Noted) → all_edits (map record_of tx) ≡ tx_of tx
edits_each [] = refl
edits_each (n ∷ ns) = ap (λ (l : List Edit). l ++ all_edits (map record_of ns)) (edits_noted n.note n.edit) ∙ ap (λ (l : List Edit). n.edit ∷ l) (edits_each ns)

-- the records of a transaction say its edits, in their order
pub edits_records : (tx : List Noted) → all_edits (records_of tx) ≡ tx_of tx
edits_records tx = edits_gathered (map record_of tx) ∙ edits_each tx

-- ---- sizes

body_join : (r s : Record) → Alike r s → length (body_text (join r s)) ≡ length (body_text r) + length (body_text s)
body_join r s (pages tid back tid' back' fileset inode kind new_page at rs rs' one) =
    ap length (flat_map-append (range_text (line_size kind)) rs rs') ∙ length-append (body_text r) (body_text s)
body_join r s (maps tid back tid' back' fileset inode alloc list list') =
    ap length (flat_map-append pxd_bytes list list') ∙ length-append (body_text r) (body_text s)

pub length-join : (r s : Record) → joins r s ≡ true → length (body_text (join r s)) ≡ length (body_text r) + length (body_text s)
length-join r s h = body_join r s (alike r s h)
