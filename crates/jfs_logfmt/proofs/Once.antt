-- A text spells at most one record.
use Rattle.std.proofs.Common.{◌≡◌, ◌≤◌, ℕ, zero, suc, Bool, false, List, [], ◌∷◌, ◌++◌, length, Some, sym, ap, subst, ◌∙◌, arith}
use Rattle.std.proofs.lemmas.List.{length-append}
use Rattle.jfs_bits.specs.declared.descriptor.Pxd.{Pxd}
use Rattle.jfs_bits.specs.declared.list.LineRange.{LineRange}
use Rattle.jfs_bits.specs.declared.rule.PageKind.{PageKind}
use Rattle.jfs_bits.specs.Line.{line_size}
use Rattle.jfs_logfmt.specs.declared.descriptor.Descriptor.{Descriptor}
use Rattle.jfs_logfmt.specs.declared.log_record.Record.{Record}
use Rattle.jfs_logfmt.specs.declared.log_record.Record.TheVariants as records
use Rattle.jfs_logfmt.specs.declared.kind.PageType.{PageType}
use Rattle.jfs_logfmt.specs.Kinds.{page_number, page_type, page_of, map_number, map_of}
use Rattle.jfs_logfmt.specs.Descriptor.{descriptor_of}
use Rattle.jfs_logfmt.specs.Text.{SpellsRanges, runs_of, Says, SpellsOneAtMost}
use Rattle.jfs_logfmt.proofs.Kept.{page_of-number, map_of-number}
use Rattle.jfs_logfmt.proofs.Split.{same_end}
use Rattle.jfs_logfmt.proofs.Ranges.{ends_with, same_range, no_ranges}

-- data is filled by one list of ranges at most: the last range is known from the end, and then those before it
ranges_once : (n size : ℕ) (body : List ℕ) (rs qs : List LineRange) → length body ≤ n → SpellsRanges size body rs → SpellsRanges size body qs → rs ≡ qs
ranges_once n size [] rs qs h s t = no_ranges size rs s ∙ sym (no_ranges size qs t)
ranges_once zero size (x ∷ xs) rs qs h s t = absurd (omega arith)
ranges_once (suc n) size (x ∷ xs) rs qs h s t =
    let a = ends_with size (x ∷ xs) rs (omega arith) s in
    let b = ends_with size (x ∷ xs) qs (omega arith) t in
    let same = same_range size a.front b.front a.text b.text a.range b.range a.spelled b.spelled (sym a.parts ∙ b.parts) in
    let first : SpellsRanges size b.front a.before = let P : List ℕ → Type 0 = λ z. SpellsRanges size z a.before in subst P same.0 a.rest in
    let fewer : length b.front ≤ n = omega (arith, h, ap length b.parts, length-append b.front b.text, ap length b.spelled.parts, length-append b.range.bytes b.spelled.place, b.spelled.four) in
    let before = ranges_once n size b.front a.before b.before fewer first b.rest in
    a.list ∙ ap (λ (l : List LineRange). l ++ a.range ∷ []) before ∙ ap (λ (q : LineRange). b.before ++ q ∷ []) same.1 ∙ sym b.list

-- a page type by its number
pub page_once : (kind other : PageKind) (new_page new_other : Bool) (n : ℕ) → n ≡ page_number (page_type kind new_page) → n ≡ page_number (page_type other new_other) → (kind ≡ other) × (new_page ≡ new_other)
page_once kind other new_page new_other n h k =
    let e : Some (page_type kind new_page) ≡ Some (page_type other new_other) =
    sym (page_of-number kind new_page) ∙ ap (λ (m : ℕ). page_of m) (sym h ∙ k) ∙ page_of-number other new_other in
    let same : page_type kind new_page ≡ page_type other new_other = cc in
    (ap (λ (p : PageType). p.kind) same, ap (λ (p : PageType). p.new_page) same)

pub map_once : (alloc other : Bool) (n : ℕ) → n ≡ map_number alloc → n ≡ map_number other → alloc ≡ other
map_once alloc other n h k =
    let e : Some alloc ≡ Some other = sym (map_of-number alloc) ∙ ap (λ (m : ℕ). map_of m) (sym h ∙ k) ∙ map_of-number other in cc

-- a record of each type, and another that the same descriptor and data say
commit_once : (d : Descriptor) (body : List ℕ) (tid back : ℕ) (s : Record) → Says d body (records.Commit tid back) → Says d body s → records.Commit tid back ≡ s
commit_once d body tid back s h k = grind arith

point_once : (d : Descriptor) (body : List ℕ) (sync : ℕ) (s : Record) → Says d body (records.SyncPt sync) → Says d body s → records.SyncPt sync ≡ s
point_once d body sync s h k = grind arith

no_redo_once : (d : Descriptor) (body : List ℕ) (tid back fileset inode : ℕ) (kind : PageKind) (at : Pxd) (s : Record) → Says d body (records.NoRedo tid back fileset inode kind at) → Says d body s → records.NoRedo tid back fileset inode kind at ≡ s
no_redo_once d body tid back fileset inode kind at (records.NoRedo tid' back' fileset' inode' kind' at') h k =
    let same = (page_once kind kind' false false d.kind h.2 k.2).0 in
    let head = h.0 in
    let head' = k.0 in
    let owner = h.1 in
    let owner' = k.1 in
    let page = h.3 in
    let page' = k.3 in
    cc
no_redo_once d body tid back fileset inode kind at (records.Redo _ _ _ _ _ _ _ _) h k = absurd (omega (arith, h.0.0, k.0.0))
no_redo_once d body tid back fileset inode kind at (records.Update _ _ _ _ _ _) h k = absurd (omega (arith, h.0.0, k.0.0))
no_redo_once d body tid back fileset inode kind at (records.Commit _ _) h k = absurd (omega (arith, h.0.0, k.0.0))
no_redo_once d body tid back fileset inode kind at (records.SyncPt _) h k = absurd (omega (arith, h.0.0, k.0))

redo_once : (d : Descriptor) (body : List ℕ) (tid back fileset inode : ℕ) (kind : PageKind) (new_page : Bool) (at : Pxd) (ranges : List LineRange) (s : Record) → Says d body (records.Redo tid back fileset inode kind new_page at ranges) → Says d body s → records.Redo tid back fileset inode kind new_page at ranges ≡ s
redo_once d body tid back fileset inode kind new_page at ranges (records.Redo tid' back' fileset' inode' kind' new_page' at' ranges') h k =
    let same = page_once kind kind' new_page new_page' d.kind h.2 k.2 in
    let sized : SpellsRanges (line_size kind) body ranges' = let P : PageKind → Type 0 = λ z. SpellsRanges (line_size z) body ranges' in subst P (sym same.0) k.5 in
    let lines = ranges_once (length body) (line_size kind) body ranges ranges' (omega arith) h.5 sized in
    let head = h.0 in
    let head' = k.0 in
    let owner = h.1 in
    let owner' = k.1 in
    let page = h.4 in
    let page' = k.4 in
    cc
redo_once d body tid back fileset inode kind new_page at ranges (records.NoRedo _ _ _ _ _ _) h k = absurd (omega (arith, h.0.0, k.0.0))
redo_once d body tid back fileset inode kind new_page at ranges (records.Update _ _ _ _ _ _) h k = absurd (omega (arith, h.0.0, k.0.0))
redo_once d body tid back fileset inode kind new_page at ranges (records.Commit _ _) h k = absurd (omega (arith, h.0.0, k.0.0))
redo_once d body tid back fileset inode kind new_page at ranges (records.SyncPt _) h k = absurd (omega (arith, h.0.0, k.0))

update_once : (d : Descriptor) (body : List ℕ) (tid back fileset inode : ℕ) (alloc : Bool) (list : List Pxd) (s : Record) → Says d body (records.Update tid back fileset inode alloc list) → Says d body s → records.Update tid back fileset inode alloc list ≡ s
update_once d body tid back fileset inode alloc list (records.Update tid' back' fileset' inode' alloc' list') h k =
    let same = map_once alloc alloc' d.kind h.2 k.2 in
    let runs : list ≡ list' = sym h.5 ∙ ap (λ (n : ℕ). runs_of body 0 n) (sym h.3 ∙ k.3) ∙ k.5 in
    let head = h.0 in
    let head' = k.0 in
    let owner = h.1 in
    let owner' = k.1 in
    cc
update_once d body tid back fileset inode alloc list (records.NoRedo _ _ _ _ _ _) h k = absurd (omega (arith, h.0.0, k.0.0))
update_once d body tid back fileset inode alloc list (records.Redo _ _ _ _ _ _ _ _) h k = absurd (omega (arith, h.0.0, k.0.0))
update_once d body tid back fileset inode alloc list (records.Commit _ _) h k = absurd (omega (arith, h.0.0, k.0.0))
update_once d body tid back fileset inode alloc list (records.SyncPt _) h k = absurd (omega (arith, h.0.0, k.0))

pub said_once : (d : Descriptor) (body : List ℕ) (r s : Record) → Says d body r → Says d body s → r ≡ s
said_once d body (records.Commit tid back) s h k = commit_once d body tid back s h k
said_once d body (records.SyncPt sync) s h k = point_once d body sync s h k
said_once d body (records.NoRedo tid back fileset inode kind at) s h k = no_redo_once d body tid back fileset inode kind at s h k
said_once d body (records.Redo tid back fileset inode kind new_page at ranges) s h k = redo_once d body tid back fileset inode kind new_page at ranges s h k
said_once d body (records.Update tid back fileset inode alloc list) s h k = update_once d body tid back fileset inode alloc list s h k

-- the last 36 bytes are the descriptor, so two readings cut the text at the same place
pub one_at_most : SpellsOneAtMost
one_at_most text r s h k =
    let cut = same_end h.body h.tail k.body k.tail (h.size ∙ sym k.size) (sym h.parts ∙ k.parts) in
    let P : List ℕ → Type 0 = λ body. Says (descriptor_of k.tail) body r in
    let Q : List ℕ → Type 0 = λ tail. Says (descriptor_of tail) h.body r in
    said_once (descriptor_of k.tail) k.body r s (subst P cut.0 (subst Q cut.1 h.says)) k.says
