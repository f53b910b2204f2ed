-- An entry that can be logged stays within its volume.
use Rattle.std.proofs.Common.{◌≡◌, ◌⊎◌, ◌≤◌, ◌<◌, ◌+◌, ◌-◌, ◌*◌, ◌&&◌, ◌||◌, ◌==◌, nat_le, nat_lt, ℕ, Bool, true, false, true≢false, if◌then◌else◌, List, [], ◌∷◌, length, refl, sym, ap, ◌∙◌, inl, inr, arith, mul_comm}
use Rattle.std.specs.List.{AllByRecursion}
use Rattle.std.proofs.lemmas.Bool.{cases_lt, or_cases, or_from, and_parts, eqb-true, ne_eqb, ltb-true}
use Rattle.jfs_bits.specs.Line.{line_size}
use Rattle.jfs_bits.specs.declared.rule.PageKind.{PageKind}
use Rattle.jfs_ranges.specs.declared.edit.Edit.{Edit}
use Rattle.jfs_ranges.specs.declared.edit.Edit.TheVariants.{Lines, NoRedo, Alloc, Free}
use Rattle.jfs_ranges.specs.Apply.{place_of_line, touches_edit, touches_tx}
use Rattle.jfs_entered.specs.marks.specs.imap.specs.Inodes.{Inodes}
use Rattle.jfs_entered.specs.marks.specs.records.specs.Redo.{is_noredo, closes_in}
use Rattle.jfs_entered.specs.marks.specs.records.specs.declared.note.Note.{Note}
use Rattle.jfs_entered.specs.marks.specs.records.specs.Records.{noted}
use Rattle.jfs_entered.specs.marks.specs.records.specs.Limits.{AreLines, IsLoggable}
use Rattle.jfs_entered.specs.marks.specs.objects.specs.Owners.{run_has}
use Rattle.jfs_entered.specs.marks.specs.steps.specs.After.{is_extent, place_in, four_from, takes}
use Rattle.jfs_entered.specs.marks.specs.declared.founded.Founded.{Founded}
use Rattle.jfs_entered.specs.marks.specs.declared.founded.NewExtent.{NewExtent}
use Rattle.jfs_entered.specs.marks.specs.declared.founded.Founded.TheVariants.{Nothing, One, Several}
use Rattle.jfs_entered.specs.marks.specs.Founded.{and_extent, founded_with, founded_in}
use Rattle.jfs_entered.specs.marks.specs.Changes.{tx_changes}
use Rattle.jfs_entered.specs.marks.specs.declared.marks.InodeMarks.{InodeMarks}
use Rattle.jfs_entered.specs.marks.proofs.Fitted.{IsFoundedAs, says}
use Rattle.jfs_entered.proofs.Extents.{are_short}
use Rattle.jfs_canonical_maps.specs.face.specs.Marks.{any_puts}
use Rattle.jfs_entries_within.specs.Within.{PartLaw, WithinLaw}

-- ---- pages

line_past : (blocks : ℕ) (kind : PageKind) (new_page : Bool) (page first : ℕ) (bytes : List ℕ) (p : ℕ) → AreLines blocks kind new_page page first bytes → blocks ≤ p → touches_edit p (Lines page kind first bytes) ≡ false
unfolding place_of_line
line_past blocks kind new_page page first bytes p lines past = by (touches_edit p (Lines page kind first bytes)) refl
  where
    by : (x : Bool) → (nat_lt (4096 * page + line_size kind * first) (4096 * p + 4096) && nat_lt (4096 * p - (4096 * page + line_size kind * first)) (length bytes)) ≡ x → x ≡ false
    by false e = refl
    by true e = absurd (
        let both = and_parts (nat_lt (4096 * page + line_size kind * first) (4096 * p + 4096)) (nat_lt (4096 * p - (4096 * page + line_size kind * first)) (length bytes)) e in
        let low = ltb-true (4096 * page + line_size kind * first) (4096 * p + 4096) both.0 in
        let high = ltb-true (4096 * p - (4096 * page + line_size kind * first)) (length bytes) both.1 in
        let size = mul_comm (line_size kind) first in
        let within = lines.within in
        let end = lines.high in
        let some = lines.some in
        omega (arith, low, high, size, within, end, some, past))

edit_past : (blocks : ℕ) (e : Edit) (n : Note) (p : ℕ) → IsLoggable blocks (record { edit = e; note = n }) → blocks ≤ p → (touches_edit p e ≡ false) × (is_noredo p e ≡ false)
edit_past blocks (Lines page kind first bytes) n p can past = (line_past blocks kind n.new_page page first bytes p can.edit past, refl)
edit_past blocks (NoRedo page) n p can past = (refl, ne_eqb page p (λ e. (let inside = can.edit.1 in omega (arith, inside, e, past))))
edit_past blocks (Alloc run) n p can past = (refl, refl)
edit_past blocks (Free run) n p can past = (refl, refl)

all_past : (blocks : ℕ) (tx : List Edit) (notes : List Note) (p : ℕ) → length tx ≡ length notes → AllByRecursion (IsLoggable blocks) (noted tx notes) → blocks ≤ p → (touches_tx p tx ≡ false) × (closes_in p tx ≡ false)
all_past blocks [] notes p each all past = (refl, refl)
all_past blocks (e ∷ es) [] p each all past = absurd (omega (arith, each))
all_past blocks (e ∷ es) (n ∷ notes) p each all past =
    let here = edit_past blocks e n p all.0 past in
    let rest = all_past blocks es notes p (omega (arith, each)) all.1 past in
    (or_from (touches_edit p e) (touches_tx p es) here.0 rest.0, or_from (is_noredo p e) (closes_in p es) here.1 rest.1)

pub part_law : PartLaw
part_law blocks tx notes p loggable past = all_past blocks tx notes p loggable.each loggable.all past

-- ---- blocks

in_run : (addr len b blocks : ℕ) → 0 < (if nat_le addr b && nat_lt b (addr + len) then 1 else 0) → addr + len ≤ blocks → b < blocks
in_run addr len b blocks some within = by (nat_le addr b && nat_lt b (addr + len)) refl some
  where
    by : (x : Bool) → (nat_le addr b && nat_lt b (addr + len)) ≡ x → 0 < (if x then 1 else 0) → b < blocks
    by true e some = let below = ltb-true b (addr + len) (and_parts (nat_le addr b) (nat_lt b (addr + len)) e).1 in omega (arith, below, within)
    by false e some = absurd (omega (arith, some))

-- which of two it is
one_of : (a b : ℕ) → 0 < a + b → (0 < a) ⊎ (0 < b)
one_of a b some = by (cases_lt 0 a)
  where
    by : (0 < a) ⊎ (a ≤ 0) → (0 < a) ⊎ (0 < b)
    by (inl l) = inl l
    by (inr none) = inr (omega (arith, some, none))

extent_part : (extent : Bool) (page b blocks : ℕ) → 0 < (if extent then run_has (four_from page) b else 0) → (extent ≡ true → page + 4 ≤ blocks) → b < blocks
extent_part true page b blocks some within = in_run page 4 b blocks some (within refl)
extent_part false page b blocks some within = absurd (omega (arith, some))

taken_within : (blocks : ℕ) (tx : List Edit) (notes : List Note) (b : ℕ) → length tx ≡ length notes → AllByRecursion (IsLoggable blocks) (noted tx notes) → 0 < takes tx b → b < blocks
taken_within blocks [] notes b each all some = absurd (omega (arith, some))
taken_within blocks (e ∷ es) [] b each all some = absurd (omega (arith, each))
taken_within blocks (Lines page kind first bytes ∷ es) (n ∷ notes) b each all some =
    at (one_of (if is_extent kind first bytes then run_has (four_from page) b else 0) (takes es b) some) (taken_within blocks es notes b (omega (arith, each)) all.1)
  where
    at : (0 < (if is_extent kind first bytes then run_has (four_from page) b else 0)) ⊎ (0 < takes es b) → (0 < takes es b → b < blocks) → b < blocks
    at (inl here) rest = extent_part (is_extent kind first bytes) page b blocks here (are_short blocks (Lines page kind first bytes ∷ []) (n ∷ []) refl (all.0, tt)).0.1
    at (inr later) rest = rest later
taken_within blocks (NoRedo page ∷ es) (n ∷ notes) b each all some = taken_within blocks es notes b (omega (arith, each)) all.1 some
taken_within blocks (Alloc run ∷ es) (n ∷ notes) b each all some = at (one_of (run_has run b) (takes es b) some) (taken_within blocks es notes b (omega (arith, each)) all.1)
  where
    at : (0 < run_has run b) ⊎ (0 < takes es b) → (0 < takes es b → b < blocks) → b < blocks
    at (inl here) rest = in_run run.addr run.len b blocks here all.0.edit.1
    at (inr later) rest = rest later
taken_within blocks (Free run ∷ es) (n ∷ notes) b each all some = taken_within blocks es notes b (omega (arith, each)) all.1 some

-- ---- places

several : (es : List Edit) → founded_with es Several ≡ Several
several [] = refl
several (Lines page kind first bytes ∷ es) = by (is_extent kind first bytes) (several es)
  where
    by : (x : Bool) → founded_with es Several ≡ Several → founded_with es (if x then and_extent (place_in bytes) page Several else Several) ≡ Several
    by true rest = rest
    by false rest = rest
several (NoRedo page ∷ es) = several es
several (Alloc run ∷ es) = several es
several (Free run ∷ es) = several es

same_extent : {a b : NewExtent} → One a ≡ One b → a ≡ b
same_extent h = cc (h)

abbrev new_extent : ℕ → ℕ → NewExtent
new_extent place first = record { place = place; first = first }

-- behind one extent comes no other
behind_one : (es : List Edit) (y x : NewExtent) (e : ℕ) → founded_with es (One y) ≡ One x → (y ≡ x) × (any_puts es e ≡ false)
behind_one [] y x e h = (same_extent h, refl)
behind_one (Lines page kind first bytes ∷ es) y x e h = by (is_extent kind first bytes) h (behind_one es y x e)
  where
    by : (b : Bool) → founded_with es (if b then and_extent (place_in bytes) page (One y) else One y) ≡ One x → (founded_with es (One y) ≡ One x → (y ≡ x) × (any_puts es e ≡ false)) → (y ≡ x) × (((b && place_in bytes == e) || any_puts es e) ≡ false)
    by false h rest = rest h
    by true h rest = absurd (let no = sym (several es) ∙ h in cc (no))
behind_one (NoRedo page ∷ es) y x e h = behind_one es y x e h
behind_one (Alloc run ∷ es) y x e h = behind_one es y x e h
behind_one (Free run ∷ es) y x e h = behind_one es y x e h

-- the one extent has the one place
one_place : (es : List Edit) (x : NewExtent) (e : ℕ) → founded_with es Nothing ≡ One x → any_puts es e ≡ true → x.place ≡ e
one_place [] x e h put = absurd (true≢false (sym put))
one_place (Lines page kind first bytes ∷ es) x e h put = by (is_extent kind first bytes) h put (one_place es x e)
  where
    by : (b : Bool) → founded_with es (if b then and_extent (place_in bytes) page Nothing else Nothing) ≡ One x → ((b && place_in bytes == e) || any_puts es e) ≡ true → (founded_with es Nothing ≡ One x → any_puts es e ≡ true → x.place ≡ e) → x.place ≡ e
    by false h put rest = rest h put
    by true h put rest =
        let one = behind_one es (new_extent (place_in bytes) page) x e h in
        at one (or_cases (place_in bytes == e) (any_puts es e) put)
      where
        at : (new_extent (place_in bytes) page ≡ x) × (any_puts es e ≡ false) → (place_in bytes == e ≡ true) ⊎ (any_puts es e ≡ true) → x.place ≡ e
        at one (inl here) = ap (λ (y : NewExtent). y.place) (sym one.0) ∙ eqb-true (place_in bytes) e here
        at one (inr later) = absurd (true≢false (sym later ∙ one.1))
one_place (NoRedo page ∷ es) x e h put = one_place es x e h put
one_place (Alloc run ∷ es) x e h put = one_place es x e h put
one_place (Free run ∷ es) x e h put = one_place es x e h put

-- without an extent there is no place
no_place : (es : List Edit) (e : ℕ) → founded_with es Nothing ≡ Nothing → any_puts es e ≡ true → ⊥
no_place [] e h put = true≢false (sym put)
no_place (Lines page kind first bytes ∷ es) e h put = by (is_extent kind first bytes) h put (no_place es e)
  where
    kept : (es : List Edit) (y : NewExtent) → founded_with es (One y) ≡ Nothing → ⊥
    kept [] y h = cc (h)
    kept (Lines page kind first bytes ∷ es) y h = one (is_extent kind first bytes) h (kept es y)
      where
        one : (b : Bool) → founded_with es (if b then and_extent (place_in bytes) page (One y) else One y) ≡ Nothing → (founded_with es (One y) ≡ Nothing → ⊥) → ⊥
        one false h rest = rest h
        one true h rest = let no = sym (several es) ∙ h in cc (no)
    kept (NoRedo page ∷ es) y h = kept es y h
    kept (Alloc run ∷ es) y h = kept es y h
    kept (Free run ∷ es) y h = kept es y h

    by : (b : Bool) → founded_with es (if b then and_extent (place_in bytes) page Nothing else Nothing) ≡ Nothing → ((b && place_in bytes == e) || any_puts es e) ≡ true → (founded_with es Nothing ≡ Nothing → any_puts es e ≡ true → ⊥) → ⊥
    by false h put rest = rest h put
    by true h put rest = kept es (new_extent (place_in bytes) page) h
no_place (NoRedo page ∷ es) e h put = no_place es e h put
no_place (Alloc run ∷ es) e h put = no_place es e h put
no_place (Free run ∷ es) e h put = no_place es e h put

placed : (inodes : Inodes) (tx : List Edit) (marks : InodeMarks) (e : ℕ) (f : Founded) → founded_with tx Nothing ≡ f → IsFoundedAs inodes f marks.extent → any_puts tx e ≡ true → e < length inodes.extents
placed inodes tx marks e Nothing is said put = absurd (no_place tx e is put)
placed inodes tx marks e (One x) is said put = let at = one_place tx x e is put in let low = said.1.0 in omega (arith, at, low)
placed inodes tx marks e Several is said put = absurd said

pub within_law : WithinLaw
within_law pl pages inodes tx notes ds marks size loggable are = record {
  blocks = λ b some. taken_within pl.blocks tx notes b loggable.each loggable.all some;
  places = λ e put.
      let f = founded_in tx in
      let c = tx_changes pl.blocks pages inodes f tx ds in
      let said = (says inodes are.0 f c.taken c.freed marks are.1 (sym are.2)).extent_is in
      let inside = placed inodes tx marks e f refl said put in
      omega (arith, inside, size);
}
