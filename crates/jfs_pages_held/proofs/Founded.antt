-- What a transaction makes of the descriptors of inode extents.
use Rattle.std.proofs.Common.{◌≡◌, ◌⊎◌, ◌&&◌, ◌||◌, ◌==◌, refl, sym, ap, ◌∙◌, ℕ, Bool, true, false, true≢false, if◌then◌else◌, List, [], ◌∷◌, inl, inr}
use Rattle.std.proofs.lemmas.Bool.{or_left, eq-eqb}
use Rattle.jfs_ranges.specs.declared.edit.Edit.{Edit}
use Rattle.jfs_ranges.specs.declared.edit.Edit.TheVariants.{Lines, NoRedo, Alloc, Free}
use Rattle.jfs_joined_held.specs.held.specs.survival.specs.face.specs.Items.{set_by}
use Rattle.jfs_joined_held.specs.held.specs.survival.specs.face.specs.Marks.{any_puts}
use Rattle.jfs_joined_held.specs.held.specs.survival.specs.recovery.specs.Face.{Value}
use Rattle.jfs_joined_held.specs.held.specs.survival.specs.recovery.specs.Face.Item.{ExtentPlace}
use Rattle.jfs_joined_held.specs.held.specs.survival.specs.recovery.specs.Face.Value.{At}
use Rattle.jfs_joined_held.specs.entered.specs.marks.specs.Founded.{and_extent, founded_with, founded_in}
use Rattle.jfs_joined_held.specs.entered.specs.marks.specs.declared.founded.Founded.{Founded}
use Rattle.jfs_joined_held.specs.entered.specs.marks.specs.declared.founded.NewExtent.{NewExtent}
use Rattle.jfs_joined_held.specs.entered.specs.marks.specs.declared.founded.Founded.TheVariants.{Nothing, One, Several}
use Rattle.jfs_joined_held.specs.entered.specs.marks.specs.steps.specs.After.{is_extent, place_in, four_from}

-- more edits after several leave several
several : (es : List Edit) → founded_with es Several ≡ Several
several [] = refl
several (Lines page kind first bytes ∷ es) = by (is_extent kind first bytes) (several es)
  where
    by : (x : Bool) → founded_with es Several ≡ Several → founded_with es (if x then and_extent (place_in bytes) page Several else Several) ≡ Several
    by true rest = rest
    by false rest = rest
several (NoRedo page ∷ es) = several es
several (Alloc run ∷ es) = several es
several (Free run ∷ es) = several es

-- ---- no extent

-- nothing was founded before, and no edit puts an extent
pub record PutsNone (es : List Edit) (f : Founded) : Type 0 where
  pub before : f ≡ Nothing
  pub leaves : (e : ℕ) (x : Value) → set_by es (ExtentPlace e) x ≡ x
  pub puts_none : (e : ℕ) → any_puts es e ≡ false

-- what lines in front add, where they are of a new extent or not
abbrev with_lines : Bool → ℕ → ℕ → Founded → Founded
with_lines b place page f = if b then and_extent place page f else f

abbrev set_first : List Edit → Bool → ℕ → ℕ → ℕ → Value → Value
set_first es b place page e x = set_by es (ExtentPlace e) (if b && place == e then At (four_from page) else x)

abbrev puts_first : List Edit → Bool → ℕ → ℕ → Bool
puts_first es b place e = (b && place == e) || any_puts es e

record FirstNone (es : List Edit) (b : Bool) (place page : ℕ) (f : Founded) : Type 0 where
  before : f ≡ Nothing
  leaves : (e : ℕ) (x : Value) → set_first es b place page e x ≡ x
  puts_none : (e : ℕ) → puts_first es b place e ≡ false

first_none : (es : List Edit) (b : Bool) (place page : ℕ) (f : Founded) → founded_with es (with_lines b place page f) ≡ Nothing → ((g : Founded) → founded_with es g ≡ Nothing → PutsNone es g) → FirstNone es b place page f
first_none es false place page f h rest = let r = rest f h in record { before = r.before; leaves = r.leaves; puts_none = r.puts_none }
first_none es true place page Nothing h rest = let g = (rest (One (record { place = place; first = page })) h).before in absurd (cc (g))
first_none es true place page (One y) h rest = let g = sym (several es) ∙ h in absurd (cc (g))
first_none es true place page Several h rest = let g = sym (several es) ∙ h in absurd (cc (g))

pub none_put : (es : List Edit) (f : Founded) → founded_with es f ≡ Nothing → PutsNone es f
none_put [] f h = record { before = h; leaves = λ e x. refl; puts_none = λ e. refl }
none_put (Lines page kind first bytes ∷ es) f h =
    let r = first_none es (is_extent kind first bytes) (place_in bytes) page f h (none_put es) in
    record { before = r.before; leaves = r.leaves; puts_none = r.puts_none }
none_put (NoRedo page ∷ es) f h = let r = none_put es f h in record { before = r.before; leaves = r.leaves; puts_none = r.puts_none }
none_put (Alloc run ∷ es) f h = let r = none_put es f h in record { before = r.before; leaves = r.leaves; puts_none = r.puts_none }
none_put (Free run ∷ es) f h = let r = none_put es f h in record { before = r.before; leaves = r.leaves; puts_none = r.puts_none }

-- ---- one extent

abbrev pub placed : NewExtent → ℕ → Value → Value
placed y e x = if y.place == e then At (four_from y.first) else x

-- the edits put it, and no other
pub record PutsOne (es : List Edit) (y : NewExtent) : Type 0 where
  pub sets : (e : ℕ) (x : Value) → set_by es (ExtentPlace e) x ≡ placed y e x
  pub puts_it : any_puts es y.place ≡ true

abbrev Leaves : List Edit → Type 0
Leaves es = (e : ℕ) (x : Value) → set_by es (ExtentPlace e) x ≡ x

abbrev OnePut : List Edit → Founded → NewExtent → Type 0
OnePut es f y = ((f ≡ Nothing) × PutsOne es y) ⊎ ((f ≡ One y) × Leaves es)

-- edits that add none
passed : (e : Edit) (es : List Edit) (f : Founded) (y : NewExtent) → ((i : ℕ) (x : Value) → set_by (e ∷ es) (ExtentPlace i) x ≡ set_by es (ExtentPlace i) x) → ((i : ℕ) → any_puts (e ∷ es) i ≡ any_puts es i) → OnePut es f y → OnePut (e ∷ es) f y
passed e es f y same none (inl h) = inl (h.0, record { sets = λ i x. same i x ∙ h.1.sets i x; puts_it = none y.place ∙ h.1.puts_it })
passed e es f y same none (inr h) = inr (h.0, λ i x. same i x ∙ h.1 i x)

abbrev FirstOne : List Edit → Bool → ℕ → ℕ → Founded → NewExtent → Type 0
FirstOne es b place page f y = ((f ≡ Nothing) × ((e : ℕ) (x : Value) → set_first es b place page e x ≡ placed y e x) × (puts_first es b place y.place ≡ true)) ⊎ ((f ≡ One y) × ((e : ℕ) (x : Value) → set_first es b place page e x ≡ x))

first_one : (es : List Edit) (b : Bool) (place page : ℕ) (f : Founded) (y : NewExtent) → founded_with es (with_lines b place page f) ≡ One y → ((g : Founded) → founded_with es g ≡ One y → OnePut es g y) → FirstOne es b place page f y
first_one es false place page f y h rest = by (rest f h)
  where
    by : OnePut es f y → FirstOne es false place page f y
    by (inl p) = inl (p.0, p.1.sets, p.1.puts_it)
    by (inr p) = inr p
first_one es true place page Nothing y h rest = by (rest (One new) h)
  where
    new : NewExtent
    new = record { place = place; first = page }

    by : OnePut es (One new) y → FirstOne es true place page Nothing y
    by (inl p) = let g = p.0 in absurd (cc (g))
    by (inr p) = let same : new ≡ y = (let g = p.0 in cc (g)) in
        inl (refl, (λ e x. p.1 e (placed new e x) ∙ ap (λ (z : NewExtent). placed z e x) same), or_left (place == y.place) (any_puts es y.place) (eq-eqb place y.place (ap (λ (z : NewExtent). z.place) same)))
first_one es true place page (One z) y h rest = let g = sym (several es) ∙ h in absurd (cc (g))
first_one es true place page Several y h rest = let g = sym (several es) ∙ h in absurd (cc (g))

one_put : (es : List Edit) (f : Founded) (y : NewExtent) → founded_with es f ≡ One y → OnePut es f y
one_put [] f y h = inr (h, λ e x. refl)
one_put (Lines page kind first bytes ∷ es) f y h = by (first_one es (is_extent kind first bytes) (place_in bytes) page f y h (λ g. one_put es g y))
  where
    by : FirstOne es (is_extent kind first bytes) (place_in bytes) page f y → OnePut (Lines page kind first bytes ∷ es) f y
    by (inl p) = inl (p.0, record { sets = p.1; puts_it = p.2 })
    by (inr p) = inr p
one_put (NoRedo page ∷ es) f y h = passed (NoRedo page) es f y (λ i x. refl) (λ i. refl) (one_put es f y h)
one_put (Alloc run ∷ es) f y h = passed (Alloc run) es f y (λ i x. refl) (λ i. refl) (one_put es f y h)
one_put (Free run ∷ es) f y h = passed (Free run) es f y (λ i x. refl) (λ i. refl) (one_put es f y h)

pub puts_one : (tx : List Edit) (y : NewExtent) → founded_in tx ≡ One y → PutsOne tx y
puts_one tx y h = by (one_put tx Nothing y h)
  where
    by : OnePut tx Nothing y → PutsOne tx y
    by (inl p) = p.1
    by (inr p) = let g = p.0 in absurd (cc (g))
