-- Pages of a list, by their places, and bytes of them.
use Rattle.std.proofs.Common.{◌≡◌, ◌<◌, ◌≤◌, inl, inr, sym, ap, ◌∙◌, ℕ, List, [], length, get_or, arith, Option, Some, None, Err}
use Rattle.std.specs.Prelude.{slice_get}
use Rattle.std.proofs.lemmas.List.{get_or-map, get_or_past, length-map}
use Rattle.std.proofs.lemmas.Option.{slice_get_cases}
use Rattle.jfs_disk.specs.declared.page.Page.{Page}
use Rattle.jfs_disk.specs.Image.{Image, page_of}
use Rattle.jfs_disk.specs.Pages.{contents}
use Rattle.jfs_reader.specs.objects.specs.Contents.{bytes_at}
use Rattle.jfs_reader.specs.meaning.specs.Contents.{byte_of}
use Rattle.jfs_reader.specs.Reading.{PageIs}
use Rattle.jfs_reader.specs.declared.error.ReadError.{ReadError}
use Rattle.jfs_reader.specs.declared.error.ReadError.TheVariants.{View, Outside}

abbrev bytes_in : Page → List ℕ
bytes_in p = p.0

pub size_at : (pages items : List Page) (i : ℕ) (d : Page) → items ≡ pages → i < length items → length (bytes_in (get_or items i d)) ≡ 4096 → length (page_of (contents pages) i) ≡ 4096
size_at pages items i d e l s = ap (λ (ps : List Page). length (page_of (contents ps) i)) (sym e) ∙ ap length (get_or-map bytes_in items i d [] l) ∙ s

not_none : (p : Page) → (let none : Option Page = None in Some p ≡ none) → ⊥
not_none p e = cc

-- a byte of a page that isn't there
pub byte_past : (image : Image) (n at : ℕ) → length image ≤ n → 0 ≡ get_or (page_of image n) at 0
byte_past image n at l = sym (ap (λ (bytes : List ℕ). get_or bytes at 0) (get_or_past image n [] l))

pub byte_none : (pages : List Page) (n at : ℕ) → (let none : Option Page = None in none ≡ slice_get pages n) → 0 ≡ get_or (page_of (contents pages) n) at 0
byte_none pages n at e = elim (slice_get_cases pages n).1 [
  | inl t ↦ absurd (not_none t.0 (sym (e ∙ t.2)))
  | inr t ↦ byte_past (contents pages) n at (let m = length-map pages bytes_in in let l = t.0 in omega (arith, m, l))
]

-- the byte of a block
pub byte_some : (image : Image) (block : Option ℕ) (n at : ℕ) → Some n ≡ block → get_or (page_of image n) at 0 ≡ byte_of (bytes_at (page_of image) block) at
byte_some image block n at e = ap (λ (b : Option ℕ). byte_of (bytes_at (page_of image) b) at) e

pub byte_hole : (image : Image) (block : Option ℕ) (at : ℕ) → (let none : Option ℕ = None in none ≡ block) → 0 ≡ byte_of (bytes_at (page_of image) block) at
byte_hole image block at e = ap (λ (b : Option ℕ). byte_of (bytes_at (page_of image) b) at) e

pub byte_outside : (image : Image) (block : Option ℕ) (at : ℕ) (e : ReadError) → PageIs (length image) block (Err e) → 0 ≡ byte_of (bytes_at (page_of image) block) at
byte_outside image block at (View e) is = absurd is
byte_outside image None at Outside is = absurd is
byte_outside image (Some n) at Outside is = byte_past image n at is
